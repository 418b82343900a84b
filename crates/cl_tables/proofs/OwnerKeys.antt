-- What keys spell is read back: values, and the principals of holders.
use Rattle.std.proofs.Common.{◌≡◌, ℕ, List, Option, Some, None, refl, sym, ap, subst, ◌∙◌}
use Rattle.std.specs.Prelude.{T, Result, Ok, Err, is_ok}
use Rattle.cl_types.specs.Fault.{IfRefused}
use Rattle.cl_types.specs.declared.fault.Fault.{Fault}
use Rattle.cl_types.specs.declared.fault.Fault.TheVariants.{Refused}
use Rattle.cl_c32.specs.declared.principal.Principal.{Principal}
use Rattle.cl_values.specs.declared.fault.DecodeRefusal.{DecodeRefusal}
use Rattle.cl_values.specs.declared.value.Kind.{Kind}
use Rattle.cl_values.specs.declared.value.Kind.TheVariants.{Int, Uint, Bool, Buff, Ascii, Utf8, Principal as PrincipalK, List as ListK, Tuple, Optional, Response}
use Rattle.cl_values.specs.View.{tree_of}
use Rattle.cl_values.specs.Tree.{Tree, PrincipalV, NoneV}
use Rattle.cl_values.specs.Wire.{wire}
use Rattle.cl_values.specs.Reading.{decoded}
use Rattle.cl_values.specs.Valid.{IsVal}
use Rattle.cl_values.proofs.Parts.{principal_is_val}
use Rattle.std.proofs.lemmas.Option.{none-some}
use Rattle.cl_maps.specs.Maps.{Map, get}
use Rattle.cl_tokens.specs.Owners.{Owners}
use Rattle.cl_tables.specs.Amounts.{owner_in}
use Rattle.cl_tables.specs.Spelled.{IsHolder, Each, AreOwned}
use Rattle.cl_tables.specs.RowParts.{IsSpelling}

abbrev pub holder_spells : (key : List ℕ) → IsHolder key → IsSpelling key
holder_spells key h = (PrincipalV h.0, principal_is_val h.0 h.1, h.2)

-- wire forms are read back
abbrev pub ReadsBack : Type 0
ReadsBack = (v : Tree) → IsVal v → decoded (wire v) ≡ Ok v

pub spelling_read : ReadsBack → (bytes : List ℕ) (h : IsSpelling bytes) → decoded bytes ≡ Ok h.0
spelling_read read bytes h = ap decoded h.2 ∙ read h.0 h.1

abbrev tree_or_none : Result Tree DecodeRefusal → Tree
tree_or_none (Ok v) = v
tree_or_none (Err fault) = NoneV

-- what is read is what is spelled
pub value_read : ReadsBack → (bytes : List ℕ) (v : Tree) (h : IsSpelling bytes) → decoded bytes ≡ Ok v → v ≡ h.0
value_read read bytes v h found = ap tree_or_none (sym found ∙ spelling_read read bytes h)

pub never_refused : ReadsBack → (bytes : List ℕ) (r : Result Tree (Fault DecodeRefusal)) (f : Fault DecodeRefusal) (x : DecodeRefusal) → IsSpelling bytes → r ≡ Err f → f ≡ Refused x
    → IfRefused r (λ fault. decoded bytes ≡ Err fault) → ⊥
never_refused read bytes r f x h is what given =
    let broken : decoded bytes ≡ Err x = subst (λ (y : Result Tree (Fault DecodeRefusal)). IfRefused y (λ fault. decoded bytes ≡ Err fault)) (is ∙ ap Err what) given in
    subst (λ (y : Result Tree DecodeRefusal). T (is_ok y)) (sym (spelling_read read bytes h) ∙ broken) tt

-- no other kind of value is a principal
pub other_kind : (k : Kind) (p : Principal) → tree_of k ≡ PrincipalV p → ((q : Principal) → k ≡ PrincipalK q → ⊥) → ⊥
other_kind (PrincipalK q) p is other = other q refl
other_kind (Int z) p is other = cc
other_kind (Uint n) p is other = cc
other_kind (Bool b) p is other = cc
other_kind (Buff bytes) p is other = cc
other_kind (Ascii bytes) p is other = cc
other_kind (Utf8 characters) p is other = cc
other_kind (ListK values) p is other = cc
other_kind (Tuple entries) p is other = cc
other_kind (Optional None) p is other = cc
other_kind (Optional (Some inner)) p is other = cc
other_kind (Response good inner) p is other = cc

-- whoever owns an asset of a token is a principal
pub owner_is_holder : (tokens : Map Owners) (key id owner : List ℕ) (o : Option Owners) → Each (λ k m. AreOwned m) tokens → o ≡ get key tokens → Some owner ≡ owner_in id o → IsHolder owner
owner_is_holder tokens key id owner None all is found = absurd (none-some owner (sym found))
owner_is_holder tokens key id owner (Some m) all is found = (all key m (sym is) id owner (sym found)).1
