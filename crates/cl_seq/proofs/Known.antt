-- Two sequences of one kind are refused one behind the other only where they are beyond the limits, and so are a list with one more entry and a sequence with one
-- entry replaced.
use Rattle.std.proofs.Common.{◌≡◌, ◌≢◌, ◌++◌, ℕ, option_map, Bool, true, false, [], ◌∷◌, Err, if◌then◌else◌}
use Rattle.cl_types.specs.declared.fault.Fault.TheVariants.{Refused}
use Rattle.cl_values.specs.declared.no_value.NoValue.{NoValue}
use Rattle.cl_values.specs.declared.no_value.NoValue.TheVariants.{Arith, Panic, Undefined as NotDefined}
use Rattle.cl_arith.specs.declared.ArithRefusal.{ArithRefusal}
use Rattle.cl_values.specs.Tree.{Tree, items_of, ListV, UintV, BuffV, AsciiV, Utf8V}
use Rattle.cl_values.specs.Computed.{Computed, Gives, Fails, Panics, Undefined, kept, is_within}
use Rattle.cl_values.specs.Applied.{Applied}
use Rattle.cl_values.specs.Sequences.{append, concat, values_of, optional}
use Rattle.cl_values.specs.Contents.{replace_at, with_entry, with_single}

-- refused only as undefined
abbrev IsPlain : Computed → Type 0
IsPlain c = (why : NoValue) → Applied c (Err (Refused why)) → kept c ≢ Undefined → ⊥

never_panics : (b : Bool) (t : Tree) → (if b then Gives t else Undefined) ≡ Panics → ⊥
never_panics true t h = absurd cc
never_panics false t h = absurd cc

never_fails : (b : Bool) (t : Tree) (why : ArithRefusal) → (if b then Gives t else Undefined) ≡ Fails why → ⊥
never_fails true t why h = absurd cc
never_fails false t why h = absurd cc

gives_plain : (t : Tree) → IsPlain (Gives t)
gives_plain t NotDefined h n = n h
gives_plain t Panic h n = never_panics (is_within t) t h
gives_plain t (Arith why) h n = never_fails (is_within t) t why h

undefined_plain : IsPlain Undefined
undefined_plain NotDefined h n = n h
undefined_plain Panic h n = absurd cc
undefined_plain (Arith why) h n = absurd cc

pub concat_refused : (v w : Tree) → IsPlain (concat (v ∷ w ∷ []))
concat_refused (ListV vs) (ListV ws) = gives_plain (ListV (items_of (values_of vs ++ values_of ws)))
concat_refused (BuffV xs) (BuffV ys) = gives_plain (BuffV (xs ++ ys))
concat_refused (AsciiV xs) (AsciiV ys) = gives_plain (AsciiV (xs ++ ys))
concat_refused (Utf8V xs) (Utf8V ys) = gives_plain (Utf8V (xs ++ ys))
concat_refused v w = undefined_plain

pub append_refused : (v w : Tree) → IsPlain (append (v ∷ w ∷ []))
append_refused (ListV vs) w = gives_plain (ListV (items_of (values_of vs ++ w ∷ [])))
append_refused v w = undefined_plain

pub replacing_refused : (v w : Tree) (n : ℕ) → IsPlain (replace_at (v ∷ UintV n ∷ w ∷ []))
replacing_refused (ListV vs) w n = gives_plain (optional (option_map (λ ws. ListV (items_of ws)) (with_entry n w (values_of vs))))
replacing_refused (BuffV xs) (BuffV ys) n = gives_plain (optional (option_map BuffV (with_single n ys xs)))
replacing_refused (AsciiV xs) (AsciiV ys) n = gives_plain (optional (option_map AsciiV (with_single n ys xs)))
replacing_refused (Utf8V xs) (Utf8V ys) n = gives_plain (optional (option_map Utf8V (with_single n ys xs)))
replacing_refused v w n = undefined_plain

within_gives : (b : Bool) (t v : Tree) → (if b then Gives t else Undefined) ≡ Gives v → Gives t ≡ Gives v
within_gives true t v h = h
within_gives false t v h = absurd cc

-- what is kept of a value is the value
pub gave : (c : Computed) (v : Tree) → kept c ≡ Gives v → c ≡ Gives v
gave (Gives t) v h = within_gives (is_within t) t v h
gave (Fails why) v h = h
gave Panics v h = h
gave Undefined v h = h
