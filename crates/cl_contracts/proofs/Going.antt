-- Each tree of a contract can stand in a text of its version.
use Rattle.std.proofs.Common.{◌≡◌, ℕ, zero, suc, Bool, true, List, [], ◌∷◌, Option, Some, None, refl, sym, ap, subst, ◌∙◌, slice_get}
use Rattle.std.specs.Prelude.{◌&&◌, option_and_then, option_copied, IfSome}
use Rattle.std.specs.List.{list_all}
use Rattle.std.specs.Borrow.{Bor}
use Rattle.std.proofs.lemmas.Bool.{and_parts}
use Rattle.cl_forms.specs.declared.version.Version.{Version}
use Rattle.cl_code.specs.declared.definition.Function.{Function as TypedFunction}
use Rattle.cl_code.specs.declared.definition.Definition.{Definition}
use Rattle.cl_code.specs.declared.definition.Definition.TheVariants.{Constant, Variable, MapOf, Fungible, NonFungible, Function, TopLevel}
use Rattle.cl_code.specs.Typed.{goes_by}
use Rattle.cl_rules.specs.Context.{named_in}
use Rattle.cl_contracts.specs.declared.parts.Parts.{Parts as Checked}
use Rattle.cl_contracts.specs.Seen.{IsIndexed, as_function, definition_under, function_under, goes}

-- each definition of a contract whose trees all can
pub goes_at : (v : Version) (ds : List Definition) (n : ℕ) (d : Definition) → list_all (goes v) ds ≡ true → slice_get ds n ≡ Some d → goes v d ≡ true
goes_at v [] n d h e = absurd cc
goes_at v (c ∷ ds) zero d h e = let same : c ≡ d = cc in ap (goes v) (sym same) ∙ (and_parts (goes v c) (list_all (goes v) ds) h).0
goes_at v (c ∷ ds) (suc n) d h e = goes_at v ds n d (and_parts (goes v c) (list_all (goes v) ds) h).1 e

body_goes : (v : Version) (d : Definition) (f : TypedFunction) → as_function d ≡ Some f → goes v d ≡ true → goes_by v f.body ≡ true
body_goes v (Constant c) f e h = absurd cc
body_goes v (Variable c) f e h = absurd cc
body_goes v (MapOf c) f e h = absurd cc
body_goes v (Fungible c) f e h = absurd cc
body_goes v (NonFungible c) f e h = absurd cc
body_goes v (Function g) f e h = let same : g ≡ f = cc in ap (λ (k : TypedFunction). goes_by v k.body) (sym same) ∙ (and_parts (goes_by v g.body) true h).0
body_goes v (TopLevel c) f e h = absurd cc

-- the body of a contract's function can stand in a text of its version
pub function_goes : (x : List ℕ) (c : Checked) (f : TypedFunction) → IsIndexed c → function_under x c ≡ Some f → goes_by c.version f.body ≡ true
function_goes x c f ok h = under (named_in x c.places.entries) h
  where
    found : (o : Option Definition) (n : ℕ) → slice_get c.definitions.items n ≡ o → option_and_then as_function o ≡ Some f → goes_by c.version f.body ≡ true
    found None n e k = absurd cc
    found (Some d) n e k = body_goes c.version d f k (goes_at c.version c.definitions.items n d ok.goes e)

    under : (o : Option ℕ) → option_and_then as_function (option_and_then (slice_get c.definitions.items) o) ≡ Some f → goes_by c.version f.body ≡ true
    under None k = absurd cc
    under (Some n) k = found (slice_get c.definitions.items n) n refl k

pub lent_goes : (x : List ℕ) (c : Checked) (o : Option (Bor TypedFunction)) → IsIndexed c → option_copied o ≡ function_under x c → IfSome o (λ f. goes_by c.version f.now.body ≡ true)
lent_goes x c None ok h = tt
lent_goes x c (Some f) ok h = function_goes x c f.now ok (sym h)
