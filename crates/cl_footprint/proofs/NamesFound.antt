-- A function is found under a name of the language alone.
use Rattle.std.proofs.Common.{◌≡◌, ℕ, Bool, true, false, List, [], ◌∷◌, map, Option, Some, refl, subst}
use Rattle.std.specs.Prelude.{if◌then◌else◌, option_and_then}
use Rattle.std.specs.List.{AllByRecursion}
use Rattle.std.proofs.lemmas.Slice.Eq.{bytes_eq-Decides}
use Rattle.cl_types.specs.Name.{IsName}
use Rattle.cl_forms.specs.Forms.{FormKind}
use Rattle.cl_code.specs.declared.definition.Definition.{Definition}
use Rattle.cl_code.specs.declared.definition.Definition.TheVariants.{Constant, Variable, MapOf, Fungible, NonFungible, Function, TopLevel}
use Rattle.cl_code.specs.Definitions.{form_defined}
use Rattle.cl_meaning.specs.Deployed.{Function as FunctionSeen, has_name, form_of, as_function, function_in}
use Rattle.cl_footprint.specs.Named.{IsNamed}

abbrev Found : List ℕ → Option FormKind → FunctionSeen → Type 0
Found x o f = option_and_then (as_function x) o ≡ Some f

pub name_found : (x : List ℕ) (f : FunctionSeen) (ds : List Definition) → AllByRecursion IsNamed ds → function_in x (map form_defined ds) ≡ Some f → IsName x
name_found x f [] all h = absurd cc
name_found x f (d ∷ ds) all h = by d all.0 (has_name x (form_defined d).name) refl h (name_found x f ds all.1)
  where
    by : (d : Definition) → IsNamed d → (b : Bool) → has_name x (form_defined d).name ≡ b → Found x (if b then Some (form_defined d).kind else form_of x (map form_defined ds)) f → (Found x (form_of x (map form_defined ds)) f → IsName x) → IsName x
    by d named false e h more = more h
    by (Function g) named true e h more = subst IsName ((bytes_eq-Decides g.name x).0 e) named
    by (Constant c) named true e h more = absurd cc
    by (Variable v) named true e h more = absurd cc
    by (MapOf m) named true e h more = absurd cc
    by (Fungible t) named true e h more = absurd cc
    by (NonFungible t) named true e h more = absurd cc
    by (TopLevel t) named true e h more = absurd cc
