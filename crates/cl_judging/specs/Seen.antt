-- The context of the definitions that the code's context stands for, but for the bounds of functions.
use Rattle.std.specs.Prelude.{◌≡◌, ℕ, ◌||◌, Bool, false, List, [], ◌∷◌, map, is_some}
use Rattle.std.specs.List.{list_any}
use Rattle.cl_forms.specs.Names.{is_one_of}
use Rattle.cl_forms.specs.Heads.{native, is_reserved, define_words}
use Rattle.cl_types.specs.Types.{NoType}
use Rattle.cl_rules.specs.Context.{Signature, Context, Names, same, is_named, bind}
pub use Rattle.cl_contracts.specs.Known.{Shown, seen}
use Rattle.cl_contracts.specs.Standings.{Knows}
use Rattle.cl_judging.specs.declared.context.Signature.{Signature as CodeSignature}
use Rattle.cl_judging.specs.declared.context.Context.{Context as CodeContext}

abbrev pub seen_under : Signature → List ℕ × Shown
seen_under f = (f.name, seen f)

abbrev pub shown : CodeSignature → Shown
shown f = record { access = f.access; params = f.params.items; returns = f.returns; height = f.height }

abbrev pub shown_entry : List ℕ × CodeSignature → List ℕ × Shown
shown_entry e = (e.0, shown e.1)

-- the same version, definitions and contracts, whatever the bounds of functions
pub record Shows (c : CodeContext) (G : Context) : Type 0 where
  pub principal : G.principal ≡ c.principal
  pub version : G.version ≡ c.version
  pub deployed : Knows c.deployed.now G.deployed
  pub constants : G.constants ≡ c.constants.entries
  pub variables : G.variables ≡ c.variables.entries
  pub maps : G.maps ≡ c.maps.entries
  pub fungibles : G.fungibles ≡ c.fungibles.keys
  pub nonfungibles : G.nonfungibles ≡ c.nonfungibles.entries
  pub functions : map seen_under G.functions ≡ map shown_entry c.functions.entries

-- a name that stands for no value
abbrev pub no_value_in : CodeContext → List ℕ → Bool
no_value_in c x =
    is_some (native c.version x) || is_named x c.functions.entries || is_named x c.variables.entries || is_named x c.maps.entries
    || list_any (same x) c.fungibles.keys || is_named x c.nonfungibles.entries || is_one_of define_words x

-- a name of a form before
abbrev pub top_level_in : CodeContext → List ℕ → Bool
top_level_in c x =
    is_named x c.constants.entries || is_named x c.variables.entries || is_named x c.maps.entries || list_any (same x) c.fungibles.keys
    || is_named x c.nonfungibles.entries || is_named x c.functions.entries

-- a name that no binding may have
abbrev pub taken_in : CodeContext → Names → List ℕ → Bool
taken_in c B x = is_reserved c.version x || top_level_in c x || is_named x B

-- whether a name is taken, also by those before it
abbrev pub shadowed_in : CodeContext → Names → List (List ℕ) → Bool
shadowed_in c B [] = false
shadowed_in c B (x ∷ xs) = taken_in c B x || shadowed_in c (bind x NoType B) xs
