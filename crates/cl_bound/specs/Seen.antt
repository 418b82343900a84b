-- The context of the definitions that prices stand for, so far as bounds rest on it.
use Rattle.std.specs.Prelude.{◌≡◌, ℕ, List, [], ◌∷◌, Option, Some, None, option_map, if◌then◌else◌}
use Rattle.cl_costs.specs.Tables.{function_of}
use Rattle.cl_c32.specs.declared.principal.Principal.{Principal}
use Rattle.cl_shapes.specs.Costs.{first_above}
use Rattle.cl_forms.specs.Forms.{Form}
use Rattle.cl_rules.specs.FormRules.{Defined}
use Rattle.cl_rules.specs.Acceptance.{most_cost, bound_of}
use Rattle.cl_rules.specs.Bills.{Bill, cost_under}
use Rattle.cl_rules.specs.Context.{CostTable, Signature, Known, Context, named_in, signature_in, same_principal, known_at}
use Rattle.cl_sums.specs.Sums.{told}
use Rattle.cl_bound.specs.declared.prices.Application.{Application}
use Rattle.cl_bound.specs.declared.prices.Prices.{Prices}
use Rattle.cl_bound.specs.declared.known.ContractBounds.{ContractBounds}

-- an application of a function, with its bound under a table
abbrev pub application_of : CostTable → Signature → Application
application_of table f = record { access = f.access; bound = told (cost_under table f.bound) }

-- under each name stands the first function of that name
abbrev pub ShowFunctions : CostTable → List Signature → List (List ℕ × Application) → Type 0
ShowFunctions table fs entries = (x : List ℕ) → named_in x entries ≡ option_map (application_of table) (signature_in x fs)

-- the contract under a principal
abbrev pub known_under : Principal → List (Principal × ContractBounds) → Option ContractBounds
known_under p [] = None
known_under p (e ∷ es) = if same_principal e.0 p then Some e.1 else known_under p es

-- a contract with the length of its text and its functions, or none
abbrev pub ShowsKnown : CostTable → Option Known → Option ContractBounds → Type 0
ShowsKnown table None None = Unit {0}
ShowsKnown table (Some k) (Some e) = (k.length ≡ e.length) × ShowFunctions table k.functions e.functions.entries
ShowsKnown table k e = ⊥

-- the deployed contracts, by their principals
abbrev pub ShowDeployed : CostTable → List Known → List (Principal × ContractBounds) → Type 0
ShowDeployed table ks entries = (p : Principal) → ShowsKnown table (known_at p ks) (known_under p entries)

-- the same contract, with the same functions and deployed contracts, and their bounds under the table of the prices
pub record ShowsPrices (c : Prices) (G : Context) : Type 0 where
  pub principal : c.principal ≡ G.principal
  pub functions : ShowFunctions (function_of c.costs) G.functions c.functions.entries
  pub deployed : ShowDeployed (function_of c.costs) G.deployed c.deployed.now.contracts.entries

-- the bound of a form that is a function isn't above the limit
abbrev pub IsWithin : Defined → Form → CostTable → Type 0
IsWithin D form table = (bound : Bill) → bound_of D form ≡ Some bound → first_above most_cost (cost_under table bound) ≡ None
