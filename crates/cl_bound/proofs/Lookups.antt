-- What stands under a name, and under a principal.
use Rattle.std.proofs.Common.{◌≡◌, ℕ, Bool, true, false, cond, rules, List, [], ◌∷◌, Option, Some, None, refl, ap, sym, subst, ◌∙◌}
use Rattle.std.specs.Prelude.{nat_eq, option_map}
use Rattle.std.specs.Map.{lookup}
use Rattle.std.specs.Cmp.Lexicographic.{pointwise}
use Rattle.cl_types.specs.declared.sized.Access.{Access}
use Rattle.cl_types.specs.declared.sized.Access.TheVariants.{Public, ReadOnly, Private}
use Rattle.cl_c32.specs.declared.principal.Principal.{Principal}
use Rattle.cl_c32.specs.contracts.principal.PrincipalPartialEq.TheImpl.{eq-value}
use Rattle.cl_shapes.specs.declared.cost.Cost5.{Cost5}
use Rattle.cl_shapes.specs.declared.name.CostName.TheVariants.{ContractCall as ContractCallCost}
use Rattle.cl_shapes.specs.Costs.{plus, zero_cost}
use Rattle.cl_costs.specs.Tables.{function_of}
use Rattle.cl_rules.specs.Bills.{Charge, cost_under}
use Rattle.cl_rules.specs.Context.{CostTable, Context, Signature, Known, target_at, known_at, same_principal, signature_in, if_callable}
use Rattle.cl_rules.specs.Shapes.{there_or_not}
use Rattle.cl_contracts.proofs.Places.{under_name}
use Rattle.cl_contracts.proofs.Principals.{same_principal_turned}
use Rattle.cl_sums.specs.declared.sum.Sum.{Sum}
use Rattle.cl_bound.specs.declared.prices.Application.{Application}
use Rattle.cl_bound.specs.declared.prices.Prices.{Prices}
use Rattle.cl_bound.specs.declared.known.ContractBounds.{ContractBounds}
use Rattle.cl_sums.specs.Sums.{told}
use Rattle.cl_bound.specs.Seen.{ShowsPrices, ShowFunctions, ShowsKnown, application_of, known_under}
use Rattle.cl_bound.specs.Own.{applied, called_at}

-- ---- functions of the contract

module _ (c : Prices) (x : List ℕ) (G : Context) (shows : ShowsPrices c G) where
  pub found : (o : Option Application) → o ≡ lookup (pointwise nat_eq x) c.functions.entries → o ≡ option_map (application_of (function_of c.costs)) (signature_in x G.functions)
  found o h = h ∙ under_name x c.functions.entries ∙ shows.functions x

  applied_by : (a : Application) (f : Option Signature) → Some a ≡ option_map (application_of (function_of c.costs)) f → a.bound ≡ told (cost_under (function_of c.costs) (applied f))
  applied_by a None h = absurd cc
  applied_by a (Some f) h =
      let same : a ≡ application_of (function_of c.costs) f = cc in
      ap (λ (b : Application). b.bound) same

  none_by : (f : Option Signature) → None ≡ option_map (application_of (function_of c.costs)) f → told zero_cost ≡ told (cost_under (function_of c.costs) (applied f))
  none_by None h = refl
  none_by (Some f) h = absurd cc

pub applied_is : (c : Prices) (x : List ℕ) (a : Application) (G : Context) → Some a ≡ lookup (pointwise nat_eq x) c.functions.entries → ShowsPrices c G → a.bound ≡ told (cost_under (function_of c.costs) (applied (signature_in x G.functions)))
applied_is c x a G h shows = applied_by c x G shows a (signature_in x G.functions) (found c x G shows (Some a) h)

pub applied_none : (c : Prices) (x : List ℕ) (G : Context) → None ≡ lookup (pointwise nat_eq x) c.functions.entries → ShowsPrices c G → told zero_cost ≡ told (cost_under (function_of c.costs) (applied (signature_in x G.functions)))
applied_none c x G h shows = none_by c x G shows (signature_in x G.functions) (found c x G shows None h)

-- ---- functions of a deployed contract

module _ (table : CostTable) (fs : List Signature) (entries : List (List ℕ × Application)) (x : List ℕ) (shows : ShowFunctions table fs entries) where
  pub met : (o : Option Application) → o ≡ lookup (pointwise nat_eq x) entries → o ≡ option_map (application_of table) (signature_in x fs)
  met o h = h ∙ under_name x entries ∙ shows x

  open_by : (a : Application) (f : Option Signature) → Some a ≡ option_map (application_of table) f → (a.access ≡ Private → ⊥) → a.bound ≡ told (cost_under table (applied (if_callable f)))
  open_by a None h open_one = absurd cc
  open_by a (Some f) h open_one =
      let same : a ≡ application_of table f = cc in
      ap (λ (b : Application). b.bound) same ∙ by f.access (λ private. open_one (ap (λ (b : Application). b.access) same ∙ private))
    where
      by : (access : Access) → (access ≡ Private → ⊥) → told (cost_under table f.bound) ≡ told (cost_under table (applied (elim access as (λ _. Option Signature) [ Public ↦ Some f | ReadOnly ↦ Some f | Private ↦ None ])))
      by Public k = refl
      by ReadOnly k = refl
      by Private k = absurd (k refl)

  private_by : (a : Application) (f : Option Signature) → Some a ≡ option_map (application_of table) f → a.access ≡ Private → told zero_cost ≡ told (cost_under table (applied (if_callable f)))
  private_by a None h private = absurd cc
  private_by a (Some f) h private =
      let same : a ≡ application_of table f = cc in
      by f.access (sym (ap (λ (b : Application). b.access) same) ∙ private)
    where
      by : (access : Access) → access ≡ Private → told zero_cost ≡ told (cost_under table (applied (elim access as (λ _. Option Signature) [ Public ↦ Some f | ReadOnly ↦ Some f | Private ↦ None ])))
      by Public k = absurd cc
      by ReadOnly k = absurd cc
      by Private k = refl

  absent_by : (f : Option Signature) → None ≡ option_map (application_of table) f → told zero_cost ≡ told (cost_under table (applied (if_callable f)))
  absent_by None h = refl
  absent_by (Some f) h = absurd cc

  pub open_sum : (a : Application) → Some a ≡ lookup (pointwise nat_eq x) entries → (a.access ≡ Private → ⊥) → a.bound ≡ told (cost_under table (applied (if_callable (signature_in x fs))))
  open_sum a h open_one = open_by a (signature_in x fs) (met (Some a) h) open_one

  pub private_sum : (a : Application) → Some a ≡ lookup (pointwise nat_eq x) entries → a.access ≡ Private → told zero_cost ≡ told (cost_under table (applied (if_callable (signature_in x fs))))
  private_sum a h private = private_by a (signature_in x fs) (met (Some a) h) private

  pub absent_sum : None ≡ lookup (pointwise nat_eq x) entries → told zero_cost ≡ told (cost_under table (applied (if_callable (signature_in x fs))))
  absent_sum h = absent_by (signature_in x fs) (met None h)

-- ---- deployed contracts

-- the equality of the code
pub equal_so : (p q : Principal) → eq-value.it p q ≡ same_principal p q
equal_so p q = search rules

pub under_principal : (p : Principal) (es : List (Principal × ContractBounds)) → lookup (eq-value.it p) es ≡ known_under p es
under_principal p [] = refl
under_principal p (e ∷ es) =
    ap (λ (s : Bool). cond s (Some e.1) (lookup (eq-value.it p) es)) (equal_so p e.0 ∙ same_principal_turned p e.0)
    ∙ ap (λ (o : Option ContractBounds). cond (same_principal e.0 p) (Some e.1) o) (under_principal p es)

module _ (c : Prices) (G : Context) (p : Principal) (x : List ℕ) (shows : ShowsPrices c G) where
  -- what a call is charged, where the target is the contract itself or not, and this is deployed there
  charged : Bool → Option Known → Sum
  charged own k = told (cost_under (function_of c.costs) (called_at (there_or_not (cond own None k)) x))

  own_is : (b : Bool) → eq-value.it p c.principal ≡ b → same_principal p G.principal ≡ b
  own_is b h = ap (same_principal p) (sym shows.principal) ∙ sym (equal_so p c.principal) ∙ h

  deployed_is : (o : Option ContractBounds) → o ≡ lookup (eq-value.it p) c.deployed.now.contracts.entries → ShowsKnown (function_of c.costs) (known_at p G.deployed) o
  deployed_is o h = subst (ShowsKnown (function_of c.costs) (known_at p G.deployed)) (sym (h ∙ under_principal p c.deployed.now.contracts.entries)) (shows.deployed p)

  nowhere_by : (k : Option Known) (b : Bool) → ShowsKnown (function_of c.costs) k None → told zero_cost ≡ charged b k
  unfolding charged
  nowhere_by None true h = refl
  nowhere_by None false h = refl
  nowhere_by (Some k) b h = absurd h

  pub nowhere_sum : None ≡ lookup (eq-value.it p) c.deployed.now.contracts.entries → told zero_cost ≡ told (cost_under (function_of c.costs) (called_at (there_or_not (target_at G p)) x))
  unfolding charged
  nowhere_sum h = nowhere_by (known_at p G.deployed) (same_principal p G.principal) (deployed_is None h)

  call_by : (k : Option Known) (e : ContractBounds) (n : ℕ) (s f u : Sum) → ShowsKnown (function_of c.costs) k (Some e) → n ≡ e.length → s ≡ told (cost_under (function_of c.costs) (Charge ContractCallCost n)) →
      ((table : CostTable) (fs : List Signature) → ShowFunctions table fs e.functions.entries → f ≡ told (cost_under table (applied (if_callable (signature_in x fs))))) →
      ((a b : Cost5) → s ≡ told a → f ≡ told b → u ≡ told (plus a b)) → u ≡ charged false k
  unfolding charged
  call_by None e n s f u h count s_is f_is add = absurd h
  call_by (Some k) e n s f u h count s_is f_is add =
      add (cost_under (function_of c.costs) (Charge ContractCallCost k.length)) (cost_under (function_of c.costs) (applied (if_callable (signature_in x k.functions))))
      (s_is ∙ ap (λ (m : ℕ). told (cost_under (function_of c.costs) (Charge ContractCallCost m))) (count ∙ sym h.0))
      (f_is (function_of c.costs) k.functions h.1)

  pub call_sum : (e : ContractBounds) (n : ℕ) (s f u : Sum) → eq-value.it p c.principal ≡ false → Some e ≡ lookup (eq-value.it p) c.deployed.now.contracts.entries → n ≡ e.length → s ≡ told (cost_under (function_of c.costs) (Charge ContractCallCost n)) →
      ((table : CostTable) (fs : List Signature) → ShowFunctions table fs e.functions.entries → f ≡ told (cost_under table (applied (if_callable (signature_in x fs))))) →
      ((a b : Cost5) → s ≡ told a → f ≡ told b → u ≡ told (plus a b)) → u ≡ told (cost_under (function_of c.costs) (called_at (there_or_not (target_at G p)) x))
  unfolding charged
  call_sum e n s f u other there count s_is f_is add =
      call_by (known_at p G.deployed) e n s f u (deployed_is (Some e) there) count s_is f_is add
      ∙ ap (λ (b : Bool). charged b (known_at p G.deployed)) (sym (own_is false other))
