-- Bounds under a table by what is kept of them, also where they are above the limit.
use Rattle.std.proofs.Common.{◌≡◌, ℕ, zero, suc, ◌+◌, List, [], ◌∷◌, ◌++◌, map, take, slice_get, Option, Some, None, refl, sym, ap, subst, ◌∙◌, add-one, append-nil}
use Rattle.std.specs.Prelude.{option_map, unwrap_or}
use Rattle.std.specs.List.{cons_option, filter_map, flat_map}
use Rattle.std.proofs.lemmas.Grind.{flat_map-append}
use Rattle.std.proofs.lemmas.List.{map-append}
use Rattle.std.specs.Map.{lookup}
use Rattle.cl_types.specs.Types.{PlainType}
use Rattle.cl_c32.specs.declared.principal.Principal.{Principal}
use Rattle.cl_c32.specs.contracts.principal.PrincipalPartialEq.TheImpl.{eq-value}
use Rattle.cl_shapes.specs.declared.cost.Cost5.{Cost5}
use Rattle.cl_shapes.specs.declared.cost.Dimension.{Dimension}
use Rattle.cl_shapes.specs.Costs.{first_above}
use Rattle.cl_rules.specs.Acceptance.{most_cost, bound_at}
use Rattle.cl_rules.specs.Bills.{cost_under}
use Rattle.cl_rules.specs.Context.{CostTable, Known, Signature, known_at, signature_in}
use Rattle.cl_contracts.specs.declared.contract.Contract.{Contract}
use Rattle.cl_contracts.specs.Seen.{IsEntry, AreEntries, contract_seen}
use Rattle.cl_meaning.specs.Deployed.{Contract as ContractSeen}
use Rattle.cl_forms.specs.Forms.{Form, FormKind, ConstantForm, VariableForm, MapForm, FungibleForm, NonFungibleForm, FunctionForm, ExpressionForm}
use Rattle.cl_sums.specs.Sums.{told}
use Rattle.cl_tx.specs.declared.outcome.Reach.{Reach}
use Rattle.cl_tx.specs.declared.outcome.Rebound.{Rebound}
use Rattle.cl_tx.specs.Rebounds.{reach_of, reach_under, above_by, functions_of, line_by, line_of, rebound_line}
use Rattle.cl_bound.specs.declared.prices.Application.{Application}
use Rattle.cl_bound.specs.declared.known.ContractBounds.{ContractBounds}
use Rattle.cl_bound.specs.declared.known.KnownBounds.{KnownBounds}
use Rattle.cl_bound.specs.Seen.{ShowFunctions, ShowsKnown, ShowDeployed, application_of}
use Rattle.cl_bound.proofs.Lookups.{under_principal}
use Rattle.cl_bound.specs.Known.{AreBounds}
use Rattle.cl_bound.specs.Reaches.{named_reach, reach_at, over_of}

-- ---- one function

-- what is kept of a function has its bound
pub reach_some : (table : CostTable) (a : Application) (f : Option Signature) (r : Reach) → Some a ≡ option_map (application_of table) f → ((b : Cost5) → a.bound ≡ told b → r ≡ reach_of b (first_above most_cost b)) → Some r ≡ reach_at table f
reach_some table a None r h is = absurd cc
reach_some table a (Some f) r h is =
    let same : a ≡ application_of table f = cc in
    ap Some (is (cost_under table f.bound) (ap (λ (b : Application). b.bound) same))

pub reach_none : (table : CostTable) (f : Option Signature) → None ≡ option_map (application_of table) f → None ≡ reach_at table f
reach_none table None h = refl
reach_none table (Some f) h = absurd cc

-- with the name of the function
pub reach_named : (table : CostTable) (name : List ℕ) (f : Option Signature) → option_map {U = List ℕ × Reach} (λ (r : Reach). (name, r)) (reach_at table f) ≡ named_reach table name (bound_at f)
reach_named table name None = refl
reach_named table name (Some f) = refl

-- a bound is above the limit in the first dimension that it names
pub over_is : (table : CostTable) (f : Option Signature) → over_of (reach_at table f) ≡ above_by table f
over_is table None = refl
over_is table (Some f) = by (first_above most_cost (cost_under table f.bound))
  where
    by : (o : Option Dimension) → over_of (Some (reach_of (cost_under table f.bound) o)) ≡ o
    by None = refl
    by (Some d) = refl

-- the line of a function
pub line_some : (table : CostTable) (contract : Principal) (name : List ℕ) (f : Option Signature) (r : Reach) (t u : PlainType) → Some r ≡ reach_at table f → ((g : Signature) → f ≡ Some g → g.returns ≡ u) → t ≡ u →
    Some (record { contract = contract; name = name; reach = r; returns = t }) ≡ option_map (line_of table contract name) f
line_some table contract name None r t u h returns is = absurd cc
line_some table contract name (Some f) r t u h returns is =
    let same : r ≡ reach_under table f.bound = cc in
    let typed : t ≡ f.returns = is ∙ sym (returns f refl) in
    λ i. Some (record { contract = contract; name = name; reach = same i; returns = typed i })

pub no_line : (table : CostTable) (contract : Principal) (name : List ℕ) (f : Option Signature) → None ≡ reach_at table f → None ≡ option_map (line_of table contract name) f
no_line table contract name None h = refl
no_line table contract name (Some f) h = absurd cc

-- ---- one deployed contract

-- the functions of a contract that is kept
pub functions_kept : (table : CostTable) (k : Option Known) (e : ContractBounds) → ShowsKnown table k (Some e) → ShowFunctions table (functions_of k) e.functions.entries
functions_kept table None e h = absurd h
functions_kept table (Some k) e h = h.1

-- what is found under a principal shows what callers know there
pub is_shown : (table : CostTable) (ks : List Known) (es : List (Principal × ContractBounds)) (p : Principal) → ShowDeployed table ks es → (o : Option ContractBounds) → o ≡ lookup (eq-value.it p) es → ShowsKnown table (known_at p ks) o
is_shown table ks es p shows o h = subst (ShowsKnown table (known_at p ks)) (sym (h ∙ under_principal p es)) (shows p)

pub over_nowhere : (table : CostTable) (x : List ℕ) (k : Option Known) → ShowsKnown table k None → None ≡ above_by table (signature_in x (functions_of k))
over_nowhere table x None h = refl
over_nowhere table x (Some k) h = absurd h

-- no form has a line where callers know no functions
pub no_lines : (table : CostTable) (contract : Principal) (fs : List Signature) → fs ≡ [] → (forms : List Form) → filter_map (rebound_line table contract fs) forms ≡ []
no_lines table contract fs none forms = ap (λ (gs : List Signature). filter_map (rebound_line table contract gs) forms) none ∙ by forms
  where
    none_of : (kind : FormKind) (name : List ℕ) → line_by table contract [] kind name ≡ None
    none_of (ConstantForm e) name = refl
    none_of (VariableForm t e) name = refl
    none_of (MapForm t u) name = refl
    none_of (FungibleForm e) name = refl
    none_of (NonFungibleForm t) name = refl
    none_of (FunctionForm access params body) name = refl
    none_of (ExpressionForm e) name = refl

    by : (forms : List Form) → filter_map (rebound_line table contract []) forms ≡ []
    by [] = refl
    by (f ∷ fs) = λ i. cons_option (none_of f.kind (unwrap_or f.name []) i) (by fs i)

-- there are none where no contract is kept
pub none_kept : (table : CostTable) (k : Option Known) → ShowsKnown table k None → functions_of k ≡ []
none_kept table None h = refl
none_kept table (Some k) h = absurd h

-- ---- one place after another

pub one_more : {A : Type 0} (xs : List A) (i : ℕ) (x : A) → slice_get xs i ≡ Some x → take (i + 1) xs ≡ take i xs ++ x ∷ []
one_more {A = A} xs i x h = ap (λ (n : ℕ). take n xs) (add-one i) ∙ by xs i h
  where
    by : (ys : List A) (n : ℕ) → slice_get ys n ≡ Some x → take (suc n) ys ≡ take n ys ++ x ∷ []
    by [] n k = absurd cc
    by (y ∷ ys) zero k = cc
    by (y ∷ ys) (suc n) k = ap (λ (zs : List A). y ∷ zs) (by ys n k)

pub no_more : {A : Type 0} (xs : List A) (i : ℕ) → slice_get xs i ≡ None → take (i + 1) xs ≡ take i xs
no_more {A = A} xs i h = ap (λ (n : ℕ). take n xs) (add-one i) ∙ by xs i h
  where
    by : (ys : List A) (n : ℕ) → slice_get ys n ≡ None → take (suc n) ys ≡ take n ys
    by [] zero k = refl
    by [] (suc n) k = refl
    by (y ∷ ys) zero k = absurd cc
    by (y ∷ ys) (suc n) k = ap (λ (zs : List A). y ∷ zs) (by ys n k)

pub entry_at : (es : List (Principal × Contract)) (i : ℕ) (e : Principal × Contract) → AreEntries es → slice_get es i ≡ Some e → IsEntry e
entry_at [] i e ok h = absurd cc
entry_at (f ∷ es) zero e ok h = let same : f ≡ e = cc in subst IsEntry same ok.0
entry_at (f ∷ es) (suc i) e ok h = entry_at es i e ok.1 h

-- ---- one deployed contract after another

own_entry : (es : List (Principal × Contract)) (i : ℕ) (p : Principal) (c : Contract) → AreEntries es → Some (p, c) ≡ slice_get es i → take (i + 1) es ≡ take i es ++ (c.checked.principal, c) ∷ []
own_entry es i p c ok there =
    one_more es i (p, c) (sym there)
    ∙ ap (λ (q : Principal). take i es ++ (q, c) ∷ []) (sym (entry_at es i (p, c) ok (sym there)).principal)

pub bounds_of_more : (table : CostTable) (es : List (Principal × Contract)) (i : ℕ) (p : Principal) (c : Contract) (old new : KnownBounds) → AreEntries es → Some (p, c) ≡ slice_get es i → AreBounds table (take i es) old →
    ((contracts : List (Principal × Contract)) → AreBounds table contracts old → AreBounds table (contracts ++ (c.checked.principal, c) ∷ []) new) → AreBounds table (take (i + 1) es) new
bounds_of_more table es i p c old new ok there are more =
    subst (λ (contracts : List (Principal × Contract)). AreBounds table contracts new) (sym (own_entry es i p c ok there)) (more (take i es) are)

pub lines_of_more : (f : ContractSeen → List Rebound) (es : List (Principal × Contract)) (i : ℕ) (p : Principal) (c : Contract) (lines more : List Rebound) → AreEntries es → Some (p, c) ≡ slice_get es i → lines ≡ flat_map f (map contract_seen (take i es)) → more ≡ lines ++ f (contract_seen (c.checked.principal, c)) →
    more ≡ flat_map f (map contract_seen (take (i + 1) es))
lines_of_more f es i p c lines more ok there are grown =
    let e : Principal × Contract = (c.checked.principal, c) in
    grown ∙ ap (λ (ls : List Rebound). ls ++ f (contract_seen e)) are
    ∙ ap (λ (ls : List Rebound). flat_map f (map contract_seen (take i es)) ++ ls) (sym (append-nil (f (contract_seen e))))
    ∙ sym (ap (λ (contracts : List (Principal × Contract)). flat_map f (map contract_seen contracts)) (own_entry es i p c ok there)
    ∙ ap (flat_map f) (map-append contract_seen (take i es) (e ∷ [])) ∙ flat_map-append f (map contract_seen (take i es)) (contract_seen e ∷ []))
