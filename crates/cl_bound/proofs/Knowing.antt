-- Deployed contracts, and their bounds, one after another.
use Rattle.std.proofs.Common.{◌≡◌, ℕ, Bool, true, false, cond, List, [], ◌∷◌, ◌++◌, Option, Some, None, is_some, refl, sym, ap, subst, ◌∙◌}
use Rattle.std.specs.Prelude.{if◌then◌else◌}
use Rattle.std.specs.Option.{option_or}
use Rattle.std.specs.Map.{lookup}
use Rattle.cl_c32.specs.declared.principal.Principal.{Principal}
use Rattle.cl_c32.specs.contracts.principal.PrincipalPartialEq.TheImpl.{eq-value}
use Rattle.cl_costs.specs.Tables.{function_of}
use Rattle.cl_forms.specs.declared.version.Version.{Version}
use Rattle.cl_rules.specs.Context.{CostTable, Known, same_principal, known_at, named_in}
use Rattle.cl_rules.specs.FormRules.{Defined, nothing_defined}
use Rattle.cl_rules.specs.Acceptance.{known_of}
use Rattle.cl_contracts.specs.declared.contract.Contract.{Contract}
use Rattle.cl_contracts.specs.Standings.{AreStanding}
use Rattle.cl_contracts.proofs.Principals.{principals_equal}
use Rattle.cl_bound.specs.declared.prices.Prices.{Prices}
use Rattle.cl_bound.specs.declared.known.ContractBounds.{ContractBounds}
use Rattle.cl_bound.specs.declared.known.KnownBounds.{KnownBounds}
use Rattle.cl_bound.specs.Seen.{ShowsPrices, ShowFunctions, ShowsKnown, ShowDeployed, known_under}
use Rattle.cl_bound.specs.Known.{AreBounds, AreBoundsOf}
use Rattle.cl_bound.proofs.Lookups.{equal_so, under_principal}

or_none : {A : Type 0} (o : Option A) → o ≡ option_or o None
or_none None = refl
or_none (Some a) = refl

-- ---- what is kept under a principal

module _ (k : Principal) (v : ContractBounds) (old : List (Principal × ContractBounds)) where
  -- what is found under a principal, where this is kept under k if nothing is there
  abbrev pub Kept : List (Principal × ContractBounds) → Type 0
  Kept new = (p : Principal) → known_under p new ≡ option_or (known_under p old) (if same_principal k p then Some v else None)

  pub kept_new : (new : List (Principal × ContractBounds)) → is_some (lookup (eq-value.it k) old) ≡ false → ((q : Principal) → lookup (eq-value.it q) new ≡ cond (eq-value.it k q) (Some v) (lookup (eq-value.it q) old)) → Kept new
  kept_new new absent updates p =
      sym (under_principal p new) ∙ updates p ∙ (λ i. cond (equal_so k p i) (Some v) (under_principal p old i)) ∙ by (same_principal k p) refl
    where
      none : (o : Option ContractBounds) → is_some o ≡ false → o ≡ None
      none None h = refl
      none (Some e) h = absurd cc

      by : (b : Bool) → same_principal k p ≡ b → cond b (Some v) (known_under p old) ≡ option_or (known_under p old) (if b then Some v else None)
      by true is =
          let there : known_under p old ≡ None = ap (λ (q : Principal). known_under q old) (sym (principals_equal k p is)) ∙ sym (under_principal k old) ∙ none (lookup (eq-value.it k) old) absent in
          ap (λ (o : Option ContractBounds). option_or o (Some v)) (sym there)
      by false is = or_none (known_under p old)

  pub kept_old : is_some (lookup (eq-value.it k) old) ≡ true → Kept old
  kept_old there p = by (same_principal k p) refl
    where
      some : (o : Option ContractBounds) → is_some o ≡ true → o ≡ option_or o (Some v)
      some None h = absurd cc
      some (Some e) h = refl

      by : (b : Bool) → same_principal k p ≡ b → known_under p old ≡ option_or (known_under p old) (if b then Some v else None)
      by true is =
          some (known_under p old) (ap (λ (q : Principal). is_some (known_under q old)) (sym (principals_equal k p is)) ∙ ap is_some (sym (under_principal k old)) ∙ there)
      by false is = or_none (known_under p old)

-- ---- one more contract

known_last : (p : Principal) (ks : List Known) (k : Known) → known_at p (ks ++ k ∷ []) ≡ option_or (known_at p ks) (if same_principal k.principal p then Some k else None)
known_last p [] k = refl
known_last p (l ∷ ks) k = by (same_principal l.principal p) (known_last p ks k)
  where
    by : (b : Bool) → known_at p (ks ++ k ∷ []) ≡ option_or (known_at p ks) (if same_principal k.principal p then Some k else None) → (if b then Some l else known_at p (ks ++ k ∷ [])) ≡ option_or (if b then Some l else known_at p ks) (if same_principal k.principal p then Some k else None)
    by true rest = refl
    by false rest = rest

both_more : (table : CostTable) (o : Option Known) (e : Option ContractBounds) (k : Known) (v : ContractBounds) (b : Bool) → ShowsKnown table o e → ShowsKnown table (Some k) (Some v) → ShowsKnown table (option_or o (if b then Some k else None)) (option_or e (if b then Some v else None))
both_more table None None k v true shows one = one
both_more table None None k v false shows one = shows
both_more table None (Some e) k v b shows one = absurd shows
both_more table (Some l) None k v b shows one = absurd shows
both_more table (Some l) (Some e) k v b shows one = shows

pub deployed_more : (table : CostTable) (ks : List Known) (k : Known) (v : ContractBounds) (old new : List (Principal × ContractBounds)) → ShowDeployed table ks old → k.length ≡ v.length → ShowFunctions table k.functions v.functions.entries → Kept k.principal v old new → ShowDeployed table (ks ++ k ∷ []) new
deployed_more table ks k v old new shows length functions kept p =
    subst (λ (o : Option Known). ShowsKnown table o (known_under p new)) (sym (known_last p ks k))
    (subst (ShowsKnown table (option_or (known_at p ks) (if same_principal k.principal p then Some k else None))) (sym (kept p))
    (both_more table (known_at p ks) (known_under p old) k v (same_principal k.principal p) (shows p) (length, functions)))

-- ---- prices before the first definition

pub begins : (c : Prices) (k : Principal) (ks : List Known) (version : Version) (size : ℕ) → c.principal ≡ k → c.functions.entries ≡ [] → ShowDeployed (function_of c.costs) ks c.deployed.now.contracts.entries → ShowsPrices c (nothing_defined ks k version size).context
begins c k ks version size own none shows = record { principal = own; functions = λ x. ap (named_in x) none; deployed = shows }

-- ---- the bounds of no contract, and of the same ones

pub none_known : (table : CostTable) (bounds : KnownBounds) → bounds.contracts.entries ≡ [] → AreBounds table [] bounds
none_known table bounds none known stand =
    let shown : ShowDeployed table [] [] = λ p. tt in
    subst (λ (ks : List Known). ShowDeployed table ks bounds.contracts.entries) stand (subst (ShowDeployed table []) (sym none) shown)

pub still_known : (old new : KnownBounds) (table : CostTable) (contracts : List (Principal × Contract)) → new.contracts.entries ≡ old.contracts.entries → AreBounds table contracts old → AreBounds table contracts new
still_known old new table contracts same are known stand = subst (ShowDeployed table known) (sym same) (are known stand)

-- ---- bounds of one more deployed contract

-- what callers know of all of these contracts, and of those before the last
record UpToLast (before : List Known) (es : List (Principal × Contract)) (e : Principal × Contract) (after : List Known) : Type 0 where
  known : List Known
  stand : AreStanding before es known
  last : AreStanding known (e ∷ []) after

up_to_last : (before : List Known) (es : List (Principal × Contract)) (e : Principal × Contract) (after : List Known) → AreStanding before (es ++ e ∷ []) after → UpToLast before es e after
up_to_last before [] e after stand = record { known = before; stand = refl; last = stand }
up_to_last before (f ∷ es) e after stand =
    let rest = up_to_last (before ++ known_of f.0 f.1.checked.source_length stand.0 ∷ []) es e after stand.2 in
    record { known = rest.known; stand = (stand.0, stand.1, rest.stand); last = rest.last }

pub bounds_more : (table : CostTable) (contracts : List (Principal × Contract)) (c : Contract) (v : ContractBounds) (old new : KnownBounds) → AreBounds table contracts old → AreBoundsOf table contracts c.checked v → Kept v.principal v old.contracts.entries new.contracts.entries → AreBounds table (contracts ++ (c.checked.principal, c) ∷ []) new
bounds_more table contracts c v old new are of kept known stand =
    let split = up_to_last [] contracts (c.checked.principal, c) known stand in
    let E : Defined = split.last.0 in
    subst (λ (ks : List Known). ShowDeployed table ks new.contracts.entries) split.last.2
    (deployed_more table split.known (known_of c.checked.principal c.checked.source_length E) v old.contracts.entries new.contracts.entries (are split.known split.stand) of.length (of.functions split.known E split.stand split.last.1)
    (subst (λ (p : Principal). Kept p v old.contracts.entries new.contracts.entries) of.principal kept))
