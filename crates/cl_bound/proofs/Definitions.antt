-- What definitions add to the context, and what they are charged, one after another.
use Rattle.std.proofs.Common.{◌≡◌, ℕ, ◌+◌, ◌<◌, ◌≤◌, Bool, true, false, List, [], ◌∷◌, ◌++◌, length, drop, get_or, slice_get, Option, Some, None, refl, sym, ap, subst, ◌∙◌}
use Rattle.std.specs.Prelude.{nat_eq, option_map, if◌then◌else◌}
use Rattle.std.specs.Option.{option_or}
use Rattle.std.specs.Map.{lookup}
use Rattle.std.specs.Cmp.Lexicographic.{pointwise}
use Rattle.std.proofs.lemmas.List.{drop_all}
use Rattle.cl_c32.specs.declared.principal.Principal.{Principal}
use Rattle.cl_shapes.specs.declared.cost.Cost5.{Cost5}
use Rattle.cl_shapes.specs.Costs.{plus}
use Rattle.cl_costs.specs.Tables.{function_of}
use Rattle.cl_code.specs.Definitions.{form_defined, function_form}
use Rattle.cl_code.specs.declared.definition.Function.{Function}
use Rattle.cl_code.specs.declared.definition.Definition.{Definition}
use Rattle.cl_code.specs.declared.definition.Definition.TheVariants.{Function as AFunction}
use Rattle.cl_rules.specs.Bills.{cost_under}
use Rattle.cl_rules.specs.Context.{CostTable, Known, Signature, same, signature_in}
use Rattle.cl_rules.specs.Verdicts.{Found}
use Rattle.cl_rules.specs.FormRules.{Defined, application, signature_of, form_charges, defined_after, nothing_defined}
use Rattle.cl_contracts.specs.declared.checked.Checked.{Checked}
use Rattle.cl_contracts.specs.Seen.{kind_at}
use Rattle.cl_contracts.specs.Standing.{Stands}
use Rattle.cl_contracts.specs.Standings.{StandsAs, AllStand, definitions_in_order}
use Rattle.cl_sums.specs.declared.sum.Sum.{Sum}
use Rattle.cl_bound.specs.declared.prices.Application.{Application}
use Rattle.cl_bound.specs.declared.prices.Prices.{Prices}
use Rattle.cl_sums.specs.Sums.{told}
use Rattle.cl_bound.specs.Seen.{ShowsPrices, ShowFunctions, application_of}
use Rattle.cl_forms.proofs.SameNames.{same_turned}
use Rattle.cl_contracts.proofs.Places.{under_name}
use Rattle.cl_contracts.proofs.InOrder.{one_part, at_places, next_place}

-- ---- one more function

signature_last : (x : List ℕ) (fs : List Signature) (s : Signature) → signature_in x (fs ++ s ∷ []) ≡ option_or (signature_in x fs) (if same s.name x then Some s else None)
signature_last x [] s = refl
signature_last x (f ∷ fs) s = by (same f.name x) (signature_last x fs s)
  where
    by : (b : Bool) → signature_in x (fs ++ s ∷ []) ≡ option_or (signature_in x fs) (if same s.name x then Some s else None) → (if b then Some f else signature_in x (fs ++ s ∷ [])) ≡ option_or (if b then Some f else signature_in x fs) (if same s.name x then Some s else None)
    by true rest = refl
    by false rest = rest

either_way : (table : CostTable) (o : Option Signature) (s : Signature) (b : Bool) → option_or (option_map (application_of table) o) (if b then Some (application_of table s) else None) ≡ option_map (application_of table) (option_or o (if b then Some s else None))
either_way table None s true = refl
either_way table None s false = refl
either_way table (Some f) s b = refl

one_function : (table : CostTable) (fs : List Signature) (s : Signature) (a : Application) (before after : List (List ℕ × Application)) → ShowFunctions table fs before → a ≡ application_of table s →
    ((x : List ℕ) → lookup (pointwise nat_eq x) after ≡ option_or (lookup (pointwise nat_eq x) before) (if pointwise nat_eq x s.name then Some a else None)) → ShowFunctions table (fs ++ s ∷ []) after
one_function table fs s a before after shows is kept x =
    sym (under_name x after) ∙ kept x
    ∙ (λ i. option_or ((under_name x before ∙ shows x) i) (if same_turned x s.name i then Some (is i) else None))
    ∙ either_way table (signature_in x fs) s (same s.name x)
    ∙ ap (option_map (application_of table)) (sym (signature_last x fs s))

pub defined_shows : (c n : Prices) (D : Defined) (fs : List Found) (f : Function) (a : Application) →
    ((x : List ℕ) → lookup (pointwise nat_eq x) n.functions.entries ≡ option_or (lookup (pointwise nat_eq x) c.functions.entries) (if pointwise nat_eq x f.name then Some a else None)) →
    a.access ≡ f.access → ((g : Found) → Stands D.context f.params.items f.body g → a.bound ≡ told (cost_under (function_of c.costs) (application f.params.items g))) →
    ShowsPrices c D.context → StandsAs D (AFunction f) fs → ShowsPrices (record c { functions = n.functions }) (defined_after D (function_form f) fs).context
defined_shows c n D fs f a kept access bound shows stands =
    let one = one_part D.context f.params.items _ f.body fs stands.trees in
    let s : Signature = signature_of f.name f.access f.params.items one.0 in
    let is : a ≡ application_of (function_of c.costs) s = λ i. record { access = access i; bound = bound one.0 one.2 i } in
    subst (λ (gs : List Found). ShowsPrices (record c { functions = n.functions }) (defined_after D (function_form f) gs).context) (sym one.1)
    (record {
      principal = shows.principal;
      functions = one_function (function_of c.costs) D.context.functions s a c.functions.entries n.functions.entries shows.functions is kept;
      deployed = shows.deployed;
    })

-- ---- one definition after another

-- After the definitions before these, whatever the contract stands for: their context is shown, and this is charged.
abbrev pub Walked : Prices → Checked → List Definition → Prices → Sum → Type 0
Walked c checked rest n sum =
    (known : List Known) (principal : Principal) (E : Defined) → ShowsPrices c (nothing_defined known principal checked.version checked.source_length).context → AllStand (nothing_defined known principal checked.version checked.source_length) (definitions_in_order checked) E →
    (D : Defined) × ShowsPrices n D.context × AllStand D rest E × (sum ≡ told (cost_under (function_of c.costs) D.deploy))

pub walked_none : (c : Prices) (checked : Checked) (sum : Sum) → ((known : List Known) (principal : Principal) → sum ≡ told (cost_under (function_of c.costs) (nothing_defined known principal checked.version checked.source_length).deploy)) → Walked c checked (at_places checked checked.order.items) c sum
walked_none c checked sum is known principal E shows stand = (nothing_defined known principal checked.version checked.source_length, shows, stand, is known principal)

-- a definition is taken in
abbrev pub ShowsAfter : Prices → Prices → Definition → Type 0
ShowsAfter n m d = (D : Defined) (fs : List Found) → ShowsPrices n D.context → StandsAs D d fs → ShowsPrices m (defined_after D (form_defined d) fs).context

-- what a walk keeps behind a place
abbrev pub AsWalked : Prices → Checked → ℕ → Prices → Sum → Type 0
AsWalked c checked i n sum = record {
  costs : n.costs ≡ c.costs;
  walked : Walked c checked (at_places checked (drop (i + 1) checked.order.items)) n sum;
}

pub walked_past : (c n : Prices) (checked : Checked) (i place : ℕ) (sum : Sum) → i < length checked.order.items → get_or checked.order.items i place ≡ place → slice_get checked.definitions.items place ≡ None → Walked c checked (at_places checked (drop i checked.order.items)) n sum → Walked c checked (at_places checked (drop (i + 1) checked.order.items)) n sum
walked_past c n checked i place sum lt at is walked = subst (λ (ds : List Definition). Walked c checked ds n sum) (next_place checked i place None lt at is) walked

pub walked_more : (c n m : Prices) (checked : Checked) (i place : ℕ) (d : Definition) (s t u : Sum) → i < length checked.order.items → get_or checked.order.items i place ≡ place → slice_get checked.definitions.items place ≡ Some d → n.costs ≡ c.costs →
    ((D : Defined) (fs : List Found) → ShowsPrices n D.context → StandsAs D d fs → t ≡ told (cost_under (function_of n.costs) (form_charges (kind_at d) fs))) →
    ShowsAfter n m d → ((a b : Cost5) → s ≡ told a → t ≡ told b → u ≡ told (plus a b)) →
    Walked c checked (at_places checked (drop i checked.order.items)) n s → Walked c checked (at_places checked (drop (i + 1) checked.order.items)) m u
walked_more c n m checked i place d s t u lt at is costs charged shown add walked known principal E shows stand =
    let here = walked known principal E shows stand in
    let rest : AllStand here.0 (d ∷ at_places checked (drop (i + 1) checked.order.items)) E = subst (λ (ds : List Definition). AllStand here.0 ds E) (next_place checked i place (Some d) lt at is) here.2 in (
      defined_after here.0 (form_defined d) rest.0,
      shown here.0 rest.0 here.1 rest.1,
      rest.2,
      add (cost_under (function_of c.costs) here.0.deploy) (cost_under (function_of c.costs) (form_charges (kind_at d) rest.0)) here.3 (charged here.0 rest.0 here.1 rest.1 ∙ ap (λ (costs : _). told (cost_under (function_of costs) (form_charges (kind_at d) rest.0))) costs),
    )

pub walked_all : (c n : Prices) (checked : Checked) (i : ℕ) (sum : Sum) → length checked.order.items ≤ i → Walked c checked (at_places checked (drop i checked.order.items)) n sum →
    (known : List Known) (principal : Principal) (E : Defined) → ShowsPrices c (nothing_defined known principal checked.version checked.source_length).context → AllStand (nothing_defined known principal checked.version checked.source_length) (definitions_in_order checked) E → ShowsPrices n E.context × (sum ≡ told (cost_under (function_of c.costs) E.deploy))
walked_all c n checked i sum far walked known principal E shows stand =
    let here = walked known principal E shows stand in
    let same_one : here.0 ≡ E = subst (λ (ps : List ℕ). AllStand here.0 (at_places checked ps) E) (drop_all i checked.order.items far) here.2 in
    (subst (λ (D : Defined). ShowsPrices n D.context) same_one here.1, here.3 ∙ ap (λ (D : Defined). told (cost_under (function_of c.costs) D.deploy)) same_one)
