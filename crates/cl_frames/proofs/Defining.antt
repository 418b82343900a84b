-- Definitions of a contract that is being deployed, one after another.
use Rattle.std.proofs.Common.{◌≡◌, ℕ, zero, suc, get_or, add-one, ◌+◌, ◌<◌, Bool, true, List, [], ◌∷◌, length, drop, Option, Some, None, Result, Ok, Err, refl, sym, ap, ◌∙◌, subst}
use Rattle.std.specs.Prelude.{unwrap_or, slice_get, nat_eq, option_map, if◌then◌else◌}
use Rattle.std.specs.Cmp.{nat_eq_equiv}
use Rattle.std.proofs.Math.Seq.{drop-cons}
use Rattle.std.proofs.lemmas.Bool.{or_left, or_right}
use Rattle.std.proofs.lemmas.List.{length-map}
use Rattle.std.specs.List.{cons_option}
use Rattle.cl_types.specs.Types.{PlainType}
use Rattle.cl_types.specs.declared.sized.Access.{Access}
use Rattle.cl_c32.specs.declared.principal.Principal.{Principal}
use Rattle.cl_shapes.specs.Limits.{Purse, spend}
use Rattle.cl_shapes.specs.declared.name.CostName.{CostName}
use Rattle.cl_shapes.specs.declared.name.CostName.TheVariants.{Define, Deploy}
use Rattle.cl_sexpr.specs.declared.sexpr.Span.{Span}
use Rattle.cl_sexpr.specs.Tree.{Tree}
use Rattle.cl_values.specs.Tree.{Tree as Val, UintV}
use Rattle.cl_values.specs.Wire.{size_of}
use Rattle.cl_maps.specs.Maps.{Map, put, get, empty}
use Rattle.cl_maps.proofs.MapLaws.{self_equal}
use Rattle.cl_tokens.specs.Ledger.{no_tokens}
use Rattle.cl_forms.specs.Forms.{Form, ConstantForm, VariableForm, MapForm, FungibleForm, NonFungibleForm, FunctionForm, ExpressionForm}
use Rattle.cl_forms.specs.Order.{ordered, is_in, IsGoodOrder}
use Rattle.cl_code.specs.declared.definition.Function.{Function as TypedFunction}
use Rattle.cl_code.specs.declared.definition.MapOf.{MapOf as MapDefined}
use Rattle.cl_code.specs.declared.definition.Definition.{Definition}
use Rattle.cl_code.specs.declared.definition.Definition.TheVariants.{MapOf, Function}
use Rattle.cl_code.specs.Typed.{Typed, expression_of}
use Rattle.cl_code.specs.Definitions.{form_defined, expression_if}
use Rattle.cl_contracts.specs.declared.checked.Checked.{Checked}
use Rattle.cl_contracts.proofs.Places.{get_map}
use Rattle.cl_events.specs.State.{State, holder, place, with_variables, with_fungibles, with_nonfungibles}
use Rattle.cl_contracts.specs.Seen.{forms_of, deployed_seen}
use Rattle.cl_meaning.specs.Answers.{Answer, Given, Wrong, give, wrong, charged, and_then, with_known}
use Rattle.cl_meaning.specs.Deployed.{Contract, Deployed, contract_at}
use Rattle.cl_meaning.specs.Deploying.{defined, all_defined, forms_at, forms_by, deployment, with_constant, put_variable, put_fungible, put_nonfungible, with_cap}
use Rattle.cl_meaning.specs.Limits.{Costs, cost_of, Gave, limited}
use Rattle.cl_meaning.specs.Meaning.{means}
use Rattle.cl_meaning.specs.Scope.{Frame}
use Rattle.cl_meaning.specs.Top.{top}
use Rattle.cl_meaning.proofs.LimitLaws.{limited-stop, charge_within}
use Rattle.cl_frames.specs.Watching.{Seen, watched}
use Rattle.cl_frames.specs.Watching as walks
use Rattle.cl_frames.proofs.WatchLaws as watching
use Rattle.cl_frames.proofs.WatchSteps as steps
use Rattle.cl_frames.proofs.Unseen.{IsUnseen, stopped, paid}
use Rattle.cl_frames.specs.declared.stop.Stop.{Stop}
use Rattle.cl_frames.specs.declared.home.Home.{Home}
use Rattle.cl_frames.specs.declared.deploying.Deploying.{Deploying}
use Rattle.cl_frames.specs.Homes.{frame_seen, home_seen, IsHome}
use Rattle.cl_frames.specs.Runs.{Stops, Ends, Pays}
use Rattle.cl_newness.specs.Newness.{HasNoTokens}
use Rattle.cl_frames.specs.Deploys.{IsDeploying, contract_so_far, contract_in, costs_of, defined_by, all_by, all_charged, cap_of, Makes, Builds}
use Rattle.cl_frames.proofs.Steps.{Handed, stops_then, stops_eq, charge_stops, ends_so}

-- ---- the context at the top

pub top_is : (W : Deployed) (F : Frame) (c : Contract) (bound : List (List ℕ × Val)) (e : Tree) (s : State) → bound ≡ [] → means 256 (record { deployed = c ∷ W; frame = F; bound = bound }) e s ≡ top W F c e s
unfolding top
top_is W F c bound e s h = ap (λ b. means 256 (record { deployed = c ∷ W; frame = F; bound = b }) e s) h

found_first : (c : Contract) (W : Deployed) → contract_at c.principal (c ∷ W) ≡ Some c
found_first c W = ap (λ (b : Bool). if b then Some c else contract_at c.principal W) (self_equal (holder c.principal))

-- the contract that is being deployed is the frame's
pub fits_top : (d : Deploying) (h : Home) → IsDeploying d → h.checked.now ≡ d.checked.now → IsHome d.deployed.now (Some h) h d.frame.now
fits_top d h k same = record {
  found = ap (λ (p : Principal). contract_at p (home_seen h ∷ deployed_seen d.deployed.now)) (sym k.home ∙ ap (λ (k : Checked). k.principal) (sym same)) ∙ found_first (home_seen h) (deployed_seen d.deployed.now);
}

-- ---- what each kind of definition is

-- a value's size is charged, and then it is put there
abbrev pub constant_put : Contract → List ℕ → Val → State → Answer Contract
constant_put c x v s = charged Define (size_of v) (give (with_constant x v c) s)

abbrev pub variable_put : Contract → List ℕ → Val → State → Answer Contract
variable_put c x v s = charged Define (size_of v) (give c (put_variable c x v s))

abbrev pub kept : Contract → Val → State → Answer Contract
kept c v s = give c s

module _ (W : Deployed) (F : Frame) (x : List ℕ) (c : Contract) (s : State) where
  pub constant_at : (e : Tree) → defined W F x (ConstantForm e) c s ≡ and_then (top W F c e s) (constant_put c x)
  unfolding defined
  constant_at e = refl

  pub variable_at : (type : PlainType) (e : Tree) → defined W F x (VariableForm type e) c s ≡ and_then (top W F c e s) (variable_put c x)
  unfolding defined
  variable_at type e = refl

  pub map_at : (key value : PlainType) → defined W F x (MapForm key value) c s ≡ charged Define 0 (give c s)
  unfolding defined
  map_at key value = refl

  pub uncapped_at : defined W F x (FungibleForm None) c s ≡ charged Define 0 (give c (put_fungible c x None s))
  unfolding defined
  uncapped_at = refl

  pub capped_at : (e : Tree) → defined W F x (FungibleForm (Some e)) c s ≡ and_then (top W F c e s) (with_cap c x)
  unfolding defined
  capped_at e = refl

  pub nonfungible_at : (type : PlainType) → defined W F x (NonFungibleForm type) c s ≡ charged Define 0 (give c (put_nonfungible c x s))
  unfolding defined
  nonfungible_at type = refl

  pub function_at : (access : Access) (params : List (List ℕ × PlainType)) (body : Tree) → defined W F x (FunctionForm access params body) c s ≡ charged Define 0 (give c s)
  unfolding defined
  function_at access params body = refl

  pub expression_at : (e : Tree) → defined W F x (ExpressionForm e) c s ≡ and_then (top W F c e s) (kept c)
  unfolding defined
  expression_at e = refl

pub cap_some : (c : Contract) (x : List ℕ) (v : Val) (n : ℕ) (s : State) → Some n ≡ cap_of v → with_cap c x v s ≡ charged Define (size_of v) (give c (put_fungible c x (Some n) s))
cap_some c x (UintV m) n s h = let same : n ≡ m = cc in ap (λ k. charged Define (size_of (UintV m)) (give c (put_fungible c x (Some k) s))) (sym same)
cap_some c x v n s h = absurd cc

pub cap_none : (c : Contract) (x : List ℕ) (v : Val) (s : State) → None ≡ cap_of v → with_cap c x v s ≡ wrong s
cap_none c x (UintV m) s h = absurd cc
cap_none c x v s h = refl

-- ---- what is handed on, and what is charged

pub hand : (d : Deploying) (constants : List (List ℕ × Val)) (r : Result (Unit {0}) Stop) (e : Stop) → Handed r e → Handed (contract_in d constants r) e
hand d constants r e h = (h.0, ap (contract_in d constants) h.1, h.2)

-- a charge alone
pub charge_ends : (d : Deploying) (constants : List (List ℕ × Val)) (costs : Costs) (p q : Purse) (name : CostName) (n : ℕ) (s : State) (r : Result (Unit {0}) Stop) → Pays costs p name n r q → Ends (limited costs p (charged name n (give (contract_so_far d constants) s))) (contract_in d constants r) q s
charge_ends d constants costs p q name n s (Ok u) h = charge_within costs p q name n (give (contract_so_far d constants) s) h ∙ limited-stop costs q (Given (contract_so_far d constants)) s
charge_ends d constants costs p q name n s (Err e) h = charge_stops costs p q name n (give (contract_so_far d constants) s) e s h

-- a charge, and then a state
pub charged_gives : {A : Type 0} (costs : Costs) (p q : Purse) (name : CostName) (n : ℕ) (a b : A) (s t : State) → spend p (cost_of costs name n) ≡ Ok q → a ≡ b → s ≡ t → limited costs p (charged name n (give a s)) ≡ Gave b t q
charged_gives costs p q name n a b s t paid same there =
    charge_within costs p q name n (give a s) paid ∙ limited-stop costs q (Given a) s ∙ ap (λ x. Gave x s q) same ∙ ap (λ u. Gave b u q) there

-- the same, where somebody looks on
pub charged_gives_seen : {A : Type 0} (costs : Costs) (p q : Purse) (k : Seen) (name : CostName) (n : ℕ) (a b : A) (s t : State) → spend p (cost_of costs name n) ≡ Ok q → a ≡ b → s ≡ t → watched costs p k (charged name n (give a s)) ≡ walks.Gave b t q k
charged_gives_seen costs p q k name n a b s t paid same there =
    watching.charge_within costs p q k name n (give a s) paid ∙ watching.watched-stop costs q k (Given a) s ∙ ap (λ x. walks.Gave x s q k) same ∙ ap (λ u. walks.Gave b u q k) there

-- ---- one form after another

none_more : (W : Deployed) (F : Frame) (c : Contract) (s : State) → all_defined W F [] c s ≡ give c s
unfolding all_defined
none_more W F c s = refl

one_more : (W : Deployed) (F : Frame) (f : Form) (fs : List Form) (c : Contract) (s : State) → all_defined W F (f ∷ fs) c s ≡ and_then (defined W F (unwrap_or f.name []) f.kind c s) (all_defined W F fs)
unfolding all_defined
one_more W F f fs c s = refl

at_more : (forms : List Form) (n : ℕ) (ns : List ℕ) (f : Form) → slice_get forms n ≡ Some f → forms_at forms (n ∷ ns) ≡ f ∷ forms_at forms ns
at_more forms n ns f h = ap (λ (o : Option Form). cons_option o (forms_at forms ns)) h

next_form : (d : Deploying) (n : ℕ) (ns : List ℕ) (f : Form) (constants : List (List ℕ × Val)) (s : State) → slice_get (forms_of d.checked.now) n ≡ Some f → all_by d (n ∷ ns) constants s ≡ and_then (defined_by d f constants s) (all_defined (deployed_seen d.deployed.now) (frame_seen d.frame.now) (forms_at (forms_of d.checked.now) ns))
next_form d n ns f constants s h =
    ap (λ fs. all_defined (deployed_seen d.deployed.now) (frame_seen d.frame.now) fs (contract_so_far d constants) s) (at_more (forms_of d.checked.now) n ns f h)
    ∙ one_more (deployed_seen d.deployed.now) (frame_seen d.frame.now) f (forms_at (forms_of d.checked.now) ns) (contract_so_far d constants) s

-- a turn of the loop over the places
pub define_turn : (d : Deploying) (p q : Purse) (j k : Seen) (n : ℕ) (ns : List ℕ) (f : Form) (cs ds : List (List ℕ × Val)) (s t : State) → slice_get (forms_of d.checked.now) n ≡ Some f → watched (costs_of d) p j (defined_by d f cs s) ≡ walks.Gave (contract_so_far d ds) t q k → watched (costs_of d) p j (all_by d (n ∷ ns) cs s) ≡ watched (costs_of d) q k (all_by d ns ds t)
define_turn d p q j k n ns f cs ds s t h e =
    ap (watched (costs_of d) p j) (next_form d n ns f cs s h)
    ∙ watching.then_gave (costs_of d) p q j k (defined_by d f cs s) (all_defined (deployed_seen d.deployed.now) (frame_seen d.frame.now) (forms_at (forms_of d.checked.now) ns)) (contract_so_far d ds) t e

pub define_stops : (d : Deploying) (p q : Purse) (j k : Seen) (n : ℕ) (ns : List ℕ) (f : Form) (cs : List (List ℕ × Val)) (s : State) (e : Stop) (t : State) → slice_get (forms_of d.checked.now) n ≡ Some f → walks.Stops (watched (costs_of d) p j (defined_by d f cs s)) e q k t → walks.Stops (watched (costs_of d) p j (all_by d (n ∷ ns) cs s)) e q k t
define_stops d p q j k n ns f cs s e t h stops =
    steps.stops_eq _ _ e q k t (ap (watched (costs_of d) p j) (next_form d n ns f cs s h))
    (steps.stops_then (costs_of d) p q j k (defined_by d f cs s) (all_defined (deployed_seen d.deployed.now) (frame_seen d.frame.now) (forms_at (forms_of d.checked.now) ns)) e t stops)

pub define_end : (d : Deploying) (p : Purse) (k : Seen) (cs : List (List ℕ × Val)) (s : State) → watched (costs_of d) p k (all_by d [] cs s) ≡ walks.Gave (contract_so_far d cs) s p k
define_end d p k cs s =
    ap (watched (costs_of d) p k) (none_more (deployed_seen d.deployed.now) (frame_seen d.frame.now) (contract_so_far d cs) s) ∙ watching.watched-stop (costs_of d) p k (Given (contract_so_far d cs)) s

-- ---- definitions of which nothing is seen

-- a run of which nothing is seen
pub builds : (d : Deploying) (p q : Purse) (k : Seen) (a : Answer Contract) (cs : List (List ℕ × Val)) (r : Result (Unit {0}) Stop) (s : State) → IsUnseen a → Makes d p a cs r q s → Builds d p k a cs r q k s
builds d p q k a cs r s h makes = steps.unseen_ends (costs_of d) p q k a (contract_in d cs r) s (h (costs_of d) p) makes

placed : (n : ℕ) (c : Contract) (s : State) → IsUnseen (charged Define n (give c s))
placed n c s = paid Define n (give c s) (stopped (Given c) s)

pub cap_unseen : (c : Contract) (x : List ℕ) (v : Val) (s : State) → IsUnseen (with_cap c x v s)
cap_unseen c x (UintV n) s = placed _ _ _
cap_unseen c x v s = stopped Wrong s

module _ (W : Deployed) (F : Frame) (x : List ℕ) (c : Contract) (s : State) where
  pub map_unseen : (key value : PlainType) → IsUnseen (defined W F x (MapForm key value) c s)
  map_unseen key value = subst (λ a. IsUnseen a) (sym (map_at W F x c s key value)) (placed 0 c s)

  pub uncapped_unseen : IsUnseen (defined W F x (FungibleForm None) c s)
  uncapped_unseen = subst (λ a. IsUnseen a) (sym (uncapped_at W F x c s)) (placed 0 c _)

  pub nonfungible_unseen : (type : PlainType) → IsUnseen (defined W F x (NonFungibleForm type) c s)
  nonfungible_unseen type = subst (λ a. IsUnseen a) (sym (nonfungible_at W F x c s type)) (placed 0 c _)

  pub function_unseen : (access : Access) (params : List (List ℕ × PlainType)) (body : Tree) → IsUnseen (defined W F x (FunctionForm access params body) c s)
  function_unseen access params body = subst (λ a. IsUnseen a) (sym (function_at W F x c s access params body)) (placed 0 c s)

-- ---- the whole

-- the forms of a contract are defined in their order
pub deployed_at : (d : Deploying) (s : State) → ordered (forms_of d.checked.now) ≡ Ok d.checked.now.order.items → deployment (deployed_seen d.deployed.now) (frame_seen d.frame.now) (contract_so_far d []) s ≡ all_charged d [] s
unfolding deployment
deployed_at d s h =
    ap (λ o. charged Deploy d.checked.now.source_length (with_known (forms_by (forms_of d.checked.now) o) (λ fs. all_defined (deployed_seen d.deployed.now) (frame_seen d.frame.now) fs (contract_so_far d [])) s)) h

-- ---- what the world does under a place

pub variable_there : (c : Contract) (contract : Principal) (x y : List ℕ) (v : Val) (s t : State) → contract ≡ c.principal → y ≡ x → t ≡ with_variables (put (place contract y) v s.variables) s → put_variable c x v s ≡ t
variable_there c contract x y v s t at named top =
    ap (λ (p : Principal). with_variables (put (place p x) v s.variables) s) (sym at)
    ∙ ap (λ (z : List ℕ). with_variables (put (place contract z) v s.variables) s) (sym named) ∙ sym top

pub fungible_there : (c : Contract) (contract : Principal) (x y : List ℕ) (cap : Option ℕ) (s t : State) → contract ≡ c.principal → y ≡ x → t ≡ with_fungibles (put (place contract y) (no_tokens cap) s.fungibles) s → put_fungible c x cap s ≡ t
fungible_there c contract x y cap s t at named top =
    ap (λ (p : Principal). with_fungibles (put (place p x) (no_tokens cap) s.fungibles) s) (sym at)
    ∙ ap (λ (z : List ℕ). with_fungibles (put (place contract z) (no_tokens cap) s.fungibles) s) (sym named) ∙ sym top

pub nonfungible_there : (c : Contract) (contract : Principal) (x y : List ℕ) (s t : State) → contract ≡ c.principal → y ≡ x → t ≡ with_nonfungibles (put (place contract y) empty s.nonfungibles) s → put_nonfungible c x s ≡ t
nonfungible_there c contract x y s t at named top =
    ap (λ (p : Principal). with_nonfungibles (put (place p x) empty s.nonfungibles) s) (sym at)
    ∙ ap (λ (z : List ℕ). with_nonfungibles (put (place contract z) empty s.nonfungibles) s) (sym named) ∙ sym top

pub absent_there : {A : Type 0} (m : Map A) (p contract : Principal) (x y : List ℕ) → contract ≡ p → y ≡ x → get (place p x) m ≡ None → get (place contract y) m ≡ None
absent_there m p contract x y at named none =
    ap (λ (q : Principal). get (place q y) m) at ∙ ap (λ (z : List ℕ). get (place p z) m) named ∙ none

-- ---- by the definition's variant

pub by_form : (d : Deploying) (p q : Purse) (i j : Seen) (k l : Definition) (cs ds : List (List ℕ × Val)) (r : Result (Unit {0}) Stop) (s t : State) → k ≡ l → Builds d p i (defined_by d (form_defined l) cs s) ds r q j t → Builds d p i (defined_by d (form_defined k) cs s) ds r q j t
by_form d p q i j k l cs ds r s t is h = subst (λ (x : Definition). Builds d p i (defined_by d (form_defined x) cs s) ds r q j t) (sym is) h

pub supply_form : (d : Deploying) (p q : Purse) (i j : Seen) (x : List ℕ) (at : Span) (k l : Option Typed) (cs ds : List (List ℕ × Val)) (r : Result (Unit {0}) Stop) (s t : State) → k ≡ l → Builds d p i (defined_by d (record { name = Some x; kind = FungibleForm (expression_if l); span = at }) cs s) ds r q j t → Builds d p i (defined_by d (record { name = Some x; kind = FungibleForm (expression_if k); span = at }) cs s) ds r q j t
supply_form d p q i j x at k l cs ds r s t is h = subst (λ (o : Option Typed). Builds d p i (defined_by d (record { name = Some x; kind = FungibleForm (expression_if o); span = at }) cs s) ds r q j t) (sym is) h

pub map_ends : (d : Deploying) (p q : Purse) (k : MapDefined) (cs : List (List ℕ × Val)) (r : Result (Unit {0}) Stop) (s : State) → Pays (costs_of d) p Define 0 r q → Makes d p (defined_by d (form_defined (MapOf k)) cs s) cs r q s
map_ends d p q k cs r s h = ends_so _ _ _ q s (ap (limited (costs_of d) p) (map_at _ _ _ _ _ k.key k.value)) (charge_ends d cs (costs_of d) p q Define 0 s r h)

pub function_ends : (d : Deploying) (p q : Purse) (f : TypedFunction) (cs : List (List ℕ × Val)) (r : Result (Unit {0}) Stop) (s : State) → Pays (costs_of d) p Define 0 r q → Makes d p (defined_by d (form_defined (Function f)) cs s) cs r q s
function_ends d p q f cs r s h = ends_so _ _ _ q s (ap (limited (costs_of d) p) (function_at _ _ _ _ _ f.access f.params.items (expression_of f.body))) (charge_ends d cs (costs_of d) p q Define 0 s r h)

-- ---- places in the order of evaluation

pub places_left : (order : List ℕ) (i : ℕ) → i < length order → drop i order ≡ get_or order i 0 ∷ drop (i + 1) order
places_left order i h = rw (add-one, drop-cons order i 0)

among : (order : List ℕ) (i n : ℕ) → slice_get order i ≡ Some n → is_in n order ≡ true
among [] i n h = absurd cc
among (m ∷ ms) zero n h = let same : m ≡ n = cc in or_left (nat_eq n m) (is_in n ms) (ap (nat_eq n) same ∙ nat_eq_equiv.refl n)
among (m ∷ ms) (suc i) n h = or_right (nat_eq n m) (is_in n ms) (among ms i n h)

pub place_within : (c : Checked) (i n : ℕ) → IsGoodOrder (forms_of c) c.order.items → slice_get c.order.items i ≡ Some n → n < length c.definitions.items
place_within c i n good h = subst (λ (m : ℕ). n < m) (length-map c.definitions.items form_defined) (good.within n (among c.order.items i n h))

pub form_here : (c : Checked) (n : ℕ) (k : Definition) → slice_get c.definitions.items n ≡ Some k → slice_get (forms_of c) n ≡ Some (form_defined k)
form_here c n k h = get_map c.definitions.items n ∙ ap (option_map form_defined) h

-- ---- the start

pub deployed_so : (d : Deploying) (cs : List (List ℕ × Val)) (s : State) → ordered (forms_of d.checked.now) ≡ Ok d.checked.now.order.items → cs ≡ [] → deployment (deployed_seen d.deployed.now) (frame_seen d.frame.now) (contract_so_far d []) s ≡ all_charged d cs s
deployed_so d cs s h none = deployed_at d s h ∙ ap (λ (l : List (List ℕ × Val)). all_charged d l s) (sym none)

pub tokens_at : (p q : Principal) (s : State) → p ≡ q → HasNoTokens q s → HasNoTokens p s
tokens_at p q s e h = subst (λ (r : Principal). HasNoTokens r s) (sym e) h
