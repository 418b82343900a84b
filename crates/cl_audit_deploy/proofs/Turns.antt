-- One form after another.
use Rattle.std.proofs.Common.{◌≡◌, ℕ, zero, suc, add-one, ◌+◌, ◌<◌, true, List, [], ◌∷◌, length, drop, get_or, Option, Some, None, Result, Ok, Err, refl, sym, ap, ◌∙◌, subst}
use Rattle.std.specs.Prelude.{unwrap_or, slice_get, nat_eq}
use Rattle.std.specs.Cmp.{nat_eq_equiv}
use Rattle.std.specs.List.{cons_option, IsDistinct}
use Rattle.std.proofs.Math.Seq.{drop-cons}
use Rattle.std.proofs.lemmas.Bool.{or_left, or_right}
use Rattle.cl_shapes.specs.declared.name.CostName.TheVariants.{Deploy}
use Rattle.cl_sexpr.specs.Tree.{Tree}
use Rattle.cl_values.specs.Tree.{Tree as Val}
use Rattle.cl_maps.specs.Maps.{get}
use Rattle.cl_forms.specs.declared.form.FormKind.{FormKind as Kind}
use Rattle.cl_forms.specs.Forms.{Form}
use Rattle.cl_forms.specs.FormView.{plain_kind}
use Rattle.cl_forms.specs.Order.{ordered, is_in, IsGoodOrder}
use Rattle.cl_events.specs.State.{State}
use Rattle.cl_meaning.specs.Answers.{Outcome, Given, Thrown, Aborted, Wrong, Deeper, Answer, give, charged, and_then, with_known}
use Rattle.cl_meaning.specs.Deployed.{Contract, Deployed}
use Rattle.cl_meaning.specs.Deploying.{all_defined, defined, deployment, forms_at, forms_by}
use Rattle.cl_meaning.specs.Limits.{Charge}
use Rattle.cl_meaning.specs.Scope.{Frame}
use Rattle.cl_meaning.specs.Top.{top}
use Rattle.cl_newness.specs.Newness.{MakesNoTokens, DefineOnce, AreNew, OfOutcome, GivesSo}
use Rattle.cl_newness.proofs.Newness.{new_after}
use Rattle.cl_newness.proofs.NoTokensMade.{top_makes_none}
use Rattle.cl_walks.specs.declared.stop.Stop.{Stop}
use Rattle.cl_walks.specs.Walked.{Rules, Book, Followed, Going, Past, follow, ended_on, Gave, walked}
use Rattle.cl_audit_steps.specs.declared.scope.Contract.{Contract as ContractOfCode}
use Rattle.cl_audit_steps.specs.declared.scope.Scope.{Scope}
use Rattle.cl_audit_steps.specs.Seen.{contract_seen, contracts_seen, frame_seen}
use Rattle.cl_audit_walk.specs.declared.run.Run.{Run}
use Rattle.cl_audit_walk.specs.Evaluates.{book, rules, Evaluates}
use Rattle.cl_audit_walk.proofs.Rules.{Handed, so, goes_on, stopped, gives}
use Rattle.cl_audit_deploy.specs.Deploying.{all_by, all_charged, defined_as, defined_by, deployment_of, top_of, with_defined}

-- ---- what is given

given_so : {K A : Type 0} (P : A → State → Type 0) (q : Followed K) (o : Outcome A) (s : State) (a : A) (t : State) (b : Book K) → OfOutcome P o s → ended_on q o s ≡ Gave a t b → P a t
given_so P (Past over c) o s a t b h e = absurd cc
given_so P (Going c) (Given v) s a t b h e =
    let same : v ≡ a = cc in
    let there : s ≡ t = cc in
    subst (λ x. P x t) same (subst (λ u. P v u) there h)
given_so P (Going c) (Thrown v) s a t b h e = absurd cc
given_so P (Going c) (Aborted why) s a t b h e = absurd cc
given_so P (Going c) Wrong s a t b h e = absurd cc
given_so P (Going c) Deeper s a t b h e = absurd cc

-- what an answer gives is so where a walk along it gave something
pub walked_so : {K A : Type 0} (P : A → State → Type 0) (R : Rules K) (b : Book K) (x : Answer A) (a : A) (t : State) (c : Book K) → GivesSo P x → walked R b x ≡ Gave a t c → P a t
unfolding walked
walked_so P R b x a t c h e = given_so P (follow R (Going b) x.log) x.outcome x.state a t c h e

-- an evaluation at the top makes no token
top_leaves : (W : Deployed) (F : Frame) (c : Contract) (e : Tree) (s : State) → GivesSo (λ (v : Val) t. MakesNoTokens s t) (top W F c e s)
top_leaves W F c e s = by (top W F c e s).outcome
  where
    by : (o : Outcome Val) → OfOutcome (λ (v : Val) t. MakesNoTokens s t) o (top W F c e s).state
    by (Given v) = top_makes_none W F c e s
    by (Thrown v) = tt
    by (Aborted why) = tt
    by Wrong = tt
    by Deeper = tt

pub none_still : (S : Scope) (c : ContractOfCode) (e : Tree) (v : Val) (old new : Run) (key : List ℕ) → Evaluates S (top_of S c e) old (Ok v) new → get key old.world.stack.top.fungibles ≡ None → get key new.world.stack.top.fungibles ≡ None
none_still S c e v old new key h none =
    (walked_so (λ (w : Val) t. MakesNoTokens old.world.stack.top t) (rules S) (book old) (top_of S c e old.world.stack.top) v new.world.stack.top (book new) (top_leaves _ _ (contract_seen c) e old.world.stack.top) h.ends).fungibles key none

-- ---- what a form is

-- a form of this kind
pub of_kind : (S : Scope) (x : List ℕ) (k j : Kind) (c : ContractOfCode) (old new : Run) (r : Result Contract Stop) → k ≡ j → Evaluates S (defined_as S x (plain_kind j) c) old r new → Evaluates S (defined_as S x (plain_kind k) c) old r new
of_kind S x k j c old new r h e = subst (λ (i : Kind). Evaluates S (defined_as S x (plain_kind i) c) old r new) (sym h) e

-- ---- one form after another

none_more : (W : Deployed) (F : Frame) (c : Contract) (s : State) → all_defined W F [] c s ≡ give c s
unfolding all_defined
none_more W F c s = refl

one_more : (W : Deployed) (F : Frame) (f : Form) (fs : List Form) (c : Contract) (s : State) → all_defined W F (f ∷ fs) c s ≡ and_then (defined W F (unwrap_or f.name []) f.kind c s) (all_defined W F fs)
unfolding all_defined
one_more W F f fs c s = refl

at_more : (forms : List Form) (n : ℕ) (ns : List ℕ) (f : Form) → slice_get forms n ≡ Some f → forms_at forms (n ∷ ns) ≡ f ∷ forms_at forms ns
at_more forms n ns f h = ap (λ (o : Option Form). cons_option o (forms_at forms ns)) h

-- ---- places in the order of evaluation

pub places_left : (order : List ℕ) (i : ℕ) → i < length order → drop i order ≡ get_or order i 0 ∷ drop (i + 1) order
places_left order i h = rw (add-one, drop-cons order i 0)

among : (order : List ℕ) (i n : ℕ) → slice_get order i ≡ Some n → is_in n order ≡ true
among [] i n h = absurd cc
among (m ∷ ms) zero n h = let same : m ≡ n = cc in or_left (nat_eq n m) (is_in n ms) (ap (nat_eq n) same ∙ nat_eq_equiv.refl n)
among (m ∷ ms) (suc i) n h = or_right (nat_eq n m) (is_in n ms) (among ms i n h)

pub place_within : (forms : List Form) (order : List ℕ) (i n : ℕ) → IsGoodOrder forms order → slice_get order i ≡ Some n → n < length forms
place_within forms order i n good h = good.within n (among order i n h)

-- ---- what stays new

new_in : (c : ContractOfCode) (o : Option (List ℕ × Val)) (order : List ℕ) (j : ℕ) (t : State) → AreNew c.principal c.forms order j (with_defined c o).constants t → AreNew (with_defined c o).principal (with_defined c o).forms order j (with_defined c o).constants t
new_in c None order j t h = h
new_in c (Some e) order j t h = h

pub new_next : (S : Scope) (order : List ℕ) (i n : ℕ) (f : Form) (c d : ContractOfCode) (o : Option (List ℕ × Val)) (here mid : Run) → DefineOnce c.forms → IsDistinct nat_eq order → slice_get order i ≡ Some n → slice_get c.forms n ≡ Some f → contract_seen d ≡ with_defined c o →
    AreNew c.principal c.forms order i c.constants here.world.stack.top → Evaluates S (defined_by S f c) here (Ok (with_defined c o)) mid → AreNew d.principal d.forms order (i + 1) d.constants mid.world.stack.top
new_next S order i n f c d o here mid once distinct at there added new e =
    subst (λ (K : Contract). AreNew K.principal K.forms order (i + 1) K.constants mid.world.stack.top) (sym added)
    (new_in c o order (i + 1) mid.world.stack.top
    (walked_so (λ (K : Contract) t. AreNew c.principal c.forms order (i + 1) K.constants t) (rules S) (book here) (defined_by S f c here.world.stack.top) (with_defined c o) mid.world.stack.top (book mid)
    (new_after (contracts_seen S.contracts.now.contracts) (frame_seen S.frame.now) (contract_seen c) c.forms order i n f here.world.stack.top once distinct at there new) e.ends))

-- the contract keeps all but its constants
pub same_forms : (c : ContractOfCode) (o : Option (List ℕ × Val)) (d : Contract) → d ≡ with_defined c o → d.forms ≡ c.forms
same_forms c None d h = ap (λ (k : Contract). k.forms) h
same_forms c (Some e) d h = ap (λ (k : Contract). k.forms) h

pub same_principal : (c : ContractOfCode) (o : Option (List ℕ × Val)) (d : Contract) → d ≡ with_defined c o → d.principal ≡ c.principal
same_principal c None d h = ap (λ (k : Contract). k.principal) h
same_principal c (Some e) d h = ap (λ (k : Contract). k.principal) h

module _ (S : Scope) where
  -- the forms at these places, from a contract on
  abbrev pub rest : List Form → List ℕ → Contract → State → Answer Contract
  rest forms places c s = all_defined (contracts_seen S.contracts.now.contracts) (frame_seen S.frame.now) (forms_at forms places) c s

  -- however the forms that are left end from here, so all of them end from the start
  abbrev pub Defining : List ℕ → ContractOfCode → List ℕ → ContractOfCode → Run → Run → Type 0
  Defining places all left c start here = (r : Result Contract Stop) (new : Run) → Evaluates S (all_by S left c) here r new → Evaluates S (all_by S places all) start r new

  next : (n : ℕ) (ns : List ℕ) (f : Form) (c : ContractOfCode) (s : State) → slice_get c.forms n ≡ Some f → all_by S (n ∷ ns) c s ≡ and_then (defined_by S f c s) (rest c.forms ns)
  next n ns f c s h =
      ap (λ fs. all_defined (contracts_seen S.contracts.now.contracts) (frame_seen S.frame.now) fs (contract_seen c) s) (at_more c.forms n ns f h)
      ∙ one_more (contracts_seen S.contracts.now.contracts) (frame_seen S.frame.now) f (forms_at c.forms ns) (contract_seen c) s

  -- a form was defined, and the contract has what it defines
  pub form_turn : (places left ns : List ℕ) (n : ℕ) (f : Form) (all c d : ContractOfCode) (o : Option (List ℕ × Val)) (start here mid : Run) → left ≡ n ∷ ns → slice_get c.forms n ≡ Some f → contract_seen d ≡ with_defined c o → Defining places all left c start here → Evaluates S (defined_by S f c) here (Ok (with_defined c o)) mid → Defining places all ns d start mid
  form_turn places left ns n f all c d o start here mid is there added onward turn r new e =
      let forms : d.forms ≡ c.forms = same_forms c o (contract_seen d) added in
      let at : Evaluates S (rest c.forms ns (with_defined c o)) mid r new = subst (λ k. Evaluates S (rest c.forms ns k) mid r new) added (subst (λ fs. Evaluates S (rest fs ns (contract_seen d)) mid r new) forms e) in
      onward r new (subst (λ l. Evaluates S (all_by S l c) here r new) (sym is)
      (so S (all_by S (n ∷ ns) c) (λ s. and_then (defined_by S f c s) (rest c.forms ns)) here new r (λ s. next n ns f c s there)
      (goes_on S (defined_by S f c) (rest c.forms ns) (with_defined c o) here mid new r turn at)))

  -- it was not
  pub form_stopped : (places left ns : List ℕ) (n : ℕ) (f : Form) (all c : ContractOfCode) (x : Stop) (start here mid : Run) (r : Result Contract Stop) → left ≡ n ∷ ns → slice_get c.forms n ≡ Some f → Handed r x → Defining places all left c start here → Evaluates S (defined_by S f c) here (Err x) mid → Evaluates S (all_by S places all) start r mid
  form_stopped places left ns n f all c x start here mid r is there handed onward turn =
      onward r mid (subst (λ l. Evaluates S (all_by S l c) here r mid) (sym is)
      (so S (all_by S (n ∷ ns) c) (λ s. and_then (defined_by S f c s) (rest c.forms ns)) here mid r (λ s. next n ns f c s there)
      (stopped S (defined_by S f c) (rest c.forms ns) x here mid r handed turn)))

  -- none is left
  pub forms_end : (places left : List ℕ) (all c : ContractOfCode) (start here : Run) → left ≡ [] → Defining places all left c start here → Evaluates S (all_by S places all) start (Ok (contract_seen c)) here
  forms_end places left all c start here none onward =
      onward (Ok (contract_seen c)) here (subst (λ l. Evaluates S (all_by S l c) here (Ok (contract_seen c)) here) (sym none)
      (so S (all_by S [] c) (give (contract_seen c)) here here (Ok (contract_seen c)) (λ s. none_more (contracts_seen S.contracts.now.contracts) (frame_seen S.frame.now) (contract_seen c) s)
      (gives S (contract_seen c) (contract_seen c) here refl)))

  -- ---- the whole

  pub charge_deploy : (c : Charge) (n : ℕ) (f : State → Answer Contract) (old new : Run) (r : Result Contract Stop) → c ≡ (Deploy, n) → Evaluates S (λ s. charged c.0 c.1 (f s)) old r new → Evaluates S (λ s. charged Deploy n (f s)) old r new
  charge_deploy c n f old new r h e = subst (λ (d : Charge). Evaluates S (λ s. charged d.0 d.1 (f s)) old r new) h e

  -- the forms in the order of evaluation
  pub deployed_at : (places : List ℕ) (c : ContractOfCode) (s : State) → ordered c.forms ≡ Ok places → deployment_of S c s ≡ all_charged S places c s
  unfolding deployment
  deployed_at places c s h =
      ap (λ o. charged Deploy c.source_length (with_known (forms_by c.forms o) (λ fs. all_defined (contracts_seen S.contracts.now.contracts) (frame_seen S.frame.now) fs (contract_seen c)) s)) h
