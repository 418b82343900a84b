-- What a contract that is being deployed doesn't define yet is new.
use Rattle.std.proofs.Common.{◌≡◌, ℕ, ◌+◌, List, [], Option, Some, None, sym, ◌∙◌, subst}
use Rattle.std.specs.Prelude.{slice_get, option_map}
use Rattle.cl_shapes.specs.Limits.{Purse}
use Rattle.cl_sexpr.specs.Tree.{Tree}
use Rattle.cl_values.specs.Tree.{Tree as Val}
use Rattle.cl_forms.specs.Forms.{Form}
use Rattle.cl_events.specs.State.{State}
use Rattle.cl_code.specs.declared.definition.Definition.{Definition}
use Rattle.cl_code.specs.declared.definition.Definition.TheVariants.{Constant, Variable, MapOf, Fungible, NonFungible, Function, TopLevel}
use Rattle.cl_code.specs.Definitions.{form_defined}
use Rattle.cl_contracts.specs.declared.checked.Checked.{Checked}
use Rattle.cl_contracts.specs.Seen.{forms_of, deployed_seen, IsIndexed}
use Rattle.cl_contracts.proofs.Places.{get_map}
use Rattle.cl_meaning.specs.Answers.{Outcome, Given, Thrown, Aborted, Wrong, Deeper, Answer}
use Rattle.cl_meaning.specs.Deployed.{Contract, Deployed}
use Rattle.cl_meaning.specs.Limits.{Costs, Paid, Within, Past, pay, limit_on, Gave, limited}
use Rattle.cl_meaning.specs.Scope.{Frame}
use Rattle.cl_meaning.specs.Top.{top}
use Rattle.cl_newness.specs.Newness.{MakesNoTokens, HasNoTokens, IsNew, IsNamed, DefineOnce, OfOutcome, GivesSo}
use Rattle.cl_newness.specs.Newness as newness
use Rattle.cl_newness.proofs.Newness as laws
use Rattle.cl_newness.proofs.NoTokensMade.{top_makes_none}
use Rattle.cl_frames.specs.declared.deploying.Deploying.{Deploying}
use Rattle.cl_frames.specs.Homes.{frame_seen}
use Rattle.cl_frames.specs.Deploys.{AreNew, contract_with, contract_so_far, costs_of, defined_by}

-- ---- what the limit leaves

limit_so : {A : Type 0} (P : A → State → Type 0) (k : Paid) (o : Outcome A) (s : State) (b : A) (t : State) (q : Purse) → OfOutcome P o s → limit_on k o s ≡ Gave b t q → P b t
limit_so P (Past over r) o s b t q h e = absurd cc
limit_so P (Within r) (Given a) s b t q h e =
    let same : a ≡ b = cc in
    let there : s ≡ t = cc in
    subst (λ x. P x t) same (subst (λ u. P a u) there h)
limit_so P (Within r) (Thrown v) s b t q h e = absurd cc
limit_so P (Within r) (Aborted why) s b t q h e = absurd cc
limit_so P (Within r) Wrong s b t q h e = absurd cc
limit_so P (Within r) Deeper s b t q h e = absurd cc

gave_so : {A : Type 0} (P : A → State → Type 0) (costs : Costs) (p : Purse) (a : Answer A) (b : A) (t : State) (q : Purse) → GivesSo P a → limited costs p a ≡ Gave b t q → P b t
unfolding limited
gave_so P costs p a b t q h e = limit_so P (pay costs (Within p) a.log) a.outcome a.state b t q h e

-- what an evaluation at the top leaves has no token that wasn't there
top_leaves : (W : Deployed) (F : Frame) (c : Contract) (e : Tree) (s : State) → GivesSo (λ (v : Val) t. MakesNoTokens s t) (top W F c e s)
top_leaves W F c e s = by (top W F c e s).outcome
  where
    by : (o : Outcome Val) → OfOutcome (λ (v : Val) t. MakesNoTokens s t) o (top W F c e s).state
    by (Given v) = top_makes_none W F c e s
    by (Thrown v) = tt
    by (Aborted why) = tt
    by Wrong = tt
    by Deeper = tt

pub top_gave : (costs : Costs) (p : Purse) (W : Deployed) (F : Frame) (c : Contract) (e : Tree) (s : State) (v : Val) (t : State) (q : Purse) → limited costs p (top W F c e s) ≡ Gave v t q → MakesNoTokens s t
top_gave costs p W F c e s v t q h = gave_so (λ (w : Val) u. MakesNoTokens s u) costs p (top W F c e s) v t q (top_leaves W F c e s) h

-- ---- each definition of a contract has a name of its own

definition_named : (k : Definition) → IsNamed (form_defined k).name (form_defined k).kind
definition_named (Constant k) = tt
definition_named (Variable k) = tt
definition_named (MapOf k) = tt
definition_named (Fungible k) = tt
definition_named (NonFungible k) = tt
definition_named (Function k) = tt
definition_named (TopLevel k) = tt

form_named : (o : Option Definition) (f : Form) → option_map form_defined o ≡ Some f → IsNamed f.name f.kind
form_named None f e = absurd cc
form_named (Some k) f e =
    let there : Some (form_defined k) ≡ Some f = e in
    let same : form_defined k ≡ f = cc in
    subst (λ (g : Form). IsNamed g.name g.kind) same (definition_named k)

define_once : (c : Checked) → IsIndexed c → DefineOnce (forms_of c)
define_once c indexed = record {
  named = λ n f h. form_named (slice_get c.definitions.items n) f (sym (get_map c.definitions.items n) ∙ h);
  once = λ x n m h k. let same : Some n ≡ Some m = sym (indexed.placed x n h) ∙ indexed.placed x m k in cc;
}

-- ---- one after another

pub new_at_first : (c : Checked) (s : State) → HasNoTokens c.principal s → AreNew c 0 [] s
new_at_first c s h = laws.new_at_first c.principal (forms_of c) c.order.items s h

-- what this turn defines is new
pub new_here : (c : Checked) (i n : ℕ) (f : Form) (cs : List (List ℕ × Val)) (s : State) → slice_get c.order.items i ≡ Some n → slice_get (forms_of c) n ≡ Some f → AreNew c i cs s → (x : List ℕ) → f.name ≡ Some x → IsNew c.principal x cs s
new_here c i n f cs s h k new = laws.new_here c.principal (forms_of c) c.order.items i n f (contract_with c cs) s h k new

-- after a turn
pub new_after : (d : Deploying) (p q : Purse) (i n : ℕ) (k : Definition) (cs ds : List (List ℕ × Val)) (s t : State) → IsIndexed d.checked.now → slice_get d.checked.now.order.items i ≡ Some n → slice_get (forms_of d.checked.now) n ≡ Some (form_defined k) → limited (costs_of d) p (defined_by d (form_defined k) cs s) ≡ Gave (contract_so_far d ds) t q → AreNew d.checked.now i cs s → AreNew d.checked.now (i + 1) ds t
new_after d p q i n k cs ds s t indexed h there e new =
    let c = d.checked.now in
    gave_so (λ (after : Contract) u. newness.AreNew c.principal (forms_of c) c.order.items (i + 1) after.constants u) (costs_of d) p (defined_by d (form_defined k) cs s) (contract_so_far d ds) t q
    (laws.new_after (deployed_seen d.deployed.now) (frame_seen d.frame.now) (contract_so_far d cs) (forms_of c) c.order.items i n (form_defined k) s (define_once c indexed) indexed.order.once h there new) e
