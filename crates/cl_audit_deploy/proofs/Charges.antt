-- Charges of a deployment, and what is put in the world behind them.
use Rattle.std.proofs.Common.{◌≡◌, ◌≢◌, ℕ, List, Option, Result, Ok, Err, sym, ap, ◌∙◌, subst}
use Rattle.cl_shapes.specs.declared.name.CostName.TheVariants.{Define}
use Rattle.cl_values.specs.Tree.{Tree as Val}
use Rattle.cl_events.specs.State.{State}
use Rattle.cl_state.specs.Stack.{Stack, with_top}
use Rattle.cl_meaning.specs.Answers.{Answer, Given, give, charged}
use Rattle.cl_meaning.specs.Deployed.{Contract}
use Rattle.cl_meaning.specs.Limits.{Charge}
use Rattle.cl_walks.specs.declared.stop.Stop.{Stop}
use Rattle.cl_walks.specs.declared.stop.Stop.TheVariants as stops
use Rattle.cl_walks.specs.Walked.{Gave, walked}
use Rattle.cl_walks.proofs.WalkLaws.{walked-stop}
use Rattle.cl_audit_steps.specs.declared.scope.Contract.{Contract as ContractOfCode}
use Rattle.cl_audit_steps.specs.declared.scope.Scope.{Scope}
use Rattle.cl_audit_walk.specs.declared.run.Run.{Run}
use Rattle.cl_audit_walk.specs.Evaluates.{book, rules, Evaluates}
use Rattle.cl_audit_walk.proofs.Rules.{Handed, ends_eq, hand}
use Rattle.cl_audit_deploy.specs.Deploying.{PaysFirst, defined_in, opened}

-- an error that is handed on
pub hand_in : (c : ContractOfCode) (r : Result (Option (List ℕ × Val)) Stop) (e : Stop) → Handed r e → Handed (defined_in c r) e
hand_in c r e h = (h.0, ap (defined_in c) h.1, h.2)

pub hand_opened : (c : ContractOfCode) (r : Result (Unit {0}) Stop) (e : Stop) → Handed r e → Handed (opened r c) e
hand_opened c r e h = (h.0, ap (λ q. opened q c) h.1, h.2)

-- what didn't end for want of memory
pub remembers : (r : Result (Unit {0}) Stop) (c : ContractOfCode) → r ≢ Err stops.NoMemory → opened r c ≢ Err stops.NoMemory
remembers (Ok u) c n e = absurd cc
remembers (Err stop) c n e = n (let same : stop ≡ stops.NoMemory = cc in ap Err same)

module _ (S : Scope) where
  -- behind a charge that was paid
  pub paid : (c : Charge) (f : State → Answer Contract) (u : Unit {0}) (old mid new : Run) (r : Result Contract Stop) → PaysFirst S c old (Ok u) mid → Evaluates S f mid r new → Evaluates S (λ s. charged c.0 c.1 (f s)) old r new
  paid c f u old mid new r p e = record {
    ends = ends_eq _ _ r (book new) new.world.stack.top (ap (λ (t : Stack). walked (rules S) (book old) (charged c.0 c.1 (f t.top))) (sym p.world) ∙ p.charged (f mid.world.stack.top)) e.ends;
    below = e.below ∙ ap (λ (t : Stack). t.below) p.world;
  }

  -- behind one that was not
  pub unpaid : (c : Charge) (f : State → Answer Contract) (e : Stop) (old mid : Run) (r : Result Contract Stop) → Handed r e → PaysFirst S c old (Err e) mid → Evaluates S (λ s. charged c.0 c.1 (f s)) old r mid
  unpaid c f e old mid r h p = record {
    ends = hand _ r e (book mid) mid.world.stack.top h (p.charged (f old.world.stack.top) mid.world.stack.top);
    below = ap (λ (t : Stack). t.below) p.world;
  }

  -- the charge of a definition
  pub at_define : (c : Charge) (n : ℕ) (f : State → Answer Contract) (old new : Run) (r : Result Contract Stop) → c ≡ (Define, n) → Evaluates S (λ s. charged c.0 c.1 (f s)) old r new → Evaluates S (λ s. charged Define n (f s)) old r new
  at_define c n f old new r h e = subst (λ (d : Charge). Evaluates S (λ s. charged d.0 d.1 (f s)) old r new) h e

  -- what is put in the world
  pub puts : (c : Contract) (f : State → State) (t : State) (old new : Run) → f old.world.stack.top ≡ t → new.world.stack ≡ with_top old.world.stack t → book new ≡ book old → Evaluates S (λ s. give c (f s)) old (Ok c) new
  puts c f t old new is put same = record {
    ends =
        walked-stop (rules S) (book old) (Given c) (f old.world.stack.top)
        ∙ (λ i. Gave c ((is ∙ ap (λ (k : Stack). k.top) (sym put)) i) (sym same i));
    below = ap (λ (k : Stack). k.below) put;
  }
