-- What the result of a block has.
use Rattle.std.specs.Prelude.{nat_eq, if◌then◌else◌}
use Rattle.std.proofs.Common.{◌≡◌, ℕ, Bool, true, false, [], ap, arith}
use Rattle.std.proofs.lemmas.Bool.Decides.{nat_tests}
use Rattle.cl_costs.specs.Schedules.{ScheduleSeen, costs_at, epoch_at}
use Rattle.cl_tx.specs.Nodes.{NodeSeen}
use Rattle.cl_tx.specs.Rebounds.{rebounds, rebounds_at}

eq_true : (a b : ℕ) → a ≡ b → nat_eq a b ≡ true
eq_true a b e = grind (arith, nat_tests)

eq_false : (a b : ℕ) → (a ≡ b → ⊥) → nat_eq a b ≡ false
eq_false a b e = grind (arith, nat_tests)

module _ (schedule : ScheduleSeen) (node : NodeSeen) (to : ℕ) where
  pub same_epoch : epoch_at schedule node.height ≡ epoch_at schedule to → rebounds_at schedule node to ≡ []
  unfolding rebounds_at
  same_epoch e = ap (λ (b : Bool). if b then [] else rebounds (costs_at schedule to) node) (eq_true (epoch_at schedule node.height) (epoch_at schedule to) e)

  pub other_epoch : (epoch_at schedule node.height ≡ epoch_at schedule to → ⊥) → rebounds_at schedule node to ≡ rebounds (costs_at schedule to) node
  unfolding rebounds_at
  other_epoch e = ap (λ (b : Bool). if b then [] else rebounds (costs_at schedule to) node) (eq_false (epoch_at schedule node.height) (epoch_at schedule to) e)
