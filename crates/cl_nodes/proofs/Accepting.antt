-- What is accepted of a source, and why it is refused.
use Rattle.std.proofs.Common.{◌≡◌, List, [], Some, refl, sym, subst}
use Rattle.cl_types.specs.Fault.{IsRefusal}
use Rattle.cl_types.specs.declared.fault.Fault.{Fault}
use Rattle.cl_types.specs.declared.fault.Fault.TheVariants.{Refused, NoMemory as OutOfMemory}
use Rattle.cl_sexpr.specs.declared.rule.Refusal.{Refusal}
use Rattle.cl_rules.specs.Context.{Known, known_at}
use Rattle.cl_rules.specs.Acceptance.{FirstBreakBeforeBounds, before_bounds}
use Rattle.cl_contracts.specs.declared.checked.Checked.{Checked}
use Rattle.cl_contracts.specs.Seen.{forms_of}
use Rattle.cl_contracts.specs.Standings.{AreStanding}
use Rattle.cl_tx.specs.declared.outcome.EntryRefusal.{EntryRefusal}
use Rattle.cl_tx.specs.declared.outcome.EntryRefusal.TheVariants.{NameTaken, ContractRefused}
use Rattle.cl_tx.specs.Step.{name_taken, source_refused}
use Rattle.cl_nodes.specs.declared.asked.Deployment.{Deployment}
use Rattle.cl_nodes.specs.Asked.{principal_of, text_in}
use Rattle.cl_nodes.specs.Bounded.{IsTooDear, costs_of, entries_of}
use Rattle.cl_nodes.specs.declared.contracts.Contracts.{Contracts as ContractsOfCode}
use Rattle.cl_nodes.specs.Accepting.{IsChecked, IsDeployRefusal, IsNew, IsRefusalOf}
use Rattle.cl_nodes.proofs.Deployments.{above_breaks}

-- the refusal of an entry whose source breaks this
abbrev pub for_break : Refusal → EntryRefusal
for_break r = ContractRefused (record { rule = r.rule; span = r.span; names = r.names.items })

-- what holds of the entry's refusal, by what holds of the source's
pub refused_by : (f : Fault Refusal) (g : Fault EntryRefusal) (Q : Refusal → Type 0) (P : EntryRefusal → Type 0) → IsRefusalOf f g → IsRefusal f Q → ((r : Refusal) → Q r → P (for_break r)) → IsRefusal g P
refused_by (Refused r) (Refused q) Q P is h go = subst P (sym is) (go r h)
refused_by (Refused r) OutOfMemory Q P is h go = absurd is
refused_by OutOfMemory (Refused q) Q P is h go = absurd is
refused_by OutOfMemory OutOfMemory Q P is h go = tt

module _ (d : Deployment) (cs : ContractsOfCode) where
  pub is_taken : ((known : List Known) → AreStanding [] (entries_of cs) known → (k : Known) × (known_at (principal_of d) known ≡ Some k)) → IsDeployRefusal d cs NameTaken
  is_taken there = λ node standing. let k = there node.known standing in name_taken k.0 k.1 refl

  module _ (new : IsNew (entries_of cs) (principal_of d)) where
    -- a rule before the bounds is broken
    pub is_broken : (r : Refusal) → ((known : List Known) → AreStanding [] (entries_of cs) known → FirstBreakBeforeBounds known (principal_of d) (text_in d) r.rule r.span r.names.items) → IsDeployRefusal d cs (for_break r)
    is_broken r first = λ node standing.
        source_refused r.rule r.span r.names.items (new.none_known node.known standing) (before_bounds (first node.known standing)) refl

    -- a bound is above the limit
    pub is_too_dear : (c : Checked) → IsChecked (entries_of cs) (principal_of d) (text_in d) c → (r : Refusal) → IsTooDear cs c r → IsDeployRefusal d cs (for_break r)
    is_too_dear c checked r dear = λ node standing.
        let f = checked.found node.known standing in
        source_refused r.rule r.span r.names.items (new.none_known node.known standing)
        (above_breaks node.known (principal_of d) (costs_of cs) (text_in d) (forms_of c) c.order.items f.0 dear.dimension r.rule r.span r.names.items f.1 f.2 dear.rule dear.names (dear.first node.known standing f.0 f.3))
        refl
