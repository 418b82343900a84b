use Rattle.std.proofs.Common.{◌≡◌, ◌+◌, ◌*◌, ◌≤◌, drop, length}
use Rattle.std.specs.Vec.{vec_capacity}
use Rattle.cl_operands.specs.Rows.{rows_from, entries_from}
use Rattle.cl_meaning.specs.Meaning.{means, applied}
use Rattle.cl_meaning.specs.Scope.{BoundValues}
use Rattle.cl_audit_steps.specs.Items.{fields_seen}
use Rattle.cl_audit_steps.specs.Seen.{callee_seen, seen}
use Rattle.cl_audit_walk.specs.Turns.{field_taken}
use Rattle.cl_audit_walk.proofs.Nodes.{Onward, Leads}
use Rattle.cl_audit_walk.proofs.Applying.{Lets}
use Rattle.cl_audit_walk.proofs.Iterating.{Folding}
use Rattle.cl_audit_walk.proofs.walk.+walk.Given as goal

abbrev pub decreases-take : goal.decreases-take
decreases-take l = 16 * l.depth + 0

abbrev pub decreases-visit : goal.decreases-visit
decreases-visit l = 16 * l.below + 15

abbrev pub decreases-begin : goal.decreases-begin
decreases-begin l = 16 * l.below + 14

abbrev pub decreases-end : goal.decreases-end
decreases-end l = 16 * l.below + 9

abbrev pub decreases-end_as : goal.decreases-end_as
decreases-end_as l = 16 * l.below + 8

abbrev pub decreases-throw : goal.decreases-throw
decreases-throw l = 16 * l.below + 1

abbrev pub decreases-take_all : goal.decreases-take_all
decreases-take_all l = 16 * l.below + 1

abbrev pub decreases-truths : goal.decreases-truths
decreases-truths l = 16 * l.below + 1

abbrev pub invariant-take_all-loop-item : goal.invariant-take_all-loop-item
invariant-take_all-loop-item l = record {
  onward : Onward l.scope (means l.below (seen l.scope l.names.values)) l.items (drop l.item-index l.items) l.values.items l.initial.run l.run;
  room : length l.items ≤ vec_capacity l.values;
  count : length l.values.items ≡ l.item-index;
}

abbrev pub invariant-truths-loop-item : goal.invariant-truths-loop-item
invariant-truths-loop-item l = Leads l.scope l.kind (means l.below) (seen l.scope l.names.values) l.items l.item-index l.initial.run l.run

abbrev pub decreases-with : goal.decreases-with
decreases-with l = 16 * l.below + 2

abbrev pub decreases-within : goal.decreases-within
decreases-within l = 16 * l.below + 1

abbrev pub decreases-as_contract : goal.decreases-as_contract
decreases-as_contract l = 16 * l.below + 1

abbrev pub decreases-enter : goal.decreases-enter
decreases-enter l = 16 * l.depth + 4

abbrev pub decreases-body : goal.decreases-body
decreases-body l = 16 * l.below + 3

abbrev pub decreases-let_in : goal.decreases-let_in
decreases-let_in l = 16 * l.below + 12

abbrev pub invariant-let_in-loop-item : goal.invariant-let_in-loop-item
invariant-let_in-loop-item l = Lets l.scope (means l.below) (seen l.scope l.names.values) l.body l.bindings l.item-index l.own l.initial.run l.run

abbrev pub decreases-read : goal.decreases-read
decreases-read l = 16 * l.below + 10

abbrev pub decreases-act : goal.decreases-act
decreases-act l = 16 * l.below + 10

abbrev pub decreases-acts : goal.decreases-acts
decreases-acts l = 16 * l.below + 10

abbrev pub decreases-tuple : goal.decreases-tuple
decreases-tuple l = 16 * l.below + 10

abbrev pub decreases-take_fields : goal.decreases-take_fields
decreases-take_fields l = 16 * l.below + 1

abbrev pub decreases-enter_in : goal.decreases-enter_in
decreases-enter_in l = 16 * l.below + 5

abbrev pub decreases-by_name : goal.decreases-by_name
decreases-by_name l = 16 * l.depth + 4

abbrev pub decreases-apply : goal.decreases-apply
decreases-apply l = 16 * l.depth + 5

abbrev pub decreases-apply_each : goal.decreases-apply_each
decreases-apply_each l = 16 * l.below + 6

abbrev pub decreases-map_entries : goal.decreases-map_entries
decreases-map_entries l = 16 * l.below + 7

abbrev pub decreases-filter : goal.decreases-filter
decreases-filter l = 16 * l.below + 7

abbrev pub decreases-fold : goal.decreases-fold
decreases-fold l = 16 * l.below + 7

abbrev pub invariant-take_fields-loop-field : goal.invariant-take_fields-loop-field
invariant-take_fields-loop-field l = Onward l.scope (field_taken (means l.below) (seen l.scope l.names.values)) (fields_seen l.fields) (fields_seen (drop l.field-index l.fields)) l.entries.items l.initial.run l.run

abbrev pub invariant-apply_each-loop-place : goal.invariant-apply_each-loop-place
invariant-apply_each-loop-place l = (outer : BoundValues) → Onward l.scope (applied l.below (seen l.scope outer) (callee_seen l.callee)) (rows_from 0 l.sequences) (rows_from l.place l.sequences) l.results.items l.initial.run l.run

abbrev pub invariant-fold-loop-place : goal.invariant-fold-loop-place
invariant-fold-loop-place l = (outer : BoundValues) → Folding l.scope (applied l.below) (seen l.scope outer) (callee_seen l.callee) (entries_from 0 l.sequence) l.initial.so_far (entries_from l.place l.sequence) l.so_far l.initial.run l.run
