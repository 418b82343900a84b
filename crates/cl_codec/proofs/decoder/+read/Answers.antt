use Rattle.std.proofs.Common.{◌≡◌, ℕ, ◌-◌, List, arith, ap, sym, subst, ◌∙◌}
use Rattle.std.specs.Prelude.{Err, Some, None}
use Rattle.cl_types.specs.Fault.{IsRefusal}
use Rattle.cl_types.proofs.Faults.{refused_so}
use Rattle.cl_values.specs.Tree.{Tree, Items, Entries}
use Rattle.cl_values.specs.Reading.{Read, read_value, read_if_prefix, prefix_at, read_items, read_entries}
use Rattle.cl_codec.proofs.RowsRead.{with_items, items_start, items_step, items_end, with_entries, entries_start, entries_step, entries_fault, entries_end}
use Rattle.cl_codec.specs.Entry.{read_entry}
use Rattle.cl_codec.proofs.Levels.{value_at}
use Rattle.cl_codec.proofs.decoder.+read.Goals as goal

pub read_value-returns-in-Err-clause-broken : goal.read_value-returns-in-Err-clause-broken
read_value-returns-in-Err-clause-broken t c =
    let at : read_value c.args.levels c.args.total c.args.bytes.now ≡ read_if_prefix (read_value (c.args.levels - 1) c.args.total) c.args.total c.in_ok-prefix.prefix (prefix_at c.in_ok-prefix.prefix) c.in_ok-prefix.rest.now = value_at c.args.levels c.args.total c.in_ok-prefix.prefix c.args.bytes.now c.in_ok-prefix.rest.now c.in_ok-prefix.ensures.found (omega arith) in
    subst (λ (r : Read Tree). IsRefusal c.in-Err.fault (λ fault. r ≡ Err fault)) (sym at) c.in-Err.ensures.broken

pub read_value-returns-in-Ok-clause-found : goal.read_value-returns-in-Ok-clause-found
read_value-returns-in-Ok-clause-found t c =
    value_at c.args.levels c.args.total c.in_ok-prefix.prefix c.args.bytes.now c.in_ok-prefix.rest.now c.in_ok-prefix.ensures.found (omega arith) ∙ c.in-Ok.ensures.found

pub read_items-loop-left-preserved : goal.read_items-loop-left-preserved
read_items-loop-left-preserved t c =
    let read : List ℕ → Read Tree = read_value c.args.levels c.args.total in
    c.loop-left.invariant
    ∙ items_step read c.loop-left.values.items c.loop-left.left c.loop-left.rest.now c.in-Ok.value c.in-Ok.more.now (omega arith) c.in-Ok.ensures.found
    ∙ ap (λ (vs : List Tree). with_items vs (read_items read (c.loop-left.left - 1) c.in-Ok.more.now)) (sym c.in_ok-push-in-Ok.ensures.items)

pub read_items-returns-clause-found : goal.read_items-returns-clause-found
read_items-returns-clause-found t c =
    c.loop-left.invariant ∙ items_end (read_value c.args.levels c.args.total) c.loop-left.values.items c.loop-left.left c.loop-left.rest.now (omega arith)

pub read_entries-loop-left-preserved : goal.read_entries-loop-left-preserved
read_entries-loop-left-preserved t c =
    let read : List ℕ → Read Tree = read_value c.args.levels c.args.total in
    c.loop-left.invariant
    ∙ entries_step read c.args.total c.loop-left.entries.items c.loop-left.last c.loop-left.left c.loop-left.rest.now c.in-Ok.entry.0 c.in-Ok.entry.1 c.in-Ok.more.now (omega arith) c.in-Ok.ensures.found
    ∙ ap (λ (es : List (List ℕ × Tree)). with_entries es (read_entries read c.args.total (Some c.in-Ok.entry.0) (c.loop-left.left - 1) c.in-Ok.more.now)) (sym c.in_ok-push-in-Ok.ensures.items)

pub read_entries-returns-clause-found : goal.read_entries-returns-clause-found
read_entries-returns-clause-found t c =
    c.loop-left.invariant ∙ entries_end (read_value c.args.levels c.args.total) c.args.total c.loop-left.entries.items c.loop-left.last c.loop-left.left c.loop-left.rest.now (omega arith)

pub read_entries-returns-in-Err-clause-broken : goal.read_entries-returns-in-Err-clause-broken
read_entries-returns-in-Err-clause-broken t c =
    let read : List ℕ → Read Tree = read_value c.args.levels c.args.total in
    refused_so c.in-Err.fault (λ fault. read_entry read c.args.total c.loop-left.last c.loop-left.rest.now ≡ Err fault) (λ fault. read_entries read c.args.total None c.args.count c.args.bytes.now ≡ Err fault) (λ fault e. c.loop-left.invariant ∙ entries_fault read c.args.total c.loop-left.entries.items c.loop-left.last c.loop-left.left c.loop-left.rest.now fault (omega arith) e) c.in-Err.ensures.broken

-- what stands behind a byte is what stands behind the prefix that it is
at_prefix : (read : List ℕ → Read Tree) (total prefix b : ℕ) (bytes : List ℕ) → prefix ≡ b → read_if_prefix read total prefix (prefix_at prefix) bytes ≡ read_if_prefix read total b (prefix_at b) bytes
at_prefix read total prefix b bytes e = ap (λ (p : ℕ). read_if_prefix read total p (prefix_at p) bytes) e

pub read_kind-returns-in-3-clause-found : goal.read_kind-returns-in-3-clause-found
read_kind-returns-in-3-clause-found t c = at_prefix (read_value c.args.levels c.args.total) c.args.total c.args.prefix 3 c.args.bytes.now c.in-3.is

pub read_kind-returns-in-4-clause-found : goal.read_kind-returns-in-4-clause-found
read_kind-returns-in-4-clause-found t c = at_prefix (read_value c.args.levels c.args.total) c.args.total c.args.prefix 4 c.args.bytes.now c.in-4.is

pub read_kind-returns-in-9-clause-found : goal.read_kind-returns-in-9-clause-found
read_kind-returns-in-9-clause-found t c = at_prefix (read_value c.args.levels c.args.total) c.args.total c.args.prefix 9 c.args.bytes.now c.in-9.is

pub read_entries-loop-left-init : goal.read_entries-loop-left-init
read_entries-loop-left-init t c =
    let whole : Read Entries = read_entries (read_value c.args.levels c.args.total) c.args.total None c.args.count c.args.bytes.now in
    entries_start whole ∙ ap (λ (es : List (List ℕ × Tree)). with_entries es whole) (sym c.new-entries.ensures.items)

pub read_items-loop-left-init : goal.read_items-loop-left-init
read_items-loop-left-init t c =
    let whole : Read Items = read_items (read_value c.args.levels c.args.total) c.args.count c.args.bytes.now in
    items_start whole ∙ ap (λ (vs : List Tree). with_items vs whole) (sym c.new-values.ensures.items)
