use Rattle.std.proofs.Common.{◌≡◌, List, [], length, None, refl, ◌∙◌, arith}
use Rattle.cl_claims.specs.Parsed.{before, claims_of as claims_from_text}
use Rattle.cl_audit_results.specs.Audits.{claims_of}
use Rattle.cl_audit_reply.proofs.TraceFiles.{claims_length, few_kept, length_kept, lines_all, nothing_left, read_all, read_bad, read_first, read_first_bad, read_next, something_left}
use Rattle.cl_audit_reply.proofs.reading.read_traces.Goals as goal

pub loop-rest-init : goal.loop-rest-init
loop-rest-init c = read_first c.args.entries c.args.text.now (claims_of c.in_ok-traces.traces.items) c.in_ok-traces.ensures

pub returns-in_default-clause-broken : goal.returns-in_default-clause-broken
returns-in_default-clause-broken c =
    read_bad c.args.entries c.args.text.now c.loop-rest.rest.now c.loop-rest.least c.loop-rest.count (claims_of c.loop-rest.traces.items) c.loop-rest.invariant (c.in_ok-line.ensures.bad c.in_default.is (something_left c.loop-rest.rest.now c.is_empty.result c.is_empty.ensures c.loop-rest-test.true))

pub put-requires : goal.put-requires
put-requires c =
    let many : length (claims_of c.loop-rest.traces.items) ≡ c.args.entries = length_kept c.args.entries c.args.text.now c.loop-rest.rest.now c.loop-rest.least c.loop-rest.count (claims_of c.loop-rest.traces.items) c.loop-rest.invariant in
    let same : length (claims_of c.loop-rest.traces.items) ≡ length c.loop-rest.traces.items = claims_length c.loop-rest.traces.items in
    let within = rw c.in-Some.is at c.in_ok-line.ensures.within in
    omega (arith, many, same, within)

pub loop-rest-preserved : goal.loop-rest-preserved
loop-rest-preserved c =
    let reads = rw c.in-Some.is at c.in_ok-line.ensures.reads in
    let front = rw c.in-Some.is at c.in_ok-line.ensures.text in
    let rises = rw c.in-Some.is at c.in_ok-line.ensures.rises in
    let within = rw c.in-Some.is at c.in_ok-line.ensures.within in
    let shorter = rw c.in-Some.is at c.in_ok-line.ensures.shorter in
    read_next c.args.entries c.args.text.now c.loop-rest.rest.now c.loop-rest.least c.loop-rest.count (claims_of c.loop-rest.traces.items) c.loop-rest.invariant
    c.in-Some.line c.in-Some.behind.now (claims_of c.put.new.traces.items) reads front rises within shorter c.in_ok-put.ensures

pub returns-clause-found : goal.returns-clause-found
returns-clause-found c = read_all c.args.entries c.args.text.now c.loop-rest.rest.now c.loop-rest.least c.loop-rest.count (claims_of c.loop-rest.traces.items) c.loop-rest.invariant (nothing_left c.loop-rest.rest.now c.is_empty.result c.is_empty.ensures c.loop-rest-test.false)

pub returns-clause-lines : goal.returns-clause-lines
returns-clause-lines c = lines_all c.args.entries c.args.text.now c.loop-rest.rest.now c.loop-rest.least c.loop-rest.count (claims_of c.loop-rest.traces.items) c.loop-rest.invariant (nothing_left c.loop-rest.rest.now c.is_empty.result c.is_empty.ensures c.loop-rest-test.false)

pub returns-clause-count : goal.returns-clause-count
returns-clause-count c = length_kept c.args.entries c.args.text.now c.loop-rest.rest.now c.loop-rest.least c.loop-rest.count (claims_of c.loop-rest.traces.items) c.loop-rest.invariant

pub returns-clause-few : goal.returns-clause-few
returns-clause-few c = few_kept c.args.entries c.args.text.now c.loop-rest.rest.now c.loop-rest.least c.loop-rest.count (claims_of c.loop-rest.traces.items) c.loop-rest.invariant
