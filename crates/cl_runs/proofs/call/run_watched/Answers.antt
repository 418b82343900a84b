use Rattle.std.proofs.Common.{◌≡◌, ℕ, List, Some, None, map, sym, ap, subst, ◌∙◌}
use Rattle.std.specs.Prelude.{IfOk}
use Rattle.cl_costs.specs.Tables.{function_of as cost_function}
use Rattle.cl_values.specs.Tree.{Tree}
use Rattle.cl_values.specs.Typed.{AreOf}
use Rattle.cl_types.specs.Types.{PlainType}
use Rattle.cl_contracts.specs.Seen.{contract_seen, deployed_seen, forms_of, function_seen}
use Rattle.cl_meaning.specs.Answers.{Answer}
use Rattle.cl_meaning.specs.Deployed.{Function, contract_at, function_in, function_of}
use Rattle.cl_meaning.specs.Limits.{limited}
use Rattle.cl_meaning.specs.Top.{call_from}
use Rattle.cl_frames.specs.Aborts.{Answers}
use Rattle.cl_frames.specs.Homes.{frame_seen}
use Rattle.cl_frames.specs.Sound.{IsReturnOf, SpendsWithin}
use Rattle.cl_frames.specs.Watching.{Tells, trace}
use Rattle.cl_runs.proofs.Calls.{by_function, named_so, no_function, one_function}
use Rattle.cl_runs.proofs.call.run_watched.Goals as goal

pub unreachable-requires-in_default-function : goal.unreachable-requires-in_default-function
unreachable-requires-in_default-function g c =
    let x = c.args.function.now in
    let p = c.args.frame.now.contract in
    let there : contract_at p (deployed_seen c.args.deployed.now) ≡ Some (contract_seen (p, c.in-Some.contract.now)) = sym c.in-Some.ensures.seen in
    let none : function_of x (Some (contract_seen (p, c.in-Some.contract.now))) ≡ None = sym (c.in_default-function.ensures.seen p) in
    no_function (function_of x (contract_at p (deployed_seen c.args.deployed.now))) c.requires.called.function (ap (function_of x) there ∙ none) c.requires.called.there

pub run_found-requires-clause-called : goal.run_found-requires-clause-called
run_found-requires-clause-called g c =
    let x = c.args.function.now in
    let p = c.args.frame.now.contract in
    let f = c.in-Some-function.found.now in
    let forms = forms_of c.in-Some.contract.now.checked in
    let entry = c.in-Some.ensures.entry in
    let found : function_in x forms ≡ Some (function_seen f) = sym (c.in-Some-function.ensures.seen p) in
    record {
      there = sym c.in-Some.ensures.seen;
      entry = entry;
      function = subst (λ y. function_in y forms ≡ Some (function_seen f)) (sym (named_so x forms (function_seen f) found)) found;
      goes = c.in-Some-function.ensures.goes;
    }

pub run_found-requires-clause-fitting : goal.run_found-requires-clause-fitting
run_found-requires-clause-fitting g c =
    let x = c.args.function.now in
    let p = c.args.frame.now.contract in
    let there : contract_at p (deployed_seen c.args.deployed.now) ≡ Some (contract_seen (p, c.in-Some.contract.now)) = sym c.in-Some.ensures.seen in
    let found : function_of x (contract_at p (deployed_seen c.args.deployed.now)) ≡ Some (function_seen c.in-Some-function.found.now) = ap (function_of x) there ∙ sym (c.in-Some-function.ensures.seen p) in
    let same = one_function c.requires.called.function (function_seen c.in-Some-function.found.now) (sym c.requires.called.there ∙ found) in
    subst (λ (f : Function). AreOf c.args.args.items (map (λ (param : List ℕ × PlainType). param.1) f.params)) same c.requires.called.fitting

pub returns-clause-meant : goal.returns-clause-meant
returns-clause-meant g c =
    let x = c.args.function.now in
    let p = c.args.frame.now.contract in
    let W = deployed_seen c.args.deployed.now in
    let F = frame_seen c.args.frame.now in
    let there : contract_at p W ≡ Some (contract_seen (p, c.in-Some.contract.now)) = sym c.in-Some.ensures.seen in
    let found : function_of x (contract_at p W) ≡ Some (function_seen c.in-Some-function.found.now) = ap (function_of x) there ∙ sym (c.in-Some-function.ensures.seen p) in
    subst (λ (a : Answer Tree). Answers (limited (cost_function c.args.costs.now) c.args.meter.now a) c.run_found.result c.run_found.new.meter c.run_found.new.world.stack.top)
    (sym (by_function (function_of x (contract_at p W)) (function_seen c.in-Some-function.found.now) (λ f. call_from W F f c.args.args.items) c.args.world.now.stack.top found)) c.run_found.ensures.meant

pub returns-clause-seen : goal.returns-clause-seen
returns-clause-seen g c =
    let x = c.args.function.now in
    let p = c.args.frame.now.contract in
    let W = deployed_seen c.args.deployed.now in
    let F = frame_seen c.args.frame.now in
    let there : contract_at p W ≡ Some (contract_seen (p, c.in-Some.contract.now)) = sym c.in-Some.ensures.seen in
    let found : function_of x (contract_at p W) ≡ Some (function_seen c.in-Some-function.found.now) = ap (function_of x) there ∙ sym (c.in-Some-function.ensures.seen p) in
    subst (λ (a : Answer Tree). Tells (g.W.Watch.seen c.args.watch.now) (g.W.Watch.seen c.run_found.new.watch) (trace (cost_function c.args.costs.now) c.args.meter.now a) c.run_found.result)
    (sym (by_function (function_of x (contract_at p W)) (function_seen c.in-Some-function.found.now) (λ f. call_from W F f c.args.args.items) c.args.world.now.stack.top found)) c.run_found.ensures.seen

pub returns-clause-typed : goal.returns-clause-typed
returns-clause-typed g c =
    let x = c.args.function.now in
    let p = c.args.frame.now.contract in
    let f = c.in-Some-function.found.now in
    let name = named_so x (forms_of c.in-Some.contract.now.checked) (function_seen f) (sym (c.in-Some-function.ensures.seen p)) in
    subst (λ y. IfOk c.run_found.result (λ value. IsReturnOf (deployed_seen c.args.deployed.now) p y value)) name c.run_found.ensures.typed

pub returns-clause-within : goal.returns-clause-within
returns-clause-within g c =
    let x = c.args.function.now in
    let p = c.args.frame.now.contract in
    let f = c.in-Some-function.found.now in
    let name = named_so x (forms_of c.in-Some.contract.now.checked) (function_seen f) (sym (c.in-Some-function.ensures.seen p)) in
    subst (λ y. SpendsWithin (cost_function c.args.costs.now) (deployed_seen c.args.deployed.now) p y c.args.meter.now c.run_found.new.meter) name c.run_found.ensures.within
