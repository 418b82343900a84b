use Rattle.std.proofs.Common.{option_map, sym, ap, ◌∙◌}
use Rattle.cl_contracts.specs.Seen.{function_seen}
use Rattle.cl_meaning.specs.Sequences.{own}
use Rattle.cl_frames.specs.Seen.{scope_of, version_of}
use Rattle.cl_frames.proofs.Going.{found_goes}
use Rattle.cl_frames.proofs.HomeLaws.{of_version}
use Rattle.cl_frames.proofs.IterateLaws
use Rattle.cl_steps.proofs.applied.callee_named.Goals as goal

pub returns-in-Some-clause-seen : goal.returns-in-Some-clause-seen
returns-in-Some-clause-seen c bound fits =
    let context = c.args.context.now in
    ap (λ f. own (option_map (λ g. function_seen g.now) f)) (sym c.in-Some.is) ∙ IterateLaws.called_own (version_of context) (scope_of context bound) (of_version context bound fits) c.args.applied.now c.in-Function.word _ c.in-Function.is (c.requires.applies fits) (c.own_function.ensures.seen bound fits)

pub returns-in-Some-clause-goes : goal.returns-in-Some-clause-goes
returns-in-Some-clause-goes c fits = found_goes (version_of c.args.context.now) _ _ c.in-Some.is (c.own_function.ensures.goes fits)

pub returns-in-None-clause-seen : goal.returns-in-None-clause-seen
returns-in-None-clause-seen c bound fits =
    let context = c.args.context.now in
    ap (λ f. own (option_map (λ g. function_seen g.now) f)) (sym c.in-None.is) ∙ IterateLaws.called_own (version_of context) (scope_of context bound) (of_version context bound fits) c.args.applied.now c.in-Function.word _ c.in-Function.is (c.requires.applies fits) (c.own_function.ensures.seen bound fits)

pub returns-in-OnValues-clause-seen : goal.returns-in-OnValues-clause-seen
returns-in-OnValues-clause-seen c bound fits =
    let context = c.args.context.now in
    IterateLaws.called_native (version_of context) (scope_of context bound) (of_version context bound fits) c.args.applied.now _ _ c.in-OnValues.is (c.requires.applies fits) c.requires.own

pub returns-in-And-clause-seen : goal.returns-in-And-clause-seen
returns-in-And-clause-seen c bound fits =
    let context = c.args.context.now in
    IterateLaws.called_and (version_of context) (scope_of context bound) (of_version context bound fits) c.args.applied.now _ c.in-And.is

pub returns-in-Or-clause-seen : goal.returns-in-Or-clause-seen
returns-in-Or-clause-seen c bound fits =
    let context = c.args.context.now in
    IterateLaws.called_or (version_of context) (scope_of context bound) (of_version context bound fits) c.args.applied.now _ c.in-Or.is
