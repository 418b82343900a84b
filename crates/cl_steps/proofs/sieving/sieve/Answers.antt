use Rattle.std.proofs.Common.{option_map, sym, ap, ◌∙◌}
use Rattle.cl_meaning.specs.Limits.{limited}
use Rattle.cl_meaning.specs.Answers.{stop, outcome_of}
use Rattle.cl_frames.specs.Kept.{sieved}
use Rattle.cl_frames.proofs.Steps.{ends_so, native_ends, known_some, known_none}
use Rattle.cl_steps.proofs.sieving.sieve.Goals as goal

pub returns-in-Some : goal.returns-in-Some
returns-in-Some c costs p s v only =
    ends_so _ _ _ _ _ (known_some costs p _ _ (λ bs. stop (outcome_of (sieved v bs))) s (sym c.in_ok-flags.ensures ∙ ap (option_map (λ bs. bs.items)) c.in-Some.is) ∙ ap (λ bs. limited costs p (stop (outcome_of (sieved v bs)) s)) (sym c.deref.ensures.value)) (native_ends costs p _ _ s (c.only_sieved.ensures v only))

pub returns-in-None : goal.returns-in-None
returns-in-None c costs p s v only =
    known_none costs p _ (λ bs. stop (outcome_of (sieved v bs))) s (sym c.in_ok-flags.ensures ∙ ap (option_map (λ bs. bs.items)) c.in-None.is)
