use Rattle.cl_entries.proofs.laws.runs_are_sound.Goals as goal

pub returns : goal.returns
returns c = λ schedule file results after parts runs. record {
  within = c.costs_stay_within_bounds.ensures.run schedule file results after parts runs;
  not_stopped = c.bounds_suffice_as_limits.ensures.run schedule file results after parts runs;
  typed = c.answers_have_their_types.ensures.run schedule file results after parts runs;
}
