use Rattle.cl_rules.proofs.BoundStops.{stop_is_first, no_stop_is_bounded}
use Rattle.cl_rules.proofs.laws.the_first_bound_is_found.Goals as goal

pub returns-clause-first : goal.returns-clause-first
returns-clause-first c deployed principal version size forms order defined table dimension span typed = stop_is_first deployed principal version size forms order defined table typed dimension span

pub returns-clause-none : goal.returns-clause-none
returns-clause-none c = no_stop_is_bounded
