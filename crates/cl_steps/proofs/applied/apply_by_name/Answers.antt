use Rattle.std.proofs.Common.{arith}
use Rattle.cl_frames.proofs.Steps.{ends_so}
use Rattle.cl_frames.proofs.IterateLaws.{by_none, by_values, by_and, by_or}
use Rattle.cl_steps.proofs.applied.apply_by_name.Goals as goal

pub returns-then-depth-eq0 : goal.returns-then-depth-eq0
returns-then-depth-eq0 c bound s = by_none _ _ _ _ _ _ _ c.if-depth-eq0.true

pub returns-in-OnValues : goal.returns-in-OnValues
returns-in-OnValues c bound s = ends_so _ _ _ _ _ (by_values _ _ _ _ _ _ _ _ _ (omega arith) c.in-OnValues.is) (c.native_on.ensures s)

pub returns-in-And : goal.returns-in-And
returns-in-And c bound s = ends_so _ _ _ _ _ (by_and _ _ _ _ _ _ _ _ (omega arith) c.in-And.is) (c.joined_on.ensures s)

pub returns-in-Or : goal.returns-in-Or
returns-in-Or c bound s = ends_so _ _ _ _ _ (by_or _ _ _ _ _ _ _ _ (omega arith) c.in-Or.is) (c.joined_on-in-Or.ensures s)
