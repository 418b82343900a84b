use Rattle.cl_typing.proofs.Conclusions.{holds_at, ruled_fails, thrown_fails, both_fail}
use Rattle.cl_typing.proofs.concluding.conclude.Goals as goal

pub returns-in-Ok-ruled : goal.returns-in-Ok-ruled
returns-in-Ok-ruled c = holds_at c.args.ruled c.args.own.now c.args.applied c.args.parts.now c.in-Ok.thrown c.in-Ok-ruled.is c.in-Ok.ensures c.height_above-height.ensures

pub returns-in-Ok : goal.returns-in-Ok
returns-in-Ok c = ruled_fails c.args.ruled c.args.own.now c.args.applied c.args.parts.now c.in-Ok.thrown c.in-Err.is c.in-Ok.ensures

pub returns-in-Ok-ruled-2 : goal.returns-in-Ok-ruled-2
returns-in-Ok-ruled-2 c = thrown_fails c.args.ruled c.args.own.now c.args.applied c.args.parts.now c.in-Err-Refused.refusal c.in-Ok-ruled-2.is (rw c.in-Err-Refused.field-0-is at c.in-Err-Refused.ensures) c.thrown_rule.ensures

pub returns : goal.returns
returns c = both_fail c.args.ruled c.args.own.now c.args.applied c.args.parts.now c.in-Err-ruled.fault c.in-Err-Refused.refusal c.in-Err-ruled.is (rw c.in-Err-Refused.field-0-is at c.in-Err-Refused.ensures) c.fault_with.ensures
