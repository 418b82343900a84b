use Rattle.std.proofs.Common.{◌∙◌, ℕ, List, subst, sym, take}
use Rattle.cl_exports.specs.Copies.{IsCut}
use Rattle.cl_exports.specs.Values.{IsWireOf}
use Rattle.clarity_c.proofs.Numbers.{no_refusal}
use Rattle.clarity_c.proofs.value.clarity_value_wire.Goals as goal

pub returns-in-Ok-clause-whole : goal.returns-in-Ok-clause-whole
returns-in-Ok-clause-whole c = λ is. subst (IsWireOf c.args.text.now) (sym (c.fill.ensures.whole is ∙ c.deref.ensures.value)) c.in-Ok.ensures.found

pub returns-in-Ok-clause-cut : goal.returns-in-Ok-clause-cut
returns-in-Ok-clause-cut c = λ is. (c.in-Ok.bytes.items, c.in-Ok.ensures.found, subst (λ (all : List ℕ). IsCut all c.fill.new.to c.fill.new.needed) c.deref.ensures.value (c.fill.ensures.cut is))

pub returns-in-Ok-clause-none : goal.returns-in-Ok-clause-none
returns-in-Ok-clause-none c = λ is. absurd (no_refusal c.fill.result c.fill.ensures.number is)

pub returns-in-Err-Refused-clause-none : goal.returns-in-Err-Refused-clause-none
returns-in-Err-Refused-clause-none c = λ _. (c.in-Err-Refused.field-0-0, rw c.in-Err-Refused.field-0-is at c.in-Err-Refused.ensures.broken)
