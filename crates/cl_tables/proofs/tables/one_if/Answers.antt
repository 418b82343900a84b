use Rattle.std.proofs.Common.{◌∙◌, ap, sym}
use Rattle.std.specs.Prelude.{option_copied}
use Rattle.cl_tokens.proofs.Slots.{same_test}
use Rattle.cl_tables.proofs.Amounts.{owner_has_one, other_has_none}
use Rattle.cl_tables.proofs.tables.one_if.Goals as goal

pub returns-then-eq : goal.returns-then-eq
returns-then-eq c =
    owner_has_one c.args.who.now c.in-Some.owner.now (option_copied c.args.owner) (ap option_copied c.in-Some.is) (sym (same_test c.in-Some.owner.now c.args.who.now) ∙ sym c.eq.ensures ∙ c.if-eq.true)

pub returns-else-eq : goal.returns-else-eq
returns-else-eq c =
    other_has_none c.args.who.now c.in-Some.owner.now (option_copied c.args.owner) (ap option_copied c.in-Some.is) (sym (same_test c.in-Some.owner.now c.args.who.now) ∙ sym c.eq.ensures ∙ c.if-eq.false)
