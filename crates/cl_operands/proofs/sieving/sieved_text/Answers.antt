use Rattle.std.proofs.Common.{ap, ◌∙◌}
use Rattle.std.specs.List.{list_all}
use Rattle.cl_values.specs.Valid.{is_text_byte}
use Rattle.cl_operands.proofs.SieveLaws.{applied_so, sieved_ascii, texts_chosen}
use Rattle.cl_operands.proofs.sieving.sieved_text.Goals as goal

pub within-requires-clause-texts : goal.within-requires-clause-texts
within-requires-clause-texts c = ap (list_all is_text_byte) c.in_ok-kept.ensures ∙ texts_chosen c.args.bytes.items c.args.flags.now c.requires

pub returns : goal.returns
returns c = applied_so _ _ _ (sieved_ascii c.args.bytes.items c.args.flags.now _ c.in_ok-kept.ensures) c.within.ensures
