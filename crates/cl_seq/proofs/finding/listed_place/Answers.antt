use Rattle.std.proofs.Common.{ap, sym, ◌∙◌}
use Rattle.cl_values.specs.Sequences.{place_of}
use Rattle.cl_values.proofs.Lists.{values_of_items}
use Rattle.cl_seq.proofs.finding.listed_place.Goals as goal

pub returns : goal.returns
returns c = c.list_place.ensures ∙ ap (place_of c.args.item.now) (sym (values_of_items c.args.values.now))
