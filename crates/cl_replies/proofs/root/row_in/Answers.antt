use Rattle.std.proofs.Common.{refl, length}
use Rattle.std.proofs.lemmas.Option.{slice_get_read}
use Rattle.cl_replies.proofs.root.row_in.Goals as goal

pub returns : goal.returns
returns c = slice_get_read c.args.rows.now (length c.args.rows.now) c.args.place c.index-rows-place.result refl c.requires c.index-rows-place.is
