use Rattle.cl_tables.proofs.Joined.{get-joined}
use Rattle.cl_spots.proofs.joined_maps_answer_so.Goals as goal

pub returns : goal.returns
returns g c test from m key = get-joined test from m key
