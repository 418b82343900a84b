use Rattle.std.proofs.Common.{◌∙◌, ap}
use Rattle.serde_json.specs.View.{members_view}
use Rattle.cl_json.specs.Json.{unknown_member}
use Rattle.cl_costs.proofs.cost_file.unknown_name.Goals as goal

pub returns : goal.returns
returns c = c.unknown_member.ensures ∙ ap (λ known. unknown_member known (members_view c.args.table.now.entries)) c.all_names.ensures
