-- What is asked of a node, and when.
use Rattle.cl_c32.specs.declared.principal.Principal.{Principal}
use Rattle.cl_costs.specs.Tables.{function_of}
use Rattle.cl_forms.specs.Texts.{Text, text_of}
use Rattle.cl_meaning.specs.Limits.{Costs}
use Rattle.cl_meaning.specs.Scope.{Frame}
use Rattle.cl_file.specs.declared.entry.Entry.{Entry}
use Rattle.cl_file.specs.declared.entry.Entry.TheVariants.{Deploy, Call, Block}
use Rattle.cl_tx.specs.Nodes.{contract_of, person}
use Rattle.cl_state.specs.Stack.{Seen as World}
use Rattle.cl_contracts.specs.declared.deployed.Deployed.{Deployed}
use Rattle.cl_contracts.specs.Seen.{deployed_seen}
use Rattle.cl_nodes.specs.declared.asked.Asked.{Asked as AskedOfCode}
use Rattle.cl_nodes.specs.declared.asked.Asked.TheVariants as asked
use Rattle.cl_nodes.specs.declared.asked.Deployment.{Deployment}
use Rattle.cl_nodes.specs.declared.asked.Invocation.{Invocation}
use Rattle.cl_nodes.specs.declared.asked.Moment.{Moment}
use Rattle.cl_nodes.specs.Seen.{Seen, seen}

-- ---- what is asked, and when

-- the entry of a deployment
abbrev pub deployment_entry : Deployment → Entry
deployment_entry d = Deploy d.common.now d.name.now d.source.now d.version

-- the principal of its contract
abbrev pub principal_of : Deployment → Principal
principal_of d = contract_of d.common.now.sender d.name.now

-- its text
abbrev pub text_in : Deployment → Text
text_in d = text_of d.source.now d.version

-- the entry of a call
abbrev pub call_entry : Invocation → Entry
call_entry i = Call i.common.now i.contract.now i.function.now i.args.now

-- the entry that asks for this
abbrev pub asked_entry : AskedOfCode → Entry
asked_entry (asked.Deploy d) = deployment_entry d
asked_entry (asked.Call i) = call_entry i
asked_entry (asked.Block height) = Block height

-- the costs of a moment
abbrev pub costs_at : Moment → Costs
costs_at m = function_of m.costs.now

-- what contracts see of a node at a moment
abbrev pub seen_at : World → Deployed → Moment → Seen
seen_at world deployed moment = seen world.stack.top (deployed_seen deployed) moment.height

-- the frame of a deployment
abbrev pub frame_for : Deployment → Moment → Frame
frame_for d m = record { contract = principal_of d; sender = person d.common.now.sender; caller = person d.common.now.sender; height = m.height }
