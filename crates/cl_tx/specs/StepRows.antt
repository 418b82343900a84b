-- Steps by example, under the unit table: the results of calls and of the deployments of accepted texts, and what epochs change.
use Rattle.std.specs.Prelude.{ℕ, ◌^◌, slice_set, List, [], ◌∷◌, codes, Option, Some, None}
use Rattle.cl_types.specs.declared.sized.Access.TheVariants.{Private}
use Rattle.cl_c32.specs.declared.principal.Principal.{Principal}
use Rattle.cl_shapes.specs.declared.cost.Cost5.{Cost5}
use Rattle.cl_shapes.specs.declared.function.CostFn.{CostFn}
use Rattle.cl_shapes.specs.declared.function.Shape.TheVariants.{Constant}
use Rattle.cl_shapes.specs.Names.{plain_unit}
use Rattle.cl_values.specs.Tree.{Tree, UintV, PrincipalV}
use Rattle.cl_events.specs.State.{State, genesis}
use Rattle.cl_events.specs.declared.event.Event.{Event}
use Rattle.cl_forms.specs.Texts.{Text}
use Rattle.cl_costs.specs.Tables.{function_of, unit_table}
use Rattle.cl_costs.specs.Schedules.{ScheduleSeen, epoch_at, table_at, costs_at}
use Rattle.cl_meaning.specs.Deployed.{Deployed}
use Rattle.cl_meaning.specs.Samples.{P0, P1, of_P0, unit, uint, function, contract}
use Rattle.cl_meaning.specs.PayRow.{pay_forms}
use Rattle.cl_meaning.specs.Opened.{opened as meaning_opened}
use Rattle.cl_rules.specs.FormRules.{Defined}
use Rattle.cl_rules.specs.Judging.{Judged, Holds}
use Rattle.cl_rules.specs.PlainProgram.{Program, program_of, text_judged}
use Rattle.cl_rules.specs.Samples.{opened as rules_opened, of_one}
use Rattle.cl_file.specs.declared.entry.Common.{Common}
use Rattle.cl_file.specs.Entries.{no_limit}
use Rattle.cl_post.specs.declared.condition.Mode.{Mode}
use Rattle.cl_post.specs.declared.condition.Mode.TheVariants.{Allow}
use Rattle.cl_post.specs.declared.condition.Code5.{Code5}
use Rattle.cl_post.specs.declared.condition.Test.TheVariants.{Amount}
use Rattle.cl_post.specs.declared.condition.Condition.{Condition}
use Rattle.cl_post.specs.Post.{holds, holds_one, sent, is_of}
use Rattle.cl_events.specs.declared.event.Asset.TheVariants.{Stx}
use Rattle.cl_tx.specs.declared.outcome.Outcome.{Outcome}
use Rattle.cl_tx.specs.declared.outcome.EntryRefusal.{EntryRefusal}
use Rattle.cl_tx.specs.declared.outcome.Rebound.{Rebound}
use Rattle.cl_tx.specs.declared.outcome.TxResult.{TxResult}
use Rattle.cl_tx.specs.Nodes.{NodeSeen, Stepped, nothing_told, result_of, refused}
use Rattle.cl_tx.specs.Rebounds.{rebounds_at}
use Rattle.cl_tx.specs.Step.{run_call, call_step, run_deployment, first_node}

-- all that an example opens
unfoldable pub opened : Unit {0}
unfolding meaning_opened rules_opened function_of unit_table epoch_at table_at rebounds_at run_call call_step run_deployment holds holds_one sent is_of
opened = tt

abbrev pub by : Principal → Common
by p = record { sender = p.address; limit = no_limit; mode = Allow; conditions = [] }

-- ---- calls

-- a node with these contracts in this state
abbrev pub node_with : Deployed → State → NodeSeen
node_with W s = record { state = s; contracts = W; known = []; height = 0 }

-- a call of a contract of P0
abbrev pub called : Deployed → State → Principal → List ℕ → List ℕ → List Tree → Option Stepped
called W s sender name f args = call_step unit (node_with W s) (by sender) (of_P0 name) f args

-- the call was run: the state after it, its outcome, its cost and its events
abbrev pub ran : Deployed → State → Outcome → Cost5 → List Event → Option Stepped
ran W s outcome cost events = Some (record { node = node_with W s; result = result_of nothing_told outcome (Some cost) events })

abbrev pub not_run : Deployed → State → EntryRefusal → Option Stepped
not_run W s why = Some (refused (node_with W s) why)

-- (define-private (h) u1)
abbrev pub hidden : Deployed
hidden = contract (codes "p") 23 (function Private (codes "h") [] (uint 1) ∷ []) ∷ []

-- ---- calls on terms

-- a limit, a mode and conditions of a sender
abbrev pub terms : Principal → List ℕ → Mode → List Condition → Common
terms p limit mode conditions = record { sender = p.address; limit = limit; mode = mode; conditions = conditions }

-- a condition on the STX that a principal sends
abbrev pub on_stx : Principal → Code5 → ℕ → Condition
on_stx p code amount = record { principal = p; asset = Stx; test = Amount code amount }

-- a call of a contract of P0 on these terms
abbrev pub called_on : Common → Deployed → State → List ℕ → List ℕ → List Tree → Option Stepped
called_on common W s name f args = call_step unit (node_with W s) common (of_P0 name) f args

-- (define-public (pay (a uint) (to principal)) (stx-transfer? a tx-sender to)), and P1 has 1000
abbrev pub payer : Deployed
payer = contract (codes "main") 76 pay_forms ∷ []

abbrev pub rich : State
rich = genesis ((P1, 1000) ∷ [])

-- P1 pays 300 to P0 in a mode and on conditions
abbrev pub pays : Mode → List Condition → Option Stepped
pays mode conditions = called_on (terms P1 no_limit mode conditions) payer rich (codes "main") (codes "pay") (UintV 300 ∷ PrincipalV P0 ∷ [])

-- ---- deployments, by P0 on the first node

abbrev pub run_by : Principal → Text → Option Program → Judged Defined → Option Stepped
run_by principal text (Some p) (Holds defined) = run_deployment unit (first_node []) (by P0) principal text p.forms defined
run_by principal text p judged = None

abbrev pub deployed : List ℕ → List ℕ → Option Stepped
deployed name text = run_by (of_P0 name) (of_one text) (program_of text) (text_judged [] (of_P0 name) (of_one text))

abbrev pub result_in : Option Stepped → Option TxResult
result_in None = None
result_in (Some s) = Some s.result

-- ---- epochs

-- the unit table, but for the runtime of one function, by its place
abbrev pub unit_but : ℕ → ℕ → List CostFn
unit_but place runtime = slice_set unit_table place (record plain_unit { runtime = Constant runtime })

-- from height 10 on a step of arithmetic costs 5, and from 20 on no bound with a look-up is within the limit
abbrev pub dearer : ScheduleSeen
dearer = record { first = unit_table; epochs = (10, unit_but 6 5) ∷ (20, unit_but 1 (2 ^ 128)) ∷ [] }

-- the rebounds of a block at a height after a deployment
abbrev pub told_at : ℕ → Option Stepped → Option (List Rebound)
told_at height None = None
told_at height (Some s) = Some (rebounds_at dearer s.node height)

-- the result of a call by P0 at a height after it
abbrev pub called_at : ℕ → Option Stepped → List ℕ → List ℕ → List Tree → Option TxResult
called_at height None name f args = None
called_at height (Some s) name f args = result_in (call_step (costs_at dearer height) (record s.node { height = height }) (by P0) (of_P0 name) f args)

-- (define-read-only (add1 (x int)) (+ x 1)), deployed at height 0
abbrev pub inc : Option Stepped
inc = deployed (codes "inc") (codes "(define-read-only (add1 (x int)) (+ x 1))")
