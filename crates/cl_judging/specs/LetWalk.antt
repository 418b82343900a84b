-- The walk over a let.
use Rattle.std.specs.Prelude.{◌≡◌, ℕ, ◌+◌, ◌≤◌, max, Bool, true, false, List, map, filter_map, Result, Ok, Err}
use Rattle.std.specs.Global.{Vec}
use Rattle.cl_types.specs.declared.fault.Fault.{Fault}
use Rattle.cl_sexpr.specs.declared.sexpr.Span.{Span}
use Rattle.cl_sexpr.specs.declared.rule.Rule.{Rule}
use Rattle.cl_sexpr.specs.declared.rule.Break.{Break}
use Rattle.cl_sexpr.specs.Tree.{Tree, ListAt, forest, forest_depth}
use Rattle.cl_forms.specs.Heads.{Row}
use Rattle.cl_forms.specs.Shapes.{binding_of}
use Rattle.cl_rules.specs.Bills.{Bill}
use Rattle.cl_rules.specs.Context.{Names}
use Rattle.cl_rules.specs.Verdicts.{Found}
use Rattle.cl_rules.specs.Shapes.{Plan, Ends, parts}
use Rattle.cl_rules.specs.ControlShapes.{let_plan, let_with, let_shape, let_verdict}
use Rattle.cl_judging.specs.declared.context.Context.{Context as CodeContext}
use Rattle.cl_typing.specs.declared.concluding.Checked.{Checked}
use Rattle.cl_typing.specs.declared.concluding.Concluded.{Concluded}
use Rattle.cl_typing.specs.Verdicts.{facts, facts_of, Concludes}
use Rattle.cl_judging.specs.Walking.{ChecksAs, ChecksAll, Walked}

-- the expressions of bindings
abbrev pub exprs_of : List Tree → List Tree
exprs_of items = map (λ (p : List ℕ × Tree). p.1) (filter_map binding_of items)

-- the plan of a let with these bindings
abbrev pub plan_of : List Tree → Names → List Tree → Plan
plan_of body B items = let_plan body B (filter_map binding_of items)

-- the bindings of a let are walked, whatever its body
abbrev pub ChecksBindings : CodeContext → Names → Names → List Tree → Result (Vec Checked) (Fault Break) → Type 0
ChecksBindings c B S items (Ok v) = (body : List Tree) (deep : ℕ) → forest_depth (forest items) ≤ deep → Walked c (plan_of body B items) (parts S body) deep v.items
ChecksBindings c B S items (Err f) = (body : List Tree) (deep : ℕ) → forest_depth (forest items) ≤ deep → ChecksAll c (plan_of body B items) deep (Err f)

-- further parts of any plan
abbrev pub ChecksMore : CodeContext → Names → List Checked → List Checked → List Tree → Result (Unit {0}) (Fault Break) → Type 0
ChecksMore c B old new items (Ok u) = (whole : Plan) (deep : ℕ) → forest_depth (forest items) + 1 ≤ deep → Walked c whole (parts B items) deep old → Walked c whole Ends deep new
ChecksMore c B old new items (Err f) = (whole : Plan) (deep : ℕ) → forest_depth (forest items) + 1 ≤ deep → Walked c whole (parts B items) deep old → ChecksAll c whole deep (Err f)

abbrev pub JudgesLet : ℕ → List Checked → Result Concluded (Fault Rule) → Type 0
JudgesLet n cs result = (own : Bill) (fs : List Found) → map facts fs ≡ map facts_of cs → Concludes (let_verdict n own fs) result

abbrev pub ChecksLetWith : CodeContext → Names → List Tree → List Tree → Span → Result Checked (Fault Break) → Type 0
ChecksLetWith c B items body at result = (r : Row) → ChecksAs c (λ G. let_with r G B items body) at (max (forest_depth (forest items)) (forest_depth (forest body)) + 1) result

abbrev pub ChecksLet : CodeContext → Names → List Tree → Span → Result Checked (Fault Break) → Type 0
ChecksLet c B args at result = (r : Row) → ChecksAs c (λ G. let_shape r G B args) at (forest_depth (forest args) + 1) result

abbrev pub is_list : Tree → Bool
is_list (ListAt es at) = true
is_list e = false
