-- What the checker finds of expressions: what the plain program does, but for bounds, with typed trees that stand for them.
use Rattle.std.specs.Prelude.{◌≡◌, ℕ, ◌≤◌, ◌<◌, ◌+◌, ◌++◌, Bool, true, false, List, [], ◌∷◌, map, length, Result, Ok, Err}
use Rattle.std.specs.Global.{Vec}
use Rattle.cl_types.specs.Types.{PlainType, UintType}
use Rattle.cl_types.specs.declared.fault.Fault.{Fault}
use Rattle.cl_types.specs.declared.fault.Fault.TheVariants.{Refused, NoMemory}
use Rattle.cl_sexpr.specs.declared.sexpr.Span.{Span}
use Rattle.cl_sexpr.specs.declared.rule.Rule.{Rule}
use Rattle.cl_sexpr.specs.declared.rule.Break.{Break}
use Rattle.cl_sexpr.specs.Tree.{Tree, LeafAt, Named, forest, tree_depth, forest_depth}
use Rattle.cl_forms.specs.declared.head.Head.{Head}
use Rattle.cl_forms.specs.declared.head.Head.TheVariants.{OnValues}
use Rattle.cl_forms.specs.Heads.{Row, row_of}
use Rattle.cl_forms.specs.declared.version.Version.{Version}
use Rattle.cl_forms.specs.HeadNames.{has_head}
use Rattle.cl_rules.specs.Faults.{shape_rules, type_rules}
use Rattle.cl_rules.specs.NativeTypes.{Ruled, fine, one, two, native_type}
use Rattle.cl_rules.specs.Bills.{Charge}
use Rattle.cl_rules.specs.Context.{Context, Names}
use Rattle.cl_rules.specs.Verdicts.{Found, Verdict}
use Rattle.cl_rules.specs.Shapes.{Plan, Shape, parts, value_shape, native_shape, evaluated, stated, AUint, APrincipal}
use Rattle.cl_rules.specs.ControlShapes.{last_row, truth_row, asserts_row, unwrap_row, unwrap_err_row, try_row, if_verdict}
use Rattle.cl_rules.specs.DataShapes.{act_answer}
use Rattle.cl_rules.specs.Table.{shape, head_shape}
use Rattle.cl_rules.specs.Judging.{Judged, Holds, Fails, and_judged, unless_broken, walked, judged}
use Rattle.cl_shapes.specs.declared.name.CostName.{CostName}
use Rattle.cl_code.specs.declared.op.PartsNative.TheVariants.{If, Begin, And, Or, Asserts, Unwrap, UnwrapErr, Try, AsContract, Print, StxBalance, SendStx, BurnStx}
use Rattle.cl_code.specs.declared.op.Op.{Op}
use Rattle.cl_code.specs.Nodes.{goes_op}
use Rattle.cl_code.specs.OpNames.{parts_head}
use Rattle.cl_code.specs.Typed.{Typed, Typeds, TypedAs, MoreTyped, typeds, has_version}
use Rattle.cl_contracts.specs.Standing.{StandAll}
use Rattle.cl_typing.specs.declared.concluding.Checked.{Checked}
use Rattle.cl_typing.specs.declared.concluding.Concluded.{Concluded}
use Rattle.cl_typing.specs.Verdicts.{facts, facts_of, Rules, Concludes}
use Rattle.cl_judging.specs.declared.context.Context.{Context as CodeContext}
use Rattle.cl_judging.specs.declared.node.Evaluated.{Evaluated}
use Rattle.cl_judging.specs.declared.node.Evaluated.TheVariants.{Values, Parts}
use Rattle.cl_judging.specs.Seen.{Shows}

-- ---- what is found

-- the trees of what was found
abbrev pub codes_of : List Checked → List Typed
codes_of = map (λ (c : Checked). c.code)

-- a tree stands for an expression of this shape, of which this is found, in a text of the context's version
abbrev pub StandsBy : Context → Shape → Typed → Found → Type 0
StandsBy G s (TypedAs e t vs ps) f =
    (fs : List Found) × (shape_rules s.faults ≡ []) × StandAll G s.plan ps fs × (type_rules (s.verdict fs).faults ≡ []) × ((s.verdict fs).found ≡ f) × (t ≡ f.type) × (has_version vs G.version ≡ true)

-- the same judgement of an expression of this shape, but for the bound, and a tree that stands for it
abbrev pub Finds : Context → Shape → Judged Found → Result Checked (Fault Break) → Type 0
Finds G s j (Ok c) = (f : Found) × (j ≡ Holds f) × (facts f ≡ facts_of c) × StandsBy G s c.code f
Finds G s j (Err (Refused b)) = j ≡ Fails b.rule b.span
Finds G s j (Err NoMemory) = Unit {0}

abbrev pub FindsAll : Context → Plan → Judged (List Found) → Result (Vec Checked) (Fault Break) → Type 0
FindsAll G p j (Ok v) = (fs : List Found) × (j ≡ Holds fs) × (map facts fs ≡ map facts_of v.items) × StandAll G p (typeds (codes_of v.items)) fs
FindsAll G p j (Err (Refused b)) = j ≡ Fails b.rule b.span
FindsAll G p j (Err NoMemory) = Unit {0}

-- what the plain program says of an expression of this shape and this span
abbrev pub judged_as : (Names → Tree → Judged Found) → Shape → Span → Judged Found
judged_as judge s at =
    unless_broken (shape_rules s.faults) at (λ _.
    and_judged (walked judge s.plan) (λ fs.
    unless_broken (type_rules (s.verdict fs).faults) at (λ _. Holds (s.verdict fs).found)))

-- an expression, with these names bound, at any nesting that is deep enough
abbrev pub Checks : CodeContext → Names → Tree → Result Checked (Fault Break) → Type 0
Checks c B e result = (G : Context) (d : ℕ) → Shows c G → tree_depth e < d → Finds G (shape G B e) (judged d G B e) result

-- an expression of a shape, whose parts nest less than so deep
abbrev pub ChecksAs : CodeContext → (Context → Shape) → Span → ℕ → Result Checked (Fault Break) → Type 0
ChecksAs c s at deep result = (G : Context) (d : ℕ) → Shows c G → deep ≤ d → Finds G (s G) (judged_as (judged d G) (s G) at) result

-- the parts of a plan
abbrev pub ChecksAll : CodeContext → Plan → ℕ → Result (Vec Checked) (Fault Break) → Type 0
ChecksAll c p deep result = (G : Context) (d : ℕ) → Shows c G → deep ≤ d → FindsAll G p (walked (judged d G) p) result

-- a node made of what is concluded in a context, whatever its shape
abbrev pub FinishesAt : Context → List Checked → Result Concluded (Fault Rule) → Span → Result Checked (Fault Break) → Type 0
FinishesAt G parts concluded at result = (judge : Names → Tree → Judged Found) (s : Shape) (fs : List Found) → shape_rules s.faults ≡ [] → walked judge s.plan ≡ Holds fs → map facts fs ≡ map facts_of parts → StandAll G s.plan (typeds (codes_of parts)) fs → Concludes (s.verdict fs) concluded → Finds G s (judged_as judge s at) result

-- the same of a node of this operation, in each context with a version in which it can stand
abbrev pub Finishes : Op → List Checked → Result Concluded (Fault Rule) → Span → Result Checked (Fault Break) → Type 0
Finishes op parts concluded at result = (G : Context) → goes_op G.version op ≡ true → FinishesAt G parts concluded at result

-- the same in each context that is shown
abbrev pub FinishesIn : CodeContext → List Checked → Result Concluded (Fault Rule) → Span → Result Checked (Fault Break) → Type 0
FinishesIn c parts concluded at result = (G : Context) → Shows c G → FinishesAt G parts concluded at result

abbrev pub fault_at : Fault Rule → Span → Fault Break
fault_at (Refused rule) at = Refused (record { rule = rule; span = at })
fault_at NoMemory at = NoMemory

-- ---- plans

-- after what was found of the first parts
abbrev pub prepended : List Found → Judged (List Found) → Judged (List Found)
prepended fs j = and_judged j (λ gs. Holds (fs ++ gs))

abbrev pub trees_before : List Checked → Typeds → Typeds
trees_before [] qs = qs
trees_before (c ∷ cs) qs = MoreTyped c.code (trees_before cs qs)

-- a plan that is walked up to this rest of it
abbrev pub Walked : CodeContext → Plan → Plan → ℕ → List Checked → Type 0
Walked c whole rest deep founds = (G : Context) (d : ℕ) → Shows c G → deep ≤ d →
    (fs : List Found) × (map facts fs ≡ map facts_of founds) × (walked (judged d G) whole ≡ prepended fs (walked (judged d G) rest))
    × ((qs : Typeds) (gs : List Found) → StandAll G rest qs gs → StandAll G whole (trees_before founds qs) (fs ++ gs))

-- ---- natives all of whose arguments are evaluated

abbrev pub head_at : Evaluated → Head
head_at (Values native) = OnValues native
head_at (Parts native) = parts_head native

-- a node can stand in a text of each version that has the native
abbrev pub GoesWith : Evaluated → Op → Type 0
GoesWith native op = (version : Version) → has_head version (head_at native) ≡ true → goes_op version op ≡ true

-- the verdict on a native with so many arguments
abbrev pub verdict_of : Evaluated → Row → ℕ → List Found → Verdict
verdict_of (Values native) row count = evaluated row (native_type native)
verdict_of (Parts If) row count = if_verdict (Charge row.cost count)
verdict_of (Parts Begin) row count = evaluated row last_row
verdict_of (Parts And) row count = evaluated row truth_row
verdict_of (Parts Or) row count = evaluated row truth_row
verdict_of (Parts Asserts) row count = evaluated row (two asserts_row)
verdict_of (Parts Unwrap) row count = evaluated row (two unwrap_row)
verdict_of (Parts UnwrapErr) row count = evaluated row (two unwrap_err_row)
verdict_of (Parts Try) row count = evaluated row (one try_row)
verdict_of (Parts AsContract) row count = evaluated row (one fine)
verdict_of (Parts Print) row count = evaluated row (one fine)
verdict_of (Parts StxBalance) row count = evaluated row (stated (APrincipal ∷ []) (fine UintType))
verdict_of (Parts SendStx) row count = evaluated row (stated (AUint ∷ APrincipal ∷ APrincipal ∷ []) (fine act_answer))
verdict_of (Parts BurnStx) row count = evaluated row (stated (AUint ∷ APrincipal ∷ []) (fine act_answer))

-- the verdict on these parts, whatever its charge and the bounds of the parts
abbrev pub Judges : Evaluated → List Checked → Result Concluded (Fault Rule) → Type 0
Judges native parts result = (row : Row) (count : ℕ) (fs : List Found) → map facts fs ≡ map facts_of parts → Concludes (verdict_of native row count fs) result

-- ---- expressions without parts

-- an expression without parts of this type, whatever its charge
abbrev pub FineAs : PlainType → Span → Result Checked (Fault Break) → Type 0
FineAs t at result = (G : Context) (name : CostName) (judge : Names → Tree → Judged Found) → Finds G (value_shape name (fine t)) (judged_as judge (value_shape name (fine t)) at) result

-- an expression without parts that is ruled so
abbrev pub RuledAs : Ruled → Span → Result Checked (Fault Break) → Type 0
RuledAs R at result = (G : Context) (name : CostName) (judge : Names → Tree → Judged Found) → Finds G (value_shape name R) (judged_as judge (value_shape name R) at) result

-- the same at what a row rules
abbrev pub ValueAs : Result PlainType (Fault Rule) → Span → Result Checked (Fault Break) → Type 0
ValueAs ruled at result = (R : Ruled) (G : Context) (name : CostName) (judge : Names → Tree → Judged Found) → Rules R ruled → Finds G (value_shape name R) (judged_as judge (value_shape name R) at) result

-- ---- lists

-- whether a list begins with a name
abbrev pub is_headed : List Tree → Bool
is_headed (LeafAt (Named x) at ∷ es) = true
is_headed es = false

-- a list that begins with a native
abbrev pub ChecksHead : CodeContext → Head → Names → List Tree → Span → Result Checked (Fault Break) → Type 0
ChecksHead c head B args at result = ChecksAs c (λ G. head_shape head (row_of head) G B args) at (forest_depth (forest args) + 1) result

abbrev pub native_as : Evaluated → Names → List Tree → Shape
native_as native B args = native_shape (row_of (head_at native)) (verdict_of native (row_of (head_at native)) (length args)) B args

abbrev pub ChecksNative : CodeContext → Evaluated → Names → List Tree → Span → Result Checked (Fault Break) → Type 0
ChecksNative c native B args at result = ChecksAs c (λ G. native_as native B args) at (forest_depth (forest args) + 1) result
