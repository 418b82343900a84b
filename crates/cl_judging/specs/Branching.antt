-- What match binds.
use Rattle.std.specs.Prelude.{◌≡◌, ◌⊎◌, ◌+◌, ◌++◌, List, [], ◌∷◌, filter_map, if◌then◌else◌, Option, Some, None, Result, Ok, Err}
use Rattle.cl_types.specs.Types.{PlainType, OptionalType, ResponseType}
use Rattle.cl_types.specs.declared.fault.Fault.{Fault}
use Rattle.cl_types.specs.declared.fault.Fault.TheVariants.{Refused, NoMemory}
use Rattle.cl_sexpr.specs.declared.sexpr.Span.{Span}
use Rattle.cl_sexpr.specs.declared.rule.Rule.{Rule}
use Rattle.cl_sexpr.specs.declared.rule.Rule.TheVariants.{ArgumentKind, ShadowedName, BadBinding}
use Rattle.cl_sexpr.specs.declared.rule.Break.{Break}
use Rattle.cl_sexpr.specs.Tree.{Tree, forest, forest_depth}
use Rattle.cl_forms.specs.Heads.{row_of}
use Rattle.cl_forms.specs.declared.head.Head.TheVariants.{Match}
use Rattle.cl_rules.specs.Context.{Names}
use Rattle.cl_rules.specs.ControlShapes.{atom_of, match_shape}
use Rattle.cl_code.specs.declared.op.Word.{Word}
use Rattle.cl_code.specs.Expression.{optional_branches, response_branches}
use Rattle.cl_code.specs.Typed.{expression_of}
use Rattle.cl_typing.specs.declared.concluding.Checked.{Checked}
use Rattle.cl_judging.specs.declared.context.Context.{Context as CodeContext}
use Rattle.cl_judging.specs.Seen.{shadowed_in}
use Rattle.cl_judging.specs.Walking.{Checks, ChecksAs}

-- the part of an optional
abbrev pub optional_part : PlainType → Option PlainType
optional_part (OptionalType t) = Some t
optional_part t = None

-- the parts of a response
abbrev pub response_parts : PlainType → Option (PlainType × PlainType)
response_parts (ResponseType t e) = Some (t, e)
response_parts t = None

-- match with these items
abbrev pub ChecksMatch : CodeContext → Names → List Tree → Span → Result Checked (Fault Break) → Type 0
ChecksMatch c B items at result = ChecksAs c (λ G. match_shape (row_of Match) G B items) at (forest_depth (forest items) + 1) result

-- a match of an optional, and of a response
abbrev pub ChecksOptional : CodeContext → Names → Tree → Word → Tree → Tree → Span → Result Checked (Fault Break) → Type 0
ChecksOptional c B i w a b at result = ChecksMatch c B (optional_branches w (i ∷ a ∷ b ∷ [])) at result

abbrev pub ChecksResponse : CodeContext → Names → Tree → Word → Tree → Word → Tree → Span → Result Checked (Fault Break) → Type 0
ChecksResponse c B i w a w' b at result = ChecksMatch c B (response_branches w w' (i ∷ a ∷ b ∷ [])) at result

-- the rule that two items break of which not both are names
abbrev pub odd_rule : CodeContext → Names → Tree → Tree → Rule
odd_rule c B e d = if shadowed_in c B (filter_map atom_of (e ∷ d ∷ [])) then ShadowedName else BadBinding

-- ---- the cases of a match

-- two expressions, each with names of its own, that are added to the parts, the second where the first breaks no rule
abbrev pub AddsTwo : CodeContext → Names → Tree → Names → Tree → List Checked → List Checked → Result (Unit {0}) (Fault Break) → Type 0
AddsTwo c N a M b old new (Ok u) =
    (y : Checked) × (z : Checked) × (new ≡ old ++ y ∷ z ∷ [])
    × (expression_of y.code ≡ a) × Checks c N a (Ok y) × (expression_of z.code ≡ b) × Checks c M b (Ok z)
AddsTwo c N a M b old new (Err (Refused q)) = Checks c N a (Err (Refused q)) ⊎ ((y : Checked) × (expression_of y.code ≡ a) × Checks c N a (Ok y) × Checks c M b (Err (Refused q)))
AddsTwo c N a M b old new (Err NoMemory) = Unit {0}

-- the fault of a match of what is no optional, by what is found of its last expression
abbrev pub refusal : Result Checked (Fault Break) → Span → Fault Break
refusal (Ok y) at = Refused (record { rule = ArgumentKind; span = at })
refusal (Err f) at = f
