-- What the examples share.
use Rattle.std.specs.Prelude.{ℕ, List, [], ◌∷◌, codes, length, replicate, if◌then◌else◌, Option, Some, None}
use Rattle.cl_c32.specs.declared.principal.Principal.{Principal}
use Rattle.std.specs.Str.{bytes_eq}
use Rattle.cl_shapes.specs.declared.function.CostFn.{CostFn}
use Rattle.cl_shapes.specs.declared.function.Shape.TheVariants.{Constant, Linear}
use Rattle.cl_shapes.specs.Names.{cost_name, unit_function}
use Rattle.cl_shapes.specs.Functions.{log2, halvings}
use Rattle.cl_shapes.specs.declared.cost.Cost5.{Cost5}
use Rattle.cl_shapes.specs.declared.cost.Dimension.{Dimension}
use Rattle.cl_types.specs.Types.{PlainType}
use Rattle.cl_sexpr.specs.declared.sexpr.Span.{Span}
use Rattle.cl_sexpr.specs.declared.rule.Rule.{Rule}
use Rattle.cl_sexpr.specs.declared.rule.Rule.TheVariants.{TooDeepCalls}
use Rattle.hex.specs.Hex.{decode_pairs}
use Rattle.cl_sexpr.specs.Leaf.{run_token}
use Rattle.cl_sexpr.specs.Quote.{escape_of, string_at, text_in}
use Rattle.cl_sexpr.specs.Text.{token_at}
use Rattle.cl_forms.specs.declared.version.Version.TheVariants.{One, Two}
use Rattle.cl_forms.specs.Texts.{Text, text_of}
use Rattle.cl_forms.specs.WrittenTypes.{written_type}
use Rattle.cl_forms.specs.Heads.{native, words, is_reserved}
use Rattle.cl_forms.specs.Items.{item_of}
use Rattle.cl_forms.specs.Order.{visit, ordered}
use Rattle.cl_rules.specs.Context.{CostTable, Known}
use Rattle.cl_rules.specs.NativeTypes.{native_type}
use Rattle.cl_rules.specs.Table.{head_shape, shape}
use Rattle.cl_rules.specs.FormRules.{Defined}
use Rattle.cl_rules.specs.Acceptance.{known_of}
use Rattle.cl_rules.specs.Judging.{Judged, Holds, Fails, Deeper, judged, form_judged, forms_judged}
use Rattle.cl_rules.specs.PlainProgram.{read_on, program_of, text_judged, bound_stop_of, line_by, deployment_by}

-- all that an example opens
unfoldable pub opened : Unit {0}
unfolding native words is_reserved item_of written_type visit ordered decode_pairs run_token escape_of text_in string_at token_at native_type head_shape shape judged form_judged forms_judged read_on log2 halvings
opened = tt

-- the contract f of the address SP000000000000000000002Q6VF78
abbrev pub contract_f : Principal
contract_f = record { address = record { version = 22; hash = replicate 20 0 }; contract = Some (codes "f") }

-- a contract of the same address
abbrev pub contract_named : List ℕ → Principal
contract_named name = record contract_f { contract = Some name }

-- a text of version 1
abbrev pub of_one : List ℕ → Text
of_one bytes = text_of bytes One

-- a text of version 1 judged as the contract f, with no contract deployed
abbrev pub checked : List ℕ → Judged Defined
checked text = text_judged [] contract_f (of_one text)

-- the same of a text of version 2
abbrev pub checked_two : List ℕ → Judged Defined
checked_two text = text_judged [] contract_f (text_of text Two)

abbrev pub span : ℕ → ℕ → Span
span start end = record { start = start; end = end }

-- the rule that a text breaks, and where
abbrev pub refused : Rule → ℕ → ℕ → Judged Defined
refused rule start end = Fails rule (span start end)

-- a function's bound in the unit table and its return type
abbrev pub line : List ℕ → List ℕ → Option (Cost5 × PlainType)
line name text = line_by unit_function name (checked text)

abbrev pub deployment : List ℕ → Option Cost5
deployment text = deployment_by unit_function (checked text)

-- the first bound of a text that is above the limit in the unit table
abbrev pub bound_break : List ℕ → Judged (Option (Dimension × Span))
bound_break text = bound_stop_of unit_function (program_of text) (checked text)

-- the rule that is broken, if one is; what the plain program doesn't reach counts as too deep
abbrev pub rule_of : Judged Defined → Option Rule
rule_of (Holds defined) = None
rule_of (Fails rule s) = Some rule
rule_of Deeper = Some TooDeepCalls

-- ---- the number of one charge

abbrev pub nothing_charged : CostFn
nothing_charged = record { runtime = Constant 0; read_count = Constant 0; read_length = Constant 0; write_count = Constant 0; write_length = Constant 0 }

-- a cost table that charges only what has this name, by its number
abbrev pub only : List ℕ → CostTable
only word name = if bytes_eq (cost_name name) word then record nothing_charged { runtime = Linear 1 0 } else nothing_charged

abbrev pub number_of : Option (Cost5 × PlainType) → Option (ℕ × PlainType)
number_of None = None
number_of (Some l) = Some (l.0.runtime, l.1)

-- the sum of the numbers of the charges of this name in the bound of the function f, and its return type
abbrev pub charged : List ℕ → List ℕ → Option (ℕ × PlainType)
charged word text = number_of (line_by (only word) (codes "f") (checked text))

-- the same of a text of version 2
abbrev pub line_two : List ℕ → List ℕ → Option (Cost5 × PlainType)
line_two name text = line_by unit_function name (checked_two text)

abbrev pub charged_two : List ℕ → List ℕ → Option (ℕ × PlainType)
charged_two word text = number_of (line_by (only word) (codes "f") (checked_two text))

-- ---- deployed contracts

abbrev pub known_by : Principal → ℕ → Judged Defined → List Known
known_by principal size (Holds defined) = known_of principal size defined ∷ []
known_by principal size (Fails r s) = []
known_by principal size Deeper = []

-- the contract of this name and text, deployed alone
abbrev pub deployed : List ℕ → List ℕ → List Known
deployed name text = known_by (contract_named name) (length text) (text_judged [] (contract_named name) (of_one text))
