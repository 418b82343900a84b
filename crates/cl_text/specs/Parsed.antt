-- What becomes of a text that should be one literal.
use Rattle.std.specs.Prelude.{◌≡◌, ℕ, nat_lt, if◌then◌else◌, List, [], length, Result, Ok, Err}
use Rattle.cl_sexpr.specs.declared.sexpr.Span.{Span}
use Rattle.cl_sexpr.specs.declared.rule.Break.{Break}
use Rattle.cl_sexpr.specs.Tree.{Forest, Empty, Then, span_of}
use Rattle.cl_sexpr.specs.Text.{Reads, Breaks}
use Rattle.cl_values.specs.Tree.{Tree, depth_of}
use Rattle.cl_values.specs.Wire.{size_of}
use Rattle.cl_text.specs.Literal.{literal}
use Rattle.cl_text.specs.declared.refusal.TextRefusal.{TextRefusal}
use Rattle.cl_text.specs.declared.refusal.TextRefusal.TheVariants as refused

-- a value, or why there is none
pub data Reading : Type 0 where
  Stands : Tree → Reading
  Broken : Break → Reading
  NotALiteral TooDeep TooLarge : Span → Reading

-- the first limit that a value passes, with the span of its item
abbrev pub within_limits : Span → Tree → Reading
within_limits span v =
    if nat_lt 32 (depth_of v) then TooDeep span
    else (if nat_lt 1048576 (size_of v) then TooLarge span
    else Stands v)

abbrev pub value_outcome : Span → Result Tree Span → Reading
value_outcome span (Ok v) = within_limits span v
value_outcome span (Err part) = NotALiteral part

-- what becomes of the items of a text of so many bytes: it has to be one item
abbrev pub items_outcome : ℕ → Forest → Reading
items_outcome size Empty = NotALiteral (record { start = 0; end = size })
items_outcome size (Then item Empty) = value_outcome (span_of item) (literal item)
items_outcome size (Then item (Then other others)) = NotALiteral (record { start = 0; end = size })

-- The outcome of a text: the first rule of texts that it breaks, or what becomes of its items.
pub data Parses (text : List ℕ) (outcome : Reading) : Type 0 where
  breaks : (b : Break) → Breaks text b → outcome ≡ Broken b → Parses text outcome
  reads : (items : Forest) → Reads text items → outcome ≡ items_outcome (length text) items → Parses text outcome

-- a refusal as an outcome
abbrev pub outcome_of : TextRefusal → Reading
outcome_of (refused.Syntax r) = Broken (record { rule = r.rule; span = r.span })
outcome_of (refused.NotALiteral span) = NotALiteral span
outcome_of (refused.TooDeep span) = TooDeep span
outcome_of (refused.TooLarge span) = TooLarge span

-- only a cycle of definitions has names, and no rule of texts is about it
abbrev pub HasNoNames : TextRefusal → Type 0
HasNoNames (refused.Syntax r) = r.names.items ≡ []
HasNoNames (refused.NotALiteral span) = Unit {0}
HasNoNames (refused.TooDeep span) = Unit {0}
HasNoNames (refused.TooLarge span) = Unit {0}
