-- Each source has an answer.
use Rattle.std.specs.Prelude.{◌⊎◌, ℕ, Bool, List}
use Rattle.cl_c32.specs.declared.principal.Principal.{Principal}
use Rattle.cl_sexpr.specs.declared.sexpr.Span.{Span}
use Rattle.cl_sexpr.specs.declared.rule.Rule.{Rule}
use Rattle.cl_sexpr.specs.Tree.{Leaf}
use Rattle.cl_forms.specs.Texts.{Text}
use Rattle.cl_forms.specs.Forms.{Form}
use Rattle.cl_forms.specs.Writes.{Writes}
use Rattle.cl_rules.specs.Context.{CostTable, Known}
use Rattle.cl_rules.specs.Acceptance.{Ordered, Accepted, FirstUnordered, FirstBreakOf}

-- a text has forms in an order, or a first break before its forms are looked at one by one
abbrev pub EachHasOrder : Type 0
EachHasOrder = (text : Text) →
    ((forms : List Form) × (order : List ℕ) × Ordered text forms order)
    ⊎ ((rule : Rule) × (span : Span) × (names : List (List ℕ)) × FirstUnordered text rule span names)

-- a function writes, or it doesn't
abbrev pub EachWritesOrNot : Type 0
EachWritesOrNot = (forms : List Form) (is_public : Leaf → List ℕ → Bool) (name : List ℕ) → Writes forms is_public name ⊎ (Writes forms is_public name → ⊥)

-- a source is accepted, or it has a first break
abbrev pub EachHasAnswer : Type 0
EachHasAnswer = (deployed : List Known) (principal : Principal) (table : CostTable) (text : Text) →
    Accepted deployed principal table text
    ⊎ ((rule : Rule) × (span : Span) × (names : List (List ℕ)) × FirstBreakOf deployed principal table text rule span names)
