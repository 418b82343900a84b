-- The forms of a text in their order are placed.
use Rattle.std.proofs.Common.{ℕ, zero, suc, ◌+◌, List, [], ◌∷◌, length, slice_get, Option, Some, None}
use Rattle.std.specs.List.{cons_option}
use Rattle.cl_sexpr.specs.Tree.{Tree, Forest}
use Rattle.cl_sexpr.specs.Text.{Reads}
use Rattle.cl_sexpr.specs.Placed.{ArePlaced}
use Rattle.cl_forms.specs.declared.version.Version.{Version}
use Rattle.cl_forms.specs.Texts.{Text}
use Rattle.cl_forms.specs.Forms.{Form, expression_of}
use Rattle.cl_forms.specs.FormBreaks.{AreForms}
use Rattle.cl_forms.specs.Shapes.{trees_of}
use Rattle.cl_forms.specs.Placed.{IsPlacedIf, AllPlaced, AreFormsPlaced}
use Rattle.cl_rules.specs.Acceptance.{Ordered, forms_at}

-- what is known of where items and expressions stand
pub record Standing : Type 0 where
  pub items : (bytes : List ℕ) (items : Forest) → Reads bytes items → ArePlaced 0 (length bytes + 1) items
  pub each : (low high : ℕ) (items : Forest) → ArePlaced low high items → AllPlaced (trees_of items)
  pub forms : (version : Version) (items : List Tree) (forms : List Form) → AllPlaced items → AreForms version items forms → AreFormsPlaced forms

abbrev FormPlaced : Option Form → Type 0
FormPlaced None = Unit {0}
FormPlaced (Some form) = IsPlacedIf (expression_of form.kind)

-- the form at a place among placed ones
got_placed : (forms : List Form) (n : ℕ) → AreFormsPlaced forms → FormPlaced (slice_get forms n)
got_placed [] n p = tt
got_placed (form ∷ forms) zero p = p.0
got_placed (form ∷ forms) (suc n) p = got_placed forms n p.1

one_more_placed : (o : Option Form) (forms : List Form) → FormPlaced o → AreFormsPlaced forms → AreFormsPlaced (cons_option o forms)
one_more_placed None forms p q = q
one_more_placed (Some form) forms p q = (p, q)

at_places : (forms : List Form) (order : List ℕ) → AreFormsPlaced forms → AreFormsPlaced (forms_at forms order)
at_places forms [] p = tt
at_places forms (n ∷ ns) p = one_more_placed (slice_get forms n) (forms_at forms ns) (got_placed forms n p) (at_places forms ns p)

-- the items of a text are placed each
pub text_placed : Standing → (text : Text) (items : Forest) → Reads text.bytes items → AllPlaced (trees_of items)
text_placed known text items reads = known.each 0 (length text.bytes + 1) items (known.items text.bytes items reads)

-- the expressions of a text's forms in their order
pub ordered_placed : Standing → (text : Text) (forms : List Form) (order : List ℕ) → Ordered text forms order → AreFormsPlaced (forms_at forms order)
ordered_placed known text forms order x =
    at_places forms order (known.forms text.version (trees_of x.items) forms (text_placed known text x.items x.reads) x.are_forms)
