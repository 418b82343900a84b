-- A text that was accepted is read anew as the same forms.
use Rattle.std.specs.Prelude.{map}
use Rattle.std.proofs.Common.{◌≡◌, ℕ, List, [], ◌∷◌, Some, refl, sym, subst, ap, ◌∙◌}
use Rattle.cl_sexpr.specs.Tree.{Forest, Tree, forest}
use Rattle.cl_sexpr.specs.Text.{Reads, Breaks}
use Rattle.cl_sexpr.specs.declared.rule.Break.{Break}
use Rattle.cl_forms.specs.Forms.{Form}
use Rattle.cl_forms.specs.FormBreaks.{AreForms, IsFirstBreak}
use Rattle.cl_forms.specs.Shapes.{trees_of}
use Rattle.cl_forms.specs.Texts.{Text}
use Rattle.cl_bound.proofs.Heads.{trees_forest}
use Rattle.cl_contracts.specs.declared.parts.Parts.{Parts}
use Rattle.cl_contracts.specs.Seen.{forms_of}
use Rattle.cl_audit_entries.specs.Deploying.{IsReadAs}

-- a text has one list of items
abbrev pub OneReading : Type 0
OneReading = (bytes : List ℕ) (a b : Forest) → Reads bytes a → Reads bytes b → a ≡ b

-- and no break beside it
abbrev pub EitherReading : Type 0
EitherReading = (bytes : List ℕ) (a : Forest) (b : Break) → Reads bytes a → Breaks bytes b → ⊥

all_same : {A : Type 0} (xs ys : List A) → map Some xs ≡ map Some ys → xs ≡ ys
all_same [] [] h = refl
all_same [] (y ∷ ys) h = absurd cc
all_same (x ∷ xs) [] h = absurd cc
all_same (x ∷ xs) (y ∷ ys) h =
    let head : x ≡ y = cc in
    let tail : map Some xs ≡ map Some ys = cc in
    λ i. head i ∷ all_same xs ys tail i

module _ (text : Text) (c : Parts) (read : IsReadAs text c) where
  -- it reads
  pub no_break : EitherReading → (b : Break) → Breaks text.bytes b → ⊥
  no_break either b breaks = either text.bytes read.ordered.items b read.ordered.reads breaks

  module _ (one : OneReading) (items : List Tree) (reads : Reads text.bytes (forest items)) where
    same_items : items ≡ trees_of read.ordered.items
    same_items = sym (trees_forest items) ∙ ap trees_of (one text.bytes (forest items) read.ordered.items reads read.ordered.reads)

    pub no_form_break : (b : Break) → IsFirstBreak text.version items b → ⊥
    no_form_break b first =
        let again = subst (λ (ts : List Tree). IsFirstBreak text.version ts b) same_items first in
        read.ordered.are_forms.unbroken again.place b again.breaks

    pub same_forms : (forms : List Form) → AreForms text.version items forms → forms ≡ forms_of c
    same_forms forms are =
        let again = subst (λ (ts : List Tree). AreForms text.version ts forms) same_items are in
        all_same forms (forms_of c) (sym again.forms_are ∙ read.ordered.are_forms.forms_are)
