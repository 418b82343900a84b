-- What becomes of a text is one outcome.
use Rattle.std.proofs.Common.{◌≡◌, ◌==◌, ℕ, List, [], ◌∷◌, length, true, false, arith, refl, sym, ap, ◌∙◌}
use Rattle.std.specs.Prelude.{Result, Ok, Err, IfOk}
use Rattle.cl_types.specs.declared.fault.Fault.{Fault}
use Rattle.cl_types.specs.declared.fault.Fault.TheVariants.{Refused, NoMemory}
use Rattle.cl_types.specs.Fault.{IfRefused}
use Rattle.cl_sexpr.specs.declared.rule.Break.{Break}
use Rattle.cl_sexpr.specs.Tree.{Tree as Item, Forest, Then, forest, span_of}
use Rattle.cl_sexpr.specs.Text.{Reads, Breaks}
use Rattle.cl_values.specs.Tree.{Tree}
use Rattle.cl_text.specs.declared.refusal.TextRefusal.{TextRefusal}
use Rattle.cl_text.specs.Literal.{literal}
use Rattle.cl_text.specs.Parsed.{Reading, Stands, Broken, NotALiteral, value_outcome, items_outcome, Parses, breaks, reads, outcome_of}
use Rattle.cl_text.proofs.Written.{none_counted}

pub more_items : (size : ℕ) (t : Item) (ts : List Item) → (length ts == 0) ≡ false → items_outcome size (Then t (forest ts)) ≡ NotALiteral (record { start = 0; end = size })
more_items size t [] e = absurd cc
more_items size t (u ∷ ts) e = refl

pub no_items : (size : ℕ) (ts : List Item) → length ts ≡ 0 → items_outcome size (forest ts) ≡ NotALiteral (record { start = 0; end = size })
no_items size [] h = refl
no_items size (t ∷ ts) h = absurd (omega (arith, h))

pub one_item : (size : ℕ) (ts us : List Item) (t : Item) → ts ≡ t ∷ us → true ≡ (length us == 0) → value_outcome (span_of t) (literal t) ≡ items_outcome size (forest ts)
one_item size ts us t is h = ap (λ (xs : List Item). items_outcome size (forest xs)) (sym (is ∙ ap (λ (vs : List Item). t ∷ vs) (none_counted us h)))

-- with the laws of reading: a text has one list of items or one break
pub one_outcome : ((bytes : List ℕ) (a b : Forest) → Reads bytes a → Reads bytes b → a ≡ b) → ((bytes : List ℕ) (a : Forest) (r : Break) → Reads bytes a → Breaks bytes r → ⊥) → ((bytes : List ℕ) (r s : Break) → Breaks bytes r → Breaks bytes s → r ≡ s) → (text : List ℕ) (a b : Reading) → Parses text a → Parses text b → a ≡ b
one_outcome reading either first text a b (breaks r h p) (breaks s g q) = p ∙ (ap Broken (first text r s h g) ∙ sym q)
one_outcome reading either first text a b (breaks r h p) (reads f g q) = absurd (either text f r g h)
one_outcome reading either first text a b (reads f h p) (breaks s g q) = absurd (either text f s h g)
one_outcome reading either first text a b (reads f h p) (reads e g q) = p ∙ (ap (items_outcome (length text)) (reading text f e h g) ∙ sym q)

-- what becomes of the items is what becomes of their text
pub found_so : {E : Type 0} (text : List ℕ) (items seen : List Item) (result : Result Tree E) → Reads text (forest items) → seen ≡ items → IfOk result (λ v. items_outcome (length text) (forest seen) ≡ Stands v) → IfOk result (λ v. Parses text (Stands v))
found_so text items seen (Ok v) r same h = reads (forest items) r (sym h ∙ ap (λ (ts : List Item). items_outcome (length text) (forest ts)) same)
found_so text items seen (Err e) r same h = tt

pub broken_so : {T : Type 0} (text : List ℕ) (items seen : List Item) (result : Result T (Fault TextRefusal)) → Reads text (forest items) → seen ≡ items → IfRefused result (λ r. items_outcome (length text) (forest seen) ≡ outcome_of r) → IfRefused result (λ r. Parses text (outcome_of r))
broken_so text items seen (Ok v) r same h = tt
broken_so text items seen (Err (Refused e)) r same h = reads (forest items) r (sym h ∙ ap (λ (ts : List Item). items_outcome (length text) (forest ts)) same)
broken_so text items seen (Err NoMemory) r same h = tt
