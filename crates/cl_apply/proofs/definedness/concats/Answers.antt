use Rattle.std.proofs.Common.{◌≡◌, ◌≤◌, ◌+◌, ◌++◌, ℕ, List, [], ◌∷◌, nat_le, length-append, arith, ap, sym, subst, ◌∙◌}
use Rattle.cl_values.specs.Tree.{Tree, BuffV, AsciiV, Utf8V, ListV, items_of, depth_of}
use Rattle.cl_values.specs.View.{tree_of}
use Rattle.cl_values.specs.Wire.{size_of}
use Rattle.cl_values.specs.Computed.{is_defined, kept}
use Rattle.cl_values.specs.Sequences.{concat}
use Rattle.cl_apply.proofs.DefinedLaws.{joined_by, concat_lists_is, concat_characters_is}
use Rattle.cl_apply.proofs.definedness.concats.Goals as goal

abbrev Joins : Tree → Tree → Type 0
Joins v w = nat_le (size_of v + size_of w) 1048581 ≡ is_defined (kept (concat (v ∷ w ∷ [])))

joins : (v w a b : Tree) → v ≡ a → w ≡ b → Joins v w → Joins a b
joins v w a b first second h = subst (λ (x : Tree). Joins x b) first (subst (Joins v) second h)

shallow : (v a : Tree) (n : ℕ) → v ≡ a → n ≡ depth_of a → n ≤ 32 → depth_of v ≤ 32
shallow v a n is e h = omega (arith, ap depth_of is)

pub returns-in-List-List : goal.returns-in-List-List
returns-in-List-List c =
    let xs : List Tree = c.in-List-List.field-0-0.items in
    let ys : List Tree = c.in-List-List.field-0-1.items in
    let first : ListV (items_of xs) ≡ c.args.first.now = ap tree_of (sym c.in-List-List.is-0) ∙ c.behind-first.view_is ∙ c.value.ensures.tree in
    let second : ListV (items_of ys) ≡ c.args.second.now = ap tree_of (sym c.in-List-List.is-1) ∙ c.behind-second.view_is ∙ c.value-2.ensures.tree in
    c.fits_joined.ensures ∙ joins (ListV (items_of xs)) (ListV (items_of ys)) c.args.first.now c.args.second.now first second (concat_lists_is xs ys (shallow (ListV (items_of xs)) c.args.first.now c.depth-depth.result first c.depth-depth.ensures.counted c.depth-depth.ensures.within) (shallow (ListV (items_of ys)) c.args.second.now c.depth-other.result second c.depth-other.ensures.counted c.depth-other.ensures.within))

pub returns-in-Buff-Buff : goal.returns-in-Buff-Buff
returns-in-Buff-Buff c =
    let xs : List ℕ = c.in-Buff-Buff.field-0-0.items in
    let ys : List ℕ = c.in-Buff-Buff.field-0-1.items in
    c.fits_joined-in-Buff-Buff.ensures ∙ joins (BuffV xs) (BuffV ys) c.args.first.now c.args.second.now (ap tree_of (sym c.in-Buff-Buff.is-0) ∙ c.behind-first.view_is ∙ c.value.ensures.tree) (ap tree_of (sym c.in-Buff-Buff.is-1) ∙ c.behind-second.view_is ∙ c.value-2.ensures.tree) (joined_by (BuffV (xs ++ ys)) (size_of (BuffV xs) + size_of (BuffV ys)) (omega arith) (omega (arith, length-append xs ys)))

pub returns-in-Ascii-Ascii : goal.returns-in-Ascii-Ascii
returns-in-Ascii-Ascii c =
    let xs : List ℕ = c.in-Ascii-Ascii.field-0-0.items in
    let ys : List ℕ = c.in-Ascii-Ascii.field-0-1.items in
    c.fits_joined-in-Ascii-Ascii.ensures ∙ joins (AsciiV xs) (AsciiV ys) c.args.first.now c.args.second.now (ap tree_of (sym c.in-Ascii-Ascii.is-0) ∙ c.behind-first.view_is ∙ c.value.ensures.tree) (ap tree_of (sym c.in-Ascii-Ascii.is-1) ∙ c.behind-second.view_is ∙ c.value-2.ensures.tree) (joined_by (AsciiV (xs ++ ys)) (size_of (AsciiV xs) + size_of (AsciiV ys)) (omega arith) (omega (arith, length-append xs ys)))

pub returns-in-Utf8-Utf8 : goal.returns-in-Utf8-Utf8
returns-in-Utf8-Utf8 c =
    let xs : List ℕ = c.in-Utf8-Utf8.field-0-0.items in
    let ys : List ℕ = c.in-Utf8-Utf8.field-0-1.items in
    c.fits_joined-in-Utf8-Utf8.ensures ∙ joins (Utf8V xs) (Utf8V ys) c.args.first.now c.args.second.now (ap tree_of (sym c.in-Utf8-Utf8.is-0) ∙ c.behind-first.view_is ∙ c.value.ensures.tree) (ap tree_of (sym c.in-Utf8-Utf8.is-1) ∙ c.behind-second.view_is ∙ c.value-2.ensures.tree) (concat_characters_is xs ys)
