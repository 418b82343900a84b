-- A test that items are placed.
use Rattle.std.proofs.Common.{◌≡◌, ℕ, nat_lt, nat_le, ◌&&◌, Bool, true, false, List, [], ◌∷◌, Option, Some, None, refl}
use Rattle.std.proofs.lemmas.Bool.{ltb-true, leb-true}
use Rattle.cl_sexpr.specs.Tree.{Tree, LeafAt, ListAt, TupleAt, Forest, Empty, Then, Pairs, NoPair, Pair, span_of}
use Rattle.cl_forms.specs.Forms.{Form, expression_of}
use Rattle.cl_sexpr.specs.Placed.{IsPlaced, ArePlaced, ArePairsPlaced}
use Rattle.cl_forms.specs.Placed.{IsPlacedIf, AreFormsPlaced}

abbrev mutual
  pub is_placed : Tree → Bool
  is_placed (LeafAt leaf s) = nat_lt s.start s.end
  is_placed (ListAt items s) = are_placed s.start s.end items
  is_placed (TupleAt ps s) = are_pairs_placed s.start s.end ps

  pub are_placed : ℕ → ℕ → Forest → Bool
  are_placed low high Empty = nat_lt low high
  are_placed low high (Then e es) = nat_le low (span_of e).start && (is_placed e && are_placed (span_of e).end high es)

  pub are_pairs_placed : ℕ → ℕ → Pairs → Bool
  are_pairs_placed low high NoPair = nat_lt low high
  are_pairs_placed low high (Pair k e ps) = nat_le low (span_of e).start && (is_placed e && are_pairs_placed (span_of e).end high ps)

halves : (a b : Bool) → (a && b) ≡ true → (a ≡ true) × (b ≡ true)
halves true b h = (refl, h)
halves false b h = absurd (never h)
  where
    never : false ≡ true → ⊥
    never e = cc

mutual
  pub placed_so : (e : Tree) → is_placed e ≡ true → IsPlaced e
  placed_so (LeafAt leaf s) h = ltb-true s.start s.end h
  placed_so (ListAt items s) h = row_so s.start s.end items h
  placed_so (TupleAt ps s) h = pairs_so s.start s.end ps h

  row_so : (low high : ℕ) (f : Forest) → are_placed low high f ≡ true → ArePlaced low high f
  row_so low high Empty h = ltb-true low high h
  row_so low high (Then e es) h =
      let x = halves (nat_le low (span_of e).start) (is_placed e && are_placed (span_of e).end high es) h in
      let y = halves (is_placed e) (are_placed (span_of e).end high es) x.1 in
      (leb-true low (span_of e).start x.0, placed_so e y.0, row_so (span_of e).end high es y.1)

  pairs_so : (low high : ℕ) (ps : Pairs) → are_pairs_placed low high ps ≡ true → ArePairsPlaced low high ps
  pairs_so low high NoPair h = ltb-true low high h
  pairs_so low high (Pair k e ps) h =
      let x = halves (nat_le low (span_of e).start) (is_placed e && are_pairs_placed (span_of e).end high ps) h in
      let y = halves (is_placed e) (are_pairs_placed (span_of e).end high ps) x.1 in
      (leb-true low (span_of e).start x.0, placed_so e y.0, pairs_so (span_of e).end high ps y.1)

abbrev pub is_placed_if : Option Tree → Bool
is_placed_if None = true
is_placed_if (Some e) = is_placed e

abbrev pub are_forms_placed : List Form → Bool
are_forms_placed [] = true
are_forms_placed (form ∷ forms) = is_placed_if (expression_of form.kind) && are_forms_placed forms

placed_if_so : (o : Option Tree) → is_placed_if o ≡ true → IsPlacedIf o
placed_if_so None h = tt
placed_if_so (Some e) h = placed_so e h

pub forms_placed_so : (forms : List Form) → are_forms_placed forms ≡ true → AreFormsPlaced forms
forms_placed_so [] h = tt
forms_placed_so (form ∷ forms) h = let x = halves (is_placed_if (expression_of form.kind)) (are_forms_placed forms) h in (placed_if_so (expression_of form.kind) x.0, forms_placed_so forms x.1)
