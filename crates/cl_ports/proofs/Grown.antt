-- How growths of a list that may not be told follow one another.
use Rattle.std.proofs.Common.{◌≡◌, ℕ, List, [], ◌++◌, take, drop, Option, Some, refl, sym, ◌∙◌, ap, take-append-drop, append_assoc, append-nil}
use Rattle.cl_ports.specs.Growth.{Grows, GrowsPart}

-- one growth and then another
pub grows_twice : {X : Type 0} (before between now : Option (List X)) (xs ys : List X) → Grows before between xs → Grows between now ys → Grows before now (xs ++ ys)
grows_twice before between now xs ys g h =
    record { told = λ zs is. h.told (zs ++ xs) (g.told zs is) ∙ ap Some (append_assoc zs xs ys) }

-- a whole growth and then a part of the next
pub part_next : {X : Type 0} (before between now : Option (List X)) (xs ys : List X) → Grows before between xs → GrowsPart between now ys → GrowsPart before now (xs ++ ys)
part_next before between now xs ys g h = record {
  part = xs ++ h.part;
  rest = h.rest;
  parts = append_assoc xs h.part h.rest ∙ ap (λ zs. xs ++ zs) h.parts;
  grown = grows_twice before between now xs h.part g h.grown;
}

-- a part of some is a part of some and more
pub part_more : {X : Type 0} (before now : Option (List X)) (xs ys : List X) → GrowsPart before now xs → GrowsPart before now (xs ++ ys)
part_more before now xs ys g = record {
  part = g.part;
  rest = g.rest ++ ys;
  parts = sym (append_assoc g.part g.rest ys) ∙ ap (λ zs. zs ++ ys) g.parts;
  grown = g.grown;
}

-- nothing is a part of anything
pub part_none : {X : Type 0} (before now : Option (List X)) (whole : List X) → now ≡ before → GrowsPart before now whole
part_none before now whole e = record {
  part = [];
  rest = whole;
  parts = refl;
  grown = record { told = λ xs is. e ∙ is ∙ ap Some (sym (append-nil xs)) };
}

-- the whole is a part of itself
pub part_whole : {X : Type 0} (before now : Option (List X)) (whole : List X) → Grows before now whole → GrowsPart before now whole
part_whole before now whole g = record { part = whole; rest = []; parts = append-nil whole; grown = g }

-- a told list took the first n of a piece
pub part_take : {X : Type 0} (n : ℕ) (xs piece : List X) (now : Option (List X)) → now ≡ Some (xs ++ take n piece) → GrowsPart (Some xs) now piece
part_take n xs piece now e = record {
  part = take n piece;
  rest = drop n piece;
  parts = take-append-drop n piece;
  grown = record { told = λ ys is. cc };
}
