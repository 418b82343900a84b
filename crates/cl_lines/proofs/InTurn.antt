-- Lines that are made or written one after another.
use Rattle.std.proofs.Common.{◌≡◌, ℕ, ◌+◌, ◌<◌, ◌≤◌, List, [], ◌∷◌, ◌++◌, map, length, drop, take, get_or, codes, sym, ap, ◌∙◌, append_assoc}
use Rattle.std.specs.List.{flat_map}
use Rattle.cl_lines.specs.Refusals.{names_text}
use Rattle.std.proofs.lemmas.List.{append-nil, drop_all, drop_more, map_push, take_all, take_more}

module _ {A : Type 0} (text : A → List ℕ) (xs : List A) where
  -- the text of one more is written
  pub one_written : (out more whole : List ℕ) (i : ℕ) (x : A) → i < length xs → x ≡ get_or xs i x → more ≡ out ++ text x → out ++ flat_map text (drop i xs) ≡ whole → more ++ flat_map text (drop (i + 1) xs) ≡ whole
  one_written out more whole i x lt at grown so_far =
      ap (λ (o : List ℕ). o ++ flat_map text (drop (i + 1) xs)) grown
      ∙ append_assoc out (text x) (flat_map text (drop (i + 1) xs))
      ∙ ap (λ (o : List ℕ). out ++ o) (sym (ap (flat_map text) (drop_more xs i x lt ∙ ap (λ (y : A). y ∷ drop (i + 1) xs) (sym at))))
      ∙ so_far

  pub each_written : (out whole : List ℕ) (i : ℕ) → length xs ≤ i → out ++ flat_map text (drop i xs) ≡ whole → out ≡ whole
  each_written out whole i far so_far = sym (append-nil out) ∙ ap (λ (ys : List A). out ++ flat_map text ys) (sym (drop_all i xs far)) ∙ so_far

  -- one more line is made, which has this text
  pub one_made : {L : Type 0} (shown : L → List ℕ) (done more : List L) (line : L) (i : ℕ) (x : A) → i < length xs → x ≡ get_or xs i x → more ≡ done ++ line ∷ [] → shown line ≡ text x → map shown done ≡ map text (take i xs) → map shown more ≡ map text (take (i + 1) xs)
  one_made {L = L} shown done more line i x lt at grown is so_far =
      ap (map shown) grown ∙ map_push shown done line
      ∙ ap (λ (ls : List (List ℕ)). ls ++ shown line ∷ []) so_far
      ∙ ap (λ (l : List ℕ). map text (take i xs) ++ l ∷ []) is
      ∙ sym (ap (map text) (take_more xs i x lt ∙ ap (λ (y : A). take i xs ++ y ∷ []) (sym at)) ∙ map_push text (take i xs) x)

  pub each_made : {L : Type 0} (shown : L → List ℕ) (done : List L) (i : ℕ) → length xs ≤ i → map shown done ≡ map text (take i xs) → map shown done ≡ map text xs
  each_made shown done i far so_far = so_far ∙ ap (map text) (take_all i xs far)

-- ---- names, each behind a space

one_name : (name rest : List ℕ) → names_text (name ∷ []) ++ rest ≡ codes " " ++ (name ++ rest)
one_name name rest = append_assoc (codes " ") (name ++ []) rest ∙ ap (λ (o : List ℕ). codes " " ++ o) (append_assoc name [] rest)

module _ (names : List (List ℕ)) where
  pub name_written : (out more whole : List ℕ) (i : ℕ) (name : List ℕ) → i < length names → name ≡ get_or names i name → more ≡ out ++ names_text (name ∷ []) → out ++ names_text (drop i names) ≡ whole → more ++ names_text (drop (i + 1) names) ≡ whole
  name_written out more whole i name lt at grown so_far =
      ap (λ (o : List ℕ). o ++ names_text (drop (i + 1) names)) grown
      ∙ append_assoc out (names_text (name ∷ [])) (names_text (drop (i + 1) names))
      ∙ ap (λ (o : List ℕ). out ++ o) (one_name name (names_text (drop (i + 1) names)) ∙ sym (ap names_text (drop_more names i name lt ∙ ap (λ (n : List ℕ). n ∷ drop (i + 1) names) (sym at))))
      ∙ so_far

  pub names_written : (out whole : List ℕ) (i : ℕ) → length names ≤ i → out ++ names_text (drop i names) ≡ whole → out ≡ whole
  names_written out whole i far so_far = sym (append-nil out) ∙ ap (λ (ns : List (List ℕ)). out ++ names_text ns) (sym (drop_all i names far)) ∙ so_far
