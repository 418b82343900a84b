-- What a walk through an expression finds.
use Rattle.std.proofs.Common.{◌≡◌, refl, sym, ap, ◌∙◌, ℕ, ◌+◌, ◌<◌, suc, List, [], ◌∷◌, ◌++◌, length, drop, get_or, append_assoc, arith, ◌==◌, ne_eqb, flat_map, OnOk, Result, Ok, Err, Some}
use Rattle.std.proofs.lemmas.Grind.{flat_map-append}
use Rattle.std.proofs.lemmas.List.{drop_more}
use Rattle.cl_sexpr.specs.Tree.{Tree, LeafAt, ListAt, TupleAt, Named, Signed, Unsigned, Bytes, Ascii, Unicode, Standing, Local, Forest, Then, forest, pairs}
use Rattle.cl_forms.specs.Items.{atom_of}
use Rattle.cl_forms.specs.Names.{Place, Plain, place_behind, next_place, is_one, first_at, atoms_in, atoms_of_list, atoms_of, atoms_of_pairs}

pub one_behind : (ts : List Tree) → is_one (forest ts) ≡ (length ts == 1)
one_behind [] = refl
one_behind (t ∷ []) = refl
one_behind (t ∷ u ∷ ts) = let n : ℕ = length ts in sym (ne_eqb (suc (suc n)) 1 (λ e. let two : suc (suc n) ≡ 1 = e in absurd (omega arith)))

named_first : (place : Place) (e : Tree) (es : Forest) (x : List ℕ) → Some x ≡ atom_of e → atoms_of_list place (Then e es) ≡ first_at place (is_one es) x ++ atoms_of (place_behind x) es
named_first place (LeafAt (Named y) at) es x is = let same : y ≡ x = cc in ap (λ (z : List ℕ). first_at place (is_one es) z ++ atoms_of (place_behind z) es) same
named_first place (LeafAt (Signed z) at) es x is = cc
named_first place (LeafAt (Unsigned z) at) es x is = cc
named_first place (LeafAt (Bytes z) at) es x is = cc
named_first place (LeafAt (Ascii z) at) es x is = cc
named_first place (LeafAt (Unicode z) at) es x is = cc
named_first place (LeafAt (Standing z) at) es x is = cc
named_first place (LeafAt (Local z) at) es x is = cc
named_first place (ListAt items at) es x is = cc
named_first place (TupleAt parts at) es x is = cc

module _ (f : List ℕ → List ℕ) where
  -- one part is found, then another
  found_both : (xs ys all : List (List ℕ)) (old mid new : List ℕ) → all ≡ xs ++ ys → mid ≡ old ++ flat_map f xs → new ≡ mid ++ flat_map f ys → new ≡ old ++ flat_map f all
  found_both xs ys all old mid new is first rest =
      rest ∙ ap (λ (l : List ℕ). l ++ flat_map f ys) first ∙ append_assoc old (flat_map f xs) (flat_map f ys)
      ∙ ap (λ (l : List ℕ). old ++ l) (sym (flat_map-append f xs ys)) ∙ ap (λ (l : List (List ℕ)). old ++ flat_map f l) (sym is)

  found_then : {E : Type 0} (r : Result Unit E) (xs ys all : List (List ℕ)) (old mid new : List ℕ) → all ≡ xs ++ ys → mid ≡ old ++ flat_map f xs → OnOk r (new ≡ mid ++ flat_map f ys) → OnOk r (new ≡ old ++ flat_map f all)
  found_then (Ok u) xs ys all old mid new is first rest = found_both xs ys all old mid new is first rest
  found_then (Err e) xs ys all old mid new is first rest = tt

  pub walked_named : {E : Type 0} (r : Result Unit E) (place behind : Place) (items : List Tree) (e : Tree) (es : List Tree) (x : List ℕ) (count : ℕ) (old mid new : List ℕ) → items ≡ e ∷ es → Some x ≡ atom_of e → count ≡ length es → behind ≡ place_behind x → mid ≡ old ++ flat_map f (first_at place (count == 1) x) → OnOk r (new ≡ mid ++ flat_map f (atoms_of behind (forest es))) → OnOk r (new ≡ old ++ flat_map f (atoms_of_list place (forest items)))
  walked_named r place behind items e es x count old mid new is named counted placed first rest =
      found_then r (first_at place (count == 1) x) (atoms_of behind (forest es)) (atoms_of_list place (forest items)) old mid new
      (ap (λ (l : List Tree). atoms_of_list place (forest l)) is ∙ named_first place e (forest es) x named
      ∙ ap (λ b. first_at place b x ++ atoms_of (place_behind x) (forest es)) (one_behind es ∙ ap (λ (n : ℕ). n == 1) (sym counted))
      ∙ ap (λ p. first_at place (count == 1) x ++ atoms_of p (forest es)) (sym placed))
      first rest

  -- one item more is walked through, or one pair
  pub item_found : (ts : List Tree) (i : ℕ) (t : Tree) (here next : Place) (old mid all : List ℕ) → i < length ts → t ≡ get_or ts i t → next ≡ next_place here → mid ≡ old ++ flat_map f (atoms_in here t) → old ++ flat_map f (atoms_of here (forest (drop i ts))) ≡ all → mid ++ flat_map f (atoms_of next (forest (drop (i + 1) ts))) ≡ all
  item_found ts i t here next old mid all inside at placed first so_far =
      let rest : Forest = forest (drop (i + 1) ts) in
      found_both (atoms_in here t) (atoms_of next rest) (atoms_of here (forest (drop i ts))) old mid (mid ++ flat_map f (atoms_of next rest))
      (ap (λ (us : List Tree). atoms_of here (forest us)) (drop_more ts i t inside)
      ∙ ap (λ (u : Tree). atoms_in here u ++ atoms_of (next_place here) rest) (sym at)
      ∙ ap (λ (p : Place). atoms_in here t ++ atoms_of p rest) (sym placed))
      first refl
      ∙ so_far

  pub pair_found : (ps : List (List ℕ × Tree)) (i : ℕ) (p : List ℕ × Tree) (old mid all : List ℕ) → i < length ps → p ≡ get_or ps i p → mid ≡ old ++ flat_map f (atoms_in Plain p.1) → old ++ flat_map f (atoms_of_pairs (pairs (drop i ps))) ≡ all → mid ++ flat_map f (atoms_of_pairs (pairs (drop (i + 1) ps))) ≡ all
  pair_found ps i p old mid all inside at first so_far =
      let rest : List (List ℕ) = atoms_of_pairs (pairs (drop (i + 1) ps)) in
      found_both (atoms_in Plain p.1) rest (atoms_of_pairs (pairs (drop i ps))) old mid (mid ++ flat_map f rest)
      (ap (λ (qs : List (List ℕ × Tree)). atoms_of_pairs (pairs qs)) (drop_more ps i p inside)
      ∙ ap (λ (q : List ℕ × Tree). atoms_in Plain q.1 ++ rest) (sym at))
      first refl
      ∙ so_far
