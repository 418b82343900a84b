-- Texts cut at the first byte of a kind.
use Rattle.std.proofs.Common.{◌≡◌, ℕ, ◌+◌, ◌==◌, Bool, true, false, cond, not, List, [], ◌∷◌, ◌++◌, length, take, drop, Option, Some, None, refl, sym, ap, ◌∙◌, arith, eq-eqb, eqb-true}
use Rattle.std.specs.Prelude.{position}
use Rattle.std.specs.List.{list_all, position_from}
use Rattle.std.proofs.Math.Seq.{take-append_seam, drop-append-add}
use Rattle.std.proofs.lemmas.Iterator.Adapters.{position_from-zero}
use Rattle.cl_text.proofs.Runs.{position_some}
use Rattle.cl_claims.specs.Parts.{parts_at, split_at}

-- the byte isn't in the text
abbrev pub IsFree : ℕ → List ℕ → Type 0
IsFree mark text = list_all (λ c. not (c == mark)) text ≡ true

pub split_there : (mark : ℕ) (xs ys : List ℕ) → IsFree mark xs → split_at mark (xs ++ mark ∷ ys) ≡ Some (xs, ys)
split_there mark xs ys free =
    let front : take (length xs) (xs ++ mark ∷ ys) ≡ xs = take-append_seam xs (mark ∷ ys) in
    let back : drop (length xs + 1) (xs ++ mark ∷ ys) ≡ ys = drop-append-add xs (mark ∷ ys) 1 in
    ap (parts_at (xs ++ mark ∷ ys)) (position_some (λ c. c == mark) xs mark ys free (eq-eqb mark mark refl)) ∙ (λ i. Some (front i, back i))

-- where the byte was found, the text is what stands before it, the byte, and what stands behind it
record Found (mark n k : ℕ) (text : List ℕ) : Type 0 where
  front : List ℕ
  back : List ℕ
  is : text ≡ front ++ mark ∷ back
  place : k ≡ n + length front

found_at : (mark n k : ℕ) (text : List ℕ) → position_from (λ c. c == mark) n text ≡ Some k → Found mark n k text
found_at mark n k [] h = absurd cc
found_at mark n k (c ∷ cs) h = by (c == mark) refl h (found_at mark (n + 1) k cs)
  where
    by : (b : Bool) → (c == mark) ≡ b → cond b (Some n) (position_from (λ x. x == mark) (n + 1) cs) ≡ Some k → (position_from (λ x. x == mark) (n + 1) cs ≡ Some k → Found mark (n + 1) k cs) → Found mark n k (c ∷ cs)
    by true e h behind =
        let here : n ≡ k = cc in
        record { front = []; back = cs; is = ap (λ (x : ℕ). x ∷ cs) (eqb-true c mark e); place = omega (arith, here) }
    by false e h behind =
        let f = behind h in
        let place : k ≡ (n + 1) + length f.front = f.place in
        record { front = c ∷ f.front; back = f.back; is = ap (λ (xs : List ℕ). c ∷ xs) f.is; place = omega (arith, place) }

-- the two parts of a pair in an option
abbrev front_or : List ℕ → Option (List ℕ × List ℕ) → List ℕ
front_or none None = none
front_or none (Some p) = p.0

abbrev back_or : List ℕ → Option (List ℕ × List ℕ) → List ℕ
back_or none None = none
back_or none (Some p) = p.1

same_parts : (xs ys us vs : List ℕ) → ◌≡◌ {A = Option (List ℕ × List ℕ)} (Some (xs, ys)) (Some (us, vs)) → (xs ≡ us) × (ys ≡ vs)
same_parts xs ys us vs h = (ap (front_or xs) h, ap (back_or ys) h)

pub split_parts : (mark : ℕ) (text xs ys : List ℕ) → split_at mark text ≡ Some (xs, ys) → text ≡ xs ++ mark ∷ ys
split_parts mark text xs ys h = by (position (λ c. c == mark) text) refl h
  where
    by : (o : Option ℕ) → position (λ c. c == mark) text ≡ o → parts_at text o ≡ Some (xs, ys) → text ≡ xs ++ mark ∷ ys
    by None at e = absurd cc
    by (Some k) at e =
        let f = found_at mark 0 k text (sym (position_from-zero (λ c. c == mark) text) ∙ at) in
        let place : k ≡ length f.front = f.place ∙ omega arith in
        let parts = same_parts (take k text) (drop (k + 1) text) xs ys e in
        let front : take k text ≡ f.front = (λ i. take (place i) (f.is i)) ∙ take-append_seam f.front (mark ∷ f.back) in
        let back : drop (k + 1) text ≡ f.back = (λ i. drop (place i + 1) (f.is i)) ∙ drop-append-add f.front (mark ∷ f.back) 1 in
        f.is ∙ (λ i. (sym front ∙ parts.0) i ++ mark ∷ (sym back ∙ parts.1) i)

-- a text with the byte is cut there
pub cut_so : (mark : ℕ) (text xs ys us vs : List ℕ) → split_at mark text ≡ Some (xs, ys) → text ≡ us ++ mark ∷ vs → IsFree mark us → (xs ≡ us) × (ys ≡ vs)
cut_so mark text xs ys us vs cut is free = same_parts xs ys us vs (sym cut ∙ ap (split_at mark) is ∙ split_there mark us vs free)

pub cut_none : (mark : ℕ) (text us vs : List ℕ) → split_at mark text ≡ None → text ≡ us ++ mark ∷ vs → IsFree mark us → ⊥
cut_none mark text us vs none is free = no_some (us, vs) (sym none ∙ ap (split_at mark) is ∙ split_there mark us vs free)
  where
    no_some : (p : List ℕ × List ℕ) → ◌≡◌ {A = Option (List ℕ × List ℕ)} None (Some p) → ⊥
    no_some p e = cc
