-- Where two texts part, one byte after another.
use Rattle.std.specs.Prelude.{nat_eq, option_map, if◌then◌else◌}
use Rattle.std.proofs.Common.{◌≡◌, ℕ, zero, suc, ◌+◌, ◌-◌, ◌<◌, ◌≤◌, Bool, true, false, List, [], ◌∷◌, ◌++◌, length, take, drop, get_or, Option, Some, None, refl, sym, ap, ◌∙◌, arith, add-one, length-drop, drop-cons}
use Rattle.std.proofs.lemmas.Bool.Decides.{nat_tests}
use Rattle.std.proofs.lemmas.List.{drop_all, drop-drop, take_all}
use Rattle.cl_file.specs.declared.entry.Entry.{Entry}
use Rattle.cl_tx.specs.declared.outcome.TxResult.{TxResult}
use Rattle.cl_report.specs.Lines.{lines_of, report_from}
use Rattle.cl_audit_reply.specs.Verdicts.{first_apart, prefix_apart}

pub eq_true : (a b : ℕ) → a ≡ b → nat_eq a b ≡ true
eq_true a b e = grind (arith, nat_tests)

pub eq_false : (a b : ℕ) → (a ≡ b → ⊥) → nat_eq a b ≡ false
eq_false a b e = grind (arith, nat_tests)

abbrev pub later : ℕ → Option ℕ → Option ℕ
later n o = option_map (λ m. n + m) o

later_none : (o : Option ℕ) → later 0 o ≡ o
later_none None = refl
later_none (Some m) = ap Some (omega arith)

later_next : (n : ℕ) (o : Option ℕ) → later n (option_map suc o) ≡ later (suc n) o
later_next n None = refl
later_next n (Some m) = ap Some (omega arith)

later_suc : (n : ℕ) (o : Option ℕ) → option_map suc (later n o) ≡ later (suc n) o
later_suc n None = refl
later_suc n (Some m) = ap Some (omega arith)

nothing : (o : Option ℕ) → option_map suc o ≡ None → o ≡ None
nothing None h = refl
nothing (Some m) h = absurd cc

-- the next bytes are one
goes_on : (xs ys : List ℕ) (i : ℕ) → i < length xs → i < length ys → get_or xs i 0 ≡ get_or ys i 0 → prefix_apart (drop i xs) (drop i ys) ≡ option_map suc (prefix_apart (drop (suc i) xs) (drop (suc i) ys))
goes_on [] ys i h k e = absurd (omega (arith, h))
goes_on (x ∷ xs) [] i h k e = absurd (omega (arith, k))
goes_on (x ∷ xs) (y ∷ ys) zero h k e = ap (λ (b : Bool). if b then option_map suc (prefix_apart xs ys) else Some 0) (eq_true x y e)
goes_on (x ∷ xs) (y ∷ ys) (suc i) h k e = goes_on xs ys i (omega (arith, h)) (omega (arith, k)) e

pub prefix_next : (xs ys : List ℕ) (i : ℕ) → i < length xs → i < length ys → get_or xs i 0 ≡ get_or ys i 0 → prefix_apart xs ys ≡ later i (prefix_apart (drop i xs) (drop i ys)) → prefix_apart xs ys ≡ later (suc i) (prefix_apart (drop (suc i) xs) (drop (suc i) ys))
prefix_next xs ys i h k e so_far = so_far ∙ ap (later i) (goes_on xs ys i h k e) ∙ later_next i _

pub prefix_first : (xs ys : List ℕ) → prefix_apart xs ys ≡ later 0 (prefix_apart xs ys)
prefix_first xs ys = sym (later_none (prefix_apart xs ys))

-- they aren't
parts : (xs ys : List ℕ) (i : ℕ) → i < length xs → (i < length ys → get_or xs i 0 ≡ get_or ys i 0 → ⊥) → prefix_apart (drop i xs) (drop i ys) ≡ Some 0
parts [] ys i h e = absurd (omega (arith, h))
parts (x ∷ xs) [] zero h e = refl
parts (x ∷ xs) [] (suc i) h e = parts_none xs i (omega (arith, h))
  where
    parts_none : (xs : List ℕ) (i : ℕ) → i < length xs → prefix_apart (drop i xs) [] ≡ Some 0
    parts_none [] i h = absurd (omega (arith, h))
    parts_none (x ∷ xs) zero h = refl
    parts_none (x ∷ xs) (suc i) h = parts_none xs i (omega (arith, h))
parts (x ∷ xs) (y ∷ ys) zero h e = ap (λ (b : Bool). if b then option_map suc (prefix_apart xs ys) else Some 0) (eq_false x y (e (omega arith)))
parts (x ∷ xs) (y ∷ ys) (suc i) h e = parts xs ys i (omega (arith, h)) (λ k. e (omega (arith, k)))

pub prefix_parts : (xs ys : List ℕ) (i : ℕ) → i < length xs → (i < length ys → get_or xs i 0 ≡ get_or ys i 0 → ⊥) → prefix_apart xs ys ≡ later i (prefix_apart (drop i xs) (drop i ys)) → prefix_apart xs ys ≡ Some i
prefix_parts xs ys i h e so_far = so_far ∙ ap (later i) (parts xs ys i h e) ∙ ap Some (omega arith)

pub prefix_end : (xs ys : List ℕ) (i : ℕ) → length xs ≤ i → prefix_apart xs ys ≡ later i (prefix_apart (drop i xs) (drop i ys)) → prefix_apart xs ys ≡ None
prefix_end xs ys i h so_far = so_far ∙ ap (λ (zs : List ℕ). later i (prefix_apart zs (drop i ys))) (drop_all i xs h)

-- ---- a text that is a beginning

under : {P : Option ℕ} (o : Option ℕ) (at : ℕ) → option_map suc o ≡ Some at → ((m : ℕ) → o ≡ Some m → P ≡ Some m) → option_map suc P ≡ Some at
under None at h each = absurd cc
under (Some m) at h each = ap (option_map suc) (each m refl) ∙ h

abbrev by_byte : Bool → Option ℕ → Option ℕ
by_byte b o = if b then option_map suc o else Some 0

apart_by : (b : Bool) (p f l : Option ℕ) → by_byte b p ≡ None → (p ≡ None → f ≡ l) → by_byte b f ≡ option_map suc l
apart_by true p f l h each = ap (option_map suc) (each (nothing p h))
apart_by false p f l h each = absurd cc

-- the texts part where what stands behind it parts
pub apart_behind : (xs zs ys : List ℕ) → prefix_apart xs ys ≡ None → first_apart (xs ++ zs) ys ≡ later (length xs) (first_apart zs (drop (length xs) ys))
apart_behind [] zs ys h = sym (later_none (first_apart zs ys))
apart_behind (x ∷ xs) zs [] h = absurd cc
apart_behind (x ∷ xs) zs (y ∷ ys) h =
    apart_by (nat_eq x y) (prefix_apart xs ys) (first_apart (xs ++ zs) ys) (later (length xs) (first_apart zs (drop (length xs) ys))) h (apart_behind xs zs ys)
    ∙ later_suc (length xs) (first_apart zs (drop (length xs) ys))

parts_by : (b : Bool) (p f : Option ℕ) (at : ℕ) → by_byte b p ≡ Some at → ((m : ℕ) → p ≡ Some m → f ≡ Some m) → by_byte b f ≡ Some at
parts_by true p f at h each = under p at h each
parts_by false p f at h each = h

-- where it isn't, the texts part there
pub apart_here : (xs zs ys : List ℕ) (at : ℕ) → prefix_apart xs ys ≡ Some at → first_apart (xs ++ zs) ys ≡ Some at
apart_here [] zs ys at h = absurd cc
apart_here (x ∷ xs) zs [] at h = h
apart_here (x ∷ xs) zs (y ∷ ys) at h = parts_by (nat_eq x y) (prefix_apart xs ys) (first_apart (xs ++ zs) ys) at h (λ m e. apart_here xs zs ys m e)

within_by : (b : Bool) (p : Option ℕ) (n m : ℕ) → by_byte b p ≡ None → (p ≡ None → n ≤ m) → suc n ≤ suc m
within_by true p n m h each = let rest = each (nothing p h) in omega (arith, rest)
within_by false p n m h each = absurd cc

prefix_within : (xs ys : List ℕ) → prefix_apart xs ys ≡ None → length xs ≤ length ys
prefix_within [] ys h = omega arith
prefix_within (x ∷ xs) [] h = absurd cc
prefix_within (x ∷ xs) (y ∷ ys) h = within_by (nat_eq x y) (prefix_apart xs ys) (length xs) (length ys) h (prefix_within xs ys)

most_by : (b : Bool) (p : Option ℕ) (at m : ℕ) → by_byte b p ≡ Some at → ((k : ℕ) → p ≡ Some k → k ≤ m) → at ≤ suc m
most_by true None at m h each = absurd cc
most_by true (Some k) at m h each =
    let same : suc k ≡ at = cc in
    let most : k ≤ m = each k refl in
    omega (arith, same, most)
most_by false p at m h each =
    let same : 0 ≡ at = cc in
    omega (arith, same)

prefix_at_most : (xs ys : List ℕ) (at : ℕ) → prefix_apart xs ys ≡ Some at → at ≤ length ys
prefix_at_most [] ys at h = absurd cc
prefix_at_most (x ∷ xs) [] at h =
    let same : 0 ≡ at = cc in
    omega (arith, same)
prefix_at_most (x ∷ xs) (y ∷ ys) at h = most_by (nat_eq x y) (prefix_apart xs ys) at (length ys) h (prefix_at_most xs ys)

-- the place is one of the text
pub place_within : (lines text : List ℕ) (done at : ℕ) → done ≤ length text → prefix_apart lines (drop done text) ≡ Some at → done + at ≤ length text
place_within lines text done at within h =
    let most : at ≤ length (drop done text) = prefix_at_most lines (drop done text) at h in
    let left : length (drop done text) ≡ length text - done = length-drop done text in
    omega (arith, most, left, within)

nothing_left : (ys : List ℕ) → length ys ≡ 0 → first_apart [] ys ≡ None
nothing_left [] h = refl
nothing_left (y ∷ ys) h = absurd (omega (arith, h))

something_left : (ys : List ℕ) → 0 < length ys → first_apart [] ys ≡ Some 0
something_left [] h = absurd (omega (arith, h))
something_left (y ∷ ys) h = refl

later_twice : (n m : ℕ) (o : Option ℕ) → later n (later m o) ≡ later (n + m) o
later_twice n m None = refl
later_twice n m (Some k) = ap Some (omega arith)

-- what stands behind a place, as the code has it
abbrev pub behind : ℕ → List ℕ → List ℕ
behind n xs = take (length xs - n) (drop n xs)

pub behind_is : (n : ℕ) (xs : List ℕ) → behind n xs ≡ drop n xs
behind_is n xs =
    let left : length (drop n xs) ≡ length xs - n = length-drop n xs in
    take_all (length xs - n) (drop n xs) (omega (arith, left))

-- the code's answer is of the lines and of what stands behind
pub told_apart : (lines held text : List ℕ) (done : ℕ) (found given : Option ℕ) → held ≡ lines → found ≡ prefix_apart held (behind done text) → found ≡ given → prefix_apart lines (drop done text) ≡ given
told_apart lines held text done found given same is told = sym (λ i. prefix_apart (same i) (behind_is done text i)) ∙ sym is ∙ told

-- ---- a report, one entry after another

module _ (text : List ℕ) (entries : List Entry) (results : List TxResult) where
  -- where the lines of the entries from a number on and what is left of the text part
  abbrev pub parts_from : ℕ → ℕ → Option ℕ
  parts_from number done = later done (first_apart (report_from number (drop number entries) (drop number results)) (drop done text))

  -- so much of the text are the lines of the entries before a number
  pub record IsSoFar (number done : ℕ) : Type 0 where
    pub within : done ≤ length text
    pub parts : first_apart (report_from 0 entries results) text ≡ parts_from number done

  pub so_far_first : IsSoFar 0 0
  so_far_first = record { within = omega arith; parts = sym (later_none (first_apart (report_from 0 entries results) text)) }

  module _ (number done : ℕ) (so_far : IsSoFar number done) (e : Entry) (r : TxResult) (here : number < length entries) (given : number < length results) (e_is : e ≡ get_or entries number e) (r_is : r ≡ get_or results number r) where
    opened : report_from number (drop number entries) (drop number results) ≡ lines_of number e r ++ report_from (number + 1) (drop (number + 1) entries) (drop (number + 1) results)
    opened =
        let front : drop number entries ≡ e ∷ drop (number + 1) entries = drop-cons entries number e here ∙ (λ i. sym e_is i ∷ drop (sym (add-one number) i) entries) in
        let back : drop number results ≡ r ∷ drop (number + 1) results = drop-cons results number r given ∙ (λ i. sym r_is i ∷ drop (sym (add-one number) i) results) in
        λ i. report_from number (front i) (back i)

    -- its lines aren't there
    pub so_far_parts : (lines : List ℕ) (at : ℕ) → lines ≡ lines_of number e r → prefix_apart lines (drop done text) ≡ Some at → first_apart (report_from 0 entries results) text ≡ Some (done + at)
    so_far_parts lines at is h =
        so_far.parts
        ∙ ap (λ (t : List ℕ). later done (first_apart t (drop done text))) opened
        ∙ ap (λ (t : List ℕ). later done (first_apart (t ++ report_from (number + 1) (drop (number + 1) entries) (drop (number + 1) results)) (drop done text))) (sym is)
        ∙ ap (later done) (apart_here lines (report_from (number + 1) (drop (number + 1) entries) (drop (number + 1) results)) (drop done text) at h)

    -- they are there
    pub so_far_next : (lines : List ℕ) → lines ≡ lines_of number e r → prefix_apart lines (drop done text) ≡ None → IsSoFar (number + 1) (done + length lines)
    so_far_next lines is h =
        let rest : List ℕ = report_from (number + 1) (drop (number + 1) entries) (drop (number + 1) results) in
        let left : length (drop done text) ≡ length text - done = length-drop done text in
        let long : length lines ≤ length (drop done text) = prefix_within lines (drop done text) h in
        let so : done ≤ length text = so_far.within in
        record {
          within = omega (arith, left, long, so);
          parts =
              so_far.parts
              ∙ ap (λ (t : List ℕ). later done (first_apart t (drop done text))) opened
              ∙ ap (λ (t : List ℕ). later done (first_apart (t ++ rest) (drop done text))) (sym is)
              ∙ ap (later done) (apart_behind lines rest (drop done text) h)
              ∙ later_twice done (length lines) (first_apart rest (drop (length lines) (drop done text)))
              ∙ ap (λ (t : List ℕ). later (done + length lines) (first_apart rest t)) (drop-drop (length lines) done text);
        }

  -- behind all lines
  module _ (number done : ℕ) (so_far : IsSoFar number done) (all : length entries ≤ number) where
    lines_end : first_apart (report_from 0 entries results) text ≡ later done (first_apart [] (drop done text))
    lines_end = so_far.parts ∙ ap (λ (es : List Entry). later done (first_apart (report_from number es (drop number results)) (drop done text))) (drop_all number entries all)

    pub so_far_more : done < length text → first_apart (report_from 0 entries results) text ≡ Some done
    so_far_more more =
        let left : length (drop done text) ≡ length text - done = length-drop done text in
        lines_end ∙ ap (later done) (something_left (drop done text) (omega (arith, left, more))) ∙ ap Some (omega arith)

    pub so_far_end : length text ≤ done → first_apart (report_from 0 entries results) text ≡ None
    so_far_end none =
        let left : length (drop done text) ≡ length text - done = length-drop done text in
        lines_end ∙ ap (later done) (nothing_left (drop done text) (omega (arith, left, none)))
