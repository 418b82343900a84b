-- What a visit adds to what is done.
use Rattle.std.proofs.Common.{◌≡◌, refl, sym, subst, ◌∙◌, inl, inr, ℕ, zero, suc, ◌<◌, ◌≤◌, ◌+◌, List, [], ◌∷◌, ◌++◌, length, length-append, arith, true, false, nat_eq, eqb-true, Ok}
use Rattle.std.specs.List.{IsDistinct}
use Rattle.std.proofs.lemmas.Bool.{false≢true, cases_Bool, or_cases, or_left, or_right}
use Rattle.std.proofs.lemmas.Map.Steps.{length-le_from_distinct_below}
use Rattle.cl_forms.specs.Forms.{Form}
use Rattle.cl_forms.specs.Order.{is_in, IsGoodOrder, Visited, visit_each, part_from, visit, places_of, ordered}
use Rattle.cl_order.proofs.Members.{same_number, in_front, in_last, in_pushed, not_in_pushed, members_differ, distinct_pushed, cut_pushed}
use Rattle.cl_order.proofs.Named.{next, next_named, named_next, named_below}
use Rattle.cl_order.proofs.Visits.{gone_through, visit_done, visit_met, visit_new, after_ok, ok_is, err_no_ok}

-- ---- paths

-- places of forms, none twice
pub record IsPath (forms : List Form) (path : List ℕ) : Type 0 where
  pub once : IsDistinct nat_eq path
  pub within : (k : ℕ) → is_in k path ≡ true → k < length forms

pub path_short : (forms : List Form) (path : List ℕ) → IsPath forms path → length path ≤ length forms
path_short forms path p = length-le_from_distinct_below path (length forms) p.once p.within

pub path_empty : (forms : List Form) → IsPath forms []
unfolding IsDistinct
path_empty forms = record { once = tt; within = λ k h. absurd (false≢true h) }

pub path_pushed : (forms : List Form) (path : List ℕ) (n : ℕ) → IsPath forms path → n < length forms → is_in n path ≡ false → IsPath forms (path ++ n ∷ [])
path_pushed forms path n p low new = record {
  once = distinct_pushed path n p.once new;
  within = λ k h. elim (in_pushed k n path h) [ inl e ↦ p.within k e | inr e ↦ subst (λ (j : ℕ). j < length forms) (sym e) low ];
}

-- ---- what is done

-- places of forms, each once and after the places of all that its form names
pub data Settled (forms : List Form) : List ℕ → Type 0 where
  nothing : Settled forms []
  one_more : {new : List ℕ} (all : List ℕ) (n : ℕ) → Settled forms all → n < length forms → is_in n all ≡ false → ((m : ℕ) → is_in m (next forms n) ≡ true → is_in m all ≡ true) → new ≡ all ++ n ∷ [] → Settled forms new

settled_within : (forms : List Form) (order : List ℕ) → Settled forms order → (k : ℕ) → is_in k order ≡ true → k < length forms
settled_within forms order nothing k h = absurd (false≢true h)
settled_within forms order (one_more all n s low new named is) k h =
    elim (in_pushed k n all (subst (λ (xs : List ℕ). is_in k xs ≡ true) is h)) [
      | inl e ↦ settled_within forms all s k e
      | inr e ↦ subst (λ (j : ℕ). j < length forms) (sym e) low
    ]

settled_once : (forms : List Form) (order : List ℕ) → Settled forms order → IsDistinct nat_eq order
settled_once forms order nothing = (path_empty forms).once
settled_once forms order (one_more all n s low new named is) =
    subst (IsDistinct nat_eq) (sym is) (distinct_pushed all n (settled_once forms all s) new)

settled_after : (forms : List Form) (order : List ℕ) → Settled forms order → (front : List ℕ) (n : ℕ) (back : List ℕ) → order ≡ front ++ n ∷ back → (m : ℕ) → is_in m (next forms n) ≡ true → is_in m front ≡ true
settled_after forms order nothing [] n back cut m h = cc
settled_after forms order nothing (f ∷ front) n back cut m h = cc
settled_after forms order (one_more all k s low new named is) front n back cut m h =
    elim (cut_pushed front n back all k (sym cut ∙ is)) [
      | inl p ↦ subst (λ (xs : List ℕ). is_in m xs ≡ true) (sym p.0) (named m (subst (λ (j : ℕ). is_in m (next forms j) ≡ true) p.1 h))
      | inr q ↦ settled_after forms all s front n q.0 q.1 m h
    ]

-- ---- one visit

-- what is done stays so; nothing of the path is added
pub record Grown (forms : List Form) (path done all : List ℕ) : Type 0 where
  pub kept : (k : ℕ) → is_in k done ≡ true → is_in k all ≡ true
  pub fresh : (k : ℕ) → is_in k path ≡ true → is_in k done ≡ false → is_in k all ≡ false
  pub settled : Settled forms all

grown_same : (forms : List Form) (path done : List ℕ) → Settled forms done → Grown forms path done done
grown_same forms path done s = record { kept = λ k h. h; fresh = λ k h g. g; settled = s }

grown_on : (forms : List Form) (path a b c : List ℕ) → Grown forms path a b → Grown forms path b c → Grown forms path a c
grown_on forms path a b c g h = record { kept = λ k e. h.kept k (g.kept k e); fresh = λ k e f. h.fresh k e (g.fresh k e f); settled = h.settled }

-- the form at a path's end is done too
grown_end : (forms : List Form) (path done all : List ℕ) (n : ℕ) → n < length forms → is_in n path ≡ false → is_in n done ≡ false → Grown forms (path ++ n ∷ []) done all → ((m : ℕ) → is_in m (next forms n) ≡ true → is_in m all ≡ true) → Grown forms path done (all ++ n ∷ [])
grown_end forms path done all n low off new g named = record {
  kept = λ k h. in_front k all (n ∷ []) (g.kept k h);
  fresh = λ k h f. not_in_pushed k n all (g.fresh k (in_front k path (n ∷ []) h) f) (members_differ k n path h off);
  settled = one_more all n g.settled low (g.fresh n (in_last n path) new) named refl;
}

-- each of these is done
abbrev pub AllIn : List ℕ → List ℕ → Type 0
AllIn ns all = (m : ℕ) → is_in m ns ≡ true → is_in m all ≡ true

-- each of these is the place of a form
abbrev pub AllBelow : List Form → List ℕ → Type 0
AllBelow forms ns = (m : ℕ) → is_in m ns ≡ true → m < length forms

-- a visit that went well settles what it visits
abbrev Settles : List Form → List ℕ → (ℕ → List ℕ → Visited) → Type 0
Settles forms path visit = (n : ℕ) (done all : List ℕ) → n < length forms → Settled forms done → visit n done ≡ Ok all → Grown forms path done all × (is_in n all ≡ true)

in_first_or_rest : (n m : ℕ) (ns all : List ℕ) → is_in m (n ∷ ns) ≡ true → is_in n all ≡ true → AllIn ns all → is_in m all ≡ true
in_first_or_rest n m ns all h first rest =
    elim (or_cases (nat_eq m n) (is_in m ns) h) [
      | inl e ↦ subst (λ (k : ℕ). is_in k all ≡ true) (sym (eqb-true m n e)) first
      | inr e ↦ rest m e
    ]

settles_each : (forms : List Form) (path : List ℕ) (visit : ℕ → List ℕ → Visited) → Settles forms path visit → (ns done all : List ℕ) → AllBelow forms ns → Settled forms done → visit_each visit ns done ≡ Ok all → Grown forms path done all × AllIn ns all
settles_each forms path visit each [] done all low s h =
    (subst (Grown forms path done) (ok_is done all h) (grown_same forms path done s), λ m e. absurd (false≢true e))
settles_each forms path visit each (n ∷ ns) done all low s h =
    let (d, first, others) = after_ok (visit n done) (visit_each visit ns) all h in
    let one : Grown forms path done d × (is_in n d ≡ true) = each n done d (low n (or_left (nat_eq n n) (is_in n ns) (same_number n))) s first in
    let more : Grown forms path d all × AllIn ns all = settles_each forms path visit each ns d all (λ m e. low m (or_right (nat_eq m n) (is_in m ns) e)) one.0.settled others in
    (grown_on forms path done d all one.0 more.0, λ m e. in_first_or_rest n m ns all e (more.0.kept n one.1) more.1)

next_below : (forms : List Form) (n : ℕ) → AllBelow forms (next forms n)
next_below forms n m h = named_below forms n m (next_named forms n m h)

-- a visit of a new form
settles_new : (steps : ℕ) (forms : List Form) (path : List ℕ) (n : ℕ) (done all : List ℕ) → Settles forms (path ++ n ∷ []) (visit steps forms (path ++ n ∷ [])) → n < length forms → is_in n path ≡ false → is_in n done ≡ false → Settled forms done → gone_through steps forms path n (next forms n) done ≡ Ok all → Grown forms path done all × (is_in n all ≡ true)
settles_new steps forms path n done all deeper low off new s h =
    let (d, named, end) = after_ok (visit_each (visit steps forms (path ++ n ∷ [])) (next forms n) done) (λ d. Ok (d ++ n ∷ [])) all h in
    let below : Grown forms (path ++ n ∷ []) done d × AllIn (next forms n) d = settles_each forms (path ++ n ∷ []) (visit steps forms (path ++ n ∷ [])) deeper (next forms n) done d (next_below forms n) s named in
    let is : d ++ n ∷ [] ≡ all = ok_is (d ++ n ∷ []) all end in
    (subst (Grown forms path done) is (grown_end forms path done d n low off new below.0 below.1), subst (λ (xs : List ℕ). is_in n xs ≡ true) is (in_last n d))

visit_settles : (steps : ℕ) (forms : List Form) (path : List ℕ) → IsPath forms path → length forms < steps + length path → Settles forms path (visit steps forms path)
visit_settles zero forms path p enough n done all low s h = absurd (let short = path_short forms path p in omega arith)
visit_settles (suc steps) forms path p enough n done all low s h =
    elim (cases_Bool (is_in n done)) [
      | inl old ↦
          (let same : done ≡ all = ok_is done all (sym (visit_done (suc steps) forms path n done old) ∙ h) in
          (subst (Grown forms path done) same (grown_same forms path done s), subst (λ (xs : List ℕ). is_in n xs ≡ true) same old))
      | inr new ↦
          elim (cases_Bool (is_in n path)) [
            | inl on ↦ err_no_ok (part_from n path) all (sym (visit_met steps forms path n done new on) ∙ h)
            | inr off ↦
                (let deeper : Settles forms (path ++ n ∷ []) (visit steps forms (path ++ n ∷ [])) = visit_settles steps forms (path ++ n ∷ []) (path_pushed forms path n p low off) (omega (arith, length-append path (n ∷ []))) in
                settles_new steps forms path n done all deeper low off new s (sym (visit_new steps forms path n done new off) ∙ h))
          ]
    ]

-- ---- all of them

places_below : (k n : ℕ) (fs : List Form) → is_in n (places_of k fs) ≡ true → n < k + length fs
places_below k n [] h = absurd (false≢true h)
places_below k n (f ∷ fs) h =
    elim (or_cases (nat_eq n k) (is_in n (places_of (k + 1) fs)) h) [
      | inl e ↦ (let same : n ≡ k = eqb-true n k e in omega arith)
      | inr e ↦ (let low : n < (k + 1) + length fs = places_below (k + 1) n fs e in omega arith)
    ]

places_all : (k i : ℕ) (fs : List Form) → i < length fs → is_in (k + i) (places_of k fs) ≡ true
places_all k i [] low = absurd (omega arith)
places_all k zero (f ∷ fs) low =
    let here : k + 0 ≡ k = omega arith in
    or_left (nat_eq (k + 0) k) (is_in (k + 0) (places_of (k + 1) fs)) (subst (λ (n : ℕ). nat_eq n k ≡ true) (sym here) (same_number k))
places_all k (suc i) (f ∷ fs) low =
    let here : (k + 1) + i ≡ k + suc i = omega arith in
    or_right (nat_eq (k + suc i) k) (is_in (k + suc i) (places_of (k + 1) fs)) (subst (λ (n : ℕ). is_in n (places_of (k + 1) fs) ≡ true) here (places_all (k + 1) i fs (omega arith)))

pub order_good : (forms : List Form) (order : List ℕ) → ordered forms ≡ Ok order → IsGoodOrder forms order
unfolding ordered
order_good forms order h =
    let r : Grown forms [] [] order × AllIn (places_of 0 forms) order =
    settles_each forms [] (visit (length forms + 1) forms []) (visit_settles (length forms + 1) forms [] (path_empty forms) (omega arith)) (places_of 0 forms) [] order
    (λ m e. let low : m < 0 + length forms = places_below 0 m forms e in omega arith) nothing h in
    record {
      within = settled_within forms order r.0.settled;
      complete = λ n low. r.1 n (let here : 0 + n ≡ n = omega arith in subst (λ (k : ℕ). is_in k (places_of 0 forms) ≡ true) here (places_all 0 n forms low));
      once = settled_once forms order r.0.settled;
      after = λ front n back cut m named. settled_after forms order r.0.settled front n back cut m (named_next forms n m named);
    }
