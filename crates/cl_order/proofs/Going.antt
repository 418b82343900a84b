-- What a search gives, one step at a time.
use Rattle.std.proofs.Common.{◌≡◌, refl, sym, ap, subst, ◌∙◌, ℕ, zero, suc, ◌<◌, List, [], ◌∷◌, ◌++◌, length, map, append_assoc, append-nil, arith, true, false, Ok, Err}
use Rattle.cl_forms.specs.Forms.{Form}
use Rattle.cl_forms.specs.Order.{is_in, Visited, and_then, visit_each, part_from, visit}
use Rattle.cl_order.specs.Search.{goes_on}
use Rattle.cl_order.proofs.Named.{next}
use Rattle.cl_order.proofs.Visits.{gone_through, visit_done, visit_met, visit_new}

abbrev pub Left : Type 0
Left = List (ℕ × List ℕ)

abbrev pub places_in : Left → List ℕ
places_in fs = map (λ f. f.0) fs

and_then_ok : (v : Visited) → and_then v (λ d. Ok d) ≡ v
and_then_ok (Ok d) = refl
and_then_ok (Err c) = refl

one_first : (v : Visited) (f g : List ℕ → Visited) → and_then (and_then v f) g ≡ and_then (and_then v (λ d. Ok d)) (λ d. and_then (f d) g)
one_first (Ok d) f g = refl
one_first (Err c) f g = refl

one_further : (path : List ℕ) (n : ℕ) (fs : Left) (whole : List ℕ) → path ++ n ∷ places_in fs ≡ whole → (path ++ n ∷ []) ++ places_in fs ≡ whole
one_further path n fs whole is = append_assoc path (n ∷ []) (places_in fs) ∙ is

-- nothing is left
pub going_ended : (steps : ℕ) (forms : List Form) (path done : List ℕ) → goes_on steps forms path [] [] done ≡ Ok done
unfolding goes_on
going_ended steps forms path done = refl

-- one visit is left
pub going_one : (steps : ℕ) (forms : List Form) (path : List ℕ) (m : ℕ) (done : List ℕ) → goes_on steps forms path [] (m ∷ []) done ≡ visit steps forms path m done
unfolding goes_on
going_one steps forms path m done = and_then_ok (visit steps forms path m done)

-- a form that is done
pub going_done : (steps : ℕ) (forms : List Form) (path : List ℕ) (fs : Left) (m : ℕ) (done : List ℕ) → is_in m done ≡ true → goes_on steps forms path fs (m ∷ []) done ≡ goes_on steps forms path fs [] done
unfolding goes_on
going_done steps forms path [] m done old = ap (λ v. and_then v (λ d. Ok d)) (visit_done steps forms path m done old)
going_done zero forms path (f ∷ fs) m done old = refl
going_done (suc steps) forms path (f ∷ fs) m done old =
    ap (λ v. and_then v (λ some. gone_through steps forms path f.0 f.1 some)) (going_done steps forms (path ++ f.0 ∷ []) fs m done old)

-- a form on the path
pub going_met : (steps : ℕ) (forms : List Form) (path : List ℕ) (fs : Left) (m : ℕ) (done whole : List ℕ) → length fs < steps → path ++ places_in fs ≡ whole → is_in m done ≡ false → is_in m whole ≡ true → goes_on steps forms path fs (m ∷ []) done ≡ Err (part_from m whole)
unfolding goes_on
going_met zero forms path fs m done whole short is new on = absurd (omega arith)
going_met (suc steps) forms path [] m done whole short is new on =
    let same : whole ≡ path = sym is ∙ append-nil path in
    ap (λ v. and_then v (λ d. Ok d)) (visit_met steps forms path m done new (subst (λ (l : List ℕ). is_in m l ≡ true) same on))
    ∙ ap (λ (l : List ℕ). Err (part_from m l)) (sym same)
going_met (suc steps) forms path (f ∷ fs) m done whole short is new on =
    ap (λ v. and_then v (λ some. gone_through steps forms path f.0 f.1 some))
    (going_met steps forms (path ++ f.0 ∷ []) fs m done whole (omega arith) (one_further path f.0 fs whole is) new on)

-- a new form
pub going_new : (steps : ℕ) (forms : List Form) (path : List ℕ) (fs : Left) (m : ℕ) (done whole : List ℕ) → length fs < steps → path ++ places_in fs ≡ whole → is_in m done ≡ false → is_in m whole ≡ false → goes_on steps forms path fs (m ∷ []) done ≡ goes_on steps forms path (fs ++ (m, next forms m) ∷ []) [] done
unfolding goes_on
going_new zero forms path fs m done whole short is new off = absurd (omega arith)
going_new (suc steps) forms path [] m done whole short is new off =
    let same : whole ≡ path = sym is ∙ append-nil path in
    ap (λ v. and_then v (λ d. Ok d)) (visit_new steps forms path m done new (subst (λ (l : List ℕ). is_in m l ≡ false) same off))
    ∙ and_then_ok (gone_through steps forms path m (next forms m) done)
going_new (suc steps) forms path (f ∷ fs) m done whole short is new off =
    ap (λ v. and_then v (λ some. gone_through steps forms path f.0 f.1 some))
    (going_new steps forms (path ++ f.0 ∷ []) fs m done whole (omega arith) (one_further path f.0 fs whole is) new off)

-- one of those that the last form of the path names
pub going_next : (steps : ℕ) (forms : List Form) (path : List ℕ) (fs : Left) (n m : ℕ) (ms done : List ℕ) → goes_on steps forms path (fs ++ (n, m ∷ ms) ∷ []) [] done ≡ goes_on steps forms path (fs ++ (n, ms) ∷ []) (m ∷ []) done
unfolding goes_on
going_next zero forms path [] n m ms done = refl
going_next (suc steps) forms path [] n m ms done =
    one_first (visit steps forms (path ++ n ∷ []) m done) (visit_each (visit steps forms (path ++ n ∷ [])) ms) (λ all. Ok (all ++ n ∷ []))
going_next zero forms path (f ∷ fs) n m ms done = refl
going_next (suc steps) forms path (f ∷ fs) n m ms done =
    ap (λ v. and_then v (λ some. gone_through steps forms path f.0 f.1 some)) (going_next steps forms (path ++ f.0 ∷ []) fs n m ms done)

-- the last form of the path is done
pub going_end : (steps : ℕ) (forms : List Form) (path : List ℕ) (fs : Left) (n : ℕ) (done : List ℕ) → length fs < steps → goes_on steps forms path (fs ++ (n, []) ∷ []) [] done ≡ goes_on steps forms path fs [] (done ++ n ∷ [])
unfolding goes_on
going_end zero forms path fs n done short = absurd (omega arith)
going_end (suc steps) forms path [] n done short = refl
going_end (suc steps) forms path (f ∷ fs) n done short =
    ap (λ v. and_then v (λ some. gone_through steps forms path f.0 f.1 some)) (going_end steps forms (path ++ f.0 ∷ []) fs n done (omega arith))
