-- What a visit gives, one case at a time.
use Rattle.std.proofs.Common.{◌≡◌, refl, ◌∙◌, inl, inr, ◌⊎◌, ℕ, zero, suc, List, [], ◌∷◌, ◌++◌, Bool, true, false, if◌then◌else◌, Ok, Err}
use Rattle.std.proofs.lemmas.Bool.{true≢false, false≢true}
use Rattle.cl_forms.specs.Forms.{Form}
use Rattle.cl_forms.specs.Order.{is_in, Visited, and_then, visit_each, part_from, visit}
use Rattle.cl_order.proofs.Named.{next}

-- the forms that a form names, and then it is done
abbrev pub gone_through : ℕ → List Form → List ℕ → ℕ → List ℕ → List ℕ → Visited
gone_through steps forms path n ms done = and_then (visit_each (visit steps forms (path ++ n ∷ [])) ms done) (λ all. Ok (all ++ n ∷ []))

if_true : {A : Type 0} (b : Bool) (x y : A) → b ≡ true → (if b then x else y) ≡ x
if_true true x y e = refl
if_true false x y e = absurd (false≢true e)

if_false : {A : Type 0} (b : Bool) (x y : A) → b ≡ false → (if b then x else y) ≡ y
if_false true x y e = absurd (true≢false e)
if_false false x y e = refl

pub visit_done : (steps : ℕ) (forms : List Form) (path : List ℕ) (n : ℕ) (done : List ℕ) → is_in n done ≡ true → visit steps forms path n done ≡ Ok done
unfolding visit
visit_done zero forms path n done h = refl
visit_done (suc steps) forms path n done h = if_true (is_in n done) (Ok done) (if is_in n path then Err (part_from n path) else gone_through steps forms path n (next forms n) done) h

pub visit_met : (steps : ℕ) (forms : List Form) (path : List ℕ) (n : ℕ) (done : List ℕ) → is_in n done ≡ false → is_in n path ≡ true → visit (suc steps) forms path n done ≡ Err (part_from n path)
unfolding visit
visit_met steps forms path n done h g =
    if_false (is_in n done) (Ok done) (if is_in n path then Err (part_from n path) else gone_through steps forms path n (next forms n) done) h
    ∙ if_true (is_in n path) (Err (part_from n path)) (gone_through steps forms path n (next forms n) done) g

pub visit_new : (steps : ℕ) (forms : List Form) (path : List ℕ) (n : ℕ) (done : List ℕ) → is_in n done ≡ false → is_in n path ≡ false → visit (suc steps) forms path n done ≡ gone_through steps forms path n (next forms n) done
unfolding visit
visit_new steps forms path n done h g =
    if_false (is_in n done) (Ok done) (if is_in n path then Err (part_from n path) else gone_through steps forms path n (next forms n) done) h
    ∙ if_false (is_in n path) (Err (part_from n path)) (gone_through steps forms path n (next forms n) done) g

pub visit_zero : (forms : List Form) (path : List ℕ) (n : ℕ) (done : List ℕ) → visit zero forms path n done ≡ Ok done
unfolding visit
visit_zero forms path n done = refl

-- what comes after a visit that went well
pub after_ok : (v : Visited) (go_on : List ℕ → Visited) (all : List ℕ) → and_then v go_on ≡ Ok all → (d : List ℕ) × (v ≡ Ok d) × (go_on d ≡ Ok all)
after_ok (Ok d) go_on all h = (d, refl, h)
after_ok (Err c) go_on all h = cc

-- a cycle is met at once, or in what comes after
pub after_err : (v : Visited) (go_on : List ℕ → Visited) (c : List ℕ) → and_then v go_on ≡ Err c → (v ≡ Err c) ⊎ ((d : List ℕ) × (v ≡ Ok d) × (go_on d ≡ Err c))
after_err (Ok d) go_on c h = inr (d, refl, h)
after_err (Err e) go_on c h = inl h

pub ok_is : (x y : List ℕ) → (let v : Visited = Ok x in v) ≡ Ok y → x ≡ y
ok_is x y h = cc

pub err_is : (x y : List ℕ) → (let v : Visited = Err x in v) ≡ Err y → x ≡ y
err_is x y h = cc

pub ok_no_err : {P : Type 0} (x y : List ℕ) → (let v : Visited = Ok x in v) ≡ Err y → P
ok_no_err x y h = cc

pub err_no_ok : {P : Type 0} (x y : List ℕ) → (let v : Visited = Err x in v) ≡ Ok y → P
err_no_ok x y h = cc
