-- The places of names in a list, and their tables.
use Rattle.std.proofs.Common.{◌≡◌, ℕ, suc, ◌+◌, ◌<◌, ◌≤◌, length, take, get_or, Bool, true, false, cond, List, [], ◌∷◌, ◌++◌, slice_get, Option, Some, None, refl, sym, ap, subst, ◌∙◌, arith}
use Rattle.std.specs.Prelude.{nat_eq, is_some, if◌then◌else◌, option_map, option_and_then}
use Rattle.std.specs.Option.{option_or}
use Rattle.std.proofs.lemmas.List.{take_more, length-take-le}
use Rattle.std.specs.Map.{lookup}
use Rattle.std.specs.Cmp.Lexicographic.{pointwise}
use Rattle.cl_types.proofs.Lattice.{keys_equal}
use Rattle.cl_values.specs.Tree.{Tree as Val}
use Rattle.cl_forms.specs.Forms.{Form}
use Rattle.cl_forms.specs.Names.{named_in}
use Rattle.cl_forms.proofs.SameNames.{same_turned}
use Rattle.cl_meaning.specs.Deployed.{has_name, form_of, value_of}
use Rattle.cl_audit_steps.specs.Places.{first_place, ArePlaces, form_names, value_names, with_place}

-- a table's look-up is that of the definitions
pub under_name : {A : Type 0} (x : List ℕ) (es : List (List ℕ × A)) → lookup (pointwise nat_eq x) es ≡ named_in x es
under_name {A = A} x [] = refl
under_name {A = A} x (e ∷ es) = ap (λ (s : Bool). cond s (Some e.1) (lookup (pointwise nat_eq x) es)) (same_turned x e.0) ∙ ap (λ (o : Option A). cond (pointwise nat_eq e.0 x) (Some e.1) o) (under_name x es)

-- ---- one more name

or_none : {A : Type 0} (o : Option A) → option_or o None ≡ o
or_none None = refl
or_none (Some a) = refl

one_further : (b c : Bool) (o : Option ℕ) (n : ℕ) → (if b then Some 0 else option_map suc (option_or o (if c then Some n else None))) ≡ option_or (if b then Some 0 else option_map suc o) (if c then Some (suc n) else None)
one_further true c o n = refl
one_further false c (Some k) n = refl
one_further false true None n = refl
one_further false false None n = refl

first_more : (x : List ℕ) (ns : List (Option (List ℕ))) (n : Option (List ℕ)) → first_place x (ns ++ n ∷ []) ≡ option_or (first_place x ns) (if has_name x n then Some (length ns) else None)
first_more x [] n = refl
first_more x (m ∷ ns) n = ap (λ (o : Option ℕ). if has_name x m then Some 0 else option_map suc o) (first_more x ns n) ∙ one_further (has_name x m) (has_name x n) (first_place x ns) (length ns)

one_before : {A : Type 0} (b : Bool) (v : A) (o c r : Option A) → o ≡ option_or c r → (if b then Some v else o) ≡ option_or (if b then Some v else c) r
one_before true v o c r h = refl
one_before false v o c r h = h

named_more : (x y : List ℕ) (n : ℕ) (es : List (List ℕ × ℕ)) → named_in x (es ++ (y, n) ∷ []) ≡ option_or (named_in x es) (if pointwise nat_eq y x then Some n else None)
named_more x y n [] = refl
named_more x y n (e ∷ es) = one_before (pointwise nat_eq e.0 x) e.1 _ (named_in x es) (if pointwise nat_eq y x then Some n else None) (named_more x y n es)

pub places_unnamed : (names : List (Option (List ℕ))) (places : List (List ℕ × ℕ)) → ArePlaces names places → ArePlaces (names ++ None ∷ []) places
places_unnamed names places h = record { each = λ x. h.each x ∙ sym (first_more x names None ∙ or_none (first_place x names)) }

pub places_named : (names : List (Option (List ℕ))) (places : List (List ℕ × ℕ)) (x : List ℕ) (n : ℕ) → n ≡ length names → ArePlaces names places → ArePlaces (names ++ Some x ∷ []) (with_place x n places)
places_named names places x n at h = record { each = λ y. by y (named_in x places) refl }
  where
    -- where the name has a place, it is the first again
    again : (y : List ℕ) (k : ℕ) (b : Bool) → pointwise nat_eq x y ≡ b → named_in x places ≡ Some k → named_in y places ≡ option_or (first_place y names) (if b then Some (length names) else None)
    again y k true e there =
        let found : first_place y names ≡ Some k = sym (h.each y) ∙ ap (λ (z : List ℕ). named_in z places) (sym (keys_equal x y e)) ∙ there in
        h.each y ∙ found ∙ sym (ap (λ (o : Option ℕ). option_or o (Some (length names))) found)
    again y k false e there = h.each y ∙ sym (or_none (first_place y names))

    by : (y : List ℕ) (o : Option ℕ) → named_in x places ≡ o → named_in y (if is_some o then places else places ++ (x, n) ∷ []) ≡ first_place y (names ++ Some x ∷ [])
    by y None e =
        named_more y x n places ∙ (λ i. option_or (h.each y i) (if pointwise nat_eq x y then Some (at i) else None)) ∙ sym (first_more y names (Some x))
    by y (Some k) e = again y k (pointwise nat_eq x y) refl e ∙ sym (first_more y names (Some x))

-- ---- what is at the first place

one_on : {A : Type 0} (a : A) (rest : List A) (o : Option ℕ) → option_and_then (slice_get (a ∷ rest)) (option_map suc o) ≡ option_and_then (slice_get rest) o
one_on a rest None = refl
one_on a rest (Some n) = refl

pub form_there : (x : List ℕ) (fs : List Form) → option_map (λ (f : Form). f.kind) (option_and_then (slice_get fs) (first_place x (form_names fs))) ≡ form_of x fs
form_there x [] = refl
form_there x (f ∷ fs) = by (has_name x f.name) (form_there x fs)
  where
    by : (b : Bool) → option_map (λ (g : Form). g.kind) (option_and_then (slice_get fs) (first_place x (form_names fs))) ≡ form_of x fs →
        option_map (λ (g : Form). g.kind) (option_and_then (slice_get (f ∷ fs)) (if b then Some 0 else option_map suc (first_place x (form_names fs)))) ≡ (if b then Some f.kind else form_of x fs)
    by true h = refl
    by false h = ap (option_map (λ (g : Form). g.kind)) (one_on f fs (first_place x (form_names fs))) ∙ h

pub value_there : (x : List ℕ) (es : List (List ℕ × Val)) → option_map (λ (e : List ℕ × Val). e.1) (option_and_then (slice_get es) (first_place x (value_names es))) ≡ value_of x es
value_there x [] = refl
value_there x (e ∷ es) = by (pointwise nat_eq e.0 x) (value_there x es)
  where
    by : (b : Bool) → option_map (λ (d : List ℕ × Val). d.1) (option_and_then (slice_get es) (first_place x (value_names es))) ≡ value_of x es →
        option_map (λ (d : List ℕ × Val). d.1) (option_and_then (slice_get (e ∷ es)) (if b then Some 0 else option_map suc (first_place x (value_names es)))) ≡ (if b then Some e.1 else value_of x es)
    by true h = refl
    by false h = ap (option_map (λ (d : List ℕ × Val). d.1)) (one_on e es (first_place x (value_names es))) ∙ h

-- ---- names of lists

pub form_names_more : (fs : List Form) (f : Form) → form_names (fs ++ f ∷ []) ≡ form_names fs ++ f.name ∷ []
form_names_more [] f = refl
form_names_more (g ∷ fs) f = ap (λ ns. g.name ∷ ns) (form_names_more fs f)

names_to : (fs : List Form) (i : ℕ) (f : Form) → i < length fs → f ≡ get_or fs i f → form_names (take (i + 1) fs) ≡ form_names (take i fs) ++ f.name ∷ []
names_to fs i f within at = ap form_names (take_more fs i f within) ∙ form_names_more (take i fs) (get_or fs i f) ∙ ap (λ (g : Form). form_names (take i fs) ++ g.name ∷ []) (sym at)

pub value_names_more : (es : List (List ℕ × Val)) (e : List ℕ × Val) → value_names (es ++ e ∷ []) ≡ value_names es ++ Some e.0 ∷ []
value_names_more [] e = refl
value_names_more (d ∷ es) e = ap (λ ns. Some d.0 ∷ ns) (value_names_more es e)

pub form_names_length : (fs : List Form) → length (form_names fs) ≡ length fs
form_names_length [] = refl
form_names_length (f ∷ fs) = ap suc (form_names_length fs)

pub value_names_length : (es : List (List ℕ × Val)) → length (value_names es) ≡ length es
value_names_length [] = refl
value_names_length (e ∷ es) = ap suc (value_names_length es)

-- ---- tables

some_test : {A : Type 0} (o : Option A) → is_some o ≡ false → o ≡ None
some_test None h = refl
some_test (Some a) h = absurd cc

pub there_already : (x : List ℕ) (n : ℕ) (places : List (List ℕ × ℕ)) (b : Bool) → b ≡ is_some (lookup (pointwise nat_eq x) places) → b ≡ true → places ≡ with_place x n places
there_already x n places b test h =
    sym (ap (λ (c : Bool). if c then places else places ++ (x, n) ∷ []) (ap is_some (sym (under_name x places)) ∙ sym test ∙ h))

pub not_there : (x : List ℕ) (places : List (List ℕ × ℕ)) (b : Bool) → b ≡ is_some (lookup (pointwise nat_eq x) places) → b ≡ false → lookup (pointwise nat_eq x) places ≡ None
not_there x places b test h = some_test (lookup (pointwise nat_eq x) places) (sym test ∙ h)

pub placed_new : (x : List ℕ) (n : ℕ) (places after : List (List ℕ × ℕ)) → lookup (pointwise nat_eq x) places ≡ None → after ≡ places ++ (x, n) ∷ [] → after ≡ with_place x n places
placed_new x n places after none h =
    h ∙ sym (ap (λ (o : Option ℕ). if is_some o then places else places ++ (x, n) ∷ []) (sym (under_name x places) ∙ none))

pub form_found : (x : List ℕ) (fs gs : List Form) (places : List (List ℕ × ℕ)) (o : Option Form) → gs ≡ fs → o ≡ option_and_then (slice_get gs) (named_in x places) → ArePlaces (form_names fs) places → option_map (λ (f : Form). f.kind) o ≡ form_of x fs
form_found x fs gs places o same h ok = ap (option_map (λ (f : Form). f.kind)) (h ∙ (λ i. option_and_then (slice_get (same i)) (ok.each x i))) ∙ form_there x fs

pub value_found : (x : List ℕ) (es gs : List (List ℕ × Val)) (places : List (List ℕ × ℕ)) (o : Option (List ℕ × Val)) → gs ≡ es → o ≡ option_and_then (slice_get gs) (named_in x places) → ArePlaces (value_names es) places →
    option_map (λ (e : List ℕ × Val). e.1) o ≡ value_of x es
value_found x es gs places o same h ok = ap (option_map (λ (e : List ℕ × Val). e.1)) (h ∙ (λ i. option_and_then (slice_get (same i)) (ok.each x i))) ∙ value_there x es

pub one_value_more : (es after : List (List ℕ × Val)) (x : List ℕ) (v : Val) (places placed : List (List ℕ × ℕ)) (n : ℕ) → after ≡ es ++ (x, v) ∷ [] → n ≡ length es → placed ≡ with_place x n places → ArePlaces (value_names es) places →
    ArePlaces (value_names after) placed
one_value_more es after x v places placed n more at put h =
    subst (ArePlaces (value_names after)) (sym put)
    (subst (λ ns. ArePlaces ns (with_place x n places)) (sym (ap value_names more ∙ value_names_more es (x, v)))
    (places_named (value_names es) places x n (at ∙ sym (value_names_length es)) h))

pub one_form_more : (fs : List Form) (i : ℕ) (f : Form) (x : List ℕ) (places placed : List (List ℕ × ℕ)) → i < length fs → f ≡ get_or fs i f → f.name ≡ Some x → placed ≡ with_place x i places → ArePlaces (form_names (take i fs)) places →
    ArePlaces (form_names (take (i + 1) fs)) placed
one_form_more fs i f x places placed within at named put h =
    let few : i ≤ length fs = omega arith in
    subst (ArePlaces (form_names (take (i + 1) fs))) (sym put)
    (subst (λ ns. ArePlaces ns (with_place x i places)) (sym (names_to fs i f within at ∙ ap (λ n. form_names (take i fs) ++ n ∷ []) named))
    (places_named (form_names (take i fs)) places x i (sym (form_names_length (take i fs) ∙ length-take-le i fs few)) h))

pub one_unnamed_more : (fs : List Form) (i : ℕ) (f : Form) (places placed : List (List ℕ × ℕ)) → i < length fs → f ≡ get_or fs i f → f.name ≡ None → placed ≡ places → ArePlaces (form_names (take i fs)) places →
    ArePlaces (form_names (take (i + 1) fs)) placed
one_unnamed_more fs i f places placed within at named same h =
    subst (ArePlaces (form_names (take (i + 1) fs))) (sym same)
    (subst (λ ns. ArePlaces ns places) (sym (names_to fs i f within at ∙ ap (λ n. form_names (take i fs) ++ n ∷ []) named))
    (places_unnamed (form_names (take i fs)) places h))
