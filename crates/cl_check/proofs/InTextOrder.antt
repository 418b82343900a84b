-- Definitions that are put at the places of their forms are those of the text in its order.
use Rattle.std.proofs.Common.{◌≡◌, ℕ, zero, suc, ◌+◌, ◌<◌, Bool, true, false, List, [], ◌∷◌, ◌++◌, length, map, set, drop, get_or, slice_get, filter_map, Option, Some, None, refl, ap, sym, subst, ◌∙◌, add-one, arith}
use Rattle.std.specs.Prelude.{◌||◌, nat_eq, option_and_then}
use Rattle.std.specs.List.{cons_option, IsDistinct, AllByRecursion}
use Rattle.std.proofs.lemmas.Bool.{or_parts, true≢false, eqb-true}
use Rattle.std.proofs.lemmas.Cmp.{nat_eq_equiv}
use Rattle.std.proofs.lemmas.List.{length-set, length-map}
use Rattle.std.proofs.lemmas.Option.{slice_get-get_or}
use Rattle.cl_forms.specs.Forms.{Form}
use Rattle.cl_forms.specs.Order.{is_in, IsGoodOrder}
use Rattle.cl_code.specs.declared.definition.Definition.{Definition}
use Rattle.cl_code.specs.Definitions.{form_defined}
use Rattle.cl_rules.specs.Acceptance.{forms_at}
use Rattle.cl_check.specs.Placing.{put_all}
use Rattle.cl_check.proofs.WalkedForms.{dropped, in_all}

-- ---- slots

set_same : {A : Type 0} (xs : List A) (n : ℕ) (x : A) → n < length xs → slice_get (set xs n x) n ≡ Some x
set_same [] n x h = absurd (omega arith)
set_same (y ∷ ys) zero x h = refl
set_same (y ∷ ys) (suc n) x h = set_same ys n x (omega (arith, h))

set_other : {A : Type 0} (xs : List A) (n m : ℕ) (x : A) → (n ≡ m → ⊥) → slice_get (set xs n x) m ≡ slice_get xs m
set_other [] n m x h = refl
set_other (y ∷ ys) zero zero x h = absurd (h refl)
set_other (y ∷ ys) zero (suc m) x h = refl
set_other (y ∷ ys) (suc n) zero x h = refl
set_other (y ∷ ys) (suc n) (suc m) x h = set_other ys n m x (λ e. h (ap (λ k. suc k) e))

head_in : (n : ℕ) (ns : List ℕ) → is_in n (n ∷ ns) ≡ true
head_in n ns = ap (λ b. b || is_in n ns) (nat_eq_equiv.refl n)

or_later : (b c : Bool) → c ≡ true → (b || c) ≡ true
or_later true c h = refl
or_later false c h = h

not_in : (n : ℕ) (ns : List ℕ) → AllByRecursion (λ y. nat_eq n y ≡ false) ns → is_in n ns ≡ false
not_in n [] a = refl
not_in n (m ∷ ns) a = ap (λ b. b || is_in n ns) a.0 ∙ not_in n ns a.1

-- what is put elsewhere changes nothing here
put_other : {A : Type 0} (s : List (Option A)) (ns : List ℕ) (ds : List A) (m : ℕ) → is_in m ns ≡ false → slice_get (put_all s ns ds) m ≡ slice_get s m
put_other s ns [] m h = refl
put_other s [] (d ∷ ds) m h = refl
put_other s (n ∷ ns) (d ∷ ds) m h =
    let parts = or_parts (nat_eq m n) (is_in m ns) h in
    put_other (set s n (Some d)) ns ds m parts.1 ∙ set_other s n m (Some d) (λ e. true≢false (sym (ap (nat_eq m) e ∙ nat_eq_equiv.refl m) ∙ parts.0))

pub put_length : {A : Type 0} (s : List (Option A)) (ns : List ℕ) (ds : List A) → length (put_all s ns ds) ≡ length s
put_length s ns [] = refl
put_length s [] (d ∷ ds) = refl
put_length s (n ∷ ns) (d ∷ ds) = put_length (set s n (Some d)) ns ds ∙ length-set s n (Some d)

-- this holds of each thing at its place
abbrev AllAt : {A : Type 0} → (ℕ → A → Type 0) → List ℕ → List A → Type 0
AllAt P [] [] = Unit {0}
AllAt P [] (d ∷ ds) = ⊥
AllAt P (n ∷ ns) [] = ⊥
AllAt P (n ∷ ns) (d ∷ ds) = P n d × AllAt P ns ds

-- a thing stands at each place at which one was put
put_there : {A : Type 0} (P : ℕ → A → Type 0) (s : List (Option A)) (ns : List ℕ) (ds : List A) → AllAt P ns ds → (m : ℕ) → is_in m ns ≡ true → m < length s → (d : A) × (slice_get (put_all s ns ds) m ≡ Some (Some d)) × P m d
put_there P s [] ds a m i l = absurd (true≢false (sym i))
put_there P s (n ∷ ns) [] a m i l = absurd a
put_there {A = A} P s (n ∷ ns) (d ∷ ds) a m i l = by (is_in m ns) refl (nat_eq m n) refl i (λ h. put_there P (set s n (Some d)) ns ds a.1 m h (omega (arith, length-set s n (Some d), l)))
  where
    by : (b : Bool) → is_in m ns ≡ b → (e : Bool) → nat_eq m n ≡ e → (e || b) ≡ true → (is_in m ns ≡ true → (x : A) × (slice_get (put_all (set s n (Some d)) ns ds) m ≡ Some (Some x)) × P m x) → (x : A) × (slice_get (put_all (set s n (Some d)) ns ds) m ≡ Some (Some x)) × P m x
    by true h e k j rest = rest h
    by false h true k j rest =
        let same : m ≡ n = eqb-true m n k in
        (d, put_other (set s n (Some d)) ns ds m h ∙ ap (slice_get (set s n (Some d))) same ∙ set_same s n (Some d) (omega (arith, l, same)), subst (λ (k : ℕ). P k d) (sym same) a.0)
    by false h false k j rest = absurd (true≢false (sym j))

-- read at their places, they are as they were
put_order : {A : Type 0} (P : ℕ → A → Type 0) (s : List (Option A)) (ns : List ℕ) (ds : List A) → IsDistinct nat_eq ns → ((n : ℕ) → is_in n ns ≡ true → n < length s) → AllAt P ns ds → filter_map (λ n. option_and_then (λ x. x) (slice_get (put_all s ns ds) n)) ns ≡ ds
unfolding IsDistinct
put_order P s [] [] u w a = refl
put_order P s [] (d ∷ ds) u w a = absurd a
put_order P s (n ∷ ns) [] u w a = absurd a
put_order {A = A} P s (n ∷ ns) (d ∷ ds) u w a =
    ap (λ (o : Option (Option A)). cons_option (option_and_then (λ x. x) o) (filter_map (λ m. option_and_then (λ x. x) (slice_get (put_all (set s n (Some d)) ns ds) m)) ns))
    (put_other (set s n (Some d)) ns ds n (not_in n ns u.0) ∙ set_same s n (Some d) (w n (head_in n ns)))
    ∙ ap (λ r. d ∷ r) (put_order P (set s n (Some d)) ns ds u.1 (λ m i. omega (arith, length-set s n (Some d), w m (or_later (nat_eq m n) (is_in m ns) i))) a.1)

-- ---- full slots

all_some : {A : Type 0} (s : List (Option A)) → ((m : ℕ) → m < length s → (d : A) × (slice_get s m ≡ Some (Some d))) → map Some (filter_map (λ o. o) s) ≡ s
all_some [] h = refl
all_some {A = A} (None ∷ s) h = let p = h zero (omega arith) in absurd (no p.0 p.1)
  where
    no : (d : A) → (let o : Option (Option A) = Some None in o) ≡ Some (Some d) → ⊥
    no d e = cc
all_some (Some d ∷ s) h = ap (λ r. Some d ∷ r) (all_some s (λ m l. h (suc m) (omega (arith, l))))

got : {A : Type 0} (ds : List A) (m : ℕ) → option_and_then (λ x. x) (slice_get (map Some ds) m) ≡ slice_get ds m
got [] m = refl
got (d ∷ ds) zero = refl
got (d ∷ ds) (suc m) = got ds m

-- ---- forms and their definitions

form_there : (forms : List Form) (n : ℕ) → n < length forms → (f : Form) × (slice_get forms n ≡ Some f)
form_there [] n h = absurd (omega arith)
form_there (f ∷ fs) zero h = (f, refl)
form_there (f ∷ fs) (suc n) h = form_there fs n (omega (arith, h))

-- the definition of the form at a place
abbrev Defines : List Form → ℕ → Definition → Type 0
Defines forms n d = slice_get forms n ≡ Some (form_defined d)

each_defines : (forms : List Form) (ns : List ℕ) (ds : List Definition) → ((n : ℕ) → is_in n ns ≡ true → n < length forms) → map form_defined ds ≡ forms_at forms ns → AllAt (Defines forms) ns ds
each_defines forms [] [] w e = tt
each_defines forms [] (d ∷ ds) w e = absurd cc
each_defines forms (n ∷ ns) ds w e =
    let t = form_there forms n (w n (head_in n ns)) in
    by ds t.0 t.1 (e ∙ ap (λ (o : Option Form). cons_option o (forms_at forms ns)) t.1) (λ rest q. each_defines forms ns rest (λ m i. w m (or_later (nat_eq m n) (is_in m ns) i)) q)
  where
    by : (ds : List Definition) (f : Form) → slice_get forms n ≡ Some f → map form_defined ds ≡ f ∷ forms_at forms ns → ((rest : List Definition) → map form_defined rest ≡ forms_at forms ns → AllAt (Defines forms) ns rest) → AllAt (Defines forms) (n ∷ ns) ds
    by [] f there q rest = absurd cc
    by (d ∷ ds) f there q rest =
        let one : form_defined d ≡ f = cc in
        let more : map form_defined ds ≡ forms_at forms ns = cc in
        (there ∙ ap (λ (g : Form). Some g) (sym one), rest ds more)

-- as many definitions as places
pub as_many : (forms : List Form) (ns : List ℕ) (ds : List Definition) → ((n : ℕ) → is_in n ns ≡ true → n < length forms) → map form_defined ds ≡ forms_at forms ns → length ds ≡ length ns
as_many forms ns ds w e = by ns ds (each_defines forms ns ds w e)
  where
    by : (ns : List ℕ) (ds : List Definition) → AllAt (Defines forms) ns ds → length ds ≡ length ns
    by [] [] a = refl
    by [] (d ∷ ds) a = absurd a
    by (n ∷ ns) [] a = absurd a
    by (n ∷ ns) (d ∷ ds) a = ap (λ k. suc k) (by ns ds a.1)

all_defined : (ts : List Definition) (forms : List Form) → length ts ≡ length forms → ((m : ℕ) → m < length forms → (d : Definition) × (slice_get ts m ≡ Some d) × Defines forms m d) → map form_defined ts ≡ forms
all_defined [] [] l h = refl
all_defined [] (f ∷ fs) l h = absurd (omega (arith, l))
all_defined (t ∷ ts) [] l h = absurd (omega (arith, l))
all_defined (t ∷ ts) (f ∷ fs) l h =
    let first = h zero (omega arith) in
    λ i. (same t f first.0 first.1 first.2) i ∷ all_defined ts fs (omega (arith, l)) (λ m k. h (suc m) (omega (arith, k))) i
  where
    same : (t : Definition) (f : Form) (d : Definition) → (let o : Option Definition = Some t in o) ≡ Some d → (let o : Option Form = Some f in o) ≡ Some (form_defined d) → form_defined t ≡ f
    same t f d a b =
        let one : t ≡ d = cc in
        let other : f ≡ form_defined d = cc in
        ap form_defined one ∙ sym other

module _ (forms : List Form) (order : List ℕ) (ds : List Definition) (good : IsGoodOrder forms order) (is : map form_defined ds ≡ forms_at forms order) where
  abbrev nones : List (Option Definition)
  nones = map (λ (f : Form). let o : Option Definition = None in o) forms

  abbrev slots : List (Option Definition)
  slots = put_all nones order ds

  abbrev texts : List Definition
  texts = filter_map (λ o. o) slots

  each : AllAt (Defines forms) order ds
  each = each_defines forms order ds good.within is

  as_long : length slots ≡ length forms
  as_long = put_length nones order ds ∙ length-map forms (λ (f : Form). let o : Option Definition = None in o)

  full : (m : ℕ) → m < length forms → (d : Definition) × (slice_get slots m ≡ Some (Some d)) × Defines forms m d
  full m l = put_there (Defines forms) nones order ds each m (good.complete m l) (omega (arith, length-map forms (λ (f : Form). let o : Option Definition = None in o), l))

  whole : map Some texts ≡ slots
  whole = all_some slots (λ m l. let f = full m (omega (arith, as_long, l)) in (f.0, f.1))

  read : (m : ℕ) → slice_get texts m ≡ option_and_then (λ x. x) (slice_get slots m)
  read m = sym (got texts m) ∙ ap (λ (s : List (Option Definition)). option_and_then (λ x. x) (slice_get s m)) whole

  pub text_order : filter_map (slice_get texts) order ≡ ds
  text_order =
      let turned : filter_map (slice_get texts) order ≡ filter_map (λ n. option_and_then (λ x. x) (slice_get slots n)) order = λ i. filter_map (λ n. read n i) order in
      turned ∙ put_order (Defines forms) nones order ds good.once (λ n h. omega (arith, length-map forms (λ (f : Form). let o : Option Definition = None in o), good.within n h)) each

  pub text_forms : map form_defined texts ≡ forms
  text_forms = all_defined texts forms (sym (length-map texts (λ (d : Definition). Some d)) ∙ ap length whole ∙ as_long) (λ m l.
      let f = full m l in
      (f.0, read m ∙ ap (option_and_then (λ (x : Option Definition). x)) f.1, f.2))

-- ---- the walk over definitions

pub one_put : {A : Type 0} (s t all : List (Option A)) (order : List ℕ) (k : ℕ) (d : A) (before rest : List A) → k < length order → before ≡ d ∷ rest → t ≡ set s (get_or order k 0) (Some d) → put_all s (drop k order) before ≡ all → put_all t (drop (k + 1) order) rest ≡ all
one_put {A = A} s t all order k d before rest low first is h =
    ap (λ (u : List (Option A)). put_all u (drop (k + 1) order) rest) is
    ∙ ap (λ m. put_all (set s (get_or order k 0) (Some d)) (drop m order) rest) (add-one k)
    ∙ sym (ap (λ ns. put_all s ns (d ∷ rest)) (dropped k order (get_or order k 0) (slice_get-get_or order k 0 low)))
    ∙ ap (λ es. put_all s (drop k order) es) (sym first)
    ∙ h

-- there is a place for each definition that is left
pub fewer : {A : Type 0} (k : ℕ) (before rest : List A) (d : A) (n : ℕ) → before ≡ d ∷ rest → k + length before ≡ n → k < n
fewer {A = A} k before rest d n first count = let more : length before ≡ suc (length rest) = ap length first in omega (arith, more, count)

pub one_less : {A : Type 0} (k : ℕ) (before rest : List A) (d : A) (n : ℕ) → before ≡ d ∷ rest → k + length before ≡ n → k + 1 + length rest ≡ n
one_less {A = A} k before rest d n first count = let more : length before ≡ suc (length rest) = ap length first in omega (arith, more, count)

pub as_wide : {A : Type 0} (s t : List A) (place : ℕ) (x : A) (n : ℕ) → t ≡ set s place x → length s ≡ n → length t ≡ n
as_wide s t place x n is h = ap length is ∙ length-set s place x ∙ h

-- the place is one of a form
pub is_within : (order : List ℕ) (k n : ℕ) → ((m : ℕ) → is_in m order ≡ true → m < n) → k < length order → get_or order k 0 < n
is_within order k n within low = within (get_or order k 0) (in_all order k (get_or order k 0) (slice_get-get_or order k 0 low))

-- ---- slots one after another

pub is_text : (forms : List Form) (order : List ℕ) (ds : List Definition) (s : List (Option Definition)) (ts : List Definition) → s ≡ put_all (map (λ (f : Form). let o : Option Definition = None in o) forms) order ds → ts ≡ filter_map (λ o. o) s →
    ts ≡ filter_map (λ o. o) (put_all (map (λ (f : Form). let o : Option Definition = None in o) forms) order ds)
is_text forms order ds s ts h k = k ∙ ap (filter_map (λ (o : Option Definition). o)) h

ends : {A : Type 0} (ds : List A) → ds ≡ ds ++ []
ends [] = refl
ends (d ∷ ds) = ap (λ es. d ∷ es) (ends ds)

joined_more : {A : Type 0} (ds : List A) (slot : Option A) (rest : List A) → (ds ++ cons_option slot []) ++ rest ≡ ds ++ cons_option slot rest
joined_more [] None rest = refl
joined_more [] (Some d) rest = refl
joined_more (e ∷ ds) slot rest = ap (λ es. e ∷ es) (joined_more ds slot rest)

pub kept : {A : Type 0} (ds new all : List A) (slot : Option A) (before rest : List (Option A)) → before ≡ slot ∷ rest → new ≡ ds ++ filter_map (λ o. o) (slot ∷ []) → ds ++ filter_map (λ o. o) before ≡ all → new ++ filter_map (λ o. o) rest ≡ all
kept {A = A} ds new all slot before rest first added h =
    ap (λ (es : List A). es ++ filter_map (λ o. o) rest) added ∙ joined_more ds slot (filter_map (λ o. o) rest)
    ∙ ap (λ (os : List (Option A)). ds ++ filter_map (λ o. o) os) (sym first) ∙ h

pub all_kept : {A : Type 0} (ds all : List A) (rest : List (Option A)) → length rest ≡ 0 → ds ++ filter_map (λ o. o) rest ≡ all → ds ≡ all
all_kept ds all [] end h = ends ds ∙ h
all_kept ds all (o ∷ rest) end h = absurd (omega (arith, end))

-- what is put when nothing is left
pub all_put : {A : Type 0} (s all : List (Option A)) (ns : List ℕ) (rest : List A) → length rest ≡ 0 → put_all s ns rest ≡ all → s ≡ all
all_put s all ns [] end h = h
all_put s all ns (d ∷ rest) end h = absurd (omega (arith, end))
