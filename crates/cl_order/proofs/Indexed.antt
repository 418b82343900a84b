-- Indexes of forms.
use Rattle.std.proofs.Common.{◌≡◌, refl, sym, ap, ◌∙◌, ℕ, suc, ◌<◌, ◌≤◌, ◌+◌, List, [], ◌∷◌, ◌++◌, length, take, get_or, arith, Bool, true, false, cond, if◌then◌else◌, Option, Some, Vec, Global, length-take}
use Rattle.std.proofs.lemmas.List.{take_more, take_all}
use Rattle.std.specs.Cmp.Lexicographic.{same_text}
use Rattle.indexmap.specs.IndexMap.{get, Updates}
use Rattle.cl_forms.specs.Forms.{Form}
use Rattle.cl_forms.specs.Names.{same, is_among, places_from}
use Rattle.cl_order.specs.Index.{Rows, listed, place_if, under, IsIndex}

listed-cond : (b : Bool) (row : Vec ℕ Global) (o : Option (Vec ℕ Global)) → listed (cond b (Some row) o) ≡ (if b then row.items else listed o)
listed-cond true row o = refl
listed-cond false row o = refl

-- what stands under each name after a change at one
pub under_changed : (old new : Rows) (name : List ℕ) (row : Vec ℕ Global) → Updates same old new name (Some row) → (x : List ℕ) → under new x ≡ (if same name x then row.items else under old x)
under_changed old new name row h x =
    ap listed (h.0 x) ∙ listed-cond (same name x) row (get same old x)

same_choice : (b : Bool) (xs ys zs : List ℕ) → (b ≡ true → xs ≡ ys) → (if b then xs else zs) ≡ (if b then ys else zs)
same_choice true xs ys zs h = h refl
same_choice false xs ys zs h = refl

-- a place is added behind a row
pub added : (old new : Rows) (name : List ℕ) (row : Vec ℕ Global) (place : ℕ) → Updates same old new name (Some row) → row.items ≡ under old name ++ place ∷ [] → (x : List ℕ) → under new x ≡ (if same name x then under old x ++ place ∷ [] else under old x)
added old new name row place h is x =
    under_changed old new name row h x
    ∙ same_choice (same name x) row.items (under old x ++ place ∷ []) (under old x) (λ e. is ∙ ap (λ (n : List ℕ). under old n ++ place ∷ []) (same_text name x (sym e)))

-- ---- the loop

if_append : (b : Bool) (k : ℕ) (xs ys : List ℕ) → (if b then k ∷ (xs ++ ys) else (xs ++ ys)) ≡ (if b then k ∷ xs else xs) ++ ys
if_append true k xs ys = refl
if_append false k xs ys = refl

if_one : (b : Bool) (k : ℕ) → (if b then k ∷ [] else []) ≡ place_if b k
if_one true k = refl
if_one false k = refl

pub places_more : (k : ℕ) (xs : List (List ℕ)) (fs : List Form) (f : Form) → places_from k xs (fs ++ f ∷ []) ≡ places_from k xs fs ++ place_if (is_among xs f.name) (k + length fs)
places_more k xs [] f =
    let here : k ≡ k + 0 = omega arith in
    if_one (is_among xs f.name) k ∙ ap (place_if (is_among xs f.name)) here
places_more k xs (g ∷ fs) f =
    let there : (k + 1) + length fs ≡ k + suc (length fs) = omega arith in
    let rest : places_from (k + 1) xs (fs ++ f ∷ []) ≡ places_from (k + 1) xs fs ++ place_if (is_among xs f.name) (k + suc (length fs)) =
    places_more (k + 1) xs fs f ∙ ap (λ (n : ℕ). places_from (k + 1) xs fs ++ place_if (is_among xs f.name) n) there in
    ap (λ (l : List ℕ). if is_among xs g.name then k ∷ l else l) rest
    ∙ if_append (is_among xs g.name) k (places_from (k + 1) xs fs) (place_if (is_among xs f.name) (k + suc (length fs)))

pub form_step : (forms : List Form) (i : ℕ) (f : Form) (old new : Rows) (x : List ℕ) → i < length forms → f ≡ get_or forms i f → under old x ≡ places_from 0 (x ∷ []) (take i forms) → under new x ≡ under old x ++ place_if (is_among (x ∷ []) f.name) i → under new x ≡ places_from 0 (x ∷ []) (take (i + 1) forms)
form_step forms i f old new x low is before grown =
    let size : 0 + length (take i forms) ≡ i = omega (arith, length-take {A = Form}) in
    let more : take (i + 1) forms ≡ take i forms ++ f ∷ [] = take_more forms i f low ∙ ap (λ (g : Form). take i forms ++ g ∷ []) (sym is) in
    grown ∙ ap (λ (l : List ℕ). l ++ place_if (is_among (x ∷ []) f.name) i) before
    ∙ ap (λ (n : ℕ). places_from 0 (x ∷ []) (take i forms) ++ place_if (is_among (x ∷ []) f.name) n) (sym size)
    ∙ sym (places_more 0 (x ∷ []) (take i forms) f) ∙ ap (places_from 0 (x ∷ [])) (sym more)

pub indexed : (forms : List Form) (i : ℕ) (rows : Rows) → length forms ≤ i → ((x : List ℕ) → under rows x ≡ places_from 0 (x ∷ []) (take i forms)) → IsIndex forms rows
unfolding IsIndex
indexed forms i rows all h x = h x ∙ ap (places_from 0 (x ∷ [])) (take_all i forms all)
