-- The states of forms, and the work that is left.
use Rattle.std.proofs.Common.{◌≡◌, refl, sym, ap, subst, ◌∙◌, inl, inr, ℕ, zero, suc, ◌<◌, ◌+◌, List, [], ◌∷◌, ◌++◌, length, drop, get_or, set, arith, Bool, true, false, nat_eq, ne_eqb, if◌then◌else◌, ◌||◌, get_or-set_other, get_or-set_same}
use Rattle.std.specs.List.{IsDistinct, AllByRecursion}
use Rattle.std.proofs.lemmas.Bool.{false≢true, cases_eq}
use Rattle.std.proofs.lemmas.List.Folds.{list_any-append}
use Rattle.cl_forms.specs.Forms.{Form}
use Rattle.cl_forms.specs.Order.{is_in}
use Rattle.cl_order.specs.declared.search.State.{State}
use Rattle.cl_order.specs.declared.search.State.TheVariants.{New, OnPath, Done}
use Rattle.cl_order.specs.declared.search.Frame.{Frame}
use Rattle.cl_order.specs.Search.{places_on, left_on, state_at, HaveNamed, weight, work_new, work_on}
use Rattle.cl_order.proofs.Members.{in_last}
use Rattle.cl_order.proofs.Named.{next}
use Rattle.cl_order.proofs.Going.{Left, places_in}

-- ---- states

pub told_new : (b c : Bool) → (if b then Done else (if c then OnPath else New)) ≡ New → (b ≡ false) × (c ≡ false)
told_new true c h = cc
told_new false true h = cc
told_new false false h = (refl, refl)

pub told_on_path : (b c : Bool) → (if b then Done else (if c then OnPath else New)) ≡ OnPath → (b ≡ false) × (c ≡ true)
told_on_path true c h = cc
told_on_path false true h = (refl, refl)
told_on_path false false h = cc

pub told_done : (b c : Bool) → (if b then Done else (if c then OnPath else New)) ≡ Done → b ≡ true
told_done true c h = refl
told_done false true h = cc
told_done false false h = cc

-- a form on the path counts nothing
pub weighs_nothing : (b c : Bool) (n : ℕ) → c ≡ true → weight (if b then Done else (if c then OnPath else New)) n ≡ 0
weighs_nothing true c n h = refl
weighs_nothing false true n h = refl
weighs_nothing false false n h = absurd (false≢true h)

pub in_pushed_other : (n m : ℕ) (xs : List ℕ) → (n ≡ m → ⊥) → is_in n (xs ++ m ∷ []) ≡ is_in n xs
in_pushed_other n m xs ne = list_any-append (nat_eq n) xs (m ∷ []) ∙ ap (λ (b : Bool). is_in n xs || (b || false)) (ne_eqb n m ne) ∙ or_false (is_in n xs)
  where
    or_false : (b : Bool) → (b || false) ≡ b
    or_false true = refl
    or_false false = refl

state_now : (path done : List ℕ) (n : ℕ) (b c : Bool) → is_in n done ≡ b → is_in n path ≡ c → state_at path done n ≡ (if b then Done else (if c then OnPath else New))
state_now path done n b c d p = λ i. if d i then Done else (if p i then OnPath else New)

set_cases : (states : List State) (m n : ℕ) (s d : State) (wanted : State) → m < length states → (n ≡ m → s ≡ wanted) → ((n ≡ m → ⊥) → get_or states n d ≡ wanted) → get_or (set states m s) n d ≡ wanted
set_cases states m n s d wanted low here there =
    elim (cases_eq n m) [
      | inl e ↦ subst (λ (k : ℕ). get_or (set states m s) k d ≡ wanted) (sym e) (get_or-set_same states m s d low ∙ here e)
      | inr ne ↦ get_or-set_other states m n s d ne ∙ there ne
    ]

-- a new form is put on the path
pub states_on_path : (states : List State) (path done : List ℕ) (m n : ℕ) (d : State) → m < length states → is_in m done ≡ false → get_or states n d ≡ state_at path done n → get_or (set states m OnPath) n d ≡ state_at (path ++ m ∷ []) done n
states_on_path states path done m n d low new before =
    set_cases states m n OnPath d (state_at (path ++ m ∷ []) done n) low
    (λ e. subst (λ (k : ℕ). OnPath ≡ state_at (path ++ m ∷ []) done k) (sym e) (sym (state_now (path ++ m ∷ []) done m false true new (in_last m path))))
    (λ ne. before ∙ sym (state_now (path ++ m ∷ []) done n (is_in n done) (is_in n path) refl (in_pushed_other n m path ne)))

-- the last form of the path is done
pub states_done : (states : List State) (path done : List ℕ) (m n : ℕ) (d : State) → m < length states → get_or states n d ≡ state_at (path ++ m ∷ []) done n → get_or (set states m Done) n d ≡ state_at path (done ++ m ∷ []) n
states_done states path done m n d low before =
    set_cases states m n Done d (state_at path (done ++ m ∷ []) n) low
    (λ e. subst (λ (k : ℕ). Done ≡ state_at path (done ++ m ∷ []) k) (sym e) (sym (state_now path (done ++ m ∷ []) m true (is_in m path) (in_last m done) refl)))
    (λ ne. before
    ∙ state_now (path ++ m ∷ []) done n (is_in n done) (is_in n path) refl (in_pushed_other n m path ne)
    ∙ sym (state_now path (done ++ m ∷ []) n (is_in n done) (is_in n path) (in_pushed_other n m done ne) refl))

-- ---- paths

all_front : {A : Type 0} (P : A → Type 0) (xs : List A) (x : A) → AllByRecursion P (xs ++ x ∷ []) → AllByRecursion P xs
all_front P [] x h = tt
all_front P (y ∷ ys) x h = (h.0, all_front P ys x h.1)

pub distinct_front : (xs : List ℕ) (x : ℕ) → IsDistinct nat_eq (xs ++ x ∷ []) → IsDistinct nat_eq xs
unfolding IsDistinct
distinct_front [] x h = tt
distinct_front (y ∷ ys) x h = (all_front (λ z. nat_eq y z ≡ false) ys x h.0, distinct_front ys x h.1)

pub places_pushed : (fs : List Frame) (f : Frame) → places_on (fs ++ f ∷ []) ≡ places_on fs ++ f.place ∷ []
places_pushed [] f = refl
places_pushed (g ∷ fs) f = ap (λ (l : List ℕ). g.place ∷ l) (places_pushed fs f)

pub left_pushed : (fs : List Frame) (f : Frame) → left_on (fs ++ f ∷ []) ≡ left_on fs ++ (f.place, drop f.visited f.named.items) ∷ []
left_pushed [] f = refl
left_pushed (g ∷ fs) f = ap (λ (l : Left). (g.place, drop g.visited g.named.items) ∷ l) (left_pushed fs f)

pub places_left : (fs : List Frame) → places_in (left_on fs) ≡ places_on fs
places_left [] = refl
places_left (f ∷ fs) = ap (λ (l : List ℕ). f.place ∷ l) (places_left fs)

pub length_left : (fs : List Frame) → length (left_on fs) ≡ length (places_on fs)
length_left [] = refl
length_left (f ∷ fs) = ap suc (length_left fs)

pub named_pushed : (forms : List Form) (fs : List Frame) (f : Frame) → HaveNamed forms fs → f.named.items ≡ next forms f.place → HaveNamed forms (fs ++ f ∷ [])
named_pushed forms [] f h is = (is, tt)
named_pushed forms (g ∷ fs) f h is = (h.0, named_pushed forms fs f h.1 is)

pub named_front : (forms : List Form) (fs : List Frame) (f : Frame) → HaveNamed forms (fs ++ f ∷ []) → HaveNamed forms fs
named_front forms [] f h = tt
named_front forms (g ∷ fs) f h = (h.0, named_front forms fs f h.1)

pub named_last : (forms : List Form) (fs : List Frame) (f : Frame) → HaveNamed forms (fs ++ f ∷ []) → f.named.items ≡ next forms f.place
named_last forms [] f h = h.0
named_last forms (g ∷ fs) f h = named_last forms fs f h.1

-- ---- work

pub work_pushed : (fs : Left) (n : ℕ) (ms : List ℕ) → work_on (fs ++ (n, ms) ∷ []) ≡ work_on fs + (length ms + 1)
work_pushed [] n ms = omega arith
work_pushed (f ∷ fs) n ms = omega (arith, work_pushed fs n ms)

-- one state is changed
pub work_set : (forms : List Form) (k : ℕ) (states : List State) (i : ℕ) (s d : State) → i < length states → work_new forms k (set states i s) + weight (get_or states i d) (length (next forms (k + i)) + 2) ≡ work_new forms k states + weight s (length (next forms (k + i)) + 2)
work_set forms k [] i s d low = absurd (omega arith)
work_set forms k (t ∷ states) zero s d low =
    let here : k + 0 ≡ k = omega arith in
    subst (λ (n : ℕ). (weight s (length (next forms k) + 2) + work_new forms (k + 1) states) + weight t (length (next forms n) + 2) ≡ (weight t (length (next forms k) + 2) + work_new forms (k + 1) states) + weight s (length (next forms n) + 2)) (sym here) (omega arith)
work_set forms k (t ∷ states) (suc i) s d low =
    let there : (k + 1) + i ≡ k + suc i = omega arith in
    let rest : work_new forms (k + 1) (set states i s) + weight (get_or states i d) (length (next forms (k + suc i)) + 2) ≡ work_new forms (k + 1) states + weight s (length (next forms (k + suc i)) + 2) =
    subst (λ (n : ℕ). work_new forms (k + 1) (set states i s) + weight (get_or states i d) (length (next forms n) + 2) ≡ work_new forms (k + 1) states + weight s (length (next forms n) + 2)) there (work_set forms (k + 1) states i s d (omega arith)) in
    omega arith
