-- Forms in their order, one more each time.
use Rattle.std.proofs.Common.{◌≡◌, ◌⊎◌, inl, inr, ℕ, zero, suc, ◌+◌, ◌<◌, ◌≤◌, Bool, true, false, List, [], ◌∷◌, ◌++◌, length, map, take, drop, get_or, slice_get, Option, Some, None, Err, refl, ap, sym, subst, ◌∙◌, add-one, arith}
use Rattle.std.specs.Prelude.{◌||◌, nat_eq, option_and_then}
use Rattle.std.specs.List.{cons_option, IsDistinct, AllByRecursion}
use Rattle.std.proofs.lemmas.Bool.{false_from_ne_true, true≢false}
use Rattle.std.proofs.lemmas.Cmp.{nat_eq_equiv}
use Rattle.std.proofs.lemmas.List.{take_more}
use Rattle.cl_types.specs.declared.fault.Fault.{Fault}
use Rattle.cl_types.specs.declared.fault.Fault.TheVariants.{Refused, NoMemory}
use Rattle.cl_types.specs.Fault.{IsRefusal}
use Rattle.cl_sexpr.specs.declared.rule.Break.{Break}
use Rattle.cl_forms.specs.Forms.{Form}
use Rattle.cl_forms.specs.Names.{name_at}
use Rattle.cl_forms.specs.Order.{is_in, IsGoodOrder}
use Rattle.cl_code.specs.declared.definition.Definition.{Definition}
use Rattle.cl_code.specs.Definitions.{form_defined}
use Rattle.cl_rules.specs.Verdicts.{Found}
use Rattle.cl_rules.specs.FormRules.{Defined, defined_after}
use Rattle.cl_rules.specs.Acceptance.{forms_at}
use Rattle.cl_rules.specs.Judging.{Judged, Fails, and_judged, form_judged, forms_judged}
use Rattle.cl_contracts.specs.Standings.{AllStand, StandsAs}
use Rattle.cl_judging.specs.declared.context.Context.{Context as CodeContext}
use Rattle.cl_judging.specs.Seen.{Shows, top_level_in}
use Rattle.cl_check.specs.JudgingForms.{IsDefined, FindsForm, MayFollow, AreKnown, StandingAs}

-- ---- places in an order

pub at_here : {A : Type 0} (xs : List A) (i : ℕ) (x : A) → i < length xs → x ≡ get_or xs i x → slice_get xs i ≡ Some x
at_here [] i x l h = absurd (omega arith)
at_here (y ∷ ys) zero x l h = ap (λ z. Some z) (sym h)
at_here (y ∷ ys) (suc i) x l h = at_here ys i x (omega arith) h

pub dropped : {A : Type 0} (i : ℕ) (xs : List A) (x : A) → slice_get xs i ≡ Some x → drop i xs ≡ x ∷ drop (suc i) xs
dropped i [] x h = absurd cc
dropped zero (y ∷ ys) x h = let same : y ≡ x = cc in ap (λ z. z ∷ ys) same
dropped (suc i) (y ∷ ys) x h = dropped i ys x h

drop_all : {A : Type 0} (xs : List A) (k : ℕ) → length xs ≤ k → drop k xs ≡ []
drop_all [] zero h = refl
drop_all [] (suc k) h = refl
drop_all (x ∷ xs) zero h = absurd (omega arith)
drop_all (x ∷ xs) (suc k) h = drop_all xs k (omega arith)

in_front : (n : ℕ) (xs ys : List ℕ) → is_in n xs ≡ true → is_in n (xs ++ ys) ≡ true
in_front n [] ys h = absurd cc
in_front n (x ∷ xs) ys h = by (nat_eq n x) h (in_front n xs ys)
  where
    by : (b : Bool) → (b || is_in n xs) ≡ true → (is_in n xs ≡ true → is_in n (xs ++ ys) ≡ true) → (b || is_in n (xs ++ ys)) ≡ true
    by true e rest = refl
    by false e rest = rest e

in_end : (n : ℕ) (xs : List ℕ) → is_in n (xs ++ n ∷ []) ≡ true
in_end n [] = ap (λ (b : Bool). b || false) (nat_eq_equiv.refl n)
in_end n (x ∷ xs) = by (nat_eq n x) (in_end n xs)
  where
    by : (b : Bool) → is_in n (xs ++ n ∷ []) ≡ true → (b || is_in n (xs ++ n ∷ [])) ≡ true
    by true e = refl
    by false e = e

pub in_all : (order : List ℕ) (k n : ℕ) → slice_get order k ≡ Some n → is_in n order ≡ true
in_all [] k n h = absurd cc
in_all (o ∷ os) zero n h = let same : o ≡ n = cc in ap (λ m. nat_eq n m || is_in n os) same ∙ ap (λ b. b || is_in n os) (nat_eq_equiv.refl n)
in_all (o ∷ os) (suc k) n h = by (nat_eq n o) (in_all os k n h)
  where
    by : (b : Bool) → is_in n os ≡ true → (b || is_in n os) ≡ true
    by true e = refl
    by false e = e

apart : (o : ℕ) (os : List ℕ) (k n : ℕ) → AllByRecursion (λ y. nat_eq o y ≡ false) os → slice_get os k ≡ Some n → nat_eq o n ≡ false
apart o [] k n a h = absurd cc
apart o (x ∷ os) zero n a h = let same : x ≡ n = cc in subst (λ m. nat_eq o m ≡ false) same a.0
apart o (x ∷ os) (suc k) n a h = apart o os k n a.1 h

-- what stands at a place of an order isn't in front of it
not_in_front : (order : List ℕ) (k n : ℕ) → IsDistinct nat_eq order → slice_get order k ≡ Some n → is_in n (take k order) ≡ false
unfolding IsDistinct
not_in_front [] k n d h = absurd cc
not_in_front (o ∷ os) zero n d h = refl
not_in_front (o ∷ os) (suc k) n d h = λ i. (nat_eq_equiv.symm n o ∙ apart o os k n d.0 h) i || not_in_front os k n d.1 h i

-- ---- how far the walk has come

-- what these definitions define, and that the rest is judged after it
pub record HasCome (D : Defined) (forms : List Form) (order : List ℕ) (k : ℕ) (ds : List Definition) (d : CodeContext) : Type 0 where
  pub defined : Defined
  pub standing : AllStand D ds defined
  pub shows : Shows d defined.context
  pub judged : forms_judged D (forms_at forms order) ≡ forms_judged defined (forms_at forms (drop k order))

pub record HasWalked (c : CodeContext) (forms : List Form) (order : List ℕ) (k : ℕ) (ds : List Definition) (d : CodeContext) : Type 0 where
  pub done : map form_defined ds ≡ forms_at forms (take k order)
  pub come : (D : Defined) → Shows c D.context → HasCome D forms order k ds d
  pub names : (y : List ℕ) → top_level_in d y ≡ true → (n : ℕ) × (is_in n (take k order) ≡ true) × (name_at forms n ≡ Some y)

all_more : (D E : Defined) (ds : List Definition) (d : Definition) (form : Form) (fs : List Found) → AllStand D ds E → StandsAs E d fs → form_defined d ≡ form → AllStand D (ds ++ d ∷ []) (defined_after E form fs)
all_more D E [] d form fs s h same = (fs, subst (λ (F : Defined). StandsAs F d fs) (sym s) h, λ i. defined_after (s i) (same i) fs)
all_more D E (e ∷ ds) d form fs s h same = (s.0, s.1, all_more (defined_after D (form_defined e) s.0) E ds d form fs s.2 h same)

map_more : (ds : List Definition) (d : Definition) → map form_defined (ds ++ d ∷ []) ≡ map form_defined ds ++ form_defined d ∷ []
map_more [] d = refl
map_more (e ∷ ds) d = ap (λ fs. form_defined e ∷ fs) (map_more ds d)

at_more : (forms : List Form) (ns : List ℕ) (n : ℕ) (form : Form) → slice_get forms n ≡ Some form → forms_at forms (ns ++ n ∷ []) ≡ forms_at forms ns ++ form ∷ []
at_more forms [] n form h = ap (λ (o : Option Form). cons_option o []) h
at_more forms (m ∷ ns) n form h = by (slice_get forms m) (at_more forms ns n form h)
  where
    by : (o : Option Form) → forms_at forms (ns ++ n ∷ []) ≡ forms_at forms ns ++ form ∷ [] → cons_option o (forms_at forms (ns ++ n ∷ [])) ≡ cons_option o (forms_at forms ns) ++ form ∷ []
    by None e = e
    by (Some g) e = ap (λ fs. g ∷ fs) e

module _ (c d : CodeContext) (forms : List Form) (order : List ℕ) (k place : ℕ) (form : Form) (ds : List Definition) (h : HasWalked c forms order k ds d) (low : k < length order) (here : place ≡ get_or order k place) (there : slice_get forms place ≡ Some form) where
  at_place : slice_get order k ≡ Some place
  at_place = at_here order k place low here

  taken : take (k + 1) order ≡ take k order ++ place ∷ []
  taken = take_more order k place low ∙ ap (λ n. take k order ++ n ∷ []) (sym here)

  rest_is : forms_at forms (drop k order) ≡ form ∷ forms_at forms (drop (k + 1) order)
  rest_is =
      ap (forms_at forms) (dropped k order place at_place) ∙ ap (λ (o : Option Form). cons_option o (forms_at forms (drop (suc k) order))) there
      ∙ ap (λ n. form ∷ forms_at forms (drop n order)) (sym (add-one k))

  name_is : name_at forms place ≡ form.name
  name_is = ap (option_and_then (λ (f : Form). f.name)) there

  judged_next : (E : Defined) → forms_judged E (forms_at forms (drop k order)) ≡ and_judged (form_judged E form) (λ F. forms_judged F (forms_at forms (drop (k + 1) order)))
  unfolding forms_judged
  judged_next E = ap (forms_judged E) rest_is

  pub walked_more : (e : CodeContext) (df : Definition) → IsDefined d form df e → HasWalked c forms order (k + 1) (ds ++ df ∷ []) e
  walked_more e df is = record {
    done = map_more ds df ∙ (λ i. h.done i ++ is.defined i ∷ []) ∙ sym (at_more forms (take k order) place form there) ∙ ap (forms_at forms) (sym taken);
    come = λ D shows.
        let past = h.come D shows in
        let now = is.holds past.defined past.shows in
        record {
          defined = defined_after past.defined form now.found;
          standing = all_more D past.defined ds df form now.found past.standing now.stands is.defined;
          shows = now.shows;
          judged = past.judged ∙ judged_next past.defined ∙ ap (λ (j : Judged Defined). and_judged j (λ F. forms_judged F (forms_at forms (drop (k + 1) order)))) now.judged;
        };
    names = λ y top. name_more y (is.names y top);
  }
    where
      name_more : (y : List ℕ) → (form.name ≡ Some y) ⊎ (top_level_in d y ≡ true) → (n : ℕ) × (is_in n (take (k + 1) order) ≡ true) × (name_at forms n ≡ Some y)
      name_more y (inl q) = (place, ap (is_in place) taken ∙ in_end place (take k order), name_is ∙ q)
      name_more y (inr q) = let old = h.names y q in (old.0, ap (is_in old.0) taken ∙ in_front old.0 (take k order) (place ∷ []) old.1, old.2)

  pub may_follow : AreKnown forms → IsGoodOrder forms order → MayFollow d form
  may_follow known good = record {
    low = known.low place form there;
    fits = known.fits place form there;
    named = known.named place form there;
    new = λ x q. false_from_ne_true (top_level_in d x) (λ top.
        let old = h.names x top in
        let same : old.0 ≡ place = known.new old.0 place x old.2 (name_is ∙ q) in
        true≢false (sym old.1 ∙ ap (λ n. is_in n (take k order)) same ∙ not_in_front order k place good.once at_place));
    once = known.once place form there;
  }

  pub walk_broken : (e : CodeContext) (g : Fault Break) → FindsForm d form (Err g) e → IsRefusal g (λ b. (D : Defined) → Shows c D.context → forms_judged D (forms_at forms order) ≡ Fails b.rule b.span)
  walk_broken e (Refused b) q = λ D shows.
      let past = h.come D shows in
      past.judged ∙ judged_next past.defined ∙ ap (λ (j : Judged Defined). and_judged j (λ F. forms_judged F (forms_at forms (drop (k + 1) order)))) (q past.defined past.shows)
  walk_broken e NoMemory q = tt

pub all_walked : (c d : CodeContext) (forms : List Form) (order : List ℕ) (k : ℕ) (ds : List Definition) → HasWalked c forms order k ds d → length order ≤ k → (D : Defined) → Shows c D.context → StandingAs D (forms_at forms order) ds
unfolding forms_judged
all_walked c d forms order k ds h end D shows =
    let past = h.come D shows in
    record { defined = past.defined; judged = past.judged ∙ ap (λ ns. forms_judged past.defined (forms_at forms ns)) (drop_all order k end); standing = past.standing }

pub place_within : (forms : List Form) (order : List ℕ) (k place : ℕ) → IsGoodOrder forms order → k < length order → place ≡ get_or order k place → place < length forms
place_within forms order k place good low here = good.within place (in_all order k place (at_here order k place low here))

pub default_free : (xs : List ℕ) (i d e : ℕ) → i < length xs → get_or xs i d ≡ get_or xs i e
default_free [] i d e h = absurd (omega arith)
default_free (x ∷ xs) zero d e h = refl
default_free (x ∷ xs) (suc i) d e h = default_free xs i d e (omega arith)
