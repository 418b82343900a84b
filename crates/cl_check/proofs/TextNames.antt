-- The names of the forms of a text: none stands twice, and no parameter of a form does; only expressions have none.
use Rattle.std.proofs.Common.{◌≡◌, ◌⊎◌, inl, inr, ℕ, zero, suc, ◌<◌, Bool, true, false, List, [], ◌∷◌, ◌++◌, map, take, slice_get, Option, Some, None, refl, sym, ap, subst, ◌∙◌, arith}
use Rattle.std.specs.Prelude.{◌||◌, is_none, nat_lt, option_map, option_and_then}
use Rattle.std.specs.List.{list_any}
use Rattle.std.proofs.lemmas.Bool.{or_parts, false_from_ne_true, true≢false, ltb-true, ltb-false}
use Rattle.cl_types.specs.Types.{PlainType}
use Rattle.cl_types.specs.declared.sized.Access.{Access}
use Rattle.cl_types.proofs.Lattice.{key_same}
use Rattle.cl_sexpr.specs.declared.sexpr.Span.{Span}
use Rattle.cl_sexpr.specs.declared.rule.Rule.{Rule}
use Rattle.cl_sexpr.specs.declared.rule.Rule.TheVariants.{BadType, BadName, NotInProfile, NameUsed}
use Rattle.cl_sexpr.specs.declared.rule.Break.{Break}
use Rattle.cl_sexpr.specs.Tree.{Tree, span_of}
use Rattle.cl_forms.specs.Forms.{Form, FormKind, ConstantForm, VariableForm, MapForm, FungibleForm, NonFungibleForm, FunctionForm, ExpressionForm}
use Rattle.cl_forms.specs.declared.version.Version.{Version}
use Rattle.cl_forms.specs.Heads.{is_reserved, native}
use Rattle.cl_forms.specs.Names.{same}
use Rattle.cl_forms.specs.Items.{Draft, ConstantDraft, VariableDraft, MapDraft, FungibleDraft, NonFungibleDraft, FunctionDraft, Item, Expression, Misshapen, Definition, item_of, and_type, typed, map_form, kind_of, form_by, form_of}
use Rattle.cl_forms.specs.WrittenTypes.{written_type}
use Rattle.cl_forms.specs.Names.{stands_twice}
use Rattle.cl_forms.specs.FormBreaks.{left_out_in, params_of, defines, is_defined, uses_name, when, rules_of, broken_at, IsAmong, Breaks, AreForms}
use Rattle.cl_forms.specs.Names.{name_at}
use Rattle.cl_check.specs.JudgingForms.{params_in, is_expression}
use Rattle.cl_forms.proofs.FreeNames.{no_native}

abbrev names_of : List (List ℕ × PlainType) → List (List ℕ)
names_of = map (λ (p : List ℕ × PlainType). p.0)

same_in : {A : Type 0} (a b : A) → Some a ≡ Some b → a ≡ b
same_in a b e = cc

-- ---- what breaks no rule

after_append : (r : Break) (xs ys : List Break) → IsAmong r ys → IsAmong r (xs ++ ys)
after_append r [] ys h = h
after_append r (x ∷ xs) ys h = inr (after_append r xs ys h)

abbrev RuleAmong : Rule → List Rule → Type 0
RuleAmong r [] = ⊥
RuleAmong r (q ∷ qs) = (r ≡ q) ⊎ RuleAmong r qs

broken_among : (span : Span) (r : Rule) (rules : List Rule) → RuleAmong r rules → IsAmong (broken_at span r) (map (broken_at span) rules)
broken_among span r [] h = absurd h
broken_among span r (q ∷ qs) (inl e) = inl (ap (broken_at span) e)
broken_among span r (q ∷ qs) (inr h) = inr (broken_among span r qs h)

-- a rule whose condition holds is among those that are broken
first_when : (b : Bool) (r : Rule) (rules : List Rule) → b ≡ true → RuleAmong r (when b r rules)
first_when true r rules h = inl refl
first_when false r rules h = absurd cc

later_when : (b : Bool) (q r : Rule) (rules : List Rule) → RuleAmong r rules → RuleAmong r (when b q rules)
later_when true q r rules h = inr h
later_when false q r rules h = h

-- no item of these breaks a rule
abbrev Unbroken : Version → List Tree → Type 0
Unbroken version items = (n : ℕ) (r : Break) → Breaks version items n r → ⊥

no_rule : (version : Version) (items : List Tree) (n : ℕ) (e : Tree) (r : Rule) → Unbroken version items → slice_get items n ≡ Some e → RuleAmong r (rules_of version (map item_of items) n (item_of e)) → ⊥
no_rule version items n e r ok there h =
    ok n (broken_at (span_of e) r) (record { item = e; there = there; broken = after_append (broken_at (span_of e) r) (map (λ at. broken_at at NotInProfile) (left_out_in e)) (map (broken_at (span_of e)) (rules_of version (map item_of items) n (item_of e))) (broken_among (span_of e) r (rules_of version (map item_of items) n (item_of e)) h) })

module _ (version : Version) (items : List Tree) (ok : Unbroken version items) (n : ℕ) (e : Tree) (there : slice_get items n ≡ Some e) (name : List ℕ) (draft : Draft) (is : item_of e ≡ Definition name draft) where
  no_rule_of : (r : Rule) → RuleAmong r (rules_of version (map item_of items) n (Definition name draft)) → ⊥
  no_rule_of r h = no_rule version items n e r ok there (subst (λ (i : Item). RuleAmong r (rules_of version (map item_of items) n i)) (sym is) h)

  abbrev is_bad : Bool
  is_bad = is_reserved version name || list_any (is_reserved version) (params_of draft)

  free_names : is_bad ≡ false
  free_names = false_from_ne_true is_bad (λ h.
      no_rule_of BadName (later_when (is_none (kind_of draft)) BadType BadName (when is_bad BadName (when (uses_name (map item_of items) n name (params_of draft)) NameUsed []))
      (first_when is_bad BadName (when (uses_name (map item_of items) n name (params_of draft)) NameUsed []) h)))

  new_names : uses_name (map item_of items) n name (params_of draft) ≡ false
  new_names = false_from_ne_true (uses_name (map item_of items) n name (params_of draft)) (λ h.
      no_rule_of NameUsed (later_when (is_none (kind_of draft)) BadType NameUsed (when is_bad BadName (when (uses_name (map item_of items) n name (params_of draft)) NameUsed []))
      (later_when is_bad BadName NameUsed (when (uses_name (map item_of items) n name (params_of draft)) NameUsed [])
      (first_when (uses_name (map item_of items) n name (params_of draft)) NameUsed [] h))))

-- ---- the names of a form are those of its item

abbrev ParamsAre : List (List ℕ) → Option FormKind → Type 0
ParamsAre xs None = Unit {0}
ParamsAre xs (Some kind) = xs ≡ params_in kind

abbrev KeysAre : List (List ℕ × Tree) → Option (List (List ℕ × PlainType)) → Type 0
KeysAre ps None = Unit {0}
KeysAre ps (Some ts) = map (λ (p : List ℕ × Tree). p.0) ps ≡ names_of ts

key_more : (p : List ℕ × Tree) (ps : List (List ℕ × Tree)) (o : Option PlainType) (os : Option (List (List ℕ × PlainType))) → KeysAre ps os → KeysAre (p ∷ ps) (and_type p.0 o os)
key_more p ps (Some t) (Some ts) h = ap (λ (xs : List (List ℕ)). p.0 ∷ xs) h
key_more p ps None (Some ts) h = tt
key_more p ps None None h = tt
key_more p ps (Some t) None h = tt

keys_are : (ps : List (List ℕ × Tree)) → KeysAre ps (typed ps)
keys_are [] = refl
keys_are (p ∷ ps) = key_more p ps (written_type p.1) (typed ps) (keys_are ps)

variable_params : (e : Tree) (o : Option PlainType) → ParamsAre [] (option_map (λ u. VariableForm u e) o)
variable_params e None = tt
variable_params e (Some t) = refl

map_params : (k v : Option PlainType) → ParamsAre [] (map_form k v)
map_params (Some k) (Some v) = refl
map_params None v = tt
map_params (Some k) None = tt

token_params : (o : Option PlainType) → ParamsAre [] (option_map NonFungibleForm o)
token_params None = tt
token_params (Some t) = refl

function_params : (access : Access) (ps : List (List ℕ × Tree)) (body : Tree) (o : Option (List (List ℕ × PlainType))) → KeysAre ps o → ParamsAre (map (λ (p : List ℕ × Tree). p.0) ps) (option_map (λ typed. FunctionForm access typed body) o)
function_params access ps body None h = tt
function_params access ps body (Some ts) h = h

params_are : (draft : Draft) → ParamsAre (params_of draft) (kind_of draft)
params_are (ConstantDraft e) = refl
params_are (VariableDraft t e) = variable_params e (written_type t)
params_are (MapDraft k v) = map_params (written_type k) (written_type v)
params_are (FungibleDraft supply) = refl
params_are (NonFungibleDraft t) = token_params (written_type t)
params_are (FunctionDraft access ps body) = function_params access ps body (typed ps) (keys_are ps)

-- a form with a name is that of a definition
record IsOf (item : Item) (form : Form) (name : List ℕ) : Type 0 where
  draft : Draft
  is : item ≡ Definition name draft
  params : params_of draft ≡ params_in form.kind

kind_is_of : (name x : List ℕ) (draft : Draft) (span : Span) (form : Form) (o : Option FormKind) → ParamsAre (params_of draft) o → option_map (λ (kind : FormKind). record { name = Some name; kind = kind; span = span }) o ≡ Some form → form.name ≡ Some x → IsOf (Definition name draft) form x
kind_is_of name x draft span form None p h e = absurd cc
kind_is_of name x draft span form (Some kind) p h e =
    let made : Form = record { name = Some name; kind = kind; span = span } in
    let is : made ≡ form = same_in made form h in
    let names : name ≡ x = same_in name x (ap (λ (f : Form). f.name) is ∙ e) in
    record { draft = draft; is = ap (λ (n : List ℕ). Definition n draft) names; params = p ∙ ap (λ (f : Form). params_in f.kind) is }

form_is_of : (item : Item) (span : Span) (form : Form) (x : List ℕ) → form_by item span ≡ Some form → form.name ≡ Some x → IsOf item form x
form_is_of (Expression e) span form x h n =
    let made : Form = record { name = None; kind = ExpressionForm e; span = span } in
    absurd (none_some x (ap (λ (f : Form). f.name) (same_in made form h) ∙ n))
  where
    none_some : (x : List ℕ) → (let o : Option (List ℕ) = None in o) ≡ Some x → ⊥
    none_some x h = cc
form_is_of Misshapen span form x h n = absurd cc
form_is_of (Definition name draft) span form x h n = kind_is_of name x draft span form (kind_of draft) (params_are draft) h n

-- only an expression has no name
kind_is_named : (draft : Draft) → (k : FormKind) → kind_of draft ≡ Some k → is_expression k ≡ false
kind_is_named (ConstantDraft e) k h = by k (same_in (ConstantForm e) k h)
  where
    by : (k : FormKind) → ConstantForm e ≡ k → is_expression k ≡ false
    by k h = ap is_expression (sym h)
kind_is_named (VariableDraft t e) k h = by (written_type t) h
  where
    by : (o : Option PlainType) → option_map (λ u. VariableForm u e) o ≡ Some k → is_expression k ≡ false
    by None h = absurd cc
    by (Some u) h = ap is_expression (sym (same_in (VariableForm u e) k h))
kind_is_named (MapDraft a b) k h = by (written_type a) (written_type b) h
  where
    by : (o p : Option PlainType) → map_form o p ≡ Some k → is_expression k ≡ false
    by None p h = absurd cc
    by (Some a) None h = absurd cc
    by (Some a) (Some b) h = ap is_expression (sym (same_in (MapForm a b) k h))
kind_is_named (FungibleDraft supply) k h = ap is_expression (sym (same_in (FungibleForm supply) k h))
kind_is_named (NonFungibleDraft t) k h = by (written_type t) h
  where
    by : (o : Option PlainType) → option_map NonFungibleForm o ≡ Some k → is_expression k ≡ false
    by None h = absurd cc
    by (Some u) h = ap is_expression (sym (same_in (NonFungibleForm u) k h))
kind_is_named (FunctionDraft access ps body) k h = by (typed ps) h
  where
    by : (o : Option (List (List ℕ × PlainType))) → option_map (λ t. FunctionForm access t body) o ≡ Some k → is_expression k ≡ false
    by None h = absurd cc
    by (Some u) h = ap is_expression (sym (same_in (FunctionForm access u body) k h))

named_if : (item : Item) (span : Span) (form : Form) → form_by item span ≡ Some form → is_none form.name ≡ is_expression form.kind
named_if (Expression e) span form h =
    let made : Form = record { name = None; kind = ExpressionForm e; span = span } in
    subst (λ (f : Form). is_none f.name ≡ is_expression f.kind) (same_in made form h) refl
named_if Misshapen span form h = absurd cc
named_if (Definition name draft) span form h = by (kind_of draft) refl h
  where
    by : (o : Option FormKind) → kind_of draft ≡ o → option_map (λ kind. record { name = Some name; kind = kind; span = span }) o ≡ Some form → is_none form.name ≡ is_expression form.kind
    by None k e = absurd cc
    by (Some kind) k e =
        let made : Form = record { name = Some name; kind = kind; span = span } in
        subst (λ (f : Form). is_none f.name ≡ is_expression f.kind) (same_in made form e) (sym (kind_is_named draft kind k))

-- ---- places

pub item_at : (items : List Tree) (forms : List Form) (n : ℕ) (form : Form) → map form_of items ≡ map Some forms → slice_get forms n ≡ Some form → (e : Tree) × (slice_get items n ≡ Some e) × (form_of e ≡ Some form)
item_at [] [] n form e h = absurd (nothing_there h)
  where
    nothing_there : slice_get [] n ≡ Some form → ⊥
    nothing_there h = cc
item_at [] (f ∷ forms) n form e h = absurd cc
item_at (i ∷ items) [] n form e h = absurd cc
item_at (i ∷ items) (f ∷ forms) zero form e h =
    let heads : form_of i ≡ Some f = cc in
    (i, refl, heads ∙ h)
item_at (i ∷ items) (f ∷ forms) (suc n) form e h =
    let tails : map form_of items ≡ map Some forms = cc in
    item_at items forms n form tails h

mapped_at : {A B : Type 0} (f : A → B) (xs : List A) (n : ℕ) (x : A) → slice_get xs n ≡ Some x → slice_get (map f xs) n ≡ Some (f x)
mapped_at f [] n x h = absurd (nothing_there h)
  where
    nothing_there : slice_get [] n ≡ Some x → ⊥
    nothing_there h = cc
mapped_at f (y ∷ xs) zero x h = ap (λ y. Some (f y)) (same_in y x h)
mapped_at f (y ∷ xs) (suc n) x h = mapped_at f xs n x h

any_at : {A : Type 0} (p : A → Bool) (xs : List A) (n : ℕ) (x : A) → list_any p xs ≡ false → slice_get xs n ≡ Some x → p x ≡ false
any_at p [] n x h k = absurd (nothing_there k)
  where
    nothing_there : slice_get [] n ≡ Some x → ⊥
    nothing_there h = cc
any_at p (y ∷ xs) zero x h k = ap p (sym (same_in y x k)) ∙ (or_parts (p y) (list_any p xs) h).0
any_at p (y ∷ xs) (suc n) x h k = any_at p xs n x (or_parts (p y) (list_any p xs) h).1 k

taken_at : {A : Type 0} (xs : List A) (m n : ℕ) (x : A) → m < n → slice_get xs m ≡ Some x → slice_get (take n xs) m ≡ Some x
taken_at [] m n x l h = absurd (nothing_there h)
  where
    nothing_there : slice_get [] m ≡ Some x → ⊥
    nothing_there h = cc
taken_at (y ∷ xs) m zero x l h = absurd (omega arith)
taken_at (y ∷ xs) zero (suc n) x l h = h
taken_at (y ∷ xs) (suc m) (suc n) x l h = taken_at xs m n x (omega arith) h

-- ---- the names of forms

module _ (version : Version) (items : List Tree) (forms : List Form) (are : AreForms version items forms) where
  -- what is known of the form at a place
  record Stood (n : ℕ) (form : Form) (x : List ℕ) : Type 0 where
    item : Tree
    there : slice_get items n ≡ Some item
    of : IsOf (item_of item) form x

  stood : (n : ℕ) (form : Form) (x : List ℕ) → slice_get forms n ≡ Some form → form.name ≡ Some x → Stood n form x
  stood n form x h e =
      let i = item_at items forms n form are.forms_are h in
      record { item = i.0; there = i.1; of = form_is_of (item_of i.0) (span_of i.0) form x i.2 e }

  new_stood : (n : ℕ) (form : Form) (x : List ℕ) → Stood n form x → uses_name (map item_of items) n x (params_in form.kind) ≡ false
  new_stood n form x s = ap (uses_name (map item_of items) n x) (sym s.of.params) ∙ new_names version items are.unbroken n s.item s.there x s.of.draft s.of.is

  new_place : (n m : ℕ) (f g : Form) (x y : List ℕ) → slice_get forms n ≡ Some f → slice_get forms m ≡ Some g → f.name ≡ Some x → g.name ≡ Some y → m < n → same x y ≡ false
  new_place n m f g x y h k a b low =
      let s : Stood n f x = stood n f x h a in
      let t : Stood m g y = stood m g y k b in
      let all = or_parts (is_defined (take n (map item_of items)) x || stands_twice (params_in f.kind)) (list_any (is_defined (map item_of items)) (params_in f.kind)) (new_stood n f x s) in
      let before = (or_parts (is_defined (take n (map item_of items)) x) (stands_twice (params_in f.kind)) all.0).0 in
      let there = taken_at (map item_of items) m n (item_of t.item) low (mapped_at item_of items m t.item t.there) in
      sym (ap (defines x) t.of.is) ∙ any_at (defines x) (take n (map item_of items)) m (item_of t.item) before there

  once_place : (n : ℕ) (f : Form) (z : List ℕ) → slice_get forms n ≡ Some f → f.name ≡ Some z → stands_twice (params_in f.kind) ≡ false
  once_place n f z h a =
      let all = or_parts (is_defined (take n (map item_of items)) z || stands_twice (params_in f.kind)) (list_any (is_defined (map item_of items)) (params_in f.kind)) (new_stood n f z (stood n f z h a)) in
      (or_parts (is_defined (take n (map item_of items)) z) (stands_twice (params_in f.kind)) all.0).1

  pub form_named : (n : ℕ) (form : Form) → slice_get forms n ≡ Some form → is_none form.name ≡ is_expression form.kind
  form_named n form h = let i = item_at items forms n form are.forms_are h in named_if (item_of i.0) (span_of i.0) form i.2

  pub form_once : (n : ℕ) (form : Form) → slice_get forms n ≡ Some form → stands_twice (params_in form.kind) ≡ false
  form_once n form h = by form.name refl
    where
      unnamed : (kind : FormKind) → is_expression kind ≡ true → stands_twice (params_in kind) ≡ false
      unnamed (ExpressionForm e) h = refl
      unnamed (ConstantForm e) h = refl
      unnamed (VariableForm t e) h = refl
      unnamed (MapForm k v) h = refl
      unnamed (FungibleForm supply) h = refl
      unnamed (NonFungibleForm t) h = refl
      unnamed (FunctionForm access params body) h = absurd cc

      by : (o : Option (List ℕ)) → form.name ≡ o → stands_twice (params_in form.kind) ≡ false
      by None e = unnamed form.kind (sym (form_named n form h) ∙ ap is_none e)
      by (Some z) e = once_place n form z h e

  name_there : (n : ℕ) (x : List ℕ) → name_at forms n ≡ Some x → (f : Form) × (slice_get forms n ≡ Some f) × (f.name ≡ Some x)
  name_there n x h = by (slice_get forms n) refl h
    where
      by : (o : Option Form) → slice_get forms n ≡ o → option_and_then (λ (f : Form). f.name) o ≡ Some x → (f : Form) × (slice_get forms n ≡ Some f) × (f.name ≡ Some x)
      by None e k = absurd cc
      by (Some f) e k = (f, e, k)

  -- the name of a form is no native's of the version
  pub name_own : (n : ℕ) (x : List ℕ) → name_at forms n ≡ Some x → native version x ≡ None
  name_own n x h =
      let f = name_there n x h in
      let s : Stood n f.0 x = stood n f.0 x f.1 f.2 in
      no_native version x (or_parts (is_reserved version x) (list_any (is_reserved version) (params_of s.of.draft)) (free_names version items are.unbroken n s.item s.there x s.of.draft s.of.is)).0

  pub names_apart : (n m : ℕ) (x : List ℕ) → name_at forms n ≡ Some x → name_at forms m ≡ Some x → n ≡ m
  names_apart n m x h k =
      let f = name_there n x h in
      let g = name_there m x k in
      by (nat_lt m n) refl (nat_lt n m) refl f g
    where
      by : (a : Bool) → nat_lt m n ≡ a → (b : Bool) → nat_lt n m ≡ b → (f : Form) × (slice_get forms n ≡ Some f) × (f.name ≡ Some x) → (g : Form) × (slice_get forms m ≡ Some g) × (g.name ≡ Some x) → n ≡ m
      by true a b c f g = absurd (true≢false (sym (key_same x) ∙ new_place n m f.0 g.0 x x f.1 g.1 f.2 g.2 (ltb-true m n a)))
      by false a true c f g = absurd (true≢false (sym (key_same x) ∙ new_place m n g.0 f.0 x x g.1 f.1 g.2 f.2 (ltb-true n m c)))
      by false a false c f g = omega (arith, ltb-false m n a, ltb-false n m c)
