-- The forms of a text: each is what its name stands for.
use Rattle.std.proofs.Common.{◌≡◌, inl, inr, ℕ, zero, suc, Bool, true, false, List, [], ◌∷◌, ◌++◌, map, take, Option, Some, None, refl, sym, ap, subst, ◌∙◌, arith}
use Rattle.std.specs.Prelude.{if◌then◌else◌, unwrap_or, slice_get, option_map, ◌||◌, ◌<◌, nat_eq, length}
use Rattle.std.proofs.lemmas.Bool.{eqb-true}
use Rattle.cl_types.specs.Types.{PlainType}
use Rattle.std.specs.List.{list_any, cons_option}
use Rattle.std.specs.Str.{bytes_eq}
use Rattle.cl_types.proofs.Lattice.{keys_equal, key_same}
use Rattle.cl_sexpr.specs.declared.rule.Rule.{Rule}
use Rattle.cl_sexpr.specs.declared.rule.Rule.TheVariants.{BadType, BadName, NameUsed}
use Rattle.cl_sexpr.specs.declared.rule.Break.{Break}
use Rattle.cl_sexpr.specs.declared.sexpr.Span.{Span}
use Rattle.cl_sexpr.specs.Tree.{Tree, span_of}
use Rattle.cl_forms.specs.declared.version.Version.{Version}
use Rattle.cl_forms.specs.Forms.{Form, FormKind, ConstantForm, VariableForm, MapForm, FungibleForm, NonFungibleForm, FunctionForm, ExpressionForm}
use Rattle.cl_forms.specs.Order.{is_in, IsGoodOrder}
use Rattle.cl_forms.specs.WrittenTypes.{written_type}
use Rattle.cl_forms.specs.Names.{same}
use Rattle.cl_forms.specs.Items.{Draft, ConstantDraft, VariableDraft, MapDraft, FungibleDraft, NonFungibleDraft, FunctionDraft, map_form, typed, Item, Expression, Misshapen, Definition, item_of, kind_of, form_by, form_of as form_at}
use Rattle.cl_forms.specs.Names.{stands_twice}
use Rattle.cl_forms.specs.FormBreaks.{params_of, defines, is_defined, when, rules_of, broken_at, left_out_in, IsAmong as IsAmongBreaks, Breaks, AreForms}
use Rattle.cl_meaning.specs.Deployed.{Contract, has_name, form_of}
use Rattle.cl_meaning.specs.Deploying.{forms_at}
use Rattle.cl_meaning.specs.Kept.{IsDefinition, IsAmong}
use Rattle.cl_forms.specs.Fits.{KindFits, FormsFit}
use Rattle.cl_contract_sound.specs.Deployments.{AreItsForms}
use Rattle.cl_expression_sound.proofs.Rules.{or_left, or_right}

-- ---- no rule is broken

among_behind : (b : Break) (xs ys : List Break) → IsAmongBreaks b ys → IsAmongBreaks b (xs ++ ys)
among_behind b [] ys h = h
among_behind b (x ∷ xs) ys h = inr (among_behind b xs ys h)

no_rules : (span : Span) (xs : List Break) (rules : List Rule) → ((r : Break) → IsAmongBreaks r (xs ++ map (broken_at span) rules) → ⊥) → rules ≡ []
no_rules span xs [] h = refl
no_rules span xs (r ∷ rs) h = absurd (h (broken_at span r) (among_behind (broken_at span r) xs (map (broken_at span) (r ∷ rs)) (inl refl)))

not_used : (a b c : Bool) → when a BadType (when b BadName (when c NameUsed [])) ≡ [] → c ≡ false
not_used true b c h = absurd cc
not_used false true c h = absurd cc
not_used false false true h = absurd cc
not_used false false false h = refl

-- no item before defines the name
not_before : (version : Version) (items : List Tree) (n : ℕ) (e : Tree) (name : List ℕ) (draft : Draft) → item_of e ≡ Definition name draft → slice_get items n ≡ Some e → ((r : Break) → Breaks version items n r → ⊥) → is_defined (take n (map item_of items)) name ≡ false
not_before version items n e name draft is there unbroken =
    let rules : rules_of version (map item_of items) n (item_of e) ≡ [] = no_rules (span_of e) (map (λ at. broken_at at _) (left_out_in e)) (rules_of version (map item_of items) n (item_of e)) (λ r h. unbroken r (record { item = e; there = there; broken = h })) in
    let used = not_used _ _ _ (ap (rules_of version (map item_of items) n) (sym is) ∙ rules) in
    or_left (is_defined (take n (map item_of items)) name) (stands_twice (params_of draft)) (or_left (is_defined (take n (map item_of items)) name || stands_twice (params_of draft)) (list_any (is_defined (map item_of items)) (params_of draft)) used)

-- ---- items and their forms

-- what an item's form is
pub data IsFormOf (i : Item) (form : Form) : Type 0 where
  an_expression : (e : Tree) → form.name ≡ None → form.kind ≡ ExpressionForm e → i ≡ Expression e → IsFormOf i form
  a_definition : (name : List ℕ) (draft : Draft) → form.name ≡ Some name → IsDefinition form.kind → i ≡ Definition name draft → IsFormOf i form

same_form : (a b : Form) → Some a ≡ Some b → a ≡ b
same_form a b h = cc

written_definition : {A : Type 0} (f : A → FormKind) → ((a : A) → IsDefinition (f a)) → (o : Option A) (kind : FormKind) → option_map f o ≡ Some kind → IsDefinition kind
written_definition f h (Some a) kind e = subst IsDefinition (same_kind (f a) kind e) (h a)
  where
    same_kind : (k l : FormKind) → Some k ≡ Some l → k ≡ l
    same_kind k l e = cc
written_definition f h None kind e = absurd cc

kinds_one : (k l : FormKind) → Some k ≡ Some l → k ≡ l
kinds_one k l e = cc

kind_definition : (draft : Draft) (kind : FormKind) → kind_of draft ≡ Some kind → IsDefinition kind
kind_definition (ConstantDraft e) kind h = subst IsDefinition (kinds_one (ConstantForm e) kind h) tt
kind_definition (VariableDraft t e) kind h = written_definition (λ u. VariableForm u e) (λ u. tt) (written_type t) kind h
kind_definition (MapDraft k v) kind h = by (written_type k) (written_type v) h
  where
    by : (a b : Option PlainType) → map_form a b ≡ Some kind → IsDefinition kind
    by (Some a) (Some b) h = subst IsDefinition (kinds_one (MapForm a b) kind h) tt
    by None b h = absurd cc
    by (Some a) None h = absurd cc
kind_definition (FungibleDraft supply) kind h = subst IsDefinition (kinds_one (FungibleForm supply) kind h) tt
kind_definition (NonFungibleDraft t) kind h = written_definition NonFungibleForm (λ u. tt) (written_type t) kind h
kind_definition (FunctionDraft access params body) kind h = written_definition (λ ps. FunctionForm access ps body) (λ ps. tt) (typed params) kind h

form_is : (i : Item) (span : Span) (form : Form) → form_by i span ≡ Some form → IsFormOf i form
form_is (Expression e) span form h =
    let s = same_form (record { name = None; kind = ExpressionForm e; span = span }) form h in
    an_expression e (ap (λ (f : Form). f.name) (sym s)) (ap (λ (f : Form). f.kind) (sym s)) refl
form_is Misshapen span form h = absurd cc
form_is (Definition name draft) span form h = by (kind_of draft) refl h
  where
    by : (o : Option FormKind) → kind_of draft ≡ o → option_map (λ (kind : FormKind). record { name = Some name; kind = kind; span = span }) o ≡ Some form → IsFormOf (Definition name draft) form
    by (Some kind) e g =
        let s = same_form (record { name = Some name; kind = kind; span = span }) form g in
        a_definition name draft (ap (λ (f : Form). f.name) (sym s)) (subst (λ (f : Form). IsDefinition f.kind) s (kind_definition draft kind e)) refl
    by None e g = absurd cc

-- an item that doesn't define the name has a form of another
other_name : (i : Item) (form : Form) (x : List ℕ) → IsFormOf i form → defines x i ≡ false → has_name x form.name ≡ false
other_name i form x (an_expression e none kind is) h = ap (has_name x) none
other_name i form x (a_definition name draft some defines_it is) h = ap (has_name x) some ∙ by (bytes_eq name x) refl
  where
    by : (b : Bool) → bytes_eq name x ≡ b → b ≡ false
    by true e = sym (ap (same x) (keys_equal name x e) ∙ key_same x) ∙ ap (defines x) (sym is) ∙ h
    by false e = refl

heads_are : (e : Tree) (es : List Tree) (f : Form) (fs : List Form) → map form_at (e ∷ es) ≡ map Some (f ∷ fs) → (form_at e ≡ Some f) × (map form_at es ≡ map Some fs)
heads_are e es f fs h = (first_of h, rest_of h)
  where
    first_of : form_at e ∷ map form_at es ≡ Some f ∷ map Some fs → form_at e ≡ Some f
    first_of h = cc

    rest_of : form_at e ∷ map form_at es ≡ Some f ∷ map Some fs → map form_at es ≡ map Some fs
    rest_of h = cc

if_named : (b : Bool) (k : FormKind) (o : Option FormKind) → b ≡ true → (if b then Some k else o) ≡ Some k
if_named true k o h = refl
if_named false k o h = absurd cc

if_unnamed : (b : Bool) (k l : FormKind) (o : Option FormKind) → b ≡ false → o ≡ Some l → (if b then Some k else o) ≡ Some l
if_unnamed true k l o h e = absurd cc
if_unnamed false k l o h e = e

-- the form at a place is the first of its name, where no item before defines it
first_is : (items : List Tree) (forms : List Form) (n : ℕ) (form : Form) (x : List ℕ) → map form_at items ≡ map Some forms → slice_get forms n ≡ Some form → form.name ≡ Some x → is_defined (take n (map item_of items)) x ≡ false → form_of x forms ≡ Some form.kind
first_is items [] n form x h there named free = absurd cc
first_is [] (f ∷ forms) n form x h there named free = absurd cc
first_is (e ∷ items) (f ∷ forms) zero form x h there named free =
    let same_one = same_form f form there in
    if_named (has_name x f.name) f.kind (form_of x forms) (ap (λ (f : Form). has_name x f.name) same_one ∙ ap (has_name x) named ∙ key_same x) ∙ ap (λ (f : Form). Some f.kind) same_one
first_is (e ∷ items) (f ∷ forms) (suc n) form x h there named free =
    let hs = heads_are e items f forms h in
    if_unnamed (has_name x f.name) f.kind form.kind (form_of x forms)
    (other_name (item_of e) f x (form_is (item_of e) (span_of e) f hs.0) (or_left (defines x (item_of e)) (is_defined (take n (map item_of items)) x) free))
    (first_is items forms n form x hs.1 there named (or_right (defines x (item_of e)) (is_defined (take n (map item_of items)) x) free))

-- the item of a form at its place
item_there : (items : List Tree) (forms : List Form) (n : ℕ) (form : Form) → map form_at items ≡ map Some forms → slice_get forms n ≡ Some form → (e : Tree) × (slice_get items n ≡ Some e) × (form_at e ≡ Some form)
item_there items [] n form h there = absurd cc
item_there [] (f ∷ forms) n form h there = absurd cc
item_there (e ∷ items) (f ∷ forms) zero form h there = (e, refl, (heads_are e items f forms h).0 ∙ there)
item_there (e ∷ items) (f ∷ forms) (suc n) form h there = item_there items forms n form (heads_are e items f forms h).1 there

pub is_defining : {version : Version} (items : List Tree) (forms : List Form) → AreForms version items forms → (n : ℕ) (form : Form) → slice_get forms n ≡ Some form → IsDefinition form.kind → form_of (unwrap_or form.name []) forms ≡ Some form.kind
is_defining {version = version} items forms are n form there definition =
    let i = item_there items forms n form are.forms_are there in
    by i.0 i.1 (form_is (item_of i.0) (span_of i.0) form i.2)
  where
    by : (e : Tree) → slice_get items n ≡ Some e → IsFormOf (item_of e) form → form_of (unwrap_or form.name []) forms ≡ Some form.kind
    by e at (an_expression d none kind is) = absurd (subst IsDefinition kind definition)
    by e at (a_definition name draft some defines_it is) =
        ap (λ o. form_of (unwrap_or o []) forms) some
        ∙ first_is items forms n form name are.forms_are there some (not_before version items n e name draft is at (are.unbroken n))

-- ---- forms in an order

fits_at : (forms : List Form) → FormsFit forms → (n : ℕ) (form : Form) → slice_get forms n ≡ Some form → KindFits form.kind
fits_at [] h n form e = absurd cc
fits_at (f ∷ forms) h zero form e = subst (λ (f : Form). KindFits f.kind) (same_form f form e) h.0
fits_at (f ∷ forms) h (suc n) form e = fits_at forms h.1 n form e

pub its_forms_at : {version : Version} (items : List Tree) (c : Contract) → AreForms version items c.forms → FormsFit c.forms → (places : List ℕ) → AreItsForms c (forms_at c.forms places)
its_forms_at items c are fit [] = tt
its_forms_at items c are fit (n ∷ places) = by (slice_get c.forms n) refl (its_forms_at items c are fit places)
  where
    by : (o : Option Form) → slice_get c.forms n ≡ o → AreItsForms c (forms_at c.forms places) → AreItsForms c (cons_option o (forms_at c.forms places))
    by None e rest = rest
    by (Some form) e rest = (is_defining items c.forms are n form e, fits_at c.forms fit n form e, rest)

-- ---- each name that is defined is in a good order

-- the form of a name, at its place
pub record IsPlaced (forms : List Form) (x : List ℕ) (kind : FormKind) : Type 0 where
  pub place : ℕ
  pub form : Form
  pub there : slice_get forms place ≡ Some form
  pub low : place < length forms
  pub named : form.name ≡ Some x
  pub is : form.kind ≡ kind

placed : (forms : List Form) (x : List ℕ) (kind : FormKind) → form_of x forms ≡ Some kind → IsPlaced forms x kind
placed [] x kind h = absurd cc
placed (f ∷ forms) x kind h = by (has_name x f.name) refl h (placed forms x kind)
  where
    by : (b : Bool) → has_name x f.name ≡ b → (if b then Some f.kind else form_of x forms) ≡ Some kind → (form_of x forms ≡ Some kind → IsPlaced forms x kind) → IsPlaced (f ∷ forms) x kind
    by true e g more = record { place = 0; form = f; there = refl; low = omega arith; named = name_of f.name e; is = kinds_one f.kind kind g }
      where
        name_of : (o : Option (List ℕ)) → has_name x o ≡ true → o ≡ Some x
        name_of None e = absurd cc
        name_of (Some y) e = ap Some (keys_equal y x e)
    by false e g more =
        let p = more g in
        let low = p.low in
        record { place = suc p.place; form = p.form; there = p.there; low = omega (arith, low); named = p.named; is = p.is }

among_at : (forms : List Form) (places : List ℕ) (n : ℕ) (form : Form) (x : List ℕ) → is_in n places ≡ true → slice_get forms n ≡ Some form → form.name ≡ Some x → IsDefinition form.kind → IsAmong x (forms_at forms places)
among_at forms [] n form x h there named definition = absurd cc
among_at forms (m ∷ places) n form x h there named definition = by (nat_eq n m) refl h (λ g. among_at forms places n form x g there named definition)
  where
    here : (o : Option Form) → o ≡ Some form → IsAmong x (cons_option o (forms_at forms places))
    here o e = subst (λ o. IsAmong x (cons_option o (forms_at forms places))) (sym e) (inl (definition, ap (λ o. unwrap_or o []) named))

    later : (o : Option Form) → IsAmong x (forms_at forms places) → IsAmong x (cons_option o (forms_at forms places))
    later None g = g
    later (Some f) g = inr g

    by : (b : Bool) → nat_eq n m ≡ b → (b || is_in n places) ≡ true → (is_in n places ≡ true → IsAmong x (forms_at forms places)) → IsAmong x (cons_option (slice_get forms m) (forms_at forms places))
    by true e g more = here (slice_get forms m) (ap (slice_get forms) (sym (eqb-true n m e)) ∙ there)
    by false e g more = later (slice_get forms m) (more g)

-- each name that a contract defines is defined by one of these forms
abbrev pub AreAll : Contract → List Form → Type 0
AreAll c order = (x : List ℕ) (kind : FormKind) → form_of x c.forms ≡ Some kind → IsAmong x order

pub all_at : {version : Version} (items : List Tree) (c : Contract) → AreForms version items c.forms → (places : List ℕ) → IsGoodOrder c.forms places → AreAll c (forms_at c.forms places)
all_at items c are places good x kind h =
    let p = placed c.forms x kind h in
    let i = item_there items c.forms p.place p.form are.forms_are p.there in
    by p i.0 (form_is (item_of i.0) (span_of i.0) p.form i.2)
  where
    none_named : (o : Option (List ℕ)) → o ≡ None → o ≡ Some x → ⊥
    none_named o e g = cc

    by : (p : IsPlaced c.forms x kind) (e : Tree) → IsFormOf (item_of e) p.form → IsAmong x (forms_at c.forms places)
    by p e (an_expression d none k is) = absurd (none_named p.form.name none p.named)
    by p e (a_definition name draft some definition is) = among_at c.forms places p.place p.form x (good.complete p.place p.low) p.there p.named definition
