-- Functions of accepted texts are called by names, and have few parameters.
use Rattle.std.proofs.Common.{◌≡◌, ℕ, ◌+◌, ◌*◌, ◌<◌, ◌≤◌, ◌^◌, Bool, true, false, List, [], ◌∷◌, length, map, Option, Some, None, refl, sym, ap, subst, ◌∙◌, arith}
use Rattle.std.specs.Prelude.{if◌then◌else◌, option_map, option_and_then, codes, unwrap_or}
use Rattle.cl_types.specs.Name.{IsName}
use Rattle.cl_types.specs.declared.sized.Access.{Access}
use Rattle.cl_types.specs.declared.sized.Access.TheVariants.{Public, ReadOnly, Private}
use Rattle.cl_types.proofs.Lattice.{keys_equal}
use Rattle.cl_c32.specs.declared.principal.Principal.{Principal}
use Rattle.cl_sexpr.specs.declared.sexpr.Span.{Span}
use Rattle.cl_sexpr.specs.Tree.{Tree, LeafAt, ListAt, TupleAt, Named, Signed, Unsigned, Bytes, Ascii, Unicode, Standing, Local, Forest, Empty, Then, span_of, forest, forest_size, tree_size}
use Rattle.cl_sexpr.specs.Fits.{Fits, AreFit}
use Rattle.cl_sexpr.proofs.LiteralsFit.{items_fit}
use Rattle.cl_sexpr.proofs.Sizes.{items_few}
use Rattle.cl_values.specs.Valid.{IsPrincipal}
use Rattle.cl_forms.specs.Forms.{Form, FormKind, ConstantForm, VariableForm, MapForm, FungibleForm, NonFungibleForm, FunctionForm, ExpressionForm}
use Rattle.cl_forms.specs.Names.{same}
use Rattle.cl_forms.specs.Shapes.{trees_of, bindings_of}
use Rattle.cl_forms.specs.Weights.{weight_of_kind, weight_of_forms}
use Rattle.cl_forms.specs.Items.{Draft, ConstantDraft, VariableDraft, MapDraft, FungibleDraft, NonFungibleDraft, FunctionDraft, Item, Expression, Misshapen, Definition, word_of, atom_of, two_of, three_of, one_or_two_of, Defined, with_name, header_of, function_by, definition, item_by, item_of, kind_of, form_by, form_of as form_at}
use Rattle.cl_forms.proofs.ExpressionsFit.{are_fit}
use Rattle.cl_forms.proofs.Weighing.{forms_within}
use Rattle.cl_meaning.specs.Deployed.{Contract, Deployed, Function, contract_at, has_name, form_of, as_function, function_in}
use Rattle.cl_rules.specs.Context.{Known}
use Rattle.cl_contract_sound.specs.Nodes.{AreContracts}
use Rattle.cl_contract_sound.proofs.Signed.{IsOfSomeText, contract_text}

-- ---- names of items

abbrev DefinedNamed : Option Defined → Type 0
DefinedNamed None = Unit {0}
DefinedNamed (Some d) = IsName d.0

abbrev ItemNamed : Item → Type 0
ItemNamed (Definition name draft) = IsName name
ItemNamed item = Unit {0}

abbrev MaybeName : Option (List ℕ) → Type 0
MaybeName None = Unit {0}
MaybeName (Some x) = IsName x

atom_named : (e : Tree) → Fits e → MaybeName (atom_of e)
atom_named (LeafAt (Named x) at) h = h
atom_named (LeafAt (Signed z) at) h = tt
atom_named (LeafAt (Unsigned n) at) h = tt
atom_named (LeafAt (Bytes b) at) h = tt
atom_named (LeafAt (Ascii a) at) h = tt
atom_named (LeafAt (Unicode u) at) h = tt
atom_named (LeafAt (Standing p) at) h = tt
atom_named (LeafAt (Local c) at) h = tt
atom_named (ListAt es at) h = tt
atom_named (TupleAt ps at) h = tt

draft_named : (o : Option (List ℕ)) (draft : Draft) → MaybeName o → DefinedNamed (option_map (λ name. (name, draft)) o)
draft_named None draft h = tt
draft_named (Some x) draft h = h

two_named : (make : Tree → Draft) (parts : List Tree) → AreFit parts → DefinedNamed (option_and_then (λ p. with_name p.0 (make p.1)) (two_of parts))
two_named make (a ∷ b ∷ []) h = draft_named (atom_of a) (make b) (atom_named a h.0)
two_named make [] h = tt
two_named make (a ∷ []) h = tt
two_named make (a ∷ b ∷ c ∷ es) h = tt

three_named : (make : Tree → Tree → Draft) (parts : List Tree) → AreFit parts → DefinedNamed (option_and_then (λ p. with_name p.0 (make p.1 p.2)) (three_of parts))
three_named make (a ∷ b ∷ c ∷ []) h = draft_named (atom_of a) (make b c) (atom_named a h.0)
three_named make [] h = tt
three_named make (a ∷ []) h = tt
three_named make (a ∷ b ∷ []) h = tt
three_named make (a ∷ b ∷ c ∷ d ∷ es) h = tt

supply_named : (parts : List Tree) → AreFit parts → DefinedNamed (option_and_then (λ p. with_name p.0 (FungibleDraft p.1)) (one_or_two_of parts))
supply_named (a ∷ []) h = draft_named (atom_of a) (FungibleDraft None) (atom_named a h.0)
supply_named (a ∷ b ∷ []) h = draft_named (atom_of a) (FungibleDraft (Some b)) (atom_named a h.0)
supply_named [] h = tt
supply_named (a ∷ b ∷ c ∷ es) h = tt

abbrev MaybeHeader : Option (List ℕ × List Tree) → Type 0
MaybeHeader None = Unit {0}
MaybeHeader (Some h) = IsName h.0

atom_header : (o : Option (List ℕ)) (params : List Tree) → MaybeName o → MaybeHeader (option_map (λ name. (name, params)) o)
atom_header None params h = tt
atom_header (Some x) params h = h

header_named : (e : Tree) → Fits e → MaybeHeader (header_of e)
header_named (ListAt Empty at) h = tt
header_named (ListAt (Then x es) at) h = atom_header (atom_of x) (trees_of es) (atom_named x h.0)
header_named (LeafAt leaf at) h = tt
header_named (TupleAt ps at) h = tt

body_named : (access : Access) (body : Tree) (o : Option (List ℕ × List Tree)) → MaybeHeader o → DefinedNamed (function_by access body o)
body_named access body None h = tt
body_named access body (Some p) h = by (bindings_of p.1)
  where
    by : (o : Option (List (List ℕ × Tree))) → DefinedNamed (option_map (λ params. (p.0, FunctionDraft access params body)) o)
    by None = tt
    by (Some params) = h

function_named : (access : Access) (parts : List Tree) → AreFit parts → DefinedNamed (option_and_then (λ p. function_by access p.1 (header_of p.0)) (two_of parts))
function_named access (a ∷ b ∷ []) h = body_named access b (header_of a) (header_named a h.0)
function_named access [] h = tt
function_named access (a ∷ []) h = tt
function_named access (a ∷ b ∷ c ∷ es) h = tt

definition_named : (o : Option Defined) → DefinedNamed o → ItemNamed (definition o)
definition_named None h = tt
definition_named (Some d) h = h

either_word : {A : Type 0} (P : A → Type 0) (b : Bool) (x y : A) → P x → P y → P (if b then x else y)
either_word P true x y h k = h
either_word P false x y h k = k

by_word : (x : List ℕ) (parts : List Tree) (e : Tree) → AreFit parts → ItemNamed (item_by (word_of x) parts e)
by_word x parts e h =
    either_word (λ o. ItemNamed (item_by o parts e)) (same x (codes "define-constant")) _ _ (definition_named _ (two_named ConstantDraft parts h))
    (either_word (λ o. ItemNamed (item_by o parts e)) (same x (codes "define-data-var")) _ _ (definition_named _ (three_named VariableDraft parts h))
    (either_word (λ o. ItemNamed (item_by o parts e)) (same x (codes "define-map")) _ _ (definition_named _ (three_named MapDraft parts h))
    (either_word (λ o. ItemNamed (item_by o parts e)) (same x (codes "define-fungible-token")) _ _ (definition_named _ (supply_named parts h))
    (either_word (λ o. ItemNamed (item_by o parts e)) (same x (codes "define-non-fungible-token")) _ _ (definition_named _ (two_named NonFungibleDraft parts h))
    (either_word (λ o. ItemNamed (item_by o parts e)) (same x (codes "define-public")) _ _ (definition_named _ (function_named Public parts h))
    (either_word (λ o. ItemNamed (item_by o parts e)) (same x (codes "define-read-only")) _ _ (definition_named _ (function_named ReadOnly parts h))
    (either_word (λ o. ItemNamed (item_by o parts e)) (same x (codes "define-private")) _ _ (definition_named _ (function_named Private parts h)) tt)))))))

item_named : (e : Tree) → Fits e → ItemNamed (item_of e)
unfolding item_of
item_named (ListAt (Then (LeafAt (Named x) at) es) at') h = by_word x (trees_of es) (ListAt (Then (LeafAt (Named x) at) es) at') (are_fit es h.1)
item_named e h = tt

-- ---- names of forms

abbrev MaybeForm : Option Form → Type 0
MaybeForm None = Unit {0}
MaybeForm (Some form) = MaybeName form.name

kind_form : (name : List ℕ) (span : Span) (o : Option FormKind) → IsName name → MaybeForm (option_map (λ (kind : FormKind). record { name = Some name; kind = kind; span = span }) o)
kind_form name span None h = tt
kind_form name span (Some kind) h = h

item_form : (item : Item) (span : Span) → ItemNamed item → MaybeForm (form_by item span)
item_form (Expression e) span h = tt
item_form Misshapen span h = tt
item_form (Definition name draft) span h = kind_form name span (kind_of draft) h

named_one : (x : List ℕ) (o : Option (List ℕ)) → MaybeName o → has_name x o ≡ true → IsName x
named_one x None h e = absurd cc
named_one x (Some y) h e = subst IsName (keys_equal y x e) h

form_named : (items : List Tree) (forms : List Form) → AreFit items → map form_at items ≡ map Some forms → (x : List ℕ) (kind : FormKind) → form_of x forms ≡ Some kind → IsName x
form_named items [] fit e x kind h = absurd cc
form_named [] (form ∷ forms) fit e x kind h = absurd cc
form_named (i ∷ items) (form ∷ forms) fit e x kind h =
    let heads : form_at i ≡ Some form = cc in
    let tails : map form_at items ≡ map Some forms = cc in
    by (has_name x form.name) refl h (subst MaybeForm heads (item_form (item_of i) (span_of i) (item_named i fit.0))) (form_named items forms fit.1 tails x kind)
  where
    by : (b : Bool) → has_name x form.name ≡ b → (if b then Some form.kind else form_of x forms) ≡ Some kind → MaybeName form.name → (form_of x forms ≡ Some kind → IsName x) → IsName x
    by true e h named more = named_one x form.name named e
    by false e h named more = more h

-- ---- few parameters

kind_few : (x : List ℕ) (kind : FormKind) (f : Function) → as_function x kind ≡ Some f → length f.params ≤ weight_of_kind kind
kind_few x (FunctionForm access params body) f h =
    let e : length params ≡ length f.params = ap (λ (o : Option Function). length (unwrap_or o f).params) h in
    omega arith
kind_few x (ConstantForm e) f h = absurd cc
kind_few x (VariableForm t e) f h = absurd cc
kind_few x (MapForm k v) f h = absurd cc
kind_few x (FungibleForm s) f h = absurd cc
kind_few x (NonFungibleForm t) f h = absurd cc
kind_few x (ExpressionForm e) f h = absurd cc

few_step : (b : Bool) (x : List ℕ) (g : Form) (gs : List Form) (f : Function) → option_and_then (as_function x) (if b then Some g.kind else form_of x gs) ≡ Some f → (function_in x gs ≡ Some f → length f.params ≤ weight_of_forms gs) → length f.params ≤ weight_of_forms (g ∷ gs)
few_step true x g gs f h go = let low : length f.params ≤ weight_of_kind g.kind = kind_few x g.kind f h in omega arith
few_step false x g gs f h go = let low : length f.params ≤ weight_of_forms gs = go h in omega arith

params_few : (x : List ℕ) (forms : List Form) (f : Function) → function_in x forms ≡ Some f → length f.params ≤ weight_of_forms forms
params_few x [] f h = absurd cc
params_few x (g ∷ gs) f h = few_step (has_name x g.name) x g gs f h (params_few x gs f)

listed_size : (f : Forest) → forest_size (forest (trees_of f)) ≡ forest_size f
listed_size Empty = refl
listed_size (Then e es) = ap (λ (n : ℕ). tree_size e + n + 1) (listed_size es)

some_kind : (x : List ℕ) (o : Option FormKind) (f : Function) → option_and_then (as_function x) o ≡ Some f → (kind : FormKind) × (o ≡ Some kind)
some_kind x None f h = absurd cc
some_kind x (Some kind) f h = (kind, refl)

-- ---- contracts

pub each_named : (W : Deployed) (ks : List Known) → AreContracts W ks → (p : Principal) → IsPrincipal p → (c : Contract) → contract_at p W ≡ Some c → (x : List ℕ) (f : Function) → function_in x c.forms ≡ Some f → IsName x × (length f.params < 2 ^ 32)
each_named W ks A p valid c at x f is =
    let t : IsOfSomeText c = contract_text W ks A p valid c at in
    let o = t.of_text.accepted.typed.is_ordered in
    let there = ap (function_in x) (sym t.of_text.forms) ∙ is in
    let kind = some_kind x (form_of x t.of_text.accepted.forms) f there in
    let size : length t.of_text.text.bytes ≤ 1048576 = o.reads.size in
    let small : forest_size o.items ≤ 2 * length t.of_text.text.bytes = items_few t.of_text.text.bytes o.items o.reads in
    let within : weight_of_forms t.of_text.accepted.forms ≤ forest_size (forest (trees_of o.items)) = forms_within (trees_of o.items) t.of_text.accepted.forms o.are_forms in
    let listed : forest_size (forest (trees_of o.items)) ≡ forest_size o.items = listed_size o.items in
    let low : length f.params ≤ weight_of_forms t.of_text.accepted.forms = params_few x t.of_text.accepted.forms f there in
    (form_named (trees_of o.items) t.of_text.accepted.forms (are_fit o.items (items_fit t.of_text.text.bytes o.items o.reads)) o.are_forms.forms_are x kind.0 kind.1, omega arith)
