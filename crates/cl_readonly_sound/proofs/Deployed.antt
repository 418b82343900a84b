-- Functions of accepted contracts that don't write are quiet, and what their bodies call is quiet.
use Rattle.std.proofs.Common.{◌≡◌, ◌⊎◌, inl, inr, ℕ, Bool, true, false, List, [], ◌∷◌, Option, Some, None, refl, sym, ap, subst, ◌∙◌}
use Rattle.std.specs.Prelude.{if◌then◌else◌, option_and_then, codes, Contains}
use Rattle.std.proofs.lemmas.List.Elements.{Contains-push, Contains-append_left, Contains-append_right}
use Rattle.cl_types.specs.declared.sized.Access.{Access}
use Rattle.cl_types.specs.declared.sized.Access.TheVariants.{Public, ReadOnly, Private}
use Rattle.cl_c32.specs.declared.principal.Principal.{Principal}
use Rattle.cl_sexpr.specs.Tree.{Tree, LeafAt, ListAt, TupleAt, Leaf, Named, Standing, Local, Forest, Then}
use Rattle.cl_sexpr.specs.declared.sexpr.Span.{Span}
use Rattle.cl_forms.specs.declared.head.Head.TheVariants.{ContractCall}
use Rattle.cl_forms.specs.Heads.{row_of, native}
use Rattle.cl_forms.specs.Forms.{Form, FunctionForm}
use Rattle.cl_forms.specs.Shapes.{trees_of, beside}
use Rattle.cl_forms.specs.Names.{is_one_of}
use Rattle.cl_forms.specs.Writes.{writing_natives, applying_natives, Call, calls_in, Writes, WritesIn, has_writing_body, by_native, by_function, by_name, by_contract}
use Rattle.cl_events.specs.State.{is_principal}
use Rattle.cl_meaning.specs.Deployed.{Contract, Deployed, Function, contract_at, function_in, function_of, native_of}
use Rattle.cl_meaning.specs.Scope.{Frame, BoundValues}
use Rattle.cl_meaning.specs.Calls.{callable, target_of, other_contract}
use Rattle.cl_meaning.specs.Kept.{Whole}
use Rattle.cl_rules.specs.Faults.{shape_rules}
use Rattle.cl_rules.specs.Context.{CostTable, Context, Known, Names, Signature, signature_in, known_at, another_at, same_principal, target_at, if_callable}
use Rattle.cl_rules.specs.Shapes.{there_or_not, is_no_name, is_no_such}
use Rattle.cl_rules.specs.CallShapes.{contract_literal, contract_call_shape, target_or_not, function_of as rule_function}
use Rattle.cl_rules.specs.Acceptance.{is_public, is_public_there, is_public_in, is_public_at, calls_public}
use Rattle.cl_expression_sound.proofs.Rules.{fine_shape}
use Rattle.cl_contract_sound.specs.Nodes.{IsOfText, AreOfTexts, none_yet, and_one}
use Rattle.cl_contract_sound.proofs.Contexts.{stands_in}
use Rattle.cl_contract_sound.proofs.OfTexts.{are_known}
use Rattle.cl_contract_sound.proofs.Serving.{IsKnownAt, known_split, known_there, whole_context, as_served}
use Rattle.cl_contract_sound.proofs.States.{some_contract}
use Rattle.cl_readonly_sound.specs.Laws.{StandsForText, DoesNotWrite}
use Rattle.cl_readonly_sound.proofs.Quiet.{scope, IsQuietOne, IsQuietUse, IsQuietAcross, IsQuiet}
use Rattle.cl_readonly_sound.proofs.Calling.{AllCalls, CallsAreQuiet}
use Rattle.cl_readonly_sound.proofs.TypedQuiet.{typed_quiet}
use Rattle.cl_readonly_sound.proofs.Bodies.{form_there, function_there, body_typed}

-- ---- calls that don't write

-- what a call would be that doesn't write
record IsApart (forms : List Form) (public : Leaf → List ℕ → Bool) (call : Call) : Type 0 where
  natives : is_one_of writing_natives call.operator ≡ true → ⊥
  functions : Writes forms public call.operator → ⊥
  uses : (g : List ℕ) (at : Span) (es : Forest) → call.parts ≡ Then (LeafAt (Named g) at) es → is_one_of applying_natives call.operator ≡ true → Writes forms public g → ⊥
  across : (leaf : Leaf) (g : List ℕ) (at at' : Span) (es : Forest) → call.parts ≡ Then (LeafAt leaf at) (Then (LeafAt (Named g) at') es) → call.operator ≡ codes "contract-call?" → public leaf g ≡ true → ⊥

call_apart : (forms : List Form) (public : Leaf → List ℕ → Bool) (e : Tree) → (WritesIn forms public e → ⊥) → (call : Call) → Contains (calls_in e) call → IsApart forms public call
call_apart forms public e h call there = record {
  natives = λ w. h (by_native {x = call.operator} {parts = call.parts} there w);
  functions = λ w. h (by_function {x = call.operator} {parts = call.parts} there w);
  uses = λ g at es is applies w. h (by_name {x = call.operator} {f = g} {parts = es} at (subst (λ parts. Contains (calls_in e) (record { operator = call.operator; parts = parts })) is there) applies w);
  across = λ leaf g at at' es is named w. h (by_contract {x = call.operator} {f = g} {contract = leaf} {parts = es} at at' (subst (λ parts. Contains (calls_in e) (record { operator = call.operator; parts = parts })) is there) named w);
}

all_apart : (Apart : Call → Type 0) (calls : List Call) → ((call : Call) → Contains calls call → Apart call) → AllCalls Apart calls
all_apart Apart [] h = tt
all_apart Apart (c ∷ cs) h = (h c (Contains-append_left (c ∷ []) cs c (Contains-push [] c)), all_apart Apart cs (λ call there. h call (Contains-append_right (c ∷ []) cs call there)))

-- ---- contracts that are deployed

-- what callers see at a principal stands for an accepted text
pub record IsTextAt (W : Deployed) (q : Principal) (k : Known) : Type 0 where
  pub before : List Known
  pub contract : Contract
  pub earlier : AreOfTexts W before
  pub of_text : IsOfText before contract k
  pub there : contract_at contract.principal W ≡ Some contract
  pub home : contract.principal ≡ q

pub text_at : (W : Deployed) (ks : List Known) → AreOfTexts W ks → (q : Principal) (k : Known) → known_at q ks ≡ Some k → IsTextAt W q k
text_at W ks (none_yet e) q k h = none_at (ap (known_at q) (sym e) ∙ h)
  where
    none_at : None ≡ Some k → IsTextAt W q k
    none_at e = absurd cc
text_at W after (and_one {before = before} c n texts new h there is) q k e = by (known_split q before n k (ap (known_at q) (sym is) ∙ e)) (text_at W before texts q k)
  where
    by : (known_at q before ≡ Some k) ⊎ ((n.principal ≡ q) × (n ≡ k)) → (known_at q before ≡ Some k → IsTextAt W q k) → IsTextAt W q k
    by (inl g) more = more g
    by (inr g) more = record { before = before; contract = c; earlier = texts; of_text = subst (IsOfText before c) g.1 h; there = there; home = sym (ap (λ (k : Known). k.principal) h.known) ∙ g.0 }

pub stands_for : (W : Deployed) (q : Principal) (k : Known) → IsTextAt W q k → StandsForText W q
stands_for W q k t = record {
  before = t.before;
  contract = t.contract;
  known = k;
  earlier = t.earlier;
  of_text = t.of_text;
  there = ap (λ q. contract_at q W) (sym t.home) ∙ t.there;
  home = t.home;
}

-- a read-only function of an accepted contract doesn't write
pub read_only_apart : (W : Deployed) (q : Principal) (t : StandsForText W q) (x : List ℕ) (f : Function) → function_in x t.contract.forms ≡ Some f → f.access ≡ ReadOnly → DoesNotWrite W q x
read_only_apart W q t x f there access =
    let h = t.of_text in
    let is = function_there x t.contract.forms f there in
    let form = form_there x t.contract.forms (FunctionForm f.access f.params f.body) is.form in
    record {
      text = t;
      apart = λ w. h.accepted.none_writes form.form (subst (λ forms. Contains forms form.form) h.forms form.there) (record {
        name = x;
        params = f.params;
        body = f.body;
        named = form.named;
        read_only = form.is ∙ ap (λ access. FunctionForm access f.params f.body) access;
        writes = subst (λ forms. Writes forms (calls_public t.before t.contract.principal) x) h.forms (subst (λ q. Writes t.contract.forms (calls_public t.before q) x) (sym t.home) w);
      });
    }

same_access : (f s : Function) (o : Option Function) (g : Signature) → o ≡ Some s → o ≡ Some f → s.access ≡ g.access → g.access ≡ f.access
same_access f s o g h k e = sym e ∙ ap (λ (f : Function). f.access) (same_function (sym h ∙ k))
  where
    same_function : Some s ≡ Some f → s ≡ f
    same_function e = cc

access_served : (table : CostTable) (W : Deployed) (q : Principal) (k : Known) (a : IsKnownAt W Whole q k) (x : List ℕ) (g : Signature) → signature_in x k.functions ≡ Some g → (f : Function) → function_in x a.contract.forms ≡ Some f → g.access ≡ f.access
access_served table W q k a x g told f is =
    let T = stands_in W Whole a.defined.context (whole_context W Whole q k a) in
    let s = as_served table W Whole a.contract x g (T.functions x g (ap (λ (k : Known). signature_in x k.functions) a.is ∙ told)) in
    same_access f s.0 (function_in x a.contract.forms) g s.1 is (ap (λ (g : Signature). g.access) s.2.signature)

-- the access that callers see is the function's
access_told : (table : CostTable) (W : Deployed) (before : List Known) → AreOfTexts W before → (q : Principal) (k : Known) → known_at q before ≡ Some k → (c : Contract) → contract_at q W ≡ Some c → (x : List ℕ) (g : Signature) → signature_in x k.functions ≡ Some g → (f : Function) → function_in x c.forms ≡ Some f → g.access ≡ f.access
access_told table W before texts q k at c there x g told f is = by (known_there W Whole before (are_known W before texts) q k at)
  where
    by : IsKnownAt W Whole q k → g.access ≡ f.access
    by a = access_served table W q k a x g told f (ap (λ (c : Contract). function_in x c.forms) (some_contract a.contract c (sym a.there ∙ ap (λ q. contract_at q W) a.at ∙ there)) ∙ is)

-- ---- calls of other contracts

-- the target of a call of another contract, which callers see, with a function of it
record IsTarget (G : Context) (leaf : Leaf) (x : List ℕ) : Type 0 where
  target : Principal
  known : Known
  signature : Signature
  literal : contract_literal G.principal leaf ≡ Some target
  there : target_at G target ≡ Some known
  told : if_callable (signature_in x known.functions) ≡ Some signature

target_by : (G : Context) (leaf : Leaf) (at : Span) (x : List ℕ) (at' : Span) (es : List Tree) (o : Option Principal) → contract_literal G.principal leaf ≡ o → is_no_name (target_or_not G o) ≡ false → is_no_such (target_or_not G o) ≡ false → is_no_such (rule_function (target_or_not G o) (LeafAt leaf at ∷ LeafAt (Named x) at' ∷ es)) ≡ false → IsTarget G leaf x
target_by G leaf at x at' es None is literal there told = absurd cc
target_by G leaf at x at' es (Some q) is literal there told = by_known (target_at G q) refl there told
  where
    by_function : (k : Known) → target_at G q ≡ Some k → (o : Option Signature) → if_callable (signature_in x k.functions) ≡ o → is_no_such (there_or_not o) ≡ false → IsTarget G leaf x
    by_function k e (Some g) f h = record { target = q; known = k; signature = g; literal = is; there = e; told = f }
    by_function k e None f h = absurd cc

    by_known : (o : Option Known) → target_at G q ≡ o → is_no_such (there_or_not o) ≡ false → is_no_such (rule_function (there_or_not o) (LeafAt leaf at ∷ LeafAt (Named x) at' ∷ es)) ≡ false → IsTarget G leaf x
    by_known (Some k) e h told = by_function k e (if_callable (signature_in x k.functions)) refl told
    by_known None e h told = absurd cc

-- a literal is the same principal in the meaning
literal_is : (W : Deployed) (F : Frame) (E : BoundValues) (own : Principal) → F.contract ≡ own → (leaf : Leaf) (at : Span) (q : Principal) → contract_literal own leaf ≡ Some q → target_of (scope W F E) (LeafAt leaf at) ≡ Some q
literal_is W F E own home (Standing r) at q h = by r.contract h
  where
    by : (o : Option (List ℕ)) → elim o [ None ↦ None | Some name ↦ Some r ] ≡ Some q → Some r ≡ Some q
    by (Some name) h = h
    by None h = absurd cc
literal_is W F E own home (Local name) at q h = ap (λ p. Some (beside p name)) home ∙ h
literal_is W F E own home leaf at q h = absurd cc

other_there : (b : Bool) (o : Option Contract) (c : Contract) → (if b then None else o) ≡ Some c → o ≡ Some c
other_there true o c h = absurd cc
other_there false o c h = h

another_there : (b : Bool) (o : Option Known) (k : Known) → (if b then None else o) ≡ Some k → o ≡ Some k
another_there true o k h = absurd cc
another_there false o k h = h

-- a function that other contracts may call is public or read-only
callable_there : (o : Option Function) (f : Function) → option_and_then callable o ≡ Some f → (o ≡ Some f) × ((f.access ≡ Public) ⊎ (f.access ≡ ReadOnly))
callable_there None f h = absurd cc
callable_there (Some g) f h = by g.access refl h
  where
    same_function : Some g ≡ Some f → g ≡ f
    same_function e = cc

    by : (a : Access) → g.access ≡ a → elim a [ Public ↦ Some g | ReadOnly ↦ Some g | Private ↦ None ] ≡ Some f → (Some g ≡ Some f) × ((f.access ≡ Public) ⊎ (f.access ≡ ReadOnly))
    by Public e h = (h, inl (ap (λ (f : Function). f.access) (sym (same_function h)) ∙ e))
    by ReadOnly e h = (h, inr (ap (λ (f : Function). f.access) (sym (same_function h)) ∙ e))
    by Private e h = absurd cc

told_there : (o : Option Signature) (g : Signature) → if_callable o ≡ Some g → o ≡ Some g
told_there None g h = absurd cc
told_there (Some f) g h = by f.access h
  where
    by : (a : Access) → elim a [ Public ↦ Some f | ReadOnly ↦ Some f | Private ↦ None ] ≡ Some g → Some f ≡ Some g
    by Public h = h
    by ReadOnly h = h
    by Private h = absurd cc

module _ (W : Deployed) where
  -- a function of a deployed contract, which doesn't write
  pub record IsQuietFunction (p : Principal) (f : Function) : Type 0 where
    pub apart : DoesNotWrite W p f.name
    pub there : function_in f.name apart.text.contract.forms ≡ Some f

  abbrev DoesNotWriteThere : Principal → Function → List ℕ → Type 0
  DoesNotWriteThere p f y = (d : DoesNotWrite W p y) × (function_in y d.text.contract.forms ≡ Some f)

  pub quiet_function : (p : Principal) (x : List ℕ) → DoesNotWrite W p x → (c : Contract) → contract_at p W ≡ Some c → (f : Function) → function_in x c.forms ≡ Some f → IsQuietFunction p f
  quiet_function p x d c at f is =
      let one : d.text.contract ≡ c = some_contract d.text.contract c (sym d.text.there ∙ at) in
      let there : function_in x d.text.contract.forms ≡ Some f = ap (λ (c : Contract). function_in x c.forms) one ∙ is in
      let named = (function_there x d.text.contract.forms f there).named in
      let h : DoesNotWriteThere p f f.name = subst (DoesNotWriteThere p f) (sym named) (d, there) in
      record { apart = h.0; there = h.1 }

  quiet_one : (p : Principal) (x : List ℕ) → DoesNotWrite W p x → IsQuietOne W IsQuietFunction p (function_of x (contract_at p W))
  quiet_one p x d = by (contract_at p W) d.text.there
    where
      by_function : (c : Contract) → contract_at p W ≡ Some c → (o : Option Function) → function_in x c.forms ≡ o → IsQuietOne W IsQuietFunction p o
      by_function c at None is = tt
      by_function c at (Some f) is = quiet_function p x d c at f is

      by : (o : Option Contract) → o ≡ Some d.text.contract → IsQuietOne W IsQuietFunction p (function_of x o)
      by o e = subst (λ o. IsQuietOne W IsQuietFunction p (function_of x o)) (sym e) (by_function d.text.contract d.text.there (function_in x d.text.contract.forms) refl)

  -- ---- calls in the code of a deployed contract

  -- a function of the target that may be called doesn't write: it is read-only, since a call of a public one would write
  target_apart : (p : Principal) (x : List ℕ) (d : DoesNotWrite W p x) (leaf : Leaf) (at : Span) (y : List ℕ) (at' : Span) (es : Forest) (q : Principal) (k : Known) (g : Signature) → contract_literal p leaf ≡ Some q → another_at p d.text.before q ≡ Some k → signature_in y k.functions ≡ Some g →
      IsApart d.text.contract.forms (calls_public d.text.before p) (record { operator = codes "contract-call?"; parts = Then (LeafAt leaf at) (Then (LeafAt (Named y) at') es) }) →
      (text : StandsForText W q) (f : Function) → function_in y text.contract.forms ≡ Some f → g.access ≡ f.access → (f.access ≡ Public) ⊎ (f.access ≡ ReadOnly) → DoesNotWrite W q y
  target_apart p x d leaf at y at' es q k g literal another told apart text f is access (inl public) =
      absurd (apart.across leaf y at at' es refl refl
      (subst (λ r. is_public_at d.text.before p r y ≡ true) (sym literal)
      (subst (λ o. is_public_in o y ≡ true) (sym another)
      (subst (λ o. is_public_there o ≡ true) (sym told)
      (subst (λ a. is_public a ≡ true) (sym public ∙ sym access) refl)))))
  target_apart p x d leaf at y at' es q k g literal another told apart text f is access (inr read_only) = read_only_apart W q text y f is read_only

  target_quiet : (p : Principal) (x : List ℕ) (d : DoesNotWrite W p x) (leaf : Leaf) (at : Span) (y : List ℕ) (at' : Span) (es : Forest) (q : Principal) (k : Known) (g : Signature) → contract_literal p leaf ≡ Some q → another_at p d.text.before q ≡ Some k → signature_in y k.functions ≡ Some g →
      IsApart d.text.contract.forms (calls_public d.text.before p) (record { operator = codes "contract-call?"; parts = Then (LeafAt leaf at) (Then (LeafAt (Named y) at') es) }) →
      StandsForText W q → (c : Contract) → contract_at q W ≡ Some c → (f : Function) → function_in y c.forms ≡ Some f → (f.access ≡ Public) ⊎ (f.access ≡ ReadOnly) → IsQuietFunction c.principal f
  target_quiet p x d leaf at y at' es q k g literal another told apart text c found f is callable =
      let one : text.contract ≡ c = some_contract text.contract c (sym text.there ∙ found) in
      let known : known_at q d.text.before ≡ Some k = another_there (same_principal q p) (known_at q d.text.before) k another in
      let access : g.access ≡ f.access = access_told d.text.of_text.table W d.text.before d.text.earlier q k known c found y g told f is in
      let in_text : function_in y text.contract.forms ≡ Some f = ap (λ (c : Contract). function_in y c.forms) one ∙ is in
      let home : q ≡ c.principal = sym text.home ∙ ap (λ (c : Contract). c.principal) one in
      subst (λ q. IsQuietFunction q f) home (quiet_function q y (target_apart p x d leaf at y at' es q k g literal another told apart text f in_text access callable) c found f is)

  target_across : (p : Principal) (x : List ℕ) (d : DoesNotWrite W p x) (leaf : Leaf) (at : Span) (y : List ℕ) (at' : Span) (es : Forest) (G : Context) → G.principal ≡ p → G.deployed ≡ d.text.before → IsTarget G leaf y →
      IsApart d.text.contract.forms (calls_public d.text.before p) (record { operator = codes "contract-call?"; parts = Then (LeafAt leaf at) (Then (LeafAt (Named y) at') es) }) → IsQuietAcross W IsQuietFunction p (Then (LeafAt leaf at) (Then (LeafAt (Named y) at') es))
  target_across p x d leaf at y at' es G home deployed t apart F E at_home c is f callable_told =
      let literal : contract_literal p leaf ≡ Some t.target = subst (λ r. contract_literal r leaf ≡ Some t.target) home t.literal in
      let another : another_at p d.text.before t.target ≡ Some t.known = subst (λ (ks : List Known). another_at p ks t.target ≡ Some t.known) deployed (subst (λ r. another_at r G.deployed t.target ≡ Some t.known) home t.there) in
      let known : known_at t.target d.text.before ≡ Some t.known = another_there (same_principal t.target p) (known_at t.target d.text.before) t.known another in
      let there = callable_there (function_in y c.forms) f callable_told in
      let told : signature_in y t.known.functions ≡ Some t.signature = told_there (signature_in y t.known.functions) t.signature t.told in
      let named : target_of (scope W F E) (LeafAt leaf at) ≡ Some t.target = literal_is W F E p at_home leaf at t.target literal in
      let other : option_and_then (other_contract (scope W F E)) (Some t.target) ≡ Some c = subst (λ o. option_and_then (other_contract (scope W F E)) o ≡ Some c) named is in
      let found : contract_at t.target W ≡ Some c = other_there (is_principal t.target F.contract) (contract_at t.target W) c other in
      target_quiet p x d leaf at y at' es t.target t.known t.signature literal another told apart (stands_for W t.target t.known (text_at W d.text.before d.text.earlier t.target t.known known)) c found f there.0 there.1

  -- the function of another contract
  across_quiet : (p : Principal) (x : List ℕ) (d : DoesNotWrite W p x) (G : Context) → G.principal ≡ p → G.deployed ≡ d.text.before → (B : Names) (es : Forest) →
      shape_rules (contract_call_shape (row_of ContractCall) G B (trees_of es)).faults ≡ [] → IsApart d.text.contract.forms (calls_public d.text.before p) (record { operator = codes "contract-call?"; parts = es }) → IsQuietAcross W IsQuietFunction p es
  across_quiet p x d G home deployed B (Then (LeafAt leaf at) (Then (LeafAt (Named y) at') es)) rules apart =
      let fine = fine_shape (contract_call_shape (row_of ContractCall) G B (trees_of (Then (LeafAt leaf at) (Then (LeafAt (Named y) at') es)))).faults rules in
      target_across p x d leaf at y at' es G home deployed (target_by G leaf at y at' (trees_of es) (contract_literal G.principal leaf) refl fine.literal_expected fine.no_such_contract fine.no_such_function) apart
  across_quiet p x d G home deployed B (Then (ListAt items at) (Then (LeafAt (Named y) at') es)) rules apart =
      let bad = (fine_shape (contract_call_shape (row_of ContractCall) G B (trees_of (Then (ListAt items at) (Then (LeafAt (Named y) at') es)))).faults rules).literal_expected in absurd cc
  across_quiet p x d G home deployed B (Then (TupleAt ps at) (Then (LeafAt (Named y) at') es)) rules apart =
      let bad = (fine_shape (contract_call_shape (row_of ContractCall) G B (trees_of (Then (TupleAt ps at) (Then (LeafAt (Named y) at') es)))).faults rules).literal_expected in absurd cc
  across_quiet p x d G home deployed B es rules apart = tt

  calls_quiet : (p : Principal) (x : List ℕ) (d : DoesNotWrite W p x) (G : Context) → G.principal ≡ p → G.version ≡ d.text.contract.version → G.deployed ≡ d.text.before → CallsAreQuiet W IsQuietFunction p G (IsApart d.text.contract.forms (calls_public d.text.before p))
  calls_quiet p x d G home version deployed = record {
    versions = λ y. ap (native_of y) d.text.there ∙ ap (λ v. native v y) (sym version);
    natives = λ y es apart. apart.natives;
    functions = λ y es apart. quiet_one p y (another y apart.functions);
    uses = λ y es apart applies. uses y es apart applies;
    across = across_quiet p x d G home deployed;
  }
    where
      another : (y : List ℕ) → (Writes d.text.contract.forms (calls_public d.text.before p) y → ⊥) → DoesNotWrite W p y
      another y h = record { text = d.text; apart = h }

      uses : (y : List ℕ) (es : Forest) → IsApart d.text.contract.forms (calls_public d.text.before p) (record { operator = y; parts = es }) → is_one_of applying_natives y ≡ true → IsQuietUse W IsQuietFunction p es
      uses y (Then (LeafAt (Named g) at) es) apart applies = quiet_one p g (another g (apart.uses g at es refl applies))
      uses y es apart applies = tt

  -- what the body of a function calls that doesn't write is quiet
  pub bodies_quiet : (p : Principal) (f : Function) → IsQuietFunction p f → IsQuiet W IsQuietFunction p f.body
  bodies_quiet p f q =
      let d = q.apart in
      let b = body_typed d.text.before d.text.contract d.text.known d.text.of_text f.name f q.there in
      let is = function_there f.name d.text.contract.forms f q.there in
      let form = form_there f.name d.text.contract.forms (FunctionForm f.access f.params f.body) is.form in
      let none : WritesIn d.text.contract.forms (calls_public d.text.before p) f.body → ⊥ = λ w. d.apart (has_writing_body (record { form = form.form; access = f.access; params = f.params; there = form.there; named = form.named; function = form.is }) w) in
      typed_quiet W IsQuietFunction p b.context (IsApart d.text.contract.forms (calls_public d.text.before p)) (calls_quiet p f.name d b.context (b.principal ∙ d.text.home) (b.version_is ∙ sym d.text.of_text.version) b.deployed) b.typed
      (all_apart (IsApart d.text.contract.forms (calls_public d.text.before p)) (calls_in f.body) (call_apart d.text.contract.forms (calls_public d.text.before p) f.body none))
