-- A node has a call that writes where it writes by itself or one of its parts has one.
use Rattle.std.proofs.Common.{◌≡◌, ℕ, ◌≤◌, Bool, true, false, List, [], ◌∷◌, length, drop, Option, Some, None, refl, sym, ap, ◌∙◌, arith, eqb-true}
use Rattle.std.specs.Prelude.{is_some, not, nat_lt, ◌==◌, ◌||◌, ◌&&◌, filter_map}
use Rattle.std.specs.List.{list_any}
use Rattle.std.proofs.lemmas.List.Folds.{list_any-append}
use Rattle.std.proofs.lemmas.Bool.{or_parts, ltb-true}
use Rattle.cl_types.specs.Types.{NoType}
use Rattle.cl_sexpr.specs.declared.sexpr.Span.{Span}
use Rattle.cl_sexpr.specs.declared.rule.Rule.{Rule}
use Rattle.cl_sexpr.specs.declared.rule.Rule.TheVariants.{UnknownName, ArgumentCount, ShadowedName}
use Rattle.cl_sexpr.specs.Tree.{Tree, LeafAt, ListAt, Leaf, Named, Forest, Empty, Then, forest}
use Rattle.cl_forms.specs.declared.head.Head.{Head}
use Rattle.cl_forms.specs.declared.head.Head.TheVariants as heads
use Rattle.cl_forms.specs.declared.version.Version.{Version}
use Rattle.cl_forms.specs.declared.version.Version.TheVariants.{One, Two}
use Rattle.cl_forms.specs.Heads.{native, is_reserved}
use Rattle.cl_forms.specs.HeadNames.{name_of, has_head}
use Rattle.cl_forms.specs.Shapes.{trees_of}
use Rattle.cl_forms.specs.Names.{is_one_of}
use Rattle.cl_forms.specs.Writes.{writing_natives, Call, calls_in, calls_of_list, calls_behind, calls_of_pairs, gives_one, crosses, call_writes, has_write}
use Rattle.cl_rules.specs.Faults.{when, ShapeFaults, shape_rules}
use Rattle.cl_rules.specs.Context.{Context, Names, Signature, bind, is_taken, is_top_level, is_named, signature_in}
use Rattle.cl_rules.specs.ControlShapes.{is_shadowed, bound_name}
use Rattle.cl_rules.specs.Table.{shape, head_shape, operator_shape}
use Rattle.cl_code.specs.declared.op.Binding.{Binding}
use Rattle.cl_code.specs.declared.op.Applied.{Applied}
use Rattle.cl_code.specs.declared.op.Applied.TheVariants.{Function, OnValues as OnValuesBy, And as AndBy, Or as OrBy}
use Rattle.cl_code.specs.declared.op.Target.{Target}
use Rattle.cl_code.specs.declared.op.Target.TheVariants.{Standing as StandingAt, Local as LocalAt}
use Rattle.cl_code.specs.declared.op.PartsNative.{PartsNative}
use Rattle.cl_code.specs.declared.op.PartsNative.TheVariants.{If}
use Rattle.cl_code.specs.declared.op.NameNative.{NameNative}
use Rattle.cl_code.specs.declared.op.NameNative.TheVariants.{Get}
use Rattle.cl_code.specs.declared.op.Iteration.{Iteration}
use Rattle.cl_code.specs.declared.op.Iteration.TheVariants.{Map}
use Rattle.cl_code.specs.declared.op.Op.{Op}
use Rattle.cl_code.specs.declared.op.Op.TheVariants.{Int, Uint, Buff, Ascii, Utf8, Standing, Local, Keyword, Bound, Constant, OnValues, OnParts, OnName, Iterate, AsMaxLen, Tuple, TupleOf, Let, MatchOptional, MatchResponse, Call as CallOp, ContractCall}
use Rattle.cl_code.specs.OpNames.{parts_head, name_head, iteration_head}
use Rattle.cl_code.specs.Expression.{expression, headed, word, target, applied_name, bound_items, keyed, behind_first, target_leaf}
use Rattle.cl_code.specs.Nodes.{has_parts, goes_applied, goes_op}
use Rattle.cl_code.proofs.Versions.{parts_had, name_had, iteration_had}
use Rattle.cl_readonly.specs.Writing.{applied_writes, node_writes, AreFunctions}
use Rattle.cl_forms.proofs.FreeNames.{no_native}
use Rattle.cl_readonly.proofs.Heads.{writes_head, applies_head, crosses_head, is_tuple, writes_name, applies_name, crosses_name, tuple_name, is_native, no_writing, no_applying, no_crossing, no_tuple}

-- ---- truth values

pub not_true : (b : Bool) → (b ≡ true → ⊥) → b ≡ false
not_true true h = absurd (h refl)
not_true false h = refl

or_none : (b : Bool) → (b || false) ≡ b
or_none true = refl
or_none false = refl

or_left_of : (a b c : Bool) → ((a || b) || c) ≡ (a || (b || c))
or_left_of true b c = refl
or_left_of false b c = refl

pub is_none : {A : Type 0} (o : Option A) → not (is_some o) ≡ true → o ≡ None
is_none None h = refl
is_none (Some x) h = absurd cc

-- ---- heads of nodes

pub parts_plain : (n : PartsNative) → (is_tuple (parts_head n) ≡ false) × (applies_head (parts_head n) ≡ false) × (crosses_head (parts_head n) ≡ false)
parts_plain If = (refl, refl, refl)
parts_plain n = (refl, refl, refl)

pub name_plain : (n : NameNative) → (is_tuple (name_head n) ≡ false) × (applies_head (name_head n) ≡ false) × (crosses_head (name_head n) ≡ false)
name_plain Get = (refl, refl, refl)
name_plain n = (refl, refl, refl)

pub iteration_plain : (n : Iteration) → (writes_head (iteration_head n) ≡ false) × (applies_head (iteration_head n) ≡ true) × (crosses_head (iteration_head n) ≡ false) × (is_tuple (iteration_head n) ≡ false)
iteration_plain Map = (refl, refl, refl, refl)
iteration_plain n = (refl, refl, refl, refl)

-- ---- names that are bound

not_when : (b : Bool) (r : Rule) (rest : List Rule) → when b r rest ≡ [] → b ≡ false
not_when true r rest h = absurd cc
not_when false r rest h = refl

then_rest : (b : Bool) (r : Rule) (rest : List Rule) → when b r rest ≡ [] → rest ≡ []
then_rest true r rest h = absurd cc
then_rest false r rest h = h

not_shadowed : (f : ShapeFaults) → shape_rules f ≡ [] → f.shadowed_name ≡ false
not_shadowed f h = not_when f.shadowed_name ShadowedName _ (then_rest f.argument_count ArgumentCount _ (then_rest f.unknown_name UnknownName _ h))

let_by : (version : Version) (s : Option Signature) (G : Context) (B : Names) (f : Forest) (brackets : Span) (es : List Tree) → shape_rules (operator_shape (native version (name_of heads.Let)) s G B (ListAt f brackets ∷ es)).faults ≡ [] → is_shadowed G B (filter_map bound_name (trees_of f)) ≡ false
unfolding native head_shape
let_by One s G B f brackets es rules = not_shadowed (operator_shape (native One (name_of heads.Let)) s G B (ListAt f brackets ∷ es)).faults rules
let_by Two s G B f brackets es rules = not_shadowed (operator_shape (native Two (name_of heads.Let)) s G B (ListAt f brackets ∷ es)).faults rules

pub let_free : (G : Context) (B : Names) (head brackets at : Span) (bs : List Binding) (es : List Tree) → shape_rules (shape G B (headed (name_of heads.Let) head (ListAt (forest (bound_items bs es)) brackets ∷ drop (length bs) es) at)).faults ≡ [] → is_shadowed G B (filter_map bound_name (trees_of (forest (bound_items bs es)))) ≡ false
unfolding shape
let_free G B head brackets at bs es rules = let_by G.version (signature_in (name_of heads.Let) G.functions) G B (forest (bound_items bs es)) brackets (trees_of (forest (drop (length bs) es))) rules

below : (m n : ℕ) → nat_lt m n ≡ true → m ≤ n
below m n h = omega (arith, ltb-true m n h)

module _ (fs : List (List ℕ)) (is_public : Leaf → List ℕ → Bool) where
  abbrev pub any_call : List Call → Bool
  any_call cs = list_any (call_writes (is_one_of fs) is_public) cs

  abbrev pub any_part : List Tree → Bool
  any_part es = list_any (has_write (is_one_of fs) is_public) es

  behind_plain : (es : List Tree) → any_call (calls_behind false (forest es)) ≡ any_part es
  behind_plain [] = refl
  behind_plain (e ∷ es) = list_any-append (call_writes (is_one_of fs) is_public) (calls_in e) (calls_behind false (forest es)) ∙ ap (λ b. has_write (is_one_of fs) is_public e || b) (behind_plain es)

  -- a call of what is no native
  call_of : (version : Version) (x : List ℕ) (es : Forest) → native version x ≡ None → call_writes (is_one_of fs) is_public (record { operator = x; parts = es }) ≡ is_one_of fs x
  call_of version x es h = (λ i. no_writing version x h i || (is_one_of fs x || ((no_applying version x h i && gives_one (is_one_of fs) es) || (no_crossing version x h i && crosses is_public es)))) ∙ or_none (is_one_of fs x)

  module _ (G : Context) (own : AreFunctions G fs) where
    no_own : (head : Head) → has_head G.version head ≡ true → is_one_of fs (name_of head) ≡ false
    no_own head had = not_true (is_one_of fs (name_of head)) (λ h. is_native G.version head had (own (name_of head) h).0)

    native_call : (head : Head) → has_head G.version head ≡ true → (es : Forest) → call_writes (is_one_of fs) is_public (record { operator = name_of head; parts = es }) ≡ (writes_head head || ((applies_head head && gives_one (is_one_of fs) es) || (crosses_head head && crosses is_public es)))
    native_call head had es i = writes_name head i || (no_own head had i || ((applies_name head i && gives_one (is_one_of fs) es) || (crosses_name head i && crosses is_public es)))

    native_items : (head : Head) → has_head G.version head ≡ true → (es : List Tree) (at at' : Span) → is_tuple head ≡ false → has_write (is_one_of fs) is_public (headed (name_of head) at es at') ≡ ((writes_head head || ((applies_head head && gives_one (is_one_of fs) (forest es)) || (crosses_head head && crosses is_public (forest es)))) || any_part es)
    native_items head had es at at' h =
        (λ i. native_call head had (forest es) i || any_call (calls_behind ((tuple_name head ∙ h) i) (forest es)))
        ∙ ap (λ b. (writes_head head || ((applies_head head && gives_one (is_one_of fs) (forest es)) || (crosses_head head && crosses is_public (forest es)))) || b) (behind_plain es)

    plain_items : (head : Head) → has_head G.version head ≡ true → (es : List Tree) (at at' : Span) → (is_tuple head ≡ false) × (applies_head head ≡ false) × (crosses_head head ≡ false) → has_write (is_one_of fs) is_public (headed (name_of head) at es at') ≡ (is_one_of writing_natives (name_of head) || any_part es)
    plain_items head had es at at' h =
        native_items head had es at at' h.0
        ∙ (λ i. (sym (writes_name head) i || ((h.1 i && gives_one (is_one_of fs) (forest es)) || (h.2 i && crosses is_public (forest es)))) || any_part es)
        ∙ ap (λ b. b || any_part es) (or_none (is_one_of writing_natives (name_of head)))

    -- ---- each kind of node

    given : (a : Applied) → goes_applied G.version a ≡ true → (es : Forest) → gives_one (is_one_of fs) (Then (applied_name a) es) ≡ applied_writes fs a
    unfolding goes_applied
    given (Function f) goes es = refl
    given (OnValuesBy native at) goes es = no_own (heads.OnValues native) goes
    given (AndBy at) goes es = no_own heads.And refl
    given (OrBy at) goes es = no_own heads.Or refl

    given_plain : (a : Applied) → has_write (is_one_of fs) is_public (applied_name a) ≡ false
    given_plain (Function f) = refl
    given_plain (OnValuesBy native at) = refl
    given_plain (AndBy at) = refl
    given_plain (OrBy at) = refl

    iterate_has : (n : Iteration) (a : Applied) → goes_applied G.version a ≡ true → (es : List Tree) (at at' : Span) → has_write (is_one_of fs) is_public (headed (name_of (iteration_head n)) at (applied_name a ∷ es) at') ≡ (applied_writes fs a || any_part es)
    iterate_has n a goes es at at' =
        let plain = iteration_plain n in
        native_items (iteration_head n) (iteration_had G.version n) (applied_name a ∷ es) at at' plain.3
        ∙ (λ i. (plain.0 i || ((plain.1 i && given a goes (forest es) i) || (plain.2 i && crosses is_public (forest (applied_name a ∷ es))))) || (given_plain a i || any_part es))
        ∙ ap (λ b. b || any_part es) (or_none (applied_writes fs a))

    target_plain : (c : Target) → has_write (is_one_of fs) is_public (target c) ≡ false
    target_plain (StandingAt p at) = refl
    target_plain (LocalAt c at) = refl

    target_crosses : (c : Target) (f : List ℕ) (at : Span) (es : Forest) → crosses is_public (Then (target c) (Then (LeafAt (Named f) at) es)) ≡ is_public (target_leaf c) f
    target_crosses (StandingAt p at') f at es = refl
    target_crosses (LocalAt c at') f at es = refl

    across_has : (c : Target) (f : List ℕ) (at' : Span) (es : List Tree) (head at : Span) → has_write (is_one_of fs) is_public (headed (name_of heads.ContractCall) head (target c ∷ LeafAt (Named f) at' ∷ es) at) ≡ (is_public (target_leaf c) f || any_part es)
    across_has c f at' es head at =
        native_items heads.ContractCall refl (target c ∷ LeafAt (Named f) at' ∷ es) head at refl
        ∙ (λ i. target_crosses c f at' (forest es) i || (target_plain c i || any_part es))

    keyed_has : (ks : List (List ℕ)) (es : List Tree) → length es ≡ length ks → any_call (calls_of_pairs (keyed ks es)) ≡ any_part es
    keyed_has [] [] h = refl
    keyed_has (k ∷ ks) [] h = refl
    keyed_has [] (e ∷ es) h = absurd (omega (arith, h))
    keyed_has (k ∷ ks) (e ∷ es) h = list_any-append (call_writes (is_one_of fs) is_public) (calls_in e) (calls_of_pairs (keyed ks es)) ∙ ap (λ b. has_write (is_one_of fs) is_public e || b) (keyed_has ks es (omega (arith, h)))

    pairs_has : (bs : List Binding) (es : List Tree) → length es ≡ length bs → any_call (calls_behind true (forest (bound_items bs es))) ≡ any_part es
    pairs_has [] [] h = refl
    pairs_has (b ∷ bs) [] h = refl
    pairs_has [] (e ∷ es) h = absurd (omega (arith, h))
    pairs_has (b ∷ bs) (e ∷ es) h = list_any-append (call_writes (is_one_of fs) is_public) (calls_in e) (calls_behind true (forest (bound_items bs es))) ∙ ap (λ c. has_write (is_one_of fs) is_public e || c) (pairs_has bs es (omega (arith, h)))

    tuple_has : (bs : List Binding) (es : List Tree) (head at : Span) → length es ≡ length bs → has_write (is_one_of fs) is_public (headed (name_of heads.TupleOf) head (bound_items bs es) at) ≡ any_part es
    tuple_has bs es head at h =
        (λ i. native_call heads.TupleOf refl (forest (bound_items bs es)) i || any_call (calls_behind (tuple_name heads.TupleOf i) (forest (bound_items bs es)))) ∙ pairs_has bs es h

    none_there : (es : List Tree) → (length es == 0) ≡ true → false ≡ any_part es
    none_there [] h = refl
    none_there (e ∷ es) h = absurd (omega (arith, eqb-true (length (e ∷ es)) 0 h))

    -- ---- let

    binding_has : (x : List ℕ) (e : Tree) (at at' : Span) → native G.version x ≡ None → is_one_of fs x ≡ false → has_write (is_one_of fs) is_public (ListAt (Then (LeafAt (Named x) at) (Then e Empty)) at') ≡ has_write (is_one_of fs) is_public e
    binding_has x e at at' none h =
        (λ i. (call_of G.version x (Then e Empty) none ∙ h) i || any_call (calls_behind (no_tuple G.version x none i) (Then e Empty)))
        ∙ list_any-append (call_writes (is_one_of fs) is_public) (calls_in e) [] ∙ or_none (has_write (is_one_of fs) is_public e)

    free_name : (C : Names) (x : List ℕ) → is_taken G C x ≡ false → (native G.version x ≡ None) × (is_one_of fs x ≡ false)
    free_name C x h =
        let two = or_parts (is_reserved G.version x || is_top_level G x) (is_named x C) h in
        let one = or_parts (is_reserved G.version x) (is_top_level G x) two.0 in
        let last = or_parts _ (is_some (signature_in x G.functions)) one.1 in
        (no_native G.version x one.0, not_true (is_one_of fs x) (λ k. let there = (own x k).1 in clash (is_some (signature_in x G.functions)) there last.1))
      where
        clash : (b : Bool) → b ≡ true → b ≡ false → ⊥
        clash b h k = cc

    bound_has : (bs : List Binding) (es : List Tree) (C : Names) → length bs ≤ length es → is_shadowed G C (filter_map bound_name (trees_of (forest (bound_items bs es)))) ≡ false → (any_part (bound_items bs es) || any_part (drop (length bs) es)) ≡ any_part es
    bound_has [] es C h free = refl
    bound_has (b ∷ bs) [] C h free = absurd (omega (arith, h))
    bound_has (b ∷ bs) (e ∷ es) C h free =
        let both = or_parts (is_taken G C b.word.name) (is_shadowed G (bind b.word.name NoType C) (filter_map bound_name (trees_of (forest (bound_items bs es))))) free in
        let one = free_name C b.word.name both.0 in
        ap (λ c. (c || any_part (bound_items bs es)) || any_part (drop (length bs) es)) (binding_has b.word.name e b.word.span b.span one.0 one.1)
        ∙ or_left_of (has_write (is_one_of fs) is_public e) (any_part (bound_items bs es)) (any_part (drop (length bs) es))
        ∙ ap (λ c. has_write (is_one_of fs) is_public e || c) (bound_has bs es (bind b.word.name NoType C) (omega (arith, h)) both.1)

    bracket_has : (bs : List Binding) (es : List Tree) → any_call (calls_of_list (forest (bound_items bs es))) ≡ any_part (bound_items bs es)
    bracket_has [] es = refl
    bracket_has (b ∷ bs) [] = refl
    bracket_has (b ∷ bs) (e ∷ es) = behind_plain (bound_items (b ∷ bs) (e ∷ es))

    let_has : (B : Names) (head brackets at : Span) (bs : List Binding) (es : List Tree) → length bs ≤ length es → is_shadowed G B (filter_map bound_name (trees_of (forest (bound_items bs es)))) ≡ false →
        has_write (is_one_of fs) is_public (headed (name_of heads.Let) head (ListAt (forest (bound_items bs es)) brackets ∷ drop (length bs) es) at) ≡ any_part es
    let_has B head brackets at bs es h free =
        native_items heads.Let refl (ListAt (forest (bound_items bs es)) brackets ∷ drop (length bs) es) head at refl
        ∙ ap (λ c. c || any_part (drop (length bs) es)) (bracket_has bs es) ∙ bound_has bs es B h free

    -- ---- match

    optional_has : (es : List Tree) (x : Tree) (head at : Span) → has_write (is_one_of fs) is_public x ≡ false → has_write (is_one_of fs) is_public (headed (name_of heads.Match) head (behind_first (λ e more. e ∷ x ∷ more) es) at) ≡ any_part es
    optional_has [] x head at h = native_items heads.Match refl [] head at refl
    optional_has (e ∷ es) x head at h = native_items heads.Match refl (e ∷ x ∷ es) head at refl ∙ ap (λ c. has_write (is_one_of fs) is_public e || (c || any_part es)) h

    response_has : (es : List Tree) (x y : Tree) (head at : Span) → has_write (is_one_of fs) is_public x ≡ false → has_write (is_one_of fs) is_public y ≡ false → has_write (is_one_of fs) is_public (headed (name_of heads.Match) head (behind_first (λ e more. e ∷ x ∷ behind_first (λ d last. d ∷ y ∷ last) more) es) at) ≡ any_part es
    response_has [] x y head at h k = native_items heads.Match refl [] head at refl
    response_has (e ∷ []) x y head at h k = native_items heads.Match refl (e ∷ x ∷ []) head at refl ∙ ap (λ c. has_write (is_one_of fs) is_public e || (c || false)) h
    response_has (e ∷ d ∷ es) x y head at h k = native_items heads.Match refl (e ∷ x ∷ d ∷ y ∷ es) head at refl ∙ (λ i. has_write (is_one_of fs) is_public e || (h i || (has_write (is_one_of fs) is_public d || (k i || any_part es))))

    max_has : (es : List Tree) (x : Tree) (head at : Span) → has_write (is_one_of fs) is_public x ≡ false → has_write (is_one_of fs) is_public (headed (name_of heads.AsMaxLen) head (behind_first (λ e more. e ∷ x ∷ more) es) at) ≡ any_part es
    max_has [] x head at h = native_items heads.AsMaxLen refl [] head at refl
    max_has (e ∷ es) x head at h = native_items heads.AsMaxLen refl (e ∷ x ∷ es) head at refl ∙ ap (λ c. has_write (is_one_of fs) is_public e || (c || any_part es)) h

    call_has : (x : List ℕ) (es : List Tree) (head at : Span) → native G.version x ≡ None → has_write (is_one_of fs) is_public (headed x head es at) ≡ (is_one_of fs x || any_part es)
    call_has x es head at none =
        (λ i. call_of G.version x (forest es) none i || any_call (calls_behind (no_tuple G.version x none i) (forest es))) ∙ ap (λ b. is_one_of fs x || b) (behind_plain es)

    pub node_has : (B : Names) (op : Op) (es : List Tree) (at : Span) → goes_op G.version op ≡ true → has_parts op (length es) ≡ true → shape_rules (shape G B (expression op es at)).faults ≡ [] → has_write (is_one_of fs) is_public (expression op es at) ≡ (node_writes fs is_public op || any_part es)
    unfolding goes_op
    node_has B (Int z) es at goes fit rules = none_there es fit
    node_has B (Uint n) es at goes fit rules = none_there es fit
    node_has B (Buff bytes) es at goes fit rules = none_there es fit
    node_has B (Ascii text) es at goes fit rules = none_there es fit
    node_has B (Utf8 text) es at goes fit rules = none_there es fit
    node_has B (Standing p) es at goes fit rules = none_there es fit
    node_has B (Local c) es at goes fit rules = none_there es fit
    node_has B (Keyword k) es at goes fit rules = none_there es fit
    node_has B (Bound x) es at goes fit rules = none_there es fit
    node_has B (Constant x) es at goes fit rules = none_there es fit
    node_has B (OnValues native head) es at goes fit rules = native_items (heads.OnValues native) goes es head at refl
    node_has B (OnParts native head) es at goes fit rules = plain_items (parts_head native) (parts_had G.version native) es head at (parts_plain native)
    node_has B (OnName native head name) es at goes fit rules = plain_items (name_head native) (name_had G.version native) (word name ∷ es) head at (name_plain native)
    node_has B (Iterate iteration head applied) es at goes fit rules = iterate_has iteration applied goes es head at
    node_has B (AsMaxLen head most literal) es at goes fit rules = max_has es _ head at refl
    node_has B (Tuple keys) es at goes fit rules = keyed_has keys.items es (eqb-true (length es) (length keys.items) fit)
    node_has B (TupleOf head pairs) es at goes fit rules = tuple_has pairs.items es head at (eqb-true (length es) (length pairs.items) fit)
    node_has B (Let head brackets bindings) es at goes fit rules = let_has B head brackets at bindings.items es (below (length bindings.items) (length es) fit) (let_free G B head brackets at bindings.items es rules)
    node_has B (MatchOptional head part) es at goes fit rules = optional_has es (word part) head at refl
    node_has B (MatchResponse head good bad) es at goes fit rules = response_has es (word good) (word bad) head at refl refl
    node_has B (CallOp f) es at goes fit rules = call_has f.name es f.span at (is_none (native G.version f.name) goes)
    node_has B (ContractCall head contract function callee) es at goes fit rules = across_has contract function.name function.span es head at
