-- What each node means, as equations: the form of its operation over the expressions of its parts.
use Rattle.std.proofs.Common.{Vec, Global, ◌≡◌, ◌<◌, ℕ, zero, suc, List, [], ◌∷◌, length, get_or, arith, drop, map, true, false, Bool, Option, Some, None, refl, sym, ap, ◌∙◌}
use Rattle.std.specs.Prelude.{not, is_some}
use Rattle.std.proofs.lemmas.Bool.{and_parts}
use Rattle.cl_types.specs.Types.{PlainType}
use Rattle.cl_shapes.specs.declared.name.CostName.TheVariants.{Literal}
use Rattle.cl_sexpr.specs.declared.sexpr.Span.{Span}
use Rattle.cl_sexpr.specs.Tree.{Tree, LeafAt, ListAt, Unsigned, forest, Named, Signed, Bytes, Ascii, Unicode, Standing, Local, span_of}
use Rattle.cl_values.specs.Tree.{Tree as Val, IntV, UintV, BuffV, AsciiV, Utf8V, PrincipalV}
use Rattle.cl_values.specs.Valid.{made}
use Rattle.cl_forms.specs.declared.head.Head.TheVariants as heads
use Rattle.cl_forms.specs.Names.{is_one_of}
use Rattle.cl_forms.specs.Keywords.{keyword_name, keywords}
use Rattle.cl_forms.specs.declared.version.Version.{Version}
use Rattle.cl_forms.specs.Heads.{Row, row_of, native}
use Rattle.cl_forms.specs.Shapes.{pairs_of, bindings_of, beside}
use Rattle.cl_forms.proofs.Bindings.{trees_forest}
use Rattle.cl_events.specs.State.{State}
use Rattle.cl_code.specs.declared.op.Op.{Op}
use Rattle.cl_code.specs.declared.op.Op.TheVariants.{Int, Uint, Buff, Ascii as AsciiOp, Utf8, Standing as StandingOp, Local as LocalOp, Keyword, Bound, Constant, OnValues, OnParts, OnName, Iterate, AsMaxLen, Tuple, TupleOf, Let, MatchOptional, MatchResponse, Call, ContractCall}
use Rattle.cl_code.specs.OpNames.{parts_head, name_head, iteration_head}
use Rattle.cl_code.specs.declared.op.Binding.{Binding}
use Rattle.cl_code.proofs.Versions.{parts_had, name_had, iteration_had, has_goes}
use Rattle.cl_code.specs.Nodes.{has_own_name, has_parts, goes_op, versions_of, are_once, bound_names}
use Rattle.cl_code.specs.Typed.{Typed, TypedAs, typeds, expression_of, has_version, goes_by, all_go_by}
use Rattle.cl_code.specs.Expression.{word, target, applied_name, bound_items, keyed, behind_first, optional_branches, response_branches, expression}
use Rattle.cl_meaning.specs.Answers.{Answer, with_known}
use Rattle.cl_meaning.specs.Scope.{Scope, Take, Enter}
use Rattle.cl_meaning.specs.Names.{standing, literal, leaf_form, name_form}
use Rattle.cl_meaning.specs.Control.{match_form, let_form}
use Rattle.cl_meaning.specs.Values.{strict_form, tuple_form, as_max_len_form}
use Rattle.cl_meaning.specs.Calls.{call_form, contract_call_form}
use Rattle.cl_meaning.specs.Meaning.{head_form, node}
use Rattle.cl_meaning.proofs.Equations.{node_of_call, node_of_leaf, node_of_tuple}
use Rattle.cl_frames.specs.Seen.{IsOfVersion}
use Rattle.cl_frames.proofs.Heads.{by_head, exactly, fewer}

not_true : (b : Bool) → not b ≡ true → b ≡ false
not_true true h = cc
not_true false h = refl

pub no_row : (o : Option Row) → not (is_some o) ≡ true → o ≡ None
no_row None h = refl
no_row (Some row) h = absurd cc

-- the form of a node, over the expressions of its parts
abbrev pub op_form : Op → Take → Enter → Scope → List Tree → State → Answer Val
op_form (Int z) take enter S es s = standing Literal (IntV z) s
op_form (Uint n) take enter S es s = standing Literal (UintV n) s
op_form (Buff bytes) take enter S es s = literal (made (BuffV bytes.items)) s
op_form (AsciiOp bytes) take enter S es s = literal (made (AsciiV bytes.items)) s
op_form (Utf8 characters) take enter S es s = literal (made (Utf8V characters.items)) s
op_form (StandingOp p) take enter S es s = standing Literal (PrincipalV p) s
op_form (LocalOp c) take enter S es s = standing Literal (PrincipalV (beside S.frame.contract c)) s
op_form (Keyword k) take enter S es s = name_form S (keyword_name k) s
op_form (Bound x) take enter S es s = name_form S x s
op_form (Constant x) take enter S es s = name_form S x s
op_form (OnValues n head) take enter S es s = strict_form n (row_of (heads.OnValues n)).cost take S es s
op_form (OnParts n head) take enter S es s = head_form (parts_head n) (row_of (parts_head n)).cost take enter S es s
op_form (OnName n head w) take enter S es s = head_form (name_head n) (row_of (name_head n)).cost take enter S (word w ∷ es) s
op_form (Iterate i head a) take enter S es s = head_form (iteration_head i) (row_of (iteration_head i)).cost take enter S (applied_name a ∷ es) s
op_form (AsMaxLen head most at) take enter S es s = as_max_len_form take S (behind_first (λ e more. e ∷ LeafAt (Unsigned most) at ∷ more) es) s
op_form (Tuple keys) take enter S es s = tuple_form take S (pairs_of (keyed keys.items es)) s
op_form (TupleOf head pairs) take enter S es s = with_known (bindings_of (bound_items pairs.items es)) (tuple_form take S) s
op_form (Let head at bindings) take enter S es s = let_form take S (ListAt (forest (bound_items bindings.items es)) at ∷ drop (length bindings.items) es) s
op_form (MatchOptional head x) take enter S es s = match_form take S (optional_branches x es) s
op_form (MatchResponse head x y) take enter S es s = match_form take S (response_branches x y es) s
op_form (Call f) take enter S es s = call_form f.name take enter S es s
op_form (ContractCall head t f callee) take enter S es s = contract_call_form take enter S (target t ∷ word f ∷ es) s

-- a node of a tree that can stand in a text of a version can
pub node_goes : (v : Version) (code : Typed) (op : Op) (es : List Tree) (ps : List Typed) (ty : PlainType) (at : Span) → TypedAs (expression op es at) ty (versions_of op) (typeds ps) ≡ code → goes_by v code ≡ true → goes_op v op ≡ true
node_goes v code op es ps ty at h k = sym (has_goes v op) ∙ (and_parts (has_version (versions_of op) v) (all_go_by v (typeds ps)) (ap (goes_by v) h ∙ k)).0

-- and so can its parts
pub parts_go : (v : Version) (code : Typed) (op : Op) (es : List Tree) (ps : List Typed) (ty : PlainType) (at : Span) → TypedAs (expression op es at) ty (versions_of op) (typeds ps) ≡ code → goes_by v code ≡ true → all_go_by v (typeds ps) ≡ true
parts_go v code op es ps ty at h k = (and_parts (has_version (versions_of op) v) (all_go_by v (typeds ps)) (ap (goes_by v) h ∙ k)).1

pub part_goes : (v : Version) (ps : List Typed) (i : ℕ) (p : Typed) → all_go_by v (typeds ps) ≡ true → i < length ps → p ≡ get_or ps i p → goes_by v p ≡ true
part_goes v [] i p h less e = absurd (omega (arith, less))
part_goes v (q ∷ ps) zero p h less e = ap (goes_by v) e ∙ (and_parts (goes_by v q) (all_go_by v (typeds ps)) h).0
part_goes v (q ∷ ps) (suc i) p h less e = part_goes v ps i p (and_parts (goes_by v q) (all_go_by v (typeds ps)) h).1 (omega (arith, less)) e

module _ (v : Version) (take : Take) (enter : Enter) (S : Scope) (is : IsOfVersion v S) where
  pub node_op : (op : Op) (es : List Tree) (at : Span) (s : State) → goes_op v op ≡ true → node take enter S (expression op es at) s ≡ op_form op take enter S es s
  unfolding leaf_form head_form goes_op
  node_op (Int z) es at s h = node_of_leaf take enter S (Signed z) at s
  node_op (Uint n) es at s h = node_of_leaf take enter S (Unsigned n) at s
  node_op (Buff bytes) es at s h = node_of_leaf take enter S (Bytes bytes.items) at s
  node_op (AsciiOp bytes) es at s h = node_of_leaf take enter S (Ascii bytes.items) at s
  node_op (Utf8 characters) es at s h = node_of_leaf take enter S (Unicode characters.items) at s
  node_op (StandingOp p) es at s h = node_of_leaf take enter S (Standing p) at s
  node_op (LocalOp c) es at s h = node_of_leaf take enter S (Local c) at s
  node_op (Keyword k) es at s h = node_of_leaf take enter S (Named (keyword_name k)) at s
  node_op (Bound x) es at s h = node_of_leaf take enter S (Named x) at s
  node_op (Constant x) es at s h = node_of_leaf take enter S (Named x) at s
  node_op (OnValues n head) es at s h = by_head v take enter S is (heads.OnValues n) h es at head s
  node_op (OnParts n head) es at s h = by_head v take enter S is (parts_head n) (parts_had v n) es at head s
  node_op (OnName n head w) es at s h = by_head v take enter S is (name_head n) (name_had v n) (word w ∷ es) at head s
  node_op (Iterate i head a) es at s h = by_head v take enter S is (iteration_head i) (iteration_had v i) (applied_name a ∷ es) at head s
  node_op (AsMaxLen head most literal) es at s h = by_head v take enter S is heads.AsMaxLen refl (behind_first (λ e more. e ∷ LeafAt (Unsigned most) literal ∷ more) es) at head s
  node_op (Tuple keys) es at s h = node_of_tuple take enter S (keyed keys.items es) at s
  node_op (TupleOf head pairs) es at s h = by_head v take enter S is heads.TupleOf refl (bound_items pairs.items es) at head s
  node_op (Let head brackets bindings) es at s h = by_head v take enter S is heads.Let refl (ListAt (forest (bound_items bindings.items es)) brackets ∷ drop (length bindings.items) es) at head s
  node_op (MatchOptional head x) es at s h = by_head v take enter S is heads.Match refl (optional_branches x es) at head s
  node_op (MatchResponse head x y) es at s h = by_head v take enter S is heads.Match refl (response_branches x y es) at head s
  node_op (Call f) es at s h =
      node_of_call take enter S f.name (forest es) at f.span s (is f.name ∙ no_row (native v f.name) h) ∙ ap (λ l. call_form f.name take enter S l s) (trees_forest es)
  node_op (ContractCall head t f callee) es at s h = by_head v take enter S is heads.ContractCall refl (target t ∷ word f ∷ es) at head s

-- no keyword is the name of a node
pub no_keyword : (op : Op) (x : List ℕ) → has_own_name op ≡ true → op ≡ Bound x → is_one_of keywords x ≡ false
unfolding has_own_name
no_keyword op x h k = not_true (is_one_of keywords x) (sym (ap has_own_name k) ∙ h)

pub no_keyword_constant : (op : Op) (x : List ℕ) → has_own_name op ≡ true → op ≡ Constant x → is_one_of keywords x ≡ false
unfolding has_own_name
no_keyword_constant op x h k = not_true (is_one_of keywords x) (sym (ap has_own_name k) ∙ h)

-- the parts of a node are as many as it takes
pub parts_of_node : (op mine : Op) (m n : ℕ) → has_parts op n ≡ true → op ≡ mine → m ≡ n → has_parts mine m ≡ true
parts_of_node op mine m n h k e = ap (λ (i : ℕ). has_parts mine i) e ∙ ap (λ (o : Op). has_parts o n) (sym k) ∙ h

-- no key of a tuple stands twice
pub own_keys : (op : Op) (keys : Vec (List ℕ) Global) (seen : List (List ℕ)) → has_own_name op ≡ true → op ≡ Tuple keys → seen ≡ keys.items → are_once seen ≡ true
unfolding has_own_name
own_keys op keys seen h k e = ap are_once e ∙ sym (ap has_own_name k) ∙ h

pub own_keys_of : (op : Op) (head : Span) (pairs : Vec Binding Global) (seen : List Binding) → has_own_name op ≡ true → op ≡ TupleOf head pairs → seen ≡ pairs.items → are_once (bound_names seen) ≡ true
unfolding has_own_name
own_keys_of op head pairs seen h k e = ap (λ (bs : List Binding). are_once (bound_names bs)) e ∙ sym (ap has_own_name k) ∙ h

-- a tuple has as many parts as keys
pub tuple_counts : (op : Op) (keys : Vec (List ℕ) Global) (seen : List (List ℕ)) (ps qs : List Typed) → has_parts op (length ps) ≡ true → op ≡ Tuple keys → seen ≡ keys.items → qs ≡ ps → length qs ≡ length seen
tuple_counts op keys seen ps qs h k e m =
    ap (λ (l : List Typed). length l) m
    ∙ exactly (length ps) (length keys.items) (sym (ap (λ (o : Op). has_parts o (length ps)) k) ∙ h)
    ∙ ap (λ (l : List (List ℕ)). length l) (sym e)

pub pair_counts : (op : Op) (head : Span) (pairs : Vec Binding Global) (seen : List Binding) (ps qs : List Typed) → has_parts op (length ps) ≡ true → op ≡ TupleOf head pairs → seen ≡ pairs.items → qs ≡ ps → length qs ≡ length seen
pair_counts op head pairs seen ps qs h k e m =
    ap (λ (l : List Typed). length l) m
    ∙ exactly (length ps) (length pairs.items) (sym (ap (λ (o : Op). has_parts o (length ps)) k) ∙ h)
    ∙ ap (λ (l : List Binding). length l) (sym e)

-- a let has more parts than bindings
pub let_counts : (op : Op) (head at : Span) (bindings : Vec Binding Global) (seen : List Binding) (ps qs : List Typed) → has_parts op (length ps) ≡ true → op ≡ Let head at bindings → seen ≡ bindings.items → qs ≡ ps → length seen < length qs
let_counts op head at bindings seen ps qs h k e m =
    let less : length bindings.items < length ps = fewer (length bindings.items) (length ps) (sym (ap (λ (o : Op). has_parts o (length ps)) k) ∙ h) in
    omega (arith, less, ap (λ (l : List Binding). length l) e, ap (λ (l : List Typed). length l) m)

-- an expression stands where its node says
stands_at : (op : Op) (es : List Tree) (at : Span) → at ≡ span_of (expression op es at)
stands_at (Int z) es at = refl
stands_at (Uint n) es at = refl
stands_at (Buff bytes) es at = refl
stands_at (AsciiOp bytes) es at = refl
stands_at (Utf8 characters) es at = refl
stands_at (StandingOp p) es at = refl
stands_at (LocalOp c) es at = refl
stands_at (Keyword k) es at = refl
stands_at (Bound x) es at = refl
stands_at (Constant x) es at = refl
stands_at (OnValues n head) es at = refl
stands_at (OnParts n head) es at = refl
stands_at (OnName n head w) es at = refl
stands_at (Iterate i head a) es at = refl
stands_at (AsMaxLen head most literal) es at = refl
stands_at (Tuple keys) es at = refl
stands_at (TupleOf head pairs) es at = refl
stands_at (Let head brackets bindings) es at = refl
stands_at (MatchOptional head x) es at = refl
stands_at (MatchResponse head x y) es at = refl
stands_at (Call f) es at = refl
stands_at (ContractCall head t f callee) es at = refl

pub place_of : (code : Typed) (op : Op) (ps : List Typed) (ty : PlainType) (at : Span) → TypedAs (expression op (map expression_of ps) at) ty (versions_of op) (typeds ps) ≡ code → at ≡ span_of (expression_of code)
place_of code op ps ty at h = stands_at op (map expression_of ps) at ∙ ap (λ (c : Typed). span_of (expression_of c)) h
