-- map, filter and fold, as equations over the expressions of their parts; and what is given by name.
use Rattle.std.proofs.Common.{◌≡◌, ◌<◌, ℕ, suc, List, [], ◌∷◌, length, get_or, map, true, false, Bool, Option, Some, None, refl, sym, ap, ◌∙◌, arith}
use Rattle.std.specs.Prelude.{if◌then◌else◌}
use Rattle.cl_shapes.specs.Limits.{Purse}
use Rattle.cl_shapes.specs.declared.name.CostName.TheVariants.{Iterate}
use Rattle.cl_sexpr.specs.declared.sexpr.Span.{Span}
use Rattle.cl_sexpr.specs.Tree.{Tree, LeafAt, Named}
use Rattle.cl_values.specs.declared.native.Native.{Native}
use Rattle.cl_values.specs.Tree.{Tree as Val, BoolV}
use Rattle.cl_values.specs.Wire.{size_of}
use Rattle.cl_forms.specs.declared.head.Head.TheVariants as heads
use Rattle.cl_forms.specs.declared.version.Version.{Version}
use Rattle.cl_forms.specs.Heads.{Row, row_of, native, takes}
use Rattle.cl_forms.specs.HeadNames.{name_of}
use Rattle.cl_events.specs.State.{State}
use Rattle.cl_code.specs.declared.op.Applied.{Applied}
use Rattle.cl_code.specs.declared.op.Applied.TheVariants as given
use Rattle.cl_code.specs.declared.op.Iteration.{Iteration}
use Rattle.cl_code.specs.declared.op.Iteration.TheVariants as iteration
use Rattle.cl_code.specs.declared.op.Word.{Word}
use Rattle.cl_code.specs.Nodes.{goes_applied, goes_op, has_own_applied, has_own_name}
use Rattle.cl_code.specs.OpNames.{iteration_head}
use Rattle.cl_code.specs.Expression.{applied_name}
use Rattle.cl_code.specs.Typed.{Typed, expression_of}
use Rattle.cl_shapes.specs.declared.name.CostName.{CostName}
use Rattle.cl_meaning.specs.Answers.{Deeper, Wrong, give, charged, and_then, with_known}
use Rattle.cl_meaning.specs.Deployed.{Function, function_of}
use Rattle.cl_meaning.specs.Scope.{Scope, home, Callee, ByName, Take, Enter, parts, sizes}
use Rattle.cl_meaning.specs.Sequences.{own, by_row, callee_of, map_form, mapped, filter_form, filtered, fold_form, fold_of}
use Rattle.cl_meaning.specs.Meaning.{head_form, applied}
use Rattle.cl_meaning.specs.Calls.{native_form, truths, truth_value}
use Rattle.cl_meaning.proofs.Equations.{applied_zero}
use Rattle.cl_meaning.proofs.LimitLaws.{limited-stop}
use Rattle.cl_meaning.specs.Values.{on_values}
use Rattle.cl_meaning.specs.Limits.{Costs, Lost, limited}
use Rattle.cl_code.specs.declared.op.Op.{Op}
use Rattle.cl_code.specs.declared.op.Op.TheVariants.{Iterate as IterateOp}
use Rattle.cl_frames.specs.declared.applied.ByName.{ByName as ByNameOfCode}
use Rattle.cl_frames.specs.declared.applied.ByName.TheVariants as code
use Rattle.cl_frames.specs.Applying.{name_of_applied, place_of_applied, by_name, join, joined}
use Rattle.cl_frames.proofs.Forms.{one_of, two_of, applied_native}
use Rattle.cl_code.proofs.Versions.{row_head}
use Rattle.cl_frames.proofs.Heads.{row_in_scope, exactly}
use Rattle.cl_frames.specs.Seen.{IsOfVersion}
use Rattle.cl_frames.proofs.Nodes.{no_row}

-- ---- what is given by name

named : (a : Applied) → applied_name a ≡ LeafAt (Named (name_of_applied a)) (place_of_applied a)
named (given.Function f) = refl
named (given.OnValues native at) = refl
named (given.And at) = refl
named (given.Or at) = refl

own_called : (v : Version) (S : Scope) → IsOfVersion v S → (w : Word) (f : Option Function) → goes_applied v (given.Function w) ≡ true → f ≡ function_of w.name (home S) → callee_of S w.name w.span ≡ own f
unfolding goes_applied
own_called v S is w f h k = ap (λ r. by_row w.span r (function_of w.name (home S))) (is w.name ∙ no_row (native v w.name) h) ∙ ap own (sym k)

by_this : (at : Span) (row : Row) (f : Option Function) → row.by_name ≡ true → by_row at (Some row) f ≡ Some (ByName row at)
by_this at row f h = ap (λ (b : Bool). if b then Some (ByName row at) else None) h

native_called : (v : Version) (S : Scope) → IsOfVersion v S → (n : Native) (at : Span) → goes_applied v (given.OnValues n at) ≡ true → has_own_applied (given.OnValues n at) ≡ true → callee_of S (name_of (heads.OnValues n)) at ≡ Some (ByName (row_of (heads.OnValues n)) at)
unfolding has_own_applied goes_applied
native_called v S is n at g h =
    ap (λ r. by_row at r (function_of (name_of (heads.OnValues n)) (home S))) (row_in_scope v S (heads.OnValues n) is g)
    ∙ by_this at (row_of (heads.OnValues n)) (function_of (name_of (heads.OnValues n)) (home S)) h

and_called : (v : Version) (S : Scope) → IsOfVersion v S → (at : Span) → callee_of S (name_of heads.And) at ≡ Some (ByName (row_of heads.And) at)
and_called v S is at = ap (λ r. by_row at r (function_of (name_of heads.And) (home S))) (row_in_scope v S heads.And is refl) ∙ by_this at (row_of heads.And) (function_of (name_of heads.And) (home S)) refl

or_called : (v : Version) (S : Scope) → IsOfVersion v S → (at : Span) → callee_of S (name_of heads.Or) at ≡ Some (ByName (row_of heads.Or) at)
or_called v S is at = ap (λ r. by_row at r (function_of (name_of heads.Or) (home S))) (row_in_scope v S heads.Or is refl) ∙ by_this at (row_of heads.Or) (function_of (name_of heads.Or) (home S)) refl

-- what is applied in a scope
abbrev pub callee_in : Scope → Applied → Option Callee
callee_in S a = callee_of S (name_of_applied a) (place_of_applied a)

pub called_own : (v : Version) (S : Scope) → IsOfVersion v S → (a : Applied) (w : Word) (f : Option Function) → a ≡ given.Function w → goes_applied v a ≡ true → f ≡ function_of w.name (home S) → own f ≡ callee_in S a
called_own v S is a w f h k m = sym (ap (callee_in S) h ∙ own_called v S is w f (sym (ap (goes_applied v) h) ∙ k) m)

pub called_native : (v : Version) (S : Scope) → IsOfVersion v S → (a : Applied) (n : Native) (at : Span) → a ≡ given.OnValues n at → goes_applied v a ≡ true → has_own_applied a ≡ true → Some (ByName (row_of (heads.OnValues n)) at) ≡ callee_in S a
called_native v S is a n at h g k = sym (ap (callee_in S) h ∙ native_called v S is n at (sym (ap (goes_applied v) h) ∙ g) (sym (ap has_own_applied h) ∙ k))

pub called_and : (v : Version) (S : Scope) → IsOfVersion v S → (a : Applied) (at : Span) → a ≡ given.And at → Some (ByName (row_of heads.And) at) ≡ callee_in S a
called_and v S is a at h = sym (ap (callee_in S) h ∙ and_called v S is at)

pub called_or : (v : Version) (S : Scope) → IsOfVersion v S → (a : Applied) (at : Span) → a ≡ given.Or at → Some (ByName (row_of heads.Or) at) ≡ callee_in S a
called_or v S is a at h = sym (ap (callee_in S) h ∙ or_called v S is at)

-- a node's own
pub own_applied : (op : Op) (i : Iteration) (head : Span) (a : Applied) → has_own_name op ≡ true → op ≡ IterateOp i head a → has_own_applied a ≡ true
unfolding has_own_name
own_applied op i head a h k = sym (ap has_own_name k) ∙ h

-- what is applied can stand where the node can
pub applied_goes : (v : Version) (op : Op) (i : Iteration) (head : Span) (a : Applied) → goes_op v op ≡ true → op ≡ IterateOp i head a → goes_applied v a ≡ true
unfolding goes_op
applied_goes v op i head a h k = sym (ap (goes_op v) k) ∙ h

-- as many parts as it takes
counts : (i j : Iteration) (count : ℕ) → i ≡ j → takes (row_of (iteration_head i)).arity (suc count) ≡ true → takes (row_of (iteration_head j)).arity (suc count) ≡ true
counts i j count h k = ap (λ l. takes (row_of (iteration_head l)).arity (suc count)) (sym h) ∙ k

pub filter_parts : (i : Iteration) (count : ℕ) → i ≡ iteration.Filter → takes (row_of (iteration_head i)).arity (suc count) ≡ true → count ≡ 1
filter_parts i count h k = omega (arith, exactly (suc count) 2 (counts i iteration.Filter count h k))

pub fold_parts : (i : Iteration) (count : ℕ) → i ≡ iteration.Fold → takes (row_of (iteration_head i)).arity (suc count) ≡ true → count ≡ 2
fold_parts i count h k = omega (arith, exactly (suc count) 3 (counts i iteration.Fold count h k))

-- ---- natives by name

natively : (n : Native) (cost : CostName) (vs : List Val) (s : State) → native_form (heads.OnValues n) cost vs s ≡ on_values n cost vs s
unfolding native_form
natively n cost vs s = refl

all_natively : (cost : CostName) (vs : List Val) (s : State) → native_form heads.And cost vs s ≡ joined true vs s
unfolding native_form
all_natively cost vs s = refl

some_natively : (cost : CostName) (vs : List Val) (s : State) → native_form heads.Or cost vs s ≡ joined false vs s
unfolding native_form
some_natively cost vs s = refl

pub by_none : (costs : Costs) (p : Purse) (depth : ℕ) (S : Scope) (f : Callee) (vs : List Val) (s : State) → depth ≡ 0 → limited costs p (applied depth S f vs s) ≡ Lost p
by_none costs p depth S f vs s h = ap (λ n. limited costs p (applied n S f vs s)) h ∙ ap (limited costs p) (applied_zero S f vs s) ∙ limited-stop costs p Deeper s

pub by_values : (costs : Costs) (p : Purse) (depth : ℕ) (S : Scope) (b : ByNameOfCode) (n : Native) (at : Span) (vs : List Val) (s : State) → 0 < depth → b ≡ code.OnValues n at → limited costs p (applied depth S (by_name b) vs s) ≡ limited costs p (on_values n (row_of (heads.OnValues n)).cost vs s)
by_values costs p depth S b n at vs s h k =
    ap (λ c. limited costs p (applied depth S (by_name c) vs s)) k ∙ applied_native costs p depth S (row_of (heads.OnValues n)) at vs s h
    ∙ ap (λ i. limited costs p (native_form i (row_of (heads.OnValues n)).cost vs s)) (row_head (heads.OnValues n)) ∙ ap (limited costs p) (natively n (row_of (heads.OnValues n)).cost vs s)

pub by_and : (costs : Costs) (p : Purse) (depth : ℕ) (S : Scope) (b : ByNameOfCode) (at : Span) (vs : List Val) (s : State) → 0 < depth → b ≡ code.And at → limited costs p (applied depth S (by_name b) vs s) ≡ limited costs p (joined true vs s)
by_and costs p depth S b at vs s h k =
    ap (λ c. limited costs p (applied depth S (by_name c) vs s)) k ∙ applied_native costs p depth S (row_of heads.And) at vs s h
    ∙ ap (λ i. limited costs p (native_form i (row_of heads.And).cost vs s)) (row_head heads.And) ∙ ap (limited costs p) (all_natively (row_of heads.And).cost vs s)

pub by_or : (costs : Costs) (p : Purse) (depth : ℕ) (S : Scope) (b : ByNameOfCode) (at : Span) (vs : List Val) (s : State) → 0 < depth → b ≡ code.Or at → limited costs p (applied depth S (by_name b) vs s) ≡ limited costs p (joined false vs s)
by_or costs p depth S b at vs s h k =
    ap (λ c. limited costs p (applied depth S (by_name c) vs s)) k ∙ applied_native costs p depth S (row_of heads.Or) at vs s h
    ∙ ap (λ i. limited costs p (native_form i (row_of heads.Or).cost vs s)) (row_head heads.Or) ∙ ap (limited costs p) (some_natively (row_of heads.Or).cost vs s)

pub joined_some : (costs : Costs) (p : Purse) (all : Bool) (vs us : List Val) (s : State) (o : Option Bool) (b : Bool) → o ≡ Some b → o ≡ truths (join all) all us → us ≡ vs → limited costs p (truth_value (truths (join all) all vs) s) ≡ limited costs p (give (BoolV b) s)
joined_some costs p all vs us s o b h k m = ap (λ q. limited costs p (truth_value q s)) (ap (truths (join all) all) (sym m) ∙ sym k ∙ h)

pub joined_none : (costs : Costs) (p : Purse) (all : Bool) (vs us : List Val) (s : State) (o : Option Bool) → o ≡ None → o ≡ truths (join all) all us → us ≡ vs → limited costs p (truth_value (truths (join all) all vs) s) ≡ Lost p
joined_none costs p all vs us s o h k m = ap (λ q. limited costs p (truth_value q s)) (ap (truths (join all) all) (sym m) ∙ sym k ∙ h) ∙ limited-stop costs p Wrong s

-- ---- the natives

pub iteration_at : (i j : Iteration) (cost : CostName) (take : Take) (enter : Enter) (S : Scope) (es : List Tree) (s : State) → i ≡ j → head_form (iteration_head i) cost take enter S es s ≡ head_form (iteration_head j) cost take enter S es s
iteration_at i j cost take enter S es s h = ap (λ k. head_form (iteration_head k) cost take enter S es s) h

pub map_head : (cost : CostName) (take : Take) (enter : Enter) (S : Scope) (es : List Tree) (s : State) → head_form heads.Map cost take enter S es s ≡ map_form take enter S es s
unfolding head_form
map_head cost take enter S es s = refl

pub filter_head : (cost : CostName) (take : Take) (enter : Enter) (S : Scope) (es : List Tree) (s : State) → head_form heads.Filter cost take enter S es s ≡ filter_form take enter S es s
unfolding head_form
filter_head cost take enter S es s = refl

pub fold_head : (cost : CostName) (take : Take) (enter : Enter) (S : Scope) (es : List Tree) (s : State) → head_form heads.Fold cost take enter S es s ≡ fold_form take enter S es s
unfolding head_form
fold_head cost take enter S es s = refl

map_with : (take : Take) (enter : Enter) (S : Scope) (f : List ℕ) (at : Span) (es : List Tree) (s : State) → map_form take enter S (LeafAt (Named f) at ∷ es) s ≡ and_then (parts take S es s) (λ vs t. charged Iterate (sizes vs) (with_known (callee_of S f at) (mapped enter S vs) t))
unfolding map_form
map_with take enter S f at es s = refl

pub map_at : (take : Take) (enter : Enter) (S : Scope) (a : Applied) (es : List Tree) (s : State) → map_form take enter S (applied_name a ∷ es) s ≡ and_then (parts take S es s) (λ vs t. charged Iterate (sizes vs) (with_known (callee_in S a) (mapped enter S vs) t))
map_at take enter S a es s = ap (λ l. map_form take enter S (l ∷ es) s) (named a) ∙ map_with take enter S (name_of_applied a) (place_of_applied a) es s

filter_with : (take : Take) (enter : Enter) (S : Scope) (f : List ℕ) (at : Span) (e : Tree) (s : State) → filter_form take enter S (LeafAt (Named f) at ∷ e ∷ []) s ≡ and_then (take S e s) (λ v t. charged Iterate (size_of v) (with_known (callee_of S f at) (filtered enter S v) t))
unfolding filter_form
filter_with take enter S f at e s = refl

pub filter_at : (take : Take) (enter : Enter) (S : Scope) (a : Applied) (xs : List Typed) (s : State) → length xs ≡ 1 → (e : Typed) → e ≡ get_or xs 0 e → filter_form take enter S (applied_name a ∷ map expression_of xs) s ≡ and_then (take S (expression_of e) s) (λ v t. charged Iterate (size_of v) (with_known (callee_in S a) (filtered enter S v) t))
filter_at take enter S a xs s h e x =
    ap (λ ys. filter_form take enter S (applied_name a ∷ map expression_of ys) s) (one_of xs h e x)
    ∙ ap (λ l. filter_form take enter S (l ∷ expression_of e ∷ []) s) (named a) ∙ filter_with take enter S (name_of_applied a) (place_of_applied a) (expression_of e) s

fold_with : (take : Take) (enter : Enter) (S : Scope) (f : List ℕ) (at : Span) (e i : Tree) (s : State) → fold_form take enter S (LeafAt (Named f) at ∷ e ∷ i ∷ []) s ≡ and_then (take S e s) (λ v t. and_then (take S i t) (λ w u. charged Iterate (sizes (v ∷ w ∷ [])) (with_known (callee_of S f at) (fold_of enter S v w) u)))
unfolding fold_form
fold_with take enter S f at e i s = refl

pub fold_at : (take : Take) (enter : Enter) (S : Scope) (a : Applied) (xs : List Typed) (s : State) → length xs ≡ 2 → (e : Typed) → e ≡ get_or xs 0 e → (i : Typed) → i ≡ get_or xs 1 i → fold_form take enter S (applied_name a ∷ map expression_of xs) s ≡ and_then (take S (expression_of e) s) (λ v t. and_then (take S (expression_of i) t) (λ w u. charged Iterate (sizes (v ∷ w ∷ [])) (with_known (callee_in S a) (fold_of enter S v w) u)))
fold_at take enter S a xs s h e x i y =
    ap (λ ys. fold_form take enter S (applied_name a ∷ map expression_of ys) s) (two_of xs h e x i y)
    ∙ ap (λ l. fold_form take enter S (l ∷ expression_of e ∷ expression_of i ∷ []) s) (named a)
    ∙ fold_with take enter S (name_of_applied a) (place_of_applied a) (expression_of e) (expression_of i) s
