-- What a node means, as equations.
use Rattle.std.proofs.Common.{◌≡◌, ℕ, zero, suc, List, refl, ap}
use Rattle.std.specs.Prelude.{Some, None}
use Rattle.cl_sexpr.specs.declared.sexpr.Span.{Span}
use Rattle.cl_sexpr.specs.Tree.{Tree, LeafAt, ListAt, TupleAt, Leaf, Named, Forest, Then, Pairs, span_of}
use Rattle.cl_values.specs.Tree.{Tree as Val}
use Rattle.cl_forms.specs.Heads.{Row}
use Rattle.cl_forms.specs.Shapes.{trees_of, pairs_of}
use Rattle.cl_events.specs.State.{State}
use Rattle.cl_meaning.specs.Answers.{Deeper, stop, ending}
use Rattle.cl_meaning.specs.Deployed.{native_of}
use Rattle.cl_meaning.specs.Scope.{Scope, home, Callee, Take, Enter}
use Rattle.cl_meaning.specs.Names.{leaf_form}
use Rattle.cl_meaning.specs.Values.{tuple_form}
use Rattle.cl_meaning.specs.Calls.{call_form, application}
use Rattle.cl_meaning.specs.Meaning.{head_form, operator, node, means, applied}

-- a list whose first item is a name
abbrev pub named_list : List ℕ → Span → Forest → Span → Tree
named_list x at' es at = ListAt (Then (LeafAt (Named x) at') es) at

pub node_of_row : (take : Take) (enter : Enter) (S : Scope) (x : List ℕ) (row : Row) (es : Forest) (at at' : Span) (s : State) → native_of x (home S) ≡ Some row → node take enter S (named_list x at' es at) s ≡ head_form row.head row.cost take enter S (trees_of es) s
unfolding node
node_of_row take enter S x row es at at' s h = ap (λ o. operator o x take enter S (trees_of es) s) h

pub node_of_call : (take : Take) (enter : Enter) (S : Scope) (x : List ℕ) (es : Forest) (at at' : Span) (s : State) → native_of x (home S) ≡ None → node take enter S (named_list x at' es at) s ≡ call_form x take enter S (trees_of es) s
unfolding node
node_of_call take enter S x es at at' s h = ap (λ o. operator o x take enter S (trees_of es) s) h

pub node_of_leaf : (take : Take) (enter : Enter) (S : Scope) (leaf : Leaf) (at : Span) (s : State) → node take enter S (LeafAt leaf at) s ≡ leaf_form S leaf s
unfolding node
node_of_leaf take enter S leaf at s = refl

pub node_of_tuple : (take : Take) (enter : Enter) (S : Scope) (ps : Pairs) (at : Span) (s : State) → node take enter S (TupleAt ps at) s ≡ tuple_form take S (pairs_of ps) s
unfolding node
node_of_tuple take enter S ps at s = refl

pub means_zero : (S : Scope) (e : Tree) (s : State) → means zero S e s ≡ stop Deeper s
unfolding means
means_zero S e s = refl

pub means_step : (depth : ℕ) (S : Scope) (e : Tree) (s : State) → means (suc depth) S e s ≡ ending (span_of e) (node (means depth) (applied depth) S e s)
unfolding means
means_step depth S e s = refl

pub applied_zero : (S : Scope) (f : Callee) (vs : List Val) (s : State) → applied zero S f vs s ≡ stop Deeper s
unfolding applied
applied_zero S f vs s = refl

pub applied_step : (depth : ℕ) (S : Scope) (f : Callee) (vs : List Val) (s : State) → applied (suc depth) S f vs s ≡ application (means depth) S f vs s
unfolding applied
applied_step depth S f vs s = refl
