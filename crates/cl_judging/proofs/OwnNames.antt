-- Nodes whose names are their own.
use Rattle.std.proofs.Common.{◌≡◌, ℕ, Bool, true, false, List, [], ◌∷◌, length, filter_map, refl, ap, sym, ◌∙◌, arith}
use Rattle.std.specs.Prelude.{not}
use Rattle.std.specs.Global.{Vec}
use Rattle.cl_sexpr.specs.declared.sexpr.Span.{Span}
use Rattle.cl_code.specs.declared.op.Word.{Word}
use Rattle.cl_code.specs.declared.op.Binding.{Binding}
use Rattle.cl_code.specs.declared.op.NameNative.{NameNative}
use Rattle.cl_code.specs.declared.op.Op.TheVariants.{OnName, Let, AsMaxLen, Tuple, TupleOf, MatchOptional, MatchResponse, ContractCall}
use Rattle.cl_code.specs.declared.op.Target.{Target}
use Rattle.cl_code.specs.declared.op.Callee.{Callee}
use Rattle.cl_code.specs.Nodes.{has_own_name, are_once, bound_names}
use Rattle.cl_code.specs.Expression.{bound_items, binding}
use Rattle.cl_sexpr.specs.Tree.{Tree}
use Rattle.cl_forms.specs.Shapes.{binding_of}
use Rattle.cl_rules.specs.DataShapes.{keys_of}
use Rattle.cl_judging.specs.LetWalk.{exprs_of}

pub named_own : (native : NameNative) (head : Span) (w : Word) → has_own_name (OnName native head w) ≡ true
unfolding has_own_name
named_own native head w = refl

pub let_own : (head at : Span) (bindings : Vec Binding) → has_own_name (Let head at bindings) ≡ true
unfolding has_own_name
let_own head at bindings = refl

pub max_own : (head : Span) (most : ℕ) (at : Span) → has_own_name (AsMaxLen head most at) ≡ true
unfolding has_own_name
max_own head most at = refl

-- keys none of which stands twice
once_by : (mine keys : List (List ℕ)) (twice : Bool) → mine ≡ keys → are_once mine ≡ not twice → twice ≡ false → are_once keys ≡ true
once_by mine keys twice same once none = ap are_once (sym same) ∙ (once ∙ ap not none)

pub tuple_own : (keys : Vec (List ℕ)) (mine : List (List ℕ)) (twice : Bool) → mine ≡ keys.items → are_once mine ≡ not twice → twice ≡ false → has_own_name (Tuple keys) ≡ true
unfolding has_own_name
tuple_own keys mine twice same once none = once_by mine keys.items twice same once none

-- the names of bindings are the keys of their items
names_are : (bs : List Binding) (es items : List Tree) → bound_items bs es ≡ items → length bs ≡ length items → keys_of (filter_map binding_of items) ≡ bound_names bs
names_are [] es [] text count = refl
names_are [] es (i ∷ items) text count = absurd (omega (arith, count))
names_are (b ∷ bs) [] [] text count = absurd (omega (arith, count))
names_are (b ∷ bs) [] (i ∷ items) text count = absurd cc
names_are (b ∷ bs) (e ∷ es) [] text count = absurd cc
names_are (b ∷ bs) (e ∷ es) (i ∷ items) text count =
    let first : binding b e ≡ i = cc in
    let more : bound_items bs es ≡ items = cc in
    ap (λ (j : Tree). keys_of (filter_map binding_of (j ∷ items))) (sym first) ∙ ap (λ (ks : List (List ℕ)). b.word.name ∷ ks) (names_are bs es items more (omega (arith, count)))

pub tuple_of_own : (head : Span) (pairs : Vec Binding) (items : List Tree) (mine : List (List ℕ)) (twice : Bool) → mine ≡ keys_of (filter_map binding_of items) → bound_items pairs.items (exprs_of items) ≡ items → length pairs.items ≡ length items → are_once mine ≡ not twice → twice ≡ false → has_own_name (TupleOf head pairs) ≡ true
unfolding has_own_name
tuple_of_own head pairs items mine twice same text count once none = once_by mine (bound_names pairs.items) twice (same ∙ names_are pairs.items (exprs_of items) items text count) once none

pub optional_own : (head : Span) (part : Word) → has_own_name (MatchOptional head part) ≡ true
unfolding has_own_name
optional_own head part = refl

pub response_own : (head : Span) (good bad : Word) → has_own_name (MatchResponse head good bad) ≡ true
unfolding has_own_name
response_own head good bad = refl

pub contract_own : (head : Span) (target : Target) (f : Word) (callee : Callee) → has_own_name (ContractCall head target f callee) ≡ true
unfolding has_own_name
contract_own head target f callee = refl
