-- Typed expressions whose literals fit: so do the literals of their parts.
use Rattle.std.proofs.Common.{◌≡◌, ℕ, Bool, List, [], ◌∷◌, map, take, drop, Option, Some, None, refl, subst}
use Rattle.std.specs.Prelude.{filter_map}
use Rattle.std.specs.List.{cons_option}
use Rattle.cl_types.specs.Types.{PlainType, OptionalType, ResponseType}
use Rattle.cl_sexpr.specs.Tree.{Tree, LeafAt, ListAt, TupleAt, Leaf, Named, Empty, Then, Pairs, NoPair, Pair}
use Rattle.cl_forms.specs.declared.head.Head.{Head}
use Rattle.cl_forms.specs.declared.head.Head.TheVariants.{OnToken, TupleOf, AsMaxLen, Get, VarGet, VarSet, MapGet, MapSet, MapInsert, MapDelete, FtBalance, FtSupply, NftOwner, Let, Match, Map, Filter, Fold, ContractCall}
use Rattle.cl_forms.specs.declared.head.TokenNative.TheVariants.{MintFt, BurnFt, SendFt, MintNft, BurnNft, SendNft, SendStx, BurnStx}
use Rattle.cl_forms.specs.declared.keyword.Keyword.{Keyword}
use Rattle.cl_forms.specs.Keywords.{keyword_of}
use Rattle.cl_forms.specs.Heads.{Row, native}
use Rattle.cl_forms.specs.Shapes.{trees_of, pairs_of, binding_of, match_of}
use Rattle.cl_rules.specs.Context.{Context, Names, Signature, signature_in, bind, named_in, is_no_value}
use Rattle.cl_rules.specs.Verdicts.{Found}
use Rattle.cl_rules.specs.Shapes.{Plan, Ends, Part, Gives, Shape, parts}
use Rattle.cl_rules.specs.ControlShapes.{keyword_or, value_or, no_value_shape, leaf_shape, let_plan, let_shape, optional_plan, response_plan, match_plan}
use Rattle.cl_rules.specs.Table.{head_shape, operator_shape, shape}
use Rattle.cl_rules.specs.Typing.{Typed, typed, Follows as TypedFollows, ends as typed_ends, part as typed_part, gives as typed_gives}
use Rattle.cl_sexpr.specs.Fits.{Fits, PairsFit, AreFit}
use Rattle.cl_expression_sound.specs.Fitted.{Fitted, fitted, Follows, ends, part, gives}
use Rattle.cl_forms.proofs.ExpressionsFit.{are_fit}

-- the parts of a plan fit
abbrev pub PlanFits : Plan → Type 0
PlanFits Ends = Unit {0}
PlanFits (Part B e p) = Fits e × PlanFits p
PlanFits (Gives B e k) = Fits e × ((f : Found) → PlanFits (k f))

parts_fit : (B : Names) (es : List Tree) → AreFit es → PlanFits (parts B es)
parts_fit B [] h = tt
parts_fit B (e ∷ es) h = (h.0, parts_fit B es h.1)

without_first : (es : List Tree) → AreFit es → AreFit (drop 1 es)
without_first [] h = tt
without_first (e ∷ es) h = h.1

without_two : (es : List Tree) → AreFit es → AreFit (drop 2 es)
without_two [] h = tt
without_two (e ∷ []) h = tt
without_two (e ∷ d ∷ es) h = h.1.1

first_alone : (es : List Tree) → AreFit es → AreFit (take 1 es)
first_alone [] h = tt
first_alone (e ∷ es) h = (h.0, tt)

binding_part : (e : Tree) (p : List ℕ × Tree) → Fits e → binding_of e ≡ Some p → Fits p.1
binding_part (ListAt (Then (LeafAt (Named x) at) (Then e Empty)) at') p h k = subst (λ p. Fits p.1) (same_pair (x, e) p k) h.1.0
  where
    same_pair : (a b : List ℕ × Tree) → Some a ≡ Some b → a ≡ b
    same_pair a b k = cc
binding_part e p h k = absurd cc

abbrev BindingsFit : List (List ℕ × Tree) → Type 0
BindingsFit [] = Unit {0}
BindingsFit (p ∷ ps) = Fits p.1 × BindingsFit ps

bindings_fit : (es : List Tree) → AreFit es → BindingsFit (filter_map binding_of es)
bindings_fit [] h = tt
bindings_fit (e ∷ es) h = by (binding_of e) refl (bindings_fit es h.1)
  where
    by : (o : Option (List ℕ × Tree)) → binding_of e ≡ o → BindingsFit (filter_map binding_of es) → BindingsFit (cons_option o (filter_map binding_of es))
    by None k rest = rest
    by (Some p) k rest = (binding_part e p h.0 k, rest)

pairs_fit : (B : Names) (ps : List (List ℕ × Tree)) → BindingsFit ps → PlanFits (parts B (map (λ (p : List ℕ × Tree). p.1) ps))
pairs_fit B [] h = tt
pairs_fit B (p ∷ ps) h = (h.0, pairs_fit B ps h.1)

tuple_fit : (ps : Pairs) → PairsFit ps → BindingsFit (pairs_of ps)
tuple_fit NoPair h = tt
tuple_fit (Pair key e ps) h = (h.1, tuple_fit ps h.2)

let_fits : (body : List Tree) (B : Names) (ps : List (List ℕ × Tree)) → AreFit body → BindingsFit ps → PlanFits (let_plan body B ps)
let_fits body B [] h k = parts_fit B body h
let_fits body B (p ∷ ps) h k = (k.0, λ f. let_fits body (bind p.0 f.type B) ps h k.1)

let_shape_fits : (row : Row) (G : Context) (B : Names) (es : List Tree) → AreFit es → PlanFits (let_shape row G B es).plan
let_shape_fits row G B [] h = tt
let_shape_fits row G B (ListAt bs at ∷ body) h = let_fits body B (filter_map binding_of (trees_of bs)) h.1 (bindings_fit (trees_of bs) (are_fit bs h.0))
let_shape_fits row G B (e ∷ body) h = tt

optional_fits : (B : Names) (x : List ℕ) (a b : Tree) (t : PlainType) → Fits a → Fits b → PlanFits (optional_plan B x a b t)
optional_fits B x a b (OptionalType t) h k = (h, (k, tt))
optional_fits B x a b t h k = (k, tt)

response_fits : (B : Names) (x : List ℕ) (a : Tree) (y : List ℕ) (b : Tree) (t : PlainType) → Fits a → Fits b → PlanFits (response_plan B x a y b t)
response_fits B x a y b (ResponseType t e) h k = (h, (k, tt))
response_fits B x a y b t h k = tt

match_fits : (B : Names) (es : List Tree) → AreFit es → PlanFits (match_plan B (match_of es))
match_fits B (i ∷ LeafAt (Named x) at ∷ a ∷ b ∷ []) h = (h.0, λ f. optional_fits B x a b f.type h.1.1.0 h.1.1.1.0)
match_fits B (i ∷ LeafAt (Named x) at ∷ a ∷ LeafAt (Named y) at' ∷ b ∷ []) h = (h.0, λ f. response_fits B x a y b f.type h.1.1.0 h.1.1.1.1.0)
match_fits B es h = tt

head_fits : (head : Head) (row : Row) (G : Context) (B : Names) (es : List Tree) → AreFit es → PlanFits (head_shape head row G B es).plan
unfolding head_shape
head_fits TupleOf row G B es h = pairs_fit B (filter_map binding_of es) (bindings_fit es h)
head_fits AsMaxLen row G B es h = parts_fit B (take 1 es) (first_alone es h)
head_fits Get row G B es h = parts_fit B (drop 1 es) (without_first es h)
head_fits VarGet row G B es h = parts_fit B (drop 1 es) (without_first es h)
head_fits VarSet row G B es h = parts_fit B (drop 1 es) (without_first es h)
head_fits MapGet row G B es h = parts_fit B (drop 1 es) (without_first es h)
head_fits MapSet row G B es h = parts_fit B (drop 1 es) (without_first es h)
head_fits MapInsert row G B es h = parts_fit B (drop 1 es) (without_first es h)
head_fits MapDelete row G B es h = parts_fit B (drop 1 es) (without_first es h)
head_fits FtBalance row G B es h = parts_fit B (drop 1 es) (without_first es h)
head_fits FtSupply row G B es h = parts_fit B (drop 1 es) (without_first es h)
head_fits NftOwner row G B es h = parts_fit B (drop 1 es) (without_first es h)
head_fits Map row G B es h = parts_fit B (drop 1 es) (without_first es h)
head_fits Filter row G B es h = parts_fit B (drop 1 es) (without_first es h)
head_fits Fold row G B es h = parts_fit B (drop 1 es) (without_first es h)
head_fits ContractCall row G B es h = parts_fit B (drop 2 es) (without_two es h)
head_fits Let row G B es h = let_shape_fits row G B es h
head_fits Match row G B es h = match_fits B es h
head_fits (OnToken SendStx) row G B es h = parts_fit B es h
head_fits (OnToken BurnStx) row G B es h = parts_fit B es h
head_fits (OnToken MintFt) row G B es h = parts_fit B (drop 1 es) (without_first es h)
head_fits (OnToken BurnFt) row G B es h = parts_fit B (drop 1 es) (without_first es h)
head_fits (OnToken SendFt) row G B es h = parts_fit B (drop 1 es) (without_first es h)
head_fits (OnToken MintNft) row G B es h = parts_fit B (drop 1 es) (without_first es h)
head_fits (OnToken BurnNft) row G B es h = parts_fit B (drop 1 es) (without_first es h)
head_fits (OnToken SendNft) row G B es h = parts_fit B (drop 1 es) (without_first es h)
head_fits head row G B es h = parts_fit B es h

operator_fits : (o : Option Row) (f : Option Signature) (G : Context) (B : Names) (es : List Tree) → AreFit es → PlanFits (operator_shape o f G B es).plan
operator_fits (Some row) f G B es h = head_fits row.head row G B es h
operator_fits None (Some f) G B es h = parts_fit B es h
operator_fits None None G B es h = tt

value_fits : (o p : Option PlainType) (known : Bool) → PlanFits (value_or o (value_or p (no_value_shape known))).plan
value_fits (Some t) p known = tt
value_fits None (Some t) known = tt
value_fits None None known = tt

keyword_fits : (o : Option Keyword) (other : Shape) → PlanFits other.plan → PlanFits (keyword_or o other).plan
keyword_fits (Some k) other h = tt
keyword_fits None other h = h

leaf_fits : (G : Context) (B : Names) (leaf : Leaf) → PlanFits (leaf_shape G B leaf).plan
leaf_fits G B (Named x) = keyword_fits (keyword_of x) _ (value_fits (named_in x B) (named_in x G.constants) (is_no_value G x))
leaf_fits G B leaf = tt

shape_fits : (G : Context) (B : Names) (e : Tree) → Fits e → PlanFits (shape G B e).plan
unfolding shape
shape_fits G B (LeafAt leaf at) h = leaf_fits G B leaf
shape_fits G B (TupleAt ps at) h = pairs_fit B (pairs_of ps) (tuple_fit ps h.1)
shape_fits G B (ListAt (Then (LeafAt (Named x) at') es) at) h = operator_fits (native G.version x) (signature_in x G.functions) G B (trees_of es) (are_fit es h.1)
shape_fits G B (ListAt es at) h = tt

module _ (G : Context) where
  mutual
    pub is_fitted : {B : Names} {e : Tree} {f : Found} → Typed G B e f → Fits e → Fitted G B e f
    is_fitted {B = B} {e = e} (typed fs shape follows types is) h = fitted fs h shape (all_fitted follows (shape_fits G B e h)) types is

    pub all_fitted : {p : Plan} {fs : List Found} → TypedFollows G p fs → PlanFits p → Follows G p fs
    all_fitted typed_ends h = ends
    all_fitted (typed_part t ts) h = part (is_fitted t h.0) (all_fitted ts h.1)
    all_fitted (typed_gives {f = f} t ts) h = gives (is_fitted t h.0) (all_fitted ts (h.1 f))
