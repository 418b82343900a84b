-- The parts of a plan stand in the expression, one after another.
use Rattle.std.proofs.Common.{ℕ, zero, suc, ◌≤◌, ◌<◌, List, [], ◌∷◌, map, drop, take, Option, Some, None, arith}
use Rattle.std.specs.List.{cons_option, filter_map}
use Rattle.cl_types.specs.Types.{PlainType, OptionalType, ResponseType}
use Rattle.cl_sexpr.specs.Tree.{Tree, LeafAt, ListAt, TupleAt, Forest, Empty, Then, Pairs, NoPair, Pair, Leaf, Named, Signed, Unsigned, Bytes, Ascii, Unicode, Standing, Local, span_of}
use Rattle.cl_forms.specs.declared.keyword.Keyword.{Keyword}
use Rattle.cl_forms.specs.Keywords.{keyword_of}
use Rattle.cl_forms.specs.Heads.{Row, native}
use Rattle.cl_forms.specs.declared.head.Head.{Head}
use Rattle.cl_forms.specs.declared.head.Head.TheVariants.{OnValues, OnToken, TupleOf, AsMaxLen, Get, VarGet, VarSet, MapGet, MapSet, MapInsert, MapDelete, FtBalance, FtSupply, StxBalance, NftOwner, Print, If, Let, Begin, And, Or, Asserts, Unwrap, UnwrapErr, Try, Match, AsContract, Map, Filter, Fold, ContractCall}
use Rattle.cl_forms.specs.declared.head.TokenNative.{TokenNative}
use Rattle.cl_forms.specs.declared.head.TokenNative.TheVariants.{MintFt, BurnFt, SendFt, MintNft, BurnNft, SendNft, SendStx, BurnStx}
use Rattle.cl_forms.specs.Shapes.{trees_of, pairs_of, binding_of, match_of}
use Rattle.cl_rules.specs.Context.{Context, Names, Signature, bind, named_in, is_no_value, signature_in}
use Rattle.cl_rules.specs.Verdicts.{Found}
use Rattle.cl_rules.specs.Shapes.{Plan, Ends, Part, Gives, Shape, parts}
use Rattle.cl_rules.specs.ControlShapes.{keyword_or, value_or, no_value_shape, leaf_shape, let_plan, let_shape, optional_plan, response_plan, match_plan}
use Rattle.cl_rules.specs.DataShapes.{token_shape}
use Rattle.cl_rules.specs.Table.{head_shape, operator_shape, shape}
use Rattle.cl_sexpr.specs.Placed.{IsPlaced, ArePlaced, ArePairsPlaced}

-- the parts stand from a place on, one after another, in front of another place
abbrev pub PlanPlaced : ℕ → ℕ → Plan → Type 0
PlanPlaced low high Ends = Unit {0}
PlanPlaced low high (Part B e p) = (low ≤ (span_of e).start) × ((span_of e).end < high) × IsPlaced e × PlanPlaced (span_of e).end high p
PlanPlaced low high (Gives B e k) = (low ≤ (span_of e).start) × ((span_of e).end < high) × IsPlaced e × ((f : Found) → PlanPlaced (span_of e).end high (k f))

mutual
  pub tree_room : (e : Tree) → IsPlaced e → (span_of e).start < (span_of e).end
  tree_room (LeafAt l s) p = p
  tree_room (ListAt f s) p = forest_room s.start s.end f p
  tree_room (TupleAt ps s) p = pairs_room s.start s.end ps p

  pub forest_room : (low high : ℕ) (f : Forest) → ArePlaced low high f → low < high
  forest_room low high Empty p = p
  forest_room low high (Then t f) p = omega (arith, p.0, tree_room t p.1, forest_room (span_of t).end high f p.2)

  pub pairs_room : (low high : ℕ) (ps : Pairs) → ArePairsPlaced low high ps → low < high
  pairs_room low high NoPair p = p
  pairs_room low high (Pair k t ps) p = omega (arith, p.0, tree_room t p.1, pairs_room (span_of t).end high ps p.2)

-- a row of items that stands so
abbrev RowPlaced : ℕ → ℕ → List Tree → Type 0
RowPlaced low high [] = low < high
RowPlaced low high (e ∷ es) = (low ≤ (span_of e).start) × IsPlaced e × RowPlaced (span_of e).end high es

row_placed : (low high : ℕ) (f : Forest) → ArePlaced low high f → RowPlaced low high (trees_of f)
row_placed low high Empty p = p
row_placed low high (Then t f) p = (p.0, p.1, row_placed (span_of t).end high f p.2)

row_room : (low high : ℕ) (es : List Tree) → RowPlaced low high es → low < high
row_room low high [] p = p
row_room low high (e ∷ es) p = omega (arith, p.0, tree_room e p.1, row_room (span_of e).end high es p.2)

row_after : (low mid high : ℕ) (es : List Tree) → low ≤ mid → RowPlaced mid high es → RowPlaced low high es
row_after low mid high [] h p = omega (arith, h, p)
row_after low mid high (e ∷ es) h p = (omega (arith, h, p.0), p.1, p.2)

plan_after : (low mid high : ℕ) (p : Plan) → low ≤ mid → PlanPlaced mid high p → PlanPlaced low high p
plan_after low mid high Ends h p = tt
plan_after low mid high (Part B e q) h p = (omega (arith, h, p.0), p.1, p.2, p.3)
plan_after low mid high (Gives B e k) h p = (omega (arith, h, p.0), p.1, p.2, p.3)

parts_placed : (B : Names) (low high : ℕ) (es : List Tree) → RowPlaced low high es → PlanPlaced low high (parts B es)
parts_placed B low high [] p = tt
parts_placed B low high (e ∷ es) p = (p.0, row_room (span_of e).end high es p.2, p.1, parts_placed B (span_of e).end high es p.2)

-- without the first item
rest_placed : (low high : ℕ) (e : Tree) (es : List Tree) → RowPlaced low high (e ∷ es) → RowPlaced low high es
rest_placed low high e es p = row_after low (span_of e).end high es (omega (arith, p.0, tree_room e p.1)) p.2

dropped_placed : (low high n : ℕ) (es : List Tree) → RowPlaced low high es → RowPlaced low high (drop n es)
dropped_placed low high zero es p = p
dropped_placed low high (suc n) [] p = p
dropped_placed low high (suc n) (e ∷ es) p = dropped_placed low high n es (rest_placed low high e es p)

-- only the first item
first_placed : (low high : ℕ) (es : List Tree) → RowPlaced low high es → RowPlaced low high (take 1 es)
first_placed low high [] p = p
first_placed low high (e ∷ es) p = (p.0, p.1, row_room (span_of e).end high es p.2)

-- the expressions of a tuple's pairs
pairs_placed : (low high : ℕ) (ps : Pairs) → ArePairsPlaced low high ps → RowPlaced low high (map (λ (p : List ℕ × Tree). p.1) (pairs_of ps))
pairs_placed low high NoPair p = p
pairs_placed low high (Pair k e ps) p = (p.0, p.1, pairs_placed (span_of e).end high ps p.2)

-- ---- bindings

-- a binding's expression stands in the binding
abbrev BindingPlaced : Tree → Option (List ℕ × Tree) → Type 0
BindingPlaced e None = Unit {0}
BindingPlaced e (Some b) = ((span_of e).start ≤ (span_of b.1).start) × ((span_of b.1).end < (span_of e).end) × IsPlaced b.1

binding_placed : (e : Tree) → IsPlaced e → BindingPlaced e (binding_of e)
binding_placed (ListAt (Then (LeafAt (Named x) at) (Then e Empty)) s) p = (omega (arith, p.0, p.1, p.2.0), p.2.2, p.2.1)
binding_placed e p = tt

-- the expressions of bindings, one after another
abbrev expressions : List (List ℕ × Tree) → List Tree
expressions = map (λ (p : List ℕ × Tree). p.1)

binding_step : (low high : ℕ) (e : Tree) (ps : List (List ℕ × Tree)) (o : Option (List ℕ × Tree)) → low ≤ (span_of e).start → IsPlaced e → BindingPlaced e o → RowPlaced (span_of e).end high (expressions ps) → RowPlaced low high (expressions (cons_option o ps))
binding_step low high e ps None h q b r = row_after low (span_of e).end high (expressions ps) (omega (arith, h, tree_room e q)) r
binding_step low high e ps (Some p) h q b r = (omega (arith, h, b.0), b.2, row_after (span_of p.1).end (span_of e).end high (expressions ps) (omega (arith, b.1)) r)

bindings_placed : (low high : ℕ) (es : List Tree) → RowPlaced low high es → RowPlaced low high (expressions (filter_map binding_of es))
bindings_placed low high [] p = p
bindings_placed low high (e ∷ es) p =
    binding_step low high e (filter_map binding_of es) (binding_of e) p.0 p.1 (binding_placed e p.1) (bindings_placed (span_of e).end high es p.2)

let_plan_placed : (body : List Tree) (B : Names) (low mid high : ℕ) (ps : List (List ℕ × Tree)) → RowPlaced low mid (expressions ps) → RowPlaced mid high body → PlanPlaced low high (let_plan body B ps)
let_plan_placed body B low mid high [] p q = plan_after low mid high (parts B body) (omega (arith, p)) (parts_placed B mid high body q)
let_plan_placed body B low mid high (b ∷ ps) p q = (
  p.0,
  omega (arith, row_room (span_of b.1).end mid (expressions ps) p.2, row_room mid high body q),
  p.1,
  λ f. let_plan_placed body (bind b.0 f.type B) (span_of b.1).end mid high ps p.2 q,
)

let_placed : (row : Row) (G : Context) (B : Names) (low high : ℕ) (es : List Tree) → RowPlaced low high es → PlanPlaced low high (let_shape row G B es).plan
let_placed row G B low high (ListAt bs s ∷ body) p =
    plan_after low s.start high _ p.0 (let_plan_placed body B s.start s.end high (filter_map binding_of (trees_of bs)) (bindings_placed s.start s.end (trees_of bs) (row_placed s.start s.end bs p.1)) p.2)
let_placed row G B low high es p = tt

-- ---- branches of match

optional_placed : (B : Names) (x : List ℕ) (low high : ℕ) (n a b : Tree) (t : PlainType) → RowPlaced low high (n ∷ a ∷ b ∷ []) → PlanPlaced low high (optional_plan B x a b t)
optional_placed B x low high n a b (OptionalType t) p = let q = rest_placed low high n (a ∷ b ∷ []) p in (q.0, row_room (span_of a).end high (b ∷ []) q.2, q.1, (q.2.0, q.2.2, q.2.1, tt))
optional_placed B x low high n a b t p = let q = rest_placed low high a (b ∷ []) (rest_placed low high n (a ∷ b ∷ []) p) in (q.0, q.2, q.1, tt)

response_placed : (B : Names) (x y : List ℕ) (low high : ℕ) (n a m b : Tree) (t : PlainType) → RowPlaced low high (n ∷ a ∷ m ∷ b ∷ []) → PlanPlaced low high (response_plan B x a y b t)
response_placed B x y low high n a m b (ResponseType t e) p =
    let q = rest_placed low high n (a ∷ m ∷ b ∷ []) p in
    let r = rest_placed (span_of a).end high m (b ∷ []) q.2 in
    (q.0, row_room (span_of a).end high (m ∷ b ∷ []) q.2, q.1, (r.0, r.2, r.1, tt))
response_placed B x y low high n a m b t p = tt

match_placed : (B : Names) (low high : ℕ) (es : List Tree) → RowPlaced low high es → PlanPlaced low high (match_plan B (match_of es))
match_placed B low high (i ∷ LeafAt (Named x) at ∷ a ∷ b ∷ []) p =
    (p.0, row_room (span_of i).end high (LeafAt (Named x) at ∷ a ∷ b ∷ []) p.2, p.1, λ f. optional_placed B x (span_of i).end high (LeafAt (Named x) at) a b f.type p.2)
match_placed B low high (i ∷ LeafAt (Named x) at ∷ a ∷ LeafAt (Named y) at' ∷ b ∷ []) p =
    (p.0, row_room (span_of i).end high (LeafAt (Named x) at ∷ a ∷ LeafAt (Named y) at' ∷ b ∷ []) p.2, p.1, λ f. response_placed B x y (span_of i).end high (LeafAt (Named x) at) a (LeafAt (Named y) at') b f.type p.2)
match_placed B low high es p = tt

-- ---- the table

token_placed : (act : TokenNative) (row : Row) (G : Context) (B : Names) (low high : ℕ) (es : List Tree) → RowPlaced low high es → PlanPlaced low high (token_shape act row G B es).plan
token_placed MintFt row G B low high es p = parts_placed B low high (drop 1 es) (dropped_placed low high 1 es p)
token_placed BurnFt row G B low high es p = parts_placed B low high (drop 1 es) (dropped_placed low high 1 es p)
token_placed SendFt row G B low high es p = parts_placed B low high (drop 1 es) (dropped_placed low high 1 es p)
token_placed MintNft row G B low high es p = parts_placed B low high (drop 1 es) (dropped_placed low high 1 es p)
token_placed BurnNft row G B low high es p = parts_placed B low high (drop 1 es) (dropped_placed low high 1 es p)
token_placed SendNft row G B low high es p = parts_placed B low high (drop 1 es) (dropped_placed low high 1 es p)
token_placed SendStx row G B low high es p = parts_placed B low high es p
token_placed BurnStx row G B low high es p = parts_placed B low high es p

head_placed : (h : Head) (row : Row) (G : Context) (B : Names) (low high : ℕ) (es : List Tree) → RowPlaced low high es → PlanPlaced low high (head_shape h row G B es).plan
unfolding head_shape
head_placed (OnValues n) row G B low high es p = parts_placed B low high es p
head_placed (OnToken act) row G B low high es p = token_placed act row G B low high es p
head_placed TupleOf row G B low high es p = parts_placed B low high (expressions (filter_map binding_of es)) (bindings_placed low high es p)
head_placed AsMaxLen row G B low high es p = parts_placed B low high (take 1 es) (first_placed low high es p)
head_placed Get row G B low high es p = parts_placed B low high (drop 1 es) (dropped_placed low high 1 es p)
head_placed VarGet row G B low high es p = parts_placed B low high (drop 1 es) (dropped_placed low high 1 es p)
head_placed VarSet row G B low high es p = parts_placed B low high (drop 1 es) (dropped_placed low high 1 es p)
head_placed MapGet row G B low high es p = parts_placed B low high (drop 1 es) (dropped_placed low high 1 es p)
head_placed MapSet row G B low high es p = parts_placed B low high (drop 1 es) (dropped_placed low high 1 es p)
head_placed MapInsert row G B low high es p = parts_placed B low high (drop 1 es) (dropped_placed low high 1 es p)
head_placed MapDelete row G B low high es p = parts_placed B low high (drop 1 es) (dropped_placed low high 1 es p)
head_placed FtBalance row G B low high es p = parts_placed B low high (drop 1 es) (dropped_placed low high 1 es p)
head_placed FtSupply row G B low high es p = parts_placed B low high (drop 1 es) (dropped_placed low high 1 es p)
head_placed StxBalance row G B low high es p = parts_placed B low high es p
head_placed NftOwner row G B low high es p = parts_placed B low high (drop 1 es) (dropped_placed low high 1 es p)
head_placed Print row G B low high es p = parts_placed B low high es p
head_placed If row G B low high es p = parts_placed B low high es p
head_placed Let row G B low high es p = let_placed row G B low high es p
head_placed Begin row G B low high es p = parts_placed B low high es p
head_placed And row G B low high es p = parts_placed B low high es p
head_placed Or row G B low high es p = parts_placed B low high es p
head_placed Asserts row G B low high es p = parts_placed B low high es p
head_placed Unwrap row G B low high es p = parts_placed B low high es p
head_placed UnwrapErr row G B low high es p = parts_placed B low high es p
head_placed Try row G B low high es p = parts_placed B low high es p
head_placed Match row G B low high es p = match_placed B low high es p
head_placed AsContract row G B low high es p = parts_placed B low high es p
head_placed Map row G B low high es p = parts_placed B low high (drop 1 es) (dropped_placed low high 1 es p)
head_placed Filter row G B low high es p = parts_placed B low high (drop 1 es) (dropped_placed low high 1 es p)
head_placed Fold row G B low high es p = parts_placed B low high (drop 1 es) (dropped_placed low high 1 es p)
head_placed ContractCall row G B low high es p = parts_placed B low high (drop 2 es) (dropped_placed low high 2 es p)

operator_placed : (o : Option Row) (f : Option Signature) (G : Context) (B : Names) (low high : ℕ) (es : List Tree) → RowPlaced low high es → PlanPlaced low high (operator_shape o f G B es).plan
operator_placed (Some row) f G B low high es p = head_placed row.head row G B low high es p
operator_placed None (Some f) G B low high es p = parts_placed B low high es p
operator_placed None None G B low high es p = tt

value_placed : (o : Option PlainType) (s : Shape) (low high : ℕ) → PlanPlaced low high s.plan → PlanPlaced low high (value_or o s).plan
value_placed (Some t) s low high p = tt
value_placed None s low high p = p

keyword_placed : (o : Option Keyword) (s : Shape) (low high : ℕ) → PlanPlaced low high s.plan → PlanPlaced low high (keyword_or o s).plan
keyword_placed (Some k) s low high p = tt
keyword_placed None s low high p = p

leaf_placed : (G : Context) (B : Names) (l : Leaf) (low high : ℕ) → PlanPlaced low high (leaf_shape G B l).plan
leaf_placed G B (Named x) low high = keyword_placed (keyword_of x) _ low high (value_placed (named_in x B) _ low high (value_placed (named_in x G.constants) (no_value_shape (is_no_value G x)) low high tt))
leaf_placed G B (Signed z) low high = tt
leaf_placed G B (Unsigned n) low high = tt
leaf_placed G B (Bytes bs) low high = tt
leaf_placed G B (Ascii cs) low high = tt
leaf_placed G B (Unicode cs) low high = tt
leaf_placed G B (Standing q) low high = tt
leaf_placed G B (Local n) low high = tt

pub shape_placed : (G : Context) (B : Names) (e : Tree) → IsPlaced e → PlanPlaced (span_of e).start (span_of e).end (shape G B e).plan
unfolding shape
shape_placed G B (LeafAt l s) p = leaf_placed G B l s.start s.end
shape_placed G B (TupleAt ps s) p = parts_placed B s.start s.end (expressions (pairs_of ps)) (pairs_placed s.start s.end ps p)
shape_placed G B (ListAt (Then (LeafAt (Named x) u) args) s) p =
    operator_placed (native G.version x) (signature_in x G.functions) G B s.start s.end (trees_of args) (rest_placed s.start s.end (LeafAt (Named x) u) (trees_of args) (row_placed s.start s.end (Then (LeafAt (Named x) u) args) p))
shape_placed G B (ListAt es s) p = tt
