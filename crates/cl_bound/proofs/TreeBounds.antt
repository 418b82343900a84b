-- Bounds of typed trees from those of their parts.
use Rattle.std.proofs.Common.{◌≡◌, ◌≢◌, ℕ, arith, ◌+◌, ◌<◌, ◌≤◌, true, List, [], ◌∷◌, length, map, drop, get_or, refl, ap, sym, subst, ◌∙◌}
use Rattle.std.proofs.lemmas.List.{length-map, drop_all}
use Rattle.cl_types.specs.Types.{PlainType}
use Rattle.cl_shapes.specs.Costs.{plus, greater, zero_cost}
use Rattle.cl_shapes.specs.declared.cost.Cost5.{Cost5}
use Rattle.cl_sums.specs.declared.sum.Sum.{Sum}
use Rattle.cl_sums.specs.Sums.{told, Increases}
use Rattle.cl_sexpr.specs.declared.sexpr.Span.{Span}
use Rattle.cl_rules.specs.Bills.{Bill, Charge, Both, cost_under}
use Rattle.cl_rules.specs.Context.{Context, Names, CostTable}
use Rattle.cl_rules.specs.Verdicts.{Found, type_at, types_of, sum_of}
use Rattle.cl_rules.specs.Table.{shape}
use Rattle.cl_rules.specs.Shapes.{Plan, Ends, Part, Gives}
use Rattle.cl_code.specs.declared.op.Op.{Op}
use Rattle.cl_code.specs.Nodes.{has_own_name, versions_of}
use Rattle.cl_code.proofs.Versions.{has_goes}
use Rattle.cl_code.specs.Expression.{expression}
use Rattle.cl_code.specs.Typed.{Typed, TypedAs, typeds, expression_of, type_of}
use Rattle.cl_contracts.specs.Standing.{Stands, StandAll}
use Rattle.cl_types.specs.Types.{size_of}
use Rattle.cl_values.proofs.Lists.{rest_of}
use Rattle.cl_shapes.specs.declared.name.CostName.TheVariants.{Bind, Define}
use Rattle.cl_bound.specs.declared.branches.Branch.{Branch}
use Rattle.cl_bound.specs.declared.branches.Branch.TheVariants.{Good, Bad}
use Rattle.cl_bound.specs.Own.{own, inside, good_part, bad_part, branch_by, of_branches}
use Rattle.cl_bound.proofs.Adding.{Adds, adds_more, adds_end, both_more, all_more}
use Rattle.cl_bound.proofs.OpCharges.{op_charges}

type_stands : (G : Context) (B : Names) (q : Typed) (f : Found) → Stands G B q f → f.type ≡ type_of q
type_stands G B (TypedAs e t vs ps) f s = sym s.5

pub types_stand : (G : Context) (p : Plan) (qs : List Typed) (fs : List Found) → StandAll G p (typeds qs) fs → types_of fs ≡ map type_of qs
types_stand G Ends [] [] s = refl
types_stand G Ends [] (f ∷ fs) s = absurd s
types_stand G Ends (q ∷ qs) fs s = absurd s
types_stand G (Part B e p) [] fs s = absurd s
types_stand G (Part B e p) (q ∷ qs) [] s = absurd s
types_stand G (Part B e p) (q ∷ qs) (f ∷ fs) s = λ i. type_stands G B q f s.1 i ∷ types_stand G p qs fs s.2 i
types_stand G (Gives B e k) [] fs s = absurd s
types_stand G (Gives B e k) (q ∷ qs) [] s = absurd s
types_stand G (Gives B e k) (q ∷ qs) (f ∷ fs) s = λ i. type_stands G B q f s.1 i ∷ types_stand G (k f) qs fs s.2 i

counts : (fs : List Found) (qs : List Typed) → types_of fs ≡ map type_of qs → length fs ≡ length (map expression_of qs)
counts fs qs same = sym (length-map fs type_at) ∙ ap length same ∙ length-map qs type_of ∙ sym (length-map qs expression_of)

-- the bound of a tree is more, where its own charges are and then what is inside
pub bound_is : (G : Context) (B : Names) (f : Found) (table : CostTable) (op : Op) (qs : List Typed) (at : Span) (t : PlainType) (code : Typed) (old mine new : Sum) → has_own_name op ≡ true → TypedAs (expression op (map expression_of qs) at) t (versions_of op) (typeds qs) ≡ code → Stands G B code f →
    Increases old mine (cost_under table (own G op t (map type_of qs))) →
    ((p : Plan) (fs : List Found) → StandAll G p (typeds qs) fs → Increases mine new (cost_under table (inside op fs))) → Increases old new (cost_under table f.bound)
bound_is G B f table op qs at t code old mine new named is stands own_more inside_more =
    let s : Stands G B (TypedAs (expression op (map expression_of qs) at) t (versions_of op) (typeds qs)) f = subst (λ (q : Typed). Stands G B q f) (sym is) stands in
    let types = types_stand G (shape G B (expression op (map expression_of qs) at)).plan qs s.0 s.2 in
    subst (Increases old new)
    (ap (cost_under table)
    ((λ i. Both (own G op (s.5 i) (sym types i)) (inside op s.0))
    ∙ ap (λ (u : PlainType). Both (own G op u (types_of s.0)) (inside op s.0)) (sym (ap type_at s.4))
    ∙ sym (op_charges G B op (map expression_of qs) at named (sym (has_goes G.version op) ∙ s.6) s.0 s.1 (counts s.0 qs types) s.3)
    ∙ ap (λ (g : Found). g.bound) s.4))
    (both_more old mine new (cost_under table (own G op t (map type_of qs))) (cost_under table (inside op s.0)) own_more (inside_more (shape G B (expression op (map expression_of qs) at)).plan s.0 s.2))

-- ---- parts one by one

-- after the first parts, which are added to a sum, the rest stand
abbrev pub Sums : Context → CostTable → List Typed → List Typed → Sum → Sum → Type 0
Sums G table whole rest old sum = (a : Cost5) → old ≡ told a → (p : Plan) (fs : List Found) → StandAll G p (typeds whole) fs → (q : Plan) × (gs : List Found) × StandAll G q (typeds rest) gs × Adds (plus a (cost_under table (sum_of fs))) (cost_under table (sum_of gs)) sum

pub sums_none : (G : Context) (table : CostTable) (whole : List Typed) (old : Sum) → Sums G table whole whole old old
sums_none G table whole old a is p fs stand = (p, fs, stand, (a, is, refl))

-- this is more by the bound of a tree, whatever stands for it
abbrev pub BoundMore : Context → CostTable → Typed → Sum → Sum → Type 0
BoundMore G table code old new = (B : Names) (f : Found) → Stands G B code f → Increases old new (cost_under table f.bound)

one_more : (G : Context) (table : CostTable) (whole : Cost5) (q : Typed) (rest : List Typed) (p : Plan) (fs : List Found) (s u : Sum) → BoundMore G table q s u → StandAll G p (typeds (q ∷ rest)) fs → Adds whole (cost_under table (sum_of fs)) s → (r : Plan) × (gs : List Found) × StandAll G r (typeds rest) gs × Adds whole (cost_under table (sum_of gs)) u
one_more G table whole q rest Ends fs s u more stand adds = absurd stand
one_more G table whole q rest (Part B e p) [] s u more stand adds = absurd stand
one_more G table whole q rest (Part B e p) (f ∷ fs) s u more stand adds = (p, fs, stand.2, adds_more whole (cost_under table f.bound) (cost_under table (sum_of fs)) s u adds (more B f stand.1))
one_more G table whole q rest (Gives B e k) [] s u more stand adds = absurd stand
one_more G table whole q rest (Gives B e k) (f ∷ fs) s u more stand adds = (k f, fs, stand.2, adds_more whole (cost_under table f.bound) (cost_under table (sum_of fs)) s u adds (more B f stand.1))

pub sums_turn : (G : Context) (table : CostTable) (whole : List Typed) (i : ℕ) (q : Typed) (old s u : Sum) → i < length whole → get_or whole i q ≡ q → BoundMore G table q s u → Sums G table whole (drop i whole) old s → Sums G table whole (drop (i + 1) whole) old u
sums_turn G table whole i q old s u lt at more so_far a is p fs stand =
    let here = so_far a is p fs stand in
    one_more G table (plus a (cost_under table (sum_of fs))) q (drop (i + 1) whole) here.0 here.1 s u more (subst (λ (qs : List Typed). StandAll G here.0 (typeds qs) here.1) (rest_of whole i q lt at) here.2) here.3

none_left : (G : Context) (p : Plan) (fs : List Found) → StandAll G p (typeds []) fs → fs ≡ []
none_left G Ends [] stand = refl
none_left G Ends (f ∷ fs) stand = absurd stand
none_left G (Part B e p) fs stand = absurd stand
none_left G (Gives B e k) fs stand = absurd stand

pub sums_end : (G : Context) (table : CostTable) (whole : List Typed) (i : ℕ) (old s : Sum) (p : Plan) (fs : List Found) → length whole ≤ i → Sums G table whole (drop i whole) old s → StandAll G p (typeds whole) fs → Increases old s (cost_under table (sum_of fs))
sums_end G table whole i old s p fs far so_far stand a is =
    let here = so_far a is p fs stand in
    let none = none_left G here.0 here.1 (subst (λ (qs : List Typed). StandAll G here.0 (typeds qs) here.1) (drop_all i whole far) here.2) in
    adds_end (plus a (cost_under table (sum_of fs))) s (subst (λ (gs : List Found). Adds (plus a (cost_under table (sum_of fs))) (cost_under table (sum_of gs)) s) none here.3)

-- ---- branches

pub good_sum : (table : CostTable) (f : Found) (t : PlainType) (b : Branch) (n : ℕ) (s i u : Sum) → b ≡ Good → n ≡ size_of (good_part t) → s ≡ told (cost_under table (Charge Bind n)) → i ≡ told (cost_under table f.bound) → ((x y : Cost5) → s ≡ told x → i ≡ told y → u ≡ told (plus x y)) → u ≡ told (cost_under table (branch_by b t f))
good_sum table f t b n s i u b_is n_is s_is i_is add = add (cost_under table (Charge Bind (size_of (good_part t)))) (cost_under table f.bound) (s_is ∙ ap (λ (m : ℕ). told (cost_under table (Charge Bind m))) n_is) i_is ∙ ap (λ (c : Branch). told (cost_under table (branch_by c t f))) (sym b_is)

pub bad_sum : (table : CostTable) (f : Found) (t : PlainType) (b : Branch) (n : ℕ) (s i u : Sum) → b ≡ Bad → n ≡ size_of (bad_part t) → s ≡ told (cost_under table (Charge Bind n)) → i ≡ told (cost_under table f.bound) → ((x y : Cost5) → s ≡ told x → i ≡ told y → u ≡ told (plus x y)) → u ≡ told (cost_under table (branch_by b t f))
bad_sum table f t b n s i u b_is n_is s_is i_is add = add (cost_under table (Charge Bind (size_of (bad_part t)))) (cost_under table f.bound) (s_is ∙ ap (λ (m : ℕ). told (cost_under table (Charge Bind m))) n_is) i_is ∙ ap (λ (c : Branch). told (cost_under table (branch_by c t f))) (sym b_is)

next_stands : (G : Context) (p : Plan) (q : Typed) (rest : List Typed) (fs : List Found) → StandAll G p (typeds (q ∷ rest)) fs → (r : Plan) × (gs : List Found) × (f : Found) × (B : Names) × (fs ≡ f ∷ gs) × Stands G B q f × StandAll G r (typeds rest) gs
next_stands G Ends q rest fs s = absurd s
next_stands G (Part B e p) q rest [] s = absurd s
next_stands G (Part B e p) q rest (f ∷ fs) s = (p, fs, f, B, refl, s.1, s.2)
next_stands G (Gives B e k) q rest [] s = absurd s
next_stands G (Gives B e k) q rest (f ∷ fs) s = (k f, fs, f, B, refl, s.1, s.2)

three_are : (qs : List Typed) (x y z : Typed) → 3 ≤ length qs → length qs < 4 → get_or qs 0 x ≡ x → get_or qs 1 y ≡ y → get_or qs 2 z ≡ z → qs ≡ x ∷ y ∷ z ∷ []
three_are [] x y z least most h k l = absurd (omega (arith, least))
three_are (a ∷ []) x y z least most h k l = absurd (omega (arith, least))
three_are (a ∷ b ∷ []) x y z least most h k l = absurd (omega (arith, least))
three_are (a ∷ b ∷ c ∷ []) x y z least most h k l = λ i. h i ∷ k i ∷ l i ∷ []
three_are (a ∷ b ∷ c ∷ d ∷ qs) x y z least most h k l = absurd (omega (arith, most))

pub three_sum : (G : Context) (table : CostTable) (first second : Branch) (qs : List Typed) (x y z : Typed) (ty : PlainType) (always bound_a bound_b a b most sum : Sum) → 3 ≤ length qs → length qs < 4 → get_or qs 0 x ≡ x → get_or qs 1 y ≡ y → get_or qs 2 z ≡ z → type_of x ≡ ty →
    BoundMore G table x (told zero_cost) always → BoundMore G table y (told zero_cost) bound_a → BoundMore G table z (told zero_cost) bound_b →
    ((f : Found) → bound_a ≡ told (cost_under table f.bound) → a ≡ told (cost_under table (branch_by first ty f))) →
    ((f : Found) → bound_b ≡ told (cost_under table f.bound) → b ≡ told (cost_under table (branch_by second ty f))) →
    ((m n : Cost5) → a ≡ told m → b ≡ told n → most ≡ told (greater m n)) →
    ((m n : Cost5) → always ≡ told m → most ≡ told n → sum ≡ told (plus m n)) →
    (p : Plan) (fs : List Found) → StandAll G p (typeds qs) fs → sum ≡ told (cost_under table (of_branches (branch_by first) (branch_by second) fs))
three_sum G table first second qs x y z ty always bound_a bound_b a b most sum least few at_x at_y at_z type is_x is_y is_z is_a is_b is_most add p fs stand =
    let one = next_stands G p x (y ∷ z ∷ []) fs (subst (λ (rs : List Typed). StandAll G p (typeds rs) fs) (three_are qs x y z least few at_x at_y at_z) stand) in
    let two = next_stands G one.0 y (z ∷ []) one.1 one.6 in
    let three = next_stands G two.0 z [] two.1 two.6 in
    let none = none_left G three.0 three.1 three.6 in
    let all : fs ≡ one.2 ∷ two.2 ∷ three.2 ∷ [] = one.4 ∙ ap (λ (gs : List Found). one.2 ∷ gs) (two.4 ∙ ap (λ (gs : List Found). two.2 ∷ gs) (three.4 ∙ ap (λ (gs : List Found). three.2 ∷ gs) none)) in
    let kind : ty ≡ one.2.type = sym type ∙ sym (type_stands G one.3 x one.2 one.5) in
    add (cost_under table one.2.bound) (greater (cost_under table (branch_by first ty two.2)) (cost_under table (branch_by second ty three.2))) (all_more always (cost_under table one.2.bound) (is_x one.3 one.2 one.5))
    (is_most (cost_under table (branch_by first ty two.2)) (cost_under table (branch_by second ty three.2))
    (is_a two.2 (all_more bound_a (cost_under table two.2.bound) (is_y two.3 two.2 two.5))) (is_b three.2 (all_more bound_b (cost_under table three.2.bound) (is_z three.3 three.2 three.5))))
    ∙ ap (λ (t : PlainType). told (plus (cost_under table one.2.bound) (greater (cost_under table (branch_by first t two.2)) (cost_under table (branch_by second t three.2))))) kind
    ∙ ap (λ (gs : List Found). told (cost_under table (of_branches (branch_by first) (branch_by second) gs))) (sym all)

odd_branches : (first second : PlainType → Found → Bill) (fs : List Found) (table : CostTable) → length fs ≢ 3 → zero_cost ≡ cost_under table (of_branches first second fs)
odd_branches first second [] table odd = refl
odd_branches first second (i ∷ []) table odd = refl
odd_branches first second (i ∷ a ∷ []) table odd = refl
odd_branches first second (i ∷ a ∷ b ∷ []) table odd = absurd (odd refl)
odd_branches first second (i ∷ a ∷ b ∷ c ∷ fs) table odd = refl

pub no_branches : (G : Context) (table : CostTable) (first second : Branch) (qs : List Typed) (p : Plan) (fs : List Found) → length qs ≢ 3 → StandAll G p (typeds qs) fs → told zero_cost ≡ told (cost_under table (of_branches (branch_by first) (branch_by second) fs))
no_branches G table first second qs p fs odd stand = ap told (odd_branches (branch_by first) (branch_by second) fs table (λ h. odd (sym (sym (length-map fs type_at) ∙ ap length (types_stand G p qs fs stand) ∙ length-map qs type_of) ∙ h)))

-- a value that is defined is charged by the size of its type
pub value_sum : (G : Context) (f : Found) (table : CostTable) (code : Typed) (ty : PlainType) (n : ℕ) (s u : Sum) → Stands G [] code f → type_of code ≡ ty → n ≡ size_of ty → s ≡ told (cost_under table f.bound) → Increases s u (cost_under table (Charge Define n)) → u ≡ told (plus (cost_under table f.bound) (cost_under table (Charge Define (size_of f.type))))
value_sum G f table code ty n s u stands type count s_is more =
    let kind : ty ≡ f.type = sym type ∙ sym (type_stands G [] code f stands) in
    subst (λ (m : ℕ). Increases s u (cost_under table (Charge Define m))) (count ∙ ap size_of kind) more (cost_under table f.bound) s_is
