-- Walks over plans.
use Rattle.std.proofs.Common.{◌≡◌, ℕ, zero, suc, ◌+◌, ◌<◌, ◌≤◌, List, [], ◌∷◌, ◌++◌, map, length, drop, take, get_or, Ok, Err, refl, ap, sym, subst, ◌∙◌, arith, append_assoc}
use Rattle.std.proofs.lemmas.List.{drop_all, take_more, take_all}
use Rattle.cl_sexpr.specs.ViewFalls.{part_falls}
use Rattle.cl_code.specs.Typed.{Typed, Typeds, TypedAs, NoTyped, MoreTyped, typeds, expression_of}
use Rattle.std.specs.Global.{Vec}
use Rattle.cl_types.specs.declared.fault.Fault.{Fault}
use Rattle.cl_types.specs.declared.fault.Fault.TheVariants.{Refused, NoMemory}
use Rattle.cl_values.proofs.Lists.{rest_of}
use Rattle.cl_sexpr.specs.declared.rule.Break.{Break}
use Rattle.cl_sexpr.specs.Tree.{Tree, forest, tree_depth, forest_depth, tree_size, forest_size}
use Rattle.cl_rules.specs.Context.{Context, Names}
use Rattle.cl_rules.specs.Verdicts.{Found}
use Rattle.cl_rules.specs.Shapes.{Plan, Ends, Part, Gives, parts}
use Rattle.cl_rules.specs.Table.{shape}
use Rattle.cl_contracts.specs.Standing.{Stands, StandAll}
use Rattle.cl_rules.specs.Judging.{Judged, Holds, Fails, Deeper, and_judged, walked, judged}
use Rattle.cl_judging.specs.declared.context.Context.{Context as CodeContext}
use Rattle.cl_typing.specs.declared.concluding.Checked.{Checked}
use Rattle.cl_typing.specs.Verdicts.{Facts, facts, facts_of, texts_of}
use Rattle.cl_judging.specs.Seen.{Shows}
use Rattle.cl_judging.specs.Walking.{codes_of, StandsBy, Checks, ChecksAll, prepended, trees_before, Walked}

prepend_none : (j : Judged (List Found)) → j ≡ prepended [] j
prepend_none (Holds fs) = refl
prepend_none (Fails r s) = refl
prepend_none Deeper = refl

pub walked_none : (c : CodeContext) (p : Plan) (deep : ℕ) → Walked c p p deep []
walked_none c p deep G d shows enough = ([], refl, prepend_none (walked (judged d G) p), λ qs gs s. s)

prepend_more : (fs : List Found) (f : Found) (j : Judged (List Found)) → prepended fs (and_judged j (λ gs. Holds (f ∷ gs))) ≡ prepended (fs ++ f ∷ []) j
prepend_more fs f (Holds gs) = ap (λ (hs : List Found). Holds hs) (sym (append_assoc fs (f ∷ []) gs))
prepend_more fs f (Fails r s) = refl
prepend_more fs f Deeper = refl

facts_more : (fs : List Found) (f : Found) (cs : List Checked) (x : Checked) → map facts fs ≡ map facts_of cs → facts f ≡ facts_of x → map facts (fs ++ f ∷ []) ≡ map facts_of (cs ++ x ∷ [])
facts_more [] f [] x h k = ap (λ (y : Facts). y ∷ []) k
facts_more [] f (c ∷ cs) x h k = absurd cc
facts_more (g ∷ fs) f [] x h k = absurd cc
facts_more (g ∷ fs) f (c ∷ cs) x h k =
    let first : facts g ≡ facts_of c = cc in
    let rest : map facts fs ≡ map facts_of cs = cc in
    ap (λ (y : Facts). y ∷ map facts (fs ++ f ∷ [])) first ∙ ap (λ (ys : List Facts). facts_of c ∷ ys) (facts_more fs f cs x rest k)

-- a tree that stands for an expression's shape stands for the expression
stands_as : (G : Context) (B : Names) (e : Tree) (q : Typed) (f : Found) → expression_of q ≡ e → StandsBy G (shape G B e) q f → Stands G B q f
stands_as G B e (TypedAs d t vs ps) f is s = subst (λ (x : Tree). StandsBy G (shape G B x) (TypedAs d t vs ps) f) (sym is) s

pub stands_whole : (G : Context) (B : Names) (e : Tree) (x : Checked) (f : Found) → expression_of x.code ≡ e → StandsBy G (shape G B e) x.code f → Stands G B x.code f
stands_whole G B e x f is s = stands_as G B e x.code f is s

before_more : (cs : List Checked) (x : Checked) (qs : Typeds) → trees_before cs (MoreTyped x.code qs) ≡ trees_before (cs ++ x ∷ []) qs
before_more [] x qs = refl
before_more (c ∷ cs) x qs = ap (MoreTyped c.code) (before_more cs x qs)

before_all : (cs : List Checked) → trees_before cs NoTyped ≡ typeds (codes_of cs)
before_all [] = refl
before_all (c ∷ cs) = ap (MoreTyped c.code) (before_all cs)

-- what stands for the rest behind one more part stands behind those before
stand_more : (G : Context) (whole : Plan) (cs : List Checked) (x : Checked) (fs : List Found) (f : Found) (qs : Typeds) (gs : List Found) → StandAll G whole (trees_before cs (MoreTyped x.code qs)) (fs ++ f ∷ gs) → StandAll G whole (trees_before (cs ++ x ∷ []) qs) ((fs ++ f ∷ []) ++ gs)
stand_more G whole cs x fs f qs gs s =
    subst (λ (hs : List Found). StandAll G whole (trees_before (cs ++ x ∷ []) qs) hs) (sym (append_assoc fs (f ∷ []) gs))
    (subst (λ (ts : Typeds). StandAll G whole ts (fs ++ f ∷ gs)) (before_more cs x qs) s)

-- one part further
pub walked_part : (c : CodeContext) (whole rest : Plan) (B : Names) (e : Tree) (deep : ℕ) (cs : List Checked) (x : Checked) → tree_depth e < deep → expression_of x.code ≡ e → Checks c B e (Ok x) → Walked c whole (Part B e rest) deep cs → Walked c whole rest deep (cs ++ x ∷ [])
walked_part c whole rest B e deep cs x less text h so_far G d shows enough =
    let found = h G d shows (omega (arith, less, enough)) in
    let before = so_far G d shows enough in (
      before.0 ++ found.0 ∷ [],
      facts_more before.0 found.0 cs x before.1 found.2,
      before.2 ∙ ap (λ (j : Judged Found). prepended before.0 (and_judged j (λ f. and_judged (walked (judged d G) rest) (λ fs. Holds (f ∷ fs))))) found.1 ∙ prepend_more before.0 found.0 (walked (judged d G) rest),
      λ qs gs s. stand_more G whole cs x before.0 found.0 qs gs (before.3 (MoreTyped x.code qs) (found.0 ∷ gs) (text, stands_whole G B e x found.0 text found.3, s)),
    )

-- one part further, which the rest needs
pub walked_gives : (c : CodeContext) (whole rest : Plan) (k : Found → Plan) (B : Names) (e : Tree) (deep : ℕ) (cs : List Checked) (x : Checked) → tree_depth e < deep → expression_of x.code ≡ e → Checks c B e (Ok x) → ((f : Found) → facts f ≡ facts_of x → k f ≡ rest) → Walked c whole (Gives B e k) deep cs → Walked c whole rest deep (cs ++ x ∷ [])
walked_gives c whole rest k B e deep cs x less text h next so_far G d shows enough =
    let found = h G d shows (omega (arith, less, enough)) in
    let before = so_far G d shows enough in (
      before.0 ++ found.0 ∷ [],
      facts_more before.0 found.0 cs x before.1 found.2,
      before.2 ∙ ap (λ (j : Judged Found). prepended before.0 (and_judged j (λ f. and_judged (walked (judged d G) (k f)) (λ fs. Holds (f ∷ fs))))) found.1
          ∙ ap (λ (p : Plan). prepended before.0 (and_judged (walked (judged d G) p) (λ fs. Holds (found.0 ∷ fs)))) (next found.0 found.2)
          ∙ prepend_more before.0 found.0 (walked (judged d G) rest),
      λ qs gs s. stand_more G whole cs x before.0 found.0 qs gs (before.3 (MoreTyped x.code qs) (found.0 ∷ gs) (text, stands_whole G B e x found.0 text found.3, subst (λ (p : Plan). StandAll G p qs gs) (sym (next found.0 found.2)) s)),
    )

-- the walk stops in a part
pub part_fails : (c : CodeContext) (whole rest : Plan) (B : Names) (e : Tree) (deep : ℕ) (cs : List Checked) (f : Fault Break) → tree_depth e < deep → Checks c B e (Err f) → Walked c whole (Part B e rest) deep cs → ChecksAll c whole deep (Err f)
part_fails c whole rest B e deep cs (Refused b) less h so_far G d shows enough =
    let before = so_far G d shows enough in
    before.2 ∙ ap (λ (j : Judged Found). prepended before.0 (and_judged j (λ f. and_judged (walked (judged d G) rest) (λ fs. Holds (f ∷ fs))))) (h G d shows (omega (arith, less, enough)))
part_fails c whole rest B e deep cs NoMemory less h so_far G d shows enough = tt

pub given_fails : (c : CodeContext) (whole : Plan) (k : Found → Plan) (B : Names) (e : Tree) (deep : ℕ) (cs : List Checked) (f : Fault Break) → tree_depth e < deep → Checks c B e (Err f) → Walked c whole (Gives B e k) deep cs → ChecksAll c whole deep (Err f)
given_fails c whole k B e deep cs (Refused b) less h so_far G d shows enough =
    let before = so_far G d shows enough in
    before.2 ∙ ap (λ (j : Judged Found). prepended before.0 (and_judged j (λ f. and_judged (walked (judged d G) (k f)) (λ fs. Holds (f ∷ fs))))) (h G d shows (omega (arith, less, enough)))
given_fails c whole k B e deep cs NoMemory less h so_far G d shows enough = tt

append_none : (fs : List Found) → fs ++ [] ≡ fs
append_none [] = refl
append_none (f ∷ fs) = ap (λ (gs : List Found). f ∷ gs) (append_none fs)

-- the plan is at its end
pub walked_all : (c : CodeContext) (whole : Plan) (deep : ℕ) (cs : List Checked) → Walked c whole Ends deep cs → (G : Context) (d : ℕ) → Shows c G → deep ≤ d → (fs : List Found) × (walked (judged d G) whole ≡ Holds fs) × (map facts fs ≡ map facts_of cs) × StandAll G whole (typeds (codes_of cs)) fs
walked_all c whole deep cs so_far G d shows enough =
    let all = so_far G d shows enough in (
      all.0,
      all.2 ∙ ap (λ (fs : List Found). Holds fs) (append_none all.0),
      all.1,
      subst (λ (fs : List Found). StandAll G whole (typeds (codes_of cs)) fs) (append_none all.0) (subst (λ (ts : Typeds). StandAll G whole ts (all.0 ++ [])) (before_all cs) (all.3 NoTyped [] tt)),
    )

pub walked_end : (c : CodeContext) (whole : Plan) (deep : ℕ) (v : Vec Checked) → Walked c whole Ends deep v.items → ChecksAll c whole deep (Ok v)
walked_end c whole deep v so_far G d shows enough = walked_all c whole deep v.items so_far G d shows enough

-- ---- parts that stand in a row

pub depth_falls : (ts : List Tree) (i : ℕ) (e : Tree) → i < length ts → get_or ts i e ≡ e → tree_depth e < forest_depth (forest ts) + 1
depth_falls [] i e lt at = absurd (omega (arith, lt))
depth_falls (t ∷ ts) zero e lt at = let same : tree_depth t ≡ tree_depth e = ap tree_depth at in omega (arith, same)
depth_falls (t ∷ ts) (suc i) e lt at = omega (arith, depth_falls ts i e (omega (arith, lt)) at)

pub parts_stop : (c : CodeContext) (B S : Names) (items : List Tree) (i : ℕ) (e : Tree) (cs : List Checked) (f : Fault Break) → i < length items → get_or items i e ≡ e → S ≡ B → Checks c S e (Err f) → Walked c (parts B items) (parts B (drop i items)) (forest_depth (forest items) + 1) cs → ChecksAll c (parts B items) (forest_depth (forest items) + 1) (Err f)
parts_stop c B S items i e cs f lt at same h so_far =
    part_fails c (parts B items) (parts B (drop (i + 1) items)) B e (forest_depth (forest items) + 1) cs f (depth_falls items i e lt at) (subst (λ (N : Names). Checks c N e (Err f)) same h)
    (subst (λ (ts : List Tree). Walked c (parts B items) (parts B ts) (forest_depth (forest items) + 1) cs) (rest_of items i e lt at) so_far)

pub parts_turn : (c : CodeContext) (B S : Names) (items : List Tree) (i : ℕ) (e : Tree) (cs ds : List Checked) (x : Checked) → i < length items → get_or items i e ≡ e → S ≡ B → expression_of x.code ≡ e → Checks c S e (Ok x) → ds ≡ cs ++ x ∷ [] → Walked c (parts B items) (parts B (drop i items)) (forest_depth (forest items) + 1) cs → Walked c (parts B items) (parts B (drop (i + 1) items)) (forest_depth (forest items) + 1) ds
parts_turn c B S items i e cs ds x lt at same text h grown so_far =
    subst (λ (ys : List Checked). Walked c (parts B items) (parts B (drop (i + 1) items)) (forest_depth (forest items) + 1) ys) (sym grown)
    (walked_part c (parts B items) (parts B (drop (i + 1) items)) B e (forest_depth (forest items) + 1) cs x (depth_falls items i e lt at) text (subst (λ (N : Names). Checks c N e (Ok x)) same h)
    (subst (λ (ts : List Tree). Walked c (parts B items) (parts B ts) (forest_depth (forest items) + 1) cs) (rest_of items i e lt at) so_far))

pub parts_end : (c : CodeContext) (B : Names) (items : List Tree) (i : ℕ) (v : Vec Checked) → length items ≤ i → Walked c (parts B items) (parts B (drop i items)) (forest_depth (forest items) + 1) v.items → ChecksAll c (parts B items) (forest_depth (forest items) + 1) (Ok v)
parts_end c B items i v far so_far =
    walked_end c (parts B items) (forest_depth (forest items) + 1) v (subst (λ (ts : List Tree). Walked c (parts B items) (parts B ts) (forest_depth (forest items) + 1) v.items) (drop_all i items far) so_far)

pub texts_more : (cs : List Checked) (x : Checked) → texts_of (cs ++ x ∷ []) ≡ texts_of cs ++ expression_of x.code ∷ []
texts_more [] x = refl
texts_more (c ∷ cs) x = ap (λ (ts : List Tree). expression_of c.code ∷ ts) (texts_more cs x)

pub texts_turn : (items : List Tree) (i : ℕ) (e : Tree) (cs ds : List Checked) (x : Checked) → i < length items → get_or items i e ≡ e → expression_of x.code ≡ e → ds ≡ cs ++ x ∷ [] → texts_of cs ≡ take i items → texts_of ds ≡ take (i + 1) items
texts_turn items i e cs ds x lt at text grown so_far =
    ap texts_of grown ∙ texts_more cs x ∙ (λ j. so_far j ++ text j ∷ []) ∙ ap (λ (y : Tree). take i items ++ y ∷ []) (sym at) ∙ sym (take_more items i e lt)

pub texts_end : (items : List Tree) (i : ℕ) (ts : List Tree) → length items ≤ i → ts ≡ take i items → ts ≡ items
texts_end items i ts far h = h ∙ take_all i items far

pub part_less : (items : List Tree) (i : ℕ) (e : Tree) → i < length items → get_or items i e ≡ e → tree_size e < forest_size (forest items)
part_less items i e lt at = let same : tree_size (get_or items i e) ≡ tree_size e = ap tree_size at in omega (arith, same, part_falls items i e lt)
