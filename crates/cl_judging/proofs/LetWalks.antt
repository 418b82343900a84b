-- The walk over a let.
use Rattle.std.proofs.Common.{◌≡◌, ℕ, ◌+◌, ◌<◌, ◌≤◌, Bool, true, false, List, [], ◌∷◌, ◌++◌, map, length, drop, take, get_or, filter_map, Option, Some, None, Ok, Err, refl, ap, sym, subst, ◌∙◌, arith, append_assoc}
use Rattle.std.specs.Prelude.{◌||◌, is_some, if◌then◌else◌}
use Rattle.std.proofs.lemmas.List.{drop_all, take_all, take_more}
use Rattle.cl_types.specs.Types.{PlainType, NoType}
use Rattle.cl_types.specs.declared.fault.Fault.{Fault}
use Rattle.cl_values.proofs.Lists.{rest_of}
use Rattle.cl_sexpr.specs.declared.rule.Break.{Break}
use Rattle.cl_sexpr.specs.Tree.{Tree, forest, tree_depth, forest_depth, tree_size, forest_size}
use Rattle.cl_forms.specs.Shapes.{binding_of, bindings_of, and_binding}
use Rattle.cl_rules.specs.Context.{Names, same, named_in, is_named, bind}
use Rattle.cl_forms.specs.Heads.{is_reserved}
use Rattle.cl_rules.specs.Shapes.{Plan, Ends, parts}
use Rattle.cl_rules.specs.ControlShapes.{bound_name}
use Rattle.cl_code.specs.declared.op.Binding.{Binding}
use Rattle.cl_code.specs.Expression.{binding, bound_items}
use Rattle.cl_code.specs.Typed.{expression_of, type_of}
use Rattle.cl_judging.specs.declared.context.Context.{Context as CodeContext}
use Rattle.cl_typing.specs.declared.concluding.Checked.{Checked}
use Rattle.cl_judging.specs.Seen.{taken_in, top_level_in, shadowed_in}
use Rattle.cl_typing.specs.Verdicts.{Facts, texts_of}
use Rattle.cl_judging.specs.Walking.{Checks, ChecksAll, Walked}
use Rattle.cl_judging.specs.LetWalk.{exprs_of, plan_of}
use Rattle.cl_judging.proofs.Lets.{not_taken}
use Rattle.cl_judging.proofs.Plans.{walked_part, part_fails, walked_gives, given_fails, depth_falls, part_less, texts_more}
use Rattle.cl_judging.proofs.BoundPairs.{both_false}
use Rattle.cl_judging.proofs.TupleShapes.{exprs_more}

append_none : {A : Type 0} (xs : List A) → xs ++ [] ≡ xs
append_none [] = refl
append_none {A = A} (x ∷ xs) = ap (λ (ys : List A). x ∷ ys) (append_none xs)

-- the rest of a row that begins with a binding
pub binding_rest : (items : List Tree) (i : ℕ) (item : Tree) (b : Binding) (e : Tree) → i < length items → get_or items i item ≡ item → item ≡ binding b e → drop i items ≡ binding b e ∷ drop (i + 1) items
binding_rest items i item b e lt at is = rest_of items i item lt at ∙ ap (λ (t : Tree). t ∷ drop (i + 1) items) is

pub bindings_turn : (items : List Tree) (i : ℕ) (item : Tree) (b : Binding) (e : Tree) (bs cs : List Binding) → i < length items → get_or items i item ≡ item → item ≡ binding b e → cs ≡ bs ++ b ∷ [] → ((rest : List Binding) → bound_items (bs ++ rest) (exprs_of items) ≡ take i items ++ bound_items rest (exprs_of (drop i items))) → (rest : List Binding) → bound_items (cs ++ rest) (exprs_of items) ≡ take (i + 1) items ++ bound_items rest (exprs_of (drop (i + 1) items))
bindings_turn items i item b e bs cs lt at is grown so_far rest =
    ap (λ (xs : List Binding). bound_items (xs ++ rest) (exprs_of items)) grown
    ∙ ap (λ (xs : List Binding). bound_items xs (exprs_of items)) (append_assoc bs (b ∷ []) rest)
    ∙ so_far (b ∷ rest)
    ∙ ap (λ (ts : List Tree). take i items ++ bound_items (b ∷ rest) (exprs_of ts)) (binding_rest items i item b e lt at is)
    ∙ sym (append_assoc (take i items) (binding b e ∷ []) (bound_items rest (exprs_of (drop (i + 1) items))))
    ∙ ap (λ (ts : List Tree). ts ++ bound_items rest (exprs_of (drop (i + 1) items))) (ap (λ (t : Tree). take i items ++ t ∷ []) (sym is ∙ sym at) ∙ sym (take_more items i item lt))

pub bindings_end : (items : List Tree) (i : ℕ) (bs : List Binding) → length items ≤ i → ((rest : List Binding) → bound_items (bs ++ rest) (exprs_of items) ≡ take i items ++ bound_items rest (exprs_of (drop i items))) → bound_items bs (exprs_of items) ≡ items
bindings_end items i bs far so_far =
    ap (λ (xs : List Binding). bound_items xs (exprs_of items)) (sym (append_none bs)) ∙ so_far [] ∙ append_none (take i items) ∙ take_all i items far

sound_tail : (t : Tree) (ts : List Tree) → is_some (bindings_of (t ∷ ts)) ≡ true → is_some (bindings_of ts) ≡ true
sound_tail t ts h = tail (binding_of t) (bindings_of ts) h
  where
    tail : (o : Option (List ℕ × Tree)) (p : Option (List (List ℕ × Tree))) → is_some (and_binding o p) ≡ true → is_some p ≡ true
    tail o (Some ps) h = refl
    tail None None h = absurd cc
    tail (Some q) None h = absurd cc

pub sound_next : (items : List Tree) (i : ℕ) (item : Tree) → i < length items → get_or items i item ≡ item → is_some (bindings_of (drop i items)) ≡ true → is_some (bindings_of (drop (i + 1) items)) ≡ true
sound_next items i item lt at h = sound_tail item (drop (i + 1) items) (sym (ap (λ (ts : List Tree). is_some (bindings_of ts)) (rest_of items i item lt at)) ∙ h)

-- an item that is no binding stands in no row of bindings
pub no_odd : (items : List Tree) (i : ℕ) (item : Tree) → i < length items → get_or items i item ≡ item → binding_of item ≡ None → is_some (bindings_of (drop i items)) ≡ true → ⊥
no_odd items i item lt at odd h = none_odd (binding_of item) (bindings_of (drop (i + 1) items)) odd (sym (ap (λ (ts : List Tree). is_some (bindings_of ts)) (rest_of items i item lt at)) ∙ h)
  where
    none_odd : (o : Option (List ℕ × Tree)) (p : Option (List (List ℕ × Tree))) → o ≡ None → is_some (and_binding o p) ≡ true → ⊥
    none_odd None None e h = cc
    none_odd None (Some ps) e h = cc
    none_odd (Some q) p e h = cc

-- ---- names that are taken depend on no types

named_same : (x : List ℕ) (S T : Names) → map (λ (p : List ℕ × PlainType). p.0) S ≡ map (λ (p : List ℕ × PlainType). p.0) T → is_named x S ≡ is_named x T
named_same x [] [] h = refl
named_same x [] (e ∷ T) h = absurd cc
named_same x (d ∷ S) [] h = absurd cc
named_same x (d ∷ S) (e ∷ T) h =
    let first : d.0 ≡ e.0 = cc in
    let rest : map (λ (p : List ℕ × PlainType). p.0) S ≡ map (λ (p : List ℕ × PlainType). p.0) T = cc in
    choose (same d.0 x) (same e.0 x) d.1 e.1 (named_in x S) (named_in x T) (ap (λ (k : List ℕ). same k x) first) (named_same x S T rest)
  where
    choose : (a b : Bool) (t u : PlainType) (o p : Option PlainType) → a ≡ b → is_some o ≡ is_some p → is_some (if a then Some t else o) ≡ is_some (if b then Some u else p)
    choose true true t u o p e h = refl
    choose false false t u o p e h = h
    choose true false t u o p e h = absurd cc
    choose false true t u o p e h = absurd cc

keys_bind : (S T : Names) (x : List ℕ) (t u : PlainType) → map (λ (p : List ℕ × PlainType). p.0) S ≡ map (λ (p : List ℕ × PlainType). p.0) T → map (λ (p : List ℕ × PlainType). p.0) (bind x t S) ≡ map (λ (p : List ℕ × PlainType). p.0) (bind x u T)
keys_bind [] [] x t u h = refl
keys_bind [] (e ∷ T) x t u h = absurd cc
keys_bind (d ∷ S) [] x t u h = absurd cc
keys_bind (d ∷ S) (e ∷ T) x t u h =
    let first : d.0 ≡ e.0 = cc in
    let rest : map (λ (p : List ℕ × PlainType). p.0) S ≡ map (λ (p : List ℕ × PlainType). p.0) T = cc in
    λ i. first i ∷ keys_bind S T x t u rest i

shadowed_same : (c : CodeContext) (xs : List (List ℕ)) (S T : Names) → map (λ (p : List ℕ × PlainType). p.0) S ≡ map (λ (p : List ℕ × PlainType). p.0) T → shadowed_in c S xs ≡ shadowed_in c T xs
shadowed_same c [] S T h = refl
shadowed_same c (x ∷ xs) S T h = λ i. (is_reserved c.version x || top_level_in c x || named_same x S T h i) || shadowed_same c xs (bind x NoType S) (bind x NoType T) (keys_bind S T x NoType NoType h) i

pub free_next : (c : CodeContext) (S T : Names) (t : PlainType) (items : List Tree) (i : ℕ) (item : Tree) (b : Binding) (e : Tree) → i < length items → get_or items i item ≡ item → item ≡ binding b e → T ≡ bind b.word.name t S → shadowed_in c S (filter_map bound_name (drop i items)) ≡ false → shadowed_in c T (filter_map bound_name (drop (i + 1) items)) ≡ false
free_next c S T t items i item b e lt at is grown h =
    ap (λ (U : Names). shadowed_in c U (filter_map bound_name (drop (i + 1) items))) grown
    ∙ shadowed_same c (filter_map bound_name (drop (i + 1) items)) (bind b.word.name t S) (bind b.word.name NoType S) (keys_bind S S b.word.name t NoType refl)
    ∙ (both_false (taken_in c S b.word.name) (shadowed_in c (bind b.word.name NoType S) (filter_map bound_name (drop (i + 1) items))) (sym (ap (λ (ts : List Tree). shadowed_in c S (filter_map bound_name ts)) (binding_rest items i item b e lt at is)) ∙ h)).1

pub free_here : (c : CodeContext) (S : Names) (items : List Tree) (i : ℕ) (item : Tree) (b : Binding) (e : Tree) → i < length items → get_or items i item ≡ item → item ≡ binding b e → shadowed_in c S (filter_map bound_name (drop i items)) ≡ false → named_in b.word.name S ≡ None
free_here c S items i item b e lt at is h =
    not_taken c S b.word.name
    (both_false (taken_in c S b.word.name) (shadowed_in c (bind b.word.name NoType S) (filter_map bound_name (drop (i + 1) items))) (sym (ap (λ (ts : List Tree). shadowed_in c S (filter_map bound_name ts)) (binding_rest items i item b e lt at is)) ∙ h)).0

-- before the first binding
pub nothing_bound : (B : Names) → (take (length B) B ≡ B) × (length B ≤ length B)
nothing_bound B = let same : length B ≤ length B = omega arith in (take_all (length B) B same, same)

-- ---- bindings walked one by one

inside : (items : List Tree) (i : ℕ) (item : Tree) (b : Binding) (e : Tree) (deep : ℕ) → i < length items → get_or items i item ≡ item → item ≡ binding b e → forest_depth (forest items) ≤ deep → tree_depth e < deep
inside items i item b e deep lt at is enough =
    let depth : tree_depth item ≡ tree_depth (binding b e) = ap tree_depth is in
    omega (arith, depth, depth_falls items i item lt at, enough)

pub let_turn : (c : CodeContext) (B S U T : Names) (items : List Tree) (i : ℕ) (item : Tree) (b : Binding) (e : Tree) (cs ds : List Checked) (x : Checked) → i < length items → get_or items i item ≡ item → item ≡ binding b e → expression_of x.code ≡ e → Checks c S e (Ok x) → T ≡ bind b.word.name (type_of x.code) U → U ≡ S → ds ≡ cs ++ x ∷ [] → ((body : List Tree) (deep : ℕ) → forest_depth (forest items) ≤ deep → Walked c (plan_of body B items) (plan_of body S (drop i items)) deep cs) → (body : List Tree) (deep : ℕ) → forest_depth (forest items) ≤ deep → Walked c (plan_of body B items) (plan_of body T (drop (i + 1) items)) deep ds
let_turn c B S U T items i item b e cs ds x lt at is text h bound kept grown so_far body deep enough =
    let names : T ≡ bind b.word.name (type_of x.code) S = bound ∙ ap (bind b.word.name (type_of x.code)) kept in
    subst (λ (ys : List Checked). Walked c (plan_of body B items) (plan_of body T (drop (i + 1) items)) deep ys) (sym grown)
    (subst (λ (N : Names). Walked c (plan_of body B items) (plan_of body N (drop (i + 1) items)) deep (cs ++ x ∷ [])) (sym names)
    (walked_gives c (plan_of body B items) (plan_of body (bind b.word.name (type_of x.code) S) (drop (i + 1) items)) (λ f. plan_of body (bind b.word.name f.type S) (drop (i + 1) items)) S e deep cs x (inside items i item b e deep lt at is enough) text h
    (λ f same. ap (λ (y : Facts). plan_of body (bind b.word.name y.type S) (drop (i + 1) items)) same)
    (subst (λ (ts : List Tree). Walked c (plan_of body B items) (plan_of body S ts) deep cs) (binding_rest items i item b e lt at is) (so_far body deep enough))))

pub let_stop : (c : CodeContext) (B S : Names) (items : List Tree) (i : ℕ) (item : Tree) (b : Binding) (e : Tree) (cs : List Checked) (f : Fault Break) → i < length items → get_or items i item ≡ item → item ≡ binding b e → Checks c S e (Err f) → ((body : List Tree) (deep : ℕ) → forest_depth (forest items) ≤ deep → Walked c (plan_of body B items) (plan_of body S (drop i items)) deep cs) → (body : List Tree) (deep : ℕ) → forest_depth (forest items) ≤ deep → ChecksAll c (plan_of body B items) deep (Err f)
let_stop c B S items i item b e cs f lt at is h so_far body deep enough =
    given_fails c (plan_of body B items) (λ g. plan_of body (bind b.word.name g.type S) (drop (i + 1) items)) S e deep cs f (inside items i item b e deep lt at is enough) h
    (subst (λ (ts : List Tree). Walked c (plan_of body B items) (plan_of body S ts) deep cs) (binding_rest items i item b e lt at is) (so_far body deep enough))

-- ---- further parts

pub more_turn : (c : CodeContext) (B S : Names) (items : List Tree) (i : ℕ) (e : Tree) (start cs ds : List Checked) (x : Checked) → i < length items → get_or items i e ≡ e → S ≡ B → expression_of x.code ≡ e → Checks c S e (Ok x) → ds ≡ cs ++ x ∷ [] → ((whole : Plan) (deep : ℕ) → forest_depth (forest items) + 1 ≤ deep → Walked c whole (parts B items) deep start → Walked c whole (parts B (drop i items)) deep cs) → (whole : Plan) (deep : ℕ) → forest_depth (forest items) + 1 ≤ deep → Walked c whole (parts B items) deep start → Walked c whole (parts B (drop (i + 1) items)) deep ds
more_turn c B S items i e start cs ds x lt at kept text h grown so_far whole deep enough begun =
    subst (λ (ys : List Checked). Walked c whole (parts B (drop (i + 1) items)) deep ys) (sym grown)
    (walked_part c whole (parts B (drop (i + 1) items)) B e deep cs x (omega (arith, depth_falls items i e lt at, enough)) text (subst (λ (N : Names). Checks c N e (Ok x)) kept h)
    (subst (λ (ts : List Tree). Walked c whole (parts B ts) deep cs) (rest_of items i e lt at) (so_far whole deep enough begun)))

pub more_stop : (c : CodeContext) (B S : Names) (items : List Tree) (i : ℕ) (e : Tree) (start cs : List Checked) (f : Fault Break) → i < length items → get_or items i e ≡ e → S ≡ B → Checks c S e (Err f) → ((whole : Plan) (deep : ℕ) → forest_depth (forest items) + 1 ≤ deep → Walked c whole (parts B items) deep start → Walked c whole (parts B (drop i items)) deep cs) → (whole : Plan) (deep : ℕ) → forest_depth (forest items) + 1 ≤ deep → Walked c whole (parts B items) deep start → ChecksAll c whole deep (Err f)
more_stop c B S items i e start cs f lt at kept h so_far whole deep enough begun =
    part_fails c whole (parts B (drop (i + 1) items)) B e deep cs f (omega (arith, depth_falls items i e lt at, enough)) (subst (λ (N : Names). Checks c N e (Err f)) kept h)
    (subst (λ (ts : List Tree). Walked c whole (parts B ts) deep cs) (rest_of items i e lt at) (so_far whole deep enough begun))

pub more_end : (c : CodeContext) (B : Names) (items : List Tree) (i : ℕ) (start cs : List Checked) → length items ≤ i → ((whole : Plan) (deep : ℕ) → forest_depth (forest items) + 1 ≤ deep → Walked c whole (parts B items) deep start → Walked c whole (parts B (drop i items)) deep cs) → (whole : Plan) (deep : ℕ) → forest_depth (forest items) + 1 ≤ deep → Walked c whole (parts B items) deep start → Walked c whole Ends deep cs
more_end c B items i start cs far so_far whole deep enough begun = subst (λ (ts : List Tree). Walked c whole (parts B ts) deep cs) (drop_all i items far) (so_far whole deep enough begun)

pub more_text : (items front : List Tree) (i : ℕ) (e : Tree) (cs ds : List Checked) (x : Checked) → i < length items → get_or items i e ≡ e → expression_of x.code ≡ e → ds ≡ cs ++ x ∷ [] → texts_of cs ≡ front ++ take i items → texts_of ds ≡ front ++ take (i + 1) items
more_text items front i e cs ds x lt at text grown so_far =
    ap texts_of grown ∙ texts_more cs x ∙ (λ j. so_far j ++ text j ∷ []) ∙ append_assoc front (take i items) (e ∷ [])
    ∙ ap (λ (ts : List Tree). front ++ ts) (ap (λ (y : Tree). take i items ++ y ∷ []) (sym at) ∙ sym (take_more items i e lt))

pub let_text : (items : List Tree) (i : ℕ) (item : Tree) (b : Binding) (e : Tree) (cs ds : List Checked) (x : Checked) → i < length items → get_or items i item ≡ item → item ≡ binding b e → expression_of x.code ≡ e → ds ≡ cs ++ x ∷ [] → texts_of cs ≡ exprs_of (take i items) → texts_of ds ≡ exprs_of (take (i + 1) items)
let_text items i item b e cs ds x lt at is text grown so_far =
    ap texts_of grown ∙ texts_more cs x ∙ (λ j. so_far j ++ text j ∷ []) ∙ sym (exprs_more (take i items) b e)
    ∙ ap exprs_of (ap (λ (y : Tree). take i items ++ y ∷ []) (sym is ∙ sym at) ∙ sym (take_more items i item lt))

pub binding_less : (items : List Tree) (i : ℕ) (item : Tree) (b : Binding) (e : Tree) → i < length items → get_or items i item ≡ item → item ≡ binding b e → tree_size e < forest_size (forest items)
binding_less items i item b e lt at is =
    let size : tree_size item ≡ tree_size (binding b e) = ap tree_size is in
    omega (arith, size, part_less items i item lt at)

pub push_count : (bs cs : List Binding) (b : Binding) (i : ℕ) → cs ≡ bs ++ b ∷ [] → length bs ≡ i → length cs ≡ i + 1
push_count bs cs b i grown h =
    let all : length cs ≡ length (bs ++ b ∷ []) = ap length grown in
    omega (arith, all, longer bs, h)
  where
    longer : (xs : List Binding) → length (xs ++ b ∷ []) ≡ length xs + 1
    longer [] = omega arith
    longer (x ∷ xs) = omega (arith, longer xs)

pub let_end : (c : CodeContext) (B S : Names) (items : List Tree) (i : ℕ) (cs : List Checked) → length items ≤ i → ((body : List Tree) (deep : ℕ) → forest_depth (forest items) ≤ deep → Walked c (plan_of body B items) (plan_of body S (drop i items)) deep cs) → (body : List Tree) (deep : ℕ) → forest_depth (forest items) ≤ deep → Walked c (plan_of body B items) (parts S body) deep cs
let_end c B S items i cs far so_far body deep enough = subst (λ (ts : List Tree). Walked c (plan_of body B items) (plan_of body S ts) deep cs) (drop_all i items far) (so_far body deep enough)
