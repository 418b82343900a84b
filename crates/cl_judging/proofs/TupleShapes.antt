-- Shapes of tuples.
use Rattle.std.proofs.Common.{◌≡◌, ℕ, suc, ◌+◌, ◌<◌, max, Bool, true, false, List, [], ◌∷◌, ◌++◌, map, length, filter_map, Result, Ok, Err, refl, ap, sym, ◌∙◌, arith}
use Rattle.std.specs.Prelude.{is_some, not}
use Rattle.std.specs.Global.{Vec}
use Rattle.cl_types.specs.declared.fault.Fault.{Fault}
use Rattle.cl_types.specs.declared.fault.Fault.TheVariants.{Refused}
use Rattle.cl_sexpr.specs.declared.sexpr.Span.{Span}
use Rattle.cl_sexpr.specs.declared.rule.Rule.{Rule}
use Rattle.cl_sexpr.specs.declared.rule.Rule.TheVariants.{ArgumentCount, BadBinding, KeyTwice}
use Rattle.cl_sexpr.specs.declared.rule.Break.{Break}
use Rattle.cl_sexpr.specs.Tree.{Tree, TupleAt, Pair, pairs, forest, tree_size, forest_size, pairs_size, tree_depth, forest_depth, pairs_depth}
use Rattle.cl_forms.specs.Heads.{row_of, takes}
use Rattle.cl_forms.specs.declared.head.Head.TheVariants.{TupleOf as TupleOfHead}
use Rattle.cl_forms.specs.Shapes.{pairs_of, binding_of, bindings_of}
use Rattle.cl_rules.specs.Faults.{ShapeFaults, shape_rules, sound_shape, when}
use Rattle.cl_rules.specs.Bills.{Charge, Both}
use Rattle.cl_rules.specs.Context.{Names, Context}
use Rattle.cl_rules.specs.Verdicts.{Found, types_of, sizes_of, sum_of}
use Rattle.cl_rules.specs.Shapes.{parts}
use Rattle.cl_rules.specs.DataShapes.{keys_of, stands_twice, tuple_row, tuple_verdict, tuple_shape, pairs_shape}
use Rattle.cl_rules.specs.Table.{shape, head_shape}
use Rattle.cl_shapes.specs.declared.name.CostName.TheVariants.{Make}
use Rattle.cl_code.specs.Expression.{keyed}
use Rattle.cl_typing.specs.declared.concluding.Checked.{Checked}
use Rattle.cl_typing.specs.declared.concluding.Concluded.{Concluded}
use Rattle.cl_typing.specs.Verdicts.{facts, facts_of, first_rule, Concludes, ConcludesRow}
use Rattle.cl_judging.specs.declared.context.Context.{Context as CodeContext}
use Rattle.cl_judging.specs.Walking.{Checks, ChecksAs, ChecksAll, ChecksHead, FinishesIn}
use Rattle.std.proofs.Common.{take, get_or}
use Rattle.std.specs.Borrow.{Bor}
use Rattle.std.proofs.lemmas.List.{take_more, map-append}
use Rattle.std.proofs.lemmas.List.Elements.{filter_map-append}
use Rattle.cl_rules.specs.Shapes.{is_miscounted}
use Rattle.cl_code.specs.declared.op.Binding.{Binding}
use Rattle.cl_code.specs.Expression.{binding}
use Rattle.cl_judging.specs.LetWalk.{exprs_of}
use Rattle.cl_judging.proofs.Fitting.{bound_deep}
use Rattle.cl_judging.proofs.Atoms.{checks_by}
use Rattle.cl_judging.proofs.Lists.{shape_fails, parts_fail, parts_finish}

-- the pairs of a tuple in the text
pub pairs_back : (ps : List (List ℕ × Tree)) → pairs_of (pairs ps) ≡ ps
pairs_back [] = refl
pairs_back (p ∷ ps) = ap (λ (qs : List (List ℕ × Tree)). p ∷ qs) (pairs_back ps)

abbrev pub parts_in : List (List ℕ × Tree) → List Tree
parts_in = map (λ (p : List ℕ × Tree). p.1)

-- the expressions of pairs are as large and as deep as the pairs
pub pairs_room : (ps : List (List ℕ × Tree)) → forest_size (forest (parts_in ps)) ≡ pairs_size (pairs ps)
pairs_room [] = refl
pairs_room (p ∷ ps) = ap (λ (n : ℕ). tree_size p.1 + n + 1) (pairs_room ps)

pairs_deep : (ps : List (List ℕ × Tree)) → forest_depth (forest (parts_in ps)) ≡ pairs_depth (pairs ps)
pairs_deep [] = refl
pairs_deep (p ∷ ps) = ap (λ (n : ℕ). max (tree_depth p.1) n) (pairs_deep ps)

-- the text of a tuple
pub keyed_back : (ps : List (List ℕ × Tree)) → keyed (keys_of ps) (parts_in ps) ≡ pairs ps
keyed_back [] = refl
keyed_back (p ∷ ps) = ap (Pair p.0 p.1) (keyed_back ps)

pub keys_count : (ps : List (List ℕ × Tree)) → length (keys_of ps) ≡ length ps
keys_count [] = refl
keys_count (p ∷ ps) = ap suc (keys_count ps)

pub parts_as_many : (ps : List (List ℕ × Tree)) → length (parts_in ps) ≡ length (keys_of ps)
parts_as_many [] = refl
parts_as_many (p ∷ ps) = ap suc (parts_as_many ps)

-- ---- the verdict

pub tuple_judged : (keys : List (List ℕ)) (cs : List Checked) (result : Result Concluded (Fault Rule)) → ConcludesRow (tuple_row keys) 0 cs result → (fs : List Found) → map facts fs ≡ map facts_of cs → Concludes (tuple_verdict keys fs) result
tuple_judged keys cs result h fs same = h (Both (Charge Make (sizes_of (types_of fs))) (sum_of fs)) fs same

-- ---- what is checked, at any faults besides that of the keys

module _ (c : CodeContext) (faults : ShapeFaults) (B : Names) (ps : List (List ℕ × Tree)) (at : Span) where
  abbrev deep : ℕ
  deep = forest_depth (forest (parts_in ps)) + 1

  abbrev ChecksTuple : Result Checked (Fault Break) → Type 0
  ChecksTuple result = ChecksAs c (λ G. tuple_shape faults B ps) at deep result

  module _ (sound : shape_rules (record faults { key_twice = false }) ≡ []) (once : stands_twice (keys_of ps) ≡ false) where
    rules : shape_rules (record faults { key_twice = stands_twice (keys_of ps) }) ≡ []
    rules = ap (λ (b : Bool). shape_rules (record faults { key_twice = b })) once ∙ sound

    pub tuple_fails : (f : Fault Break) → ChecksAll c (parts B (parts_in ps)) deep (Err f) → ChecksTuple (Err f)
    tuple_fails f h = parts_fail c (λ G. tuple_shape faults B ps) at deep (parts B (parts_in ps)) (λ G shows. rules) (λ G shows. refl) f h

    pub tuple_found : (v : Vec Checked) (concluded : Result Concluded (Fault Rule)) (result : Result Checked (Fault Break)) → ChecksAll c (parts B (parts_in ps)) deep (Ok v) → ConcludesRow (tuple_row (keys_of ps)) 0 v.items concluded → FinishesIn c v.items concluded at result → ChecksTuple result
    tuple_found v concluded result h judges fin = parts_finish c (λ G. tuple_shape faults B ps) at deep (parts B (parts_in ps)) (λ G shows. rules) (λ G shows. refl) v concluded result h fin (λ G fs shows same. tuple_judged (keys_of ps) v.items concluded judges fs same)

-- ---- a tuple in curly brackets

tuple_is : (G : Context) (B : Names) (ps : List (List ℕ × Tree)) (at : Span) → shape G B (TupleAt (pairs ps) at) ≡ tuple_shape sound_shape B ps
unfolding shape
tuple_is G B ps at = ap (tuple_shape sound_shape B) (pairs_back ps)

pub tuple_whole : (c : CodeContext) (B : Names) (ps : List (List ℕ × Tree)) (at : Span) (result : Result Checked (Fault Break)) → ChecksAs c (λ G. tuple_shape sound_shape B ps) at (forest_depth (forest (parts_in ps)) + 1) result → Checks c B (TupleAt (pairs ps) at) result
tuple_whole c B ps at result h = checks_by c B (TupleAt (pairs ps) at) (λ G. tuple_shape sound_shape B ps) (forest_depth (forest (parts_in ps)) + 1) result (omega (arith, pairs_deep ps)) (λ G shows. tuple_is G B ps at) h

pub tuple_twice : (c : CodeContext) (B : Names) (ps : List (List ℕ × Tree)) (at : Span) (b : Bool) (f : Fault Break) → b ≡ stands_twice (keys_of ps) → b ≡ true → f ≡ Refused (record { rule = KeyTwice; span = at }) → Checks c B (TupleAt (pairs ps) at) (Err f)
tuple_twice c B ps at b f is twice fails = tuple_whole c B ps at (Err f) (shape_fails c (λ G. tuple_shape sound_shape B ps) at (forest_depth (forest (parts_in ps)) + 1) KeyTwice f (λ G shows i. first_rule (when ((sym is ∙ twice) i) KeyTwice [])) fails)

-- ---- a tuple of pairs in round brackets

pairs_head : (c : CodeContext) (B : Names) (args : List Tree) (at : Span) (result : Result Checked (Fault Break)) → ChecksAs c (λ G. pairs_shape (row_of TupleOfHead) B args) at (forest_depth (forest args) + 1) result → ChecksHead c TupleOfHead B args at result
unfolding head_shape
pairs_head c B args at result h = h

module _ (c : CodeContext) (B : Names) (args : List Tree) (at : Span) (enough : takes (row_of TupleOfHead).arity (length args) ≡ true) where
  abbrev odd_faults : ShapeFaults
  odd_faults = record sound_shape { argument_count = is_miscounted (row_of TupleOfHead) args; bad_binding = not (is_some (bindings_of args)) }

  pub pairs_odd : (b : Bool) (f : Fault Break) → b ≡ is_some (bindings_of args) → b ≡ false → f ≡ Refused (record { rule = BadBinding; span = at }) → ChecksHead c TupleOfHead B args at (Err f)
  pairs_odd b f is odd fails = pairs_head c B args at (Err f) (shape_fails c (λ G. pairs_shape (row_of TupleOfHead) B args) at (forest_depth (forest args) + 1) BadBinding f (λ G shows i.
      first_rule (when (not (enough i)) ArgumentCount (when (not ((sym is ∙ odd) i)) BadBinding (when (stands_twice (keys_of (filter_map binding_of args))) KeyTwice [])))) fails)

  module _ (b : Bool) (is : b ≡ is_some (bindings_of args)) (good : b ≡ true) where
    pub pairs_twice : (t : Bool) (f : Fault Break) → t ≡ stands_twice (keys_of (filter_map binding_of args)) → t ≡ true → f ≡ Refused (record { rule = KeyTwice; span = at }) → ChecksHead c TupleOfHead B args at (Err f)
    pairs_twice t f same twice fails = pairs_head c B args at (Err f) (shape_fails c (λ G. pairs_shape (row_of TupleOfHead) B args) at (forest_depth (forest args) + 1) KeyTwice f (λ G shows i.
        first_rule (when (not (enough i)) ArgumentCount (when (not ((sym is ∙ good) i)) BadBinding (when ((sym same ∙ twice) i) KeyTwice [])))) fails)

    sound : shape_rules (record odd_faults { key_twice = false }) ≡ []
    sound i = when (not (enough i)) ArgumentCount (when (not ((sym is ∙ good) i)) BadBinding [])

    deeper : (result : Result Checked (Fault Break)) → ChecksAs c (λ G. tuple_shape odd_faults B (filter_map binding_of args)) at (forest_depth (forest (exprs_of args)) + 1) result → ChecksHead c TupleOfHead B args at result
    deeper result h = pairs_head c B args at result (λ G d shows large. h G d shows (omega (arith, bound_deep args, large)))

    module _ (once : stands_twice (keys_of (filter_map binding_of args)) ≡ false) where
      pub pairs_fails : (f : Fault Break) → ChecksAll c (parts B (exprs_of args)) (forest_depth (forest (exprs_of args)) + 1) (Err f) → ChecksHead c TupleOfHead B args at (Err f)
      pairs_fails f h = deeper (Err f) (tuple_fails c odd_faults B (filter_map binding_of args) at sound once f h)

      pub pairs_found : (v : Vec Checked) (concluded : Result Concluded (Fault Rule)) (result : Result Checked (Fault Break)) → ChecksAll c (parts B (exprs_of args)) (forest_depth (forest (exprs_of args)) + 1) (Ok v) → ConcludesRow (tuple_row (keys_of (filter_map binding_of args))) 0 v.items concluded → FinishesIn c v.items concluded at result → ChecksHead c TupleOfHead B args at result
      pairs_found v concluded result h judges fin = deeper result (tuple_found c odd_faults B (filter_map binding_of args) at sound once v concluded result h judges fin)

-- ---- keys and expressions of bindings, one by one

keys_more : (ts : List Tree) (b : Binding) (e : Tree) → keys_of (filter_map binding_of (ts ++ binding b e ∷ [])) ≡ keys_of (filter_map binding_of ts) ++ b.word.name ∷ []
keys_more ts b e = ap keys_of (filter_map-append binding_of ts (binding b e ∷ [])) ∙ map-append (λ (p : List ℕ × Tree). p.0) (filter_map binding_of ts) ((b.word.name, e) ∷ [])

pub exprs_more : (ts : List Tree) (b : Binding) (e : Tree) → exprs_of (ts ++ binding b e ∷ []) ≡ exprs_of ts ++ e ∷ []
exprs_more ts b e = ap (map (λ (p : List ℕ × Tree). p.1)) (filter_map-append binding_of ts (binding b e ∷ [])) ∙ map-append (λ (p : List ℕ × Tree). p.1) (filter_map binding_of ts) ((b.word.name, e) ∷ [])

next_item : (items : List Tree) (i : ℕ) (item : Tree) (b : Binding) (e : Tree) → i < length items → get_or items i item ≡ item → item ≡ binding b e → take i items ++ binding b e ∷ [] ≡ take (i + 1) items
next_item items i item b e lt at is = ap (λ (y : Tree). take i items ++ y ∷ []) (sym is ∙ sym at) ∙ sym (take_more items i item lt)

pub keys_push : (items : List Tree) (i : ℕ) (item : Tree) (b : Binding) (e : Tree) (ks ls : List (List ℕ)) → i < length items → get_or items i item ≡ item → item ≡ binding b e → ls ≡ ks ++ b.word.name ∷ [] → ks ≡ keys_of (filter_map binding_of (take i items)) → ls ≡ keys_of (filter_map binding_of (take (i + 1) items))
keys_push items i item b e ks ls lt at is grown h =
    grown ∙ ap (λ (xs : List (List ℕ)). xs ++ b.word.name ∷ []) h ∙ sym (keys_more (take i items) b e) ∙ ap (λ (ts : List Tree). keys_of (filter_map binding_of ts)) (next_item items i item b e lt at is)

pub exprs_push : (items : List Tree) (i : ℕ) (item : Tree) (b : Binding) (rs ss : List (Bor Tree)) (r : Bor Tree) → i < length items → get_or items i item ≡ item → item ≡ binding b r.now → ss ≡ rs ++ r ∷ [] → map (λ (x : Bor Tree). x.now) rs ≡ exprs_of (take i items) → map (λ (x : Bor Tree). x.now) ss ≡ exprs_of (take (i + 1) items)
exprs_push items i item b rs ss r lt at is grown h =
    ap (map (λ (x : Bor Tree). x.now)) grown ∙ map-append (λ (x : Bor Tree). x.now) rs (r ∷ []) ∙ ap (λ (xs : List Tree). xs ++ r.now ∷ []) h ∙ sym (exprs_more (take i items) b r.now) ∙ ap exprs_of (next_item items i item b r.now lt at is)
