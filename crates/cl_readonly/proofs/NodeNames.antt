-- A node names what it calls, where its parts do.
use Rattle.std.proofs.Common.{◌≡◌, inl, inr, ℕ, zero, suc, Bool, true, false, List, [], ◌∷◌, ◌++◌, length, map, drop, Option, Some, None, refl, sym, ap, ◌∙◌}
use Rattle.std.specs.Prelude.{codes, is_some, ◌||◌, ◌&&◌, filter_map}
use Rattle.std.specs.List.{list_any}
use Rattle.std.proofs.lemmas.List.Folds.{list_any-append}
use Rattle.std.proofs.lemmas.Bool.{or_parts, or_right}
use Rattle.cl_types.specs.Types.{NoType}
use Rattle.cl_types.proofs.Lattice.{keys_equal}
use Rattle.cl_sexpr.specs.declared.sexpr.Span.{Span}
use Rattle.cl_sexpr.specs.Tree.{Tree, LeafAt, ListAt, Leaf, Named, Unsigned, Forest, Empty, Then, forest}
use Rattle.cl_forms.specs.declared.head.Head.{Head}
use Rattle.cl_forms.specs.declared.head.Head.TheVariants as heads
use Rattle.cl_forms.specs.Heads.{Row, native, is_reserved}
use Rattle.cl_forms.specs.HeadNames.{name_of, has_head}
use Rattle.cl_forms.specs.Names.{same, Place, Plain, AtPairs, place_behind, next_place, is_one, first_at, atoms_in, atoms_of, atoms_of_pairs, is_one_of}
use Rattle.cl_forms.specs.Shapes.{trees_of}
use Rattle.cl_forms.specs.Writes.{applying_natives, Call, calls_in, calls_behind, calls_of_pairs, gives_one}
use Rattle.cl_rules.specs.Faults.{shape_rules}
use Rattle.cl_rules.specs.Context.{Context, Names, Signature, bind, is_taken, is_top_level, is_named, signature_in}
use Rattle.cl_rules.specs.ControlShapes.{is_shadowed, bound_name}
use Rattle.cl_rules.specs.Table.{shape, operator_shape}
use Rattle.cl_code.specs.declared.op.Binding.{Binding}
use Rattle.cl_code.specs.declared.op.Applied.{Applied}
use Rattle.cl_code.specs.declared.op.Applied.TheVariants.{Function, OnValues as OnValuesBy, And as AndBy, Or as OrBy}
use Rattle.cl_code.specs.declared.op.Target.{Target}
use Rattle.cl_code.specs.declared.op.Target.TheVariants.{Standing as StandingAt, Local as LocalAt}
use Rattle.cl_code.specs.declared.op.Iteration.{Iteration}
use Rattle.cl_code.specs.declared.op.Iteration.TheVariants.{Map, Filter, Fold}
use Rattle.cl_code.specs.declared.op.Op.{Op}
use Rattle.cl_code.specs.declared.op.Op.TheVariants.{Int, Uint, Buff, Ascii, Utf8, Standing, Local, Keyword, Bound, Constant, OnValues, OnParts, OnName, Iterate, AsMaxLen, Tuple, TupleOf, Let, MatchOptional, MatchResponse, Call as CallOp, ContractCall}
use Rattle.cl_code.specs.OpNames.{parts_head, name_head, iteration_head}
use Rattle.cl_code.specs.Expression.{expression, headed, word, target, applied_name, binding, bound_items, keyed, behind_first}
use Rattle.cl_code.specs.Nodes.{goes_op}
use Rattle.cl_code.proofs.Versions.{parts_had, name_had, iteration_had}
use Rattle.cl_code.specs.Typed.{Typed, expression_of}
use Rattle.cl_readonly.specs.Naming.{calls_it, IsNamed, AllNameUnknown}
use Rattle.cl_readonly.proofs.Tests.{either_is, both_are, differ}
use Rattle.cl_forms.proofs.FreeNames.{no_native}
use Rattle.cl_readonly.proofs.Heads.{applies_head, is_tuple, applies_name, tuple_name, is_native, no_applying, no_tuple}
use Rattle.cl_readonly.proofs.WritesOfParts.{not_true, is_none, let_free, parts_plain, name_plain, iteration_plain}

either : (a b c d : Bool) → (a || b) ≡ true → (a ≡ true → c ≡ true) → (b ≡ true → d ≡ true) → (c || d) ≡ true
either true b c d h f g = ap (λ e. e || d) (f refl)
either false b c d h f g = or_right c d (g h)

module _ (x : List ℕ) where
  abbrev pub called : List Call → Bool
  called cs = list_any (calls_it x) cs

  abbrev pub written : List (List ℕ) → Bool
  written names = list_any (same x) names

  abbrev pub AllNamed : List Tree → Type 0
  AllNamed [] = Unit {0}
  AllNamed (e ∷ es) = IsNamed x e × AllNamed es

  pub all_named : (G : Context) (qs : List Typed) → native G.version x ≡ None → is_some (signature_in x G.functions) ≡ false → AllNameUnknown G qs → AllNamed (map expression_of qs)
  all_named G [] none unknown all = tt
  all_named G (q ∷ qs) none unknown all = (all.0 x none unknown, all_named G qs none unknown all.1)

  behind_named : (es : List Tree) → AllNamed es → (p : Place) → called (calls_behind false (forest es)) ≡ true → written (atoms_of p (forest es)) ≡ true
  behind_named [] all p h = absurd cc
  behind_named (e ∷ es) all p h =
      list_any-append (same x) (atoms_in p e) (atoms_of (next_place p) (forest es))
      ∙ either (called (calls_in e)) (called (calls_behind false (forest es))) (written (atoms_in p e)) (written (atoms_of (next_place p) (forest es)))
      (sym (list_any-append (calls_it x) (calls_in e) (calls_behind false (forest es))) ∙ h) (all.0 p) (behind_named es all.1 (next_place p))

  leaf_named : (l : Leaf) (at : Span) → IsNamed x (LeafAt l at)
  leaf_named l at p h = absurd cc

  alone : (ns : List (List ℕ)) → written ns ≡ true → written (ns ++ []) ≡ true
  alone ns h = list_any-append (same x) ns [] ∙ ap (λ b. b || false) h

  -- ---- a list that begins with a name

  list_named : (k : List ℕ) (es : List Tree) (head at : Span) → AllNamed es → same k (codes "tuple") ≡ false →
      (calls_it x (record { operator = k; parts = forest es }) ≡ true → (p : Place) → written (first_at p (is_one (forest es)) k ++ atoms_of (place_behind k) (forest es)) ≡ true) → IsNamed x (headed k head es at)
  list_named k es head at all tuple own p h =
      elim (either_is (calls_it x (record { operator = k; parts = forest es })) (called (calls_behind (same k (codes "tuple")) (forest es))) h) [
        | inl c ↦ own c p
        | inr c ↦
            list_any-append (same x) (first_at p (is_one (forest es)) k) (atoms_of (place_behind k) (forest es))
            ∙ or_right (written (first_at p (is_one (forest es)) k)) (written (atoms_of (place_behind k) (forest es))) (behind_named es all (place_behind k) (ap (λ b. called (calls_behind b (forest es))) (sym tuple) ∙ c))
      ]

  module _ (G : Context) (none : native G.version x ≡ None) where
    other : (head : Head) → has_head G.version head ≡ true → same x (name_of head) ≡ false
    other head had = not_true (same x (name_of head)) (λ h. is_native G.version head had (ap (native G.version) (sym (keys_equal x (name_of head) h)) ∙ none))

    not_it : (head : Head) → has_head G.version head ≡ true → (es : Forest) → applies_head head ≡ false → calls_it x (record { operator = name_of head; parts = es }) ≡ false
    not_it head had es h i = other head had i || ((applies_name head ∙ h) i && gives_one (same x) es)

    native_named : (head : Head) → has_head G.version head ≡ true → (es : List Tree) (at at' : Span) → (is_tuple head ≡ false) × (applies_head head ≡ false) → AllNamed es → IsNamed x (headed (name_of head) at es at')
    native_named head had es at at' h all = list_named (name_of head) es at at' all (tuple_name head ∙ h.0) (λ c p. absurd (differ _ c (not_it head had (forest es) h.1)))

    -- ---- map, filter and fold

    given_named : (y : List ℕ) (at : Span) (es : Forest) (k : List ℕ) (front : List (List ℕ)) → place_behind k ≡ Plain → same x y ≡ true → written (front ++ atoms_of (place_behind k) (Then (LeafAt (Named y) at) es)) ≡ true
    given_named y at es k front plain h =
        list_any-append (same x) front (atoms_of (place_behind k) (Then (LeafAt (Named y) at) es))
        ∙ or_right (written front) (written (atoms_of (place_behind k) (Then (LeafAt (Named y) at) es)))
        (ap (λ p. written (atoms_of p (Then (LeafAt (Named y) at) es))) plain ∙ ap (λ b. b || written (atoms_of Plain es)) h)

    plain_behind : (n : Iteration) → place_behind (name_of (iteration_head n)) ≡ Plain
    plain_behind Map = refl
    plain_behind Filter = refl
    plain_behind Fold = refl

    applied_there : (a : Applied) (es : Forest) (k : List ℕ) (front : List (List ℕ)) → place_behind k ≡ Plain → gives_one (same x) (Then (applied_name a) es) ≡ true → written (front ++ atoms_of (place_behind k) (Then (applied_name a) es)) ≡ true
    applied_there (Function f) es k front plain h = given_named f.name f.span es k front plain h
    applied_there (OnValuesBy n at) es k front plain h = given_named (name_of (heads.OnValues n)) at es k front plain h
    applied_there (AndBy at) es k front plain h = given_named (name_of heads.And) at es k front plain h
    applied_there (OrBy at) es k front plain h = given_named (name_of heads.Or) at es k front plain h

    applied_named : (a : Applied) → IsNamed x (applied_name a)
    applied_named (Function f) p h = absurd cc
    applied_named (OnValuesBy n at) p h = absurd cc
    applied_named (AndBy at) p h = absurd cc
    applied_named (OrBy at) p h = absurd cc

    iterate_named : (n : Iteration) (a : Applied) (es : List Tree) (at at' : Span) → AllNamed es → IsNamed x (headed (name_of (iteration_head n)) at (applied_name a ∷ es) at')
    iterate_named n a es at at' all =
        list_named (name_of (iteration_head n)) (applied_name a ∷ es) at at' (applied_named a, all) (tuple_name (iteration_head n) ∙ (iteration_plain n).3)
        (λ c p. elim (either_is (same x (name_of (iteration_head n))) _ c) [
          | inl same_name ↦ absurd (differ _ same_name (other (iteration_head n) (iteration_had G.version n)))
          | inr by_name ↦
              applied_there a (forest es) (name_of (iteration_head n)) (first_at p (is_one (Then (applied_name a) (forest es))) (name_of (iteration_head n))) (plain_behind n)
              (both_are (is_one_of applying_natives (name_of (iteration_head n))) (gives_one (same x) (Then (applied_name a) (forest es))) by_name).1
        ])

    -- ---- tuples

    keyed_named : (ks : List (List ℕ)) (es : List Tree) → AllNamed es → called (calls_of_pairs (keyed ks es)) ≡ true → written (atoms_of_pairs (keyed ks es)) ≡ true
    keyed_named [] es all h = absurd cc
    keyed_named (k ∷ ks) [] all h = absurd cc
    keyed_named (k ∷ ks) (e ∷ es) all h =
        list_any-append (same x) (atoms_in Plain e) (atoms_of_pairs (keyed ks es))
        ∙ either (called (calls_in e)) (called (calls_of_pairs (keyed ks es))) (written (atoms_in Plain e)) (written (atoms_of_pairs (keyed ks es)))
        (sym (list_any-append (calls_it x) (calls_in e) (calls_of_pairs (keyed ks es))) ∙ h) (all.0 Plain) (keyed_named ks es all.1)

    pairs_named : (bs : List Binding) (es : List Tree) → AllNamed es → called (calls_behind true (forest (bound_items bs es))) ≡ true → written (atoms_of AtPairs (forest (bound_items bs es))) ≡ true
    pairs_named [] es all h = absurd cc
    pairs_named (b ∷ bs) [] all h = absurd cc
    pairs_named (b ∷ bs) (e ∷ es) all h =
        list_any-append (same x) (atoms_in (place_behind b.word.name) e ++ []) (atoms_of AtPairs (forest (bound_items bs es)))
        ∙ either (called (calls_in e)) (called (calls_behind true (forest (bound_items bs es)))) (written (atoms_in (place_behind b.word.name) e ++ [])) (written (atoms_of AtPairs (forest (bound_items bs es))))
        (sym (list_any-append (calls_it x) (calls_in e) (calls_behind true (forest (bound_items bs es)))) ∙ h) (λ c. alone (atoms_in (place_behind b.word.name) e) (all.0 (place_behind b.word.name) c)) (pairs_named bs es all.1)

    tuple_named : (bs : List Binding) (es : List Tree) (head at : Span) → AllNamed es → IsNamed x (headed (name_of heads.TupleOf) head (bound_items bs es) at)
    tuple_named bs es head at all p h =
        list_any-append (same x) (first_at p (is_one (forest (bound_items bs es))) (codes "tuple")) (atoms_of AtPairs (forest (bound_items bs es)))
        ∙ or_right (written (first_at p (is_one (forest (bound_items bs es))) (codes "tuple"))) (written (atoms_of AtPairs (forest (bound_items bs es))))
        (pairs_named bs es all (ap (λ b. b || called (calls_behind true (forest (bound_items bs es)))) (sym (not_it heads.TupleOf refl (forest (bound_items bs es)) refl)) ∙ h))

    -- ---- let

    binding_named : (y : List ℕ) (e : Tree) (at at' : Span) → native G.version y ≡ None → IsNamed x e → called (calls_in (ListAt (Then (LeafAt (Named y) at) (Then e Empty)) at')) ≡ true → written (atoms_in Plain (ListAt (Then (LeafAt (Named y) at) (Then e Empty)) at')) ≡ true
    binding_named y e at at' free named h =
        either (calls_it x (record { operator = y; parts = Then e Empty })) (called (calls_behind (same y (codes "tuple")) (Then e Empty))) (same x y) (written (atoms_of (place_behind y) (Then e Empty))) h
        (λ c. elim (either_is (same x y) _ c) [
          | inl same_name ↦ same_name
          | inr by_name ↦ absurd (differ _ (both_are (is_one_of applying_natives y) (gives_one (same x) (Then e Empty)) by_name).0 (no_applying G.version y free))
        ])
        (λ c. behind_named (e ∷ []) (named, tt) (place_behind y) (ap (λ b. called (calls_behind b (Then e Empty))) (sym (no_tuple G.version y free)) ∙ c))

    bound_named : (bs : List Binding) (es : List Tree) (C : Names) → AllNamed es → is_shadowed G C (filter_map bound_name (trees_of (forest (bound_items bs es)))) ≡ false → called (calls_behind false (forest (bound_items bs es))) ≡ true → written (atoms_of Plain (forest (bound_items bs es))) ≡ true
    bound_named [] es C all free h = absurd cc
    bound_named (b ∷ bs) [] C all free h = absurd cc
    bound_named (b ∷ bs) (e ∷ es) C all free h =
        let both = or_parts (is_taken G C b.word.name) (is_shadowed G (bind b.word.name NoType C) (filter_map bound_name (trees_of (forest (bound_items bs es))))) free in
        let two = or_parts (is_reserved G.version b.word.name || is_top_level G b.word.name) (is_named b.word.name C) both.0 in
        let one = or_parts (is_reserved G.version b.word.name) (is_top_level G b.word.name) two.0 in
        list_any-append (same x) (atoms_in Plain (binding b e)) (atoms_of Plain (forest (bound_items bs es)))
        ∙ either (called (calls_in (binding b e))) (called (calls_behind false (forest (bound_items bs es)))) (written (atoms_in Plain (binding b e))) (written (atoms_of Plain (forest (bound_items bs es))))
        (sym (list_any-append (calls_it x) (calls_in (binding b e)) (calls_behind false (forest (bound_items bs es)))) ∙ h)
        (binding_named b.word.name e b.word.span b.span (no_native G.version b.word.name one.0) all.0)
        (bound_named bs es (bind b.word.name NoType C) all.1 both.1)

    bracket_named : (bs : List Binding) (es : List Tree) (C : Names) (at : Span) → AllNamed es → is_shadowed G C (filter_map bound_name (trees_of (forest (bound_items bs es)))) ≡ false → IsNamed x (ListAt (forest (bound_items bs es)) at)
    bracket_named [] es C at all free p h = absurd cc
    bracket_named (b ∷ bs) [] C at all free p h = absurd cc
    bracket_named (b ∷ bs) (e ∷ es) C at all free p h = bound_named (b ∷ bs) (e ∷ es) C all free h

    all_drop : (n : ℕ) (es : List Tree) → AllNamed es → AllNamed (drop n es)
    all_drop zero es all = all
    all_drop (suc n) [] all = tt
    all_drop (suc n) (e ∷ es) all = all_drop n es all.1

    -- ---- each kind of node

    optional_all : (es : List Tree) (d : Tree) → IsNamed x d → AllNamed es → AllNamed (behind_first (λ e more. e ∷ d ∷ more) es)
    optional_all [] d named all = tt
    optional_all (e ∷ es) d named all = (all.0, (named, all.1))

    response_all : (es : List Tree) (c d : Tree) → IsNamed x c → IsNamed x d → AllNamed es → AllNamed (behind_first (λ e more. e ∷ c ∷ behind_first (λ f last. f ∷ d ∷ last) more) es)
    response_all [] c d named too all = tt
    response_all (e ∷ []) c d named too all = (all.0, (named, tt))
    response_all (e ∷ f ∷ es) c d named too all = (all.0, (named, (all.1.0, (too, all.1.1))))

    target_named : (c : Target) → IsNamed x (target c)
    target_named (StandingAt p at) q h = absurd cc
    target_named (LocalAt c at) q h = absurd cc

    undefined : (o : Option Row) (s : Option Signature) (B : Names) (es : List Tree) → o ≡ None → is_some s ≡ false → shape_rules (operator_shape o s G B es).faults ≡ [] → ⊥
    undefined None None B es a b h = cc
    undefined (Some row) s B es a b h = cc
    undefined None (Some s) B es a b h = cc

    call_named : (B : Names) (y : List ℕ) (es : List Tree) (head at : Span) → is_some (signature_in x G.functions) ≡ false → native G.version y ≡ None → shape_rules (shape G B (headed y head es at)).faults ≡ [] → AllNamed es → IsNamed x (headed y head es at)
    unfolding shape
    call_named B y es head at unknown free rules all =
        list_named y es head at all (no_tuple G.version y free)
        (λ c p. elim (either_is (same x y) _ c) [
          | inl same_name ↦ absurd (undefined (native G.version y) (signature_in y G.functions) B (trees_of (forest es)) free (ap (λ z. is_some (signature_in z G.functions)) (sym (keys_equal x y same_name)) ∙ unknown) rules)
          | inr by_name ↦ absurd (differ _ (both_are (is_one_of applying_natives y) (gives_one (same x) (forest es)) by_name).0 (no_applying G.version y free))
        ])

    pub node_named : (B : Names) (op : Op) (es : List Tree) (at : Span) → is_some (signature_in x G.functions) ≡ false → goes_op G.version op ≡ true → shape_rules (shape G B (expression op es at)).faults ≡ [] → AllNamed es → IsNamed x (expression op es at)
    unfolding goes_op
    node_named B (Int z) es at unknown goes rules all p h = absurd cc
    node_named B (Uint n) es at unknown goes rules all p h = absurd cc
    node_named B (Buff bytes) es at unknown goes rules all p h = absurd cc
    node_named B (Ascii text) es at unknown goes rules all p h = absurd cc
    node_named B (Utf8 text) es at unknown goes rules all p h = absurd cc
    node_named B (Standing q) es at unknown goes rules all p h = absurd cc
    node_named B (Local c) es at unknown goes rules all p h = absurd cc
    node_named B (Keyword k) es at unknown goes rules all p h = absurd cc
    node_named B (Bound y) es at unknown goes rules all p h = absurd cc
    node_named B (Constant y) es at unknown goes rules all p h = absurd cc
    node_named B (OnValues n head) es at unknown goes rules all p h = native_named (heads.OnValues n) goes es head at (refl, refl) all p h
    node_named B (OnParts n head) es at unknown goes rules all p h = native_named (parts_head n) (parts_had G.version n) es head at ((parts_plain n).0, (parts_plain n).1) all p h
    node_named B (OnName n head name) es at unknown goes rules all p h = native_named (name_head n) (name_had G.version n) (word name ∷ es) head at ((name_plain n).0, (name_plain n).1) (leaf_named (Named name.name) name.span, all) p h
    node_named B (Iterate iteration head applied) es at unknown goes rules all p h = iterate_named iteration applied es head at all p h
    node_named B (AsMaxLen head most literal) es at unknown goes rules all p h = native_named heads.AsMaxLen refl _ head at (refl, refl) (optional_all es (LeafAt (Unsigned most) literal) (leaf_named (Unsigned most) literal) all) p h
    node_named B (Tuple keys) es at unknown goes rules all p h = keyed_named keys.items es all h
    node_named B (TupleOf head pairs) es at unknown goes rules all p h = tuple_named pairs.items es head at all p h
    node_named B (Let head brackets bindings) es at unknown goes rules all p h =
        native_named heads.Let refl (ListAt (forest (bound_items bindings.items es)) brackets ∷ drop (length bindings.items) es) head at (refl, refl) (bracket_named bindings.items es B brackets all (let_free G B head brackets at bindings.items es rules), all_drop (length bindings.items) es all) p h
    node_named B (MatchOptional head part) es at unknown goes rules all p h = native_named heads.Match refl _ head at (refl, refl) (optional_all es (word part) (leaf_named (Named part.name) part.span) all) p h
    node_named B (MatchResponse head good bad) es at unknown goes rules all p h = native_named heads.Match refl _ head at (refl, refl) (response_all es (word good) (word bad) (leaf_named (Named good.name) good.span) (leaf_named (Named bad.name) bad.span) all) p h
    node_named B (CallOp f) es at unknown goes rules all p h = call_named B f.name es f.span at unknown (is_none (native G.version f.name) goes) rules all p h
    node_named B (ContractCall head contract function callee) es at unknown goes rules all p h = native_named heads.ContractCall refl (target contract ∷ word function ∷ es) head at (refl, refl) (target_named contract, (leaf_named (Named function.name) function.span, all)) p h
