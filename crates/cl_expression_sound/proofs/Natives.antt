-- Natives on values, tuples, parts of tuples, and sequences within a length.
use Rattle.std.proofs.Common.{◌≡◌, ℕ, suc, ◌<◌, ◌≤◌, true, false, List, [], ◌∷◌, map, length, Option, Some, None, refl, sym, ap, subst, ◌∙◌, arith}
use Rattle.std.specs.Prelude.{filter_map, is_some, zip}
use Rattle.std.specs.List.{cons_option}
use Rattle.cl_types.specs.Types.{PlainType, size_of as type_size}
use Rattle.cl_types.specs.Name.{IsName, AreNames}
use Rattle.cl_shapes.specs.declared.name.CostName.TheVariants.{Make, Take as TakeCost}
use Rattle.cl_sexpr.specs.declared.sexpr.Span.{Span}
use Rattle.cl_sexpr.specs.Tree.{Tree, LeafAt, ListAt, Named, Unsigned, Forest, Empty, Then, Pairs, NoPair, Pair}
use Rattle.cl_values.specs.declared.native.Native.{Native}
use Rattle.cl_values.specs.Tree.{Tree as Val, TupleV}
use Rattle.cl_values.specs.Computed.{Gives}
use Rattle.cl_values.specs.Tuples.{sorted_entries, part_at}
use Rattle.cl_values.specs.Sequences.{within_length}
use Rattle.cl_values.specs.Wire.{size_of}
use Rattle.cl_values.specs.Natives.{native_value}
use Rattle.cl_forms.specs.declared.head.Head.TheVariants.{OnValues, TupleOf, Get, AsMaxLen}
use Rattle.cl_forms.specs.Heads.{takes, row_of}
use Rattle.cl_forms.proofs.ExpressionsFit.{are_fit}
use Rattle.cl_forms.specs.Shapes.{trees_of, pairs_of, binding_of, bindings_of, and_binding}
use Rattle.cl_events.specs.State.{State}
use Rattle.cl_meaning.specs.Answers.{with_known}
use Rattle.cl_meaning.specs.Scope.{sizes}
use Rattle.cl_meaning.specs.Values.{number_of, on_values, strict_form, tuple_form, get_form, as_max_len_form}
use Rattle.cl_rules.specs.Faults.{ShapeFaults, type_rules}
use Rattle.cl_rules.specs.NativeTypes.{Ruled, one, native_type, get_row, max_len_row}
use Rattle.cl_rules.specs.Bills.{Charge, Both, cost_under}
use Rattle.cl_rules.specs.Verdicts.{Found, types_of, number_at, sizes_of, highest, sum_of}
use Rattle.cl_rules.specs.Shapes.{Shape, parts as all_parts, evaluated}
use Rattle.cl_rules.specs.DataShapes.{keys_of, stands_twice, tuple_row, tuple_verdict, tuple_shape}
use Rattle.cl_rules.specs.Table.{head_shape}
use Rattle.cl_sexpr.specs.Fits.{Fits, AllFit, PairsFit, AreFit}
use Rattle.cl_expression_sound.specs.Fitted.{Follows, ends, part}
use Rattle.cl_expression_sound.specs.Sound.{World, IsSound, IsAsFound, IsKept}
use Rattle.cl_expression_sound.proofs.Rules.{fine_shape, not_false}
use Rattle.cl_expression_sound.proofs.Thrown.{ruling_unbroken}
use Rattle.cl_expression_sound.proofs.Stands.{Stands, here, IsSoundShape, by_two, counted, some_are, as_many_found}
use Rattle.cl_expression_sound.proofs.Strict.{charged_low, computed_sound, strict_sound, single_sound, named_first}
use Rattle.cl_values.specs.Typed.{IsOf, AreOf}
use Rattle.cl_values.proofs.OfTypes.{no_larger}
use Rattle.cl_native_sound.proofs.Charges.{sizes_within, numbers_within}
use Rattle.cl_native_sound.proofs.ValuesFit.{values_fit}

-- ---- pairs

pub keys_fit : (ps : Pairs) → PairsFit ps → AreNames (keys_of (pairs_of ps))
keys_fit NoPair h = tt
keys_fit (Pair key e ps) h = (h.0, keys_fit ps h.2)

as_many_keys : (ps : List (List ℕ × Tree)) → length (keys_of ps) ≡ length (map (λ (p : List ℕ × Tree). p.1) ps)
as_many_keys [] = refl
as_many_keys (p ∷ ps) = ap suc (as_many_keys ps)

-- the pairs that there are, where each item is one
pub bindings_are : (es : List Tree) → is_some (bindings_of es) ≡ true → bindings_of es ≡ Some (filter_map binding_of es)
bindings_are [] h = refl
bindings_are (e ∷ es) h = by (binding_of e) (bindings_of es) h (bindings_are es)
  where
    by : (p : Option (List ℕ × Tree)) (ps : Option (List (List ℕ × Tree))) → is_some (and_binding p ps) ≡ true → (is_some ps ≡ true → ps ≡ Some (filter_map binding_of es)) → and_binding p ps ≡ Some (cons_option p (filter_map binding_of es))
    by (Some p) (Some ps) h k = ap (λ o. and_binding (Some p) o) (k refl)
    by (Some p) None h k = absurd cc
    by None (Some ps) h k = absurd cc
    by None None h k = absurd cc

binding_fits : (e : Tree) (p : List ℕ × Tree) → Fits e → binding_of e ≡ Some p → IsName p.0
binding_fits (ListAt (Then (LeafAt (Named x) at) (Then e Empty)) at') p h k = subst (λ p. IsName p.0) (same_pair (x, e) p k) h.0
  where
    same_pair : (a b : List ℕ × Tree) → Some a ≡ Some b → a ≡ b
    same_pair a b k = cc
binding_fits e p h k = absurd cc

names_fit : (es : List Tree) → AreFit es → AreNames (keys_of (filter_map binding_of es))
names_fit [] h = tt
names_fit (e ∷ es) h = by (binding_of e) refl (names_fit es h.1)
  where
    by : (o : Option (List ℕ × Tree)) → binding_of e ≡ o → AreNames (keys_of (filter_map binding_of es)) → AreNames (keys_of (cons_option o (filter_map binding_of es)))
    by None k rest = rest
    by (Some p) k rest = (binding_fits e p h.0 k, rest)

pub one_low : (t : PlainType) (v : Val) → IsOf v t → size_of v ≤ sizes_of (t ∷ [])
one_low t v i = let low : size_of v ≤ type_size t = no_larger v t i in omega (arith, low)

some_pairs : (es : List Tree) → bindings_of es ≡ Some (filter_map binding_of es) → 0 < length es → 0 < length (filter_map binding_of es)
some_pairs [] h k = absurd (omega (arith, k))
some_pairs (e ∷ es) h k = by (binding_of e) (bindings_of es) h
  where
    by : (p : Option (List ℕ × Tree)) (ps : Option (List (List ℕ × Tree))) → and_binding p ps ≡ Some (cons_option p (filter_map binding_of es)) → 0 < length (cons_option p (filter_map binding_of es))
    by (Some p) ps h = omega arith
    by None (Some ps) h = absurd cc
    by None None h = absurd cc

-- ---- natives on values

module _ (K : World) where
  pub applied_native_sound : {T : Val → Type 0} (n : Native) (ts : List PlainType) (vs : List Val) (s : State) → takes (row_of (OnValues n)).arity (length ts) ≡ true → AreOf vs ts → type_rules (native_type n ts).faults ≡ [] → IsKept K s → IsSound K (λ v. IsOf v (native_type n ts).type) T (cost_under K.costs (Charge (row_of (OnValues n)).cost (number_at (row_of (OnValues n)).cost ts))) (on_values n (row_of (OnValues n)).cost vs s)
  unfolding on_values
  applied_native_sound n ts vs s count i types k =
      charged_low K (row_of (OnValues n)).cost (number_of (row_of (OnValues n)).cost vs) (number_at (row_of (OnValues n)).cost ts) _ (numbers_within n ts vs i)
      (computed_sound K (native_type n ts).type (native_value n vs) s (values_fit.natives n ts vs count i types) k)

module _ (K : World) (N : Stands K) where
  pub native_sound : (n : Native) (es : List Tree) → IsSoundShape K N (head_shape (OnValues n) (row_of (OnValues n)) N.context N.names es) (strict_form n (row_of (OnValues n)).cost N.take (here K N) es)
  unfolding head_shape strict_form
  native_sound n es = record {
    each = λ fs shape follows types low s k.
        let r : Ruled = native_type n (types_of fs) in
        let own = Charge (row_of (OnValues n)).cost (number_at (row_of (OnValues n)).cost (types_of fs)) in
        let fine = fine_shape (head_shape (OnValues n) (row_of (OnValues n)) N.context N.names es).faults shape in
        let count = subst (λ m. takes (row_of (OnValues n)).arity m ≡ true) (sym (as_many_found K N es fs follows)) (not_false (takes (row_of (OnValues n)).arity (length es)) fine.argument_count) in
        let low_fs : highest fs ≤ N.depth = omega (arith, low) in
        strict_sound K N es fs r 0 own (on_values n (row_of (OnValues n)).cost) follows types low_fs
        (λ vs t i m. applied_native_sound K n (types_of fs) vs t count i (ruling_unbroken r 0 (Both own (sum_of fs)) fs types) m) s k;
  }

  -- ---- tuples

  tuple_each : (p : List ℕ × Tree) (ps : List (List ℕ × Tree)) → AreNames (keys_of (p ∷ ps)) → stands_twice (keys_of (p ∷ ps)) ≡ false → (fs : List Found) → Follows N.context (all_parts N.names (map (λ (p : List ℕ × Tree). p.1) (p ∷ ps))) fs → type_rules (tuple_verdict (keys_of (p ∷ ps)) fs).faults ≡ [] → (tuple_verdict (keys_of (p ∷ ps)) fs).found.height ≤ suc N.depth → (s : State) → IsKept K s → IsAsFound K (tuple_verdict (keys_of (p ∷ ps)) fs).found (tuple_form N.take (here K N) (p ∷ ps) s)
  unfolding tuple_form
  tuple_each p ps names twice fs follows types low s k =
      let keys = keys_of (p ∷ ps) in
      let r : Ruled = tuple_row keys (types_of fs) in
      let own = Charge Make (sizes_of (types_of fs)) in
      let low_fs : highest fs ≤ N.depth = omega (arith, low) in
      let many : length keys ≡ length (types_of fs) = as_many_keys (p ∷ ps) ∙ sym (as_many_found K N (map (λ (p : List ℕ × Tree). p.1) (p ∷ ps)) fs follows) in
      strict_sound K N (map (λ (p : List ℕ × Tree). p.1) (p ∷ ps)) fs r 0 own _ follows types low_fs
      (λ vs t i m. charged_low K Make (sizes vs) (sizes_of (types_of fs)) _ (sizes_within (types_of fs) vs i)
      (computed_sound K r.type (Gives (TupleV (sorted_entries (zip keys vs)))) t (values_fit.tuples keys (types_of fs) vs names many (omega arith) twice i (ruling_unbroken r 0 (Both own (sum_of fs)) fs types)) m)) s k

  pub pairs_sound : (faults : ShapeFaults) (ps : List (List ℕ × Tree)) → 0 < length ps → AreNames (keys_of ps) → IsSoundShape K N (tuple_shape faults N.names ps) (tuple_form N.take (here K N) ps)
  pairs_sound faults [] some names = absurd (omega (arith, some))
  pairs_sound faults (p ∷ ps) some names = record {
    each = λ fs shape follows types low s k. tuple_each p ps names (fine_shape (tuple_shape faults N.names (p ∷ ps)).faults shape).key_twice fs follows types low s k;
  }

  -- (tuple (k e) ..)
  pub tuple_sound : (es : Forest) → AllFit es → IsSoundShape K N (head_shape TupleOf (row_of TupleOf) N.context N.names (trees_of es)) (with_known (bindings_of (trees_of es)) (tuple_form N.take (here K N)))
  unfolding head_shape
  tuple_sound es fit = record {
    each = λ fs shape follows types low s k.
        let sh : Shape = head_shape TupleOf (row_of TupleOf) N.context N.names (trees_of es) in
        let fine = fine_shape sh.faults shape in
        let pairs = bindings_are (trees_of es) (not_false (is_some (bindings_of (trees_of es))) fine.bad_binding) in
        subst (λ o. IsAsFound K (sh.verdict fs).found (with_known o (tuple_form N.take (here K N)) s)) (sym pairs)
        ((pairs_sound (sh.faults) (filter_map binding_of (trees_of es)) (some_pairs (trees_of es) pairs (some_are (trees_of es) fine.argument_count)) (names_fit (trees_of es) (are_fit es fit))).each fs shape follows types low s k);
  }

  -- ---- parts of tuples

  get_each : (x : List ℕ) (e : Tree) (fs : List Found) → Follows N.context (all_parts N.names (e ∷ [])) fs → type_rules (evaluated (row_of Get) (one (get_row x)) fs).faults ≡ [] → (evaluated (row_of Get) (one (get_row x)) fs).found.height ≤ suc N.depth → (at : Span) (s : State) → IsKept K s → IsAsFound K (evaluated (row_of Get) (one (get_row x)) fs).found (get_form N.take (here K N) (LeafAt (Named x) at ∷ e ∷ []) s)
  unfolding get_form
  get_each x e _ (part {f = f} t ends) types low at s k =
      let r : Ruled = get_row x f.type in
      let own = Charge TakeCost (sizes_of (f.type ∷ [])) in
      let low_f : f.height ≤ N.depth = omega (arith, low) in
      single_sound K N e f r 0 own _ t types low_f
      (λ v u i m. charged_low K TakeCost (size_of v) (sizes_of (f.type ∷ [])) _ (one_low f.type v i)
      (computed_sound K r.type (part_at x v) u (values_fit.parts x f.type v i (ruling_unbroken r 0 (Both own (sum_of (f ∷ []))) (f ∷ []) types)) m)) s k

  pub get_sound : (es : List Tree) → IsSoundShape K N (head_shape Get (row_of Get) N.context N.names es) (get_form N.take (here K N) es)
  unfolding head_shape
  get_sound =
      by_two K N (head_shape Get (row_of Get) N.context N.names) (get_form N.take (here K N)) (λ es h. counted es 2 h.argument_count)
      (λ a e. record {
        each = λ fs shape follows types low s k.
            (named_first (λ a. IsSoundShape K N (head_shape Get (row_of Get) N.context N.names (a ∷ e ∷ [])) (get_form N.take (here K N) (a ∷ e ∷ []))) (λ x. Some x) (e ∷ [])
            (λ x at. record { each = λ fs shape follows types low s k. get_each x e fs follows types low at s k })
            a (fine_shape (head_shape Get (row_of Get) N.context N.names (a ∷ e ∷ [])).faults shape).bad_binding).each fs shape follows types low s k;
      })

  -- ---- sequences within a length

  max_len_each : (most : ℕ) (e : Tree) (fs : List Found) → Follows N.context (all_parts N.names (e ∷ [])) fs → type_rules (evaluated (row_of AsMaxLen) (one (max_len_row most)) fs).faults ≡ [] → (evaluated (row_of AsMaxLen) (one (max_len_row most)) fs).found.height ≤ suc N.depth → (at : Span) (s : State) → IsKept K s → IsAsFound K (evaluated (row_of AsMaxLen) (one (max_len_row most)) fs).found (as_max_len_form N.take (here K N) (e ∷ LeafAt (Unsigned most) at ∷ []) s)
  unfolding as_max_len_form
  max_len_each most e _ (part {f = f} t ends) types low at s k =
      let r : Ruled = max_len_row most f.type in
      let own = Charge Make (sizes_of (f.type ∷ [])) in
      let low_f : f.height ≤ N.depth = omega (arith, low) in
      single_sound K N e f r 0 own _ t types low_f
      (λ v u i m. charged_low K Make (size_of v) (sizes_of (f.type ∷ [])) _ (one_low f.type v i)
      (computed_sound K r.type (within_length most v) u (values_fit.lengths most f.type v i (ruling_unbroken r 0 (Both own (sum_of (f ∷ []))) (f ∷ []) types)) m)) s k

  max_len_by : (e l : Tree) → IsSoundShape K N (head_shape AsMaxLen (row_of AsMaxLen) N.context N.names (e ∷ l ∷ [])) (as_max_len_form N.take (here K N) (e ∷ l ∷ []))
  unfolding head_shape
  max_len_by e (LeafAt (Unsigned most) at) = record { each = λ fs shape follows types low s k. max_len_each most e fs follows types low at s k }
  max_len_by e l = record { each = λ fs shape follows types low s k. absurd cc }

  pub max_len_sound : (es : List Tree) → IsSoundShape K N (head_shape AsMaxLen (row_of AsMaxLen) N.context N.names es) (as_max_len_form N.take (here K N) es)
  unfolding head_shape
  max_len_sound = by_two K N (head_shape AsMaxLen (row_of AsMaxLen) N.context N.names) (as_max_len_form N.take (here K N)) (λ es h. counted es 2 h.argument_count) max_len_by
