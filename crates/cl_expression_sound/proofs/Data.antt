-- Variables and maps.
use Rattle.std.proofs.Common.{◌≡◌, ℕ, suc, ◌+◌, ◌<◌, ◌≤◌, Bool, true, false, List, [], ◌∷◌, length, Option, Some, None, refl, sym, subst, arith}
use Rattle.std.specs.Prelude.{is_some}
use Rattle.cl_types.specs.Types.{PlainType, BoolType, OptionalType, size_of as type_size}
use Rattle.cl_shapes.specs.declared.cost.Cost5.{Cost5}
use Rattle.cl_shapes.specs.declared.name.CostName.TheVariants.{ReadVar, WriteVar, ReadMap, WriteMap}
use Rattle.cl_shapes.specs.Costs.{plus, zero_cost}
use Rattle.cl_sexpr.specs.declared.sexpr.Span.{Span}
use Rattle.cl_sexpr.specs.Tree.{Tree, LeafAt, Named}
use Rattle.cl_values.specs.Tree.{Tree as Val, BoolV, SomeV}
use Rattle.cl_values.specs.Wire.{size_of}
use Rattle.cl_values.specs.Sequences.{optional}
use Rattle.cl_values.specs.Natives.{native_value}
use Rattle.cl_values.specs.declared.native.Native.TheVariants.{MakeSome}
use Rattle.cl_maps.specs.Maps.{get, put}
use Rattle.cl_forms.specs.declared.head.Head.TheVariants.{VarGet, VarSet, MapGet, MapSet, MapInsert, MapDelete}
use Rattle.cl_forms.specs.Heads.{Row, row_of}
use Rattle.cl_events.specs.State.{State, place, spot, with_variables, with_entries}
use Rattle.cl_values.specs.Computed.{Gives}
use Rattle.cl_meaning.specs.Answers.{Answer, Given}
use Rattle.cl_meaning.specs.Deployed.{has_map, contract_at}
use Rattle.cl_meaning.specs.Scope.{sizes}
use Rattle.cl_meaning.specs.Data.{var_get_form, var_set_form, only_if, entry_at, map_get_form, set_entry, insert_entry, key_and_value, write_form, map_set_form, map_insert_form, map_delete_form}
use Rattle.cl_rules.specs.Faults.{type_rules}
use Rattle.cl_rules.specs.NativeTypes.{Ruled, fine, made, native_type}
use Rattle.cl_rules.specs.Bills.{Charge, Both, cost_under}
use Rattle.cl_rules.specs.Context.{named_in}
use Rattle.cl_rules.specs.Verdicts.{Found, Verdict, types_of, sizes_of, highest, sum_of}
use Rattle.cl_rules.specs.Shapes.{parts as all_parts, Admitted, are_wanted, stated, there_or_not, is_no_such, named_faults, named_shape}
use Rattle.cl_rules.specs.DataShapes.{var_get, var_set, map_get, map_put, map_delete}
use Rattle.cl_rules.specs.Table.{head_shape}
use Rattle.cl_expression_sound.specs.Stages.{IsThere}
use Rattle.cl_expression_sound.specs.Fitted.{Follows, ends, part}
use Rattle.cl_expression_sound.specs.Sound.{World, IsSound, IsAsFound, IsKept}
use Rattle.cl_expression_sound.proofs.Costs.{alone}
use Rattle.cl_expression_sound.proofs.Logic.{sound_more, sound_stop, sound_known}
use Rattle.cl_expression_sound.proofs.Rules.{fine_shape}
use Rattle.cl_expression_sound.proofs.Thrown.{MayThrow, ruling_fine}
use Rattle.cl_expression_sound.proofs.Values.{true_typed, none_typed}
use Rattle.cl_expression_sound.proofs.Choices.{unbroken_kind}
use Rattle.cl_expression_sound.proofs.Wanted.{AreWantedValues, stated_values, by_named}
use Rattle.cl_expression_sound.proofs.Strict.{charged_low, computed_sound, strict_sound, single_sound}
use Rattle.cl_expression_sound.proofs.Natives.{one_low}
use Rattle.cl_expression_sound.proofs.Stands.{Stands, here, IsSoundShape, concluded_sound, counted}
use Rattle.cl_values.specs.Typed.{IsOf}
use Rattle.cl_values.proofs.OfTypes.{no_larger}
use Rattle.cl_native_sound.proofs.Charges.{sizes_within}
use Rattle.cl_native_sound.proofs.ValuesFit.{values_fit}

pub positive : (n m : ℕ) → n ≡ suc m → 0 < n
positive n m e = omega (arith, e)

module _ where
  -- an optional of a value, where its type is within the limits
  pub some_typed : (t : PlainType) (v : Val) → IsOf v t → type_rules (made (OptionalType t)).faults ≡ [] → IsOf (SomeV v) (OptionalType t)
  unfolding native_value native_type
  some_typed t v i h = values_fit.natives MakeSome (t ∷ []) (v ∷ []) refl (i, tt) h

  pub optional_typed : (t : PlainType) (o : Option Val) → ((v : Val) → o ≡ Some v → IsOf v t) → type_rules (made (OptionalType t)).faults ≡ [] → IsOf (optional o) (OptionalType t)
  optional_typed t None h k = none_typed t
  optional_typed t (Some v) h k = some_typed t v (h v refl) k

module _ (K : World) (N : Stands K) where
  -- ---- what is there, at the contract of the frame

  variable_there : (x : List ℕ) (t : PlainType) → named_in x N.context.variables ≡ Some t → (s : State) → IsKept K s → IsThere (get (place N.frame.contract x) s.variables) t
  variable_there x t h s n = subst (λ p. IsThere (get (place p x) s.variables) t) (sym N.framed.home) (N.world.variables N.context N.good x t h s n)

  variable_kept : (x : List ℕ) (t : PlainType) → named_in x N.context.variables ≡ Some t → (v : Val) → IsOf v t → (s : State) → IsKept K s → IsKept K (with_variables (put (place N.frame.contract x) v s.variables) s)
  variable_kept x t h v i s n = subst (λ p. IsKept K (with_variables (put (place p x) v s.variables) s)) (sym N.framed.home) (N.world.set_variable N.context N.good x t h v i s n)

  map_there : (m : List ℕ) (t : PlainType × PlainType) → named_in m N.context.maps ≡ Some t → has_map m (contract_at N.frame.contract K.deployed) ≡ true
  map_there m t h = subst (λ p. has_map m (contract_at p K.deployed) ≡ true) (sym N.framed.home) (N.world.maps N.context N.good m t h)

  entry_typed : (m : List ℕ) (t : PlainType × PlainType) → named_in m N.context.maps ≡ Some t → (key : Val) → IsOf key t.0 → (s : State) → IsKept K s → (v : Val) → get (spot N.frame.contract m key) s.entries ≡ Some v → IsOf v t.1
  entry_typed m t h key i s n v e = N.world.entries N.context N.good m t h key i s n v (subst (λ p. get (spot p m key) s.entries ≡ Some v) N.framed.home e)

  entry_kept : (m : List ℕ) (t : PlainType × PlainType) → named_in m N.context.maps ≡ Some t → (key v : Val) → IsOf key t.0 → IsOf v t.1 → (s : State) → IsKept K s → IsKept K (with_entries (put (spot N.frame.contract m key) v s.entries) s)
  entry_kept m t h key v i j s n = subst (λ p. IsKept K (with_entries (put (spot p m key) v s.entries) s)) (sym N.framed.home) (N.world.put_entry N.context N.good m t h key v i j s n)

  -- ---- variables

  read_each : (x : List ℕ) (at : Span) (t : PlainType) → named_in x N.context.variables ≡ Some t → (fs : List Found) → Follows N.context (all_parts N.names []) fs → type_rules (var_get (row_of VarGet) t fs).faults ≡ [] → (s : State) → IsKept K s → IsAsFound K (var_get (row_of VarGet) t fs).found (var_get_form (here K N) (LeafAt (Named x) at ∷ []) s)
  unfolding var_get_form
  read_each x at t h _ ends types s n =
      let v = variable_there x t h s n in
      concluded_sound K N (fine t) 0 (Both (Charge ReadVar (type_size t)) (sum_of [])) [] _ types
      (sound_known K (plus (cost_under K.costs (Charge ReadVar (type_size t))) zero_cost) _ v.value _ s v.there
      (sound_more K (cost_under K.costs (Charge ReadVar (type_size t))) _ _ (alone (cost_under K.costs (Charge ReadVar (type_size t))))
      (charged_low K ReadVar (size_of v.value) (type_size t) _ (no_larger v.value t v.typed) (sound_stop K (λ v. IsOf v t) (MayThrow [] None) zero_cost (Given v.value) s v.typed n))))

  -- where the name isn't a variable's, the shape breaks a rule
  variable_by : (row : Row) (verdict : PlainType → List Found → Verdict) (es rest : List Tree) (answer : State → Answer Val) (o : Option PlainType) → ((t : PlainType) → o ≡ Some t → IsSoundShape K N (named_shape (record (named_faults row es (there_or_not o)) { no_such_variable = false }) (there_or_not (Some t)) verdict N.names es) answer) → IsSoundShape K N (named_shape (record (named_faults row es (there_or_not o)) { no_such_variable = is_no_such (there_or_not o) }) (there_or_not o) verdict N.names es) answer
  variable_by row verdict es rest answer (Some t) k = k t refl
  variable_by row verdict es rest answer None k = record { each = λ fs shape follows types low s n. let h = (fine_shape (record (named_faults row es (there_or_not {A = PlainType} None)) { no_such_variable = true }) shape).no_such_variable in absurd cc }

  read_by : (x : List ℕ) (at : Span) (es : List Tree) → IsSoundShape K N (head_shape VarGet (row_of VarGet) N.context N.names (LeafAt (Named x) at ∷ es)) (var_get_form (here K N) (LeafAt (Named x) at ∷ es))
  unfolding head_shape
  read_by x at [] = variable_by (row_of VarGet) (var_get (row_of VarGet)) (LeafAt (Named x) at ∷ []) [] _ (named_in x N.context.variables) (λ t h. record { each = λ fs shape follows types low s n. read_each x at t h fs follows types s n })
  read_by x at (e ∷ es) = record {
    each = λ fs shape follows types low s n.
        let h = counted (LeafAt (Named x) at ∷ e ∷ es) 1 (fine_shape (head_shape VarGet (row_of VarGet) N.context N.names (LeafAt (Named x) at ∷ e ∷ es)).faults shape).argument_count in absurd (omega (arith, h));
  }

  pub var_get_sound : (es : List Tree) → IsSoundShape K N (head_shape VarGet (row_of VarGet) N.context N.names es) (var_get_form (here K N) es)
  unfolding head_shape
  var_get_sound =
      by_named K N (head_shape VarGet (row_of VarGet) N.context N.names) (var_get_form (here K N)) (λ x. named_in x N.context.variables)
      (λ es h. positive (length es) 0 (counted es 1 h.argument_count)) (λ a es h. h.bad_binding) read_by

  write_each : (x : List ℕ) (at : Span) (t : PlainType) → named_in x N.context.variables ≡ Some t → (e : Tree) (fs : List Found) → Follows N.context (all_parts N.names (e ∷ [])) fs → type_rules (var_set (row_of VarSet) t fs).faults ≡ [] → (var_set (row_of VarSet) t fs).found.height ≤ suc N.depth → (s : State) → IsKept K s → IsAsFound K (var_set (row_of VarSet) t fs).found (var_set_form N.take (here K N) (LeafAt (Named x) at ∷ e ∷ []) s)
  unfolding var_set_form
  write_each x at t h e _ (part {f = f} te ends) types low s n =
      let r : Ruled = stated (Admitted t ∷ []) (fine BoolType) (f.type ∷ []) in
      let own = Charge WriteVar (sizes_of (f.type ∷ [])) in
      let low_f : f.height ≤ N.depth = omega (arith, low) in
      single_sound K N e f r 0 own _ te types low_f
      (λ v u i m.
      let wanted = stated_values (Admitted t ∷ []) (fine BoolType) (f.type ∷ []) (v ∷ []) (ruling_fine r 0 (Both own (sum_of (f ∷ []))) (f ∷ []) types) (i, tt) in
      let old = variable_there x t h u m in
      charged_low K WriteVar (size_of v) (sizes_of (f.type ∷ [])) _ (one_low f.type v i)
      (sound_known K zero_cost _ old.value _ u old.there
      (sound_stop K (λ v. IsOf v BoolType) (MayThrow (f ∷ []) None) zero_cost (Given (BoolV true)) _ (true_typed true) (variable_kept x t h v wanted.0 u m)))) s n

  write_by : (x : List ℕ) (at : Span) (es : List Tree) → IsSoundShape K N (head_shape VarSet (row_of VarSet) N.context N.names (LeafAt (Named x) at ∷ es)) (var_set_form N.take (here K N) (LeafAt (Named x) at ∷ es))
  unfolding head_shape
  write_by x at (e ∷ []) = variable_by (row_of VarSet) (var_set (row_of VarSet)) (LeafAt (Named x) at ∷ e ∷ []) [] _ (named_in x N.context.variables) (λ t h. record { each = λ fs shape follows types low s n. write_each x at t h e fs follows types low s n })
  write_by x at [] = record {
    each = λ fs shape follows types low s n.
        let h = counted (LeafAt (Named x) at ∷ []) 2 (fine_shape (head_shape VarSet (row_of VarSet) N.context N.names (LeafAt (Named x) at ∷ [])).faults shape).argument_count in absurd (omega (arith, h));
  }
  write_by x at (e ∷ d ∷ es) = record {
    each = λ fs shape follows types low s n.
        let h = counted (LeafAt (Named x) at ∷ e ∷ d ∷ es) 2 (fine_shape (head_shape VarSet (row_of VarSet) N.context N.names (LeafAt (Named x) at ∷ e ∷ d ∷ es)).faults shape).argument_count in absurd (omega (arith, h));
  }

  pub var_set_sound : (es : List Tree) → IsSoundShape K N (head_shape VarSet (row_of VarSet) N.context N.names es) (var_set_form N.take (here K N) es)
  unfolding head_shape
  var_set_sound =
      by_named K N (head_shape VarSet (row_of VarSet) N.context N.names) (var_set_form N.take (here K N)) (λ x. named_in x N.context.variables)
      (λ es h. positive (length es) 1 (counted es 2 h.argument_count)) (λ a es h. h.bad_binding) write_by

  -- ---- maps

  only_sound : {P T : Val → Type 0} (c : Cost5) (b : Bool) (go_on : State → Answer Val) (s : State) → b ≡ true → IsSound K P T c (go_on s) → IsSound K P T c (only_if b go_on s)
  only_sound c true go_on s e h = h
  only_sound c false go_on s e h = absurd cc

  -- where the name isn't a map's, the shape breaks a rule
  map_by : (row : Row) (verdict : PlainType × PlainType → List Found → Verdict) (es : List Tree) (answer : State → Answer Val) (o : Option (PlainType × PlainType)) → ((t : PlainType × PlainType) → o ≡ Some t → IsSoundShape K N (named_shape (record (named_faults row es (there_or_not o)) { no_such_map = false }) (there_or_not (Some t)) verdict N.names es) answer) → IsSoundShape K N (named_shape (record (named_faults row es (there_or_not o)) { no_such_map = is_no_such (there_or_not o) }) (there_or_not o) verdict N.names es) answer
  map_by row verdict es answer (Some t) k = k t refl
  map_by row verdict es answer None k = record { each = λ fs shape follows types low s n. let h = (fine_shape (record (named_faults row es (there_or_not {A = PlainType × PlainType} None)) { no_such_map = true }) shape).no_such_map in absurd cc }

  get_each : (m : List ℕ) (at : Span) (t : PlainType × PlainType) → named_in m N.context.maps ≡ Some t → (e : Tree) (fs : List Found) → Follows N.context (all_parts N.names (e ∷ [])) fs → type_rules (map_get (row_of MapGet) t fs).faults ≡ [] → (map_get (row_of MapGet) t fs).found.height ≤ suc N.depth → (s : State) → IsKept K s → IsAsFound K (map_get (row_of MapGet) t fs).found (map_get_form N.take (here K N) (LeafAt (Named m) at ∷ e ∷ []) s)
  unfolding map_get_form
  get_each m at t h e _ (part {f = f} te ends) types low s n =
      let r : Ruled = stated (Admitted t.0 ∷ []) (made (OptionalType t.1)) (f.type ∷ []) in
      let own = Charge ReadMap (sizes_of (f.type ∷ []) + type_size (OptionalType t.1)) in
      let fine_r = ruling_fine r 0 (Both own (sum_of (f ∷ []))) (f ∷ []) types in
      let small = (unbroken_kind (are_wanted (Admitted t.0 ∷ []) (f.type ∷ [])) (made (OptionalType t.1)) fine_r).1 in
      let low_f : f.height ≤ N.depth = omega (arith, low) in
      single_sound K N e f r 0 own _ te types low_f
      (λ key u i k.
      let wanted = stated_values (Admitted t.0 ∷ []) (made (OptionalType t.1)) (f.type ∷ []) (key ∷ []) fine_r (i, tt) in
      let found = optional (entry_at (here K N) m key u) in
      let typed : IsOf found (OptionalType t.1) = optional_typed t.1 (entry_at (here K N) m key u) (entry_typed m t h key wanted.0 u k) small in
      let low_key : size_of key ≤ sizes_of (f.type ∷ []) = one_low f.type key i in
      let low_found : size_of found ≤ type_size (OptionalType t.1) = no_larger found (OptionalType t.1) typed in
      only_sound (cost_under K.costs own) _ _ u (map_there m t h)
      (charged_low K ReadMap (size_of key + size_of found) (sizes_of (f.type ∷ []) + type_size (OptionalType t.1)) _ (omega (arith, low_key, low_found))
      (computed_sound K (OptionalType t.1) (Gives found) u typed k))) s n

  get_by : (m : List ℕ) (at : Span) (es : List Tree) → IsSoundShape K N (head_shape MapGet (row_of MapGet) N.context N.names (LeafAt (Named m) at ∷ es)) (map_get_form N.take (here K N) (LeafAt (Named m) at ∷ es))
  unfolding head_shape
  get_by m at (e ∷ []) = map_by (row_of MapGet) (map_get (row_of MapGet)) (LeafAt (Named m) at ∷ e ∷ []) _ (named_in m N.context.maps) (λ t h. record { each = λ fs shape follows types low s n. get_each m at t h e fs follows types low s n })
  get_by m at [] = record {
    each = λ fs shape follows types low s n.
        let h = counted (LeafAt (Named m) at ∷ []) 2 (fine_shape (head_shape MapGet (row_of MapGet) N.context N.names (LeafAt (Named m) at ∷ [])).faults shape).argument_count in absurd (omega (arith, h));
  }
  get_by m at (e ∷ d ∷ es) = record {
    each = λ fs shape follows types low s n.
        let h = counted (LeafAt (Named m) at ∷ e ∷ d ∷ es) 2 (fine_shape (head_shape MapGet (row_of MapGet) N.context N.names (LeafAt (Named m) at ∷ e ∷ d ∷ es)).faults shape).argument_count in absurd (omega (arith, h));
  }

  pub map_get_sound : (es : List Tree) → IsSoundShape K N (head_shape MapGet (row_of MapGet) N.context N.names es) (map_get_form N.take (here K N) es)
  unfolding head_shape
  map_get_sound =
      by_named K N (head_shape MapGet (row_of MapGet) N.context N.names) (map_get_form N.take (here K N)) (λ x. named_in x N.context.maps)
      (λ es h. positive (length es) 1 (counted es 2 h.argument_count)) (λ a es h. h.bad_binding) get_by

  -- an act on a key and a value of the map's types, which gives a truth value
  key_value_sound : {T : Val → Type 0} (m : List ℕ) (t : PlainType × PlainType) (act : Val → Val → State → Answer Val) → ((key v : Val) (s : State) → IsOf key t.0 → IsOf v t.1 → IsKept K s → IsSound K (λ v. IsOf v BoolType) T zero_cost (act key v s)) → (vs : List Val) (s : State) → AreWantedValues (Admitted t.0 ∷ Admitted t.1 ∷ []) vs → IsKept K s → IsSound K (λ v. IsOf v BoolType) T zero_cost (key_and_value act vs s)
  key_value_sound m t act h (key ∷ v ∷ []) s w n = h key v s w.0 w.1.0 n
  key_value_sound m t act h [] s w n = absurd w
  key_value_sound m t act h (key ∷ []) s w n = absurd w.1
  key_value_sound m t act h (key ∷ v ∷ w' ∷ vs) s w n = absurd w.1.1

  put_each : (m : List ℕ) (t : PlainType × PlainType) → named_in m N.context.maps ≡ Some t → (act : Val → Val → State → Answer Val) → ((T : Val → Type 0) (key v : Val) (s : State) → IsOf key t.0 → IsOf v t.1 → IsKept K s → IsSound K (λ v. IsOf v BoolType) T zero_cost (act key v s)) → (es : List Tree) (fs : List Found) → Follows N.context (all_parts N.names es) fs → type_rules (map_put (row_of MapSet) t fs).faults ≡ [] → (map_put (row_of MapSet) t fs).found.height ≤ suc N.depth → (s : State) → IsKept K s → IsAsFound K (map_put (row_of MapSet) t fs).found (write_form act m N.take (here K N) es s)
  put_each m t h act acts es fs follows types low s n =
      let ws = Admitted t.0 ∷ Admitted t.1 ∷ [] in
      let r : Ruled = stated ws (fine BoolType) (types_of fs) in
      let own = Charge WriteMap (sizes_of (types_of fs)) in
      let low_fs : highest fs ≤ N.depth = omega (arith, low) in
      strict_sound K N es fs r 0 own _ follows types low_fs
      (λ vs u i k.
      let wanted = stated_values ws (fine BoolType) (types_of fs) vs (ruling_fine r 0 (Both own (sum_of fs)) fs types) i in
      charged_low K WriteMap (sizes vs) (sizes_of (types_of fs)) _ (sizes_within (types_of fs) vs i)
      (only_sound zero_cost _ _ u (map_there m t h) (key_value_sound m t act (acts (MayThrow fs None)) vs u wanted k))) s n

  set_acts : (m : List ℕ) (t : PlainType × PlainType) → named_in m N.context.maps ≡ Some t → (T : Val → Type 0) (key v : Val) (s : State) → IsOf key t.0 → IsOf v t.1 → IsKept K s → IsSound K (λ v. IsOf v BoolType) T zero_cost (set_entry (here K N) m key v s)
  set_acts m t h T key v s i j n = sound_stop K (λ v. IsOf v BoolType) T zero_cost (Given (BoolV true)) _ (true_typed true) (entry_kept m t h key v i j s n)

  insert_acts : (m : List ℕ) (t : PlainType × PlainType) → named_in m N.context.maps ≡ Some t → (T : Val → Type 0) (key v : Val) (s : State) (o : Option Val) → IsOf key t.0 → IsOf v t.1 → IsKept K s → IsSound K (λ v. IsOf v BoolType) T zero_cost (insert_entry (here K N) m key v o s)
  insert_acts m t h T key v s (Some old) i j n = sound_stop K (λ v. IsOf v BoolType) T zero_cost (Given (BoolV false)) s (true_typed false) n
  insert_acts m t h T key v s None i j n = set_acts m t h T key v s i j n

  set_by : (m : List ℕ) (at : Span) (es : List Tree) → IsSoundShape K N (head_shape MapSet (row_of MapSet) N.context N.names (LeafAt (Named m) at ∷ es)) (map_set_form N.take (here K N) (LeafAt (Named m) at ∷ es))
  unfolding head_shape map_set_form
  set_by m at es = map_by (row_of MapSet) (map_put (row_of MapSet)) (LeafAt (Named m) at ∷ es) _ (named_in m N.context.maps) (λ t h. record { each = λ fs shape follows types low s n. put_each m t h (set_entry (here K N) m) (set_acts m t h) es fs follows types low s n })

  pub map_set_sound : (es : List Tree) → IsSoundShape K N (head_shape MapSet (row_of MapSet) N.context N.names es) (map_set_form N.take (here K N) es)
  unfolding head_shape
  map_set_sound =
      by_named K N (head_shape MapSet (row_of MapSet) N.context N.names) (map_set_form N.take (here K N)) (λ x. named_in x N.context.maps)
      (λ es h. positive (length es) 2 (counted es 3 h.argument_count)) (λ a es h. h.bad_binding) set_by

  insert_by : (m : List ℕ) (at : Span) (es : List Tree) → IsSoundShape K N (head_shape MapInsert (row_of MapInsert) N.context N.names (LeafAt (Named m) at ∷ es)) (map_insert_form N.take (here K N) (LeafAt (Named m) at ∷ es))
  unfolding head_shape map_insert_form
  insert_by m at es = map_by (row_of MapInsert) (map_put (row_of MapInsert)) (LeafAt (Named m) at ∷ es) _ (named_in m N.context.maps) (λ t h. record {
    each = λ fs shape follows types low s n.
        put_each m t h (λ key v u. insert_entry (here K N) m key v (entry_at (here K N) m key u) u) (λ T key v u i j k. insert_acts m t h T key v u (entry_at (here K N) m key u) i j k) es fs follows types low s n;
  })

  pub map_insert_sound : (es : List Tree) → IsSoundShape K N (head_shape MapInsert (row_of MapInsert) N.context N.names es) (map_insert_form N.take (here K N) es)
  unfolding head_shape
  map_insert_sound =
      by_named K N (head_shape MapInsert (row_of MapInsert) N.context N.names) (map_insert_form N.take (here K N)) (λ x. named_in x N.context.maps)
      (λ es h. positive (length es) 2 (counted es 3 h.argument_count)) (λ a es h. h.bad_binding) insert_by

  delete_each : (m : List ℕ) (at : Span) (t : PlainType × PlainType) → named_in m N.context.maps ≡ Some t → (e : Tree) (fs : List Found) → Follows N.context (all_parts N.names (e ∷ [])) fs → type_rules (map_delete (row_of MapDelete) t fs).faults ≡ [] → (map_delete (row_of MapDelete) t fs).found.height ≤ suc N.depth → (s : State) → IsKept K s → IsAsFound K (map_delete (row_of MapDelete) t fs).found (map_delete_form N.take (here K N) (LeafAt (Named m) at ∷ e ∷ []) s)
  unfolding map_delete_form
  delete_each m at t h e _ (part {f = f} te ends) types low s n =
      let r : Ruled = stated (Admitted t.0 ∷ []) (fine BoolType) (f.type ∷ []) in
      let own = Charge WriteMap (sizes_of (f.type ∷ [])) in
      let low_f : f.height ≤ N.depth = omega (arith, low) in
      single_sound K N e f r 0 own _ te types low_f
      (λ key u i k.
      charged_low K WriteMap (size_of key) (sizes_of (f.type ∷ [])) _ (one_low f.type key i)
      (only_sound zero_cost _ _ u (map_there m t h)
      (sound_stop K (λ v. IsOf v BoolType) (MayThrow (f ∷ []) None) zero_cost (Given (BoolV (is_some (entry_at (here K N) m key u)))) _ (true_typed _) (N.world.remove_entry (spot N.frame.contract m key) u k)))) s n

  delete_by : (m : List ℕ) (at : Span) (es : List Tree) → IsSoundShape K N (head_shape MapDelete (row_of MapDelete) N.context N.names (LeafAt (Named m) at ∷ es)) (map_delete_form N.take (here K N) (LeafAt (Named m) at ∷ es))
  unfolding head_shape
  delete_by m at (e ∷ []) = map_by (row_of MapDelete) (map_delete (row_of MapDelete)) (LeafAt (Named m) at ∷ e ∷ []) _ (named_in m N.context.maps) (λ t h. record { each = λ fs shape follows types low s n. delete_each m at t h e fs follows types low s n })
  delete_by m at [] = record {
    each = λ fs shape follows types low s n.
        let h = counted (LeafAt (Named m) at ∷ []) 2 (fine_shape (head_shape MapDelete (row_of MapDelete) N.context N.names (LeafAt (Named m) at ∷ [])).faults shape).argument_count in absurd (omega (arith, h));
  }
  delete_by m at (e ∷ d ∷ es) = record {
    each = λ fs shape follows types low s n.
        let h = counted (LeafAt (Named m) at ∷ e ∷ d ∷ es) 2 (fine_shape (head_shape MapDelete (row_of MapDelete) N.context N.names (LeafAt (Named m) at ∷ e ∷ d ∷ es)).faults shape).argument_count in absurd (omega (arith, h));
  }

  pub map_delete_sound : (es : List Tree) → IsSoundShape K N (head_shape MapDelete (row_of MapDelete) N.context N.names es) (map_delete_form N.take (here K N) es)
  unfolding head_shape
  map_delete_sound =
      by_named K N (head_shape MapDelete (row_of MapDelete) N.context N.names) (map_delete_form N.take (here K N)) (λ x. named_in x N.context.maps)
      (λ es h. positive (length es) 1 (counted es 2 h.argument_count)) (λ a es h. h.bad_binding) delete_by
