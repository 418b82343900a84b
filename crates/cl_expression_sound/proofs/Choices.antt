-- Ways to go on by a value; and rulings that are made of least supertypes and of parts.
use Rattle.std.proofs.Common.{◌≡◌, ◌<◌, Bool, true, false, List, [], ◌∷◌, length, Result, Ok, Err, refl, sym, subst, arith}
use Rattle.std.specs.Prelude.{not}
use Rattle.cl_types.specs.Types.{PlainType, NoType, OptionalType, ResponseType}
use Rattle.cl_types.specs.Lattice.{least_supertype}
use Rattle.cl_types.specs.declared.sized.TyRefusal.{TyRefusal}
use Rattle.cl_types.specs.declared.sized.TyRefusal.TheVariants.{Differ, TooLarge, TooDeep, EmptyTuple, KeyTwice}
use Rattle.cl_shapes.specs.declared.cost.Cost5.{Cost5}
use Rattle.cl_shapes.specs.Costs.{zero_cost}
use Rattle.cl_values.specs.Tree.{Tree as Val, BoolV, NoneV, ResponseV}
use Rattle.cl_events.specs.State.{State}
use Rattle.cl_meaning.specs.Answers.{Answer, Given, Thrown}
use Rattle.cl_meaning.specs.Control.{choice, last_of, wanted_part, err_part, tried}
use Rattle.cl_rules.specs.Faults.{type_rules}
use Rattle.cl_rules.specs.NativeTypes.{Ruled, if_kind, fine, and_lub, lubbed, part_taken, part_row, err_row}
use Rattle.cl_rules.specs.ControlShapes.{last_of as last_type, tried as tried_type}
use Rattle.cl_expression_sound.specs.Sound.{World, IsSound, IsThrown, IsKept}
use Rattle.cl_expression_sound.proofs.Logic.{sound_stop}
use Rattle.cl_expression_sound.proofs.Rules.{AreFineTypes, no_type_rules, not_false, or_left, or_right}
use Rattle.cl_expression_sound.proofs.Thrown.{of_left, of_right}
use Rattle.cl_expression_sound.proofs.Values.{IsOptional, is_none, is_some_value, optional_of, IsResponse, is_ok, is_err, response_of, none_typed}
use Rattle.cl_values.specs.Typed.{IsOf, AreOf}

-- ---- rulings

-- what is made of a least supertype that isn't refused
pub record IsLub (r : Result PlainType TyRefusal) (make : PlainType → Ruled) : Type 0 where
  pub type : PlainType
  pub found : r ≡ Ok type
  pub made : and_lub r make ≡ make type

pub lub_is : (r : Result PlainType TyRefusal) (make : PlainType → Ruled) → type_rules (and_lub r make).faults ≡ [] → IsLub r make
lub_is (Ok c) make h = record { type = c; found = refl; made = refl }
lub_is (Err Differ) make h = absurd cc
lub_is (Err TooLarge) make h = absurd cc
lub_is (Err TooDeep) make h = absurd cc
lub_is (Err EmptyTuple) make h = absurd cc
lub_is (Err KeyTwice) make h = absurd cc

-- a value of one of two types is one of their least supertype
pub lub_left : (v : Val) (a b : PlainType) → type_rules (lubbed a b).faults ≡ [] → IsOf v a → IsOf v (lubbed a b).type
lub_left v a b h i = let l = lub_is (least_supertype a b) fine h in subst (λ (r : Ruled). IsOf v r.type) (sym l.made) (of_left v a b l.type l.found i)

pub lub_right : (v : Val) (a b : PlainType) → type_rules (lubbed a b).faults ≡ [] → IsOf v b → IsOf v (lubbed a b).type
lub_right v a b h i = let l = lub_is (least_supertype a b) fine h in subst (λ (r : Ruled). IsOf v r.type) (sym l.made) (of_right v a b l.type l.found i)

pub taken_is : (t : PlainType) → (part_taken t).faults.undetermined ≡ false → part_taken t ≡ fine t
taken_is NoType h = absurd cc
taken_is t h = refl

of_part : (v : Val) (t : PlainType) → (part_taken t).faults.undetermined ≡ false → IsOf v t → IsOf v (part_taken t).type
of_part v t h i = subst (λ (r : Ruled). IsOf v r.type) (sym (taken_is t h)) i

pub unbroken_kind : (b : Bool) (r : Ruled) → AreFineTypes (if_kind b r).faults → (b ≡ true) × (type_rules r.faults ≡ [])
unbroken_kind b r h = (
  not_false b (or_left (not b) r.faults.argument_kind h.argument_kind),
  no_type_rules r.faults (record {
    argument_kind = or_right (not b) r.faults.argument_kind h.argument_kind;
    not_same = h.not_same;
    too_large = h.too_large;
    too_deep = h.too_deep;
    undetermined = h.undetermined;
    thrown_differ = h.thrown_differ;
    unused_response = h.unused_response;
    no_such_key = h.no_such_key;
  }),
)

-- ---- ways to go on

module _ (K : World) where
  choice_case : {P T : Val → Type 0} (c : Cost5) (b : Bool) (holds fails : State → Answer Val) (s : State) → IsSound K P T c (holds s) → IsSound K P T c (fails s) → IsSound K P T c (choice (BoolV b) holds fails s)
  choice_case c true holds fails s h k = h
  choice_case c false holds fails s h k = k

  pub choice_sound : {P T : Val → Type 0} (c : Cost5) (v : Val) (holds fails : State → Answer Val) (s : State) → (b : Bool) × (v ≡ BoolV b) → IsSound K P T c (holds s) → IsSound K P T c (fails s) → IsSound K P T c (choice v holds fails s)
  choice_sound {P = P} {T = T} c v holds fails s i h k = subst (λ v. IsSound K P T c (choice v holds fails s)) (sym i.1) (choice_case c i.0 holds fails s h k)

  -- the last of values of types
  pub last_sound : {T : Val → Type 0} (ts : List PlainType) (vs : List Val) (s : State) → AreOf vs ts → 0 < length ts → IsKept K s → IsSound K (λ v. IsOf v (last_type ts)) T zero_cost (last_of vs s)
  last_sound [] vs s i h n = absurd (omega (arith, h))
  last_sound (t ∷ ts) [] s i h n = absurd i
  last_sound {T = T} (t ∷ []) (v ∷ []) s i h n = sound_stop K (λ v. IsOf v t) T zero_cost (Given v) s i.0 n
  last_sound (t ∷ []) (v ∷ w ∷ vs) s i h n = absurd i.1
  last_sound (t ∷ u ∷ ts) (v ∷ []) s i h n = absurd i.1
  last_sound (t ∷ u ∷ ts) (v ∷ w ∷ vs) s i h n = last_sound (u ∷ ts) (w ∷ vs) s i.1 (omega arith) n

  -- the part of some or ok, or what follows
  pub wanted_sound : {T : Val → Type 0} (c : Cost5) (t : PlainType) (v : Val) (otherwise : State → Answer Val) (s : State) → AreFineTypes (part_row t).faults → IsOf v t → IsKept K s → IsSound K (λ v. IsOf v (part_row t).type) T c (otherwise s) → IsSound K (λ v. IsOf v (part_row t).type) T c (wanted_part otherwise v s)
  wanted_sound {T = T} c (OptionalType t) v otherwise s h i n k = by (optional_of v t i)
    where
      by : IsOptional v t → IsSound K (λ v. IsOf v (part_taken t).type) T c (wanted_part otherwise v s)
      by (is_none e) = subst (λ v. IsSound K (λ v. IsOf v (part_taken t).type) T c (wanted_part otherwise v s)) (sym e) k
      by (is_some_value w e j) = subst (λ v. IsSound K (λ v. IsOf v (part_taken t).type) T c (wanted_part otherwise v s)) (sym e) (sound_stop K (λ v. IsOf v (part_taken t).type) T c (Given w) s (of_part w t h.undetermined j) n)
  wanted_sound {T = T} c (ResponseType t u) v otherwise s h i n k = by (response_of v t u i)
    where
      by : IsResponse v t u → IsSound K (λ v. IsOf v (part_taken t).type) T c (wanted_part otherwise v s)
      by (is_ok w e j) = subst (λ v. IsSound K (λ v. IsOf v (part_taken t).type) T c (wanted_part otherwise v s)) (sym e) (sound_stop K (λ v. IsOf v (part_taken t).type) T c (Given w) s (of_part w t h.undetermined j) n)
      by (is_err w e j) = subst (λ v. IsSound K (λ v. IsOf v (part_taken t).type) T c (wanted_part otherwise v s)) (sym e) k
  wanted_sound c t v otherwise s h i n k = let e = h.argument_kind in absurd cc

  -- the part of err, or what follows
  pub err_sound : {T : Val → Type 0} (c : Cost5) (t : PlainType) (v : Val) (otherwise : State → Answer Val) (s : State) → AreFineTypes (err_row t).faults → IsOf v t → IsKept K s → IsSound K (λ v. IsOf v (err_row t).type) T c (otherwise s) → IsSound K (λ v. IsOf v (err_row t).type) T c (err_part otherwise v s)
  err_sound {T = T} c (ResponseType t u) v otherwise s h i n k = by (response_of v t u i)
    where
      by : IsResponse v t u → IsSound K (λ v. IsOf v (part_taken u).type) T c (err_part otherwise v s)
      by (is_ok w e j) = subst (λ v. IsSound K (λ v. IsOf v (part_taken u).type) T c (err_part otherwise v s)) (sym e) k
      by (is_err w e j) = subst (λ v. IsSound K (λ v. IsOf v (part_taken u).type) T c (err_part otherwise v s)) (sym e) (sound_stop K (λ v. IsOf v (part_taken u).type) T c (Given w) s (of_part w u h.undetermined j) n)
  err_sound c t v otherwise s h i n k = let e = h.argument_kind in absurd cc

  -- gives the part, or throws none or the err
  pub tried_sound : {T : Val → Type 0} (t : PlainType) (v : Val) (s : State) → AreFineTypes (part_row t).faults → IsOf v t → IsKept K s → ((w : Val) → IsThrown (tried_type t) w → T w) → IsSound K (λ v. IsOf v (part_row t).type) T zero_cost (tried v s)
  tried_sound {T = T} (OptionalType t) v s h i n k = by (optional_of v t i)
    where
      by : IsOptional v t → IsSound K (λ v. IsOf v (part_taken t).type) T zero_cost (tried v s)
      by (is_none e) = subst (λ v. IsSound K (λ v. IsOf v (part_taken t).type) T zero_cost (tried v s)) (sym e) (sound_stop K (λ v. IsOf v (part_taken t).type) T zero_cost (Thrown NoneV) s (k NoneV (none_typed NoType)) n)
      by (is_some_value w e j) = subst (λ v. IsSound K (λ v. IsOf v (part_taken t).type) T zero_cost (tried v s)) (sym e) (sound_stop K (λ v. IsOf v (part_taken t).type) T zero_cost (Given w) s (of_part w t h.undetermined j) n)
  tried_sound {T = T} (ResponseType t u) v s h i n k = by (response_of v t u i)
    where
      by : IsResponse v t u → IsSound K (λ v. IsOf v (part_taken t).type) T zero_cost (tried v s)
      by (is_ok w e j) = subst (λ v. IsSound K (λ v. IsOf v (part_taken t).type) T zero_cost (tried v s)) (sym e) (sound_stop K (λ v. IsOf v (part_taken t).type) T zero_cost (Given w) s (of_part w t h.undetermined j) n)
      by (is_err w e j) =
          let valid = subst (λ v. IsOf v (ResponseType t u)) e i in
          subst (λ v. IsSound K (λ v. IsOf v (part_taken t).type) T zero_cost (tried v s)) (sym e) (sound_stop K (λ v. IsOf v (part_taken t).type) T zero_cost (Thrown (ResponseV false w)) s (k (ResponseV false w) (record { valid = valid.valid; typed = j.typed })) n)
  tried_sound t v s h i n k = let e = h.argument_kind in absurd cc
