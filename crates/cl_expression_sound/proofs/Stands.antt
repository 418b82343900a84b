-- What an expression stands in that is typed, over parts that are sound; and sound shapes.
use Rattle.std.proofs.Common.{◌≡◌, inl, inr, ℕ, suc, ◌≤◌, Bool, true, false, List, [], ◌∷◌, ◌++◌, length, refl, ap, arith, eqb-true}
use Rattle.std.specs.Prelude.{not, nat_eq, nat_le, ◌<◌}
use Rattle.std.proofs.lemmas.Bool.{leb-true}
use Rattle.cl_types.specs.Types.{PlainType}
use Rattle.cl_shapes.specs.Costs.{zero_cost}
use Rattle.cl_sexpr.specs.Tree.{Tree}
use Rattle.cl_values.specs.Tree.{Tree as Val}
use Rattle.cl_events.specs.State.{State}
use Rattle.cl_meaning.specs.Answers.{Given, Answer}
use Rattle.cl_meaning.specs.Scope.{Frame, BoundValues, Scope, Take, Enter, parts}
use Rattle.cl_rules.specs.Faults.{shape_rules, type_rules}
use Rattle.cl_rules.specs.NativeTypes.{Ruled}
use Rattle.cl_rules.specs.Bills.{Bill, cost_under}
use Rattle.cl_rules.specs.Context.{Context, Names, bind}
use Rattle.cl_rules.specs.Verdicts.{Found, types_of, highest, sum_of, concluded}
use Rattle.cl_rules.specs.Shapes.{Shape, parts as all_parts}
use Rattle.cl_expression_sound.specs.Fitted.{Fitted, Follows, ends, part}
use Rattle.cl_expression_sound.specs.Sound.{World, IsWorld, IsSound, IsThrown, IsAsFound, AreBound, IsFrame, scope, TakesSound, EntersSound, IsKept, IsGood}
use Rattle.cl_expression_sound.proofs.Logic.{sound_less, sound_stop, sound_then, sound_last}
use Rattle.cl_expression_sound.proofs.Thrown.{ThrownIn, MayThrow, thrown_covered}
use Rattle.cl_expression_sound.proofs.Rules.{IsFineShape, fine_shape}
use Rattle.cl_values.specs.Typed.{IsOf, AreOf}

pub record Stands (K : World) : Type 0 where
  pub world : IsWorld K
  pub take : Take
  pub enter : Enter
  pub depth : ℕ
  pub takes : TakesSound K take depth
  pub enters : EntersSound K enter depth
  pub context : Context
  pub good : IsGood K context
  pub frame : Frame
  pub framed : IsFrame context frame
  pub names : Names
  pub bound : BoundValues
  pub are : AreBound names bound

pub bound_more : (B : Names) (E : BoundValues) (x : List ℕ) (t : PlainType) (v : Val) → AreBound B E → IsOf v t → AreBound (bind x t B) (E ++ (x, v) ∷ [])
bound_more [] [] x t v are i = (refl, i, tt)
bound_more (b ∷ B) (e ∷ E) x t v are i = (are.0, are.1, bound_more B E x t v are.2 i)
bound_more [] (e ∷ E) x t v are i = absurd are
bound_more (b ∷ B) [] x t v are i = absurd are

module _ (K : World) (N : Stands K) where
  abbrev pub here : Scope
  here = scope K N.frame N.bound

  -- a value more under a name
  abbrev pub within : (x : List ℕ) (t : PlainType) (v : Val) → IsOf v t → Stands K
  within x t v i = record {
    world = N.world;
    take = N.take;
    enter = N.enter;
    depth = N.depth;
    takes = N.takes;
    enters = N.enters;
    context = N.context;
    good = N.good;
    frame = N.frame;
    framed = N.framed;
    names = bind x t N.names;
    bound = N.bound ++ (x, v) ∷ [];
    are = bound_more N.names N.bound x t v N.are i;
  }

  -- ---- parts

  pub part_sound : {T : Val → Type 0} (e : Tree) (f : Found) → Fitted N.context N.names e f → f.height ≤ N.depth → ((v : Val) → IsThrown f.thrown v → T v) → (s : State) → IsKept K s → IsSound K (λ v. IsOf v f.type) T (cost_under K.costs f.bound) (N.take (scope K N.frame N.bound) e s)
  part_sound e f t low more s n =
      sound_less K (cost_under K.costs f.bound) (N.take (scope K N.frame N.bound) e s) (λ v i. i) more
      (N.takes.each N.context N.good N.frame N.framed N.names N.bound N.are e f t low s n)

  pub parts_sound : (es : List Tree) (fs : List Found) → Follows N.context (all_parts N.names es) fs → highest fs ≤ N.depth → (s : State) → IsKept K s → IsSound K (λ vs. AreOf vs (types_of fs)) (ThrownIn fs) (cost_under K.costs (sum_of fs)) (parts N.take (scope K N.frame N.bound) es s)
  unfolding parts
  parts_sound [] _ ends low s n = sound_stop K (λ vs. AreOf vs []) (ThrownIn []) zero_cost (Given []) s tt n
  parts_sound (e ∷ es) _ (part {f = f} {fs = fs} t ts) low s n =
      let low_f : f.height ≤ N.depth = omega (arith, low) in
      let low_fs : highest fs ≤ N.depth = omega (arith, low) in
      sound_then K (cost_under K.costs f.bound) (cost_under K.costs (sum_of fs)) _ _ (part_sound e f t low_f (λ v k. inl k) s n)
      (λ v u i m. sound_last K (cost_under K.costs (sum_of fs)) _ _ (sound_less K (cost_under K.costs (sum_of fs)) _ (λ vs k. k) (λ w k. inr k) (parts_sound es fs ts low_fs u m))
      (λ vs w is l. sound_stop K (λ vs. AreOf vs (types_of (f ∷ fs))) (ThrownIn (f ∷ fs)) zero_cost (Given (v ∷ vs)) w (i, is) l))

  -- ---- shapes

  -- An expression of this shape is sound: where the shape breaks no rule, its parts are typed, and nothing is broken at what
  -- is found of them.
  pub record IsSoundShape (shape : Shape) (answer : State → Answer Val) : Type 0 where
    pub each : (fs : List Found) → shape_rules shape.faults ≡ [] → Follows N.context shape.plan fs → type_rules (shape.verdict fs).faults ≡ [] → (shape.verdict fs).found.height ≤ suc N.depth → (s : State) → IsKept K s → IsAsFound K (shape.verdict fs).found (answer s)

  -- what is thrown is of the thrown type of the whole
  pub concluded_sound : (r : Ruled) (h : ℕ) (b : Bill) (fs : List Found) (a : Answer Val) → type_rules (concluded r h b fs).faults ≡ [] → IsSound K (λ v. IsOf v r.type) (MayThrow fs r.throws) (cost_under K.costs b) a → IsAsFound K (concluded r h b fs).found a
  concluded_sound r h b fs a types k = sound_less K (cost_under K.costs b) a (λ v i. i) (thrown_covered r h b fs types) k

-- ---- numbers of arguments

pub one_of : (P : List Tree → Type 0) → ((a : Tree) → P (a ∷ [])) → (es : List Tree) → length es ≡ 1 → P es
one_of P h (a ∷ []) e = h a
one_of P h [] e = absurd (omega (arith, e))
one_of P h (a ∷ b ∷ es) e = absurd (omega (arith, e))

pub two_of : (P : List Tree → Type 0) → ((a b : Tree) → P (a ∷ b ∷ [])) → (es : List Tree) → length es ≡ 2 → P es
two_of P h (a ∷ b ∷ []) e = h a b
two_of P h [] e = absurd (omega (arith, e))
two_of P h (a ∷ []) e = absurd (omega (arith, e))
two_of P h (a ∷ b ∷ c ∷ es) e = absurd (omega (arith, e))

pub three_of : (P : List Tree → Type 0) → ((a b c : Tree) → P (a ∷ b ∷ c ∷ [])) → (es : List Tree) → length es ≡ 3 → P es
three_of P h (a ∷ b ∷ c ∷ []) e = h a b c
three_of P h [] e = absurd (omega (arith, e))
three_of P h (a ∷ []) e = absurd (omega (arith, e))
three_of P h (a ∷ b ∷ []) e = absurd (omega (arith, e))
three_of P h (a ∷ b ∷ c ∷ d ∷ es) e = absurd (omega (arith, e))

not_not : (b : Bool) → not b ≡ false → b ≡ true
not_not true h = refl
not_not false h = absurd cc

-- the number of arguments is the row's
pub counted : (es : List Tree) (n : ℕ) → not (nat_eq (length es) n) ≡ false → length es ≡ n
counted es n h = eqb-true (length es) n (not_not (nat_eq (length es) n) h)

module _ (K : World) (N : Stands K) where
  pub by_one : (sh : List Tree → Shape) (form : List Tree → State → Answer Val) → ((es : List Tree) → IsFineShape (sh es).faults → length es ≡ 1) → ((a : Tree) → IsSoundShape K N (sh (a ∷ [])) (form (a ∷ []))) → (es : List Tree) → IsSoundShape K N (sh es) (form es)
  by_one sh form count k es = record { each = λ fs shape. (one_of (λ es. IsSoundShape K N (sh es) (form es)) k es (count es (fine_shape (sh es).faults shape))).each fs shape }

  pub by_two : (sh : List Tree → Shape) (form : List Tree → State → Answer Val) → ((es : List Tree) → IsFineShape (sh es).faults → length es ≡ 2) → ((a b : Tree) → IsSoundShape K N (sh (a ∷ b ∷ [])) (form (a ∷ b ∷ []))) → (es : List Tree) → IsSoundShape K N (sh es) (form es)
  by_two sh form count k es = record { each = λ fs shape. (two_of (λ es. IsSoundShape K N (sh es) (form es)) k es (count es (fine_shape (sh es).faults shape))).each fs shape }

  pub by_three : (sh : List Tree → Shape) (form : List Tree → State → Answer Val) → ((es : List Tree) → IsFineShape (sh es).faults → length es ≡ 3) → ((a b c : Tree) → IsSoundShape K N (sh (a ∷ b ∷ c ∷ [])) (form (a ∷ b ∷ c ∷ []))) → (es : List Tree) → IsSoundShape K N (sh es) (form es)
  by_three sh form count k es = record { each = λ fs shape. (three_of (λ es. IsSoundShape K N (sh es) (form es)) k es (count es (fine_shape (sh es).faults shape))).each fs shape }

  -- as many are found as there are parts
  pub as_many_found : (es : List Tree) (fs : List Found) → Follows N.context (all_parts N.names es) fs → length (types_of fs) ≡ length es
  as_many_found [] _ ends = refl
  as_many_found (e ∷ es) _ (part {fs = fs} t ts) = ap suc (as_many_found es fs ts)

-- some, where one or more are taken
pub some_are : (es : List Tree) → not (nat_le 1 (length es)) ≡ false → 0 < length es
some_are es h = leb-true 1 (length es) (not_not (nat_le 1 (length es)) h)
