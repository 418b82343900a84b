-- Forms all of whose parts are taken, and then charged.
use Rattle.std.proofs.Common.{◌≡◌, inl, ℕ, ◌≤◌, Bool, true, false, List, [], ◌∷◌, Option}
use Rattle.std.specs.Prelude.{nat_le, if◌then◌else◌}
use Rattle.std.proofs.lemmas.Bool.{le-leb}
use Rattle.cl_types.specs.Types.{PlainType}
use Rattle.cl_shapes.specs.declared.name.CostName.{CostName}
use Rattle.cl_shapes.specs.Costs.{plus, zero_cost}
use Rattle.cl_sexpr.specs.Tree.{Tree, LeafAt, Named}
use Rattle.cl_sexpr.specs.declared.sexpr.Span.{Span}
use Rattle.cl_values.specs.Tree.{Tree as Val, depth_of}
use Rattle.cl_values.specs.Wire.{size_of}
use Rattle.cl_values.specs.Computed.{Computed, Gives, Fails, Panics, Undefined, is_within}
use Rattle.cl_events.specs.State.{State}
use Rattle.cl_meaning.specs.Answers.{Given, Wrong, Answer, stop, charged, and_then, outcome_of}
use Rattle.cl_meaning.specs.Scope.{parts}
use Rattle.cl_rules.specs.Faults.{type_rules}
use Rattle.cl_rules.specs.NativeTypes.{Ruled}
use Rattle.cl_rules.specs.Bills.{Bill, Charge, Both, cost_under}
use Rattle.cl_rules.specs.Verdicts.{Found, types_of, highest, sum_of, concluded}
use Rattle.cl_rules.specs.Shapes.{parts as all_parts, first_named, is_no_name}
use Rattle.cl_expression_sound.specs.Fitted.{Fitted, Follows}
use Rattle.cl_expression_sound.specs.Sound.{World, IsFine, IsSound, IsAsFound, IsKept}
use Rattle.cl_expression_sound.proofs.Costs.{charged_behind, one_behind, less_charged, and_nothing, at_most}
use Rattle.cl_expression_sound.proofs.Logic.{sound_more, sound_less, sound_stop, sound_charged, sound_then}
use Rattle.cl_expression_sound.proofs.Thrown.{MayThrow}
use Rattle.cl_expression_sound.proofs.Stands.{Stands, here, part_sound, parts_sound, concluded_sound}
use Rattle.cl_values.specs.Typed.{IsOf, AreOf}
use Rattle.cl_native_sound.specs.ValuesFit.{IsComputed}
use Rattle.cl_types.proofs.Lattice.{and_both}

-- ---- values

given_if : (P : Val → Type 0) (T : Val → Type 0) (v : Val) (b : Bool) → b ≡ true → P v → IsFine P T (if b then Given v else Wrong)
given_if P T v true h i = i
given_if P T v false h i = absurd cc

-- what a native gives is within the limits
pub computed_fine : (T : Val → Type 0) (t : PlainType) (c : Computed) → IsComputed t c → IsFine (λ v. IsOf v t) T (outcome_of c)
computed_fine T t (Gives v) i = given_if (λ v. IsOf v t) T v (is_within v) (and_both (nat_le (depth_of v) 32) (nat_le (size_of v) 1048576) (le-leb (depth_of v) 32 i.valid.depth) (le-leb (size_of v) 1048576 i.valid.size)) i
computed_fine T t (Fails why) i = tt
computed_fine T t Panics i = tt
computed_fine T t Undefined i = absurd i

-- ---- a name that stands first

pub named_first : {A : Type 0} (P : Tree → Type 0) (find : List ℕ → Option A) (es : List Tree) → ((x : List ℕ) (at : Span) → P (LeafAt (Named x) at)) → (a : Tree) → is_no_name (first_named find (a ∷ es)) ≡ false → P a
named_first P find es h (LeafAt (Named x) at) e = h x at
named_first P find es h a e = absurd cc

module _ (K : World) where
  -- a charge at no more than a number
  pub charged_low : {P T : Val → Type 0} (name : CostName) (m n : ℕ) (a : Answer Val) → m ≤ n → IsSound K P T zero_cost a → IsSound K P T (cost_under K.costs (Charge name n)) (charged name m a)
  charged_low name m n a low h =
      sound_more K (plus (cost_under K.costs (Charge name m)) zero_cost) (cost_under K.costs (Charge name n)) _
      (at_most (plus (cost_under K.costs (Charge name m)) zero_cost) (cost_under K.costs (Charge name m)) (cost_under K.costs (Charge name n)) (and_nothing (cost_under K.costs (Charge name m))) (less_charged K.costs name m n low))
      (sound_charged K name m zero_cost a h)

  pub computed_sound : {T : Val → Type 0} (t : PlainType) (c : Computed) (s : State) → IsComputed t c → IsKept K s → IsSound K (λ v. IsOf v t) T zero_cost (stop (outcome_of c) s)
  computed_sound {T = T} t c s i n = sound_stop K (λ v. IsOf v t) T zero_cost (outcome_of c) s (computed_fine T t c i) n

module _ (K : World) (N : Stands K) where
  -- all parts are taken, and then something more is done with their values
  pub strict_sound : (es : List Tree) (fs : List Found) (r : Ruled) (h : ℕ) (own : Bill) (go_on : List Val → State → Answer Val) → Follows N.context (all_parts N.names es) fs → type_rules (concluded r h (Both own (sum_of fs)) fs).faults ≡ [] → highest fs ≤ N.depth → ((vs : List Val) (t : State) → AreOf vs (types_of fs) → IsKept K t → IsSound K (λ v. IsOf v r.type) (MayThrow fs r.throws) (cost_under K.costs own) (go_on vs t)) → (s : State) → IsKept K s → IsAsFound K (concluded r h (Both own (sum_of fs)) fs).found (and_then (parts N.take (here K N) es s) go_on)
  strict_sound es fs r h own go_on follows types low next s n =
      concluded_sound K N r h (Both own (sum_of fs)) fs _ types
      (sound_more K (plus (cost_under K.costs (sum_of fs)) (cost_under K.costs own)) (plus (cost_under K.costs own) (cost_under K.costs (sum_of fs))) _ (charged_behind (cost_under K.costs (sum_of fs)) (cost_under K.costs own))
      (sound_then K (cost_under K.costs (sum_of fs)) (cost_under K.costs own) _ _ (sound_less K (cost_under K.costs (sum_of fs)) _ (λ v k. k) (λ v k. inl k) (parts_sound K N es fs follows low s n)) next))

  -- one part is taken, and then something more is done with its value
  pub single_sound : (e : Tree) (f : Found) (r : Ruled) (h : ℕ) (own : Bill) (go_on : Val → State → Answer Val) → Fitted N.context N.names e f → type_rules (concluded r h (Both own (sum_of (f ∷ []))) (f ∷ [])).faults ≡ [] → f.height ≤ N.depth → ((v : Val) (t : State) → IsOf v f.type → IsKept K t → IsSound K (λ v. IsOf v r.type) (MayThrow (f ∷ []) r.throws) (cost_under K.costs own) (go_on v t)) → (s : State) → IsKept K s → IsAsFound K (concluded r h (Both own (sum_of (f ∷ []))) (f ∷ [])).found (and_then (N.take (here K N) e s) go_on)
  single_sound e f r h own go_on t types low next s n =
      concluded_sound K N r h (Both own (sum_of (f ∷ []))) (f ∷ []) _ types
      (sound_more K (plus (cost_under K.costs f.bound) (cost_under K.costs own)) (plus (cost_under K.costs own) (plus (cost_under K.costs f.bound) zero_cost)) _ (one_behind (cost_under K.costs f.bound) (cost_under K.costs own))
      (sound_then K (cost_under K.costs f.bound) (cost_under K.costs own) _ _ (part_sound K N e f t low (λ v k. inl (inl k)) s n) next))
