-- Literals, keywords, bound names and constants.
use Rattle.std.proofs.Common.{◌≡◌, ℕ, ◌<◌, ◌≤◌, ◌^◌, Bool, true, false, List, [], ◌∷◌, length, Option, Some, None, Ok, Err, refl, sym, subst, ◌∙◌, arith}
use Rattle.std.specs.Prelude.{not, nat_le, nat_lt, if◌then◌else◌}
use Rattle.std.specs.Str.{bytes_eq}
use Rattle.std.proofs.lemmas.Bool.{leb-true}
use Rattle.std.proofs.lemmas.Bool.Decides.{nat_tests}
use Rattle.std.specs.Option.{option_or}
use Rattle.cl_types.specs.Types.{PlainType, NoType, IntType, UintType, BoolType, PrincipalType, BuffType, AsciiType, Utf8Type, OptionalType, size_of as type_size}
use Rattle.cl_types.specs.Sized.{everywhere, most_size, is_within}
use Rattle.cl_types.proofs.Lattice.{le_same, and_left}
use Rattle.cl_c32.specs.declared.principal.Principal.{Principal}
use Rattle.cl_shapes.specs.declared.name.CostName.{CostName}
use Rattle.cl_shapes.specs.declared.name.CostName.TheVariants.{Literal, Lookup, Context as ContextCost}
use Rattle.cl_shapes.specs.Costs.{plus, zero_cost}
use Rattle.cl_sexpr.specs.Tree.{Leaf, Named, Signed, Unsigned, Bytes, Ascii, Unicode, Standing, Local}
use Rattle.cl_values.specs.Tree.{Tree as Val, IntV, UintV, BoolV, BuffV, AsciiV, Utf8V, PrincipalV, NoneV, depth_of}
use Rattle.cl_values.specs.declared.refusal.ValueRefusal.TheVariants.{BadTuple, BadText, TooDeep, TooLarge}
use Rattle.cl_values.specs.Wire.{size_of}
use Rattle.cl_values.specs.Valid.{IsPrincipal, IsVal, has_rising_keys, has_good_texts, made as value_made}
use Rattle.cl_values.proofs.Admitted.{bounded}
use Rattle.cl_events.specs.State.{State}
use Rattle.cl_forms.specs.declared.keyword.Keyword.{Keyword}
use Rattle.cl_forms.specs.declared.keyword.Keyword.TheVariants as keys
use Rattle.cl_forms.specs.Keywords.{keyword_of}
use Rattle.cl_meaning.specs.Answers.{Answer, Given, give, with_known}
use Rattle.cl_meaning.specs.Deployed.{value_of, constant_of, contract_at}
use Rattle.cl_meaning.specs.Scope.{BoundValues}
use Rattle.cl_meaning.specs.Names.{standing, literal, keyword_or as keyword_form_or, name_form, leaf_form}
use Rattle.cl_rules.specs.Faults.{type_rules}
use Rattle.cl_rules.specs.NativeTypes.{Ruled, fine, made, is_small}
use Rattle.cl_rules.specs.Bills.{Charge, Both, cost_under}
use Rattle.cl_rules.specs.Context.{Names, same, named_in, is_no_value}
use Rattle.cl_rules.specs.Verdicts.{Found, sum_of}
use Rattle.cl_rules.specs.Shapes.{Shape, value_shape}
use Rattle.cl_rules.specs.ControlShapes.{leaf_shape, keyword_or, value_or, no_value_shape, name_shape}
use Rattle.cl_sexpr.specs.Fits.{LeafFits}
use Rattle.cl_expression_sound.specs.Stages.{IsThere}
use Rattle.cl_expression_sound.specs.Fitted.{Follows, ends}
use Rattle.cl_expression_sound.specs.Sound.{World, IsSound, IsAsFound, AreBound, IsKept}
use Rattle.cl_expression_sound.proofs.Costs.{more_of_both, less_charged, same_cost}
use Rattle.cl_expression_sound.proofs.Logic.{sound_more, sound_stop, sound_charged}
use Rattle.cl_expression_sound.proofs.Rules.{AreFineTypes, not_false}
use Rattle.cl_expression_sound.proofs.Thrown.{ruling_fine}
use Rattle.cl_expression_sound.proofs.Values.{true_typed, none_typed}
use Rattle.cl_expression_sound.proofs.Stands.{Stands, here, IsSoundShape, concluded_sound}
use Rattle.cl_values.specs.Typed.{IsOf}
use Rattle.cl_values.proofs.OfTypes.{no_larger}

-- ---- literals

-- what is valid is what is made
made_if : (a b c d : Bool) (v : Val) → a ≡ true → b ≡ true → c ≡ false → d ≡ false → (if not a then Err BadTuple else if not b then Err BadText else if c then Err TooDeep else if d then Err TooLarge else Ok v) ≡ Ok v
made_if true true false false v g h k l = refl
made_if false b c d v g h k l = absurd cc
made_if true false c d v g h k l = absurd cc
made_if true true true d v g h k l = absurd cc
made_if true true false true v g h k l = absurd cc

not_lower : (m n : ℕ) → n ≤ m → nat_lt m n ≡ false
not_lower m n h = grind (arith, nat_tests)

valid_made : (v : Val) → IsVal v → value_made v ≡ Ok v
valid_made v i = made_if (has_rising_keys v) (has_good_texts v) (nat_lt 32 (depth_of v)) (nat_lt 1048576 (size_of v)) v i.keys i.texts (not_lower 32 (depth_of v) i.depth) (not_lower 1048576 (size_of v) i.size)

pub int_typed : (z : _) → LeafFits (Signed z) → IsOf (IntV z) IntType
int_typed z h = record { valid = record { ranges = h; keys = refl; texts = refl; depth = omega arith; size = omega arith }; typed = refl }

pub uint_typed : (n : ℕ) → n < 2 ^ 128 → IsOf (UintV n) UintType
uint_typed n h = record { valid = record { ranges = h; keys = refl; texts = refl; depth = omega arith; size = omega arith }; typed = refl }

pub principal_typed : (p : Principal) → IsPrincipal p → IsOf (PrincipalV p) PrincipalType
principal_typed p h =
    let low : size_of (PrincipalV p) ≤ 151 = bounded (PrincipalV p) PrincipalType h refl in
    record { valid = record { ranges = h; keys = refl; texts = refl; depth = omega arith; size = omega (arith, low) }; typed = refl }

pub not_large : (t : PlainType) → not (is_small t) ≡ false → everywhere is_within t ≡ is_within t → type_size t ≤ most_size
not_large t h e = leb-true (type_size t) most_size (and_left (nat_le (type_size t) most_size) _ (sym e ∙ not_false (is_small t) h))

buff_typed : (bytes : List ℕ) → LeafFits (Bytes bytes) → AreFineTypes (made (BuffType (length bytes))).faults → IsOf (BuffV bytes) (BuffType (length bytes))
buff_typed bytes h f =
    let low : type_size (BuffType (length bytes)) ≤ most_size = not_large (BuffType (length bytes)) f.too_large refl in
    record { valid = record { ranges = h; keys = refl; texts = refl; depth = omega arith; size = omega (arith, low) }; typed = le_same (length bytes) }

ascii_typed : (bytes : List ℕ) → LeafFits (Ascii bytes) → AreFineTypes (made (AsciiType (length bytes))).faults → IsOf (AsciiV bytes) (AsciiType (length bytes))
ascii_typed bytes h f =
    let low : type_size (AsciiType (length bytes)) ≤ most_size = not_large (AsciiType (length bytes)) f.too_large refl in
    record { valid = record { ranges = h.0; keys = refl; texts = h.1; depth = omega arith; size = omega (arith, low) }; typed = le_same (length bytes) }

unicode_typed : (cs : List ℕ) → LeafFits (Unicode cs) → AreFineTypes (made (Utf8Type (length cs))).faults → IsOf (Utf8V cs) (Utf8Type (length cs))
unicode_typed cs h f =
    let low : type_size (Utf8Type (length cs)) ≤ most_size = not_large (Utf8Type (length cs)) f.too_large refl in
    let small : size_of (Utf8V cs) ≤ type_size (Utf8Type (length cs)) = bounded (Utf8V cs) (Utf8Type (length cs)) h (le_same (length cs)) in
    record { valid = record { ranges = h; keys = refl; texts = refl; depth = omega arith; size = omega (arith, low, small) }; typed = le_same (length cs) }

-- ---- bound names

bound_step : (b : Bool) (t u : PlainType) (v : Val) (rest : Option PlainType) (more : Option Val) → (if b then Some u else rest) ≡ Some t → IsOf v u → (rest ≡ Some t → IsThere more t) → IsThere (if b then Some v else more) t
bound_step true t u v rest more h i next = record { value = v; there = refl; typed = subst (λ t. IsOf v t) (some_is u t h) i }
  where
    some_is : (a b : PlainType) → Some a ≡ Some b → a ≡ b
    some_is a b e = cc
bound_step false t u v rest more h i next = next h

pub bound_there : (B : Names) (E : BoundValues) (x : List ℕ) (t : PlainType) → AreBound B E → named_in x B ≡ Some t → IsThere (value_of x E) t
bound_there [] [] x t are h = absurd cc
bound_there [] (e ∷ E) x t are h = absurd are
bound_there (b ∷ B) [] x t are h = absurd are
bound_there (b ∷ B) (e ∷ E) x t are h =
    subst (λ k. IsThere (if bytes_eq k x then Some e.1 else value_of x E) t) (sym are.0)
    (bound_step (same b.0 x) t b.1 e.1 (named_in x B) (value_of x E) h are.1 (bound_there B E x t are.2))

free_step : (b : Bool) (u : PlainType) (v : Val) (rest : Option PlainType) (more : Option Val) → (if b then Some u else rest) ≡ None → (rest ≡ None → more ≡ None) → (if b then Some v else more) ≡ None
free_step true u v rest more h next = absurd cc
free_step false u v rest more h next = next h

bound_free : (B : Names) (E : BoundValues) (x : List ℕ) → AreBound B E → named_in x B ≡ None → value_of x E ≡ None
bound_free [] [] x are h = refl
bound_free [] (e ∷ E) x are h = absurd are
bound_free (b ∷ B) [] x are h = absurd are
bound_free (b ∷ B) (e ∷ E) x are h =
    subst (λ k. (if bytes_eq k x then Some e.1 else value_of x E) ≡ None) (sym are.0)
    (free_step (same b.0 x) b.1 e.1 (named_in x B) (value_of x E) h (bound_free B E x are.2))

module _ (K : World) (N : Stands K) where
  -- ---- values that stand there

  -- a value of the type, charged by its size
  pub standing_sound : {T : Val → Type 0} (name : CostName) (t : PlainType) (v : Val) (s : State) → IsOf v t → IsKept K s → IsSound K (λ v. IsOf v t) T (plus (cost_under K.costs (Charge name (type_size t))) zero_cost) (standing name v s)
  unfolding standing
  standing_sound {T = T} name t v s i n =
      sound_more K (plus (cost_under K.costs (Charge name (size_of v))) zero_cost) (plus (cost_under K.costs (Charge name (type_size t))) zero_cost) _ (more_of_both (cost_under K.costs (Charge name (size_of v))) (cost_under K.costs (Charge name (type_size t))) zero_cost zero_cost (less_charged K.costs name (size_of v) (type_size t) (no_larger v t i)) (same_cost zero_cost))
      (sound_charged K name (size_of v) zero_cost (give v s) (sound_stop K (λ v. IsOf v t) T zero_cost (Given v) s i n))

  value_each : (name : CostName) (r : Ruled) (v : Val) → (AreFineTypes r.faults → IsOf v r.type) → (fs : List Found) → Follows N.context (value_shape name r).plan fs → type_rules ((value_shape name r).verdict fs).faults ≡ [] → (s : State) → IsKept K s → IsAsFound K ((value_shape name r).verdict fs).found (standing name v s)
  value_each name r v i _ ends types s n =
      concluded_sound K N r 0 (Both (Charge name (type_size r.type)) (sum_of [])) [] _ types
      (standing_sound name r.type v s (i (ruling_fine r 0 (Both (Charge name (type_size r.type)) (sum_of [])) [] types)) n)

  value_sound : (name : CostName) (r : Ruled) (v : Val) → (AreFineTypes r.faults → IsOf v r.type) → IsSoundShape K N (value_shape name r) (standing name v)
  value_sound name r v i = record { each = λ fs shape follows types low s n. value_each name r v i fs follows types s n }

  -- the same where the value is known to be one by its type
  literal_each : (r : Ruled) (v : Val) → (AreFineTypes r.faults → IsOf v r.type) → (fs : List Found) → Follows N.context (value_shape Literal r).plan fs → type_rules ((value_shape Literal r).verdict fs).faults ≡ [] → (s : State) → IsKept K s → IsAsFound K ((value_shape Literal r).verdict fs).found (literal (value_made v) s)
  literal_each r v i _ ends types s n =
      subst (λ o. IsAsFound K ((value_shape Literal r).verdict []).found (literal o s)) (sym (valid_made v (i (ruling_fine r 0 (Both (Charge Literal (type_size r.type)) (sum_of [])) [] types)).valid))
      (value_each Literal r v i [] ends types s n)

  literal_sound : (r : Ruled) (v : Val) → (AreFineTypes r.faults → IsOf v r.type) → IsSoundShape K N (value_shape Literal r) (literal (value_made v))
  literal_sound r v i = record { each = λ fs shape follows types low s n. literal_each r v i fs follows types s n }

  -- ---- names

  known_sound : (o : Option PlainType) (p : Option PlainType) (v c : Option Val) (known : Bool) → ((t : PlainType) → o ≡ Some t → IsThere v t) → (o ≡ None → v ≡ None) → ((t : PlainType) → p ≡ Some t → IsThere c t) → IsSoundShape K N (value_or o (value_or p (no_value_shape known))) (λ s. with_known (option_or v c) (standing Lookup) s)
  known_sound (Some t) p v c known h free k = by (h t refl)
    where
      by : IsThere v t → IsSoundShape K N (value_shape Lookup (fine t)) (λ s. with_known (option_or v c) (standing Lookup) s)
      by there = subst (λ o. IsSoundShape K N (value_shape Lookup (fine t)) (λ s. with_known (option_or o c) (standing Lookup) s)) (sym there.there) (value_sound Lookup (fine t) there.value (λ f. there.typed))
  known_sound None (Some t) v c known h free k = by (k t refl)
    where
      by : IsThere c t → IsSoundShape K N (value_shape Lookup (fine t)) (λ s. with_known (option_or v c) (standing Lookup) s)
      by there =
          subst (λ o. IsSoundShape K N (value_shape Lookup (fine t)) (λ s. with_known (option_or o c) (standing Lookup) s)) (sym (free refl))
          (subst (λ o. IsSoundShape K N (value_shape Lookup (fine t)) (λ s. with_known (option_or None o) (standing Lookup) s)) (sym there.there) (value_sound Lookup (fine t) there.value (λ f. there.typed)))
  known_sound None None v c true h free k = record { each = λ fs shape follows types low s n. absurd cc }
  known_sound None None v c false h free k = record { each = λ fs shape follows types low s n. absurd cc }

  keyword_sound : (o : Option Keyword) (other : Shape) (go_on : State → Answer Val) → IsSoundShape K N other go_on → IsSoundShape K N (keyword_or o other) (keyword_form_or (here K N) o go_on)
  keyword_sound (Some keys.True) other go_on h = value_sound Literal (fine BoolType) (BoolV true) (λ g. true_typed true)
  keyword_sound (Some keys.False) other go_on h = value_sound Literal (fine BoolType) (BoolV false) (λ g. true_typed false)
  keyword_sound (Some keys.None) other go_on h = value_sound Literal (fine (OptionalType NoType)) NoneV (λ g. none_typed NoType)
  keyword_sound (Some keys.TxSender) other go_on h = value_sound ContextCost (fine PrincipalType) (PrincipalV N.frame.sender) (λ g. principal_typed N.frame.sender N.framed.sender)
  keyword_sound (Some keys.ContractCaller) other go_on h = value_sound ContextCost (fine PrincipalType) (PrincipalV N.frame.caller) (λ g. principal_typed N.frame.caller N.framed.caller)
  keyword_sound (Some keys.BlockHeight) other go_on h = value_sound ContextCost (fine UintType) (UintV N.frame.height) (λ g. uint_typed N.frame.height N.framed.height)
  keyword_sound None other go_on h = h

  constant_there : (x : List ℕ) (t : PlainType) → named_in x N.context.constants ≡ Some t → IsThere (constant_of x (contract_at N.frame.contract K.deployed)) t
  constant_there x t h = subst (λ p. IsThere (constant_of x (contract_at p K.deployed)) t) (sym N.framed.home) (N.world.constants N.context N.good x t h)

  name_sound : (x : List ℕ) → IsSoundShape K N (name_shape N.context N.names x) (name_form (here K N) x)
  unfolding name_form
  name_sound x =
      keyword_sound (keyword_of x) _ _
      (known_sound (named_in x N.names) (named_in x N.context.constants) (value_of x N.bound) (constant_of x (contract_at N.frame.contract K.deployed)) (is_no_value N.context x) (λ t. bound_there N.names N.bound x t N.are) (bound_free N.names N.bound x N.are) (constant_there x))

  pub leaf_sound : (leaf : Leaf) → LeafFits leaf → IsSoundShape K N (leaf_shape N.context N.names leaf) (leaf_form (here K N) leaf)
  unfolding leaf_form
  leaf_sound (Named x) h = name_sound x
  leaf_sound (Signed z) h = value_sound Literal (fine IntType) (IntV z) (λ f. int_typed z h)
  leaf_sound (Unsigned n) h = value_sound Literal (fine UintType) (UintV n) (λ f. uint_typed n h)
  leaf_sound (Bytes bytes) h = literal_sound (made (BuffType (length bytes))) (BuffV bytes) (buff_typed bytes h)
  leaf_sound (Ascii bytes) h = literal_sound (made (AsciiType (length bytes))) (AsciiV bytes) (ascii_typed bytes h)
  leaf_sound (Unicode cs) h = literal_sound (made (Utf8Type (length cs))) (Utf8V cs) (unicode_typed cs h)
  leaf_sound (Standing p) h = value_sound Literal (fine PrincipalType) (PrincipalV p) (λ f. principal_typed p h)
  leaf_sound (Local x) h = value_sound Literal (fine PrincipalType) _ (λ f. principal_typed _ (N.framed.contract.0, h))
