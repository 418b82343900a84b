-- Where the comparisons of numbers have a value, the order by content gives the same.
use Rattle.std.proofs.Common.{◌≡◌, ℕ, Bool, [], ◌∷◌, refl, ap, ◌∙◌, arith}
use Rattle.std.specs.Prelude.{ℤ, pos, negsuc, nat_lt, nat_le, int_lt, int_le}
use Rattle.std.proofs.lemmas.Bool.Decides.{nat_tests}
use Rattle.std.specs.Ordering.{nat_cmp, int_cmp, is_lt, is_le, is_gt, is_ge}
use Rattle.cl_values.specs.declared.native.Native.TheVariants.{Less, AtMost, Greater, AtLeast, ContentLess, ContentAtMost, ContentGreater, ContentAtLeast}
use Rattle.cl_values.specs.Tree.{Tree, IntV, UintV, BoolV}
use Rattle.cl_values.specs.Computed.{Computed, Gives}
use Rattle.cl_values.specs.Natives.{native_value}

-- ---- tests of numbers

nat_before : (m n : ℕ) → is_lt (nat_cmp m n) ≡ nat_lt m n
nat_before m n = grind (arith, nat_tests)

nat_no_later : (m n : ℕ) → is_le (nat_cmp m n) ≡ nat_le m n
nat_no_later m n = grind (arith, nat_tests)

nat_after : (m n : ℕ) → is_gt (nat_cmp m n) ≡ nat_lt n m
nat_after m n = grind (arith, nat_tests)

nat_no_earlier : (m n : ℕ) → is_ge (nat_cmp m n) ≡ nat_le n m
nat_no_earlier m n = grind (arith, nat_tests)

int_before : (x y : ℤ) → is_lt (int_cmp x y) ≡ int_lt x y
int_before (pos m) (pos n) = grind (arith, nat_tests)
int_before (pos m) (negsuc n) = refl
int_before (negsuc m) (pos n) = refl
int_before (negsuc m) (negsuc n) = grind (arith, nat_tests)

int_no_later : (x y : ℤ) → is_le (int_cmp x y) ≡ int_le x y
int_no_later (pos m) (pos n) = grind (arith, nat_tests)
int_no_later (pos m) (negsuc n) = refl
int_no_later (negsuc m) (pos n) = refl
int_no_later (negsuc m) (negsuc n) = grind (arith, nat_tests)

int_after : (x y : ℤ) → is_gt (int_cmp x y) ≡ int_lt y x
int_after (pos m) (pos n) = grind (arith, nat_tests)
int_after (pos m) (negsuc n) = refl
int_after (negsuc m) (pos n) = refl
int_after (negsuc m) (negsuc n) = grind (arith, nat_tests)

int_no_earlier : (x y : ℤ) → is_ge (int_cmp x y) ≡ int_le y x
int_no_earlier (pos m) (pos n) = grind (arith, nat_tests)
int_no_earlier (pos m) (negsuc n) = refl
int_no_earlier (negsuc m) (pos n) = refl
int_no_earlier (negsuc m) (negsuc n) = grind (arith, nat_tests)

-- ---- the natives

given : Bool → Computed
given b = Gives (BoolV b)

pub less_agrees : (v w x : Tree) → native_value Less (v ∷ w ∷ []) ≡ Gives x → native_value ContentLess (v ∷ w ∷ []) ≡ Gives x
unfolding native_value given
less_agrees (IntV y) (IntV z) x h = ap given (int_before y z) ∙ h
less_agrees (UintV m) (UintV n) x h = ap given (nat_before m n) ∙ h
less_agrees v w x h = absurd cc

pub at_most_agrees : (v w x : Tree) → native_value AtMost (v ∷ w ∷ []) ≡ Gives x → native_value ContentAtMost (v ∷ w ∷ []) ≡ Gives x
unfolding native_value given
at_most_agrees (IntV y) (IntV z) x h = ap given (int_no_later y z) ∙ h
at_most_agrees (UintV m) (UintV n) x h = ap given (nat_no_later m n) ∙ h
at_most_agrees v w x h = absurd cc

pub greater_agrees : (v w x : Tree) → native_value Greater (v ∷ w ∷ []) ≡ Gives x → native_value ContentGreater (v ∷ w ∷ []) ≡ Gives x
unfolding native_value given
greater_agrees (IntV y) (IntV z) x h = ap given (int_after y z) ∙ h
greater_agrees (UintV m) (UintV n) x h = ap given (nat_after m n) ∙ h
greater_agrees v w x h = absurd cc

pub at_least_agrees : (v w x : Tree) → native_value AtLeast (v ∷ w ∷ []) ≡ Gives x → native_value ContentAtLeast (v ∷ w ∷ []) ≡ Gives x
unfolding native_value given
at_least_agrees (IntV y) (IntV z) x h = ap given (int_no_earlier y z) ∙ h
at_least_agrees (UintV m) (UintV n) x h = ap given (nat_no_earlier m n) ∙ h
at_least_agrees v w x h = absurd cc
