-- What holds of items one after another.
use Rattle.std.proofs.Common.{◌≡◌, ℕ, zero, suc, ◌+◌, ◌<◌, List, [], ◌∷◌, length, get_or, subst, arith}
use borrow.Author.Count.{below_more}

module _ {A : Type 0} (P : A → Type 0) where
  holds_at : (xs : List A) (i : ℕ) (x d : A) → x ≡ get_or xs i x → i < length xs → P x → P (get_or xs i d)
  holds_at [] i x d is low h = absurd (omega arith)
  holds_at (y ∷ ys) zero x d is low h = subst P is h
  holds_at (y ∷ ys) (suc i) x d is low h = holds_at ys i x d is (omega arith) h

  pub one_more : (xs : List A) (i : ℕ) (x : A) → x ≡ get_or xs i x → i < length xs → P x → ((k : ℕ) (d : A) → k < i → P (get_or xs k d)) → (k : ℕ) (d : A) → k < i + 1 → P (get_or xs k d)
  one_more xs i x is low h below k d under = below_more (λ (k : ℕ). (d : A) → P (get_or xs k d)) i (λ k low d. below k d low) (λ d. holds_at xs i x d is low h) k under d
