-- Names that are bound for a while, and two names one after the other.
use Rattle.std.proofs.Common.{◌≡◌, ℕ, Bool, true, false, List, [], ◌∷◌, length, take, Option, Some, None, refl, ap, sym, ◌∙◌, arith}
use Rattle.std.specs.Prelude.{◌||◌, is_some, if◌then◌else◌}
use Rattle.std.proofs.lemmas.List.{take_all}
use Rattle.cl_types.specs.Types.{PlainType, NoType}
use Rattle.cl_forms.specs.Heads.{is_reserved}
use Rattle.cl_rules.specs.Context.{Names, same, named_in, is_named, bind}
use Rattle.cl_judging.specs.declared.context.Context.{Context as CodeContext}
use Rattle.cl_judging.specs.Seen.{taken_in, top_level_in, shadowed_in}
use Rattle.cl_judging.proofs.Lets.{not_taken, take_front}

-- the names are as before where the last is let go of
pub unbound : (B S T : Names) (n : ℕ) (x : List ℕ) (t : PlainType) → T ≡ take n S → n ≡ length B → S ≡ bind x t B → T ≡ B
unbound B S T n x t cut count is =
    cut ∙ (λ i. take (count i) (is i)) ∙ take_front B (length B) B x t (omega arith) (take_all (length B) B (omega arith))

named_either : (b : Bool) (t : PlainType) (o p : Option PlainType) (s : Bool) → is_some o ≡ (is_some p || s) → is_some (if b then Some t else o) ≡ (is_some (if b then Some t else p) || s)
named_either true t o p s h = refl
named_either false t o p s h = h

named_alone : (b : Bool) (t : PlainType) → is_some (if b then Some t else None) ≡ (false || b)
named_alone true t = refl
named_alone false t = refl

named_last : (B : Names) (x y : List ℕ) (t : PlainType) → is_named y (bind x t B) ≡ (is_named y B || same x y)
named_last [] x y t = named_alone (same x y) t
named_last (e ∷ B) x y t = named_either (same e.0 y) e.1 (named_in y (bind x t B)) (named_in y B) (same x y) (named_last B x y t)

or_assoc : (a b c : Bool) → (a || (b || c)) ≡ ((a || b) || c)
or_assoc true b c = refl
or_assoc false b c = refl

or_none : (b : Bool) → (b || false) ≡ b
or_none true = refl
or_none false = refl

-- a name is taken after another
pub taken_bind : (c : CodeContext) (B : Names) (x y : List ℕ) → taken_in c (bind x NoType B) y ≡ (taken_in c B y || same x y)
taken_bind c B x y = ap (λ (b : Bool). (is_reserved c.version y || top_level_in c y) || b) (named_last B x y NoType) ∙ or_assoc (is_reserved c.version y || top_level_in c y) (is_named y B) (same x y)

pub pair_taken : (c : CodeContext) (B : Names) (x y : List ℕ) (b d : Bool) → b ≡ taken_in c B x → d ≡ taken_in c (bind x NoType B) y → (b || d) ≡ shadowed_in c B (x ∷ y ∷ [])
pair_taken c B x y b d h k = (λ i. h i || (k ∙ sym (or_none (taken_in c (bind x NoType B) y))) i)

pub both_false : (a b : Bool) → (a || b) ≡ false → (a ≡ false) × (b ≡ false)
both_false false b h = (refl, h)
both_false true b h = absurd cc

module _ (c : CodeContext) (B : Names) (x y : List ℕ) (free : shadowed_in c B (x ∷ y ∷ []) ≡ false) where
  pub first_free : named_in x B ≡ None
  first_free = not_taken c B x (both_false (taken_in c B x) (taken_in c (bind x NoType B) y || false) free).0

  pub second_free : named_in y B ≡ None
  second_free =
      let after : taken_in c (bind x NoType B) y ≡ false = (both_false (taken_in c (bind x NoType B) y) false (both_false (taken_in c B x) (taken_in c (bind x NoType B) y || false) free).1).0 in
      not_taken c B y (both_false (taken_in c B y) (same x y) (sym (taken_bind c B x y) ∙ after)).0
