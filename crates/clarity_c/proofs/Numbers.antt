-- How calls end, by their numbers.
use Rattle.std.proofs.Common.{◌≡◌, ◌⊎◌, ℕ, Option, Some, inl, inr, subst, sym, arith}
use Rattle.cl_session.specs.declared.session.Session.{Session}
use Rattle.cl_exports.specs.declared.outcome.Outcome.{Outcome}
use Rattle.cl_exports.specs.Outcomes.{number_of}
use Rattle.clarity_c.specs.Handles.{EndsOn}

-- a copy is whole or cut: it has the number of no refusal
pub no_refusal : (number : ℕ) → (number ≡ 0) ⊎ (number ≡ 4) → number ≡ 8 → ⊥
no_refusal number (inl whole) is = omega (arith, whole, is)
no_refusal number (inr part) is = omega (arith, part, is)

-- a call on an open handle
pub on_open : (Ends : Outcome → Session → Session → Type 0) (number : ℕ) (before after : Option Session) (was is : Session) (outcome : Outcome)
    → before ≡ Some was → after ≡ Some is → number ≡ number_of outcome → Ends outcome was is → EndsOn Ends number before after
on_open Ends number before after was is outcome opens stays counts ends =
    subst (λ (b : Option Session). EndsOn Ends number b after) (sym opens)
    (subst (λ (a : Option Session). EndsOn Ends number (Some was) a) (sym stays) (outcome, counts, ends))
