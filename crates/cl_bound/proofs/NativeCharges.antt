-- Natives are charged themselves and for their parts.
use Rattle.std.proofs.Common.{◌≡◌, ℕ, List, [], ◌∷◌, length, refl, ap, ◌∙◌, arith}
use Rattle.cl_values.specs.declared.native.Native.{Native}
use Rattle.cl_shapes.specs.declared.name.CostName.TheVariants.{Control}
use Rattle.cl_sexpr.specs.declared.sexpr.Span.{Span}
use Rattle.cl_sexpr.specs.declared.rule.Rule.TheVariants.{ArgumentCount}
use Rattle.cl_sexpr.specs.Tree.{Tree}
use Rattle.cl_forms.specs.declared.head.Head.TheVariants as heads
use Rattle.cl_rules.specs.Bills.{Charge, Both}
use Rattle.cl_rules.specs.Context.{Context, Names}
use Rattle.cl_rules.specs.Verdicts.{Found, types_of}
use Rattle.cl_rules.specs.ControlShapes.{if_verdict}
use Rattle.cl_rules.specs.Table.{head_shape}
use Rattle.cl_code.specs.declared.op.PartsNative.{PartsNative}
use Rattle.cl_code.specs.declared.op.PartsNative.TheVariants.{If, Begin, And, Or, Asserts, Unwrap, UnwrapErr, Try, AsContract, Print, StxBalance, SendStx, BurnStx}
use Rattle.cl_code.specs.declared.op.Op.TheVariants.{OnValues, OnParts}
use Rattle.cl_code.specs.OpNames.{parts_head}
use Rattle.cl_forms.specs.Heads.{row_of}
use Rattle.cl_bound.specs.Own.{own, inside, counted, of_branches, branch_by}
use Rattle.cl_bound.specs.declared.branches.Branch.TheVariants.{Plain}
use Rattle.cl_bound.specs.Charged.{Charges}
use Rattle.cl_bound.proofs.Heads.{taken}

-- the bound of an if of three parts
if_bound : (n : ℕ) (fs : List Found) → length fs ≡ 3 → n ≡ 3 → (if_verdict (Charge Control n) fs).found.bound ≡ Both (counted Control (types_of fs)) (of_branches (branch_by Plain) (branch_by Plain) fs)
if_bound n [] count three = absurd (omega (arith, count))
if_bound n (c ∷ []) count three = absurd (omega (arith, count))
if_bound n (c ∷ a ∷ []) count three = absurd (omega (arith, count))
if_bound n (c ∷ a ∷ b ∷ []) count three = ap (λ m. (if_verdict (Charge Control m) (c ∷ a ∷ b ∷ [])).found.bound) three
if_bound n (c ∷ a ∷ b ∷ d ∷ fs) count three = absurd (omega (arith, count))

module _ (G : Context) (B : Names) (es : List Tree) where
  pub values_charges : (n : Native) (head : Span) → Charges (head_shape (heads.OnValues n) (row_of (heads.OnValues n)) G B es) (length es) (own G (OnValues n head)) (inside (OnValues n head))
  unfolding head_shape
  values_charges n head fs sound count fine = refl

  if_charges : (head : Span) → Charges (head_shape heads.If (row_of heads.If) G B es) (length es) (own G (OnParts If head)) (inside (OnParts If head))
  unfolding head_shape
  if_charges head fs sound count fine =
      let three = taken (length es) 3 ArgumentCount [] sound in
      if_bound (length es) fs (count ∙ three) three

  pub parts_charges : (n : PartsNative) (head : Span) → Charges (head_shape (parts_head n) (row_of (parts_head n)) G B es) (length es) (own G (OnParts n head)) (inside (OnParts n head))
  unfolding head_shape
  parts_charges If head = if_charges head
  parts_charges Begin head = λ fs sound count fine. refl
  parts_charges And head = λ fs sound count fine. refl
  parts_charges Or head = λ fs sound count fine. refl
  parts_charges Asserts head = λ fs sound count fine. refl
  parts_charges Unwrap head = λ fs sound count fine. refl
  parts_charges UnwrapErr head = λ fs sound count fine. refl
  parts_charges Try head = λ fs sound count fine. refl
  parts_charges AsContract head = λ fs sound count fine. refl
  parts_charges Print head = λ fs sound count fine. refl
  parts_charges StxBalance head = λ fs sound count fine. refl
  parts_charges SendStx head = λ fs sound count fine. refl
  parts_charges BurnStx head = λ fs sound count fine. refl
