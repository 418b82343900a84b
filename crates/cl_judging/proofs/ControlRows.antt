-- Rows of control forms.
use Rattle.std.proofs.Common.{◌≡◌, Bool, true, false, List, [], ◌∷◌, length, Some, None, Result, Ok, Err, refl, sym, subst}
use Rattle.cl_types.specs.Types.{PlainType, NoType}
use Rattle.cl_types.specs.Lattice.{least_supertype}
use Rattle.cl_types.specs.declared.fault.Fault.{Fault}
use Rattle.cl_types.specs.declared.fault.Fault.TheVariants.{Refused, NoMemory}
use Rattle.cl_types.specs.declared.sized.TyRefusal.{TyRefusal}
use Rattle.cl_types.specs.declared.sized.TyRefusal.TheVariants.{Differ, TooLarge as LargeTy, TooDeep as DeepTy, EmptyTuple, KeyTwice}
use Rattle.cl_sexpr.specs.declared.rule.Rule.{Rule}
use Rattle.cl_sexpr.specs.declared.rule.Rule.TheVariants.{ArgumentKind}
use Rattle.cl_rules.specs.NativeTypes.{Ruled, fine, if_kind, and_lub, lubbed, two}
use Rattle.cl_types.specs.TypeKinds.{is_bool}
use Rattle.cl_rules.specs.Bills.{Bill, Free, Charge, Both, Greater}
use Rattle.cl_rules.specs.Verdicts.{Found, Verdict, types_of, sum_of, concluded}
use Rattle.cl_rules.specs.ControlShapes.{throwing, if_verdict}
use Rattle.cl_code.specs.declared.op.PartsNative.{PartsNative}
use Rattle.cl_code.specs.declared.op.PartsNative.TheVariants.{If, Begin, And, Or, Asserts, Unwrap, UnwrapErr, Try, AsContract, Print, StxBalance, SendStx, BurnStx}
use Rattle.cl_typing.specs.declared.concluding.Checked.{Checked}
use Rattle.cl_typing.specs.declared.concluding.Concluded.{Concluded}
use Rattle.cl_judging.specs.declared.node.Evaluated.TheVariants.{Parts}
use Rattle.cl_judging.specs.Walking.{Judges}
use Rattle.cl_judging.proofs.VerdictLaws.{evaluated_by}
use Rattle.cl_typing.proofs.VerdictLaws.{types_seen}
use Rattle.cl_typing.specs.Verdicts.{Rules, RulesWith, Concludes, ConcludesAs, types_at, two_of}
use Rattle.cl_judging.specs.Controls.{if_row, parts_row, own_of, second_of}

quiet : (r : Result PlainType TyRefusal) → (and_lub r fine).throws ≡ None
quiet (Ok t) = refl
quiet (Err Differ) = refl
quiet (Err LargeTy) = refl
quiet (Err DeepTy) = refl
quiet (Err EmptyTuple) = refl
quiet (Err KeyTwice) = refl

pub kind_fails : (b : Bool) (t u : PlainType) → b ≡ false → Rules (if_kind b (lubbed t u)) (Err (Refused ArgumentKind))
kind_fails true t u h = absurd cc
kind_fails false t u h = (refl, quiet (least_supertype t u))

pub if_else : (ts : List PlainType) (r : Result PlainType (Fault Rule)) → (length ts ≡ 3 → ⊥) → Rules (fine NoType) r → Rules (if_row ts) r
if_else [] r h k = k
if_else (t ∷ []) r h k = k
if_else (t ∷ u ∷ []) r h k = k
if_else (t ∷ u ∷ v ∷ []) r h k = absurd (h refl)
if_else (t ∷ u ∷ v ∷ x ∷ ts) r h k = k

pub if_at : (ts : List PlainType) (t u v : PlainType) (r : Result PlainType (Fault Rule)) → ts ≡ t ∷ u ∷ v ∷ [] → Rules (if_kind (is_bool t) (lubbed u v)) r → Rules (if_row ts) r
if_at ts t u v r is h = subst (λ (us : List PlainType). Rules (if_row us) r) (sym is) h

thrown_with : (x : PlainType) (R : Ruled) (r : Result PlainType (Fault Rule)) → Rules R r → RulesWith (Some x) (throwing x R) r
thrown_with x R (Ok t) h = (h.0, h.1, refl)
thrown_with x R (Err (Refused q)) h = (h.0, refl)
thrown_with x R (Err NoMemory) h = tt

pub throwing_at : (base : PlainType → Ruled) (ts : List PlainType) (t u : PlainType) (r : Result PlainType (Fault Rule)) → ts ≡ t ∷ u ∷ [] → Rules (base t) r → RulesWith (second_of ts) (two (λ e x. throwing x (base e)) ts) r
throwing_at base ts t u r is h = subst (λ (us : List PlainType). RulesWith (second_of us) (two (λ e x. throwing x (base e)) us) r) (sym is) (thrown_with u (base t) r h)

pub throwing_else : (row : PlainType → PlainType → Ruled) (ts : List PlainType) (r : Result PlainType (Fault Rule)) → two_of ts ≡ None → Rules (fine NoType) r → RulesWith (second_of ts) (two row ts) r
throwing_else row [] r h k = k
throwing_else row (t ∷ []) r h k = k
throwing_else row (t ∷ u ∷ []) r h k = absurd cc
throwing_else row (t ∷ u ∷ v ∷ ts) r h k = k

-- ---- verdicts

if_is : (own : Bill) (fs : List Found) → (bound : Bill) × (if_verdict own fs ≡ concluded (if_row (types_of fs)) 0 bound fs)
if_is own [] = (Both Free (sum_of []), refl)
if_is own (f ∷ []) = (Both Free (sum_of (f ∷ [])), refl)
if_is own (f ∷ g ∷ []) = (Both Free (sum_of (f ∷ g ∷ [])), refl)
if_is own (f ∷ g ∷ h ∷ []) = (Both own (Both f.bound (Greater g.bound h.bound)), refl)
if_is own (f ∷ g ∷ h ∷ i ∷ fs) = (Both Free (sum_of (f ∷ g ∷ h ∷ i ∷ fs)), refl)

pub parts_judged : (n : PartsNative) (cs : List Checked) (ruled : Result PlainType (Fault Rule)) (result : Result Concluded (Fault Rule)) → RulesWith (own_of n (types_at cs)) (parts_row n (types_at cs)) ruled → ConcludesAs ruled (own_of n (types_at cs)) 0 cs result → Judges (Parts n) cs result
parts_judged If cs ruled result h k row count fs same =
    let by = if_is (Charge row.cost count) fs in
    subst (λ (v : Verdict). Concludes v result) (sym by.1) (k (if_row (types_of fs)) by.0 fs (subst (λ (ts : List PlainType). Rules (if_row ts) ruled) (sym (types_seen fs cs same)) h) same)
parts_judged Begin cs ruled result h k row count fs same = evaluated_by (parts_row Begin) (own_of Begin (types_at cs)) cs ruled result h k row fs same
parts_judged And cs ruled result h k row count fs same = evaluated_by (parts_row And) (own_of And (types_at cs)) cs ruled result h k row fs same
parts_judged Or cs ruled result h k row count fs same = evaluated_by (parts_row Or) (own_of Or (types_at cs)) cs ruled result h k row fs same
parts_judged Asserts cs ruled result h k row count fs same = evaluated_by (parts_row Asserts) (own_of Asserts (types_at cs)) cs ruled result h k row fs same
parts_judged Unwrap cs ruled result h k row count fs same = evaluated_by (parts_row Unwrap) (own_of Unwrap (types_at cs)) cs ruled result h k row fs same
parts_judged UnwrapErr cs ruled result h k row count fs same = evaluated_by (parts_row UnwrapErr) (own_of UnwrapErr (types_at cs)) cs ruled result h k row fs same
parts_judged Try cs ruled result h k row count fs same = evaluated_by (parts_row Try) (own_of Try (types_at cs)) cs ruled result h k row fs same
parts_judged AsContract cs ruled result h k row count fs same = evaluated_by (parts_row AsContract) (own_of AsContract (types_at cs)) cs ruled result h k row fs same
parts_judged Print cs ruled result h k row count fs same = evaluated_by (parts_row Print) (own_of Print (types_at cs)) cs ruled result h k row fs same
parts_judged StxBalance cs ruled result h k row count fs same = evaluated_by (parts_row StxBalance) (own_of StxBalance (types_at cs)) cs ruled result h k row fs same
parts_judged SendStx cs ruled result h k row count fs same = evaluated_by (parts_row SendStx) (own_of SendStx (types_at cs)) cs ruled result h k row fs same
parts_judged BurnStx cs ruled result h k row count fs same = evaluated_by (parts_row BurnStx) (own_of BurnStx (types_at cs)) cs ruled result h k row fs same
