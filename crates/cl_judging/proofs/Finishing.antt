-- The end of a walk over an expression.
use Rattle.std.proofs.Common.{◌≡◌, true, List, [], ◌∷◌, map, Some, None, Ok, Err, refl, ap, sym, subst, ◌∙◌}
use Rattle.cl_types.specs.declared.fault.Fault.{Fault}
use Rattle.cl_types.specs.declared.fault.Fault.TheVariants.{Refused, NoMemory}
use Rattle.cl_sexpr.specs.declared.sexpr.Span.{Span}
use Rattle.cl_sexpr.specs.declared.rule.Rule.{Rule}
use Rattle.cl_sexpr.specs.declared.rule.Break.{Break}
use Rattle.cl_sexpr.specs.Tree.{Tree}
use Rattle.cl_rules.specs.Faults.{shape_rules, type_rules}
use Rattle.cl_rules.specs.Context.{Context, Names}
use Rattle.cl_rules.specs.Verdicts.{Found}
use Rattle.cl_rules.specs.Shapes.{Shape}
use Rattle.cl_rules.specs.Judging.{Judged, Holds, Fails, and_judged, unless_broken, walked}
use Rattle.cl_typing.specs.declared.concluding.Checked.{Checked}
use Rattle.cl_typing.specs.declared.concluding.Concluded.{Concluded}
use Rattle.cl_code.specs.declared.op.Op.{Op}
use Rattle.cl_code.specs.Nodes.{goes_op, versions_of}
use Rattle.cl_code.proofs.Versions.{has_goes}
use Rattle.cl_code.specs.Typed.{Typed, TypedAs, typeds, expression_of}
use Rattle.cl_typing.specs.Verdicts.{Facts, facts_of, facts_concluded, first_rule, texts_of}
use Rattle.cl_judging.specs.Walking.{codes_of, StandsBy, judged_as, FinishesAt, fault_at}

abbrev concluded_as : Shape → Span → List Found → Judged Found
concluded_as s at fs = unless_broken (type_rules (s.verdict fs).faults) at (λ _. Holds (s.verdict fs).found)

-- where the shape breaks no rule and the parts are found, the verdict decides
pub at_verdict : (judge : Names → Tree → Judged Found) (s : Shape) (at : Span) (fs : List Found) → shape_rules s.faults ≡ [] → walked judge s.plan ≡ Holds fs → judged_as judge s at ≡ concluded_as s at fs
at_verdict judge s at fs sh w = λ i. unless_broken (sh i) at (λ _. and_judged (w i) (concluded_as s at))

some_is : {A : Type 0} (a b : A) → Some a ≡ Some b → a ≡ b
some_is a b e = cc

none_some : {A : Type 0} (a : A) → None ≡ Some a → ⊥
none_some a e = cc

pub first_fails : {A : Type 0} (rs : List Rule) (r : Rule) (at : Span) (next : Unit {0} → Judged A) → first_rule rs ≡ Some r → unless_broken rs at next ≡ Fails r at
first_fails [] r at next h = absurd (none_some r h)
first_fails (q ∷ rs) r at next h = ap (λ (x : Rule). Fails x at) (some_is q r h)

-- the trees of parts, and their expressions
pub texts_codes : (cs : List Checked) (qs : List Typed) → qs ≡ codes_of cs → map expression_of qs ≡ texts_of cs
texts_codes cs qs h = ap (map expression_of) h ∙ both_maps cs
  where
    both_maps : (cs : List Checked) → map expression_of (codes_of cs) ≡ texts_of cs
    both_maps [] = refl
    both_maps (c ∷ cs) = ap (λ (ts : List Tree). expression_of c.code ∷ ts) (both_maps cs)

pub finish_holds : (G : Context) (parts : List Checked) (k : Concluded) (at : Span) (c : Checked) (e : Tree) (op : Op) → goes_op G.version op ≡ true → facts_of c ≡ facts_concluded k → c.code ≡ TypedAs e k.ty (versions_of op) (typeds (codes_of parts)) → FinishesAt G parts (Ok k) at (Ok c)
finish_holds G parts k at c e op goes is code judge s fs sh w same stands co =
    let by : StandsBy G s (TypedAs e k.ty (versions_of op) (typeds (codes_of parts))) (s.verdict fs).found = (fs, sh, stands, co.0, refl, ap (λ (x : Facts). x.type) (sym co.1), has_goes G.version op ∙ goes) in
    ((s.verdict fs).found, at_verdict judge s at fs sh w ∙ ap (λ (rs : List Rule). unless_broken rs at (λ _. Holds (s.verdict fs).found)) co.0, co.1 ∙ sym is, subst (λ (q : Typed). StandsBy G s q (s.verdict fs).found) (sym code) by)

finish_fault : (G : Context) (parts : List Checked) (f : Fault Rule) (at : Span) → FinishesAt G parts (Err f) at (Err (fault_at f at))
finish_fault G parts (Refused r) at judge s fs sh w same stands co = at_verdict judge s at fs sh w ∙ first_fails (type_rules (s.verdict fs).faults) r at (λ _. Holds (s.verdict fs).found) co
finish_fault G parts NoMemory at judge s fs sh w same stands co = tt

pub finish_fails : (G : Context) (parts : List Checked) (f : Fault Rule) (at : Span) (g : Fault Break) → g ≡ fault_at f at → FinishesAt G parts (Err f) at (Err g)
finish_fails G parts f at g is = subst (λ (h : Fault Break). FinishesAt G parts (Err f) at (Err h)) (sym is) (finish_fault G parts f at)
