-- What is concluded of a node.
use Rattle.std.proofs.Common.{◌≡◌, ℕ, suc, ◌+◌, ◌<◌, ◌≤◌, max, Bool, true, false, List, [], ◌∷◌, ◌++◌, map, length, drop, get_or, Option, Some, None, Result, Ok, Err, refl, ap, sym, subst, ◌∙◌, arith}
use Rattle.std.proofs.lemmas.List.{drop_all}
use Rattle.cl_types.specs.Types.{PlainType}
use Rattle.cl_types.specs.declared.fault.Fault.{Fault}
use Rattle.cl_types.specs.declared.fault.Fault.TheVariants.{Refused, NoMemory}
use Rattle.cl_types.specs.declared.sized.TyRefusal.{TyRefusal}
use Rattle.cl_types.specs.declared.sized.TyRefusal.TheVariants.{Differ, TooLarge as LargeTy, TooDeep as DeepTy, EmptyTuple, KeyTwice}
use Rattle.cl_values.proofs.Lists.{rest_of}
use Rattle.cl_sexpr.specs.declared.rule.Rule.{Rule}
use Rattle.cl_sexpr.specs.declared.rule.Rule.TheVariants.{ArgumentKind, NotSame, TooLarge, TooDeep, Undetermined, ThrownDiffer, UnusedResponse, NoSuchKey}
use Rattle.cl_rules.specs.Faults.{TypeFaults, type_rules}
use Rattle.cl_rules.specs.Verdicts.{Found, Thrown, so_far, thrown_after, thrown_by, faults_with, highest}
use Rattle.cl_typing.specs.declared.concluding.Checked.{Checked}
use Rattle.cl_typing.specs.Verdicts.{Facts, facts, facts_of, counted, heights, throws_of, first_rule, first_with, fault_with, before_large, before_differ, refused_throws, RulesWith, ConcludesAs, Throws, ThrowsOn}

-- ---- what is thrown

thrown_last : (t own : Option PlainType) (whole : Thrown) (r : Result (Option PlainType) (Fault TyRefusal)) → ThrowsOn t own r → thrown_after t (own ∷ []) ≡ whole → Throws whole r
thrown_last t own whole (Ok o) h k = sym k ∙ h []
thrown_last t own whole (Err (Refused q)) h k = sym k ∙ h []
thrown_last t own whole (Err NoMemory) h k = tt

pub thrown_end : (parts : List Checked) (i : ℕ) (t own : Option PlainType) (whole : Thrown) (r : Result (Option PlainType) (Fault TyRefusal)) → length parts ≤ i → ThrowsOn t own r → thrown_after t (throws_of (drop i parts) own) ≡ whole → Throws whole r
thrown_end parts i t own whole r far h k = thrown_last t own whole r h (sym (ap (λ (cs : List Checked). thrown_after t (throws_of cs own)) (drop_all i parts far)) ∙ k)

thrown_stopped : (t u : Option PlainType) (us : List (Option PlainType)) (whole : Thrown) (f : Fault TyRefusal) → ThrowsOn t u (Err f) → thrown_after t (u ∷ us) ≡ whole → Throws whole (Err f)
thrown_stopped t u us whole (Refused q) h k = sym k ∙ h us
thrown_stopped t u us whole NoMemory h k = tt

pub thrown_stop : (parts : List Checked) (i : ℕ) (c : Checked) (t own : Option PlainType) (whole : Thrown) (r : Result (Option PlainType) (Fault TyRefusal)) {f : Fault TyRefusal} → i < length parts → get_or parts i c ≡ c → r ≡ Err f → ThrowsOn t c.thrown r → thrown_after t (throws_of (drop i parts) own) ≡ whole → Throws whole (Err f)
thrown_stop parts i c t own whole r {f = f} lt at is h k =
    thrown_stopped t c.thrown (throws_of (drop (i + 1) parts) own) whole f (subst (ThrowsOn t c.thrown) is h) (sym (ap (λ (cs : List Checked). thrown_after t (throws_of cs own)) (rest_of parts i c lt at)) ∙ k)

-- ---- the first rule

some_is : {A : Type 0} (a b : A) → Some a ≡ Some b → a ≡ b
some_is a b e = cc

abbrev large : Thrown
large = record { differ = false; large = true; type = None }

abbrev differs : Thrown
differs = record { differ = true; large = false; type = None }

abbrev faults_by : Bool → Bool → Bool → Bool → Bool → Bool → Bool → Bool → TypeFaults
faults_by a b c d e f g h = record { argument_kind = a; not_same = b; too_large = c; too_deep = d; undetermined = e; thrown_differ = f; unused_response = g; no_such_key = h }

large_first : (a b c d e f g h : Bool) (r : Rule) → first_rule (type_rules (faults_by a b c d e f g h)) ≡ Some r → first_rule (type_rules (faults_with (faults_by a b c d e f g h) large)) ≡ Some (before_large r)
large_first true b c d e f g h r is = ap (λ q. Some (before_large q)) (some_is ArgumentKind r is)
large_first false true c d e f g h r is = ap (λ q. Some (before_large q)) (some_is NotSame r is)
large_first false false true d e f g h r is = ap (λ q. Some (before_large q)) (some_is TooLarge r is)
large_first false false false true e f g h r is = ap (λ q. Some (before_large q)) (some_is TooDeep r is)
large_first false false false false true f g h r is = ap (λ q. Some (before_large q)) (some_is Undetermined r is)
large_first false false false false false true g h r is = ap (λ q. Some (before_large q)) (some_is ThrownDiffer r is)
large_first false false false false false false true h r is = ap (λ q. Some (before_large q)) (some_is UnusedResponse r is)
large_first false false false false false false false true r is = ap (λ q. Some (before_large q)) (some_is NoSuchKey r is)
large_first false false false false false false false false r is = absurd cc

differ_first : (a b c d e f g h : Bool) (r : Rule) → first_rule (type_rules (faults_by a b c d e f g h)) ≡ Some r → first_rule (type_rules (faults_with (faults_by a b c d e f g h) differs)) ≡ Some (before_differ r)
differ_first true b c d e f g h r is = ap (λ q. Some (before_differ q)) (some_is ArgumentKind r is)
differ_first false true c d e f g h r is = ap (λ q. Some (before_differ q)) (some_is NotSame r is)
differ_first false false true d e f g h r is = ap (λ q. Some (before_differ q)) (some_is TooLarge r is)
differ_first false false false true e f g h r is = ap (λ q. Some (before_differ q)) (some_is TooDeep r is)
differ_first false false false false true f g h r is = ap (λ q. Some (before_differ q)) (some_is Undetermined r is)
differ_first false false false false false true g h r is = ap (λ q. Some (before_differ q)) (some_is ThrownDiffer r is)
differ_first false false false false false false true h r is = ap (λ q. Some (before_differ q)) (some_is UnusedResponse r is)
differ_first false false false false false false false true r is = ap (λ q. Some (before_differ q)) (some_is NoSuchKey r is)
differ_first false false false false false false false false r is = absurd cc

first_at : (f : TypeFaults) (q : TyRefusal) (r : Rule) → first_rule (type_rules f) ≡ Some r → first_rule (type_rules (faults_with f (refused_throws q))) ≡ Some (first_with r q)
first_at f Differ r is = differ_first f.argument_kind f.not_same f.too_large f.too_deep f.undetermined f.thrown_differ f.unused_response f.no_such_key r is
first_at f LargeTy r is = large_first f.argument_kind f.not_same f.too_large f.too_deep f.undetermined f.thrown_differ f.unused_response f.no_such_key r is
first_at f DeepTy r is = large_first f.argument_kind f.not_same f.too_large f.too_deep f.undetermined f.thrown_differ f.unused_response f.no_such_key r is
first_at f EmptyTuple r is = large_first f.argument_kind f.not_same f.too_large f.too_deep f.undetermined f.thrown_differ f.unused_response f.no_such_key r is
first_at f KeyTwice r is = large_first f.argument_kind f.not_same f.too_large f.too_deep f.undetermined f.thrown_differ f.unused_response f.no_such_key r is

sound_large : (a b c d e f g h : Bool) → type_rules (faults_by a b c d e f g h) ≡ [] → first_rule (type_rules (faults_with (faults_by a b c d e f g h) large)) ≡ Some TooLarge
sound_large true b c d e f g h is = absurd cc
sound_large false true c d e f g h is = absurd cc
sound_large false false true d e f g h is = refl
sound_large false false false d e f g h is = refl

sound_differ : (a b c d e f g h : Bool) → type_rules (faults_by a b c d e f g h) ≡ [] → first_rule (type_rules (faults_with (faults_by a b c d e f g h) differs)) ≡ Some ThrownDiffer
sound_differ true b c d e f g h is = absurd cc
sound_differ false true c d e f g h is = absurd cc
sound_differ false false true d e f g h is = absurd cc
sound_differ false false false true e f g h is = absurd cc
sound_differ false false false false true f g h is = absurd cc
sound_differ false false false false false true g h is = refl
sound_differ false false false false false false g h is = refl

sound_at : (f : TypeFaults) (q : TyRefusal) → type_rules f ≡ [] → first_rule (type_rules (faults_with f (refused_throws q))) ≡ Some (first_with NoSuchKey q)
sound_at f Differ is = sound_differ f.argument_kind f.not_same f.too_large f.too_deep f.undetermined f.thrown_differ f.unused_response f.no_such_key is
sound_at f LargeTy is = sound_large f.argument_kind f.not_same f.too_large f.too_deep f.undetermined f.thrown_differ f.unused_response f.no_such_key is
sound_at f DeepTy is = sound_large f.argument_kind f.not_same f.too_large f.too_deep f.undetermined f.thrown_differ f.unused_response f.no_such_key is
sound_at f EmptyTuple is = sound_large f.argument_kind f.not_same f.too_large f.too_deep f.undetermined f.thrown_differ f.unused_response f.no_such_key is
sound_at f KeyTwice is = sound_large f.argument_kind f.not_same f.too_large f.too_deep f.undetermined f.thrown_differ f.unused_response f.no_such_key is

same_rules : (a b c d e f g h : Bool) (o : Option PlainType) → type_rules (faults_with (faults_by a b c d e f g h) (so_far o)) ≡ type_rules (faults_by a b c d e f g h)
same_rules a b true d e true g h o = refl
same_rules a b true d e false g h o = refl
same_rules a b false d e true g h o = refl
same_rules a b false d e false g h o = refl

same_at : (f : TypeFaults) (o : Option PlainType) → type_rules (faults_with f (so_far o)) ≡ type_rules f
same_at f o = same_rules f.argument_kind f.not_same f.too_large f.too_deep f.undetermined f.thrown_differ f.unused_response f.no_such_key o

-- ---- what is found of the parts

facts_head : (f : Found) (c : Checked) (fs : List Found) (cs : List Checked) → map facts (f ∷ fs) ≡ map facts_of (c ∷ cs) → facts f ≡ facts_of c
facts_head f c fs cs h = cc

facts_tail : (f : Found) (c : Checked) (fs : List Found) (cs : List Checked) → map facts (f ∷ fs) ≡ map facts_of (c ∷ cs) → map facts fs ≡ map facts_of cs
facts_tail f c fs cs h = cc

throws_seen : (fs : List Found) (cs : List Checked) (own : Option PlainType) → map facts fs ≡ map facts_of cs → map (λ (f : Found). f.thrown) fs ++ own ∷ [] ≡ throws_of cs own
throws_seen [] [] own h = refl
throws_seen [] (c ∷ cs) own h = absurd cc
throws_seen (f ∷ fs) [] own h = absurd cc
throws_seen (f ∷ fs) (c ∷ cs) own h =
    ap (λ (x : Facts). x.thrown ∷ (map (λ (g : Found). g.thrown) fs ++ own ∷ [])) (facts_head f c fs cs h) ∙ ap (λ (ts : List (Option PlainType)). c.thrown ∷ ts) (throws_seen fs cs own (facts_tail f c fs cs h))

heights_seen : (fs : List Found) (cs : List Checked) → map facts fs ≡ map facts_of cs → counted (highest fs) ≡ heights cs
heights_seen [] [] h = refl
heights_seen [] (c ∷ cs) h = absurd cc
heights_seen (f ∷ fs) [] h = absurd cc
heights_seen (f ∷ fs) (c ∷ cs) h =
    let first : counted f.height ≡ c.height = ap (λ (x : Facts). x.height) (facts_head f c fs cs h) in
    let rest : counted (highest fs) ≡ heights cs = heights_seen fs cs (facts_tail f c fs cs h) in
    omega (arith, first, rest)

height_seen : (fs : List Found) (cs : List Checked) (applied : ℕ) → map facts fs ≡ map facts_of cs → counted (suc (max applied (highest fs))) ≡ counted (suc (max applied (heights cs)))
height_seen fs cs applied h =
    let same : counted (highest fs) ≡ heights cs = heights_seen fs cs h in
    omega (arith, same)

-- ---- the verdict

module _ (ruled : Result PlainType (Fault Rule)) (own : Option PlainType) (applied : ℕ) (parts : List Checked) where
  pub holds_at : (o : Option PlainType) {t : PlainType} {height : ℕ} → ruled ≡ Ok t → Throws (thrown_after None (throws_of parts own)) (Ok o) → height ≡ counted (suc (max applied (heights parts))) → ConcludesAs ruled own applied parts (Ok (record { ty = t; thrown = o; height = height }))
  holds_at o {t = t} {height = height} is th hh = λ R bound fs ru same.
      let ok : (type_rules R.faults ≡ []) × (R.type ≡ t) × (R.throws ≡ own) = subst (RulesWith own R) is ru in
      let by : thrown_by fs R.throws ≡ so_far o = ap (λ (w : Option PlainType). thrown_by fs w) ok.2 ∙ ap (thrown_after None) (throws_seen fs parts own same) ∙ th in (
        ap (λ (w : Thrown). type_rules (faults_with R.faults w)) by ∙ same_at R.faults o ∙ ok.0,
        λ i. record { type = ok.1 i; thrown = (by i).type; height = (height_seen fs parts applied same ∙ sym hh) i },
      )

  pub ruled_fails : (o : Option PlainType) {fault : Fault Rule} → ruled ≡ Err fault → Throws (thrown_after None (throws_of parts own)) (Ok o) → ConcludesAs ruled own applied parts (Err fault)
  ruled_fails o {fault = Refused r} is th = λ R bound fs ru same.
      let no : (first_rule (type_rules R.faults) ≡ Some r) × (R.throws ≡ own) = subst (RulesWith own R) is ru in
      let by : thrown_by fs R.throws ≡ so_far o = ap (λ (w : Option PlainType). thrown_by fs w) no.1 ∙ ap (thrown_after None) (throws_seen fs parts own same) ∙ th in
      ap (λ (w : Thrown). first_rule (type_rules (faults_with R.faults w))) by ∙ ap first_rule (same_at R.faults o) ∙ no.0
  ruled_fails o {fault = NoMemory} is th = λ R bound fs ru same. tt

  pub thrown_fails : (q : TyRefusal) {t : PlainType} {r : Rule} → ruled ≡ Ok t → Throws (thrown_after None (throws_of parts own)) (Err (Refused q)) → r ≡ first_with NoSuchKey q → ConcludesAs ruled own applied parts (Err (Refused r))
  thrown_fails q {t = t} is th rr = λ R bound fs ru same.
      let ok : (type_rules R.faults ≡ []) × (R.type ≡ t) × (R.throws ≡ own) = subst (RulesWith own R) is ru in
      let by : thrown_by fs R.throws ≡ refused_throws q = ap (λ (w : Option PlainType). thrown_by fs w) ok.2 ∙ ap (thrown_after None) (throws_seen fs parts own same) ∙ th in
      ap (λ (w : Thrown). first_rule (type_rules (faults_with R.faults w))) by ∙ sound_at R.faults q ok.0 ∙ ap (λ (x : Rule). Some x) (sym rr)

  pub both_fail : (fault : Fault Rule) (q : TyRefusal) {g : Fault Rule} → ruled ≡ Err fault → Throws (thrown_after None (throws_of parts own)) (Err (Refused q)) → g ≡ fault_with fault q → ConcludesAs ruled own applied parts (Err g)
  both_fail (Refused p) q is th gg = subst (λ (g : Fault Rule). ConcludesAs ruled own applied parts (Err g)) (sym gg) (λ R bound fs ru same.
      let no : (first_rule (type_rules R.faults) ≡ Some p) × (R.throws ≡ own) = subst (RulesWith own R) is ru in
      let by : thrown_by fs R.throws ≡ refused_throws q = ap (λ (w : Option PlainType). thrown_by fs w) no.1 ∙ ap (thrown_after None) (throws_seen fs parts own same) ∙ th in
      ap (λ (w : Thrown). first_rule (type_rules (faults_with R.faults w))) by ∙ first_at R.faults q p no.0)
  both_fail NoMemory q is th gg = subst (λ (g : Fault Rule). ConcludesAs ruled own applied parts (Err g)) (sym gg) (λ R bound fs ru same. tt)
