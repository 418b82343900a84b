-- Lists of rules that rise.
use Rattle.std.proofs.Common.{◌≡◌, inl, inr, ℕ, ◌≤◌, Bool, true, false, List, [], ◌∷◌, refl, sym, ap, ◌∙◌, subst, arith, lit≤, ◌==◌, if◌then◌else◌}
use Rattle.cl_sexpr.specs.declared.rule.Rule.{Rule}
use Rattle.cl_sexpr.specs.declared.rule.Rule.TheVariants.{BadByte, BadToken, NumberTooWide, Unclosed, StrayClose, TooNested, BadEscape, BadTuple, BadAddress, SourceTooLong, BadDefinition, BadType, BadName, NotInProfile, NameUsed, Cycle, UnknownName, ArgumentCount, ArgumentKind, NotSame, TooLarge, TooDeep, Undetermined, ThrownDiffer, NotResponse, UnusedResponse, ShadowedName, NoSuchKey, NoSuchVariable, NoSuchMap, NoSuchToken, NoSuchContract, NoSuchFunction, NotAFunction, LiteralExpected, EmptyForm, BadBinding, TooDeepCalls, KeyTwice, NotAValue, WritesInReadOnly, BoundTooLarge}
use Rattle.cl_sexpr.specs.Rules.{number_of, phase_of}
use Rattle.cl_rules.specs.Faults.{when, ShapeFaults, shape_rules, TypeFaults, type_rules, FormFaults, form_rules}
use Rattle.cl_rules.specs.Typing.{Among}

-- rules of expressions, from a number on, none less than the one before
abbrev pub Starts : ℕ → List Rule → Type 0
Starts n [] = Unit {0}
Starts n (r ∷ rs) = (n ≤ number_of r) × (phase_of r ≡ 3) × Starts (number_of r) rs

lower : (n m : ℕ) (rs : List Rule) → n ≤ m → Starts m rs → Starts n rs
lower n m [] h s = tt
lower n m (r ∷ rs) h s = (omega (arith, h, s.0), s.1, s.2)

start_when : (n : ℕ) (b : Bool) (r : Rule) (rs : List Rule) → n ≤ number_of r → phase_of r ≡ 3 → Starts (number_of r) rs → Starts n (when b r rs)
start_when n true r rs h p s = (h, p, s)
start_when n false r rs h p s = lower n (number_of r) rs h s

pub among_from : (n : ℕ) (q : Rule) (rs : List Rule) → Starts n rs → Among q rs → n ≤ number_of q
among_from n q [] s a = absurd a
among_from n q (r ∷ rs) s (inl e) = subst (λ x. n ≤ number_of x) (sym e) s.0
among_from n q (r ∷ rs) s (inr a) = omega (arith, s.0, among_from (number_of r) q rs s.2 a)

pub among_phase : (n : ℕ) (q : Rule) (rs : List Rule) → Starts n rs → Among q rs → phase_of q ≡ 3
among_phase n q [] s a = absurd a
among_phase n q (r ∷ rs) s (inl e) = subst (λ x. phase_of x ≡ 3) (sym e) s.1
among_phase n q (r ∷ rs) s (inr a) = among_phase (number_of r) q rs s.2 a

-- the first has the least number
pub rising_least : (n : ℕ) (r q : Rule) (rs : List Rule) → Starts n (r ∷ rs) → Among q (r ∷ rs) → number_of r ≤ number_of q
rising_least n r q rs s (inl e) = subst (λ x. number_of r ≤ number_of x) (sym e) (omega arith)
rising_least n r q rs s (inr a) = among_from (number_of r) q rs s.2 a

pub shape_rising : (f : ShapeFaults) → Starts 0 (shape_rules f)
shape_rising f =
    start_when 0 f.unknown_name UnknownName _ (lit≤ tt) refl
    (start_when 1 f.argument_count ArgumentCount _ (lit≤ tt) refl
    (start_when 2 f.shadowed_name ShadowedName _ (lit≤ tt) refl
    (start_when 11 f.no_such_variable NoSuchVariable _ (lit≤ tt) refl
    (start_when 13 f.no_such_map NoSuchMap _ (lit≤ tt) refl
    (start_when 14 f.no_such_token NoSuchToken _ (lit≤ tt) refl
    (start_when 15 f.no_such_contract NoSuchContract _ (lit≤ tt) refl
    (start_when 16 f.no_such_function NoSuchFunction _ (lit≤ tt) refl
    (start_when 17 f.not_a_function NotAFunction _ (lit≤ tt) refl
    (start_when 18 f.literal_expected LiteralExpected _ (lit≤ tt) refl
    (start_when 19 f.empty_form EmptyForm _ (lit≤ tt) refl
    (start_when 20 f.bad_binding BadBinding _ (lit≤ tt) refl
    (start_when 21 f.key_twice KeyTwice _ (lit≤ tt) refl
    (start_when 23 f.not_a_value NotAValue [] (lit≤ tt) refl tt)))))))))))))

pub type_rising : (f : TypeFaults) → Starts 0 (type_rules f)
type_rising f =
    start_when 0 f.argument_kind ArgumentKind _ (lit≤ tt) refl
    (start_when 3 f.not_same NotSame _ (lit≤ tt) refl
    (start_when 4 f.too_large TooLarge _ (lit≤ tt) refl
    (start_when 5 f.too_deep TooDeep _ (lit≤ tt) refl
    (start_when 6 f.undetermined Undetermined _ (lit≤ tt) refl
    (start_when 7 f.thrown_differ ThrownDiffer _ (lit≤ tt) refl
    (start_when 8 f.unused_response UnusedResponse _ (lit≤ tt) refl
    (start_when 10 f.no_such_key NoSuchKey [] (lit≤ tt) refl tt)))))))

pub form_rising : (f : FormFaults) → Starts 0 (form_rules f)
form_rising f =
    start_when 0 f.argument_kind ArgumentKind _ (lit≤ tt) refl
    (start_when 3 f.too_large TooLarge _ (lit≤ tt) refl
    (start_when 5 f.thrown_differ ThrownDiffer _ (lit≤ tt) refl
    (start_when 8 f.not_response NotResponse _ (lit≤ tt) refl
    (start_when 9 f.too_deep_calls TooDeepCalls [] (lit≤ tt) refl tt))))

-- a rule of expressions is known by its number
abbrev rule_at : ℕ → Rule
rule_at n =
    if n == 1 then UnknownName
    else (if n == 2 then ArgumentCount
    else (if n == 3 then ArgumentKind
    else (if n == 4 then NotSame
    else (if n == 5 then TooLarge
    else (if n == 6 then TooDeep
    else (if n == 7 then Undetermined
    else (if n == 8 then ThrownDiffer
    else (if n == 9 then NotResponse
    else (if n == 10 then UnusedResponse
    else (if n == 11 then ShadowedName
    else (if n == 12 then NoSuchKey
    else (if n == 13 then NoSuchVariable
    else (if n == 14 then NoSuchMap
    else (if n == 15 then NoSuchToken
    else (if n == 16 then NoSuchContract
    else (if n == 17 then NoSuchFunction
    else (if n == 18 then NotAFunction
    else (if n == 19 then LiteralExpected
    else (if n == 20 then EmptyForm
    else (if n == 21 then BadBinding
    else (if n == 22 then TooDeepCalls
    else (if n == 23 then KeyTwice
    else NotAValue))))))))))))))))))))))

again : (r : Rule) → phase_of r ≡ 3 → rule_at (number_of r) ≡ r
again UnknownName p = refl
again ArgumentCount p = refl
again ArgumentKind p = refl
again NotSame p = refl
again TooLarge p = refl
again TooDeep p = refl
again Undetermined p = refl
again ThrownDiffer p = refl
again NotResponse p = refl
again UnusedResponse p = refl
again ShadowedName p = refl
again NoSuchKey p = refl
again NoSuchVariable p = refl
again NoSuchMap p = refl
again NoSuchToken p = refl
again NoSuchContract p = refl
again NoSuchFunction p = refl
again NotAFunction p = refl
again LiteralExpected p = refl
again EmptyForm p = refl
again BadBinding p = refl
again TooDeepCalls p = refl
again KeyTwice p = refl
again NotAValue p = refl
again BadByte p = absurd (omega (arith, p))
again BadToken p = absurd (omega (arith, p))
again NumberTooWide p = absurd (omega (arith, p))
again Unclosed p = absurd (omega (arith, p))
again StrayClose p = absurd (omega (arith, p))
again TooNested p = absurd (omega (arith, p))
again BadEscape p = absurd (omega (arith, p))
again BadTuple p = absurd (omega (arith, p))
again BadAddress p = absurd (omega (arith, p))
again SourceTooLong p = absurd (omega (arith, p))
again BadDefinition p = absurd (omega (arith, p))
again BadType p = absurd (omega (arith, p))
again BadName p = absurd (omega (arith, p))
again NotInProfile p = absurd (omega (arith, p))
again NameUsed p = absurd (omega (arith, p))
again Cycle p = absurd (omega (arith, p))
again WritesInReadOnly p = absurd (omega (arith, p))
again (BoundTooLarge d) p = absurd (omega (arith, p))

pub number_tells : (r q : Rule) → phase_of r ≡ 3 → phase_of q ≡ 3 → number_of r ≡ number_of q → r ≡ q
number_tells r q p h e = sym (again r p) ∙ ap rule_at e ∙ again q h
