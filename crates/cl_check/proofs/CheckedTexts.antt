-- What is found of whole texts.
use Rattle.std.proofs.Common.{◌≡◌, ◌≤◌, ℕ, false, List, [], length, Option, Some, None, sym, subst, ◌∙◌}
use Rattle.std.specs.Prelude.{◌||◌, IfSome}
use Rattle.std.specs.List.{list_any}
use Rattle.cl_types.specs.Fault.{IsRefusal}
use Rattle.cl_types.specs.Types.{PlainType}
use Rattle.cl_types.specs.declared.fault.Fault.{Fault}
use Rattle.cl_types.specs.declared.fault.Fault.TheVariants.{Refused, NoMemory}
use Rattle.cl_c32.specs.declared.principal.Principal.{Principal}
use Rattle.cl_sexpr.specs.declared.sexpr.Span.{Span}
use Rattle.cl_sexpr.specs.declared.rule.Rule.{Rule}
use Rattle.cl_sexpr.specs.declared.rule.Rule.TheVariants.{WritesInReadOnly}
use Rattle.cl_sexpr.specs.declared.rule.Break.{Break}
use Rattle.cl_sexpr.specs.declared.rule.Refusal.{Refusal}
use Rattle.cl_forms.specs.declared.version.Version.{Version}
use Rattle.cl_forms.specs.Texts.{Text}
use Rattle.cl_forms.specs.Forms.{Form}
use Rattle.cl_forms.specs.Order.{IsGoodOrder}
use Rattle.cl_code.specs.declared.definition.Definition.{Definition}
use Rattle.cl_rules.specs.Context.{Known, same, is_named}
use Rattle.cl_rules.specs.FormRules.{Defined, nothing_defined}
use Rattle.cl_rules.specs.FormTyping.{FirstFormBreak}
use Rattle.cl_rules.specs.Laws.{FormsJudgedAreTyped, FormsJudgedStop, TextWalkIsFirst}
use Rattle.cl_rules.specs.Judging.{Fails, forms_judged}
use Rattle.cl_rules.specs.Acceptance.{Ordered, TypedAs, NoneWrites, FirstWriting, FirstUnordered, unordered, in_typing, in_writing, forms_at}
use Rattle.cl_contracts.specs.declared.checked.Checked.{Checked}
use Rattle.cl_contracts.specs.declared.deployed.Deployed.{Deployed}
use Rattle.cl_contracts.specs.Seen.{forms_of}
use Rattle.cl_contracts.specs.Standings.{AllStand, FitsAfter, IsWellFormed, IsKnown, Knows, StandsAfter, definitions_in_order}
use Rattle.cl_judging.specs.declared.context.Signature.{Signature as CodeSignature}
use Rattle.cl_judging.specs.declared.context.Context.{Context as CodeContext}
use Rattle.cl_judging.specs.Seen.{Shows}
use Rattle.cl_check.specs.Checking.{BreaksForms, IsContractOf, IsFirstBreak, IsRefusalOf, StandForForms, StandsFor, StandsForTyped}
use Rattle.cl_check.specs.JudgingForms.{StandingAs, AreKnown}

-- ---- before the first form

pub nothing_named : (x : List ℕ) (a b n : List (List ℕ × PlainType)) (m : List (List ℕ × (PlainType × PlainType))) (f : List (List ℕ)) (g : List (List ℕ × CodeSignature)) → a ≡ [] → b ≡ [] → m ≡ [] → f ≡ [] → n ≡ [] → g ≡ [] →
    (is_named x a || is_named x b || is_named x m || list_any (same x) f || is_named x n || is_named x g) ≡ false
nothing_named x a b n m f g ha hb hm hf hn hg = λ i. is_named x (ha i) || is_named x (hb i) || is_named x (hm i) || list_any (same x) (hf i) || is_named x (hn i) || is_named x (hg i)

module _ (d : Deployed) (p : Principal) (version : Version) where
  pub typed_breaks : (ctx : CodeContext) (fs : List Form) (fault : Fault Break) → ((known : List Known) (size : ℕ) → Knows d known → Shows ctx (nothing_defined known p version size).context) →
      IsRefusal fault (λ b. (D : Defined) → Shows ctx D.context → forms_judged D fs ≡ Fails b.rule b.span) → IsRefusal fault (BreaksForms d p version fs)
  typed_breaks ctx fs (Refused b) shown h = λ known size k. h (nothing_defined known p version size) (shown known size k)
  typed_breaks ctx fs NoMemory shown h = tt

-- ---- the first break

module _ (d : Deployed) (p : Principal) (text : Text) where
  -- what comes of a fault, whatever the deployed contracts are known as
  abbrev pub IsFirstOf : Fault Refusal → Type 0
  IsFirstOf fault = IsRefusal fault (IsFirstBreak d p text)

  pub text_unordered : (fault : Fault Refusal) → IsRefusal fault (λ r. FirstUnordered text r.rule r.span r.names.items) → IsFirstOf fault
  text_unordered (Refused r) h = λ known k. unordered h
  text_unordered NoMemory h = tt

  module _ (forms : List Form) (order : List ℕ) (ordered : Ordered text forms order) where
    pub text_untyped : (fault : Fault Break) (given : Fault Refusal) → IsRefusalOf fault given → IsRefusal fault (BreaksForms d p text.version (forms_at forms order)) → FormsJudgedStop → TextWalkIsFirst → IsFirstOf given
    text_untyped (Refused b) (Refused r) is h stop first = λ known k.
        let D : Defined = nothing_defined known p text.version (length text.bytes) in
        let there : FirstFormBreak D (forms_at forms order) b.rule b.span = first D text forms order b.rule b.span ordered (stop D (forms_at forms order) b.rule b.span (h known (length text.bytes) k)) in
        in_typing forms order ordered
        (subst (λ (q : Rule). FirstFormBreak D (forms_at forms order) q r.span) (sym is.0) (subst (λ (s : Span). FirstFormBreak D (forms_at forms order) b.rule s) (sym is.1) there))
        is.2
    text_untyped (Refused b) NoMemory is h stop first = tt
    text_untyped NoMemory (Refused r) is h stop first = absurd is
    text_untyped NoMemory NoMemory is h stop first = tt

    -- ---- what is found

    pub text_typed : (ds : List Definition) (c : Checked) → forms_of c ≡ forms → c.order.items ≡ order → definitions_in_order c ≡ ds → StandForForms d p text.version (forms_at forms order) ds → FormsJudgedAreTyped → StandsForTyped d p text c
    text_typed ds c forms_are order_is done standing typed = λ known k.
        let D : Defined = nothing_defined known p text.version (length text.bytes) in
        let s : StandingAs D (forms_at forms order) ds = standing known (length text.bytes) k in
        let here : TypedAs known p text forms order s.defined = record { is_ordered = ordered; are_typed = typed D s.defined (forms_at forms order) s.judged } in (
          s.defined,
          subst (λ (gs : List Form). TypedAs known p text gs c.order.items s.defined) (sym forms_are) (subst (λ (ms : List ℕ). TypedAs known p text forms ms s.defined) (sym order_is) here),
          subst (λ (es : List Definition). AllStand D es s.defined) (sym done) s.standing,
        )

-- ---- functions that write

module _ (d : Deployed) (p : Principal) (text : Text) (c : Checked) (principal : c.principal ≡ p) (version : c.version ≡ text.version) (size : c.source_length ≡ length text.bytes) (typed : StandsForTyped d p text c) where
  stands_after : (known : List Known) (E : Defined) → StandsFor known p text c E → StandsAfter known c E
  stands_after known E s =
      subst (λ (q : Principal). AllStand (nothing_defined known q c.version c.source_length) (definitions_in_order c) E) (sym principal)
      (subst (λ (v : Version). AllStand (nothing_defined known p v c.source_length) (definitions_in_order c) E) (sym version)
      (subst (λ (n : ℕ). AllStand (nothing_defined known p text.version n) (definitions_in_order c) E) (sym size) s))

  pub text_found : ((known : List Known) (E : Defined) → Knows d known → StandsAfter known c E → NoneWrites known c.principal (forms_of c)) → IsContractOf d p text c
  text_found none = λ known k.
      let t = typed known k in
      (t.0, t.1, subst (λ (q : Principal). NoneWrites known q (forms_of c)) principal (none known t.0 k (stands_after known t.0 t.2)), t.2)

  pub text_fits : FitsAfter d c
  text_fits = λ known k.
      let t = typed known k in
      (t.0, stands_after known t.0 t.2)

  pub text_well_formed : IsKnown d → c.source_length ≤ 1048576 → ((known : List Known) (E : Defined) → Knows d known → StandsAfter known c E → NoneWrites known c.principal (forms_of c)) → IsWellFormed c
  text_well_formed known small none =
      let fit = text_fits known.known known.knows in
      record { before = known.known; defined = fit.0; stands = fit.1; none_writes = none known.known fit.0 known.knows fit.1; small = small }

  pub text_writes : (span : Span) (b : Break) (given : Fault Refusal) → b.rule ≡ WritesInReadOnly → b.span ≡ span → IsRefusalOf (Refused b) given →
      ((known : List Known) (E : Defined) → Knows d known → StandsAfter known c E → FirstWriting known c.principal (forms_of c) c.order.items span) → IsFirstOf d p text given
  text_writes span b (Refused r) rule at is first = λ known k.
      let t = typed known k in
      let there : FirstWriting known p (forms_of c) c.order.items span = subst (λ (q : Principal). FirstWriting known q (forms_of c) c.order.items span) principal (first known t.0 k (stands_after known t.0 t.2)) in
      in_writing (forms_of c) c.order.items t.0 t.1 (subst (λ (s : Span). FirstWriting known p (forms_of c) c.order.items s) (sym (is.1 ∙ at)) there) (is.0 ∙ rule) is.2
  text_writes span b NoMemory rule at is first = tt

-- what is at the place that was found
pub found_at : (P : Span → Type 0) (found : Option Span) (span : Span) → found ≡ Some span → IfSome found P → P span
found_at P None span e h = absurd cc
found_at P (Some s) span e h = let same : s ≡ span = cc in subst P same h

-- ---- what is known of forms that are lent

module _ (forms fs : List Form) (order ns : List ℕ) (same_forms : fs ≡ forms) (same_order : ns ≡ order) where
  pub is_known : AreKnown forms → AreKnown fs
  is_known h = subst AreKnown (sym same_forms) h

  pub is_good : IsGoodOrder forms order → IsGoodOrder fs ns
  is_good h = subst (λ (ms : List ℕ). IsGoodOrder fs ms) (sym same_order) (subst (λ (gs : List Form). IsGoodOrder gs order) (sym same_forms) h)

  pub forms_same : forms_at fs ns ≡ forms_at forms order
  forms_same = λ i. forms_at (same_forms i) (same_order i)
