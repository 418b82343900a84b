-- What names give to be applied.
use Rattle.std.proofs.Common.{◌≡◌, ℕ, Bool, true, false, List, ◌∷◌, length, Option, Some, None, refl, ap, sym, subst, ◌∙◌}
use Rattle.std.specs.Prelude.{nat_eq, not, IfSome, IfNone, option_map, is_some, if◌then◌else◌}
use Rattle.cl_types.specs.Types.{PlainType}
use Rattle.cl_sexpr.specs.declared.sexpr.Span.{Span}
use Rattle.cl_sexpr.specs.Tree.{Tree, LeafAt, Named}
use Rattle.cl_forms.specs.declared.head.Head.{Head}
use Rattle.cl_forms.specs.declared.head.Head.TheVariants.{OnValues, OnToken, And, Or}
use Rattle.cl_forms.specs.declared.head.TokenNative.TheVariants.{MintFt, BurnFt, SendFt, MintNft, BurnNft, SendNft, SendStx, BurnStx}
use Rattle.cl_forms.specs.Heads.{Row, Native, native, row_of, takes}
use Rattle.cl_forms.specs.declared.version.Version.{Version}
use Rattle.cl_forms.specs.HeadNames.{head_of, has_head}
use Rattle.cl_forms.proofs.Found.{named_alone}
use Rattle.cl_rules.specs.Context.{Context, Signature, named_in, signature_in}
use Rattle.cl_rules.specs.Shapes.{there_or_not}
use Rattle.cl_rules.specs.CallShapes.{AFunction, ANative, usable_row, used, takes_values}
use Rattle.cl_code.specs.declared.op.Word.{Word}
use Rattle.cl_code.specs.declared.op.Applied.TheVariants.{Function as FunctionBy, OnValues as OnValuesBy, And as AndBy, Or as OrBy}
use Rattle.cl_code.specs.Expression.{applied_name, word}
use Rattle.cl_code.specs.Nodes.{has_own_applied, goes_applied}
use Rattle.cl_typing.specs.declared.uses.Usable.{Usable as CodeUsable}
use Rattle.cl_typing.specs.declared.uses.Usable.TheVariants.{Function, OnValues as OnValuesUse, And as AndUse, Or as OrUse}
use Rattle.cl_judging.specs.declared.context.Context.{Context as CodeContext}
use Rattle.cl_judging.specs.declared.context.Signature.{Signature as CodeSignature}
use Rattle.cl_judging.specs.declared.uses.Use.{Use}
use Rattle.cl_judging.specs.Seen.{Shown, Shows, seen, shown}
use Rattle.cl_judging.specs.Uses.{IsUsed, Applies, AppliesNothing, native_use, function_shown, takes_used}
use Rattle.cl_judging.proofs.NativeNames.{native_is, no_native, own_head, head_had}
use Rattle.cl_judging.proofs.Contexts.{function_is}
use Rattle.cl_judging.proofs.FunctionCalls.{no_function}

some_is : {A : Type 0} (a b : A) → Some a ≡ Some b → a ≡ b
some_is a b e = cc

some_where : {A : Type 0} (b : Bool) (v u : A) → Some u ≡ (if b then Some v else None) → (b ≡ true) × (v ≡ u)
some_where true v u is = (refl, cc)
some_where false v u is = absurd cc

none_where : {A : Type 0} (b : Bool) (v : A) → None ≡ (if b then Some v else None) → b ≡ false
none_where true v is = absurd cc
none_where false v is = refl

-- ---- natives

abbrev by_value : Native → Span → Use
by_value n at = record { applied = OnValuesBy n at; usable = OnValuesUse n }

abbrev by_and : Span → Use
by_and at = record { applied = AndBy at; usable = AndUse }

abbrev by_or : Span → Use
by_or at = record { applied = OrBy at; usable = OrUse }

module _ (c : CodeContext) (w : Word) (h : Head) (found : Some h ≡ head_of c.version w.name) where
  row_at : (G : Context) → Shows c G → (es : List Tree) → used G (word w ∷ es) ≡ there_or_not (if (row_of h).by_name then Some (ANative (row_of h)) else None)
  row_at G shows es = ap (λ (o : Option Row). there_or_not (usable_row o (signature_in w.name G.functions))) (native_is c w.name h found G shows)

  row_gives : (usable : CodeUsable) → (row_of h).by_name ≡ true → IsUsed usable (ANative (row_of h)) → ((count : ℕ) → takes (row_of h).arity count ≡ takes_used usable count) → Applies c (word w) usable
  row_gives usable by is counts G shows = (
    ANative (row_of h),
    λ es. row_at G shows es ∙ ap (λ (b : Bool). there_or_not (if b then Some (ANative (row_of h)) else None)) by,
    is,
    counts,
  )

  row_nothing : (row_of h).by_name ≡ false → AppliesNothing c (word w)
  row_nothing by G shows es = row_at G shows es ∙ ap (λ (b : Bool). there_or_not (if b then Some (ANative (row_of h)) else None)) by

native_applies : (c : CodeContext) (w : Word) (h : Head) (u : Use) → Some h ≡ head_of c.version w.name → Some u ≡ native_use h w.span → Applies c (word w) u.usable
native_applies c w (OnValues n) u found is =
    let there = some_where (row_of (OnValues n)).by_name (by_value n w.span) u is in
    subst (λ (v : Use). Applies c (word w) v.usable) there.1 (row_gives c w (OnValues n) found (OnValuesUse n) there.0 (own_head c.version w.name (OnValues n) found) (λ count. refl))
native_applies c w And u found is = subst (λ (v : Use). Applies c (word w) v.usable) (sym (some_is u (by_and w.span) is)) (row_gives c w And found AndUse refl refl (λ count. refl))
native_applies c w Or u found is = subst (λ (v : Use). Applies c (word w) v.usable) (sym (some_is u (by_or w.span) is)) (row_gives c w Or found OrUse refl refl (λ count. refl))
native_applies c w h u found is = absurd cc

native_named : (version : Version) (w : Word) (h : Head) (u : Use) → Some h ≡ head_of version w.name → Some u ≡ native_use h w.span → applied_name u.applied ≡ word w
native_named version w (OnValues n) u found is =
    let there = some_where (row_of (OnValues n)).by_name (by_value n w.span) u is in
    ap (λ (v : Use). applied_name v.applied) (sym there.1) ∙ ap (λ (x : List ℕ). LeafAt (Named x) w.span) (sym (named_alone version w.name (OnValues n) (sym found)))
native_named version w And u found is = ap (λ (v : Use). applied_name v.applied) (some_is u (by_and w.span) is) ∙ ap (λ (x : List ℕ). LeafAt (Named x) w.span) (sym (named_alone version w.name And (sym found)))
native_named version w Or u found is = ap (λ (v : Use). applied_name v.applied) (some_is u (by_or w.span) is) ∙ ap (λ (x : List ℕ). LeafAt (Named x) w.span) (sym (named_alone version w.name Or (sym found)))
native_named version w h u found is = absurd cc

native_own : (h : Head) (at : Span) (u : Use) → Some u ≡ native_use h at → has_own_applied u.applied ≡ true
unfolding has_own_applied
native_own (OnValues n) at u is =
    let there = some_where (row_of (OnValues n)).by_name (by_value n at) u is in
    ap (λ (v : Use). has_own_applied v.applied) (sym there.1) ∙ there.0
native_own And at u is = ap (λ (v : Use). has_own_applied v.applied) (some_is u (by_and at) is)
native_own Or at u is = ap (λ (v : Use). has_own_applied v.applied) (some_is u (by_or at) is)
native_own h at u is = absurd cc

-- a version that has the native has what is given by its name
native_goes : (version : Version) (h : Head) (at : Span) (u : Use) → has_head version h ≡ true → Some u ≡ native_use h at → goes_applied version u.applied ≡ true
unfolding goes_applied
native_goes version (OnValues n) at u had is =
    let there = some_where (row_of (OnValues n)).by_name (by_value n at) u is in
    ap (λ (v : Use). goes_applied version v.applied) (sym there.1) ∙ had
native_goes version And at u had is = ap (λ (v : Use). goes_applied version v.applied) (some_is u (by_and at) is)
native_goes version Or at u had is = ap (λ (v : Use). goes_applied version v.applied) (some_is u (by_or at) is)
native_goes version h at u had is = absurd cc

not_by_name : (h : Head) (at : Span) → None ≡ native_use h at → (row_of h).by_name ≡ false
not_by_name (OnValues n) at is = none_where (row_of (OnValues n)).by_name (by_value n at) is
not_by_name And at is = absurd cc
not_by_name Or at is = absurd cc
not_by_name (OnToken MintFt) at is = refl
not_by_name (OnToken BurnFt) at is = refl
not_by_name (OnToken SendFt) at is = refl
not_by_name (OnToken MintNft) at is = refl
not_by_name (OnToken BurnNft) at is = refl
not_by_name (OnToken SendNft) at is = refl
not_by_name (OnToken SendStx) at is = refl
not_by_name (OnToken BurnStx) at is = refl
not_by_name h at is = refl

module _ (c : CodeContext) (w : Word) (h : Head) (found : Some h ≡ head_of c.version w.name) where
  pub native_text : (o : Option Use) → o ≡ native_use h w.span → IfSome o (λ u. applied_name u.applied ≡ word w)
  native_text None is = tt
  native_text (Some u) is = native_named c.version w h u found is

  pub native_is_own : (o : Option Use) → o ≡ native_use h w.span → IfSome o (λ u. has_own_applied u.applied ≡ true)
  native_is_own None is = tt
  native_is_own (Some u) is = native_own h w.span u is

  pub native_in_version : (o : Option Use) → o ≡ native_use h w.span → IfSome o (λ u. goes_applied c.version u.applied ≡ true)
  native_in_version None is = tt
  native_in_version (Some u) is = native_goes c.version h w.span u (head_had c.version w.name h found) is

  pub native_gives : (o : Option Use) → o ≡ native_use h w.span → IfSome o (λ u. Applies c (word w) u.usable)
  native_gives None is = tt
  native_gives (Some u) is = native_applies c w h u found is

  pub native_nothing : (o : Option Use) → o ≡ native_use h w.span → IfNone o (AppliesNothing c (word w))
  native_nothing None is = row_nothing c w h found (not_by_name h w.span is)
  native_nothing (Some u) is = tt

-- ---- functions of the contract

signature_there : (o : Option Signature) (f : CodeSignature) → option_map seen o ≡ Some (shown f) → (g : Signature) × (o ≡ Some g) × (seen g ≡ shown f)
signature_there None f h = absurd cc
signature_there (Some g) f h = (g, refl, cc)

abbrev FunctionAs : Type 0
FunctionAs = List (List ℕ × PlainType) × PlainType × ℕ

abbrev function_as : CodeSignature → FunctionAs
function_as f = (f.params.items, f.returns, f.height)

is_used : (f : CodeSignature) (g : Signature) (usable : CodeUsable) → seen g ≡ shown f → function_shown usable ≡ Some (function_as f) → IsUsed usable (AFunction g)
is_used f g (Function params returns height) same is =
    let as_shown : Some (function_as f) ≡ Some (params.now, returns.now, height) = sym is in
    let parts = some_is (function_as f) (params.now, returns.now, height) as_shown in
    (ap (λ (s : Shown). s.params) same ∙ ap (λ (p : FunctionAs). p.0) parts, ap (λ (s : Shown). s.returns) same ∙ ap (λ (p : FunctionAs). p.1) parts, ap (λ (s : Shown). s.height) same ∙ ap (λ (p : FunctionAs). p.2) parts)
is_used f g (OnValuesUse n) same is = absurd cc
is_used f g AndUse same is = absurd cc
is_used f g OrUse same is = absurd cc

takes_as_many : (g : Signature) (usable : CodeUsable) → IsUsed usable (AFunction g) → (count : ℕ) → takes_values (AFunction g) count ≡ takes_used usable count
takes_as_many g (Function params returns height) is count = ap (λ (ps : List (List ℕ × PlainType)). nat_eq count (length ps)) is.0
takes_as_many g (OnValuesUse n) is count = absurd is
takes_as_many g AndUse is count = absurd is
takes_as_many g OrUse is count = absurd is

module _ (c : CodeContext) (w : Word) (none : None ≡ native c.version w.name) where
  pub function_applies : (f : CodeSignature) (usable : CodeUsable) → Some f ≡ named_in w.name c.functions.entries → function_shown usable ≡ Some (f.params.items, f.returns, f.height) → Applies c (word w) usable
  function_applies f usable there is G shows =
      let found = signature_there (signature_in w.name G.functions) f (function_is w.name G.functions c.functions.entries shows.functions ∙ ap (option_map shown) (sym there)) in
      let as_used = is_used f found.0 usable found.2 is in (
        AFunction found.0,
        λ es i. there_or_not (usable_row (no_native c w.name none G shows i) (found.1 i)),
        as_used,
        takes_as_many found.0 usable as_used,
      )

  pub function_nothing : None ≡ named_in w.name c.functions.entries → AppliesNothing c (word w)
  function_nothing absent G shows es i = there_or_not (usable_row (no_native c w.name none G shows i) (no_function (signature_in w.name G.functions) (function_is w.name G.functions c.functions.entries shows.functions ∙ ap (option_map shown) (sym absent)) i))

pub function_own : (w : Word) → has_own_applied (FunctionBy w) ≡ true
unfolding has_own_applied
function_own w = refl

-- a function is no native
pub function_goes : (version : Version) (w : Word) → None ≡ native version w.name → goes_applied version (FunctionBy w) ≡ true
unfolding goes_applied
function_goes version w none = ap (λ (o : Option Row). not (is_some o)) (sym none)
