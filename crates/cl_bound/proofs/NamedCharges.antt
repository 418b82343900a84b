-- Natives with a leading name are charged themselves and for their parts.
use Rattle.std.proofs.Common.{◌≡◌, ℕ, List, [], ◌∷◌, length, Bool, true, Option, Some, None, refl, ap, subst, ◌∙◌, arith}
use Rattle.cl_types.specs.Types.{PlainType, UintType, OptionalType, PrincipalType}
use Rattle.cl_sexpr.specs.declared.sexpr.Span.{Span}
use Rattle.cl_sexpr.specs.Tree.{Tree, LeafAt, Named}
use Rattle.std.specs.Prelude.{◌||◌, if◌then◌else◌}
use Rattle.std.specs.List.{list_any}
use Rattle.cl_forms.specs.Heads.{Row, native, row_of}
use Rattle.cl_forms.specs.declared.head.Head.TheVariants as heads
use Rattle.cl_forms.specs.HeadNames.{name_of}
use Rattle.std.proofs.Common.{suc}
use Rattle.cl_types.specs.Sized.{length_of}
use Rattle.cl_forms.specs.declared.head.TokenNative.TheVariants as tokens
use Rattle.cl_rules.specs.Faults.{sound_shape, shape_rules}
use Rattle.cl_types.specs.TypeKinds.{entry_of}
use Rattle.cl_rules.specs.NativeTypes.{fine, first_of}
use Rattle.cl_rules.specs.Bills.{Bill, Both}
use Rattle.cl_rules.specs.Context.{Context, Names, named_in, signature_in, same}
use Rattle.cl_rules.specs.Verdicts.{Found, Verdict, sum_of, types_of}
use Rattle.cl_rules.specs.CallShapes.{Usable, ANative, usable, usable_row, takes_no, map_verdict, filter_verdict, fold_verdict}
use Rattle.cl_rules.specs.Shapes.{Shape, AUint, APrincipal, Admitted, parts, is_miscounted, named_shape, named_faults, there_or_not, is_no_such, evaluated, stated, at_first}
use Rattle.cl_rules.specs.DataShapes.{var_get, var_set, map_get, map_put, map_delete, if_fungible, act_answer}
use Rattle.cl_rules.specs.Table.{head_shape}
use Rattle.cl_code.specs.declared.op.Word.{Word}
use Rattle.cl_code.specs.declared.op.NameNative.{NameNative}
use Rattle.cl_code.specs.declared.op.NameNative.TheVariants.{Get, VarGet, VarSet, MapGet, MapSet, MapInsert, MapDelete, FtBalance, FtSupply, NftOwner, MintFt, BurnFt, SendFt, MintNft, BurnNft, SendNft}
use Rattle.cl_code.specs.declared.op.Iteration.{Iteration}
use Rattle.cl_code.specs.declared.op.Iteration.TheVariants.{Map, Filter, Fold}
use Rattle.cl_code.specs.declared.op.Applied.{Applied}
use Rattle.cl_code.specs.declared.op.Applied.TheVariants.{Function, OnValues as OnValuesBy, And as AndBy, Or as OrBy}
use Rattle.cl_code.specs.declared.op.Op.TheVariants.{OnName}
use Rattle.cl_code.specs.OpNames.{name_head, iteration_head}
use Rattle.cl_code.specs.Nodes.{has_own_applied, goes_applied}
use Rattle.cl_code.proofs.Versions.{row_by_name}
use Rattle.cl_code.specs.Expression.{word, applied_name}
use Rattle.cl_bound.specs.Own.{own, inside, iterated, iteration, given}
use Rattle.cl_bound.specs.Charged.{Charges}
use Rattle.cl_bound.proofs.Heads.{when_more, taken_or, no_native}

module _ {A : Type 0} (B : Names) (row : Row) (e : Tree) (es : List Tree) (n : ℕ) (own : PlainType → List PlainType → Bill) (verdict : A → List Found → Verdict) (each : (a : A) (fs : List Found) → (verdict a fs).found.bound ≡ Both (own (verdict a fs).found.type (types_of fs)) (sum_of fs)) where
  variable_charges : (o : Option A) → Charges (named_shape (record (named_faults row (e ∷ es) (there_or_not o)) { no_such_variable = is_no_such (there_or_not o) }) (there_or_not o) verdict B (e ∷ es)) n own sum_of
  variable_charges None fs sound count fine = absurd (when_more _ _ _ _ sound)
  variable_charges (Some a) fs sound count fine = each a fs

  map_charges : (o : Option A) → Charges (named_shape (record (named_faults row (e ∷ es) (there_or_not o)) { no_such_map = is_no_such (there_or_not o) }) (there_or_not o) verdict B (e ∷ es)) n own sum_of
  map_charges None fs sound count fine = absurd (when_more _ _ _ _ sound)
  map_charges (Some a) fs sound count fine = each a fs

  token_charges : (o : Option A) → Charges (named_shape (record (named_faults row (e ∷ es) (there_or_not o)) { no_such_token = is_no_such (there_or_not o) }) (there_or_not o) verdict B (e ∷ es)) n own sum_of
  token_charges None fs sound count fine = absurd (when_more _ _ _ _ sound)
  token_charges (Some a) fs sound count fine = each a fs

-- what applies what is given by name; what is charged isn't asked of an argument that is none
module _ (B : Names) (row : Row) (e : Tree) (es : List Tree) (n : ℕ) (verdict : Usable → List Found → Verdict) where
  abbrev pub used_shape : Option Usable → Shape
  used_shape o = record {
    faults = record sound_shape { argument_count = is_miscounted row (e ∷ es) || takes_no (there_or_not o) (length es); not_a_function = is_no_such (there_or_not o) };
    plan = parts B es;
    verdict = at_first (there_or_not o) verdict;
  }

  using_charges : (own : Option Usable → PlainType → List PlainType → Bill) → ((u : Usable) (fs : List Found) → shape_rules (used_shape (Some u)).faults ≡ [] → length fs ≡ n → (verdict u fs).found.bound ≡ Both (own (Some u) (verdict u fs).found.type (types_of fs)) (sum_of fs)) → (o : Option Usable) → Charges (used_shape o) n (own o) sum_of
  using_charges own each None fs sound count fine = absurd (when_more _ _ _ _ sound)
  using_charges own each (Some u) fs sound count fine = each u fs sound count

filter_each : (u : Usable) (fs : List Found) → length fs ≡ 1 → (filter_verdict (row_of heads.Filter) u fs).found.bound ≡ Both (iterated (Some u) (types_of fs) (length_of (first_of (types_of fs))) (entry_of (first_of (types_of fs)) ∷ [])) (sum_of fs)
filter_each u [] count = absurd (omega (arith, count))
filter_each u (f ∷ []) count = refl
filter_each u (f ∷ g ∷ fs) count = absurd (omega (arith, count))

fold_each : (u : Usable) (fs : List Found) → length fs ≡ 2 → (fold_verdict (row_of heads.Fold) u fs).found.bound ≡ Both (iterated (Some u) (types_of fs) (length_of (first_of (types_of fs))) (entry_of (first_of (types_of fs)) ∷ (fold_verdict (row_of heads.Fold) u fs).found.type ∷ [])) (sum_of fs)
fold_each u [] count = absurd (omega (arith, count))
fold_each u (f ∷ []) count = absurd (omega (arith, count))
fold_each u (s ∷ i ∷ []) count = refl
fold_each u (f ∷ g ∷ h ∷ fs) count = absurd (omega (arith, count))

one_less : (n k : ℕ) (e : Tree) (es : List Tree) → length (e ∷ es) ≡ suc k → n ≡ length es → n ≡ k
one_less n k e es h count = omega (arith, h, count)

module _ (G : Context) (B : Names) (w : Word) (head : Span) (es : List Tree) where
  pub named_charges : (n : NameNative) → Charges (head_shape (name_head n) (row_of (name_head n)) G B (word w ∷ es)) (length es) (own G (OnName n head w)) (inside (OnName n head w))
  unfolding head_shape
  named_charges Get = λ fs sound count fine. refl
  named_charges VarGet = variable_charges B (row_of heads.VarGet) (word w) es (length es) (own G (OnName VarGet head w)) (var_get (row_of heads.VarGet)) (λ a fs. refl) (named_in w.name G.variables)
  named_charges VarSet = variable_charges B (row_of heads.VarSet) (word w) es (length es) (own G (OnName VarSet head w)) (var_set (row_of heads.VarSet)) (λ a fs. refl) (named_in w.name G.variables)
  named_charges MapGet = map_charges B (row_of heads.MapGet) (word w) es (length es) (own G (OnName MapGet head w)) (map_get (row_of heads.MapGet)) (λ a fs. refl) (named_in w.name G.maps)
  named_charges MapSet = map_charges B (row_of heads.MapSet) (word w) es (length es) (own G (OnName MapSet head w)) (map_put (row_of heads.MapSet)) (λ a fs. refl) (named_in w.name G.maps)
  named_charges MapInsert = map_charges B (row_of heads.MapInsert) (word w) es (length es) (own G (OnName MapInsert head w)) (map_put (row_of heads.MapInsert)) (λ a fs. refl) (named_in w.name G.maps)
  named_charges MapDelete = map_charges B (row_of heads.MapDelete) (word w) es (length es) (own G (OnName MapDelete head w)) (map_delete (row_of heads.MapDelete)) (λ a fs. refl) (named_in w.name G.maps)
  named_charges FtBalance = token_charges B (row_of heads.FtBalance) (word w) es (length es) (own G (OnName FtBalance head w)) (λ _. evaluated (row_of heads.FtBalance) (stated (APrincipal ∷ []) (fine UintType))) (λ a fs. refl) (if_fungible (list_any (same w.name) G.fungibles))
  named_charges FtSupply = token_charges B (row_of heads.FtSupply) (word w) es (length es) (own G (OnName FtSupply head w)) (λ _. evaluated (row_of heads.FtSupply) (stated ([]) (fine UintType))) (λ a fs. refl) (if_fungible (list_any (same w.name) G.fungibles))
  named_charges MintFt = token_charges B (row_of (heads.OnToken tokens.MintFt)) (word w) es (length es) (own G (OnName MintFt head w)) (λ _. evaluated (row_of (heads.OnToken tokens.MintFt)) (stated (AUint ∷ APrincipal ∷ []) (fine act_answer))) (λ a fs. refl) (if_fungible (list_any (same w.name) G.fungibles))
  named_charges BurnFt = token_charges B (row_of (heads.OnToken tokens.BurnFt)) (word w) es (length es) (own G (OnName BurnFt head w)) (λ _. evaluated (row_of (heads.OnToken tokens.BurnFt)) (stated (AUint ∷ APrincipal ∷ []) (fine act_answer))) (λ a fs. refl) (if_fungible (list_any (same w.name) G.fungibles))
  named_charges SendFt = token_charges B (row_of (heads.OnToken tokens.SendFt)) (word w) es (length es) (own G (OnName SendFt head w)) (λ _. evaluated (row_of (heads.OnToken tokens.SendFt)) (stated (AUint ∷ APrincipal ∷ APrincipal ∷ []) (fine act_answer))) (λ a fs. refl) (if_fungible (list_any (same w.name) G.fungibles))
  named_charges NftOwner = token_charges B (row_of heads.NftOwner) (word w) es (length es) (own G (OnName NftOwner head w)) (λ id. evaluated (row_of heads.NftOwner) (stated (Admitted id ∷ []) (fine (OptionalType PrincipalType)))) (λ a fs. refl) (named_in w.name G.nonfungibles)
  named_charges MintNft = token_charges B (row_of (heads.OnToken tokens.MintNft)) (word w) es (length es) (own G (OnName MintNft head w)) (λ id. evaluated (row_of (heads.OnToken tokens.MintNft)) (stated (Admitted id ∷ APrincipal ∷ []) (fine act_answer))) (λ a fs. refl) (named_in w.name G.nonfungibles)
  named_charges BurnNft = token_charges B (row_of (heads.OnToken tokens.BurnNft)) (word w) es (length es) (own G (OnName BurnNft head w)) (λ id. evaluated (row_of (heads.OnToken tokens.BurnNft)) (stated (Admitted id ∷ APrincipal ∷ []) (fine act_answer))) (λ a fs. refl) (named_in w.name G.nonfungibles)
  named_charges SendNft = token_charges B (row_of (heads.OnToken tokens.SendNft)) (word w) es (length es) (own G (OnName SendNft head w)) (λ id. evaluated (row_of (heads.OnToken tokens.SendNft)) (stated (Admitted id ∷ APrincipal ∷ APrincipal ∷ []) (fine act_answer))) (λ a fs. refl) (named_in w.name G.nonfungibles)

-- ---- map, filter and fold

module _ (G : Context) (B : Names) (es : List Tree) where
  iteration_charges : (k : Iteration) (x : List ℕ) (at : Span) → Charges (head_shape (iteration_head k) (row_of (iteration_head k)) G B (LeafAt (Named x) at ∷ es)) (length es) (iteration k (usable G x)) sum_of
  unfolding head_shape
  iteration_charges Map x at = using_charges B (row_of heads.Map) (LeafAt (Named x) at) es (length es) (map_verdict (row_of heads.Map)) (iteration Map) (λ u fs sound count. refl) (usable G x)
  iteration_charges Filter x at = using_charges B (row_of heads.Filter) (LeafAt (Named x) at) es (length es) (filter_verdict (row_of heads.Filter)) (iteration Filter)
      (λ u fs sound count. filter_each u fs (one_less (length fs) 1 (LeafAt (Named x) at) es (taken_or (length (LeafAt (Named x) at ∷ es)) 2 _ _ _ sound) count)) (usable G x)
  iteration_charges Fold x at = using_charges B (row_of heads.Fold) (LeafAt (Named x) at) es (length es) (fold_verdict (row_of heads.Fold)) (iteration Fold)
      (λ u fs sound count. fold_each u fs (one_less (length fs) 2 (LeafAt (Named x) at) es (taken_or (length (LeafAt (Named x) at ∷ es)) 3 _ _ _ sound) count)) (usable G x)

  -- what the name stands for
  abbrev Applies : Iteration → Applied → Option Usable → Type 0
  Applies k a u = Charges (head_shape (iteration_head k) (row_of (iteration_head k)) G B (applied_name a ∷ es)) (length es) (iteration k u) sum_of

  pub applied_charges : (k : Iteration) (a : Applied) → has_own_applied a ≡ true → goes_applied G.version a ≡ true → Applies k a (given G a)
  unfolding has_own_applied goes_applied
  applied_charges k (Function f) named goes = subst (Applies k (Function f)) (ap (λ (o : Option Row). usable_row o (signature_in f.name G.functions)) (no_native (native G.version f.name) goes)) (iteration_charges k f.name f.span)
  applied_charges k (OnValuesBy n at) named goes =
      subst (Applies k (OnValuesBy n at))
      (ap (λ (o : Option Row). usable_row o (signature_in (name_of (heads.OnValues n)) G.functions)) (row_by_name G.version (heads.OnValues n) goes)
      ∙ ap (λ (b : Bool). if b then Some (ANative (row_of (heads.OnValues n))) else None) named)
      (iteration_charges k (name_of (heads.OnValues n)) at)
  applied_charges k (AndBy at) named goes = subst (Applies k (AndBy at)) (ap (λ (o : Option Row). usable_row o (signature_in (name_of heads.And) G.functions)) (row_by_name G.version heads.And refl)) (iteration_charges k (name_of heads.And) at)
  applied_charges k (OrBy at) named goes = subst (Applies k (OrBy at)) (ap (λ (o : Option Row). usable_row o (signature_in (name_of heads.Or) G.functions)) (row_by_name G.version heads.Or refl)) (iteration_charges k (name_of heads.Or) at)
