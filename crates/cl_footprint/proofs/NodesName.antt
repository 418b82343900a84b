-- What an expression uses is what its node uses, and then what its parts use.
use Rattle.std.proofs.Common.{◌≡◌, ℕ, ◌==◌, true, not, is_some, List, [], ◌∷◌, ◌++◌, length, take, drop, Option, Some, None, refl, ap, sym, ◌∙◌, append_assoc, take-append-drop, take_all, arith, eqb-true, zero, suc, ◌<◌, get_or}
use Rattle.cl_c32.specs.declared.principal.Principal.{Principal}
use Rattle.cl_sexpr.specs.declared.sexpr.Span.{Span}
use Rattle.cl_sexpr.specs.Tree.{Tree, LeafAt, ListAt, Unsigned, Then, forest}
use Rattle.cl_forms.specs.declared.version.Version.{Version}
use Rattle.cl_forms.specs.Heads.{Row, row_of, native}
use Rattle.cl_forms.specs.declared.head.Head.{Head}
use Rattle.cl_forms.specs.declared.head.Head.TheVariants as heads
use Rattle.cl_forms.specs.HeadNames.{name_of}
use Rattle.cl_code.specs.declared.op.PartsNative.{PartsNative}
use Rattle.cl_code.specs.declared.op.PartsNative.TheVariants.{If, Begin, And, Or, Asserts, Unwrap, UnwrapErr, Try, AsContract, Print, StxBalance, SendStx, BurnStx}
use Rattle.cl_code.specs.declared.op.NameNative.{NameNative}
use Rattle.cl_code.specs.declared.op.NameNative.TheVariants.{Get, VarGet, VarSet, MapGet, MapSet, MapInsert, MapDelete, FtBalance, FtSupply, NftOwner, MintFt, BurnFt, SendFt, MintNft, BurnNft, SendNft}
use Rattle.cl_code.specs.declared.op.Iteration.{Iteration}
use Rattle.cl_code.specs.declared.op.Iteration.TheVariants.{Map, Filter, Fold}
use Rattle.cl_code.specs.declared.op.Word.{Word}
use Rattle.cl_code.specs.declared.op.Binding.{Binding}
use Rattle.cl_code.specs.declared.op.Applied.{Applied}
use Rattle.cl_code.specs.declared.op.Applied.TheVariants.{Function, OnValues as OnValuesBy, And as AndBy, Or as OrBy}
use Rattle.cl_code.specs.declared.op.Target.TheVariants.{Standing as StandingAt, Local as LocalAt}
use Rattle.cl_code.specs.declared.op.Op.{Op}
use Rattle.cl_code.specs.declared.op.Op.TheVariants.{Int, Uint, Buff, Ascii as AsciiOp, Utf8, Standing as StandingOp, Local as LocalOp, Keyword, Bound, Constant, OnValues as OnValuesOp, OnParts, OnName, Iterate, AsMaxLen, Tuple, TupleOf, Let, MatchOptional, MatchResponse, Call, ContractCall}
use Rattle.cl_code.proofs.Versions.{row_by_name, row_head, parts_had, name_had, iteration_had, has_goes}
use Rattle.cl_code.specs.OpNames.{parts_head, name_head, iteration_head}
use Rattle.cl_code.specs.Expression.{expression, headed, word, target, applied_name, bound_items, keyed, optional_branches, response_branches}
use Rattle.cl_code.specs.Nodes.{has_parts, goes_applied, goes_op, versions_of}
use Rattle.cl_code.specs.Typed.{Typed, TypedAs, typeds, has_version, goes_by, all_go_by}
use Rattle.cl_types.specs.Types.{PlainType}
use Rattle.std.proofs.lemmas.Bool.{and_parts}
use Rattle.cl_meaning.specs.Deployed.{Contract, native_of}
use Rattle.cl_footprint.specs.Going.{GoesIn, AllGoIn}
use Rattle.cl_touch.specs.Uses.{Use, Applies, Plain, AtPairs, way_of, way_of_head, given_use, uses_of_given, uses_of_head, uses_of_call, Natives, uses_in, uses_behind, uses_of_pairs}
use Rattle.cl_footprint.specs.NodeUses.{uses_by_parts, uses_by_name, uses_of_applied, uses_of_node, uses_of_each}

no_native : (o : Option Row) → not (is_some o) ≡ true → o ≡ None
no_native None h = refl
no_native (Some row) h = absurd cc

-- ---- names of a text

-- the name of a head is that native's in a text
abbrev pub IsHad : Natives → Head → Type 0
IsHad natives h = natives (name_of h) ≡ Some (row_of h)

-- what is given by name: the text has the native, or none under the function's name
abbrev pub IsGivenSo : Natives → Applied → Type 0
IsGivenSo natives (Function f) = natives f.name ≡ None
IsGivenSo natives (OnValuesBy n at) = IsHad natives (heads.OnValues n)
IsGivenSo natives (AndBy at) = IsHad natives heads.And
IsGivenSo natives (OrBy at) = IsHad natives heads.Or

-- the text has the native of a node, and none under the name of a function that it applies
abbrev pub IsNamedSo : Natives → Op → Type 0
IsNamedSo natives (OnValuesOp n head) = IsHad natives (heads.OnValues n)
IsNamedSo natives (OnParts n head) = IsHad natives (parts_head n)
IsNamedSo natives (OnName n head name) = IsHad natives (name_head n)
IsNamedSo natives (Iterate i head a) = IsHad natives (iteration_head i) × IsGivenSo natives a
IsNamedSo natives (AsMaxLen head most literal) = IsHad natives heads.AsMaxLen
IsNamedSo natives (TupleOf head pairs) = IsHad natives heads.TupleOf
IsNamedSo natives (Let head brackets bindings) = IsHad natives heads.Let
IsNamedSo natives (MatchOptional head part) = IsHad natives heads.Match
IsNamedSo natives (MatchResponse head good bad) = IsHad natives heads.Match
IsNamedSo natives (Call f) = natives f.name ≡ None
IsNamedSo natives (ContractCall head contract function callee) = IsHad natives heads.ContractCall
IsNamedSo natives op = Unit {0}

module _ (natives : Natives) (p : Principal) where
  -- ---- rows of items

  plain_each : (es : List Tree) → uses_behind natives p Plain (forest es) ≡ uses_of_each natives p es
  plain_each [] = refl
  plain_each (e ∷ es) = ap (λ (us : List Use). uses_in natives p e ++ us) (plain_each es)

  bound_each : (bs : List Binding) (es : List Tree) → uses_behind natives p AtPairs (forest (bound_items bs es)) ≡ uses_of_each natives p (take (length bs) es)
  bound_each [] es = refl
  bound_each (b ∷ bs) [] = refl
  bound_each (b ∷ bs) (e ∷ es) = ap (λ (us : List Use). uses_in natives p e ++ us) (bound_each bs es)

  keyed_each : (ks : List (List ℕ)) (es : List Tree) → uses_of_pairs natives p (keyed ks es) ≡ uses_of_each natives p (take (length ks) es)
  keyed_each [] es = refl
  keyed_each (k ∷ ks) [] = refl
  keyed_each (k ∷ ks) (e ∷ es) = ap (λ (us : List Use). uses_in natives p e ++ us) (keyed_each ks es)

  pub both_each : (es ds : List Tree) → uses_of_each natives p es ++ uses_of_each natives p ds ≡ uses_of_each natives p (es ++ ds)
  both_each [] ds = refl
  both_each (e ∷ es) ds = append_assoc (uses_in natives p e) (uses_of_each natives p es) (uses_of_each natives p ds) ∙ ap (λ (us : List Use). uses_in natives p e ++ us) (both_each es ds)

  all_taken : (n : ℕ) (es : List Tree) → (length es == n) ≡ true → uses_of_each natives p (take n es) ≡ uses_of_each natives p es
  all_taken n es h = let e : length es ≡ n = eqb-true (length es) n h in ap (uses_of_each natives p) (take_all n es (omega (arith, e)))

  -- ---- lists that begin with a name

  headed_native : (h : Head) → IsHad natives h → (head at : Span) (items : List Tree) → uses_in natives p (headed (name_of h) head items at) ≡ uses_of_head natives p h (forest items) ++ uses_behind natives p (way_of_head h) (forest items)
  headed_native h had head at items =
      ap (λ (o : Option Row). uses_of_call natives p o (name_of h) (forest items) ++ uses_behind natives p (way_of o) (forest items)) had
      ∙ ap (λ (d : Head). uses_of_head natives p d (forest items) ++ uses_behind natives p (way_of_head d) (forest items)) (row_head h)

  headed_call : (x : List ℕ) (head at : Span) (items : List Tree) → natives x ≡ None → uses_in natives p (headed x head items at) ≡ Applies x ∷ uses_of_each natives p items
  headed_call x head at items none =
      ap (λ (o : Option Row). uses_of_call natives p o x (forest items) ++ uses_behind natives p (way_of o) (forest items)) none ∙ ap (λ (us : List Use). Applies x ∷ us) (plain_each items)

  nothing : (es : List Tree) → (length es == 0) ≡ true → [] ≡ uses_of_each natives p es
  nothing [] h = refl
  nothing (e ∷ es) h = let some : length (e ∷ es) ≡ 0 = eqb-true (length (e ∷ es)) 0 h in absurd (omega (arith, some))

  -- ---- each node

  parts_node : (n : PartsNative) (es : List Tree) → uses_of_head natives p (parts_head n) (forest es) ++ uses_behind natives p (way_of_head (parts_head n)) (forest es) ≡ uses_by_parts n ++ uses_of_each natives p es
  parts_node If es = plain_each es
  parts_node Begin es = plain_each es
  parts_node And es = plain_each es
  parts_node Or es = plain_each es
  parts_node Asserts es = plain_each es
  parts_node Unwrap es = plain_each es
  parts_node UnwrapErr es = plain_each es
  parts_node Try es = plain_each es
  parts_node AsContract es = plain_each es
  parts_node Print es = plain_each es
  parts_node StxBalance es = ap (λ (us : List Use). uses_by_parts StxBalance ++ us) (plain_each es)
  parts_node SendStx es = ap (λ (us : List Use). uses_by_parts SendStx ++ us) (plain_each es)
  parts_node BurnStx es = ap (λ (us : List Use). uses_by_parts BurnStx ++ us) (plain_each es)

  name_node : (n : NameNative) (x : Word) (es : List Tree) → uses_of_head natives p (name_head n) (forest (word x ∷ es)) ++ uses_behind natives p (way_of_head (name_head n)) (forest (word x ∷ es)) ≡ uses_by_name p n x.name ++ uses_of_each natives p es
  name_node Get x es = plain_each es
  name_node VarGet x es = ap (λ (us : List Use). uses_by_name p VarGet x.name ++ us) (plain_each es)
  name_node VarSet x es = ap (λ (us : List Use). uses_by_name p VarSet x.name ++ us) (plain_each es)
  name_node MapGet x es = ap (λ (us : List Use). uses_by_name p MapGet x.name ++ us) (plain_each es)
  name_node MapSet x es = ap (λ (us : List Use). uses_by_name p MapSet x.name ++ us) (plain_each es)
  name_node MapInsert x es = ap (λ (us : List Use). uses_by_name p MapInsert x.name ++ us) (plain_each es)
  name_node MapDelete x es = ap (λ (us : List Use). uses_by_name p MapDelete x.name ++ us) (plain_each es)
  name_node FtBalance x es = ap (λ (us : List Use). uses_by_name p FtBalance x.name ++ us) (plain_each es)
  name_node FtSupply x es = ap (λ (us : List Use). uses_by_name p FtSupply x.name ++ us) (plain_each es)
  name_node NftOwner x es = ap (λ (us : List Use). uses_by_name p NftOwner x.name ++ us) (plain_each es)
  name_node MintFt x es = ap (λ (us : List Use). uses_by_name p MintFt x.name ++ us) (plain_each es)
  name_node BurnFt x es = ap (λ (us : List Use). uses_by_name p BurnFt x.name ++ us) (plain_each es)
  name_node SendFt x es = ap (λ (us : List Use). uses_by_name p SendFt x.name ++ us) (plain_each es)
  name_node MintNft x es = ap (λ (us : List Use). uses_by_name p MintNft x.name ++ us) (plain_each es)
  name_node BurnNft x es = ap (λ (us : List Use). uses_by_name p BurnNft x.name ++ us) (plain_each es)
  name_node SendNft x es = ap (λ (us : List Use). uses_by_name p SendNft x.name ++ us) (plain_each es)

  -- what is given by name
  given_node : (a : Applied) (es : List Tree) → IsGivenSo natives a → uses_of_given natives (Then (applied_name a) (forest es)) ++ uses_behind natives p Plain (Then (applied_name a) (forest es)) ≡ uses_of_applied a ++ uses_of_each natives p es
  given_node (Function f) es own = ap (λ (o : Option Row). given_use o f.name ++ uses_behind natives p Plain (forest es)) own ∙ ap (λ (us : List Use). Applies f.name ∷ us) (plain_each es)
  given_node (OnValuesBy n at) es own = ap (λ (o : Option Row). given_use o (name_of (heads.OnValues n)) ++ uses_behind natives p Plain (forest es)) own ∙ plain_each es
  given_node (AndBy at) es own = ap (λ (o : Option Row). given_use o (name_of heads.And) ++ uses_behind natives p Plain (forest es)) own ∙ plain_each es
  given_node (OrBy at) es own = ap (λ (o : Option Row). given_use o (name_of heads.Or) ++ uses_behind natives p Plain (forest es)) own ∙ plain_each es

  iterate_node : (i : Iteration) (a : Applied) (es : List Tree) → IsGivenSo natives a → uses_of_head natives p (iteration_head i) (forest (applied_name a ∷ es)) ++ uses_behind natives p (way_of_head (iteration_head i)) (forest (applied_name a ∷ es)) ≡ uses_of_applied a ++ uses_of_each natives p es
  iterate_node Map a es own = given_node a es own
  iterate_node Filter a es own = given_node a es own
  iterate_node Fold a es own = given_node a es own

  optional_node : (x : Word) (es : List Tree) → uses_behind natives p Plain (forest (optional_branches x es)) ≡ uses_of_each natives p es
  optional_node x [] = refl
  optional_node x (e ∷ es) = ap (λ (us : List Use). uses_in natives p e ++ us) (plain_each es)

  response_node : (x y : Word) (es : List Tree) → uses_behind natives p Plain (forest (response_branches x y es)) ≡ uses_of_each natives p es
  response_node x y [] = refl
  response_node x y (e ∷ []) = refl
  response_node x y (e ∷ d ∷ es) = ap (λ (us : List Use). uses_in natives p e ++ (uses_in natives p d ++ us)) (plain_each es)

  let_node : (bs : List Binding) (es : List Tree) → uses_behind natives p AtPairs (forest (bound_items bs es)) ++ uses_behind natives p Plain (forest (drop (length bs) es)) ≡ uses_of_each natives p es
  let_node bs es =
      (λ i. bound_each bs es i ++ plain_each (drop (length bs) es) i) ∙ both_each (take (length bs) es) (drop (length bs) es) ∙ ap (uses_of_each natives p) (take-append-drop (length bs) es)

  -- an expression with as many parts as its node takes, whose names are those of a text with these natives
  pub node_uses : (op : Op) (es : List Tree) (at : Span) → has_parts op (length es) ≡ true → IsNamedSo natives op → uses_in natives p (expression op es at) ≡ uses_of_node p op ++ uses_of_each natives p es
  node_uses (Int z) es at fit own = nothing es fit
  node_uses (Uint n) es at fit own = nothing es fit
  node_uses (Buff bytes) es at fit own = nothing es fit
  node_uses (AsciiOp text) es at fit own = nothing es fit
  node_uses (Utf8 text) es at fit own = nothing es fit
  node_uses (StandingOp q) es at fit own = nothing es fit
  node_uses (LocalOp c) es at fit own = nothing es fit
  node_uses (Keyword k) es at fit own = nothing es fit
  node_uses (Bound x) es at fit own = nothing es fit
  node_uses (Constant x) es at fit own = nothing es fit
  node_uses (OnValuesOp n head) es at fit own = headed_native (heads.OnValues n) own head at es ∙ plain_each es
  node_uses (OnParts n head) es at fit own = headed_native (parts_head n) own head at es ∙ parts_node n es
  node_uses (OnName n head name) es at fit own = headed_native (name_head n) own head at (word name ∷ es) ∙ name_node n name es
  node_uses (Iterate i head a) es at fit own = headed_native (iteration_head i) own.0 head at (applied_name a ∷ es) ∙ iterate_node i a es own.1
  node_uses (AsMaxLen head most literal) [] at fit own = headed_native heads.AsMaxLen own head at []
  node_uses (AsMaxLen head most literal) (e ∷ es) at fit own = headed_native heads.AsMaxLen own head at (e ∷ LeafAt (Unsigned most) literal ∷ es) ∙ ap (λ (us : List Use). uses_in natives p e ++ us) (plain_each es)
  node_uses (Tuple keys) es at fit own = keyed_each keys.items es ∙ all_taken (length keys.items) es fit
  node_uses (TupleOf head pairs) es at fit own = headed_native heads.TupleOf own head at (bound_items pairs.items es) ∙ bound_each pairs.items es ∙ all_taken (length pairs.items) es fit
  node_uses (Let head brackets bindings) es at fit own = headed_native heads.Let own head at (ListAt (forest (bound_items bindings.items es)) brackets ∷ drop (length bindings.items) es) ∙ let_node bindings.items es
  node_uses (MatchOptional head part) es at fit own = headed_native heads.Match own head at (optional_branches part es) ∙ optional_node part es
  node_uses (MatchResponse head good bad) es at fit own = headed_native heads.Match own head at (response_branches good bad es) ∙ response_node good bad es
  node_uses (Call f) es at fit own = headed_call f.name f.span at es own
  node_uses (ContractCall head (StandingAt q there) function callee) es at fit own = headed_native heads.ContractCall own head at (target (StandingAt q there) ∷ word function ∷ es) ∙ ap (λ (us : List Use). uses_of_node p (ContractCall head (StandingAt q there) function callee) ++ us) (plain_each es)
  node_uses (ContractCall head (LocalAt c there) function callee) es at fit own = headed_native heads.ContractCall own head at (target (LocalAt c there) ∷ word function ∷ es) ∙ ap (λ (us : List Use). uses_of_node p (ContractCall head (LocalAt c there) function callee) ++ us) (plain_each es)

-- ---- nodes of a version

given_so : (v : Version) (a : Applied) → goes_applied v a ≡ true → IsGivenSo (native v) a
unfolding goes_applied
given_so v (Function f) goes = no_native (native v f.name) goes
given_so v (OnValuesBy n at) goes = row_by_name v (heads.OnValues n) goes
given_so v (AndBy at) goes = row_by_name v heads.And refl
given_so v (OrBy at) goes = row_by_name v heads.Or refl

-- a node that can stand in a text of a version has its names
named_so : (v : Version) (op : Op) → goes_op v op ≡ true → IsNamedSo (native v) op
unfolding goes_op
named_so v (OnValuesOp n head) goes = row_by_name v (heads.OnValues n) goes
named_so v (OnParts n head) goes = row_by_name v (parts_head n) (parts_had v n)
named_so v (OnName n head name) goes = row_by_name v (name_head n) (name_had v n)
named_so v (Iterate i head a) goes = (row_by_name v (iteration_head i) (iteration_had v i), given_so v a goes)
named_so v (AsMaxLen head most literal) goes = row_by_name v heads.AsMaxLen refl
named_so v (TupleOf head pairs) goes = row_by_name v heads.TupleOf refl
named_so v (Let head brackets bindings) goes = row_by_name v heads.Let refl
named_so v (MatchOptional head part) goes = row_by_name v heads.Match refl
named_so v (MatchResponse head good bad) goes = row_by_name v heads.Match refl
named_so v (Call f) goes = no_native (native v f.name) goes
named_so v (ContractCall head contract function callee) goes = row_by_name v heads.ContractCall refl
named_so v op goes = tt

-- ---- trees of a contract

module _ (op : Op) (es : List Tree) (at : Span) (type : PlainType) (ps : List Typed) (code : Typed) (is : code ≡ TypedAs (expression op es at) type (versions_of op) (typeds ps)) where
  both_go : (v : Version) → goes_by v code ≡ true → (has_version (versions_of op) v ≡ true) × (all_go_by v (typeds ps) ≡ true)
  both_go v goes = and_parts (has_version (versions_of op) v) (all_go_by v (typeds ps)) (sym (ap (goes_by v) is) ∙ goes)

  pub node_named : (o : Option Contract) → GoesIn o code → IsNamedSo (λ x. native_of x o) op
  node_named None goes = absurd goes
  node_named (Some c) goes = named_so c.version op (sym (has_goes c.version op) ∙ (both_go c.version goes).0)

  pub parts_go : (o : Option Contract) → GoesIn o code → AllGoIn o ps
  parts_go None goes = goes
  parts_go (Some c) goes = (both_go c.version goes).1

part_goes : (v : Version) (ps : List Typed) (i : ℕ) (p : Typed) → all_go_by v (typeds ps) ≡ true → i < length ps → get_or ps i p ≡ p → goes_by v p ≡ true
part_goes v [] i p h less e = absurd (omega (arith, less))
part_goes v (q ∷ ps) zero p h less e = ap (goes_by v) (sym e) ∙ (and_parts (goes_by v q) (all_go_by v (typeds ps)) h).0
part_goes v (q ∷ ps) (suc i) p h less e = part_goes v ps i p (and_parts (goes_by v q) (all_go_by v (typeds ps)) h).1 (omega (arith, less)) e

pub one_goes : (o : Option Contract) (ps : List Typed) (i : ℕ) (p : Typed) → AllGoIn o ps → i < length ps → get_or ps i p ≡ p → GoesIn o p
one_goes None ps i p goes less e = goes
one_goes (Some c) ps i p goes less e = part_goes c.version ps i p goes less e
