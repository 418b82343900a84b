-- A typed expression is quiet where no call in it writes: each kind of expression, and the induction.
use Rattle.std.proofs.Common.{◌≡◌, ℕ, true, false, List, [], ◌∷◌, map, Option, Some, None, refl, sym, ap, subst, ◌∙◌}
use Rattle.std.specs.Prelude.{codes, is_some}
use Rattle.std.specs.List.{list_any}
use Rattle.cl_types.specs.Types.{PlainType, OptionalType, ResponseType}
use Rattle.cl_c32.specs.declared.principal.Principal.{Principal}
use Rattle.cl_sexpr.specs.declared.sexpr.Span.{Span}
use Rattle.cl_sexpr.specs.Tree.{Tree, LeafAt, ListAt, TupleAt, Named, Forest, Empty, Then, Pairs, NoPair, Pair}
use Rattle.cl_forms.specs.declared.head.TokenNative.TheVariants.{MintFt, BurnFt, SendFt, MintNft, BurnNft, SendNft, SendStx, BurnStx}
use Rattle.cl_forms.specs.declared.head.Head.{Head}
use Rattle.cl_forms.specs.declared.head.Head.TheVariants.{OnToken, TupleOf, AsMaxLen, Get, VarGet, VarSet, MapGet, MapSet, MapInsert, MapDelete, FtBalance, FtSupply, NftOwner, Let, Match, Map, Filter, Fold, ContractCall}
use Rattle.cl_forms.specs.Heads.{Row, row_of, native}
use Rattle.cl_forms.specs.HeadNames.{name_of, head_of_row}
use Rattle.cl_forms.specs.Names.{same}
use Rattle.cl_forms.specs.Shapes.{trees_of, bindings_of, pairs_of, match_of}
use Rattle.cl_forms.specs.Writes.{Call, calls_in, calls_behind, calls_of_pairs}
use Rattle.cl_forms.proofs.Found.{is_row, named_alone}
use Rattle.cl_meaning.specs.Deployed.{Deployed, Function}
use Rattle.cl_rules.specs.Faults.{shape_rules, type_rules}
use Rattle.cl_rules.specs.Bills.{Bill}
use Rattle.cl_rules.specs.Context.{Context, Names, Signature, signature_in, named_in, same as same_name}
use Rattle.cl_rules.specs.Verdicts.{Found}
use Rattle.cl_rules.specs.Shapes.{Plan}
use Rattle.cl_rules.specs.ControlShapes.{let_with, let_shape, optional_plan, response_plan, match_plan, match_verdict, match_shape}
use Rattle.cl_rules.specs.DataShapes.{if_fungible}
use Rattle.cl_rules.specs.CallShapes.{call_shape}
use Rattle.cl_rules.specs.Table.{head_shape, operator_shape, shape}
use Rattle.cl_rules.proofs.Matches.{match_is_read}
use Rattle.cl_rules.specs.Typing.{Typed, typed, Follows, ends, part, gives, broken_shape, broken_types}
use Rattle.cl_expression_sound.proofs.Rules.{fine_shape, not_false}
use Rattle.cl_readonly_sound.proofs.Quiet.{Plain, AtBindings, way_of_head, way_of, IsQuietHead, IsQuietCall, IsQuiet, AreQuietBehind, AreQuietPairs, AllQuiet}
use Rattle.cl_readonly_sound.proofs.Calling.{is_tuple, tuple_alone, tuple_is_native, AllCalls, all_front, all_back, EachCalls, behind_each, list_each, CallsAreQuiet, PlanQuiet, parts_quiet, plain_quiet, pairs_quiet, named_quiet, used_quiet, max_len_quiet, across_quiet, tuple_quiet, let_quiet}

module _ (W : Deployed) (Q : Principal → Function → Type 0) (p : Principal) (G : Context) (Apart : Call → Type 0) where
  -- ---- match

  not_optional : (own : Bill) (f fb : Found) → type_rules (match_verdict true own (f ∷ fb ∷ [])).faults ≡ [] → ⊥
  not_optional own f fb types = cc

  not_response : (own : Bill) (f : Found) → type_rules (match_verdict false own (f ∷ [])).faults ≡ [] → ⊥
  not_response own f types = cc

  -- the branches of an optional: where the input is none, the verdict breaks a rule
  optional_quiet : (B : Names) (x : List ℕ) (a b : Tree) (own : Bill) (f : Found) (t : PlainType) → f.type ≡ t → (fs : List Found) → PlanQuiet W Q p G Apart (optional_plan B x a b t) fs → type_rules (match_verdict true own (f ∷ fs)).faults ≡ [] → AllCalls Apart (calls_in a) → AllCalls Apart (calls_in b) → IsQuiet W Q p a × IsQuiet W Q p b
  optional_quiet B x a b own f (OptionalType t) is (fa ∷ fb ∷ fs) q types h k = (q.0 h, q.1.0 k)
  optional_quiet B x a b own f (OptionalType t) is (fa ∷ []) q types h k = absurd q.1
  optional_quiet B x a b own f (OptionalType t) is [] q types h k = absurd q
  optional_quiet B x a b own f t is (fb ∷ []) q types h k = absurd (not_optional own f fb types)
  optional_quiet B x a b own f t is (fb ∷ fc ∷ fs) q types h k = absurd q.1
  optional_quiet B x a b own f t is [] q types h k = absurd q

  response_quiet : (B : Names) (x : List ℕ) (a : Tree) (y : List ℕ) (b : Tree) (own : Bill) (f : Found) (t : PlainType) → f.type ≡ t → (fs : List Found) → PlanQuiet W Q p G Apart (response_plan B x a y b t) fs → type_rules (match_verdict false own (f ∷ fs)).faults ≡ [] → AllCalls Apart (calls_in a) → AllCalls Apart (calls_in b) → IsQuiet W Q p a × IsQuiet W Q p b
  response_quiet B x a y b own f (ResponseType t u) is (fa ∷ fb ∷ fs) q types h k = (q.0 h, q.1.0 k)
  response_quiet B x a y b own f (ResponseType t u) is (fa ∷ []) q types h k = absurd q.1
  response_quiet B x a y b own f (ResponseType t u) is [] q types h k = absurd q
  response_quiet B x a y b own f t is [] q types h k = absurd (not_response own f types)
  response_quiet B x a y b own f t is (fb ∷ fs) q types h k = absurd q

  abbrev IsMatchQuiet : Names → List Tree → Type 0
  IsMatchQuiet B es = (fs : List Found) → shape_rules (match_shape (row_of Match) G B es).faults ≡ [] → type_rules ((match_shape (row_of Match) G B es).verdict fs).faults ≡ [] → PlanQuiet W Q p G Apart (match_plan B (match_of es)) fs → EachCalls Apart es → AllQuiet W Q p es

  optional_named : (B : Names) (i : Tree) (x : List ℕ) (at : Span) (a b : Tree) → IsMatchQuiet B (i ∷ LeafAt (Named x) at ∷ a ∷ b ∷ [])
  optional_named B i x at a b [] rules types q h = absurd q
  optional_named B i x at a b (f ∷ fs) rules types q h =
      let both = optional_quiet B x a b _ f f.type refl fs q.1 types h.1.1.0 h.1.1.1.0 in
      (q.0 h.0, (tt, (both.0, (both.1, tt))))

  response_named : (B : Names) (i : Tree) (x : List ℕ) (at : Span) (a : Tree) (y : List ℕ) (at' : Span) (b : Tree) → IsMatchQuiet B (i ∷ LeafAt (Named x) at ∷ a ∷ LeafAt (Named y) at' ∷ b ∷ [])
  response_named B i x at a y at' b [] rules types q h = absurd q
  response_named B i x at a y at' b (f ∷ fs) rules types q h =
      let both = response_quiet B x a y b _ f f.type refl fs q.1 types h.1.1.0 h.1.1.1.1.0 in
      (q.0 h.0, (tt, (both.0, (tt, (both.1, tt)))))

  match_quiet : (B : Names) (es : List Tree) → IsMatchQuiet B es
  match_quiet B es fs rules =
      let fine = fine_shape (match_shape (row_of Match) G B es).faults rules in
      match_is_read (IsMatchQuiet B) (optional_named B) (response_named B) es fine.argument_count fine.bad_binding fs rules

  -- ---- let

  let_shape_quiet : (B : Names) (es : Forest) (fs : List Found) → shape_rules (let_shape (row_of Let) G B (trees_of es)).faults ≡ [] → PlanQuiet W Q p G Apart (let_shape (row_of Let) G B (trees_of es)).plan fs → AllCalls Apart (calls_behind false es) → AreQuietBehind W Q p AtBindings es
  let_shape_quiet B Empty fs rules q h = tt
  let_shape_quiet B (Then (ListAt bs at) body) fs rules q h =
      let fine = fine_shape (let_with (row_of Let) G B (trees_of bs) (trees_of body)).faults rules in
      let are = not_false (is_some (bindings_of (trees_of bs))) fine.bad_binding in
      let both = let_quiet W Q p G Apart (trees_of body) (trees_of bs) B B fs are fine.shadowed_name q (list_each Apart bs are (all_front Apart (calls_in (ListAt bs at)) (calls_behind false body) h)) (behind_each Apart body (all_back Apart (calls_in (ListAt bs at)) (calls_behind false body) h)) in
      (pairs_quiet W Q p G Apart bs both.0, plain_quiet W Q p G Apart body both.1)
  let_shape_quiet B (Then (LeafAt leaf at) body) fs rules q h = let bad = (fine_shape (let_shape (row_of Let) G B (trees_of (Then (LeafAt leaf at) body))).faults rules).bad_binding in absurd cc
  let_shape_quiet B (Then (TupleAt ps at) body) fs rules q h = let bad = (fine_shape (let_shape (row_of Let) G B (trees_of (Then (TupleAt ps at) body))).faults rules).bad_binding in absurd cc

  module _ (C : CallsAreQuiet W Q p G Apart) where
    -- ---- natives

    abbrev IsHeadQuiet : Head → Names → Forest → Type 0
    IsHeadQuiet head B es =
        (fs : List Found) → shape_rules (head_shape head (row_of head) G B (trees_of es)).faults ≡ [] → type_rules ((head_shape head (row_of head) G B (trees_of es)).verdict fs).faults ≡ [] → PlanQuiet W Q p G Apart (head_shape head (row_of head) G B (trees_of es)).plan fs →
        Apart (record { operator = name_of head; parts = es }) → AllCalls Apart (calls_behind (is_tuple head) es) → IsQuietHead W Q p head es × AreQuietBehind W Q p (way_of_head head) es

    head_quiet : (head : Head) (B : Names) (es : Forest) → IsHeadQuiet head B es
    unfolding head_shape
    head_quiet (OnToken MintFt) B es fs rules types q call h = absurd (C.natives (name_of (OnToken MintFt)) es call refl)
    head_quiet (OnToken BurnFt) B es fs rules types q call h = absurd (C.natives (name_of (OnToken BurnFt)) es call refl)
    head_quiet (OnToken SendFt) B es fs rules types q call h = absurd (C.natives (name_of (OnToken SendFt)) es call refl)
    head_quiet (OnToken MintNft) B es fs rules types q call h = absurd (C.natives (name_of (OnToken MintNft)) es call refl)
    head_quiet (OnToken BurnNft) B es fs rules types q call h = absurd (C.natives (name_of (OnToken BurnNft)) es call refl)
    head_quiet (OnToken SendNft) B es fs rules types q call h = absurd (C.natives (name_of (OnToken SendNft)) es call refl)
    head_quiet (OnToken SendStx) B es fs rules types q call h = absurd (C.natives (name_of (OnToken SendStx)) es call refl)
    head_quiet (OnToken BurnStx) B es fs rules types q call h = absurd (C.natives (name_of (OnToken BurnStx)) es call refl)
    head_quiet VarSet B es fs rules types q call h = absurd (C.natives (name_of VarSet) es call refl)
    head_quiet MapSet B es fs rules types q call h = absurd (C.natives (name_of MapSet) es call refl)
    head_quiet MapInsert B es fs rules types q call h = absurd (C.natives (name_of MapInsert) es call refl)
    head_quiet MapDelete B es fs rules types q call h = absurd (C.natives (name_of MapDelete) es call refl)
    head_quiet TupleOf B es fs rules types q call h =
        (tt, tuple_quiet W Q p G Apart es B fs (not_false (is_some (bindings_of (trees_of es))) (fine_shape (head_shape TupleOf (row_of TupleOf) G B (trees_of es)).faults rules).bad_binding) q h)
    head_quiet AsMaxLen B es fs rules types q call h =
        let fine = fine_shape (head_shape AsMaxLen (row_of AsMaxLen) G B (trees_of es)).faults rules in
        (tt, plain_quiet W Q p G Apart es (max_len_quiet W Q p G Apart (trees_of es) fine.argument_count fine.literal_expected B fs q (behind_each Apart es h)))
    head_quiet Get B es fs rules types q call h =
        (tt, plain_quiet W Q p G Apart es (named_quiet W Q p G Apart (λ x. Some x) (trees_of es) (fine_shape (head_shape Get (row_of Get) G B (trees_of es)).faults rules).bad_binding B fs q (behind_each Apart es h)))
    head_quiet VarGet B es fs rules types q call h =
        (tt, plain_quiet W Q p G Apart es (named_quiet W Q p G Apart (λ x. named_in x G.variables) (trees_of es) (fine_shape (head_shape VarGet (row_of VarGet) G B (trees_of es)).faults rules).bad_binding B fs q (behind_each Apart es h)))
    head_quiet MapGet B es fs rules types q call h =
        (tt, plain_quiet W Q p G Apart es (named_quiet W Q p G Apart (λ x. named_in x G.maps) (trees_of es) (fine_shape (head_shape MapGet (row_of MapGet) G B (trees_of es)).faults rules).bad_binding B fs q (behind_each Apart es h)))
    head_quiet FtBalance B es fs rules types q call h =
        (tt, plain_quiet W Q p G Apart es (named_quiet W Q p G Apart (λ x. if_fungible (list_any (same_name x) G.fungibles)) (trees_of es) (fine_shape (head_shape FtBalance (row_of FtBalance) G B (trees_of es)).faults rules).bad_binding B fs q (behind_each Apart es h)))
    head_quiet FtSupply B es fs rules types q call h =
        (tt, plain_quiet W Q p G Apart es (named_quiet W Q p G Apart (λ x. if_fungible (list_any (same_name x) G.fungibles)) (trees_of es) (fine_shape (head_shape FtSupply (row_of FtSupply) G B (trees_of es)).faults rules).bad_binding B fs q (behind_each Apart es h)))
    head_quiet NftOwner B es fs rules types q call h =
        (tt, plain_quiet W Q p G Apart es (named_quiet W Q p G Apart (λ x. named_in x G.nonfungibles) (trees_of es) (fine_shape (head_shape NftOwner (row_of NftOwner) G B (trees_of es)).faults rules).bad_binding B fs q (behind_each Apart es h)))
    head_quiet Let B es fs rules types q call h = (tt, let_shape_quiet B es fs rules q h)
    head_quiet Match B es fs rules types q call h = (tt, plain_quiet W Q p G Apart es (match_quiet B (trees_of es) fs rules types q (behind_each Apart es h)))
    head_quiet Map B es fs rules types q call h =
        (C.uses (name_of Map) es call refl, plain_quiet W Q p G Apart es (used_quiet W Q p G Apart (trees_of es) (fine_shape (head_shape Map (row_of Map) G B (trees_of es)).faults rules).not_a_function B fs q (behind_each Apart es h)))
    head_quiet Filter B es fs rules types q call h =
        (C.uses (name_of Filter) es call refl, plain_quiet W Q p G Apart es (used_quiet W Q p G Apart (trees_of es) (fine_shape (head_shape Filter (row_of Filter) G B (trees_of es)).faults rules).not_a_function B fs q (behind_each Apart es h)))
    head_quiet Fold B es fs rules types q call h =
        (C.uses (name_of Fold) es call refl, plain_quiet W Q p G Apart es (used_quiet W Q p G Apart (trees_of es) (fine_shape (head_shape Fold (row_of Fold) G B (trees_of es)).faults rules).not_a_function B fs q (behind_each Apart es h)))
    head_quiet ContractCall B es fs rules types q call h =
        let fine = fine_shape (head_shape ContractCall (row_of ContractCall) G B (trees_of es)).faults rules in
        (C.across B es rules call, plain_quiet W Q p G Apart es (across_quiet W Q p G Apart (trees_of es) fine.literal_expected fine.bad_binding B fs q (behind_each Apart es h)))
    head_quiet head B es fs rules types q call h = (tt, plain_quiet W Q p G Apart es (parts_quiet W Q p G Apart B (trees_of es) fs q (behind_each Apart es h)))

    -- ---- nodes

    row_quiet : (x : List ℕ) (row : Row) → native G.version x ≡ Some row → (B : Names) (es : Forest) (fs : List Found) → shape_rules (head_shape row.head row G B (trees_of es)).faults ≡ [] → type_rules ((head_shape row.head row G B (trees_of es)).verdict fs).faults ≡ [] → PlanQuiet W Q p G Apart (head_shape row.head row G B (trees_of es)).plan fs →
        Apart (record { operator = x; parts = es }) → AllCalls Apart (calls_behind (same x (codes "tuple")) es) → IsQuietHead W Q p row.head es × AreQuietBehind W Q p (way_of_head row.head) es
    row_quiet x row found B es fs rules types q call h =
        let name : x ≡ name_of row.head = named_alone G.version x row.head (ap head_of_row found) in
        let own : row ≡ row_of row.head = is_row G.version x row found in
        subst (λ (r : Row). shape_rules (head_shape row.head r G B (trees_of es)).faults ≡ [] → type_rules ((head_shape row.head r G B (trees_of es)).verdict fs).faults ≡ [] → PlanQuiet W Q p G Apart (head_shape row.head r G B (trees_of es)).plan fs → IsQuietHead W Q p row.head es × AreQuietBehind W Q p (way_of_head row.head) es) (sym own)
        (λ rules types q. head_quiet row.head B es fs rules types q (subst (λ x. Apart (record { operator = x; parts = es })) name call) (subst (λ b. AllCalls Apart (calls_behind b es)) (ap (λ x. same x (codes "tuple")) name ∙ tuple_alone row.head) h)) rules types q

    call_quiet : (f : Option Signature) (B : Names) (es : Forest) (fs : List Found) → shape_rules (call_shape f B (trees_of es)).faults ≡ [] → PlanQuiet W Q p G Apart (call_shape f B (trees_of es)).plan fs → AllCalls Apart (calls_behind false es) → AreQuietBehind W Q p Plain es
    call_quiet (Some f) B es fs rules q h = plain_quiet W Q p G Apart es (parts_quiet W Q p G Apart B (trees_of es) fs q (behind_each Apart es h))
    call_quiet None B es fs rules q h = absurd cc

    operator_quiet : (x : List ℕ) (o : Option Row) → native G.version x ≡ o → (f : Option Signature) (B : Names) (es : Forest) (fs : List Found) → shape_rules (operator_shape o f G B (trees_of es)).faults ≡ [] → type_rules ((operator_shape o f G B (trees_of es)).verdict fs).faults ≡ [] → PlanQuiet W Q p G Apart (operator_shape o f G B (trees_of es)).plan fs →
        Apart (record { operator = x; parts = es }) → AllCalls Apart (calls_behind (same x (codes "tuple")) es) → IsQuietCall W Q p o x es × AreQuietBehind W Q p (way_of o) es
    operator_quiet x (Some row) found f B es fs rules types q call h = row_quiet x row found B es fs rules types q call h
    operator_quiet x None found f B es fs rules types q call h =
        (C.functions x es call, call_quiet f B es fs rules q (subst (λ b. AllCalls Apart (calls_behind b es)) (tuple_is_native G.version x found) h))

    pairs_parts : (ps : Pairs) → AllCalls Apart (calls_of_pairs ps) → EachCalls Apart (map (λ (b : List ℕ × Tree). b.1) (pairs_of ps))
    pairs_parts NoPair h = tt
    pairs_parts (Pair k e ps) h = (all_front Apart (calls_in e) (calls_of_pairs ps) h, pairs_parts ps (all_back Apart (calls_in e) (calls_of_pairs ps) h))

    all_pairs : (ps : Pairs) → AllQuiet W Q p (map (λ (b : List ℕ × Tree). b.1) (pairs_of ps)) → AreQuietPairs W Q p ps
    all_pairs NoPair q = tt
    all_pairs (Pair k e ps) q = (q.0, all_pairs ps q.1)

    node_quiet : (B : Names) (e : Tree) (fs : List Found) → broken_shape G B e ≡ [] → broken_types G B e fs ≡ [] → PlanQuiet W Q p G Apart (shape G B e).plan fs → AllCalls Apart (calls_in e) → IsQuiet W Q p e
    unfolding shape
    node_quiet B (LeafAt leaf at) fs rules types q h = tt
    node_quiet B (TupleAt ps at) fs rules types q h = all_pairs ps (parts_quiet W Q p G Apart B _ fs q (pairs_parts ps h))
    node_quiet B (ListAt (Then (LeafAt (Named x) at') es) at) fs rules types q h =
        subst (λ o. IsQuietCall W Q p o x es × AreQuietBehind W Q p (way_of o) es) (sym (C.versions x)) (operator_quiet x (native G.version x) refl (signature_in x G.functions) B es fs rules types q h.0 h.1)
    node_quiet B (ListAt es at) fs rules types q h = absurd cc

    mutual
      pub typed_quiet : {B : Names} {e : Tree} {f : Found} → Typed G B e f → AllCalls Apart (calls_in e) → IsQuiet W Q p e
      typed_quiet {B = B} {e = e} (typed fs rules follows types is) h = node_quiet B e fs rules types (plan_quiet follows) h

      pub plan_quiet : {plan : Plan} {fs : List Found} → Follows G plan fs → PlanQuiet W Q p G Apart plan fs
      plan_quiet ends = tt
      plan_quiet (part t ts) = (λ h. typed_quiet t h, plan_quiet ts)
      plan_quiet (gives t ts) = (λ h. typed_quiet t h, plan_quiet ts)
