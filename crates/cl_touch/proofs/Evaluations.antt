-- An expression whose uses are fine gives alike answers in related states, at each depth.
use Rattle.std.proofs.Common.{◌≡◌, ℕ, zero, suc, List, [], ◌∷◌, ◌++◌, true, false, map, Option, Some, None, refl, sym, subst}
use Rattle.std.specs.Prelude.{option_and_then, if◌then◌else◌, is_some, Bool, Result, Ok, Err}
use Rattle.std.specs.Option.{option_or}
use Rattle.cl_types.specs.Types.{PlainType}
use Rattle.cl_types.specs.declared.sized.Access.{Access}
use Rattle.cl_types.specs.declared.sized.Access.TheVariants.{Public, ReadOnly, Private}
use Rattle.cl_c32.specs.declared.principal.Principal.{Principal}
use Rattle.cl_shapes.specs.declared.name.CostName.{CostName}
use Rattle.cl_sexpr.specs.declared.sexpr.Span.{Span}
use Rattle.cl_sexpr.specs.Tree.{Tree, LeafAt, ListAt, TupleAt, Leaf, Named, Signed, Unsigned, Bytes, Ascii, Unicode, Standing, Local, Forest, Empty, Then, Pairs, NoPair, Pair, span_of}
use Rattle.cl_values.specs.declared.native.Native.{Native}
use Rattle.cl_values.specs.declared.refusal.ValueRefusal.{ValueRefusal}
use Rattle.cl_values.specs.Tree.{Tree as Val, UintV, BoolV, PrincipalV, NoneV, SomeV, ResponseV}
use Rattle.cl_values.specs.Sequences.{entries_of, optional}
use Rattle.cl_values.specs.Wire.{wire, size_of}
use Rattle.cl_shapes.specs.declared.name.CostName.TheVariants.{ReadVar, Lookup}
use Rattle.cl_forms.specs.declared.head.TokenNative.{TokenNative}
use Rattle.cl_forms.specs.declared.head.TokenNative.TheVariants.{MintFt, BurnFt, SendFt, MintNft, BurnNft, SendNft, SendStx, BurnStx}
use Rattle.cl_forms.specs.declared.head.Head.{Head}
use Rattle.cl_forms.specs.declared.head.Head.TheVariants.{OnValues, OnToken, TupleOf, AsMaxLen, Get, VarGet, VarSet, MapGet, MapSet, MapInsert, MapDelete, FtBalance, FtSupply, StxBalance, NftOwner, Print, If, Let, Begin, And, Or, Asserts, Unwrap, UnwrapErr, Try, Match, AsContract, Map, Filter, Fold, ContractCall}
use Rattle.cl_forms.specs.Heads.{Row}
use Rattle.cl_forms.specs.Shapes.{trees_of, binding_of, bindings_of, and_binding, pairs_of, principal_named}
use Rattle.cl_tokens.specs.Ledger.{Ledger}
use Rattle.cl_tokens.specs.Owners.{Owners}
use Rattle.cl_maps.specs.Maps.{get, without}
use Rattle.cl_events.specs.State.{State, is_principal, with_entries}
use Rattle.cl_forms.specs.declared.keyword.Keyword.{Keyword}
use Rattle.cl_forms.specs.Keywords.{keyword_of}
use Rattle.cl_tables.specs.declared.place.Place.{Place}
use Rattle.cl_tables.specs.Variables.{key_of}
use Rattle.cl_tables.specs.declared.spot.Spot.{Spot}
use Rattle.cl_tables.specs.declared.spot.Spot.TheVariants.{Variable, MapOf, Token}
use Rattle.cl_meaning.specs.Answers.{Outcome, Given, Thrown, Aborted, Wrong, Deeper, Answer, Note, stop, charged, and_then, then_on, with_known}
use Rattle.cl_meaning.specs.Deployed.{Contract, Deployed, Function, contract_at, function_in, function_of, value_of, constant_of}
use Rattle.cl_meaning.specs.Scope.{Frame, BoundValues, Callee, OwnFunction, ByName, Take, Enter, parts, taken_with, called, as_contract, Scope}
use Rattle.cl_meaning.specs.Names.{standing, literal, keyword_or, known_form, name_form, leaf_form}
use Rattle.cl_meaning.specs.Control.{if_form, begin_form, last_of, let_in, let_form, and_on, or_on, and_form, or_form, throwing, asserts_form, wanted_part, err_part, tried, unwrap_form, unwrap_err_form, try_form, match_optional, match_response, match_form, as_contract_form}
use Rattle.cl_meaning.specs.Values.{on_values, strict_form, tuple_form, get_form, as_max_len_form}
use Rattle.cl_meaning.specs.Data.{here, var_get_form, var_set_form, variable_set, map_get_form, map_set_form, map_insert_form, map_delete_form, only_if, found_at, set_entry, insert_entry, delete_entry, key_and_value, write_form}
use Rattle.cl_meaning.specs.Tokens.{ft_balance_form, ft_supply_form, stx_balance_form, nft_owner_form, token_form, named_act_form, act_form, print_form, balance_in, owner_value}
use Rattle.cl_meaning.specs.Sequences.{own, by_row, callee_of, all_entries, rows_of, each, mapped, map_form, kept_if, sifted, filtered, filter_form, folded, fold_form}
use Rattle.cl_meaning.specs.Calls.{call_form, callable, other_contract, contract_call_form, closing, bound_to, body_in, function_form, truth_value, native_form, application}
use Rattle.cl_meaning.specs.Meaning.{head_form, operator, node, means, applied}
use Rattle.cl_meaning.proofs.Equations.{means_zero, means_step, applied_zero, applied_step}
use Rattle.cl_touch.specs.Uses.{Use, Reads, Writes, Applies, Crosses, of_own, crossing, named_use, uses_of_token, given_use, uses_of_head, uses_of_call, uses_in, Plain, AtBindings, AtPairs, way_of_head, way_of}
use Rattle.cl_touch.specs.Touches.{natives_at}
use Rattle.cl_touch.proofs.Logic.{Alike, Steady, alike_at, alike_charged, alike_then, alike_ending, alike_returning, steady_known, steady_choice, alike_by}
use Rattle.cl_touch.proofs.Fine.{AllFine, IsFine, AreFineBehind, IsFinePair, AreFinePairs, EachFine, EachFinePair, fine_tree}
use Rattle.cl_touch.proofs.Keeps.{Keeps}
use Rattle.cl_touch.proofs.Acts.{IsFineNative, act_steady}

abbrev pub scope : Deployed → Frame → BoundValues → Scope
scope W F E = record { deployed = W; frame = F; bound = E }

module _ (W : Deployed) (Q : Principal → Function → Type 0) (T C : Spot → Type 0) where
  abbrev pub IsFineOne : Principal → Option Function → Type 0
  IsFineOne p None = Unit {0}
  IsFineOne p (Some f) = Q p f

  -- what a contract uses is fine: spots of these sets, and functions of this predicate
  abbrev pub FineAt : Principal → Use → Type 0
  FineAt p (Reads x) = T x
  FineAt p (Writes x) = T x × C x
  FineAt p (Applies f) = IsFineOne p (function_of f (contract_at p W))
  FineAt p (Crosses q f) = (c : Contract) → contract_at q W ≡ Some c → (g : Function) → function_in f c.forms ≡ Some g → Q c.principal g

module _ (W : Deployed) (Q : Principal → Function → Type 0) (R : State → State → Type 0) (T C : Spot → Type 0) (K : Keeps R T C) where
  -- ---- rows of items

  abbrev Uses : Principal → List Use → Type 0
  Uses p us = AllFine (FineAt W Q T C p) us

  abbrev Fine : Principal → Tree → Type 0
  Fine p e = IsFine (FineAt W Q T C p) (natives_at p W) p e

  abbrev Each : Principal → List Tree → Type 0
  Each p es = EachFine (FineAt W Q T C p) (natives_at p W) p es

  abbrev EachPair : Principal → List Tree → Type 0
  EachPair p es = EachFinePair (FineAt W Q T C p) (natives_at p W) p es

  abbrev Pairwise : Principal → Tree → Type 0
  Pairwise p e = IsFinePair (FineAt W Q T C p) (natives_at p W) p e

  plain_items : (p : Principal) (es : Forest) → AreFineBehind (FineAt W Q T C p) (natives_at p W) p Plain es → Each p (trees_of es)
  plain_items p Empty q = tt
  plain_items p (Then e es) q = (q.0, plain_items p es q.1)

  pair_items : (p : Principal) (es : Forest) → AreFineBehind (FineAt W Q T C p) (natives_at p W) p AtPairs es → EachPair p (trees_of es)
  pair_items p Empty q = tt
  pair_items p (Then e es) q = (q.0, pair_items p es q.1)

  fine_binding : (p : Principal) (e : Tree) → Pairwise p e → (b : List ℕ × Tree) → binding_of e ≡ Some b → Fine p b.1
  fine_binding p (ListAt (Then (LeafAt (Named k) at) (Then e Empty)) at') q b is = subst (λ (b : List ℕ × Tree). Fine p b.1) (same_pair (k, e) b is) q
    where
      same_pair : (a b : List ℕ × Tree) → Some a ≡ Some b → a ≡ b
      same_pair a b is = cc
  fine_binding p e q b is = absurd cc

  fine_bindings : (p : Principal) (es : List Tree) → EachPair p es → (bs : List (List ℕ × Tree)) → bindings_of es ≡ Some bs → Each p (map (λ (b : List ℕ × Tree). b.1) bs)
  fine_bindings p [] q [] is = tt
  fine_bindings p [] q (b ∷ bs) is = absurd cc
  fine_bindings p (e ∷ es) q bs is = by (binding_of e) (bindings_of es) refl (fine_bindings p es q.1) is
    where
      same_list : (a b : List (List ℕ × Tree)) → Some a ≡ Some b → a ≡ b
      same_list a b is = cc

      by : (o : Option (List ℕ × Tree)) (r : Option (List (List ℕ × Tree))) → binding_of e ≡ o → ((rest : List (List ℕ × Tree)) → r ≡ Some rest → Each p (map (λ (b : List ℕ × Tree). b.1) rest)) → and_binding o r ≡ Some bs → Each p (map (λ (b : List ℕ × Tree). b.1) bs)
      by (Some b) (Some rest) h k is = subst (λ bs. Each p (map (λ (b : List ℕ × Tree). b.1) bs)) (same_list (b ∷ rest) bs is) (fine_binding p e q.0 b h, k rest refl)
      by None r h k is = absurd cc
      by (Some b) None h k is = absurd cc

  pair_parts : (p : Principal) (ps : Pairs) → AreFinePairs (FineAt W Q T C p) (natives_at p W) p ps → Each p (map (λ (b : List ℕ × Tree). b.1) (pairs_of ps))
  pair_parts p NoPair q = tt
  pair_parts p (Pair k e ps) q = (q.0, pair_parts p ps q.1)

  -- ---- one level down

  abbrev pub IsFineCallee : Principal → Callee → Type 0
  IsFineCallee p (OwnFunction f) = Q p f
  IsFineCallee p (ByName row at) = Unit {0}

  abbrev pub Takes : Take → Type 0
  Takes take = (F : Frame) (E : BoundValues) (e : Tree) → Fine F.contract e → Steady R (take (scope W F E) e)

  abbrev pub Enters : Enter → Type 0
  Enters enter = (F : Frame) (E : BoundValues) (f : Callee) → IsFineCallee F.contract f → (vs : List Val) → Steady R (enter (scope W F E) f vs)

  -- ---- names and values

  steady_standing : (name : CostName) (v : Val) → Steady R (standing name v)
  unfolding standing
  steady_standing name v s z r = alike_charged _ _ (alike_at (Given v) s z r)

  steady_literal : (o : Result Val ValueRefusal) → Steady R (literal o)
  steady_literal (Ok v) s z r = steady_standing _ v s z r
  steady_literal (Err refusal) s z r = alike_at _ s z r

  steady_values : (n : Native) (cost : CostName) (vs : List Val) → Steady R (on_values n cost vs)
  unfolding on_values
  steady_values n cost vs s z r = alike_charged _ _ (alike_at _ s z r)

  module _ (take : Take) (t : Takes take) where
    steady_parts : (F : Frame) (E : BoundValues) (es : List Tree) → Each F.contract es → Steady R (parts take (scope W F E) es)
    unfolding parts
    steady_parts F E [] q s z r = alike_at _ s z r
    steady_parts F E (e ∷ es) q s z r = alike_then (t F E e q.0 s z r) (λ v a b c. alike_then (steady_parts F E es q.1 a b c) (λ vs d e f. alike_at _ d e f))

    steady_last : (vs : List Val) → Steady R (last_of vs)
    steady_last [] s z r = alike_at _ s z r
    steady_last (v ∷ []) s z r = alike_at _ s z r
    steady_last (v ∷ w ∷ vs) s z r = steady_last (w ∷ vs) s z r

    -- ---- control

    steady_if : (F : Frame) (E : BoundValues) (es : List Tree) → Each F.contract es → Steady R (if_form take (scope W F E) es)
    unfolding if_form
    steady_if F E (b ∷ x ∷ y ∷ []) q s z r = alike_charged _ _ (alike_then (t F E b q.0 s z r) (λ v. steady_choice v (t F E x q.1.0) (t F E y q.1.1.0)))
    steady_if F E es q s z r = alike_at _ s z r

    steady_begin : (F : Frame) (E : BoundValues) (es : List Tree) → Each F.contract es → Steady R (begin_form take (scope W F E) es)
    unfolding begin_form
    steady_begin F E es q s z r = alike_charged _ _ (alike_then (steady_parts F E es q s z r) steady_last)

    steady_let_in : (body : List Tree) (F : Frame) (E : BoundValues) → Each F.contract body → (bs : List Tree) → EachPair F.contract bs → Steady R (let_in take body (scope W F E) bs)
    unfolding let_in
    steady_let_in body F E q [] p s z r = alike_then (steady_parts F E body q s z r) steady_last
    steady_let_in body F E q (b ∷ bs) p s z r =
        steady_known (binding_of b) (λ x is a b' c. alike_then (t F E x.1 (fine_binding F.contract b p.0 x is) a b' c) (λ v d e f. alike_charged _ _ (steady_let_in body F (E ++ (x.0, v) ∷ []) q bs p.1 d e f))) s z r

    steady_and_on : (F : Frame) (E : BoundValues) (es : List Tree) → Each F.contract es → Steady R (and_on take (scope W F E) es)
    unfolding and_on
    steady_and_on F E [] q s z r = alike_at _ s z r
    steady_and_on F E (e ∷ es) q s z r = alike_then (t F E e q.0 s z r) (λ v. steady_choice v (steady_and_on F E es q.1) (λ a b c. alike_at _ a b c))

    steady_or_on : (F : Frame) (E : BoundValues) (es : List Tree) → Each F.contract es → Steady R (or_on take (scope W F E) es)
    unfolding or_on
    steady_or_on F E [] q s z r = alike_at _ s z r
    steady_or_on F E (e ∷ es) q s z r = alike_then (t F E e q.0 s z r) (λ v. steady_choice v (λ a b c. alike_at _ a b c) (steady_or_on F E es q.1))

    steady_and : (F : Frame) (E : BoundValues) (es : List Tree) → Each F.contract es → Steady R (and_form take (scope W F E) es)
    unfolding and_form
    steady_and F E [] q s z r = alike_at _ s z r
    steady_and F E (e ∷ es) q s z r = alike_charged _ _ (steady_and_on F E (e ∷ es) q s z r)

    steady_or : (F : Frame) (E : BoundValues) (es : List Tree) → Each F.contract es → Steady R (or_form take (scope W F E) es)
    unfolding or_form
    steady_or F E [] q s z r = alike_at _ s z r
    steady_or F E (e ∷ es) q s z r = alike_charged _ _ (steady_or_on F E (e ∷ es) q s z r)

    steady_throwing : (F : Frame) (E : BoundValues) (e : Tree) → Fine F.contract e → Steady R (throwing take (scope W F E) e)
    steady_throwing F E e q s z r = alike_then (t F E e q s z r) (λ v a b c. alike_at (Thrown v) a b c)

    steady_asserts : (F : Frame) (E : BoundValues) (es : List Tree) → Each F.contract es → Steady R (asserts_form take (scope W F E) es)
    unfolding asserts_form
    steady_asserts F E (b ∷ x ∷ []) q s z r = alike_charged _ _ (alike_then (t F E b q.0 s z r) (λ v. steady_choice v (λ a b c. alike_at _ a b c) (steady_throwing F E x q.1.0)))
    steady_asserts F E es q s z r = alike_at _ s z r

    steady_wanted : (otherwise : State → Answer Val) → Steady R otherwise → (v : Val) → Steady R (wanted_part otherwise v)
    steady_wanted otherwise h (SomeV v) s z r = alike_at _ s z r
    steady_wanted otherwise h NoneV s z r = h s z r
    steady_wanted otherwise h (ResponseV true v) s z r = alike_at _ s z r
    steady_wanted otherwise h (ResponseV false v) s z r = h s z r
    steady_wanted otherwise h v s z r = alike_at _ s z r

    steady_err : (otherwise : State → Answer Val) → Steady R otherwise → (v : Val) → Steady R (err_part otherwise v)
    steady_err otherwise h (ResponseV false v) s z r = alike_at _ s z r
    steady_err otherwise h (ResponseV true v) s z r = h s z r
    steady_err otherwise h v s z r = alike_at _ s z r

    steady_unwrap : (F : Frame) (E : BoundValues) (es : List Tree) → Each F.contract es → Steady R (unwrap_form take (scope W F E) es)
    unfolding unwrap_form
    steady_unwrap F E (e ∷ x ∷ []) q s z r = alike_charged _ _ (alike_then (t F E e q.0 s z r) (steady_wanted (throwing take (scope W F E) x) (steady_throwing F E x q.1.0)))
    steady_unwrap F E es q s z r = alike_at _ s z r

    steady_unwrap_err : (F : Frame) (E : BoundValues) (es : List Tree) → Each F.contract es → Steady R (unwrap_err_form take (scope W F E) es)
    unfolding unwrap_err_form
    steady_unwrap_err F E (e ∷ x ∷ []) q s z r = alike_charged _ _ (alike_then (t F E e q.0 s z r) (steady_err (throwing take (scope W F E) x) (steady_throwing F E x q.1.0)))
    steady_unwrap_err F E es q s z r = alike_at _ s z r

    steady_tried : (v : Val) → Steady R (tried v)
    steady_tried (SomeV v) s z r = alike_at _ s z r
    steady_tried NoneV s z r = alike_at _ s z r
    steady_tried (ResponseV true v) s z r = alike_at _ s z r
    steady_tried (ResponseV false v) s z r = alike_at _ s z r
    steady_tried v s z r = alike_at _ s z r

    steady_try : (F : Frame) (E : BoundValues) (es : List Tree) → Each F.contract es → Steady R (try_form take (scope W F E) es)
    unfolding try_form
    steady_try F E (e ∷ []) q s z r = alike_charged _ _ (alike_then (t F E e q.0 s z r) steady_tried)
    steady_try F E es q s z r = alike_at _ s z r

    steady_with : (F : Frame) (E : BoundValues) (x : List ℕ) (v : Val) (e : Tree) → Fine F.contract e → Steady R (taken_with take (scope W F E) x v e)
    steady_with F E x v e q s z r = alike_charged _ _ (t F (E ++ (x, v) ∷ []) e q s z r)

    steady_optional : (F : Frame) (E : BoundValues) (x : List ℕ) (a b : Tree) → Fine F.contract a → Fine F.contract b → (v : Val) → Steady R (match_optional take (scope W F E) x a b v)
    steady_optional F E x a b q p (SomeV v) s z r = steady_with F E x v a q s z r
    steady_optional F E x a b q p NoneV s z r = t F E b p s z r
    steady_optional F E x a b q p v s z r = alike_at _ s z r

    steady_response : (F : Frame) (E : BoundValues) (x : List ℕ) (a : Tree) (y : List ℕ) (b : Tree) → Fine F.contract a → Fine F.contract b → (v : Val) → Steady R (match_response take (scope W F E) x a y b v)
    steady_response F E x a y b q p (ResponseV true v) s z r = steady_with F E x v a q s z r
    steady_response F E x a y b q p (ResponseV false v) s z r = steady_with F E y v b p s z r
    steady_response F E x a y b q p v s z r = alike_at _ s z r

    steady_match : (F : Frame) (E : BoundValues) (es : List Tree) → Each F.contract es → Steady R (match_form take (scope W F E) es)
    unfolding match_form
    steady_match F E (e ∷ LeafAt (Named x) at ∷ a ∷ b ∷ []) q s z r = alike_charged _ _ (alike_then (t F E e q.0 s z r) (steady_optional F E x a b q.1.1.0 q.1.1.1.0))
    steady_match F E (e ∷ LeafAt (Named x) at ∷ a ∷ LeafAt (Named y) at' ∷ b ∷ []) q s z r = alike_charged _ _ (alike_then (t F E e q.0 s z r) (steady_response F E x a y b q.1.1.0 q.1.1.1.1.0))
    steady_match F E es q s z r = alike_at _ s z r

    steady_as_contract : (F : Frame) (E : BoundValues) (es : List Tree) → Each F.contract es → Steady R (as_contract_form take (scope W F E) es)
    unfolding as_contract_form
    steady_as_contract F E (e ∷ []) q s z r = alike_charged _ _ (t (as_contract F) E e q.0 s z r)
    steady_as_contract F E es q s z r = alike_at _ s z r

    -- ---- values

    steady_strict : (n : Native) (cost : CostName) (F : Frame) (E : BoundValues) (es : List Tree) → Each F.contract es → Steady R (strict_form n cost take (scope W F E) es)
    unfolding strict_form
    steady_strict n cost F E es q s z r = alike_then (steady_parts F E es q s z r) (steady_values n cost)

    steady_tuple : (F : Frame) (E : BoundValues) (ps : List (List ℕ × Tree)) → Each F.contract (map (λ (b : List ℕ × Tree). b.1) ps) → Steady R (tuple_form take (scope W F E) ps)
    unfolding tuple_form
    steady_tuple F E [] q s z r = alike_at _ s z r
    steady_tuple F E (p ∷ ps) q s z r = alike_then (steady_parts F E _ q s z r) (λ vs a b c. alike_charged _ _ (alike_at _ a b c))

    steady_get : (F : Frame) (E : BoundValues) (es : List Tree) → Each F.contract es → Steady R (get_form take (scope W F E) es)
    unfolding get_form
    steady_get F E (LeafAt (Named key) at ∷ e ∷ []) q s z r = alike_then (t F E e q.1.0 s z r) (λ v a b c. alike_charged _ _ (alike_at _ a b c))
    steady_get F E es q s z r = alike_at _ s z r

    steady_max_len : (F : Frame) (E : BoundValues) (es : List Tree) → Each F.contract es → Steady R (as_max_len_form take (scope W F E) es)
    unfolding as_max_len_form
    steady_max_len F E (e ∷ LeafAt (Unsigned most) at ∷ []) q s z r = alike_then (t F E e q.0 s z r) (λ v a b c. alike_charged _ _ (alike_at _ a b c))
    steady_max_len F E es q s z r = alike_at _ s z r

    -- ---- variables and maps

    steady_set : (at : Place) → C (Variable at) → (v old : Val) → Steady R (variable_set (key_of at) v old)
    steady_set at c v old s z r = alike_at _ _ _ (K.put_variable at c v s z r)

    steady_only : (b : Bool) {go_on : State → Answer Val} → Steady R go_on → Steady R (only_if b go_on)
    steady_only true h s z r = h s z r
    steady_only false h s z r = alike_at _ s z r

    steady_var_set : (F : Frame) (E : BoundValues) (es : Forest) → Uses F.contract (uses_of_head (natives_at F.contract W) F.contract VarSet es) → Each F.contract (trees_of es) → Steady R (var_set_form take (scope W F E) (trees_of es))
    unfolding var_set_form
    steady_var_set F E (Then (LeafAt (Named x) at) (Then e Empty)) h q s z r =
        alike_then (t F E e q.1.0 s z r) (λ v a b c. alike_charged _ _ (alike_by (λ (o : Option Val) s. with_known o (variable_set (here (scope W F E) x) v) s) (K.variable (of_own F.contract x) h.0.0 a b c) (λ o. steady_known o (λ old is. steady_set (of_own F.contract x) h.0.1 v old)) a b c))
    steady_var_set F E es h q s z r = alike_at _ s z r

    steady_map_get : (F : Frame) (E : BoundValues) (es : Forest) → Uses F.contract (uses_of_head (natives_at F.contract W) F.contract MapGet es) → Each F.contract (trees_of es) → Steady R (map_get_form take (scope W F E) (trees_of es))
    unfolding map_get_form
    steady_map_get F E (Then (LeafAt (Named m) at) (Then k Empty)) h q s z r =
        alike_then (t F E k q.1.0 s z r)
        (λ key. steady_only _ (λ a b c. alike_by (λ (o : Option Val) s. found_at key (optional o) s) (K.entry (of_own F.contract m) h.0 (wire key) a b c) (λ o d e f. alike_charged _ _ (alike_at _ d e f)) a b c))
    steady_map_get F E es h q s z r = alike_at _ s z r

    -- a key and a value are written
    steady_write : (act : Val → Val → State → Answer Val) → ((key v : Val) → Steady R (act key v)) → (m : List ℕ) (F : Frame) (E : BoundValues) (es : List Tree) → Each F.contract es → Steady R (write_form act m take (scope W F E) es)
    steady_write act h m F E es q s z r = alike_then (steady_parts F E es q s z r) (λ vs a b c. alike_charged _ _ (steady_only _ (written vs) a b c))
      where
        written : (vs : List Val) → Steady R (key_and_value act vs)
        written (key ∷ v ∷ []) s z r = h key v s z r
        written [] s z r = alike_at _ s z r
        written (key ∷ []) s z r = alike_at _ s z r
        written (key ∷ v ∷ x ∷ vs) s z r = alike_at _ s z r

    steady_set_entry : (F : Frame) (E : BoundValues) (m : List ℕ) → C (MapOf (of_own F.contract m)) → (key v : Val) → Steady R (set_entry (scope W F E) m key v)
    steady_set_entry F E m c key v s z r = alike_at _ _ _ (K.put_entry (of_own F.contract m) c (wire key) v s z r)

    steady_map_set : (F : Frame) (E : BoundValues) (es : Forest) → Uses F.contract (uses_of_head (natives_at F.contract W) F.contract MapSet es) → Each F.contract (trees_of es) → Steady R (map_set_form take (scope W F E) (trees_of es))
    unfolding map_set_form
    steady_map_set F E (Then (LeafAt (Named m) at) es) h q s z r = steady_write (set_entry (scope W F E) m) (steady_set_entry F E m h.0.1) m F E (trees_of es) q.1 s z r
    steady_map_set F E es h q s z r = alike_at _ s z r

    steady_insert_entry : (F : Frame) (E : BoundValues) (m : List ℕ) → C (MapOf (of_own F.contract m)) → (key v : Val) (o : Option Val) → Steady R (insert_entry (scope W F E) m key v o)
    steady_insert_entry F E m c key v (Some old) s z r = alike_at _ s z r
    steady_insert_entry F E m c key v None s z r = steady_set_entry F E m c key v s z r

    steady_map_insert : (F : Frame) (E : BoundValues) (es : Forest) → Uses F.contract (uses_of_head (natives_at F.contract W) F.contract MapInsert es) → Each F.contract (trees_of es) → Steady R (map_insert_form take (scope W F E) (trees_of es))
    unfolding map_insert_form
    steady_map_insert F E (Then (LeafAt (Named m) at) es) h q s z r =
        steady_write _ (λ key v a b c. alike_by (λ (o : Option Val) s. insert_entry (scope W F E) m key v o s) (K.entry (of_own F.contract m) h.0.0 (wire key) a b c) (steady_insert_entry F E m h.0.1 key v) a b c) m F E (trees_of es) q.1 s z r
    steady_map_insert F E es h q s z r = alike_at _ s z r

    steady_delete_entry : (F : Frame) (E : BoundValues) (m : List ℕ) → T (MapOf (of_own F.contract m)) → C (MapOf (of_own F.contract m)) → (key : Val) → Steady R (delete_entry (scope W F E) m key)
    steady_delete_entry F E m h c key s z r =
        alike_by (λ (o : Option Val) s. stop (Given (BoolV (is_some o))) (with_entries (without (key_of (of_own F.contract m) ++ wire key) s.entries) s)) (K.entry (of_own F.contract m) h (wire key) s z r)
        (λ o a b r. alike_at _ _ _ (K.remove_entry (of_own F.contract m) c (wire key) a b r)) s z r

    steady_map_delete : (F : Frame) (E : BoundValues) (es : Forest) → Uses F.contract (uses_of_head (natives_at F.contract W) F.contract MapDelete es) → Each F.contract (trees_of es) → Steady R (map_delete_form take (scope W F E) (trees_of es))
    unfolding map_delete_form
    steady_map_delete F E (Then (LeafAt (Named m) at) (Then k Empty)) h q s z r =
        alike_then (t F E k q.1.0 s z r) (λ key a b c. alike_charged _ _ (steady_only _ (steady_delete_entry F E m h.0.0 h.0.1 key) a b c))
    steady_map_delete F E es h q s z r = alike_at _ s z r

    -- ---- tokens, and events

    steady_balance : (v : Val) (l : Ledger) → Steady R (balance_in v l)
    steady_balance (PrincipalV who) l s z r = alike_at _ s z r
    steady_balance v l s z r = alike_at _ s z r

    steady_ft_balance : (F : Frame) (E : BoundValues) (es : Forest) → Uses F.contract (uses_of_head (natives_at F.contract W) F.contract FtBalance es) → Each F.contract (trees_of es) → Steady R (ft_balance_form take (scope W F E) (trees_of es))
    unfolding ft_balance_form
    steady_ft_balance F E (Then (LeafAt (Named token) at) (Then e Empty)) h q s z r =
        alike_then (t F E e q.1.0 s z r) (λ v a b c. alike_charged _ _ (alike_by (λ (o : Option Ledger) s. with_known o (balance_in v) s) (K.fungible (of_own F.contract token) h.0 a b c) (λ o. steady_known o (λ l is. steady_balance v l)) a b c))
    steady_ft_balance F E es h q s z r = alike_at _ s z r

    steady_stx_balance : (F : Frame) (E : BoundValues) (es : Forest) → Uses F.contract (uses_of_head (natives_at F.contract W) F.contract StxBalance es) → Each F.contract (trees_of es) → Steady R (stx_balance_form take (scope W F E) (trees_of es))
    unfolding stx_balance_form
    steady_stx_balance F E (Then e Empty) h q s z r = alike_then (t F E e q.0 s z r) (λ v a b c. alike_charged _ _ (alike_by (λ (l : Ledger) s. balance_in v l s) (K.stx h.0 a b c) (steady_balance v) a b c))
    steady_stx_balance F E es h q s z r = alike_at _ s z r

    steady_nft_owner : (F : Frame) (E : BoundValues) (es : Forest) → Uses F.contract (uses_of_head (natives_at F.contract W) F.contract NftOwner es) → Each F.contract (trees_of es) → Steady R (nft_owner_form take (scope W F E) (trees_of es))
    unfolding nft_owner_form
    steady_nft_owner F E (Then (LeafAt (Named token) at) (Then e Empty)) h q s z r =
        alike_then (t F E e q.1.0 s z r)
        (λ id a b c. alike_charged _ _ (alike_by (λ (o : Option Owners) s. with_known o (λ owners. with_known (owner_value (get (wire id) owners)) (λ v u. stop (Given v) u)) s) (K.nonfungible (of_own F.contract token) h.0 a b c)
        (λ o. steady_known o (λ owners is. steady_known (owner_value (get (wire id) owners)) (λ v same d e f. alike_at (Given v) d e f))) a b c))
    steady_nft_owner F E es h q s z r = alike_at _ s z r

    steady_act : (native : TokenNative) (token : List ℕ) (F : Frame) (E : BoundValues) → IsFineNative R T C K F.contract native token → (es : List Tree) → Each F.contract es → Steady R (act_form native token take (scope W F E) es)
    steady_act native token F E fine es q s z r = alike_then (steady_parts F E es q s z r) (λ vs a b c. alike_charged _ _ (act_steady R T C K (scope W F E) native token fine vs a b c))

    steady_named_act : (native : TokenNative) (F : Frame) (E : BoundValues) → ((token : List ℕ) → T (Token (of_own F.contract token)) × C (Token (of_own F.contract token)) → IsFineNative R T C K F.contract native token) → (es : Forest) → Uses F.contract (named_use (λ x. Writes (Token (of_own F.contract x))) es) → Each F.contract (trees_of es) → Steady R (named_act_form native take (scope W F E) (trees_of es))
    steady_named_act native F E fine (Then (LeafAt (Named token) at) es) h q s z r = steady_act native token F E (fine token h.0) (trees_of es) q.1 s z r
    steady_named_act native F E fine es h q s z r = alike_at _ s z r

    steady_token : (native : TokenNative) (F : Frame) (E : BoundValues) (es : Forest) → Uses F.contract (uses_of_token F.contract native es) → Each F.contract (trees_of es) → Steady R (token_form native take (scope W F E) (trees_of es))
    unfolding token_form
    steady_token SendStx F E es h q s z r = steady_act SendStx [] F E h.0 (trees_of es) q s z r
    steady_token BurnStx F E es h q s z r = steady_act BurnStx [] F E h.0 (trees_of es) q s z r
    steady_token MintFt F E es h q s z r = steady_named_act MintFt F E (λ token fine. fine) es h q s z r
    steady_token BurnFt F E es h q s z r = steady_named_act BurnFt F E (λ token fine. fine) es h q s z r
    steady_token SendFt F E es h q s z r = steady_named_act SendFt F E (λ token fine. fine) es h q s z r
    steady_token MintNft F E es h q s z r = steady_named_act MintNft F E (λ token fine. fine) es h q s z r
    steady_token BurnNft F E es h q s z r = steady_named_act BurnNft F E (λ token fine. fine) es h q s z r
    steady_token SendNft F E es h q s z r = steady_named_act SendNft F E (λ token fine. fine) es h q s z r

    steady_print : (F : Frame) (E : BoundValues) (es : List Tree) → Each F.contract es → Steady R (print_form take (scope W F E) es)
    unfolding print_form
    steady_print F E (e ∷ []) q s z r = alike_then (t F E e q.0 s z r) (λ v a b c. alike_charged _ _ (alike_at (Given v) _ _ (K.event _ _ a b c)))
    steady_print F E es q s z r = alike_at _ s z r

  steady_var_get : (F : Frame) (E : BoundValues) (es : Forest) → Uses F.contract (uses_of_head (natives_at F.contract W) F.contract VarGet es) → Steady R (var_get_form (scope W F E) (trees_of es))
  unfolding var_get_form
  steady_var_get F E (Then (LeafAt (Named x) at) Empty) h s z r =
      alike_by (λ (o : Option Val) s. with_known o (λ v t. charged ReadVar (size_of v) (stop (Given v) t)) s) (K.variable (of_own F.contract x) h.0 s z r) (λ o. steady_known o (λ v is a b c. alike_charged _ _ (alike_at (Given v) a b c))) s z r
  steady_var_get F E es h s z r = alike_at _ s z r

  steady_ft_supply : (F : Frame) (E : BoundValues) (es : Forest) → Uses F.contract (uses_of_head (natives_at F.contract W) F.contract FtSupply es) → Steady R (ft_supply_form (scope W F E) (trees_of es))
  unfolding ft_supply_form
  steady_ft_supply F E (Then (LeafAt (Named token) at) Empty) h s z r =
      alike_charged _ _ (alike_by (λ (o : Option Ledger) s. with_known o (λ l u. stop (Given (UintV l.supply)) u) s) (K.fungible (of_own F.contract token) h.0 s z r) (λ o. steady_known o (λ l is a b c. alike_at (Given (UintV l.supply)) a b c)) s z r)
  steady_ft_supply F E es h s z r = alike_at _ s z r

  module _ (take : Take) (t : Takes take) (enter : Enter) (n : Enters enter) where
    -- ---- what a name applies

    abbrev IsFineChoice : Principal → Option Callee → Type 0
    IsFineChoice p None = Unit {0}
    IsFineChoice p (Some f) = IsFineCallee p f

    own_fine : (p : Principal) (o : Option Function) → IsFineOne W Q T C p o → IsFineChoice p (own o)
    own_fine p None q = tt
    own_fine p (Some f) q = q

    row_fine : (p : Principal) (f : List ℕ) (at : Span) (row : Option Row) → Uses p (given_use row f) → IsFineChoice p (by_row at row (function_of f (contract_at p W)))
    row_fine p f at None q = own_fine p (function_of f (contract_at p W)) q.0
    row_fine p f at (Some row) q = by row.by_name
      where
        by : (b : Bool) → IsFineChoice p (if b then Some (ByName row at) else None)
        by true = tt
        by false = tt

    choice_fine : (p : Principal) (o : Option Callee) → IsFineChoice p o → (f : Callee) → o ≡ Some f → IsFineCallee p f
    choice_fine p None q f is = absurd cc
    choice_fine p (Some g) q f is = subst (IsFineCallee p) (same_callee g f is) q
      where
        same_callee : (g f : Callee) → Some g ≡ Some f → g ≡ f
        same_callee g f is = cc

    -- the callee of a name whose function is fine
    named_fine : (F : Frame) (E : BoundValues) (f : List ℕ) (at : Span) → Uses F.contract (given_use (natives_at F.contract W f) f) → (g : Callee) → callee_of (scope W F E) f at ≡ Some g → IsFineCallee F.contract g
    named_fine F E f at h g is = choice_fine F.contract _ (row_fine F.contract f at (natives_at F.contract W f) h) g is

    steady_each : (F : Frame) (E : BoundValues) (f : Callee) → IsFineCallee F.contract f → (rows : List (List Val)) → Steady R (each enter (scope W F E) f rows)
    unfolding each
    steady_each F E f q [] s z r = alike_at _ s z r
    steady_each F E f q (x ∷ xs) s z r = alike_then (n F E f q x s z r) (λ v a b c. alike_then (steady_each F E f q xs a b c) (λ vs d e f. alike_at _ d e f))

    steady_mapped : (F : Frame) (E : BoundValues) (vs : List Val) (f : Callee) → IsFineCallee F.contract f → Steady R (mapped enter (scope W F E) vs f)
    steady_mapped F E vs f q s z r = steady_known (rows_of (all_entries vs)) (λ rs is a b c. alike_then (steady_each F E f q rs a b c) (λ ws d e f. alike_at _ d e f)) s z r

    steady_map : (F : Frame) (E : BoundValues) (es : Forest) → Uses F.contract (uses_of_head (natives_at F.contract W) F.contract Map es) → Each F.contract (trees_of es) → Steady R (map_form take enter (scope W F E) (trees_of es))
    unfolding map_form
    steady_map F E (Then (LeafAt (Named f) at) es) h q s z r =
        alike_then (steady_parts take t F E (trees_of es) q.1 s z r)
        (λ vs a b c. alike_charged _ _ (steady_known (callee_of (scope W F E) f at) (λ g is. steady_mapped F E vs g (named_fine F E f at h g is)) a b c))
    steady_map F E es h q s z r = alike_at _ s z r

    steady_sifted : (F : Frame) (E : BoundValues) (f : Callee) → IsFineCallee F.contract f → (xs : List Val) → Steady R (sifted enter (scope W F E) f xs)
    unfolding sifted
    steady_sifted F E f q [] s z r = alike_at _ s z r
    steady_sifted F E f q (x ∷ xs) s z r = alike_then (n F E f q (x ∷ []) s z r) (λ v a b c. alike_then (steady_sifted F E f q xs a b c) (λ ys. steady_kept v x ys))
      where
        steady_kept : (v x : Val) (xs : List Val) → Steady R (kept_if v x xs)
        steady_kept (BoolV true) x xs s z r = alike_at _ s z r
        steady_kept (BoolV false) x xs s z r = alike_at _ s z r
        steady_kept v x xs s z r = alike_at _ s z r

    steady_filtered : (F : Frame) (E : BoundValues) (v : Val) (f : Callee) → IsFineCallee F.contract f → Steady R (filtered enter (scope W F E) v f)
    steady_filtered F E v f q s z r = steady_known (entries_of v) (λ xs is a b c. alike_then (steady_sifted F E f q xs a b c) (λ ys d e f. alike_at _ d e f)) s z r

    steady_filter : (F : Frame) (E : BoundValues) (es : Forest) → Uses F.contract (uses_of_head (natives_at F.contract W) F.contract Filter es) → Each F.contract (trees_of es) → Steady R (filter_form take enter (scope W F E) (trees_of es))
    unfolding filter_form
    steady_filter F E (Then (LeafAt (Named f) at) (Then e Empty)) h q s z r =
        alike_then (t F E e q.1.0 s z r) (λ v a b c. alike_charged _ _ (steady_known (callee_of (scope W F E) f at) (λ g is. steady_filtered F E v g (named_fine F E f at h g is)) a b c))
    steady_filter F E es h q s z r = alike_at _ s z r

    steady_folded : (F : Frame) (E : BoundValues) (f : Callee) → IsFineCallee F.contract f → (xs : List Val) (result : Val) → Steady R (folded enter (scope W F E) f xs result)
    unfolding folded
    steady_folded F E f q [] result s z r = alike_at _ s z r
    steady_folded F E f q (x ∷ xs) result s z r = alike_then (n F E f q (x ∷ result ∷ []) s z r) (steady_folded F E f q xs)

    steady_fold : (F : Frame) (E : BoundValues) (es : Forest) → Uses F.contract (uses_of_head (natives_at F.contract W) F.contract Fold es) → Each F.contract (trees_of es) → Steady R (fold_form take enter (scope W F E) (trees_of es))
    unfolding fold_form
    steady_fold F E (Then (LeafAt (Named f) at) (Then e (Then i Empty))) h q s z r =
        alike_then (t F E e q.1.0 s z r) (λ v a b c. alike_then (t F E i q.1.1.0 a b c)
        (λ w d e' g. alike_charged _ _ (steady_known (callee_of (scope W F E) f at) (λ k is. steady_known (entries_of v) (λ xs same. steady_folded F E k (named_fine F E f at h k is) xs w)) d e' g)))
    steady_fold F E es h q s z r = alike_at _ s z r

    -- ---- calls

    steady_call : (x : List ℕ) (F : Frame) (E : BoundValues) → FineAt W Q T C F.contract (Applies x) → (es : List Tree) → Each F.contract es → Steady R (call_form x take enter (scope W F E) es)
    unfolding call_form
    steady_call x F E one es q s z r =
        alike_then (steady_parts take t F E es q s z r)
        (λ vs. steady_known (function_of x (contract_at F.contract W)) (λ f is. n F E (OwnFunction f) (fine_one (function_of x (contract_at F.contract W)) one f is) vs))
      where
        same_function : (g f : Function) → Some g ≡ Some f → g ≡ f
        same_function g f is = cc

        fine_one : (o : Option Function) → IsFineOne W Q T C F.contract o → (f : Function) → o ≡ Some f → Q F.contract f
        fine_one None q f is = absurd cc
        fine_one (Some g) q f is = subst (Q F.contract) (same_function g f is) q

    -- the function of another contract, which is deployed there
    across_fine : (F : Frame) (E : BoundValues) (x : List ℕ) (o : Option Principal) → Uses F.contract (crossing o x) → (c : Contract) → option_and_then (other_contract (scope W F E)) o ≡ Some c → (f : Function) → option_and_then callable (function_in x c.forms) ≡ Some f → Q c.principal f
    across_fine F E x None h c is f same = absurd cc
    across_fine F E x (Some q) h c is f same = h.0 c (other_there (is_principal q F.contract) (contract_at q W) is) f (callable_there (function_in x c.forms) same)
      where
        other_there : (b : Bool) (o : Option Contract) → (if b then None else o) ≡ Some c → o ≡ Some c
        other_there true o h = absurd cc
        other_there false o h = h

        by_access : (g : Function) (a : Access) → elim a [ Public ↦ Some g | ReadOnly ↦ Some g | Private ↦ None ] ≡ Some f → Some g ≡ Some f
        by_access g Public h = h
        by_access g ReadOnly h = h
        by_access g Private h = absurd cc

        callable_there : (o : Option Function) → option_and_then callable o ≡ Some f → o ≡ Some f
        callable_there None h = absurd cc
        callable_there (Some g) h = by_access g g.access h

    steady_across : (F : Frame) (E : BoundValues) (es : Forest) → Uses F.contract (uses_of_head (natives_at F.contract W) F.contract ContractCall es) → Each F.contract (trees_of es) → Steady R (contract_call_form take enter (scope W F E) (trees_of es))
    unfolding contract_call_form
    steady_across F E (Then (LeafAt leaf at') (Then (LeafAt (Named x) at) es)) h q s z r =
        alike_then (steady_parts take t F E (trees_of es) q.1.1 s z r)
        (λ vs. steady_known (option_and_then (other_contract (scope W F E)) (principal_named F.contract leaf))
        (λ c is a b r. alike_charged _ _ (steady_known (option_and_then callable (function_in x c.forms)) (λ f same. n (called c.principal F) E (OwnFunction f) (across_fine F E x (principal_named F.contract leaf) h c is f same) vs) a b r)))
    steady_across F E (Then (ListAt items at') (Then (LeafAt (Named x) at) es)) h q s z r =
        alike_then (steady_parts take t F E (trees_of es) q.1.1 s z r) (λ vs a b r. alike_at _ a b r)
    steady_across F E (Then (TupleAt ps at') (Then (LeafAt (Named x) at) es)) h q s z r =
        alike_then (steady_parts take t F E (trees_of es) q.1.1 s z r) (λ vs a b r. alike_at _ a b r)
    steady_across F E es h q s z r = alike_at _ s z r

    -- ---- nodes

    steady_keyword : (S : Scope) (o : Option Keyword) (other : State → Answer Val) → Steady R other → Steady R (keyword_or S o other)
    steady_keyword S (Some k) other h s z r = steady_standing _ _ s z r
    steady_keyword S None other h s z r = h s z r

    steady_name : (F : Frame) (E : BoundValues) (x : List ℕ) → Steady R (name_form (scope W F E) x)
    unfolding name_form
    steady_name F E x s z r = steady_keyword (scope W F E) (keyword_of x) (known_form (scope W F E) x) (steady_known (option_or (value_of x E) (constant_of x (contract_at F.contract W))) (λ v is. steady_standing Lookup v)) s z r

    steady_leaf : (F : Frame) (E : BoundValues) (leaf : Leaf) → Steady R (leaf_form (scope W F E) leaf)
    unfolding leaf_form
    steady_leaf F E (Named x) s z r = steady_name F E x s z r
    steady_leaf F E (Signed n) s z r = steady_standing _ _ s z r
    steady_leaf F E (Unsigned m) s z r = steady_standing _ _ s z r
    steady_leaf F E (Bytes bytes) s z r = steady_literal _ s z r
    steady_leaf F E (Ascii bytes) s z r = steady_literal _ s z r
    steady_leaf F E (Unicode characters) s z r = steady_literal _ s z r
    steady_leaf F E (Standing p) s z r = steady_standing _ _ s z r
    steady_leaf F E (Local x) s z r = steady_standing _ _ s z r

    steady_let : (F : Frame) (E : BoundValues) (es : Forest) → AreFineBehind (FineAt W Q T C F.contract) (natives_at F.contract W) F.contract AtBindings es → Steady R (let_form take (scope W F E) (trees_of es))
    unfolding let_form
    steady_let F E (Then (ListAt bs at) body) q s z r = alike_charged _ _ (steady_let_in take t (trees_of body) F E (plain_items F.contract body q.1) (trees_of bs) (pair_items F.contract bs q.0) s z r)
    steady_let F E es q s z r = alike_at _ s z r

    steady_head : (head : Head) (cost : CostName) (F : Frame) (E : BoundValues) (es : Forest) → Uses F.contract (uses_of_head (natives_at F.contract W) F.contract head es) → AreFineBehind (FineAt W Q T C F.contract) (natives_at F.contract W) F.contract (way_of_head head) es → Steady R (head_form head cost take enter (scope W F E) (trees_of es))
    unfolding head_form
    steady_head (OnValues m) cost F E es h q s z r = steady_strict take t m cost F E (trees_of es) (plain_items F.contract es q) s z r
    steady_head (OnToken act) cost F E es h q s z r = steady_token take t act F E es h (plain_items F.contract es q) s z r
    steady_head TupleOf cost F E es h q s z r = steady_known (bindings_of (trees_of es)) (λ ps is. steady_tuple take t F E ps (fine_bindings F.contract (trees_of es) (pair_items F.contract es q) ps is)) s z r
    steady_head AsMaxLen cost F E es h q s z r = steady_max_len take t F E (trees_of es) (plain_items F.contract es q) s z r
    steady_head Get cost F E es h q s z r = steady_get take t F E (trees_of es) (plain_items F.contract es q) s z r
    steady_head VarGet cost F E es h q s z r = steady_var_get F E es h s z r
    steady_head VarSet cost F E es h q s z r = steady_var_set take t F E es h (plain_items F.contract es q) s z r
    steady_head MapGet cost F E es h q s z r = steady_map_get take t F E es h (plain_items F.contract es q) s z r
    steady_head MapSet cost F E es h q s z r = steady_map_set take t F E es h (plain_items F.contract es q) s z r
    steady_head MapInsert cost F E es h q s z r = steady_map_insert take t F E es h (plain_items F.contract es q) s z r
    steady_head MapDelete cost F E es h q s z r = steady_map_delete take t F E es h (plain_items F.contract es q) s z r
    steady_head FtBalance cost F E es h q s z r = steady_ft_balance take t F E es h (plain_items F.contract es q) s z r
    steady_head FtSupply cost F E es h q s z r = steady_ft_supply F E es h s z r
    steady_head StxBalance cost F E es h q s z r = steady_stx_balance take t F E es h (plain_items F.contract es q) s z r
    steady_head NftOwner cost F E es h q s z r = steady_nft_owner take t F E es h (plain_items F.contract es q) s z r
    steady_head Print cost F E es h q s z r = steady_print take t F E (trees_of es) (plain_items F.contract es q) s z r
    steady_head If cost F E es h q s z r = steady_if take t F E (trees_of es) (plain_items F.contract es q) s z r
    steady_head Let cost F E es h q s z r = steady_let F E es q s z r
    steady_head Begin cost F E es h q s z r = steady_begin take t F E (trees_of es) (plain_items F.contract es q) s z r
    steady_head And cost F E es h q s z r = steady_and take t F E (trees_of es) (plain_items F.contract es q) s z r
    steady_head Or cost F E es h q s z r = steady_or take t F E (trees_of es) (plain_items F.contract es q) s z r
    steady_head Asserts cost F E es h q s z r = steady_asserts take t F E (trees_of es) (plain_items F.contract es q) s z r
    steady_head Unwrap cost F E es h q s z r = steady_unwrap take t F E (trees_of es) (plain_items F.contract es q) s z r
    steady_head UnwrapErr cost F E es h q s z r = steady_unwrap_err take t F E (trees_of es) (plain_items F.contract es q) s z r
    steady_head Try cost F E es h q s z r = steady_try take t F E (trees_of es) (plain_items F.contract es q) s z r
    steady_head Match cost F E es h q s z r = steady_match take t F E (trees_of es) (plain_items F.contract es q) s z r
    steady_head AsContract cost F E es h q s z r = steady_as_contract take t F E (trees_of es) (plain_items F.contract es q) s z r
    steady_head Map cost F E es h q s z r = steady_map F E es h (plain_items F.contract es q) s z r
    steady_head Filter cost F E es h q s z r = steady_filter F E es h (plain_items F.contract es q) s z r
    steady_head Fold cost F E es h q s z r = steady_fold F E es h (plain_items F.contract es q) s z r
    steady_head ContractCall cost F E es h q s z r = steady_across F E es h (plain_items F.contract es q) s z r

    steady_operator : (o : Option Row) (x : List ℕ) (F : Frame) (E : BoundValues) (es : Forest) → Uses F.contract (uses_of_call (natives_at F.contract W) F.contract o x es) → AreFineBehind (FineAt W Q T C F.contract) (natives_at F.contract W) F.contract (way_of o) es → Steady R (operator o x take enter (scope W F E) (trees_of es))
    steady_operator (Some row) x F E es h q s z r = steady_head row.head row.cost F E es h q s z r
    steady_operator None x F E es h q s z r = steady_call x F E h.0 (trees_of es) (plain_items F.contract es q) s z r

    steady_node : (F : Frame) (E : BoundValues) (e : Tree) → Fine F.contract e → Steady R (node take enter (scope W F E) e)
    unfolding node
    steady_node F E (LeafAt leaf at) q s z r = steady_leaf F E leaf s z r
    steady_node F E (TupleAt ps at) q s z r = steady_tuple take t F E (pairs_of ps) (pair_parts F.contract ps q) s z r
    steady_node F E (ListAt (Then (LeafAt (Named x) at') es) at) q s z r = steady_operator (natives_at F.contract W x) x F E es q.0 q.1 s z r
    steady_node F E (ListAt es at) q s z r = alike_at _ s z r

  -- ---- applications

  -- where a public function answers err, the states are those before it
  closed_case : (access : Access) (s z : State) → R s z → (o : Outcome Val) (t u : State) (log : List Note) → R t u → Alike R (then_on o t log (closing access s)) (then_on o u log (closing access z))
  unfolding stop
  closed_case access s z r (Thrown v) t u log q = record { outcome = refl; log = refl; states = q }
  closed_case access s z r (Aborted why) t u log q = record { outcome = refl; log = refl; states = q }
  closed_case access s z r Wrong t u log q = record { outcome = refl; log = refl; states = q }
  closed_case access s z r Deeper t u log q = record { outcome = refl; log = refl; states = q }
  closed_case ReadOnly s z r (Given v) t u log q = record { outcome = refl; log = refl; states = q }
  closed_case Private s z r (Given v) t u log q = record { outcome = refl; log = refl; states = q }
  closed_case Public s z r (Given (ResponseV true v)) t u log q = record { outcome = refl; log = refl; states = q }
  closed_case Public s z r (Given (ResponseV false v)) t u log q = record { outcome = refl; log = refl; states = r }
  closed_case Public s z r (Given v) t u log q = record { outcome = refl; log = refl; states = q }

  alike_closing : (access : Access) (s z : State) → R s z → {a b : Answer Val} → Alike R a b → Alike R (and_then a (closing access s)) (and_then b (closing access z))
  unfolding and_then
  alike_closing access s z r {a = a} {b = b} h =
      subst (λ (o : Outcome Val). Alike R (then_on a.outcome a.state a.log (closing access s)) (then_on o b.state b.log (closing access z))) h.outcome
      (subst (λ (log : List Note). Alike R (then_on a.outcome a.state a.log (closing access s)) (then_on a.outcome b.state log (closing access z))) h.log (closed_case access s z r a.outcome a.state b.state a.log h.states))

  subst2 : {A : Type 0} {a b c d : Answer A} → a ≡ b → c ≡ d → Alike R a c → Alike R b d
  subst2 {b = b} {c = c} e f h = subst (λ y. Alike R b y) f (subst (λ x. Alike R x c) e h)

  steady_bound : (body : BoundValues → State → Answer Val) → ((E : BoundValues) → Steady R (body E)) → (E : BoundValues) (ps : List (List ℕ × PlainType)) (vs : List Val) → Steady R (bound_to body E ps vs)
  unfolding bound_to
  steady_bound body h E [] [] s z r = h E s z r
  steady_bound body h E (p ∷ ps) (v ∷ vs) s z r = alike_charged _ _ (steady_bound body h (E ++ (p.0, v) ∷ []) ps vs s z r)
  steady_bound body h E [] (v ∷ vs) s z r = alike_at _ s z r
  steady_bound body h E (p ∷ ps) [] s z r = alike_at _ s z r

  steady_truth : (o : Option Bool) → Steady R (truth_value o)
  steady_truth None s z r = alike_at _ s z r
  steady_truth (Some b) s z r = alike_at _ s z r

  steady_by_name : (head : Head) (cost : CostName) (vs : List Val) → Steady R (native_form head cost vs)
  unfolding native_form
  steady_by_name (OnValues m) cost vs s z r = steady_values m cost vs s z r
  steady_by_name And cost vs s z r = alike_charged _ _ (steady_truth _ s z r)
  steady_by_name Or cost vs s z r = alike_charged _ _ (steady_truth _ s z r)
  steady_by_name head cost vs s z r = alike_at _ s z r

  -- what the bodies of fine functions use is fine
  abbrev pub IsClosed : Type 0
  IsClosed = (p : Principal) (f : Function) → Q p f → AllFine (FineAt W Q T C p) (uses_in (natives_at p W) p f.body)

  module _ (bodies : IsClosed) where
    steady_application : (take : Take) → Takes take → (F : Frame) (E : BoundValues) (f : Callee) → IsFineCallee F.contract f → (vs : List Val) → Steady R (application take (scope W F E) f vs)
    unfolding application function_form
    steady_application take t F E (OwnFunction f) q vs s z r =
        alike_charged _ _ (steady_bound (body_in take (scope W F E) f) (λ B a b c. alike_closing f.access a b c (alike_returning (t F B f.body (fine_tree (FineAt W Q T C F.contract) (natives_at F.contract W) F.contract f.body (bodies F.contract f q)) a b c))) [] f.params vs s z r)
    steady_application take t F E (ByName row at) q vs s z r = alike_ending at (steady_by_name row.head row.cost vs s z r)

    pub each_depth : (depth : ℕ) → Takes (means depth) × Enters (applied depth)
    each_depth zero = (
      λ F E e q s z r. subst2 (sym (means_zero (scope W F E) e s)) (sym (means_zero (scope W F E) e z)) (alike_at _ s z r),
      λ F E f q vs s z r. subst2 (sym (applied_zero (scope W F E) f vs s)) (sym (applied_zero (scope W F E) f vs z)) (alike_at _ s z r),
    )
    each_depth (suc depth) =
        let below = each_depth depth in (
          λ F E e q s z r. subst2 (sym (means_step depth (scope W F E) e s)) (sym (means_step depth (scope W F E) e z)) (alike_ending (span_of e) (steady_node (means depth) below.0 (applied depth) below.1 F E e q s z r)),
          λ F E f q vs s z r. subst2 (sym (applied_step depth (scope W F E) f vs s)) (sym (applied_step depth (scope W F E) f vs z)) (steady_application (means depth) below.0 F E f q vs s z r),
        )
