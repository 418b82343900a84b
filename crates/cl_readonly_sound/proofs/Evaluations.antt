-- An expression that is quiet leaves the state untouched, at each depth.
use Rattle.std.proofs.Common.{◌≡◌, ℕ, zero, suc, List, [], ◌∷◌, ◌++◌, true, false, map, Option, Some, None, refl, sym, subst}
use Rattle.std.specs.Prelude.{option_and_then, if◌then◌else◌, Bool, Result, Ok, Err}
use Rattle.std.specs.Option.{option_or}
use Rattle.cl_types.specs.Types.{PlainType}
use Rattle.cl_types.specs.declared.sized.Access.{Access}
use Rattle.cl_types.specs.declared.sized.Access.TheVariants.{Public, ReadOnly, Private}
use Rattle.cl_c32.specs.declared.principal.Principal.{Principal}
use Rattle.cl_shapes.specs.declared.name.CostName.{CostName}
use Rattle.cl_sexpr.specs.Tree.{Tree, LeafAt, ListAt, TupleAt, Leaf, Named, Signed, Unsigned, Bytes, Ascii, Unicode, Standing, Local, Forest, Empty, Then, Pairs, NoPair, Pair, span_of}
use Rattle.cl_values.specs.declared.native.Native.{Native}
use Rattle.cl_values.specs.declared.refusal.ValueRefusal.{ValueRefusal}
use Rattle.cl_values.specs.Tree.{Tree as Val, UintV, BoolV, PrincipalV, NoneV, SomeV, ResponseV}
use Rattle.cl_values.specs.Sequences.{entries_of}
use Rattle.cl_values.specs.Wire.{wire, size_of}
use Rattle.cl_shapes.specs.declared.name.CostName.TheVariants.{ReadVar, Lookup}
use Rattle.cl_forms.specs.declared.head.Head.{Head}
use Rattle.cl_forms.specs.declared.head.Head.TheVariants.{OnValues, OnToken, TupleOf, AsMaxLen, Get, VarGet, VarSet, MapGet, MapSet, MapInsert, MapDelete, FtBalance, FtSupply, StxBalance, NftOwner, Print, If, Let, Begin, And, Or, Asserts, Unwrap, UnwrapErr, Try, Match, AsContract, Map, Filter, Fold, ContractCall}
use Rattle.cl_forms.specs.Heads.{Row}
use Rattle.cl_forms.specs.Shapes.{trees_of, binding_of, bindings_of, and_binding, pairs_of}
use Rattle.cl_tokens.specs.Ledger.{Ledger}
use Rattle.cl_maps.specs.Maps.{get}
use Rattle.cl_events.specs.State.{State}
use Rattle.cl_forms.specs.declared.keyword.Keyword.{Keyword}
use Rattle.cl_forms.specs.Keywords.{keyword_of}
use Rattle.cl_meaning.specs.Answers.{Outcome, Given, Thrown, Aborted, Wrong, Deeper, Answer, Note, stop, and_then, then_on}
use Rattle.cl_meaning.specs.Deployed.{Deployed, Function, contract_at, function_in, function_of, value_of, constant_of, native_of}
use Rattle.cl_meaning.specs.Scope.{Frame, BoundValues, Callee, OwnFunction, ByName, Take, Enter, parts, taken_with, called, as_contract, Scope}
use Rattle.cl_meaning.specs.Names.{standing, literal, keyword_or, known_form, name_form, leaf_form}
use Rattle.cl_meaning.specs.Control.{if_form, begin_form, last_of, let_in, let_form, and_on, or_on, and_form, or_form, throwing, asserts_form, wanted_part, err_part, tried, unwrap_form, unwrap_err_form, try_form, match_optional, match_response, match_form, as_contract_form}
use Rattle.cl_meaning.specs.Values.{on_values, strict_form, tuple_form, get_form, as_max_len_form}
use Rattle.cl_meaning.specs.Data.{here, var_get_form, map_get_form, only_if}
use Rattle.cl_meaning.specs.Tokens.{ft_balance_form, ft_supply_form, stx_balance_form, nft_owner_form, print_form, balance_in, owner_value}
use Rattle.cl_meaning.specs.Sequences.{own, by_row, callee_of, all_entries, rows_of, each, mapped, map_form, kept_if, sifted, filtered, filter_form, folded, fold_form}
use Rattle.cl_meaning.specs.Calls.{call_form, callable, target_of, other_contract, contract_call_form, closing, bound_to, body_in, function_form, truth_value, native_form, application}
use Rattle.cl_meaning.specs.Meaning.{head_form, operator, node, means, applied}
use Rattle.cl_meaning.proofs.Equations.{means_zero, means_step, applied_zero, applied_step}
use Rattle.cl_readonly_sound.proofs.Logic.{Leaves, leaves_stop, leaves_at, leaves_charged, leaves_then, leaves_ending, leaves_returning, leaves_known, leaves_choice, as_before, one_printed}
use Rattle.cl_readonly_sound.specs.Untouched.{IsUntouched}
use Rattle.cl_readonly_sound.proofs.Quiet.{scope, Plain, AtBindings, AtPairs, way_of_head, way_of, IsQuietOne, IsQuietUse, IsQuietAcross, IsQuietHead, IsQuietCall, IsQuiet, AreQuietBehind, IsQuietPair, AreQuietPairs, AllQuiet, AllQuietPairs}

module _ (W : Deployed) (Q : Principal → Function → Type 0) where
  -- ---- rows of items

  plain_items : (p : Principal) (es : Forest) → AreQuietBehind W Q p Plain es → AllQuiet W Q p (trees_of es)
  plain_items p Empty q = tt
  plain_items p (Then e es) q = (q.0, plain_items p es q.1)

  pair_items : (p : Principal) (es : Forest) → AreQuietBehind W Q p AtPairs es → AllQuietPairs W Q p (trees_of es)
  pair_items p Empty q = tt
  pair_items p (Then e es) q = (q.0, pair_items p es q.1)

  quiet_binding : (p : Principal) (e : Tree) → IsQuietPair W Q p e → (b : List ℕ × Tree) → binding_of e ≡ Some b → IsQuiet W Q p b.1
  quiet_binding p (ListAt (Then (LeafAt (Named k) at) (Then e Empty)) at') q b is = subst (λ (b : List ℕ × Tree). IsQuiet W Q p b.1) (same_pair (k, e) b is) q
    where
      same_pair : (a b : List ℕ × Tree) → Some a ≡ Some b → a ≡ b
      same_pair a b is = cc
  quiet_binding p e q b is = absurd cc

  quiet_bindings : (p : Principal) (es : List Tree) → AllQuietPairs W Q p es → (bs : List (List ℕ × Tree)) → bindings_of es ≡ Some bs → AllQuiet W Q p (map (λ (b : List ℕ × Tree). b.1) bs)
  quiet_bindings p [] q [] is = tt
  quiet_bindings p [] q (b ∷ bs) is = absurd cc
  quiet_bindings p (e ∷ es) q bs is = by (binding_of e) (bindings_of es) refl (quiet_bindings p es q.1) is
    where
      same_list : (a b : List (List ℕ × Tree)) → Some a ≡ Some b → a ≡ b
      same_list a b is = cc

      by : (o : Option (List ℕ × Tree)) (r : Option (List (List ℕ × Tree))) → binding_of e ≡ o → ((rest : List (List ℕ × Tree)) → r ≡ Some rest → AllQuiet W Q p (map (λ (b : List ℕ × Tree). b.1) rest)) → and_binding o r ≡ Some bs → AllQuiet W Q p (map (λ (b : List ℕ × Tree). b.1) bs)
      by (Some b) (Some rest) h k is = subst (λ bs. AllQuiet W Q p (map (λ (b : List ℕ × Tree). b.1) bs)) (same_list (b ∷ rest) bs is) (quiet_binding p e q.0 b h, k rest refl)
      by None r h k is = absurd cc
      by (Some b) None h k is = absurd cc

  pair_parts : (p : Principal) (ps : Pairs) → AreQuietPairs W Q p ps → AllQuiet W Q p (map (λ (b : List ℕ × Tree). b.1) (pairs_of ps))
  pair_parts p NoPair q = tt
  pair_parts p (Pair k e ps) q = (q.0, pair_parts p ps q.1)

  abbrev pub Takes : Take → Type 0
  Takes take = (F : Frame) (E : BoundValues) (e : Tree) → IsQuiet W Q F.contract e → (s : State) → Leaves s (take (scope W F E) e s)

  abbrev pub IsQuietCallee : Principal → Callee → Type 0
  IsQuietCallee p (OwnFunction f) = Q p f
  IsQuietCallee p (ByName row at) = Unit {0}

  abbrev pub Enters : Enter → Type 0
  Enters enter = (F : Frame) (E : BoundValues) (f : Callee) → IsQuietCallee F.contract f → (vs : List Val) (s : State) → Leaves s (enter (scope W F E) f vs s)

  -- ---- names and values

  leaves_standing : (name : CostName) (v : Val) (s : State) → Leaves s (standing name v s)
  unfolding standing
  leaves_standing name v s = leaves_charged _ _ (leaves_stop (Given v) s)

  leaves_literal : (o : Result Val ValueRefusal) (s : State) → Leaves s (literal o s)
  leaves_literal (Ok v) s = leaves_standing _ v s
  leaves_literal (Err refusal) s = leaves_stop _ s

  leaves_values : (n : Native) (cost : CostName) (vs : List Val) (s : State) → Leaves s (on_values n cost vs s)
  unfolding on_values
  leaves_values n cost vs s = leaves_charged _ _ (leaves_stop _ s)

  module _ (take : Take) (t : Takes take) where
    leaves_parts : (F : Frame) (E : BoundValues) (es : List Tree) → AllQuiet W Q F.contract es → (s : State) → Leaves s (parts take (scope W F E) es s)
    unfolding parts
    leaves_parts F E [] q s = leaves_stop _ s
    leaves_parts F E (e ∷ es) q s = leaves_then (t F E e q.0 s) (λ v u. leaves_then (leaves_parts F E es q.1 u) (λ vs w. leaves_stop _ w))

    leaves_last : (vs : List Val) (s : State) → Leaves s (last_of vs s)
    leaves_last [] s = leaves_stop _ s
    leaves_last (v ∷ []) s = leaves_stop _ s
    leaves_last (v ∷ w ∷ vs) s = leaves_last (w ∷ vs) s

    -- ---- control

    leaves_if : (F : Frame) (E : BoundValues) (es : List Tree) → AllQuiet W Q F.contract es → (s : State) → Leaves s (if_form take (scope W F E) es s)
    unfolding if_form
    leaves_if F E (b ∷ x ∷ y ∷ []) q s = leaves_charged _ _ (leaves_then (t F E b q.0 s) (λ v u. leaves_choice v (t F E x q.1.0) (t F E y q.1.1.0) u))
    leaves_if F E es q s = leaves_stop _ s

    leaves_begin : (F : Frame) (E : BoundValues) (es : List Tree) → AllQuiet W Q F.contract es → (s : State) → Leaves s (begin_form take (scope W F E) es s)
    unfolding begin_form
    leaves_begin F E es q s = leaves_charged _ _ (leaves_then (leaves_parts F E es q s) leaves_last)

    leaves_let_in : (body : List Tree) (F : Frame) (E : BoundValues) → AllQuiet W Q F.contract body → (bs : List Tree) → AllQuietPairs W Q F.contract bs → (s : State) → Leaves s (let_in take body (scope W F E) bs s)
    unfolding let_in
    leaves_let_in body F E q [] r s = leaves_then (leaves_parts F E body q s) leaves_last
    leaves_let_in body F E q (b ∷ bs) r s =
        leaves_known (binding_of b) (λ p u is. leaves_then (t F E p.1 (quiet_binding F.contract b r.0 p is) u) (λ v w. leaves_charged _ _ (leaves_let_in body F (E ++ (p.0, v) ∷ []) q bs r.1 w))) s

    leaves_and_on : (F : Frame) (E : BoundValues) (es : List Tree) → AllQuiet W Q F.contract es → (s : State) → Leaves s (and_on take (scope W F E) es s)
    unfolding and_on
    leaves_and_on F E [] q s = leaves_stop _ s
    leaves_and_on F E (e ∷ es) q s = leaves_then (t F E e q.0 s) (λ v u. leaves_choice v (leaves_and_on F E es q.1) (λ w. leaves_stop _ w) u)

    leaves_or_on : (F : Frame) (E : BoundValues) (es : List Tree) → AllQuiet W Q F.contract es → (s : State) → Leaves s (or_on take (scope W F E) es s)
    unfolding or_on
    leaves_or_on F E [] q s = leaves_stop _ s
    leaves_or_on F E (e ∷ es) q s = leaves_then (t F E e q.0 s) (λ v u. leaves_choice v (λ w. leaves_stop _ w) (leaves_or_on F E es q.1) u)

    leaves_and : (F : Frame) (E : BoundValues) (es : List Tree) → AllQuiet W Q F.contract es → (s : State) → Leaves s (and_form take (scope W F E) es s)
    unfolding and_form
    leaves_and F E [] q s = leaves_stop _ s
    leaves_and F E (e ∷ es) q s = leaves_charged _ _ (leaves_and_on F E (e ∷ es) q s)

    leaves_or : (F : Frame) (E : BoundValues) (es : List Tree) → AllQuiet W Q F.contract es → (s : State) → Leaves s (or_form take (scope W F E) es s)
    unfolding or_form
    leaves_or F E [] q s = leaves_stop _ s
    leaves_or F E (e ∷ es) q s = leaves_charged _ _ (leaves_or_on F E (e ∷ es) q s)

    leaves_throwing : (F : Frame) (E : BoundValues) (e : Tree) → IsQuiet W Q F.contract e → (s : State) → Leaves s (throwing take (scope W F E) e s)
    leaves_throwing F E e q s = leaves_then (t F E e q s) (λ v u. leaves_stop (Thrown v) u)

    leaves_asserts : (F : Frame) (E : BoundValues) (es : List Tree) → AllQuiet W Q F.contract es → (s : State) → Leaves s (asserts_form take (scope W F E) es s)
    unfolding asserts_form
    leaves_asserts F E (b ∷ x ∷ []) q s = leaves_charged _ _ (leaves_then (t F E b q.0 s) (λ v u. leaves_choice v (λ w. leaves_stop _ w) (leaves_throwing F E x q.1.0) u))
    leaves_asserts F E es q s = leaves_stop _ s

    leaves_wanted : (otherwise : State → Answer Val) → ((u : State) → Leaves u (otherwise u)) → (v : Val) (s : State) → Leaves s (wanted_part otherwise v s)
    leaves_wanted otherwise h (SomeV v) s = leaves_stop _ s
    leaves_wanted otherwise h NoneV s = h s
    leaves_wanted otherwise h (ResponseV true v) s = leaves_stop _ s
    leaves_wanted otherwise h (ResponseV false v) s = h s
    leaves_wanted otherwise h v s = leaves_stop _ s

    leaves_err : (otherwise : State → Answer Val) → ((u : State) → Leaves u (otherwise u)) → (v : Val) (s : State) → Leaves s (err_part otherwise v s)
    leaves_err otherwise h (ResponseV false v) s = leaves_stop _ s
    leaves_err otherwise h (ResponseV true v) s = h s
    leaves_err otherwise h v s = leaves_stop _ s

    leaves_unwrap : (F : Frame) (E : BoundValues) (es : List Tree) → AllQuiet W Q F.contract es → (s : State) → Leaves s (unwrap_form take (scope W F E) es s)
    unfolding unwrap_form
    leaves_unwrap F E (e ∷ x ∷ []) q s = leaves_charged _ _ (leaves_then (t F E e q.0 s) (leaves_wanted (throwing take (scope W F E) x) (leaves_throwing F E x q.1.0)))
    leaves_unwrap F E es q s = leaves_stop _ s

    leaves_unwrap_err : (F : Frame) (E : BoundValues) (es : List Tree) → AllQuiet W Q F.contract es → (s : State) → Leaves s (unwrap_err_form take (scope W F E) es s)
    unfolding unwrap_err_form
    leaves_unwrap_err F E (e ∷ x ∷ []) q s = leaves_charged _ _ (leaves_then (t F E e q.0 s) (leaves_err (throwing take (scope W F E) x) (leaves_throwing F E x q.1.0)))
    leaves_unwrap_err F E es q s = leaves_stop _ s

    leaves_tried : (v : Val) (s : State) → Leaves s (tried v s)
    leaves_tried (SomeV v) s = leaves_stop _ s
    leaves_tried NoneV s = leaves_stop _ s
    leaves_tried (ResponseV true v) s = leaves_stop _ s
    leaves_tried (ResponseV false v) s = leaves_stop _ s
    leaves_tried v s = leaves_stop _ s

    leaves_try : (F : Frame) (E : BoundValues) (es : List Tree) → AllQuiet W Q F.contract es → (s : State) → Leaves s (try_form take (scope W F E) es s)
    unfolding try_form
    leaves_try F E (e ∷ []) q s = leaves_charged _ _ (leaves_then (t F E e q.0 s) leaves_tried)
    leaves_try F E es q s = leaves_stop _ s

    leaves_with : (F : Frame) (E : BoundValues) (x : List ℕ) (v : Val) (e : Tree) → IsQuiet W Q F.contract e → (s : State) → Leaves s (taken_with take (scope W F E) x v e s)
    leaves_with F E x v e q s = leaves_charged _ _ (t F (E ++ (x, v) ∷ []) e q s)

    leaves_optional : (F : Frame) (E : BoundValues) (x : List ℕ) (a b : Tree) → IsQuiet W Q F.contract a → IsQuiet W Q F.contract b → (v : Val) (s : State) → Leaves s (match_optional take (scope W F E) x a b v s)
    leaves_optional F E x a b q r (SomeV v) s = leaves_with F E x v a q s
    leaves_optional F E x a b q r NoneV s = t F E b r s
    leaves_optional F E x a b q r v s = leaves_stop _ s

    leaves_response : (F : Frame) (E : BoundValues) (x : List ℕ) (a : Tree) (y : List ℕ) (b : Tree) → IsQuiet W Q F.contract a → IsQuiet W Q F.contract b → (v : Val) (s : State) → Leaves s (match_response take (scope W F E) x a y b v s)
    leaves_response F E x a y b q r (ResponseV true v) s = leaves_with F E x v a q s
    leaves_response F E x a y b q r (ResponseV false v) s = leaves_with F E y v b r s
    leaves_response F E x a y b q r v s = leaves_stop _ s

    leaves_match : (F : Frame) (E : BoundValues) (es : List Tree) → AllQuiet W Q F.contract es → (s : State) → Leaves s (match_form take (scope W F E) es s)
    unfolding match_form
    leaves_match F E (e ∷ LeafAt (Named x) at ∷ a ∷ b ∷ []) q s = leaves_charged _ _ (leaves_then (t F E e q.0 s) (leaves_optional F E x a b q.1.1.0 q.1.1.1.0))
    leaves_match F E (e ∷ LeafAt (Named x) at ∷ a ∷ LeafAt (Named y) at' ∷ b ∷ []) q s = leaves_charged _ _ (leaves_then (t F E e q.0 s) (leaves_response F E x a y b q.1.1.0 q.1.1.1.1.0))
    leaves_match F E es q s = leaves_stop _ s

    leaves_as_contract : (F : Frame) (E : BoundValues) (es : List Tree) → AllQuiet W Q F.contract es → (s : State) → Leaves s (as_contract_form take (scope W F E) es s)
    unfolding as_contract_form
    leaves_as_contract F E (e ∷ []) q s = leaves_charged _ _ (t (as_contract F) E e q.0 s)
    leaves_as_contract F E es q s = leaves_stop _ s

    -- ---- values

    leaves_strict : (n : Native) (cost : CostName) (F : Frame) (E : BoundValues) (es : List Tree) → AllQuiet W Q F.contract es → (s : State) → Leaves s (strict_form n cost take (scope W F E) es s)
    unfolding strict_form
    leaves_strict n cost F E es q s = leaves_then (leaves_parts F E es q s) (leaves_values n cost)

    leaves_tuple : (F : Frame) (E : BoundValues) (ps : List (List ℕ × Tree)) → AllQuiet W Q F.contract (map (λ (b : List ℕ × Tree). b.1) ps) → (s : State) → Leaves s (tuple_form take (scope W F E) ps s)
    unfolding tuple_form
    leaves_tuple F E [] q s = leaves_stop _ s
    leaves_tuple F E (p ∷ ps) q s = leaves_then (leaves_parts F E _ q s) (λ vs u. leaves_charged _ _ (leaves_stop _ u))

    leaves_get : (F : Frame) (E : BoundValues) (es : List Tree) → AllQuiet W Q F.contract es → (s : State) → Leaves s (get_form take (scope W F E) es s)
    unfolding get_form
    leaves_get F E (LeafAt (Named key) at ∷ e ∷ []) q s = leaves_then (t F E e q.1.0 s) (λ v u. leaves_charged _ _ (leaves_stop _ u))
    leaves_get F E es q s = leaves_stop _ s

    leaves_max_len : (F : Frame) (E : BoundValues) (es : List Tree) → AllQuiet W Q F.contract es → (s : State) → Leaves s (as_max_len_form take (scope W F E) es s)
    unfolding as_max_len_form
    leaves_max_len F E (e ∷ LeafAt (Unsigned most) at ∷ []) q s = leaves_then (t F E e q.0 s) (λ v u. leaves_charged _ _ (leaves_stop _ u))
    leaves_max_len F E es q s = leaves_stop _ s

    -- ---- data and tokens that are read, and events

    leaves_map_get : (F : Frame) (E : BoundValues) (es : List Tree) → AllQuiet W Q F.contract es → (s : State) → Leaves s (map_get_form take (scope W F E) es s)
    unfolding map_get_form
    leaves_map_get F E (LeafAt (Named m) at ∷ k ∷ []) q s = leaves_then (t F E k q.1.0 s) (λ key u. leaves_only _ (λ w. leaves_charged _ _ (leaves_stop _ w)) u)
      where
        leaves_only : (b : _) {go_on : State → Answer Val} → ((w : State) → Leaves w (go_on w)) → (u : State) → Leaves u (only_if b go_on u)
        leaves_only true h u = h u
        leaves_only false h u = leaves_stop _ u
    leaves_map_get F E es q s = leaves_stop _ s

    leaves_balance : (v : Val) (l : Ledger) (s : State) → Leaves s (balance_in v l s)
    leaves_balance (PrincipalV who) l s = leaves_stop _ s
    leaves_balance v l s = leaves_stop _ s

    leaves_ft_balance : (F : Frame) (E : BoundValues) (es : List Tree) → AllQuiet W Q F.contract es → (s : State) → Leaves s (ft_balance_form take (scope W F E) es s)
    unfolding ft_balance_form
    leaves_ft_balance F E (LeafAt (Named token) at ∷ e ∷ []) q s = leaves_then (t F E e q.1.0 s) (λ v u. leaves_charged _ _ (leaves_known (get (here (scope W F E) token) u.fungibles) (λ l w is. leaves_balance v l w) u))
    leaves_ft_balance F E es q s = leaves_stop _ s

    leaves_stx_balance : (F : Frame) (E : BoundValues) (es : List Tree) → AllQuiet W Q F.contract es → (s : State) → Leaves s (stx_balance_form take (scope W F E) es s)
    unfolding stx_balance_form
    leaves_stx_balance F E (e ∷ []) q s = leaves_then (t F E e q.0 s) (λ v u. leaves_charged _ _ (leaves_balance v u.stx u))
    leaves_stx_balance F E es q s = leaves_stop _ s

    leaves_nft_owner : (F : Frame) (E : BoundValues) (es : List Tree) → AllQuiet W Q F.contract es → (s : State) → Leaves s (nft_owner_form take (scope W F E) es s)
    unfolding nft_owner_form
    leaves_nft_owner F E (LeafAt (Named token) at ∷ e ∷ []) q s = leaves_then (t F E e q.1.0 s) (λ id u. leaves_charged _ _ (leaves_known (get (here (scope W F E) token) u.nonfungibles) (λ owners w is. leaves_known (owner_value (get (wire id) owners)) (λ v x is. leaves_stop (Given v) x) w) u))
    leaves_nft_owner F E es q s = leaves_stop _ s

    leaves_print : (F : Frame) (E : BoundValues) (es : List Tree) → AllQuiet W Q F.contract es → (s : State) → Leaves s (print_form take (scope W F E) es s)
    unfolding print_form
    leaves_print F E (e ∷ []) q s = leaves_then (t F E e q.0 s) (λ v u. leaves_charged _ _ (leaves_at (Given v) u _ (one_printed _ v u)))
    leaves_print F E es q s = leaves_stop _ s

  leaves_var_get : (F : Frame) (E : BoundValues) (es : List Tree) (s : State) → Leaves s (var_get_form (scope W F E) es s)
  unfolding var_get_form
  leaves_var_get F E (LeafAt (Named x) at ∷ []) s = leaves_known (get (here (scope W F E) x) s.variables) (λ v u is. leaves_charged ReadVar (size_of v) (leaves_stop (Given v) u)) s
  leaves_var_get F E es s = leaves_stop _ s

  leaves_ft_supply : (F : Frame) (E : BoundValues) (es : List Tree) (s : State) → Leaves s (ft_supply_form (scope W F E) es s)
  unfolding ft_supply_form
  leaves_ft_supply F E (LeafAt (Named token) at ∷ []) s = leaves_charged _ _ (leaves_known (get (here (scope W F E) token) s.fungibles) (λ l u is. leaves_stop (Given (UintV l.supply)) u) s)
  leaves_ft_supply F E es s = leaves_stop _ s

  module _ (take : Take) (t : Takes take) (enter : Enter) (n : Enters enter) where
    -- ---- what a name applies

    abbrev IsQuietChoice : Principal → Option Callee → Type 0
    IsQuietChoice p None = Unit {0}
    IsQuietChoice p (Some f) = IsQuietCallee p f

    own_quiet : (p : Principal) (o : Option Function) → IsQuietOne W Q p o → IsQuietChoice p (own o)
    own_quiet p None q = tt
    own_quiet p (Some f) q = q

    row_quiet : (p : Principal) (at : _) (row : Option Row) (o : Option Function) → IsQuietOne W Q p o → IsQuietChoice p (by_row at row o)
    row_quiet p at None o q = own_quiet p o q
    row_quiet p at (Some row) o q = by row.by_name
      where
        by : (b : _) → IsQuietChoice p (if b then Some (ByName row at) else None)
        by true = tt
        by false = tt

    choice_quiet : (p : Principal) (o : Option Callee) → IsQuietChoice p o → (f : Callee) → o ≡ Some f → IsQuietCallee p f
    choice_quiet p None q f is = absurd cc
    choice_quiet p (Some g) q f is = subst (IsQuietCallee p) (same_callee g f is) q
      where
        same_callee : (g f : Callee) → Some g ≡ Some f → g ≡ f
        same_callee g f is = cc

    leaves_each : (F : Frame) (E : BoundValues) (f : Callee) → IsQuietCallee F.contract f → (rows : List (List Val)) (s : State) → Leaves s (each enter (scope W F E) f rows s)
    unfolding each
    leaves_each F E f q [] s = leaves_stop _ s
    leaves_each F E f q (r ∷ rs) s = leaves_then (n F E f q r s) (λ v u. leaves_then (leaves_each F E f q rs u) (λ vs w. leaves_stop _ w))

    leaves_mapped : (F : Frame) (E : BoundValues) (vs : List Val) (f : Callee) → IsQuietCallee F.contract f → (s : State) → Leaves s (mapped enter (scope W F E) vs f s)
    leaves_mapped F E vs f q s = leaves_known (rows_of (all_entries vs)) (λ rs u is. leaves_then (leaves_each F E f q rs u) (λ ws w. leaves_stop _ w)) s

    leaves_map : (F : Frame) (E : BoundValues) (es : Forest) → IsQuietUse W Q F.contract es → AllQuiet W Q F.contract (trees_of es) → (s : State) → Leaves s (map_form take enter (scope W F E) (trees_of es) s)
    unfolding map_form
    leaves_map F E (Then (LeafAt (Named f) at) es) given q s =
        leaves_then (leaves_parts take t F E (trees_of es) q.1 s)
        (λ vs u. leaves_charged _ _ (leaves_known (callee_of (scope W F E) f at) (λ g w is. leaves_mapped F E vs g (choice_quiet F.contract _ (row_quiet F.contract at (native_of f (contract_at F.contract W)) _ given) g is) w) u))
    leaves_map F E es given q s = leaves_stop _ s

    leaves_sifted : (F : Frame) (E : BoundValues) (f : Callee) → IsQuietCallee F.contract f → (xs : List Val) (s : State) → Leaves s (sifted enter (scope W F E) f xs s)
    unfolding sifted
    leaves_sifted F E f q [] s = leaves_stop _ s
    leaves_sifted F E f q (x ∷ xs) s = leaves_then (n F E f q (x ∷ []) s) (λ v u. leaves_then (leaves_sifted F E f q xs u) (λ ys w. leaves_kept v x ys w))
      where
        leaves_kept : (v x : Val) (xs : List Val) (s : State) → Leaves s (kept_if v x xs s)
        leaves_kept (BoolV true) x xs s = leaves_stop _ s
        leaves_kept (BoolV false) x xs s = leaves_stop _ s
        leaves_kept v x xs s = leaves_stop _ s

    leaves_filtered : (F : Frame) (E : BoundValues) (v : Val) (f : Callee) → IsQuietCallee F.contract f → (s : State) → Leaves s (filtered enter (scope W F E) v f s)
    leaves_filtered F E v f q s = leaves_known (entries_of v) (λ xs u is. leaves_then (leaves_sifted F E f q xs u) (λ ys w. leaves_stop _ w)) s

    leaves_filter : (F : Frame) (E : BoundValues) (es : Forest) → IsQuietUse W Q F.contract es → AllQuiet W Q F.contract (trees_of es) → (s : State) → Leaves s (filter_form take enter (scope W F E) (trees_of es) s)
    unfolding filter_form
    leaves_filter F E (Then (LeafAt (Named f) at) (Then e Empty)) given q s =
        leaves_then (t F E e q.1.0 s)
        (λ v u. leaves_charged _ _ (leaves_known (callee_of (scope W F E) f at) (λ g w is. leaves_filtered F E v g (choice_quiet F.contract _ (row_quiet F.contract at (native_of f (contract_at F.contract W)) _ given) g is) w) u))
    leaves_filter F E es given q s = leaves_stop _ s

    leaves_folded : (F : Frame) (E : BoundValues) (f : Callee) → IsQuietCallee F.contract f → (xs : List Val) (result : Val) (s : State) → Leaves s (folded enter (scope W F E) f xs result s)
    unfolding folded
    leaves_folded F E f q [] result s = leaves_stop _ s
    leaves_folded F E f q (x ∷ xs) result s = leaves_then (n F E f q (x ∷ result ∷ []) s) (leaves_folded F E f q xs)

    leaves_fold : (F : Frame) (E : BoundValues) (es : Forest) → IsQuietUse W Q F.contract es → AllQuiet W Q F.contract (trees_of es) → (s : State) → Leaves s (fold_form take enter (scope W F E) (trees_of es) s)
    unfolding fold_form
    leaves_fold F E (Then (LeafAt (Named f) at) (Then e (Then i Empty))) given q s =
        leaves_then (t F E e q.1.0 s) (λ v u. leaves_then (t F E i q.1.1.0 u)
        (λ w x. leaves_charged _ _ (leaves_known (callee_of (scope W F E) f at) (λ g y is. leaves_known (entries_of v) (λ xs z same. leaves_folded F E g (choice_quiet F.contract _ (row_quiet F.contract at (native_of f (contract_at F.contract W)) _ given) g is) xs w z) y) x)))
    leaves_fold F E es given q s = leaves_stop _ s

    -- ---- calls

    leaves_call : (x : List ℕ) (F : Frame) (E : BoundValues) → IsQuietOne W Q F.contract (function_of x (contract_at F.contract W)) → (es : List Tree) → AllQuiet W Q F.contract es → (s : State) → Leaves s (call_form x take enter (scope W F E) es s)
    unfolding call_form
    leaves_call x F E one es q s =
        leaves_then (leaves_parts take t F E es q s)
        (λ vs u. leaves_known (function_of x (contract_at F.contract W)) (λ f w is. n F E (OwnFunction f) (quiet_one (function_of x (contract_at F.contract W)) one f is) vs w) u)
      where
        same_function : (g f : Function) → Some g ≡ Some f → g ≡ f
        same_function g f is = cc

        quiet_one : (o : Option Function) → IsQuietOne W Q F.contract o → (f : Function) → o ≡ Some f → Q F.contract f
        quiet_one None q f is = absurd cc
        quiet_one (Some g) q f is = subst (Q F.contract) (same_function g f is) q

    leaves_across : (F : Frame) (E : BoundValues) (es : Forest) → IsQuietAcross W Q F.contract es → AllQuiet W Q F.contract (trees_of es) → (s : State) → Leaves s (contract_call_form take enter (scope W F E) (trees_of es) s)
    unfolding contract_call_form
    leaves_across F E (Then e (Then (LeafAt (Named x) at) es)) across q s =
        leaves_then (leaves_parts take t F E (trees_of es) q.1.1 s)
        (λ vs u. leaves_known (option_and_then (other_contract (scope W F E)) (target_of (scope W F E) e))
        (λ c w is. leaves_charged _ _ (leaves_known (option_and_then callable (function_in x c.forms)) (λ f y same. n (called c.principal F) E (OwnFunction f) (across F E refl c is f same) vs y) w)) u)
    leaves_across F E es across q s = leaves_stop _ s

    -- ---- nodes

    leaves_keyword : (S : Scope) (o : Option Keyword) (other : State → Answer Val) (s : State) → Leaves s (other s) → Leaves s (keyword_or S o other s)
    leaves_keyword S (Some k) other s h = leaves_standing _ _ s
    leaves_keyword S None other s h = h

    leaves_name : (F : Frame) (E : BoundValues) (x : List ℕ) (s : State) → Leaves s (name_form (scope W F E) x s)
    unfolding name_form
    leaves_name F E x s = leaves_keyword (scope W F E) (keyword_of x) (known_form (scope W F E) x) s (leaves_known (option_or (value_of x E) (constant_of x (contract_at F.contract W))) (λ v u is. leaves_standing Lookup v u) s)

    leaves_leaf : (F : Frame) (E : BoundValues) (leaf : Leaf) (s : State) → Leaves s (leaf_form (scope W F E) leaf s)
    unfolding leaf_form
    leaves_leaf F E (Named x) s = leaves_name F E x s
    leaves_leaf F E (Signed z) s = leaves_standing _ _ s
    leaves_leaf F E (Unsigned m) s = leaves_standing _ _ s
    leaves_leaf F E (Bytes bytes) s = leaves_literal _ s
    leaves_leaf F E (Ascii bytes) s = leaves_literal _ s
    leaves_leaf F E (Unicode characters) s = leaves_literal _ s
    leaves_leaf F E (Standing p) s = leaves_standing _ _ s
    leaves_leaf F E (Local x) s = leaves_standing _ _ s

    leaves_let : (F : Frame) (E : BoundValues) (es : Forest) → AreQuietBehind W Q F.contract AtBindings es → (s : State) → Leaves s (let_form take (scope W F E) (trees_of es) s)
    unfolding let_form
    leaves_let F E (Then (ListAt bs at) body) q s = leaves_charged _ _ (leaves_let_in take t (trees_of body) F E (plain_items F.contract body q.1) (trees_of bs) (pair_items F.contract bs q.0) s)
    leaves_let F E es q s = leaves_stop _ s

    leaves_head : (head : Head) (cost : CostName) (F : Frame) (E : BoundValues) (es : Forest) → IsQuietHead W Q F.contract head es → AreQuietBehind W Q F.contract (way_of_head head) es → (s : State) → Leaves s (head_form head cost take enter (scope W F E) (trees_of es) s)
    unfolding head_form
    leaves_head (OnValues m) cost F E es h q s = leaves_strict take t m cost F E (trees_of es) (plain_items F.contract es q) s
    leaves_head (OnToken act) cost F E es h q s = absurd h
    leaves_head TupleOf cost F E es h q s = leaves_known (bindings_of (trees_of es)) (λ ps u is. leaves_tuple take t F E ps (quiet_bindings F.contract (trees_of es) (pair_items F.contract es q) ps is) u) s
    leaves_head AsMaxLen cost F E es h q s = leaves_max_len take t F E (trees_of es) (plain_items F.contract es q) s
    leaves_head Get cost F E es h q s = leaves_get take t F E (trees_of es) (plain_items F.contract es q) s
    leaves_head VarGet cost F E es h q s = leaves_var_get F E (trees_of es) s
    leaves_head VarSet cost F E es h q s = absurd h
    leaves_head MapGet cost F E es h q s = leaves_map_get take t F E (trees_of es) (plain_items F.contract es q) s
    leaves_head MapSet cost F E es h q s = absurd h
    leaves_head MapInsert cost F E es h q s = absurd h
    leaves_head MapDelete cost F E es h q s = absurd h
    leaves_head FtBalance cost F E es h q s = leaves_ft_balance take t F E (trees_of es) (plain_items F.contract es q) s
    leaves_head FtSupply cost F E es h q s = leaves_ft_supply F E (trees_of es) s
    leaves_head StxBalance cost F E es h q s = leaves_stx_balance take t F E (trees_of es) (plain_items F.contract es q) s
    leaves_head NftOwner cost F E es h q s = leaves_nft_owner take t F E (trees_of es) (plain_items F.contract es q) s
    leaves_head Print cost F E es h q s = leaves_print take t F E (trees_of es) (plain_items F.contract es q) s
    leaves_head If cost F E es h q s = leaves_if take t F E (trees_of es) (plain_items F.contract es q) s
    leaves_head Let cost F E es h q s = leaves_let F E es q s
    leaves_head Begin cost F E es h q s = leaves_begin take t F E (trees_of es) (plain_items F.contract es q) s
    leaves_head And cost F E es h q s = leaves_and take t F E (trees_of es) (plain_items F.contract es q) s
    leaves_head Or cost F E es h q s = leaves_or take t F E (trees_of es) (plain_items F.contract es q) s
    leaves_head Asserts cost F E es h q s = leaves_asserts take t F E (trees_of es) (plain_items F.contract es q) s
    leaves_head Unwrap cost F E es h q s = leaves_unwrap take t F E (trees_of es) (plain_items F.contract es q) s
    leaves_head UnwrapErr cost F E es h q s = leaves_unwrap_err take t F E (trees_of es) (plain_items F.contract es q) s
    leaves_head Try cost F E es h q s = leaves_try take t F E (trees_of es) (plain_items F.contract es q) s
    leaves_head Match cost F E es h q s = leaves_match take t F E (trees_of es) (plain_items F.contract es q) s
    leaves_head AsContract cost F E es h q s = leaves_as_contract take t F E (trees_of es) (plain_items F.contract es q) s
    leaves_head Map cost F E es h q s = leaves_map F E es h (plain_items F.contract es q) s
    leaves_head Filter cost F E es h q s = leaves_filter F E es h (plain_items F.contract es q) s
    leaves_head Fold cost F E es h q s = leaves_fold F E es h (plain_items F.contract es q) s
    leaves_head ContractCall cost F E es h q s = leaves_across F E es h (plain_items F.contract es q) s

    leaves_operator : (o : Option Row) (x : List ℕ) (F : Frame) (E : BoundValues) (es : Forest) → IsQuietCall W Q F.contract o x es → AreQuietBehind W Q F.contract (way_of o) es → (s : State) → Leaves s (operator o x take enter (scope W F E) (trees_of es) s)
    leaves_operator (Some row) x F E es h q s = leaves_head row.head row.cost F E es h q s
    leaves_operator None x F E es h q s = leaves_call x F E h (trees_of es) (plain_items F.contract es q) s

    leaves_node : (F : Frame) (E : BoundValues) (e : Tree) → IsQuiet W Q F.contract e → (s : State) → Leaves s (node take enter (scope W F E) e s)
    unfolding node
    leaves_node F E (LeafAt leaf at) q s = leaves_leaf F E leaf s
    leaves_node F E (TupleAt ps at) q s = leaves_tuple take t F E (pairs_of ps) (pair_parts F.contract ps q) s
    leaves_node F E (ListAt (Then (LeafAt (Named x) at') es) at) q s = leaves_operator (native_of x (contract_at F.contract W)) x F E es q.0 q.1 s
    leaves_node F E (ListAt es at) q s = leaves_stop _ s

  -- ---- applications

  -- where a public function answers err, the state is the one before it
  closed_case : (access : Access) (s : State) (o : Outcome Val) (t : State) (log : List Note) → IsUntouched s t → Leaves s (then_on o t log (closing access s))
  unfolding stop
  closed_case access s (Thrown v) t log h = record { untouched = h }
  closed_case access s (Aborted why) t log h = record { untouched = h }
  closed_case access s Wrong t log h = record { untouched = h }
  closed_case access s Deeper t log h = record { untouched = h }
  closed_case ReadOnly s (Given v) t log h = record { untouched = h }
  closed_case Private s (Given v) t log h = record { untouched = h }
  closed_case Public s (Given (ResponseV true v)) t log h = record { untouched = h }
  closed_case Public s (Given (ResponseV false v)) t log h = record { untouched = as_before s }
  closed_case Public s (Given v) t log h = record { untouched = h }

  leaves_closed : (access : Access) (s : State) (a : Answer Val) → Leaves s a → Leaves s (and_then a (closing access s))
  unfolding and_then
  leaves_closed access s a h = closed_case access s a.outcome a.state a.log h.untouched

  leaves_bound : (body : BoundValues → State → Answer Val) → ((E : BoundValues) (u : State) → Leaves u (body E u)) → (E : BoundValues) (ps : List (List ℕ × PlainType)) (vs : List Val) (s : State) → Leaves s (bound_to body E ps vs s)
  unfolding bound_to
  leaves_bound body h E [] [] s = h E s
  leaves_bound body h E (p ∷ ps) (v ∷ vs) s = leaves_charged _ _ (leaves_bound body h (E ++ (p.0, v) ∷ []) ps vs s)
  leaves_bound body h E [] (v ∷ vs) s = leaves_stop _ s
  leaves_bound body h E (p ∷ ps) [] s = leaves_stop _ s

  leaves_truth : (o : Option Bool) (s : State) → Leaves s (truth_value o s)
  leaves_truth None s = leaves_stop _ s
  leaves_truth (Some b) s = leaves_stop _ s

  leaves_by_name : (head : Head) (cost : CostName) (vs : List Val) (s : State) → Leaves s (native_form head cost vs s)
  unfolding native_form
  leaves_by_name (OnValues m) cost vs s = leaves_values m cost vs s
  leaves_by_name And cost vs s = leaves_charged _ _ (leaves_truth _ s)
  leaves_by_name Or cost vs s = leaves_charged _ _ (leaves_truth _ s)
  leaves_by_name head cost vs s = leaves_stop _ s

  -- what the bodies of quiet functions call is quiet
  abbrev pub IsClosed : Type 0
  IsClosed = (p : Principal) (f : Function) → Q p f → IsQuiet W Q p f.body

  module _ (bodies : IsClosed) where
    leaves_application : (take : Take) → Takes take → (F : Frame) (E : BoundValues) (f : Callee) → IsQuietCallee F.contract f → (vs : List Val) (s : State) → Leaves s (application take (scope W F E) f vs s)
    unfolding application function_form
    leaves_application take t F E (OwnFunction f) q vs s =
        leaves_charged _ _ (leaves_bound (body_in take (scope W F E) f) (λ B u. leaves_closed f.access u _ (leaves_returning (t F B f.body (bodies F.contract f q) u))) [] f.params vs s)
    leaves_application take t F E (ByName row at) q vs s = leaves_ending at (leaves_by_name row.head row.cost vs s)

    pub each_depth : (depth : ℕ) → Takes (means depth) × Enters (applied depth)
    each_depth zero = (
      λ F E e q s. subst (λ a. Leaves s a) (sym (means_zero (scope W F E) e s)) (leaves_stop _ s),
      λ F E f q vs s. subst (λ a. Leaves s a) (sym (applied_zero (scope W F E) f vs s)) (leaves_stop _ s),
    )
    each_depth (suc depth) =
        let below = each_depth depth in (
          λ F E e q s. subst (λ a. Leaves s a) (sym (means_step depth (scope W F E) e s)) (leaves_ending (span_of e) (leaves_node (means depth) below.0 (applied depth) below.1 F E e q s)),
          λ F E f q vs s. subst (λ a. Leaves s a) (sym (applied_step depth (scope W F E) f vs s)) (leaves_application (means depth) below.0 F E f q vs s),
        )
