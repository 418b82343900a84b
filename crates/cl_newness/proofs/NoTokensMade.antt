-- No evaluation makes a token: each form in turn, and evaluations to any depth.
use Rattle.std.proofs.Common.{ℕ, zero, suc, Bool, true, false, List, [], ◌∷◌, map, Option, Some, None, refl}
use Rattle.std.specs.Prelude.{option_and_then}
use Rattle.cl_types.specs.Types.{PlainType}
use Rattle.cl_types.specs.declared.sized.Access.{Access}
use Rattle.cl_types.specs.declared.sized.Access.TheVariants.{Public}
use Rattle.cl_shapes.specs.declared.name.CostName.{CostName}
use Rattle.cl_shapes.specs.declared.name.CostName.TheVariants.{Bind, ReadVar}
use Rattle.cl_sexpr.specs.Tree.{Tree, LeafAt, ListAt, TupleAt, Named, Unsigned, Then, span_of}
use Rattle.cl_values.specs.declared.native.Native.{Native}
use Rattle.cl_values.specs.Tree.{Tree as Val, UintV, BoolV, NoneV, SomeV, ResponseV, ListV, items_of}
use Rattle.cl_values.specs.Wire.{size_of, wire}
use Rattle.cl_values.specs.Computed.{Gives}
use Rattle.cl_values.specs.Sequences.{optional, entries_of, like}
use Rattle.cl_forms.specs.declared.head.Head.{Head}
use Rattle.cl_forms.specs.declared.head.Head.TheVariants as head
use Rattle.cl_forms.specs.declared.head.TokenNative.{TokenNative}
use Rattle.cl_forms.specs.declared.head.TokenNative.TheVariants.{SendStx, BurnStx}
use Rattle.cl_forms.specs.Heads.{Row}
use Rattle.cl_forms.specs.Shapes.{trees_of, binding_of, bindings_of, pairs_of, MatchParts, OptionalMatch, ResponseMatch, match_of}
use Rattle.cl_maps.specs.Maps.{get, put, without}
use Rattle.cl_events.specs.declared.event.EventKind.TheVariants.{Print}
use Rattle.cl_events.specs.State.{State, spot, with_variables, with_entries, with_event}
use Rattle.cl_meaning.specs.Answers.{Given, Wrong, Deeper, Answer, stop, give, charged, and_then, returning, with_known, outcome_of}
use Rattle.cl_meaning.specs.Deployed.{Contract, Deployed, Function, function_in, function_of, has_map, native_of}
use Rattle.cl_meaning.specs.Scope.{Frame, Scope, home, BoundValues, Take, Enter, Callee, OwnFunction, ByName, parts, binding, with_bound, in_frame, as_contract, called, taken_with}
use Rattle.cl_meaning.specs.Values.{on_values, strict_form, tuple_form, get_form, as_max_len_form}
use Rattle.cl_meaning.specs.Control.{throw, if_form, last_of, begin_form, let_in, let_form, and_on, or_on, and_form, or_form, throwing, asserts_form, wanted_part, err_part, unwrap_form, unwrap_err_form, tried, try_form, match_optional, match_response, match_taken, match_form, as_contract_form}
use Rattle.cl_meaning.specs.Data.{here, variable_set, found_at, entry_at, delete_entry, key_and_value, insert_entry, set_entry, write_form, var_get_form, var_set_form, map_get_form, map_set_form, map_insert_form, map_delete_form}
use Rattle.cl_meaning.specs.Tokens.{ft_balance_form, ft_supply_form, stx_balance_form, nft_owner_form, balance_in, owner_value, act_of, acts, act_form, named_act_form, token_form, print_form}
use Rattle.cl_meaning.specs.Sequences.{callee_of, rows_of, all_entries, each, mapped, map_form, kept_if, sifted, filtered, filter_form, folded, fold_of, fold_form}
use Rattle.cl_meaning.specs.Calls.{callable, target_of, other_contract, call_form, enter_there, contract_call_form, closing, bound_to, body_in, function_form, truth_value, native_form, application}
use Rattle.cl_meaning.specs.Meaning.{head_form, operator, node, means, applied}
use Rattle.cl_meaning.specs.Top.{top}
use Rattle.cl_newness.specs.Newness.{MakesNoTokens}
use Rattle.cl_newness.proofs.NoTokens.{Keeps, plain, keeps_stop, keeps_moved, keeps_charged, keeps_ending, keeps_returning, keeps_from, keeps_then, keeps_known, keeps_choice, keeps_last, keeps_leaf, keeps_only_if, keeps_pair, keeps_balance, keeps_acts}

abbrev KeepsTake : Take → Type 0
KeepsTake take = (S : Scope) (e : Tree) (s : State) → Keeps s (take S e s)

abbrev KeepsEnter : Enter → Type 0
KeepsEnter enter = (S : Scope) (f : Callee) (vs : List Val) (s : State) → Keeps s (enter S f vs s)

keeps_on_values : (n : Native) (cost : CostName) (vs : List Val) (s : State) → Keeps s (on_values n cost vs s)
unfolding on_values
keeps_on_values n cost vs s = keeps_charged cost _ _ s (keeps_stop _ s)

keeps_inserted : (S : Scope) (m : List ℕ) (key v : Val) (o : Option Val) (s : State) → Keeps s (insert_entry S m key v o s)
keeps_inserted S m key v (Some old) s = keeps_stop _ s
keeps_inserted S m key v None s = keeps_moved _ s _ (plain s (with_entries (put (spot S.frame.contract m key) v s.entries) s) refl refl)

keeps_kept : (v x : Val) (xs : List Val) (s : State) → Keeps s (kept_if v x xs s)
keeps_kept (BoolV true) x xs s = keeps_stop _ s
keeps_kept (BoolV false) x xs s = keeps_stop _ s
keeps_kept v x xs s = keeps_stop Wrong s

keeps_tried : (v : Val) (s : State) → Keeps s (tried v s)
keeps_tried (SomeV v) s = keeps_stop _ s
keeps_tried NoneV s = keeps_stop _ s
keeps_tried (ResponseV true v) s = keeps_stop _ s
keeps_tried (ResponseV false v) s = keeps_stop _ s
keeps_tried v s = keeps_stop Wrong s

keeps_wanted : (otherwise : State → Answer Val) (v : Val) (s : State) → Keeps s (otherwise s) → Keeps s (wanted_part otherwise v s)
keeps_wanted otherwise (SomeV v) s h = keeps_stop _ s
keeps_wanted otherwise NoneV s h = h
keeps_wanted otherwise (ResponseV true v) s h = keeps_stop _ s
keeps_wanted otherwise (ResponseV false v) s h = h
keeps_wanted otherwise v s h = keeps_stop Wrong s

keeps_err_part : (otherwise : State → Answer Val) (v : Val) (s : State) → Keeps s (otherwise s) → Keeps s (err_part otherwise v s)
keeps_err_part otherwise (ResponseV false v) s h = keeps_stop _ s
keeps_err_part otherwise (ResponseV true v) s h = h
keeps_err_part otherwise v s h = keeps_stop Wrong s

-- where a public function answers err, the state is the one before it
keeps_closing : (access : Access) (s : State) (v : Val) (t : State) → MakesNoTokens s t → Keeps s (closing access s v t)
keeps_closing Public s (ResponseV true v) t h = keeps_moved _ s t h
keeps_closing Public s (ResponseV false v) t h = keeps_stop _ s
keeps_closing Public s v t h = keeps_moved _ s t h
keeps_closing access s v t h = keeps_moved _ s t h

keeps_truth : (o : Option Bool) (s : State) → Keeps s (truth_value o s)
keeps_truth None s = keeps_stop Wrong s
keeps_truth (Some b) s = keeps_stop _ s

keeps_native : (h : Head) (cost : CostName) (vs : List Val) (s : State) → Keeps s (native_form h cost vs s)
unfolding native_form
keeps_native (head.OnValues n) cost vs s = keeps_on_values n cost vs s
keeps_native head.And cost vs s = keeps_charged _ _ _ s (keeps_truth _ s)
keeps_native head.Or cost vs s = keeps_charged _ _ _ s (keeps_truth _ s)
keeps_native h cost vs s = keeps_stop Wrong s

module _ (take : Take) (T : KeepsTake take) where
  keeps_parts : (S : Scope) (es : List Tree) (s : State) → Keeps s (parts take S es s)
  unfolding parts
  keeps_parts S [] s = keeps_stop _ s
  keeps_parts S (e ∷ es) s = keeps_then (take S e s) _ s (T S e s) (λ v t. keeps_then (parts take S es t) _ t (keeps_parts S es t) (λ vs u. keeps_stop (Given (v ∷ vs)) u))

  keeps_strict : (n : Native) (cost : CostName) (S : Scope) (es : List Tree) (s : State) → Keeps s (strict_form n cost take S es s)
  unfolding strict_form
  keeps_strict n cost S es s = keeps_then (parts take S es s) (on_values n cost) s (keeps_parts S es s) (λ vs t. keeps_on_values n cost vs t)

  keeps_tuple : (S : Scope) (ps : List (List ℕ × Tree)) (s : State) → Keeps s (tuple_form take S ps s)
  unfolding tuple_form
  keeps_tuple S [] s = keeps_stop Wrong s
  keeps_tuple S (p ∷ ps) s = keeps_then (parts take S (map (λ q. q.1) (p ∷ ps)) s) _ s (keeps_parts S (map (λ q. q.1) (p ∷ ps)) s) (λ vs t. keeps_charged _ _ _ t (keeps_stop _ t))

  keeps_get : (S : Scope) (es : List Tree) (s : State) → Keeps s (get_form take S es s)
  unfolding get_form
  keeps_get S (LeafAt (Named key) at ∷ e ∷ []) s = keeps_then (take S e s) _ s (T S e s) (λ v t. keeps_charged _ _ _ t (keeps_stop _ t))
  keeps_get S es s = keeps_stop Wrong s

  keeps_max_len : (S : Scope) (es : List Tree) (s : State) → Keeps s (as_max_len_form take S es s)
  unfolding as_max_len_form
  keeps_max_len S (e ∷ LeafAt (Unsigned most) at ∷ []) s = keeps_then (take S e s) _ s (T S e s) (λ v t. keeps_charged _ _ _ t (keeps_stop _ t))
  keeps_max_len S es s = keeps_stop Wrong s

  -- ---- control

  keeps_with : (S : Scope) (x : List ℕ) (v : Val) (e : Tree) (s : State) → Keeps s (taken_with take S x v e s)
  keeps_with S x v e s = keeps_charged _ _ _ s (T (binding x v S) e s)

  keeps_throwing : (S : Scope) (e : Tree) (s : State) → Keeps s (throwing take S e s)
  keeps_throwing S e s = keeps_then (take S e s) throw s (T S e s) (λ v t. keeps_stop _ t)

  keeps_if_form : (S : Scope) (es : List Tree) (s : State) → Keeps s (if_form take S es s)
  unfolding if_form
  keeps_if_form S (b ∷ x ∷ y ∷ []) s = keeps_charged _ _ _ s (keeps_then (take S b s) _ s (T S b s) (λ v t. keeps_choice v (take S x) (take S y) t (T S x t) (T S y t)))
  keeps_if_form S es s = keeps_stop Wrong s

  keeps_begin : (S : Scope) (es : List Tree) (s : State) → Keeps s (begin_form take S es s)
  unfolding begin_form
  keeps_begin S es s = keeps_charged _ _ _ s (keeps_then (parts take S es s) last_of s (keeps_parts S es s) (λ vs t. keeps_last vs t))

  keeps_let_in : (body : List Tree) (S : Scope) (bs : List Tree) (s : State) → Keeps s (let_in take body S bs s)
  unfolding let_in
  keeps_let_in body S [] s = keeps_then (parts take S body s) last_of s (keeps_parts S body s) (λ vs t. keeps_last vs t)
  keeps_let_in body S (b ∷ bs) s =
      keeps_known (binding_of b) (λ p t. and_then (take S p.1 t) (λ v u. charged Bind (size_of v) (let_in take body (binding p.0 v S) bs u))) s
      (λ (p : List ℕ × Tree). keeps_then (take S p.1 s) _ s (T S p.1 s) (λ v u. keeps_charged _ _ _ u (keeps_let_in body (binding p.0 v S) bs u)))

  keeps_let : (S : Scope) (es : List Tree) (s : State) → Keeps s (let_form take S es s)
  unfolding let_form
  keeps_let S (ListAt bindings at ∷ body) s = keeps_charged _ _ _ s (keeps_let_in body S (trees_of bindings) s)
  keeps_let S es s = keeps_stop Wrong s

  keeps_and_on : (S : Scope) (es : List Tree) (s : State) → Keeps s (and_on take S es s)
  unfolding and_on
  keeps_and_on S [] s = keeps_stop _ s
  keeps_and_on S (e ∷ es) s = keeps_then (take S e s) _ s (T S e s) (λ v t. keeps_choice v (and_on take S es) (give (BoolV false)) t (keeps_and_on S es t) (keeps_stop _ t))

  keeps_or_on : (S : Scope) (es : List Tree) (s : State) → Keeps s (or_on take S es s)
  unfolding or_on
  keeps_or_on S [] s = keeps_stop _ s
  keeps_or_on S (e ∷ es) s = keeps_then (take S e s) _ s (T S e s) (λ v t. keeps_choice v (give (BoolV true)) (or_on take S es) t (keeps_stop _ t) (keeps_or_on S es t))

  keeps_and : (S : Scope) (es : List Tree) (s : State) → Keeps s (and_form take S es s)
  unfolding and_form
  keeps_and S [] s = keeps_stop Wrong s
  keeps_and S (e ∷ es) s = keeps_charged _ _ _ s (keeps_and_on S (e ∷ es) s)

  keeps_or : (S : Scope) (es : List Tree) (s : State) → Keeps s (or_form take S es s)
  unfolding or_form
  keeps_or S [] s = keeps_stop Wrong s
  keeps_or S (e ∷ es) s = keeps_charged _ _ _ s (keeps_or_on S (e ∷ es) s)

  keeps_asserts : (S : Scope) (es : List Tree) (s : State) → Keeps s (asserts_form take S es s)
  unfolding asserts_form
  keeps_asserts S (b ∷ x ∷ []) s = keeps_charged _ _ _ s (keeps_then (take S b s) _ s (T S b s) (λ v t. keeps_choice v (give (BoolV true)) (throwing take S x) t (keeps_stop _ t) (keeps_throwing S x t)))
  keeps_asserts S es s = keeps_stop Wrong s

  keeps_unwrap : (S : Scope) (es : List Tree) (s : State) → Keeps s (unwrap_form take S es s)
  unfolding unwrap_form
  keeps_unwrap S (e ∷ x ∷ []) s = keeps_charged _ _ _ s (keeps_then (take S e s) (wanted_part (throwing take S x)) s (T S e s) (λ v t. keeps_wanted (throwing take S x) v t (keeps_throwing S x t)))
  keeps_unwrap S es s = keeps_stop Wrong s

  keeps_unwrap_err : (S : Scope) (es : List Tree) (s : State) → Keeps s (unwrap_err_form take S es s)
  unfolding unwrap_err_form
  keeps_unwrap_err S (e ∷ x ∷ []) s = keeps_charged _ _ _ s (keeps_then (take S e s) (err_part (throwing take S x)) s (T S e s) (λ v t. keeps_err_part (throwing take S x) v t (keeps_throwing S x t)))
  keeps_unwrap_err S es s = keeps_stop Wrong s

  keeps_try : (S : Scope) (es : List Tree) (s : State) → Keeps s (try_form take S es s)
  unfolding try_form
  keeps_try S (e ∷ []) s = keeps_charged _ _ _ s (keeps_then (take S e s) tried s (T S e s) (λ v t. keeps_tried v t))
  keeps_try S es s = keeps_stop Wrong s

  keeps_optional : (S : Scope) (x : List ℕ) (a b : Tree) (v : Val) (s : State) → Keeps s (match_optional take S x a b v s)
  keeps_optional S x a b (SomeV v) s = keeps_with S x v a s
  keeps_optional S x a b NoneV s = T S b s
  keeps_optional S x a b v s = keeps_stop Wrong s

  keeps_response : (S : Scope) (x : List ℕ) (a : Tree) (y : List ℕ) (b : Tree) (v : Val) (s : State) → Keeps s (match_response take S x a y b v s)
  keeps_response S x a y b (ResponseV true v) s = keeps_with S x v a s
  keeps_response S x a y b (ResponseV false v) s = keeps_with S y v b s
  keeps_response S x a y b v s = keeps_stop Wrong s

  keeps_branches : (S : Scope) (m : Option MatchParts) (s : State) → Keeps s (match_taken take S m s)
  keeps_branches S (Some (OptionalMatch e x a b)) s = keeps_charged _ _ _ s (keeps_then (take S e s) (match_optional take S x a b) s (T S e s) (λ v t. keeps_optional S x a b v t))
  keeps_branches S (Some (ResponseMatch e x a y b)) s = keeps_charged _ _ _ s (keeps_then (take S e s) (match_response take S x a y b) s (T S e s) (λ v t. keeps_response S x a y b v t))
  keeps_branches S None s = keeps_stop Wrong s

  keeps_match : (S : Scope) (es : List Tree) (s : State) → Keeps s (match_form take S es s)
  unfolding match_form
  keeps_match S es s = keeps_branches S (match_of es) s

  keeps_as_contract : (S : Scope) (es : List Tree) (s : State) → Keeps s (as_contract_form take S es s)
  unfolding as_contract_form
  keeps_as_contract S (e ∷ []) s = keeps_charged _ _ _ s (T (in_frame (as_contract S.frame) S) e s)
  keeps_as_contract S es s = keeps_stop Wrong s

  -- ---- variables, maps and tokens

  keeps_var_get : (S : Scope) (es : List Tree) (s : State) → Keeps s (var_get_form S es s)
  unfolding var_get_form
  keeps_var_get S (LeafAt (Named x) at ∷ []) s = keeps_known (get (here S x) s.variables) (λ v t. charged ReadVar (size_of v) (give v t)) s (λ v. keeps_charged _ _ _ s (keeps_stop _ s))
  keeps_var_get S es s = keeps_stop Wrong s

  keeps_var_set : (S : Scope) (es : List Tree) (s : State) → Keeps s (var_set_form take S es s)
  unfolding var_set_form
  keeps_var_set S (LeafAt (Named x) at ∷ e ∷ []) s =
      keeps_then (take S e s) _ s (T S e s) (λ v t. keeps_charged _ _ _ t (keeps_known (get (here S x) t.variables) (variable_set (here S x) v) t (λ old. keeps_moved _ t _ (plain t (with_variables (put (here S x) v t.variables) t) refl refl))))
  keeps_var_set S es s = keeps_stop Wrong s

  keeps_map_get : (S : Scope) (es : List Tree) (s : State) → Keeps s (map_get_form take S es s)
  unfolding map_get_form
  keeps_map_get S (LeafAt (Named m) at ∷ k ∷ []) s =
      keeps_then (take S k s) _ s (T S k s) (λ key t. keeps_only_if (has_map m (home S)) (λ u. found_at key (optional (entry_at S m key u)) u) t (keeps_charged _ _ _ t (keeps_stop _ t)))
  keeps_map_get S es s = keeps_stop Wrong s

  keeps_written : (act : Val → Val → State → Answer Val) (m : List ℕ) (S : Scope) (es : List Tree) (s : State) → ((key v : Val) (t : State) → Keeps t (act key v t)) → Keeps s (write_form act m take S es s)
  keeps_written act m S es s h =
      keeps_then (parts take S es s) _ s (keeps_parts S es s) (λ vs t. keeps_charged _ _ _ t (keeps_only_if (has_map m (home S)) (key_and_value act vs) t (keeps_pair act vs t (λ key v. h key v t))))

  keeps_map_set : (S : Scope) (es : List Tree) (s : State) → Keeps s (map_set_form take S es s)
  unfolding map_set_form
  keeps_map_set S (LeafAt (Named m) at ∷ es) s = keeps_written (set_entry S m) m S es s (λ key v t. keeps_moved _ t _ (plain t (with_entries (put (spot S.frame.contract m key) v t.entries) t) refl refl))
  keeps_map_set S es s = keeps_stop Wrong s

  keeps_map_insert : (S : Scope) (es : List Tree) (s : State) → Keeps s (map_insert_form take S es s)
  unfolding map_insert_form
  keeps_map_insert S (LeafAt (Named m) at ∷ es) s = keeps_written (λ key v t. insert_entry S m key v (entry_at S m key t) t) m S es s (λ key v t. keeps_inserted S m key v (entry_at S m key t) t)
  keeps_map_insert S es s = keeps_stop Wrong s

  keeps_map_delete : (S : Scope) (es : List Tree) (s : State) → Keeps s (map_delete_form take S es s)
  unfolding map_delete_form
  keeps_map_delete S (LeafAt (Named m) at ∷ k ∷ []) s =
      keeps_then (take S k s) _ s (T S k s) (λ key t. keeps_charged _ _ _ t (keeps_only_if (has_map m (home S)) (delete_entry S m key) t (keeps_moved _ t _ (plain t (with_entries (without (spot S.frame.contract m key) t.entries) t) refl refl))))
  keeps_map_delete S es s = keeps_stop Wrong s

  keeps_ft_balance : (S : Scope) (es : List Tree) (s : State) → Keeps s (ft_balance_form take S es s)
  unfolding ft_balance_form
  keeps_ft_balance S (LeafAt (Named x) at ∷ e ∷ []) s =
      keeps_then (take S e s) _ s (T S e s) (λ v t. keeps_charged _ _ _ t (keeps_known (get (here S x) t.fungibles) (balance_in v) t (λ l. keeps_balance v l t)))
  keeps_ft_balance S es s = keeps_stop Wrong s

  keeps_ft_supply : (S : Scope) (es : List Tree) (s : State) → Keeps s (ft_supply_form S es s)
  unfolding ft_supply_form
  keeps_ft_supply S (LeafAt (Named x) at ∷ []) s = keeps_charged _ _ _ s (keeps_known (get (here S x) s.fungibles) (λ l. give (UintV l.supply)) s (λ l. keeps_stop _ s))
  keeps_ft_supply S es s = keeps_stop Wrong s

  keeps_stx_balance : (S : Scope) (es : List Tree) (s : State) → Keeps s (stx_balance_form take S es s)
  unfolding stx_balance_form
  keeps_stx_balance S (e ∷ []) s = keeps_then (take S e s) _ s (T S e s) (λ v t. keeps_charged _ _ _ t (keeps_balance v t.stx t))
  keeps_stx_balance S es s = keeps_stop Wrong s

  keeps_nft_owner : (S : Scope) (es : List Tree) (s : State) → Keeps s (nft_owner_form take S es s)
  unfolding nft_owner_form
  keeps_nft_owner S (LeafAt (Named x) at ∷ e ∷ []) s =
      keeps_then (take S e s) _ s (T S e s) (λ id t. keeps_charged _ _ _ t (keeps_known (get (here S x) t.nonfungibles) (λ owners. with_known (owner_value (get (wire id) owners)) give) t (λ owners. keeps_known (owner_value (get (wire id) owners)) give t (λ v. keeps_stop _ t))))
  keeps_nft_owner S es s = keeps_stop Wrong s

  keeps_act : (n : TokenNative) (x : List ℕ) (S : Scope) (es : List Tree) (s : State) → Keeps s (act_form n x take S es s)
  keeps_act n x S es s =
      keeps_then (parts take S es s) _ s (keeps_parts S es s) (λ vs t. keeps_charged _ _ _ t (keeps_known (act_of n x vs) (acts S) t (λ kind. keeps_acts S kind t)))

  keeps_named_act : (n : TokenNative) (S : Scope) (es : List Tree) (s : State) → Keeps s (named_act_form n take S es s)
  keeps_named_act n S (LeafAt (Named x) at ∷ es) s = keeps_act n x S es s
  keeps_named_act n S es s = keeps_stop Wrong s

  keeps_token : (n : TokenNative) (S : Scope) (es : List Tree) (s : State) → Keeps s (token_form n take S es s)
  unfolding token_form
  keeps_token SendStx S es s = keeps_act SendStx [] S es s
  keeps_token BurnStx S es s = keeps_act BurnStx [] S es s
  keeps_token n S es s = keeps_named_act n S es s

  keeps_print : (S : Scope) (es : List Tree) (s : State) → Keeps s (print_form take S es s)
  unfolding print_form
  keeps_print S (e ∷ []) s = keeps_then (take S e s) _ s (T S e s) (λ v t. keeps_charged _ _ _ t (keeps_moved _ t _ (plain t (with_event S.frame.contract (Print v) t) refl refl)))
  keeps_print S es s = keeps_stop Wrong s

  -- ---- applications

  keeps_bound : (S : Scope) (f : Function) (bound : BoundValues) (params : List (List ℕ × PlainType)) (vs : List Val) (s : State) → Keeps s (bound_to (body_in take S f) bound params vs s)
  unfolding bound_to
  keeps_bound S f bound [] [] s =
      keeps_from (returning (take (with_bound bound S) f.body s)) (closing f.access s) s (keeps_returning _ s (T (with_bound bound S) f.body s))
      (λ v. keeps_closing f.access s v _ (keeps_returning (take (with_bound bound S) f.body s) s (T (with_bound bound S) f.body s)).left)
  keeps_bound S f bound (p ∷ ps) (v ∷ vs) s = keeps_charged _ _ _ s (keeps_bound S f _ ps vs s)
  keeps_bound S f bound [] (v ∷ vs) s = keeps_stop Wrong s
  keeps_bound S f bound (p ∷ ps) [] s = keeps_stop Wrong s

  keeps_application : (S : Scope) (f : Callee) (vs : List Val) (s : State) → Keeps s (application take S f vs s)
  unfolding application function_form
  keeps_application S (OwnFunction f) vs s = keeps_charged _ _ _ s (keeps_bound S f [] f.params vs s)
  keeps_application S (ByName row at) vs s = keeps_ending at _ s (keeps_native row.head row.cost vs s)

module _ (take : Take) (T : KeepsTake take) (enter : Enter) (E : KeepsEnter enter) where
  keeps_each : (S : Scope) (f : Callee) (rs : List (List Val)) (s : State) → Keeps s (each enter S f rs s)
  unfolding each
  keeps_each S f [] s = keeps_stop _ s
  keeps_each S f (r ∷ rs) s = keeps_then (enter S f r s) _ s (E S f r s) (λ v t. keeps_then (each enter S f rs t) _ t (keeps_each S f rs t) (λ vs u. keeps_stop _ u))

  keeps_map : (S : Scope) (es : List Tree) (s : State) → Keeps s (map_form take enter S es s)
  unfolding map_form
  keeps_map S (LeafAt (Named f) at ∷ es) s =
      keeps_then (parts take S es s) _ s (keeps_parts take T S es s) (λ vs t. keeps_charged _ _ _ t (keeps_known (callee_of S f at) (mapped enter S vs) t
      (λ g. keeps_known (rows_of (all_entries vs)) (λ rs u. and_then (each enter S g rs u) (λ ws. stop (outcome_of (Gives (ListV (items_of ws)))))) t (λ rs. keeps_then (each enter S g rs t) _ t (keeps_each S g rs t) (λ ws u. keeps_stop _ u)))))
  keeps_map S es s = keeps_stop Wrong s

  keeps_sifted : (S : Scope) (f : Callee) (xs : List Val) (s : State) → Keeps s (sifted enter S f xs s)
  unfolding sifted
  keeps_sifted S f [] s = keeps_stop _ s
  keeps_sifted S f (x ∷ xs) s = keeps_then (enter S f (x ∷ []) s) _ s (E S f (x ∷ []) s) (λ v t. keeps_then (sifted enter S f xs t) _ t (keeps_sifted S f xs t) (λ ys u. keeps_kept v x ys u))

  keeps_filter : (S : Scope) (es : List Tree) (s : State) → Keeps s (filter_form take enter S es s)
  unfolding filter_form
  keeps_filter S (LeafAt (Named f) at ∷ e ∷ []) s =
      keeps_then (take S e s) _ s (T S e s) (λ v t. keeps_charged _ _ _ t (keeps_known (callee_of S f at) (filtered enter S v) t
      (λ g. keeps_known (entries_of v) (λ xs u. and_then (sifted enter S g xs u) (λ ys. stop (outcome_of (Gives (like v ys))))) t (λ xs. keeps_then (sifted enter S g xs t) _ t (keeps_sifted S g xs t) (λ ys u. keeps_stop _ u)))))
  keeps_filter S es s = keeps_stop Wrong s

  keeps_folded : (S : Scope) (f : Callee) (xs : List Val) (result : Val) (s : State) → Keeps s (folded enter S f xs result s)
  unfolding folded
  keeps_folded S f [] result s = keeps_stop _ s
  keeps_folded S f (x ∷ xs) result s = keeps_then (enter S f (x ∷ result ∷ []) s) (folded enter S f xs) s (E S f (x ∷ result ∷ []) s) (λ v t. keeps_folded S f xs v t)

  keeps_fold : (S : Scope) (es : List Tree) (s : State) → Keeps s (fold_form take enter S es s)
  unfolding fold_form
  keeps_fold S (LeafAt (Named f) at ∷ e ∷ i ∷ []) s =
      keeps_then (take S e s) _ s (T S e s) (λ v t. keeps_then (take S i t) _ t (T S i t) (λ w u. keeps_charged _ _ _ u (keeps_known (callee_of S f at) (fold_of enter S v w) u
      (λ g. keeps_known (entries_of v) (λ xs. folded enter S g xs w) u (λ xs. keeps_folded S g xs w u)))))
  keeps_fold S es s = keeps_stop Wrong s

  keeps_call : (x : List ℕ) (S : Scope) (es : List Tree) (s : State) → Keeps s (call_form x take enter S es s)
  unfolding call_form
  keeps_call x S es s = keeps_then (parts take S es s) _ s (keeps_parts take T S es s) (λ vs t. keeps_known (function_of x (home S)) (λ f. enter S (OwnFunction f) vs) t (λ f. E S (OwnFunction f) vs t))

  keeps_there : (S : Scope) (x : List ℕ) (vs : List Val) (c : Contract) (s : State) → Keeps s (enter_there enter S x vs c s)
  keeps_there S x vs c s = keeps_charged _ _ _ s (keeps_known (option_and_then callable (function_in x c.forms)) (λ f. enter (in_frame (called c.principal S.frame) S) (OwnFunction f) vs) s (λ f. E (in_frame (called c.principal S.frame) S) (OwnFunction f) vs s))

  keeps_contract_call : (S : Scope) (es : List Tree) (s : State) → Keeps s (contract_call_form take enter S es s)
  unfolding contract_call_form
  keeps_contract_call S (c ∷ LeafAt (Named x) at ∷ es) s = keeps_then (parts take S es s) _ s (keeps_parts take T S es s) (λ vs t. keeps_known (option_and_then (other_contract S) (target_of S c)) (enter_there enter S x vs) t (λ k. keeps_there S x vs k t))
  keeps_contract_call S es s = keeps_stop Wrong s

  keeps_head : (h : Head) (cost : CostName) (S : Scope) (es : List Tree) (s : State) → Keeps s (head_form h cost take enter S es s)
  unfolding head_form
  keeps_head (head.OnValues n) cost S es s = keeps_strict take T n cost S es s
  keeps_head (head.OnToken n) cost S es s = keeps_token take T n S es s
  keeps_head head.TupleOf cost S es s = keeps_known (bindings_of es) (tuple_form take S) s (λ ps. keeps_tuple take T S ps s)
  keeps_head head.AsMaxLen cost S es s = keeps_max_len take T S es s
  keeps_head head.Get cost S es s = keeps_get take T S es s
  keeps_head head.VarGet cost S es s = keeps_var_get take T S es s
  keeps_head head.VarSet cost S es s = keeps_var_set take T S es s
  keeps_head head.MapGet cost S es s = keeps_map_get take T S es s
  keeps_head head.MapSet cost S es s = keeps_map_set take T S es s
  keeps_head head.MapInsert cost S es s = keeps_map_insert take T S es s
  keeps_head head.MapDelete cost S es s = keeps_map_delete take T S es s
  keeps_head head.FtBalance cost S es s = keeps_ft_balance take T S es s
  keeps_head head.FtSupply cost S es s = keeps_ft_supply take T S es s
  keeps_head head.StxBalance cost S es s = keeps_stx_balance take T S es s
  keeps_head head.NftOwner cost S es s = keeps_nft_owner take T S es s
  keeps_head head.Print cost S es s = keeps_print take T S es s
  keeps_head head.If cost S es s = keeps_if_form take T S es s
  keeps_head head.Let cost S es s = keeps_let take T S es s
  keeps_head head.Begin cost S es s = keeps_begin take T S es s
  keeps_head head.And cost S es s = keeps_and take T S es s
  keeps_head head.Or cost S es s = keeps_or take T S es s
  keeps_head head.Asserts cost S es s = keeps_asserts take T S es s
  keeps_head head.Unwrap cost S es s = keeps_unwrap take T S es s
  keeps_head head.UnwrapErr cost S es s = keeps_unwrap_err take T S es s
  keeps_head head.Try cost S es s = keeps_try take T S es s
  keeps_head head.Match cost S es s = keeps_match take T S es s
  keeps_head head.AsContract cost S es s = keeps_as_contract take T S es s
  keeps_head head.Map cost S es s = keeps_map S es s
  keeps_head head.Filter cost S es s = keeps_filter S es s
  keeps_head head.Fold cost S es s = keeps_fold S es s
  keeps_head head.ContractCall cost S es s = keeps_contract_call S es s

  keeps_operator : (o : Option Row) (x : List ℕ) (S : Scope) (es : List Tree) (s : State) → Keeps s (operator o x take enter S es s)
  keeps_operator (Some row) x S es s = keeps_head row.head row.cost S es s
  keeps_operator None x S es s = keeps_call x S es s

  keeps_node : (S : Scope) (e : Tree) (s : State) → Keeps s (node take enter S e s)
  unfolding node
  keeps_node S (LeafAt leaf at) s = keeps_leaf S leaf s
  keeps_node S (TupleAt ps at) s = keeps_tuple take T S (pairs_of ps) s
  keeps_node S (ListAt (Then (LeafAt (Named x) at') es) at) s = keeps_operator (native_of x (home S)) x S (trees_of es) s
  keeps_node S e s = keeps_stop Wrong s

mutual
  unfolding means applied

  keeps_means : (depth : ℕ) → KeepsTake (means depth)
  keeps_means zero S e s = keeps_stop Deeper s
  keeps_means (suc depth) S e s = keeps_ending (span_of e) _ s (keeps_node (means depth) (keeps_means depth) (applied depth) (keeps_applied depth) S e s)

  keeps_applied : (depth : ℕ) → KeepsEnter (applied depth)
  keeps_applied zero S f vs s = keeps_stop Deeper s
  keeps_applied (suc depth) S f vs s = keeps_application (means depth) (keeps_means depth) S f vs s

-- an evaluation at the top of a contract makes no token
pub top_makes_none : (W : Deployed) (F : Frame) (c : Contract) (e : Tree) (s : State) → MakesNoTokens s (top W F c e s).state
unfolding top
top_makes_none W F c e s = (keeps_means 256 (record { deployed = c ∷ W; frame = F; bound = [] }) e s).left
