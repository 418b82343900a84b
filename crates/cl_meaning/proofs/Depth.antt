-- A meaning that isn't Deeper is the same one level further down.
use Rattle.std.proofs.Common.{◌≡◌, ℕ, zero, suc, ◌+◌, List, [], ◌∷◌, ◌++◌, true, false, Option, Some, None, ap, sym, ◌∙◌, arith}
use Rattle.cl_types.specs.Types.{PlainType}
use Rattle.cl_shapes.specs.declared.name.CostName.{CostName}
use Rattle.cl_sexpr.specs.Tree.{Tree, LeafAt, ListAt, TupleAt, Named, Unsigned, Then, span_of}
use Rattle.cl_values.specs.declared.native.Native.{Native}
use Rattle.cl_values.specs.Tree.{Tree as Val, IntV, UintV, BoolV, BuffV, AsciiV, Utf8V, PrincipalV, ListV, TupleV, NoneV, SomeV, ResponseV}
use Rattle.cl_values.specs.Sequences.{entries_of}
use Rattle.cl_forms.specs.declared.head.TokenNative.{TokenNative}
use Rattle.cl_forms.specs.declared.head.TokenNative.TheVariants.{MintFt, BurnFt, SendFt, MintNft, BurnNft, SendNft, SendStx, BurnStx}
use Rattle.cl_forms.specs.declared.head.Head.{Head}
use Rattle.cl_forms.specs.declared.head.Head.TheVariants.{OnValues, OnToken, TupleOf, AsMaxLen, Get, VarGet, VarSet, MapGet, MapSet, MapInsert, MapDelete, FtBalance, FtSupply, StxBalance, NftOwner, Print, If, Let, Begin, And, Or, Asserts, Unwrap, UnwrapErr, Try, Match, AsContract, Map, Filter, Fold, ContractCall}
use Rattle.cl_forms.specs.Heads.{Row}
use Rattle.cl_forms.specs.Shapes.{trees_of, binding_of, bindings_of, pairs_of, MatchParts, OptionalMatch, ResponseMatch, match_of}
use Rattle.cl_events.specs.State.{State}
use Rattle.cl_meaning.specs.Answers.{Answer, Deeper}
use Rattle.cl_meaning.specs.Deployed.{Function, native_of}
use Rattle.cl_meaning.specs.Scope.{Scope, home, BoundValues, Callee, OwnFunction, ByName, Take, Enter, parts, binding, taken_with}
use Rattle.cl_meaning.specs.Control.{if_form, begin_form, let_in, let_form, and_on, or_on, and_form, or_form, throwing, asserts_form, wanted_part, err_part, unwrap_form, unwrap_err_form, try_form, match_optional, match_response, match_form, as_contract_form, match_taken}
use Rattle.cl_meaning.specs.Values.{strict_form, tuple_form, get_form, as_max_len_form}
use Rattle.cl_meaning.specs.Data.{var_set_form, map_get_form, map_set_form, map_insert_form, map_delete_form}
use Rattle.cl_meaning.specs.Tokens.{ft_balance_form, stx_balance_form, nft_owner_form, act_form, named_act_form, token_form, print_form}
use Rattle.cl_meaning.specs.Sequences.{callee_of, all_entries, rows_of, each, mapped, map_form, sifted, filtered, filter_form, folded, fold_of, fold_form}
use Rattle.cl_meaning.specs.Calls.{call_form, contract_call_form, bound_to, function_form, application}
use Rattle.cl_meaning.specs.Meaning.{head_form, operator, node, means, applied}
use Rattle.cl_meaning.proofs.Below.{Below, below_same, below_deeper, below_charged, below_ending, below_returning, below_then, below_known, below_choice}

abbrev TakesBelow : Take → Take → Type 0
TakesBelow take deep = (S : Scope) (e : Tree) (s : State) → Below (take S e s) (deep S e s)

abbrev EntersBelow : Enter → Enter → Type 0
EntersBelow enter deep = (S : Scope) (f : Callee) (vs : List Val) (s : State) → Below (enter S f vs s) (deep S f vs s)

module _ (take deep : Take) (t : TakesBelow take deep) where
  parts_below : (S : Scope) (es : List Tree) (s : State) → Below (parts take S es s) (parts deep S es s)
  unfolding parts
  parts_below S [] s = below_same _
  parts_below S (e ∷ es) s = below_then (t S e s) (λ v u. below_then (parts_below S es u) (λ vs w. below_same _))

  -- ---- control

  if_below : (S : Scope) (es : List Tree) (s : State) → Below (if_form take S es s) (if_form deep S es s)
  unfolding if_form
  if_below S (b ∷ x ∷ y ∷ []) s = below_charged _ _ (below_then (t S b s) (λ v u. below_choice v (t S x) (t S y) u))
  if_below S [] s = below_same _
  if_below S (b ∷ []) s = below_same _
  if_below S (b ∷ x ∷ []) s = below_same _
  if_below S (b ∷ x ∷ y ∷ z ∷ es) s = below_same _

  begin_below : (S : Scope) (es : List Tree) (s : State) → Below (begin_form take S es s) (begin_form deep S es s)
  unfolding begin_form
  begin_below S es s = below_charged _ _ (below_then (parts_below S es s) (λ vs u. below_same _))

  let_in_below : (body : List Tree) (S : Scope) (bs : List Tree) (s : State) → Below (let_in take body S bs s) (let_in deep body S bs s)
  unfolding let_in
  let_in_below body S [] s = below_then (parts_below S body s) (λ vs u. below_same _)
  let_in_below body S (b ∷ bs) s =
      below_known (binding_of b) (λ p u. below_then (t S p.1 u) (λ v w. below_charged _ _ (let_in_below body (binding p.0 v S) bs w))) s

  let_below : (S : Scope) (es : List Tree) (s : State) → Below (let_form take S es s) (let_form deep S es s)
  unfolding let_form
  let_below S [] s = below_same _
  let_below S (LeafAt leaf at ∷ es) s = below_same _
  let_below S (TupleAt ps at ∷ es) s = below_same _
  let_below S (ListAt bs at ∷ es) s = below_charged _ _ (let_in_below es S (trees_of bs) s)

  and_on_below : (S : Scope) (es : List Tree) (s : State) → Below (and_on take S es s) (and_on deep S es s)
  unfolding and_on
  and_on_below S [] s = below_same _
  and_on_below S (e ∷ es) s = below_then (t S e s) (λ v u. below_choice v (and_on_below S es) (λ w. below_same _) u)

  or_on_below : (S : Scope) (es : List Tree) (s : State) → Below (or_on take S es s) (or_on deep S es s)
  unfolding or_on
  or_on_below S [] s = below_same _
  or_on_below S (e ∷ es) s = below_then (t S e s) (λ v u. below_choice v (λ w. below_same _) (or_on_below S es) u)

  and_below : (S : Scope) (es : List Tree) (s : State) → Below (and_form take S es s) (and_form deep S es s)
  unfolding and_form
  and_below S [] s = below_same _
  and_below S (e ∷ es) s = below_charged _ _ (and_on_below S (e ∷ es) s)

  or_below : (S : Scope) (es : List Tree) (s : State) → Below (or_form take S es s) (or_form deep S es s)
  unfolding or_form
  or_below S [] s = below_same _
  or_below S (e ∷ es) s = below_charged _ _ (or_on_below S (e ∷ es) s)

  throwing_below : (S : Scope) (e : Tree) (s : State) → Below (throwing take S e s) (throwing deep S e s)
  throwing_below S e s = below_then (t S e s) (λ v u. below_same _)

  asserts_below : (S : Scope) (es : List Tree) (s : State) → Below (asserts_form take S es s) (asserts_form deep S es s)
  unfolding asserts_form
  asserts_below S (b ∷ x ∷ []) s = below_charged _ _ (below_then (t S b s) (λ v u. below_choice v (λ w. below_same _) (throwing_below S x) u))
  asserts_below S [] s = below_same _
  asserts_below S (b ∷ []) s = below_same _
  asserts_below S (b ∷ x ∷ y ∷ es) s = below_same _

  wanted_below : (S : Scope) (x : Tree) (v : Val) (s : State) → Below (wanted_part (throwing take S x) v s) (wanted_part (throwing deep S x) v s)
  wanted_below S x (SomeV v) s = below_same _
  wanted_below S x NoneV s = throwing_below S x s
  wanted_below S x (ResponseV true v) s = below_same _
  wanted_below S x (ResponseV false v) s = throwing_below S x s
  wanted_below S x (IntV z) s = below_same _
  wanted_below S x (UintV n) s = below_same _
  wanted_below S x (BoolV b) s = below_same _
  wanted_below S x (BuffV bs) s = below_same _
  wanted_below S x (AsciiV bs) s = below_same _
  wanted_below S x (Utf8V cs) s = below_same _
  wanted_below S x (PrincipalV p) s = below_same _
  wanted_below S x (ListV vs) s = below_same _
  wanted_below S x (TupleV es) s = below_same _

  err_below : (S : Scope) (x : Tree) (v : Val) (s : State) → Below (err_part (throwing take S x) v s) (err_part (throwing deep S x) v s)
  err_below S x (ResponseV true v) s = throwing_below S x s
  err_below S x (ResponseV false v) s = below_same _
  err_below S x (SomeV v) s = below_same _
  err_below S x NoneV s = below_same _
  err_below S x (IntV z) s = below_same _
  err_below S x (UintV n) s = below_same _
  err_below S x (BoolV b) s = below_same _
  err_below S x (BuffV bs) s = below_same _
  err_below S x (AsciiV bs) s = below_same _
  err_below S x (Utf8V cs) s = below_same _
  err_below S x (PrincipalV p) s = below_same _
  err_below S x (ListV vs) s = below_same _
  err_below S x (TupleV es) s = below_same _

  unwrap_below : (S : Scope) (es : List Tree) (s : State) → Below (unwrap_form take S es s) (unwrap_form deep S es s)
  unfolding unwrap_form
  unwrap_below S (e ∷ x ∷ []) s = below_charged _ _ (below_then (t S e s) (wanted_below S x))
  unwrap_below S [] s = below_same _
  unwrap_below S (e ∷ []) s = below_same _
  unwrap_below S (e ∷ x ∷ y ∷ es) s = below_same _

  unwrap_err_below : (S : Scope) (es : List Tree) (s : State) → Below (unwrap_err_form take S es s) (unwrap_err_form deep S es s)
  unfolding unwrap_err_form
  unwrap_err_below S (e ∷ x ∷ []) s = below_charged _ _ (below_then (t S e s) (err_below S x))
  unwrap_err_below S [] s = below_same _
  unwrap_err_below S (e ∷ []) s = below_same _
  unwrap_err_below S (e ∷ x ∷ y ∷ es) s = below_same _

  try_below : (S : Scope) (es : List Tree) (s : State) → Below (try_form take S es s) (try_form deep S es s)
  unfolding try_form
  try_below S (e ∷ []) s = below_charged _ _ (below_then (t S e s) (λ v u. below_same _))
  try_below S [] s = below_same _
  try_below S (e ∷ x ∷ es) s = below_same _

  with_below : (S : Scope) (x : List ℕ) (v : Val) (e : Tree) (s : State) → Below (taken_with take S x v e s) (taken_with deep S x v e s)
  with_below S x v e s = below_charged _ _ (t (binding x v S) e s)

  optional_below : (S : Scope) (x : List ℕ) (a b : Tree) (v : Val) (s : State) → Below (match_optional take S x a b v s) (match_optional deep S x a b v s)
  optional_below S x a b (SomeV v) s = with_below S x v a s
  optional_below S x a b NoneV s = t S b s
  optional_below S x a b (ResponseV good v) s = below_same _
  optional_below S x a b (IntV z) s = below_same _
  optional_below S x a b (UintV n) s = below_same _
  optional_below S x a b (BoolV c) s = below_same _
  optional_below S x a b (BuffV bs) s = below_same _
  optional_below S x a b (AsciiV bs) s = below_same _
  optional_below S x a b (Utf8V cs) s = below_same _
  optional_below S x a b (PrincipalV p) s = below_same _
  optional_below S x a b (ListV vs) s = below_same _
  optional_below S x a b (TupleV es) s = below_same _

  response_below : (S : Scope) (x : List ℕ) (a : Tree) (y : List ℕ) (b : Tree) (v : Val) (s : State) → Below (match_response take S x a y b v s) (match_response deep S x a y b v s)
  response_below S x a y b (ResponseV true v) s = with_below S x v a s
  response_below S x a y b (ResponseV false v) s = with_below S y v b s
  response_below S x a y b (SomeV v) s = below_same _
  response_below S x a y b NoneV s = below_same _
  response_below S x a y b (IntV z) s = below_same _
  response_below S x a y b (UintV n) s = below_same _
  response_below S x a y b (BoolV c) s = below_same _
  response_below S x a y b (BuffV bs) s = below_same _
  response_below S x a y b (AsciiV bs) s = below_same _
  response_below S x a y b (Utf8V cs) s = below_same _
  response_below S x a y b (PrincipalV p) s = below_same _
  response_below S x a y b (ListV vs) s = below_same _
  response_below S x a y b (TupleV es) s = below_same _

  branches_below : (S : Scope) (m : Option MatchParts) (s : State) → Below (match_taken take S m s) (match_taken deep S m s)
  branches_below S (Some (OptionalMatch e x a b)) s = below_charged _ _ (below_then (t S e s) (optional_below S x a b))
  branches_below S (Some (ResponseMatch e x a y b)) s = below_charged _ _ (below_then (t S e s) (response_below S x a y b))
  branches_below S None s = below_same _

  match_below : (S : Scope) (es : List Tree) (s : State) → Below (match_form take S es s) (match_form deep S es s)
  unfolding match_form
  match_below S es s = branches_below S (match_of es) s

  as_contract_below : (S : Scope) (es : List Tree) (s : State) → Below (as_contract_form take S es s) (as_contract_form deep S es s)
  unfolding as_contract_form
  as_contract_below S (e ∷ []) s = below_charged _ _ (t _ e s)
  as_contract_below S [] s = below_same _
  as_contract_below S (e ∷ x ∷ es) s = below_same _

  -- ---- values

  strict_below : (n : Native) (cost : CostName) (S : Scope) (es : List Tree) (s : State) → Below (strict_form n cost take S es s) (strict_form n cost deep S es s)
  unfolding strict_form
  strict_below n cost S es s = below_then (parts_below S es s) (λ vs u. below_same _)

  tuple_below : (S : Scope) (ps : List (List ℕ × Tree)) (s : State) → Below (tuple_form take S ps s) (tuple_form deep S ps s)
  unfolding tuple_form
  tuple_below S [] s = below_same _
  tuple_below S (p ∷ ps) s = below_then (parts_below S _ s) (λ vs u. below_same _)

  get_below : (S : Scope) (es : List Tree) (s : State) → Below (get_form take S es s) (get_form deep S es s)
  unfolding get_form
  get_below S (LeafAt (Named key) at ∷ e ∷ []) s = below_then (t S e s) (λ v u. below_same _)
  get_below S es s = below_same _

  as_max_len_below : (S : Scope) (es : List Tree) (s : State) → Below (as_max_len_form take S es s) (as_max_len_form deep S es s)
  unfolding as_max_len_form
  as_max_len_below S (e ∷ LeafAt (Unsigned most) at ∷ []) s = below_then (t S e s) (λ v u. below_same _)
  as_max_len_below S es s = below_same _

  -- ---- data and tokens

  var_set_below : (S : Scope) (es : List Tree) (s : State) → Below (var_set_form take S es s) (var_set_form deep S es s)
  unfolding var_set_form
  var_set_below S (LeafAt (Named x) at ∷ e ∷ []) s = below_then (t S e s) (λ v u. below_same _)
  var_set_below S es s = below_same _

  map_get_below : (S : Scope) (es : List Tree) (s : State) → Below (map_get_form take S es s) (map_get_form deep S es s)
  unfolding map_get_form
  map_get_below S (LeafAt (Named m) at ∷ k ∷ []) s = below_then (t S k s) (λ v u. below_same _)
  map_get_below S es s = below_same _

  map_set_below : (S : Scope) (es : List Tree) (s : State) → Below (map_set_form take S es s) (map_set_form deep S es s)
  unfolding map_set_form
  map_set_below S (LeafAt (Named m) at ∷ es) s = below_then (parts_below S es s) (λ vs u. below_same _)
  map_set_below S es s = below_same _

  map_insert_below : (S : Scope) (es : List Tree) (s : State) → Below (map_insert_form take S es s) (map_insert_form deep S es s)
  unfolding map_insert_form
  map_insert_below S (LeafAt (Named m) at ∷ es) s = below_then (parts_below S es s) (λ vs u. below_same _)
  map_insert_below S es s = below_same _

  map_delete_below : (S : Scope) (es : List Tree) (s : State) → Below (map_delete_form take S es s) (map_delete_form deep S es s)
  unfolding map_delete_form
  map_delete_below S (LeafAt (Named m) at ∷ k ∷ []) s = below_then (t S k s) (λ v u. below_same _)
  map_delete_below S es s = below_same _

  ft_balance_below : (S : Scope) (es : List Tree) (s : State) → Below (ft_balance_form take S es s) (ft_balance_form deep S es s)
  unfolding ft_balance_form
  ft_balance_below S (LeafAt (Named token) at ∷ e ∷ []) s = below_then (t S e s) (λ v u. below_same _)
  ft_balance_below S es s = below_same _

  stx_balance_below : (S : Scope) (es : List Tree) (s : State) → Below (stx_balance_form take S es s) (stx_balance_form deep S es s)
  unfolding stx_balance_form
  stx_balance_below S (e ∷ []) s = below_then (t S e s) (λ v u. below_same _)
  stx_balance_below S es s = below_same _

  nft_owner_below : (S : Scope) (es : List Tree) (s : State) → Below (nft_owner_form take S es s) (nft_owner_form deep S es s)
  unfolding nft_owner_form
  nft_owner_below S (LeafAt (Named token) at ∷ e ∷ []) s = below_then (t S e s) (λ v u. below_same _)
  nft_owner_below S es s = below_same _

  act_below : (n : TokenNative) (token : List ℕ) (S : Scope) (es : List Tree) (s : State) → Below (act_form n token take S es s) (act_form n token deep S es s)
  act_below n token S es s = below_then (parts_below S es s) (λ vs u. below_same _)

  named_act_below : (n : TokenNative) (S : Scope) (es : List Tree) (s : State) → Below (named_act_form n take S es s) (named_act_form n deep S es s)
  named_act_below n S (LeafAt (Named token) at ∷ es) s = act_below n token S es s
  named_act_below n S es s = below_same _

  token_below : (n : TokenNative) (S : Scope) (es : List Tree) (s : State) → Below (token_form n take S es s) (token_form n deep S es s)
  unfolding token_form
  token_below SendStx S es s = act_below SendStx [] S es s
  token_below BurnStx S es s = act_below BurnStx [] S es s
  token_below MintFt S es s = named_act_below MintFt S es s
  token_below BurnFt S es s = named_act_below BurnFt S es s
  token_below SendFt S es s = named_act_below SendFt S es s
  token_below MintNft S es s = named_act_below MintNft S es s
  token_below BurnNft S es s = named_act_below BurnNft S es s
  token_below SendNft S es s = named_act_below SendNft S es s

  print_below : (S : Scope) (es : List Tree) (s : State) → Below (print_form take S es s) (print_form deep S es s)
  unfolding print_form
  print_below S (e ∷ []) s = below_then (t S e s) (λ v u. below_same _)
  print_below S es s = below_same _

  -- ---- applications

  bound_below : (f g : BoundValues → State → Answer Val) → ((B : BoundValues) (s : State) → Below (f B s) (g B s)) → (B : BoundValues) (ps : List (List ℕ × PlainType)) (vs : List Val) (s : State) → Below (bound_to f B ps vs s) (bound_to g B ps vs s)
  unfolding bound_to
  bound_below f g h B [] [] s = h B s
  bound_below f g h B (p ∷ ps) (v ∷ vs) s = below_charged _ _ (bound_below f g h (B ++ (p.0, v) ∷ []) ps vs s)
  bound_below f g h B [] (v ∷ vs) s = below_same _
  bound_below f g h B (p ∷ ps) [] s = below_same _

  function_below : (S : Scope) (f : Function) (vs : List Val) (s : State) → Below (function_form take S f vs s) (function_form deep S f vs s)
  unfolding function_form
  function_below S f vs s = below_charged _ _ (bound_below _ _ (λ B u. below_then (below_returning (t _ f.body u)) (λ v w. below_same _)) [] f.params vs s)

  application_below : (S : Scope) (f : Callee) (vs : List Val) (s : State) → Below (application take S f vs s) (application deep S f vs s)
  unfolding application
  application_below S (OwnFunction f) vs s = function_below S f vs s
  application_below S (ByName row at) vs s = below_same _

module _ (take deep : Take) (t : TakesBelow take deep) (enter far : Enter) (n : EntersBelow enter far) where
  each_below : (S : Scope) (f : Callee) (rs : List (List Val)) (s : State) → Below (each enter S f rs s) (each far S f rs s)
  unfolding each
  each_below S f [] s = below_same _
  each_below S f (r ∷ rs) s = below_then (n S f r s) (λ v u. below_then (each_below S f rs u) (λ vs w. below_same _))

  mapped_below : (S : Scope) (vs : List Val) (f : Callee) (s : State) → Below (mapped enter S vs f s) (mapped far S vs f s)
  mapped_below S vs f s = below_known (rows_of (all_entries vs)) (λ rs u. below_then (each_below S f rs u) (λ ws w. below_same _)) s

  map_below : (S : Scope) (es : List Tree) (s : State) → Below (map_form take enter S es s) (map_form deep far S es s)
  unfolding map_form
  map_below S (LeafAt (Named f) at ∷ es) s =
      below_then (parts_below take deep t S es s) (λ vs u. below_charged _ _ (below_known (callee_of S f at) (mapped_below S vs) u))
  map_below S es s = below_same _

  sifted_below : (S : Scope) (f : Callee) (xs : List Val) (s : State) → Below (sifted enter S f xs s) (sifted far S f xs s)
  unfolding sifted
  sifted_below S f [] s = below_same _
  sifted_below S f (x ∷ xs) s = below_then (n S f (x ∷ []) s) (λ v u. below_then (sifted_below S f xs u) (λ ys w. below_same _))

  filtered_below : (S : Scope) (v : Val) (f : Callee) (s : State) → Below (filtered enter S v f s) (filtered far S v f s)
  filtered_below S v f s = below_known (entries_of v) (λ xs u. below_then (sifted_below S f xs u) (λ ys w. below_same _)) s

  filter_below : (S : Scope) (es : List Tree) (s : State) → Below (filter_form take enter S es s) (filter_form deep far S es s)
  unfolding filter_form
  filter_below S (LeafAt (Named f) at ∷ e ∷ []) s =
      below_then (t S e s) (λ v u. below_charged _ _ (below_known (callee_of S f at) (filtered_below S v) u))
  filter_below S es s = below_same _

  folded_below : (S : Scope) (f : Callee) (xs : List Val) (v : Val) (s : State) → Below (folded enter S f xs v s) (folded far S f xs v s)
  unfolding folded
  folded_below S f [] v s = below_same _
  folded_below S f (x ∷ xs) v s = below_then (n S f (x ∷ v ∷ []) s) (folded_below S f xs)

  fold_of_below : (S : Scope) (v start : Val) (f : Callee) (s : State) → Below (fold_of enter S v start f s) (fold_of far S v start f s)
  fold_of_below S v start f s = below_known (entries_of v) (λ xs. folded_below S f xs start) s

  fold_below : (S : Scope) (es : List Tree) (s : State) → Below (fold_form take enter S es s) (fold_form deep far S es s)
  unfolding fold_form
  fold_below S (LeafAt (Named f) at ∷ e ∷ i ∷ []) s =
      below_then (t S e s) (λ v u. below_then (t S i u) (λ w x. below_charged _ _ (below_known (callee_of S f at) (fold_of_below S v w) x)))
  fold_below S es s = below_same _

  call_below : (x : List ℕ) (S : Scope) (es : List Tree) (s : State) → Below (call_form x take enter S es s) (call_form x deep far S es s)
  unfolding call_form
  call_below x S es s = below_then (parts_below take deep t S es s) (λ vs. below_known _ (λ f. n S (OwnFunction f) vs))

  contract_call_below : (S : Scope) (es : List Tree) (s : State) → Below (contract_call_form take enter S es s) (contract_call_form deep far S es s)
  unfolding contract_call_form
  contract_call_below S (c ∷ LeafAt (Named x) at ∷ es) s =
      below_then (parts_below take deep t S es s) (λ vs. below_known _ (λ c u. below_charged _ _ (below_known _ (λ f w. n _ (OwnFunction f) vs w) u)))
  contract_call_below S es s = below_same _

  head_below : (h : Head) (cost : CostName) (S : Scope) (es : List Tree) (s : State) → Below (head_form h cost take enter S es s) (head_form h cost deep far S es s)
  unfolding head_form
  head_below (OnValues m) cost S es s = strict_below take deep t m cost S es s
  head_below (OnToken m) cost S es s = token_below take deep t m S es s
  head_below TupleOf cost S es s = below_known (bindings_of es) (tuple_below take deep t S) s
  head_below AsMaxLen cost S es s = as_max_len_below take deep t S es s
  head_below Get cost S es s = get_below take deep t S es s
  head_below VarGet cost S es s = below_same _
  head_below VarSet cost S es s = var_set_below take deep t S es s
  head_below MapGet cost S es s = map_get_below take deep t S es s
  head_below MapSet cost S es s = map_set_below take deep t S es s
  head_below MapInsert cost S es s = map_insert_below take deep t S es s
  head_below MapDelete cost S es s = map_delete_below take deep t S es s
  head_below FtBalance cost S es s = ft_balance_below take deep t S es s
  head_below FtSupply cost S es s = below_same _
  head_below StxBalance cost S es s = stx_balance_below take deep t S es s
  head_below NftOwner cost S es s = nft_owner_below take deep t S es s
  head_below Print cost S es s = print_below take deep t S es s
  head_below If cost S es s = if_below take deep t S es s
  head_below Let cost S es s = let_below take deep t S es s
  head_below Begin cost S es s = begin_below take deep t S es s
  head_below And cost S es s = and_below take deep t S es s
  head_below Or cost S es s = or_below take deep t S es s
  head_below Asserts cost S es s = asserts_below take deep t S es s
  head_below Unwrap cost S es s = unwrap_below take deep t S es s
  head_below UnwrapErr cost S es s = unwrap_err_below take deep t S es s
  head_below Try cost S es s = try_below take deep t S es s
  head_below Match cost S es s = match_below take deep t S es s
  head_below AsContract cost S es s = as_contract_below take deep t S es s
  head_below Map cost S es s = map_below S es s
  head_below Filter cost S es s = filter_below S es s
  head_below Fold cost S es s = fold_below S es s
  head_below ContractCall cost S es s = contract_call_below S es s

  operator_below : (row : Option Row) (x : List ℕ) (S : Scope) (es : List Tree) (s : State) → Below (operator row x take enter S es s) (operator row x deep far S es s)
  operator_below (Some row) x S es s = head_below row.head row.cost S es s
  operator_below None x S es s = call_below x S es s

  node_below : (S : Scope) (e : Tree) (s : State) → Below (node take enter S e s) (node deep far S e s)
  unfolding node
  node_below S (LeafAt leaf at) s = below_same _
  node_below S (TupleAt ps at) s = tuple_below take deep t S (pairs_of ps) s
  node_below S (ListAt (Then (LeafAt (Named x) at') es) at) s = operator_below (native_of x (home S)) x S (trees_of es) s
  node_below S (ListAt es at) s = below_same _

mutual
  unfolding means

  takes_below : (depth : ℕ) → TakesBelow (means depth) (means (suc depth))
  takes_below zero S e s = below_deeper s _
  takes_below (suc depth) S e s = below_ending (span_of e) (node_below (means depth) (means (suc depth)) (takes_below depth) (applied depth) (applied (suc depth)) (enters_below depth) S e s)

  enters_below : (depth : ℕ) → EntersBelow (applied depth) (applied (suc depth))
  enters_below zero S f vs s = below_deeper s _
  enters_below (suc depth) S f vs s = application_below (means depth) (means (suc depth)) (takes_below depth) S f vs s

not_deeper : {A : Type 0} (a b : Answer A) → b ≡ a → (a.outcome ≡ Deeper → ⊥) → b.outcome ≡ Deeper → ⊥
not_deeper a b e h d = h (ap (λ x. x.outcome) (sym e) ∙ d)

pub means_deeper : (depth more : ℕ) (S : Scope) (e : Tree) (s : State) → ((means depth S e s).outcome ≡ Deeper → ⊥) → means (depth + more) S e s ≡ means depth S e s
means_deeper depth zero S e s h = let same : depth + zero ≡ depth = omega arith in ap (λ d. means d S e s) same
means_deeper depth (suc more) S e s h =
    let next : depth + suc more ≡ suc (depth + more) = omega arith in
    let before : means (depth + more) S e s ≡ means depth S e s = means_deeper depth more S e s h in
    ap (λ d. means d S e s) next ∙ ((takes_below (depth + more) S e s).same (not_deeper (means depth S e s) (means (depth + more) S e s) before h) ∙ before)

pub applied_deeper : (depth more : ℕ) (S : Scope) (f : Callee) (vs : List Val) (s : State) → ((applied depth S f vs s).outcome ≡ Deeper → ⊥) → applied (depth + more) S f vs s ≡ applied depth S f vs s
applied_deeper depth zero S f vs s h = let same : depth + zero ≡ depth = omega arith in ap (λ d. applied d S f vs s) same
applied_deeper depth (suc more) S f vs s h =
    let next : depth + suc more ≡ suc (depth + more) = omega arith in
    let before : applied (depth + more) S f vs s ≡ applied depth S f vs s = applied_deeper depth more S f vs s h in
    ap (λ d. applied d S f vs s) next ∙ ((enters_below (depth + more) S f vs s).same (not_deeper (applied depth S f vs s) (applied (depth + more) S f vs s) before h) ∙ before)
