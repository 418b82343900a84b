-- Each kind of node is sound over what is; and so is what is typed, at each depth that is no less than its height.
use Rattle.std.proofs.Common.{◌≡◌, ℕ, zero, suc, ◌<◌, ◌≤◌, Bool, true, false, List, [], ◌∷◌, length, Option, Some, None, refl, sym, ap, subst, ◌∙◌, arith}
use Rattle.std.specs.Prelude.{◌&&◌, ◌||◌}
use Rattle.std.specs.List.{list_all}
use Rattle.cl_types.specs.Types.{PlainType, BoolType}
use Rattle.cl_shapes.specs.declared.name.CostName.TheVariants.{Control}
use Rattle.cl_shapes.specs.Costs.{zero_cost}
use Rattle.cl_sexpr.specs.declared.sexpr.Span.{Span}
use Rattle.cl_sexpr.specs.Tree.{Tree, LeafAt, ListAt, TupleAt, Named, Forest, Then, Pairs, NoPair, Pair, span_of}
use Rattle.cl_values.specs.Tree.{Tree as Val, BoolV}
use Rattle.cl_forms.specs.declared.head.Head.{Head}
use Rattle.cl_forms.specs.declared.head.Head.TheVariants.{OnValues, OnToken, TupleOf, AsMaxLen, Get, VarGet, VarSet, MapGet, MapSet, MapInsert, MapDelete, FtBalance, FtSupply, StxBalance, NftOwner, Print, If, Let, Begin, And, Or, Asserts, Unwrap, UnwrapErr, Try, Match, AsContract, Map, Filter, Fold, ContractCall}
use Rattle.cl_forms.specs.declared.head.TokenNative.TheVariants.{MintFt, BurnFt, SendFt, MintNft, BurnNft, SendNft, SendStx, BurnStx}
use Rattle.cl_forms.specs.Heads.{Row, native, takes, row_of}
use Rattle.cl_forms.specs.Shapes.{trees_of, pairs_of}
use Rattle.cl_events.specs.State.{State}
use Rattle.cl_meaning.specs.Answers.{Given, ending, charged}
use Rattle.cl_meaning.specs.Scope.{Frame, BoundValues, OwnFunction, ByName}
use Rattle.cl_meaning.specs.Deployed.{Function}
use Rattle.cl_c32.specs.declared.principal.Principal.{Principal}
use Rattle.cl_meaning.specs.Calls.{and_truth, truths, truth_value, native_form, application}
use Rattle.cl_meaning.specs.Meaning.{head_form, operator, node, means, applied}
use Rattle.cl_meaning.proofs.Equations.{means_step, applied_step}
use Rattle.cl_rules.specs.Faults.{type_rules, sound_shape}
use Rattle.cl_rules.specs.Bills.{Charge, cost_under}
use Rattle.cl_rules.specs.Context.{Context, Names, Signature, signature_in}
use Rattle.cl_rules.specs.Verdicts.{Found, number_at}
use Rattle.cl_rules.specs.CallShapes.{by_name_row}
use Rattle.cl_rules.specs.Table.{head_shape, operator_shape, shape}
use Rattle.cl_sexpr.specs.Fits.{Fits, AllFit, HasPair}
use Rattle.cl_expression_sound.specs.Fitted.{Fitted, fitted}
use Rattle.cl_expression_sound.specs.Sound.{World, IsWorld, IsSound, IsAsFound, AreBound, IsFrame, IsServed, types_of_params, NoThrow, scope, TakesSound, EntersSound, IsKept, IsGood}
use Rattle.cl_expression_sound.proofs.Logic.{sound_stop, sound_ending}
use Rattle.cl_expression_sound.proofs.Rules.{fine_types, not_false}
use Rattle.cl_expression_sound.proofs.Heights.{high}
use Rattle.cl_expression_sound.proofs.Values.{truth_of, true_typed}
use Rattle.cl_expression_sound.proofs.Stands.{Stands, here, IsSoundShape}
use Rattle.cl_expression_sound.proofs.Leaves.{leaf_sound}
use Rattle.cl_expression_sound.proofs.Branches.{if_sound, begin_sound}
use Rattle.cl_expression_sound.proofs.Returns.{asserts_sound, unwrap_sound, unwrap_err_sound, try_sound, and_sound, or_sound, as_contract_sound}
use Rattle.cl_expression_sound.proofs.Bindings.{match_sound, let_sound}
use Rattle.cl_expression_sound.proofs.Natives.{native_sound, applied_native_sound, pairs_sound, tuple_sound, get_sound, max_len_sound, keys_fit}
use Rattle.cl_expression_sound.proofs.Data.{var_get_sound, var_set_sound, map_get_sound, map_set_sound, map_insert_sound, map_delete_sound}
use Rattle.cl_expression_sound.proofs.Tokens.{token_sound, ft_balance_sound, ft_supply_sound, stx_balance_sound, nft_owner_sound, print_sound}
use Rattle.cl_expression_sound.proofs.Strict.{charged_low}
use Rattle.cl_expression_sound.proofs.Sides.{first_true, rest_true}
use Rattle.cl_expression_sound.proofs.Calls.{native_there, call_sound, function_sound}
use Rattle.cl_expression_sound.proofs.Iterations.{map_sound, filter_sound, fold_sound}
use Rattle.cl_expression_sound.proofs.Across.{contract_call_sound}
use Rattle.cl_values.specs.Typed.{IsOf, AreOf}
use Rattle.cl_forms.proofs.Found.{is_row}
use Rattle.cl_native_sound.proofs.Charges.{as_many}
use Rattle.cl_types.specs.TypeKinds.{is_bool}

-- ---- natives by name

all_truths : (op : Bool → Bool → Bool) (start : Bool) (ts : List PlainType) (vs : List Val) → list_all is_bool ts ≡ true → AreOf vs ts → (b : Bool) × (truths op start vs ≡ Some b)
all_truths op start [] [] h i = (start, refl)
all_truths op start [] (v ∷ vs) h i = absurd i
all_truths op start (t ∷ ts) [] h i = absurd i
all_truths op start (t ∷ ts) (v ∷ vs) h i =
    let b = truth_of v t (first_true (is_bool t) _ h) i.0 in
    let rest = all_truths op start ts vs (rest_true (is_bool t) _ h) i.1 in
    (op b.0 rest.0, ap (λ v. truths op start (v ∷ vs)) b.1 ∙ ap (and_truth op b.0) rest.1)

module _ (K : World) (W : IsWorld K) where
  truths_sound : (op : Bool → Bool → Bool) (start : Bool) (ts : List PlainType) (vs : List Val) (s : State) → list_all is_bool ts ≡ true → AreOf vs ts → IsKept K s → IsSound K (λ v. IsOf v BoolType) NoThrow (cost_under K.costs (Charge Control (length ts))) (charged Control (length vs) (truth_value (truths op start vs) s))
  truths_sound op start ts vs s h i n =
      let b = all_truths op start ts vs h i in
      let same = as_many ts vs i in
      charged_low K Control (length vs) (length ts) _ (omega (arith, same))
      (subst (λ o. IsSound K (λ v. IsOf v BoolType) NoThrow zero_cost (truth_value o s)) (sym b.1) (sound_stop K (λ v. IsOf v BoolType) NoThrow zero_cost (Given (BoolV b.0)) s (true_typed b.0) n))

module _ (K : World) (N : Stands K) where
  -- ---- nodes

  head_sound : (head : Head) (es : Forest) → AllFit es → IsSoundShape K N (head_shape head (row_of head) N.context N.names (trees_of es)) (head_form head (row_of head).cost N.take N.enter (here K N) (trees_of es))
  unfolding head_form
  head_sound (OnValues n) es fit = native_sound K N n (trees_of es)
  head_sound (OnToken act) es fit = token_sound K N act (trees_of es)
  head_sound TupleOf es fit = tuple_sound K N es fit
  head_sound AsMaxLen es fit = max_len_sound K N (trees_of es)
  head_sound Get es fit = get_sound K N (trees_of es)
  head_sound VarGet es fit = var_get_sound K N (trees_of es)
  head_sound VarSet es fit = var_set_sound K N (trees_of es)
  head_sound MapGet es fit = map_get_sound K N (trees_of es)
  head_sound MapSet es fit = map_set_sound K N (trees_of es)
  head_sound MapInsert es fit = map_insert_sound K N (trees_of es)
  head_sound MapDelete es fit = map_delete_sound K N (trees_of es)
  head_sound FtBalance es fit = ft_balance_sound K N (trees_of es)
  head_sound FtSupply es fit = ft_supply_sound K N (trees_of es)
  head_sound StxBalance es fit = stx_balance_sound K N (trees_of es)
  head_sound NftOwner es fit = nft_owner_sound K N (trees_of es)
  head_sound Print es fit = print_sound K N (trees_of es)
  head_sound If es fit = if_sound K N (trees_of es)
  head_sound Let es fit = let_sound K N (trees_of es)
  head_sound Begin es fit = begin_sound K N (trees_of es)
  head_sound And es fit = and_sound K N (trees_of es)
  head_sound Or es fit = or_sound K N (trees_of es)
  head_sound Asserts es fit = asserts_sound K N (trees_of es)
  head_sound Unwrap es fit = unwrap_sound K N (trees_of es)
  head_sound UnwrapErr es fit = unwrap_err_sound K N (trees_of es)
  head_sound Try es fit = try_sound K N (trees_of es)
  head_sound Match es fit = match_sound K N (trees_of es)
  head_sound AsContract es fit = as_contract_sound K N (trees_of es)
  head_sound Map es fit = map_sound K N (trees_of es)
  head_sound Filter es fit = filter_sound K N (trees_of es)
  head_sound Fold es fit = fold_sound K N (trees_of es)
  head_sound ContractCall es fit = contract_call_sound K N (trees_of es)

  operator_sound : (x : List ℕ) (es : Forest) → AllFit es → (o : Option Row) → native N.context.version x ≡ o → IsSoundShape K N (operator_shape o (signature_in x N.context.functions) N.context N.names (trees_of es)) (operator o x N.take N.enter (here K N) (trees_of es))
  operator_sound x es fit (Some row) is = subst (λ (r : Row). IsSoundShape K N (head_shape row.head r N.context N.names (trees_of es)) (head_form row.head r.cost N.take N.enter (here K N) (trees_of es))) (sym (is_row N.context.version x row is)) (head_sound row.head es fit)
  operator_sound x es fit None is = call_sound K N x (trees_of es)

  has_pair : (ps : Pairs) → HasPair ps → 0 < length (pairs_of ps)
  has_pair NoPair h = absurd h
  has_pair (Pair key e ps) h = omega arith

  node_sound : (e : Tree) → Fits e → IsSoundShape K N (shape N.context N.names e) (node N.take N.enter (here K N) e)
  unfolding shape node
  node_sound (LeafAt leaf at) fit = leaf_sound K N leaf fit
  node_sound (TupleAt ps at) fit = pairs_sound K N sound_shape (pairs_of ps) (has_pair ps fit.0) (keys_fit ps fit.1)
  node_sound (ListAt (Then (LeafAt (Named x) at') es) at) fit =
      subst (λ o. IsSoundShape K N (operator_shape (native N.context.version x) (signature_in x N.context.functions) N.context N.names (trees_of es)) (operator o x N.take N.enter (here K N) (trees_of es))) (sym (native_there K N x))
      (operator_sound x es fit.1 (native N.context.version x) refl)
  node_sound (ListAt es at) fit = record { each = λ fs shape follows types low s n. absurd cc }

module _ (K : World) (W : IsWorld K) where
  -- ---- natives by name

  by_name_sound : (head : Head) (name : (row_of head).by_name ≡ true) (ts : List PlainType) (vs : List Val) → takes (row_of head).arity (length ts) ≡ true → AreOf vs ts → type_rules (by_name_row head ts).faults ≡ [] → (s : State) → IsKept K s → IsSound K (λ v. IsOf v (by_name_row head ts).type) NoThrow (cost_under K.costs (Charge (row_of head).cost (number_at (row_of head).cost ts))) (native_form head (row_of head).cost vs s)
  unfolding native_form
  by_name_sound (OnValues n) name ts vs count i types s k = applied_native_sound K n ts vs s count i types k
  by_name_sound And name ts vs count i types s k = truths_sound K W (λ b c. b && c) true ts vs s (not_false (list_all is_bool ts) (fine_types (by_name_row And ts).faults types).argument_kind) i k
  by_name_sound Or name ts vs count i types s k = truths_sound K W (λ b c. b || c) false ts vs s (not_false (list_all is_bool ts) (fine_types (by_name_row Or ts).faults types).argument_kind) i k
  by_name_sound (OnToken MintFt) name ts vs count i types s k = absurd cc
  by_name_sound (OnToken BurnFt) name ts vs count i types s k = absurd cc
  by_name_sound (OnToken SendFt) name ts vs count i types s k = absurd cc
  by_name_sound (OnToken MintNft) name ts vs count i types s k = absurd cc
  by_name_sound (OnToken BurnNft) name ts vs count i types s k = absurd cc
  by_name_sound (OnToken SendNft) name ts vs count i types s k = absurd cc
  by_name_sound (OnToken SendStx) name ts vs count i types s k = absurd cc
  by_name_sound (OnToken BurnStx) name ts vs count i types s k = absurd cc
  by_name_sound head name ts vs count i types s k = absurd cc

  -- ---- each depth

  taken_sound : (N : Stands K) (e : Tree) (f : Found) → Fitted N.context N.names e f → f.height ≤ suc N.depth → (s : State) → IsKept K s → IsAsFound K f (ending (span_of e) (node N.take N.enter (here K N) e s))
  taken_sound N e f (fitted fs fit shape follows types is) low s n =
      subst (λ (f : Found). f.height ≤ suc N.depth → IsAsFound K f (ending (span_of e) (node N.take N.enter (here K N) e s))) is
      (λ low. sound_ending K _ (span_of e) _ ((node_sound K N e fit).each fs shape follows types low s n)) low

  abbrev stands : (depth : ℕ) → TakesSound K (means depth) depth → EntersSound K (applied depth) depth → (G : Context) → IsGood K G → (F : Frame) → IsFrame G F → (B : Names) (E : BoundValues) → AreBound B E → Stands K
  stands depth takes enters G good F framed B E are = record {
    world = W;
    take = means depth;
    enter = applied depth;
    depth = depth;
    takes = takes;
    enters = enters;
    context = G;
    good = good;
    frame = F;
    framed = framed;
    names = B;
    bound = E;
    are = are;
  }

  takes_more : (depth : ℕ) → TakesSound K (means depth) depth → EntersSound K (applied depth) depth → TakesSound K (means (suc depth)) (suc depth)
  takes_more depth takes enters = record {
    each = λ G good F framed B E are e f fit low s n.
        subst (λ a. IsAsFound K f a) (sym (means_step depth (scope K F E) e s)) (taken_sound (stands depth takes enters G good F framed B E are) e f fit low s n);
  }

  function_applied : (depth : ℕ) → TakesSound K (means depth) depth → (G : Context) (g : Signature) (fn : Function) → IsServed K G.principal g fn → (F : Frame) → IsFrame G F → (E : BoundValues) → g.height ≤ suc depth → (vs : List Val) → AreOf vs (types_of_params g) → (s : State) → IsKept K s → IsSound K (λ v. IsOf v g.returns) NoThrow (cost_under K.costs g.bound) (application (means depth) (scope K F E) (OwnFunction fn) vs s)
  unfolding application
  function_applied depth takes G g fn served F framed E low vs i s n = function_sound K (means depth) depth takes G g fn served F framed E low vs i s n

  native_applied : (depth : ℕ) (row : Row) → row ≡ row_of row.head → row.by_name ≡ true → (at : Span) (F : Frame) (E : BoundValues) (ts : List PlainType) (vs : List Val) → takes row.arity (length ts) ≡ true → AreOf vs ts → type_rules (by_name_row row.head ts).faults ≡ [] → (s : State) → IsKept K s → IsSound K (λ v. IsOf v (by_name_row row.head ts).type) NoThrow (cost_under K.costs (Charge row.cost (number_at row.cost ts))) (application (means depth) (scope K F E) (ByName row at) vs s)
  unfolding application
  native_applied depth row is name at F E ts vs count i types s n =
      sound_ending K (cost_under K.costs (Charge row.cost (number_at row.cost ts))) at (native_form row.head row.cost vs s)
      (subst (λ (r : Row). r.by_name ≡ true → takes r.arity (length ts) ≡ true → IsSound K (λ v. IsOf v (by_name_row row.head ts).type) NoThrow (cost_under K.costs (Charge r.cost (number_at r.cost ts))) (native_form row.head r.cost vs s)) (sym is)
      (λ name count. by_name_sound row.head name ts vs count i types s n) name count)

  enters_more : (depth : ℕ) → TakesSound K (means depth) depth → EntersSound K (applied (suc depth)) (suc depth)
  enters_more depth takes = record {
    each = λ G g fn served F framed E low vs i s n.
        subst (λ a. IsSound K (λ v. IsOf v g.returns) NoThrow (cost_under K.costs g.bound) a) (sym (applied_step depth (scope K F E) (OwnFunction fn) vs s)) (function_applied depth takes G g fn served F framed E low vs i s n);
    natives = λ low row is name at F E ts vs count i types s n.
        subst (λ a. IsSound K (λ v. IsOf v (by_name_row row.head ts).type) NoThrow (cost_under K.costs (Charge row.cost (number_at row.cost ts))) a) (sym (applied_step depth (scope K F E) (ByName row at) vs s)) (native_applied depth row is name at F E ts vs count i types s n);
  }

  function_high : (p : Principal) (g : Signature) (fn : Function) → IsServed K p g fn → 0 < g.height
  function_high p g fn served = subst (λ (g : Signature). 0 < g.height) served.signature (omega arith)

  pub each_depth : (depth : ℕ) → TakesSound K (means depth) depth × EntersSound K (applied depth) depth
  each_depth zero = (
    record { each = λ G good F framed B E are e f fit low s n. let some = high G B e f fit in absurd (omega (arith, some, low)) },
    record {
      each = λ G g fn served F framed E low vs i s n. let some = function_high G.principal g fn served in absurd (omega (arith, some, low));
      natives = λ low row is name at F E ts vs count i types s n. absurd (omega (arith, low));
    },
  )
  each_depth (suc depth) =
      let below = each_depth depth in
      (takes_more depth below.0 below.1, enters_more depth below.0)
