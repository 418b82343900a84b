-- Tokens, STX and events.
use Rattle.std.proofs.Common.{◌≡◌, ℕ, suc, ◌<◌, ◌≤◌, ◌^◌, Bool, true, false, List, [], ◌∷◌, length, Option, Some, None, Ok, Err, refl, sym, ap, subst, ◌∙◌, arith}
use Rattle.std.specs.List.{list_any}
use Rattle.cl_types.specs.Types.{PlainType, UintType, PrincipalType, OptionalType}
use Rattle.cl_shapes.specs.declared.name.CostName.TheVariants.{ReadToken, WriteToken, Event as EventCost}
use Rattle.cl_shapes.specs.Costs.{zero_cost}
use Rattle.cl_sexpr.specs.declared.sexpr.Span.{Span}
use Rattle.cl_sexpr.specs.Tree.{Tree, LeafAt, Named}
use Rattle.cl_values.specs.Tree.{Tree as Val, UintV, BoolV, PrincipalV, NoneV, SomeV, ResponseV}
use Rattle.cl_values.specs.Wire.{wire, size_of}
use Rattle.cl_values.specs.Reading.{decoded}
use Rattle.cl_values.proofs.Back.{decoded_wire}
use Rattle.cl_maps.specs.Maps.{get}
use Rattle.cl_tokens.specs.Ledger.{Ledger, balance}
use Rattle.cl_tokens.specs.declared.refusal.TokenRefusal.TheVariants.{Code, SupplyOverflow}
use Rattle.cl_forms.specs.declared.head.TokenNative.{TokenNative}
use Rattle.cl_forms.specs.declared.head.TokenNative.TheVariants.{MintFt, BurnFt, SendFt, MintNft, BurnNft, SendNft, SendStx, BurnStx}
use Rattle.cl_forms.specs.declared.head.Head.TheVariants.{OnToken, FtBalance, FtSupply, StxBalance, NftOwner, Print}
use Rattle.cl_forms.specs.Heads.{Row, row_of}
use Rattle.cl_events.specs.declared.event.EventKind.{EventKind}
use Rattle.cl_events.specs.declared.event.EventKind.TheVariants.{Print as PrintOf, FtMint, FtTransfer, FtBurn, NftMint, NftTransfer, NftBurn, StxTransfer, StxBurn}
use Rattle.cl_events.specs.State.{State, holder, place}
use Rattle.cl_events.specs.Acts.{Acted, acted_by}
use Rattle.cl_meaning.specs.Answers.{Answer, Given, Aborted, BySupply, give, with_known}
use Rattle.cl_meaning.specs.Scope.{sizes}
use Rattle.cl_meaning.specs.Tokens.{balance_in, ft_balance_form, ft_supply_form, stx_balance_form, some_value, owner_value, nft_owner_form, act_of, answered, acts, act_form, token_form, print_form}
use Rattle.cl_meaning.specs.Kept.{IsHolder}
use Rattle.cl_rules.specs.Faults.{type_rules}
use Rattle.cl_rules.specs.NativeTypes.{Ruled, fine, one}
use Rattle.cl_rules.specs.Bills.{Charge, Both}
use Rattle.cl_rules.specs.Context.{named_in, same}
use Rattle.cl_rules.specs.Verdicts.{Found, Verdict, types_of, sizes_of, highest, sum_of, summed}
use Rattle.cl_rules.specs.Shapes.{parts as all_parts, Wanted, AUint, APrincipal, Admitted, stated, evaluated, there_or_not, is_no_such, named_faults, named_shape}
use Rattle.cl_rules.specs.DataShapes.{if_fungible, act_answer}
use Rattle.cl_rules.specs.Table.{head_shape}
use Rattle.cl_expression_sound.specs.Fitted.{Follows, ends, part}
use Rattle.cl_expression_sound.specs.Sound.{World, IsSound, IsAsFound, AreUints, IsLedgerThere, AreOwnersThere, IsAct, IsActed, is_fungible, IsKept}
use Rattle.cl_expression_sound.proofs.Logic.{sound_stop, sound_charged, sound_known}
use Rattle.cl_expression_sound.proofs.Rules.{fine_shape}
use Rattle.cl_expression_sound.proofs.Thrown.{MayThrow, ruling_fine}
use Rattle.cl_expression_sound.proofs.Values.{none_typed}
use Rattle.cl_expression_sound.proofs.Leaves.{uint_typed, principal_typed}
use Rattle.cl_expression_sound.proofs.Wanted.{IsUint, IsWho, AreWantedValues, stated_values, by_named}
use Rattle.cl_expression_sound.proofs.Strict.{charged_low, strict_sound, single_sound}
use Rattle.cl_expression_sound.proofs.Natives.{one_low}
use Rattle.cl_expression_sound.proofs.Data.{positive, some_typed}
use Rattle.cl_expression_sound.proofs.Stands.{Stands, here, IsSoundShape, concluded_sound, by_one, counted}
use Rattle.cl_values.specs.Typed.{IsOf}
use Rattle.cl_native_sound.proofs.Charges.{sizes_within}

-- ---- answers of acts

ok_typed : IsOf (ResponseV true (BoolV true)) act_answer
ok_typed = record { valid = record { ranges = tt; keys = refl; texts = refl; depth = omega arith; size = omega arith }; typed = refl }

err_typed : (n : ℕ) → n < 2 ^ 128 → IsOf (ResponseV false (UintV n)) act_answer
err_typed n h = record { valid = record { ranges = h; keys = refl; texts = refl; depth = omega arith; size = omega arith }; typed = refl }

-- the act that a native is at values that are wanted
pub record IsActOf (K : World) (N : Stands K) (native : TokenNative) (token : List ℕ) (vs : List Val) : Type 0 where
  pub kind : EventKind
  pub is : act_of native token vs ≡ Some kind
  pub fits : IsAct N.context kind

two_path : (native : TokenNative) (token : List ℕ) (a b : Val) (n : IsUint a) (p : IsWho b) → act_of native token (a ∷ b ∷ []) ≡ act_of native token (UintV n.number ∷ PrincipalV p.who ∷ [])
two_path native token a b n p = ap (λ v. act_of native token (v ∷ b ∷ [])) n.is ∙ ap (λ v. act_of native token (UintV n.number ∷ v ∷ [])) p.is

three_path : (native : TokenNative) (token : List ℕ) (a b c : Val) (n : IsUint a) (p : IsWho b) (q : IsWho c) → act_of native token (a ∷ b ∷ c ∷ []) ≡ act_of native token (UintV n.number ∷ PrincipalV p.who ∷ PrincipalV q.who ∷ [])
three_path native token a b c n p q =
    ap (λ v. act_of native token (v ∷ b ∷ c ∷ [])) n.is
    ∙ ap (λ v. act_of native token (UintV n.number ∷ v ∷ c ∷ [])) p.is
    ∙ ap (λ v. act_of native token (UintV n.number ∷ PrincipalV p.who ∷ v ∷ [])) q.is

-- values one by one, where there are so many
two_values : (P : List Val → Type 0) (w u : Wanted) → ((a b : Val) → AreWantedValues (w ∷ u ∷ []) (a ∷ b ∷ []) → P (a ∷ b ∷ [])) → (vs : List Val) → AreWantedValues (w ∷ u ∷ []) vs → P vs
two_values P w u k [] h = absurd h
two_values P w u k (a ∷ []) h = absurd h.1
two_values P w u k (a ∷ b ∷ []) h = k a b h
two_values P w u k (a ∷ b ∷ c ∷ vs) h = absurd h.1.1

three_values : (P : List Val → Type 0) (w u x : Wanted) → ((a b c : Val) → AreWantedValues (w ∷ u ∷ x ∷ []) (a ∷ b ∷ c ∷ []) → P (a ∷ b ∷ c ∷ [])) → (vs : List Val) → AreWantedValues (w ∷ u ∷ x ∷ []) vs → P vs
three_values P w u x k [] h = absurd h
three_values P w u x k (a ∷ []) h = absurd h.1
three_values P w u x k (a ∷ b ∷ []) h = absurd h.1.1
three_values P w u x k (a ∷ b ∷ c ∷ []) h = k a b c h
three_values P w u x k (a ∷ b ∷ c ∷ d ∷ vs) h = absurd h.1.1.1

module _ (K : World) (N : Stands K) where
  answered_sound : {T : Val → Type 0} (act : Acted) (s : State) → IsActed K act → IsKept K s → IsSound K (λ v. IsOf v act_answer) T zero_cost (answered s act)
  answered_sound None s h n = absurd h
  answered_sound {T = T} (Some (Ok t)) s h n = sound_stop K (λ v. IsOf v act_answer) T zero_cost (Given (ResponseV true (BoolV true))) t ok_typed h
  answered_sound {T = T} (Some (Err (Code k))) s h n = sound_stop K (λ v. IsOf v act_answer) T zero_cost (Given (ResponseV false (UintV k))) s (err_typed k h) n
  answered_sound {T = T} (Some (Err SupplyOverflow)) s h n = sound_stop K (λ v. IsOf v act_answer) T zero_cost (Aborted BySupply) s tt n

  acts_sound : {T : Val → Type 0} (native : TokenNative) (token : List ℕ) (vs : List Val) (s : State) → IsActOf K N native token vs → IsKept K s → IsSound K (λ v. IsOf v act_answer) T zero_cost (with_known (act_of native token vs) (acts (here K N)) s)
  acts_sound native token vs s a n =
      sound_known K zero_cost (act_of native token vs) a.kind (acts (here K N)) s a.is
      (answered_sound (acted_by N.frame.sender N.frame.contract a.kind s) s (subst (λ p. IsActed K (acted_by N.frame.sender p a.kind s)) (sym N.framed.home) (N.world.acts N.context N.good N.frame.sender a.kind a.fits s n)) n)

  -- an act on values of stated types
  act_each : (native : TokenNative) (token : List ℕ) (ws : List Wanted) → ((vs : List Val) → AreWantedValues ws vs → IsActOf K N native token vs) → (es : List Tree) (fs : List Found) → Follows N.context (all_parts N.names es) fs → type_rules (summed (stated ws (fine act_answer) (types_of fs)) (Charge WriteToken (sizes_of (types_of fs))) fs).faults ≡ [] → (summed (stated ws (fine act_answer) (types_of fs)) (Charge WriteToken (sizes_of (types_of fs))) fs).found.height ≤ suc N.depth → (s : State) → IsKept K s → IsAsFound K (summed (stated ws (fine act_answer) (types_of fs)) (Charge WriteToken (sizes_of (types_of fs))) fs).found (act_form native token N.take (here K N) es s)
  act_each native token ws act es fs follows types low s n =
      let r : Ruled = stated ws (fine act_answer) (types_of fs) in
      let own = Charge WriteToken (sizes_of (types_of fs)) in
      let low_fs : highest fs ≤ N.depth = omega (arith, low) in
      strict_sound K N es fs r 0 own _ follows types low_fs
      (λ vs u i k. charged_low K WriteToken (sizes vs) (sizes_of (types_of fs)) _ (sizes_within (types_of fs) vs i)
      (acts_sound native token vs u (act vs (stated_values ws (fine act_answer) (types_of fs) vs (ruling_fine r 0 (Both own (sum_of fs)) fs types) i)) k)) s n

  -- ---- names of tokens

  fungible_by : (row : Row) (verdict : List Found → Verdict) (es : List Tree) (answer : State → Answer Val) (b : Bool) → (b ≡ true → IsSoundShape K N (named_shape (record (named_faults row es (there_or_not (if_fungible true))) { no_such_token = false }) (there_or_not (if_fungible true)) (λ u. verdict) N.names es) answer) → IsSoundShape K N (named_shape (record (named_faults row es (there_or_not (if_fungible b))) { no_such_token = is_no_such (there_or_not (if_fungible b)) }) (there_or_not (if_fungible b)) (λ u. verdict) N.names es) answer
  fungible_by row verdict es answer true k = k refl
  fungible_by row verdict es answer false k = record { each = λ fs shape follows types low s n. let h = (fine_shape (record (named_faults row es (there_or_not (if_fungible false))) { no_such_token = true }) shape).no_such_token in absurd cc }

  owners_by : (row : Row) (verdict : PlainType → List Found → Verdict) (es : List Tree) (answer : State → Answer Val) (o : Option PlainType) → ((t : PlainType) → o ≡ Some t → IsSoundShape K N (named_shape (record (named_faults row es (there_or_not o)) { no_such_token = false }) (there_or_not (Some t)) verdict N.names es) answer) → IsSoundShape K N (named_shape (record (named_faults row es (there_or_not o)) { no_such_token = is_no_such (there_or_not o) }) (there_or_not o) verdict N.names es) answer
  owners_by row verdict es answer (Some t) k = k t refl
  owners_by row verdict es answer None k = record { each = λ fs shape follows types low s n. let h = (fine_shape (record (named_faults row es (there_or_not {A = PlainType} None)) { no_such_token = true }) shape).no_such_token in absurd cc }

  ledger_there : (x : List ℕ) → is_fungible N.context x ≡ true → (s : State) → IsKept K s → IsLedgerThere (get (place N.frame.contract x) s.fungibles)
  ledger_there x h s n = subst (λ p. IsLedgerThere (get (place p x) s.fungibles)) (sym N.framed.home) (N.world.fungibles N.context N.good x h s n)

  owners_there : (x : List ℕ) (t : PlainType) → named_in x N.context.nonfungibles ≡ Some t → (s : State) → IsKept K s → AreOwnersThere (get (place N.frame.contract x) s.nonfungibles)
  owners_there x t h s n = subst (λ p. AreOwnersThere (get (place p x) s.nonfungibles)) (sym N.framed.home) (N.world.nonfungibles N.context N.good x t h s n)

  -- ---- acts on fungible tokens

  mint_ft : (token : List ℕ) → is_fungible N.context token ≡ true → (vs : List Val) → AreWantedValues (AUint ∷ APrincipal ∷ []) vs → IsActOf K N MintFt token vs
  mint_ft token h = two_values (IsActOf K N MintFt token) AUint APrincipal (λ a b w. record { kind = FtMint token w.0.number w.1.0.who; is = two_path MintFt token a b w.0 w.1.0; fits = (h, w.0.low, w.1.0.valid) })

  burn_ft : (token : List ℕ) → is_fungible N.context token ≡ true → (vs : List Val) → AreWantedValues (AUint ∷ APrincipal ∷ []) vs → IsActOf K N BurnFt token vs
  burn_ft token h = two_values (IsActOf K N BurnFt token) AUint APrincipal (λ a b w. record { kind = FtBurn token w.0.number w.1.0.who; is = two_path BurnFt token a b w.0 w.1.0; fits = (h, w.0.low, w.1.0.valid) })

  send_ft : (token : List ℕ) → is_fungible N.context token ≡ true → (vs : List Val) → AreWantedValues (AUint ∷ APrincipal ∷ APrincipal ∷ []) vs → IsActOf K N SendFt token vs
  send_ft token h = three_values (IsActOf K N SendFt token) AUint APrincipal APrincipal (λ a b c w. record { kind = FtTransfer token w.0.number w.1.0.who w.1.1.0.who; is = three_path SendFt token a b c w.0 w.1.0 w.1.1.0; fits = (h, w.0.low, w.1.0.valid, w.1.1.0.valid) })

  send_stx : (vs : List Val) → AreWantedValues (AUint ∷ APrincipal ∷ APrincipal ∷ []) vs → IsActOf K N SendStx [] vs
  send_stx = three_values (IsActOf K N SendStx []) AUint APrincipal APrincipal (λ a b c w. record { kind = StxTransfer w.0.number w.1.0.who w.1.1.0.who; is = three_path SendStx [] a b c w.0 w.1.0 w.1.1.0; fits = (w.0.low, w.1.0.valid, w.1.1.0.valid) })

  burn_stx : (vs : List Val) → AreWantedValues (AUint ∷ APrincipal ∷ []) vs → IsActOf K N BurnStx [] vs
  burn_stx = two_values (IsActOf K N BurnStx []) AUint APrincipal (λ a b w. record { kind = StxBurn w.0.number w.1.0.who; is = two_path BurnStx [] a b w.0 w.1.0; fits = (w.0.low, w.1.0.valid) })

  mint_nft : (token : List ℕ) (t : PlainType) → named_in token N.context.nonfungibles ≡ Some t → (vs : List Val) → AreWantedValues (Admitted t ∷ APrincipal ∷ []) vs → IsActOf K N MintNft token vs
  mint_nft token t h = two_values (IsActOf K N MintNft token) (Admitted t) APrincipal (λ a b w. record { kind = NftMint token a w.1.0.who; is = ap (λ v. act_of MintNft token (a ∷ v ∷ [])) w.1.0.is; fits = (record { type = t; told = h; typed = w.0 }, w.1.0.valid) })

  burn_nft : (token : List ℕ) (t : PlainType) → named_in token N.context.nonfungibles ≡ Some t → (vs : List Val) → AreWantedValues (Admitted t ∷ APrincipal ∷ []) vs → IsActOf K N BurnNft token vs
  burn_nft token t h = two_values (IsActOf K N BurnNft token) (Admitted t) APrincipal (λ a b w. record { kind = NftBurn token a w.1.0.who; is = ap (λ v. act_of BurnNft token (a ∷ v ∷ [])) w.1.0.is; fits = (record { type = t; told = h; typed = w.0 }, w.1.0.valid) })

  send_nft : (token : List ℕ) (t : PlainType) → named_in token N.context.nonfungibles ≡ Some t → (vs : List Val) → AreWantedValues (Admitted t ∷ APrincipal ∷ APrincipal ∷ []) vs → IsActOf K N SendNft token vs
  send_nft token t h = three_values (IsActOf K N SendNft token) (Admitted t) APrincipal APrincipal (λ a b c w. record {
    kind = NftTransfer token a w.1.0.who w.1.1.0.who;
    is = ap (λ v. act_of SendNft token (a ∷ v ∷ c ∷ [])) w.1.0.is ∙ ap (λ v. act_of SendNft token (a ∷ PrincipalV w.1.0.who ∷ v ∷ [])) w.1.1.0.is;
    fits = (record { type = t; told = h; typed = w.0 }, w.1.0.valid, w.1.1.0.valid);
  })

  token_mint_ft : (x : List ℕ) (at : Span) (es : List Tree) → IsSoundShape K N (head_shape (OnToken MintFt) (row_of (OnToken MintFt)) N.context N.names (LeafAt (Named x) at ∷ es)) (token_form MintFt N.take (here K N) (LeafAt (Named x) at ∷ es))
  unfolding head_shape token_form
  token_mint_ft x at es = fungible_by (row_of (OnToken MintFt)) _ (LeafAt (Named x) at ∷ es) _ (list_any (same x) N.context.fungibles) (λ h. record { each = λ fs shape follows types low s n. act_each MintFt x (AUint ∷ APrincipal ∷ []) (mint_ft x h) es fs follows types low s n })

  token_burn_ft : (x : List ℕ) (at : Span) (es : List Tree) → IsSoundShape K N (head_shape (OnToken BurnFt) (row_of (OnToken BurnFt)) N.context N.names (LeafAt (Named x) at ∷ es)) (token_form BurnFt N.take (here K N) (LeafAt (Named x) at ∷ es))
  unfolding head_shape token_form
  token_burn_ft x at es = fungible_by (row_of (OnToken BurnFt)) _ (LeafAt (Named x) at ∷ es) _ (list_any (same x) N.context.fungibles) (λ h. record { each = λ fs shape follows types low s n. act_each BurnFt x (AUint ∷ APrincipal ∷ []) (burn_ft x h) es fs follows types low s n })

  token_send_ft : (x : List ℕ) (at : Span) (es : List Tree) → IsSoundShape K N (head_shape (OnToken SendFt) (row_of (OnToken SendFt)) N.context N.names (LeafAt (Named x) at ∷ es)) (token_form SendFt N.take (here K N) (LeafAt (Named x) at ∷ es))
  unfolding head_shape token_form
  token_send_ft x at es = fungible_by (row_of (OnToken SendFt)) _ (LeafAt (Named x) at ∷ es) _ (list_any (same x) N.context.fungibles) (λ h. record { each = λ fs shape follows types low s n. act_each SendFt x (AUint ∷ APrincipal ∷ APrincipal ∷ []) (send_ft x h) es fs follows types low s n })

  token_mint_nft : (x : List ℕ) (at : Span) (es : List Tree) → IsSoundShape K N (head_shape (OnToken MintNft) (row_of (OnToken MintNft)) N.context N.names (LeafAt (Named x) at ∷ es)) (token_form MintNft N.take (here K N) (LeafAt (Named x) at ∷ es))
  unfolding head_shape token_form
  token_mint_nft x at es = owners_by (row_of (OnToken MintNft)) _ (LeafAt (Named x) at ∷ es) _ (named_in x N.context.nonfungibles) (λ t h. record { each = λ fs shape follows types low s n. act_each MintNft x (Admitted t ∷ APrincipal ∷ []) (mint_nft x t h) es fs follows types low s n })

  token_burn_nft : (x : List ℕ) (at : Span) (es : List Tree) → IsSoundShape K N (head_shape (OnToken BurnNft) (row_of (OnToken BurnNft)) N.context N.names (LeafAt (Named x) at ∷ es)) (token_form BurnNft N.take (here K N) (LeafAt (Named x) at ∷ es))
  unfolding head_shape token_form
  token_burn_nft x at es = owners_by (row_of (OnToken BurnNft)) _ (LeafAt (Named x) at ∷ es) _ (named_in x N.context.nonfungibles) (λ t h. record { each = λ fs shape follows types low s n. act_each BurnNft x (Admitted t ∷ APrincipal ∷ []) (burn_nft x t h) es fs follows types low s n })

  token_send_nft : (x : List ℕ) (at : Span) (es : List Tree) → IsSoundShape K N (head_shape (OnToken SendNft) (row_of (OnToken SendNft)) N.context N.names (LeafAt (Named x) at ∷ es)) (token_form SendNft N.take (here K N) (LeafAt (Named x) at ∷ es))
  unfolding head_shape token_form
  token_send_nft x at es = owners_by (row_of (OnToken SendNft)) _ (LeafAt (Named x) at ∷ es) _ (named_in x N.context.nonfungibles) (λ t h. record { each = λ fs shape follows types low s n. act_each SendNft x (Admitted t ∷ APrincipal ∷ APrincipal ∷ []) (send_nft x t h) es fs follows types low s n })

  pub token_sound : (act : TokenNative) (es : List Tree) → IsSoundShape K N (head_shape (OnToken act) (row_of (OnToken act)) N.context N.names es) (token_form act N.take (here K N) es)
  unfolding head_shape token_form
  token_sound MintFt es = by_named K N (head_shape (OnToken MintFt) (row_of (OnToken MintFt)) N.context N.names) (token_form MintFt N.take (here K N)) (λ x. if_fungible (list_any (same x) N.context.fungibles)) (λ es h. positive (length es) 2 (counted es 3 h.argument_count)) (λ a es h. h.bad_binding) token_mint_ft es
  token_sound BurnFt es = by_named K N (head_shape (OnToken BurnFt) (row_of (OnToken BurnFt)) N.context N.names) (token_form BurnFt N.take (here K N)) (λ x. if_fungible (list_any (same x) N.context.fungibles)) (λ es h. positive (length es) 2 (counted es 3 h.argument_count)) (λ a es h. h.bad_binding) token_burn_ft es
  token_sound SendFt es = by_named K N (head_shape (OnToken SendFt) (row_of (OnToken SendFt)) N.context N.names) (token_form SendFt N.take (here K N)) (λ x. if_fungible (list_any (same x) N.context.fungibles)) (λ es h. positive (length es) 3 (counted es 4 h.argument_count)) (λ a es h. h.bad_binding) token_send_ft es
  token_sound MintNft es = by_named K N (head_shape (OnToken MintNft) (row_of (OnToken MintNft)) N.context N.names) (token_form MintNft N.take (here K N)) (λ x. named_in x N.context.nonfungibles) (λ es h. positive (length es) 2 (counted es 3 h.argument_count)) (λ a es h. h.bad_binding) token_mint_nft es
  token_sound BurnNft es = by_named K N (head_shape (OnToken BurnNft) (row_of (OnToken BurnNft)) N.context N.names) (token_form BurnNft N.take (here K N)) (λ x. named_in x N.context.nonfungibles) (λ es h. positive (length es) 2 (counted es 3 h.argument_count)) (λ a es h. h.bad_binding) token_burn_nft es
  token_sound SendNft es = by_named K N (head_shape (OnToken SendNft) (row_of (OnToken SendNft)) N.context N.names) (token_form SendNft N.take (here K N)) (λ x. named_in x N.context.nonfungibles) (λ es h. positive (length es) 3 (counted es 4 h.argument_count)) (λ a es h. h.bad_binding) token_send_nft es
  token_sound SendStx es = record { each = λ fs shape follows types low s n. act_each SendStx [] (AUint ∷ APrincipal ∷ APrincipal ∷ []) send_stx es fs follows types low s n }
  token_sound BurnStx es = record { each = λ fs shape follows types low s n. act_each BurnStx [] (AUint ∷ APrincipal ∷ []) burn_stx es fs follows types low s n }

  -- ---- balances, supplies and owners

  balance_sound : {T : Val → Type 0} (v : Val) (l : Ledger) (s : State) → IsWho v → AreUints l → IsKept K s → IsSound K (λ v. IsOf v UintType) T zero_cost (balance_in v l s)
  balance_sound {T = T} v l s w u n =
      subst (λ v. IsSound K (λ v. IsOf v UintType) T zero_cost (balance_in v l s)) (sym w.is)
      (sound_stop K (λ v. IsOf v UintType) T zero_cost (Given (UintV (balance (holder w.who) l.balances))) s (uint_typed _ (u.balances (holder w.who))) n)

  ft_balance_each : (x : List ℕ) (at : Span) → is_fungible N.context x ≡ true → (e : Tree) (fs : List Found) → Follows N.context (all_parts N.names (e ∷ [])) fs → type_rules (evaluated (row_of FtBalance) (stated (APrincipal ∷ []) (fine UintType)) fs).faults ≡ [] → (evaluated (row_of FtBalance) (stated (APrincipal ∷ []) (fine UintType)) fs).found.height ≤ suc N.depth → (s : State) → IsKept K s → IsAsFound K (evaluated (row_of FtBalance) (stated (APrincipal ∷ []) (fine UintType)) fs).found (ft_balance_form N.take (here K N) (LeafAt (Named x) at ∷ e ∷ []) s)
  unfolding ft_balance_form
  ft_balance_each x at h e _ (part {f = f} te ends) types low s n =
      let r : Ruled = stated (APrincipal ∷ []) (fine UintType) (f.type ∷ []) in
      let own = Charge ReadToken (sizes_of (f.type ∷ [])) in
      let low_f : f.height ≤ N.depth = omega (arith, low) in
      single_sound K N e f r 0 own _ te types low_f
      (λ v u i m.
      let wanted = stated_values (APrincipal ∷ []) (fine UintType) (f.type ∷ []) (v ∷ []) (ruling_fine r 0 (Both own (sum_of (f ∷ []))) (f ∷ []) types) (i, tt) in
      let l = ledger_there x h u m in
      charged_low K ReadToken (size_of v) (sizes_of (f.type ∷ [])) _ (one_low f.type v i)
      (sound_known K zero_cost _ l.ledger (balance_in v) u l.there (balance_sound v l.ledger u wanted.0 l.uints m))) s n

  ft_balance_by : (x : List ℕ) (at : Span) (es : List Tree) → IsSoundShape K N (head_shape FtBalance (row_of FtBalance) N.context N.names (LeafAt (Named x) at ∷ es)) (ft_balance_form N.take (here K N) (LeafAt (Named x) at ∷ es))
  unfolding head_shape
  ft_balance_by x at (e ∷ []) = fungible_by (row_of FtBalance) _ (LeafAt (Named x) at ∷ e ∷ []) _ (list_any (same x) N.context.fungibles) (λ h. record { each = λ fs shape follows types low s n. ft_balance_each x at h e fs follows types low s n })
  ft_balance_by x at [] = record {
    each = λ fs shape follows types low s n.
        let h = counted (LeafAt (Named x) at ∷ []) 2 (fine_shape (head_shape FtBalance (row_of FtBalance) N.context N.names (LeafAt (Named x) at ∷ [])).faults shape).argument_count in absurd (omega (arith, h));
  }
  ft_balance_by x at (e ∷ d ∷ es) = record {
    each = λ fs shape follows types low s n.
        let h = counted (LeafAt (Named x) at ∷ e ∷ d ∷ es) 2 (fine_shape (head_shape FtBalance (row_of FtBalance) N.context N.names (LeafAt (Named x) at ∷ e ∷ d ∷ es)).faults shape).argument_count in absurd (omega (arith, h));
  }

  pub ft_balance_sound : (es : List Tree) → IsSoundShape K N (head_shape FtBalance (row_of FtBalance) N.context N.names es) (ft_balance_form N.take (here K N) es)
  unfolding head_shape
  ft_balance_sound =
      by_named K N (head_shape FtBalance (row_of FtBalance) N.context N.names) (ft_balance_form N.take (here K N)) (λ x. if_fungible (list_any (same x) N.context.fungibles))
      (λ es h. positive (length es) 1 (counted es 2 h.argument_count)) (λ a es h. h.bad_binding) ft_balance_by

  ft_supply_each : (x : List ℕ) (at : Span) → is_fungible N.context x ≡ true → (fs : List Found) → Follows N.context (all_parts N.names []) fs → type_rules (evaluated (row_of FtSupply) (stated [] (fine UintType)) fs).faults ≡ [] → (s : State) → IsKept K s → IsAsFound K (evaluated (row_of FtSupply) (stated [] (fine UintType)) fs).found (ft_supply_form (here K N) (LeafAt (Named x) at ∷ []) s)
  unfolding ft_supply_form
  ft_supply_each x at h _ ends types s n =
      let r : Ruled = stated [] (fine UintType) [] in
      let l = ledger_there x h s n in
      concluded_sound K N r 0 (Both (Charge ReadToken 0) (sum_of [])) [] _ types
      (sound_charged K ReadToken 0 zero_cost _
      (sound_known K zero_cost _ l.ledger _ s l.there
      (sound_stop K (λ v. IsOf v UintType) (MayThrow [] None) zero_cost (Given (UintV l.ledger.supply)) s (uint_typed l.ledger.supply l.uints.supply) n)))

  ft_supply_by : (x : List ℕ) (at : Span) (es : List Tree) → IsSoundShape K N (head_shape FtSupply (row_of FtSupply) N.context N.names (LeafAt (Named x) at ∷ es)) (ft_supply_form (here K N) (LeafAt (Named x) at ∷ es))
  unfolding head_shape
  ft_supply_by x at [] = fungible_by (row_of FtSupply) _ (LeafAt (Named x) at ∷ []) _ (list_any (same x) N.context.fungibles) (λ h. record { each = λ fs shape follows types low s n. ft_supply_each x at h fs follows types s n })
  ft_supply_by x at (e ∷ es) = record {
    each = λ fs shape follows types low s n.
        let h = counted (LeafAt (Named x) at ∷ e ∷ es) 1 (fine_shape (head_shape FtSupply (row_of FtSupply) N.context N.names (LeafAt (Named x) at ∷ e ∷ es)).faults shape).argument_count in absurd (omega (arith, h));
  }

  pub ft_supply_sound : (es : List Tree) → IsSoundShape K N (head_shape FtSupply (row_of FtSupply) N.context N.names es) (ft_supply_form (here K N) es)
  unfolding head_shape
  ft_supply_sound =
      by_named K N (head_shape FtSupply (row_of FtSupply) N.context N.names) (ft_supply_form (here K N)) (λ x. if_fungible (list_any (same x) N.context.fungibles))
      (λ es h. positive (length es) 0 (counted es 1 h.argument_count)) (λ a es h. h.bad_binding) ft_supply_by

  stx_each : (e : Tree) (fs : List Found) → Follows N.context (all_parts N.names (e ∷ [])) fs → type_rules (evaluated (row_of StxBalance) (stated (APrincipal ∷ []) (fine UintType)) fs).faults ≡ [] → (evaluated (row_of StxBalance) (stated (APrincipal ∷ []) (fine UintType)) fs).found.height ≤ suc N.depth → (s : State) → IsKept K s → IsAsFound K (evaluated (row_of StxBalance) (stated (APrincipal ∷ []) (fine UintType)) fs).found (stx_balance_form N.take (here K N) (e ∷ []) s)
  unfolding stx_balance_form
  stx_each e _ (part {f = f} te ends) types low s n =
      let r : Ruled = stated (APrincipal ∷ []) (fine UintType) (f.type ∷ []) in
      let own = Charge ReadToken (sizes_of (f.type ∷ [])) in
      let low_f : f.height ≤ N.depth = omega (arith, low) in
      single_sound K N e f r 0 own _ te types low_f
      (λ v u i m.
      let wanted = stated_values (APrincipal ∷ []) (fine UintType) (f.type ∷ []) (v ∷ []) (ruling_fine r 0 (Both own (sum_of (f ∷ []))) (f ∷ []) types) (i, tt) in
      charged_low K ReadToken (size_of v) (sizes_of (f.type ∷ [])) _ (one_low f.type v i) (balance_sound v u.stx u wanted.0 (N.world.stx u m) m)) s n

  pub stx_balance_sound : (es : List Tree) → IsSoundShape K N (head_shape StxBalance (row_of StxBalance) N.context N.names es) (stx_balance_form N.take (here K N) es)
  unfolding head_shape
  stx_balance_sound =
      by_one K N (head_shape StxBalance (row_of StxBalance) N.context N.names) (stx_balance_form N.take (here K N)) (λ es h. counted es 1 h.argument_count)
      (λ e. record { each = λ fs shape follows types low s n. stx_each e fs follows types low s n })

  owner_case : {T : Val → Type 0} (o : Option (List ℕ)) (s : State) → ((owner : List ℕ) → o ≡ Some owner → IsHolder owner) → IsKept K s → IsSound K (λ v. IsOf v (OptionalType PrincipalType)) T zero_cost (with_known (owner_value o) give s)
  owner_case {T = T} None s h n = sound_stop K (λ v. IsOf v (OptionalType PrincipalType)) T zero_cost (Given NoneV) s (none_typed PrincipalType) n
  owner_case {T = T} (Some owner) s h n =
      let p = h owner refl in
      let typed : IsOf (PrincipalV p.principal) PrincipalType = principal_typed p.principal p.valid in
      let read : decoded owner ≡ Ok (PrincipalV p.principal) = ap decoded p.spelled ∙ decoded_wire (PrincipalV p.principal) typed.valid in
      subst (λ r. IsSound K (λ v. IsOf v (OptionalType PrincipalType)) T zero_cost (with_known (some_value r) give s)) (sym read)
      (sound_stop K (λ v. IsOf v (OptionalType PrincipalType)) T zero_cost (Given (SomeV (PrincipalV p.principal))) s (some_typed PrincipalType (PrincipalV p.principal) typed refl) n)

  owner_each : (x : List ℕ) (at : Span) (t : PlainType) → named_in x N.context.nonfungibles ≡ Some t → (e : Tree) (fs : List Found) → Follows N.context (all_parts N.names (e ∷ [])) fs → type_rules (evaluated (row_of NftOwner) (stated (Admitted t ∷ []) (fine (OptionalType PrincipalType))) fs).faults ≡ [] → (evaluated (row_of NftOwner) (stated (Admitted t ∷ []) (fine (OptionalType PrincipalType))) fs).found.height ≤ suc N.depth → (s : State) → IsKept K s → IsAsFound K (evaluated (row_of NftOwner) (stated (Admitted t ∷ []) (fine (OptionalType PrincipalType))) fs).found (nft_owner_form N.take (here K N) (LeafAt (Named x) at ∷ e ∷ []) s)
  unfolding nft_owner_form
  owner_each x at t h e _ (part {f = f} te ends) types low s n =
      let r : Ruled = stated (Admitted t ∷ []) (fine (OptionalType PrincipalType)) (f.type ∷ []) in
      let own = Charge ReadToken (sizes_of (f.type ∷ [])) in
      let low_f : f.height ≤ N.depth = omega (arith, low) in
      single_sound K N e f r 0 own _ te types low_f
      (λ v u i m.
      let l = owners_there x t h u m in
      charged_low K ReadToken (size_of v) (sizes_of (f.type ∷ [])) _ (one_low f.type v i)
      (sound_known K zero_cost _ l.owners _ u l.there (owner_case (get (wire v) l.owners) u (l.principals (wire v)) m))) s n

  owner_by : (x : List ℕ) (at : Span) (es : List Tree) → IsSoundShape K N (head_shape NftOwner (row_of NftOwner) N.context N.names (LeafAt (Named x) at ∷ es)) (nft_owner_form N.take (here K N) (LeafAt (Named x) at ∷ es))
  unfolding head_shape
  owner_by x at (e ∷ []) = owners_by (row_of NftOwner) _ (LeafAt (Named x) at ∷ e ∷ []) _ (named_in x N.context.nonfungibles) (λ t h. record { each = λ fs shape follows types low s n. owner_each x at t h e fs follows types low s n })
  owner_by x at [] = record {
    each = λ fs shape follows types low s n.
        let h = counted (LeafAt (Named x) at ∷ []) 2 (fine_shape (head_shape NftOwner (row_of NftOwner) N.context N.names (LeafAt (Named x) at ∷ [])).faults shape).argument_count in absurd (omega (arith, h));
  }
  owner_by x at (e ∷ d ∷ es) = record {
    each = λ fs shape follows types low s n.
        let h = counted (LeafAt (Named x) at ∷ e ∷ d ∷ es) 2 (fine_shape (head_shape NftOwner (row_of NftOwner) N.context N.names (LeafAt (Named x) at ∷ e ∷ d ∷ es)).faults shape).argument_count in absurd (omega (arith, h));
  }

  pub nft_owner_sound : (es : List Tree) → IsSoundShape K N (head_shape NftOwner (row_of NftOwner) N.context N.names es) (nft_owner_form N.take (here K N) es)
  unfolding head_shape
  nft_owner_sound =
      by_named K N (head_shape NftOwner (row_of NftOwner) N.context N.names) (nft_owner_form N.take (here K N)) (λ x. named_in x N.context.nonfungibles)
      (λ es h. positive (length es) 1 (counted es 2 h.argument_count)) (λ a es h. h.bad_binding) owner_by

  -- ---- events

  print_each : (e : Tree) (fs : List Found) → Follows N.context (all_parts N.names (e ∷ [])) fs → type_rules (evaluated (row_of Print) (one fine) fs).faults ≡ [] → (evaluated (row_of Print) (one fine) fs).found.height ≤ suc N.depth → (s : State) → IsKept K s → IsAsFound K (evaluated (row_of Print) (one fine) fs).found (print_form N.take (here K N) (e ∷ []) s)
  unfolding print_form
  print_each e _ (part {f = f} te ends) types low s n =
      let own = Charge EventCost (sizes_of (f.type ∷ [])) in
      let low_f : f.height ≤ N.depth = omega (arith, low) in
      single_sound K N e f (fine f.type) 0 own _ te types low_f
      (λ v u i m. charged_low K EventCost (size_of v) (sizes_of (f.type ∷ [])) _ (one_low f.type v i)
      (sound_stop K (λ v. IsOf v f.type) (MayThrow (f ∷ []) None) zero_cost (Given v) _ i (N.world.events N.frame.contract (PrintOf v) u m))) s n

  pub print_sound : (es : List Tree) → IsSoundShape K N (head_shape Print (row_of Print) N.context N.names es) (print_form N.take (here K N) es)
  unfolding head_shape
  print_sound =
      by_one K N (head_shape Print (row_of Print) N.context N.names) (print_form N.take (here K N)) (λ es h. counted es 1 h.argument_count)
      (λ e. record { each = λ fs shape follows types low s n. print_each e fs follows types low s n })
