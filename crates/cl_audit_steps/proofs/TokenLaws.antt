-- Tokens and STX.
use Rattle.std.proofs.Common.{◌≡◌, ℕ, ◌+◌, ◌≤◌, Bool, true, false, List, [], ◌∷◌, length, nat_le, option_map, Option, Some, None, Result, Ok, Err, refl, sym, ap, ◌∙◌, subst, arith}
use Rattle.std.specs.Prelude.{◌&&◌, if◌then◌else◌, is_some, IfSome}
use Rattle.std.proofs.lemmas.Bool.Decides.{nat_tests}
use Rattle.cl_types.specs.declared.fault.Fault.{Fault}
use Rattle.cl_types.specs.declared.fault.Fault.TheVariants.{Refused}
use Rattle.cl_c32.specs.declared.principal.Principal.{Principal}
use Rattle.cl_sexpr.specs.Tree.{Tree, LeafAt, ListAt, TupleAt, Named}
use Rattle.cl_values.specs.Computed.{Gives}
use Rattle.cl_values.specs.declared.fault.DecodeRefusal.{DecodeRefusal}
use Rattle.cl_values.specs.Reading.{decoded}
use Rattle.cl_values.specs.Tree.{Tree as Val, UintV, BoolV, PrincipalV, SomeV, ResponseV}
use Rattle.cl_values.specs.Valid.{IsPrincipal, IsContractPart}
use Rattle.cl_values.specs.Wire.{wire, contract_size}
use Rattle.cl_maps.specs.Maps.{get, put}
use Rattle.cl_tokens.specs.declared.refusal.TokenRefusal.{TokenRefusal}
use Rattle.cl_tokens.specs.declared.refusal.TokenRefusal.TheVariants.{Code, SupplyOverflow}
use Rattle.cl_tokens.specs.Ledger.{Ledger, balance, minted, sent, burnt}
use Rattle.cl_tokens.specs.Owners.{Owners, asset_minted, asset_sent, asset_burnt}
use Rattle.cl_forms.specs.declared.head.TokenNative.{TokenNative}
use Rattle.cl_forms.specs.declared.head.TokenNative.TheVariants as tokens
use Rattle.cl_events.specs.declared.event.EventKind.{EventKind}
use Rattle.cl_events.specs.declared.event.EventKind.TheVariants.{Print, FtMint, FtTransfer, FtBurn, NftMint, NftTransfer, NftBurn, StxTransfer, StxBurn}
use Rattle.cl_events.specs.Acts.{Acted, acted, acted_by, changed, told, on_ledger, on_owners, replaced, sender_refusal}
use Rattle.cl_events.specs.State.{State, holder, place, with_fungibles, with_nonfungibles}
use Rattle.cl_tables.specs.Amounts.{balance_in as balance_by, owner_in}
use Rattle.cl_tables.specs.Deeds.{is_there}
use Rattle.cl_state.specs.Rows.{ActsOn}
use Rattle.cl_state.specs.Stack.{Stack, with_top}
use Rattle.cl_operands.specs.ActParts.{principal_of}
use Rattle.cl_meaning.specs.Answers.{Answer, Given, Wrong, Aborted, BySupply, stop, give, wrong, and_then, with_known, outcome_of}
use Rattle.cl_meaning.specs.Scope.{Scope, Take, parts}
use Rattle.cl_meaning.specs.Tokens.{balance_in, owner_value, some_value, answered, acts, ft_balance_form, ft_supply_form, stx_balance_form, nft_owner_form, token_form, named_act_form}
use Rattle.cl_walks.specs.declared.stop.Why.TheVariants as why
use Rattle.cl_audit_steps.specs.declared.step.Last.{Last}
use Rattle.cl_audit_steps.specs.declared.step.Last.TheVariants as last
use Rattle.cl_audit_steps.specs.declared.step.OnActs.{OnActs}
use Rattle.cl_audit_steps.specs.declared.step.OnActs.TheVariants as many
use Rattle.cl_audit_steps.specs.Acting.{DoesLast, IsGiven}
use Rattle.cl_audit_steps.specs.Items.{one_of, atom_of, named_of, headed}
use Rattle.cl_audit_steps.specs.Steps.{supply_read, balance_read, stx_read, owner_read, owner_given, amount_read, token_acted, stx_act, on_acts}
use Rattle.cl_audit_steps.specs.Ways.{IsComputed}
use Rattle.cl_audit_steps.proofs.DataLaws.{by_name}
use Rattle.cl_audit_steps.proofs.FormLaws.{by}

-- ---- the forms

pub supply_by : (es : List Tree) (S : Scope) (s : State) → ft_supply_form S es s ≡ by (one_of es) (λ e. by_name (atom_of e) (supply_read S)) s
unfolding ft_supply_form by by_name
supply_by [] S s = refl
supply_by (LeafAt (Named x) at ∷ []) S s = refl
supply_by (LeafAt l at ∷ []) S s = refl
supply_by (ListAt fs at ∷ []) S s = refl
supply_by (TupleAt ps at ∷ []) S s = refl
supply_by (LeafAt (Named x) at ∷ e ∷ es) S s = refl
supply_by (LeafAt l at ∷ e ∷ es) S s = refl
supply_by (ListAt fs at ∷ e ∷ es) S s = refl
supply_by (TupleAt ps at ∷ e ∷ es) S s = refl

pub balance_by_name : (es : List Tree) (take : Take) (S : Scope) (s : State) → ft_balance_form take S es s ≡ by (named_of es) (λ p t. and_then (take S p.1 t) (balance_read S p.0)) s
unfolding ft_balance_form by
balance_by_name [] take S s = refl
balance_by_name (LeafAt (Named x) at ∷ []) take S s = refl
balance_by_name (LeafAt l at ∷ []) take S s = refl
balance_by_name (ListAt fs at ∷ []) take S s = refl
balance_by_name (TupleAt ps at ∷ []) take S s = refl
balance_by_name (LeafAt (Named x) at ∷ e ∷ []) take S s = refl
balance_by_name (LeafAt l at ∷ e ∷ []) take S s = refl
balance_by_name (ListAt fs at ∷ e ∷ []) take S s = refl
balance_by_name (TupleAt ps at ∷ e ∷ []) take S s = refl
balance_by_name (LeafAt (Named x) at ∷ e ∷ d ∷ es) take S s = refl
balance_by_name (LeafAt l at ∷ e ∷ d ∷ es) take S s = refl
balance_by_name (ListAt fs at ∷ e ∷ d ∷ es) take S s = refl
balance_by_name (TupleAt ps at ∷ e ∷ d ∷ es) take S s = refl

pub owner_by : (es : List Tree) (take : Take) (S : Scope) (s : State) → nft_owner_form take S es s ≡ by (named_of es) (λ p t. and_then (take S p.1 t) (owner_read S p.0)) s
unfolding nft_owner_form by
owner_by [] take S s = refl
owner_by (LeafAt (Named x) at ∷ []) take S s = refl
owner_by (LeafAt l at ∷ []) take S s = refl
owner_by (ListAt fs at ∷ []) take S s = refl
owner_by (TupleAt ps at ∷ []) take S s = refl
owner_by (LeafAt (Named x) at ∷ e ∷ []) take S s = refl
owner_by (LeafAt l at ∷ e ∷ []) take S s = refl
owner_by (ListAt fs at ∷ e ∷ []) take S s = refl
owner_by (TupleAt ps at ∷ e ∷ []) take S s = refl
owner_by (LeafAt (Named x) at ∷ e ∷ d ∷ es) take S s = refl
owner_by (LeafAt l at ∷ e ∷ d ∷ es) take S s = refl
owner_by (ListAt fs at ∷ e ∷ d ∷ es) take S s = refl
owner_by (TupleAt ps at ∷ e ∷ d ∷ es) take S s = refl

pub stx_by : (es : List Tree) (take : Take) (S : Scope) (s : State) → stx_balance_form take S es s ≡ by (one_of es) (λ e t. and_then (take S e t) stx_read) s
unfolding stx_balance_form by
stx_by [] take S s = refl
stx_by (e ∷ []) take S s = refl
stx_by (e ∷ d ∷ es) take S s = refl

pub token_by : (n : TokenNative) (es : List Tree) (take : Take) (S : Scope) (s : State) → named_act_form n take S es s ≡ by (headed es) (λ p t. and_then (parts take S p.1 t) (token_acted n S p.0)) s
unfolding by
token_by n [] take S s = refl
token_by n (LeafAt (Named x) at ∷ es) take S s = refl
token_by n (LeafAt l at ∷ es) take S s = refl
token_by n (ListAt fs at ∷ es) take S s = refl
token_by n (TupleAt ps at ∷ es) take S s = refl

pub on_stx_is : (n : TokenNative) (k : OnActs) (es : List Tree) (take : Take) (S : Scope) (s : State) → Some k ≡ stx_act n → token_form n take S es s ≡ and_then (parts take S es s) (on_acts S k)
unfolding token_form
on_stx_is tokens.SendStx k es take S s h =
    let same : many.SendStx ≡ k = cc in
    ap (λ i. and_then (parts take S es s) (on_acts S i)) same
on_stx_is tokens.BurnStx k es take S s h =
    let same : many.BurnStx ≡ k = cc in
    ap (λ i. and_then (parts take S es s) (on_acts S i)) same
on_stx_is n k es take S s h = absurd cc

pub on_token_is : (n : TokenNative) (es : List Tree) (take : Take) (S : Scope) (s : State) → None ≡ stx_act n → token_form n take S es s ≡ named_act_form n take S es s
unfolding token_form
on_token_is tokens.SendStx es take S s h = absurd cc
on_token_is tokens.BurnStx es take S s h = absurd cc
on_token_is n es take S s h = refl

-- ---- what is read

absent : {A : Type 0} (o : Option A) → is_some o ≡ false → o ≡ None
absent None h = refl
absent (Some a) h = absurd cc

pub not_there : {A : Type 0} (o : Option A) (b : Bool) (go_on : A → State → Answer Val) (s : State) → b ≡ is_some o → b ≡ false → with_known o go_on s ≡ wrong s
not_there o b go_on s h k = ap (λ p. with_known p go_on s) (absent o (sym h ∙ k))

supply_of : (o : Option Ledger) (n : ℕ) (v : Val) (s : State) → is_some o ≡ true → IfSome o (λ l. n ≡ l.supply) → v ≡ UintV n → with_known o (λ l. give (UintV l.supply)) s ≡ give v s
supply_of None n v s h k e = absurd cc
supply_of (Some l) n v s h k e = sym (ap (λ w. give w s) (e ∙ ap UintV k))

pub supply_is : (o : Option Ledger) (b : Bool) (n : ℕ) (v : Val) (s : State) → b ≡ is_some o → b ≡ true → IfSome o (λ l. n ≡ l.supply) → v ≡ UintV n → with_known o (λ l. give (UintV l.supply)) s ≡ give v s
supply_is o b n v s h t k e = supply_of o n v s (sym h ∙ t) k e

balance_of : (o : Option Ledger) (v : Val) (s : State) → is_some o ≡ true → with_known o (balance_in v) s ≡ amount_read (λ who. balance_by (holder who) o) v s
balance_of None v s h = absurd cc
balance_of (Some l) (PrincipalV who) s h = refl
balance_of (Some l) v s h = refl

pub balance_is : (o : Option Ledger) (b : Bool) (v : Val) (s : State) → b ≡ is_some o → b ≡ true → with_known o (balance_in v) s ≡ amount_read (λ who. balance_by (holder who) o) v s
balance_is o b v s h t = balance_of o v s (sym h ∙ t)

pub stx_is : (l : Ledger) (v : Val) (s : State) → balance_in v l s ≡ amount_read (λ who. balance (holder who) l.balances) v s
stx_is l (PrincipalV who) s = refl
stx_is l v s = refl

pub amount_is : (amount : Principal → ℕ) (v w : Val) (o : Option Principal) (who : Principal) (n : ℕ) (s : State) → o ≡ principal_of v → o ≡ Some who → n ≡ amount who → w ≡ UintV n → amount_read amount v s ≡ give w s
amount_is amount v w o who n s h k m e = ap (λ p. with_known p (λ x. give (UintV (amount x))) s) (sym h ∙ k) ∙ sym (ap (λ u. give u s) (e ∙ ap UintV m))

pub no_amount : (amount : Principal → ℕ) (v : Val) (o : Option Principal) (s : State) → o ≡ principal_of v → o ≡ None → amount_read amount v s ≡ wrong s
no_amount amount v o s h k = ap (λ p. with_known p (λ x. give (UintV (amount x))) s) (sym h ∙ k)

-- ---- owners

le_true : (m n : ℕ) → m ≤ n → nat_le m n ≡ true
le_true m n h = grind (arith, nat_tests)

size_small : (m k : ℕ) → m ≡ 20 → k ≤ 129 → nat_le (1 + (2 + m + k)) 1048576 ≡ true
size_small m k h i = le_true (1 + (2 + m + k)) 1048576 (omega (arith, h, i))

contract_small : (p : Principal) → IsPrincipal p → contract_size p.contract ≤ 129
contract_small p h = by_part p.contract h.1
  where
    by_part : (o : Option (List ℕ)) → IsContractPart o → contract_size o ≤ 129
    by_part None k = omega arith
    by_part (Some name) k = omega (arith, k.within)

owner_fits : (p : Principal) → IsPrincipal p → outcome_of (Gives (SomeV (PrincipalV p))) ≡ Given (SomeV (PrincipalV p))
owner_fits p h =
    ap (λ b. if true && b then Given (SomeV (PrincipalV p)) else Wrong) (size_small (length p.address.hash) (contract_size p.contract) h.0.size (contract_small p h))

-- an owner that is computed as an optional value
pub some_given : {E : Type 0} (p : Principal) (v : Val) (r : Result Last E) → IsPrincipal p → v ≡ PrincipalV p → IsComputed (Gives (SomeV v)) r → IsGiven (give (SomeV (PrincipalV p))) r
some_given p v (Ok l) h k is = λ S take enter s. ap (λ o. stop o s) (sym (owner_fits p h)) ∙ ap (λ u. stop (outcome_of (Gives (SomeV u))) s) (sym k) ∙ is S take enter s
some_given p v (Err e) h k is = tt

pub owner_at : {E : Type 0} (o q : Option Principal) (r : Result Last E) → o ≡ q → IsGiven (owner_given q) r → IsGiven (owner_given o) r
owner_at o q r h is = subst (λ p. IsGiven (owner_given p) r) (sym h) is

owner_read_by : (m : Owners) (id : Val) (found : Option Principal) (s : State) → option_map (λ q. holder q) found ≡ get (wire id) m → IfSome found (λ q. decoded (holder q) ≡ Ok (PrincipalV q)) → with_known (owner_value (get (wire id) m)) give s ≡ owner_given found s
owner_read_by m id None s h d = sym (ap (λ w. with_known (owner_value w) give s) h)
owner_read_by m id (Some who) s h d =
    sym (ap (λ w. with_known (owner_value w) give s) h) ∙ ap (λ (w : Result Val DecodeRefusal). with_known (some_value w) give s) d

owner_of_known : (o : Option Owners) (id : Val) (found : Option Principal) (s : State) → is_some o ≡ true → option_map (λ q. holder q) found ≡ owner_in (wire id) o → IfSome found (λ q. decoded (holder q) ≡ Ok (PrincipalV q)) → with_known o (λ owners. with_known (owner_value (get (wire id) owners)) give) s ≡ owner_given found s
owner_of_known None id found s h k d = absurd cc
owner_of_known (Some m) id found s h k d = owner_read_by m id found s k d

pub owner_is : (o : Option Owners) (b : Bool) (id : Val) (found : Option Principal) (s : State) → b ≡ is_some o → b ≡ true → option_map (λ q. holder q) found ≡ owner_in (wire id) o → IfSome found (λ q. decoded (holder q) ≡ Ok (PrincipalV q)) → with_known o (λ owners. with_known (owner_value (get (wire id) owners)) give) s ≡ owner_given found s
owner_is o b id found s h t k d = owner_of_known o id found s (sym h ∙ t) k d

-- ---- acts

no_ledger : (contract : Principal) (kind : EventKind) (at : List ℕ) (act : Ledger → Result Ledger TokenRefusal) (s : State) → is_some (get at s.fungibles) ≡ false → told contract kind (on_ledger at act s) ≡ None
no_ledger contract kind at act s h = ap (λ o. told contract kind (elim o [ None ↦ None | Some l ↦ replaced (λ m. with_fungibles (put at m s.fungibles) s) (act l) ])) (absent (get at s.fungibles) h)

no_owners : (contract : Principal) (kind : EventKind) (at : List ℕ) (act : Owners → Result Owners TokenRefusal) (s : State) → is_some (get at s.nonfungibles) ≡ false → told contract kind (on_owners at act s) ≡ None
no_owners contract kind at act s h = ap (λ o. told contract kind (elim o [ None ↦ None | Some l ↦ replaced (λ m. with_nonfungibles (put at m s.nonfungibles) s) (act l) ])) (absent (get at s.nonfungibles) h)

no_act : (contract : Principal) (kind : EventKind) (s : State) → is_there contract kind s ≡ false → acted contract kind s ≡ None
unfolding acted changed
no_act contract (Print v) s h = refl
no_act contract (FtMint token amount to) s h = no_ledger contract (FtMint token amount to) (place contract token) (minted amount (holder to)) s h
no_act contract (FtTransfer token amount from to) s h = no_ledger contract (FtTransfer token amount from to) (place contract token) (sent amount (holder from) (holder to)) s h
no_act contract (FtBurn token amount from) s h = no_ledger contract (FtBurn token amount from) (place contract token) (burnt amount (holder from)) s h
no_act contract (NftMint token id to) s h = no_owners contract (NftMint token id to) (place contract token) (asset_minted (wire id) (holder to)) s h
no_act contract (NftTransfer token id from to) s h = no_owners contract (NftTransfer token id from to) (place contract token) (asset_sent (wire id) (holder from) (holder to)) s h
no_act contract (NftBurn token id from) s h = no_owners contract (NftBurn token id from) (place contract token) (asset_burnt (wire id) (holder from)) s h
no_act contract (StxTransfer amount from to) s h = absurd cc
no_act contract (StxBurn amount from) s h = absurd cc

module _ (S : Scope) where
  -- there is no such token
  pub act_lost : {E : Type 0} (contract : Principal) (kind : EventKind) (b : Bool) (old : Stack) → b ≡ is_there contract kind old.top → b ≡ false → DoesLast {E = E} S (λ s. answered s (acted contract kind s)) old (Ok last.Wrong) old
  act_lost contract kind b old h k = record { done = λ take enter. ap (answered old.top) (no_act contract kind old.top (sym h ∙ k)); below = refl }

  pub act_done : {E : Type 0} (contract : Principal) (kind : EventKind) (t : State) (old new : Stack) (r : Result Last E) → acted contract kind old.top ≡ Some (Ok t) → new ≡ with_top old t → IsComputed (Gives (ResponseV true (BoolV true))) r → DoesLast S (λ s. answered s (acted contract kind s)) old r new
  act_done contract kind t old new (Ok l) h k is = record {
    done = λ take enter. ap (answered old.top) h ∙ ap (λ (u : Stack). give (ResponseV true (BoolV true)) u.top) (sym k) ∙ is S take enter new.top;
    below = ap (λ (u : Stack). u.below) k;
  }
  act_done contract kind t old new (Err e) h k is = record { done = tt; below = ap (λ (u : Stack). u.below) k }

  pub act_refused : {E : Type 0} (contract : Principal) (kind : EventKind) (n : ℕ) (old new : Stack) (r : Result Last E) → acted contract kind old.top ≡ Some (Err (Code n)) → new ≡ old → IsComputed (Gives (ResponseV false (UintV n))) r → DoesLast S (λ s. answered s (acted contract kind s)) old r new
  act_refused contract kind n old new (Ok l) h k is = record {
    done = λ take enter. ap (answered old.top) h ∙ ap (λ (u : Stack). give (ResponseV false (UintV n)) u.top) (sym k) ∙ is S take enter new.top;
    below = ap (λ (u : Stack). u.below) k;
  }
  act_refused contract kind n old new (Err e) h k is = record { done = tt; below = ap (λ (u : Stack). u.below) k }

  pub act_overflows : {E : Type 0} (contract : Principal) (kind : EventKind) (old new : Stack) → acted contract kind old.top ≡ Some (Err SupplyOverflow) → new ≡ old → DoesLast {E = E} S (λ s. answered s (acted contract kind s)) old (Ok (last.Abort why.Supply)) new
  act_overflows contract kind old new h k = record {
    done = λ take enter. ap (answered old.top) h ∙ ap (λ (u : Stack). stop (Aborted BySupply) u.top) (sym k);
    below = ap (λ (u : Stack). u.below) k;
  }

  pub act_forgot : {E : Type 0} (form : State → Answer Val) (e : E) (old new : Stack) → new ≡ old → DoesLast S form old (Err e) new
  act_forgot form e old new k = record { done = tt; below = ap (λ (u : Stack). u.below) k }

  -- refused by the tests up to that of the sender
  pub other_sender : {E : Type 0} (kind : EventKind) (n : ℕ) (old : Stack) (r : Result Last E) → sender_refusal S.frame.sender kind ≡ Some n → IsComputed (Gives (ResponseV false (UintV n))) r → DoesLast S (acts S kind) old r old
  unfolding acted_by
  other_sender kind n old (Ok l) h is = record {
    done = λ take enter. ap (λ o. answered old.top (elim o [ None ↦ acted S.frame.contract kind old.top | Some m ↦ Some (Err (Code m)) ])) h ∙ is S take enter old.top;
    below = refl;
  }
  other_sender kind n old (Err e) h is = record { done = tt; below = refl }

  pub own_sender : {E : Type 0} (kind : EventKind) (old new : Stack) (r : Result Last E) → sender_refusal S.frame.sender kind ≡ None → DoesLast S (λ s. answered s (acted S.frame.contract kind s)) old r new → DoesLast S (acts S kind) old r new
  unfolding acted_by
  own_sender kind old new (Ok l) h is = record {
    done = λ take enter. ap (λ o. answered old.top (elim o [ None ↦ acted S.frame.contract kind old.top | Some n ↦ Some (Err (Code n)) ])) h ∙ is.done take enter;
    below = is.below;
  }
  own_sender kind old new (Err e) h is = record { done = tt; below = is.below }

  pub known_act : {E : Type 0} (o : Option EventKind) (kind : EventKind) (old new : Stack) (r : Result Last E) → o ≡ Some kind → DoesLast S (acts S kind) old r new → DoesLast S (with_known o (acts S)) old r new
  known_act o kind old new r h is = subst (λ p. DoesLast S (with_known p (acts S)) old r new) (sym h) is

  pub no_known_act : {E : Type 0} (o : Option EventKind) (old : Stack) → o ≡ None → DoesLast {E = E} S (with_known o (acts S)) old (Ok last.Wrong) old
  no_known_act {E} o old h = subst (λ p. DoesLast {E = E} S (with_known p (acts S)) old (Ok last.Wrong) old) (sym h) (record { done = λ take enter. refl; below = refl })

-- what a refused act has done
pub refused_act : (a : Acted) (old new : Stack) (fault : Fault TokenRefusal) (refusal : TokenRefusal) → fault ≡ Refused refusal → ActsOn a old (Err fault) new → (a ≡ Some (Err refusal)) × (new ≡ old)
refused_act a old new fault refusal h d = subst (λ f. ActsOn a old (Err f) new) h d

pub refusal_made : {E : Type 0} (n m : ℕ) (v : Val) (r : Result Last E) → v ≡ UintV m → m ≡ n → IsComputed (Gives (ResponseV false v)) r → IsComputed (Gives (ResponseV false (UintV n))) r
refusal_made n m v r h k is = subst (λ u. IsComputed (Gives (ResponseV false u)) r) (h ∙ ap UintV k) is

pub done_made : {E : Type 0} (v : Val) (r : Result Last E) → v ≡ BoolV true → IsComputed (Gives (ResponseV true v)) r → IsComputed (Gives (ResponseV true (BoolV true))) r
done_made v r h is = subst (λ u. IsComputed (Gives (ResponseV true u)) r) h is
