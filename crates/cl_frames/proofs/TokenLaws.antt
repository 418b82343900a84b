-- Natives on tokens and STX.
use Rattle.std.proofs.Common.{◌≡◌, ◌≤◌, ◌+◌, List, ℕ, length, true, false, Option, Some, None, Result, Ok, Err, refl, sym, ap, ◌∙◌, subst, arith}
use Rattle.std.specs.Prelude.{is_some, IfSome, option_map, ◌&&◌, nat_le, if◌then◌else◌}
use Rattle.std.proofs.lemmas.Bool.Decides.{nat_tests}
use Rattle.cl_c32.specs.declared.principal.Principal.{Principal}
use Rattle.cl_shapes.specs.Limits.{Purse}
use Rattle.cl_values.specs.declared.fault.DecodeRefusal.{DecodeRefusal}
use Rattle.cl_values.specs.Tree.{Tree as Val, UintV, BoolV, PrincipalV, NoneV, SomeV, ResponseV}
use Rattle.cl_values.specs.Wire.{wire, contract_size}
use Rattle.cl_values.specs.Reading.{decoded}
use Rattle.cl_values.specs.Valid.{IsPrincipal}
use Rattle.cl_values.specs.Computed.{Gives}
use Rattle.cl_maps.specs.Maps.{get}
use Rattle.cl_tokens.specs.declared.refusal.TokenRefusal.TheVariants.{Code, SupplyOverflow}
use Rattle.cl_tokens.specs.declared.refusal.TokenRefusal.{TokenRefusal}
use Rattle.cl_tokens.specs.Ledger.{Ledger, balance, minted, sent, burnt}
use Rattle.cl_tokens.specs.Owners.{Owners, asset_minted, asset_sent, asset_burnt}
use Rattle.cl_events.specs.declared.event.EventKind.{EventKind}
use Rattle.cl_events.specs.declared.event.EventKind.TheVariants.{Print, FtMint, FtTransfer, FtBurn, NftMint, NftTransfer, NftBurn, StxTransfer, StxBurn}
use Rattle.cl_events.specs.State.{State, holder, place}
use Rattle.cl_events.specs.Acts.{Acted, acted, acted_by, changed, told, on_ledger, on_owners, sender_refusal}
use Rattle.cl_tables.specs.Deeds.{is_there}
use Rattle.cl_tables.specs.Amounts.{balance_in as balance_by}
use Rattle.cl_types.specs.declared.fault.Fault.{Fault}
use Rattle.cl_types.specs.declared.fault.Fault.TheVariants.{Refused}
use Rattle.cl_state.specs.Stack.{Stack, with_top}
use Rattle.cl_state.specs.Rows.{ActsOn}
use Rattle.cl_meaning.specs.Answers.{Answer, Given, Aborted, BySupply, stop, give, with_known, outcome_of}
use Rattle.cl_meaning.specs.Tokens.{balance_in, answered, acts, owner_value}
use Rattle.cl_meaning.specs.Scope.{Scope}
use Rattle.cl_meaning.specs.Limits.{Costs, Gave, AbortedBy, Lost, limited}
use Rattle.cl_meaning.proofs.LimitLaws.{limited-stop}
use Rattle.cl_frames.specs.declared.stop.Stop.{Stop}
use Rattle.cl_frames.specs.ActParts.{principal_of}
use Rattle.cl_frames.specs.Tails.{amount_read}
use Rattle.cl_frames.specs.Runs.{Ends, Computes}
use Rattle.cl_frames.proofs.Steps.{ends_so, native_ends, gives}

-- ---- what is there

absent_one : {A : Type 0} (o : Option A) → is_some o ≡ false → o ≡ None
absent_one None h = refl
absent_one (Some a) h = absurd cc

pub not_there : {A B : Type 0} (costs : Costs) (p : Purse) (o : Option A) (go_on : A → State → Answer B) (s : State) → is_some o ≡ false → limited costs p (with_known o go_on s) ≡ Lost p
not_there costs p None go_on s h = limited-stop costs p Rattle.cl_meaning.specs.Answers.Wrong s
not_there costs p (Some a) go_on s h = absurd cc

pub supply_is : (costs : Costs) (p : Purse) (o : Option Ledger) (n : ℕ) (v : Val) (s : State) → is_some o ≡ true → IfSome o (λ l. n ≡ l.supply) → v ≡ UintV n → limited costs p (with_known o (λ l. give (UintV l.supply)) s) ≡ Gave v s p
supply_is costs p None n v s h k e = absurd cc
supply_is costs p (Some l) n v s h k e = gives costs p (UintV l.supply) v s s (e ∙ ap UintV k) refl

pub balance_is : (o : Option Ledger) (v : Val) (s : State) → is_some o ≡ true → with_known o (balance_in v) s ≡ amount_read (λ who. balance_by (holder who) o) v s
balance_is None v s h = absurd cc
balance_is (Some l) (PrincipalV who) s h = refl
balance_is (Some l) v s h = refl

pub stx_is : (l : Ledger) (v : Val) (s : State) → balance_in v l s ≡ amount_read (λ who. balance (holder who) l.balances) v s
stx_is l (PrincipalV who) s = refl
stx_is l v s = refl

pub amount_is : (costs : Costs) (p : Purse) (amount : Principal → ℕ) (v : Val) (who : Principal) (n : ℕ) (w : Val) (s : State) → principal_of v ≡ Some who → n ≡ amount who → w ≡ UintV n → limited costs p (amount_read amount v s) ≡ Gave w s p
amount_is costs p amount v who n w s h k e =
    ap (λ o. limited costs p (with_known o (λ x. give (UintV (amount x))) s)) h ∙ gives costs p (UintV (amount who)) w s s (e ∙ ap UintV k) refl

-- ---- owners

le_true : (m n : ℕ) → m ≤ n → nat_le m n ≡ true
le_true m n h = grind (arith, nat_tests)

size_small : (m k : ℕ) → m ≡ 20 → k ≤ 129 → nat_le (1 + (2 + m + k)) 1048576 ≡ true
size_small m k h i = le_true (1 + (2 + m + k)) 1048576 (omega (arith, h, i))

contract_small : (p : Principal) → IsPrincipal p → contract_size p.contract ≤ 129
contract_small p h = by_part p.contract h.1
  where
    by_part : (o : Option (List ℕ)) → Rattle.cl_values.specs.Valid.IsContractPart o → contract_size o ≤ 129
    by_part None k = omega arith
    by_part (Some name) k = omega (arith, k.within)

pub owner_given : (p : Principal) → IsPrincipal p → outcome_of (Gives (SomeV (PrincipalV p))) ≡ Given (SomeV (PrincipalV p))
owner_given p h =
    ap (λ b. if true && b then Given (SomeV (PrincipalV p)) else Rattle.cl_meaning.specs.Answers.Wrong) (size_small (length p.address.hash) (contract_size p.contract) h.0.size (contract_small p h))

pub some_ends : (costs : Costs) (q : Purse) (p : Principal) (v : Val) (r : Result Val Stop) (s : State) → IsPrincipal p → v ≡ PrincipalV p → Computes (outcome_of (Gives (SomeV v))) r → Ends (limited costs q (give (SomeV (PrincipalV p)) s)) r q s
some_ends costs q p v r s h k c =
    ends_so _ _ _ _ _ (ap (λ o. limited costs q (stop o s)) (sym (owner_given p h)) ∙ ap (λ u. limited costs q (stop (outcome_of (Gives (SomeV u))) s)) (sym k)) (native_ends costs q (outcome_of (Gives (SomeV v))) r s c)

-- the owner of an asset, as the code has found it
pub owner_is : (costs : Costs) (p : Purse) (o : Option Owners) (id : Val) (found : Option Principal) (who : Principal) (s : State) → is_some o ≡ true → option_map (λ q. holder q) found ≡ Rattle.cl_tables.specs.Amounts.owner_in (wire id) o → found ≡ Some who → IfSome found (λ q. decoded (holder q) ≡ Ok (PrincipalV q)) → limited costs p (with_known o (λ owners. with_known (owner_value (get (wire id) owners)) give) s) ≡ limited costs p (give (SomeV (PrincipalV who)) s)
owner_is costs p None id found who s h k e d = absurd cc
owner_is costs p (Some m) id found who s h k e d =
    let at : get (wire id) m ≡ Some (holder who) = sym k ∙ ap (option_map (λ q. holder q)) e in
    let read : decoded (holder who) ≡ Ok (PrincipalV who) = subst (λ f. IfSome f (λ q. decoded (holder q) ≡ Ok (PrincipalV q))) e d in
    ap (λ w. limited costs p (with_known (owner_value w) give s)) at
    ∙ ap (λ (w : Result Val DecodeRefusal). limited costs p (with_known (Rattle.cl_meaning.specs.Tokens.some_value w) give s)) read

pub no_owner : (costs : Costs) (p : Purse) (o : Option Owners) (id : Val) (found : Option Principal) (v : Val) (s : State) → is_some o ≡ true → option_map (λ q. holder q) found ≡ Rattle.cl_tables.specs.Amounts.owner_in (wire id) o → found ≡ None → v ≡ NoneV → limited costs p (with_known o (λ owners. with_known (owner_value (get (wire id) owners)) give) s) ≡ Gave v s p
no_owner costs p None id found v s h k e n = absurd cc
no_owner costs p (Some m) id found v s h k e n =
    let at : get (wire id) m ≡ None = sym k ∙ ap (option_map (λ q. holder q)) e in
    ap (λ w. limited costs p (with_known (owner_value w) give s)) at ∙ gives costs p NoneV v s s n refl

-- ---- acts

no_ledger : (contract : Principal) (kind : EventKind) (at : List ℕ) (act : Ledger → Result Ledger TokenRefusal) (s : State) → is_some (get at s.fungibles) ≡ false → told contract kind (on_ledger at act s) ≡ None
no_ledger contract kind at act s h = ap (λ o. told contract kind (elim o [ None ↦ None | Some l ↦ Rattle.cl_events.specs.Acts.replaced (λ m. Rattle.cl_events.specs.State.with_fungibles (Rattle.cl_maps.specs.Maps.put at m s.fungibles) s) (act l) ])) (absent_one (get at s.fungibles) h)

no_owners : (contract : Principal) (kind : EventKind) (at : List ℕ) (act : Owners → Result Owners TokenRefusal) (s : State) → is_some (get at s.nonfungibles) ≡ false → told contract kind (on_owners at act s) ≡ None
no_owners contract kind at act s h = ap (λ o. told contract kind (elim o [ None ↦ None | Some l ↦ Rattle.cl_events.specs.Acts.replaced (λ m. Rattle.cl_events.specs.State.with_nonfungibles (Rattle.cl_maps.specs.Maps.put at m s.nonfungibles) s) (act l) ])) (absent_one (get at s.nonfungibles) h)

no_act : (contract : Principal) (kind : EventKind) (s : State) → is_there contract kind s ≡ false → acted contract kind s ≡ None
unfolding acted changed
no_act contract (Print v) s h = refl
no_act contract (FtMint token amount to) s h = no_ledger contract (FtMint token amount to) (place contract token) (minted amount (holder to)) s h
no_act contract (FtTransfer token amount from to) s h = no_ledger contract (FtTransfer token amount from to) (place contract token) (sent amount (holder from) (holder to)) s h
no_act contract (FtBurn token amount from) s h = no_ledger contract (FtBurn token amount from) (place contract token) (burnt amount (holder from)) s h
no_act contract (NftMint token id to) s h = no_owners contract (NftMint token id to) (place contract token) (asset_minted (wire id) (holder to)) s h
no_act contract (NftTransfer token id from to) s h = no_owners contract (NftTransfer token id from to) (place contract token) (asset_sent (wire id) (holder from) (holder to)) s h
no_act contract (NftBurn token id from) s h = no_owners contract (NftBurn token id from) (place contract token) (asset_burnt (wire id) (holder from)) s h
no_act contract (StxTransfer amount from to) s h = absurd cc
no_act contract (StxBurn amount from) s h = absurd cc

pub act_lost : (costs : Costs) (p : Purse) (contract : Principal) (kind : EventKind) (s : State) → is_there contract kind s ≡ false → limited costs p (answered s (acted contract kind s)) ≡ Lost p
act_lost costs p contract kind s h = ap (λ a. limited costs p (answered s a)) (no_act contract kind s h) ∙ limited-stop costs p Rattle.cl_meaning.specs.Answers.Wrong s

pub act_done : (costs : Costs) (p : Purse) (a : Acted) (s t : State) (old new : Stack) (r : Result Val Stop) → a ≡ Some (Ok t) → new ≡ with_top old t → Computes (outcome_of (Gives (ResponseV true (BoolV true)))) r → Ends (limited costs p (answered s a)) r p new.top
act_done costs p a s t old new r h k c =
    ends_so _ _ _ _ _ (ap (λ x. limited costs p (answered s x)) h ∙ ap (λ (u : Stack). limited costs p (give (ResponseV true (BoolV true)) u.top)) (sym k)) (native_ends costs p (outcome_of (Gives (ResponseV true (BoolV true)))) r new.top c)

pub act_refused : (costs : Costs) (p : Purse) (a : Acted) (n : ℕ) (s : State) (new : Stack) (r : Result Val Stop) → a ≡ Some (Err (Code n)) → new.top ≡ s → Computes (outcome_of (Gives (ResponseV false (UintV n)))) r → Ends (limited costs p (answered s a)) r p new.top
act_refused costs p a n s new r h k c =
    ends_so _ _ _ _ _ (ap (λ x. limited costs p (answered s x)) h ∙ ap (λ u. limited costs p (give (ResponseV false (UintV n)) u)) (sym k)) (native_ends costs p (outcome_of (Gives (ResponseV false (UintV n)))) r new.top c)

-- what a refused act has done
pub refused_act : (a : Acted) (old new : Stack) (fault : Fault TokenRefusal) (refusal : TokenRefusal) → fault ≡ Refused refusal → ActsOn a old (Err fault) new → (a ≡ Some (Err refusal)) × (new ≡ old)
refused_act a old new fault refusal h d = subst (λ f. ActsOn a old (Err f) new) h d

pub act_overflows : (costs : Costs) (p : Purse) (a : Acted) (s : State) → a ≡ Some (Err SupplyOverflow) → limited costs p (answered s a) ≡ AbortedBy BySupply p
act_overflows costs p a s h = ap (λ x. limited costs p (answered s x)) h ∙ limited-stop costs p (Aborted BySupply) s

pub act_of_sender : (S : Scope) (kind : EventKind) (s : State) → sender_refusal S.frame.sender kind ≡ None → acts S kind s ≡ answered s (acted S.frame.contract kind s)
unfolding acted_by
act_of_sender S kind s h = ap (λ o. answered s (elim o [ None ↦ acted S.frame.contract kind s | Some n ↦ Some (Err (Code n)) ])) h

pub act_of_other : (S : Scope) (kind : EventKind) (n : ℕ) (s : State) → sender_refusal S.frame.sender kind ≡ Some n → acts S kind s ≡ answered s (Some (Err (Code n)))
unfolding acted_by
act_of_other S kind n s h = ap (λ o. answered s (elim o [ None ↦ acted S.frame.contract kind s | Some m ↦ Some (Err (Code m)) ])) h

pub refusal_made : (n m : ℕ) (v : Val) (r : Result Val Stop) → v ≡ UintV m → m ≡ n → Computes (outcome_of (Gives (ResponseV false v))) r → Computes (outcome_of (Gives (ResponseV false (UintV n)))) r
refusal_made n m v r h k c = subst (λ u. Computes (outcome_of (Gives (ResponseV false u))) r) (h ∙ ap UintV k) c

pub done_made : (v : Val) (r : Result Val Stop) → v ≡ BoolV true → Computes (outcome_of (Gives (ResponseV true v))) r → Computes (outcome_of (Gives (ResponseV true (BoolV true)))) r
done_made v r h c = subst (λ u. Computes (outcome_of (Gives (ResponseV true u))) r) h c
