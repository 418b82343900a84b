-- No evaluation makes a token: states in which a form ends.
use Rattle.std.proofs.Common.{◌≡◌, ℕ, Bool, true, false, cond, List, [], ◌∷◌, Option, Some, None, Result, Ok, Err, refl, sym, ap, ◌∙◌}
use Rattle.std.specs.Prelude.{if◌then◌else◌}
use Rattle.std.specs.Ordering.{eq_by_cmp}
use Rattle.std.specs.Option.{option_or}
use Rattle.cl_c32.specs.declared.principal.Principal.{Principal}
use Rattle.cl_shapes.specs.declared.name.CostName.{CostName}
use Rattle.cl_shapes.specs.declared.name.CostName.TheVariants.{Literal, Lookup}
use Rattle.cl_sexpr.specs.declared.sexpr.Span.{Span}
use Rattle.cl_sexpr.specs.Tree.{Leaf, Named, Signed, Unsigned, Bytes, Ascii, Unicode, Standing, Local}
use Rattle.cl_values.specs.declared.refusal.ValueRefusal.{ValueRefusal}
use Rattle.cl_values.specs.Tree.{Tree as Val, BoolV, PrincipalV}
use Rattle.cl_values.specs.Wire.{wire}
use Rattle.cl_maps.specs.Maps.{Map, get, put, key_cmp}
use Rattle.cl_maps.proofs.MapLaws.{get-put, tied_get, not_None}
use Rattle.cl_tokens.specs.declared.refusal.TokenRefusal.{TokenRefusal}
use Rattle.cl_tokens.specs.declared.refusal.TokenRefusal.TheVariants.{Code, SupplyOverflow}
use Rattle.cl_tokens.specs.Ledger.{Ledger, minted, sent, burnt}
use Rattle.cl_tokens.specs.Owners.{Owners, asset_minted, asset_sent, asset_burnt}
use Rattle.cl_events.specs.declared.event.EventKind.{EventKind}
use Rattle.cl_events.specs.declared.event.EventKind.TheVariants.{Print, FtMint, FtTransfer, FtBurn, NftMint, NftTransfer, NftBurn, StxTransfer, StxBurn}
use Rattle.cl_events.specs.State.{State, holder, place, with_fungibles, with_nonfungibles, with_stx, with_event}
use Rattle.cl_events.specs.Acts.{Acted, replaced, on_ledger, on_owners, on_stx, burnt_stx, changed, moved, told, acted, sender_refusal, acted_by}
use Rattle.cl_forms.specs.declared.keyword.Keyword.{Keyword}
use Rattle.cl_forms.specs.Keywords.{keyword_of, keyword_cost}
use Rattle.cl_meaning.specs.Answers.{Outcome, Given, Thrown, Aborted, Wrong, Deeper, Answer, Note, stop, charged, then_on, and_then, ending, returning, with_known}
use Rattle.cl_meaning.specs.Deployed.{value_of, constant_of}
use Rattle.cl_meaning.specs.Scope.{Scope, home}
use Rattle.cl_meaning.specs.Names.{standing, literal, keyword_value, keyword_or, known_form, name_form, leaf_form}
use Rattle.cl_meaning.specs.Control.{choice, last_of}
use Rattle.cl_meaning.specs.Data.{only_if, key_and_value}
use Rattle.cl_meaning.specs.Tokens.{balance_in, answered, acts}
use Rattle.cl_newness.specs.Newness.{MakesNoTokens}

-- ---- states

pub same : (s : State) → MakesNoTokens s s
same s = record { fungibles = λ key h. h; nonfungibles = λ key h. h }

pub both : (s t u : State) → MakesNoTokens s t → MakesNoTokens t u → MakesNoTokens s u
both s t u h k = record { fungibles = λ key e. k.fungibles key (h.fungibles key e); nonfungibles = λ key e. k.nonfungibles key (h.nonfungibles key e) }

-- a change of something else
pub plain : (s t : State) → t.fungibles ≡ s.fungibles → t.nonfungibles ≡ s.nonfungibles → MakesNoTokens s t
plain s t e k = record { fungibles = λ key h. ap (get key) e ∙ h; nonfungibles = λ key h. ap (get key) k ∙ h }

-- ---- answers

pub record Keeps {A : Type 0} (s : State) (a : Answer A) : Type 0 where
  pub left : MakesNoTokens s a.state

pub keeps_stop : {A : Type 0} (o : Outcome A) (s : State) → Keeps s (stop o s)
unfolding stop
keeps_stop o s = record { left = same s }

pub keeps_moved : {A : Type 0} (o : Outcome A) (s t : State) → MakesNoTokens s t → Keeps s (stop o t)
unfolding stop
keeps_moved o s t h = record { left = h }

pub keeps_charged : {A : Type 0} (name : CostName) (n : ℕ) (a : Answer A) (s : State) → Keeps s a → Keeps s (charged name n a)
unfolding charged
keeps_charged name n a s h = record { left = h.left }

pub keeps_ending : (span : Span) (a : Answer Val) (s : State) → Keeps s a → Keeps s (ending span a)
unfolding ending
keeps_ending span a s h = record { left = h.left }

pub keeps_returning : (a : Answer Val) (s : State) → Keeps s a → Keeps s (returning a)
unfolding returning
keeps_returning a s h = record { left = h.left }

then_keeps : {A B : Type 0} (go_on : A → State → Answer B) (s : State) (o : Outcome A) (t : State) (log : List Note) → ((v : A) → Keeps s (go_on v t)) → MakesNoTokens s t → Keeps s (then_on o t log go_on)
then_keeps go_on s (Given v) t log k h = record { left = (k v).left }
then_keeps go_on s (Thrown v) t log k h = record { left = h }
then_keeps go_on s (Aborted why) t log k h = record { left = h }
then_keeps go_on s Wrong t log k h = record { left = h }
then_keeps go_on s Deeper t log k h = record { left = h }

-- what follows, from the state before
pub keeps_from : {A B : Type 0} (a : Answer A) (go_on : A → State → Answer B) (s : State) → Keeps s a → ((v : A) → Keeps s (go_on v a.state)) → Keeps s (and_then a go_on)
unfolding and_then
keeps_from a go_on s h k = record { left = (then_keeps go_on s a.outcome a.state a.log k h.left).left }

-- what follows, from the state that is left
pub keeps_then : {A B : Type 0} (a : Answer A) (go_on : A → State → Answer B) (s : State) → Keeps s a → ((v : A) (t : State) → Keeps t (go_on v t)) → Keeps s (and_then a go_on)
keeps_then a go_on s h k = keeps_from a go_on s h (λ v. record { left = both s a.state (go_on v a.state).state h.left (k v a.state).left })

pub keeps_known : {A B : Type 0} (o : Option A) (go_on : A → State → Answer B) (s : State) → ((a : A) → Keeps s (go_on a s)) → Keeps s (with_known o go_on s)
keeps_known None go_on s k = keeps_stop Wrong s
keeps_known (Some a) go_on s k = k a

pub keeps_choice : (v : Val) (holds fails : State → Answer Val) (s : State) → Keeps s (holds s) → Keeps s (fails s) → Keeps s (choice v holds fails s)
keeps_choice (BoolV true) holds fails s h k = h
keeps_choice (BoolV false) holds fails s h k = k
keeps_choice v holds fails s h k = keeps_stop Wrong s

pub keeps_last : (vs : List Val) (s : State) → Keeps s (last_of vs s)
keeps_last [] s = keeps_stop Wrong s
keeps_last (v ∷ []) s = keeps_stop (Given v) s
keeps_last (v ∷ w ∷ vs) s = keeps_last (w ∷ vs) s

-- ---- literals and names

pub keeps_standing : (name : CostName) (v : Val) (s : State) → Keeps s (standing name v s)
unfolding standing
keeps_standing name v s = keeps_charged name _ _ s (keeps_stop (Given v) s)

keeps_literal : (r : Result Val ValueRefusal) (s : State) → Keeps s (literal r s)
keeps_literal (Ok v) s = keeps_standing Literal v s
keeps_literal (Err refusal) s = keeps_stop Wrong s

keeps_keyword : (S : Scope) (o : Option Keyword) (other : State → Answer Val) (s : State) → Keeps s (other s) → Keeps s (keyword_or S o other s)
keeps_keyword S (Some k) other s h = keeps_standing (keyword_cost k) (keyword_value S k) s
keeps_keyword S None other s h = h

keeps_name : (S : Scope) (x : List ℕ) (s : State) → Keeps s (name_form S x s)
unfolding name_form
keeps_name S x s = keeps_keyword S (keyword_of x) (known_form S x) s (keeps_known (option_or (value_of x S.bound) (constant_of x (home S))) (standing Lookup) s (λ v. keeps_standing Lookup v s))

pub keeps_leaf : (S : Scope) (leaf : Leaf) (s : State) → Keeps s (leaf_form S leaf s)
unfolding leaf_form
keeps_leaf S (Named x) s = keeps_name S x s
keeps_leaf S (Signed z) s = keeps_standing Literal _ s
keeps_leaf S (Unsigned n) s = keeps_standing Literal _ s
keeps_leaf S (Bytes bytes) s = keeps_literal _ s
keeps_leaf S (Ascii bytes) s = keeps_literal _ s
keeps_leaf S (Unicode characters) s = keeps_literal _ s
keeps_leaf S (Standing p) s = keeps_standing Literal _ s
keeps_leaf S (Local x) s = keeps_standing Literal _ s

-- ---- what the contract keeps

pub keeps_only_if : (b : Bool) (go_on : State → Answer Val) (s : State) → Keeps s (go_on s) → Keeps s (only_if b go_on s)
keeps_only_if true go_on s h = h
keeps_only_if false go_on s h = keeps_stop Wrong s

pub keeps_pair : (act : Val → Val → State → Answer Val) (vs : List Val) (s : State) → ((key v : Val) → Keeps s (act key v s)) → Keeps s (key_and_value act vs s)
keeps_pair act [] s h = keeps_stop Wrong s
keeps_pair act (key ∷ []) s h = keeps_stop Wrong s
keeps_pair act (key ∷ v ∷ []) s h = h key v
keeps_pair act (key ∷ v ∷ w ∷ vs) s h = keeps_stop Wrong s

pub keeps_balance : (v : Val) (l : Ledger) (s : State) → Keeps s (balance_in v l s)
keeps_balance (PrincipalV who) l s = keeps_stop _ s
keeps_balance v l s = keeps_stop Wrong s

-- ---- acts on tokens

-- a token that is there is another
put_present : {A : Type 0} (m : Map A) (at : List ℕ) (a l : A) (key : List ℕ) → get at m ≡ Some l → get key m ≡ None → get key (put at a m) ≡ None
put_present {A} m at a l key there none = get-put m at a key ∙ by (eq_by_cmp key_cmp key at) refl
  where
    by : (b : Bool) → eq_by_cmp key_cmp key at ≡ b → cond b (Some a) (get key m) ≡ None
    by true e = absurd (not_None l (sym there ∙ sym (tied_get m at key e) ∙ none))
    by false e = none

abbrev pub Fine : State → Acted → Type 0
Fine s None = Unit {0}
Fine s (Some (Err refusal)) = Unit {0}
Fine s (Some (Ok t)) = MakesNoTokens s t

replaced_fine : {A : Type 0} (s : State) (put_back : A → State) (r : Result A TokenRefusal) → ((a : A) → MakesNoTokens s (put_back a)) → Fine s (replaced put_back r)
replaced_fine s put_back (Ok a) h = h a
replaced_fine s put_back (Err refusal) h = tt

ledger_fine : (at : List ℕ) (act : Ledger → Result Ledger TokenRefusal) (s : State) → Fine s (on_ledger at act s)
ledger_fine at act s = by (get at s.fungibles) refl
  where
    by : (o : Option Ledger) → get at s.fungibles ≡ o → Fine s (elim o [ None ↦ None | Some l ↦ replaced (λ m. with_fungibles (put at m s.fungibles) s) (act l) ])
    by None e = tt
    by (Some l) e = replaced_fine s (λ m. with_fungibles (put at m s.fungibles) s) (act l) (λ m. record { fungibles = λ key h. put_present s.fungibles at m l key e h; nonfungibles = λ key h. h })

owners_fine : (at : List ℕ) (act : Owners → Result Owners TokenRefusal) (s : State) → Fine s (on_owners at act s)
owners_fine at act s = by (get at s.nonfungibles) refl
  where
    by : (o : Option Owners) → get at s.nonfungibles ≡ o → Fine s (elim o [ None ↦ None | Some l ↦ replaced (λ m. with_nonfungibles (put at m s.nonfungibles) s) (act l) ])
    by None e = tt
    by (Some l) e = replaced_fine s (λ m. with_nonfungibles (put at m s.nonfungibles) s) (act l) (λ m. record { fungibles = λ key h. h; nonfungibles = λ key h. put_present s.nonfungibles at m l key e h })

stx_fine : (act : Ledger → Result Ledger TokenRefusal) (s : State) → Fine s (on_stx act s)
stx_fine act s = replaced_fine s (λ m. with_stx m s) (act s.stx) (λ m. plain s (with_stx m s) refl refl)

changed_fine : (contract : Principal) (kind : EventKind) (s : State) → Fine s (changed contract kind s)
unfolding changed
changed_fine contract (Print v) s = tt
changed_fine contract (FtMint token amount to) s = ledger_fine (place contract token) (minted amount (holder to)) s
changed_fine contract (FtTransfer token amount from to) s = ledger_fine (place contract token) (sent amount (holder from) (holder to)) s
changed_fine contract (FtBurn token amount from) s = ledger_fine (place contract token) (burnt amount (holder from)) s
changed_fine contract (NftMint token id to) s = owners_fine (place contract token) (asset_minted (wire id) (holder to)) s
changed_fine contract (NftTransfer token id from to) s = owners_fine (place contract token) (asset_sent (wire id) (holder from) (holder to)) s
changed_fine contract (NftBurn token id from) s = owners_fine (place contract token) (asset_burnt (wire id) (holder from)) s
changed_fine contract (StxTransfer amount from to) s = stx_fine (sent amount (holder from) (holder to)) s
changed_fine contract (StxBurn amount from) s = stx_fine (burnt_stx amount (holder from)) s

moved_plain : (contract : Principal) (kind : EventKind) (s : State) → MakesNoTokens s (moved contract kind s)
unfolding moved
moved_plain contract (Print v) s = plain s _ refl refl
moved_plain contract (FtMint token amount to) s = plain s _ refl refl
moved_plain contract (FtTransfer token amount from to) s = plain s _ refl refl
moved_plain contract (FtBurn token amount from) s = plain s _ refl refl
moved_plain contract (NftMint token id to) s = plain s _ refl refl
moved_plain contract (NftTransfer token id from to) s = plain s _ refl refl
moved_plain contract (NftBurn token id from) s = plain s _ refl refl
moved_plain contract (StxTransfer amount from to) s = plain s _ refl refl
moved_plain contract (StxBurn amount from) s = plain s _ refl refl

told_fine : (contract : Principal) (kind : EventKind) (s : State) (o : Acted) → Fine s o → Fine s (told contract kind o)
told_fine contract kind s None h = tt
told_fine contract kind s (Some (Err refusal)) h = tt
told_fine contract kind s (Some (Ok t)) h =
    let noted = with_event contract kind t in
    both s t (moved contract kind noted) h (both t noted (moved contract kind noted) (plain t noted refl refl) (moved_plain contract kind noted))

acted_fine : (contract : Principal) (kind : EventKind) (s : State) → Fine s (acted contract kind s)
unfolding acted
acted_fine contract kind s = told_fine contract kind s (changed contract kind s) (changed_fine contract kind s)

acted_by_fine : (sender contract : Principal) (kind : EventKind) (s : State) → Fine s (acted_by sender contract kind s)
unfolding acted_by
acted_by_fine sender contract kind s = by (sender_refusal sender kind)
  where
    by : (o : Option ℕ) → Fine s (elim o [ None ↦ acted contract kind s | Some n ↦ Some (Err (Code n)) ])
    by None = acted_fine contract kind s
    by (Some n) = tt

keeps_answered : (s : State) (o : Acted) → Fine s o → Keeps s (answered s o)
keeps_answered s None h = keeps_stop Wrong s
keeps_answered s (Some (Ok t)) h = keeps_moved _ s t h
keeps_answered s (Some (Err (Code n))) h = keeps_stop _ s
keeps_answered s (Some (Err SupplyOverflow)) h = keeps_stop _ s

pub keeps_acts : (S : Scope) (kind : EventKind) (s : State) → Keeps s (acts S kind s)
keeps_acts S kind s = keeps_answered s (acted_by S.frame.sender S.frame.contract kind s) (acted_by_fine S.frame.sender S.frame.contract kind s)
