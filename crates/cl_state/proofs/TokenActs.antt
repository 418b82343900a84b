-- What an act on tokens is to the stack of states.
use Rattle.std.proofs.Common.{◌≡◌, refl, sym, ap, subst, ◌∙◌, ℕ, List, [], ◌∷◌, ◌++◌, length}
use Rattle.std.specs.Prelude.{Bool, true, false, Option, Some, None, Result, Ok, Err, IsErrAnd, IsSome, is_some, option_to_list, T}
use Rattle.std.proofs.lemmas.Result.{err_from_is_err_and}
use Rattle.std.proofs.lemmas.List.{append-nil}
use Rattle.cl_types.specs.declared.fault.Fault.{Fault}
use Rattle.cl_types.specs.declared.fault.Fault.TheVariants.{Refused, NoMemory}
use Rattle.cl_c32.specs.declared.principal.Principal.{Principal}
use Rattle.cl_tokens.specs.declared.refusal.TokenRefusal.{TokenRefusal}
use Rattle.cl_tokens.specs.declared.refusal.TokenRefusal.TheVariants.{Code}
use Rattle.cl_values.specs.Wire.{wire}
use Rattle.cl_tokens.specs.Ledger.{Ledger, minted, sent, burnt}
use Rattle.cl_tokens.specs.Owners.{Owners, asset_minted, asset_sent, asset_burnt}
use Rattle.cl_maps.specs.Maps.{get, put}
use Rattle.cl_events.specs.declared.event.Event.{Event}
use Rattle.cl_events.specs.declared.event.EventKind.{EventKind}
use Rattle.cl_events.specs.declared.event.EventKind.TheVariants.{Print, FtMint, FtTransfer, FtBurn, NftMint, NftTransfer, NftBurn, StxTransfer, StxBurn}
use Rattle.cl_events.specs.declared.event.Move.{Move}
use Rattle.cl_events.specs.State.{State, holder, place, with_fungibles, with_nonfungibles, with_stx}
use Rattle.cl_events.specs.Acts.{Acted, acted, changed, moved, told, replaced, on_ledger, on_owners, burnt_stx}
use Rattle.cl_state.specs.declared.world.Mark.{Mark}
use Rattle.cl_tables.specs.declared.deed.Deed.{Deed}
use Rattle.cl_state.specs.Stack.{Stack, Seen}
use Rattle.cl_tables.specs.Notes.{Past, ActsOnPast}
use Rattle.cl_tables.specs.Deeds.{deed, deed_done, is_empty_burn, move_in, is_there}
use Rattle.cl_state.specs.Rows.{with_told, stack_of, ActsOn, Falls}
use Rattle.cl_state.proofs.Layers.{moved_law}

-- ------------------------------------------------------------ an event's act

abbrev done_or_none : State → Option Deed → Acted
done_or_none s None = None
done_or_none s (Some d) = deed_done d s

kind_done : (contract : Principal) (kind : EventKind) (s : State) → is_empty_burn kind ≡ false → changed contract kind s ≡ done_or_none s (deed contract kind)
unfolding changed
kind_done contract (Print v) s h = refl
kind_done contract (FtMint token amount to) s h = refl
kind_done contract (FtTransfer token amount from to) s h = refl
kind_done contract (FtBurn token amount from) s h = refl
kind_done contract (NftMint token id to) s h = refl
kind_done contract (NftTransfer token id from to) s h = refl
kind_done contract (NftBurn token id from) s h = refl
kind_done contract (StxTransfer amount from to) s h = refl
kind_done contract (StxBurn amount from) s h = rw h refl

-- the act is that of the code, but for a burn of no STX
pub change_is : (contract : Principal) (kind : EventKind) (d : Deed) (s : State) → is_empty_burn kind ≡ false → deed contract kind ≡ Some d → changed contract kind s ≡ deed_done d s
change_is contract kind d s some is = kind_done contract kind s some ∙ ap (done_or_none s) is

some_not_none : ◌≡◌ {A = Bool} false true → ⊥
some_not_none h = subst T (sym h) tt

-- what changes a ledger has an act
pub change_has_act : (contract : Principal) (kind : EventKind) (s : State) → IsSome (changed contract kind s) → IsSome (deed contract kind)
unfolding changed
change_has_act contract (Print v) s h = absurd (some_not_none h)
change_has_act contract (FtMint token amount to) s h = refl
change_has_act contract (FtTransfer token amount from to) s h = refl
change_has_act contract (FtBurn token amount from) s h = refl
change_has_act contract (NftMint token id to) s h = refl
change_has_act contract (NftTransfer token id from to) s h = refl
change_has_act contract (NftBurn token id from) s h = refl
change_has_act contract (StxTransfer amount from to) s h = refl
change_has_act contract (StxBurn amount from) s h = refl

-- a burn of no STX is refused
pub empty_burn : (contract : Principal) (kind : EventKind) (s : State) → is_empty_burn kind ≡ true → changed contract kind s ≡ Some (Err (Code 3))
unfolding changed
empty_burn contract (Print v) s h = absurd (subst T (sym h) tt)
empty_burn contract (FtMint token amount to) s h = absurd (subst T (sym h) tt)
empty_burn contract (FtTransfer token amount from to) s h = absurd (subst T (sym h) tt)
empty_burn contract (FtBurn token amount from) s h = absurd (subst T (sym h) tt)
empty_burn contract (NftMint token id to) s h = absurd (subst T (sym h) tt)
empty_burn contract (NftTransfer token id from to) s h = absurd (subst T (sym h) tt)
empty_burn contract (NftBurn token id from) s h = absurd (subst T (sym h) tt)
empty_burn contract (StxTransfer amount from to) s h = absurd (subst T (sym h) tt)
empty_burn contract (StxBurn amount from) s h = rw h refl

-- ------------------------------------------------------------ with what was told

abbrev retold : List Event → List Move → Acted → Acted
retold es ms None = None
retold es ms (Some (Err r)) = Some (Err r)
retold es ms (Some (Ok s)) = Some (Ok (with_told es ms s))

replaced_told : {A : Type 0} (es : List Event) (ms : List Move) (put_back : A → State) (r : Result A TokenRefusal) → replaced (λ m. with_told es ms (put_back m)) r ≡ retold es ms (replaced put_back r)
replaced_told es ms put_back (Ok m) = refl
replaced_told es ms put_back (Err r) = refl

ledger_told : (es : List Event) (ms : List Move) (at : List ℕ) (f : Ledger → Result Ledger TokenRefusal) (s : State) → on_ledger at f (with_told es ms s) ≡ retold es ms (on_ledger at f s)
ledger_told es ms at f s =
    elim (get at s.fungibles) as (λ o.
    elim o [ None ↦ None | Some l ↦ replaced (λ m. with_fungibles (put at m s.fungibles) (with_told es ms s)) (f l) ] ≡ retold es ms (elim o [ None ↦ None | Some l ↦ replaced (λ m. with_fungibles (put at m s.fungibles) s) (f l) ])) [
      | None ↦ refl
      | Some l ↦ replaced_told es ms (λ m. with_fungibles (put at m s.fungibles) s) (f l)
    ]

owners_told : (es : List Event) (ms : List Move) (at : List ℕ) (f : Owners → Result Owners TokenRefusal) (s : State) → on_owners at f (with_told es ms s) ≡ retold es ms (on_owners at f s)
owners_told es ms at f s =
    elim (get at s.nonfungibles) as (λ o.
    elim o [ None ↦ None | Some l ↦ replaced (λ m. with_nonfungibles (put at m s.nonfungibles) (with_told es ms s)) (f l) ] ≡ retold es ms (elim o [ None ↦ None | Some l ↦ replaced (λ m. with_nonfungibles (put at m s.nonfungibles) s) (f l) ])) [
      | None ↦ refl
      | Some l ↦ replaced_told es ms (λ m. with_nonfungibles (put at m s.nonfungibles) s) (f l)
    ]

changed_told : (contract : Principal) (kind : EventKind) (es : List Event) (ms : List Move) (s : State) → changed contract kind (with_told es ms s) ≡ retold es ms (changed contract kind s)
unfolding changed
changed_told contract (Print v) es ms s = refl
changed_told contract (FtMint token amount to) es ms s = ledger_told es ms (place contract token) (minted amount (holder to)) s
changed_told contract (FtTransfer token amount from to) es ms s = ledger_told es ms (place contract token) (sent amount (holder from) (holder to)) s
changed_told contract (FtBurn token amount from) es ms s = ledger_told es ms (place contract token) (burnt amount (holder from)) s
changed_told contract (NftMint token id to) es ms s = owners_told es ms (place contract token) (asset_minted (wire id) (holder to)) s
changed_told contract (NftTransfer token id from to) es ms s = owners_told es ms (place contract token) (asset_sent (wire id) (holder from) (holder to)) s
changed_told contract (NftBurn token id from) es ms s = owners_told es ms (place contract token) (asset_burnt (wire id) (holder from)) s
changed_told contract (StxTransfer amount from to) es ms s = replaced_told es ms (λ m. with_stx m s) (sent amount (holder from) (holder to) s.stx)
changed_told contract (StxBurn amount from) es ms s = replaced_told es ms (λ m. with_stx m s) (burnt_stx amount (holder from) s.stx)

moved_told : (contract : Principal) (kind : EventKind) (es : List Event) (ms : List Move) (s : State) → moved contract kind (with_told es ms s) ≡ with_told es (ms ++ option_to_list (move_in contract kind)) s
unfolding moved
moved_told contract (Print v) es ms s = ap (λ xs. with_told es xs s) (sym (append-nil ms))
moved_told contract (FtMint token amount to) es ms s = ap (λ xs. with_told es xs s) (sym (append-nil ms))
moved_told contract (FtTransfer token amount from to) es ms s = refl
moved_told contract (FtBurn token amount from) es ms s = refl
moved_told contract (NftMint token id to) es ms s = ap (λ xs. with_told es xs s) (sym (append-nil ms))
moved_told contract (NftTransfer token id from to) es ms s = refl
moved_told contract (NftBurn token id from) es ms s = refl
moved_told contract (StxTransfer amount from to) es ms s = refl
moved_told contract (StxBurn amount from) es ms s = refl

-- ------------------------------------------------------------ an act on a stack

abbrev pub the_event : Principal → EventKind → Event
the_event contract kind = record { contract = contract; kind = kind }

meant : (contract : Principal) (kind : EventKind) (es : List Event) (ms : List Move) (s t : State) → changed contract kind s ≡ Some (Ok t)
    → acted contract kind (with_told es ms s) ≡ Some (Ok (with_told (es ++ the_event contract kind ∷ []) (ms ++ option_to_list (move_in contract kind)) t))
unfolding acted
meant contract kind es ms s t is =
    ap (told contract kind) (changed_told contract kind es ms s ∙ ap (retold es ms) is)
    ∙ ap (λ x. Some (Ok x)) (moved_told contract kind (es ++ the_event contract kind ∷ []) ms t)

refused : (contract : Principal) (kind : EventKind) (es : List Event) (ms : List Move) (s : State) (r : TokenRefusal) → changed contract kind s ≡ Some (Err r) → acted contract kind (with_told es ms s) ≡ Some (Err r)
unfolding acted
refused contract kind es ms s r is = ap (told contract kind) (changed_told contract kind es ms s ∙ ap (retold es ms) is)

told_something : (contract : Principal) (kind : EventKind) (es : List Event) (ms : List Move) (x : Acted) → IsSome (told contract kind (retold es ms x)) → IsSome x
told_something contract kind es ms None h = absurd (some_not_none h)
told_something contract kind es ms (Some (Ok s)) h = refl
told_something contract kind es ms (Some (Err r)) h = refl

-- what can be done on the stack's top can be done on the state alone
pub change_meant : (contract : Principal) (kind : EventKind) (old : Seen) (p : Past) (ls : List Mark) (es : List Event) (ms : List Move) → stack_of p ls es ms ≡ old.stack → IsSome (acted contract kind old.stack.top) → IsSome (changed contract kind p.state)
unfolding acted
change_meant contract kind old p ls es ms is some =
    told_something contract kind es ms (changed contract kind p.state)
    (subst (λ (x : Acted). IsSome (told contract kind x)) (changed_told contract kind es ms p.state) (subst (λ (s : Stack). IsSome (acted contract kind s.top)) (sym is) some))

-- what a refused act leaves
pub token_refused : (contract : Principal) (kind : EventKind) (old : Seen) (p new : Past) (ls : List Mark) (es fs : List Event) (ms ns : List Move) (f : Fault TokenRefusal) (r : Result (Unit {0}) (Fault TokenRefusal))
    → ActsOnPast (changed contract kind p.state) p (Err f) new → fs ≡ es → ns ≡ ms → stack_of p ls es ms ≡ old.stack → IsErrAnd r (λ y. y ≡ f) → ActsOn (acted contract kind old.stack.top) old.stack r (stack_of new ls fs ns)
token_refused contract kind old p new ls es fs ms ns f r acts same_events same_moves is gave =
    let err = err_from_is_err_and r gave in
    subst (λ (x : Result (Unit {0}) (Fault TokenRefusal)). ActsOn (acted contract kind old.stack.top) old.stack x (stack_of new ls fs ns)) (sym (err.1 ∙ ap Err err.2))
    (subst (λ (s : Stack). ActsOn (acted contract kind s.top) s (Err f) (stack_of new ls fs ns)) is (seen f acts))
  where
    seen : (f : Fault TokenRefusal) → ActsOnPast (changed contract kind p.state) p (Err f) new → ActsOn (acted contract kind (with_told es ms p.state)) (stack_of p ls es ms) (Err f) (stack_of new ls fs ns)
    seen (Refused x) h = (refused contract kind es ms p.state x h.0, λ i. stack_of (h.1 i) ls (same_events i) (same_moves i))
    seen NoMemory h = λ i. stack_of (h i) ls (same_events i) (same_moves i)

-- what an act leaves that was done
pub token_done : (contract : Principal) (kind : EventKind) (old : Seen) (p new : Past) (ls : List Mark) (es fs : List Event) (ms ns : List Move) (gone : Option Move)
    → ActsOnPast (changed contract kind p.state) p (Ok tt) new → gone ≡ move_in contract kind → fs ≡ es ++ the_event contract kind ∷ [] → ns ≡ ms ++ option_to_list gone
    → stack_of p ls es ms ≡ old.stack → Falls (length p.before) (length es) (length ms) ls → ActsOn (acted contract kind old.stack.top) old.stack (Ok tt) (stack_of new ls fs ns)
token_done contract kind old p new ls es fs ms ns left acts what told_one moved_one is f =
    let s = acts.0 in
    let moves : ns ≡ ms ++ option_to_list (move_in contract kind) = moved_one ∙ ap (λ o. ms ++ option_to_list o) what in
    subst (λ (st : Stack). ActsOn (acted contract kind st.top) st (Ok tt) (stack_of new ls fs ns)) is (
      with_told (es ++ the_event contract kind ∷ []) (ms ++ option_to_list (move_in contract kind)) s,
      meant contract kind es ms p.state s acts.1,
      moved_law p new s ls es fs ms ns (the_event contract kind) (option_to_list (move_in contract kind)) acts.2 told_one moves f,
    )

-- ------------------------------------------------------------ acts on tokens that there are

part_told : {A : Type 0} (contract : Principal) (kind : EventKind) (put_back : A → State) (r : Result A TokenRefusal) → IsSome (told contract kind (replaced put_back r))
part_told contract kind put_back (Ok m) = refl
part_told contract kind put_back (Err r) = refl

ledger_there : (contract : Principal) (kind : EventKind) (at : List ℕ) (f : Ledger → Result Ledger TokenRefusal) (s : State) → is_some (get at s.fungibles) ≡ true → IsSome (told contract kind (on_ledger at f s))
ledger_there contract kind at f s there =
    elim (get at s.fungibles) as (λ o. is_some o ≡ true → IsSome (told contract kind (elim o [ None ↦ None | Some l ↦ replaced (λ m. with_fungibles (put at m s.fungibles) s) (f l) ]))) [
      | None ↦ λ h. absurd (some_not_none h)
      | Some l ↦ λ _. part_told contract kind (λ m. with_fungibles (put at m s.fungibles) s) (f l)
    ] there

owners_there : (contract : Principal) (kind : EventKind) (at : List ℕ) (f : Owners → Result Owners TokenRefusal) (s : State) → is_some (get at s.nonfungibles) ≡ true → IsSome (told contract kind (on_owners at f s))
owners_there contract kind at f s there =
    elim (get at s.nonfungibles) as (λ o. is_some o ≡ true → IsSome (told contract kind (elim o [ None ↦ None | Some l ↦ replaced (λ m. with_nonfungibles (put at m s.nonfungibles) s) (f l) ]))) [
      | None ↦ λ h. absurd (some_not_none h)
      | Some l ↦ λ _. part_told contract kind (λ m. with_nonfungibles (put at m s.nonfungibles) s) (f l)
    ] there

pub answered : (contract : Principal) (kind : EventKind) (s : State) → is_there contract kind s ≡ true → IsSome (acted contract kind s)
unfolding acted changed
answered contract (Print v) s there = absurd (some_not_none there)
answered contract (FtMint token amount to) s there = ledger_there contract (FtMint token amount to) (place contract token) (minted amount (holder to)) s there
answered contract (FtTransfer token amount from to) s there = ledger_there contract (FtTransfer token amount from to) (place contract token) (sent amount (holder from) (holder to)) s there
answered contract (FtBurn token amount from) s there = ledger_there contract (FtBurn token amount from) (place contract token) (burnt amount (holder from)) s there
answered contract (NftMint token id to) s there = owners_there contract (NftMint token id to) (place contract token) (asset_minted (wire id) (holder to)) s there
answered contract (NftTransfer token id from to) s there = owners_there contract (NftTransfer token id from to) (place contract token) (asset_sent (wire id) (holder from) (holder to)) s there
answered contract (NftBurn token id from) s there = owners_there contract (NftBurn token id from) (place contract token) (asset_burnt (wire id) (holder from)) s there
answered contract (StxTransfer amount from to) s there = part_told contract (StxTransfer amount from to) (λ m. with_stx m s) (sent amount (holder from) (holder to) s.stx)
answered contract (StxBurn amount from) s there = part_told contract (StxBurn amount from) (λ m. with_stx m s) (burnt_stx amount (holder from) s.stx)
