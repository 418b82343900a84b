-- What a change, and the undoing of one, is to the states that tables had.
use Rattle.std.proofs.Common.{◌≡◌, refl, sym, ap, subst, ◌∙◌, ℕ, suc, ◌+◌, ◌-◌, ◌<◌, ◌≤◌, List, [], ◌∷◌, ◌++◌, length, take, drop, arith}
use Rattle.std.specs.Prelude.{map, Result, Ok, Err, OnErr}
use Rattle.std.specs.Result.{IsErrAnd}
use Rattle.std.proofs.lemmas.Result.{err_from_is_err_and}
use Rattle.std.proofs.Math.ListN.{get_or}
use Rattle.std.proofs.Math.Seq.{take-append_seam, drop-append_seam}
use Rattle.std.proofs.lemmas.List.{length-map, map-append, length-append, take_more}
use Rattle.cl_types.specs.declared.fault.Fault.{Fault}
use Rattle.cl_types.specs.declared.fault.Fault.TheVariants.{Refused, NoMemory}
use Rattle.cl_tokens.specs.declared.refusal.TokenRefusal.{TokenRefusal}
use Rattle.cl_tokens.specs.declared.act.Act.{Act}
use Rattle.cl_tokens.specs.declared.act.Act.TheVariants.{Mint, Transfer, Burn}
use Rattle.cl_tokens.specs.Deeds.{HasGiver}
use Rattle.cl_events.specs.State.{State}
use Rattle.cl_events.specs.Acts.{Acted}
use Rattle.cl_tables.specs.declared.note.Note.{Note}
use Rattle.cl_tables.specs.declared.note.Note.TheVariants.{Variable, Entry, Stx, Fungible, Asset, FungibleDefined, NonFungibleDefined}
use Rattle.cl_tables.specs.declared.tables.Tables.{Tables}
use Rattle.cl_tables.specs.Notes.{Held, state_of, undone, gone_back, before, Past, past_of, changed_to, state_at, Rooms, room_at, Keeps, fungibles_in, nonfungibles_in, all_fungibles, all_nonfungibles, IsReady, AreReady, Serves, IsSound, AreSound, ActsOnPast, Gives}
use Rattle.cl_tables.specs.Tables.{held_in, rooms_in, Changes, Stays}

pub refused : {A E P : Type 0} (r : Result A E) → P → OnErr r P
refused (Ok a) p = tt
refused (Err e) p = p

-- ------------------------------------------------------------ one note more

back_grown : (ns : List Note) (n : Note) (c d : Held) → undone n d ≡ c → gone_back (ns ++ n ∷ []) d ≡ gone_back ns c
back_grown [] n c d is = is
back_grown (m ∷ ns) n c d is = ap (undone m) (back_grown ns n c d is)

pub before_grown : (ns : List Note) (n : Note) (c d : Held) → undone n d ≡ c → before (ns ++ n ∷ []) d ≡ before ns c ++ c ∷ []
before_grown [] n c d is = ap (λ h. h ∷ []) is
before_grown (m ∷ ns) n c d is =
    let here = ap (undone m) (back_grown ns n c d is) in
    let rest = before_grown ns n c d is in
    λ i. here i ∷ rest i

length_before : (ns : List Note) (h : Held) → length (before ns h) ≡ length ns
length_before [] h = refl
length_before (n ∷ ns) h = ap suc (length_before ns h)

pub length_past : (ns : List Note) (h : Held) → length (past_of ns h).before ≡ length ns
length_past ns h = length-map (before ns h) state_of ∙ length_before ns h

-- the states before, with the one before this note
pub states_grown : (new ns : List Note) (n : Note) (c d : Held) → new ≡ ns ++ n ∷ [] → undone n d ≡ c → (past_of new d).before ≡ (past_of ns c).before ++ state_of c ∷ []
states_grown new ns n c d grown is = ap (λ xs. map state_of (before xs d)) grown ∙ ap (map state_of) (before_grown ns n c d is) ∙ map-append state_of (before ns c) (c ∷ [])

past_grown : (new ns : List Note) (n : Note) (c d : Held) → new ≡ ns ++ n ∷ [] → undone n d ≡ c → past_of new d ≡ changed_to (state_of d) (past_of ns c)
past_grown new ns n c d grown is = let states = states_grown new ns n c d grown is in λ i. record { state = state_of d; before = states i }

-- ------------------------------------------------------------ room

giver_kept : (x y : List (List ℕ)) (act : Act) → Keeps x y → HasGiver x act → HasGiver y act
giver_kept x y (Mint n to) kx r = tt
giver_kept x y (Transfer n from to) kx r = kx from r
giver_kept x y (Burn n from) kx r = kx from r

-- with f and g tokens that were defined later, in old rooms; and with h and k of them in new ones
one_ready : (f g h k df dg : ℕ) (old new : Rooms) (n : Note) → Serves f g h k old new → IsReady old (df + f) (dg + g) n → IsReady new (df + h) (dg + k) n
one_ready f g h k df dg old new (Variable key b) s r = (s.variables key r.0, r.1)
one_ready f g h k df dg old new (Entry key b) s r = (s.entries key r.0, r.1)
one_ready f g h k df dg old new (Stx act) s r = giver_kept old.stx new.stx act s.stx r
one_ready f g h k df dg old new (Fungible i act) s r =
    (omega (arith, r.0, s.fungibles), giver_kept (room_at old.fungibles i) (room_at new.fungibles i) act (s.holders i (omega (arith, r.0)) (omega (arith, r.0, s.fungibles))) r.1)
one_ready f g h k df dg old new (Asset i asset owner) s r = (omega (arith, r.0, s.nonfungibles), s.assets i (omega (arith, r.0)) (omega (arith, r.0, s.nonfungibles)) asset r.1)
one_ready f g h k df dg old new FungibleDefined s r = omega (arith, r, s.fungibles)
one_ready f g h k df dg old new NonFungibleDefined s r = omega (arith, r, s.nonfungibles)

fungibles_counted : (ns : List Note) (f : ℕ) → all_fungibles ns f ≡ all_fungibles ns 0 + f
fungibles_counted [] f = omega arith
fungibles_counted (n ∷ ns) f = let rest = fungibles_counted ns f in omega (arith, rest)

nonfungibles_counted : (ns : List Note) (f : ℕ) → all_nonfungibles ns f ≡ all_nonfungibles ns 0 + f
nonfungibles_counted [] f = omega arith
nonfungibles_counted (n ∷ ns) f = let rest = nonfungibles_counted ns f in omega (arith, rest)

pub ready_moved : (f g h k : ℕ) (old new : Rooms) (ns : List Note) → Serves f g h k old new → AreReady old f g ns → AreReady new h k ns
ready_moved f g h k old new [] s all = tt
ready_moved f g h k old new (n ∷ ns) s all =
    let df = all_fungibles ns 0 in
    let dg = all_nonfungibles ns 0 in
    let here : IsReady old (df + f) (dg + g) n = subst (λ a. IsReady old a (dg + g) n) (fungibles_counted ns f) (subst (λ a. IsReady old (all_fungibles ns f) a n) (nonfungibles_counted ns g) all.0) in
    let there = one_ready f g h k df dg old new n s here in
    (subst (λ a. IsReady new a (all_nonfungibles ns k) n) (sym (fungibles_counted ns h)) (subst (λ a. IsReady new (df + h) a n) (sym (nonfungibles_counted ns k)) there), ready_moved f g h k old new ns s all.1)

fungibles_end : (ns : List Note) (n : Note) → all_fungibles (ns ++ n ∷ []) 0 ≡ all_fungibles ns (fungibles_in n)
fungibles_end [] n = omega arith
fungibles_end (m ∷ ns) n = ap (λ a. fungibles_in m + a) (fungibles_end ns n)

nonfungibles_end : (ns : List Note) (n : Note) → all_nonfungibles (ns ++ n ∷ []) 0 ≡ all_nonfungibles ns (nonfungibles_in n)
nonfungibles_end [] n = omega arith
nonfungibles_end (m ∷ ns) n = ap (λ a. nonfungibles_in m + a) (nonfungibles_end ns n)

ready_grown : (r : Rooms) (ns : List Note) (n : Note) → AreReady r (fungibles_in n) (nonfungibles_in n) ns → IsReady r 0 0 n → AreReady r 0 0 (ns ++ n ∷ [])
ready_grown r [] n all last = (last, tt)
ready_grown r (m ∷ ns) n all last =
    (subst (λ a. IsReady r a (all_nonfungibles (ns ++ n ∷ []) 0) m) (sym (fungibles_end ns n)) (subst (λ a. IsReady r (all_fungibles ns (fungibles_in n)) a m) (sym (nonfungibles_end ns n)) all.0), ready_grown r ns n all.1 last)

pub ready_split : (r : Rooms) (ns : List Note) (n : Note) → AreReady r 0 0 (ns ++ n ∷ []) → AreReady r (fungibles_in n) (nonfungibles_in n) ns × IsReady r 0 0 n
ready_split r [] n all = (tt, all.0)
ready_split r (m ∷ ns) n all =
    let rest = ready_split r ns n all.1 in
    ((subst (λ a. IsReady r a (all_nonfungibles ns (nonfungibles_in n)) m) (fungibles_end ns n) (subst (λ a. IsReady r (all_fungibles (ns ++ n ∷ []) 0) a m) (nonfungibles_end ns n) all.0), rest.0), rest.1)

sound_grown : (hs : List Held) (h : Held) → AreSound hs → IsSound h → AreSound (hs ++ h ∷ [])
sound_grown [] h all last = (last, tt)
sound_grown (g ∷ hs) h all last = (all.0, sound_grown hs h all.1 last)

pub sound_split : (hs : List Held) (h : Held) → AreSound (hs ++ h ∷ []) → AreSound hs × IsSound h
sound_split [] h all = (tt, all.0)
sound_split (g ∷ hs) h all = let rest = sound_split hs h all.1 in ((all.0, rest.0), rest.1)

-- ------------------------------------------------------------ a change of tables

abbrev pub IsKept : Tables → List Note → Type 0
IsKept t ns = AreReady (rooms_in t) 0 0 ns × IsSound (held_in t) × AreSound (before ns (held_in t))

pub kept_changed : (old new : Tables) (ns more : List Note) (n : Note) → IsKept old ns → Changes n old new → more ≡ ns ++ n ∷ [] → IsKept new more
kept_changed old new ns more n kept change grown =
    let ready = ready_grown (rooms_in new) ns n (ready_moved 0 0 (fungibles_in n) (nonfungibles_in n) (rooms_in old) (rooms_in new) ns change.rooms kept.0) change.ready in
    let sound = subst AreSound (sym (before_grown ns n (held_in old) (held_in new) change.back)) (sound_grown (before ns (held_in old)) (held_in old) kept.2 kept.1) in
    (subst (AreReady (rooms_in new) 0 0) (sym grown) ready, change.sound, subst (λ xs. AreSound (before xs (held_in new))) (sym grown) sound)

pub past_changed : (old new : Tables) (ns more : List Note) (n : Note) (s : State) → Changes n old new → more ≡ ns ++ n ∷ [] → state_of (held_in new) ≡ s → past_of more (held_in new) ≡ changed_to s (past_of ns (held_in old))
past_changed old new ns more n s change grown is = past_grown more ns n (held_in old) (held_in new) grown change.back ∙ ap (λ t. changed_to t (past_of ns (held_in old))) is

-- where nothing changed but the room
pub kept_as_before : (old new : Tables) (ns more : List Note) → IsKept old ns → Stays old new → more ≡ ns → IsKept new more
kept_as_before old new ns more kept stays same =
    subst (IsKept new) (sym same)
    (ready_moved 0 0 0 0 (rooms_in old) (rooms_in new) ns stays.rooms kept.0, subst IsSound (sym stays.held) kept.1, subst (λ h. AreSound (before ns h)) (sym stays.held) kept.2)

pub past_as_before : (old new : Tables) (ns more : List Note) → Stays old new → more ≡ ns → past_of more (held_in new) ≡ past_of ns (held_in old)
past_as_before old new ns more stays same = λ i. past_of (same i) (stays.held i)

-- ------------------------------------------------------------ going back by one

pub last_ready : (t : Tables) (old ns : List Note) (n : Note) → IsKept t old → old ≡ ns ++ n ∷ [] → IsReady (rooms_in t) 0 0 n
last_ready t old ns n kept was = (ready_split (rooms_in t) ns n (subst (AreReady (rooms_in t) 0 0) was kept.0)).1

pub kept_undone : (t u : Tables) (old ns : List Note) (n : Note) → IsKept t old → old ≡ ns ++ n ∷ [] → held_in u ≡ undone n (held_in t) → Serves (fungibles_in n) (nonfungibles_in n) 0 0 (rooms_in t) (rooms_in u) → IsKept u ns
kept_undone t u old ns n kept was is rooms =
    let ready = (ready_split (rooms_in t) ns n (subst (AreReady (rooms_in t) 0 0) was kept.0)).0 in
    let sound = sound_split (before ns (held_in u)) (held_in u) (subst AreSound (before_grown ns n (held_in u) (held_in t) (sym is)) (subst (λ xs. AreSound (before xs (held_in t))) was kept.2)) in
    (ready_moved (fungibles_in n) (nonfungibles_in n) 0 0 (rooms_in t) (rooms_in u) ns rooms ready, sound.1, sound.0)

first_part : {A : Type 0} (xs us ys vs : List A) → length xs ≡ length us → xs ++ ys ≡ us ++ vs → xs ≡ us
first_part xs us ys vs same is = sym (take-append_seam xs ys) ∙ (λ i. take (same i) (is i)) ∙ take-append_seam us vs

second_part : {A : Type 0} (xs us ys vs : List A) → length xs ≡ length us → xs ++ ys ≡ us ++ vs → ys ≡ vs
second_part xs us ys vs same is = sym (drop-append_seam xs ys) ∙ (λ i. drop (same i) (is i)) ∙ drop-append_seam us vs

-- the last of the first so many
last_of : (old ys : List State) (s now : State) (k : ℕ) → 0 < k → k ≤ length old → ys ++ s ∷ [] ≡ take k old → (s ≡ get_or old (k - 1) now) × (ys ≡ take (k - 1) old)
last_of old ys s now k some fits is =
    let x = get_or old (k - 1) now in
    let low : k - 1 < length old = omega (arith, some, fits) in
    let split : take (k - 1 + 1) old ≡ take (k - 1) old ++ x ∷ [] = take_more old (k - 1) now low in
    let same : ys ++ s ∷ [] ≡ take (k - 1) old ++ x ∷ [] = is ∙ ap (λ n. take n old) (omega (arith, some)) ∙ split in
    let longer = length-append ys (s ∷ []) in
    let longest = length-append (take (k - 1) old) (x ∷ []) in
    let lengths : length ys ≡ length (take (k - 1) old) = omega (arith, longer, longest, ap length same) in
    (ap (λ xs. get_or xs 0 now) (second_part ys (take (k - 1) old) (s ∷ []) (x ∷ []) lengths same), first_part ys (take (k - 1) old) (s ∷ []) (x ∷ []) lengths same)

pub stepped_back : (old cur new : Past) (left : ℕ) → 0 < left → left ≤ length old.before → cur.before ≡ take left old.before → cur.before ≡ new.before ++ new.state ∷ []
    → (new.state ≡ state_at (left - 1) old) × (new.before ≡ take (left - 1) old.before)
stepped_back old cur new left some fits was is = last_of old.before new.before new.state old.state left some fits (sym is ∙ was)

-- ------------------------------------------------------------ an act on tokens

pub gave_up : (meant : Acted) (old new : Past) (r : Result (Unit {0}) (Fault TokenRefusal)) → IsErrAnd r (λ y. y ≡ NoMemory) → new ≡ old → ActsOnPast meant old r new
gave_up meant old new r none is =
    let gave = err_from_is_err_and r none in
    subst (λ (x : Result (Unit {0}) (Fault TokenRefusal)). ActsOnPast meant old x new) (sym (gave.1 ∙ ap Err gave.2)) is

refusal_past : (A : Type 0) (meant : Acted) (old new : Past) (s : State) (f : Fault TokenRefusal) → Gives {A = A} meant (Err f) s → new ≡ old → ActsOnPast meant old (Err f) new
refusal_past A meant old new s (Refused x) gives same = (gives, same)
refusal_past A meant old new s NoMemory gives same = same

-- what was refused of tables is refused of their past
pub refused_past : (A : Type 0) (meant : Acted) (old new : Past) (s : State) (f : Fault TokenRefusal) (r : Result (Unit {0}) (Fault TokenRefusal)) → Gives {A = A} meant (Err f) s → IsErrAnd r (λ y. y ≡ f) → new ≡ old → ActsOnPast meant old r new
refused_past A meant old new s f r gives is same =
    let gave = err_from_is_err_and r is in
    subst (λ (x : Result (Unit {0}) (Fault TokenRefusal)). ActsOnPast meant old x new) (sym (gave.1 ∙ ap Err gave.2)) (refusal_past A meant old new s f gives same)
