-- What a note is to the states before, where an earlier one is on the same place.
use Rattle.std.proofs.Common.{◌≡◌, refl, sym, ap, subst, ◌∙◌, ℕ, zero, suc, ◌<◌, ◌≤◌, Bool, true, false, cond, List, [], ◌∷◌, ◌++◌, ◌+◌, length, take, drop, append_assoc, arith}
use Rattle.std.specs.Prelude.{T, map, Option}
use Rattle.std.proofs.Math.ListN.{get_or}
use Rattle.std.specs.Prelude.{set}
use Rattle.std.proofs.lemmas.List.{length-append, append-nil, take-append-drop, take-set-le, drop-set-lt, take_more, take_more_set, drop_more, drop_all}
use mathlib.Core.Logic.{inl, inr}
use Rattle.cl_values.specs.Tree.{Tree}
use Rattle.cl_maps.specs.Maps.{Map, get, with_value}
use Rattle.cl_maps.proofs.MapLaws.{same_map, get-with_value, same_keys, tied_get}
use Rattle.cl_tokens.specs.Table.{is_key}
use Rattle.cl_events.specs.State.{State}
use Rattle.cl_tables.specs.declared.note.Note.{Note}
use Rattle.cl_tables.specs.declared.note.Note.TheVariants.{Variable, Entry, Stx, Fungible, Asset, FungibleDefined, NonFungibleDefined}
use Rattle.cl_tables.specs.declared.tables.Tables.{Tables}
use Rattle.cl_tables.specs.Variables.{IsPlaceKey}
use Rattle.cl_tables.specs.Spelled.{IsSpot, Each}
use Rattle.cl_tables.specs.Notes.{Held, state_of, undone, gone_back, before, Past, past_of, changed_to, state_at, Rooms, fungibles_in, nonfungibles_in, all_fungibles, all_nonfungibles, IsReady, AreReady, IsSound, AreSound}
use Rattle.cl_tables.specs.Tables.{held_in, rooms_in, Changes}
use Rattle.cl_tables.specs.Covering.{covers, IsCovered, IsNoted, IsNext, IsThinned, KeepsNext, Thins, Writes}
use Rattle.cl_tables.proofs.Past.{IsKept, ready_moved, kept_changed, past_changed, length_past}

-- ------------------------------------------------------------ two writes to a map

module _ {A : Type 0} where
  over_step : (b : Bool) (c x y : Option A) → cond b c (cond b x y) ≡ cond b c y
  over_step true c x y = refl
  over_step false c x y = refl

  -- the later of two writes counts
  over : (m : Map A) (k : List ℕ) (c x : Option A) → with_value k c (with_value k x m) ≡ with_value k c m
  over m k c x = same_map _ _ (λ r.
      get-with_value (with_value k x m) k c r ∙ ap (cond (is_key r k) c) (get-with_value m k x r) ∙ over_step (is_key r k) c x (get r m) ∙ sym (get-with_value m k c r))

  turned_step : (a b : Bool) (c x y : Option A) → (a ≡ true → b ≡ true → ⊥) → cond a c (cond b x y) ≡ cond b x (cond a c y)
  turned_step true true c x y apart = absurd (apart refl refl)
  turned_step true false c x y apart = refl
  turned_step false true c x y apart = refl
  turned_step false false c x y apart = refl

  -- writes to two keys may change places
  turned : (m : Map A) (q k : List ℕ) (c x : Option A) → is_key q k ≡ false → with_value q c (with_value k x m) ≡ with_value k x (with_value q c m)
  turned m q k c x apart = same_map _ _ (λ r.
      get-with_value (with_value k x m) q c r ∙ ap (cond (is_key r q) c) (get-with_value m k x r)
      ∙ turned_step (is_key r q) (is_key r k) c x (get r m) (λ a b. subst T (sym (ap (λ z. is_key z k) (sym (same_keys r q a)) ∙ b) ∙ apart) tt)
      ∙ sym (get-with_value (with_value q c m) k x r ∙ ap (cond (is_key r k) x) (get-with_value m q c r)))

  own_step : (b : Bool) (x y : Option A) → (b ≡ true → x ≡ y) → cond b x y ≡ y
  own_step true x y same = same refl
  own_step false x y same = refl

  -- a write of what is there
  own : (m : Map A) (k : List ℕ) → m ≡ with_value k (get k m) m
  own m k = sym (same_map _ _ (λ r. get-with_value m k (get k m) r ∙ own_step (is_key r k) (get k m) (get r m) (λ e. sym (tied_get m k r e))))

  -- all keys are valid, where all others are
  each_but : (P : List ℕ → A → Type 0) (m n : Map A) (k : List ℕ) (x : Option A) → n ≡ with_value k x m → ((a : A) → P k a) → Each P n → Each P m
  each_but P m n k x is at all q a found = by (is_key q k) refl
    where
      by : (b : Bool) → is_key q k ≡ b → P q a
      by true e = subst (λ z. P z a) (sym (same_keys q k e)) (at a)
      by false e = all q a (ap (get q) is ∙ get-with_value m k x q ∙ ap (λ b. cond b x (get q m)) e ∙ found)

-- ------------------------------------------------------------ what is held, but at one place

-- the first is the second with something else at the place of a write
abbrev pub IsOff : Note → Held → Held → Type 0
IsOff (Variable k b) h g = (x : Option Tree) × (h ≡ record g { variables = with_value k x g.variables })
IsOff (Entry k b) h g = (x : Option Tree) × (h ≡ record g { entries = with_value k x g.entries })
IsOff n h g = ⊥

same_off : (n : Note) (h g i : Held) → IsOff n h i → g ≡ h → IsOff n g i
same_off n h g i off is = subst (λ x. IsOff n x i) (sym is) off

variable_off : (q k : List ℕ) (c b x : Option Tree) (g : Held) (e : Bool) → is_key q k ≡ e
    → IsOff (Variable k b) (undone (Variable q c) (record g { variables = with_value k x g.variables })) (undone (Variable q c) g)
variable_off q k c b x g true e =
    let q_is = same_keys q k e in
    let all : with_value q c (with_value k x g.variables) ≡ with_value q c g.variables = ap (λ z. with_value z c (with_value k x g.variables)) q_is ∙ over g.variables k c x ∙ ap (λ z. with_value z c g.variables) (sym q_is) in
    (get k (with_value q c g.variables), λ i. record g { variables = (all ∙ own (with_value q c g.variables) k) i })
variable_off q k c b x g false e = (x, λ i. record g { variables = turned g.variables q k c x e i })

entry_off : (q k : List ℕ) (c b x : Option Tree) (g : Held) (e : Bool) → is_key q k ≡ e
    → IsOff (Entry k b) (undone (Entry q c) (record g { entries = with_value k x g.entries })) (undone (Entry q c) g)
entry_off q k c b x g true e =
    let q_is = same_keys q k e in
    let all : with_value q c (with_value k x g.entries) ≡ with_value q c g.entries = ap (λ z. with_value z c (with_value k x g.entries)) q_is ∙ over g.entries k c x ∙ ap (λ z. with_value z c g.entries) (sym q_is) in
    (get k (with_value q c g.entries), λ i. record g { entries = (all ∙ own (with_value q c g.entries) k) i })
entry_off q k c b x g false e = (x, λ i. record g { entries = turned g.entries q k c x e i })

-- so it is before any change
off_undone : (n m : Note) (h g : Held) → IsOff n h g → IsOff n (undone m h) (undone m g)
off_undone (Variable k b) (Variable q c) h g (x, is) = same_off (Variable k b) _ _ _ (variable_off q k c b x g (is_key q k) refl) (ap (undone (Variable q c)) is)
off_undone (Variable k b) (Entry q c) h g (x, is) = (x, ap (undone (Entry q c)) is)
off_undone (Variable k b) (Stx act) h g (x, is) = (x, ap (undone (Stx act)) is)
off_undone (Variable k b) (Fungible j act) h g (x, is) = (x, ap (undone (Fungible j act)) is)
off_undone (Variable k b) (Asset j asset owner) h g (x, is) = (x, ap (undone (Asset j asset owner)) is)
off_undone (Variable k b) FungibleDefined h g (x, is) = (x, ap (undone FungibleDefined) is)
off_undone (Variable k b) NonFungibleDefined h g (x, is) = (x, ap (undone NonFungibleDefined) is)
off_undone (Entry k b) (Entry q c) h g (x, is) = same_off (Entry k b) _ _ _ (entry_off q k c b x g (is_key q k) refl) (ap (undone (Entry q c)) is)
off_undone (Entry k b) (Variable q c) h g (x, is) = (x, ap (undone (Variable q c)) is)
off_undone (Entry k b) (Stx act) h g (x, is) = (x, ap (undone (Stx act)) is)
off_undone (Entry k b) (Fungible j act) h g (x, is) = (x, ap (undone (Fungible j act)) is)
off_undone (Entry k b) (Asset j asset owner) h g (x, is) = (x, ap (undone (Asset j asset owner)) is)
off_undone (Entry k b) FungibleDefined h g (x, is) = (x, ap (undone FungibleDefined) is)
off_undone (Entry k b) NonFungibleDefined h g (x, is) = (x, ap (undone NonFungibleDefined) is)
off_undone (Stx act) m h g off = absurd off
off_undone (Fungible j act) m h g off = absurd off
off_undone (Asset j asset owner) m h g off = absurd off
off_undone FungibleDefined m h g off = absurd off
off_undone NonFungibleDefined m h g off = absurd off

off_back : (n : Note) (ns : List Note) (h g : Held) → IsOff n h g → IsOff n (gone_back ns h) (gone_back ns g)
off_back n [] h g off = off
off_back n (m ∷ ns) h g off = off_undone n m (gone_back ns h) (gone_back ns g) (off_back n ns h g off)

-- before a write to that place nothing differs
off_covered : (m n : Note) (h g : Held) → covers m n ≡ true → IsOff n h g → undone m h ≡ undone m g
off_covered (Variable q c) (Variable k b) h g same (x, is) =
    let q_is = same_keys q k same in
    ap (undone (Variable q c)) is ∙ (λ i. record g { variables = (ap (λ z. with_value z c (with_value k x g.variables)) q_is ∙ over g.variables k c x ∙ ap (λ z. with_value z c g.variables) (sym q_is)) i })
off_covered (Entry q c) (Entry k b) h g same (x, is) =
    let q_is = same_keys q k same in
    ap (undone (Entry q c)) is ∙ (λ i. record g { entries = (ap (λ z. with_value z c (with_value k x g.entries)) q_is ∙ over g.entries k c x ∙ ap (λ z. with_value z c g.entries) (sym q_is)) i })
off_covered (Variable q c) (Entry k b) h g same off = absurd (subst T (sym same) tt)
off_covered (Entry q c) (Variable k b) h g same off = absurd (subst T (sym same) tt)
off_covered (Stx act) (Variable k b) h g same off = absurd (subst T (sym same) tt)
off_covered (Stx act) (Entry k b) h g same off = absurd (subst T (sym same) tt)
off_covered (Fungible j act) (Variable k b) h g same off = absurd (subst T (sym same) tt)
off_covered (Fungible j act) (Entry k b) h g same off = absurd (subst T (sym same) tt)
off_covered (Asset j asset owner) (Variable k b) h g same off = absurd (subst T (sym same) tt)
off_covered (Asset j asset owner) (Entry k b) h g same off = absurd (subst T (sym same) tt)
off_covered FungibleDefined (Variable k b) h g same off = absurd (subst T (sym same) tt)
off_covered FungibleDefined (Entry k b) h g same off = absurd (subst T (sym same) tt)
off_covered NonFungibleDefined (Variable k b) h g same off = absurd (subst T (sym same) tt)
off_covered NonFungibleDefined (Entry k b) h g same off = absurd (subst T (sym same) tt)
off_covered m (Stx act) h g same off = absurd off
off_covered m (Fungible j act) h g same off = absurd off
off_covered m (Asset j asset owner) h g same off = absurd off
off_covered m FungibleDefined h g same off = absurd off
off_covered m NonFungibleDefined h g same off = absurd off

-- nor before the notes from it on
back_covered : (n : Note) (ns : List Note) (h g : Held) (number : ℕ) → number < length ns → covers (get_or ns number n) n ≡ true → IsOff n h g → gone_back ns h ≡ gone_back ns g
back_covered n [] h g number low same off = absurd (omega (arith, low))
back_covered n (m ∷ ns) h g zero low same off = off_covered m n (gone_back ns h) (gone_back ns g) same (off_back n ns h g off)
back_covered n (m ∷ ns) h g (suc number) low same off = ap (undone m) (back_covered n ns h g number (omega (arith, low)) same off)

nth_covered : (n : Note) (ns : List Note) (h g : Held) (i number : ℕ) → i ≤ number → number < length ns → covers (get_or ns number n) n ≡ true → IsOff n h g
    → get_or (map state_of (before ns h)) i (state_of h) ≡ get_or (map state_of (before ns g)) i (state_of g)
nth_covered n [] h g i number from low same off = absurd (omega (arith, low))
nth_covered n (m ∷ ns) h g zero number from low same off = ap state_of (back_covered n (m ∷ ns) h g number low same off)
nth_covered n (m ∷ ns) h g (suc i) zero from low same off = absurd (omega (arith, from))
nth_covered n (m ∷ ns) h g (suc i) (suc number) from low same off = nth_covered n ns h g i number (omega (arith, from)) (omega (arith, low)) same off

-- ------------------------------------------------------------ what holds of each state

abbrev IsNoteKey : Note → Type 0
IsNoteKey (Variable k b) = IsPlaceKey k
IsNoteKey (Entry k b) = IsSpot k
IsNoteKey n = Unit {0}

off_sound : (n : Note) (h g : Held) → IsNoteKey n → IsOff n h g → IsSound h → IsSound g
off_sound (Variable k b) h g at (x, is) sound =
    let s = subst IsSound is sound in
    record {
      variables = each_but (λ key v. IsPlaceKey key) g.variables (with_value k x g.variables) k x refl (λ a. at) s.variables;
      fungibles = s.fungibles;
      nonfungibles = s.nonfungibles;
      spelled = record { entries = s.spelled.entries; fungibles = s.spelled.fungibles; nonfungibles = s.spelled.nonfungibles; stx = s.spelled.stx };
    }
off_sound (Entry k b) h g at (x, is) sound =
    let s = subst IsSound is sound in
    record {
      variables = s.variables;
      fungibles = s.fungibles;
      nonfungibles = s.nonfungibles;
      spelled = record {
        entries = each_but (λ key v. IsSpot key) g.entries (with_value k x g.entries) k x refl (λ a. at) s.spelled.entries;
        fungibles = s.spelled.fungibles;
        nonfungibles = s.spelled.nonfungibles;
        stx = s.spelled.stx;
      };
    }
off_sound (Stx act) h g at off sound = absurd off
off_sound (Fungible j act) h g at off sound = absurd off
off_sound (Asset j asset owner) h g at off sound = absurd off
off_sound FungibleDefined h g at off sound = absurd off
off_sound NonFungibleDefined h g at off sound = absurd off

off_all_sound : (n : Note) (ns : List Note) (h g : Held) → IsNoteKey n → IsOff n h g → AreSound (before ns h) → AreSound (before ns g)
off_all_sound n [] h g at off all = tt
off_all_sound n (m ∷ ns) h g at off all = (off_sound n (gone_back (m ∷ ns) h) (gone_back (m ∷ ns) g) at (off_back n (m ∷ ns) h g off) all.0, off_all_sound n ns h g at off all.1)

note_key : (n : Note) (r : Rooms) (f g : ℕ) → IsReady r f g n → IsNoteKey n
note_key (Variable k b) r f g ready = ready.1
note_key (Entry k b) r f g ready = ready.1
note_key (Stx act) r f g ready = tt
note_key (Fungible j act) r f g ready = tt
note_key (Asset j asset owner) r f g ready = tt
note_key FungibleDefined r f g ready = tt
note_key NonFungibleDefined r f g ready = tt

-- a note that is covered is that of a write
off_of : (m n : Note) (h g : Held) → covers m n ≡ true → undone n g ≡ h → IsOff n h g
off_of m (Variable k b) h g same is = (b, sym is)
off_of m (Entry k b) h g same is = (b, sym is)
off_of m (Stx act) h g same is = absurd (subst T (sym same) tt)
off_of m (Fungible j act) h g same is = absurd (subst T (sym same) tt)
off_of m (Asset j asset owner) h g same is = absurd (subst T (sym same) tt)
off_of m FungibleDefined h g same is = absurd (subst T (sym same) tt)
off_of m NonFungibleDefined h g same is = absurd (subst T (sym same) tt)

defines_none : (m n : Note) (r : Rooms) (ns : List Note) → covers m n ≡ true → AreReady r (fungibles_in n) (nonfungibles_in n) ns → AreReady r 0 0 ns
defines_none m (Variable k b) r ns same all = all
defines_none m (Entry k b) r ns same all = all
defines_none m (Stx act) r ns same all = all
defines_none m (Fungible j act) r ns same all = all
defines_none m (Asset j asset owner) r ns same all = all
defines_none m FungibleDefined r ns same all = absurd (subst T (sym same) tt)
defines_none m NonFungibleDefined r ns same all = absurd (subst T (sym same) tt)

-- ------------------------------------------------------------ pasts

-- the states before are as they were
nth_grown : (ss : List State) (now new : State) (i : ℕ) → i ≤ length ss → get_or (ss ++ now ∷ []) i new ≡ get_or ss i now
nth_grown [] now new zero low = refl
nth_grown [] now new (suc i) low = absurd (omega (arith, low))
nth_grown (s ∷ ss) now new zero low = refl
nth_grown (s ∷ ss) now new (suc i) low = nth_grown ss now new i (omega (arith, low))

pub at_changed : (p : Past) (s : State) (i : ℕ) → i ≤ length p.before → state_at i (changed_to s p) ≡ state_at i p
at_changed p s i low = nth_grown p.before p.state s i low

pub changed_writes : (floor : ℕ) (s : State) (p : Past) → Writes floor s p (changed_to s p)
changed_writes floor s p = record {
  state = refl;
  below = λ fits i low. at_changed p s i (omega (arith, fits, low));
  reach = λ fits. let longer = length-append p.before (p.state ∷ []) in omega (arith, fits, longer);
}

pub writes_none : (floor : ℕ) (p : Past) → Writes floor p.state p p
writes_none floor p = record { state = refl; below = λ fits i low. refl; reach = λ fits. fits }

pub writes_after : (floor : ℕ) (s t : State) (p q r : Past) → Writes floor s p q → Writes floor t q r → Writes floor t p r
writes_after floor s t p q r first then_ = record {
  state = then_.state;
  below = λ fits i low. then_.below (first.reach fits) i low ∙ first.below fits i low;
  reach = λ fits. then_.reach (first.reach fits);
}

-- ------------------------------------------------------------ a write, noted or covered

kept_covered : (old new : Tables) (ns : List Note) (n : Note) (floor : ℕ) → IsKept old ns → Changes n old new → IsCovered floor n ns → IsKept new ns
kept_covered old new ns n floor kept change covered =
    let m = get_or ns covered.number n in
    let off = off_of m n (held_in old) (held_in new) covered.same change.back in
    let ready = defines_none m n (rooms_in new) ns covered.same (ready_moved 0 0 (fungibles_in n) (nonfungibles_in n) (rooms_in old) (rooms_in new) ns change.rooms kept.0) in
    (ready, change.sound, off_all_sound n ns (held_in old) (held_in new) (note_key n (rooms_in new) 0 0 change.ready) off kept.2)

pub kept_noted : (b : Bool) (old new : Tables) (ns more : List Note) (n : Note) (floor : ℕ) → IsKept old ns → Changes n old new → IsNoted b floor n ns more → IsKept new more
kept_noted true old new ns more n floor kept change noted = subst (IsKept new) (sym noted.0) (kept_covered old new ns n floor kept change noted.1)
kept_noted false old new ns more n floor kept change noted = kept_changed old new ns more n kept change noted

at_covered : (n : Note) (ns : List Note) (h g : Held) (floor i : ℕ) (covered : IsCovered floor n ns) → i ≤ floor → undone n g ≡ h → state_at i (past_of ns g) ≡ state_at i (past_of ns h)
at_covered n ns h g floor i covered low is =
    sym (nth_covered n ns h g i covered.number (omega (arith, low, covered.from)) covered.within covered.same (off_of (get_or ns covered.number n) n h g covered.same is))

pub written : (b : Bool) (old new : Tables) (ns more : List Note) (n : Note) (s : State) (floor : ℕ) → Changes n old new → IsNoted b floor n ns more → state_of (held_in new) ≡ s
    → Writes floor s (past_of ns (held_in old)) (past_of more (held_in new))
written true old new ns more n s floor change noted is =
    let was = length_past ns (held_in old) in
    let now = length_past ns (held_in new) in
    subst (λ xs. Writes floor s (past_of ns (held_in old)) (past_of xs (held_in new))) (sym noted.0) (record {
      state = is;
      below = λ fits i low. at_covered n ns (held_in old) (held_in new) floor i noted.1 low change.back;
      reach = λ fits. omega (arith, fits, was, now);
    })
written false old new ns more n s floor change noted is =
    subst (Writes floor s (past_of ns (held_in old))) (sym (past_changed old new ns more n s change noted is)) (changed_writes floor s (past_of ns (held_in old)))

-- ------------------------------------------------------------ a covered note that is let go

-- the notes in front undo what those behind leave
back_append : (ns ms : List Note) (h : Held) → gone_back (ns ++ ms) h ≡ gone_back ns (gone_back ms h)
back_append [] ms h = refl
back_append (n ∷ ns) ms h = ap (undone n) (back_append ns ms h)

before_append : (ns ms : List Note) (h : Held) → before (ns ++ ms) h ≡ before ns (gone_back ms h) ++ before ms h
before_append [] ms h = refl
before_append (n ∷ ns) ms h = λ i. undone n (back_append ns ms h i) ∷ before_append ns ms h i

nth_front : (ns ms : List Note) (h : Held) (i : ℕ) (x y : State) → i < length ns → get_or (map state_of (before (ns ++ ms) h)) i x ≡ get_or (map state_of (before ns (gone_back ms h))) i y
nth_front [] ms h i x y low = absurd (omega (arith, low))
nth_front (n ∷ ns) ms h zero x y low = ap (λ g. state_of (undone n g)) (back_append ns ms h)
nth_front (n ∷ ns) ms h (suc i) x y low = nth_front ns ms h i x y (omega (arith, low))

no_fungible : (m n : Note) → covers m n ≡ true → fungibles_in n ≡ 0
no_fungible m (Variable k b) same = refl
no_fungible m (Entry k b) same = refl
no_fungible m (Stx act) same = refl
no_fungible m (Fungible j act) same = refl
no_fungible m (Asset j asset owner) same = refl
no_fungible m FungibleDefined same = absurd (subst T (sym same) tt)
no_fungible m NonFungibleDefined same = refl

no_nonfungible : (m n : Note) → covers m n ≡ true → nonfungibles_in n ≡ 0
no_nonfungible m (Variable k b) same = refl
no_nonfungible m (Entry k b) same = refl
no_nonfungible m (Stx act) same = refl
no_nonfungible m (Fungible j act) same = refl
no_nonfungible m (Asset j asset owner) same = refl
no_nonfungible m FungibleDefined same = refl
no_nonfungible m NonFungibleDefined same = absurd (subst T (sym same) tt)

fungibles_without : (ns : List Note) (n : Note) (ms : List Note) (f : ℕ) → fungibles_in n ≡ 0 → all_fungibles (ns ++ n ∷ ms) f ≡ all_fungibles (ns ++ ms) f
fungibles_without [] n ms f none = omega (arith, none)
fungibles_without (k ∷ ns) n ms f none = ap (λ a. fungibles_in k + a) (fungibles_without ns n ms f none)

nonfungibles_without : (ns : List Note) (n : Note) (ms : List Note) (f : ℕ) → nonfungibles_in n ≡ 0 → all_nonfungibles (ns ++ n ∷ ms) f ≡ all_nonfungibles (ns ++ ms) f
nonfungibles_without [] n ms f none = omega (arith, none)
nonfungibles_without (k ∷ ns) n ms f none = ap (λ a. nonfungibles_in k + a) (nonfungibles_without ns n ms f none)

ready_without : (r : Rooms) (f g : ℕ) (ns : List Note) (n : Note) (ms : List Note) → fungibles_in n ≡ 0 → nonfungibles_in n ≡ 0 → AreReady r f g (ns ++ n ∷ ms) → AreReady r f g (ns ++ ms)
ready_without r f g [] n ms none nothing all = all.1
ready_without r f g (k ∷ ns) n ms none nothing all =
    (subst (λ a. IsReady r a (all_nonfungibles (ns ++ ms) g) k) (fungibles_without ns n ms f none) (subst (λ a. IsReady r (all_fungibles (ns ++ n ∷ ms) f) a k) (nonfungibles_without ns n ms g nothing) all.0), ready_without r f g ns n ms none nothing all.1)

key_in : (r : Rooms) (f g : ℕ) (ns : List Note) (n : Note) (ms : List Note) → AreReady r f g (ns ++ n ∷ ms) → IsNoteKey n
key_in r f g [] n ms all = note_key n r (all_fungibles ms f) (all_nonfungibles ms g) all.0
key_in r f g (k ∷ ns) n ms all = key_in r f g ns n ms all.1

sound_join : (hs gs : List Held) → AreSound hs → AreSound gs → AreSound (hs ++ gs)
sound_join [] gs a b = b
sound_join (h ∷ hs) gs a b = (a.0, sound_join hs gs a.1 b)

sound_parts : (hs gs : List Held) → AreSound (hs ++ gs) → AreSound hs × AreSound gs
sound_parts [] gs all = (tt, all)
sound_parts (h ∷ hs) gs all = let rest = sound_parts hs gs all.1 in ((all.0, rest.0), rest.1)

kept_without : (t : Tables) (ns : List Note) (n : Note) (ms : List Note) (floor : ℕ) → IsKept t (ns ++ n ∷ ms) → IsCovered floor n ns → IsKept t (ns ++ ms)
kept_without t ns n ms floor kept covered =
    let m = get_or ns covered.number n in
    let h = gone_back ms (held_in t) in
    let all = sound_parts (before ns (undone n h)) (before (n ∷ ms) (held_in t)) (subst AreSound (before_append ns (n ∷ ms) (held_in t)) kept.2) in
    let front = off_all_sound n ns (undone n h) h (key_in (rooms_in t) 0 0 ns n ms kept.0) (off_of m n (undone n h) h covered.same refl) all.0 in (
      ready_without (rooms_in t) 0 0 ns n ms (no_fungible m n covered.same) (no_nonfungible m n covered.same) kept.0,
      kept.1,
      subst AreSound (sym (before_append ns ms (held_in t))) (sound_join (before ns h) (before ms (held_in t)) front all.1.1),
    )

written_without : (t : Tables) (ns : List Note) (n : Note) (ms : List Note) (floor : ℕ) → IsCovered floor n ns → Writes floor (state_of (held_in t)) (past_of (ns ++ n ∷ ms) (held_in t)) (past_of (ns ++ ms) (held_in t))
written_without t ns n ms floor covered =
    let h = held_in t in
    let g = gone_back ms h in
    let off = off_of (get_or ns covered.number n) n (undone n g) g covered.same refl in
    let size = length_past (ns ++ ms) h in
    let longer = length-append ns ms in
    record {
      state = refl;
      below = λ fits i low.
          nth_front ns ms h i (state_of h) (state_of g) (omega (arith, low, covered.from, covered.within))
          ∙ sym (nth_covered n ns (undone n g) g i covered.number (omega (arith, low, covered.from)) covered.within covered.same off)
          ∙ sym (nth_front ns (n ∷ ms) h i (state_of h) (state_of (undone n g)) (omega (arith, low, covered.from, covered.within)));
      reach = λ fits. omega (arith, covered.from, covered.within, size, longer);
    }

-- of more than one
kept_each : (t : Tables) (floor : ℕ) (ns ms new : List Note) → Thins floor ns ms new → IsKept t (ns ++ ms) → IsKept t new
kept_each t floor ns [] new is kept = subst (IsKept t) (append-nil ns ∙ sym is) kept
kept_each t floor ns (n ∷ ms) new is kept = elim is [
  | inl h ↦ kept_each t floor (ns ++ n ∷ []) ms new h (subst (IsKept t) (sym (append_assoc ns (n ∷ []) ms)) kept)
  | inr h ↦ kept_each t floor ns ms new h.1 (kept_without t ns n ms floor kept h.0)
]

written_each : (t : Tables) (floor : ℕ) (ns ms new : List Note) → Thins floor ns ms new → Writes floor (state_of (held_in t)) (past_of (ns ++ ms) (held_in t)) (past_of new (held_in t))
written_each t floor ns [] new is =
    subst (λ xs. Writes floor (state_of (held_in t)) (past_of (ns ++ []) (held_in t)) (past_of xs (held_in t))) (append-nil ns ∙ sym is) (writes_none floor (past_of (ns ++ []) (held_in t)))
written_each t floor ns (n ∷ ms) new is = elim is [
  | inl h ↦ subst (λ xs. Writes floor (state_of (held_in t)) (past_of xs (held_in t)) (past_of new (held_in t))) (append_assoc ns (n ∷ []) ms) (written_each t floor (ns ++ n ∷ []) ms new h)
  | inr h ↦ writes_after floor (state_of (held_in t)) (state_of (held_in t)) (past_of (ns ++ n ∷ ms) (held_in t)) (past_of (ns ++ ms) (held_in t)) (past_of new (held_in t)) (written_without t ns n ms floor h.0) (written_each t floor ns ms new h.1)
]

pub kept_thinned : (t : Tables) (floor : ℕ) (ns new : List Note) → IsThinned floor ns new → IsKept t ns → IsKept t new
kept_thinned t floor ns new is kept = kept_each t floor (take is.0 ns) (drop is.0 ns) new is.1 (subst (IsKept t) (sym (take-append-drop is.0 ns)) kept)

pub written_thinned : (t : Tables) (floor : ℕ) (ns new : List Note) → IsThinned floor ns new → Writes floor (state_of (held_in t)) (past_of ns (held_in t)) (past_of new (held_in t))
written_thinned t floor ns new is =
    subst (λ xs. Writes floor (state_of (held_in t)) (past_of xs (held_in t)) (past_of new (held_in t))) (take-append-drop is.0 ns) (written_each t floor (take is.0 ns) (drop is.0 ns) new is.1)

-- ------------------------------------------------------------ how code goes through the notes

moved_front : {X : Type 0} (xs ys : List X) (k j : ℕ) (d : X) → k < j → j < length xs → ys ≡ set (set xs k (get_or xs j d)) j (get_or xs k d) → take (k + 1) ys ≡ take k xs ++ get_or xs j d ∷ []
moved_front xs ys k j d low fits is =
    ap (take (k + 1)) is ∙ take-set-le (k + 1) (set xs k (get_or xs j d)) j (get_or xs k d) (omega (arith, low)) ∙ take_more_set xs k (get_or xs j d) (omega (arith, low, fits))

moved_rest : {X : Type 0} (xs ys : List X) (k j : ℕ) (d : X) → k < j → ys ≡ set (set xs k (get_or xs j d)) j (get_or xs k d) → drop (j + 1) ys ≡ drop (j + 1) xs
moved_rest xs ys k j d low is =
    ap (drop (j + 1)) is ∙ drop-set-lt (j + 1) (set xs k (get_or xs j d)) j (get_or xs k d) (omega arith) ∙ drop-set-lt (j + 1) xs k (get_or xs j d) (omega (arith, low))

-- a note is moved down behind those that are kept
pub carried : (low k j : ℕ) (old new : List Note) → k < j → j < length old → new ≡ set (set old k (get_or old j FungibleDefined)) j (get_or old k FungibleDefined) → KeepsNext low k j old new (k + 1)
carried low k j old new below fits is = (false, refl, (moved_front old new k j FungibleDefined below fits is, moved_rest old new k j FungibleDefined below is))

-- or stays where it is
pub stayed : (low k j : ℕ) (old : List Note) → k ≡ j → j < length old → KeepsNext low k j old old (k + 1)
stayed low k j old same fits =
    (false, refl, (take_more old k FungibleDefined (omega (arith, same, fits)) ∙ ap (λ n. take k old ++ get_or old n FungibleDefined ∷ []) same, refl))

next_thins : (b : Bool) (low k j : ℕ) (old cur new : List Note) (start : ℕ) → IsNext b low k j cur new → j < length cur
    → ((q : List Note) → Thins low (take k cur) (drop j cur) q → Thins low (take start old) (drop start old) q)
    → (q : List Note) → Thins low (take (cond b k (k + 1)) new) (drop (j + 1) new) q → Thins low (take start old) (drop start old) q
next_thins true low k j old cur new start next fits sofar q h =
    let n = get_or cur j FungibleDefined in
    let rest : Thins low (take k cur) (drop (j + 1) cur) q = subst (λ xs. Thins low (take k xs) (drop (j + 1) xs) q) next.0 h in
    sofar q (subst (λ xs. Thins low (take k cur) xs q) (sym (drop_more cur j FungibleDefined fits)) (inr (next.1, rest)))
next_thins false low k j old cur new start next fits sofar q h =
    let n = get_or cur j FungibleDefined in
    let rest : Thins low (take k cur ++ n ∷ []) (drop (j + 1) cur) q = subst (λ xs. Thins low xs (drop (j + 1) cur) q) next.0 (subst (λ xs. Thins low (take (k + 1) new) xs q) next.1 h) in
    sofar q (subst (λ xs. Thins low (take k cur) xs q) (sym (drop_more cur j FungibleDefined fits)) (inl rest))

pub keeps_thinning : (low k j count : ℕ) (old cur new : List Note) (start : ℕ) → KeepsNext low k j cur new count → j < length cur
    → ((q : List Note) → Thins low (take k cur) (drop j cur) q → Thins low (take start old) (drop start old) q)
    → (q : List Note) → Thins low (take count new) (drop (j + 1) new) q → Thins low (take start old) (drop start old) q
keeps_thinning low k j count old cur new start next fits sofar q h =
    next_thins next.0 low k j old cur new start next.2 fits sofar q (subst (λ n. Thins low (take n new) (drop (j + 1) new) q) next.1 h)

-- a covered note is passed over
pub passed : (low k j : ℕ) (old : List Note) (n : Note) → n ≡ get_or old j FungibleDefined → IsCovered low n (take k old) → KeepsNext low k j old old k
passed low k j old n is covered = (true, refl, (refl, subst (λ m. IsCovered low m (take k old)) is covered))

pub all_thinned : (low k j : ℕ) (old cur new : List Note) (start : ℕ) → length cur ≤ j → new ≡ take k cur
    → ((q : List Note) → Thins low (take k cur) (drop j cur) q → Thins low (take start old) (drop start old) q) → IsThinned low old new
all_thinned low k j old cur new start past is sofar =
    (start, sofar new (subst (λ xs. Thins low (take k cur) xs new) (sym (drop_all j cur past)) is))

pub keeps_low : (low k j count : ℕ) (old new : List Note) → KeepsNext low k j old new count → k ≤ j → count ≤ j + 1
keeps_low low k j count old new (true, is, next) below = omega (arith, is, below)
keeps_low low k j count old new (false, is, next) below = omega (arith, is, below)
