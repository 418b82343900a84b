-- Grafted states, and states that are changed at spots alone.
use Rattle.std.proofs.Common.{◌≡◌, ℕ, Bool, true, false, List, [], ◌∷◌, ◌++◌, Contains, refl, ap, sym, subst, ◌∙◌}
use Rattle.std.specs.Prelude.{if◌then◌else◌, ◌||◌}
use Rattle.std.specs.List.{list_any}
use Rattle.std.proofs.lemmas.List.Elements.{Contains-push, Contains-append_left, Contains-append_right}
use Rattle.std.proofs.lemmas.List.Folds.{list_any_at}
use Rattle.cl_maps.specs.Maps.{Map, get}
use Rattle.cl_maps.proofs.MapLaws.{same_keys, self_equal, same_map}
use Rattle.cl_tokens.specs.Table.{is_key}
use Rattle.cl_events.specs.State.{State}
use Rattle.cl_tables.specs.declared.place.Place.{Place}
use Rattle.cl_tables.specs.Variables.{IsPlace, key_of}
use Rattle.cl_tables.specs.declared.spot.Spot.{Spot}
use Rattle.cl_tables.specs.declared.spot.Spot.TheVariants.{Variable, MapOf, Token, Stx}
use Rattle.cl_spots.specs.Spots.{IsSpot, AgreeAt, Agree, HasNoVariable, HasNoEntry, HasNoToken, IsChangedAt, begins, is_variable_at, is_entry_at, is_token_at, is_stx, joined, grafted}
use Rattle.cl_spots.specs.Laws.{GraftsAgree, GraftsChangeSpotsAlone, GraftsAreAll, OthersAgree, ChangesFollow}
use Rattle.cl_tables.proofs.Joined.{get-joined}
use Rattle.cl_spots.proofs.Begins.{begins_itself, what_follows, begin_apart}

-- ---- agreement

pub agree_itself : (s : State) (x : Spot) → AgreeAt s s x
agree_itself s (Variable at) = refl
agree_itself s (MapOf at) = λ rest. refl
agree_itself s (Token at) = (refl, refl)
agree_itself s Stx = refl

pub agree_back : (s t : State) (x : Spot) → AgreeAt s t x → AgreeAt t s x
agree_back s t (Variable at) h = sym h
agree_back s t (MapOf at) h = λ rest. sym (h rest)
agree_back s t (Token at) h = (sym h.0, sym h.1)
agree_back s t Stx h = sym h

pub agree_on : (s t u : State) (x : Spot) → AgreeAt s t x → AgreeAt t u x → AgreeAt s u x
agree_on s t u (Variable at) h k = h ∙ k
agree_on s t u (MapOf at) h k = λ rest. h rest ∙ k rest
agree_on s t u (Token at) h k = (h.0 ∙ k.0, h.1 ∙ k.1)
agree_on s t u Stx h k = h ∙ k

-- ---- tests of a list

pub some_passes : {X : Type 0} (test : X → Bool) (xs : List X) → list_any test xs ≡ true → (x : X) × Contains xs x × (test x ≡ true)
some_passes test [] h = absurd cc
some_passes {X} test (x ∷ xs) h = by (test x) refl h (some_passes test xs)
  where
    by : (b : Bool) → test x ≡ b → (b || list_any test xs) ≡ true → (list_any test xs ≡ true → (y : X) × Contains xs y × (test y ≡ true)) → (y : X) × Contains (x ∷ xs) y × (test y ≡ true)
    by true e h more = (x, Contains-append_left (x ∷ []) xs x (Contains-push [] x), e)
    by false e h more = let found = more h in (found.0, Contains-append_right (x ∷ []) xs found.0 found.1, found.2)

pub passes_there : {X : Type 0} (test : X → Bool) (xs : List X) (x : X) → Contains xs x → test x ≡ true → list_any test xs ≡ true
passes_there test xs x h e = list_any_at test xs h.0 x h.1 (ap test h.2 ∙ e)

none_passes : {X : Type 0} (test : X → Bool) (xs : List X) → ((x : X) → Contains xs x → test x ≡ true → ⊥) → list_any test xs ≡ false
none_passes test xs h = by (list_any test xs) refl
  where
    by : (b : Bool) → list_any test xs ≡ b → b ≡ false
    by true e = let one = some_passes test xs e in absurd (h one.0 one.1 one.2)
    by false e = refl

taken : {A : Type 0} (b : Bool) (x y : A) → b ≡ true → (if b then x else y) ≡ x
taken true x y e = refl
taken false x y e = absurd cc

left : {A : Type 0} (b : Bool) (x y : A) → b ≡ false → (if b then x else y) ≡ y
left false x y e = refl
left true x y e = absurd cc

-- ---- what a spot names

variable_named : (key : List ℕ) (x : Spot) (T : Spot → Type 0) → HasNoVariable T key → T x → is_variable_at key x ≡ true → ⊥
variable_named key (Variable at) T h t e = h at t (same_keys (key_of at) key e)
variable_named key (MapOf at) T h t e = cc
variable_named key (Token at) T h t e = cc
variable_named key Stx T h t e = cc

entry_named : (key : List ℕ) (x : Spot) (T : Spot → Type 0) → HasNoEntry T key → T x → is_entry_at key x ≡ true → ⊥
entry_named key (MapOf at) T h t e = let more = what_follows (key_of at) key e in h at t more.0 more.1
entry_named key (Variable at) T h t e = cc
entry_named key (Token at) T h t e = cc
entry_named key Stx T h t e = cc

token_named : (key : List ℕ) (x : Spot) (T : Spot → Type 0) → HasNoToken T key → T x → is_token_at key x ≡ true → ⊥
token_named key (Token at) T h t e = h at t (same_keys (key_of at) key e)
token_named key (Variable at) T h t e = cc
token_named key (MapOf at) T h t e = cc
token_named key Stx T h t e = cc

stx_named : (x : Spot) (T : Spot → Type 0) → (T Stx → ⊥) → T x → is_stx x ≡ true → ⊥
stx_named Stx T h t e = h t
stx_named (Variable at) T h t e = cc
stx_named (MapOf at) T h t e = cc
stx_named (Token at) T h t e = cc

-- ---- grafts

module _ (spots : List Spot) (from s : State) where
  grafted_at : (x : Spot) → Contains spots x → AgreeAt (grafted spots from s) from x
  grafted_at (Variable at) h =
      get-joined (λ key. list_any (is_variable_at key) spots) from.variables s.variables (key_of at)
      ∙ taken _ _ _ (passes_there (is_variable_at (key_of at)) spots (Variable at) h (self_equal (key_of at)))
  grafted_at (MapOf at) h = λ rest.
      get-joined (λ key. list_any (is_entry_at key) spots) from.entries s.entries (key_of at ++ rest)
      ∙ taken _ _ _ (passes_there (is_entry_at (key_of at ++ rest)) spots (MapOf at) h (begins_itself (key_of at) rest))
  grafted_at (Token at) h =
      let there : list_any (is_token_at (key_of at)) spots ≡ true = passes_there (is_token_at (key_of at)) spots (Token at) h (self_equal (key_of at)) in (
        get-joined (λ key. list_any (is_token_at key) spots) from.fungibles s.fungibles (key_of at) ∙ taken _ _ _ there,
        get-joined (λ key. list_any (is_token_at key) spots) from.nonfungibles s.nonfungibles (key_of at) ∙ taken _ _ _ there,
      )
  grafted_at Stx h = taken _ _ _ (passes_there is_stx spots Stx h refl)

  grafted_alone : IsChangedAt (Contains spots) s (grafted spots from s)
  grafted_alone = record {
    variables = λ key h. get-joined (λ k. list_any (is_variable_at k) spots) from.variables s.variables key ∙ left _ _ _ (none_passes (is_variable_at key) spots (λ x t e. variable_named key x (Contains spots) h t e));
    entries = λ key h. get-joined (λ k. list_any (is_entry_at k) spots) from.entries s.entries key ∙ left _ _ _ (none_passes (is_entry_at key) spots (λ x t e. entry_named key x (Contains spots) h t e));
    fungibles = λ key h. get-joined (λ k. list_any (is_token_at k) spots) from.fungibles s.fungibles key ∙ left _ _ _ (none_passes (is_token_at key) spots (λ x t e. token_named key x (Contains spots) h t e));
    nonfungibles = λ key h. get-joined (λ k. list_any (is_token_at k) spots) from.nonfungibles s.nonfungibles key ∙ left _ _ _ (none_passes (is_token_at key) spots (λ x t e. token_named key x (Contains spots) h t e));
    stx = λ h. left _ _ _ (none_passes is_stx spots (λ x t e. stx_named x (Contains spots) h t e));
  }

pub grafts_agree : GraftsAgree
grafts_agree spots from s = grafted_at spots from s

pub grafts_change_spots_alone : GraftsChangeSpotsAlone
grafts_change_spots_alone spots from s = grafted_alone spots from s

-- ---- there is no other

-- of a map: it is that of `from` at the keys of a test, and elsewhere as it was
same_join : {A : Type 0} (test : List ℕ → Bool) (from m n : Map A) → ((key : List ℕ) → test key ≡ true → get key n ≡ get key from) → ((key : List ℕ) → test key ≡ false → get key n ≡ get key m) → n ≡ joined test from m
same_join {A} test from m n there elsewhere = same_map n (joined test from m) (λ key. by key (test key) refl ∙ sym (get-joined test from m key))
  where
    by : (key : List ℕ) (b : Bool) → test key ≡ b → get key n ≡ (if test key then get key from else get key m)
    by key true e = there key e ∙ sym (taken (test key) (get key from) (get key m) e)
    by key false e = elsewhere key e ∙ sym (left (test key) (get key from) (get key m) e)

module _ (spots : List Spot) (from s t : State) (agree : Agree (Contains spots) t from) (changed : IsChangedAt (Contains spots) s t) where
  variable_there : (key : List ℕ) (x : Spot) → Contains spots x → is_variable_at key x ≡ true → get key t.variables ≡ get key from.variables
  variable_there key (Variable at) c e = subst (λ key. get key t.variables ≡ get key from.variables) (same_keys (key_of at) key e) (agree (Variable at) c)
  variable_there key (MapOf at) c e = absurd cc
  variable_there key (Token at) c e = absurd cc
  variable_there key Stx c e = absurd cc

  entry_there : (key : List ℕ) (x : Spot) → Contains spots x → is_entry_at key x ≡ true → get key t.entries ≡ get key from.entries
  entry_there key (MapOf at) c e = let more = what_follows (key_of at) key e in subst (λ key. get key t.entries ≡ get key from.entries) more.1 (agree (MapOf at) c more.0)
  entry_there key (Variable at) c e = absurd cc
  entry_there key (Token at) c e = absurd cc
  entry_there key Stx c e = absurd cc

  token_there : (key : List ℕ) (x : Spot) → Contains spots x → is_token_at key x ≡ true → (get key t.fungibles ≡ get key from.fungibles) × (get key t.nonfungibles ≡ get key from.nonfungibles)
  token_there key (Token at) c e = subst (λ key. (get key t.fungibles ≡ get key from.fungibles) × (get key t.nonfungibles ≡ get key from.nonfungibles)) (same_keys (key_of at) key e) (agree (Token at) c)
  token_there key (Variable at) c e = absurd cc
  token_there key (MapOf at) c e = absurd cc
  token_there key Stx c e = absurd cc

  stx_there : (x : Spot) → Contains spots x → is_stx x ≡ true → t.stx ≡ from.stx
  stx_there Stx c e = agree Stx c
  stx_there (Variable at) c e = absurd cc
  stx_there (MapOf at) c e = absurd cc
  stx_there (Token at) c e = absurd cc

  some_there : {A : Type 0} (test : Spot → Bool) → ((x : Spot) → Contains spots x → test x ≡ true → A) → list_any test spots ≡ true → A
  some_there test k e = let one = some_passes test spots e in k one.0 one.1 one.2

  -- a test that holds of no spot that is there
  fails_at : (test : Spot → Bool) (x : Spot) → list_any test spots ≡ false → Contains spots x → test x ≡ true → ⊥
  fails_at test x e c h = let true_there : list_any test spots ≡ true = passes_there test spots x c h in cc

  -- a key that no spot names
  no_variable : (key : List ℕ) → list_any (is_variable_at key) spots ≡ false → HasNoVariable (Contains spots) key
  no_variable key e at c same = fails_at (is_variable_at key) (Variable at) e c (ap (is_key (key_of at)) (sym same) ∙ self_equal (key_of at))

  no_entry : (key : List ℕ) → list_any (is_entry_at key) spots ≡ false → HasNoEntry (Contains spots) key
  no_entry key e at c rest same = fails_at (is_entry_at key) (MapOf at) e c (ap (begins (key_of at)) (sym same) ∙ begins_itself (key_of at) rest)

  no_token : (key : List ℕ) → list_any (is_token_at key) spots ≡ false → HasNoToken (Contains spots) key
  no_token key e at c same = fails_at (is_token_at key) (Token at) e c (ap (is_key (key_of at)) (sym same) ∙ self_equal (key_of at))

  same_stx : (b : Bool) → list_any is_stx spots ≡ b → t.stx ≡ (if b then from.stx else s.stx)
  same_stx true e = some_there is_stx stx_there e
  same_stx false e = changed.stx (λ c. fails_at is_stx Stx e c refl)

  graft_is : t.events ≡ s.events → t.moves ≡ s.moves → t ≡ grafted spots from s
  graft_is events moves =
      let variables : t.variables ≡ joined (λ key. list_any (is_variable_at key) spots) from.variables s.variables =
      same_join (λ key. list_any (is_variable_at key) spots) from.variables s.variables t.variables (λ key e. some_there (is_variable_at key) (variable_there key) e) (λ key e. changed.variables key (no_variable key e)) in
      let entries : t.entries ≡ joined (λ key. list_any (is_entry_at key) spots) from.entries s.entries =
      same_join (λ key. list_any (is_entry_at key) spots) from.entries s.entries t.entries (λ key e. some_there (is_entry_at key) (entry_there key) e) (λ key e. changed.entries key (no_entry key e)) in
      let fungibles : t.fungibles ≡ joined (λ key. list_any (is_token_at key) spots) from.fungibles s.fungibles =
      same_join (λ key. list_any (is_token_at key) spots) from.fungibles s.fungibles t.fungibles (λ key e. (some_there (is_token_at key) (token_there key) e).0) (λ key e. changed.fungibles key (no_token key e)) in
      let nonfungibles : t.nonfungibles ≡ joined (λ key. list_any (is_token_at key) spots) from.nonfungibles s.nonfungibles =
      same_join (λ key. list_any (is_token_at key) spots) from.nonfungibles s.nonfungibles t.nonfungibles (λ key e. (some_there (is_token_at key) (token_there key) e).1) (λ key e. changed.nonfungibles key (no_token key e)) in
      let stx : t.stx ≡ (if list_any is_stx spots then from.stx else s.stx) = same_stx (list_any is_stx spots) refl in
      λ i. record { variables = variables i; entries = entries i; fungibles = fungibles i; nonfungibles = nonfungibles i; stx = stx i; events = events i; moves = moves i }

pub grafts_are_all : GraftsAreAll
grafts_are_all spots from s t agree changed events moves = graft_is spots from s t agree changed events moves

-- ---- changes

-- a change at spots is one at more spots
pub wider : (T U : Spot → Type 0) → ((x : Spot) → T x → U x) → (s t : State) → IsChangedAt T s t → IsChangedAt U s t
wider T U more s t h = record {
  variables = λ key none. h.variables key (λ at c same. none at (more (Variable at) c) same);
  entries = λ key none. h.entries key (λ at c rest same. none at (more (MapOf at) c) rest same);
  fungibles = λ key none. h.fungibles key (λ at c same. none at (more (Token at) c) same);
  nonfungibles = λ key none. h.nonfungibles key (λ at c same. none at (more (Token at) c) same);
  stx = λ none. h.stx (λ c. none (more Stx c));
}

module _ (T : Spot → Type 0) (are : (x : Spot) → T x → IsSpot x) (s t : State) (h : IsChangedAt T s t) where
  one_of : (kind : Place → Spot) → ((at : Place) → IsSpot (kind at) → IsPlace at) → (at : Place) → IsPlace at → (T (kind at) → ⊥) → (at' : Place) → T (kind at') → (x y : List ℕ) → key_of at' ++ x ≡ key_of at ++ y → ⊥
  one_of kind real at is not at' there x y e = not (subst (λ at. T (kind at)) (begin_apart at' at (real at' (are (kind at') there)) is x y e) there)

  bare : (at at' : Place) → key_of at' ≡ key_of at → key_of at' ++ [] ≡ key_of at ++ []
  bare at at' e = ap (λ (k : List ℕ). k ++ []) e

  pub others : (x : Spot) → IsSpot x → (T x → ⊥) → AgreeAt t s x
  others (Variable at) is not = h.variables (key_of at) (λ at' there e. one_of Variable (λ at p. p) at is not at' there [] [] (bare at at' e))
  others (MapOf at) is not = λ rest. h.entries (key_of at ++ rest) (λ at' there more e. one_of MapOf (λ at p. p) at is not at' there more rest e)
  others (Token at) is not =
      let none : HasNoToken T (key_of at) = λ at' there e. one_of Token (λ at p. p) at is not at' there [] [] (bare at at' e) in
      (h.fungibles (key_of at) none, h.nonfungibles (key_of at) none)
  others Stx is not = h.stx not

pub others_agree : OthersAgree
others_agree spots are s t h x is not = others (Contains spots) are s t h x is not

pub unchanged : (T : Spot → Type 0) (s : State) → IsChangedAt T s s
unchanged T s = record { variables = λ k h. refl; entries = λ k h. refl; fungibles = λ k h. refl; nonfungibles = λ k h. refl; stx = λ h. refl }

pub both_changes : (T : Spot → Type 0) (s t u : State) → IsChangedAt T s t → IsChangedAt T t u → IsChangedAt T s u
both_changes T s t u h k = record {
  variables = λ key n. k.variables key n ∙ h.variables key n;
  entries = λ key n. k.entries key n ∙ h.entries key n;
  fungibles = λ key n. k.fungibles key n ∙ h.fungibles key n;
  nonfungibles = λ key n. k.nonfungibles key n ∙ h.nonfungibles key n;
  stx = λ n. k.stx n ∙ h.stx n;
}

pub changes_follow : ChangesFollow
changes_follow spots s t u h k = both_changes (Contains spots) s t u h k
