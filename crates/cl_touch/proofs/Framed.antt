-- States that are framed stay so where the same is written at spots of both sets.
use Rattle.std.proofs.Common.{◌≡◌, ℕ, Bool, true, false, cond, List, [], ◌∷◌, ◌++◌, Option, Some, None, refl, sym, ap, ◌∙◌, append_assoc, append-nil}
use Rattle.std.specs.Ordering.{eq_by_cmp}
use Rattle.cl_c32.specs.declared.principal.Principal.{Principal}
use Rattle.cl_values.specs.Tree.{Tree as Val}
use Rattle.cl_maps.specs.Maps.{Map, key_cmp, get, put, without}
use Rattle.cl_maps.proofs.MapLaws.{same_keys, get-put, get-without}
use Rattle.cl_tokens.specs.Ledger.{Ledger}
use Rattle.cl_tokens.specs.Owners.{Owners}
use Rattle.cl_events.specs.declared.event.EventKind.{EventKind}
use Rattle.cl_events.specs.declared.event.Asset.{Asset}
use Rattle.cl_events.specs.State.{State, with_variables, with_entries, with_fungibles, with_nonfungibles, with_stx, with_event, with_move}
use Rattle.cl_tables.specs.declared.place.Place.{Place}
use Rattle.cl_tables.specs.Variables.{key_of}
use Rattle.cl_tables.specs.declared.spot.Spot.{Spot}
use Rattle.cl_tables.specs.declared.spot.Spot.TheVariants.{Variable, MapOf, Token, Stx}
use Rattle.cl_spots.specs.Spots.{AgreeAt, Agree, IsChangedAt}
use Rattle.cl_spots.proofs.Grafts.{unchanged}
use Rattle.cl_touch.specs.Frames.{AreFramed}
use Rattle.cl_touch.proofs.Keeps.{Keeps}

-- ---- maps

both_put : {A : Type 0} (m n : Map A) (k : List ℕ) (a : A) (q : List ℕ) → get q m ≡ get q n → get q (put k a m) ≡ get q (put k a n)
both_put m n k a q e = get-put m k a q ∙ ap (cond (eq_by_cmp key_cmp q k) (Some a)) e ∙ sym (get-put n k a q)

both_without : {A : Type 0} (m n : Map A) (k q : List ℕ) → get q m ≡ get q n → get q (without k m) ≡ get q (without k n)
both_without m n k q e = get-without m k q ∙ ap (cond (eq_by_cmp key_cmp q k) None) e ∙ sym (get-without n k q)

off_case : {A : Type 0} (k q : List ℕ) (x y z : Option A) → (k ≡ q → ⊥) → y ≡ z → (b : Bool) → eq_by_cmp key_cmp q k ≡ b → cond b x y ≡ z
off_case k q x y z off e true same = absurd (off (sym (same_keys q k same)))
off_case k q x y z off e false same = e

off_put : {A : Type 0} (m n : Map A) (k : List ℕ) (a : A) (q : List ℕ) → (k ≡ q → ⊥) → get q m ≡ get q n → get q (put k a m) ≡ get q n
off_put m n k a q off e = get-put m k a q ∙ off_case k q (Some a) (get q m) (get q n) off e (eq_by_cmp key_cmp q k) refl

off_without : {A : Type 0} (m n : Map A) (k q : List ℕ) → (k ≡ q → ⊥) → get q m ≡ get q n → get q (without k m) ≡ get q n
off_without m n k q off e = get-without m k q ∙ off_case k q None (get q m) (get q n) off e (eq_by_cmp key_cmp q k) refl

one_more : {A : Type 0} (before more now : List A) (x : A) → now ≡ before ++ more → now ++ x ∷ [] ≡ before ++ (more ++ x ∷ [])
one_more before more now x e = ap (λ es. es ++ x ∷ []) e ∙ append_assoc before more (x ∷ [])

module _ (T C : Spot → Type 0) where
  -- ---- changes

  set_variable : (at : Place) → C (Variable at) → (v : Val) (s u : State) → IsChangedAt C s u → IsChangedAt C s (with_variables (put (key_of at) v u.variables) u)
  set_variable at c v s u h = record { variables = λ key none. off_put u.variables s.variables (key_of at) v key (none at c) (h.variables key none); entries = h.entries; fungibles = h.fungibles; nonfungibles = h.nonfungibles; stx = h.stx }

  set_entry : (at : Place) → C (MapOf at) → (rest : List ℕ) (v : Val) (s u : State) → IsChangedAt C s u → IsChangedAt C s (with_entries (put (key_of at ++ rest) v u.entries) u)
  set_entry at c rest v s u h = record { variables = h.variables; entries = λ key none. off_put u.entries s.entries (key_of at ++ rest) v key (none at c rest) (h.entries key none); fungibles = h.fungibles; nonfungibles = h.nonfungibles; stx = h.stx }

  drop_entry : (at : Place) → C (MapOf at) → (rest : List ℕ) (s u : State) → IsChangedAt C s u → IsChangedAt C s (with_entries (without (key_of at ++ rest) u.entries) u)
  drop_entry at c rest s u h = record { variables = h.variables; entries = λ key none. off_without u.entries s.entries (key_of at ++ rest) key (none at c rest) (h.entries key none); fungibles = h.fungibles; nonfungibles = h.nonfungibles; stx = h.stx }

  set_fungible : (at : Place) → C (Token at) → (l : Ledger) (s u : State) → IsChangedAt C s u → IsChangedAt C s (with_fungibles (put (key_of at) l u.fungibles) u)
  set_fungible at c l s u h = record { variables = h.variables; entries = h.entries; fungibles = λ key none. off_put u.fungibles s.fungibles (key_of at) l key (none at c) (h.fungibles key none); nonfungibles = h.nonfungibles; stx = h.stx }

  set_nonfungible : (at : Place) → C (Token at) → (o : Owners) (s u : State) → IsChangedAt C s u → IsChangedAt C s (with_nonfungibles (put (key_of at) o u.nonfungibles) u)
  set_nonfungible at c o s u h = record { variables = h.variables; entries = h.entries; fungibles = h.fungibles; nonfungibles = λ key none. off_put u.nonfungibles s.nonfungibles (key_of at) o key (none at c) (h.nonfungibles key none); stx = h.stx }

  set_stx : C Stx → (l : Ledger) (s u : State) → IsChangedAt C s u → IsChangedAt C s (with_stx l u)
  set_stx c l s u h = record { variables = h.variables; entries = h.entries; fungibles = h.fungibles; nonfungibles = h.nonfungibles; stx = λ none. absurd (none c) }

  -- ---- agreement

  agree_variable : (at : Place) (v : Val) (u w : State) → Agree T u w → Agree T (with_variables (put (key_of at) v u.variables) u) (with_variables (put (key_of at) v w.variables) w)
  agree_variable at v u w h (Variable x) t = both_put u.variables w.variables (key_of at) v (key_of x) (h (Variable x) t)
  agree_variable at v u w h (MapOf x) t = h (MapOf x) t
  agree_variable at v u w h (Token x) t = h (Token x) t
  agree_variable at v u w h Stx t = h Stx t

  agree_entry : (key : List ℕ) (v : Val) (u w : State) → Agree T u w → Agree T (with_entries (put key v u.entries) u) (with_entries (put key v w.entries) w)
  agree_entry key v u w h (MapOf x) t = λ rest. both_put u.entries w.entries key v (key_of x ++ rest) (h (MapOf x) t rest)
  agree_entry key v u w h (Variable x) t = h (Variable x) t
  agree_entry key v u w h (Token x) t = h (Token x) t
  agree_entry key v u w h Stx t = h Stx t

  agree_removed : (key : List ℕ) (u w : State) → Agree T u w → Agree T (with_entries (without key u.entries) u) (with_entries (without key w.entries) w)
  agree_removed key u w h (MapOf x) t = λ rest. both_without u.entries w.entries key (key_of x ++ rest) (h (MapOf x) t rest)
  agree_removed key u w h (Variable x) t = h (Variable x) t
  agree_removed key u w h (Token x) t = h (Token x) t
  agree_removed key u w h Stx t = h Stx t

  agree_fungible : (key : List ℕ) (l : Ledger) (u w : State) → Agree T u w → Agree T (with_fungibles (put key l u.fungibles) u) (with_fungibles (put key l w.fungibles) w)
  agree_fungible key l u w h (Token x) t = (both_put u.fungibles w.fungibles key l (key_of x) (h (Token x) t).0, (h (Token x) t).1)
  agree_fungible key l u w h (Variable x) t = h (Variable x) t
  agree_fungible key l u w h (MapOf x) t = h (MapOf x) t
  agree_fungible key l u w h Stx t = h Stx t

  agree_nonfungible : (key : List ℕ) (o : Owners) (u w : State) → Agree T u w → Agree T (with_nonfungibles (put key o u.nonfungibles) u) (with_nonfungibles (put key o w.nonfungibles) w)
  agree_nonfungible key o u w h (Token x) t = ((h (Token x) t).0, both_put u.nonfungibles w.nonfungibles key o (key_of x) (h (Token x) t).1)
  agree_nonfungible key o u w h (Variable x) t = h (Variable x) t
  agree_nonfungible key o u w h (MapOf x) t = h (MapOf x) t
  agree_nonfungible key o u w h Stx t = h Stx t

  agree_stx : (l : Ledger) (u w : State) → Agree T u w → Agree T (with_stx l u) (with_stx l w)
  agree_stx l u w h (Variable x) t = h (Variable x) t
  agree_stx l u w h (MapOf x) t = h (MapOf x) t
  agree_stx l u w h (Token x) t = h (Token x) t
  agree_stx l u w h Stx t = refl

  -- ---- both

  module _ (s t : State) where
    as_framed : (u w v x : State) → AreFramed T C s t u w → Agree T v x → IsChangedAt C s v → IsChangedAt C t x → v.events ≡ u.events → x.events ≡ w.events → v.moves ≡ u.moves → x.moves ≡ w.moves → AreFramed T C s t v x
    as_framed u w v x r agree first second e f m n = record {
      agree = agree;
      first = first;
      second = second;
      emitted = r.emitted;
      first_events = e ∙ r.first_events;
      second_events = f ∙ r.second_events;
      moved = r.moved;
      first_moves = m ∙ r.first_moves;
      second_moves = n ∙ r.second_moves;
    }

    pub framed_keeps : Keeps (AreFramed T C s t) T C
    framed_keeps = record {
      variable = λ at h u w r. r.agree (Variable at) h;
      entry = λ at h rest u w r. r.agree (MapOf at) h rest;
      fungible = λ at h u w r. (r.agree (Token at) h).0;
      nonfungible = λ at h u w r. (r.agree (Token at) h).1;
      stx = λ h u w r. r.agree Stx h;
      put_variable = λ at c v u w r. as_framed u w _ _ r (agree_variable at v u w r.agree) (set_variable at c v s u r.first) (set_variable at c v t w r.second) refl refl refl refl;
      put_entry = λ at c rest v u w r. as_framed u w _ _ r (agree_entry (key_of at ++ rest) v u w r.agree) (set_entry at c rest v s u r.first) (set_entry at c rest v t w r.second) refl refl refl refl;
      remove_entry = λ at c rest u w r. as_framed u w _ _ r (agree_removed (key_of at ++ rest) u w r.agree) (drop_entry at c rest s u r.first) (drop_entry at c rest t w r.second) refl refl refl refl;
      put_fungible = λ at c l u w r. as_framed u w _ _ r (agree_fungible (key_of at) l u w r.agree) (set_fungible at c l s u r.first) (set_fungible at c l t w r.second) refl refl refl refl;
      put_nonfungible = λ at c o u w r. as_framed u w _ _ r (agree_nonfungible (key_of at) o u w r.agree) (set_nonfungible at c o s u r.first) (set_nonfungible at c o t w r.second) refl refl refl refl;
      put_stx = λ c l u w r. as_framed u w _ _ r (agree_stx l u w r.agree) (set_stx c l s u r.first) (set_stx c l t w r.second) refl refl refl refl;
      event = λ p kind u w r. record {
        agree = λ x h. at_event p kind u w x (r.agree x h);
        first = record { variables = r.first.variables; entries = r.first.entries; fungibles = r.first.fungibles; nonfungibles = r.first.nonfungibles; stx = r.first.stx };
        second = record { variables = r.second.variables; entries = r.second.entries; fungibles = r.second.fungibles; nonfungibles = r.second.nonfungibles; stx = r.second.stx };
        emitted = r.emitted ++ record { contract = p; kind = kind } ∷ [];
        first_events = one_more s.events r.emitted u.events _ r.first_events;
        second_events = one_more t.events r.emitted w.events _ r.second_events;
        moved = r.moved;
        first_moves = r.first_moves;
        second_moves = r.second_moves;
      };
      move = λ p asset amount u w r. record {
        agree = λ x h. at_move p asset amount u w x (r.agree x h);
        first = record { variables = r.first.variables; entries = r.first.entries; fungibles = r.first.fungibles; nonfungibles = r.first.nonfungibles; stx = r.first.stx };
        second = record { variables = r.second.variables; entries = r.second.entries; fungibles = r.second.fungibles; nonfungibles = r.second.nonfungibles; stx = r.second.stx };
        emitted = r.emitted;
        first_events = r.first_events;
        second_events = r.second_events;
        moved = r.moved ++ record { from = p; asset = asset; amount = amount } ∷ [];
        first_moves = one_more s.moves r.moved u.moves _ r.first_moves;
        second_moves = one_more t.moves r.moved w.moves _ r.second_moves;
      };
    }
      where
        at_event : (p : Principal) (kind : EventKind) (u w : State) (x : Spot) → AgreeAt u w x → AgreeAt (with_event p kind u) (with_event p kind w) x
        at_event p kind u w (Variable at) h = h
        at_event p kind u w (MapOf at) h = h
        at_event p kind u w (Token at) h = h
        at_event p kind u w Stx h = h

        at_move : (p : Principal) (asset : Asset) (amount : ℕ) (u w : State) (x : Spot) → AgreeAt u w x → AgreeAt (with_move p asset amount u) (with_move p asset amount w) x
        at_move p asset amount u w (Variable at) h = h
        at_move p asset amount u w (MapOf at) h = h
        at_move p asset amount u w (Token at) h = h
        at_move p asset amount u w Stx h = h

    pub framed_at_first : Agree T s t → AreFramed T C s t s t
    framed_at_first h = record {
      agree = h;
      first = unchanged C s;
      second = unchanged C t;
      emitted = [];
      first_events = sym (append-nil s.events);
      second_events = sym (append-nil t.events);
      moved = [];
      first_moves = sym (append-nil s.moves);
      second_moves = sym (append-nil t.moves);
    }
