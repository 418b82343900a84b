-- States that are kept serve: variables, maps, and events.
use Rattle.std.proofs.Common.{◌≡◌, ℕ, suc, ◌<◌, Bool, true, false, cond, List, [], ◌∷◌, ◌++◌, length, take, drop, get_or, Some, None, refl, sym, ap, subst, ◌∙◌, arith, append_assoc, append-nil}
use Rattle.std.specs.Prelude.{if◌then◌else◌, Contains}
use Rattle.std.specs.Ordering.{eq_by_cmp}
use Rattle.std.proofs.Math.Seq.{take-append_seam}
use Rattle.cl_types.specs.Types.{PlainType}
use Rattle.cl_c32.specs.declared.principal.Principal.{Principal}
use Rattle.cl_sexpr.specs.Tree.{Tree}
use Rattle.cl_values.specs.Tree.{Tree as Val, PrincipalV}
use Rattle.cl_values.specs.Wire.{wire, name_wire}
use Rattle.cl_values.specs.Valid.{IsPrincipal}
use Rattle.cl_values.proofs.Back.{apart}
use Rattle.cl_maps.specs.Maps.{Map, key_cmp, get, put, without}
use Rattle.cl_maps.proofs.MapLaws.{get-put, get-without, same_keys}
use Rattle.cl_forms.specs.Forms.{FormKind, VariableForm, MapForm}
use Rattle.cl_events.specs.declared.event.EventKind.{EventKind}
use Rattle.cl_events.specs.State.{State, holder, is_principal, place, spot, with_variables, with_entries, with_event}
use Rattle.cl_meaning.specs.Deployed.{Contract, Deployed, contract_at, form_of, has_map, is_map}
use Rattle.cl_meaning.specs.Kept.{Defines, IsVariable, IsEntry, Stands, Stage, Kept, IsSoFar}
use Rattle.cl_rules.specs.Context.{Context, named_in}
use Rattle.cl_expression_sound.specs.Stages.{AreDistinct, IsContext, IsThere}
use Rattle.cl_expression_sound.proofs.Leaves.{principal_typed}
use Rattle.cl_contract_sound.proofs.Contexts.{stands_in}
use Rattle.cl_values.specs.Typed.{IsOf}

-- ---- keys

first_part : (xs us ys vs : List ℕ) → length xs ≡ length us → xs ++ ys ≡ us ++ vs → xs ≡ us
first_part xs us ys vs same is = sym (take-append_seam xs ys) ∙ (λ i. take (same i) (is i)) ∙ take-append_seam us vs

pub names_one : (x y us vs : List ℕ) → name_wire x ++ us ≡ name_wire y ++ vs → x ≡ y
names_one x y us vs e =
    let sizes : length x ≡ length y = ap (λ xs. get_or xs 0 0) e in
    let rest : x ++ us ≡ y ++ vs = ap (drop 1) e in
    first_part x y us vs sizes rest

principals_one : (p q : Principal) → PrincipalV p ≡ PrincipalV q → p ≡ q
principals_one p q e = cc

pub places_one : (p q : Principal) (x y us vs : List ℕ) → IsPrincipal p → IsPrincipal q → place p x ++ us ≡ place q y ++ vs → (p ≡ q) × (x ≡ y)
places_one p q x y us vs h k e =
    let far : holder p ++ (name_wire x ++ us) ≡ holder q ++ (name_wire y ++ vs) = sym (append_assoc (holder p) (name_wire x) us) ∙ e ∙ append_assoc (holder q) (name_wire y) vs in
    let a = apart (PrincipalV p) (PrincipalV q) (name_wire x ++ us) (name_wire y ++ vs) (principal_typed p h).valid (principal_typed q k).valid far in
    (principals_one p q a.0, names_one x y us vs a.1)

pub places_same : (p q : Principal) (x y : List ℕ) → IsPrincipal p → IsPrincipal q → place p x ≡ place q y → (p ≡ q) × (x ≡ y)
places_same p q x y h k e = places_one p q x y [] [] h k (append-nil (place p x) ∙ e ∙ sym (append-nil (place q y)))

-- ---- contracts

pub at_contains : (p : Principal) (W : Deployed) (c : Contract) → contract_at p W ≡ Some c → Contains W c
at_contains p [] c h = absurd cc
at_contains p (d ∷ W) c h = by (is_principal d.principal p) h (at_contains p W c)
  where
    same_value : Some d ≡ Some c → d ≡ c
    same_value e = cc

    by : (b : Bool) → (if b then Some d else contract_at p W) ≡ Some c → (contract_at p W ≡ Some c → Contains W c) → Contains (d ∷ W) c
    by true e more = (0, omega arith, same_value e)
    by false e more = let r = more e in let low : r.0 < length W = r.1 in (suc r.0, omega (arith, low), r.2)

some_kind : (k l : FormKind) → Some k ≡ Some l → k ≡ l
some_kind k l e = cc

pub some_contract : (c d : Contract) → Some c ≡ Some d → c ≡ d
some_contract c d e = cc

module _ (W : Deployed) (A : AreDistinct W) where
  -- two contracts with one principal are one
  pub contracts_one : (c d : Contract) → Contains W c → Contains W d → c.principal ≡ d.principal → c ≡ d
  contracts_one c d h k e = some_contract c d (sym (A.found c h) ∙ ap (λ p. contract_at p W) e ∙ A.found d k)

  -- what stands under one key is defined in one way
  pub kinds_one : (c d : Contract) (x y us vs : List ℕ) (k l : FormKind) → Defines W c x k → Defines W d y l → place c.principal x ++ us ≡ place d.principal y ++ vs → k ≡ l
  kinds_one c d x y us vs k l h g e =
      let one = places_one c.principal d.principal x y us vs (A.valid c h.there) (A.valid d g.there) e in
      let same : c ≡ d = contracts_one c d h.there g.there one.0 in
      some_kind k l (sym h.form ∙ (λ i. form_of (one.1 i) (same i).forms) ∙ g.form)

  pub kinds_same : (c d : Contract) (x y : List ℕ) (k l : FormKind) → Defines W c x k → Defines W d y l → place c.principal x ≡ place d.principal y → k ≡ l
  kinds_same c d x y k l h g e = kinds_one c d x y [] [] k l h g (append-nil (place c.principal x) ∙ e ∙ sym (append-nil (place d.principal y)))

variable_type : (t u : PlainType) (e d : Tree) → VariableForm t e ≡ VariableForm u d → t ≡ u
variable_type t u e d h = cc

map_types : (k l v w : PlainType) → MapForm k v ≡ MapForm l w → (k ≡ l) × (v ≡ w)
map_types k l v w h = (cc, cc)

pub after_put : {A : Type 0} (P : A → Type 0) (m : Map A) (at key : List ℕ) (a b : A) → get key (put at a m) ≡ Some b → ((key ≡ at) → P a) → (get key m ≡ Some b → P b) → P b
after_put P m at key a b h new old = by (eq_by_cmp key_cmp key at) refl (sym (get-put m at a key) ∙ h)
  where
    same_value : Some a ≡ Some b → a ≡ b
    same_value e = cc

    by : (c : Bool) → eq_by_cmp key_cmp key at ≡ c → cond c (Some a) (get key m) ≡ Some b → P b
    by true e g = subst P (same_value g) (new (same_keys key at e))
    by false e g = old g

pub still_there : {A : Type 0} (m : Map A) (at key : List ℕ) (a : A) → Stands m key → Stands (put at a m) key
still_there m at key a h = by (eq_by_cmp key_cmp key at) refl
  where
    by : (c : Bool) → eq_by_cmp key_cmp key at ≡ c → Stands (put at a m) key
    by true e = record { value = a; there = get-put m at a key ∙ ap (λ c. cond c (Some a) (get key m)) e }
    by false e = record { value = h.value; there = get-put m at a key ∙ ap (λ c. cond c (Some a) (get key m)) e ∙ h.there }

pub after_without : {A : Type 0} (m : Map A) (at key : List ℕ) (b : A) → get key (without at m) ≡ Some b → get key m ≡ Some b
after_without m at key b h = by (eq_by_cmp key_cmp key at) (sym (get-without m at key) ∙ h)
  where
    by : (c : Bool) → cond c None (get key m) ≡ Some b → get key m ≡ Some b
    by true g = absurd cc
    by false g = g

module _ (W : Deployed) (stage : Stage) (A : AreDistinct W) where
  pub defines : (G : Context) (I : IsContext W stage G) (x : List ℕ) (k : FormKind) → form_of x I.contract.forms ≡ Some k → Defines W I.contract x k
  defines G I x k h = record { there = at_contains I.contract.principal W I.contract I.there; form = h }

  -- ---- variables

  variable_there : (c : Contract) (x : List ℕ) (t : PlainType) (e : Tree) → Defines W c x (VariableForm t e) → IsSoFar stage c.principal x → (s : State) → Kept W stage s → IsThere (get (place c.principal x) s.variables) t
  variable_there c x t e d now s n =
      let v = n.variables_there c x t e d now in
      let o = n.variables (place c.principal x) v.value v.there in
      let same : t ≡ o.type = variable_type t o.type e o.initial (kinds_same W A c o.contract x o.name (VariableForm t e) (VariableForm o.type o.initial) d o.defined o.place) in
      record { value = v.value; there = v.there; typed = subst (λ t. IsOf v.value t) (sym same) o.typed }

  pub variables_serve : (G : Context) → IsContext W stage G → (x : List ℕ) (t : PlainType) → named_in x G.variables ≡ Some t → (s : State) → Kept W stage s → IsThere (get (place G.principal x) s.variables) t
  variables_serve G I x t h s n =
      let S = stands_in W stage G I in
      let f = S.variables x t h in
      subst (λ p. IsThere (get (place p x) s.variables) t) (sym S.home) (variable_there I.contract x t f.initial (defines G I x (VariableForm t f.initial) f.form) f.there s n)

  pub variable_kept : (c : Contract) (x : List ℕ) (t : PlainType) (e : Tree) → Defines W c x (VariableForm t e) → (v : Val) → IsOf v t → (s : State) → Kept W stage s → Kept W stage (with_variables (put (place c.principal x) v s.variables) s)
  variable_kept c x t e d v i s n = record {
    variables_there = λ b y u g k now. still_there s.variables (place c.principal x) (place b.principal y) v (n.variables_there b y u g k now);
    variables = λ key w h. after_put (λ w. IsVariable W key w) s.variables (place c.principal x) key v w h (λ is. record { contract = c; name = x; type = t; initial = e; defined = d; place = is; typed = i }) (n.variables key w);
    entries = n.entries;
    fungibles_there = n.fungibles_there;
    fungibles = n.fungibles;
    nonfungibles_there = n.nonfungibles_there;
    nonfungibles = n.nonfungibles;
    stx = n.stx;
    uncapped = n.uncapped;
  }

  pub set_variable_serves : (G : Context) → IsContext W stage G → (x : List ℕ) (t : PlainType) → named_in x G.variables ≡ Some t → (v : Val) → IsOf v t → (s : State) → Kept W stage s → Kept W stage (with_variables (put (place G.principal x) v s.variables) s)
  set_variable_serves G I x t h v i s n =
      let S = stands_in W stage G I in
      let f = S.variables x t h in
      subst (λ p. Kept W stage (with_variables (put (place p x) v s.variables) s)) (sym S.home) (variable_kept I.contract x t f.initial (defines G I x (VariableForm t f.initial) f.form) v i s n)

  -- ---- maps

  pub maps_serve : (G : Context) → IsContext W stage G → (m : List ℕ) (t : PlainType × PlainType) → named_in m G.maps ≡ Some t → has_map m (contract_at G.principal W) ≡ true
  maps_serve G I m t h =
      let S = stands_in W stage G I in
      ap (λ p. has_map m (contract_at p W)) S.home ∙ ap (has_map m) I.there ∙ ap is_map (S.maps m t h)

  pub entries_serve : (G : Context) → IsContext W stage G → (m : List ℕ) (t : PlainType × PlainType) → named_in m G.maps ≡ Some t → (key : Val) → IsOf key t.0 → (s : State) → Kept W stage s → (v : Val) → get (spot G.principal m key) s.entries ≡ Some v → IsOf v t.1
  entries_serve G I m t h key i s n v there =
      let S = stands_in W stage G I in
      let d = defines G I m (MapForm t.0 t.1) (S.maps m t h) in
      let o = n.entries (spot I.contract.principal m key) v (ap (λ p. get (spot p m key) s.entries) (sym S.home) ∙ there) in
      let same = map_types t.0 o.key_type t.1 o.value_type (kinds_one W A I.contract o.contract m o.name (wire key) (wire o.entry_key) (MapForm t.0 t.1) (MapForm o.key_type o.value_type) d o.defined o.spot) in
      subst (λ t. IsOf v t) (sym same.1) o.typed

  pub put_entry_serves : (G : Context) → IsContext W stage G → (m : List ℕ) (t : PlainType × PlainType) → named_in m G.maps ≡ Some t → (key v : Val) → IsOf key t.0 → IsOf v t.1 → (s : State) → Kept W stage s → Kept W stage (with_entries (put (spot G.principal m key) v s.entries) s)
  put_entry_serves G I m t h key v i j s n =
      let S = stands_in W stage G I in
      let d = defines G I m (MapForm t.0 t.1) (S.maps m t h) in
      record {
        variables_there = n.variables_there;
        variables = n.variables;
        entries = λ k w g. after_put (λ w. IsEntry W k w) s.entries (spot G.principal m key) k v w g (λ is. record { contract = I.contract; name = m; key_type = t.0; value_type = t.1; defined = d; entry_key = key; spot = is ∙ ap (λ p. spot p m key) S.home; key_typed = i; typed = j }) (n.entries k w);
        fungibles_there = n.fungibles_there;
        fungibles = n.fungibles;
        nonfungibles_there = n.nonfungibles_there;
        nonfungibles = n.nonfungibles;
        stx = n.stx;
        uncapped = n.uncapped;
      }

  pub remove_entry_serves : (key : List ℕ) (s : State) → Kept W stage s → Kept W stage (with_entries (without key s.entries) s)
  remove_entry_serves key s n = record {
    variables_there = n.variables_there;
    variables = n.variables;
    entries = λ k w g. n.entries k w (after_without s.entries key k w g);
    fungibles_there = n.fungibles_there;
    fungibles = n.fungibles;
    nonfungibles_there = n.nonfungibles_there;
    nonfungibles = n.nonfungibles;
    stx = n.stx;
    uncapped = n.uncapped;
  }

  -- ---- events

  pub events_serve : (p : Principal) (kind : EventKind) (s : State) → Kept W stage s → Kept W stage (with_event p kind s)
  events_serve p kind s n = record {
    variables_there = n.variables_there;
    variables = n.variables;
    entries = n.entries;
    fungibles_there = n.fungibles_there;
    fungibles = n.fungibles;
    nonfungibles_there = n.nonfungibles_there;
    nonfungibles = n.nonfungibles;
    stx = n.stx;
    uncapped = n.uncapped;
  }
