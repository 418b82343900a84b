-- What isn't defined yet is new: no constant has its name, and no token of the contract's.
use Rattle.std.proofs.Common.{◌≡◌, ℕ, ◌+◌, Bool, true, false, cond, List, [], ◌∷◌, ◌++◌, drop, Option, Some, None, refl, sym, ap, ◌∙◌, arith}
use Rattle.std.specs.Prelude.{unwrap_or, slice_get, nat_eq, if◌then◌else◌, option_and_then}
use Rattle.std.specs.Cmp.{nat_eq_equiv}
use Rattle.std.specs.List.{IsDistinct}
use Rattle.std.specs.Ordering.{eq_by_cmp}
use Rattle.std.specs.Str.{bytes_eq}
use Rattle.std.proofs.lemmas.List.{append_cancel_left}
use Rattle.std.proofs.lemmas.Map.Keys.{apart_from_distinct}
use Rattle.std.proofs.lemmas.Option.{get_or_from_slice_get, slice_get_within}
use Rattle.std.proofs.lemmas.Slice.Eq.{bytes_eq-Decides}
use Rattle.cl_c32.specs.declared.principal.Principal.{Principal}
use Rattle.cl_shapes.specs.declared.name.CostName.{CostName}
use Rattle.cl_sexpr.specs.Tree.{Tree}
use Rattle.cl_values.specs.Tree.{Tree as Val, UintV}
use Rattle.cl_values.specs.Wire.{name_wire}
use Rattle.cl_maps.specs.Maps.{Map, put, get, empty, key_cmp}
use Rattle.cl_maps.proofs.MapLaws.{get-put, same_keys}
use Rattle.cl_tokens.specs.Ledger.{no_tokens}
use Rattle.cl_forms.specs.Forms.{Form, FormKind, ConstantForm, VariableForm, MapForm, FungibleForm, NonFungibleForm, FunctionForm, ExpressionForm}
use Rattle.cl_events.specs.State.{State, holder, place}
use Rattle.cl_meaning.specs.Answers.{Outcome, Given, Thrown, Aborted, Wrong, Deeper, Answer, Note, stop, charged, and_then, then_on}
use Rattle.cl_meaning.specs.Deployed.{Contract, Deployed, has_name, value_of}
use Rattle.cl_meaning.specs.Deploying.{defined, with_cap}
use Rattle.cl_meaning.specs.Scope.{Frame}
use Rattle.cl_meaning.specs.Top.{top}
use Rattle.cl_newness.specs.Newness.{MakesNoTokens, HasNoTokens, IsNew, IsNamed, DefineOnce, IsAhead, AreNew, OfOutcome, GivesSo}
use Rattle.cl_newness.proofs.NoTokensMade.{top_makes_none}

-- ---- what an answer gives

so_charged : {A : Type 0} (P : A → State → Type 0) (name : CostName) (n : ℕ) (a : Answer A) → GivesSo P a → GivesSo P (charged name n a)
unfolding charged
so_charged P name n a h = h

then_so : {A B : Type 0} (P : B → State → Type 0) (go_on : A → State → Answer B) (o : Outcome A) (s : State) (log : List Note) → ((v : A) → GivesSo P (go_on v s)) → GivesSo P (then_on o s log go_on)
then_so P go_on (Given v) s log k = k v
then_so P go_on (Thrown v) s log k = tt
then_so P go_on (Aborted why) s log k = tt
then_so P go_on Wrong s log k = tt
then_so P go_on Deeper s log k = tt

so_then : {A B : Type 0} (P : B → State → Type 0) (a : Answer A) (go_on : A → State → Answer B) → ((v : A) → GivesSo P (go_on v a.state)) → GivesSo P (and_then a go_on)
unfolding and_then
so_then P a go_on k = then_so P go_on a.outcome a.state a.log k

-- ---- names and places

apart_names : (x y : List ℕ) → bytes_eq y x ≡ false → y ≡ x → ⊥
apart_names x y h e = absurd (let k : bytes_eq y x ≡ true = (bytes_eq-Decides y x).1 e in cc)

apart_places : (p : Principal) (x y : List ℕ) → bytes_eq y x ≡ false → place p x ≡ place p y → ⊥
apart_places p x y h e = apart_names x y h (sym (ap (drop 1) (append_cancel_left (holder p) (name_wire x) (name_wire y) e)))

-- what is absent at another place stays absent
put_apart : {A : Type 0} (m : Map A) (p : Principal) (x y : List ℕ) (a : A) → bytes_eq y x ≡ false → get (place p x) m ≡ None → get (place p x) (put (place p y) a m) ≡ None
put_apart {A} m p x y a h none = get-put m (place p y) a (place p x) ∙ by (eq_by_cmp key_cmp (place p x) (place p y)) refl
  where
    by : (b : Bool) → eq_by_cmp key_cmp (place p x) (place p y) ≡ b → cond b (Some a) (get (place p x) m) ≡ None
    by true e = absurd (apart_places p x y h (same_keys (place p x) (place p y) e))
    by false e = none

value_apart : (x y : List ℕ) (v : Val) (cs : List (List ℕ × Val)) → bytes_eq y x ≡ false → value_of x cs ≡ None → value_of x (cs ++ (y, v) ∷ []) ≡ None
value_apart x y v [] h e = ap (λ (b : Bool). if b then Some v else None) h
value_apart x y v (c ∷ cs) h e = by (bytes_eq c.0 x) e (value_apart x y v cs h)
  where
    by : (b : Bool) → (if b then Some c.1 else value_of x cs) ≡ None → (value_of x cs ≡ None → value_of x (cs ++ (y, v) ∷ []) ≡ None) → (if b then Some c.1 else value_of x (cs ++ (y, v) ∷ [])) ≡ None
    by true k more = absurd cc
    by false k more = more k

-- ---- one definition

-- a name other than this definition's is as new as before
abbrev pub LeavesNew : Contract → State → Option (List ℕ) → Contract → State → Type 0
LeavesNew c s name d t = (x : List ℕ) → has_name x name ≡ false → IsNew c.principal x c.constants s → IsNew c.principal x d.constants t

evaluated_new : (p : Principal) (x : List ℕ) (cs : List (List ℕ × Val)) (s t : State) → MakesNoTokens s t → IsNew p x cs s → IsNew p x cs t
evaluated_new p x cs s t h n = record { constant = n.constant; fungible = h.fungibles (place p x) n.fungible; nonfungible = h.nonfungibles (place p x) n.nonfungible }

module _ (W : Deployed) (F : Frame) (c : Contract) (s : State) where
  capped_new : (y : List ℕ) (v : Val) (t : State) → MakesNoTokens s t → GivesSo (LeavesNew c s (Some y)) (with_cap c y v t)
  unfolding stop
  capped_new y (UintV n) t h =
      so_charged (LeavesNew c s (Some y)) _ _ _
      (λ x apart new. let kept = evaluated_new c.principal x c.constants s t h new in record { constant = kept.constant; fungible = put_apart t.fungibles c.principal x y (no_tokens (Some n)) apart kept.fungible; nonfungible = kept.nonfungible })
  capped_new y v t h = tt

  fungible_new : (y : List ℕ) (cap : Option Tree) → GivesSo (LeavesNew c s (Some y)) (defined W F y (FungibleForm cap) c s)
  unfolding defined stop
  fungible_new y None =
      so_charged (LeavesNew c s (Some y)) _ _ _
      (λ x apart new. record { constant = new.constant; fungible = put_apart s.fungibles c.principal x y (no_tokens None) apart new.fungible; nonfungible = new.nonfungible })
  fungible_new y (Some e) = so_then (LeavesNew c s (Some y)) (top W F c e s) _ (λ v. capped_new y v (top W F c e s).state (top_makes_none W F c e s))

  evaluated_so : (e : Tree) (x : List ℕ) → IsNew c.principal x c.constants s → IsNew c.principal x c.constants (top W F c e s).state
  evaluated_so e x new = evaluated_new c.principal x c.constants s (top W F c e s).state (top_makes_none W F c e s) new

  kind_so : (name : Option (List ℕ)) (k : FormKind) → IsNamed name k → GivesSo (LeavesNew c s name) (defined W F (unwrap_or name []) k c s)
  unfolding defined stop
  kind_so (Some y) (ConstantForm e) h =
      so_then (LeavesNew c s (Some y)) (top W F c e s) _
      (λ v. so_charged (LeavesNew c s (Some y)) _ _ _
      (λ x apart new.
      let n = evaluated_so e x new in
      record { constant = value_apart x y v c.constants apart n.constant; fungible = n.fungible; nonfungible = n.nonfungible }))
  kind_so (Some y) (VariableForm type e) h =
      so_then (LeavesNew c s (Some y)) (top W F c e s) _
      (λ v. so_charged (LeavesNew c s (Some y)) _ _ _
      (λ x apart new.
      let n = evaluated_so e x new in
      record { constant = n.constant; fungible = n.fungible; nonfungible = n.nonfungible }))
  kind_so (Some y) (MapForm key value) h = so_charged (LeavesNew c s (Some y)) _ _ _ (λ x apart new. new)
  kind_so (Some y) (FungibleForm cap) h = fungible_new y cap
  kind_so (Some y) (NonFungibleForm type) h =
      so_charged (LeavesNew c s (Some y)) _ _ _
      (λ x apart new. record { constant = new.constant; fungible = new.fungible; nonfungible = put_apart s.nonfungibles c.principal x y empty apart new.nonfungible })
  kind_so (Some y) (FunctionForm access params body) h = so_charged (LeavesNew c s (Some y)) _ _ _ (λ x apart new. new)
  kind_so (Some y) (ExpressionForm e) h = so_then (LeavesNew c s (Some y)) (top W F c e s) _ (λ v x apart new. evaluated_so e x new)
  kind_so None (ExpressionForm e) h = so_then (LeavesNew c s None) (top W F c e s) _ (λ v x apart new. evaluated_so e x new)
  kind_so None (ConstantForm e) h = absurd h
  kind_so None (VariableForm type e) h = absurd h
  kind_so None (MapForm key value) h = absurd h
  kind_so None (FungibleForm cap) h = absurd h
  kind_so None (NonFungibleForm type) h = absurd h
  kind_so None (FunctionForm access params body) h = absurd h

-- ---- one after another

pub new_at_first : (p : Principal) (forms : List Form) (order : List ℕ) (s : State) → HasNoTokens p s → AreNew p forms order 0 [] s
new_at_first p forms order s h = λ x ahead. record { constant = refl; fungible = h.fungibles x; nonfungible = h.nonfungibles x }

-- what this turn defines is new
pub new_here : (p : Principal) (forms : List Form) (order : List ℕ) (i n : ℕ) (f : Form) (c : Contract) (s : State) → slice_get order i ≡ Some n → slice_get forms n ≡ Some f → AreNew p forms order i c.constants s → (x : List ℕ) → f.name ≡ Some x → IsNew p x c.constants s
new_here p forms order i n f c s h k new x named =
    new x (record { turn = i; place = n; later = omega arith; there = h; named = ap (option_and_then (λ (g : Form). g.name)) k ∙ named })

-- a later name is another
later_apart : (forms : List Form) (order : List ℕ) (i n : ℕ) (f : Form) (x : List ℕ) → DefineOnce forms → IsDistinct nat_eq order → slice_get order i ≡ Some n → slice_get forms n ≡ Some f → IsAhead forms order (i + 1) x → has_name x f.name ≡ false
later_apart forms order i n f x once distinct h k ahead = by f.name refl
  where
    differ : nat_eq n ahead.place ≡ false
    differ =
        sym ((λ j. nat_eq (get_or_from_slice_get order i n 0 h j) (get_or_from_slice_get order ahead.turn ahead.place 0 ahead.there j)))
        ∙ apart_from_distinct nat_eq order i ahead.turn 0 distinct (omega (arith, ahead.later)) (slice_get_within order ahead.turn ahead.place ahead.there)

    is_here : f.name ≡ Some x → ⊥
    is_here e =
        let one : n ≡ ahead.place = once.once x n ahead.place (ap (option_and_then (λ (g : Form). g.name)) k ∙ e) ahead.named in
        let other_place : nat_eq n ahead.place ≡ false = differ in
        let equal : nat_eq n ahead.place ≡ true = ap (nat_eq n) (sym one) ∙ nat_eq_equiv.refl n in
        absurd cc

    by : (o : Option (List ℕ)) → f.name ≡ o → has_name x o ≡ false
    by None e = refl
    by (Some y) e = test (bytes_eq y x) refl
      where
        test : (b : Bool) → bytes_eq y x ≡ b → b ≡ false
        test true t = absurd (is_here (e ∙ ap (λ (z : List ℕ). Some z) ((bytes_eq-Decides y x).0 t)))
        test false t = refl

so_map : {A : Type 0} (P Q : A → State → Type 0) (o : Outcome A) (s : State) → ((a : A) → P a s → Q a s) → OfOutcome P o s → OfOutcome Q o s
so_map P Q (Given a) s h p = h a p
so_map P Q (Thrown v) s h p = tt
so_map P Q (Aborted why) s h p = tt
so_map P Q Wrong s h p = tt
so_map P Q Deeper s h p = tt

-- after a turn
pub new_after : (W : Deployed) (F : Frame) (c : Contract) (forms : List Form) (order : List ℕ) (i n : ℕ) (f : Form) (s : State) → DefineOnce forms → IsDistinct nat_eq order → slice_get order i ≡ Some n → slice_get forms n ≡ Some f → AreNew c.principal forms order i c.constants s → GivesSo (λ (d : Contract) t. AreNew c.principal forms order (i + 1) d.constants t) (defined W F (unwrap_or f.name []) f.kind c s)
new_after W F c forms order i n f s once distinct h k new =
    let a = defined W F (unwrap_or f.name []) f.kind c s in
    so_map (LeavesNew c s f.name) (λ (d : Contract) t. AreNew c.principal forms order (i + 1) d.constants t) a.outcome a.state
    (λ d leaves x ahead. leaves x (later_apart forms order i n f x once distinct h k ahead) (new x (record { turn = ahead.turn; place = ahead.place; later = omega (arith, ahead.later); there = ahead.there; named = ahead.named })))
    (kind_so W F c s f.name f.kind (once.named n f k))
