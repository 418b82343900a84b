-- One more move among the sums, one more condition among what is named.
use Rattle.std.proofs.Common.{◌≡◌, ℕ, ◌+◌, ◌-◌, ◌<◌, ◌≤◌, Bool, true, false, cond, ◌||◌, List, [], ◌∷◌, length, drop, get_or, Option, None, Some, is_some, refl, sym, ap, ◌∙◌, subst, if◌then◌else◌, arith}
use Rattle.std.specs.List.{list_any}
use Rattle.std.specs.Map.{lookup}
use Rattle.std.proofs.Math.Seq.{drop-length}
use Rattle.std.specs.Ordering.{is_eq}
use Rattle.std.specs.Cmp.{Equal-is}
use Rattle.std.specs.BTreeMap.{get, get_by, is_at, UpdatesBy}
use Rattle.std.specs.BTreeSet.{BTreeSet}
use Rattle.std.specs.BTreeSet as set
use Rattle.std.proofs.lemmas.List.{drop_more}
use Rattle.std.proofs.lemmas.List.Sums.{sum_by-cons}
use Rattle.cl_c32.specs.declared.principal.Principal.{Principal}
use Rattle.cl_events.specs.declared.event.Move.{Move}
use Rattle.cl_events.specs.declared.event.Asset.{Asset}
use Rattle.cl_post.specs.declared.condition.Condition.{Condition}
use Rattle.cl_post.specs.Post.{weight, sent, has_sent, is_named, fitting, is_of}
use Rattle.cl_post.specs.Holdings.{Sums, AreSums, AreNamed, parts_of, parts_cmp, parts_total, sum_found}
use Rattle.cl_post.proofs.Orders.{of_parts, parts_of_move}

-- what is found does not depend on which of two equal lists of parts is looked up
same_found : (sums : Sums) (a b : List (List ℕ)) → is_eq (parts_cmp a b) ≡ true → get parts_cmp sums a ≡ get parts_cmp sums b
same_found sums a b e = λ i. get_by (λ z. parts_total.congr a b z ((Equal-is (parts_cmp a b)).0 e) i) sums

sent_more : (m : Move) (later : List Move) (p : Principal) (asset : Asset) → sent (m ∷ later) p asset ≡ weight p asset m + sent later p asset
unfolding sent
sent_more m later p asset = sum_by-cons (weight p asset) m later

found_after : (m : Move) (old new : Sums) (sum : Option ℕ) (p : Principal) (asset : Asset) (b : Bool)
    → UpdatesBy parts_cmp (parts_cmp (parts_of m.from m.asset)) old new (Some sum)
    → is_of p asset m ≡ b → get parts_cmp new (parts_of p asset) ≡ cond b (Some sum) (get parts_cmp old (parts_of p asset))
found_after m old new sum p asset b u is =
    u.0 (parts_of p asset) ∙ ap (λ c. cond c (Some sum) (get parts_cmp old (parts_of p asset))) (sym (parts_of_move p asset m) ∙ is)

module _ (m : Move) (later : List Move) (old new : Sums) (sum : Option ℕ) (s : AreSums later old)
    (u : UpdatesBy parts_cmp (parts_cmp (parts_of m.from m.asset)) old new (Some sum))
    (grows : (n : ℕ) → sum_found (get parts_cmp old (parts_of m.from m.asset)) ≡ fitting n → sum ≡ fitting (n + m.amount)) where
  sum_after : (p : Principal) (asset : Asset) (b : Bool) → is_of p asset m ≡ b → sum_found (get parts_cmp new (parts_of p asset)) ≡ fitting (sent (m ∷ later) p asset)
  sum_after p asset true is =
      let found = same_found old (parts_of m.from m.asset) (parts_of p asset) (sym (parts_of_move p asset m) ∙ is) in
      let n = sent later p asset in
      let k : weight p asset m ≡ m.amount = ap (λ c. if c then m.amount else 0) is in
      let all : n + m.amount ≡ sent (m ∷ later) p asset = omega (arith, k, sent_more m later p asset) in
      ap sum_found (found_after m old new sum p asset true u is) ∙ grows n (ap sum_found found ∙ s.summed p asset) ∙ ap fitting all
  sum_after p asset false is =
      let n = sent later p asset in
      let k : weight p asset m ≡ 0 = ap (λ c. if c then m.amount else 0) is in
      let all : n ≡ sent (m ∷ later) p asset = omega (arith, k, sent_more m later p asset) in
      ap sum_found (found_after m old new sum p asset false u is) ∙ s.summed p asset ∙ ap fitting all

  moved_after : (p : Principal) (asset : Asset) (b : Bool) → is_of p asset m ≡ b → is_some (get parts_cmp new (parts_of p asset)) ≡ (b || has_sent later p asset)
  moved_after p asset true is = ap is_some (found_after m old new sum p asset true u is)
  moved_after p asset false is = ap is_some (found_after m old new sum p asset false u is) ∙ s.moved p asset

  pub sums_more : AreSums (m ∷ later) new
  sums_more = record {
    summed = λ p asset. sum_after p asset (is_of p asset m) refl;
    moved = λ p asset. moved_after p asset (is_of p asset m) refl;
  }

module _ (c : Condition) (later : List Condition) (old new : BTreeSet (List (List ℕ))) (s : AreNamed later old)
    (u : set.UpdatesBy parts_cmp (parts_cmp (parts_of c.principal c.asset)) old new true) where
  named_or : (a b : Bool) → cond a true b ≡ (a || b)
  named_or true b = refl
  named_or false b = refl

  pub named_more : AreNamed (c ∷ later) new
  named_more m =
      u.0 (parts_of m.from m.asset)
      ∙ (λ i. cond (sym (of_parts c.principal c.asset m) i) true (s m i))
      ∙ named_or (is_of c.principal c.asset m) (is_named later m)

-- ------------------------------------------------------------ from the last one on

-- before anything is added
pub no_sums : (moves : List Move) (sums : Sums) → sums.entries ≡ [] → AreSums (drop (length moves) moves) sums
unfolding sent
no_sums moves sums none =
    let end = drop-length moves in
    let found : (q : List (List ℕ)) → get parts_cmp sums q ≡ None = λ q. ap (λ es. lookup (is_at (parts_cmp q)) es) none in
    subst (λ ms. AreSums ms sums) (sym end) (record {
      summed = λ p asset. ap sum_found (found (parts_of p asset));
      moved = λ p asset. ap is_some (found (parts_of p asset));
    })

pub none_named : (conditions : List Condition) (named : BTreeSet (List (List ℕ))) → named.keys ≡ [] → AreNamed (drop (length conditions) conditions) named
none_named conditions named none =
    subst (λ cs. AreNamed cs named) (sym (drop-length conditions)) (λ m. ap (λ ks. list_any (is_at (parts_cmp (parts_of m.from m.asset))) ks) none)

-- one step towards the front
pub at_front : {A : Type 0} (P : List A → Type 0) (xs : List A) (i : ℕ) (x : A) → 0 < i → i ≤ length xs → x ≡ get_or xs (i - 1) x → P (x ∷ drop i xs) → P (drop (i - 1) xs)
at_front P xs i x some fits at holds =
    let split : drop (i - 1) xs ≡ get_or xs (i - 1) x ∷ drop (i - 1 + 1) xs = drop_more xs (i - 1) x (omega (arith, some, fits)) in
    let next : i - 1 + 1 ≡ i = omega (arith, some) in
    subst P (sym (split ∙ (λ j. (sym at) j ∷ drop (next j) xs))) holds
