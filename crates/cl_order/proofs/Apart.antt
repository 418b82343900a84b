-- Good orders and cycles.
use Rattle.std.proofs.Common.{◌≡◌, refl, sym, ap, subst, ◌∙◌, inl, inr, ℕ, suc, ◌<◌, List, [], ◌∷◌, ◌++◌, length, arith, Bool, true, false, nat_eq, eqb-true, if◌then◌else◌, Ok, Err}
use Rattle.std.proofs.lemmas.Bool.{true≢false, false≢true, or_cases}
use Rattle.cl_forms.specs.Forms.{Form}
use Rattle.cl_forms.specs.Names.{Names}
use Rattle.cl_forms.specs.Order.{is_in, AreLinked, IsRing, IsCycle, IsGoodOrder, ordered, Visited, names_at}
use Rattle.cl_order.proofs.Named.{namer_below}
use Rattle.cl_order.proofs.Good.{order_good}
use Rattle.cl_order.proofs.Rings.{cycle_found}

-- how many stand before a number
turn : ℕ → List ℕ → ℕ
turn n [] = 0
turn n (m ∷ ms) = if nat_eq n m then 0 else suc (turn n ms)

record Cut (n : ℕ) (xs : List ℕ) : Type 0 where
  front : List ℕ
  back : List ℕ
  is : xs ≡ front ++ n ∷ back
  at : length front ≡ turn n xs

cut_step : (b : Bool) (n m : ℕ) (ms : List ℕ) → nat_eq n m ≡ b → (b ≡ false → Cut n ms) → Cut n (m ∷ ms)
unfolding turn
cut_step true n m ms e rest = record { front = []; back = ms; is = ap (λ (k : ℕ). k ∷ ms) (sym (eqb-true n m e)); at = sym (ap (λ (b : Bool). if b then 0 else suc (turn n ms)) e) }
cut_step false n m ms e rest =
    let c : Cut n ms = rest refl in
    record { front = m ∷ c.front; back = c.back; is = ap (λ (xs : List ℕ). m ∷ xs) c.is; at = ap suc c.at ∙ sym (ap (λ (b : Bool). if b then 0 else suc (turn n ms)) e) }

cut_at : (n : ℕ) (xs : List ℕ) → is_in n xs ≡ true → Cut n xs
cut_at n [] h = absurd (false≢true h)
cut_at n (m ∷ ms) h =
    cut_step (nat_eq n m) n m ms refl (λ e. cut_at n ms (elim (or_cases (nat_eq n m) (is_in n ms) h) [ inl t ↦ absurd (true≢false (sym t ∙ e)) | inr t ↦ t ]))

turn_step : (b : Bool) (t l : ℕ) → (b ≡ false → t < l) → (if b then 0 else suc t) < suc l
turn_step true t l h = omega arith
turn_step false t l h = let low : t < l = h refl in omega arith

turn_front : (m : ℕ) (front more : List ℕ) → is_in m front ≡ true → turn m (front ++ more) < length front
unfolding turn
turn_front m [] more h = absurd (false≢true h)
turn_front m (k ∷ front) more h =
    turn_step (nat_eq m k) (turn m (front ++ more)) (length front)
    (λ e. turn_front m front more (elim (or_cases (nat_eq m k) (is_in m front) h) [ inl t ↦ absurd (true≢false (sym t ∙ e)) | inr t ↦ t ]))

-- in a good order what is named stands before what names it
named_before : (forms : List Form) (order : List ℕ) → IsGoodOrder forms order → (n m : ℕ) → Names forms n m → turn m order < turn n order
named_before forms order good n m h =
    let c : Cut n order = cut_at n order (good.complete n (namer_below forms n m h)) in
    let low : turn m (c.front ++ n ∷ c.back) < length c.front = turn_front m c.front (n ∷ c.back) (good.after c.front n c.back c.is m h) in
    let here : turn m order < length c.front = subst (λ (xs : List ℕ). turn m xs < length c.front) (sym c.is) low in
    let at : length c.front ≡ turn n order = c.at in
    omega arith

linked_before : (forms : List Form) (order : List ℕ) → IsGoodOrder forms order → (n : ℕ) (ns : List ℕ) (end : ℕ) → AreLinked forms n ns end → turn end order < turn n order
linked_before forms order good n [] end h = named_before forms order good n end h
linked_before forms order good n (m ∷ ms) end h =
    let one : turn m order < turn n order = named_before forms order good n m h.0 in
    let more : turn end order < turn m order = linked_before forms order good m ms end h.1 in
    omega arith

no_ring : (forms : List Form) (order : List ℕ) → IsGoodOrder forms order → (c : List ℕ) → IsRing forms c → ⊥
no_ring forms order good [] h = h
no_ring forms order good (n ∷ ns) h = let low : turn n order < turn n order = linked_before forms order good n ns n h in omega arith

pub not_both : (forms : List Form) (order : List ℕ) (cycle : List (List ℕ)) → IsGoodOrder forms order → IsCycle forms cycle → ⊥
not_both forms order cycle good c = no_ring forms order good c.places c.ring

order_is_found : (forms : List Form) (order : List ℕ) (v : Visited) → ordered forms ≡ v → IsGoodOrder forms order → (found : List ℕ) × (v ≡ Ok found)
order_is_found forms order (Ok found) is good = (found, refl)
order_is_found forms order (Err c) is good = absurd (not_both forms order (names_at forms c) good (cycle_found forms c is))

cycle_is_found : (forms : List Form) (cycle : List (List ℕ)) (v : Visited) → ordered forms ≡ v → IsCycle forms cycle → (places : List ℕ) × (v ≡ Err places)
cycle_is_found forms cycle (Ok order) is c = absurd (not_both forms order cycle (order_good forms order is) c)
cycle_is_found forms cycle (Err places) is c = (places, refl)

pub order_found : (forms : List Form) (order : List ℕ) → IsGoodOrder forms order → (found : List ℕ) × (ordered forms ≡ Ok found)
order_found forms order good = order_is_found forms order (ordered forms) refl good

pub ring_found : (forms : List Form) (cycle : List (List ℕ)) → IsCycle forms cycle → (places : List ℕ) × (ordered forms ≡ Err places)
ring_found forms cycle c = cycle_is_found forms cycle (ordered forms) refl c
