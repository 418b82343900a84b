-- The refusal of a cycle.
use Rattle.std.proofs.Common.{◌≡◌, sym, ap, subst, ◌∙◌, ℕ, List, [], ◌∷◌, option_map, slice_get, Some, None, Err}
use Rattle.cl_forms.specs.Forms.{Form}
use Rattle.cl_forms.specs.Order.{AreLinked, IsRing, IsCycle, ordered, names_at}
use Rattle.cl_forms.specs.Cycle.{first_span}
use Rattle.cl_order.proofs.Rings.{cycle_ring, cycle_found}

linked_there : (forms : List Form) (n : ℕ) (ns : List ℕ) (end : ℕ) → AreLinked forms n ns end → (f : Form) × (slice_get forms n ≡ Some f)
linked_there forms n [] end h = (h.form, h.here)
linked_there forms n (m ∷ ms) end h = (h.0.form, h.0.here)

ring_span : (forms : List Form) (c : List ℕ) → IsRing forms c → None ≡ first_span forms c → ⊥
ring_span forms [] h none = h
ring_span forms (n ∷ ns) h none =
    let (f, there) = linked_there forms n ns n h in
    let is : None ≡ Some f.span = none ∙ ap (option_map (λ (g : Form). g.span)) there in
    cc

pub span_there : (forms : List Form) (c : List ℕ) → ordered forms ≡ Err c → None ≡ first_span forms c → ⊥
span_there forms c met none = ring_span forms c (cycle_ring forms c met) none

pub of_cycle_ring : (forms : List Form) (names : List (List ℕ)) (places : List ℕ) → ordered forms ≡ Err places → names ≡ names_at forms places → IsCycle forms names
of_cycle_ring forms names places met are = subst (IsCycle forms) (sym are) (cycle_found forms places met)
