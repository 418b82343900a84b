-- The cycles that visits meet are rings.
use Rattle.std.proofs.Common.{◌≡◌, refl, sym, ap, subst, ◌∙◌, inl, inr, ℕ, zero, suc, ◌+◌, List, [], ◌∷◌, ◌++◌, length, map, filter_map, Bool, true, false, nat_eq, eqb-true, if◌then◌else◌, slice_get, option_and_then, Option, Some, None, Ok, Err}
use Rattle.std.specs.List.{cons_option}
use Rattle.std.proofs.lemmas.Bool.{true≢false, false≢true, cases_Bool, or_cases, or_left, or_right}
use Rattle.cl_forms.specs.Forms.{Form}
use Rattle.cl_forms.specs.Names.{Names, is_among, atoms_of_form, name_at}
use Rattle.cl_forms.specs.Order.{is_in, AreLinked, IsRing, IsCycle, Visited, visit_each, part_from, visit, places_of, ordered, names_at}
use Rattle.cl_order.proofs.Members.{same_number}
use Rattle.cl_order.proofs.Named.{next, next_named}
use Rattle.cl_order.proofs.Visits.{visit_done, visit_met, visit_new, visit_zero, after_err, err_is, ok_no_err}

-- each form of a path names the next, and its last names the form at a place
abbrev Leads : List Form → List ℕ → ℕ → Type 0
Leads forms [] n = Unit {0}
Leads forms (k ∷ ks) n = AreLinked forms k ks n

linked_on : (forms : List Form) (k : ℕ) (ks : List ℕ) (n m : ℕ) → AreLinked forms k ks n → Names forms n m → AreLinked forms k (ks ++ n ∷ []) m
linked_on forms k [] n m h e = (h, e)
linked_on forms k (j ∷ ks) n m h e = (h.0, linked_on forms j ks n m h.1 e)

leads_on : (forms : List Form) (path : List ℕ) (n m : ℕ) → Leads forms path n → Names forms n m → Leads forms (path ++ n ∷ []) m
leads_on forms [] n m h e = e
leads_on forms (k ∷ ks) n m h e = linked_on forms k ks n m h e

leads_tail : (forms : List Form) (k : ℕ) (ks : List ℕ) (n : ℕ) → AreLinked forms k ks n → Leads forms ks n
leads_tail forms k [] n h = tt
leads_tail forms k (j ∷ ks) n h = h.1

if_part : (forms : List Form) (b : Bool) (n m : ℕ) (path : List ℕ) → (b ≡ true → IsRing forms (m ∷ path)) → (b ≡ false → IsRing forms (part_from n path)) → IsRing forms (if b then m ∷ path else part_from n path)
if_part forms true n m path h g = h refl
if_part forms false n m path h g = g refl

part_ring : (forms : List Form) (path : List ℕ) (n : ℕ) → Leads forms path n → is_in n path ≡ true → IsRing forms (part_from n path)
part_ring forms [] n h on = absurd (false≢true on)
part_ring forms (m ∷ path) n h on =
    if_part forms (nat_eq n m) n m path
    (λ e. subst (AreLinked forms m path) (eqb-true n m e) h)
    (λ e. part_ring forms path n (leads_tail forms m path n h)
    (elim (or_cases (nat_eq n m) (is_in n path) on) [ inl t ↦ absurd (true≢false (sym t ∙ e)) | inr t ↦ t ]))

-- the cycles that a visit meets are rings
abbrev MeetsRings : List Form → List ℕ → (ℕ → List ℕ → Visited) → Type 0
MeetsRings forms path visit = (n : ℕ) (done c : List ℕ) → Leads forms path n → visit n done ≡ Err c → IsRing forms c

each_meets : (forms : List Form) (path : List ℕ) (visit : ℕ → List ℕ → Visited) → MeetsRings forms path visit → (ns done c : List ℕ) → ((m : ℕ) → is_in m ns ≡ true → Leads forms path m) → visit_each visit ns done ≡ Err c → IsRing forms c
each_meets forms path visit meets [] done c leads h = ok_no_err done c h
each_meets forms path visit meets (n ∷ ns) done c leads h =
    elim (after_err (visit n done) (visit_each visit ns) c h) [
      | inl e ↦ meets n done c (leads n (or_left (nat_eq n n) (is_in n ns) (same_number n))) e
      | inr q ↦ each_meets forms path visit meets ns q.0 c (λ m e. leads m (or_right (nat_eq m n) (is_in m ns) e)) q.2
    ]

visit_meets : (steps : ℕ) (forms : List Form) (path : List ℕ) → MeetsRings forms path (visit steps forms path)
visit_meets zero forms path n done c leads h = ok_no_err done c (sym (visit_zero forms path n done) ∙ h)
visit_meets (suc steps) forms path n done c leads h =
    elim (cases_Bool (is_in n done)) [
      | inl old ↦ ok_no_err done c (sym (visit_done (suc steps) forms path n done old) ∙ h)
      | inr new ↦
          elim (cases_Bool (is_in n path)) [
            | inl on ↦ subst (IsRing forms) (err_is (part_from n path) c (sym (visit_met steps forms path n done new on) ∙ h)) (part_ring forms path n leads on)
            | inr off ↦
                elim (after_err (visit_each (visit steps forms (path ++ n ∷ [])) (next forms n) done) (λ all. Ok (all ++ n ∷ [])) c (sym (visit_new steps forms path n done new off) ∙ h)) [
                  | inl e ↦ each_meets forms (path ++ n ∷ []) (visit steps forms (path ++ n ∷ [])) (visit_meets steps forms (path ++ n ∷ [])) (next forms n) done c (λ m named. leads_on forms path n m leads (next_named forms n m named)) e
                  | inr q ↦ ok_no_err (q.0 ++ n ∷ []) c q.2
                ]
          ]
    ]

pub cycle_ring : (forms : List Form) (c : List ℕ) → ordered forms ≡ Err c → IsRing forms c
unfolding ordered
cycle_ring forms c h = each_meets forms [] (visit (length forms + 1) forms []) (visit_meets (length forms + 1) forms []) (places_of 0 forms) [] c (λ m e. tt) h

-- ---- names

among_some : (xs : List (List ℕ)) (o : Option (List ℕ)) → is_among xs o ≡ true → (x : List ℕ) × (o ≡ Some x)
among_some xs None h = absurd (false≢true h)
among_some xs (Some x) h = (x, refl)

name_there : (forms : List Form) (m : ℕ) (g : Form) (x : List ℕ) → slice_get forms m ≡ Some g → g.name ≡ Some x → name_at forms m ≡ Some x
name_there forms m g x there named = ap (λ (o : Option Form). option_and_then (λ f. f.name) o) there ∙ named

-- a form that is named has a name
named_some : (forms : List Form) (n m : ℕ) → Names forms n m → (x : List ℕ) × (name_at forms m ≡ Some x)
named_some forms n m h =
    let (x, is) = among_some (atoms_of_form h.form) h.other.name h.names in
    (x, name_there forms m h.other x h.there is)

named_step : (o : Option (List ℕ)) (x : List ℕ) (os : List (Option (List ℕ))) (ys : List (List ℕ)) → o ≡ Some x → os ≡ map Some ys → o ∷ os ≡ map Some (cons_option o ys)
named_step None x os ys is rest = cc
named_step (Some y) x os ys is rest = ap (λ (ps : List (Option (List ℕ))). Some y ∷ ps) rest

one_named : (f : ℕ → Option (List ℕ)) (n : ℕ) (ns : List ℕ) (x : List ℕ) → f n ≡ Some x → map f ns ≡ map Some (filter_map f ns) → map f (n ∷ ns) ≡ map Some (filter_map f (n ∷ ns))
one_named f n ns x is rest = named_step (f n) x (map f ns) (filter_map f ns) is rest

linked_named : (forms : List Form) (n : ℕ) (ns : List ℕ) (end : ℕ) → AreLinked forms n ns end → map (name_at forms) ns ≡ map Some (names_at forms ns)
linked_named forms n [] end h = refl
linked_named forms n (m ∷ ms) end h =
    let (x, is) = named_some forms n m h.0 in
    one_named (name_at forms) m ms x is (linked_named forms m ms end h.1)

-- the end of a row of forms that name each other is named
end_named : (forms : List Form) (n : ℕ) (ns : List ℕ) (end : ℕ) → AreLinked forms n ns end → (x : List ℕ) × (name_at forms end ≡ Some x)
end_named forms n [] end h = named_some forms n end h
end_named forms n (m ∷ ms) end h = end_named forms m ms end h.1

ring_named : (forms : List Form) (c : List ℕ) → IsRing forms c → map (name_at forms) c ≡ map Some (names_at forms c)
ring_named forms [] h = elim h [ ]
ring_named forms (n ∷ ns) h =
    let (x, is) = end_named forms n ns n h in
    one_named (name_at forms) n ns x is (linked_named forms n ns n h)

pub cycle_found : (forms : List Form) (c : List ℕ) → ordered forms ≡ Err c → IsCycle forms (names_at forms c)
cycle_found forms c h = record { places = c; named = ring_named forms c (cycle_ring forms c h); ring = cycle_ring forms c h }
