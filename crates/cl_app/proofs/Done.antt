-- How far a script is done.
use Rattle.std.proofs.Common.{◌≡◌, ℕ, List, [], ◌∷◌, ◌++◌, Option, Some, refl, sym, ap, subst, ◌∙◌, append_assoc, append-nil}
use Rattle.cl_ports.specs.Growth.{Grows, GrowsPart}
use Rattle.cl_ports.proofs.Grown.{grows_twice}
use Rattle.cl_events.specs.declared.event.Event.{Event}
use Rattle.cl_listeners.specs.Hearing.{Both, Told, ToldInTurn}
use Rattle.cl_listeners.specs.Laws.{MoreIsTold, NothingIsTold}
use Rattle.cl_entries.specs.declared.status.Step.{Step}
use Rattle.cl_entries.specs.Scripts.{DoesAll, DoesPart, IsDoneTo, nothing, part, more, bytes_of, events_of}
use Rattle.cl_entries.proofs.Scripts.{bytes_append, events_append}
use Rattle.cl_app.specs.Top.{ToldPart}

-- ---- points

done_all : (steps : List Step) → IsDoneTo steps (events_of steps) (bytes_of steps)
done_all [] = nothing
done_all (s ∷ steps) = more (done_all steps)

done_front : (front back : List Step) → IsDoneTo (front ++ back) (events_of front) (bytes_of front)
done_front [] back = nothing
done_front (s ∷ front) back = more (done_front front back)

done_within : (front : List Step) (step : Step) (back : List Step) (a b : List ℕ) → step.bytes ≡ a ++ b → IsDoneTo (front ++ step ∷ back) (events_of front ++ step.events) (bytes_of front ++ a)
done_within [] step back a b is = part a b is
done_within (s ∷ front) step back a b is =
    subst (λ (x : List Event × List ℕ). IsDoneTo (s ∷ (front ++ step ∷ back)) x.0 x.1)
    (λ i. (sym (append_assoc s.events (events_of front) step.events) i, sym (append_assoc s.bytes (bytes_of front) a) i))
    (more (done_within front step back a b is))

pub written_part : {steps : List Step} {events : List Event} {bytes : List ℕ} → IsDoneTo steps events bytes → (rest : List ℕ) × (bytes ++ rest ≡ bytes_of steps)
written_part (nothing {steps}) = (bytes_of steps, refl)
written_part (part {step} {steps} front back is) = (back ++ bytes_of steps, sym (append_assoc front back (bytes_of steps)) ∙ ap (λ (l : List ℕ). l ++ bytes_of steps) (sym is))
written_part (more {step} {steps} {events} {bytes} d) =
    let behind = written_part d in
    (behind.0, append_assoc step.bytes bytes behind.0 ∙ ap (λ (l : List ℕ). step.bytes ++ l) behind.1)

pub told_part : {steps : List Step} {events : List Event} {bytes : List ℕ} → IsDoneTo steps events bytes → (rest : List Event) × (events_of steps ≡ events ++ rest)
told_part (nothing {steps}) = (events_of steps, refl)
told_part (part {step} {steps} front back is) = (events_of steps, refl)
told_part (more {step} {steps} {events} {bytes} d) =
    let behind = told_part d in
    (behind.0, ap (λ (l : List Event). step.events ++ l) behind.1 ∙ sym (append_assoc step.events events behind.0))

-- ---- what is told and written

pub all_is_part : (steps : List Step) (before now : Option (List ℕ)) (were are : Both) → DoesAll steps before now were are → DoesPart steps before now were are
all_is_part steps before now were are all = record { events = events_of steps; bytes = bytes_of steps; point = done_all steps; told = all.told; written = all.written }

pub writes_part : (steps : List Step) (before now : Option (List ℕ)) (were are : Both) → DoesPart steps before now were are → GrowsPart before now (bytes_of steps)
writes_part steps before now were are does =
    let rest = written_part does.point in
    record { part = does.bytes; rest = rest.0; parts = rest.1; grown = does.written }

pub tells_part : (steps : List Step) (before now : Option (List ℕ)) (were are : Both) → DoesPart steps before now were are → ToldPart (events_of steps) were are
tells_part steps before now were are does =
    let rest = told_part does.point in
    record { front = does.events; back = rest.0; parts = rest.1; told = does.told }

grows_nothing : {X : Type 0} (before : Option (List X)) → Grows before before []
grows_nothing before = record { told = λ xs is. is ∙ ap Some (sym (append-nil xs)) }

pub all_first : NothingIsTold → (before : Option (List ℕ)) (both : Both) → DoesAll [] before before both both
all_first none before both = record { told = none both; written = grows_nothing before }

pub all_next : MoreIsTold → (front : List Step) (step : Step) (before between now : Option (List ℕ)) (were still are : Both) → DoesAll front before between were still → Told step.events still are → Grows between now step.bytes → DoesAll (front ++ step ∷ []) before now were are
all_next law front step before between now were still are so_far told written =
    let events : events_of (front ++ step ∷ []) ≡ events_of front ++ step.events = events_append front (step ∷ []) ∙ ap (λ (l : List Event). events_of front ++ l) (append-nil step.events) in
    let bytes : bytes_of (front ++ step ∷ []) ≡ bytes_of front ++ step.bytes = bytes_append front (step ∷ []) ∙ ap (λ (l : List ℕ). bytes_of front ++ l) (append-nil step.bytes) in
    record {
      told = subst (λ (l : List Event). ToldInTurn l were are) (sym events) (law (events_of front) step.events were still are so_far.told told);
      written = subst (Grows before now) (sym bytes) (grows_twice before between now (bytes_of front) step.bytes so_far.written written);
    }

-- nothing of the script
pub part_of_nothing : NothingIsTold → (steps : List Step) (before now : Option (List ℕ)) (were are : Both) → now ≡ before → are ≡ were → DoesPart steps before now were are
part_of_nothing none steps before now were are written told = record {
  events = [];
  bytes = [];
  point = nothing;
  told = subst (λ (b : Both). ToldInTurn [] were b) (sym told) (none were);
  written = subst (λ (w : Option (List ℕ)). Grows before w []) (sym written) (grows_nothing before);
}

-- so many first steps
pub part_in_front : (steps front rest : List Step) (before now : Option (List ℕ)) (were are : Both) → steps ≡ front ++ rest → DoesAll front before now were are → DoesPart steps before now were are
part_in_front steps front rest before now were are is so_far = record {
  events = events_of front;
  bytes = bytes_of front;
  point = subst (λ (l : List Step). IsDoneTo l (events_of front) (bytes_of front)) (sym is) (done_front front rest);
  told = so_far.told;
  written = so_far.written;
}

-- so many first steps, and the events of the next one with a first part of its bytes
pub part_within : MoreIsTold → (steps front : List Step) (step : Step) (rest : List Step) (before between now : Option (List ℕ)) (were still are : Both) → steps ≡ (front ++ step ∷ []) ++ rest → DoesAll front before between were still → Told step.events still are → GrowsPart between now step.bytes → DoesPart steps before now were are
part_within law steps front step rest before between now were still are is so_far told written =
    let whole : steps ≡ front ++ step ∷ rest = is ∙ append_assoc front (step ∷ []) rest in
    record {
      events = events_of front ++ step.events;
      bytes = bytes_of front ++ written.part;
      point = subst (λ (l : List Step). IsDoneTo l (events_of front ++ step.events) (bytes_of front ++ written.part)) (sym whole) (done_within front step rest written.part written.rest (sym written.parts));
      told = law (events_of front) step.events were still are so_far.told told;
      written = grows_twice before between now (bytes_of front) written.part so_far.written written.grown;
    }
