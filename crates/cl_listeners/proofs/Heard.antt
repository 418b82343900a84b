-- What was heard, and more.
use Rattle.std.proofs.Common.{◌≡◌, ℕ, ◌+◌, ◌<◌, List, [], ◌∷◌, ◌++◌, length, take, get_or, Option, Some, None, refl, sym, ap, ◌∙◌, append_assoc, append-nil}
use Rattle.std.proofs.lemmas.List.{take_more}
use Rattle.cl_events.specs.declared.event.Event.{Event}
use Rattle.cl_listeners.specs.Hearing.{with_more, one}

pub nothing_more : (heard : Option (List Event)) → heard ≡ with_more [] heard
nothing_more None = refl
nothing_more (Some before) = ap Some (sym (append-nil before))

pub more_and_more : (heard : Option (List Event)) (xs ys : List Event) → with_more ys (with_more xs heard) ≡ with_more (xs ++ ys) heard
more_and_more None xs ys = refl
more_and_more (Some before) xs ys = ap Some (append_assoc before xs ys)

pub one_more : (before now after : Option (List Event)) (events : List Event) (i : ℕ) (e : Event) → i < length events → e ≡ get_or events i e
    → now ≡ with_more (take i events) before → after ≡ with_more (one e) now → after ≡ with_more (take (i + 1) events) before
one_more before now after events i e below at h k =
    k ∙ ap (with_more (one e)) h ∙ more_and_more before (take i events) (one e)
    ∙ ap (λ xs. with_more xs before) (ap (λ x. take i events ++ x ∷ []) at ∙ sym (take_more events i e below))
