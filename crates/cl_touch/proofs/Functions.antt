-- Functions whose spots are among those of sets, and the laws of their calls.
use Rattle.std.proofs.Common.{◌≡◌, ℕ, Bool, true, false, List, [], ◌∷◌, Contains, Option, Some, None, refl, sym, ap, ◌∙◌}
use Rattle.std.specs.Prelude.{if◌then◌else◌}
use Rattle.std.proofs.lemmas.List.Elements.{Contains-push, Contains-append_left, Contains-append_right}
use Rattle.cl_c32.specs.declared.principal.Principal.{Principal}
use Rattle.cl_values.specs.Tree.{Tree as Val}
use Rattle.cl_maps.proofs.MapLaws.{same_keys}
use Rattle.cl_tokens.specs.Table.{is_key}
use Rattle.cl_events.specs.State.{State, holder, is_principal}
use Rattle.cl_meaning.specs.Deployed.{Contract, Deployed, Function, contract_at, function_of}
use Rattle.cl_meaning.specs.Scope.{Frame, OwnFunction}
use Rattle.cl_meaning.specs.Top.{call_from, most_depth}
use Rattle.cl_tables.specs.declared.spot.Spot.{Spot}
use Rattle.cl_spots.specs.Spots.{Agree}
use Rattle.cl_spots.proofs.Grafts.{agree_itself}
use Rattle.cl_touch.specs.Uses.{Use, Reads, Writes, Applies, Crosses, uses_in}
use Rattle.cl_touch.specs.Touches.{natives_at, HasUse, by_read, by_write, by_function, by_contract, at_write, at_function, at_contract, Touched, Written}
use Rattle.cl_touch.specs.Frames.{AreFramed, AnswerAlike}
use Rattle.cl_touch.specs.Laws.{WrittenIsTouched, CallsChangeWrittenAlone, CallsAnswerAlike}
use Rattle.cl_touch.proofs.Fine.{AllFine}
use Rattle.cl_touch.proofs.Evaluations.{IsFineOne, FineAt, each_depth}
use Rattle.cl_touch.proofs.Framed.{framed_keeps, framed_at_first}

-- ---- contracts are found under their own principals

abbrev at_key : List ℕ → Deployed → Option Contract
at_key key [] = None
at_key key (c ∷ cs) = if is_key (holder c.principal) key then Some c else at_key key cs

by_key : (p : Principal) (W : Deployed) → contract_at p W ≡ at_key (holder p) W
by_key p [] = refl
by_key p (c ∷ cs) = ap (λ (o : Option Contract). if is_principal c.principal p then Some c else o) (by_key p cs)

found_key : (p : Principal) (W : Deployed) (c : Contract) → contract_at p W ≡ Some c → holder c.principal ≡ holder p
found_key p [] c h = absurd cc
found_key p (d ∷ ds) c h = by (is_principal d.principal p) refl h (found_key p ds c)
  where
    same_contract : (a b : Contract) → Some a ≡ Some b → a ≡ b
    same_contract a b e = cc

    by : (b : Bool) → is_principal d.principal p ≡ b → (if b then Some d else contract_at p ds) ≡ Some c → (contract_at p ds ≡ Some c → holder c.principal ≡ holder p) → holder c.principal ≡ holder p
    by true e h more = ap (λ (c : Contract). holder c.principal) (sym (same_contract d c h)) ∙ same_keys (holder d.principal) (holder p) e
    by false e h more = more h

pub found_at_own : (p : Principal) (W : Deployed) (c : Contract) → contract_at p W ≡ Some c → contract_at c.principal W ≡ Some c
found_at_own p W c h = by_key c.principal W ∙ ap (λ (key : List ℕ). at_key key W) (found_key p W c h) ∙ sym (by_key p W) ∙ h

-- ---- what is written is touched

pub of_written : (W : Deployed) (x : Spot) (p : Principal) (f : List ℕ) → Written W p f x → Touched W p f x
of_written W x p f (at_write u) = by_write u
of_written W x p f (at_function g u w) = by_function g u (of_written W x p g w)
of_written W x p f (at_contract q g c u at w) = by_contract q g c u at (of_written W x c.principal g w)

pub written_is_touched : WrittenIsTouched
written_is_touched W p f x w = of_written W x p f w

-- ---- functions

all_fine : (Fine : Use → Type 0) (us : List Use) → ((u : Use) → Contains us u → Fine u) → AllFine Fine us
all_fine Fine [] h = tt
all_fine Fine (u ∷ us) h = (h u (Contains-append_left (u ∷ []) us u (Contains-push [] u)), all_fine Fine us (λ v there. h v (Contains-append_right (u ∷ []) us v there)))

module _ (W : Deployed) (T C : Spot → Type 0) where
  -- a function of a deployed contract whose spots are among these
  pub record IsWithin (p : Principal) (f : Function) : Type 0 where
    pub name : List ℕ
    pub there : function_of name (contract_at p W) ≡ Some f
    pub touched : (x : Spot) → Touched W p name x → T x
    pub written : (x : Spot) → Written W p name x → C x

  module _ (p : Principal) (f : Function) (h : IsWithin p f) where
    used : (u : Use) → Contains (uses_in (natives_at p W) p f.body) u → HasUse W p h.name u
    used u there = record { function = f; there = h.there; used = there }

    one_within : (g : List ℕ) → Contains (uses_in (natives_at p W) p f.body) (Applies g) → (o : Option Function) → function_of g (contract_at p W) ≡ o → IsFineOne W IsWithin T C p o
    one_within g u None is = tt
    one_within g u (Some k) is = record {
      name = g;
      there = is;
      touched = λ x t. h.touched x (by_function g (used (Applies g) u) t);
      written = λ x w. h.written x (at_function g (used (Applies g) u) w);
    }

    use_within : (u : Use) → Contains (uses_in (natives_at p W) p f.body) u → FineAt W IsWithin T C p u
    use_within (Reads x) there = h.touched x (by_read (used (Reads x) there))
    use_within (Writes x) there = (h.touched x (by_write (used (Writes x) there)), h.written x (at_write (used (Writes x) there)))
    use_within (Applies g) there = one_within g there (function_of g (contract_at p W)) refl
    use_within (Crosses q g) there = λ c at k is. record {
      name = g;
      there = ap (function_of g) (found_at_own q W c at) ∙ is;
      touched = λ x t. h.touched x (by_contract q g c (used (Crosses q g) there) at t);
      written = λ x w. h.written x (at_contract q g c (used (Crosses q g) there) at w);
    }

  bodies_within : (p : Principal) (f : Function) → IsWithin p f → AllFine (FineAt W IsWithin T C p) (uses_in (natives_at p W) p f.body)
  bodies_within p f h = all_fine (FineAt W IsWithin T C p) (uses_in (natives_at p W) p f.body) (use_within p f h)

-- ---- calls

module _ (W : Deployed) (F : Frame) (f : List ℕ) (function : Function) (there : function_of f (contract_at F.contract W) ≡ Some function) (vs : List Val) where
  pub calls_alike : (s t : State) → Agree (Touched W F.contract f) s t → AnswerAlike (Touched W F.contract f) (Written W F.contract f) s t (call_from W F function vs s) (call_from W F function vs t)
  unfolding call_from
  calls_alike s t agree =
      let a = (each_depth W (IsWithin W (Touched W F.contract f) (Written W F.contract f)) (AreFramed (Touched W F.contract f) (Written W F.contract f) s t) (Touched W F.contract f) (Written W F.contract f)
      (framed_keeps (Touched W F.contract f) (Written W F.contract f) s t) (bodies_within W (Touched W F.contract f) (Written W F.contract f)) most_depth).1 F [] (OwnFunction function)
      (record { name = f; there = there; touched = λ x h. h; written = λ x h. h }) vs s t (framed_at_first (Touched W F.contract f) (Written W F.contract f) s t agree) in
      record { outcome = a.outcome; log = a.log; framed = a.states }

pub calls_answer_alike : CallsAnswerAlike
calls_answer_alike W F f function there vs s t agree = calls_alike W F f function there vs s t agree

pub calls_change_written_alone : CallsChangeWrittenAlone
calls_change_written_alone W F f function there vs s = (calls_alike W F f function there vs s s (λ x t. agree_itself s x)).framed.first
