-- The loops of and, or; and the frame of as-contract.
use Rattle.std.proofs.Common.{◌≡◌, ℕ, ◌+◌, ◌<◌, ◌≤◌, List, length, map, drop, get_or, sym, ap, ◌∙◌}
use Rattle.std.proofs.lemmas.List.{drop_all}
use Rattle.cl_shapes.specs.Limits.{Purse}
use Rattle.cl_values.specs.Tree.{BoolV}
use Rattle.cl_events.specs.State.{State}
use Rattle.cl_code.specs.Typed.{Typed, expression_of}
use Rattle.cl_meaning.specs.Answers.{give, and_then}
use Rattle.cl_meaning.specs.Scope.{Scope, Frame, Take, in_frame}
use Rattle.cl_meaning.specs.Meaning.{means}
use Rattle.cl_sexpr.specs.Tree.{Tree}
use Rattle.cl_meaning.specs.Control.{choice, and_on, or_on}
use Rattle.cl_meaning.specs.Limits.{Costs}
use Rattle.cl_frames.specs.Watching.{Seen, watched}
use Rattle.std.specs.Prelude.{true, false}
use Rattle.std.specs.Prelude.{Option}
use Rattle.cl_values.proofs.Lists.{next_part}
use Rattle.cl_c32.specs.declared.principal.Principal.{Principal}
use Rattle.cl_contracts.specs.declared.deployed.Deployed.{Deployed}
use Rattle.cl_contracts.specs.Seen.{deployed_seen}
use Rattle.cl_meaning.specs.Deployed.{contract_at}
use Rattle.cl_frames.specs.declared.frame.Frame.{Frame as FrameOfCode}
use Rattle.cl_frames.specs.declared.home.Home.{Home}
use Rattle.cl_frames.specs.Homes.{IsHome, with_opening}

pub and_next : (costs : Costs) (p : Purse) (sp : Seen) (take : Take) (S : Scope) (xs : List Typed) (i : ℕ) (x : Typed) (s : State) → i < length xs → x ≡ get_or xs i x → watched costs p sp (and_on take S (map expression_of (drop i xs)) s) ≡ watched costs p sp (and_then (take S (expression_of x) s) (λ v t. choice v (and_on take S (map expression_of (drop (i + 1) xs))) (give (BoolV false)) t))
unfolding and_on
and_next costs p sp take S xs i x s h k = ap (λ l. watched costs p sp (and_on take S (map expression_of l) s)) (next_part xs i x h k)

pub and_end : (costs : Costs) (p : Purse) (sp : Seen) (take : Take) (S : Scope) (xs : List Typed) (i : ℕ) (s : State) → length xs ≤ i → watched costs p sp (and_on take S (map expression_of (drop i xs)) s) ≡ watched costs p sp (give (BoolV true) s)
unfolding and_on
and_end costs p sp take S xs i s h = ap (λ l. watched costs p sp (and_on take S (map expression_of l) s)) (drop_all i xs h)

pub or_next : (costs : Costs) (p : Purse) (sp : Seen) (take : Take) (S : Scope) (xs : List Typed) (i : ℕ) (x : Typed) (s : State) → i < length xs → x ≡ get_or xs i x → watched costs p sp (or_on take S (map expression_of (drop i xs)) s) ≡ watched costs p sp (and_then (take S (expression_of x) s) (λ v t. choice v (give (BoolV true)) (or_on take S (map expression_of (drop (i + 1) xs))) t))
unfolding or_on
or_next costs p sp take S xs i x s h k = ap (λ l. watched costs p sp (or_on take S (map expression_of l) s)) (next_part xs i x h k)

pub or_end : (costs : Costs) (p : Purse) (sp : Seen) (take : Take) (S : Scope) (xs : List Typed) (i : ℕ) (s : State) → length xs ≤ i → watched costs p sp (or_on take S (map expression_of (drop i xs)) s) ≡ watched costs p sp (give (BoolV false) s)
unfolding or_on
or_end costs p sp take S xs i s h = ap (λ l. watched costs p sp (or_on take S (map expression_of l) s)) (drop_all i xs h)

pub in_another : (costs : Costs) (q : Purse) (sq : Seen) (depth : ℕ) (S : Scope) (F G : Frame) (e : Tree) (s : State) → G ≡ F → watched costs q sq (means depth (in_frame F S) e s) ≡ watched costs q sq (means depth (in_frame G S) e s)
in_another costs q sq depth S F G e s h = ap (λ (H : Frame). watched costs q sq (means depth (in_frame H S) e s)) (sym h)

pub same_home : (deployed : Deployed) (opening : Option Home) (home : Home) (F G : FrameOfCode) → G.contract ≡ F.contract → IsHome deployed opening home F → IsHome deployed opening home G
same_home deployed opening home F G h fits = record {
  found = ap (λ (p : Principal). contract_at p (with_opening opening (deployed_seen deployed))) h ∙ fits.found;
}
