-- One more entry.
use Rattle.std.proofs.Common.{◌≡◌, ℕ, zero, suc, ◌<◌, ◌≤◌, List, [], ◌∷◌, ◌++◌, length, take, get_or, refl, sym, ap, subst, ◌∙◌, arith}
use Rattle.std.specs.List.{All}
use Rattle.std.proofs.lemmas.List.Elements.{All-nil, All-push}
use Rattle.cl_c32.specs.declared.principal.Principal.{Principal}
use Rattle.cl_values.specs.Valid.{IsPrincipal}
use Rattle.cl_costs.specs.Schedules.{ScheduleSeen}
use Rattle.cl_file.specs.Entries.{height_after, height_of, NeverFall}
use Rattle.cl_file.specs.declared.entry.Entry.{Entry}
use Rattle.cl_tx.specs.Laws.{HeightIsLast}
use Rattle.cl_tx.specs.declared.outcome.TxResult.{TxResult}
use Rattle.cl_tx.specs.Nodes.{NodeSeen, Stepped}
use Rattle.cl_tx.specs.Step.{Steps, AllStep, first_node}
use Rattle.cl_node_sound.specs.Sound.{HasParts}
use Rattle.cl_nodes.specs.Seen.{Seen}
use Rattle.cl_nodes.specs.Laws.{OneNode}
use Rattle.cl_nodes.specs.Steps.{Makes}
use Rattle.cl_entries.specs.Entries.{IsFirst, Reaches}

-- the holders of STX before all entries
abbrev pub Holders : Type 0
Holders = List (Principal × ℕ)

all_then : (schedule : ScheduleSeen) (node : NodeSeen) (es : List Entry) (rs : List TxResult) (m : NodeSeen) (e : Entry) (s : Stepped) → AllStep schedule node es rs m → Steps schedule m e s → AllStep schedule node (es ++ e ∷ []) (rs ++ s.result ∷ []) s.node
all_then schedule node [] rs m e s all step =
    (s, [], subst (λ (n : NodeSeen). Steps schedule n e s) all.1 step, (refl, refl), ap (λ (r : List TxResult). r ++ s.result ∷ []) all.0)
all_then schedule node (f ∷ es) rs m e s all step =
    (all.0, all.1 ++ s.result ∷ [], all.2, all_then schedule all.0.node es all.1 m e s all.3 step, ap (λ (r : List TxResult). r ++ s.result ∷ []) all.4)

-- the first node, before all entries
pub reaches_first : (schedule : ScheduleSeen) (holders : Holders) (n : Seen) → All (λ (h : Principal × ℕ). IsPrincipal h.0) holders → IsFirst holders n → Reaches schedule holders [] [] n
reaches_first schedule holders n who is = subst (Reaches schedule holders [] []) (sym is) (record {
  node = first_node holders;
  is_node = record { known = refl; is = refl };
  are_principals = who;
  parts = All-nil HasParts;
  steps = (refl, refl);
})

pub reaches_next : OneNode → (schedule : ScheduleSeen) (holders : Holders) (es : List Entry) (rs : List TxResult) (n m : Seen) (e : Entry) (r : TxResult) → Reaches schedule holders es rs n → HasParts e → Makes schedule n e r m → Reaches schedule holders (es ++ e ∷ []) (rs ++ r ∷ []) m
reaches_next one schedule holders es rs n m e r so_far parts makes =
    let s : Stepped = record { node = makes.to; result = r } in
    let from : makes.from ≡ so_far.node = one n makes.from so_far.node makes.is_from so_far.is_node in
    let step : Steps schedule so_far.node e s = subst (λ (x : NodeSeen). Steps schedule x e s) from makes.steps in
    record {
      node = makes.to;
      is_node = makes.is_to;
      are_principals = so_far.are_principals;
      parts = All-push HasParts es e so_far.parts parts;
      steps = all_then schedule (first_node holders) es rs so_far.node e s so_far.steps step;
    }

-- ---- heights

height_reached : HeightIsLast → (schedule : ScheduleSeen) (holders : Holders) (es : List Entry) (rs : List TxResult) (n : Seen) → Reaches schedule holders es rs n → n.height ≡ height_of 0 es
height_reached law schedule holders es rs n so_far =
    sym (ap (λ (m : NodeSeen). m.height) so_far.is_node.is) ∙ law schedule (record { genesis = holders; epochs = []; entries = es }) rs so_far.node (record { steps = so_far.steps })

never_falls_at : (height : ℕ) (es : List Entry) (i : ℕ) (d : Entry) → i < length es → NeverFall height es → height_of height (take i es) ≤ height_after (height_of height (take i es)) (get_or es i d)
never_falls_at height [] i d h rises = absurd (omega (arith, h))
never_falls_at height (e ∷ es) zero d h rises = rises.0
never_falls_at height (e ∷ es) (suc i) d h rises = never_falls_at (height_after height e) es i d (omega (arith, h)) rises.1

-- the next entry of a list whose heights never fall may follow
pub may_follow : HeightIsLast → (schedule : ScheduleSeen) (holders : Holders) (es : List Entry) (rs : List TxResult) (n : Seen) (i : ℕ) (e : Entry) → i < length es → e ≡ get_or es i e → NeverFall 0 es → Reaches schedule holders (take i es) rs n → n.height ≤ height_after n.height e
may_follow law schedule holders es rs n i e h is_next rises so_far =
    subst (λ (k : ℕ). k ≤ height_after k e) (sym (height_reached law schedule holders (take i es) rs n so_far))
    (subst (λ (x : Entry). height_of 0 (take i es) ≤ height_after (height_of 0 (take i es)) x) (sym is_next) (never_falls_at 0 es i e h rises))
