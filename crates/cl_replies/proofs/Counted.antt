-- A workload, entry by entry.
use Rattle.std.proofs.Common.{◌≡◌, ℕ, suc, ◌+◌, ◌<◌, ◌≤◌, ◌%◌, ◌==◌, ◌^◌, Bool, true, false, List, [], ◌∷◌, ◌++◌, refl, sym, ap, subst, ◌∙◌, arith, if◌then◌else◌}
use Rattle.std.proofs.lemmas.List.Elements.{All-nil}
use Rattle.cl_c32.specs.declared.principal.Principal.{Principal}
use Rattle.std.specs.Prelude.{Option, Some, None, codes, is_some, IfSome}
use Rattle.cl_costs.specs.Schedules.{ScheduleSeen, always}
use Rattle.cl_costs.specs.Tables.{unit_table}
use Rattle.cl_maps.specs.Maps.{get}
use Rattle.cl_tokens.specs.Ledger.{Ledger}
use Rattle.cl_values.specs.Valid.{IsPrincipal}
use Rattle.cl_events.specs.State.{State, holder}
use Rattle.cl_tables.specs.Amounts.{balance_in}
use Rattle.cl_tables.specs.Variables.{key_of}
use Rattle.cl_tables.specs.declared.place.Place.{Place}
use Rattle.cl_meaning.specs.Samples.{P1, of_P0}
use Rattle.cl_file.specs.declared.entry.Entry.{Entry}
use Rattle.cl_file.specs.Entries.{height_after}
use Rattle.cl_tx.specs.declared.outcome.TxResult.{TxResult}
use Rattle.cl_tx.specs.Laws.{OneRun}
use Rattle.cl_tx.specs.Nodes.{NodeSeen}
use Rattle.cl_nodes.specs.Seen.{Seen}
use Rattle.cl_nodes.specs.Laws.{OneNode}
use Rattle.cl_nodes.specs.Steps.{Makes}
use Rattle.cl_workload.specs.Workload.{deployment, mint, transfer, next_number, drawn, call_for, number_after, calls, workload}
use Rattle.cl_workload.specs.Summary.{Counts, counts_of, supply_of, balance_of, coins, summary_line, IsSummary, AreSmall, WorkloadsAreSmall}
use Rattle.cl_entries.specs.Entries.{IsFirst, Reaches}
use Rattle.cl_node_sound.specs.Sound.{HasParts}
use Rattle.cl_entries.specs.declared.status.Reply.{Reply}
use Rattle.cl_entries.specs.declared.status.Status.TheVariants.{Done}
use Rattle.cl_replies.specs.Kept.{IsCounted}
use Rattle.cl_replies.specs.Reports.{IsGenerated}
use Rattle.cl_entries.proofs.Reached.{reaches_first, reaches_next}

-- ---- heights: no entry of a workload is a block

either_follows : (height d : ℕ) (b : Bool) → height ≤ height_after height (if b then mint d else transfer d)
either_follows height d true = omega arith
either_follows height d false = omega arith

pub call_follows : (height draw : ℕ) (e : Entry) → e ≡ call_for draw → height ≤ height_after height e
call_follows height draw e is = subst (λ (x : Entry). height ≤ height_after height x) (sym is) (either_follows height (draw % 1000) (draw % 4 == 0))

pub deployment_follows : (height : ℕ) (e : Entry) → e ≡ deployment → height ≤ height_after height e
deployment_follows height e is = subst (λ (x : Entry). height ≤ height_after height x) (sym is) (omega arith)

-- ---- the runs

-- the counts after one more result
abbrev pub Adds : Counts → TxResult → Counts → Type 0
Adds before r now = (results : List TxResult) → AreSmall (results ++ r ∷ []) → before ≡ counts_of results → now ≡ counts_of (results ++ r ∷ [])

reached_small : WorkloadsAreSmall → (seed count : ℕ) (results : List TxResult) (n : Seen) → count < 2 ^ 32 → Reaches (always unit_table) [] (deployment ∷ calls seed count) results n → AreSmall results
reached_small small seed count results n low reached = small seed count results reached.node low (record { steps = reached.steps })

pub after_deployment : OneNode → WorkloadsAreSmall → (schedule : ScheduleSeen) (n m : Seen) (e : Entry) (r : TxResult) (before now : Counts) → schedule ≡ always unit_table → IsFirst [] n → e ≡ deployment → HasParts e → Makes schedule n e r m
    → before ≡ counts_of [] → Adds before r now → (seed : ℕ) → IsCounted seed 0 now seed m
unfolding calls number_after
after_deployment one small schedule n m e r before now costs is entry parts makes none adds seed =
    let made : Makes (always unit_table) n deployment r m = subst (λ (x : ScheduleSeen × Entry). Makes x.0 n x.1 r m) (λ i. (costs i, entry i)) makes in
    let reached : Reaches (always unit_table) [] (deployment ∷ []) (r ∷ []) m =
    reaches_next one (always unit_table) [] [] [] n m deployment r (reaches_first (always unit_table) [] n (All-nil (λ (h : Principal × ℕ). IsPrincipal h.0)) is) (subst HasParts entry parts) made
    in
    record {
      results = r ∷ [];
      reaches = reached;
      counted = adds [] (reached_small small seed 0 (r ∷ []) m (omega arith) reached) none;
      drawn = refl;
    }

next_counted : OneNode → WorkloadsAreSmall → (schedule : ScheduleSeen) (seed n : ℕ) (k m : Seen) (e : Entry) (r : TxResult) (before now : Counts) (number next : ℕ) → schedule ≡ always unit_table → suc n < 2 ^ 32 → IsCounted seed n before number k
    → next ≡ next_number number → e ≡ call_for (drawn next) → HasParts e → Makes schedule k e r m → Adds before r now → IsCounted seed (suc n) now next m
unfolding calls number_after
next_counted one small schedule seed n k m e r before now number next costs low so_far step entry parts makes adds =
    let number_is : next ≡ number_after seed (suc n) = step ∙ ap next_number so_far.drawn in
    let call_is : e ≡ call_for (drawn (number_after seed (suc n))) = entry ∙ ap (λ (x : ℕ). call_for (drawn x)) number_is in
    let made : Makes (always unit_table) k (call_for (drawn (number_after seed (suc n)))) r m = subst (λ (x : ScheduleSeen × Entry). Makes x.0 k x.1 r m) (λ i. (costs i, call_is i)) makes in
    let reached : Reaches (always unit_table) [] (deployment ∷ calls seed (suc n)) (so_far.results ++ r ∷ []) m =
    reaches_next one (always unit_table) [] (deployment ∷ calls seed n) so_far.results k m (call_for (drawn (number_after seed (suc n)))) r so_far.reaches (subst HasParts call_is parts) made in
    record {
      results = so_far.results ++ r ∷ [];
      reaches = reached;
      counted = adds so_far.results (reached_small small seed (suc n) (so_far.results ++ r ∷ []) m low reached) so_far.counted;
      drawn = number_is;
    }

pub after_call : OneNode → WorkloadsAreSmall → (schedule : ScheduleSeen) (k m : Seen) (e : Entry) (r : TxResult) (before now : Counts) (number next : ℕ) → schedule ≡ always unit_table → next ≡ next_number number → e ≡ call_for (drawn next) → HasParts e → Makes schedule k e r m
    → Adds before r now → (seed n : ℕ) → n + 1 < 2 ^ 32 → IsCounted seed n before number k → IsCounted seed (n + 1) now next m
after_call one small schedule k m e r before now number next costs step entry parts makes adds seed n low so_far =
    let more : suc n ≡ n + 1 = omega arith in
    subst (λ (i : ℕ). IsCounted seed i now next m) more
    (next_counted one small schedule seed n k m e r before now number next costs (omega (arith, low)) so_far step entry parts makes adds)

-- ---- coins, of a token that may not be there

-- where the state keeps the coins
abbrev pub coin_place : Place
coin_place = record { contract = of_P0 (codes "token"); name = codes "coin" }

kept_at : (s : State) (at : Place) → at ≡ coin_place → get (key_of at) s.fungibles ≡ coins s
kept_at s at is = ap (λ (p : Place). get (key_of p) s.fungibles) is

some_supply : (o : Option Ledger) (n : ℕ) → is_some o ≡ true → IfSome o (λ l. n ≡ l.supply) → n ≡ supply_of o
some_supply None n h is = absurd cc
some_supply (Some l) n h is = is

no_supply : (o : Option Ledger) → is_some o ≡ false → 0 ≡ supply_of o
no_supply None h = refl
no_supply (Some l) h = absurd cc

pub supply_there : (s : State) (at : Place) (n : ℕ) → at ≡ coin_place → is_some (get (key_of at) s.fungibles) ≡ true → IfSome (get (key_of at) s.fungibles) (λ l. n ≡ l.supply) → n ≡ supply_of (coins s)
supply_there s at n is h supply = some_supply (get (key_of at) s.fungibles) n h supply ∙ ap supply_of (kept_at s at is)

pub supply_absent : (s : State) (at : Place) → at ≡ coin_place → is_some (get (key_of at) s.fungibles) ≡ false → 0 ≡ supply_of (coins s)
supply_absent s at is h = no_supply (get (key_of at) s.fungibles) h ∙ ap supply_of (kept_at s at is)

same_balance : (o : Option Ledger) → balance_in (holder P1) o ≡ balance_of o
same_balance None = refl
same_balance (Some l) = refl

pub balance_there : (s : State) (at : Place) → at ≡ coin_place → balance_in (holder P1) (get (key_of at) s.fungibles) ≡ balance_of (coins s)
balance_there s at is = ap (balance_in (holder P1)) (kept_at s at is) ∙ same_balance (coins s)

-- ---- the reply

pub is_summary : (seed count number : ℕ) (counts : Counts) (n : Seen) (line : List ℕ) → IsCounted seed count counts number n → line ≡ summary_line count counts (supply_of (coins n.state)) (balance_of (coins n.state)) → IsSummary seed count line
is_summary seed count number counts n line counted is_line =
    let state : n.state ≡ counted.reaches.node.state = sym (ap (λ (m : NodeSeen). m.state) counted.reaches.is_node.is) in
    record {
      results = counted.results;
      after = counted.reaches.node;
      runs = record { steps = counted.reaches.steps };
      is =
          is_line
          ∙ ap (λ (c : Counts). summary_line count c (supply_of (coins n.state)) (balance_of (coins n.state))) counted.counted
          ∙ ap (λ (s : State). summary_line count (counts_of counted.results) (supply_of (coins s)) (balance_of (coins s))) state;
    }

-- there is one
pub generated_same : OneRun → (seed count : ℕ) (x y : Reply) → IsGenerated seed count x → IsGenerated seed count y → x ≡ y
generated_same once seed count x y p q =
    let both = once (always unit_table) (workload seed count) p.summary.results q.summary.results p.summary.after q.summary.after p.summary.runs q.summary.runs in
    let line : p.line ≡ q.line =
    p.summary.is
    ∙ ap (λ (rs : List TxResult). summary_line count (counts_of rs) (supply_of (coins p.summary.after.state)) (balance_of (coins p.summary.after.state))) both.0
    ∙ ap (λ (m : NodeSeen). summary_line count (counts_of q.summary.results) (supply_of (coins m.state)) (balance_of (coins m.state))) both.1
    ∙ sym q.summary.is in
    p.is ∙ ap (λ (l : List ℕ). record { text = l; status = Done }) line ∙ sym q.is
