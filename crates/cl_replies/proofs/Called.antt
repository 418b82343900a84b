-- Two entries from the first node on, and their report.
use Rattle.std.proofs.Common.{◌≡◌, ℕ, ◌<◌, ◌≤◌, List, [], ◌∷◌, ◌++◌, sym, ap, refl, ◌∙◌, subst, append-nil, arith}
use Rattle.std.proofs.lemmas.List.Elements.{All-nil}
use Rattle.cl_c32.specs.declared.principal.Principal.{Principal}
use Rattle.cl_values.specs.Valid.{IsPrincipal}
use Rattle.cl_costs.specs.Schedules.{ScheduleSeen, always}
use Rattle.cl_costs.specs.Tables.{unit_table}
use Rattle.cl_file.specs.Entries.{height_after, NeverFall}
use Rattle.cl_file.specs.declared.entry.Entry.{Entry}
use Rattle.cl_tx.specs.Laws.{HeightIsLast}
use Rattle.cl_tx.specs.Step.{Runs}
use Rattle.cl_nodes.specs.Seen.{Seen}
use Rattle.cl_nodes.specs.Laws.{OneNode}
use Rattle.cl_report.specs.Lines.{lines_of}
use Rattle.cl_entries.specs.declared.entries.End.{End}
use Rattle.cl_entries.specs.declared.status.Reply.{Reply}
use Rattle.cl_entries.specs.Entries.{Ends, IsFirst, Reaches, RunsAreSound, end_of}
use Rattle.cl_entries.proofs.Reached.{may_follow, reaches_first, reaches_next}
use Rattle.cl_replies.specs.declared.call.Both.{Both}
use Rattle.cl_replies.specs.Kept.{AreBoth}
use Rattle.cl_replies.specs.Reports.{IsReportOf, file_of, lines_by, status_of}

nobody : (schedule : ScheduleSeen) (n : Seen) → IsFirst [] n → Reaches schedule [] [] [] n
nobody schedule n is = reaches_first schedule [] n (All-nil (λ (h : Principal × ℕ). IsPrincipal h.0)) is

pub first_may : HeightIsLast → (schedule : ScheduleSeen) (a b : Entry) (n : Seen) → IsFirst [] n → NeverFall 0 (a ∷ b ∷ []) → n.height ≤ height_after n.height a
first_may law schedule a b n is rises =
    let here : 0 < 2 = omega arith in
    may_follow law schedule [] (a ∷ b ∷ []) [] n 0 a here refl rises (nobody schedule n is)

first_reached : OneNode → (schedule : ScheduleSeen) (a : Entry) (n m : Seen) (end : End) (text : List ℕ) → IsFirst [] n → (one : Ends schedule 0 n a m end text) → Reaches schedule [] (a ∷ []) (one.result ∷ []) m
first_reached one_node schedule a n m end text is one = reaches_next one_node schedule [] [] [] n m a one.result (nobody schedule n is) one.parts one.makes

pub second_may : HeightIsLast → OneNode → (schedule : ScheduleSeen) (a b : Entry) (n m : Seen) (end : End) (text : List ℕ) → IsFirst [] n → NeverFall 0 (a ∷ b ∷ []) → Ends schedule 0 n a m end text → m.height ≤ height_after m.height b
second_may law one_node schedule a b n m end text is rises one =
    let here : 1 < 2 = omega arith in
    may_follow law schedule [] (a ∷ b ∷ []) (one.result ∷ []) m 1 b here refl rises (first_reached one_node schedule a n m end text is one)

pub both_end : OneNode → (schedule : ScheduleSeen) (a b : Entry) (n m k : Seen) (both : Both) → IsFirst [] n → Ends schedule 0 n a m both.deployed.end both.deployed.text.items → Ends schedule 1 m b k both.called.end both.called.text.items → AreBoth schedule a b both
both_end one_node schedule a b n m k both is one two =
    let first = first_reached one_node schedule a n m both.deployed.end both.deployed.text.items is one in
    let second = reaches_next one_node schedule [] (a ∷ []) (one.result ∷ []) m k b two.result first two.parts two.makes in
    record {
      deployed = one.result;
      called = two.result;
      after = second.node;
      parts = record { holders = second.are_principals; entries = second.parts };
      runs = record { steps = second.steps };
      deployed_end = one.end_is;
      called_end = two.end_is;
      front = one.lines_are;
      back = two.lines_are;
    }

pub is_report_of : RunsAreSound → (schedule : ScheduleSeen) (first second : Entry) (both : Both) (reply : Reply) → schedule ≡ always unit_table → AreBoth schedule first second both
    → reply ≡ record { text = lines_by both.deployed.end both.deployed.text.items both.called.text.items; status = status_of both.deployed.end both.called.end } → IsReportOf first second reply
is_report_of sound schedule first second both reply costs are is =
    let front : both.deployed.text.items ≡ lines_of 0 first are.deployed ++ [] = are.front ∙ sym (append-nil (lines_of 0 first are.deployed)) in
    let back : both.called.text.items ≡ lines_of 1 second are.called ++ [] = are.back ∙ sym (append-nil (lines_of 1 second are.called)) in
    let results = are.deployed ∷ are.called ∷ [] in
    record {
      deployed = are.deployed;
      called = are.called;
      after = are.after;
      runs = subst (λ (s : ScheduleSeen). Runs s (file_of (first ∷ second ∷ [])) results are.after) costs are.runs;
      sound = sound schedule (file_of (first ∷ second ∷ [])) results are.after are.parts are.runs;
      is =
          is
          ∙ ap (λ (end : End). record { text = lines_by end both.deployed.text.items both.called.text.items; status = status_of end both.called.end }) are.deployed_end
          ∙ ap (λ (end : End). record { text = lines_by (end_of are.deployed.outcome) both.deployed.text.items both.called.text.items; status = status_of (end_of are.deployed.outcome) end }) are.called_end
          ∙ ap (λ (text : List ℕ). record { text = lines_by (end_of are.deployed.outcome) text both.called.text.items; status = status_of (end_of are.deployed.outcome) (end_of are.called.outcome) }) front
          ∙ ap (λ (text : List ℕ). record { text = lines_by (end_of are.deployed.outcome) (lines_of 0 first are.deployed ++ []) text; status = status_of (end_of are.deployed.outcome) (end_of are.called.outcome) }) back;
    }
