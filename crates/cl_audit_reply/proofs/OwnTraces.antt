-- The auditor says yes to a file's own traces and its own report.
use Rattle.std.proofs.Common.{◌≡◌, ℕ, zero, suc, ◌+◌, ◌<◌, ◌≤◌, ◌^◌, ◌&&◌, Bool, true, List, [], ◌∷◌, ◌++◌, length, map, Option, Some, None, Ok, refl, sym, ap, subst, ◌∙◌, arith}
use Rattle.std.specs.Prelude.{filter_map, nat_eq, option_map, if◌then◌else◌}
use Rattle.std.specs.List.{All, cons_option}
use Rattle.std.proofs.lemmas.List.Elements.{All-nil, All-cons, All-head, All-tail}
use Rattle.cl_shapes.specs.declared.function.CostFn.{CostFn}
use Rattle.cl_values.specs.Reading.{decoded}
use Rattle.cl_values.specs.Tree.{Tree}
use Rattle.cl_values.specs.Valid.{IsVal}
use Rattle.cl_values.specs.Wire.{wire}
use Rattle.cl_meaning.specs.Trace.{Claim as Told}
use Rattle.cl_file.specs.Files.{FileSeen}
use Rattle.cl_tx.specs.declared.outcome.TxResult.{TxResult}
use Rattle.cl_tx.specs.Step.{first_node, schedule_of}
use Rattle.cl_report.specs.Lines.{report_from}
use Rattle.cl_claims.specs.declared.spelled.ClaimLine.{ClaimLine}
use Rattle.cl_claims.specs.Files.{Rise}
use Rattle.cl_audit_walk.specs.declared.cursor.Claim.{Claim}
use Rattle.cl_audit.specs.Agrees.{agree}
use Rattle.cl_audit_results.specs.Audits.{AllAgree, FileTraced}
use Rattle.cl_audit_reply.specs.Grouped.{claim_at, grouped_from, grouped_result, traces_in}
use Rattle.cl_audit_reply.specs.Own.{IsSpelled, OwnIsYes, own_line, own_lines, own_text}
use Rattle.cl_audit_reply.specs.Verdicts.{first_apart}
use Rattle.cl_audit_reply.specs.declared.reply.Verdict.TheVariants.{Yes}
use Rattle.cl_audit_reply.proofs.Apart.{eq_true}
use Rattle.cl_audit_reply.proofs.Grouping.{at_other, at_own}
use Rattle.cl_audit_reply.proofs.ReadBack.{IsGoodLine, lines_read, same_text}
use Rattle.cl_audit_reply.proofs.There.{told_length}

-- ---- claims

abbrev own_claim : Told → Claim
own_claim t = record { span = t.span; value = t.value }

abbrev own_claims : List (List Told) → List (List Claim)
own_claims told = map (map own_claim) told

agree_own : (t : List Told) → agree t (map own_claim t) ≡ true
agree_own [] = refl
agree_own (c ∷ t) = λ i. ((eq_true c.span.start c.span.start refl i && eq_true c.span.end c.span.end refl i) && same_text (wire c.value) i) && agree_own t i

all_agree : (told : List (List Told)) → AllAgree told (own_claims told)
all_agree [] = tt
all_agree (t ∷ ts) = (agree_own t, all_agree ts)

-- ---- lines of one entry before others

-- they aren't found for another entry
lines_skipped : (k j : ℕ) (t : List Told) (rest : List ClaimLine) → (j ≡ k → ⊥) → filter_map (claim_at k) (map (own_line j) t ++ rest) ≡ filter_map (claim_at k) rest
lines_skipped k j [] rest other = refl
lines_skipped k j (c ∷ t) rest other =
    ap (λ (o : Option Claim). cons_option o (filter_map (claim_at k) (map (own_line j) t ++ rest))) (at_other (own_line j c) k other)
    ∙ lines_skipped k j t rest other

later_skipped : (k j : ℕ) (ts : List (List Told)) → k < j → filter_map (claim_at k) (own_lines j ts) ≡ []
later_skipped k j [] low = refl
later_skipped k j (t ∷ ts) low = lines_skipped k j t (own_lines (j + 1) ts) (λ same. omega (arith, same, low)) ∙ later_skipped k (j + 1) ts (omega (arith, low))

lines_found : (k : ℕ) (t : List Told) (rest : List ClaimLine) → filter_map (claim_at k) rest ≡ [] → filter_map (claim_at k) (map (own_line k) t ++ rest) ≡ map own_claim t
lines_found k [] rest none = none
lines_found k (c ∷ t) rest none =
    ap (λ (o : Option Claim). cons_option o (filter_map (claim_at k) (map (own_line k) t ++ rest))) (at_own (own_line k c) k refl)
    ∙ ap (λ (cs : List Claim). own_claim c ∷ cs) (lines_found k t rest none)

groups_skipped : (j k n : ℕ) (t : List Told) (rest : List ClaimLine) → j < k → grouped_from (map (own_line j) t ++ rest) k n ≡ grouped_from rest k n
groups_skipped j k zero t rest low = refl
groups_skipped j k (suc n) t rest low = λ i. lines_skipped k j t rest (λ same. omega (arith, same, low)) i ∷ groups_skipped j (k + 1) n t rest (omega (arith, low)) i

own_grouped : (k : ℕ) (told : List (List Told)) → grouped_from (own_lines k told) k (length told) ≡ own_claims told
own_grouped k [] = refl
own_grouped k (t ∷ ts) = λ i.
    lines_found k t (own_lines (k + 1) ts) (later_skipped k (k + 1) ts (omega arith)) i
    ∷ (groups_skipped k (k + 1) (length ts) t (own_lines (k + 1) ts) (omega arith) ∙ own_grouped (k + 1) ts) i

-- ---- numbers of entries

rise_part : (least k entries : ℕ) (t : List Told) (rest : List ClaimLine) → least ≤ k → k < entries → ((l : ℕ) → l ≤ k → Rise l entries rest) → Rise least entries (map (own_line k) t ++ rest)
rise_part least k entries [] rest low within behind = behind least low
rise_part least k entries (c ∷ t) rest low within behind = (low, within, rise_part k k entries t rest (omega arith) within behind)

rise_own : (least k entries : ℕ) (told : List (List Told)) → least ≤ k → k + length told ≤ entries → Rise least entries (own_lines k told)
rise_own least k entries [] low room = tt
rise_own least k entries (t ∷ ts) low room = rise_part least k entries t (own_lines (k + 1) ts) low (omega (arith, room)) (λ l under. rise_own l (k + 1) entries ts (omega (arith, under)) (omega (arith, room)))

-- ---- limits

good_part : (k : ℕ) (t : List Told) (rest : List ClaimLine) → k < 2 ^ 32 → All IsSpelled t → All IsGoodLine rest → All IsGoodLine (map (own_line k) t ++ rest)
good_part k [] rest small spelled good = good
good_part k (c ∷ t) rest small spelled good =
    let here = All-head IsSpelled c t spelled in
    All-cons IsGoodLine (own_line k c) (map (own_line k) t ++ rest) (record { entry = small; span = here.span; value = here.value }) (good_part k t rest small (All-tail IsSpelled c t spelled) good)

good_own : (k : ℕ) (told : List (List Told)) → k + length told < 2 ^ 32 → All (All IsSpelled) told → All IsGoodLine (own_lines k told)
good_own k [] small spelled = All-nil IsGoodLine
good_own k (t ∷ ts) small spelled = good_part k t (own_lines (k + 1) ts) (omega (arith, small)) (All-head (All IsSpelled) t ts spelled) (good_own (k + 1) ts (omega (arith, small)) (All-tail (All IsSpelled) t ts spelled))

-- ---- reports

same_report : (text : List ℕ) → first_apart text text ≡ None
same_report [] = refl
same_report (b ∷ text) = ap (λ (x : Bool). if x then option_map suc (first_apart text text) else Some 0) (eq_true b b refl) ∙ ap (option_map suc) (same_report text)

pub own_is_yes : ((v : Tree) → IsVal v → decoded (wire v) ≡ Ok v) → OwnIsYes
own_is_yes read_back table file results told few traced spelled =
    let many : length told ≡ length file.entries = told_length (schedule_of table file) (first_node file.genesis) file.entries results told traced.after traced.entries in
    let rise : Rise 0 (length file.entries) (own_lines 0 told) = rise_own 0 0 (length file.entries) told (omega arith) (omega (arith, many)) in
    let lines = lines_read read_back 0 (length file.entries) (own_lines 0 told) rise (good_own 0 told (omega (arith, many, few)) spelled) in
    let groups : grouped_from (own_lines 0 told) 0 (length file.entries) ≡ own_claims told = ap (grouped_from (own_lines 0 told) 0) (sym many) ∙ own_grouped 0 told in
    record {
      claims = own_claims told;
      read = ap (grouped_result (length file.entries)) lines ∙ ap (λ (cs : List (List Claim)). Ok cs) groups;
      reply = record {
        verdict = Yes;
        is_verdict = record { results = results; told = told; traced = traced; agree = all_agree told; compared = same_report (report_from 0 file.entries results) };
        is = refl;
      };
    }
