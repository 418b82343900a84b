-- The report of entries, one after another.
use Rattle.std.proofs.Common.{◌≡◌, ℕ, suc, ◌+◌, ◌<◌, List, [], ◌∷◌, ◌++◌, length, take, get_or, sym, ap, ◌∙◌, append_assoc, append-nil, length-take, arith}
use Rattle.std.proofs.lemmas.List.{take_more}
use Rattle.cl_file.specs.declared.entry.Entry.{Entry}
use Rattle.cl_tx.specs.declared.outcome.TxResult.{TxResult}
use Rattle.cl_report.specs.Lines.{lines_of, report_from}

report_then : (n : ℕ) (es : List Entry) (rs : List TxResult) (e : Entry) (r : TxResult) → length es ≡ length rs → report_from n (es ++ e ∷ []) (rs ++ r ∷ []) ≡ report_from n es rs ++ lines_of (n + length es) e r
report_then n [] [] e r same =
    let number : n ≡ n + 0 = omega arith in
    append-nil (lines_of n e r) ∙ ap (λ (k : ℕ). lines_of k e r) number
report_then n [] (q ∷ rs) e r same = absurd cc
report_then n (f ∷ es) [] e r same = absurd cc
report_then n (f ∷ es) (q ∷ rs) e r same =
    let fewer : length es ≡ length rs = cc in
    let number : (n + 1) + length es ≡ n + suc (length es) = omega arith in
    ap (λ (text : List ℕ). lines_of n f q ++ text) (report_then (n + 1) es rs e r fewer ∙ ap (λ (k : ℕ). report_from (n + 1) es rs ++ lines_of k e r) number)
    ∙ sym (append_assoc (lines_of n f q) (report_from (n + 1) es rs) (lines_of (n + suc (length es)) e r))

-- one more entry
pub report_more : (es : List Entry) (rs : List TxResult) (i : ℕ) (e : Entry) (r : TxResult) → i < length es → length rs ≡ length es → e ≡ get_or es i e → r ≡ get_or rs i r
    → report_from 0 (take (i + 1) es) (take (i + 1) rs) ≡ report_from 0 (take i es) (take i rs) ++ lines_of i e r
report_more es rs i e r low same is_e is_r =
    let low_too : i < length rs = omega (arith, low, same) in
    let entries : take (i + 1) es ≡ take i es ++ e ∷ [] = take_more es i e low ∙ ap (λ (x : Entry). take i es ++ x ∷ []) (sym is_e) in
    let results : take (i + 1) rs ≡ take i rs ++ r ∷ [] = take_more rs i r low_too ∙ ap (λ (x : TxResult). take i rs ++ x ∷ []) (sym is_r) in
    let as_many : length (take i es) ≡ length (take i rs) = omega (arith, length-take i es, length-take i rs, low, low_too) in
    let number : 0 + length (take i es) ≡ i = omega (arith, length-take i es, low) in
    (λ j. report_from 0 (entries j) (results j))
    ∙ report_then 0 (take i es) (take i rs) e r as_many
    ∙ ap (λ (k : ℕ). report_from 0 (take i es) (take i rs) ++ lines_of k e r) number
