-- The entries of a run, one after another.
use Rattle.std.proofs.Common.{Result, Ok, Err, OnOk, OnErr, ◌≡◌, ℕ, ◌+◌, ◌<◌, ◌≤◌, List, [], ◌∷◌, ◌++◌, length, take, drop, get_or, refl, sym, ap, subst, ◌∙◌, suc, inl, inr, append_assoc, append-nil, length-take, arith}
use Rattle.std.proofs.lemmas.List.{take_all, take_more}
use Rattle.cl_costs.specs.Schedules.{ScheduleSeen}
use Rattle.cl_file.specs.Entries.{height_after, NeverFall}
use Rattle.cl_file.specs.declared.entry.Entry.{Entry}
use Rattle.cl_tx.specs.declared.outcome.TxResult.{TxResult}
use Rattle.cl_report.specs.Lines.{lines_of, report_from}
use Rattle.cl_nodes.specs.Seen.{Seen}
use Rattle.cl_nodes.specs.Steps.{Makes}
use Rattle.cl_engine.specs.Steps.{IsCall}
use Rattle.cl_session.specs.declared.session.Session.{Session}
use Rattle.cl_session.specs.Sessions.{AllMake, IsCleared, Made, MadeOrSame, Ran, RanPart, Stepped}
use Rattle.cl_session.proofs.Rising.{call_rises, rises_next}

-- ---- one entry more

make_then : (schedule : ScheduleSeen) (before : Seen) (es : List Entry) (rs : List TxResult) (m : Seen) (e : Entry) (r : TxResult) (after : Seen) → AllMake schedule before es rs m → Makes schedule m e r after → AllMake schedule before (es ++ e ∷ []) (rs ++ r ∷ []) after
make_then schedule before [] [] m e r after same makes = (after, subst (λ (n : Seen). Makes schedule n e r after) same makes, refl)
make_then schedule before [] (q ∷ rs) m e r after all makes = absurd all
make_then schedule before (f ∷ es) [] m e r after all makes = absurd all
make_then schedule before (f ∷ es) (q ∷ rs) m e r after all makes = (all.0, all.1, make_then schedule all.0 es rs m e r after all.2 makes)

each_result : (schedule : ScheduleSeen) (before : Seen) (es : List Entry) (rs : List TxResult) (after : Seen) → AllMake schedule before es rs after → length es ≡ length rs
each_result schedule before [] [] after all = refl
each_result schedule before [] (r ∷ rs) after all = absurd all
each_result schedule before (e ∷ es) [] after all = absurd all
each_result schedule before (e ∷ es) (r ∷ rs) after all = ap suc (each_result schedule all.0 es rs after all.2)

report_then : (n : ℕ) (es : List Entry) (rs : List TxResult) (e : Entry) (r : TxResult) → length es ≡ length rs → report_from n (es ++ e ∷ []) (rs ++ r ∷ []) ≡ report_from n es rs ++ lines_of (n + length es) e r
report_then n [] [] e r same = let zero_more : n ≡ n + 0 = omega arith in append-nil (lines_of n e r) ∙ ap (λ (k : ℕ). lines_of k e r) zero_more
report_then n [] (q ∷ rs) e r same = absurd (omega (arith, same))
report_then n (f ∷ es) [] e r same = absurd (omega (arith, same))
report_then n (f ∷ es) (q ∷ rs) e r same =
    let rest : length es ≡ length rs = omega (arith, same) in
    let counted : (n + 1) + length es ≡ n + length (f ∷ es) = omega arith in
    ap (λ (t : List ℕ). lines_of n f q ++ t) (report_then (n + 1) es rs e r rest)
    ∙ sym (append_assoc (lines_of n f q) (report_from (n + 1) es rs) (lines_of ((n + 1) + length es) e r))
    ∙ ap (λ (k : ℕ). (lines_of n f q ++ report_from (n + 1) es rs) ++ lines_of k e r) counted

-- ---- a run on its way

-- so many first entries are done, and the text is their report
pub record RunsTo (entries : List Entry) (i : ℕ) (first now : Session) : Type 0 where
  pub results : List TxResult
  pub make : AllMake first.costs first.node (take i entries) results now.node
  pub report : now.text.items ≡ report_from 0 (take i entries) results
  pub done : now.done ≡ i
  pub costs : now.costs ≡ first.costs
  pub rises : NeverFall now.node.height (drop i entries)

pub runs_first : (entries : List Entry) (first now : Session) → IsCleared first now → NeverFall first.node.height entries → RunsTo entries 0 first now
runs_first entries first now cleared rises = record {
  results = [];
  make = cleared.same.node;
  report = cleared.text;
  done = cleared.done;
  costs = cleared.same.costs;
  rises = subst (λ (n : Seen). NeverFall n.height entries) (sym cleared.same.node) rises;
}

-- the entries so far with one more
more : (entries : List Entry) (i : ℕ) (e : Entry) → i < length entries → e ≡ get_or entries i e → take (i + 1) entries ≡ take i entries ++ e ∷ []
more entries i e h is = take_more entries i e h ∙ ap (λ (x : Entry). take i entries ++ x ∷ []) (sym is)

make_more : (entries : List Entry) (i : ℕ) (first now next : Session) (e : Entry) → i < length entries → e ≡ get_or entries i e → (so_far : RunsTo entries i first now) → (made : Made e now next) → AllMake first.costs first.node (take (i + 1) entries) (so_far.results ++ made.result ∷ []) next.node
make_more entries i first now next e h is so_far made =
    subst (λ (es : List Entry). AllMake first.costs first.node es (so_far.results ++ made.result ∷ []) next.node) (sym (more entries i e h is))
    (make_then first.costs first.node (take i entries) so_far.results now.node e made.result next.node so_far.make
    (subst (λ (c : ScheduleSeen). Makes c now.node e made.result next.node) so_far.costs made.makes))

report_more : (entries : List Entry) (i : ℕ) (first now : Session) (e : Entry) (r : TxResult) → i < length entries → e ≡ get_or entries i e → (so_far : RunsTo entries i first now) → now.text.items ++ lines_of now.done e r ≡ report_from 0 (take (i + 1) entries) (so_far.results ++ r ∷ [])
report_more entries i first now e r h is so_far =
    let counted : now.done ≡ 0 + length (take i entries) = omega (arith, so_far.done, length-take i entries, h) in
    ap (λ (t : List ℕ). t ++ lines_of now.done e r) so_far.report
    ∙ ap (λ (k : ℕ). report_from 0 (take i entries) so_far.results ++ lines_of k e r) counted
    ∙ sym (report_then 0 (take i entries) so_far.results e r (each_result first.costs first.node (take i entries) so_far.results now.node so_far.make))
    ∙ ap (λ (es : List Entry). report_from 0 es (so_far.results ++ r ∷ [])) (sym (more entries i e h is))

-- the next entry doesn't fall
pub may_follow : (entries : List Entry) (i : ℕ) (first now : Session) (e : Entry) → i < length entries → e ≡ get_or entries i e → RunsTo entries i first now → now.node.height ≤ height_after now.node.height e
may_follow entries i first now e h is so_far = (rises_next now.node.height entries i e h is so_far.rises).0

pub runs_next : (entries : List Entry) (i : ℕ) (first now next : Session) (e : Entry) → i < length entries → e ≡ get_or entries i e → RunsTo entries i first now → Stepped e now next → RunsTo entries (i + 1) first next
runs_next entries i first now next e h is so_far stepped = record {
  results = so_far.results ++ stepped.made.result ∷ [];
  make = make_more entries i first now next e h is so_far stepped.made;
  report = stepped.lines ∙ report_more entries i first now e stepped.made.result h is so_far;
  done = stepped.made.done ∙ ap (λ (k : ℕ). k + 1) so_far.done;
  costs = stepped.costs ∙ so_far.costs;
  rises = subst (λ (k : ℕ). NeverFall k (drop (i + 1) entries)) (sym stepped.made.height) (rises_next now.node.height entries i e h is so_far.rises).1;
}

-- all entries are done
pub runs_all : (entries : List Entry) (i : ℕ) (first now : Session) → i ≡ length entries → RunsTo entries i first now → Ran entries first now
runs_all entries i first now end so_far =
    let all : take i entries ≡ entries = take_all i entries (omega (arith, end)) in
    record {
      results = so_far.results;
      make = subst (λ (es : List Entry). AllMake first.costs first.node es so_far.results now.node) all so_far.make;
      report = so_far.report ∙ ap (λ (es : List Entry). report_from 0 es so_far.results) all;
      done = so_far.done ∙ end;
      costs = so_far.costs;
    }

-- the next one is done or not, and no line was added
pub runs_part : (entries : List Entry) (i : ℕ) (first now next : Session) (e : Entry) → i < length entries → e ≡ get_or entries i e → RunsTo entries i first now → MadeOrSame e now next → RanPart entries first next
runs_part entries i first now next e h is so_far failed = elim failed.node [
  | inl made ↦
      let counted : i + 1 ≡ next.done = sym (made.done ∙ ap (λ (k : ℕ). k + 1) so_far.done) in
      record {
        within = omega (arith, counted, h);
        results = so_far.results ++ made.result ∷ [];
        make = subst (λ (k : ℕ). AllMake first.costs first.node (take k entries) (so_far.results ++ made.result ∷ []) next.node) counted (make_more entries i first now next e h is so_far made);
        rest = lines_of now.done e made.result;
        report =
            ap (λ (t : List ℕ). t ++ lines_of now.done e made.result) failed.text
            ∙ report_more entries i first now e made.result h is so_far
            ∙ ap (λ (k : ℕ). report_from 0 (take k entries) (so_far.results ++ made.result ∷ [])) counted;
        costs = failed.costs ∙ so_far.costs;
      }
  | inr same ↦
      let counted : i ≡ next.done = sym (same.1 ∙ so_far.done) in
      record {
        within = omega (arith, counted, h);
        results = so_far.results;
        make = subst (λ (k : ℕ). AllMake first.costs first.node (take k entries) so_far.results next.node) counted
            (subst (λ (n : Seen). AllMake first.costs first.node (take i entries) so_far.results n) (sym same.0) so_far.make);
        rest = [];
        report =
            append-nil next.text.items ∙ failed.text ∙ so_far.report
            ∙ ap (λ (k : ℕ). report_from 0 (take k entries) so_far.results) counted;
        costs = failed.costs ∙ so_far.costs;
      }
]

-- ---- a call alone

abbrev alone : Entry → List Entry
alone e = e ∷ []

one_so_far : (e : Entry) (first now : Session) → IsCall e → IsCleared first now → RunsTo (alone e) 0 first now
one_so_far e first now call cleared = runs_first (alone e) first now cleared (call_rises first.node.height e call, tt)

pub ran_one : (e : Entry) (first now next : Session) → IsCall e → IsCleared first now → Stepped e now next → Ran (alone e) first next
ran_one e first now next call cleared stepped = runs_all (alone e) 1 first next refl (runs_next (alone e) 0 first now next e (omega arith) refl (one_so_far e first now call cleared) stepped)

pub ran_part_of_one : (e : Entry) (first now next : Session) → IsCall e → IsCleared first now → MadeOrSame e now next → RanPart (alone e) first next
ran_part_of_one e first now next call cleared failed = runs_part (alone e) 0 first now next e (omega arith) refl (one_so_far e first now call cleared) failed

-- where nothing is done, no entry is
pub ran_none : (entries : List Entry) (first now : Session) → IsCleared first now → RanPart entries first now
ran_none entries first now cleared =
    let none : take now.done entries ≡ [] = ap (λ (k : ℕ). take k entries) cleared.done in
    record {
      within = omega (arith, cleared.done);
      results = [];
      make = subst (λ (es : List Entry). AllMake first.costs first.node es [] now.node) (sym none) cleared.same.node;
      rest = [];
      report = append-nil now.text.items ∙ cleared.text ∙ ap (λ (es : List Entry). report_from 0 es []) (sym none);
      costs = cleared.same.costs;
    }

-- ---- by how a call ended

pub ok_so : {T E : Type 0} (P Q : Type 0) (r : Result T E) → (P → Q) → OnOk r P → OnOk r Q
ok_so P Q (Ok x) so p = so p
ok_so P Q (Err e) so p = tt

pub err_so : {T E : Type 0} (P Q : Type 0) (r : Result T E) → (P → Q) → OnErr r P → OnErr r Q
err_so P Q (Ok x) so p = tt
err_so P Q (Err e) so p = so p

pub err_is : {T E : Type 0} (P : Type 0) (r : Result T E) → P → OnErr r P
err_is P (Ok x) p = tt
err_is P (Err e) p = p
