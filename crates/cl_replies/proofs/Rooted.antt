-- The replies to `root` and `prove` are one.
use Rattle.std.proofs.Common.{◌≡◌, ◌≢◌, ◌+◌, ◌<◌, ◌≤◌, ℕ, List, [], ◌∷◌, ◌++◌, length, Option, Some, refl, sym, ap, subst, ◌∙◌, arith}
use Rattle.std.specs.List.{flat_map}
use Rattle.std.proofs.Common.{length-append}
use Rattle.std.specs.declared.cmp.Ordering.{Ordering}
use Rattle.std.specs.declared.cmp.Ordering.TheVariants.{Less, Equal, Greater}
use Rattle.cl_shapes.specs.declared.function.CostFn.{CostFn}
use Rattle.std.specs.Ordering.{is_eq, ordering_reverse}
use Rattle.cl_maps.specs.Maps.{key_cmp}
use Rattle.cl_maps.proofs.MapLaws.{keys_total, same_keys}
use Rattle.cl_events.specs.State.{State}
use Rattle.cl_tables.specs.declared.row.StateRow.{StateRow}
use Rattle.cl_tables.specs.StateRows.{IsRow}
use Rattle.cl_file.specs.Files.{FileSeen}
use Rattle.cl_tx.specs.Laws.{OneRun}
use Rattle.cl_tx.specs.Nodes.{NodeSeen}
use Rattle.cl_tx.specs.Step.{schedule_of}
use Rattle.cl_lines.proofs.LineOrder.{one_list}
use Rattle.cl_lines.specs.RowLines.{row_line}
use Rattle.cl_lines.specs.StateLines.{IsStateText}
use Rattle.cl_root.specs.declared.side.Side.{Side}
use Rattle.cl_root.specs.RowBytes.{key_bytes}
use Rattle.cl_root.specs.HashTree.{IsRoot}
use Rattle.cl_root.specs.Paths.{IsPath}
use Rattle.cl_entries.specs.declared.status.Reply.{Reply}
use Rattle.cl_entries.specs.declared.status.Status.TheVariants.{Done, BadWord}
use Rattle.cl_replies.specs.Reports.{HasFewer, HasRoot, IsLeastRow, IsNumbered, IsProved, no_row, proved, IsProveReply, IsRootReply, root_line, row_text, side_line}

-- a state has one root
pub record OneOfRoots : Type 0 where
  pub root : (s : State) (a b : List ℕ) → IsRoot a s → IsRoot b s → a ≡ b
  pub path : (s : State) (key : List ℕ) (a b : Option (List Side)) → IsPath a key s → IsPath b key s → a ≡ b
  pub own : (s : State) (a b : StateRow) → IsRow s a → IsRow s b → key_bytes a ≡ key_bytes b → a ≡ b

pub state_is_one : OneRun → (table : List CostFn) (file : FileSeen) (s t : State) (c d : List ℕ) → HasRoot table file s c → HasRoot table file t d → s ≡ t
state_is_one once table file s t c d p q = p.state_is ∙ ap (λ (n : NodeSeen). n.state) (once (schedule_of table file) file p.results q.results p.after q.after p.runs q.runs).1 ∙ sym q.state_is

pub digest_is_one : OneRun → OneOfRoots → (table : List CostFn) (file : FileSeen) (s t : State) (c d : List ℕ) → HasRoot table file s c → HasRoot table file t d → c ≡ d
digest_is_one once one table file s t c d p q = one.root t c d (subst (IsRoot c) (state_is_one once table file s t c d p q) p.is_root) q.is_root

pub root_same : OneRun → OneOfRoots → (table : List CostFn) (file : FileSeen) (x y : Reply) → IsRootReply table file x → IsRootReply table file y → x ≡ y
root_same once one table file x y p q =
    p.is ∙ ap (λ (d : List ℕ). record { text = root_line d; status = Done }) (digest_is_one once one table file p.state q.state p.digest q.digest p.has_root q.has_root) ∙ sym q.is

-- ---- one row of a line

keys_same : (a b : List ℕ) → key_cmp a b ≢ Less → key_cmp b a ≢ Less → a ≡ b
keys_same a b high low = by (key_cmp a b) refl
  where
    by : (r : Ordering) → key_cmp a b ≡ r → a ≡ b
    by Less e = absurd (high e)
    by Equal e = same_keys a b (ap is_eq e)
    by Greater e = absurd (low (keys_total.antisymm b a ∙ ap ordering_reverse e))

row_is_one : OneOfRoots → (s : State) (line : List ℕ) (a b : StateRow) → IsLeastRow s line a → IsLeastRow s line b → a ≡ b
row_is_one one s line a b p q = one.own s a b p.there q.there (keys_same (key_bytes a) (key_bytes b) (q.least a p.there p.line_is) (p.least b q.there q.line_is))

lines_are_one : (s : State) (a b : List ℕ) (p : IsStateText s a) (q : IsStateText s b) → p.lines ≡ q.lines
lines_are_one s a b p q = one_list p.lines q.lines p.rising q.rising (λ line there. q.whole line (p.sound line there)) (λ line there. p.whole line (q.sound line there))

same_place : (front other : List (List ℕ)) (x y : List ℕ) (back more : List (List ℕ)) → front ++ x ∷ back ≡ other ++ y ∷ more → length front ≡ length other → x ≡ y
same_place [] [] x y back more e same = cc
same_place [] (o ∷ other) x y back more e same = absurd cc
same_place (f ∷ front) [] x y back more e same = absurd cc
same_place (f ∷ front) (o ∷ other) x y back more e same =
    let rest : front ++ x ∷ back ≡ other ++ y ∷ more = cc in
    let fewer : length front ≡ length other = cc in
    same_place front other x y back more rest fewer

-- a line with this number is no line of fewer
no_fewer : (lines front back : List (List ℕ)) (line : List ℕ) (number : ℕ) → lines ≡ front ++ line ∷ back → length front ≡ number → length lines ≤ number → ⊥
no_fewer lines front back line number is at few =
    let counted : length lines ≡ length front + length (line ∷ back) = ap length is ∙ length-append front (line ∷ back) in
    omega (arith, counted, at, few)

numbered_same : OneOfRoots → (s : State) (number : ℕ) (a b : StateRow) (p q : List Side) → IsNumbered s number a p → IsNumbered s number b q → (a ≡ b) × (p ≡ q)
numbered_same one s number a b p q x y =
    let lines = lines_are_one s x.text y.text x.lines y.lines in
    let line : x.line ≡ y.line = same_place x.front y.front x.line y.line x.back y.back (sym x.is_line ∙ lines ∙ y.is_line) (x.before ∙ sym y.before) in
    let row : a ≡ b = row_is_one one s y.line a b (subst (λ (l : List ℕ). IsLeastRow s l a) line x.is_row) y.is_row in
    let path : Some p ≡ Some q = one.path s (key_bytes b) (Some p) (Some q) (subst (λ (r : StateRow). IsPath (Some p) (key_bytes r) s) row x.is_path) y.is_path in
    (row, cc)

proved_by : OneOfRoots → (s : State) (number : ℕ) (digest : List ℕ) (x y : Reply) → IsProved s number digest x → IsProved s number digest y → x ≡ y
proved_by one s number digest x y (no_row few is) (no_row other same) = is ∙ sym same
proved_by one s number digest x y (no_row few is) (proved row path at same) =
    absurd (no_fewer few.lines.lines at.front at.back at.line number (lines_are_one s few.text at.text few.lines at.lines ∙ at.is_line) at.before few.few)
proved_by one s number digest x y (proved row path at is) (no_row few same) =
    absurd (no_fewer few.lines.lines at.front at.back at.line number (lines_are_one s few.text at.text few.lines at.lines ∙ at.is_line) at.before few.few)
proved_by one s number digest x y (proved row path at is) (proved other sides there same) =
    let one_row = numbered_same one s number row other path sides at there in
    is ∙ (λ i. record { text = root_line digest ++ (row_text (one_row.0 i) ++ flat_map side_line (one_row.1 i)); status = Done }) ∙ sym same

pub proved_same : OneRun → OneOfRoots → (table : List CostFn) (file : FileSeen) (number : ℕ) (x y : Reply) → IsProveReply table file number x → IsProveReply table file number y → x ≡ y
proved_same once one table file number x y p q =
    let state = state_is_one once table file p.state q.state p.digest q.digest p.has_root q.has_root in
    let digest = digest_is_one once one table file p.state q.state p.digest q.digest p.has_root q.has_root in
    proved_by one q.state number q.digest x y (subst (λ (z : State × List ℕ). IsProved z.0 number z.1 x) (λ i. (state i, digest i)) p.is_proved) q.is_proved
