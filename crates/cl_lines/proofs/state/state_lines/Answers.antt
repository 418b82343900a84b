use Rattle.std.proofs.Common.{◌≡◌, sym, subst, Vec, Global, ℕ}
use Rattle.std.specs.Prelude.{IfOk, map}
use Rattle.std.proofs.lemmas.Result.{IfOk-weaker}
use Rattle.cl_tables.specs.declared.row.StateRow.{StateRow}
use Rattle.cl_lines.specs.RowLines.{row_line}
use Rattle.cl_lines.specs.StateLines.{IsStateText, with_line_feeds}
use Rattle.cl_lines.specs.LineSets.{IsSetOf}
use Rattle.cl_lines.proofs.StateText.{text_of_rows}
use Rattle.cl_lines.proofs.state.state_lines.Goals as goal

pub returns : goal.returns
returns c =
    let state = c.args.world.now.stack.top in
    let rows = c.in_ok-rows.rows.items in
    let lines = map (λ (line : Vec ℕ Global). line.items) c.in_ok-set.set.items in
    let told = subst (λ rs. map (λ (line : Vec ℕ Global). line.items) c.in_ok-lines.lines.items ≡ map (λ (r : StateRow). row_line r) rs) c.deref.ensures.value c.in_ok-lines.ensures in
    let set = subst (λ given. IsSetOf given lines) told c.in_ok-set.ensures in
    let text = subst (λ ls. IfOk c.with_line_feeds.result (λ t. t.items ≡ with_line_feeds (map (λ (line : Vec ℕ Global). line.items) ls))) c.deref-2.ensures.value c.with_line_feeds.ensures in
    IfOk-weaker c.with_line_feeds.result _ _ (λ text is. subst (IsStateText state) (sym is) (text_of_rows state rows lines c.in_ok-rows.ensures.rows set)) text
