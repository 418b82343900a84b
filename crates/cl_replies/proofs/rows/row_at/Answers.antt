use Rattle.std.proofs.Common.{◌≡◌, ap, subst, ◌∙◌, ℕ, List, map, Vec, Global}
use Rattle.std.specs.Prelude.{Option, Some}
use Rattle.std.specs.Option.{option_map}
use Rattle.std.proofs.lemmas.Result.{IfOk-weaker}
use Rattle.cl_replies.specs.Kept.{lines_of_rows, IsLineAt, IsLeastOf}
use Rattle.cl_replies.proofs.NumberedRows.{row_found, few_lines}
use Rattle.cl_replies.proofs.rows.row_at.Goals as goal

pub returns-in-Some : goal.returns-in-Some
returns-in-Some c =
    let rows = c.args.rows.now in
    let given = map (λ (l : Vec ℕ Global). l.items) c.deref.result.now in
    let told : given ≡ lines_of_rows rows = ap (λ (ls : List (Vec ℕ Global)). map (λ (l : Vec ℕ Global). l.items) ls) c.deref.ensures.value ∙ c.in_ok-lines.ensures in
    let line : IsLineAt given c.args.number (Some c.in-Some.line.items) = subst (λ (o : Option (Vec ℕ Global)). IsLineAt given c.args.number (option_map (λ l. l.items) o)) c.in-Some.is c.in_ok-line.ensures in
    IfOk-weaker c.least_row.result _ _
    (λ place is. row_found rows given c.args.number c.in-Some.line.items place told line (subst (λ (l : List ℕ). IsLeastOf rows rows l place) c.deref-in-Some-2.ensures.value is))
    c.least_row.ensures

pub returns : goal.returns
returns c =
    let rows = c.args.rows.now in
    let given = map (λ (l : Vec ℕ Global). l.items) c.deref.result.now in
    let told : given ≡ lines_of_rows rows = ap (λ (ls : List (Vec ℕ Global)). map (λ (l : Vec ℕ Global). l.items) ls) c.deref.ensures.value ∙ c.in_ok-lines.ensures in
    few_lines rows given c.args.number told (subst (λ (o : Option (Vec ℕ Global)). IsLineAt given c.args.number (option_map (λ l. l.items) o)) c.in-None.is c.in_ok-line.ensures)
