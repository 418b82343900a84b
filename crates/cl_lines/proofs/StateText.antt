-- The lines of a state, and that they make one text.
use Rattle.std.proofs.Common.{◌≡◌, ℕ, List, [], ◌∷◌, get_or, refl, ap, sym, ◌∙◌}
use Rattle.std.specs.Prelude.{true, false, ◌||◌, map, Contains}
use Rattle.std.specs.List.{list_any, AllByRecursion as ByRecursion}
use Rattle.std.proofs.lemmas.List.{get_or-map, length-map}
use Rattle.std.proofs.lemmas.List.Elements.{recursion_from_All}
use Rattle.std.proofs.lemmas.List.Folds.{list_any_at}
use Rattle.cl_maps.proofs.MapLaws.{same_keys, self_equal}
use Rattle.cl_tokens.specs.Table.{is_key}
use Rattle.cl_events.specs.State.{State}
use Rattle.cl_tables.specs.declared.row.StateRow.{StateRow}
use Rattle.cl_tables.specs.StateRows.{IsRow, AreRows}
use Rattle.cl_lines.specs.StateLines.{IsLine, IsStateText, with_line_feeds}
use Rattle.cl_lines.specs.RowLines.{row_line}
use Rattle.cl_lines.specs.LineSets.{IsSetOf}
use Rattle.cl_lines.proofs.LineOrder.{listed, stands, one_list}

pub one_text : (s : State) (a b : List ℕ) → IsStateText s a → IsStateText s b → a ≡ b
one_text s a b first second =
    let same : first.lines ≡ second.lines = one_list first.lines second.lines first.rising second.rising
    (λ line there. second.whole line (first.sound line there)) (λ line there. first.whole line (second.sound line there)) in
    first.ends ∙ ap with_line_feeds same ∙ sym second.ends

-- ------------------------------------------------------------ lines and rows

row_of : (s : State) (rows : List StateRow) → ByRecursion (IsRow s) rows → (line : List ℕ) → list_any (is_key line) (map row_line rows) ≡ true → IsLine s line
row_of s [] are line is = absurd (cc)
row_of s (r ∷ rows) are line is =
    elim (is_key line (row_line r)) as (λ b. is_key line (row_line r) ≡ b → (b || list_any (is_key line) (map row_line rows)) ≡ true → IsLine s line) [
      | true ↦ λ same _. (r, are.0, same_keys line (row_line r) same)
      | false ↦ λ _ behind. row_of s rows are.1 line behind
    ] refl is

-- the line of a row is among the lines
row_listed : (rows : List StateRow) (r : StateRow) (line : List ℕ) → Contains rows r → line ≡ row_line r → list_any (is_key line) (map row_line rows) ≡ true
row_listed rows r line there is =
    let here : get_or (map row_line rows) there.0 [] ≡ line = get_or-map row_line rows there.0 r [] there.1 ∙ ap row_line there.2 ∙ sym is in
    list_any_at (is_key line) (map row_line rows) there.0 [] (simp length-map there.1) (ap (is_key line) here ∙ self_equal line)

line_listed : (s : State) (rows : List StateRow) → AreRows rows s → (line : List ℕ) → IsLine s line → list_any (is_key line) (map row_line rows) ≡ true
line_listed s rows are line is = row_listed rows is.0 line (are.whole is.0 is.1) is.2

-- a set of the lines of all rows, each followed by an LF, is the text
pub text_of_rows : (s : State) (rows : List StateRow) (lines : List (List ℕ)) → AreRows rows s → IsSetOf (map row_line rows) lines → IsStateText s (with_line_feeds lines)
text_of_rows s rows lines are set = record {
  lines = lines;
  rising = set.rising;
  sound = λ line there. row_of s rows (recursion_from_All (IsRow s) rows are.sound) line (sym (set.same line) ∙ listed lines line there);
  whole = λ line is. stands lines line (set.same line ∙ line_listed s rows are line is);
  ends = refl;
}
