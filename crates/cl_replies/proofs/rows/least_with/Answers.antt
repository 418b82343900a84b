use Rattle.std.proofs.Common.{◌≡◌, sym, subst, ◌∙◌, ℕ, take}
use Rattle.std.specs.Prelude.{Option, false}
use Rattle.cl_tokens.specs.Table.{is_key}
use Rattle.cl_maps.specs.Maps.{key_cmp}
use Rattle.cl_maps.proofs.MapLaws.{same_keys}
use Rattle.cl_root.specs.RowBytes.{key_bytes}
use Rattle.cl_lines.specs.RowLines.{row_line}
use Rattle.cl_replies.specs.Kept.{IsLeastOf}
use Rattle.cl_replies.proofs.NumberedRows.{row_there, apart, passed, first, lower, kept, less_is, not_less, least_within}
use Rattle.cl_replies.proofs.rows.least_with.Goals as goal

pub returns-then-not-is_on_line : goal.returns-then-not-is_on_line
returns-then-not-is_on_line c =
    let there = row_there c.args.lines.now c.args.rows.now c.args.place c.index-lines-place.result c.requires.lines c.requires.here c.index-lines-place.is in
    let other : is_key c.as_slice.result.now c.args.line.now ≡ false = sym c.is_line-is_on_line.ensures ∙ c.if-not-is_on_line.true in
    passed c.args.rows.now c.args.line.now c.args.place there.0 there.1 c.args.least
    (λ same. apart c.as_slice.result.now c.args.line.now other (c.as_slice.ensures.value ∙ there.2 ∙ same)) c.requires.so_far

pub returns-in_default : goal.returns-in_default
returns-in_default c =
    let there = row_there c.args.lines.now c.args.rows.now c.args.place c.index-lines-place.result c.requires.lines c.requires.here c.index-lines-place.is in
    let same : row_line there.0 ≡ c.args.line.now = sym there.2 ∙ sym c.as_slice.ensures.value ∙ same_keys c.as_slice.result.now c.args.line.now (sym c.is_line-is_on_line.ensures ∙ c.if-not-is_on_line.false) in
    first c.args.rows.now c.args.line.now c.args.place there.0 there.1 same (subst (λ (o : Option ℕ). IsLeastOf c.args.rows.now (take c.args.place c.args.rows.now) c.args.line.now o) c.in_default.is c.requires.so_far)

pub is_lower-requires-clause-other : goal.is_lower-requires-clause-other
is_lower-requires-clause-other c = least_within c.args.rows.now (take c.args.place c.args.rows.now) c.args.line.now c.args.least c.in-Some.other c.in-Some.is c.requires.so_far

pub returns-then-branch : goal.returns-then-branch
returns-then-branch c =
    let rows = c.args.rows.now in
    let there = row_there c.args.lines.now rows c.args.place c.index-lines-place.result c.requires.lines c.requires.here c.index-lines-place.is in
    let same : row_line there.0 ≡ c.args.line.now = sym there.2 ∙ sym c.as_slice.ensures.value ∙ same_keys c.as_slice.result.now c.args.line.now (sym c.is_line-is_on_line.ensures ∙ c.if-not-is_on_line.false) in
    let known = subst (λ (o : Option ℕ). IsLeastOf rows (take c.args.place rows) c.args.line.now o) c.in-Some.is c.requires.so_far in
    lower rows c.args.line.now c.args.place there.0 there.1 c.in-Some.other known.0 known.1 same
    (less_is (key_cmp (key_bytes there.0) (key_bytes known.0)) (sym c.if-branch.true ∙ c.in_ok-is_lower.ensures there.0 known.0 there.1 known.1)) known

pub returns-else-branch : goal.returns-else-branch
returns-else-branch c =
    let rows = c.args.rows.now in
    let there = row_there c.args.lines.now rows c.args.place c.index-lines-place.result c.requires.lines c.requires.here c.index-lines-place.is in
    let known = subst (λ (o : Option ℕ). IsLeastOf rows (take c.args.place rows) c.args.line.now o) c.in-Some.is c.requires.so_far in
    kept rows c.args.line.now c.args.place there.0 there.1 c.in-Some.other known.0 known.1
    (not_less (key_cmp (key_bytes there.0) (key_bytes known.0)) (sym c.if-branch.false ∙ c.in_ok-is_lower.ensures there.0 known.0 there.1 known.1)) known
