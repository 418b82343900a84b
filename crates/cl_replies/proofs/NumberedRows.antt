-- Of rows with one line, that with the least key bytes.
use Rattle.std.proofs.Common.{◌≡◌, ℕ, ◌+◌, ◌<◌, true, false, List, [], ◌∷◌, ◌++◌, length, map, take, get_or, refl, sym, ap, subst, ◌∙◌, arith, inl, inr, Vec, Global, drop}
use Rattle.std.specs.Prelude.{◌≢◌, Option, None, Some, slice_get, Contains, ◌||◌}
use Rattle.std.specs.List.{All, AllByRecursion as ByRecursion, list_any}
use Rattle.std.specs.declared.cmp.Ordering.{Ordering}
use Rattle.std.specs.declared.cmp.Ordering.TheVariants.{Less, Equal, Greater}
use Rattle.std.proofs.lemmas.List.{get_or-map, length-map, take_more}
use Rattle.std.proofs.lemmas.List.Elements.{All-push, All-weaker, recursion_from_All}
use Rattle.std.proofs.lemmas.Option.{slice_get_cases, slice_get_within, get_or_from_slice_get}
use Rattle.cl_maps.specs.Maps.{key_cmp}
use Rattle.cl_maps.proofs.MapLaws.{keys_total, same_keys, self_equal}
use Rattle.cl_tokens.specs.Table.{is_key}
use Rattle.cl_tables.specs.declared.row.StateRow.{StateRow}
use Rattle.std.proofs.lemmas.List.{length-take-le, take-append-drop, drop_more}
use Rattle.std.proofs.lemmas.List.Elements.{All-get_or}
use Rattle.std.proofs.lemmas.List.Folds.{list_any_at}
use Rattle.cl_events.specs.State.{State}
use Rattle.cl_tables.specs.StateRows.{IsRow, AreRows}
use Rattle.cl_root.specs.RowBytes.{key_bytes}
use Rattle.cl_lines.specs.RowLines.{row_line}
use Rattle.cl_lines.specs.LineSets.{IsSetOf}
use Rattle.cl_lines.specs.StateLines.{IsLine, IsStateText, with_line_feeds}
use Rattle.cl_lines.proofs.LineOrder.{listed, stands}
use Rattle.cl_replies.specs.Kept.{lines_of_rows, is_less, IsLeastOf, IsLineAt, IsRowAt, HasRowAt, HasFewLines, IsRowReply, IsNoRowReply, IsProofOf}
use Rattle.cl_entries.specs.declared.status.Reply.{Reply}
use Rattle.cl_replies.specs.Reports.{IsLeastRow, IsNumbered, HasFewer, no_row, proved}

-- the row whose line is at a place
pub row_there : (lines : List (Vec ℕ Global)) (rows : List StateRow) (place : ℕ) (l : Vec ℕ Global) → map (λ (x : Vec ℕ Global). x.items) lines ≡ lines_of_rows rows → place < length rows → l ≡ get_or lines place l
    → (row : StateRow) × (slice_get rows place ≡ Some row) × (l.items ≡ row_line row)
row_there lines rows place l told low is =
    let size : length lines ≡ length rows = sym (length-map lines (λ (x : Vec ℕ Global). x.items)) ∙ ap length told ∙ length-map rows row_line in
    let low_line : place < length lines = omega (arith, low, size) in
    elim (slice_get_cases rows place).1 [
      | inl found ↦ (
        found.0,
        found.2,
        ap (λ (x : Vec ℕ Global). x.items) is ∙ sym (get_or-map (λ (x : Vec ℕ Global). x.items) lines place l [] low_line) ∙ ap (λ (ls : List (List ℕ)). get_or ls place []) told
            ∙ get_or-map row_line rows place found.0 [] found.1 ∙ ap row_line found.3,
      )
      | inr past ↦ absurd (omega (arith, past.0, low))
    ]

one_more : (P : StateRow → Type 0) (rows : List StateRow) (place : ℕ) (row : StateRow) → slice_get rows place ≡ Some row → All P (take place rows) → P row → All P (take (place + 1) rows)
one_more P rows place row is all holds =
    subst (All P) (sym (take_more rows place row (slice_get_within rows place row is) ∙ ap (λ (r : StateRow). take place rows ++ r ∷ []) (get_or_from_slice_get rows place row row is)))
    (All-push P (take place rows) row all holds)

not_below_itself : (key : List ℕ) → key_cmp key key ≡ Less → ⊥
not_below_itself key less = cc (self_equal key, less)

-- the lines of two rows that are told apart
pub apart : (xs ys : List ℕ) → is_key xs ys ≡ false → xs ≢ ys
apart xs ys other same = cc (self_equal ys, subst (λ zs. is_key zs ys ≡ false) same other)

module _ (rows : List StateRow) (line : List ℕ) (place : ℕ) (row : StateRow) (at : slice_get rows place ≡ Some row) where
  pub passed : (least : Option ℕ) → row_line row ≢ line → IsLeastOf rows (take place rows) line least → IsLeastOf rows (take (place + 1) rows) line least
  passed None other none = one_more (λ r. row_line r ≢ line) rows place row at none other
  passed (Some p) other is = (is.0, is.1, is.2, one_more (λ r. row_line r ≡ line → key_cmp (key_bytes r) (key_bytes is.0) ≢ Less) rows place row at is.3 (λ same less. other same))

  pub first : row_line row ≡ line → IsLeastOf rows (take place rows) line None → IsLeastOf rows (take (place + 1) rows) line (Some place)
  first same none = (
    row,
    at,
    same,
    one_more (λ r. row_line r ≡ line → key_cmp (key_bytes r) (key_bytes row) ≢ Less) rows place row at
        (All-weaker (λ r. row_line r ≢ line) (λ r. row_line r ≡ line → key_cmp (key_bytes r) (key_bytes row) ≢ Less) (λ r other is. absurd (other is)) (take place rows) none)
        (λ _ less. not_below_itself (key_bytes row) less),
  )

  module _ (p : ℕ) (old : StateRow) (there : slice_get rows p ≡ Some old) where
    one : (other : StateRow) → slice_get rows p ≡ Some other → other ≡ old
    one other is = cc (is, there)

    pub lower : row_line row ≡ line → key_cmp (key_bytes row) (key_bytes old) ≡ Less → IsLeastOf rows (take place rows) line (Some p) → IsLeastOf rows (take (place + 1) rows) line (Some place)
    lower same below is = (
      row,
      at,
      same,
      one_more (λ r. row_line r ≡ line → key_cmp (key_bytes r) (key_bytes row) ≢ Less) rows place row at
          (All-weaker (λ r. row_line r ≡ line → key_cmp (key_bytes r) (key_bytes is.0) ≢ Less) (λ r. row_line r ≡ line → key_cmp (key_bytes r) (key_bytes row) ≢ Less)
          (λ r least on less. least on (keys_total.trans (key_bytes r) (key_bytes row) (key_bytes is.0) less (subst (λ (o : StateRow). key_cmp (key_bytes row) (key_bytes o) ≡ Less) (sym (one is.0 is.1)) below)))
          (take place rows) is.3)
          (λ _ less. not_below_itself (key_bytes row) less),
    )

    pub kept : (key_cmp (key_bytes row) (key_bytes old) ≡ Less → ⊥) → IsLeastOf rows (take place rows) line (Some p) → IsLeastOf rows (take (place + 1) rows) line (Some p)
    kept above is = (
      is.0,
      is.1,
      is.2,
      one_more (λ r. row_line r ≡ line → key_cmp (key_bytes r) (key_bytes is.0) ≢ Less) rows place row at is.3
          (λ _ less. above (subst (λ (o : StateRow). key_cmp (key_bytes row) (key_bytes o) ≡ Less) (one is.0 is.1) less)),
    )

pub less_is : (o : Ordering) → true ≡ is_less o → o ≡ Less
less_is Less is = refl
less_is Equal is = cc
less_is Greater is = cc

pub not_less : (o : Ordering) → false ≡ is_less o → o ≡ Less → ⊥
not_less Less is less = cc
not_less Equal is less = cc
not_less Greater is less = cc

-- where no row has a line, it isn't among the lines
pub not_listed : (line : List ℕ) (rows : List StateRow) → All (λ r. row_line r ≢ line) rows → list_any (is_key line) (lines_of_rows rows) ≡ false
not_listed line rows all = by_rows rows (recursion_from_All (λ r. row_line r ≢ line) rows all)
  where
    by_rows : (rs : List StateRow) → ByRecursion (λ r. row_line r ≢ line) rs → list_any (is_key line) (lines_of_rows rs) ≡ false
    by_rows [] none = refl
    by_rows (r ∷ rs) none =
        elim (is_key line (row_line r)) as (λ b. is_key line (row_line r) ≡ b → (b || list_any (is_key line) (lines_of_rows rs)) ≡ false) [
          | true ↦ λ same. absurd (none.0 (sym (same_keys line (row_line r) same)))
          | false ↦ λ _. by_rows rs none.1
        ] refl

-- the place of the least row is one of the rows
pub least_within : (rows seen : List StateRow) (line : List ℕ) (least : Option ℕ) (p : ℕ) → least ≡ Some p → IsLeastOf rows seen line least → p < length rows
least_within rows seen line least p is of = let known = subst (IsLeastOf rows seen line) is of in slice_get_within rows p known.0 known.1

-- ------------------------------------------------------------ the row of a numbered line

pub few_lines : (rows : List StateRow) (given : List (List ℕ)) (number : ℕ) → given ≡ lines_of_rows rows → IsLineAt given number None → HasFewLines rows number
few_lines rows given number told at = record {
  set = at.set;
  is_set = subst (λ ls. IsSetOf ls at.set) told at.is_set;
  few = elim (slice_get_cases at.set number).1 [
    | inl found ↦ absurd (cc (at.is, found.2))
    | inr past ↦ past.0
  ];
}

in_set : (set : List (List ℕ)) (number : ℕ) (line : List ℕ) → slice_get set number ≡ Some line → Contains set line
in_set set number line is = (number, slice_get_within set number line is, get_or_from_slice_get set number line line is)

pub row_found : (rows : List StateRow) (given : List (List ℕ)) (number : ℕ) (line : List ℕ) (least : Option ℕ) → given ≡ lines_of_rows rows → IsLineAt given number (Some line) → IsLeastOf rows rows line least → IsRowAt rows number least
row_found rows given number line None told at none =
    let there : list_any (is_key line) (lines_of_rows rows) ≡ true = ap (list_any (is_key line)) (sym told) ∙ sym (at.is_set.same line) ∙ listed at.set line (in_set at.set number line (sym at.is)) in
    absurd (cc (there, not_listed line rows none))
row_found rows given number line (Some p) told at least = record {
  set = at.set;
  is_set = subst (λ ls. IsSetOf ls at.set) told at.is_set;
  line = line;
  is = sym at.is;
  least = least;
}

pub is_row_at : (s : State) (rows : List StateRow) (place : ℕ) (row : StateRow) → AreRows rows s → slice_get rows place ≡ Some row → IsRow s row
is_row_at s rows place row are at = subst (IsRow s) (get_or_from_slice_get rows place row row at) (All-get_or (IsRow s) rows place row (slice_get_within rows place row at) are.sound)

apart_at : (set : List (List ℕ)) (number : ℕ) (line : List ℕ) → slice_get set number ≡ Some line → set ≡ take number set ++ line ∷ drop (number + 1) set
apart_at set number line is =
    sym (take-append-drop number set)
    ∙ ap (λ (ls : List (List ℕ)). take number set ++ ls) (drop_more set number line (slice_get_within set number line is) ∙ ap (λ (l : List ℕ). l ∷ drop (number + 1) set) (get_or_from_slice_get set number line line is))

one_row : (rows : List StateRow) (place : ℕ) (a b : StateRow) → slice_get rows place ≡ Some a → slice_get rows place ≡ Some b → a ≡ b
one_row rows place a b first second = cc (first, second)

-- the lines of a state are the set
listed_row : (s : State) (line : List ℕ) (rows : List StateRow) → ByRecursion (IsRow s) rows → list_any (is_key line) (lines_of_rows rows) ≡ true → IsLine s line
listed_row s line [] are is = absurd (cc)
listed_row s line (r ∷ rows) are is =
    elim (is_key line (row_line r)) as (λ b. is_key line (row_line r) ≡ b → (b || list_any (is_key line) (lines_of_rows rows)) ≡ true → IsLine s line) [
      | true ↦ λ same _. (r, are.0, same_keys line (row_line r) same)
      | false ↦ λ _ behind. listed_row s line rows are.1 behind
    ] refl is

row_listed : (rows : List StateRow) (r : StateRow) (line : List ℕ) → Contains rows r → line ≡ row_line r → list_any (is_key line) (lines_of_rows rows) ≡ true
row_listed rows r line there is =
    let here : get_or (lines_of_rows rows) there.0 [] ≡ line = get_or-map row_line rows there.0 r [] there.1 ∙ ap row_line there.2 ∙ sym is in
    list_any_at (is_key line) (lines_of_rows rows) there.0 [] (simp length-map there.1) (ap (is_key line) here ∙ self_equal line)

text_of_set : (s : State) (rows : List StateRow) (set : List (List ℕ)) → AreRows rows s → IsSetOf (lines_of_rows rows) set → IsStateText s (with_line_feeds set)
text_of_set s rows set are is_set = record {
  lines = set;
  rising = is_set.rising;
  sound = λ line there. listed_row s line rows (recursion_from_All (IsRow s) rows are.sound) (sym (is_set.same line) ∙ listed set line there);
  whole = λ line is. stands set line (is_set.same line ∙ row_listed rows is.0 line (are.whole is.0 is.1) is.2);
  ends = refl;
}

pub proof_of : (s : State) (rows : List StateRow) (number place : ℕ) (row : StateRow) (reply : Reply) → AreRows rows s → HasRowAt rows number place → slice_get rows place ≡ Some row → IsRowReply s row reply → IsProofOf s number reply
unfolding text_of_set
proof_of s rows number place row reply are has at proof =
    let found = has.least in
    let same : found.0 ≡ row = one_row rows place found.0 row found.1 at in
    let least : IsLeastRow s has.line row = record {
      there = is_row_at s rows place row are at;
      line_is = ap row_line (sym same) ∙ found.2;
      least = λ other of_state on less.
          let here = are.whole other of_state in
          found.3 here.0 other here.1 (ap row_line here.2 ∙ on) (subst (λ (o : StateRow). key_cmp (key_bytes o) (key_bytes found.0) ≡ Less) (sym here.2) (subst (λ (r : StateRow). key_cmp (key_bytes other) (key_bytes r) ≡ Less) (sym same) less));
    } in
    let numbered : IsNumbered s number row proof.path = record {
      text = with_line_feeds has.set;
      lines = text_of_set s rows has.set are has.is_set;
      line = has.line;
      front = take number has.set;
      back = drop (number + 1) has.set;
      is_line = apart_at has.set number has.line has.is;
      before = length-take-le number has.set (omega (arith, slice_get_within has.set number has.line has.is));
      is_row = least;
      is_path = proof.is_path;
    } in
    record { digest = proof.digest; is_root = proof.is_root; is_proved = proved row proof.path numbered proof.is }

pub none_of : (s : State) (rows : List StateRow) (number : ℕ) (reply : Reply) → AreRows rows s → HasFewLines rows number → IsNoRowReply s reply → IsProofOf s number reply
unfolding text_of_set
none_of s rows number reply are has told =
    let few : HasFewer s number = record { text = with_line_feeds has.set; lines = text_of_set s rows has.set are has.is_set; few = has.few } in
    record { digest = told.digest; is_root = told.is_root; is_proved = no_row few told.is }
