-- Which bytes the parts of a line have, and what they spell.
use Rattle.std.proofs.Common.{◌≡◌, ℕ, zero, suc, ◌/◌, ◌%◌, ◌<◌, ◌^◌, ◌==◌, ◌&&◌, Bool, true, false, not, List, [], ◌∷◌, ◌++◌, length, Some, None, Ok, Err, refl, sym, ap, ◌∙◌, arith, Fits, w8, get_or}
use Rattle.std.proofs.Math.Facts.{Fits-lt-pow}
use Rattle.std.specs.Prelude.{codes, decimal, slice_index}
use Rattle.std.specs.Result.{result_ok}
use Rattle.std.specs.List.{All, list_all}
use Rattle.std.proofs.lemmas.Bool.{and_parts}
use Rattle.std.proofs.lemmas.Bool.Decides.{nat_tests}
use Rattle.std.proofs.lemmas.List.Folds.{list_all-append}
use Rattle.hex.specs.Hex.{IsBytes, decode_of, encode_lower, encode_with, lower_digits}
use Rattle.hex.proofs.HexLemmas.{decode_of-encode_lower}
use Rattle.cl_types.specs.Name.{is_digit}
use Rattle.cl_sexpr.specs.Leaf.{are_digits, value_of}
use Rattle.cl_sexpr.specs.declared.sexpr.Span.{Span}
use Rattle.cl_text.proofs.Runs.{all_so}
use Rattle.cl_text.proofs.Leaves.{decimal_digits}
use Rattle.cl_values.specs.Tree.{Tree}
use Rattle.cl_values.specs.Valid.{IsVal}
use Rattle.cl_values.specs.Reading.{decoded}
use Rattle.cl_values.proofs.WireBytes.{wire_bytes}
use Rattle.std.proofs.lemmas.List.Elements.{All-cons, All-head, All-tail}
use Rattle.cl_values.specs.declared.fault.DecodeRefusal.{DecodeRefusal}
use Rattle.cl_values.specs.Wire.{wire}
use Rattle.cl_claims.specs.Lines.{span_text, claim_text}
use Rattle.cl_claims.specs.Parts.{IsNoClaim, IsNoEnd, IsNoNumber, IsNoSpan, IsNoValue, IsNoWire, IsSpan, hex_bytes, split_at}
use Rattle.cl_claims.proofs.Splitting.{IsFree, cut_none, cut_so, split_parts}

-- ---- bytes that don't stand in a part

free-append : (mark : ℕ) (xs ys : List ℕ) → IsFree mark xs → IsFree mark ys → IsFree mark (xs ++ ys)
free-append mark xs ys p q = list_all-append (λ c. not (c == mark)) xs ys ∙ (λ i. p i && q i)

no_digit : (mark : ℕ) → mark < 48 → (c : ℕ) → is_digit c ≡ true → not (c == mark) ≡ true
no_digit mark low c h = grind (arith, nat_tests)

pub decimal_free : (mark n : ℕ) → mark < 48 → n < 2 ^ 32 → IsFree mark (decimal n)
decimal_free mark n low small =
    let wide : n < 2 ^ 128 = omega (arith, small) in
    all_so is_digit (λ c. not (c == mark)) (no_digit mark low) (decimal n) (decimal_digits n wide).digits

-- in a span there are dots and digits alone
pub span_free : (mark : ℕ) (at : Span) → mark < 46 → IsSpan at → IsFree mark (span_text at)
span_free mark at low is =
    free-append mark (decimal at.start) (codes ".." ++ decimal at.end) (decimal_free mark at.start (omega (arith, low)) is.start)
    (free-append mark (codes "..") (decimal at.end) (dots mark low) (decimal_free mark at.end (omega (arith, low)) is.end))
  where
    no_dot : (mark : ℕ) → mark < 46 → not (46 == mark) ≡ true
    no_dot mark low = grind (arith, nat_tests)

    dots : (mark : ℕ) → mark < 46 → IsFree mark (46 ∷ 46 ∷ [])
    dots mark low = (λ i. no_dot mark low i && (no_dot mark low i && true))

free_at : (mark : ℕ) → not (0 == mark) ≡ true → (t : List ℕ) → IsFree mark t → (k : ℕ) → not (slice_index t k == mark) ≡ true
free_at mark none [] free k = none
free_at mark none (c ∷ cs) free zero = (and_parts (not (c == mark)) (list_all (λ x. not (x == mark)) cs) free).0
free_at mark none (c ∷ cs) free (suc k) = free_at mark none cs (and_parts (not (c == mark)) (list_all (λ x. not (x == mark)) cs) free).1 k

-- there is no line feed among hexadecimal digits
pub hex_free : (bytes : List ℕ) → IsFree 10 (encode_lower bytes)
unfolding encode_with
hex_free [] = refl
hex_free (b ∷ rest) =
    let high = free_at 10 refl lower_digits refl in
    λ i. high (b / 16) i && (high (b % 16) i && hex_free rest i)

-- nor in a line
pub claim_free : (entry : ℕ) (at : Span) (v : Tree) → entry < 2 ^ 32 → IsSpan at → IsFree 10 (claim_text entry at v)
unfolding claim_text
claim_free entry at v small is =
    free-append 10 (decimal entry) (codes " " ++ (span_text at ++ (codes " " ++ encode_lower (wire v)))) (decimal_free 10 entry (omega arith) small)
    (free-append 10 (codes " ") (span_text at ++ (codes " " ++ encode_lower (wire v))) refl
    (free-append 10 (span_text at) (codes " " ++ encode_lower (wire v)) (span_free 10 at (omega arith) is) (free-append 10 (codes " ") (encode_lower (wire v)) refl (hex_free (wire v)))))

-- ---- numbers

digits_are : (text : List ℕ) → 0 < length text → list_all is_digit text ≡ true → are_digits text ≡ true
digits_are [] some h = absurd (omega (arith, some))
digits_are (c ∷ cs) some h = h

-- what isn't of digits alone is no number
pub not_digits : (text : List ℕ) → are_digits text ≡ false → IsNoNumber text
not_digits text h n small is =
    let wide : n < 2 ^ 128 = omega (arith, small) in
    let d = decimal_digits n wide in
    differ (are_digits text) (ap are_digits is ∙ digits_are (decimal n) d.some d.digits) h
  where
    differ : (b : Bool) → b ≡ true → b ≡ false → ⊥
    differ b t f = cc

pub value_so : (text : List ℕ) (n : ℕ) → n < 2 ^ 32 → text ≡ decimal n → value_of text ≡ n
value_so text n small is =
    let wide : n < 2 ^ 128 = omega (arith, small) in
    ap value_of is ∙ (decimal_digits n wide).value

-- what spells no number of 128 bits spells none of 32
pub no_wide : (text : List ℕ) → (value_of text < 2 ^ 128 → ⊥) → IsNoNumber text
no_wide text none n small is =
    let same : value_of text ≡ n = value_so text n small is in
    none (omega (arith, same, small))

-- nor does what spells a greater one
pub too_wide : (text : List ℕ) (value : ℕ) → value ≡ value_of text → 4294967295 < value → IsNoNumber text
too_wide text value is_value wide n small is =
    let same : value_of text ≡ n = value_so text n small is in
    absurd (omega (arith, same, small, is_value, wide))

-- nor do digits other than those of their value
pub not_so_spelled : (text : List ℕ) (value : ℕ) → value ≡ value_of text → (decimal value ≡ text → ⊥) → IsNoNumber text
not_so_spelled text value is_value other n small is = other (ap decimal (is_value ∙ value_so text n small is) ∙ sym is)

-- ---- spans

pub no_dots : (text : List ℕ) → split_at 46 text ≡ None → IsNoSpan text
no_dots text none at is text_is = cut_none 46 text (decimal at.start) (46 ∷ decimal at.end) none text_is (decimal_free 46 at.start (omega arith) is.start)

span_parts : (text digits behind : List ℕ) (at : Span) → split_at 46 text ≡ Some (digits, behind) → IsSpan at → text ≡ span_text at → (digits ≡ decimal at.start) × (behind ≡ 46 ∷ decimal at.end)
span_parts text digits behind at cut is text_is = cut_so 46 text digits behind (decimal at.start) (46 ∷ decimal at.end) cut text_is (decimal_free 46 at.start (omega arith) is.start)

pub no_start : (text digits behind : List ℕ) → split_at 46 text ≡ Some (digits, behind) → IsNoNumber digits → IsNoSpan text
no_start text digits behind cut none at is text_is = none at.start is.start (span_parts text digits behind at cut is text_is).0

pub no_end : (text digits behind : List ℕ) → split_at 46 text ≡ Some (digits, behind) → IsNoEnd behind → IsNoSpan text
no_end text digits behind cut none at is text_is = none at.end is.end (span_parts text digits behind at cut is text_is).1

pub span_so : (text digits behind : List ℕ) (at : Span) → split_at 46 text ≡ Some (digits, behind) → decimal at.start ≡ digits → 46 ∷ decimal at.end ≡ behind → span_text at ≡ text
span_so text digits behind at cut start end = (λ i. start i ++ 46 ∷ end i) ∙ sym (split_parts 46 text digits behind cut)

-- ---- wire forms

pub are_bytes : (bytes : List ℕ) → All (λ b. b < 256) bytes → IsBytes bytes
are_bytes [] h i = omega arith
are_bytes (b ∷ bytes) h zero = All-head (λ b. b < 256) b bytes h
are_bytes (b ∷ bytes) h (suc i) = are_bytes bytes (All-tail (λ b. b < 256) b bytes h) i

-- what spells a value reads as its wire form
wire_read : (text : List ℕ) (v : Tree) → IsVal v → text ≡ encode_lower (wire v) → hex_bytes text ≡ Some (wire v)
wire_read text v is text_is = ap (λ (t : List ℕ). result_ok (decode_of t)) text_is ∙ ap result_ok (decode_of-encode_lower (wire v) (are_bytes (wire v) (wire_bytes v is.ranges)))

pub no_hex : (text : List ℕ) → hex_bytes text ≡ None → IsNoValue text
no_hex text none v is text_is =
    let found : hex_bytes text ≡ Some (wire v) = wire_read text v is text_is in
    absurd cc

pub not_lower : (text bytes : List ℕ) → hex_bytes text ≡ Some bytes → (encode_lower bytes ≡ text → ⊥) → IsNoValue text
not_lower text bytes read other v is text_is =
    let found : hex_bytes text ≡ Some (wire v) = wire_read text v is text_is in
    let same : bytes ≡ wire v = cc in
    other (ap encode_lower same ∙ sym text_is)

pub no_value_with : (text bytes : List ℕ) → hex_bytes text ≡ Some bytes → IsNoWire bytes → IsNoValue text
no_value_with text bytes read none v is text_is =
    let found : hex_bytes text ≡ Some (wire v) = wire_read text v is text_is in
    let same : bytes ≡ wire v = cc in
    none v is same

-- the bytes of a slice are bytes
pub slice_bytes : (bytes : List ℕ) → ((i : ℕ) → Fits w8 (get_or bytes i 0)) → All (λ (b : ℕ). b < 256) bytes
slice_bytes [] h = λ k d l. absurd (omega (arith, l))
slice_bytes (b ∷ bytes) h = All-cons (λ (x : ℕ). x < 256) b bytes (Fits-lt-pow (h 0)) (slice_bytes bytes (λ i. h (suc i)))

pub no_wire : ((v : Tree) → IsVal v → decoded (wire v) ≡ Ok v) → (bytes : List ℕ) (fault : DecodeRefusal) → decoded bytes ≡ Err fault → IsNoWire bytes
no_wire read_back bytes fault broken v is bytes_are =
    let found : decoded bytes ≡ Ok v = ap decoded bytes_are ∙ read_back v is in
    absurd cc

-- ---- claims

pub no_entry : (text : List ℕ) → split_at 32 text ≡ None → IsNoClaim text
unfolding claim_text
no_entry text none entry at v small is val text_is = cut_none 32 text (decimal entry) (span_text at ++ 32 ∷ encode_lower (wire v)) none text_is (decimal_free 32 entry (omega arith) small)

entry_parts : (text number behind : List ℕ) (entry : ℕ) (at : Span) (v : Tree) → split_at 32 text ≡ Some (number, behind) → entry < 2 ^ 32 → text ≡ claim_text entry at v → (number ≡ decimal entry) × (behind ≡ span_text at ++ 32 ∷ encode_lower (wire v))
unfolding claim_text
entry_parts text number behind entry at v cut small text_is = cut_so 32 text number behind (decimal entry) (span_text at ++ 32 ∷ encode_lower (wire v)) cut text_is (decimal_free 32 entry (omega arith) small)

pub no_places : (text number behind : List ℕ) → split_at 32 text ≡ Some (number, behind) → split_at 32 behind ≡ None → IsNoClaim text
no_places text number behind cut none entry at v small is val text_is = cut_none 32 behind (span_text at) (encode_lower (wire v)) none (entry_parts text number behind entry at v cut small text_is).1 (span_free 32 at (omega arith) is)

-- a line cut at its blanks
pub record Cut (text number places digits : List ℕ) : Type 0 where
  pub behind : List ℕ
  pub first : split_at 32 text ≡ Some (number, behind)
  pub second : split_at 32 behind ≡ Some (places, digits)

module _ (text number places digits : List ℕ) (cut : Cut text number places digits) where
  claim_parts : (entry : ℕ) (at : Span) (v : Tree) → entry < 2 ^ 32 → IsSpan at → text ≡ claim_text entry at v → (number ≡ decimal entry) × (places ≡ span_text at) × (digits ≡ encode_lower (wire v))
  claim_parts entry at v small is text_is =
      let front = entry_parts text number cut.behind entry at v cut.first small text_is in
      let back = cut_so 32 cut.behind places digits (span_text at) (encode_lower (wire v)) cut.second front.1 (span_free 32 at (omega arith) is) in
      (front.0, back.0, back.1)

  pub no_number : IsNoNumber number → IsNoClaim text
  no_number none entry at v small is val text_is = none entry small (claim_parts entry at v small is text_is).0

  pub no_span : IsNoSpan places → IsNoClaim text
  no_span none entry at v small is val text_is = none at is (claim_parts entry at v small is text_is).1

  pub no_value : IsNoValue digits → IsNoClaim text
  no_value none entry at v small is val text_is = none v val (claim_parts entry at v small is text_is).2

  pub claim_so : (entry : ℕ) (at : Span) (v : Tree) → decimal entry ≡ number → span_text at ≡ places → encode_lower (wire v) ≡ digits → claim_text entry at v ≡ text
  unfolding claim_text
  claim_so entry at v number_is places_are digits_are =
      (λ i. number_is i ++ 32 ∷ (places_are i ++ 32 ∷ digits_are i))
      ∙ ap (λ (l : List ℕ). number ++ 32 ∷ l) (sym (split_parts 32 cut.behind places digits cut.second))
      ∙ sym (split_parts 32 text number cut.behind cut.first)
