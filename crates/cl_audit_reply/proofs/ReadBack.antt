-- Lines that were written are read back.
use Rattle.std.proofs.Common.{◌≡◌, ℕ, zero, suc, ◌+◌, ◌<◌, ◌≤◌, ◌^◌, ◌==◌, ◌&&◌, Bool, true, false, List, [], ◌∷◌, ◌++◌, length, Option, Some, None, Ok, refl, sym, ap, ◌∙◌, append_assoc, arith}
use Rattle.std.specs.Prelude.{codes, decimal, nat_le, option_and_then, if◌then◌else◌}
use Rattle.std.specs.List.{All, flat_map, list_all}
use Rattle.std.specs.Result.{result_ok}
use Rattle.std.specs.Str.{bytes_eq}
use Rattle.std.proofs.lemmas.Bool.Decides.{nat_tests}
use Rattle.std.proofs.lemmas.List.Elements.{All-head, All-tail}
use Rattle.std.proofs.lemmas.Slice.Eq.{bytes_eq-Decides}
use Rattle.hex.specs.Hex.{decode_of, encode_lower}
use Rattle.hex.proofs.HexLemmas.{decode_of-encode_lower}
use Rattle.cl_types.specs.Name.{is_digit}
use Rattle.cl_sexpr.specs.Leaf.{are_digits, value_of}
use Rattle.cl_sexpr.specs.declared.sexpr.Span.{Span}
use Rattle.cl_text.proofs.Leaves.{decimal_digits}
use Rattle.cl_values.specs.Reading.{decoded}
use Rattle.cl_values.specs.Tree.{Tree}
use Rattle.cl_values.specs.Valid.{IsVal}
use Rattle.cl_values.specs.Wire.{wire}
use Rattle.cl_values.proofs.WireBytes.{wire_bytes}
use Rattle.cl_claims.specs.declared.spelled.ClaimLine.{ClaimLine}
use Rattle.cl_claims.specs.Files.{Rise}
use Rattle.cl_claims.specs.Lines.{claim_text, line_text, span_text}
use Rattle.cl_claims.specs.Parsed.{before, claim_in, claim_with, claims_of, end_in, number_in, span_in, span_with, value_in}
use Rattle.cl_claims.specs.Parts.{IsSpan, hex_bytes, split_at}
use Rattle.cl_claims.proofs.LineParts.{are_bytes, claim_free, decimal_free, span_free}
use Rattle.cl_claims.proofs.Parsing.{claim_first}
use Rattle.cl_claims.proofs.Splitting.{split_there}

-- ---- numbers

digits_are : (text : List ℕ) → 0 < length text → list_all is_digit text ≡ true → are_digits text ≡ true
digits_are [] some h = absurd (omega (arith, some))
digits_are (c ∷ cs) some h = h

small_is : (n : ℕ) → n < 2 ^ 32 → nat_le n 4294967295 ≡ true
small_is n small = grind (arith, nat_tests)

number_read : (n : ℕ) → n < 2 ^ 32 → number_in (decimal n) ≡ Some n
number_read n small =
    let wide : n < 2 ^ 128 = omega (arith, small) in
    let d = decimal_digits n wide in
    let digits : are_digits (decimal n) ≡ true = digits_are (decimal n) d.some d.digits in
    let same : bytes_eq (decimal (value_of (decimal n))) (decimal n) ≡ true = (bytes_eq-Decides (decimal (value_of (decimal n))) (decimal n)).1 (ap decimal d.value) in
    (λ i. if digits i && (nat_le (value_of (decimal n)) 4294967295 && bytes_eq (decimal (value_of (decimal n))) (decimal n)) then Some (value_of (decimal n)) else None)
    ∙ (λ i. if (ap (λ (k : ℕ). nat_le k 4294967295) d.value ∙ small_is n small) i && bytes_eq (decimal (value_of (decimal n))) (decimal n) then Some (value_of (decimal n)) else None)
    ∙ (λ i. if same i then Some (d.value i) else None)

-- ---- spans

span_read : (at : Span) → IsSpan at → span_in (span_text at) ≡ Some at
span_read at is =
    ap (option_and_then (λ (p : List ℕ × List ℕ). span_with (number_in p.0) (end_in p.1))) (split_there 46 (decimal at.start) (46 ∷ decimal at.end) (decimal_free 46 at.start (omega arith) is.start))
    ∙ (λ i. span_with (number_read at.start is.start i) (number_read at.end is.end i))

-- ---- values

pub same_text : (text : List ℕ) → bytes_eq text text ≡ true
same_text text = (bytes_eq-Decides text text).1 refl

value_read : ((v : Tree) → IsVal v → decoded (wire v) ≡ Ok v) → (v : Tree) → IsVal v → value_in (encode_lower (wire v)) ≡ Some v
value_read read_back v is =
    let bytes : hex_bytes (encode_lower (wire v)) ≡ Some (wire v) = ap result_ok (decode_of-encode_lower (wire v) (are_bytes (wire v) (wire_bytes v is.ranges))) in
    ap (option_and_then (λ (b : List ℕ). if bytes_eq (encode_lower b) (encode_lower (wire v)) then result_ok (decoded b) else None)) bytes
    ∙ (λ i. if same_text (encode_lower (wire v)) i then result_ok (read_back v is i) else None)

-- ---- lines

-- a line within the limits
pub record IsGoodLine (c : ClaimLine) : Type 0 where
  pub entry : c.entry < 2 ^ 32
  pub span : IsSpan c.span
  pub value : IsVal c.value

module _ (read_back : (v : Tree) → IsVal v → decoded (wire v) ≡ Ok v) where
  claim_read : (c : ClaimLine) → IsGoodLine c → claim_in (claim_text c.entry c.span c.value) ≡ Some c
  unfolding claim_text
  claim_read c good =
      let hex : List ℕ = encode_lower (wire c.value) in
      ap (option_and_then (λ (p : List ℕ × List ℕ). option_and_then (λ (q : List ℕ × List ℕ). claim_with (number_in p.0) (span_in q.0) (value_in q.1)) (split_at 32 p.1)))
      (split_there 32 (decimal c.entry) (span_text c.span ++ 32 ∷ hex) (decimal_free 32 c.entry (omega arith) good.entry))
      ∙ ap (option_and_then (λ (q : List ℕ × List ℕ). claim_with (number_in (decimal c.entry)) (span_in q.0) (value_in q.1))) (split_there 32 (span_text c.span) hex (span_free 32 c.span (omega arith) good.span))
      ∙ (λ i. claim_with (number_read c.entry good.entry i) (span_read c.span good.span i) (value_read read_back c.value good.value i))

  line_read : (least entries : ℕ) (c : ClaimLine) (rest : List ℕ) → IsGoodLine c → least ≤ c.entry → c.entry < entries → claims_of least entries (line_text c ++ rest) ≡ before c (claims_of c.entry entries rest)
  line_read least entries c rest good low within =
      let line : List ℕ = claim_text c.entry c.span c.value in
      ap (claims_of least entries) (append_assoc line (10 ∷ []) rest)
      ∙ claim_first least entries (line ++ 10 ∷ rest) line rest (split_there 10 line rest (claim_free c.entry c.span c.value good.entry good.span)) c (sym (claim_read c good)) low within

  pub lines_read : (least entries : ℕ) (cs : List ClaimLine) → Rise least entries cs → All IsGoodLine cs → claims_of least entries (flat_map line_text cs) ≡ Ok cs
  lines_read least entries [] rise good = refl
  lines_read least entries (c ∷ cs) rise good =
      line_read least entries c (flat_map line_text cs) (All-head IsGoodLine c cs good) rise.0 rise.1
      ∙ ap (before c) (lines_read c.entry entries cs rise.2 (All-tail IsGoodLine c cs good))
