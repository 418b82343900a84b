-- What a text spells, part by part.
use Rattle.std.proofs.Common.{◌≡◌, ◌≢◌, ℕ, suc, ◌+◌, ◌<◌, ◌≤◌, ◌==◌, ◌&&◌, Bool, true, false, cond, List, [], ◌∷◌, take, drop, Option, Some, None, Err, refl, sym, ap, ◌∙◌, arith}
use Rattle.std.specs.Prelude.{position, option_and_then, nat_le, nat_lt, if◌then◌else◌}
use Rattle.std.specs.List.{position_from}
use Rattle.std.specs.Result.{result_ok}
use Rattle.std.specs.Str.{bytes_eq}
use Rattle.std.proofs.lemmas.Bool.Decides.{nat_tests}
use Rattle.std.proofs.lemmas.Iterator.Adapters.{position_from-zero}
use Rattle.std.proofs.lemmas.Slice.Eq.{bytes_eq-Decides}
use Rattle.hex.specs.Hex.{encode_lower}
use Rattle.cl_values.specs.Reading.{decoded}
use Rattle.cl_values.specs.Tree.{Tree}
use Rattle.cl_values.proofs.Back.{if_true}
use Rattle.cl_claims.specs.declared.spelled.ClaimLine.{ClaimLine}
use Rattle.cl_claims.specs.Parts.{hex_bytes, parts_at, split_at}
use Rattle.cl_claims.specs.Parsed.{Claims, before, claim_in, claims_from, claims_of, claims_with, lines_in, longer, of_entry, value_in}

-- ---- values

pub value_so : (text bytes held : List ℕ) (found : Option Tree) → hex_bytes text ≡ Some bytes → held ≡ bytes → encode_lower bytes ≡ text → found ≡ result_ok (decoded held) → found ≡ value_in text
value_so text bytes held found read same spelled is =
    is
    ∙ ap (λ (b : List ℕ). result_ok (decoded b)) same
    ∙ sym (if_true (bytes_eq (encode_lower bytes) text) (result_ok (decoded bytes)) None ((bytes_eq-Decides (encode_lower bytes) text).1 spelled))
    ∙ sym (ap (option_and_then (λ (b : List ℕ). if bytes_eq (encode_lower b) text then result_ok (decoded b) else None)) read)

-- ---- lines

abbrev first_line : List ℕ → List (List ℕ) × List ℕ → List (List ℕ) × List ℕ
first_line line p = (line ∷ p.0, p.1)

-- where a line feed was found, the first line is what stands before it
record Ended (n k : ℕ) (text : List ℕ) : Type 0 where
  at : ℕ
  place : k ≡ n + at
  is : lines_in text ≡ first_line (take at text) (lines_in (drop (suc at) text))

ended_at : (n k : ℕ) (text : List ℕ) → position_from (λ c. c == 10) n text ≡ Some k → Ended n k text
ended_at n k [] h = absurd cc
ended_at n k (c ∷ cs) h = by (c == 10) refl h (ended_at (n + 1) k cs)
  where
    by : (b : Bool) → (c == 10) ≡ b → cond b (Some n) (position_from (λ x. x == 10) (n + 1) cs) ≡ Some k → (position_from (λ x. x == 10) (n + 1) cs ≡ Some k → Ended (n + 1) k cs) → Ended n k (c ∷ cs)
    by true e h behind =
        let here : n ≡ k = cc in
        record { at = 0; place = omega (arith, here); is = ap (λ (b : Bool). if b then ([] ∷ (lines_in cs).0, (lines_in cs).1) else longer c (lines_in cs)) e }
    by false e h behind =
        let f = behind h in
        let place : k ≡ (n + 1) + f.at = f.place in
        record { at = suc f.at; place = omega (arith, place); is = ap (λ (b : Bool). if b then ([] ∷ (lines_in cs).0, (lines_in cs).1) else longer c (lines_in cs)) e ∙ ap (longer c) f.is }

not_ended : (n : ℕ) (text : List ℕ) → position_from (λ c. c == 10) n text ≡ None → lines_in text ≡ ([], text)
not_ended n [] h = refl
not_ended n (c ∷ cs) h = by (c == 10) refl h (not_ended (n + 1) cs)
  where
    by : (b : Bool) → (c == 10) ≡ b → cond b (Some n) (position_from (λ x. x == 10) (n + 1) cs) ≡ None → (position_from (λ x. x == 10) (n + 1) cs ≡ None → lines_in cs ≡ ([], cs)) → lines_in (c ∷ cs) ≡ ([], c ∷ cs)
    by true e h behind = absurd cc
    by false e h behind = ap (λ (b : Bool). if b then ([] ∷ (lines_in cs).0, (lines_in cs).1) else longer c (lines_in cs)) e ∙ ap (longer c) (behind h)

abbrev line_or : List ℕ → Option (List ℕ × List ℕ) → List ℕ
line_or none None = none
line_or none (Some p) = p.0

abbrev rest_or : List ℕ → Option (List ℕ × List ℕ) → List ℕ
rest_or none None = none
rest_or none (Some p) = p.1

line_there : (text line behind : List ℕ) → split_at 10 text ≡ Some (line, behind) → lines_in text ≡ first_line line (lines_in behind)
line_there text line behind cut = by (position (λ c. c == 10) text) refl cut
  where
    by : (o : Option ℕ) → position (λ c. c == 10) text ≡ o → parts_at text o ≡ Some (line, behind) → lines_in text ≡ first_line line (lines_in behind)
    by None at e = absurd cc
    by (Some k) at e =
        let f = ended_at 0 k text (sym (position_from-zero (λ c. c == 10) text) ∙ at) in
        let place : f.at ≡ k = omega (arith, f.place) in
        let front : take f.at text ≡ line = ap (λ (j : ℕ). take j text) place ∙ ap (line_or line) e in
        let next : suc f.at ≡ k + 1 = omega (arith, place) in
        let back : drop (suc f.at) text ≡ behind = ap (λ (j : ℕ). drop j text) next ∙ ap (rest_or behind) e in
        f.is ∙ (λ i. first_line (front i) (lines_in (back i)))

no_line_there : (text : List ℕ) → split_at 10 text ≡ None → lines_in text ≡ ([], text)
no_line_there text none = by (position (λ c. c == 10) text) refl none
  where
    by : (o : Option ℕ) → position (λ c. c == 10) text ≡ o → parts_at text o ≡ None → lines_in text ≡ ([], text)
    by None at e = not_ended 0 text (sym (position_from-zero (λ c. c == 10) text) ∙ at)
    by (Some k) at e = absurd cc

-- ---- claims

abbrev claims_on : ℕ → ℕ → List (List ℕ) × List ℕ → Claims
claims_on least entries p = claims_from least entries p.0 p.1

-- what stands behind the last line feed is no line
pub bad_end : (least entries : ℕ) (text : List ℕ) → split_at 10 text ≡ None → text ≢ [] → claims_of least entries text ≡ Err 0
bad_end least entries [] none some = absurd (some refl)
bad_end least entries (b ∷ bytes) none some = ap (claims_on least entries) (no_line_there (b ∷ bytes) none)

module _ (least entries : ℕ) (text line behind : List ℕ) (cut : split_at 10 text ≡ Some (line, behind)) where
  claims_behind : (found : Option ClaimLine) → found ≡ claim_in line → claims_of least entries text ≡ claims_with (option_and_then (of_entry least entries) found) (λ c. claims_of c.entry entries behind)
  claims_behind found is =
      ap (claims_on least entries) (line_there text line behind cut)
      ∙ ap (λ (o : Option ClaimLine). claims_with (option_and_then (of_entry least entries) o) (λ c. claims_of c.entry entries behind)) (sym is)

  pub bad_claim : None ≡ claim_in line → claims_of least entries text ≡ Err 0
  bad_claim is = claims_behind None is

  module _ (c : ClaimLine) (is : Some c ≡ claim_in line) where
    by_entry : (b : Bool) → (nat_le least c.entry && nat_lt c.entry entries) ≡ b → claims_of least entries text ≡ claims_with (if b then Some c else None) (λ d. claims_of d.entry entries behind)
    by_entry b e = claims_behind (Some c) is ∙ ap (λ (x : Bool). claims_with (if x then Some c else None) (λ d. claims_of d.entry entries behind)) e

    outside : c.entry < least → (nat_le least c.entry && nat_lt c.entry entries) ≡ false
    outside low = grind (arith, nat_tests)

    beyond : entries ≤ c.entry → (nat_le least c.entry && nat_lt c.entry entries) ≡ false
    beyond high = grind (arith, nat_tests)

    pub entry_low : c.entry < least → claims_of least entries text ≡ Err 0
    entry_low low = by_entry false (outside low)

    pub entry_high : entries ≤ c.entry → claims_of least entries text ≡ Err 0
    entry_high high = by_entry false (beyond high)

    within_both : least ≤ c.entry → c.entry < entries → (nat_le least c.entry && nat_lt c.entry entries) ≡ true
    within_both low high = grind (arith, nat_tests)

    pub claim_first : least ≤ c.entry → c.entry < entries → claims_of least entries text ≡ before c (claims_of c.entry entries behind)
    claim_first low high = by_entry true (within_both low high)
