-- Strings in printed values, read again.
use Rattle.std.proofs.Common.{◌≡◌, ℕ, zero, suc, ◌+◌, ◌-◌, ◌*◌, ◌/◌, ◌%◌, ◌^◌, ◌<◌, ◌≤◌, ◌==◌, ◌&&◌, Bool, true, false, cond, not, refl, List, [], ◌∷◌, ◌++◌, length, take, drop, arith, ap, sym, ◌∙◌, append_assoc, append-nil, subst, ◌⊎◌, inl, inr, ◌≢◌}
use Rattle.std.specs.Prelude.{Option, Some, None, Result, Ok, nat_le}
use Rattle.std.specs.Option.{option_map}
use Rattle.std.specs.Fmt.{digits, digits_onto, digit_glyph}
use Rattle.std.specs.List.{list_all, flat_map}
use Rattle.std.specs.Str.{all_scalars}
use Rattle.std.specs.Char.{is_digit}
use Rattle.std.proofs.Math.Seq.{take-append_seam, drop-append_seam}
use Rattle.std.proofs.lemmas.Bool.{and_parts, eqb-true, cases_eq}
use Rattle.std.proofs.Math.Nat.{pow-suc}
use Rattle.std.proofs.lemmas.Bool.Decides.{nat_tests}
use Rattle.std.proofs.lemmas.List.{length-append}
use Rattle.std.proofs.lemmas.List.Folds.{list_all-append}
use Rattle.std.proofs.lemmas.List.Sums.{fold-append}
use lib.Utf8.{scalar}
use Rattle.cl_sexpr.specs.declared.rule.Break.{Break}
use Rattle.cl_sexpr.specs.Tree.{Ascii, Unicode}
use Rattle.cl_sexpr.specs.Token.{Is}
use Rattle.cl_sexpr.specs.Leaf.{begins, unless_bad}
use Rattle.cl_sexpr.specs.Quote.{closing, escape, escape_of, in_braces, digits_in_front, hex_value, hex_number, escaped, with_character, and_then, characters, is_string_byte, string_result, text_in, mark, closed, string_by, string_at}
use Rattle.cl_sexpr.specs.Text.{token_at}
use Rattle.cl_values.specs.Valid.{is_text_byte}
use Rattle.cl_text.specs.Printed.{escape_letter, escaped_or, ascii_text, code_text, unicode_text, quoted}
use Rattle.cl_text.proofs.Sorted.{both_true}
use Rattle.cl_text.proofs.Leaves.{below, and_no, within_test}
use Rattle.cl_text.proofs.Runs.{yes, no, all_so, position_none, length_so_far}

-- ---- hexadecimal digits

-- the digits of a number, at most so many, in front of others
record HexOnto (n most : ℕ) (acc whole : List ℕ) : Type 0 where
  ds : List ℕ
  is : whole ≡ ds ++ acc
  hex : list_all (λ c. is_digit c 16) ds ≡ true
  value : hex_number ds ≡ n
  some : 0 < length ds
  within : length ds ≤ most

glyph_hex : (d : ℕ) → d < 16 → is_digit (digit_glyph false d) 16 ≡ true
glyph_hex d h = below (λ d. is_digit (digit_glyph false d) 16) 16 d refl h

glyph_value : (d : ℕ) → d < 16 → hex_value (digit_glyph false d) ≡ d
glyph_value d h = eqb-true (hex_value (digit_glyph false d)) d (below (λ d. hex_value (digit_glyph false d) == d) 16 d refl h)

one_hex : (n j : ℕ) (acc : List ℕ) → n / 16 ≡ 0 → HexOnto n (suc j) acc (digit_glyph false (n % 16) ∷ acc)
one_hex n j acc h =
    let last : n % 16 < 16 = omega arith in
    let small : n % 16 ≡ n = omega arith in
    record {
      ds = digit_glyph false (n % 16) ∷ [];
      is = refl;
      hex = both_true (is_digit (digit_glyph false (n % 16)) 16) true (glyph_hex (n % 16) last) refl;
      value = omega (arith, glyph_value (n % 16) last, small);
      some = omega arith;
      within = omega arith;
    }

more_hex : (n j : ℕ) (acc whole : List ℕ) → HexOnto (n / 16) j (digit_glyph false (n % 16) ∷ acc) whole → HexOnto n (suc j) acc whole
more_hex n j acc whole r =
    let last : n % 16 < 16 = omega arith in
    let g : ℕ = digit_glyph false (n % 16) in
    let front : hex_number (r.ds ++ g ∷ []) ≡ 16 * hex_number r.ds + hex_value g = fold-append (λ n c. 16 * n + hex_value c) 0 r.ds (g ∷ []) in
    let whole_is : 16 * (n / 16) + n % 16 ≡ n = omega arith in
    record {
      ds = r.ds ++ g ∷ [];
      is = r.is ∙ sym (append_assoc r.ds (g ∷ []) acc);
      hex = list_all-append (λ c. is_digit c 16) r.ds (g ∷ []) ∙ both_true (list_all (λ c. is_digit c 16) r.ds) (is_digit g 16 && true) r.hex (both_true (is_digit g 16) true (glyph_hex (n % 16) last) refl);
      value = front ∙ (ap (λ (k : ℕ). 16 * k + hex_value g) r.value ∙ (ap (λ (k : ℕ). 16 * (n / 16) + k) (glyph_value (n % 16) last) ∙ whole_is));
      some = omega (arith, length-append r.ds (g ∷ []));
      within = omega (arith, length-append r.ds (g ∷ []), r.within);
    }

sixteen : (n : ℕ) → (n / 16 == 0) ≡ false → 16 ≤ n
sixteen n e =
    let apart : n / 16 ≡ 0 → ⊥ = λ z. grind (arith, nat_tests) in
    omega (arith, apart)

positive : (j n : ℕ) → 16 ≤ n → n < 16 ^ suc j → 0 < j
positive zero n big small = absurd (omega (arith, big, small))
positive (suc j) n big small = omega arith

hex_onto : (j k n : ℕ) (acc : List ℕ) → 0 < j → j ≤ k → n < 16 ^ j → HexOnto n j acc (digits_onto k 16 false n acc)
hex_onto zero k n acc some within small = absurd (omega (arith, some))
hex_onto (suc j) zero n acc some within small = absurd (omega (arith, within))
hex_onto (suc j) (suc k) n acc some within small =
    go (n / 16 == 0) refl (λ more under. hex_onto j k (n / 16) (digit_glyph false (n % 16) ∷ acc) more (omega (arith, within)) under)
  where
    go : (b : Bool) → (n / 16 == 0) ≡ b → (0 < j → n / 16 < 16 ^ j → HexOnto (n / 16) j (digit_glyph false (n % 16) ∷ acc) (digits_onto k 16 false (n / 16) (digit_glyph false (n % 16) ∷ acc))) → HexOnto n (suc j) acc (cond b (digit_glyph false (n % 16) ∷ acc) (digits_onto k 16 false (n / 16) (digit_glyph false (n % 16) ∷ acc)))
    go true e others = one_hex n j acc (eqb-true (n / 16) 0 e)
    go false e others =
        let big : 16 ≤ n = sixteen n e in
        more_hex n j acc (digits_onto k 16 false (n / 16) (digit_glyph false (n % 16) ∷ acc)) (others (positive j n big small) (omega (arith, small, pow-suc 16 j)))

-- ---- one character

abbrev plus : ℕ → Option ℕ → Option ℕ
plus n o = option_map (λ k. k + n) o

-- the text of a character in a string
record CharText (unicode : Bool) (c : ℕ) (text : List ℕ) : Type 0 where
  closes : (more : List ℕ) → closing false (text ++ more) ≡ plus (length text) (closing false more)
  bytes : list_all is_string_byte text ≡ true
  spells : (at : ℕ) (more : List ℕ) → characters unicode at 0 (text ++ more) ≡ with_character c (characters unicode (at + length text) 0 more)

-- a byte that closes nothing by itself and begins no escape
record IsQuiet (c : ℕ) : Type 0 where
  quote : (c == 34) ≡ false
  backslash : (c == 92) ≡ false

quiet_closes : (c : ℕ) (more : List ℕ) → IsQuiet c → closing false (c ∷ more) ≡ option_map (λ n. n + 1) (closing false more)
quiet_closes c more q = no (c == 34) _ _ q.quote ∙ ap (λ (b : Bool). option_map (λ n. n + 1) (closing b more)) q.backslash

plain_text : (unicode : Bool) (c : ℕ) → IsQuiet c → is_string_byte c ≡ true → CharText unicode c (c ∷ [])
plain_text unicode c q h = record {
  closes = λ more. quiet_closes c more q;
  bytes = both_true (is_string_byte c) true h refl;
  spells = λ at more. ap (λ r. and_then r (λ skip. characters unicode (at + 1) skip more)) (no (c == 92) (escaped at (length more) (escape_of unicode more)) (Ok (c, 1)) q.backslash);
}

twice : (o : Option ℕ) → option_map (λ n. n + 1) (option_map (λ n. n + 1) o) ≡ plus 2 o
twice None = refl
twice (Some n) = ap (λ (k : ℕ). Some k) (omega arith)

-- an escape of one letter
escape_text : (unicode : Bool) (c letter : ℕ) → is_string_byte letter ≡ true → ((more : List ℕ) → escape_of unicode (letter ∷ more) ≡ Some (c, 1)) → CharText unicode c (92 ∷ letter ∷ [])
escape_text unicode c letter h is = record {
  closes = λ more. twice (closing false more);
  bytes = both_true (is_string_byte letter) true h refl;
  spells = λ at more.
      let place : at + 1 + 1 ≡ at + 2 = omega arith in
      ap (λ o. and_then (escaped at (length (letter ∷ more)) o) (λ skip. characters unicode (at + 1) skip (letter ∷ more))) (is more)
      ∙ ap (λ (n : ℕ). with_character c (characters unicode n 0 more)) place;
}

-- ---- characters by the letters that stand for them

-- a byte that no letter stands for
record IsOrdinary (c : ℕ) : Type 0 where
  none : escape_letter c ≡ None
  quiet : IsQuiet c
  line : c ≢ 10
  return : c ≢ 13
  tab : c ≢ 9
  null : c ≢ 0

letter_cases : (P : ℕ → Type 0) → P 34 → P 92 → P 10 → P 13 → P 9 → P 0 → ((c : ℕ) → IsOrdinary c → P c) → (c : ℕ) → P c
letter_cases P quote backslash line return tab null other c =
    go34 (cases_eq c 34)
  where
    apart : (n : ℕ) → c ≢ n → (c == n) ≡ false
    apart n h = grind (arith, nat_tests)

    last : c ≢ 34 → c ≢ 92 → c ≢ 10 → c ≢ 13 → c ≢ 9 → c ≢ 0 → P c
    last a b d e f g =
        let none : escape_letter c ≡ None = rw (apart 34 a, apart 92 b, apart 10 d, apart 13 e, apart 9 f, apart 0 g) refl in
        other c (record { none = none; quiet = record { quote = apart 34 a; backslash = apart 92 b }; line = d; return = e; tab = f; null = g })

    go0 : c ≢ 34 → c ≢ 92 → c ≢ 10 → c ≢ 13 → c ≢ 9 → (c ≡ 0) ⊎ (c ≢ 0) → P c
    go0 a b d e f (inl is) = subst P (sym is) null
    go0 a b d e f (inr g) = last a b d e f g

    go9 : c ≢ 34 → c ≢ 92 → c ≢ 10 → c ≢ 13 → (c ≡ 9) ⊎ (c ≢ 9) → P c
    go9 a b d e (inl is) = subst P (sym is) tab
    go9 a b d e (inr f) = go0 a b d e f (cases_eq c 0)

    go13 : c ≢ 34 → c ≢ 92 → c ≢ 10 → (c ≡ 13) ⊎ (c ≢ 13) → P c
    go13 a b d (inl is) = subst P (sym is) return
    go13 a b d (inr e) = go9 a b d e (cases_eq c 9)

    go10 : c ≢ 34 → c ≢ 92 → (c ≡ 10) ⊎ (c ≢ 10) → P c
    go10 a b (inl is) = subst P (sym is) line
    go10 a b (inr d) = go13 a b d (cases_eq c 13)

    go92 : c ≢ 34 → (c ≡ 92) ⊎ (c ≢ 92) → P c
    go92 a (inl is) = subst P (sym is) backslash
    go92 a (inr b) = go10 a b (cases_eq c 10)

    go34 : (c ≡ 34) ⊎ (c ≢ 34) → P c
    go34 (inl is) = subst P (sym is) quote
    go34 (inr a) = go92 a (cases_eq c 92)

-- a text byte without an escape is a byte of a string
unescaped : (c : ℕ) → is_text_byte c ≡ true → c ≢ 10 → c ≢ 13 → c ≢ 9 → c ≢ 0 → is_string_byte c ≡ true
unescaped c h d e f g = grind (arith, nat_tests)

escaped_as : (unicode : Bool) (c letter : ℕ) → (letter == 117) ≡ false → escape letter ≡ Some c → (more : List ℕ) → escape_of unicode (letter ∷ more) ≡ Some (c, 1)
unfolding escape_of
escaped_as unicode c letter d e more =
    no (unicode && letter == 117) _ _ (and_no unicode (letter == 117) d) ∙ ap (λ (o : Option ℕ). option_map (λ e. (e, 1)) o) e

letter_text : (unicode : Bool) (c letter : ℕ) → is_string_byte letter ≡ true → (letter == 117) ≡ false → escape letter ≡ Some c → CharText unicode c (92 ∷ letter ∷ [])
letter_text unicode c letter h d e = escape_text unicode c letter h (escaped_as unicode c letter d e)

ascii_char : (c : ℕ) → is_text_byte c ≡ true → CharText false c (ascii_text c)
ascii_char =
    letter_cases (λ c. is_text_byte c ≡ true → CharText false c (ascii_text c))
    (λ h. letter_text false 34 34 refl refl refl)
    (λ h. letter_text false 92 92 refl refl refl)
    (λ h. letter_text false 10 110 refl refl refl)
    (λ h. letter_text false 13 114 refl refl refl)
    (λ h. letter_text false 9 116 refl refl refl)
    (λ h. letter_text false 0 48 refl refl refl)
    (λ c o h. subst (λ (text : List ℕ). CharText false c text) (ap (λ (l : Option ℕ). escaped_or l (c ∷ [])) (sym o.none)) (plain_text false c o.quiet (unescaped c h o.line o.return o.tab o.null)))

-- a character by its code
hex_string : (c : ℕ) → is_digit c 16 ≡ true → is_string_byte c ≡ true
hex_string c h = grind (arith, nat_tests)

hex_quiet : (c : ℕ) → is_digit c 16 ≡ true → IsQuiet c
hex_quiet c h = record { quote = grind (arith, nat_tests); backslash = grind (arith, nat_tests) }

-- quiet bytes in a row
quiet_row : (bytes more : List ℕ) → ((c : ℕ) → is_digit c 16 ≡ true → IsQuiet c) → list_all (λ c. is_digit c 16) bytes ≡ true → closing false (bytes ++ more) ≡ plus (length bytes) (closing false more)
quiet_row [] more q h = none (closing false more)
  where
    none : (o : Option ℕ) → o ≡ plus 0 o
    none None = refl
    none (Some n) = ap (λ (k : ℕ). Some k) (omega arith)
quiet_row (c ∷ cs) more q h =
    let parts = and_parts (is_digit c 16) (list_all (λ c. is_digit c 16) cs) h in
    quiet_closes c (cs ++ more) (q c parts.0)
    ∙ (ap (λ (o : Option ℕ). option_map (λ n. n + 1) o) (quiet_row cs more q parts.1) ∙ more_plus (length cs) (closing false more))
  where
    more_plus : (n : ℕ) (o : Option ℕ) → option_map (λ n. n + 1) (plus n o) ≡ plus (suc n) o
    more_plus n None = refl
    more_plus n (Some k) = ap (λ (k : ℕ). Some k) (omega arith)

-- past the bytes of an escape
skipped : (unicode : Bool) (at : ℕ) (xs more : List ℕ) → characters unicode at (length xs) (xs ++ more) ≡ characters unicode (at + length xs) 0 more
skipped unicode at [] more = ap (λ (n : ℕ). characters unicode n 0 more) (omega arith)
skipped unicode at (c ∷ cs) more =
    let place : at + 1 + length cs ≡ at + length (c ∷ cs) = omega arith in
    skipped unicode (at + 1) cs more ∙ ap (λ (n : ℕ). characters unicode n 0 more) place

double_not : (b : Bool) → b ≡ true → not (not b) ≡ true
double_not true e = refl
double_not false e = e

-- digits in braces, in front of anything
in_braces_is : (c : ℕ) (ds more : List ℕ) → scalar c ≡ true → list_all (λ c. is_digit c 16) ds ≡ true → hex_number ds ≡ c → 0 < length ds → length ds ≤ 6 → in_braces (digits_in_front (ds ++ 125 ∷ more)) (ds ++ 125 ∷ more) ≡ Some (c, length ds + 3)
in_braces_is c ds more real hex value some within =
    let front : digits_in_front (ds ++ 125 ∷ more) ≡ length ds =
    length_so_far (λ c. not (is_digit c 16)) ds (125 ∷ more) (all_so (λ c. is_digit c 16) (λ c. not (not (is_digit c 16))) (λ c. double_not (is_digit c 16)) ds hex) refl in
    let test : (nat_le 1 (length ds) && nat_le (length ds) 6 && begins 125 (drop (length ds) (ds ++ 125 ∷ more)) && scalar (hex_number (take (length ds) (ds ++ 125 ∷ more)))) ≡ true =
    both_true (nat_le 1 (length ds) && nat_le (length ds) 6 && begins 125 (drop (length ds) (ds ++ 125 ∷ more))) (scalar (hex_number (take (length ds) (ds ++ 125 ∷ more))))
    (both_true (nat_le 1 (length ds) && nat_le (length ds) 6) (begins 125 (drop (length ds) (ds ++ 125 ∷ more)))
    (both_true (nat_le 1 (length ds)) (nat_le (length ds) 6) (within_test 1 (length ds) (omega (arith, some))) (within_test (length ds) 6 within))
    (ap (begins 125) (drop-append_seam ds (125 ∷ more))))
    (ap (λ (xs : List ℕ). scalar (hex_number xs)) (take-append_seam ds (125 ∷ more)) ∙ (ap scalar value ∙ real)) in
    let found : ◌≡◌ {A = Option (ℕ × ℕ)} (Some (hex_number (take (length ds) (ds ++ 125 ∷ more)), length ds + 3)) (Some (c, length ds + 3)) =
    ap (λ (n : ℕ). Some (n, length ds + 3)) (ap hex_number (take-append_seam ds (125 ∷ more)) ∙ value) in
    ap (λ (n : ℕ). in_braces n (ds ++ 125 ∷ more)) front ∙ (yes _ (Some (hex_number (take (length ds) (ds ++ 125 ∷ more)), length ds + 3)) None test ∙ found)

more_than : (n m : ℕ) (o : Option ℕ) → m ≡ n + 4 → option_map (λ n. n + 1) (option_map (λ n. n + 1) (option_map (λ n. n + 1) (plus n (option_map (λ n. n + 1) o)))) ≡ plus m o
more_than n m None e = refl
more_than n m (Some k) e = ap (λ (k : ℕ). Some k) (omega (arith, e))

braced_text : (c : ℕ) (ds : List ℕ) → scalar c ≡ true → list_all (λ c. is_digit c 16) ds ≡ true → hex_number ds ≡ c → 0 < length ds → length ds ≤ 6 → CharText true c (92 ∷ 117 ∷ 123 ∷ (ds ++ 125 ∷ []))
unfolding escape_of
braced_text c ds real hex value some within =
    let size : length (ds ++ 125 ∷ []) ≡ length ds + 1 = length-append ds (125 ∷ []) in
    record {
      closes = λ more.
          ap (λ (x : List ℕ). closing false (92 ∷ 117 ∷ 123 ∷ x)) (append_assoc ds (125 ∷ []) more)
          ∙ (ap (λ (o : Option ℕ). option_map (λ n. n + 1) (option_map (λ n. n + 1) (option_map (λ n. n + 1) o))) (quiet_row ds (125 ∷ more) hex_quiet hex)
          ∙ more_than (length ds) (length (92 ∷ 117 ∷ 123 ∷ (ds ++ 125 ∷ []))) (closing false more) (omega (arith, size)));
      bytes = list_all-append is_string_byte ds (125 ∷ []) ∙ both_true (list_all is_string_byte ds) true (all_so (λ c. is_digit c 16) is_string_byte hex_string ds hex) refl;
      spells = λ at more.
          let bytes : (ds ++ 125 ∷ []) ++ more ≡ ds ++ 125 ∷ more = append_assoc ds (125 ∷ []) more in
          let cs : List ℕ = 117 ∷ 123 ∷ ((ds ++ 125 ∷ []) ++ more) in
          let code : escape_of true cs ≡ Some (c, length ds + 3) = ap (λ (x : List ℕ). in_braces (digits_in_front x) x) bytes ∙ in_braces_is c ds more real hex value some within in
          let skip : length ds + 3 + 1 - 1 ≡ length (117 ∷ 123 ∷ (ds ++ 125 ∷ [])) = omega (arith, size) in
          let place : at + 1 + length (117 ∷ 123 ∷ (ds ++ 125 ∷ [])) ≡ at + length (92 ∷ 117 ∷ 123 ∷ (ds ++ 125 ∷ [])) = omega arith in
          ap (λ o. and_then (escaped at (length cs) o) (λ skip. characters true (at + 1) skip cs)) code
          ∙ (ap (λ (n : ℕ). with_character c (characters true (at + 1) n cs)) skip
          ∙ ap (with_character c) (skipped true (at + 1) (117 ∷ 123 ∷ (ds ++ 125 ∷ [])) more ∙ ap (λ (n : ℕ). characters true n 0 more) place));
    }

scalar_small : (c : ℕ) → scalar c ≡ true → c < 16 ^ 6
scalar_small c h =
    let least : c < 1114112 = grind (arith, nat_tests) in
    omega (arith, least)

code_char : (c : ℕ) → scalar c ≡ true → CharText true c (code_text c)
unfolding digits
code_char c h =
    let d = hex_onto 6 64 c [] (omega arith) (omega arith) (scalar_small c h) in
    let is : digits_onto 64 16 false c [] ≡ d.ds = d.is ∙ append-nil d.ds in
    subst (λ (ds : List ℕ). CharText true c (92 ∷ 117 ∷ 123 ∷ (ds ++ 125 ∷ []))) (sym is) (braced_text c d.ds h d.hex d.value d.some d.within)

unicode_char : (c : ℕ) → scalar c ≡ true → CharText true c (unicode_text c)
unicode_char =
    letter_cases (λ c. scalar c ≡ true → CharText true c (unicode_text c))
    (λ h. letter_text true 34 34 refl refl refl)
    (λ h. letter_text true 92 92 refl refl refl)
    (λ h. letter_text true 10 110 refl refl refl)
    (λ h. letter_text true 13 114 refl refl refl)
    (λ h. letter_text true 9 116 refl refl refl)
    (λ h. letter_text true 0 48 refl refl refl)
    (λ c o h. subst (λ (l : Option ℕ). CharText true c (escaped_or l (cond (nat_le 32 c && nat_le c 126) (c ∷ []) (code_text c)))) (sym o.none) (go c o.quiet h (nat_le 32 c && nat_le c 126) refl))
  where
    go : (c : ℕ) → IsQuiet c → scalar c ≡ true → (b : Bool) → (nat_le 32 c && nat_le c 126) ≡ b → CharText true c (cond b (c ∷ []) (code_text c))
    go c q h true e = plain_text true c q e
    go c q h false e = code_char c h

-- ---- strings

abbrev with_all : List ℕ → Result (List ℕ) Break → Result (List ℕ) Break
with_all [] r = r
with_all (c ∷ cs) r = with_character c (with_all cs r)

with_all-nil : (cs : List ℕ) → with_all cs (Ok []) ≡ Ok cs
with_all-nil [] = refl
with_all-nil (c ∷ cs) = ap (with_character c) (with_all-nil cs)

-- the text of characters in a string
record CharsText (unicode : Bool) (cs text : List ℕ) : Type 0 where
  closes : (more : List ℕ) → closing false (text ++ more) ≡ plus (length text) (closing false more)
  bytes : list_all is_string_byte text ≡ true
  spells : (at : ℕ) (more : List ℕ) → characters unicode at 0 (text ++ more) ≡ with_all cs (characters unicode (at + length text) 0 more)

plus_none : (o : Option ℕ) → o ≡ plus 0 o
plus_none None = refl
plus_none (Some n) = ap (λ (k : ℕ). Some k) (omega arith)

plus_plus : (n m k : ℕ) (o : Option ℕ) → k ≡ n + m → plus n (plus m o) ≡ plus k o
plus_plus n m k None e = refl
plus_plus n m k (Some x) e = ap (λ (k : ℕ). Some k) (omega (arith, e))

no_chars : (unicode : Bool) → CharsText unicode [] []
no_chars unicode = record {
  closes = λ more. plus_none (closing false more);
  bytes = refl;
  spells = λ at more. ap (λ (n : ℕ). characters unicode n 0 more) (omega arith);
}

more_chars : (unicode : Bool) (c : ℕ) (one : List ℕ) (cs text : List ℕ) → CharText unicode c one → CharsText unicode cs text → CharsText unicode (c ∷ cs) (one ++ text)
more_chars unicode c one cs text a b =
    let size : length (one ++ text) ≡ length one + length text = length-append one text in
    record {
      closes = λ more.
          ap (closing false) (append_assoc one text more)
          ∙ (a.closes (text ++ more) ∙ (ap (plus (length one)) (b.closes more) ∙ plus_plus (length one) (length text) (length (one ++ text)) (closing false more) size));
      bytes = list_all-append is_string_byte one text ∙ both_true (list_all is_string_byte one) (list_all is_string_byte text) a.bytes b.bytes;
      spells = λ at more.
          let place : at + length one + length text ≡ at + length (one ++ text) = omega (arith, size) in
          ap (characters unicode at 0) (append_assoc one text more)
          ∙ (a.spells at (text ++ more)
          ∙ ap (with_character c) (b.spells (at + length one) more ∙ ap (λ (n : ℕ). with_all cs (characters unicode n 0 more)) place));
    }

ascii_chars : (cs : List ℕ) → list_all is_text_byte cs ≡ true → CharsText false cs (flat_map ascii_text cs)
ascii_chars [] h = no_chars false
ascii_chars (c ∷ cs) h =
    let parts = and_parts (is_text_byte c) (list_all is_text_byte cs) h in
    more_chars false c (ascii_text c) cs (flat_map ascii_text cs) (ascii_char c parts.0) (ascii_chars cs parts.1)

unicode_chars : (cs : List ℕ) → all_scalars cs ≡ true → CharsText true cs (flat_map unicode_text cs)
unicode_chars [] h = no_chars true
unicode_chars (c ∷ cs) h =
    let parts = and_parts (scalar c) (all_scalars cs) h in
    more_chars true c (unicode_text c) cs (flat_map unicode_text cs) (unicode_char c parts.0) (unicode_chars cs parts.1)

-- a string between quotes
text_in_is : (unicode : Bool) (at : ℕ) (cs text : List ℕ) → CharsText unicode cs text → text_in unicode at text ≡ string_result unicode (Ok cs)
unfolding text_in
text_in_is unicode at cs text t =
    let all : text ++ [] ≡ text = append-nil text in
    let spelled : characters unicode at 0 text ≡ Ok cs = ap (characters unicode at 0) (sym all) ∙ (t.spells at [] ∙ with_all-nil cs) in
    ap (λ (o : Option ℕ). unless_bad at o (string_result unicode (characters unicode at 0 text))) (position_none (λ c. not (is_string_byte c)) text (all_so is_string_byte (λ c. not (not (is_string_byte c))) (λ c. double_not (is_string_byte c)) text t.bytes))
    ∙ ap (string_result unicode) spelled

string_at_is : (unicode : Bool) (at : ℕ) (cs text rest : List ℕ) → CharsText unicode cs text → string_at unicode at ((text ++ 34 ∷ []) ++ rest) ≡ closed at (mark unicode + length text + 2) (string_result unicode (Ok cs))
unfolding string_at
string_at_is unicode at cs text rest t =
    let bytes : (text ++ 34 ∷ []) ++ rest ≡ text ++ 34 ∷ rest = append_assoc text (34 ∷ []) rest in
    let sum : 0 + length text ≡ length text = omega arith in
    let end : closing false (text ++ 34 ∷ rest) ≡ Some (length text) = t.closes (34 ∷ rest) ∙ ap (λ (n : ℕ). Some n) sum in
    ap (λ (x : List ℕ). string_by unicode at x (closing false x)) bytes
    ∙ (ap (string_by unicode at (text ++ 34 ∷ rest)) end
    ∙ ap (closed at (mark unicode + length text + 2)) (ap (text_in unicode (at + mark unicode + 1)) (take-append_seam text (34 ∷ rest)) ∙ text_in_is unicode (at + mark unicode + 1) cs text t))

pub ascii_spells : (at : ℕ) (cs rest : List ℕ) → list_all is_text_byte cs ≡ true → token_at at (quoted (flat_map ascii_text cs) ++ rest) ≡ Ok (Is (Ascii cs) (record { start = at; end = at + (0 + length (flat_map ascii_text cs) + 2) }), 0 + length (flat_map ascii_text cs) + 2)
unfolding token_at
ascii_spells at cs rest h = string_at_is false at cs (flat_map ascii_text cs) rest (ascii_chars cs h)

pub unicode_spells : (at : ℕ) (cs rest : List ℕ) → all_scalars cs ≡ true → token_at at (117 ∷ (quoted (flat_map unicode_text cs) ++ rest)) ≡ Ok (Is (Unicode cs) (record { start = at; end = at + (1 + length (flat_map unicode_text cs) + 2) }), 1 + length (flat_map unicode_text cs) + 2)
unfolding token_at
unicode_spells at cs rest h = string_at_is true at cs (flat_map unicode_text cs) rest (unicode_chars cs h)
