-- Strings.
use Rattle.std.specs.Prelude.{ℕ, suc, zero, ◌+◌, ◌-◌, ◌*◌, ◌==◌, ◌&&◌, not, nat_le, min, Bool, true, false, List, [], ◌∷◌, length, take, drop, fold, position, Option, Some, None, Result, Ok, Err, if◌then◌else◌, option_map, unwrap_or}
use Rattle.std.specs.Char.{is_digit, digit_value}
use lib.Utf8.{scalar}
use Rattle.cl_sexpr.specs.declared.rule.Rule.TheVariants.{Unclosed, BadEscape}
use Rattle.cl_sexpr.specs.declared.rule.Break.{Break}
use Rattle.cl_sexpr.specs.Tree.{Leaf, Ascii, Unicode}
use Rattle.cl_sexpr.specs.Token.{Token, Is, Faulty}
use Rattle.cl_sexpr.specs.Leaf.{refusal, begins, unless_bad}

-- how many bytes stand before the closing quote; a byte behind \ closes nothing
abbrev pub closing : Bool → List ℕ → Option ℕ
closing escaped [] = None
closing true (c ∷ cs) = option_map (λ n. n + 1) (closing false cs)
closing false (c ∷ cs) = if c == 34 then Some 0 else option_map (λ n. n + 1) (closing (c == 92) cs)

-- behind a \: " \ n r t 0
abbrev pub escape : ℕ → Option ℕ
escape c =
    if c == 34 then Some 34 else (if c == 92 then Some 92 else (if c == 110 then Some 10 else (if c == 114 then Some 13 else (if c == 116 then Some 9 else (if c == 48 then Some 0 else None)))))

-- how many hexadecimal digits stand in front
abbrev pub digits_in_front : List ℕ → ℕ
digits_in_front bytes = unwrap_or (position (λ c. not (is_digit c 16)) bytes) (length bytes)

abbrev pub hex_value : ℕ → ℕ
hex_value c = if is_digit c 16 then digit_value c else 0

abbrev pub hex_number : List ℕ → ℕ
hex_number digits = fold (λ n c. 16 * n + hex_value c) 0 digits

-- n digits of a character's code and the closing brace: the character, and how many bytes behind the \ it takes
abbrev pub in_braces : ℕ → List ℕ → Option (ℕ × ℕ)
in_braces n bytes =
    if nat_le 1 n && nat_le n 6 && begins 125 (drop n bytes) && scalar (hex_number (take n bytes)) then Some (hex_number (take n bytes), n + 3)
    else None

-- behind \u
abbrev pub code_of : List ℕ → Option (ℕ × ℕ)
code_of [] = None
code_of (c ∷ cs) = if c == 123 then in_braces (digits_in_front cs) cs else None

-- the character of the escape that these bytes behind a \ begin with, and how many they are
unfoldable pub escape_of : Bool → List ℕ → Option (ℕ × ℕ)
escape_of unicode [] = None
escape_of unicode (c ∷ cs) = if unicode && c == 117 then code_of cs else option_map (λ e. (e, 1)) (escape c)

abbrev pub escaped : ℕ → ℕ → Option (ℕ × ℕ) → Result (ℕ × ℕ) Break
escaped at behind (Some e) = Ok (e.0, e.1 + 1)
escaped at behind None = Err (refusal BadEscape at (at + 1 + min behind 1))

-- the character that stands at a place, and how many bytes spell it
abbrev pub character_at : Bool → ℕ → ℕ → List ℕ → Result (ℕ × ℕ) Break
character_at unicode at c cs = if c == 92 then escaped at (length cs) (escape_of unicode cs) else Ok (c, 1)

abbrev pub with_character : ℕ → Result (List ℕ) Break → Result (List ℕ) Break
with_character c (Ok cs) = Ok (c ∷ cs)
with_character c (Err r) = Err r

abbrev pub and_then : Result (ℕ × ℕ) Break → (ℕ → Result (List ℕ) Break) → Result (List ℕ) Break
and_then (Ok c) others = with_character c.0 (others (c.1 - 1))
and_then (Err r) others = Err r

-- the characters that bytes spell from a place on, behind some that belong to an escape; or the first \ that begins no escape
abbrev pub characters : Bool → ℕ → ℕ → List ℕ → Result (List ℕ) Break
characters unicode at skip [] = Ok []
characters unicode at (suc skip) (c ∷ cs) = characters unicode (at + 1) skip cs
characters unicode at zero (c ∷ cs) = and_then (character_at unicode at c cs) (λ skip. characters unicode (at + 1) skip cs)

abbrev pub is_string_byte : ℕ → Bool
is_string_byte c = nat_le 32 c && nat_le c 126

abbrev pub string_leaf : Bool → List ℕ → Leaf
string_leaf true cs = Unicode cs
string_leaf false cs = Ascii cs

abbrev pub string_result : Bool → Result (List ℕ) Break → Result Leaf Break
string_result unicode (Ok cs) = Ok (string_leaf unicode cs)
string_result unicode (Err r) = Err r

-- the string of the bytes between quotes, the first of them at a place; a byte that may not stand there goes before all else
unfoldable pub text_in : Bool → ℕ → List ℕ → Result Leaf Break
text_in unicode at bytes = unless_bad at (position (λ c. not (is_string_byte c)) bytes) (string_result unicode (characters unicode at 0 bytes))

-- the bytes in front of the quote
abbrev pub mark : Bool → ℕ
mark true = 1
mark false = 0

abbrev pub closed : ℕ → ℕ → Result Leaf Break → Result (Token × ℕ) Break
closed at n (Ok leaf) = Ok (Is leaf (record { start = at; end = at + n }), n)
closed at n (Err r) = Err r

-- a string without a closing quote breaks its rule only where an item may stand; the span is that of the opening quote
abbrev pub not_closed : ℕ → ℕ → Result Leaf Break → Result (Token × ℕ) Break
not_closed quote n (Ok leaf) = Ok (Faulty (refusal Unclosed quote (quote + 1)), n)
not_closed quote n (Err r) = Err r

abbrev pub string_by : Bool → ℕ → List ℕ → Option ℕ → Result (Token × ℕ) Break
string_by unicode at bytes None = not_closed (at + mark unicode) (mark unicode + 1 + length bytes) (text_in unicode (at + mark unicode + 1) bytes)
string_by unicode at bytes (Some n) = closed at (mark unicode + n + 2) (text_in unicode (at + mark unicode + 1) (take n bytes))

-- the string at a place with these bytes behind its opening quote and how many bytes spell it, or the rule that it breaks
unfoldable pub string_at : Bool → ℕ → List ℕ → Result (Token × ℕ) Break
string_at unicode at bytes = string_by unicode at bytes (closing false bytes)
