-- The replies to `value` and `wire`, a value by its wire form and by its text, and to `verify`, by digits alone.
use Rattle.std.specs.Prelude.{ℕ, Bool, true, false, List, [], ◌∷◌, ◌++◌, length, codes, decimal, if◌then◌else◌, ◌==◌, ◌&&◌, Option, Some, None, option_map, Result, Ok, Err}
use Rattle.std.specs.Str.{bytes_eq}
use Rattle.cl_root.specs.declared.side.Side.{Side}
use Rattle.cl_root.specs.Paths.{end_of}
use Rattle.hex.specs.Hex.{decode_of, decode_sized, encode_lower}
use Rattle.hex.specs.declared.error.FromHexError.{FromHexError}
use Rattle.cl_values.specs.Tree.{Tree}
use Rattle.cl_values.specs.Wire.{wire}
use Rattle.cl_values.specs.Reading.{decoded}
use Rattle.cl_values.specs.declared.fault.DecodeRefusal.{DecodeRefusal}
use Rattle.cl_values.specs.declared.fault.DecodeRefusal.TheVariants.{Ended, BadPrefix, BadName, KeysOrder, BadText, TooDeep as DeepBytes, TooLong, Extra, NoKeys}
use Rattle.cl_text.specs.Printed.{printed}
use Rattle.cl_text.specs.Parsed.{Reading, Stands, Broken, NotALiteral, TooDeep, TooLarge}
use Rattle.cl_sexpr.specs.Rules.{rule_text}
use Rattle.cl_lines.specs.Refusals.{span_text}
use Rattle.cl_entries.specs.declared.status.Reply.{Reply}
use Rattle.cl_entries.specs.declared.status.Status.TheVariants.{Done, Refused, BadWord}

-- a word that is no value, by the fault
abbrev pub refused_reply : List ℕ → Reply
refused_reply fault = record { text = codes "refused " ++ (fault ++ codes "\n"); status = BadWord }

-- a line that is good
abbrev pub line_reply : List ℕ → Reply
line_reply text = record { text = text ++ codes "\n"; status = Done }

-- the digits of a word, without the `0x` that may stand before them
abbrev pub digits_in : List ℕ → List ℕ
digits_in [] = []
digits_in (a ∷ []) = a ∷ []
digits_in (a ∷ b ∷ digits) = if a == 48 && b == 120 then digits else a ∷ b ∷ digits

-- why bytes are no wire form, and where
abbrev pub fault_text : DecodeRefusal → List ℕ
fault_text (Ended at) = codes "Ended " ++ decimal at
fault_text (BadPrefix at) = codes "BadPrefix " ++ decimal at
fault_text (BadName at) = codes "BadName " ++ decimal at
fault_text (KeysOrder at) = codes "KeysOrder " ++ decimal at
fault_text (BadText at) = codes "BadText " ++ decimal at
fault_text (DeepBytes at) = codes "TooDeep " ++ decimal at
fault_text TooLong = codes "TooLong"
fault_text (Extra at) = codes "Extra " ++ decimal at
fault_text (NoKeys at) = codes "NoKeys " ++ decimal at

-- the value of bytes
abbrev pub bytes_reply : Result Tree DecodeRefusal → Reply
bytes_reply (Ok v) = line_reply (printed v)
bytes_reply (Err fault) = refused_reply (fault_text fault)

abbrev pub hex_reply : Result (List ℕ) FromHexError → Reply
hex_reply (Ok bytes) = bytes_reply (decoded bytes)
hex_reply (Err error) = refused_reply (codes "NotHex")

-- the reply to `value`
abbrev pub value_reply : List ℕ → Reply
value_reply word = hex_reply (decode_of (digits_in word))

-- why a text is no value, and where
abbrev pub outcome_text : Reading → List ℕ
outcome_text (Stands v) = []
outcome_text (Broken b) = rule_text b.rule ++ span_text b.span
outcome_text (NotALiteral span) = codes "NotALiteral" ++ span_text span
outcome_text (TooDeep span) = codes "TooDeep" ++ span_text span
outcome_text (TooLarge span) = codes "TooLarge" ++ span_text span

-- the reply to a text that is no value
abbrev pub no_value_reply : Reading → Reply
no_value_reply outcome = refused_reply (outcome_text outcome)

-- the reply to `wire`, by what becomes of the word
abbrev pub wire_reply : Reading → Reply
wire_reply (Stands v) = line_reply (codes "0x" ++ encode_lower (wire v))
wire_reply (Broken b) = no_value_reply (Broken b)
wire_reply (NotALiteral span) = no_value_reply (NotALiteral span)
wire_reply (TooDeep span) = no_value_reply (TooDeep span)
wire_reply (TooLarge span) = no_value_reply (TooLarge span)

-- ---- whether a key and a value lead to a root

abbrev pub bytes_in : Result (List ℕ) FromHexError → Option (List ℕ)
bytes_in (Ok bytes) = Some bytes
bytes_in (Err error) = None

-- the 32 bytes that 64 digits spell
abbrev pub digest_in : List ℕ → Option (List ℕ)
digest_in word = bytes_in (decode_sized word 32)

-- a digest on the left or on the right
abbrev pub side_with : Bool → Option (List ℕ) → Option Side
side_with left digest = option_map (λ d. record { left = left; digest = d }) digest

-- a digest behind a letter that says on which side it stands
abbrev pub side_of : List ℕ → Option Side
side_of [] = None
side_of (letter ∷ digits) =
    if letter == 76 then side_with true (digest_in digits)
    else (if letter == 82 then side_with false (digest_in digits) else None)

abbrev pub side_before : Option Side → Option (List Side) → Option (List Side)
side_before (Some side) (Some sides) = Some (side ∷ sides)
side_before side sides = None

-- the sides that words spell, in their order; none where one spells none
abbrev pub sides_of : List (List ℕ) → Option (List Side)
sides_of [] = Some []
sides_of (word ∷ words) = side_before (side_of word) (sides_of words)

abbrev pub yes_or_no : Bool → Reply
yes_or_no true = record { text = codes "yes\n"; status = Done }
yes_or_no false = record { text = codes "no\n"; status = Refused }

-- whether a key and a value lead to a root by a path, where all words spell them
abbrev pub verdict : Option (List ℕ) → Option (List ℕ) → Option (List ℕ) → Option (List Side) → Option Bool
verdict (Some root) (Some key) (Some value) (Some path) = Some (bytes_eq (end_of (key, value) path) root)
verdict root key value path = None

abbrev pub verdict_on : List ℕ → List ℕ → List ℕ → List (List ℕ) → Option Bool
verdict_on root key value sides = verdict (digest_in root) (bytes_in (decode_of key)) (bytes_in (decode_of value)) (sides_of sides)

abbrev pub verdict_reply : Option Bool → Reply
verdict_reply (Some leads) = yes_or_no leads
verdict_reply None = refused_reply (codes "NotHex")

-- the reply to `verify`
abbrev pub verify_reply : List ℕ → List ℕ → List ℕ → List (List ℕ) → Reply
verify_reply root key value sides = verdict_reply (verdict_on root key value sides)
