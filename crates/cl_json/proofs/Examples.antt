-- The definitions compute: which texts are JSON, and the least name of an object that isn't known.
use Rattle.std.proofs.Common.{refl}
use Rattle.std.specs.Prelude.{◌≡◌, ℕ, true, false, List, [], ◌∷◌, map, replicate, codes, Option, Some, None, is_some, option_and_then}
use Rattle.std.specs.Str.{is_utf8, chars}
use Rattle.json.specs.Text.{code_unit, short_escape, content}
use Rattle.json.specs.Word.{after_number, word}
use Rattle.json.specs.Lex.{lex, punctuate}
use Rattle.json.specs.Json as json
use Rattle.serde_json.specs.Read.{number_of}
use Rattle.std.specs.Float.Numeral.{scan_numeral}
use Rattle.serde_json.specs.Find.{as_object, get, as_number}
use Rattle.cl_json.specs.Json.{json_of, is_known, unknown_member}

json_texts : map (λ bytes. is_some (json_of bytes)) (
    codes "0"
    ∷ codes " [1, null, true] "
    ∷ codes "{\"a\": {\"b\": \"\\u00e9\"}}"
    ∷ codes "\"\\ud83d\\ude00\""
    ∷ (34 ∷ 195 ∷ 169 ∷ 34 ∷ [])
    ∷ []) ≡ replicate 5 true
unfolding json_of is_utf8 chars lib.Utf8.encode code_unit short_escape content after_number word lex punctuate json.items json.members json.value number_of scan_numeral
json_texts = refl

no_json_texts : map json_of (
    []
    ∷ codes "1 2"
    ∷ codes "[1,]"
    ∷ codes "{a: 1}"
    ∷ codes "01"
    ∷ codes "\"\\ud800\""
    ∷ (34 ∷ 255 ∷ 34 ∷ [])
    ∷ codes "\"\n\""
    ∷ (239 ∷ 187 ∷ 191 ∷ 49 ∷ [])
    ∷ codes "// nothing\n1"
    ∷ []) ≡ replicate 10 None
unfolding json_of is_utf8 chars lib.Utf8.encode code_unit short_escape content after_number word lex punctuate json.items json.members json.value number_of scan_numeral
no_json_texts = refl

-- of names that stand twice the last counts
abbrev text : List ℕ
text = codes "{\"c\": 1, \"B\": 2, \"c\": 3, \"ab\": 4, \"\\u0061\": 5}"

last_of_a_name : option_and_then (λ d. option_and_then as_number (get (codes "c") d)) (json_of text) ≡ option_and_then as_number (json_of (codes "3"))
unfolding json_of is_utf8 chars lib.Utf8.encode code_unit short_escape content after_number word lex punctuate json.items json.members json.value number_of scan_numeral
last_of_a_name = refl

-- the least name of the text that is none of these
abbrev unknown : List (List ℕ) → Option (List ℕ)
unknown known = option_and_then (λ d. option_and_then (unknown_member known) (as_object d)) (json_of text)

unknown_names : map unknown (
    []
    ∷ (codes "c" ∷ codes "B" ∷ [])
    ∷ (codes "a" ∷ codes "B" ∷ [])
    ∷ (codes "ab" ∷ codes "a" ∷ codes "B" ∷ codes "d" ∷ [])
    ∷ (codes "ab" ∷ codes "a" ∷ codes "B" ∷ codes "c" ∷ [])
    ∷ []) ≡ Some (codes "B") ∷ Some (codes "a") ∷ Some (codes "ab") ∷ Some (codes "c") ∷ None ∷ []
unfolding json_of is_utf8 chars lib.Utf8.encode code_unit short_escape content after_number word lex punctuate json.items json.members json.value number_of scan_numeral
unknown_names = refl

known_names : map (is_known (codes "a" ∷ codes "b" ∷ [])) (codes "b" ∷ codes "ab" ∷ []) ≡ true ∷ false ∷ []
known_names = refl
