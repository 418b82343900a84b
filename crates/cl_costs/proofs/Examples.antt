-- The definitions compute: the faults of cost files in their order, and the function of a name.
use Rattle.std.proofs.Common.{refl}
use Rattle.std.specs.Prelude.{◌≡◌, ℕ, suc, List, [], ◌∷◌, ◌++◌, map, take, drop, replicate, codes, Option, Some, None, option_map, Result, Ok, Err}
use Rattle.std.specs.Str.{is_utf8, chars}
use Rattle.json.specs.Text.{code_unit, short_escape, content}
use Rattle.json.specs.Word.{after_number, word}
use Rattle.json.specs.Lex.{lex, punctuate}
use Rattle.json.specs.Json as json
use Rattle.std.specs.Float.Numeral.{scan_numeral}
use Rattle.serde_json.specs.Read.{number_of}
use Rattle.cl_json.specs.Json.{json_of}
use Rattle.cl_shapes.specs.Names.{cost_name, cost_names}
use Rattle.cl_shapes.specs.declared.name.CostName.TheVariants.{Arith}
use Rattle.cl_shapes.specs.declared.function.Shape.TheVariants.{Constant, Linear, Logn, Nlogn}
use Rattle.cl_shapes.specs.declared.function.CostFn.{CostFn}
use Rattle.cl_costs.specs.declared.refusal.CostRefusal.{CostRefusal}
use Rattle.cl_costs.specs.declared.refusal.CostRefusal.TheVariants.{NotJson, Missing, BadShape, TooBig, Unknown}
use Rattle.cl_costs.specs.CostFile.{all_shapes, function_in, function_at, functions_at, table_in, table_of}

-- no JSON, or no object; with a byte order mark, in UTF-16, no UTF-8, half a character
no_files : map table_of (
    []
    ∷ codes "costs"
    ∷ codes "{\"literal\": {},}"
    ∷ codes "{} {}"
    ∷ (239 ∷ 187 ∷ 191 ∷ 123 ∷ 125 ∷ [])
    ∷ (123 ∷ 0 ∷ 34 ∷ 0 ∷ 97 ∷ 0 ∷ 34 ∷ 0 ∷ 58 ∷ 0 ∷ 49 ∷ 0 ∷ 125 ∷ 0 ∷ [])
    ∷ (123 ∷ 34 ∷ 255 ∷ 34 ∷ 58 ∷ 32 ∷ 49 ∷ 125 ∷ [])
    ∷ codes "{\"\\ud800\": 1}"
    ∷ codes "[]"
    ∷ codes "\"literal\""
    ∷ codes "7"
    ∷ codes "null"
    ∷ []) ≡ replicate 12 (Err NotJson)
unfolding json_of is_utf8 chars lib.Utf8.encode code_unit short_escape content after_number word lex punctuate json.items json.members json.value number_of scan_numeral table_in
no_files = refl

files_without_names : map table_of (
    codes "{}"
    ∷ (32 ∷ 9 ∷ 13 ∷ 10 ∷ codes "{ } ")
    ∷ codes "{\"b\": 1, \"a\": 2, \"literal\": 3}"
    ∷ (codes "{\"" ++ 195 ∷ 169 ∷ codes "\": 1, \"Literal\": 2}")
    ∷ codes "{\"\\u00e9\": 1, \"literal\": 2}"
    ∷ []) ≡
    Err (Missing (codes "literal"))
    ∷ Err (Missing (codes "literal"))
    ∷ Err (Unknown (codes "a"))
    ∷ Err (Unknown (codes "Literal"))
    ∷ Err (Unknown (233 ∷ []))
    ∷ []
unfolding json_of is_utf8 chars lib.Utf8.encode code_unit short_escape content after_number word lex punctuate json.items json.members json.value number_of scan_numeral table_in functions_at function_at function_in all_shapes
files_without_names = refl

-- what a text is as the function of `arith`
abbrev arith : List ℕ → Option (Result CostFn CostRefusal)
arith text = option_map (function_in Arith) (json_of text)

faults_of_a_function : map arith (
    codes "[]"
    ∷ codes "null"
    ∷ codes "7"
    ∷ codes "{\"runtime\": null}"
    ∷ codes "{\"runtime\": \"constant\"}"
    ∷ codes "{\"runtime\": {\"constant\": 1}}"
    ∷ codes "{\"runtime\": []}"
    ∷ codes "{\"runtime\": [\"constant\"]}"
    ∷ codes "{\"runtime\": [\"constant\", 1, 2]}"
    ∷ codes "{\"runtime\": [\"constant\", \"1\"]}"
    ∷ codes "{\"runtime\": [\"constant\", [1]]}"
    ∷ codes "{\"runtime\": [\"Constant\", 1]}"
    ∷ codes "{\"runtime\": [1, \"constant\"]}"
    ∷ codes "{\"runtime\": [\"linear\", 1]}"
    ∷ codes "{\"runtime\": [\"linear\", 1, 2, 3]}"
    ∷ codes "{\"runtime\": [\"logn\", 1, null]}"
    ∷ codes "{\"runtime\": [\"nlogn\", null, 1]}"
    ∷ codes "{\"runtime\": [\"quadratic\", 1, 2]}"
    ∷ codes "{\"write_length\": 1, \"read_count\": 2}"
    ∷ codes "{\"read_length\": 1, \"read_count\": 2}"
    ∷ codes "{\"write_count\": 1, \"read_length\": 2}"
    ∷ codes "{\"write_length\": 1, \"write_count\": 2}"
    ∷ codes "{\"write_length\": 1, \"runtime\": [\"constant\", 0]}"
    ∷ codes "{\"speed\": 1, \"heat\": 2}"
    ∷ codes "{\"a\": 1, \"Z\": 2}"
    ∷ codes "{\"heat\": [\"constant\", 1]}"
    ∷ codes "{\"heat\": 1, \"write_length\": 2}"
    ∷ codes "{\"\\u00e9\": 1}"
    ∷ codes "{\"runtime\": [\"constant\", 4294967296], \"write_length\": 1}"
    ∷ codes "{\"runtime\": [\"constant\", 4294967296], \"heat\": 1}"
    ∷ codes "{\"write_length\": [\"linear\", 0, 4294967296]}"
    ∷ codes "{\"read_count\": [\"logn\", 4294967296, 0]}"
    ∷ codes "{\"write_count\": [\"nlogn\", 4294967296, 4294967296]}"
    ∷ codes "{\"runtime\": [\"linear\", 4294967296, -1]}"
    ∷ codes "{\"runtime\": [\"quadratic\", 4294967296, 1]}"
    ∷ codes "{\"runtime\": [\"linear\", 4294967296]}"
    ∷ codes "{\"runtime\": [\"constant\", 1], \"runtime\": 7}"
    ∷ []) ≡ map (λ (why : CostRefusal). Some (Err why)) (
    BadShape (codes "arith") (codes "runtime")
    ∷ BadShape (codes "arith") (codes "runtime")
    ∷ BadShape (codes "arith") (codes "runtime")
    ∷ BadShape (codes "arith") (codes "runtime")
    ∷ BadShape (codes "arith") (codes "runtime")
    ∷ BadShape (codes "arith") (codes "runtime")
    ∷ BadShape (codes "arith") (codes "runtime")
    ∷ BadShape (codes "arith") (codes "runtime")
    ∷ BadShape (codes "arith") (codes "runtime")
    ∷ BadShape (codes "arith") (codes "runtime")
    ∷ BadShape (codes "arith") (codes "runtime")
    ∷ BadShape (codes "arith") (codes "runtime")
    ∷ BadShape (codes "arith") (codes "runtime")
    ∷ BadShape (codes "arith") (codes "runtime")
    ∷ BadShape (codes "arith") (codes "runtime")
    ∷ BadShape (codes "arith") (codes "runtime")
    ∷ BadShape (codes "arith") (codes "runtime")
    ∷ BadShape (codes "arith") (codes "runtime")
    ∷ BadShape (codes "arith") (codes "read_count")
    ∷ BadShape (codes "arith") (codes "read_count")
    ∷ BadShape (codes "arith") (codes "read_length")
    ∷ BadShape (codes "arith") (codes "write_count")
    ∷ BadShape (codes "arith") (codes "write_length")
    ∷ BadShape (codes "arith") (codes "heat")
    ∷ BadShape (codes "arith") (codes "Z")
    ∷ BadShape (codes "arith") (codes "heat")
    ∷ BadShape (codes "arith") (codes "write_length")
    ∷ BadShape (codes "arith") (233 ∷ [])
    ∷ BadShape (codes "arith") (codes "write_length")
    ∷ BadShape (codes "arith") (codes "heat")
    ∷ TooBig (codes "arith")
    ∷ TooBig (codes "arith")
    ∷ TooBig (codes "arith")
    ∷ BadShape (codes "arith") (codes "runtime")
    ∷ BadShape (codes "arith") (codes "runtime")
    ∷ BadShape (codes "arith") (codes "runtime")
    ∷ BadShape (codes "arith") (codes "runtime")
    ∷ [])
unfolding json_of is_utf8 chars lib.Utf8.encode code_unit short_escape content after_number word lex punctuate json.items json.members json.value number_of scan_numeral function_in all_shapes
faults_of_a_function = refl

-- the function with these shapes alone
abbrev constant_runtime : ℕ → CostFn
constant_runtime n = record { runtime = Constant n; read_count = Constant 0; read_length = Constant 0; write_count = Constant 0; write_length = Constant 0 }

-- of shapes that stand twice the last counts
functions : map arith (codes "{}" ∷ codes "{\"runtime\": 7, \"runtime\": [\"constant\", 1]}" ∷ codes "{\"write_length\": [\"linear\", 5, 6], \"write_count\": [\"nlogn\", 1, 2], \"read_length\": [\"logn\", 3, 4294967295], \"read_count\": [\"linear\", 4294967295, 0], \"runtime\": [\"constant\", 7]}" ∷ []) ≡ Some (Ok (constant_runtime 0)) ∷ Some (Ok (constant_runtime 1)) ∷ Some (Ok (record { runtime = Constant 7; read_count = Linear 4294967295 0; read_length = Logn 3 4294967295; write_count = Nlogn 1 2; write_length = Linear 5 6 })) ∷ []
unfolding json_of is_utf8 chars lib.Utf8.encode code_unit short_escape content after_number word lex punctuate json.items json.members json.value number_of scan_numeral function_in all_shapes
functions = refl

-- a number as the coefficient of a constant, and as the first or the last of a function of its length
abbrev with_number : List ℕ → List (List ℕ)
with_number n =
    (codes "{\"runtime\": [\"constant\", " ++ n ++ codes "]}")
    ∷ (codes "{\"runtime\": [\"linear\", " ++ n ++ codes ", 0]}")
    ∷ (codes "{\"runtime\": [\"nlogn\", 0, " ++ n ++ codes "]}")
    ∷ []

numbers : map (λ n. map arith (with_number n)) (codes "0" ∷ codes "1" ∷ codes "4294967295" ∷ []) ≡
    map (λ (n : ℕ). map (λ shape. Some (Ok (record { runtime = shape; read_count = Constant 0; read_length = Constant 0; write_count = Constant 0; write_length = Constant 0 }))) (Constant n ∷ Linear n 0 ∷ Nlogn 0 n ∷ [])) (0 ∷ 1 ∷ 4294967295 ∷ [])
unfolding json_of is_utf8 chars lib.Utf8.encode code_unit short_escape content after_number word lex punctuate json.items json.members json.value number_of scan_numeral function_in all_shapes
numbers = refl

numbers_too_big : map (λ n. map arith (with_number n)) (codes "4294967296" ∷ codes "9007199254740993" ∷ codes "18446744073709551615" ∷ []) ≡ replicate 3 (replicate 3 (Some (Err (TooBig (codes "arith")))))
unfolding json_of is_utf8 chars lib.Utf8.encode code_unit short_escape content after_number word lex punctuate json.items json.members json.value number_of scan_numeral function_in all_shapes
numbers_too_big = refl

a_negative_number : map arith (with_number (codes "-1")) ≡ replicate 3 (Some (Err (BadShape (codes "arith") (codes "runtime"))))
unfolding json_of is_utf8 chars lib.Utf8.encode code_unit short_escape content after_number word lex punctuate json.items json.members json.value number_of scan_numeral function_in all_shapes
a_negative_number = refl

numbers_that_are_none : map (λ n. map arith (with_number n)) (codes "01" ∷ codes "+1" ∷ codes ".5" ∷ codes "1." ∷ codes "0x1" ∷ codes "NaN" ∷ []) ≡ replicate 6 (replicate 3 None)
unfolding json_of is_utf8 chars lib.Utf8.encode code_unit short_escape content after_number word lex punctuate json.items json.members json.value number_of scan_numeral function_in all_shapes
numbers_that_are_none = refl

-- members with a comma between
abbrev joined : List (List ℕ) → List ℕ
joined [] = []
joined (m ∷ []) = m
joined (m ∷ n ∷ ms) = m ++ codes ", " ++ joined (n ∷ ms)

-- a file in which each name's value is an object without members, but for what stands in place of one name
abbrev file : ℕ → List ℕ → List ℕ
file place text =
    let members : List (List ℕ) = map (λ name. codes "\"" ++ cost_name name ++ codes "\": {}") cost_names in
    codes "{" ++ joined (take place members ++ text ∷ drop (suc place) members) ++ codes "}"

faults_in_order : map table_of (
    file 3 (codes "\"literal\": {}")
    ∷ file 23 (codes "\"literal\": {}")
    ∷ file 0 (codes "\"define\": {\"runtime\": 1}")
    ∷ file 5 (codes "\"literal\": {\"runtime\": 1}")
    ∷ file 9 (codes "\"literal\": {\"read_length\": [\"nlogn\", 0, 4294967296]}")
    ∷ file 2 (codes "\"literal\": {\"heat\": 1}, \"lookup\": {\"runtime\": [\"constant\", 4294967296]}")
    ∷ file 2 (codes "\"lookup\": {\"runtime\": [\"constant\", 4294967296]}, \"call\": 7")
    ∷ file 4 (codes "\"literal\": 7, \"zz\": 1")
    ∷ file 4 (codes "\"zz\": 1, \"ZZ\": 1")
    ∷ []) ≡
    Err (Missing (codes "control"))
    ∷ Err (Missing (codes "define"))
    ∷ Err (Missing (codes "literal"))
    ∷ Err (BadShape (codes "literal") (codes "runtime"))
    ∷ Err (TooBig (codes "literal"))
    ∷ Err (BadShape (codes "literal") (codes "heat"))
    ∷ Err (TooBig (codes "lookup"))
    ∷ Err (Unknown (codes "zz"))
    ∷ Err (Unknown (codes "ZZ"))
    ∷ []
unfolding json_of is_utf8 chars lib.Utf8.encode code_unit short_escape content after_number word lex punctuate json.items json.members json.value number_of scan_numeral table_in functions_at function_at function_in all_shapes
faults_in_order = refl

-- a name and a dimension with letters by their numbers
escapes_in_names : table_of (file 13 (codes "\"iter\\u0061te\": {\"runt\\u0069me\": [\"linear\", 1, 2]}")) ≡ Ok (replicate 13 (constant_runtime 0) ++ record { runtime = Linear 1 2; read_count = Constant 0; read_length = Constant 0; write_count = Constant 0; write_length = Constant 0 } ∷ replicate 10 (constant_runtime 0))
unfolding json_of is_utf8 chars lib.Utf8.encode code_unit short_escape content after_number word lex punctuate json.items json.members json.value number_of scan_numeral table_in functions_at function_at function_in all_shapes
escapes_in_names = refl

-- arrays in arrays, 127 deep with the object and no more
abbrev nested : ℕ → List ℕ
nested n = codes "{\"zz\": " ++ replicate n 91 ++ replicate n 93 ++ codes "}"

depths : map table_of (nested 126 ∷ nested 127 ∷ []) ≡ Err (Unknown (codes "zz")) ∷ Err NotJson ∷ []
unfolding json_of is_utf8 chars lib.Utf8.encode code_unit short_escape content after_number word lex punctuate json.items json.members json.value number_of scan_numeral table_in
depths = refl
