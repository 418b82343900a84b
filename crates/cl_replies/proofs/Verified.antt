-- What words of hexadecimal digits spell.
use Rattle.std.proofs.Common.{◌≡◌, ℕ, ◌*◌, ◌<◌, ◌≤◌, ◌^◌, true, List, [], ◌∷◌, length, refl, sym, ap, ◌∙◌, arith, suc}
use Rattle.std.specs.Prelude.{Option, None, Some, Result, Ok, Err, nat_lt, nat_le}
use Rattle.std.specs.Result.{result_ok}
use Rattle.std.proofs.lemmas.Bool.{and_parts}
use Rattle.hex.specs.Hex.{decode_of}
use Rattle.hex.specs.declared.error.FromHexError.{FromHexError}
use Rattle.hex.proofs.HexLemmas.{decode_of-ok}
use Rattle.cl_root.specs.declared.side.Side.{Side}
use Rattle.cl_replies.specs.Spelling.{bytes_in, side_before, sides_of, side_of}
use Rattle.cl_words.specs.Words.{are_short}
use Rattle.cl_replies.specs.Kept.{AddsSides}

-- what is found is what was decoded
pub digest_found : (r : Result (List ℕ) FromHexError) → result_ok r ≡ bytes_in r
digest_found (Ok bytes) = refl
digest_found (Err error) = refl

one_more : (words : List (List ℕ)) (first : Option Side) (rest : Option (List Side)) → ((more : List Side) → rest ≡ Some more → length more ≡ length words)
    → (sides : List Side) → side_before first rest ≡ Some sides → length sides ≡ suc (length words)
one_more words None None same sides is = cc
one_more words None (Some more) same sides is = cc
one_more words (Some side) None same sides is = cc
one_more words (Some side) (Some more) same sides is = cc (same more refl)

-- as many sides as words
as_many : (words : List (List ℕ)) (sides : List Side) → sides_of words ≡ Some sides → length sides ≡ length words
as_many [] sides is = cc
as_many (word ∷ words) sides is = one_more words (side_of word) (sides_of words) (λ more e. as_many words more e) sides is

short_parts : (key : List ℕ) (sides : List (List ℕ)) → are_short key sides ≡ true → (length key < 2 ^ 33) × (length sides ≤ 64)
short_parts key sides are =
    let parts = and_parts (nat_lt (length key) (2 ^ 33)) (nat_le (length sides) 64) are in
    (grind (arith, parts.0), grind (arith, parts.1))

half : (digits bytes : List ℕ) (r : Result (List ℕ) FromHexError) → decode_of digits ≡ r → Some bytes ≡ bytes_in r → length digits ≡ 2 * length bytes
half digits bytes (Ok found) is same = (decode_of-ok digits bytes (is ∙ cc)).2
half digits bytes (Err error) is same = cc

-- four bytes hold the length of the key
pub short_key : (digits bytes : List ℕ) (sides : List (List ℕ)) → are_short digits sides ≡ true → Some bytes ≡ bytes_in (decode_of digits) → length bytes < 2 ^ 32
short_key digits bytes sides are is = omega (arith, (short_parts digits sides are).0, half digits bytes (decode_of digits) refl is)

-- a path that is added to nothing
pub all_sides : (words : List (List ℕ)) (path : List Side) → AddsSides (sides_of words) true [] path → sides_of words ≡ Some path
all_sides words path adds = known (sides_of words) adds
  where
    known : (found : Option (List Side)) → AddsSides found true [] path → found ≡ Some path
    known None adds = cc
    known (Some sides) adds = ap Some (sym adds.1)

pub short_path : (key : List ℕ) (words : List (List ℕ)) (path : List Side) → are_short key words ≡ true → AddsSides (sides_of words) true [] path → length path ≤ 64
short_path key words path are adds = omega (arith, (short_parts key words are).1, as_many words path (all_sides words path adds))
