-- Pieces as words and as files.
use Rattle.std.proofs.Common.{◌≡◌, ◌<◌, ◌≤◌, ℕ, Bool, true, false, cond, List, [], ◌∷◌, length, take, drop, map, refl, sym, ap, ◌∙◌, Option, Some, None, arith}
use Rattle.std.proofs.lemmas.List.{drop-map, take-map, length-map}
use Rattle.std.proofs.lemmas.Bool.{le-leb, lt-leb}
use Rattle.std.proofs.lemmas.Str.{IsUtf8-from_is_utf8, is_utf8-from_IsUtf8}
use Rattle.std.specs.Str.{IsUtf8, is_utf8}
use Rattle.cl_ports.specs.Files.{Held}
use Rattle.cl_request.specs.Request.{both, files_of, parts_in, text_of, words_of}

-- a text is one
pub text_found : (piece : List ℕ) → IsUtf8 piece → text_of piece ≡ Some piece
text_found piece h = ap (λ (b : Bool). cond b (Some piece) None) (is_utf8-from_IsUtf8 piece h)

none_by : (piece : List ℕ) (b : Bool) → (b ≡ true → ⊥) → cond b (Some piece) None ≡ None
none_by piece true isnt = absurd (isnt refl)
none_by piece false isnt = refl

pub text_none : (piece : List ℕ) → ¬ (IsUtf8 piece) → text_of piece ≡ None
text_none piece isnt = none_by piece (is_utf8 piece) (λ is. isnt (IsUtf8-from_is_utf8 piece is))

-- a name without a content
pub files_none : {X : Type 0} (f : X → List ℕ) (pieces : List X) → length pieces < 2 → 1 ≤ length pieces → files_of (map f pieces) ≡ None
files_none f [] few some = absurd (omega (arith, some))
files_none f (name ∷ []) few some = refl
files_none f (name ∷ content ∷ pieces) few some = absurd (omega (arith, few))

-- where there are no words, or no files, there is no request
pub no_words : (files : Option Held) (words : Option (List (List ℕ))) → words ≡ None → both words files ≡ None
no_words files words none = ap (λ (w : Option (List (List ℕ))). both w files) none

none_behind : (words : Option (List (List ℕ))) → both words None ≡ None
none_behind None = refl
none_behind (Some words) = refl

pub no_files : (words : Option (List (List ℕ))) (files : Option Held) → files ≡ None → both words files ≡ None
no_files words files none = ap (both words) none ∙ none_behind words

-- pieces, split behind the words
pub parts_at : {X : Type 0} (f : X → List ℕ) (count : ℕ) (pieces first rest : List X) → count ≤ length pieces → first ≡ take count pieces → rest ≡ drop count pieces
    → parts_in count (map f pieces) ≡ both (words_of (map f first)) (files_of (map f rest))
parts_at f count pieces first rest h front back =
    let within : count ≤ length (map f pieces) = omega (arith, h, length-map pieces f) in
    ap (λ (b : Bool). cond b (both (words_of (take count (map f pieces))) (files_of (drop count (map f pieces)))) None) (le-leb count (length (map f pieces)) within)
    ∙ ap (λ (ps : List (List ℕ)). both (words_of ps) (files_of (drop count (map f pieces)))) (take-map f count pieces ∙ ap (map f) (sym front))
    ∙ ap (λ (ps : List (List ℕ)). both (words_of (map f first)) (files_of ps)) (drop-map f count pieces ∙ ap (map f) (sym back))

pub parts_short : {X : Type 0} (f : X → List ℕ) (count : ℕ) (pieces : List X) → length pieces < count → parts_in count (map f pieces) ≡ None
parts_short f count pieces h =
    let short : length (map f pieces) < count = omega (arith, h, length-map pieces f) in
    ap (λ (b : Bool). cond b (both (words_of (take count (map f pieces))) (files_of (drop count (map f pieces)))) None) (lt-leb count (length (map f pieces)) short)

pub both_found : (words : Option (List (List ℕ))) (files : Option Held) (ws : List (List ℕ)) (fs : Held) → words ≡ Some ws → files ≡ Some fs → both words files ≡ Some (record { words = ws; files = fs })
both_found words files ws fs found held = ap (λ (w : Option (List (List ℕ))). both w files) found ∙ ap (both (Some ws)) held
