-- A request: words and files, cut from one run of bytes.
use Rattle.std.specs.Prelude.{ℕ, List, [], ◌∷◌, length, take, drop, map, Option, Some, None, option_map, option_and_then, nat_le, if◌then◌else◌, string_bytes}
use Rattle.std.specs.Str.{is_utf8}
use Rattle.cl_ports.specs.Files.{Held}
use Rattle.cl_ports.specs.Memory.{held_of}
use Rattle.cl_request.specs.declared.request.Request.{Request}
use Rattle.cl_request.specs.Pieces.{before, pieces_of}

-- words, and names with contents
pub record Parts : Type 0 where
  pub words : List (List ℕ)
  pub files : Held

-- a piece that is a text
abbrev pub text_of : List ℕ → Option (List ℕ)
text_of piece = if is_utf8 piece then Some piece else None

-- pieces as words
abbrev pub words_of : List (List ℕ) → Option (List (List ℕ))
words_of [] = Some []
words_of (piece ∷ pieces) = before (text_of piece) (words_of pieces)

-- pieces as files: names and contents by turns
abbrev pub files_of : List (List ℕ) → Option Held
files_of [] = Some []
files_of (name ∷ []) = None
files_of (name ∷ content ∷ pieces) = before (option_map (λ text. (text, content)) (text_of name)) (files_of pieces)

-- words and files, where there are both
abbrev pub both : Option (List (List ℕ)) → Option Held → Option Parts
both None files = None
both (Some words) None = None
both (Some words) (Some files) = Some (record { words = words; files = files })

-- so many pieces as words, and the others as files
abbrev pub parts_in : ℕ → List (List ℕ) → Option Parts
parts_in count pieces = if nat_le count (length pieces) then both (words_of (take count pieces)) (files_of (drop count pieces)) else None

-- What these bytes ask for, cut at these ends, so many pieces of which are words; none where they are no request.
abbrev pub request_of : List ℕ → List ℕ → ℕ → Option Parts
request_of bytes ends count = option_and_then (parts_in count) (pieces_of bytes 0 ends)

-- the parts that the code has
abbrev pub parts_of : Request → Parts
parts_of r = record { words = map string_bytes r.words.items; files = held_of r.files.items }
