-- The laws of files.
use Rattle.std.specs.Prelude.{◌≡◌, ℕ, List}
use Rattle.cl_file.specs.Paths.{Read}
use Rattle.cl_file.specs.Files.{FileSeen, FileReads}

-- one thing comes of the bytes of a file
abbrev pub OneFile : Type 0
OneFile = (bytes : List ℕ) (a b : Read FileSeen) → FileReads bytes a → FileReads bytes b → a ≡ b

-- and something comes of all bytes
abbrev pub EachFile : Type 0
EachFile = (bytes : List ℕ) → (r : Read FileSeen) × FileReads bytes r
