-- The files that a program may read, as names with bytes.
use Rattle.std.specs.Prelude.{◌≡◌, ◌<◌, ℕ, List, [], ◌∷◌, length, Option, Some, None, if◌then◌else◌}
use Rattle.std.specs.Str.{bytes_eq}
use Rattle.cl_ports.specs.declared.TheConstants.{MAX_FILE_BYTES}

-- names with the bytes that are held under them; of two entries with one name the first counts
abbrev pub Held : Type 0
Held = List (List ℕ × List ℕ)

-- the bytes that are held under a name
abbrev pub content_of : Held → List ℕ → Option (List ℕ)
content_of [] name = None
content_of (file ∷ files) name = if bytes_eq file.0 name then Some file.1 else content_of files name

-- where it is told what is held, these are the bytes under that name
pub record IsContent (held : Option Held) (name bytes : List ℕ) : Type 0 where
  pub told : (files : Held) → held ≡ Some files → content_of files name ≡ Some bytes

-- where it is told what is held, there are more bytes under that name than a file may have
pub record IsLongContent (held : Option Held) (name : List ℕ) : Type 0 where
  pub told : (files : Held) → held ≡ Some files → (bytes : List ℕ) × (content_of files name ≡ Some bytes) × (MAX_FILE_BYTES < length bytes)
