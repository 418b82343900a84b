-- What the outcome of a read says of the file, and what it leaves in the counts and lists of its files.
use Rattle.std.specs.Prelude.{◌≡◌, ◌+◌, ◌≤◌, ℕ, ⊤, List, [], ◌∷◌, Option, Result, Err}
use Rattle.cl_ports.specs.Growth.{Rose, Grows, GrowsPart}
use Rattle.cl_ports.specs.Files.{Held, IsLongContent}
use Rattle.cl_ports.specs.declared.TheConstants.{MAX_FILE_BYTES}
use Rattle.cl_ports.specs.declared.refusal.ReadRefusal.{ReadRefusal}
use Rattle.cl_ports.specs.declared.refusal.ReadRefusal.TheVariants.{Failed, TooLong, NoMemory}

-- a file is refused as too long only where it is, and after one byte more than a file may have
abbrev pub IsTooLongOnlyIfSo : Option Held → List ℕ → ReadRefusal → Type 0
IsTooLongOnlyIfSo held name (TooLong taken) = (taken ≡ MAX_FILE_BYTES + 1) × IsLongContent held name
IsTooLongOnlyIfSo held name refusal = ⊤

-- the count of faults rose where the read failed, and else it stayed
abbrev pub CountsReadFault : {T : Type 0} → ℕ → ℕ → Result T ReadRefusal → Type 0
CountsReadFault before now (Err Failed) = (before ≤ now) × Rose before now
CountsReadFault before now r = now ≡ before

-- the name was added to those that were asked for; where memory ran out it may be missing
abbrev pub AddsName : {T : Type 0} → Option (List (List ℕ)) → Option (List (List ℕ)) → List ℕ → Result T ReadRefusal → Type 0
AddsName before now name (Err NoMemory) = GrowsPart before now (name ∷ [])
AddsName before now name r = Grows before now (name ∷ [])
