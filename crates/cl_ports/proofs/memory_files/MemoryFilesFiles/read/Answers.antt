use Rattle.std.proofs.Common.{List, [], ◌∷◌, ℕ, Option, Result, Ok, Err, rules}
use Rattle.cl_ports.specs.declared.refusal.ReadRefusal.{ReadRefusal}
use Rattle.cl_ports.specs.declared.refusal.ReadRefusal.TheVariants.{Failed, TooLong, NoMemory}
use Rattle.cl_ports.specs.Growth.{Grows}
use Rattle.cl_ports.specs.Refusal.{AddsName}
use Rattle.cl_ports.proofs.Grown.{part_whole}
use Rattle.cl_ports.proofs.memory_files.MemoryFilesFiles.read.Goals as goal

-- a name that was added was added whatever the read gave
adds_name : {T : Type 0} (before now : Option (List (List ℕ))) (name : List ℕ) (r : Result T ReadRefusal) → Grows before now (name ∷ []) → AddsName before now name r
adds_name before now name (Ok x) added = added
adds_name before now name (Err Failed) added = added
adds_name before now name (Err (TooLong taken)) added = added
adds_name before now name (Err NoMemory) added = part_whole before now (name ∷ []) added

pub returns-in_err-to_vec-clause-asked : goal.returns-in_err-to_vec-clause-asked
returns-in_err-to_vec-clause-asked c = adds_name _ _ _ _ (search rules)
