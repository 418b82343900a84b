-- The files of a node.
use Rattle.std.specs.Prelude.{◌≡◌, ◌<◌, ◌≤◌, ℕ, List, [], ◌∷◌, length, Result, Ok, Err}
use Rattle.cl_shapes.specs.declared.function.CostFn.{CostFn}
use Rattle.cl_costs.specs.CostFile.{table_of}
use Rattle.cl_costs.specs.declared.refusal.CostRefusal.{CostRefusal}
use Rattle.cl_costs.specs.Tables.{unit_table}
use Rattle.cl_ports.specs.declared.TheConstants.{MAX_FILE_BYTES}
use Rattle.cl_file.specs.Files.{FileReads, FileSeen}
use Rattle.cl_replies.specs.declared.inputs.FileFault.{FileFault}
use Rattle.cl_replies.specs.declared.inputs.FileFault.TheVariants.{TooLong, Costs, Transactions, Traces}

-- the table of a cost file, or its first fault; where there are no bytes the unit table
abbrev pub table_in : List ℕ → Result (List CostFn) CostRefusal
table_in [] = Ok unit_table
table_in (b ∷ bytes) = table_of (b ∷ bytes)

-- the bytes give this table
pub record IsTable (bytes : List ℕ) (table : List CostFn) : Type 0 where
  pub short : length bytes ≤ MAX_FILE_BYTES
  pub reads : table_in bytes ≡ Ok table

-- they give none, with this fault
abbrev pub IsCostFault : List ℕ → FileFault → Type 0
IsCostFault bytes TooLong = MAX_FILE_BYTES < length bytes
IsCostFault bytes (Costs fault) = table_in bytes ≡ Err fault
IsCostFault bytes (Transactions fault) = ⊥
IsCostFault bytes (Traces fault) = ⊥

-- the bytes are this transaction file
pub record IsFile (bytes : List ℕ) (file : FileSeen) : Type 0 where
  pub short : length bytes ≤ MAX_FILE_BYTES
  pub reads : FileReads bytes (Ok file)

-- they are none, with this fault
abbrev pub IsFileFault : List ℕ → FileFault → Type 0
IsFileFault bytes TooLong = MAX_FILE_BYTES < length bytes
IsFileFault bytes (Costs fault) = ⊥
IsFileFault bytes (Transactions fault) = FileReads bytes (Err fault)
IsFileFault bytes (Traces fault) = ⊥

-- a file has neither holders nor epochs
pub record OnlyEntries (file : FileSeen) : Type 0 where
  pub holders : file.genesis ≡ []
  pub epochs : file.epochs ≡ []
