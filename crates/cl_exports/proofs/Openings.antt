-- What comes of an opening.
use Rattle.std.proofs.Common.{◌≡◌, ℕ, suc, List, [], ◌∷◌, length, true, false, refl, arith, eqb-true}
use Rattle.std.specs.Prelude.{◌==◌}
use Rattle.cl_shapes.specs.declared.function.CostFn.{CostFn}
use Rattle.cl_costs.specs.Schedules.{always}
use Rattle.cl_file.specs.Files.{FileSeen}
use Rattle.cl_tx.specs.Step.{schedule_of}
use Rattle.cl_replies.specs.declared.inputs.FileFault.{FileFault}
use Rattle.cl_session.specs.declared.session.Session.{Session}
use Rattle.cl_session.specs.Sessions.{IsOpened}
use Rattle.cl_exports.specs.declared.outcome.Outcome.{Outcome}
use Rattle.cl_exports.specs.declared.outcome.Outcome.TheVariants.{BadFile, NoMemory}
use Rattle.cl_exports.specs.Files.{IsCostFault, IsFile, IsFileFault}
use Rattle.cl_exports.specs.Nodes.{HasNoTable, Opens, OpensFile, OpensNoFile, OpensNot}

pub bad_costs : (costs : List ℕ) (fault : FileFault) → IsCostFault costs fault → HasNoTable costs BadFile
bad_costs costs fault is = (fault, is)

pub opens_file : (table : List CostFn) (file : List ℕ) (seen : FileSeen) (s : Session) → IsFile file seen → IsOpened seen.genesis (schedule_of table seen) s → OpensFile table file s
opens_file table file seen s is opened = record { seen = seen; is_file = is; opened = opened }

pub bad_file : (file : List ℕ) (fault : FileFault) → IsFileFault file fault → OpensNoFile file BadFile
bad_file file fault is = (fault, is)

-- ---- by whether there is a file

some_bytes : {X : Type 0} (b : ℕ) (bytes : List ℕ) → (length (b ∷ bytes) == 0) ≡ true → X
some_bytes b bytes none = let no_byte : suc (length bytes) ≡ 0 = eqb-true (suc (length bytes)) 0 none in absurd (omega (arith, no_byte))

pub opens_empty : (table : List CostFn) (file : List ℕ) (s : Session) → (length file == 0) ≡ true → IsOpened [] (always table) s → Opens table file s
opens_empty table [] s none opened = opened
opens_empty table (b ∷ file) s none opened = some_bytes b file none

pub no_room : (file : List ℕ) → (length file == 0) ≡ true → OpensNot file NoMemory
no_room [] none = refl
no_room (b ∷ file) none = some_bytes b file none

pub opens_by_file : (table : List CostFn) (file : List ℕ) (s : Session) → (length file == 0) ≡ false → OpensFile table file s → Opens table file s
opens_by_file table [] s some opens = absurd cc
opens_by_file table (b ∷ file) s some opens = opens

pub opens_not : (file : List ℕ) (outcome : Outcome) → (length file == 0) ≡ false → OpensNoFile file outcome → OpensNot file outcome
opens_not [] outcome some fails = absurd cc
opens_not (b ∷ file) outcome some fails = fails
