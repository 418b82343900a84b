use Rattle.std.proofs.Common.{List, ℕ, Ok, Err, Some, refl, sym, subst}
use Rattle.std.specs.Prelude.{Result}
use Rattle.cl_file.specs.Files.{FileReads}
use Rattle.cl_replies.specs.declared.inputs.FileFault.{FileFault}
use Rattle.cl_replies.specs.declared.inputs.FileFault.TheVariants.{Transactions}
use Rattle.cl_app.specs.Reading.{IsTransactionsOf}
use Rattle.cl_app.proofs.files.transactions_of.Goals as goal

pub returns-in-Ok-read : goal.returns-in-Ok-read
returns-in-Ok-read c =
    subst (λ (t : Result (List ℕ) FileFault). IsTransactionsOf (Some t) (Some (Ok c.in-Ok-read.file))) (sym c.in-Ok.is)
    (Ok c.in-Ok-read.file, subst (λ (bytes : List ℕ). FileReads bytes (Ok c.in-Ok-read.file)) c.as_slice.ensures c.in-Ok-read.ensures.found, refl)

pub returns-in-Err-Refused : goal.returns-in-Err-Refused
returns-in-Err-Refused c =
    subst (λ (t : Result (List ℕ) FileFault). IsTransactionsOf (Some t) (Some (Err (Transactions c.in-Err-Refused.fault)))) (sym c.in-Ok.is)
    (Err c.in-Err-Refused.fault, subst (λ (bytes : List ℕ). FileReads bytes (Err c.in-Err-Refused.fault)) c.as_slice.ensures (rw c.in-Err-Refused.field-0-is at c.in-Err-Refused.ensures.broken), refl)
