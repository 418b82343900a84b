use Rattle.std.proofs.Common.{◌∙◌, sym}
use Rattle.std.proofs.lemmas.Bool.{ltb-true}
use Rattle.cl_types.proofs.Faults.{passes}
use Rattle.cl_file.proofs.Chain.{then_ok, then_err}
use Rattle.cl_file.proofs.ReadEquations.{file_is}
use Rattle.cl_file.proofs.Tests.{tested_yes, tested_no}
use Rattle.cl_file.proofs.file.lists_behind.Goals as goal

pub returns-then-not-fits-clause-broken : goal.returns-then-not-fits-clause-broken
returns-then-not-fits-clause-broken c v genesis held = file_is _ _ _ _ ∙ then_ok _ _ _ held ∙ then_err _ _ _ (tested_no _ _ (sym c.fits.ensures ∙ c.if-not-fits.true))

pub returns-in_err-begun-clause-broken : goal.returns-in_err-begun-clause-broken
returns-in_err-begun-clause-broken c v genesis held =
    passes c.from_residual.result _ (λ r h. file_is _ _ _ _ ∙ then_ok _ _ _ held ∙ then_ok _ _ _ (tested_yes _ _ (sym c.fits.ensures ∙ c.if-not-fits.false)) ∙ then_err _ _ _ h) c.from_residual.ensures.1 (c.in_err-begun.ensures.broken v)

pub returns-in_err-read-clause-broken : goal.returns-in_err-read-clause-broken
returns-in_err-read-clause-broken c v genesis held =
    passes c.from_residual-in_err-read.result _
    (λ r h. file_is _ _ _ _ ∙ then_ok _ _ _ held ∙ then_ok _ _ _ (tested_yes _ _ (sym c.fits.ensures ∙ c.if-not-fits.false)) ∙ then_ok _ _ _ (c.in_ok-begun.ensures.found v) ∙ then_err _ _ _ h)
    c.from_residual-in_err-read.ensures.1 (c.in_err-read.ensures.broken v)

pub returns-clause-found : goal.returns-clause-found
returns-clause-found c v genesis held =
    file_is _ _ _ _ ∙ then_ok _ _ _ held ∙ then_ok _ _ _ (tested_yes _ _ (sym c.fits.ensures ∙ c.if-not-fits.false)) ∙ then_ok _ _ _ (c.in_ok-begun.ensures.found v) ∙ then_ok _ _ _ (c.in_ok-read.ensures.found v)

pub returns-clause-fits : goal.returns-clause-fits
returns-clause-fits c = ltb-true _ _ (sym c.fits.ensures ∙ c.if-not-fits.false)

pub returns-clause-epochs : goal.returns-clause-epochs
returns-clause-epochs c = record { few = c.in_ok-begun.ensures.few; rising = c.in_ok-begun.ensures.rising }

pub returns-clause-rising : goal.returns-clause-rising
returns-clause-rising c = c.in_ok-read.ensures.rising
