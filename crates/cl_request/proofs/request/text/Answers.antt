use Rattle.std.proofs.Common.{sym, ap, ◌∙◌, Some}
use Rattle.cl_request.proofs.Parts.{text_found, text_none}
use Rattle.cl_request.proofs.request.text.Goals as goal

pub returns-in_ok-from_str-in-Ok-clause-found : goal.returns-in_ok-from_str-in-Ok-clause-found
returns-in_ok-from_str-in-Ok-clause-found c =
    text_found c.args.piece.now c.in-Ok.ensures.cases.1 ∙ ap Some (sym c.in-Ok.ensures.cases.0 ∙ sym c.in_ok-from_str-in-Ok.ensures.ok)

pub returns-in-Err-clause-broken : goal.returns-in-Err-clause-broken
returns-in-Err-clause-broken c = text_none c.args.piece.now c.in-Err.ensures.cases.0
