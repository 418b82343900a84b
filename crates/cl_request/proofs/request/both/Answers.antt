use Rattle.std.proofs.Common.{map}
use Rattle.cl_types.proofs.Faults.{passes}
use Rattle.cl_request.specs.Request.{files_of, words_of}
use Rattle.cl_request.proofs.Parts.{both_found, no_files, no_words}
use Rattle.cl_request.proofs.request.both.Goals as goal

pub returns-in_err-words-clause-broken : goal.returns-in_err-words-clause-broken
returns-in_err-words-clause-broken c =
    passes c.from_residual.result c.in_err-words.field-0.0 (λ r h. no_words (files_of (map (λ p. p.now) c.args.rest.now)) _ h) c.from_residual.ensures.1 c.in_err-words.ensures.broken

pub returns-in_err-files-clause-broken : goal.returns-in_err-files-clause-broken
returns-in_err-files-clause-broken c =
    passes c.from_residual-in_err-files.result c.in_err-files.field-0.0 (λ r h. no_files (words_of (map (λ p. p.now) c.args.first.now)) _ h) c.from_residual-in_err-files.ensures.1 c.in_err-files.ensures.broken

pub returns-clause-found : goal.returns-clause-found
returns-clause-found c = both_found _ _ _ _ c.in_ok-words.ensures.found c.in_ok-files.ensures.found
