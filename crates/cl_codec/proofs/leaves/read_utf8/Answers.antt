use Rattle.std.proofs.Common.{◌≡◌, ℕ, List, ap, ◌∙◌}
use Rattle.std.specs.Str.{chars}
use Rattle.cl_codec.proofs.Texts.{utf8_read}
use Rattle.cl_codec.proofs.leaves.read_utf8.Goals as goal

pub returns-in_ok-characters_of-in-Ok-clause-found :
    goal.returns-in_ok-characters_of-in-Ok-clause-found
returns-in_ok-characters_of-in-Ok-clause-found c =
    let items : List ℕ = c.in_ok-characters_of-in-Ok.field-0.items in
    let all : items ≡ chars c.in_ok-text.text.now = c.in_ok-characters_of-in-Ok.ensures ∙ ap chars c.in-Ok.ensures.cases.0 in
    utf8_read c.args.total c.args.bytes.now c.in_ok-text.text.now c.in_ok-text.rest.now items c.in_ok-text.ensures.found c.in-Ok.ensures.cases.1 all
