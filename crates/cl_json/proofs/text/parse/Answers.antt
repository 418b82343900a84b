use Rattle.std.proofs.Common.{◌≡◌, true, true≢false, sym, ◌∙◌}
use Rattle.cl_json.proofs.Texts.{json_found, json_none}
use Rattle.cl_json.proofs.text.parse.Goals as goal

pub returns-in-Ok-clause-found : goal.returns-in-Ok-clause-found
returns-in-Ok-clause-found c = json_found _ _ c.in-Ok.ensures.ok.0 c.in-Ok.ensures.ok.1

pub returns-else-is_memory-clause-refused : goal.returns-else-is_memory-clause-refused
returns-else-is_memory-clause-refused c =
    json_none _ (c.in-Err.ensures.err (λ m.
    let t : c.is_memory.result ≡ true = c.is_memory.ensures.1 m in true≢false (sym t ∙ c.if-is_memory.false)))
