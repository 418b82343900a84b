use Rattle.std.proofs.Common.{ℕ, List, ◌∙◌, ap}
use Rattle.std.specs.Prelude.{false}
use Rattle.std.specs.List.{list_any}
use Rattle.cl_tables.specs.Numbered.{by_place}
use Rattle.cl_tables.specs.Spots.{is_token_at, is_wanted, with_tokens}
use Rattle.cl_tables.proofs.Numbered.{by_place_none}
use Rattle.cl_tables.proofs.Grafted.{tokens_joined}
use Rattle.cl_tables.proofs.grafts.graft_tokens.Goals as goal

pub returns-clause-joined : goal.returns-clause-joined
returns-clause-joined g c =
    let test = λ (key : List ℕ). list_any (is_token_at key) c.args.spots.now in
    let old = c.args.old.now.entries in
    tokens_joined test c.args.from.now.entries old (by_place c.put_tokens.new.tokens.entries) (by_place c.put_tokens-2.new.tokens.entries)
    (c.in_ok-put_tokens.ensures.put ∙ ap (with_tokens (is_wanted false test) old) (ap by_place c.with_hasher-tokens.ensures.empty ∙ by_place_none)) c.in_ok-put_tokens-2.ensures.put
