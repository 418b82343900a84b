use Rattle.std.proofs.Common.{ℕ, List, [], ◌∙◌, ap, refl}
use Rattle.std.specs.Prelude.{false}
use Rattle.std.specs.List.{list_any}
use Rattle.cl_tables.specs.declared.spot.Spot.{Spot}
use Rattle.cl_tables.specs.Numbered.{by_place}
use Rattle.cl_tables.specs.Spots.{is_token_at, is_wanted, with_tokens}
use Rattle.cl_tables.proofs.Numbered.{by_place_none}
use Rattle.cl_tables.proofs.Grafted.{tokens_copied}
use Rattle.cl_tables.proofs.grafts.copy_tokens.Goals as goal

pub returns-clause-same : goal.returns-clause-same
returns-clause-same g c =
    let none : List Spot = [] in
    let test = λ (key : List ℕ). list_any (is_token_at key) none in
    let old = c.args.old.now.entries in
    tokens_copied test old (by_place c.put_tokens.new.tokens.entries) (λ q. refl)
    (c.in_ok-put_tokens.ensures.put ∙ ap (with_tokens (is_wanted false test) old) (ap by_place c.with_hasher-tokens.ensures.empty ∙ by_place_none))
