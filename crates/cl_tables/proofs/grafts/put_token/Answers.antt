use Rattle.std.proofs.Common.{ℕ, List, ◌∙◌, ap, sym, subst}
use Rattle.std.specs.List.{list_any}
use Rattle.cl_maps.specs.Maps.{put}
use Rattle.cl_tables.specs.Variables.{key_of}
use Rattle.cl_tables.specs.Numbered.{by_place, ArePlaced}
use Rattle.cl_tables.specs.Spots.{is_token_at, is_wanted}
use Rattle.cl_tables.proofs.Joined.{wanted_so, chosen}
use Rattle.cl_tables.proofs.Grafted.{inserted_map, inserted_placed}
use Rattle.cl_tables.proofs.grafts.put_token.Goals as goal

pub returns-in_ok-insert-clause-placed : goal.returns-in_ok-insert-clause-placed
returns-in_ok-insert-clause-placed g c =
    subst ArePlaced (sym c.in_ok-insert.ensures.entries) (inserted_placed c.args.at.now c.in_ok-token.token c.args.tokens.now.entries c.is_valid.ensures c.requires)

pub returns-in_ok-insert-clause-put : goal.returns-in_ok-insert-clause-put
returns-in_ok-insert-clause-put g c =
    let key = key_of c.args.at.now in
    let test = is_wanted c.args.wanted (λ (k : List ℕ). list_any (is_token_at k) c.args.spots.now) in
    ap by_place c.in_ok-insert.ensures.entries
    ∙ inserted_map c.args.at.now c.in_ok-token.token c.args.tokens.now.entries c.is_valid.ensures c.requires
    ∙ ap (λ l. put key l (by_place c.args.tokens.now.entries)) c.in_ok-token.ensures
    ∙ chosen (test key) _ (by_place c.args.tokens.now.entries) (wanted_so c.args.wanted c.is_token_in.result (list_any (is_token_at key) c.args.spots.now) c.is_token_in.ensures c.if-is_token_in-wanted.true)
