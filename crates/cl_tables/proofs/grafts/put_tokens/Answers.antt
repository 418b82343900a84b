use Rattle.std.proofs.Common.{◌-◌, ◌∙◌, ap, drop, arith}
use Rattle.std.specs.List.{list_any}
use Rattle.cl_tables.specs.Numbered.{by_place}
use Rattle.cl_tables.specs.Spots.{is_token_at, is_wanted, with_tokens}
use Rattle.cl_tables.proofs.PlacedRows.{entry_at, entry_low}
use Rattle.cl_tables.proofs.Grafted.{token_put}
use Rattle.cl_tables.proofs.grafts.put_tokens.Goals as goal

pub loop-i-preserved : goal.loop-i-preserved
loop-i-preserved g c =
    let es = c.args.source.now.entries in
    let i = c.loop-i.i - 1 in
    let test = is_wanted c.args.wanted (λ key. list_any (is_token_at key) c.args.spots.now) in
    let m = by_place c.args.tokens.now.entries in
    record {
      within = omega (arith, c.loop-i.invariant.within);
      placed = c.in_ok-put_token.ensures.placed;
      put = token_put test es i (c.in-Some.at.now, c.in-Some.token.now) m (by_place c.loop-i.tokens.entries) (by_place c.put_token.new.tokens.entries) (entry_low es i (c.in-Some.at.now, c.in-Some.token.now) c.in-Some.ensures.entry) (entry_at es i (c.in-Some.at.now, c.in-Some.token.now) c.in-Some.ensures.entry)
          (c.loop-i.invariant.put ∙ ap (λ n. with_tokens test (drop n es) m) (omega (arith, c.loop-i-test.true))) c.in_ok-put_token.ensures.put;
    }
