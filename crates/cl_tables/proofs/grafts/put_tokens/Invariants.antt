use Rattle.std.proofs.Common.{◌≡◌, ◌≤◌, length, drop}
use Rattle.std.specs.List.{list_any}
use Rattle.cl_tables.specs.Numbered.{by_place, ArePlaced}
use Rattle.cl_tables.specs.Spots.{is_token_at, is_wanted, with_tokens}
use Rattle.cl_tables.proofs.grafts.put_tokens.Given as goal

abbrev pub invariant-loop-i : goal.invariant-loop-i
invariant-loop-i g l = record {
  within : l.i ≤ length l.source.entries;
  placed : ArePlaced l.tokens.entries;
  put : by_place l.tokens.entries ≡ with_tokens (is_wanted l.wanted (λ key. list_any (is_token_at key) l.spots)) (drop l.i l.source.entries) (by_place l.fn.tokens.entries);
}

abbrev pub decreases-loop-i : goal.decreases-loop-i
decreases-loop-i g l = l.i
