use Rattle.std.proofs.Common.{◌≡◌, []}
use Rattle.cl_forms.specs.Order.{ordered}
use Rattle.cl_order.specs.Search.{IsSearch}
use Rattle.cl_order.proofs.Stepping.{rest_of}
use Rattle.cl_order.proofs.search.in_order.Given as goal

abbrev pub invariant-loop-place : goal.invariant-loop-place
invariant-loop-place l = record { sound : IsSearch l.forms l.search; ended : l.search.path.items ≡ []; same : ordered l.forms ≡ rest_of l.forms l.place l.search.done.items }
