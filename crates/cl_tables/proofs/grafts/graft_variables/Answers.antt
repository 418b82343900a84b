use Rattle.std.proofs.Common.{◌∙◌, List, [], ap, refl, arith}
use Rattle.std.proofs.lemmas.List.{take_all}
use Rattle.cl_values.specs.Tree.{Tree}
use Rattle.cl_tokens.specs.Table.{Shelf}
use Rattle.cl_tables.specs.declared.spot.Spot.{Spot}
use Rattle.cl_tables.specs.Spots.{is_variable_at, names_variable, joined}
use Rattle.cl_tables.proofs.Joined.{joined_nowhere, joined_more}
use Rattle.cl_tables.proofs.grafts.graft_variables.Goals as goal

pub loop-i-init : goal.loop-i-init
loop-i-init c =
    ap (λ (t : Shelf Tree). t.content) c.in_ok-table.ensures
    ∙ joined_nowhere (names_variable []) c.args.from.now.content c.args.old.now.content (λ q. refl)

pub loop-i-preserved : goal.loop-i-preserved
loop-i-preserved c =
    joined_more is_variable_at c.args.spots.now c.loop-i.i c.index-spots-i.result c.args.from.now.content c.args.old.now.content c.loop-i.table.content c.graft_variable.new.table.content
    c.loop-i-test.true c.index-spots-i.is c.loop-i.invariant c.in_ok-graft_variable.ensures

pub returns : goal.returns
returns c =
    c.loop-i.invariant
    ∙ ap (λ (spots : List Spot). joined (names_variable spots) c.args.from.now.content c.args.old.now.content) (take_all c.loop-i.i c.args.spots.now (omega (arith, c.loop-i-test.false)))
