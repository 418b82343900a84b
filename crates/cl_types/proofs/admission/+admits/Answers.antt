use Rattle.std.proofs.Common.{sym, ◌∙◌, arith}
use Rattle.cl_types.specs.TypeFalls.{field_falls}
use Rattle.cl_types.proofs.LatticeAlong.{rows_differ}
use Rattle.cl_types.proofs.admission.+admits.Goals as goal

pub row_admits-returns-then-not-have_same_count : goal.row_admits-returns-then-not-have_same_count
row_admits-returns-then-not-have_same_count t c = rows_differ c.args.a.now c.args.b.now (sym c.have_same_count.ensures ∙ c.if-not-have_same_count.true)

pub row_admits-field_admits-requires : goal.row_admits-field_admits-requires
row_admits-field_admits-requires t c =
    (omega (arith, field_falls c.args.a.now c.loop-i.i c.index-a-i.result c.loop-i-test.true c.index-a-i.is, c.decreases), tt)
