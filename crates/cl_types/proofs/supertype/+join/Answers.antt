use Rattle.std.proofs.Common.{◌≡◌, ℕ, ◌+◌, List, [], ◌∷◌, ◌++◌, sym, subst, ◌∙◌, arith, true, length, ◌==◌}
use Rattle.cl_types.specs.Types.{PlainType}
use Rattle.cl_types.specs.TypeFalls.{field_falls}
use Rattle.cl_types.proofs.LatticeAlong.{Reaches, rows_apart, stops, goes_on, ends}
use Rattle.cl_types.proofs.supertype.+join.Goals as goal

pub join_rows-returns-then-not-have_same_count : goal.join_rows-returns-then-not-have_same_count
join_rows-returns-then-not-have_same_count t c = rows_apart c.args.a.now c.args.b.now (sym c.have_same_count.ensures ∙ c.if-not-have_same_count.true)

pub join_rows-join_field-requires : goal.join_rows-join_field-requires
join_rows-join_field-requires t c =
    (omega (arith, field_falls c.args.a.now c.loop-i.i c.index-a-i.result c.loop-i-test.true c.index-a-i.is, c.decreases), tt)

pub join_rows-returns-in_default : goal.join_rows-returns-in_default
join_rows-returns-in_default t c =
    let same : (length c.args.a.now == length c.args.b.now) ≡ true = sym c.have_same_count.ensures ∙ c.if-not-have_same_count.false in
    stops c.args.a.now c.args.b.now c.loop-i.row.items c.loop-i.i c.index-a-i.result c.index-b-i.result c.in_ok-field.field-0 c.loop-i-test.true same c.index-a-i.is c.index-b-i.is c.in_ok-field.ensures (sym c.in_default.is) c.loop-i.invariant

pub join_rows-loop-i-preserved : goal.join_rows-loop-i-preserved
join_rows-loop-i-preserved t c =
    let same : (length c.args.a.now == length c.args.b.now) ≡ true = sym c.have_same_count.ensures ∙ c.if-not-have_same_count.false in
    let more : Reaches c.args.a.now c.args.b.now (c.loop-i.i + 1) (c.loop-i.row.items ++ c.in-Some.field ∷ []) = goes_on c.args.a.now c.args.b.now c.loop-i.row.items c.loop-i.i c.index-a-i.result c.index-b-i.result c.in-Some.field c.in_ok-field.field-0 c.loop-i-test.true same c.index-a-i.is c.index-b-i.is c.in_ok-field.ensures (sym c.in-Some.is) c.loop-i.invariant in
    subst (λ (x : List (List ℕ × PlainType)). Reaches c.args.a.now c.args.b.now (c.loop-i.i + 1) x) (sym c.in_ok-push.ensures.items) more

pub join_rows-returns : goal.join_rows-returns
join_rows-returns t c =
    let same : (length c.args.a.now == length c.args.b.now) ≡ true = sym c.have_same_count.ensures ∙ c.if-not-have_same_count.false in
    ends c.args.a.now c.args.b.now c.loop-i.row.items c.loop-i.i c.loop-i-test.false same c.loop-i.invariant
