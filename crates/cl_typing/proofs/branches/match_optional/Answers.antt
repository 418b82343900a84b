use Rattle.std.proofs.Common.{map, sym, ◌∙◌}
use Rattle.std.specs.Borrow.{Bor}
use Rattle.std.proofs.lemmas.List.{length-map}
use Rattle.cl_types.specs.declared.sized.SizedTy.{SizedTy}
use Rattle.cl_typing.proofs.BranchRows.{three_read, optional_at, optional_else}
use Rattle.cl_typing.proofs.branches.match_optional.Goals as goal

pub returns-then-types-eq3 : goal.returns-then-types-eq3
returns-then-types-eq3 c =
    optional_at (map (λ (t : Bor SizedTy). t.now) c.args.types.now) c.index-types-0.result.now c.index-types-1.result.now c.index-types-2.result.now c.optional_branches.result
    (three_read (λ (t : Bor SizedTy). t.now) c.args.types.now c.index-types-0.result c.index-types-1.result c.index-types-2.result c.if-types-eq3.true c.index-types-0.is c.index-types-1.is c.index-types-2.is)
    c.optional_branches.ensures

pub returns : goal.returns
returns c = optional_else (map (λ (t : Bor SizedTy). t.now) c.args.types.now) (λ e. c.if-types-eq3.false (sym (length-map c.args.types.now (λ (t : Bor SizedTy). t.now)) ∙ e))
