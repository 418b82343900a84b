use Rattle.std.proofs.Common.{ℕ, List, [], ◌∷◌, ◌++◌, ap, ◌∙◌}
use Rattle.cl_lines.specs.Refusals.{names_text}
use Rattle.cl_lines.proofs.InTurn.{name_written, names_written}
use Rattle.cl_lines.proofs.refusals.write_names.Goals as goal

pub loop-name-preserved : goal.loop-name-preserved
loop-name-preserved c =
    name_written c.args.names.now c.loop-name.out.items _ _ c.loop-name.name-index c.name-item.result c.loop-name-test.true c.name-item.is
    (c.in_ok-write_name.ensures ∙ ap (λ (n : List ℕ). c.loop-name.out.items ++ names_text (n ∷ [])) c.bytes.ensures.value) c.loop-name.invariant

pub returns : goal.returns
returns c = names_written c.args.names.now c.loop-name.out.items _ c.loop-name.name-index c.loop-name-test.false c.loop-name.invariant
