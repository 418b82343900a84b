use Rattle.std.proofs.Common.{ap, ◌∙◌, ◌++◌, List, ℕ}
use Rattle.std.specs.List.{flat_map}
use Rattle.cl_traces.specs.Lines.{line_of}
use Rattle.cl_traces.proofs.Written.{lines_told}
use Rattle.cl_traces.proofs.lines.trace_text.Goals as goal

pub returns : goal.returns
returns c =
    c.in_ok-write_claims.ensures
    ∙ ap (λ (l : List ℕ). l ++ flat_map (line_of c.args.number) c.deref.result.now) c.new-text.ensures.items
    ∙ ap (flat_map (line_of c.args.number)) c.deref.ensures.value
    ∙ lines_told c.args.number c.args.trace.now.claims.items
