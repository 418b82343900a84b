use Rattle.std.proofs.Common.{sym, subst}
use Rattle.cl_contracts.specs.Contents.{with_constants}
use Rattle.cl_bound.specs.Known.{AreBounds}
use Rattle.cl_nodes.specs.Bounded.{costs_of, entries_of}
use Rattle.cl_nodes.specs.Sound.{Contracts}
use Rattle.cl_nodes.proofs.contracts.Contracts.add.Goals as goal

pub returns-clause-whole : goal.returns-clause-whole
returns-clause-whole c =
    let cs = c.args.self.now in
    record {
      bounds_are = subst (λ (es : Contracts). AreBounds (costs_of cs) es c.add-2.new.self) (sym c.add.ensures)
          (c.add-2.ensures (costs_of cs) (entries_of cs) (with_constants c.args.checked c.args.constants.entries) c.requires.whole.bounds_are c.requires.bounds);
    }
