use Rattle.std.proofs.Common.{◌≡◌, drop, map, take}
use Rattle.cl_words.specs.Sources.{contract_at}
use Rattle.cl_words.specs.Words.{texts}
use Rattle.cl_app.proofs.Sources.{SoFar}
use Rattle.cl_app.proofs.inputs.read_sources.Given as goal

abbrev pub invariant-loop-path : goal.invariant-loop-path
invariant-loop-path g l = record {
  so_far : SoFar (g.F.Files.held l.initial.files) l.words.address l.words.version (texts l.words.paths.now) (texts (drop l.path-index l.words.paths.now)) l.sources.items (g.F.Files.asked l.initial.files) (g.F.Files.asked l.files);
  contracts : map (λ source. source.principal) l.sources.items ≡ map (contract_at l.words.address) (texts (take l.path-index l.words.paths.now));
  kept : g.F.Files.held l.files ≡ g.F.Files.held l.initial.files;
  faults : g.F.Files.faults l.files ≡ g.F.Files.faults l.initial.files;
}
