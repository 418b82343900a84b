use Rattle.std.proofs.Common.{◌<◌, sym, subst}
use Rattle.std.specs.List.{All}
use Rattle.std.proofs.lemmas.List.Elements.{All-from_get_or}
use Rattle.cl_c32.proofs.address.Address.new.Goals as goal

pub invariant_of-result : goal.invariant_of-result
invariant_of-result c = record {
  version = c.requires;
  size = c.copy_from_slice.ensures.len;
  bytes =
      subst (All (λ b. b < 256)) (sym c.copy_from_slice.ensures.after)
      (All-from_get_or (λ b. b < 256) c.args.hash.now 0 (λ i h. c.fits-hash i));
}
