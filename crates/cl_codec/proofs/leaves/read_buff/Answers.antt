use Rattle.std.proofs.Common.{ℕ, List, ap, sym, ◌∙◌}
use Rattle.std.specs.Prelude.{Ok}
use Rattle.cl_values.specs.Tree.{BuffV}
use Rattle.cl_values.specs.Reading.{Read, and_then}
use Rattle.cl_codec.proofs.leaves.read_buff.Goals as goal

pub returns-clause-found : goal.returns-clause-found
returns-clause-found c =
    ap (λ (r : Read (List ℕ)). and_then r (λ content rest. Ok (BuffV content, rest))) c.in_ok-content.ensures.found
    ∙ ap (λ (bytes : List ℕ). Ok (BuffV bytes, c.in_ok-content.rest.now)) (sym (c.in_ok-to_vec.ensures.items_if_clones_equal (λ x y same. same)))
