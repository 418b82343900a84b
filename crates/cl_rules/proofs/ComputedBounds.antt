-- The examples of types and bounds hold by computing.
use Rattle.std.proofs.Common.{refl}
use Rattle.cl_rules.specs.Samples.{opened}
use Rattle.cl_rules.specs.Examples.{OneLineContracts, Bounds}
use Rattle.cl_rules.specs.TokenExamples.{TokenBounds}
use Rattle.cl_rules.specs.Chains.{BoundsOfChains, HeightsOfChains}

pub one_line_contracts : OneLineContracts
unfolding opened
one_line_contracts = record {
  add1_line = refl;
  add1_deployment = refl;
  if_line = refl;
  undetermined = refl;
  empty_deployment = refl;
  unused = refl;
  too_large = refl;
  fold_line = refl;
}

pub bounds : Bounds
unfolding opened
bounds = record { inc_line = refl; counter_deployment = refl; concat_line = refl }

pub token_bounds : TokenBounds
unfolding opened
token_bounds = record { balance_line = refl; mint_line = refl; transfer_line = refl; token_deployment = refl }

pub bounds_of_chains : BoundsOfChains
unfolding opened
bounds_of_chains = record { eight_within = refl; nine_above = refl }

pub heights_of_chains : HeightsOfChains
unfolding opened
heights_of_chains = record { height_256 = refl; height_258 = refl }
