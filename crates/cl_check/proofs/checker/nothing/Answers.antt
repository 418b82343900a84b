use Rattle.std.proofs.Common.{map, refl, sym, ap}
use Rattle.cl_judging.specs.Seen.{shown_entry}
use Rattle.cl_check.proofs.CheckedTexts.{nothing_named}
use Rattle.cl_check.proofs.checker.nothing.Goals as goal

pub returns-clause-empty : goal.returns-clause-empty
returns-clause-empty c x =
    nothing_named x c.with_hasher-constants.result.entries c.with_hasher-variables.result.entries c.with_hasher-nonfungibles.result.entries c.with_hasher-maps.result.entries c.with_hasher-fungibles.result.keys c.with_hasher-functions.result.entries
    c.with_hasher-constants.ensures.empty c.with_hasher-variables.ensures.empty c.with_hasher-maps.ensures.empty c.with_hasher-fungibles.ensures.empty c.with_hasher-nonfungibles.ensures.empty c.with_hasher-functions.ensures.empty

pub returns-clause-shown : goal.returns-clause-shown
returns-clause-shown c known size k = record {
  principal = refl;
  version = refl;
  deployed = k;
  constants = sym c.with_hasher-constants.ensures.empty;
  variables = sym c.with_hasher-variables.ensures.empty;
  maps = sym c.with_hasher-maps.ensures.empty;
  fungibles = sym c.with_hasher-fungibles.ensures.empty;
  nonfungibles = sym c.with_hasher-nonfungibles.ensures.empty;
  functions = ap (map shown_entry) (sym c.with_hasher-functions.ensures.empty);
}
