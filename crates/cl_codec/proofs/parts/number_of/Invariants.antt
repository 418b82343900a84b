use Rattle.std.proofs.Common.{◌≡◌, ◌<◌, ◌^◌, drop}
use Rattle.cl_values.specs.Reading.{number, number_from}
use Rattle.cl_codec.proofs.parts.number_of.Given as goal

abbrev pub invariant-loop-digit : goal.invariant-loop-digit
invariant-loop-digit l = record {
  value : number l.digits ≡ number_from l.number (drop l.digit-index l.digits);
  below : l.number < 256 ^ l.digit-index;
}
