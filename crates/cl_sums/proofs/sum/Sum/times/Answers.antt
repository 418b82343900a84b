use Rattle.std.proofs.Common.{ap}
use Rattle.cl_sums.specs.declared.sum.Sum.{Sum}
use Rattle.cl_sums.proofs.sum.Sum.times.Goals as goal

pub returns : goal.returns
returns c a is = λ i. record {
  runtime = c.times.ensures a.runtime (ap (λ (s : Sum). s.runtime) is) i;
  read_count = c.times-2.ensures a.read_count (ap (λ (s : Sum). s.read_count) is) i;
  read_length = c.times-3.ensures a.read_length (ap (λ (s : Sum). s.read_length) is) i;
  write_count = c.times-4.ensures a.write_count (ap (λ (s : Sum). s.write_count) is) i;
  write_length = c.times-5.ensures a.write_length (ap (λ (s : Sum). s.write_length) is) i;
}
