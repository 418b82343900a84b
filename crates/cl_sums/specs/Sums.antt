-- What a sum tells of a cost in whole numbers.
use Rattle.std.specs.Prelude.{◌≡◌, ℕ, ◌^◌, nat_lt, if◌then◌else◌, Option, Some, None}
use Rattle.cl_shapes.specs.declared.cost.Cost5.{Cost5}
use Rattle.cl_shapes.specs.Costs.{plus}
use Rattle.cl_sums.specs.declared.sum.Sum.{Sum}

-- the number, where it fits 128 bits
abbrev pub fitting : ℕ → Option ℕ
fitting n = if nat_lt n (2 ^ 128) then Some n else None

-- of a cost each number that fits
abbrev pub told : Cost5 → Sum
told c = record {
  runtime = fitting c.runtime;
  read_count = fitting c.read_count;
  read_length = fitting c.read_length;
  write_count = fitting c.write_count;
  write_length = fitting c.write_length;
}

-- what told of a cost tells of it and of this one
abbrev pub Increases : Sum → Sum → Cost5 → Type 0
Increases old new cost = (a : Cost5) → old ≡ told a → new ≡ told (plus a cost)
