-- The workload: a deployment of the sample token, and calls of it by drawn numbers.
use Rattle.std.specs.Prelude.{ℕ, zero, suc, ◌+◌, ◌*◌, ◌/◌, ◌%◌, ◌^◌, ◌==◌, List, [], ◌∷◌, ◌++◌, codes, if◌then◌else◌}
use Rattle.cl_c32.specs.declared.principal.Principal.{Principal}
use Rattle.cl_values.specs.Tree.{Tree, UintV, PrincipalV, NoneV}
use Rattle.cl_forms.specs.declared.version.Version.TheVariants.{One}
use Rattle.cl_meaning.specs.Samples.{P0, P1, of_P0}
use Rattle.cl_file.specs.declared.entry.Entry.{Entry}
use Rattle.cl_file.specs.declared.entry.Entry.TheVariants.{Deploy, Call}
use Rattle.cl_file.specs.Files.{FileSeen}
use Rattle.cl_tx.specs.StepRows.{by}
use Rattle.cl_workload.specs.declared.source.TheConstants.{TOKEN}

-- the token is deployed
abbrev pub deployment : Entry
deployment = Deploy (by P0) (codes "token") TOKEN.now One

-- a call of the token
abbrev pub call_of : Principal → List ℕ → List Tree → Entry
call_of sender function args = Call (by sender) (of_P0 (codes "token")) function args

abbrev pub mint : ℕ → Entry
mint amount = call_of P0 (codes "mint") (UintV amount ∷ PrincipalV P1 ∷ [])

abbrev pub transfer : ℕ → Entry
transfer amount = call_of P1 (codes "transfer") (UintV amount ∷ PrincipalV P1 ∷ PrincipalV P0 ∷ NoneV ∷ [])

-- the next number of a linear congruential sequence, and what is drawn by one: its upper 31 bits
abbrev pub next_number : ℕ → ℕ
next_number x = (x * 6364136223846793005 + 1442695040888963407) % 2 ^ 64

abbrev pub drawn : ℕ → ℕ
drawn x = x / 2 ^ 33

-- one of four calls mints
abbrev pub call_for : ℕ → Entry
call_for d = if d % 4 == 0 then mint (d % 1000) else transfer (d % 1000)

-- the number after so many steps
unfoldable pub number_after : ℕ → ℕ → ℕ
number_after seed zero = seed
number_after seed (suc n) = next_number (number_after seed n)

-- so many calls
unfoldable pub calls : ℕ → ℕ → List Entry
calls seed zero = []
calls seed (suc n) = calls seed n ++ call_for (drawn (number_after seed (suc n))) ∷ []

-- The entries of a workload by its seed and its number of calls. Nobody holds anything before.
abbrev pub workload : ℕ → ℕ → FileSeen
workload seed count = record { genesis = []; epochs = []; entries = deployment ∷ calls seed count }
