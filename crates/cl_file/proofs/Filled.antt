-- Parts put in their places.
use Rattle.std.proofs.Common.{◌≡◌, ℕ, List, Ok}
use Rattle.cl_c32.specs.declared.principal.Principal.{Principal}
use Rattle.cl_values.specs.Tree.{Tree}
use Rattle.cl_events.specs.declared.event.Asset.{Asset}
use Rattle.cl_post.specs.declared.condition.Test.{Test}
use Rattle.cl_post.specs.declared.condition.Condition.{Condition}
use Rattle.cl_forms.specs.declared.version.Version.{Version}
use Rattle.cl_file.specs.Paths.{Read}
use Rattle.cl_file.specs.declared.entry.Common.{Common}
use Rattle.cl_file.specs.declared.entry.Entry.{Entry}
use Rattle.cl_file.specs.declared.entry.Entry.TheVariants.{Deploy, Call}

pub filled_condition : (t u : Test) (p : Principal) (a : Asset) (r : Read Condition) → t ≡ u → r ≡ Ok (record { principal = p; asset = a; test = u }) → r ≡ Ok (record { principal = p; asset = a; test = t })
filled_condition t u p a r e h = rw e h

pub filled_deploy : (m n : Common) (name source : List ℕ) (v w : Version) (r : Read Entry) → m ≡ n → v ≡ w → r ≡ Ok (Deploy n name source w) → r ≡ Ok (Deploy m name source v)
filled_deploy m n name source v w r e f h = rw (e, f) h

pub filled_call : (m n : Common) (p : Principal) (function : List ℕ) (args : List Tree) (r : Read Entry) → m ≡ n → r ≡ Ok (Call n p function args) → r ≡ Ok (Call m p function args)
filled_call m n p function args r e h = rw e h
