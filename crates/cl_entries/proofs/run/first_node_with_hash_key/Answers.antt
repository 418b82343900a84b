use Rattle.std.proofs.Common.{ℕ, ◌<◌, ◌^◌, List, [], IfOk, subst, sym}
use Rattle.std.specs.List.{All}
use Rattle.cl_c32.specs.declared.principal.Principal.{Principal}
use Rattle.cl_values.specs.Valid.{IsPrincipal}
use Rattle.cl_file.specs.Files.{total, AreOnce}
use Rattle.cl_entries.specs.Entries.{IsFirst}
use Rattle.cl_entries.proofs.Running.{ok_of_all}
use Rattle.cl_entries.proofs.run.first_node_with_hash_key.Goals as goal

pub genesis_with_hash_key-requires : goal.genesis_with_hash_key-requires
genesis_with_hash_key-requires c = record {
  once = subst (AreOnce []) (sym c.in_ok-holders.ensures.value) c.genesis.ensures.once;
  total = subst (λ (holders : List (Principal × ℕ)). total holders < 2 ^ 128) (sym c.in_ok-holders.ensures.value) c.genesis.ensures.total;
}

pub returns-clause-first : goal.returns-clause-first
returns-clause-first c = subst (λ (holders : List (Principal × ℕ)). IfOk c.genesis_with_hash_key.result (λ n. IsFirst holders n)) c.in_ok-holders.ensures.value c.genesis_with_hash_key.ensures.first

pub returns-clause-holders : goal.returns-clause-holders
returns-clause-holders c =
    ok_of_all c.genesis_with_hash_key.result (All (λ (h : Principal × ℕ). IsPrincipal h.0) c.args.file.now.genesis)
    (subst (λ (holders : List (Principal × ℕ)). All (λ (h : Principal × ℕ). IsPrincipal h.0) holders) c.in_ok-holders.ensures.value c.genesis_with_hash_key.ensures.principals)
