use Rattle.std.proofs.Common.{◌≡◌, ℕ, ◌<◌, ◌^◌, List, [], IfOk, subst, sym}
use Rattle.cl_c32.specs.declared.principal.Principal.{Principal}
use Rattle.cl_events.specs.State.{genesis}
use Rattle.cl_file.specs.Files.{total, AreOnce}
use Rattle.cl_audit_results.proofs.results.first_node.Goals as goal

pub genesis-requires-2 : goal.genesis-requires-2
genesis-requires-2 c = record {
  once = subst (AreOnce []) (sym c.in_ok-holders.ensures.value) c.genesis.ensures.once;
  total = subst (λ (holders : List (Principal × ℕ)). total holders < 2 ^ 128) (sym c.in_ok-holders.ensures.value) c.genesis.ensures.total;
}

pub returns : goal.returns
returns c = subst (λ (holders : List (Principal × ℕ)). IfOk c.genesis-2.result (λ n. n ≡ record { state = genesis holders; contracts = []; height = 0 })) c.in_ok-holders.ensures.value c.genesis-2.ensures.first
