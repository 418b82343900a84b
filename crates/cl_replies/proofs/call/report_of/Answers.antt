use Rattle.std.proofs.Common.{ℕ, ◌<◌, ◌^◌, List, [], sym, subst, ◌∙◌, arith}
use Rattle.cl_c32.specs.declared.principal.Principal.{Principal}
use Rattle.cl_events.specs.State.{genesis}
use Rattle.cl_file.specs.Files.{total, AreOnce}
use Rattle.cl_replies.proofs.call.report_of.Goals as goal

pub genesis_with_hash_key-requires : goal.genesis_with_hash_key-requires
genesis_with_hash_key-requires c =
    let few : total [] < 2 ^ 128 = omega arith in
    record {
      once = subst (AreOnce []) (sym c.new.ensures.items) tt;
      total = subst (λ (holders : List (Principal × ℕ)). total holders < 2 ^ 128) (sym c.new.ensures.items) few;
    }

pub report_on-reply-requires : goal.report_on-reply-requires
report_on-reply-requires c = record {
  first = c.in_ok-node.ensures.first ∙ (λ i. record { state = genesis (c.new.ensures.items i); contracts = []; height = 0 });
  rising = c.requires;
}
