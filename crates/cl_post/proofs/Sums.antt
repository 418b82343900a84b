-- The sum so far, and all of it.
use Rattle.std.proofs.Common.{◌≡◌, ℕ, ◌+◌, ◌<◌, List, length, take, get_or, ap, ◌∙◌, sym}
use Rattle.std.specs.List.{sum_by}
use Rattle.std.proofs.lemmas.List.Sums.{sum_by_more}
use Rattle.cl_c32.specs.declared.principal.Principal.{Principal}
use Rattle.cl_events.specs.declared.event.Move.{Move}
use Rattle.cl_events.specs.declared.event.Asset.{Asset}
use Rattle.cl_post.specs.Post.{weight, sent}

pub sent_next : (moves : List Move) (p : Principal) (asset : Asset) (i : ℕ) (m : Move) (n : ℕ) → i < length moves → m ≡ get_or moves i m → n ≡ weight p asset m
    → sent (take i moves) p asset + n ≡ sent (take (i + 1) moves) p asset
unfolding sent
sent_next moves p asset i m n below at is = ap (λ k. sum_by (weight p asset) (take i moves) + k) (is ∙ ap (weight p asset) at) ∙ sym (sum_by_more (weight p asset) moves i m below)
