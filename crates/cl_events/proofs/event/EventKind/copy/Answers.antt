use Rattle.std.proofs.Common.{sym, ap, ◌∙◌}
use Rattle.cl_values.specs.Tree.{Tree}
use Rattle.cl_events.specs.declared.event.EventKind.TheVariants.{Print, NftMint, NftTransfer, NftBurn}
use Rattle.cl_events.proofs.event.EventKind.copy.Goals as goal

pub returns-in_ok-copy-in-Print : goal.returns-in_ok-copy-in-Print
returns-in_ok-copy-in-Print c = ap Print c.in_ok-copy-in-Print.ensures ∙ sym c.in-Print.is

pub returns-in_ok-copy-in-NftMint : goal.returns-in_ok-copy-in-NftMint
returns-in_ok-copy-in-NftMint c =
    ap (λ (v : Tree). NftMint c.in-NftMint.token v c.in-NftMint.to) c.in_ok-copy-in-NftMint.ensures ∙ sym c.in-NftMint.is

pub returns-in_ok-copy-in-NftTransfer : goal.returns-in_ok-copy-in-NftTransfer
returns-in_ok-copy-in-NftTransfer c =
    ap (λ (v : Tree). NftTransfer c.in-NftTransfer.token v c.in-NftTransfer.from c.in-NftTransfer.to) c.in_ok-copy-in-NftTransfer.ensures ∙ sym c.in-NftTransfer.is

pub returns-in_ok-copy-in-NftBurn : goal.returns-in_ok-copy-in-NftBurn
returns-in_ok-copy-in-NftBurn c =
    ap (λ (v : Tree). NftBurn c.in-NftBurn.token v c.in-NftBurn.from) c.in_ok-copy-in-NftBurn.ensures ∙ sym c.in-NftBurn.is

pub returns-in-FtMint : goal.returns-in-FtMint
returns-in-FtMint c = sym c.in-FtMint.is

pub returns-in-FtTransfer : goal.returns-in-FtTransfer
returns-in-FtTransfer c = sym c.in-FtTransfer.is

pub returns-in-FtBurn : goal.returns-in-FtBurn
returns-in-FtBurn c = sym c.in-FtBurn.is

pub returns-in-StxTransfer : goal.returns-in-StxTransfer
returns-in-StxTransfer c = sym c.in-StxTransfer.is

pub returns-in-StxBurn : goal.returns-in-StxBurn
returns-in-StxBurn c = sym c.in-StxBurn.is
