use Rattle.std.proofs.Common.{sym, ap, ◌∙◌}
use Rattle.std.specs.Prelude.{option_map}
use Rattle.cl_events.specs.declared.event.EventKind.TheVariants.{NftMint}
use Rattle.cl_operands.proofs.ActLaws
use Rattle.cl_operands.proofs.acts.mint_nft.Goals as goal

pub returns-in-Some : goal.returns-in-Some
returns-in-Some c = sym (ActLaws.mint_nft_by c.args.token.now c.args.values.items ∙ ap (option_map (λ r. NftMint c.args.token.now r.0 r.1)) (sym c.asset_and_one.ensures ∙ c.in-Some.is))

pub returns-in-None : goal.returns-in-None
returns-in-None c = sym (ActLaws.mint_nft_by c.args.token.now c.args.values.items ∙ ap (option_map (λ r. NftMint c.args.token.now r.0 r.1)) (sym c.asset_and_one.ensures ∙ c.in-None.is))
