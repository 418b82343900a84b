use Rattle.cl_tokens.proofs.AssetBacks.{minted_back, sent_back, burnt_back}
use Rattle.cl_tokens.proofs.non_fungible.NonFungible.perform.Goals as goal

pub returns-in-Ok-clause-back : goal.returns-in-Ok-clause-back
returns-in-Ok-clause-back c = minted_back c.args.asset.now c.in-Mint.to c.args.self.now.owners c.mint.new.self.owners c.in-Ok.ensures.done

pub returns-in-Ok-transfer-clause-back : goal.returns-in-Ok-transfer-clause-back
returns-in-Ok-transfer-clause-back c = sent_back c.args.asset.now c.in-Transfer.from c.in-Transfer.to c.args.self.now.owners c.transfer.new.self.owners c.in-Ok-transfer.ensures.done

pub returns-in-Ok-burn-clause-back : goal.returns-in-Ok-burn-clause-back
returns-in-Ok-burn-clause-back c = burnt_back c.args.asset.now c.in-Burn.from c.args.self.now.owners c.burn.new.self.owners c.in-Ok-burn.ensures.done
