use Rattle.cl_audit_steps.specs.Seen.{seen}
use Rattle.cl_audit_steps.proofs.DataLaws.{acts_all}
use Rattle.cl_audit_steps.proofs.acting.on_acts.Goals as goal

pub returns-in-WriteEntry : goal.returns-in-WriteEntry
returns-in-WriteEntry c outer = acts_all (seen c.args.scope.now outer) _ _ _ _ _ _ c.in-WriteEntry.is (c.write_entry.ensures outer)

pub returns-in-InsertEntry : goal.returns-in-InsertEntry
returns-in-InsertEntry c outer = acts_all (seen c.args.scope.now outer) _ _ _ _ _ _ c.in-InsertEntry.is (c.insert_entry.ensures outer)

pub returns-in-Token : goal.returns-in-Token
returns-in-Token c outer = acts_all (seen c.args.scope.now outer) _ _ _ _ _ _ c.in-Token.is (c.act_on.ensures outer)

pub returns-in-SendStx : goal.returns-in-SendStx
returns-in-SendStx c outer = acts_all (seen c.args.scope.now outer) _ _ _ _ _ _ c.in-SendStx.is (c.send.ensures outer)

pub returns-in-BurnStx : goal.returns-in-BurnStx
returns-in-BurnStx c outer = acts_all (seen c.args.scope.now outer) _ _ _ _ _ _ c.in-BurnStx.is (c.burn.ensures outer)
