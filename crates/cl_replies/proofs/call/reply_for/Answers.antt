use Rattle.std.proofs.Common.{[], ◌∷◌, sym, subst}
use Rattle.cl_file.specs.Entries.{NeverFall}
use Rattle.cl_file.specs.declared.entry.Entry.{Entry}
use Rattle.cl_replies.proofs.call.reply_for.Goals as goal

pub report_of-requires : goal.report_of-requires
report_of-requires c = subst (λ (e : Entry). NeverFall 0 (e ∷ c.args.second.now ∷ [])) (sym c.deployment-first.ensures) c.requires
