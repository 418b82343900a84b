use Rattle.std.proofs.Common.{◌≤◌, [], ◌∷◌, sym, subst, arith}
use Rattle.cl_file.specs.Entries.{NeverFall}
use Rattle.cl_file.specs.declared.entry.Entry.{Entry}
use Rattle.cl_forms.specs.Texts.{text_of}
use Rattle.cl_replies.specs.Reports.{deployment}
use Rattle.cl_replies.proofs.call.call_reply.Goals as goal

pub reply_for-requires : goal.reply_for-requires
reply_for-requires c =
    let same : 0 ≤ 0 = omega arith in
    subst (λ (e : Entry). NeverFall 0 (deployment (text_of c.args.source c.args.version) ∷ e ∷ [])) (sym c.in_ok-second.ensures) (same, (same, tt))
