use Rattle.std.proofs.Common.{◌≡◌, ℕ, ap, sym, subst, ◌∙◌}
use Rattle.cl_ports.specs.Memory.{FilesState}
use Rattle.cl_words.specs.Words.{texts}
use Rattle.cl_request.specs.Request.{parts_of}
use Rattle.cl_exports.specs.Answers.{IsAnswer}
use Rattle.cl_exports.proofs.Answering.{answer_of, part_of}
use Rattle.cl_exports.proofs.whole.answer_to.Goals as goal

pub returns-clause-whole : goal.returns-clause-whole
returns-clause-whole c = λ n3 n9.
    let same : c.status_in_memory.result ≡ c.clarity-status.result = c.status_in_memory.ensures.same n9 in
    subst (λ (n : ℕ). IsAnswer (parts_of c.args.request) c.clarity-status.new.out.bytes.items n) (sym same)
    (answer_of (parts_of c.args.request) _ _ _ _ _ _ _ (ap texts c.deref.ensures.value) (ap (λ (s : FilesState). s.files) c.new-files.ensures) c.new-out.ensures
    (c.clarity-status.ensures.done (λ h. n3 (same ∙ h)) (λ h. c.status_in_memory.ensures.kept (same ∙ h)) (λ h. n9 (same ∙ h))))

pub returns-clause-part : goal.returns-clause-part
returns-clause-part c =
    part_of c.each_command_has_a_script.ensures c.scripts_are_done_in_order.ensures.writes (parts_of c.args.request) _ _ _ _ _ _ (ap texts c.deref.ensures.value) (ap (λ (s : FilesState). s.files) c.new-files.ensures) c.new-out.ensures c.clarity-status.ensures.part
