use Rattle.std.proofs.Common.{◌≡◌, ◌++◌, ◌∷◌, [], List, Ok, Err, drop, ◌+◌, ◌∙◌, sym, ap, subst}
use Rattle.cl_replies.specs.Inputs.{CheckInputs}
use Rattle.cl_replies.specs.Checked.{source_at}
use Rattle.cl_words.specs.declared.sources.Source.{Source}
use Rattle.cl_words.specs.Words.{texts}
use Rattle.cl_words.proofs.Arguments.{no_word_left, word_in_front}
use Rattle.cl_app.specs.Reading.{Gives}
use Rattle.cl_app.proofs.Read.{text_kept}
use Rattle.cl_app.proofs.Sources.{CheckReads, check_asks, check_asks_all, contracts_next, gives_all, gives_fault, names_part, so_far_next}
use Rattle.cl_app.proofs.inputs.read_sources.Goals as goal

pub returns-in_err-text-clause-asked : goal.returns-in_err-text-clause-asked
returns-in_err-text-clause-asked g c =
    let paths = c.args.words.now.paths.now in
    let i = c.loop-path.path-index in
    let name = c.as_str-name.result.now in
    let front = word_in_front paths i c.path-item.result name c.loop-path-test.true c.path-item.is c.as_str-name.ensures.value in
    λ table. check_asks (g.F.Files.held c.args.files.now) c.args.words.now.address c.args.words.now.version (texts c.args.words.now.paths.now) (texts (drop i paths)) (texts (drop (i + 1) paths)) name c.loop-path.sources.items table (g.F.Files.asked c.args.files.now) (g.F.Files.asked c.loop-path.files) (g.F.Files.asked c.read_text.new.files) c.loop-path.invariant.so_far front c.read_text.ensures.part

pub returns-in_err-text-clause-names : goal.returns-in_err-text-clause-names
returns-in_err-text-clause-names g c =
    let paths = c.args.words.now.paths.now in
    let i = c.loop-path.path-index in
    let name = c.as_str-name.result.now in
    let front = word_in_front paths i c.path-item.result name c.loop-path-test.true c.path-item.is c.as_str-name.ensures.value in
    names_part (g.F.Files.held c.args.files.now) c.args.words.now.address c.args.words.now.version (texts c.args.words.now.paths.now) (texts (drop i paths)) (texts (drop (i + 1) paths)) name c.loop-path.sources.items (g.F.Files.asked c.args.files.now) (g.F.Files.asked c.loop-path.files) (g.F.Files.asked c.read_text.new.files) c.loop-path.invariant.so_far front c.read_text.ensures.part

pub returns-in_err-push-in-Ok-clause-asked : goal.returns-in_err-push-in-Ok-clause-asked
returns-in_err-push-in-Ok-clause-asked g c =
    let paths = c.args.words.now.paths.now in
    let i = c.loop-path.path-index in
    let name = c.as_str-name.result.now in
    let front = word_in_front paths i c.path-item.result name c.loop-path-test.true c.path-item.is c.as_str-name.ensures.value in
    λ table. check_asks (g.F.Files.held c.args.files.now) c.args.words.now.address c.args.words.now.version (texts c.args.words.now.paths.now) (texts (drop i paths)) (texts (drop (i + 1) paths)) name c.loop-path.sources.items table (g.F.Files.asked c.args.files.now) (g.F.Files.asked c.loop-path.files) (g.F.Files.asked c.read_text.new.files) c.loop-path.invariant.so_far front c.read_text.ensures.part

pub returns-in_err-push-in-Ok-clause-names : goal.returns-in_err-push-in-Ok-clause-names
returns-in_err-push-in-Ok-clause-names g c =
    let paths = c.args.words.now.paths.now in
    let i = c.loop-path.path-index in
    let name = c.as_str-name.result.now in
    let front = word_in_front paths i c.path-item.result name c.loop-path-test.true c.path-item.is c.as_str-name.ensures.value in
    names_part (g.F.Files.held c.args.files.now) c.args.words.now.address c.args.words.now.version (texts c.args.words.now.paths.now) (texts (drop i paths)) (texts (drop (i + 1) paths)) name c.loop-path.sources.items (g.F.Files.asked c.args.files.now) (g.F.Files.asked c.loop-path.files) (g.F.Files.asked c.read_text.new.files) c.loop-path.invariant.so_far front c.read_text.ensures.part

pub returns-in-Err-clause-asked : goal.returns-in-Err-clause-asked
returns-in-Err-clause-asked g c =
    let paths = c.args.words.now.paths.now in
    let i = c.loop-path.path-index in
    let name = c.as_str-name.result.now in
    let front = word_in_front paths i c.path-item.result name c.loop-path-test.true c.path-item.is c.as_str-name.ensures.value in
    λ table. check_asks (g.F.Files.held c.args.files.now) c.args.words.now.address c.args.words.now.version (texts c.args.words.now.paths.now) (texts (drop i paths)) (texts (drop (i + 1) paths)) name c.loop-path.sources.items table (g.F.Files.asked c.args.files.now) (g.F.Files.asked c.loop-path.files) (g.F.Files.asked c.read_text.new.files) c.loop-path.invariant.so_far front c.read_text.ensures.part

pub returns-in-Err-clause-names : goal.returns-in-Err-clause-names
returns-in-Err-clause-names g c =
    let paths = c.args.words.now.paths.now in
    let i = c.loop-path.path-index in
    let name = c.as_str-name.result.now in
    let front = word_in_front paths i c.path-item.result name c.loop-path-test.true c.path-item.is c.as_str-name.ensures.value in
    names_part (g.F.Files.held c.args.files.now) c.args.words.now.address c.args.words.now.version (texts c.args.words.now.paths.now) (texts (drop i paths)) (texts (drop (i + 1) paths)) name c.loop-path.sources.items (g.F.Files.asked c.args.files.now) (g.F.Files.asked c.loop-path.files) (g.F.Files.asked c.read_text.new.files) c.loop-path.invariant.so_far front c.read_text.ensures.part

pub returns-in-Err-clause-gives : goal.returns-in-Err-clause-gives
returns-in-Err-clause-gives g c =
    let paths = c.args.words.now.paths.now in
    let i = c.loop-path.path-index in
    let name = c.as_str-name.result.now in
    let front = word_in_front paths i c.path-item.result name c.loop-path-test.true c.path-item.is c.as_str-name.ensures.value in
    λ table. gives_fault (g.F.Files.held c.args.files.now) c.args.words.now.address c.args.words.now.version (texts c.args.words.now.paths.now) (texts (drop i paths)) (texts (drop (i + 1) paths)) name c.in-Err.fault c.loop-path.sources.items table (g.F.Files.asked c.args.files.now) (g.F.Files.asked c.loop-path.files) c.loop-path.invariant.so_far front (text_kept (g.F.Files.held c.loop-path.files) (g.F.Files.held c.args.files.now) name (Err c.in-Err.fault) c.loop-path.invariant.kept (rw c.in-Err.is at c.in_ok-text.ensures.text))

pub loop-path-preserved : goal.loop-path-preserved
loop-path-preserved g c =
    let paths = c.args.words.now.paths.now in
    let i = c.loop-path.path-index in
    let name = c.as_str-name.result.now in
    let front = word_in_front paths i c.path-item.result name c.loop-path-test.true c.path-item.is c.as_str-name.ensures.value in
    let source : c.source_at.result ≡ source_at c.args.words.now.address c.args.words.now.version name c.in-Ok.text = c.source_at.ensures in
    record {
      so_far = rw (c.in_ok-push-in-Ok.ensures ∙ ap (λ (s : Source). c.loop-path.sources.items ++ s ∷ []) source)
          (so_far_next (g.F.Files.held c.args.files.now) c.args.words.now.address c.args.words.now.version (texts c.args.words.now.paths.now) (texts (drop i paths)) (texts (drop (i + 1) paths)) name c.in-Ok.text c.loop-path.sources.items (g.F.Files.asked c.args.files.now) (g.F.Files.asked c.loop-path.files) (g.F.Files.asked c.read_text.new.files) c.loop-path.invariant.so_far front
          (text_kept (g.F.Files.held c.loop-path.files) (g.F.Files.held c.args.files.now) name (Ok c.in-Ok.text) c.loop-path.invariant.kept (rw c.in-Ok.is at c.in_ok-text.ensures.text)) c.in_ok-text.ensures.asked);
      contracts = rw (c.in_ok-push-in-Ok.ensures ∙ ap (λ (s : Source). c.loop-path.sources.items ++ s ∷ []) source)
          (contracts_next c.args.words.now.address c.args.words.now.version paths i c.path-item.result c.path-item.result name c.in-Ok.text c.loop-path.sources.items c.loop-path-test.true c.path-item.is c.as_str-name.ensures.value c.loop-path.invariant.contracts);
      kept = c.read_text.ensures.kept ∙ c.loop-path.invariant.kept;
      faults = c.in_ok-text.ensures.cause ∙ c.loop-path.invariant.faults;
    }

pub returns-clause-gives : goal.returns-clause-gives
returns-clause-gives g c =
    let paths = c.args.words.now.paths.now in
    λ table. subst (λ (ss : List Source). Gives (CheckReads table c.args.words.now.address c.args.words.now.version (texts c.args.words.now.paths.now)) (g.F.Files.held c.args.files.now) (CheckInputs table ss)) (sym c.new.ensures)
    (gives_all (g.F.Files.held c.args.files.now) c.args.words.now.address c.args.words.now.version (texts c.args.words.now.paths.now) (texts (drop c.loop-path.path-index paths)) c.loop-path.sources.items table (g.F.Files.asked c.args.files.now) (g.F.Files.asked c.loop-path.files) c.loop-path.invariant.so_far (no_word_left paths c.loop-path.path-index c.loop-path-test.false))

pub returns-clause-asked : goal.returns-clause-asked
returns-clause-asked g c =
    let paths = c.args.words.now.paths.now in
    λ table. check_asks_all (g.F.Files.held c.args.files.now) c.args.words.now.address c.args.words.now.version (texts c.args.words.now.paths.now) (texts (drop c.loop-path.path-index paths)) c.loop-path.sources.items table (g.F.Files.asked c.args.files.now) (g.F.Files.asked c.loop-path.files) c.loop-path.invariant.so_far (no_word_left paths c.loop-path.path-index c.loop-path-test.false)
