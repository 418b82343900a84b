use Rattle.cl_types.proofs.Faults.{refused_so}
use Rattle.cl_text.specs.Parsed.{Parses, outcome_of}
use Rattle.cl_words.specs.Argument.{Spell}
use Rattle.cl_words.specs.Words.{texts}
use Rattle.std.proofs.Common.{drop, Err, ◌+◌}
use Rattle.cl_words.proofs.Arguments.{spell_next, spell_stops, spell_all, word_in_front, no_word_left}
use Rattle.cl_words.proofs.argument.values.Goals as goal

pub returns-in-Err-clause-broken : goal.returns-in-Err-clause-broken
returns-in-Err-clause-broken c =
    let words = c.args.words.now in
    let i = c.loop-word.word-index in
    refused_so c.in-Err.fault (λ r. Parses c.as_bytes.result.now (outcome_of r)) (λ r. Spell (texts words) (Err (outcome_of r)))
    (λ r parses. spell_stops (texts words) (texts (drop i words)) (texts (drop (i + 1) words)) c.as_bytes.result.now c.loop-word.values.items r c.loop-word.invariant
    (word_in_front words i c.word-item.result c.as_bytes.result.now c.loop-word-test.true c.word-item.is c.as_bytes.ensures.value) parses)
    c.in-Err.ensures.broken

pub loop-word-preserved : goal.loop-word-preserved
loop-word-preserved c =
    let words = c.args.words.now in
    let i = c.loop-word.word-index in
    rw c.in_ok-push-in-Ok.ensures.items
    (spell_next (texts words) (texts (drop i words)) (texts (drop (i + 1) words)) c.as_bytes.result.now c.loop-word.values.items c.in-Ok.value c.loop-word.invariant
    (word_in_front words i c.word-item.result c.as_bytes.result.now c.loop-word-test.true c.word-item.is c.as_bytes.ensures.value) c.in-Ok.ensures.found)

pub returns-clause-found : goal.returns-clause-found
returns-clause-found c =
    let words = c.args.words.now in
    spell_all (texts words) (texts (drop c.loop-word.word-index words)) c.loop-word.values.items c.loop-word.invariant (no_word_left words c.loop-word.word-index c.loop-word-test.false)
