-- Words, a command and a source as the definitions speak of them.
use Rattle.std.specs.Prelude.{ℕ, List, Option}
use Rattle.cl_forms.specs.Texts.{Text, text_of}
use Rattle.cl_words.specs.Words.{Command, Call, Run, Check, Value, Wire, Gen, Trace, Audit, Root, Prove, Verify, texts}
use Rattle.cl_words.specs.declared.line.Flag.{Flag}
use Rattle.cl_words.specs.declared.line.Line.{Line}
use Rattle.cl_words.specs.declared.sources.Source.{Source}
use Rattle.cl_words.specs.declared.words.AuditWords.{AuditWords}
use Rattle.cl_words.specs.declared.words.CheckWords.{CheckWords}
use Rattle.cl_words.specs.declared.words.Command.{Command as CommandOfWords}
use Rattle.cl_words.specs.declared.words.Command.TheVariants as word

-- the positional words, and the flag where there is one
abbrev pub line_of : Line → List (List ℕ) × Option Flag
line_of line = (texts line.words.items, line.flag)

-- the words of `check`
abbrev pub check_seen : CheckWords → Command
check_seen words = Check words.costs.now words.address (texts words.paths.now) words.version

-- the words of `audit`
abbrev pub audit_seen : AuditWords → Command
audit_seen words = Audit words.costs.now words.file.now words.trace.now words.report.now

abbrev pub command_seen : CommandOfWords → Command
command_seen (word.Call file function args version) = Call file.now function.now (texts args.now) version
command_seen (word.Run costs file state) = Run costs.now file.now state
command_seen (word.Check words) = check_seen words
command_seen (word.Value text) = Value text.now
command_seen (word.Wire text) = Wire text.now
command_seen (word.Gen seed count) = Gen seed count
command_seen (word.Trace costs file) = Trace costs.now file.now
command_seen (word.Audit words) = audit_seen words
command_seen (word.Root costs file) = Root costs.now file.now
command_seen (word.Prove costs file number) = Prove costs.now file.now number
command_seen (word.Verify root key value sides) = Verify root.now key.now value.now (texts sides.now)

-- the text of a source, in its version
abbrev pub text_in : Source → Text
text_in source = text_of source.text source.version
