-- Each clause by the cases of how it ends.
use Rattle.std.proofs.Common.{◌≡◌, sym, ◌∙◌}
use Rattle.cl_words.specs.Words.{texts}
use Rattle.cl_app.proofs.Results.{if_own, if_read_failed, if_three, if_write_failed, rose_read, rose_write}
use Rattle.cl_lanes_app.specs.Top.{WritesReply}
use Rattle.cl_lanes_app.specs.Words.{request_of}
use Rattle.cl_lanes_app.proofs.Replied.{own_by, stopped_by, usage_alone, usage_written}
use Rattle.cl_lanes_app.proofs.top.clarity_lanes.Goals as goal

pub returns-clause-usage : goal.returns-clause-usage
returns-clause-usage g c = λ two. usage_alone c.act.result (request_of (texts c.args.words.now)) (g.F.Files.held c.args.files.now) (g.K.Sink.written c.args.out.now) (g.K.Sink.written c.act.new.out) c.act.ensures.done (sym c.end_number.ensures ∙ two)

pub returns-clause-no_usage : goal.returns-clause-no_usage
returns-clause-no_usage g c = stopped_by c.end_number.result c.act.result (request_of (texts c.args.words.now)) (g.F.Files.held c.args.files.now) (g.K.Sink.written c.args.out.now) (g.K.Sink.written c.act.new.out) c.end_number.ensures c.act.ensures.done c.act.ensures.request

pub returns-clause-read : goal.returns-clause-read
returns-clause-read g c = λ three. rose_read c.act.result (g.F.Files.faults c.args.files.now) (g.F.Files.faults c.act.new.files) c.act.ensures.reads (sym c.end_number.ensures ∙ three)

pub returns-clause-write : goal.returns-clause-write
returns-clause-write g c = λ four. rose_write c.act.result (g.K.Sink.faults c.args.out.now) (g.K.Sink.faults c.act.new.out) c.act.ensures.writes (sym c.end_number.ensures ∙ four)

pub returns-clause-own_status : goal.returns-clause-own_status
returns-clause-own_status g c = own_by c.end_number.result c.act.result (request_of (texts c.args.words.now)) (g.F.Files.held c.args.files.now) (g.K.Sink.written c.args.out.now) (g.K.Sink.written c.act.new.out) c.end_number.ensures c.act.ensures.done

pub returns-clause-usage_line : goal.returns-clause-usage_line
returns-clause-usage_line g c = λ two. usage_written c.act.result (request_of (texts c.args.words.now)) (g.F.Files.held c.args.files.now) (g.K.Sink.written c.args.out.now) (g.K.Sink.written c.act.new.out) c.act.ensures.done (sym c.end_number.ensures ∙ two)

pub returns-clause-unwritten : goal.returns-clause-unwritten
returns-clause-unwritten g c = λ three. if_three c.act.result (g.K.Sink.written c.act.new.out ≡ g.K.Sink.written c.args.out.now) c.act.ensures.unwritten (sym c.end_number.ensures ∙ three)

pub returns-clause-unread : goal.returns-clause-unread
returns-clause-unread g c =
    rw c.end_number.ensures (if_read_failed c.act.result (g.K.Sink.written c.act.new.out ≡ g.K.Sink.written c.args.out.now) (g.F.Files.faults c.args.files.now) (g.F.Files.faults c.act.new.files) c.act.ensures.reads c.act.ensures.unwritten)

pub returns-clause-cut : goal.returns-clause-cut
returns-clause-cut g c = rw c.end_number.ensures (if_write_failed c.act.result (g.K.Sink.faults c.args.out.now) (g.K.Sink.faults c.act.new.out) c.act.ensures.writes)

pub returns-clause-done : goal.returns-clause-done
returns-clause-done g c = rw c.end_number.ensures (if_own c.act.result (WritesReply (request_of (texts c.args.words.now)) (g.F.Files.held c.args.files.now) (g.K.Sink.written c.args.out.now) (g.K.Sink.written c.act.new.out)) c.act.ensures.done)

pub returns-clause-part : goal.returns-clause-part
returns-clause-part g c = c.act.ensures.part

pub returns-clause-names : goal.returns-clause-names
returns-clause-names g c = c.act.ensures.names

pub returns-clause-asked : goal.returns-clause-asked
returns-clause-asked g c = c.act.ensures.asked
