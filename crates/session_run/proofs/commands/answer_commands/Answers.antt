use Rattle.std.proofs.Common.{rules, ◌+◌, ◌<◌, ◌∙◌, ◌||◌, Bool, ℕ, ap, refl, subst, Option, IfSome}
use Rattle.std.proofs.lemmas.Result.{err_from_is_err_and}
use Rattle.session_script.specs.Reading.{waiting_in, left_to, turns_of, work_of, IsNextCommand}
use Rattle.session_script.specs.declared.command.Command.{Command}
use Rattle.bench_texts.specs.Held.{texts_of}
use Rattle.session_run.proofs.Sessions.{begins, ended, read_fails, reply_fails, goes_on, read_refused, starts_called, starts_paid, paid_on}
use Rattle.session_script.proofs.Calls.{called_on}
use Rattle.session_run.proofs.commands.answer_commands.Goals as goal

pub commands-init : goal.commands-init
commands-init g c = record {
  under_way =
      begins (g.S.ByteSource.remaining c.args.source.now) (g.K.ByteSink.contents c.args.sink.now)
      (waiting_in c.new-script.result) (texts_of c.args.session.texts) c.new-script.ensures.waiting
      c.requires.texts;
  called =
      starts_called (turns_of c.new-script.result) (g.S.ByteSource.calls c.args.source.now)
      c.new-script.ensures.turns;
  paid =
      starts_paid (turns_of c.new-script.result) (g.S.ByteSource.remaining c.args.source.now)
      c.new-script.ensures.turns;
  ready = c.requires.ready;
  reads = refl;
  writes = refl;
}

pub read_command-requires : goal.read_command-requires
read_command-requires g c = search rules

pub returns-in_err-read-clause-written : goal.returns-in_err-read-clause-written
returns-in_err-read-clause-written g c =
    let p = err_from_is_err_and c.from_residual.result c.from_residual.ensures.1 in
    rw (p.1, p.2)
    (read_fails (g.S.ByteSource.remaining c.args.source.now)
    (left_to c.commands.script (g.S.ByteSource.remaining c.commands.source))
    (g.K.ByteSink.contents c.args.sink.now) (g.K.ByteSink.contents c.commands.sink)
    (texts_of c.commands.session.texts) c.commands.is_refused c.in_err-read.field-0.0
    (λ e. c.in_err-read.ensures.fault (cc)) (λ e. c.in_err-read.ensures.unshared (cc))
    c.commands.invariant.under_way)

pub returns-in_err-read-clause-reads : goal.returns-in_err-read-clause-reads
returns-in_err-read-clause-reads g c = (
  λ e.
      let p = err_from_is_err_and c.from_residual.result c.from_residual.ensures.1 in
      read_refused (turns_of c.commands.script) _ _ _ _ _ _
      (g.S.ByteSource.remaining c.args.source.now)
      (g.S.ByteSource.remaining c.commands.source) c.commands.invariant.paid
      c.commands.invariant.called c.commands.invariant.reads (c.in_err-read.ensures.read (cc (p.1, p.2))),
  λ ne.
      let p = err_from_is_err_and c.from_residual.result c.from_residual.ensures.1 in
      c.in_err-read.ensures.same (λ e. ne (cc (p.1, p.2))) ∙ c.commands.invariant.reads,
)

pub returns-in_err-read-clause-writes : goal.returns-in_err-read-clause-writes
returns-in_err-read-clause-writes g c = (
  λ e.
      let p = err_from_is_err_and c.from_residual.result c.from_residual.ensures.1 in
      absurd (c.in_err-read.ensures.fault (cc (p.1, p.2))),
  λ ne. c.commands.invariant.writes,
)

pub returns-in-None-clause-written : goal.returns-in-None-clause-written
returns-in-None-clause-written g c =
    let now = left_to c.commands.script (g.S.ByteSource.remaining c.commands.source) in
    let next = left_to c.read_command.new.script (g.S.ByteSource.remaining c.read_command.new.source) in
    ended (g.S.ByteSource.remaining c.args.source.now) now next
    (g.K.ByteSink.contents c.args.sink.now) (g.K.ByteSink.contents c.commands.sink)
    (texts_of c.commands.session.texts) c.commands.is_refused c.commands.invariant.under_way
    (subst (λ (o : Option Command). IsNextCommand now next o) c.in-None.is c.in_ok-read.ensures.next)

pub returns-in-None-clause-reads : goal.returns-in-None-clause-reads
returns-in-None-clause-reads g c = (
  λ e. let z : ⊥ = cc in absurd z,
  λ ne. c.in_ok-read.ensures.same (λ e. cc) ∙ c.commands.invariant.reads,
)

pub returns-in-None-clause-writes : goal.returns-in-None-clause-writes
returns-in-None-clause-writes g c = (
  λ e. let z : ⊥ = cc in absurd z,
  λ ne. c.commands.invariant.writes,
)

pub write_reply-requires : goal.write_reply-requires
write_reply-requires g c = search rules

pub returns-in_err-answer-in-Some-clause-written : goal.returns-in_err-answer-in-Some-clause-written
returns-in_err-answer-in-Some-clause-written g c =
    let p = err_from_is_err_and c.from_residual-in_err-answer-in-Some.result c.from_residual-in_err-answer-in-Some.ensures.1 in
    let now = left_to c.commands.script (g.S.ByteSource.remaining c.commands.source) in
    let next = left_to c.read_command.new.script (g.S.ByteSource.remaining c.read_command.new.source) in
    rw (p.1, p.2)
    (reply_fails (g.S.ByteSource.remaining c.args.source.now) now next
    (g.K.ByteSink.contents c.args.sink.now) (g.K.ByteSink.contents c.commands.sink)
    (g.K.ByteSink.contents c.write_reply.new.sink) (texts_of c.commands.session.texts)
    c.commands.is_refused c.in-Some.command c.in_err-answer-in-Some.field-0.0
    c.commands.invariant.under_way
    (subst (λ (o : Option Command). IsNextCommand now next o) c.in-Some.is c.in_ok-read.ensures.next)
    c.in_err-answer-in-Some.ensures.stopped)

pub returns-in_err-answer-in-Some-clause-reads : goal.returns-in_err-answer-in-Some-clause-reads
returns-in_err-answer-in-Some-clause-reads g c = (
  λ e.
      let p = err_from_is_err_and c.from_residual-in_err-answer-in-Some.result c.from_residual-in_err-answer-in-Some.ensures.1 in
      absurd (c.in_err-answer-in-Some.ensures.fault (cc (p.1, p.2))),
  λ ne. c.in_ok-read.ensures.same (λ e. cc) ∙ c.commands.invariant.reads,
)

pub returns-in_err-answer-in-Some-clause-writes : goal.returns-in_err-answer-in-Some-clause-writes
returns-in_err-answer-in-Some-clause-writes g c = (
  λ e.
      let p = err_from_is_err_and c.from_residual-in_err-answer-in-Some.result c.from_residual-in_err-answer-in-Some.ensures.1 in
      c.in_err-answer-in-Some.ensures.calls.0 (cc (p.1, p.2))
      ∙ ap (λ (n : ℕ). n + 1) c.commands.invariant.writes,
  λ ne.
      let p = err_from_is_err_and c.from_residual-in_err-answer-in-Some.result c.from_residual-in_err-answer-in-Some.ensures.1 in
      c.in_err-answer-in-Some.ensures.calls.1 (λ e. ne (cc (p.1, p.2))) ∙ c.commands.invariant.writes,
)

pub commands-smaller : goal.commands-smaller
commands-smaller g c =
    subst
    (λ (o : Option Command).
    IfSome o (λ some. work_of c.read_command.new.script < work_of c.commands.script))
    c.in-Some.is c.in_ok-read.ensures.work

pub commands-preserved : goal.commands-preserved
commands-preserved g c =
    let now = left_to c.commands.script (g.S.ByteSource.remaining c.commands.source) in
    let next = left_to c.read_command.new.script (g.S.ByteSource.remaining c.read_command.new.source) in
    record {
      under_way =
          goes_on (g.S.ByteSource.remaining c.args.source.now) now next
          (g.K.ByteSink.contents c.args.sink.now) (g.K.ByteSink.contents c.commands.sink)
          (g.K.ByteSink.contents c.write_reply.new.sink) (texts_of c.commands.session.texts)
          (texts_of c.write_reply.new.session.texts) c.commands.is_refused _
          c.in-Some.command c.in_ok-answer-in-Some.answer
          c.commands.invariant.under_way
          (subst (λ (o : Option Command). IsNextCommand now next o) c.in-Some.is c.in_ok-read.ensures.next)
          c.in_ok-answer-in-Some.ensures.written (ap (λ (b : Bool). c.commands.is_refused || b)
          c.is_refused-is_refused.ensures);
      called =
          called_on 16777216 (turns_of c.commands.script) (turns_of c.read_command.new.script)
          (g.S.ByteSource.calls c.args.source.now) (g.S.ByteSource.calls c.commands.source)
          (g.S.ByteSource.calls c.read_command.new.source) c.commands.invariant.called
          c.in_ok-read.ensures.called;
      paid =
          paid_on 16777216 (turns_of c.commands.script) (turns_of c.read_command.new.script)
          (g.S.ByteSource.remaining c.args.source.now) (g.S.ByteSource.remaining c.commands.source)
          (g.S.ByteSource.remaining c.read_command.new.source) c.commands.invariant.paid
          c.in_ok-read.ensures.paid;
      ready = c.in_ok-answer-in-Some.ensures.ready;
      reads = c.in_ok-read.ensures.same (λ e. cc) ∙ c.commands.invariant.reads;
      writes = c.in_ok-answer-in-Some.ensures.calls.1 (λ e. cc) ∙ c.commands.invariant.writes;
    }
