use Rattle.std.proofs.Common.{◌≡◌}
use Rattle.session_script.specs.Calls.{AreTurnsCalled}
use Rattle.session_script.specs.Reading.{left_to, turns_of, work_of, IsPaid}
use Rattle.bench_texts.specs.Held.{texts_of}
use Rattle.session_views.specs.Knowing.{KnowsTexts}
use Rattle.session_run.proofs.Sessions.{IsUnderWay}
use Rattle.session_run.proofs.commands.answer_commands.Given as goal

-- the commands so far are answered
abbrev pub invariant-commands : goal.invariant-commands
invariant-commands g l = record {
  under_way : IsUnderWay (g.S.ByteSource.remaining l.initial.source)
      (left_to l.script (g.S.ByteSource.remaining l.source)) (g.K.ByteSink.contents l.initial.sink)
      (g.K.ByteSink.contents l.sink) (texts_of l.session.texts) l.is_refused;
  called : AreTurnsCalled 16777216 (turns_of l.script) (g.S.ByteSource.calls l.initial.source)
      (g.S.ByteSource.calls l.source);
  paid : IsPaid 16777216 (turns_of l.script) (g.S.ByteSource.remaining l.initial.source)
      (g.S.ByteSource.remaining l.source);
  ready : KnowsTexts l.session.viewer l.session.made (texts_of l.session.texts);
  reads : g.S.ByteSource.failed_calls l.source ≡ g.S.ByteSource.failed_calls l.initial.source;
  writes : g.K.ByteSink.failed_calls l.sink ≡ g.K.ByteSink.failed_calls l.initial.sink;
}

abbrev pub decreases-commands : goal.decreases-commands
decreases-commands g l = work_of l.script
