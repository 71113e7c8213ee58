use Rattle.std.proofs.Common.{◌≡◌, ◌≤◌}
use Rattle.session_script.specs.Calls.{AreTurnsCalled}
use Rattle.session_script.specs.Reading.{left_to, turns_of, work_of, ReadsFewAhead, IsPaid}
use Rattle.session_script.proofs.Steps.{AreSame}
use Rattle.session_script.proofs.state.ScriptReader.next.Given as goal

-- the lines so far say nothing
abbrev pub invariant-lines : goal.invariant-lines
invariant-lines g l = record {
  ahead : ReadsFewAhead l.initial.self l.self;
  work : work_of l.self ≤ work_of l.initial.self;
  called : AreTurnsCalled (turns_of l.initial.self) (turns_of l.self)
      (g.S.ByteSource.calls l.initial.source) (g.S.ByteSource.calls l.source);
  paid : IsPaid (turns_of l.initial.self) (turns_of l.self)
      (g.S.ByteSource.remaining l.initial.source) (g.S.ByteSource.remaining l.source);
  same : g.S.ByteSource.failed_calls l.source ≡ g.S.ByteSource.failed_calls l.initial.source;
  commands : AreSame (left_to l.initial.self (g.S.ByteSource.remaining l.initial.source))
      (left_to l.self (g.S.ByteSource.remaining l.source));
}

abbrev pub decreases-lines : goal.decreases-lines
decreases-lines g l = work_of l.self
