use Rattle.std.proofs.Common.{◌≡◌, ◌≤◌, ◌+◌, length}
use Rattle.std.specs.Io.KnownBytes.{Consumes}
use Rattle.session_script.specs.Lines.{IsUnbroken}
use Rattle.session_script.specs.Calls.{AreTurnsCalled}
use Rattle.session_script.specs.Reading.{left_to, turns_of, work_of, ReadsFewAhead, IsPaid}
use Rattle.session_script.proofs.state.ScriptReader.read_line.Given as goal

-- what is read so far is the beginning of a line
abbrev pub invariant-parts : goal.invariant-parts
invariant-parts g l = record {
  ahead : ReadsFewAhead l.initial.self l.self;
  same : g.S.ByteSource.failed_calls l.source ≡ g.S.ByteSource.failed_calls l.initial.source;
  unbroken : IsUnbroken l.line.items;
  read : Consumes (left_to l.initial.self (g.S.ByteSource.remaining l.initial.source))
      (left_to l.self (g.S.ByteSource.remaining l.source)) l.line.items;
  work : work_of l.self + length l.line.items ≤ work_of l.initial.self;
  called : AreTurnsCalled (turns_of l.initial.self) (turns_of l.self)
      (g.S.ByteSource.calls l.initial.source) (g.S.ByteSource.calls l.source);
  paid : IsPaid (turns_of l.initial.self) (turns_of l.self)
      (g.S.ByteSource.remaining l.initial.source) (g.S.ByteSource.remaining l.source);
}

abbrev pub decreases-parts : goal.decreases-parts
decreases-parts g l = work_of l.self
