use Rattle.std.proofs.Common.{rules, arith}
use Rattle.std.proofs.lemmas.Grind.{common_steps}
use Rattle.session_script.specs.Reading.{waiting_in, left_to, turns_of}
use Rattle.session_script.proofs.Steps.{line_ended_if, part_is_open, line_goes_on, line_is_unbroken, line_is_last, paid_after}
use Rattle.session_script.proofs.Calls.{called_after}
use Rattle.session_script.proofs.state.ScriptReader.read_line.Goals as goal

pub returns-then-ends-clause-line : goal.returns-then-ends-clause-line
returns-then-ends-clause-line g c =
    line_ended_if (left_to c.args.self.now (g.S.ByteSource.remaining c.args.source.now))
    (g.S.ByteSource.remaining c.parts.source) (waiting_in c.parts.self)
    (waiting_in c.take_part.new.self) c.parts.line.items c.take_part.new.line.items
    c.drop_return.new.line.items c.in_ok-ends.ends c.if-ends.true c.parts.invariant.read
    c.parts.invariant.unbroken c.in_ok-ends.ensures.part c.drop_return.ensures

pub parts-preserved : goal.parts-preserved
parts-preserved g c =
    let open_part = part_is_open (waiting_in c.parts.self) (waiting_in c.take_part.new.self) c.parts.line.items c.take_part.new.line.items c.in_ok-ends.ends c.if-ends.false c.in_ok-ends.ensures.part in
    record {
      ahead =
          λ few.
          c.in_ok-more.ensures.ahead (c.in_ok-ends.ensures.ahead (c.parts.invariant.ahead few));
      same = search rules;
      unbroken =
          line_is_unbroken (waiting_in c.parts.self) (waiting_in c.take_part.new.self)
          c.parts.line.items c.take_part.new.line.items c.parts.invariant.unbroken open_part;
      read =
          line_goes_on (left_to c.args.self.now (g.S.ByteSource.remaining c.args.source.now))
          (g.S.ByteSource.remaining c.parts.source) (g.S.ByteSource.remaining c.fill.new.source)
          (waiting_in c.parts.self) (waiting_in c.take_part.new.self) c.parts.line.items
          c.take_part.new.line.items (waiting_in c.fill.new.self) c.parts.invariant.read open_part
          c.in_ok-more.ensures.given;
      work =
          omega (
            arith,
            c.in_ok-more.ensures.work,
            c.in_ok-ends.ensures.whole,
            c.parts.invariant.work,
          );
      called =
          called_after (turns_of c.args.self.now) (turns_of c.parts.self)
          (turns_of c.take_part.new.self) (turns_of c.fill.new.self)
          (g.S.ByteSource.calls c.args.source.now) (g.S.ByteSource.calls c.parts.source)
          (g.S.ByteSource.calls c.fill.new.source) c.parts.invariant.called
          c.in_ok-ends.ensures.turns c.in_ok-more.ensures.called;
      paid =
          paid_after (turns_of c.args.self.now) (turns_of c.parts.self)
          (turns_of c.take_part.new.self) (turns_of c.fill.new.self)
          (g.S.ByteSource.remaining c.args.source.now) (g.S.ByteSource.remaining c.parts.source)
          (g.S.ByteSource.remaining c.fill.new.source) c.parts.invariant.paid
          c.in_ok-ends.ensures.turns c.in_ok-more.ensures.paid;
    }

pub returns-then-not-more-clause-line : goal.returns-then-not-more-clause-line
returns-then-not-more-clause-line g c =
    let first = left_to c.args.self.now (g.S.ByteSource.remaining c.args.source.now) in
    let open_part = part_is_open (waiting_in c.parts.self) (waiting_in c.take_part.new.self) c.parts.line.items c.take_part.new.line.items c.in_ok-ends.ends c.if-ends.false c.in_ok-ends.ensures.part in
    let read = line_goes_on first (g.S.ByteSource.remaining c.parts.source) (g.S.ByteSource.remaining c.fill.new.source) (waiting_in c.parts.self) (waiting_in c.take_part.new.self) c.parts.line.items c.take_part.new.line.items (waiting_in c.fill.new.self) c.parts.invariant.read open_part c.in_ok-more.ensures.given in
    let unbroken = line_is_unbroken (waiting_in c.parts.self) (waiting_in c.take_part.new.self) c.parts.line.items c.take_part.new.line.items c.parts.invariant.unbroken open_part in
    line_is_last first (left_to c.fill.new.self (g.S.ByteSource.remaining c.fill.new.source))
    c.take_part.new.line.items read (c.in_ok-more.ensures.end (cc)) unbroken
    (grind (arith, common_steps))
