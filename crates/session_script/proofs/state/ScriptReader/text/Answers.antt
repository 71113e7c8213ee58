use Rattle.std.proofs.Common.{rules, arith, refl, sym, ap, ◌≡◌, ◌∙◌, ◌++◌, ◌∷◌, [], ℕ, List, true, false, take}
use Rattle.session_script.specs.Commands.{is_dot}
use Rattle.session_script.specs.Reading.{left_to, turns_of}
use Rattle.session_script.proofs.Prefixes.{prefix_is_short}
use Rattle.session_script.proofs.Steps.{paid_none, paid_on, text_begins, text_goes_on, text_given, text_is_cut_off, read_nothing, read_one}
use Rattle.session_script.proofs.Calls.{called_none, called_on}
use Rattle.session_script.proofs.state.ScriptReader.text.Goals as goal

pub lines-init : goal.lines-init
lines-init g c = record {
  ahead = λ few. few;
  work = omega arith;
  called = called_none (turns_of c.args.self.now) (g.S.ByteSource.calls c.args.source.now);
  paid = paid_none (turns_of c.args.self.now) (g.S.ByteSource.remaining c.args.source.now);
  same = refl;
  short = rw c.new-text.ensures.items (omega arith);
  kept =
      λ r. text_begins (left_to c.args.self.now (g.S.ByteSource.remaining c.args.source.now)) r
      c.new-text.result.items c.new-text.ensures.items;
}

pub returns-in-None-clause-text : goal.returns-in-None-clause-text
returns-in-None-clause-text g c = λ r.
    let first = left_to c.args.self.now (g.S.ByteSource.remaining c.args.source.now) in
    let now = left_to c.lines.self (g.S.ByteSource.remaining c.lines.source) in
    let next = left_to c.read_line.new.self (g.S.ByteSource.remaining c.read_line.new.source) in
    text_is_cut_off first now next r c.lines.text.items (c.lines.invariant.kept r)
    (read_nothing now next c.in_ok-read.read c.in-None.is c.in_ok-read.ensures.line)

pub returns-then-dot-clause-text : goal.returns-then-dot-clause-text
returns-then-dot-clause-text g c = λ r.
    let first = left_to c.args.self.now (g.S.ByteSource.remaining c.args.source.now) in
    let now = left_to c.lines.self (g.S.ByteSource.remaining c.lines.source) in
    let next = left_to c.read_line.new.self (g.S.ByteSource.remaining c.read_line.new.source) in
    let ends : is_dot c.in-Some.line.items ≡ true = ap (λ (l : List ℕ). is_dot l) (sym c.deref.ensures.value) ∙ sym c.if-dot.ensures in
    text_given first now next r c.lines.text.items c.in-Some.line.items c.new.result
    (c.lines.invariant.kept r)
    (read_one now next c.in_ok-read.read c.in-Some.line c.in-Some.is c.in_ok-read.ensures.line)
    ends c.new.ensures

pub lines-preserved : goal.lines-preserved
lines-preserved g c =
    let first = left_to c.args.self.now (g.S.ByteSource.remaining c.args.source.now) in
    let now = left_to c.lines.self (g.S.ByteSource.remaining c.lines.source) in
    let next = left_to c.read_line.new.self (g.S.ByteSource.remaining c.read_line.new.source) in
    let ends : is_dot c.in-Some.line.items ≡ false = ap (λ (l : List ℕ). is_dot l) (sym c.deref.ensures.value) ∙ sym c.if-dot.ensures in
    let put : c.put_line.new.text.items ≡ take 65537 (c.lines.text.items ++ c.in-Some.line.items ++ 10 ∷ []) = c.in_ok-put_line-in-Some.ensures ∙ ap (λ (l : List ℕ). take 65537 (c.lines.text.items ++ l ++ 10 ∷ [])) c.deref-in-Some.ensures.value in
    record {
      ahead = λ few. c.in_ok-read.ensures.ahead (c.lines.invariant.ahead few);
      work = omega (arith, c.in_ok-read.ensures.work);
      called =
          called_on (turns_of c.args.self.now) (turns_of c.lines.self) (turns_of c.read_line.new.self)
          (g.S.ByteSource.calls c.args.source.now) (g.S.ByteSource.calls c.lines.source)
          (g.S.ByteSource.calls c.read_line.new.source) c.lines.invariant.called
          c.in_ok-read.ensures.called;
      paid =
          paid_on (turns_of c.args.self.now) (turns_of c.lines.self) (turns_of c.read_line.new.self)
          (g.S.ByteSource.remaining c.args.source.now) (g.S.ByteSource.remaining c.lines.source)
          (g.S.ByteSource.remaining c.read_line.new.source) c.lines.invariant.paid
          c.in_ok-read.ensures.paid;
      same = search rules;
      short =
          prefix_is_short c.put_line.new.text.items 65537
          (c.lines.text.items ++ c.in-Some.line.items ++ 10 ∷ []) put;
      kept =
          λ r. text_goes_on first now next r c.lines.text.items c.put_line.new.text.items
          c.in-Some.line.items (c.lines.invariant.kept r)
          (read_one now next c.in_ok-read.read c.in-Some.line c.in-Some.is
          c.in_ok-read.ensures.line) ends put;
    }
