use Rattle.std.proofs.Common.{sym, ap, subst, ◌≡◌, ◌∙◌, ℕ, List, false}
use Rattle.session_script.specs.Commands.{skips}
use Rattle.session_script.specs.Reading.{left_to, turns_of, IsCommandOfWords}
use Rattle.session_script.specs.Words.{words_of}
use Rattle.session_script.proofs.Steps.{line_answered, paid_on, read_one}
use Rattle.session_script.proofs.Calls.{called_on}
use Rattle.session_script.proofs.state.ScriptReader.next.Goals as goal

pub returns-then-not-skipped-clause-next : goal.returns-then-not-skipped-clause-next
returns-then-not-skipped-clause-next g c =
    let first = left_to c.args.self.now (g.S.ByteSource.remaining c.args.source.now) in
    let now = left_to c.lines.self (g.S.ByteSource.remaining c.lines.source) in
    let next = left_to c.read_line.new.self (g.S.ByteSource.remaining c.read_line.new.source) in
    let last = left_to c.command.new.self (g.S.ByteSource.remaining c.command.new.source) in
    let words = c.in_ok-words-in-Some.words.items in
    let line = c.in-Some.line.items in
    let parted : words ≡ words_of line = c.in_ok-words-in-Some.ensures ∙ ap (λ (l : List ℕ). words_of l) c.deref.ensures.value in
    let says : skips line words ≡ false =
    ap (λ (l : List ℕ). skips l words) (sym c.deref-in-Some.ensures.value)
    ∙ ap (λ (ws : List (List ℕ)). skips c.deref-in-Some.result.now ws)
    (sym c.deref-in-Some-2.ensures.value) ∙ sym c.if-not-skipped.ensures in
    let said = subst (λ (ws : List (List ℕ)). IsCommandOfWords next last ws c.in_ok-command-in-Some.command) c.deref-then-not-skipped.ensures.value c.in_ok-command-in-Some.ensures.said in
    line_answered first now next last line words c.in_ok-command-in-Some.command
    c.lines.invariant.commands
    (read_one now next c.in_ok-read.read c.in-Some.line c.in-Some.is c.in_ok-read.ensures.line)
    parted says said

pub returns-then-not-skipped-clause-paid : goal.returns-then-not-skipped-clause-paid
returns-then-not-skipped-clause-paid g c =
    let first = g.S.ByteSource.remaining c.args.source.now in
    let line = g.S.ByteSource.remaining c.read_line.new.source in
    let last = g.S.ByteSource.remaining c.command.new.source in
    let so_far = paid_on (turns_of c.args.self.now) (turns_of c.lines.self) (turns_of c.read_line.new.self) first (g.S.ByteSource.remaining c.lines.source) line c.lines.invariant.paid c.in_ok-read.ensures.paid in
    paid_on (turns_of c.args.self.now) (turns_of c.read_line.new.self) (turns_of c.command.new.self)
    first line last so_far c.in_ok-command-in-Some.ensures.paid

pub returns-then-not-skipped-clause-called : goal.returns-then-not-skipped-clause-called
returns-then-not-skipped-clause-called g c =
    let first = g.S.ByteSource.calls c.args.source.now in
    let line = g.S.ByteSource.calls c.read_line.new.source in
    let last = g.S.ByteSource.calls c.command.new.source in
    let so_far = called_on (turns_of c.args.self.now) (turns_of c.lines.self) (turns_of c.read_line.new.self) first (g.S.ByteSource.calls c.lines.source) line c.lines.invariant.called c.in_ok-read.ensures.called in
    called_on (turns_of c.args.self.now) (turns_of c.read_line.new.self) (turns_of c.command.new.self)
    first line last so_far c.in_ok-command-in-Some.ensures.called
