use Rattle.std.proofs.Common.{sym, subst, ◌∙◌, ℕ, List, IfOk}
use Rattle.std.specs.Io.KnownBytes.{prepend_known}
use Rattle.session_script.specs.Reading.{left_to, IsCommandOfWords}
use Rattle.session_script.proofs.Steps.{text_answered}
use Rattle.session_script.proofs.state.ScriptReader.command.Goals as goal

pub returns-then-has_text-clause-said : goal.returns-then-has_text-clause-said
returns-then-has_text-clause-said g c =
    let source = g.S.ByteSource.remaining c.args.source.now in
    let last = left_to c.with_text.new.self (g.S.ByteSource.remaining c.with_text.new.source) in
    let said = text_answered (left_to c.remember.new.self source) last c.args.words.now c.in-Some.request c.with_text.result (sym c.in-Some.is ∙ c.in_ok-request_of.ensures) (sym c.has_text.ensures ∙ c.if-has_text.true) c.with_text.ensures.text in
    subst
    (λ (waiting : List ℕ).
    IfOk c.with_text.result (IsCommandOfWords (prepend_known waiting source) last c.args.words.now))
    c.remember.ensures.waiting said
