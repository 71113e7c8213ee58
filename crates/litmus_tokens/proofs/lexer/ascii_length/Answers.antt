use Rattle.std.proofs.Common.{sym, ◌∙◌, arith, length}
use Rattle.std.proofs.lemmas.List.Sums.{position_or_len_is}
use Rattle.litmus_tokens.specs.Lexer.{is_not_ascii}
use Rattle.litmus_tokens.proofs.lexer.ascii_length.Goals as goal

pub returns-then-is_not_ascii-clause-value : goal.returns-then-is_not_ascii-clause-value
returns-then-is_not_ascii-clause-value c =
    sym (position_or_len_is is_not_ascii c.args.text.now c.loop-i.i 0 (omega arith)
    c.loop-i.invariant (λ _. sym c.is_not_ascii.ensures ∙ c.if-is_not_ascii.true))

pub returns-clause-value : goal.returns-clause-value
returns-clause-value c =
    sym (position_or_len_is is_not_ascii c.args.text.now (length c.args.text.now) 0 (omega arith)
    (λ k lt. c.loop-i.invariant k (omega arith)) (λ h. absurd (omega arith)))
