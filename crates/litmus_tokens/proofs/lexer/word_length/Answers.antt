use Rattle.std.proofs.Common.{sym, ap, ◌∙◌, arith, length}
use Rattle.std.specs.Prelude.{not}
use Rattle.std.proofs.lemmas.List.Sums.{position_or_len_is}
use Rattle.litmus_tokens.specs.Lexer.{ends_word}
use Rattle.litmus_tokens.proofs.lexer.word_length.Goals as goal

pub returns-then-not-is_word_byte-clause-value : goal.returns-then-not-is_word_byte-clause-value
returns-then-not-is_word_byte-clause-value c =
    sym (position_or_len_is ends_word c.args.text.now c.loop-i.i 0 (omega arith) c.loop-i.invariant
    (λ _. ap not (sym c.is_word_byte.ensures ∙ c.if-not-is_word_byte.true)))

pub returns-clause-value : goal.returns-clause-value
returns-clause-value c =
    sym (position_or_len_is ends_word c.args.text.now (length c.args.text.now) 0 (omega arith)
    (λ k lt. c.loop-i.invariant k (omega arith)) (λ h. absurd (omega arith)))
