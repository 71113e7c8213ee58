use Rattle.std.proofs.Common.{sym, ap, ◌∙◌, arith, length}
use Rattle.std.specs.Prelude.{not}
use Rattle.std.proofs.lemmas.List.Sums.{position_or_len_is}
use Rattle.fault_texts.specs.Lines.{ends_word}
use Rattle.fault_texts.proofs.found.word_length.Goals as goal

pub returns-then-not-is_word_byte-clause-value : goal.returns-then-not-is_word_byte-clause-value
returns-then-not-is_word_byte-clause-value c =
    sym (position_or_len_is ends_word c.args.rest.now c.loop-i.i 0 (omega arith) c.loop-i.invariant
    (λ _. ap not (sym c.is_word_byte.ensures ∙ c.if-not-is_word_byte.true)))

pub returns-clause-value : goal.returns-clause-value
returns-clause-value c =
    sym (position_or_len_is ends_word c.args.rest.now (length c.args.rest.now) 0 (omega arith)
    (λ k lt. c.loop-i.invariant k (omega arith)) (λ h. absurd (omega arith)))
