use Rattle.std.proofs.Common.{sym, ap, ◌∙◌, arith}
use Rattle.litmus_tokens.specs.Lexer.{is_space}
use Rattle.litmus_tokens.proofs.Turns.{gap_space, gap_comment, gap_open, gap_other, gap_ends}
use Rattle.litmus_tokens.proofs.lexer.gap_length.Goals as goal

pub loop-gap-preserved-then-is_space : goal.loop-gap-preserved-then-is_space
loop-gap-preserved-then-is_space c = record {
  within = omega arith;
  so_far =
      c.loop-gap.invariant.so_far
      ∙ gap_space c.args.text.now c.loop-gap.gap c.loop-gap-test.true (ap is_space
      (sym c.byte_at.ensures.value) ∙ sym c.is_space.ensures ∙ c.if-is_space.true);
}

pub loop-gap-preserved : goal.loop-gap-preserved
loop-gap-preserved c =
    let over = gap_comment c.args.text.now c.loop-gap.gap c.in-Some.n c.loop-gap-test.true c.in-Some.ensures.within.0 c.in-Some.ensures.within.1 (ap is_space (sym c.byte_at.ensures.value) ∙ sym c.is_space.ensures ∙ c.if-is_space.false) (sym c.begins_comment.ensures ∙ c.if-begins_comment.true) (sym c.comment_length.ensures.value ∙ c.in-Some.is) in record {
      within = over.0;
      so_far = c.loop-gap.invariant.so_far ∙ over.1;
    }

pub returns-in-None-clause-value : goal.returns-in-None-clause-value
returns-in-None-clause-value c =
    sym (c.loop-gap.invariant.so_far
    ∙ gap_open c.args.text.now c.loop-gap.gap c.loop-gap-test.true
    (ap is_space (sym c.byte_at.ensures.value) ∙ sym c.is_space.ensures
    ∙ c.if-is_space.false)
    (sym c.begins_comment.ensures ∙ c.if-begins_comment.true)
    (sym c.comment_length.ensures.value ∙ c.in-None.is))

pub returns-else-begins_comment-clause-value : goal.returns-else-begins_comment-clause-value
returns-else-begins_comment-clause-value c =
    sym (c.loop-gap.invariant.so_far
    ∙ gap_other c.args.text.now c.loop-gap.gap c.loop-gap-test.true
    (ap is_space (sym c.byte_at.ensures.value) ∙ sym c.is_space.ensures
    ∙ c.if-is_space.false)
    (sym c.begins_comment.ensures ∙ c.if-begins_comment.false))

pub returns-clause-value : goal.returns-clause-value
returns-clause-value c =
    sym (c.loop-gap.invariant.so_far
    ∙ gap_ends c.args.text.now c.loop-gap.gap c.loop-gap-test.false)
