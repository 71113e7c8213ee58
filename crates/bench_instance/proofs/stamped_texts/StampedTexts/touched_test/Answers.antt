use Rattle.std.proofs.Common.{sym, arith}
use Rattle.std.proofs.lemmas.Grind.{common_steps}
use Rattle.bench_instance.proofs.stamped_texts.StampedTexts.touched_test.Goals as goal

pub returns : goal.returns
returns c = record {
  some = grind (arith, common_steps);
  all = rw c.deref.ensures.value at (sym c.if-not-are_of_test.ensures);
  there = omega (arith, c.if-test_row-len.false, c.test_row.ensures, c.len.ensures);
}
