use Rattle.litmus_laws.proofs.Again.{test_again}
use Rattle.litmus_laws.proofs.Whole.{test_is_read, test_reads}
use Rattle.litmus_laws.proofs.laws.printed_is_read.Goals as goal

pub returns : goal.returns
returns c = record { text = test_is_read; reads = test_reads; again = test_again }
