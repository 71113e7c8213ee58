use Rattle.litmus_laws.proofs.MeantTests.{test_is_written, test_reads_written}
use Rattle.litmus_laws.proofs.laws.read_is_written.Goals as goal

pub returns : goal.returns
returns c = record { text = test_is_written; reads = test_reads_written }
