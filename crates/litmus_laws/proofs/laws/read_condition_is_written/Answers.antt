use Rattle.litmus_laws.proofs.Meant.{condition_is_written, condition_reads_written}
use Rattle.litmus_laws.proofs.laws.read_condition_is_written.Goals as goal

pub returns : goal.returns
returns c = record { text = condition_is_written; reads = condition_reads_written }
