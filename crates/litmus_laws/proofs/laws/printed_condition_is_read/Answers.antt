use Rattle.litmus_laws.proofs.Again.{condition_again}
use Rattle.litmus_laws.proofs.Conditions.{condition_is_read, condition_reads}
use Rattle.litmus_laws.proofs.laws.printed_condition_is_read.Goals as goal

pub returns : goal.returns
returns c = record {
  text = λ threads q f few h. condition_is_read threads few q f h;
  reads = λ threads q f few h w. condition_reads threads few q f h w;
  again = λ threads bytes q f few r s. condition_again threads bytes q f few r s;
}
