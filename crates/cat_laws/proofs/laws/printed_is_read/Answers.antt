use Rattle.cat_laws.proofs.Again.{model_again}
use Rattle.cat_laws.proofs.Printed.{model_is_read, model_reads}
use Rattle.cat_laws.proofs.laws.printed_is_read.Goals as goal

pub returns : goal.returns
returns c = record { text = model_is_read; reads = model_reads; again = model_again }
