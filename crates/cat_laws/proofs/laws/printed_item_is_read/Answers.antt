use Rattle.cat_laws.proofs.Again.{item_again}
use Rattle.cat_laws.proofs.Printed.{item_is_read, item_reads}
use Rattle.cat_laws.proofs.laws.printed_item_is_read.Goals as goal

pub returns : goal.returns
returns c = record { text = item_is_read; reads = item_reads; again = item_again }
