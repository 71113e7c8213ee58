use Rattle.cat_syntax.proofs.Readers.{found, only, fault}
use Rattle.cat_syntax.proofs.read.read_text.Goals as goal

pub returns-clause-found : goal.returns-clause-found
returns-clause-found c = found c.args.form c.args.bytes.now _ c.read_all.ensures.reads

pub returns-clause-only : goal.returns-clause-only
returns-clause-only c = only c.args.form c.args.bytes.now _ c.read_all.ensures.reads

pub returns-clause-fault : goal.returns-clause-fault
returns-clause-fault c = fault c.args.form c.args.bytes.now _ c.read_all.ensures.reads
