use Rattle.text_values.proofs.Bytes.{first_found, none_found}
use Rattle.text_values.proofs.layout.line_length.Goals as goal

pub returns-in-Some-clause-value : goal.returns-in-Some-clause-value
returns-in-Some-clause-value c = first_found 10 c.args.bytes.now c.in-Some.at c.in-Some.ensures

pub returns-in-None-clause-value : goal.returns-in-None-clause-value
returns-in-None-clause-value c = none_found 10 c.args.bytes.now c.in-None.ensures
