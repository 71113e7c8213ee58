use Rattle.std.proofs.Common.{arith}
use Rattle.std.proofs.lemmas.Bool.Decides.{nat_tests}
use Rattle.text_values.proofs.Bytes.{quote_found, no_quote}
use Rattle.text_values.proofs.layout.quoted_length.Goals as goal

pub returns-in-Some-clause-value : goal.returns-in-Some-clause-value
returns-in-Some-clause-value c =
    quote_found c.args.bytes.now c.in-Some.at (grind (arith, nat_tests)) c.in-Some.ensures

pub returns-in-None-clause-value : goal.returns-in-None-clause-value
returns-in-None-clause-value c =
    no_quote c.args.bytes.now (grind (arith, nat_tests)) c.in-None.ensures
