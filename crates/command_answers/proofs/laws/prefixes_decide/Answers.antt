use Rattle.std.proofs.Common.{arith}
use Rattle.command_answers.proofs.Kept.{prefixes_decide}
use Rattle.command_answers.proofs.laws.prefixes_decide.Goals as goal

pub returns : goal.returns
returns c = λ model test. prefixes_decide 65537 model test (omega arith)
