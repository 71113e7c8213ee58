-- The numbers of the rules.
use Rattle.std.specs.Prelude.{ℕ}
use Rattle.litmus_tokens.specs.declared.rule.LitmusRule.{LitmusRule}
use Rattle.litmus_tokens.specs.declared.rule.LitmusRule.TheVariants as rules

-- the number that a refusal is printed with
abbrev pub number_of : LitmusRule → ℕ
number_of rules.NotPpc = 1
number_of rules.Name = 2
number_of rules.Init = 3
number_of rules.TypedDeclaration = 4
number_of rules.Header = 5
number_of rules.Columns = 6
number_of rules.Instruction = 7
number_of rules.ZeroBase = 8
number_of rules.Offset = 9
number_of rules.Label = 10
number_of rules.BackwardBranch = 11
number_of rules.Condition = 12
number_of rules.Filter = 13
number_of rules.OpenComment = 14
number_of rules.NotAscii = 15
number_of rules.TooLong = 16
number_of rules.TooManyThreads = 17
