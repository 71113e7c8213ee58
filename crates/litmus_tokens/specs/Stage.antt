-- The part of a text that the next token stands in, by the tokens so far. How bytes are read rests
-- on it, and so does the number of a fault.
use Rattle.std.specs.Prelude.{◌-◌, Bool, true, false, if◌then◌else◌}
use Rattle.litmus_tokens.specs.declared.rule.LitmusRule.{LitmusRule}
use Rattle.litmus_tokens.specs.declared.rule.LitmusRule.TheVariants as rules
use Rattle.litmus_tokens.specs.declared.stage.Stage.{Stage}
use Rattle.litmus_tokens.specs.declared.stage.Stage.TheVariants.{Magic, Title, TitleEnd, Head, Init, Header, CellBegins, InCell, Tail}
use Rattle.litmus_tokens.specs.declared.token.Token.{Token}
use Rattle.litmus_tokens.specs.declared.token.Token.TheVariants as tokens
use Rattle.litmus_tokens.specs.declared.token.Mark.TheVariants as marks
use Rattle.litmus_tokens.specs.Words.{ends_table}

-- the rule that a fault in this part breaks, where no other rule names one
abbrev pub part_rule : Stage → LitmusRule
part_rule Magic = rules.NotPpc
part_rule Title = rules.Name
part_rule TitleEnd = rules.Name
part_rule Head = rules.Init
part_rule (Init alone after_word) = rules.Init
part_rule (Header left) = rules.Header
part_rule CellBegins = rules.Instruction
part_rule InCell = rules.Instruction
part_rule Tail = rules.Condition

abbrev pub after_brace : Bool → Stage
after_brace true = Init true false
after_brace false = Header 8

-- each part ends at a token of its own
abbrev pub next_stage : Stage → Token → Stage
next_stage Magic t = Title
next_stage Title t = TitleEnd
next_stage TitleEnd t = Head
next_stage Head (tokens.Mark marks.OpenBrace) = Init false false
next_stage Head t = Head
next_stage (Init alone after_word) (tokens.Mark marks.CloseBrace) = after_brace alone
next_stage (Init alone after_word) (tokens.Word w) = Init alone true
next_stage (Init alone after_word) t = Init alone false
next_stage (Header left) (tokens.Mark marks.Bar) = Header (left - 1)
next_stage (Header left) (tokens.Mark marks.Semicolon) = CellBegins
next_stage (Header left) t = Header left
next_stage CellBegins (tokens.Word w) = if ends_table w then Tail else InCell
next_stage CellBegins (tokens.Mark marks.Tilde) = Tail
next_stage CellBegins (tokens.Mark marks.Bar) = CellBegins
next_stage CellBegins (tokens.Mark marks.Semicolon) = CellBegins
next_stage CellBegins t = InCell
next_stage InCell (tokens.Mark marks.Bar) = CellBegins
next_stage InCell (tokens.Mark marks.Semicolon) = CellBegins
next_stage InCell t = InCell
next_stage Tail t = Tail
