use Rattle.std.proofs.Common.{arith}
use Rattle.command_answers.proofs.Lines.{inside_line, end_of_line}
use Rattle.command_answers.proofs.cut.line_end.Goals as goal

pub returns-clause-inside : goal.returns-clause-inside
returns-clause-inside c =
    inside_line c.args.bytes.now c.args.start c.line_length-line.result (omega arith)
    c.line_length-line.ensures.value

pub returns-clause-ends : goal.returns-clause-ends
returns-clause-ends c =
    end_of_line c.args.bytes.now c.args.start c.line_length-line.result (omega arith)
    c.line_length-line.ensures.value
