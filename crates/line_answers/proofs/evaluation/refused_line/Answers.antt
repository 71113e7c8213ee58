use Rattle.std.proofs.Common.{◌∙◌}
use Rattle.line_answers.proofs.Evaluations.{refused_is}
use Rattle.line_answers.proofs.evaluation.refused_line.Goals as goal

pub returns : goal.returns
returns c =
    refused_is c.new-text.result.items c.put_refused_line.new.text.items c.args.file.now c.args.letter
    c.args.number c.args.offset c.deref.result.now c.refusal_of.result c.new-text.ensures.items
    c.refusal_of.ensures (c.deref.ensures.value ∙ c.in_ok-rule.ensures)
    c.in_ok-put_refused_line.ensures
