use Rattle.command_answers.proofs.Reports.{model_told}
use Rattle.command_answers.proofs.reading.model_refusal_lines.Goals as goal

pub returns : goal.returns
returns c =
    model_told c.args.file.now c.new.result.items c.read_model_file.new.read.models.items
    c.new-2.result.items c.read_model_file.new.read.faults.items c.new.ensures.items
    c.new-2.ensures.items c.in_ok-read_model_file.ensures
