use Rattle.std.proofs.Common.{rules}
use Rattle.command_answers.proofs.Reports.{no_models, models_more}
use Rattle.command_answers.proofs.reading.read_models.Goals as goal

pub loop-file-init : goal.loop-file-init
loop-file-init c =
    no_models c.new.result.items c.new-2.result.items c.new.ensures.items c.new-2.ensures.items

pub loop-file-preserved : goal.loop-file-preserved
loop-file-preserved c =
    models_more c.args.files.now c.loop-file.file-index c.file-item.result
    c.loop-file.read.models.items c.read_model_file.new.read.models.items
    c.loop-file.read.faults.items c.read_model_file.new.read.faults.items (search rules)
    (search rules) c.loop-file.invariant c.in_ok-read_model_file.ensures
