use Rattle.std.proofs.Common.{rules}
use Rattle.report_answers.proofs.Known.{no_model_known, models_more}
use Rattle.report_answers.proofs.models.known_models.Goals as goal

pub loop-file-init : goal.loop-file-init
loop-file-init c =
    no_model_known c.args.faults.now.items c.new-models.result.items c.new-models.ensures.items

pub loop-file-preserved : goal.loop-file-preserved
loop-file-preserved c =
    models_more c.args.faults.now.items c.args.files.now c.loop-file.file-index c.file-item.result
    c.loop-file.models.items c.add_model.new.models.items c.loop-file.faults.items
    c.add_model.new.faults.items (search rules) (search rules) c.loop-file.invariant
    c.in_ok-add_model.ensures
