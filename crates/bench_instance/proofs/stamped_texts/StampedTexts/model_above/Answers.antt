use Rattle.bench_instance.proofs.Above.{group_above, check_above, verdict_above}
use Rattle.bench_instance.proofs.stamped_texts.StampedTexts.model_above.Goals as goal

pub returns-in-Group : goal.returns-in-Group
returns-in-Group c =
    group_above c.args.self.now c.args.node c.item_model.result c.requires c.in-Group.is
    c.item_model.ensures

pub returns-in-Check : goal.returns-in-Check
returns-in-Check c =
    check_above c.args.self.now c.args.node c.item_model-in-Check.result c.requires c.in-Check.is
    c.item_model-in-Check.ensures

pub returns-in-Verdict : goal.returns-in-Verdict
returns-in-Verdict c =
    verdict_above c.args.self.now c.args.node c.model_index.result c.requires c.in-Verdict.is
    c.model_index.ensures.found
