use Rattle.std.proofs.lemmas.Result.{IfOk-weaker}
use Rattle.from_scratch.specs.FromScratch.{IsFromScratch}
use Rattle.meaning_outcomes.specs.Outcomes.{IsMeant}
use Rattle.meaning_outcomes.proofs.meant_cell.Goals as goal

pub returns : goal.returns
returns c =
    IfOk-weaker c.eval_cell.result (IsFromScratch c.args.test.now c.args.model.now)
    (IsMeant c.args.test.now c.args.model.now)
    (λ o h. c.from_scratch_is_meant.ensures.meant c.args.model.now o h) c.eval_cell.ensures
