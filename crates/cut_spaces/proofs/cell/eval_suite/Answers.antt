use Rattle.cut_spaces.proofs.cell.eval_suite.Goals as goal

pub returns : goal.returns
returns c =
    c.each_test.ensures c.args.models.now (rw c.deref.ensures.value c.in_ok-resolved.ensures)
