use Rattle.std.proofs.Common.{◌∙◌, ap, false}
use Rattle.memo_core.specs.Marks.{mark_in}
use Rattle.memo_core.proofs.Slots.{mark_found_at}
use Rattle.memo_engine.proofs.UnmarkLemmas.{unmark_written, nothing_unmarked}
use Rattle.memo_engine.proofs.marks.unmark.Goals as goal

pub returns-in-Some-clause-marks : goal.returns-in-Some-clause-marks
returns-in-Some-clause-marks g c =
    (c.get_mut.follows.holds (record {
      inputs = c.in-Some.kept.now.inputs;
      outputs = c.in-Some.kept.now.outputs;
      settled = false;
      matched = c.in-Some.kept.now.matched;
    })).0
    ∙ unmark_written c.args.node c.args.memos.now.entries c.in-Some.kept.now
    (rw c.in-Some.is at c.get_mut.ensures.value)

pub returns-in-None-clause-marks : goal.returns-in-None-clause-marks
returns-in-None-clause-marks g c =
    ap (λ m. m.entries) c.get_mut.follows.holds-at-none
    ∙ nothing_unmarked c.args.node c.args.memos.now.entries
    (rw c.in-None.is at c.get_mut.ensures.value)

pub returns-in-Some-clause-had : goal.returns-in-Some-clause-had
returns-in-Some-clause-had g c =
    ap mark_in (rw c.in-Some.is at c.get_mut.ensures.value)
    ∙ mark_found_at c.args.node c.args.memos.now.entries

pub returns-in-None-clause-had : goal.returns-in-None-clause-had
returns-in-None-clause-had g c =
    ap mark_in (rw c.in-None.is at c.get_mut.ensures.value)
    ∙ mark_found_at c.args.node c.args.memos.now.entries
