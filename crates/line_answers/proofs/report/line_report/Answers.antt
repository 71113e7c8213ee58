use Rattle.line_answers.proofs.Results.{judges_are}
use Rattle.line_answers.proofs.report.line_report.Goals as goal

pub put_files-written-requires : goal.put_files-written-requires
put_files-written-requires g c =
    judges_are _ c.deref.result.now c.deref-3.result.now c.in_ok-texts.texts.items
    c.deref-2.result.now c.in_ok-resolved.resolved.items c.deref-4.result.now
    c.deref.ensures.value c.deref-3.ensures.value c.deref-2.ensures.value c.deref-4.ensures.value
    c.in_ok-texts.ensures c.in_ok-resolved.ensures
