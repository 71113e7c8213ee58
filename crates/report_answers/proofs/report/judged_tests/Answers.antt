use Rattle.report_answers.proofs.Known.{judges_are}
use Rattle.report_answers.proofs.report.judged_tests.Goals as goal

pub known_tests-requires : goal.known_tests-requires
known_tests-requires g c =
    judges_are c.args.models.now c.in_ok-texts.texts.items c.deref.result.now
    c.in_ok-resolved.resolved.items c.deref-2.result.now c.deref.ensures.value
    c.deref-2.ensures.value c.in_ok-texts.ensures c.in_ok-resolved.ensures
