use Rattle.report_answers.proofs.Pages.{reported, is_well_formed}
use Rattle.report_answers.proofs.report.page_report.Goals as goal

pub returns-clause-page : goal.returns-clause-page
returns-clause-page g c =
    reported c.args.request c.args.models.now c.args.tests.now c.new-faults.result.items
    c.in_ok-known.known.items c.deref.result.now c.deref-2.result.now
    c.known_models.new.faults.items c.in_ok-judged.field-0
    c.judged_tests-judged.new.faults.items c.deref-3.result.now c.in_ok-text.text.items
    c.new-faults.ensures.items c.in_ok-known.ensures c.deref.ensures.value c.deref-2.ensures.value
    c.in_ok-judged.ensures c.deref-3.ensures.value c.in_ok-text.ensures

pub returns-clause-well_formed : goal.returns-clause-well_formed
returns-clause-well_formed g c =
    is_well_formed c.args.request c.args.models.now c.args.tests.now c.in_ok-text.text.items
    c.judged_tests-judged.new.faults.items (returns-clause-page g c)
