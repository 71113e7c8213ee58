use Rattle.std.proofs.Common.{List, map, ap, ◌∙◌}
use Rattle.report_answers.specs.declared.judged.KnownTest.{KnownTest}
use Rattle.report_answers.specs.Known.{shown_model, shown_test}
use Rattle.report_answers.proofs.Pages.{page_is}
use Rattle.report_answers.proofs.report.page_of.Goals as goal

pub returns : goal.returns
returns c =
    page_is c.new-page.result.items c.put_page.new.text.items c.deref-2.result.now
    (map shown_model c.args.models.now) c.deref-3.result.now
    (map shown_test c.args.known.now.tests.items) _ c.new-page.ensures.items
    (c.deref-2.ensures.value ∙ c.in_ok-models.ensures)
    (c.deref-3.ensures.value ∙ c.in_ok-tests.ensures
    ∙ ap (λ (l : List KnownTest). map shown_test l) c.deref.ensures.value)
    c.in_ok-put_page.ensures
