use Rattle.std.proofs.Common.{◌++◌, ap, ◌∙◌}
use Rattle.std.specs.Prelude.{codes}
use Rattle.std.proofs.lemmas.Result.{on_ok_weaker}
use Rattle.report_page.specs.Summary.{card, agreeing_card, cards_text}
use Rattle.report_page.proofs.Parts.{four_parts}
use Rattle.report_page.proofs.summary.put_numbers.Goals as goal

pub returns : goal.returns
unfolding cards_text
returns c =
    let all = card c.args.all (codes "tests") in
    let apart = card c.args.apart (codes "tell models apart") in
    let agreeing = agreeing_card c.args.all c.args.apart in
    let refused = card c.args.refused (codes "with a refusal") in
    on_ok_weaker c.put_card-3.result
    (λ e. e
    ∙ ap (λ l. l ++ refused) (c.in_ok-put_agreeing.ensures
    ∙ ap (λ l. l ++ agreeing) (c.in_ok-put_card-2.ensures
    ∙ ap (λ l. l ++ apart) c.in_ok-put_card.ensures))
    ∙ four_parts c.args.text.now.items all apart agreeing refused)
    c.put_card-3.ensures
