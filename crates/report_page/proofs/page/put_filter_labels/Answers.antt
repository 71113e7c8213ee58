use Rattle.std.proofs.Common.{◌++◌, ap, ◌∙◌}
use Rattle.std.specs.Prelude.{codes}
use Rattle.std.proofs.lemmas.Result.{on_ok_weaker}
use Rattle.report_page.specs.Page.{filter_label, agreeing_label, filters_text}
use Rattle.report_page.proofs.Parts.{four_parts}
use Rattle.report_page.proofs.page.put_filter_labels.Goals as goal

pub returns : goal.returns
unfolding filters_text
returns c =
    let all = filter_label (codes "w-all") (codes "all") c.args.all in
    let apart = filter_label (codes "w-differ") (codes "tell models apart") c.args.apart in
    let agreeing = agreeing_label c.args.all c.args.apart in
    let refused = filter_label (codes "w-refused") (codes "with a refusal") c.args.refused in
    on_ok_weaker c.put_filter_label-3.result
    (λ e. e
    ∙ ap (λ l. l ++ refused) (c.in_ok-put_agreeing_label.ensures
    ∙ ap (λ l. l ++ agreeing) (c.in_ok-put_filter_label-2.ensures
    ∙ ap (λ l. l ++ apart) c.in_ok-put_filter_label.ensures))
    ∙ four_parts c.args.text.now.items all apart agreeing refused)
    c.put_filter_label-3.ensures
