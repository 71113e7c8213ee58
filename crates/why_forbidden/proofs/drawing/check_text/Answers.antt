use Rattle.std.proofs.Common.{◌≡◌, ◌∙◌, ap, get_or, ◌<◌, length, refl, sym, subst}
use Rattle.std.proofs.lemmas.Option.{slice_get_read}
use Rattle.std.proofs.lemmas.Result.{IfOk-weaker}
use Rattle.cat_printing.specs.Printing.{printed_item}
use Rattle.text_values.specs.declared.model.Item.{Item}
use Rattle.text_values.specs.ModelValues.{clause_of}
use Rattle.why_forbidden.specs.declared.checks.CheckValues.{CheckValues}
use Rattle.why_forbidden.proofs.drawing.check_text.Goals as goal

pub returns : goal.returns
returns c =
    let checks = c.args.judged.checks.now in
    let texts = c.args.judged.text.now in
    let first = c.args.refusal.now.index in
    let check = c.index-judged-refusal.result in
    let item = c.index-judged-check.result in
    let within : check.item < length texts = subst (λ (x : CheckValues). x.item < length texts) (sym c.index-judged-refusal.is) (c.requires.named first check c.requires.within) in
    let written = subst (λ (x : CheckValues). item ≡ get_or texts x.item item) (sym c.index-judged-refusal.is) c.index-judged-check.is in
    let here = slice_get_read checks (length checks) first check refl c.requires.within c.index-judged-refusal.is in
    let there = slice_get_read texts (length texts) check.item item refl within written in
    IfOk-weaker c.print_item.result _ _
    (λ v h. (
      check,
      here,
      item,
      there,
      h ∙ ap (λ (x : Item). printed_item (clause_of x)) (sym c.index-judged-check.is),
    ))
    c.print_item.ensures
