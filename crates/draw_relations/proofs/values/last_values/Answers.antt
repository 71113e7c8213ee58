use Rattle.std.proofs.Common.{sym}
use Rattle.std.proofs.lemmas.Result.{IfOk-weaker}
use Rattle.draw_relations.specs.Values.{IsLast}
use Rattle.draw_relations.proofs.Coding.{items_sound, last_found}
use Rattle.draw_relations.proofs.values.last_values.Goals as goal

pub returns-in-Some : goal.returns-in-Some
returns-in-Some c =
    let space = c.args.space.now in
    let text = c.args.text.now in
    let resolved = c.args.resolved.now.items.items in
    let item = c.in-Some.item.now in
    let answers = c.in_ok-found.found in
    let valued = c.in_ok-found.ensures.columns (items_sound text resolved c.requires.faultless c.requires.items) in
    let last : IsLast resolved item = sym (rw c.deref.ensures.value at c.in-Some.ensures.value) in
    let checked = rw c.deref-in-Some.ensures.value at c.check_values.ensures in
    IfOk-weaker c.check_values.result _ _
    (λ found h. last_found space text resolved answers item found c.requires.faultless
    c.requires.items valued last h) checked
