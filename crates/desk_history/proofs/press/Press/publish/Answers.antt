use Rattle.std.proofs.Common.{◌++◌, refl, ap, sym, ◌∙◌, subst}
use Rattle.std.proofs.Common.{drop as without}
use mathlib.Core.List.{IsPrefix}
use Rattle.desk_history.specs.Histories.{latest}
use Rattle.desk_history.proofs.Cases.{turned}
use Rattle.desk_history.proofs.press.Press.publish.Goals as goal

pub invariant_of-self-2 : goal.invariant_of-self-2
invariant_of-self-2 g c =
    let i = c.self.invariant in
    let h = c.hand_over.ensures in
    let w = c.self.inside.writer in
    let handed = c.hand_over.new.writer in
    let dest = c.replace_with.new.dest in
    let same = ap (λ d. d.shown.value) h.desk in
    let waits = without w.behind w.log.items ++ c.self.inside.queue.items in
    let is = ap (λ l. latest handed.desk.shown.value l) h.waits ∙ (ap (λ s. latest s waits) same ∙ i.0) in
    let begins = subst (λ s. IsPrefix s c.self.inside.front) (sym same) i.1 in
    turned c.replace_with.result dest.desk.shown.value handed.desk.shown.value c.self.inside.front
    (without dest.behind dest.log.items) (without handed.behind handed.log.items)
    c.hand_over.new.queue.items c.replace_with.ensures (c.if-not-hand_over.ensures.done refl) is
    begins
