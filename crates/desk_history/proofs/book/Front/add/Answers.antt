use Rattle.std.proofs.Common.{sym, ◌∙◌, ap}
use Rattle.desk_history.proofs.Adding.{adds_moves}
use Rattle.desk_history.proofs.book.Front.add.Goals as goal

pub compare_exchange-found-requires : goal.compare_exchange-found-requires
compare_exchange-found-requires g c =
    let h = c.args.book.now.head_is in
    let offer = c.plain-offer.ensures in
    let pen = c.no_pen-pen.ensures in
    let same = c.again-seen.ensures in
    let book = ap (λ s. s.book) same ∙ (c.self.invariant.1 ∙ sym (ap (λ w. w.book) h)) in (
      ap (λ w. w.tracked) h,
      book,
      pen.0 ∙ book,
      offer.0,
      rw (ap (λ w. w.key) h, pen.1, offer.1, offer.3, ap (λ s. s.log) same) (adds_moves
          c.self.inside.seen.log c.args.op.now c.self.inside.count (sym c.self.invariant.0)),
    )
