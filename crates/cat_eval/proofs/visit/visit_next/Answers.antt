use Rattle.std.proofs.Common.{◌≡◌, length, refl, arith}
use Rattle.cat_machine.specs.Seen.{values_seen}
use Rattle.cat_eval.proofs.Placing.{seen_again, at_more}
use Rattle.cat_eval.proofs.visit.visit_next.Goals as goal

pub returns : goal.returns
returns g c = λ first bases at given.
    let named = c.args.named.now in
    let count = c.args.count in
    let here : c.new-seen.result ≡ values_seen named (length bases) count = rw (← at.number) c.new-seen.ensures in
    let again = c.is_as_before-again.ensures in
    let taken = c.in_ok-visit.ensures first bases at.number (λ is. rw here (seen_again named c.args.place.now bases count at (c.is_number-same.ensures (again is).0) (again is).1)) given in (
      at_more named bases c.args.place.now _ count at (omega arith) refl
          (c.named_after-steady.ensures at.steady),
      rw here at taken,
    )
