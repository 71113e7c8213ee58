use Rattle.std.proofs.Common.{arith, ◌≡◌, ℕ}
use Rattle.meaning_plain.proofs.Growing.{grows_begin, grows_more, grows_all}
use Rattle.meaning_plain.proofs.relations.add_itself.Goals as goal

pub loop-event-init : goal.loop-event-init
loop-event-init c = grows_begin (λ (x : ℕ) (p : ℕ × ℕ). p ≡ (x, x)) c.args.pairs.now.items

pub loop-event-preserved : goal.loop-event-preserved
loop-event-preserved c =
    grows_more (λ (x : ℕ) (p : ℕ × ℕ). p ≡ (x, x)) c.args.events.now c.loop-event.event-index _ _ _ _ (omega arith)
    c.loop-event.invariant c.in_ok-add_pair.ensures

pub returns : goal.returns
returns c =
    grows_all (λ (x : ℕ) (p : ℕ × ℕ). p ≡ (x, x)) c.args.events.now c.loop-event.event-index _ _ (omega arith) c.loop-event.invariant
