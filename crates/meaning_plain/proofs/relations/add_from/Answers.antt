use Rattle.std.proofs.Common.{arith, ◌≡◌, ℕ}
use Rattle.meaning_plain.proofs.Growing.{grows_begin, grows_more, grows_all}
use Rattle.meaning_plain.proofs.relations.add_from.Goals as goal

pub loop-end-init : goal.loop-end-init
loop-end-init c = grows_begin (λ (y : ℕ) (p : ℕ × ℕ). p ≡ (c.args.from, y)) c.args.pairs.now.items

pub loop-end-preserved : goal.loop-end-preserved
loop-end-preserved c =
    grows_more (λ (y : ℕ) (p : ℕ × ℕ). p ≡ (c.args.from, y)) c.args.ends.now c.loop-end.end-index _ _ _ _ (omega arith)
    c.loop-end.invariant c.in_ok-add_pair.ensures

pub returns : goal.returns
returns c =
    grows_all (λ (y : ℕ) (p : ℕ × ℕ). p ≡ (c.args.from, y)) c.args.ends.now c.loop-end.end-index _ _ (omega arith) c.loop-end.invariant
