use Rattle.std.proofs.Common.{arith, ◌≡◌, ℕ, Contains}
use Rattle.meaning_plain.proofs.Growing.{grows_begin, grows_more, grows_all}
use Rattle.meaning_plain.proofs.relations.add_all_common.Goals as goal

pub loop-pair-init : goal.loop-pair-init
loop-pair-init c = grows_begin (λ (x p : ℕ × ℕ). (p ≡ x) × Contains c.args.others.now x) c.args.pairs.now.items

pub loop-pair-preserved : goal.loop-pair-preserved
loop-pair-preserved c =
    grows_more (λ (x p : ℕ × ℕ). (p ≡ x) × Contains c.args.others.now x) c.args.more.now c.loop-pair.pair-index _ _ _ _ (omega arith)
    c.loop-pair.invariant c.in_ok-add_common.ensures

pub returns : goal.returns
returns c =
    grows_all (λ (x p : ℕ × ℕ). (p ≡ x) × Contains c.args.others.now x) c.args.more.now c.loop-pair.pair-index _ _ (omega arith) c.loop-pair.invariant
