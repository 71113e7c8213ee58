use Rattle.std.proofs.Common.{arith, List, ℕ, subst}
use Rattle.std.proofs.lemmas.List.{take_all}
use Rattle.meaning_plain.specs.Lists.{RelationOf, HasPairs}
use Rattle.meaning_plain.proofs.Paths.{PathBy, paths_begin, paths_more, paths_all}
use Rattle.meaning_plain.proofs.relations.transitive.Goals as goal

pub loop-pair-init : goal.loop-pair-init
loop-pair-init c = paths_begin c.args.pairs.now _ c.in_ok-closed.ensures.items

pub loop-pair-preserved : goal.loop-pair-preserved
loop-pair-preserved c =
    paths_more c.args.pairs.now c.loop-pair.pair-index _ (RelationOf c.args.pairs.now)
    c.loop-pair.closed.items c.deref.result.now c.in_ok-more.more.items (omega arith)
    c.deref.ensures.value c.loop-pair.invariant c.in_ok-more.ensures

pub returns : goal.returns
returns c =
    paths_all c.args.pairs.now c.loop-pair.closed.items
    (subst
    (λ (l : List (ℕ × ℕ)). HasPairs (PathBy l (RelationOf c.args.pairs.now)) c.loop-pair.closed.items)
    (take_all c.loop-pair.pair-index c.args.pairs.now (omega arith)) c.loop-pair.invariant)
