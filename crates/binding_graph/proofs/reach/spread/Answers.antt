use Rattle.std.proofs.Common.{rules, ◌≡◌, ◌++◌, [], ◌∷◌, List, ℕ, subst}
use Rattle.binding_graph.specs.Reach.{AreSpread}
use Rattle.binding_graph.proofs.Reaching.{spread_more}
use Rattle.binding_graph.proofs.reach.spread.Goals as goal

pub loop-index-preserved : goal.loop-index-preserved
loop-index-preserved c = λ start.
    let popped : c.loop-index.waiting.items ≡ c.pop.new.self.items ++ c.in-Some.index ∷ [] = search rules in
    spread_more c.args.items.now c.in-Some.index c.loop-index.marks.items _ _ _
    (subst (λ (l : List ℕ). AreSpread c.args.items.now c.loop-index.marks.items l) popped
    (c.loop-index.invariant start)) c.in_ok-mark_used.ensures
