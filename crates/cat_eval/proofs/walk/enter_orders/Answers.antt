use Rattle.std.proofs.Common.{◌≡◌, ◌++◌, ◌∷◌, [], arith, sym, take, append_assoc}
use Rattle.std.proofs.lemmas.List.{take_all}
use Rattle.candidate_spaces.specs.Space.{Candidate}
use Rattle.cat_eval.specs.Worlds.{IsWorld}
use Rattle.cat_eval.proofs.Entering.{worlds_more, map_step}
use Rattle.cat_eval.proofs.walk.enter_orders.Goals as goal

pub loop-index-preserved : goal.loop-index-preserved
loop-index-preserved g c =
    let combination = c.args.combination.now in
    let needs = c.args.needs.now in
    let before = c.loop-index.invariant in
    let base = c.go_to_coherence-same.new.base in (
      c.go_to_coherence-same.ensures.ready before.0,
      (λ reads_from held. c.go_to_coherence-same.ensures.reading reads_from (before.1 reads_from held)),
      (λ reads_from reading first bases ends given.
          let (more, worlds, was, last) = before.2 reads_from reading first bases ends given in
          let world : IsWorld needs.names.items needs.reads needs.orders base (combination, (reads_from, c.order-coherence.result.now)) = record {
            ready = c.go_to_coherence-same.ensures.ready before.0;
            reading =
                λ reads.
                c.go_to_coherence-same.ensures.reading reads_from (before.1 reads_from (reading reads));
            ordered = λ orders. c.go_to_coherence-same.ensures.ordered orders (before.3 orders);
          } in (
            more ++ base ∷ [],
            rw (map_step {Y = Candidate} (λ coherence. (combination, (reads_from, coherence)))
                combination.orders c.loop-index.index c.order-coherence.result.now []
                (rw c.len-index-end.ensures at c.loop-index-test.true) c.order-coherence.ensures)
                (worlds_more needs.names.items needs.reads needs.orders more (base ∷ []) _ _ worlds
                (world, tt)),
            rw (append_assoc bases more (base ∷ [])) at (c.in_ok-enter.ensures first (bases ++ more)
                (λ is. rw (c.go_to_coherence-same.ensures.kept is).1
                (last (c.go_to_coherence-same.ensures.kept is).0))
                (λ is. (c.loop-index.base, last is, c.go_to_coherence-same.ensures.reordered)) was),
            (λ _. (bases ++ more, sym (append_assoc bases more (base ∷ [])))),
          )),
      (λ orders. c.go_to_coherence-same.ensures.ordered orders (before.3 orders)),
    )

pub returns-clause-worlds : goal.returns-clause-worlds
returns-clause-worlds g c = λ reads_from reading first bases ends given.
    let index = c.loop-index.index in
    let orders = c.args.combination.now.orders in
    let whole : take index orders ≡ orders = take_all index orders (omega (arith, c.loop-index-test.false, c.len-index-end.ensures)) in
    rw whole at (c.loop-index.invariant.2 reads_from reading first bases ends given)
