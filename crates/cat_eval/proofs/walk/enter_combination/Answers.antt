use Rattle.std.proofs.Common.{◌≡◌, ◌++◌, arith, take, append_assoc}
use Rattle.std.proofs.lemmas.List.{take_all}
use Rattle.cat_eval.specs.Candidates.{reading_so}
use Rattle.cat_eval.proofs.Entering.{worlds_more, flat_step}
use Rattle.cat_eval.proofs.walk.enter_combination.Goals as goal

pub loop-reads_from-preserved : goal.loop-reads_from-preserved
loop-reads_from-preserved g c =
    let combination = c.args.combination.now in
    let needs = c.args.needs.now in
    let before = c.loop-reads_from.invariant in (
      c.enter_orders.ensures.ready,
      (λ first bases ends given.
          let (more, worlds, was, last) = before.1 first bases ends given in
          let (new, here, now, at_end) = c.in_ok-again.ensures.worlds c.reads_from-item.result.items (λ reads. rw c.deref.ensures.value at (c.go_to_reads_from-same.ensures.reading reads)) first (bases ++ more) (λ is. rw (c.go_to_reads_from-same.ensures.kept is).1 (last (c.go_to_reads_from-same.ensures.kept is).0)) was in (
            more ++ new,
            rw (flat_step (λ reads_from. reading_so combination reads_from.items combination.orders)
                combination.reads_from.items c.loop-reads_from.reads_from-index c.reads_from-item.result
                (rw c.deref-reads_from-items.ensures.value at c.loop-reads_from-test.true)
                (rw c.deref-reads_from-items.ensures.value at c.reads_from-item.is))
                (worlds_more needs.names.items needs.reads needs.orders more new _ _ worlds here),
            rw (append_assoc bases more new) at now,
            rw (append_assoc bases more new) at at_end,
          )),
    )

pub returns-clause-worlds : goal.returns-clause-worlds
returns-clause-worlds g c = λ first bases ends given.
    let index = c.loop-reads_from.reads_from-index in
    let read_choices = c.args.combination.now.reads_from.items in
    let whole : take index read_choices ≡ read_choices = take_all index read_choices (omega (arith, c.loop-reads_from-test.false, c.deref-reads_from-items.ensures.len)) in
    rw whole at (c.loop-reads_from.invariant.1 first bases ends given)
