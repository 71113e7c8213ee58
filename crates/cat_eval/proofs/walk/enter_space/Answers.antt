use Rattle.std.proofs.Common.{◌≡◌, ◌++◌, [], arith, take}
use Rattle.std.proofs.lemmas.List.{take_all}
use Rattle.std.proofs.lemmas.Bool.{false≢true}
use Rattle.cat_eval.specs.Candidates.{reading_in}
use Rattle.cat_eval.proofs.Entering.{worlds_more, flat_step, listed}
use Rattle.cat_eval.proofs.walk.enter_space.Goals as goal

pub loop-combination-init : goal.loop-combination-init
loop-combination-init g c = (
  c.requires.known,
  c.requires.held,
  tt,
  (λ given. ([], tt, given, (λ no. absurd (false≢true no)))),
)

pub loop-combination-preserved : goal.loop-combination-preserved
loop-combination-preserved g c =
    let before = c.loop-combination.invariant in
    let combinations = c.args.space.now.combinations.items in
    let needs = c.args.needs.now in (
      c.enter_combination.ensures.ready.known,
      c.enter_combination.ensures.ready.held,
      c.enter_combination.ensures.ready.entered,
      (λ given.
          let (bases, worlds, was, last) = before.3 given in
          let (new, here, now, at_end) = c.in_ok-again.ensures.worlds c.args.visitor.now bases (λ is. rw (c.go_to_combination-same.ensures.kept is).1 (last (c.go_to_combination-same.ensures.kept is).0)) was in (
            bases ++ new,
            rw (flat_step (λ one. reading_in one one.reads_from.items) combinations
                c.loop-combination.combination-index c.combination-item.result
                (rw c.deref-combination-items.ensures.value at c.loop-combination-test.true)
                (rw c.deref-combination-items.ensures.value at c.combination-item.is))
                (worlds_more needs.names.items needs.reads needs.orders bases new _ _ worlds here),
            now,
            at_end,
          )),
    )

pub returns : goal.returns
returns g c = λ given.
    let index = c.loop-combination.combination-index in
    let combinations = c.args.space.now.combinations.items in
    let whole : take index combinations ≡ combinations = take_all index combinations (omega (arith, c.loop-combination-test.false, c.deref-combination-items.ensures.len)) in
    let (bases, worlds, was, last) = c.loop-combination.invariant.3 given in
    (bases, rw (whole, listed combinations) at worlds, was)
