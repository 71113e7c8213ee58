use Rattle.std.proofs.Common.{◌++◌, option_to_list, ap, arith, ◌∙◌}
use Rattle.store_orders.specs.Lists.{lists_of}
use Rattle.run_combinations.specs.ReadChoices.{nexts}
use Rattle.run_combinations.proofs.Extending.{gains_none, gains_more, gains_all, pushed, not_pushed}
use Rattle.run_combinations.proofs.reading.Reading.extend.Goals as goal
use Rattle.run_combinations.proofs.reading.Reading.extend.Goals.{then-has_both+in_ok-push_copy, else-has_both}

pub loop-store-init : goal.loop-store-init
loop-store-init c = gains_none _ _ _ _ _

pub loop-store-preserved : goal.loop-store-preserved
loop-store-preserved c =
    gains_more c.args.self.now c.args.load.now c.args.index c.args.reads_from.items c.loop-store.store
    c.derived-derived.result (lists_of c.args.longer.now.items) (lists_of
    c.loop-store.longer.items
    ++ nexts (option_to_list c.loop-store.last) c.args.reads_from.items)
    (lists_of c.if-has_both.longer.items
    ++ nexts (option_to_list c.if-has_both.last) c.args.reads_from.items) c.has_both.result
    (rw c.deref.ensures.value at c.derived-derived.ensures) c.has_both.ensures
    (omega (arith, c.loop-store-test.true, c.min-store-end.ensures)) c.loop-store.invariant
    (elim c.if-has_both.branch [
      | then-has_both+in_ok-push_copy w ↦
          pushed (lists_of c.loop-store.longer.items) (lists_of c.if-has_both.longer.items)
          c.args.reads_from.items c.loop-store.last c.if-has_both.last c.loop-store.store
          c.has_both.result w.if-has_both.true w.last-is (ap (λ v. lists_of v.items) w.longer-is
          ∙ w.in_ok-push_copy.ensures)
      | else-has_both w ↦ not_pushed (lists_of c.loop-store.longer.items)
          (lists_of c.if-has_both.longer.items) c.args.reads_from.items c.loop-store.last
          c.if-has_both.last c.loop-store.store c.has_both.result w.if-has_both.false w.last-is
          (ap (λ v. lists_of v.items) w.longer-is)
    ])

pub returns : goal.returns
returns c =
    gains_all c.args.self.now c.args.load.now c.args.index c.args.reads_from.items c.loop-store.store
    (lists_of c.args.longer.now.items) (lists_of c.push_reads_from.new.longer.items)
    (λ few. omega (arith, few, c.loop-store-test.false, c.min-store-end.ensures))
    (rw c.in_ok-push_reads_from.ensures c.loop-store.invariant)
