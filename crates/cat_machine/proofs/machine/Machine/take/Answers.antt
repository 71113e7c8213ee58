use Rattle.std.proofs.Common.{reverse}
use Rattle.std.proofs.lemmas.Result.{on_ok_weaker}
use Rattle.cat_machine.specs.Named.{EventsNamed, PairsNamed}
use Rattle.cat_machine.proofs.Steps.{blend_sets_step, turn_set_step, multiply_step, restrict_step, blend_step, compose_step, close_step, turn_step}
use Rattle.cat_machine.proofs.machine.Machine.take.Goals as goal

pub returns-in-PushSet : goal.returns-in-PushSet
returns-in-PushSet c =
    rw c.in-PushSet.is (on_ok_weaker c.push_set.result
    (λ made ss es finds s r. (rw made (c.set.ensures, s), rw c.push_set.ensures.relations r))
    c.push_set.ensures.sets)

pub returns-in-PushEverything : goal.returns-in-PushEverything
returns-in-PushEverything c =
    rw c.in-PushEverything.is (on_ok_weaker c.push_set-in-PushEverything.result
    (λ made ss es finds s r. (
      rw made (rw c.count-count.ensures.value at c.all.ensures, s),
      rw c.push_set-in-PushEverything.ensures.relations r,
    ))
    c.push_set-in-PushEverything.ensures.sets)

pub returns-in-PushNoEvents : goal.returns-in-PushNoEvents
returns-in-PushNoEvents c =
    rw c.in-PushNoEvents.is (on_ok_weaker c.push_set-in-PushNoEvents.result
    (λ made ss es finds s r. (
      rw made (rw c.count-count.ensures.value at c.empty.ensures, s),
      rw c.push_set-in-PushNoEvents.ensures.relations r,
    ))
    c.push_set-in-PushNoEvents.ensures.sets)

pub returns-in-BlendSets : goal.returns-in-BlendSets
returns-in-BlendSets c =
    rw c.in-BlendSets.is (on_ok_weaker c.blend_sets.result
    (λ made ss es finds s r. (
      blend_sets_step c.args.names.now.base.now.count
          (EventsNamed c.args.names.now) (PairsNamed c.args.names.now) c.in-BlendSets.how
          ss (reverse c.args.self.now.sets.items)
          (reverse c.blend_sets.new.self.sets.items) finds s made,
      rw c.blend_sets.ensures.relations r,
    )) c.blend_sets.ensures.sets)

pub returns-in-ComplementSet : goal.returns-in-ComplementSet
returns-in-ComplementSet c =
    rw c.in-ComplementSet.is (on_ok_weaker c.turn_set.result
    (λ made ss es finds s r. (
      turn_set_step c.args.names.now.base.now.count
          (EventsNamed c.args.names.now) (PairsNamed c.args.names.now) ss
          (reverse c.args.self.now.sets.items) (reverse c.turn_set.new.self.sets.items)
          finds s made,
      rw c.turn_set.ensures.relations r,
    )) c.turn_set.ensures.sets)

pub returns-in-PushRelation : goal.returns-in-PushRelation
returns-in-PushRelation c =
    rw c.in-PushRelation.is (on_ok_weaker c.push.result
    (λ made ss es finds s r. (s, rw made.1 (made.2, r))) c.push.ensures)

pub returns-in-PushNoPairs : goal.returns-in-PushNoPairs
returns-in-PushNoPairs c =
    rw c.in-PushNoPairs.is (on_ok_weaker c.push_no_pairs.result
    (λ made ss es finds s r. (s, rw made.1 (rw c.count-count.ensures.value at made.2, r)))
    c.push_no_pairs.ensures)

pub returns-in-ProductOfSets : goal.returns-in-ProductOfSets
returns-in-ProductOfSets c =
    rw c.in-ProductOfSets.is (on_ok_weaker c.multiply.result
    (λ made ss es finds s r. multiply_step c.args.names.now.base.now.count
    (EventsNamed c.args.names.now) (PairsNamed c.args.names.now) ss es
    (reverse c.args.self.now.sets.items) (reverse c.multiply.new.self.sets.items)
    c.args.self.now.relations c.multiply.new.self.relations finds s r made)
    c.multiply.ensures)

pub returns-in-IdentityOn : goal.returns-in-IdentityOn
returns-in-IdentityOn c =
    rw c.in-IdentityOn.is (on_ok_weaker c.restrict.result
    (λ made ss es finds s r. restrict_step c.args.names.now.base.now.count
    (EventsNamed c.args.names.now) (PairsNamed c.args.names.now) ss es
    (reverse c.args.self.now.sets.items) (reverse c.restrict.new.self.sets.items)
    c.args.self.now.relations c.restrict.new.self.relations finds s r made)
    c.restrict.ensures)

pub returns-in-BlendRelations : goal.returns-in-BlendRelations
returns-in-BlendRelations c =
    rw c.in-BlendRelations.is (λ ss es finds s r. (
      s,
      blend_step c.args.names.now.base.now.count (EventsNamed c.args.names.now)
          (PairsNamed c.args.names.now) c.in-BlendRelations.how es c.args.self.now.relations
          c.blend.new.self finds r c.blend.ensures,
    ))

pub returns-in-SequenceRelations : goal.returns-in-SequenceRelations
returns-in-SequenceRelations c =
    rw c.in-SequenceRelations.is (λ ss es finds s r. (
      s,
      compose_step c.args.names.now.base.now.count (EventsNamed c.args.names.now)
          (PairsNamed c.args.names.now) es c.args.self.now.relations c.compose.new.self finds
          r c.compose.ensures,
    ))

pub returns-in-Close : goal.returns-in-Close
returns-in-Close c =
    rw c.in-Close.is (λ ss es finds s r. (
      s,
      close_step c.args.names.now.base.now.count (EventsNamed c.args.names.now)
          (PairsNamed c.args.names.now) c.in-Close.how es c.args.self.now.relations
          c.close.new.self finds r c.close.ensures,
    ))

pub returns-in-ComplementRelation : goal.returns-in-ComplementRelation
returns-in-ComplementRelation c =
    rw c.in-ComplementRelation.is (λ ss es finds s r. (
      s,
      turn_step c.args.names.now.base.now.count (EventsNamed c.args.names.now)
          (PairsNamed c.args.names.now) es c.args.self.now.relations c.turn.new.self finds r
          c.turn.ensures,
    ))
