use Rattle.std.proofs.Common.{◌∙◌, ◌<◌, length, refl, ap, sym, arith}
use Rattle.std.proofs.lemmas.List.{drop_all}
use Rattle.cells.specs.Events.{task_given}
use Rattle.cells.specs.Stages.{tasks_in}
use Rattle.cells.proofs.Jobs.{given_step, given_there, tasks_set, made_given}
use Rattle.cells.proofs.stage.offer_of.Goals as goal

pub returns-then-is_of_claim-clause-tasks : goal.returns-then-is_of_claim-clause-tasks
returns-then-is_of_claim-clause-tasks g c =
    let within : c.loop-i.i < length c.loop-i.jobs = omega arith in
    tasks_set c.loop-i.jobs c.loop-i.i c.index-jobs-i-then-is_of_claim.result c.offer.new.stage
    within c.offer.ensures.tasks ∙ ap tasks_in c.loop-i.invariant.same

pub returns-then-is_of_claim-clause-made : goal.returns-then-is_of_claim-clause-made
returns-then-is_of_claim-clause-made g c =
    let within : c.loop-i.i < length c.loop-i.jobs = omega arith in
    let here = given_there c.args.claim c.loop-i.jobs c.args.jobs.now c.loop-i.i c.index-jobs-i.result c.index-jobs-i-then-is_of_claim.result c.loop-i.invariant.same within (sym c.is_of_claim.ensures ∙ c.if-is_of_claim.true) in
    made_given c.offer.result _ here.0 (task_given c.args.claim (tasks_in c.args.jobs.now)) here.1
    (sym c.loop-i.invariant.rest ∙ here.2) c.offer.ensures.made

pub returns-then-is_of_claim-clause-there : goal.returns-then-is_of_claim-clause-there
returns-then-is_of_claim-clause-there g c =
    let within : c.loop-i.i < length c.loop-i.jobs = omega arith in
    let here = given_there c.args.claim c.loop-i.jobs c.args.jobs.now c.loop-i.i c.index-jobs-i.result c.index-jobs-i-then-is_of_claim.result c.loop-i.invariant.same within (sym c.is_of_claim.ensures ∙ c.if-is_of_claim.true) in
    (here.0, sym c.loop-i.invariant.rest ∙ here.2)

pub loop-i-preserved : goal.loop-i-preserved
loop-i-preserved g c =
    let within : c.loop-i.i < length c.loop-i.jobs = omega arith in
    record {
      same = c.loop-i.invariant.same;
      rest =
          sym (rw c.loop-i.invariant.same at (given_step c.args.claim c.loop-i.jobs c.loop-i.i
          c.index-jobs-i.result within
          (sym c.is_of_claim.ensures ∙ c.if-is_of_claim.false)))
          ∙ c.loop-i.invariant.rest;
    }

pub returns-clause-tasks : goal.returns-clause-tasks
returns-clause-tasks g c = ap tasks_in c.loop-i.invariant.same

pub returns-clause-none : goal.returns-clause-none
returns-clause-none g c =
    sym (rw (drop_all c.loop-i.i c.args.jobs.now (omega arith)) at c.loop-i.invariant.rest)

pub loop-i-init : goal.loop-i-init
loop-i-init g c = record { same = refl; rest = refl }

pub bounds-jobs-i : goal.bounds-jobs-i
bounds-jobs-i g c = omega arith

pub bounds-jobs-i-then-is_of_claim : goal.bounds-jobs-i-then-is_of_claim
bounds-jobs-i-then-is_of_claim g c = omega arith

pub returns-then-is_of_claim-clause-none : goal.returns-then-is_of_claim-clause-none
returns-then-is_of_claim-clause-none g c = tt

pub returns-clause-made : goal.returns-clause-made
returns-clause-made g c = tt

pub returns-clause-there : goal.returns-clause-there
returns-clause-there g c = tt
