use Rattle.std.proofs.Common.{◌∙◌, ◌<◌, ◌≤◌, length, arith}
use Rattle.std.proofs.lemmas.List.{append-nil, drop_all, take_all}
use Rattle.memo_core.specs.Views.{shown_outputs}
use Rattle.memo_engine.proofs.StoreLemmas.{restamp_step, changed_push}
use Rattle.memo_engine.proofs.stores.restamp.Goals as goal

pub loop-i-preserved : goal.loop-i-preserved
loop-i-preserved g c =
    let same = g.T.Texts.same in
    let within : c.loop-i.i < length c.loop-i.outputs = omega arith in
    record {
      outputs =
          restamp_step same (shown_outputs c.args.old.now) c.args.number c.loop-i.outputs c.loop-i.i
          c.index-outputs-i.result c.restamp_one.new.output within c.restamp_one.ensures.output
          ∙ c.loop-i.invariant.outputs;
      names =
          changed_push same (shown_outputs c.args.old.now) c.loop-i.names.items
          c.restamp_one.new.names.items c.loop-i.outputs c.loop-i.i c.index-outputs-i.result
          c.restamp_one.new.output within c.restamp_one.ensures.names
          ∙ c.loop-i.invariant.names;
      few = omega (arith, c.restamp_one.ensures.len, c.loop-i.invariant.few);
      room = omega (arith, c.restamp_one.ensures.capacity, c.loop-i.invariant.room);
    }

pub returns-clause-outputs : goal.returns-clause-outputs
returns-clause-outputs g c =
    let over : length c.loop-i.outputs ≤ c.loop-i.i = omega arith in
    rw (
      take_all c.loop-i.i c.loop-i.outputs over,
      drop_all c.loop-i.i c.loop-i.outputs over,
      append-nil,
    ) at c.loop-i.invariant.outputs

pub returns-clause-names : goal.returns-clause-names
returns-clause-names g c =
    let over : length c.loop-i.outputs ≤ c.loop-i.i = omega arith in
    rw (drop_all c.loop-i.i c.loop-i.outputs over, append-nil) at c.loop-i.invariant.names
