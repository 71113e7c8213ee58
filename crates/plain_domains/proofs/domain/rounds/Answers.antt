use Rattle.std.proofs.Common.{arith}
use Rattle.std.specs.Prelude.{Ok, Err}
use Rattle.text_values.specs.TestValue.{content_of}
use Rattle.plain_runs.specs.Runs.{ValuesOf}
use Rattle.plain_domains.specs.Domains.{IsRoundFound}
use Rattle.plain_domains.proofs.Rounds.{sound_more, listed_more, rounds_refused, rounds_sound, checked_at}
use Rattle.plain_domains.proofs.domain.rounds.Goals as goal

pub loop-round-preserved : goal.loop-round-preserved
loop-round-preserved c =
    let t = content_of c.args.test.now in
    let got : IsRoundFound t (ValuesOf c.loop-round.values.items) (Ok c.in-Ok.next) =
    checked_at t c.loop-round.values.items c.deref.result.now c.in_ok-next.field-0 (Ok c.in-Ok.next) c.deref.ensures.value c.in-Ok.is c.in_ok-next.ensures in
    record {
      listed = listed_more t c.loop-round.round c.loop-round.values.items c.in-Ok.next.items c.loop-round.invariant.listed got.1;
      sound = sound_more t c.loop-round.round c.loop-round.values.items c.loop-round.invariant.listed got.0 c.loop-round.invariant.sound;
    }

pub returns-in-Err : goal.returns-in-Err
returns-in-Err c =
    let t = content_of c.args.test.now in
    rounds_refused t c.args.count c.loop-round.round c.loop-round.values.items c.in-Err.refusal
    (omega (arith, c.loop-round-test.true)) c.loop-round.invariant.listed
    c.loop-round.invariant.sound
    (checked_at t c.loop-round.values.items c.deref.result.now c.in_ok-next.field-0 (Err c.in-Err.refusal) c.deref.ensures.value c.in-Err.is c.in_ok-next.ensures)

pub returns-in-Ok-2 : goal.returns-in-Ok-2
returns-in-Ok-2 c =
    let t = content_of c.args.test.now in
    let got : IsRoundFound t (ValuesOf c.loop-round.values.items) (Ok c.in-Ok-2.field-0) =
    checked_at t c.loop-round.values.items c.deref-2.result.now c.in_ok-checked.field-0 (Ok c.in-Ok-2.field-0) c.deref-2.ensures.value c.in-Ok-2.is c.in_ok-checked.ensures in
    rounds_sound t c.args.count c.loop-round.round c.loop-round.values
    (omega (arith, c.loop-round.auto.round-end)) (omega (arith, c.loop-round-test.false))
    c.loop-round.invariant.listed c.loop-round.invariant.sound got.0

pub returns : goal.returns
returns c =
    let t = content_of c.args.test.now in
    rounds_refused t c.args.count c.loop-round.round c.loop-round.values.items c.in-Err-2.refusal
    (omega (arith, c.loop-round.auto.round-end)) c.loop-round.invariant.listed
    c.loop-round.invariant.sound
    (checked_at t c.loop-round.values.items c.deref-2.result.now c.in_ok-checked.field-0 (Err c.in-Err-2.refusal) c.deref-2.ensures.value c.in-Err-2.is c.in_ok-checked.ensures)
