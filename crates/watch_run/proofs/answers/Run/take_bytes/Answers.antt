use Rattle.std.proofs.Common.{refl, ◌∙◌, arith}
use Rattle.watch_run.proofs.Gaining.{gains_none, gains_over, gains_joined, in_none, in_next}
use Rattle.watch_run.proofs.Fronts.{on_err, front_over, front_behind, next_in}
use Rattle.watch_run.proofs.answers.Run.take_bytes.Goals as goal

pub loop-byte-init : goal.loop-byte-init
loop-byte-init g c =
    record {
      ready = c.requires.ready;
      paths = refl;
      writes = refl;
      answers = gains_none _ _ _ _ _ _ (in_none c.args.line.now.items);
    }

pub loop-byte-preserved : goal.loop-byte-preserved
loop-byte-preserved g c = record {
  ready = c.in_ok-take_byte.ensures.ready;
  paths = c.in_ok-take_byte.ensures.paths ∙ c.loop-byte.invariant.paths;
  writes = c.in_ok-take_byte.ensures.writes ∙ c.loop-byte.invariant.writes;
  answers = gains_joined _ _ _ _ _ _ _ _ _ _ _ _ _ _
      (λ x y first then. in_next c.args.line.now.items c.loop-byte.line.items
      c.take_byte.new.line.items c.args.bytes.now c.loop-byte.byte-index _ x y (omega arith)
      first then)
      c.loop-byte.invariant.answers (gains_over _ _ _ _ _ _ _ _ _ c.loop-byte.invariant.paths
      c.in_ok-take_byte.ensures.answers);
}

pub returns-in_err-take_byte-clause-cut : goal.returns-in_err-take_byte-clause-cut
returns-in_err-take_byte-clause-cut g c =
    on_err _ _ (front_behind _ _ _ _ _ _ _ _ _ _ _ _ _
    (λ x y first then. next_in c.args.line.now.items c.loop-byte.line.items c.args.bytes.now
    c.loop-byte.byte-index _ x y (omega arith) first then)
    c.loop-byte.invariant.answers (front_over _ _ _ _ _ _ _ _ c.loop-byte.invariant.paths
    c.in_err-take_byte.ensures.cut))
