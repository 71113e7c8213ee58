use Rattle.std.proofs.Common.{ℕ, ◌+◌, inl, inr, refl, ap, ◌∙◌, arith}
use Rattle.std.proofs.lemmas.Result.{err_from_is_err_and}
use Rattle.session_script.proofs.Calls.{none_called, one_called, all_called}
use Rattle.watch_run.proofs.Gaining.{gains_none, gains_over, gains_joined, start_turn, turns_on_if, turns_end_if}
use Rattle.watch_run.proofs.Failing.{none_paid, more_paid, all_paid}
use Rattle.watch_run.proofs.Fronts.{on_err, front_over, front_behind, front_after, front_of_all, front_turns}
use Rattle.watch_run.proofs.answers.Run.answer_lines.Goals as goal

pub loop-turn-init : goal.loop-turn-init
loop-turn-init g c = record {
  ready = c.requires.ready;
  paths = refl;
  reads = refl;
  writes = refl;
  called = none_called (g.S.ByteSource.calls c.args.source.now);
  paid = none_paid (g.S.ByteSource.remaining c.args.source.now);
  answers = gains_none _ _ _ _ _ _ (start_turn c.new-line.result.items _ c.new-line.ensures.items);
}

pub loop-turn-preserved : goal.loop-turn-preserved
loop-turn-preserved g c = record {
  ready = c.in_ok-goes_on.ensures.ready;
  paths = c.in_ok-goes_on.ensures.paths ∙ c.loop-turn.invariant.paths;
  reads = c.in_ok-goes_on.ensures.reads ∙ c.loop-turn.invariant.reads;
  writes = c.in_ok-goes_on.ensures.writes ∙ c.loop-turn.invariant.writes;
  called =
      one_called c.loop-turn._turn (g.S.ByteSource.calls c.args.source.now)
      (g.S.ByteSource.calls c.loop-turn.source) (g.S.ByteSource.calls c.take_turn.new.source)
      c.loop-turn.invariant.called c.in_ok-goes_on.ensures.call;
  paid =
      more_paid c.loop-turn._turn (g.S.ByteSource.remaining c.args.source.now)
      (g.S.ByteSource.remaining c.loop-turn.source)
      (g.S.ByteSource.remaining c.take_turn.new.source) c.loop-turn.invariant.paid
      (c.in_ok-goes_on.ensures.paid c.if-not-goes_on.false);
  answers =
      gains_joined _ _ _ _ _ _ _ _ _ _ _ _ _ _ (λ x y first then.
      turns_on_if c.in_ok-goes_on.goes_on c.if-not-goes_on.false _ _ _ _ _ _ x y first then)
      c.loop-turn.invariant.answers (gains_over _ _ _ _ _ _ _ _ _ c.loop-turn.invariant.paths
      c.in_ok-goes_on.ensures.answers);
}

pub returns-then-not-goes_on-clause-answers : goal.returns-then-not-goes_on-clause-answers
returns-then-not-goes_on-clause-answers g c =
    gains_joined _ _ _ _ _ _ _ _ _ _ _ _ _ _ (λ x y first then.
    turns_end_if c.in_ok-goes_on.goes_on c.if-not-goes_on.true _ _ _ _ _ _ x y first then)
    c.loop-turn.invariant.answers (gains_over _ _ _ _ _ _ _ _ _ c.loop-turn.invariant.paths
    c.in_ok-goes_on.ensures.answers)

pub returns-in_err-goes_on-clause-cut : goal.returns-in_err-goes_on-clause-cut
returns-in_err-goes_on-clause-cut g c =
    on_err _ _ (front_behind _ _ _ _ _ _ _ _ _ _ _ _ _ (λ x y first then.
    front_after _ c.loop-turn.line.items _ _ x y first then)
    c.loop-turn.invariant.answers (front_over _ _ _ _ _ _ _ _ c.loop-turn.invariant.paths
    c.in_err-goes_on.ensures.cut))

pub returns-clause-cut : goal.returns-clause-cut
returns-clause-cut g c =
    front_of_all _ _ _ _ _ _ _ _ _ _ (λ x first. front_turns _ c.loop-turn.line.items _ _ x first)
    c.loop-turn.invariant.answers

pub returns-in_err-goes_on-clause-read : goal.returns-in_err-goes_on-clause-read
returns-in_err-goes_on-clause-read g c = λ e.
    let p = err_from_is_err_and c.from_residual.result c.from_residual.ensures.1 in
    inl (c.in_err-goes_on.ensures.read (cc (p.1, p.2))
    ∙ ap (λ (n : ℕ). n + 1) c.loop-turn.invariant.reads)

pub returns-clause-read : goal.returns-clause-read
returns-clause-read g c = λ e.
    inr (
      c.loop-turn.invariant.reads,
      all_called c.loop-turn._turn 16777216 (g.S.ByteSource.calls c.args.source.now)
          (g.S.ByteSource.calls c.loop-turn.source) (omega arith)
          c.loop-turn.invariant.called,
      all_paid c.loop-turn._turn 16777216 (g.S.ByteSource.remaining c.args.source.now)
          (g.S.ByteSource.remaining c.loop-turn.source) (omega arith)
          c.loop-turn.invariant.paid,
    )

pub returns-in_err-goes_on-clause-unfailed : goal.returns-in_err-goes_on-clause-unfailed
returns-in_err-goes_on-clause-unfailed g c = λ ne.
    let p = err_from_is_err_and c.from_residual.result c.from_residual.ensures.1 in
    c.in_err-goes_on.ensures.unfailed (λ e. ne (cc (p.1, p.2))) ∙ c.loop-turn.invariant.writes

pub returns-in_err-goes_on-clause-unread : goal.returns-in_err-goes_on-clause-unread
returns-in_err-goes_on-clause-unread g c = λ ne.
    let p = err_from_is_err_and c.from_residual.result c.from_residual.ensures.1 in
    c.in_err-goes_on.ensures.unread (λ e. ne (cc (p.1, p.2))) ∙ c.loop-turn.invariant.reads
