use Rattle.std.proofs.Common.{refl, ◌∙◌, arith}
use Rattle.std.proofs.lemmas.Result.{err_from_is_err_and}
use Rattle.watch_run.proofs.Gaining.{nothing_told, begun_next, begun_all, begun_and_one}
use Rattle.watch_run.proofs.Failing.{unread_next}
use Rattle.watch_run.proofs.Fronts.{on_err}
use Rattle.watch_run.proofs.answers.Run.begin_files.Goals as goal

pub loop-index-init : goal.loop-index-init
loop-index-init g c = record {
  ready = c.requires.ready;
  paths = refl;
  begun = nothing_told _ _ _ c.new-text.ensures.items;
}

pub loop-index-preserved : goal.loop-index-preserved
loop-index-preserved g c = record {
  ready = c.in_ok-begin_file.ensures.ready;
  paths = c.in_ok-begin_file.ensures.paths ∙ c.loop-index.invariant.paths;
  begun =
      begun_next _ _ _ _ _ _ _ _ _ _ _ c.file-file.ensures c.loop-index.invariant.begun
      c.in_ok-begin_file.ensures.begun;
}

pub returns-clause-begun : goal.returns-clause-begun
returns-clause-begun g c = begun_all _ _ _ _ _ _ _ (omega arith) c.loop-index.invariant.begun

pub returns-in_err-begin_file-clause-readings : goal.returns-in_err-begin_file-clause-readings
returns-in_err-begin_file-clause-readings g c =
    on_err _ _ (begun_and_one _ _ _ _ _ _ _ _ _ c.file-file.ensures c.loop-index.invariant.begun
    c.in_err-begin_file.ensures.readings)

pub returns-in_err-begin_file-clause-read : goal.returns-in_err-begin_file-clause-read
returns-in_err-begin_file-clause-read g c = λ e.
    let p = err_from_is_err_and c.from_residual.result c.from_residual.ensures.1 in
    unread_next _ _ _ _ _ _ _ _ _ c.file-file.ensures c.loop-index.invariant.begun
    (c.in_err-begin_file.ensures.read (cc (p.1, p.2)))
