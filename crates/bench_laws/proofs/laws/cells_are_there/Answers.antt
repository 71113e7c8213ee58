use Rattle.bench_laws.proofs.Runs.{settled_from_scratch, sound_after}
use Rattle.bench_laws.proofs.There.{has_just_its_cells, shows_right}
use Rattle.bench_laws.proofs.laws.cells_are_there.Goals as goal

pub returns : goal.returns
returns c = record {
  there = λ events start end s run. has_just_its_cells end (sound_after events start end s run);
  right = λ events start end s run.
      shows_right end (sound_after events start end s run) (λ test model o is.
      settled_from_scratch events start end s run test model o is);
}
