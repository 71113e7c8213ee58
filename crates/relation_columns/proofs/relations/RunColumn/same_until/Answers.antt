use Rattle.std.proofs.Common.{◌≡◌, ◌<◌, ap, length}
use Rattle.bit_rows.specs.Relation.{no_slot}
use Rattle.relation_columns.specs.Storage.{run_ends}
use Rattle.relation_columns.proofs.Expanding.{as_many_ends, inside_runs, read_end, read_same}
use Rattle.relation_columns.proofs.relations.RunColumn.same_until.Goals as goal

pub run_at-requires-clause-inside : goal.run_at-requires-clause-inside
run_at-requires-clause-inside c =
    let same : run_ends c.as_slice-runs.result.now ≡ run_ends c.self.inside.runs.items = ap (λ rs. run_ends rs) c.as_slice-runs.ensures.value in
    inside_runs _ _ _ _ _ c.self.invariant.0 c.self.view_is same c.requires

pub returns-clause-within : goal.returns-clause-within
returns-clause-within c =
    let same : run_ends c.as_slice-runs.result.now ≡ run_ends c.self.inside.runs.items = ap (λ rs. run_ends rs) c.as_slice-runs.ensures.value in
    let inside : c.run_at.result < length (run_ends c.as_slice-runs.result.now) = rw (as_many_ends c.as_slice-runs.result.now) c.run_at.ensures.run in
    read_end _ _ _ _ _ _ c.self.invariant.0 c.self.view_is same inside c.end_at.ensures

pub returns-clause-same : goal.returns-clause-same
returns-clause-same c =
    let same : run_ends c.as_slice-runs.result.now ≡ run_ends c.self.inside.runs.items = ap (λ rs. run_ends rs) c.as_slice-runs.ensures.value in
    let inside : c.run_at.result < length (run_ends c.as_slice-runs.result.now) = rw (as_many_ends c.as_slice-runs.result.now) c.run_at.ensures.run in
    read_same no_slot _ _ _ _ _ _ _ c.self.invariant.0 c.self.view_is same inside
    c.run_at.ensures.from_start c.run_at.ensures.open c.end_at.ensures
