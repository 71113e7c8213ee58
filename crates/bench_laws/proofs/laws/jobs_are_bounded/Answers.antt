use Rattle.bench_nodes.specs.Nodes.{rank}
use Rattle.bench_laws.proofs.Given.{unsettled_given, given_bounded, edit_bounds_given}
use Rattle.bench_laws.proofs.JobLists.{list_bounds_given}
use Rattle.bench_laws.proofs.Runs.{kept, has_ranks}
use Rattle.bench_laws.specs.Live.{live_meaning, live_refusing, live_last}
use Rattle.bench_laws.proofs.laws.jobs_are_bounded.Goals as goal

pub returns : goal.returns
returns c =
    let bounded = given_bounded live_meaning kept (λ t. rank t.parts.table) has_ranks in
    record {
      unsettled = unsettled_given live_meaning;
      bounded = bounded;
      edited = edit_bounds_given live_meaning kept (λ t. rank t.parts.table) has_ranks;
      listed = list_bounds_given live_meaning live_refusing live_last bounded;
    }
