use Rattle.thread_runs.specs.ValueSet.{IsProperValue}
use Rattle.candidates.proofs.Needs.{stands, at}
use Rattle.candidates.proofs.laws.dependencies_name_events_of_their_steps.Goals as goal

pub returns : goal.returns
returns c = λ initial threads runs are thread step r there is.
    let s = stands IsProperValue threads initial runs are thread r step there is in
    (s.event, at IsProperValue threads initial runs are thread r step there s, s.kind)
