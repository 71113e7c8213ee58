-- What holds of the bench behind a desk's lock, by the list of events that leads to it.
use Rattle.std.proofs.Common.{List, [], ◌∷◌, ◌++◌, refl, sym, subst}
use Rattle.std.specs.List.{AllByRecursion as Each}
use Rattle.memo_core.specs.Run.{MemoEvent, Edit, Claim, NoClaim, Returned, Lose, Renew, Refused, MemoRun, Step}
use Rattle.memo_core.specs.Work.{IsJobEvent}
use Rattle.bench_values.specs.Givens.{GivenContent}
use Rattle.bench_values.specs.Values.{NodeContent}
use Rattle.bench_nodes.specs.Nodes.{rank}
use Rattle.bench_texts.specs.declared.edit.Edit.{Edit as Code}
use Rattle.cells.proofs.Listed.{runs_on}
use Rattle.desk.specs.Runs.{IsReachedByEvents}
use Rattle.desk.proofs.Reaching.{reached_by, reached_new}
use Rattle.bench_laws.specs.Live.{live_meaning}
use Rattle.bench_laws.specs.There.{LiveState, HoldsAfterEvents}
use Rattle.bench_laws.specs.Reached.{HoldsOfReached, IsBegun, AtFirst, AfterEdit, AfterRenewal, HasFewJobs}
use Rattle.bench_laws.proofs.Given.{bounded_from}
use Rattle.bench_laws.proofs.Ready.{each_last, apart_after}
use Rattle.bench_laws.proofs.Runs.{kept, has_ranks, sound_after}

abbrev LiveEvent : Type 0
LiveEvent = MemoEvent Code NodeContent GivenContent

pub after_events : (holds : LiveState → Type 0) → HoldsAfterEvents holds → HoldsOfReached holds
after_events holds after b r = after r.events r.first b r.is_new r.run

begun_reached : (b : LiveState) → IsBegun b → IsReachedByEvents live_meaning b
begun_reached b (AtFirst new) = reached_new live_meaning b new
begun_reached b (AfterEdit old e reached step) =
    reached_by live_meaning old b (Edit e) reached step
begun_reached b (AfterRenewal old reached step) = reached_by live_meaning old b Renew reached step

-- the job events since the last edit or renewal
record IsSince (b : LiveState) : Type 0 where
  start : LiveState
  begun : IsBegun start
  events : List LiveEvent
  run : MemoRun live_meaning start events b
  jobs : Each IsJobEvent events
  reached : IsReachedByEvents live_meaning b

begins : (b : LiveState) → IsBegun b → IsSince b
begins b begun = record {
  start = b;
  begun = begun;
  events = [];
  run = refl;
  jobs = tt;
  reached = begun_reached b begun;
}

goes_on : (old new : LiveState) (e : LiveEvent) → IsJobEvent e → IsSince old
    → Step live_meaning old e new → IsSince new
goes_on old new e job s step = record {
  start = s.start;
  begun = s.begun;
  events = s.events ++ e ∷ [];
  run = runs_on live_meaning s.events (e ∷ []) s.start old new s.run (new, step, refl);
  jobs = each_last IsJobEvent s.events e s.jobs job;
  reached = reached_by live_meaning old new e s.reached step;
}

step_since : (old new : LiveState) (e : LiveEvent) → IsSince old → Step live_meaning old e new
    → IsSince new
step_since old new (Edit e) s h = begins new (AfterEdit old e s.reached h)
step_since old new (Claim number n given keys values) s h =
    goes_on old new (Claim number n given keys values) tt s h
step_since old new NoClaim s h = goes_on old new NoClaim tt s h
step_since old new (Returned r answer) s h = goes_on old new (Returned r answer) tt s h
step_since old new (Lose n answer) s h = goes_on old new (Lose n answer) tt s h
step_since old new Renew s h = begins new (AfterRenewal old s.reached h)
step_since old new Refused s h = goes_on old new Refused tt s h

run_since_last : (es : List LiveEvent) (old new : LiveState) → IsSince old
    → MemoRun live_meaning old es new → IsSince new
run_since_last [] old new s h = subst IsSince (sym h) s
run_since_last (e ∷ es) old new s h =
    run_since_last es h.0 new (step_since old h.0 e s h.1) h.2

pub few_jobs : HoldsOfReached HasFewJobs
few_jobs b r =
    let s = run_since_last r.events r.first b (begins r.first (AtFirst r.is_new)) r.run in
    let from = begun_reached s.start s.begun in
    record {
      start = s.start;
      begun = s.begun;
      events = s.events;
      run = s.run;
      jobs = s.jobs;
      few =
          λ settled decides. bounded_from live_meaning kept (λ t. rank t.parts.table) has_ranks
          s.events s.start b settled
          (sound_after from.events from.first s.start from.is_new from.run)
          (apart_after live_meaning from.events from.first s.start from.is_new from.run) s.run
          s.jobs decides;
    }
