-- What a worker notes of its turns, and when it goes on. Contracts inside the crate cite it. Read
-- after Tallies.
use Rattle.std.specs.Prelude.{Bool, true, false, not}
use Rattle.memo_core.specs.declared.claims.Finish.{Finish}
use Rattle.desk.specs.declared.fault.DeskFault.{DeskFault}
use Rattle.desk.specs.declared.fault.DeskFault.TheVariants as faults
use Rattle.desk.specs.Rows.{count_after, are_too_many}
use Rattle.bench_workers.specs.declared.worker.Worker.{Worker}
use Rattle.bench_workers.specs.Tallies.{with_return, with_one_refused}

-- a return is counted, and ends a row of refusals
abbrev pub after_return : Finish → Worker → Worker
after_return finish w = record {
  tally = with_return finish w.tally;
  refusals = record { count = count_after false w.refusals.count };
}

-- a refusal for memory is counted, and is one more in a row
abbrev pub after_refusal : Worker → Worker
after_refusal w = record {
  tally = with_one_refused w.tally;
  refusals = record { count = count_after true w.refusals.count };
}

-- it goes on unless too many were refused in a row
abbrev pub goes_on : Worker → Bool
goes_on w = not (are_too_many w.refusals.count)

-- of the refusals of a claim only want of memory is counted
abbrev pub after_fault : {F : Type 0} → DeskFault F → Worker → Worker
after_fault faults.OutOfMemory w = after_refusal w
after_fault faults.Closed w = w
after_fault faults.NoSeat w = w
after_fault (faults.Edit fault) w = w
after_fault (faults.Claim fault) w = w

-- a worker that noted a refusal of a claim goes on only after want of memory
abbrev pub goes_on_after : {F : Type 0} → DeskFault F → Worker → Bool
goes_on_after faults.OutOfMemory w = goes_on w
goes_on_after faults.Closed w = false
goes_on_after faults.NoSeat w = false
goes_on_after (faults.Edit fault) w = false
goes_on_after (faults.Claim fault) w = false
