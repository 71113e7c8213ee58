-- How watching ends. Read after Runs.
use Rattle.std.specs.Prelude.{◌≡◌, ◌≢◌, ◌⊎◌, ◌+◌, ℕ, List, [], Option, Bool, Result, Err, IfOk, OnErr}
use Rattle.command_line.specs.declared.fault.SessionFault.{SessionFault}
use Rattle.command_answers.specs.Answer.{IsReadFault}
use Rattle.watch_run.specs.declared.start.Ended.{Ended}
use Rattle.watch_run.specs.Readings.{FileReading}
use Rattle.watch_run.specs.Holding.{FilePath, all_files}
use Rattle.watch_run.specs.Runs.{IsWatchRun, IsCutRun, EndsUnread}

-- One write failed just where the fault is `Write`. No read failed, if the fault is not `Read`. So
-- none failed where it answers. It never ends for edits that others made at its desk, since there
-- are none.
pub record AreCallsOf (answer : Result Bool SessionFault) (reads reads_then writes writes_then : ℕ)
    : Type 0 where
  pub wrote : answer ≡ Err SessionFault.Write → writes_then ≡ writes + 1
  pub unfailed : answer ≢ Err SessionFault.Write → writes_then ≡ writes
  pub unread : answer ≢ Err SessionFault.Read → reads_then ≡ reads
  pub unshared : answer ≢ Err SessionFault.Shared

-- A read failed: one of the source, which is also taken for endless after so many calls, or, where
-- none did, that of a first version of these files.
abbrev pub HasFailedRead : (files : List FilePath) (reads reads_then calls calls_then : ℕ)
    (left : Option (List ℕ)) (read_before read_after : Option (List FileReading)) → Type 0
HasFailedRead files reads reads_then calls calls_then left read_before read_after =
    IsReadFault reads reads_then calls calls_then left
    ⊎ ((reads_then ≡ reads) × EndsUnread files read_before read_after)

-- So it is for a source and a sink whose calls and failed calls are counted so; and where it
-- answers, a whole run over the files of these paths was written, of the versions that were read,
-- and the answer is whether a text was refused. Where it ends by a fault, what was written is a
-- front of what such a run writes up to a line of the source, of the versions that were read first;
-- and by the fault `Read` it ends only where a read failed.
pub record IsEnded {V S K : Type 0} (calls_of reads : S → ℕ) (remaining : S → Option (List ℕ))
    (writes : K → ℕ) (readings : V → Option (List FileReading)) (contents : K → Option (List ℕ))
    (models tests : List (List ℕ)) (versions : V) (source : S) (sink : K)
    (ended : Ended V S K) : Type 0 where
  pub calls : AreCallsOf ended.answer (reads source) (reads ended.source) (writes sink)
      (writes ended.sink)
  pub run : IfOk ended.answer (λ refused. IsWatchRun models tests [] refused (remaining source)
      (readings versions) (readings ended.versions) (contents sink) (contents ended.sink))
  pub cut : OnErr ended.answer (IsCutRun models tests [] (remaining source) (readings versions)
      (readings ended.versions) (contents sink) (contents ended.sink))
  pub read : ended.answer ≡ Err SessionFault.Read
      → HasFailedRead (all_files models tests) (reads source) (reads ended.source) (calls_of source)
      (calls_of ended.source) (remaining source) (readings versions) (readings ended.versions)
