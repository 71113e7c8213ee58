-- When workers may begin their jobs, and which of them are counted. Contracts inside the crate cite
-- it.
use Rattle.std.specs.Prelude.{ℕ, ◌+◌, ◌-◌, ◌^◌, min, Bool, true, false, nat_lt, if◌then◌else◌}
use Rattle.watch_run.specs.declared.turnstile.Turns.{Turns}
use Rattle.watch_run.specs.declared.turnstile.Turn.{Turn}
use Rattle.watch_run.specs.declared.turnstile.Turn.TheVariants as turn

-- it is open after the edit of this number, and no job began
abbrev pub opened_at : (last : ℕ) → Turns
opened_at last = record { is_open = true; last = last; jobs = 0 }

-- it is closed after the edit of this number, and so many jobs began
abbrev pub closed_at : (last jobs : ℕ) → Turns
closed_at last jobs = record { is_open = false; last = last; jobs = jobs }

-- while it is open a job that was given out before the last edit is lost, and any other runs
abbrev pub turn_when : (is_open : Bool) → (last claim : ℕ) → Turn
turn_when false last claim = turn.Waits
turn_when true last claim = if nat_lt claim last then turn.Loses else turn.Runs

abbrev pub turn_for : Turns → (claim : ℕ) → Turn
turn_for turns claim = turn_when turns.is_open turns.last claim

-- a job that runs is counted, up to the greatest number
abbrev pub with_turn : Turn → Turns → Turns
with_turn turn.Waits turns = turns
with_turn turn.Loses turns = turns
with_turn turn.Runs turns = record {
  is_open = turns.is_open;
  last = turns.last;
  jobs = min (turns.jobs + 1) (2 ^ 64 - 1);
}
