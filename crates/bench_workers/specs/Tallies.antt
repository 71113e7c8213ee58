-- What becomes of the jobs of workers. Each count stops at the greatest number of 64 bits.
use Rattle.std.specs.Prelude.{ℕ, ◌+◌, ◌-◌, ◌^◌, min}
use Rattle.memo_core.specs.declared.claims.Finish.{Finish}
use Rattle.memo_core.specs.declared.claims.Finish.TheVariants.{Unknown, Stale, Same, Stored}
use Rattle.bench_workers.specs.declared.tally.Tally.{Tally}

abbrev sum_of : ℕ → ℕ → ℕ
sum_of a b = min (a + b) (2 ^ 64 - 1)

-- no jobs
abbrev pub no_jobs : Tally
no_jobs = record { stored = 0; same = 0; stale = 0; unknown = 0; refused = 0 }

-- the counts with one more return, by what it came to
abbrev pub with_return : Finish → Tally → Tally
with_return Unknown t =
    record {
      stored = t.stored;
      same = t.same;
      stale = t.stale;
      unknown = sum_of t.unknown 1;
      refused = t.refused;
    }
with_return (Stale stamp) t =
    record {
      stored = t.stored;
      same = t.same;
      stale = sum_of t.stale 1;
      unknown = t.unknown;
      refused = t.refused;
    }
with_return Same t =
    record {
      stored = t.stored;
      same = sum_of t.same 1;
      stale = t.stale;
      unknown = t.unknown;
      refused = t.refused;
    }
with_return (Stored names) t =
    record {
      stored = sum_of t.stored 1;
      same = t.same;
      stale = t.stale;
      unknown = t.unknown;
      refused = t.refused;
    }

-- the counts with one more refusal
abbrev pub with_one_refused : Tally → Tally
with_one_refused t = record {
  stored = t.stored;
  same = t.same;
  stale = t.stale;
  unknown = t.unknown;
  refused = sum_of t.refused 1;
}

-- the counts of both
abbrev pub tally_sum : Tally → Tally → Tally
tally_sum a b = record {
  stored = sum_of a.stored b.stored;
  same = sum_of a.same b.same;
  stale = sum_of a.stale b.stale;
  unknown = sum_of a.unknown b.unknown;
  refused = sum_of a.refused b.refused;
}
