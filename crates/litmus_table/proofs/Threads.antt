-- The threads of a table as a list.
use Rattle.std.proofs.Common.{◌≡◌, ℕ, zero, suc, ◌<◌, ◌≤◌, List, [], ◌∷◌, length, get_or, set, refl, ap, arith}
use Rattle.text_values.specs.declared.test.Step.{Step}
use Rattle.litmus_table.specs.declared.late.PlacedThread.{PlacedThread}
use Rattle.litmus_words.specs.Machine.{ThreadSteps, noted, put_at}
use Rattle.litmus_table.specs.Reading.{thread_of, threads_of}

pub put_is : (ts : List PlacedThread) (k : ℕ) (s : Step) (p : ℕ) (t d : PlacedThread)
    → k < length ts → thread_of t ≡ noted s p (thread_of (get_or ts k d))
    → threads_of (set ts k t) ≡ put_at k s p (threads_of ts)
put_is [] k s p t d lt e = absurd (omega arith)
put_is (u ∷ ts) zero s p t d lt e = ap (λ (x : ThreadSteps). x ∷ threads_of ts) e
put_is (u ∷ ts) (suc k) s p t d lt e =
    let less : k < length ts = omega arith in
    ap (λ (xs : List ThreadSteps). thread_of u ∷ xs) (put_is ts k s p t d less e)

pub put_nowhere : (ts : List PlacedThread) (k : ℕ) (s : Step) (p : ℕ) → length ts ≤ k
    → threads_of ts ≡ put_at k s p (threads_of ts)
put_nowhere [] k s p le = refl
put_nowhere (u ∷ ts) zero s p le = absurd (omega arith)
put_nowhere (u ∷ ts) (suc k) s p le =
    let less : length ts ≤ k = omega arith in
    ap (λ (xs : List ThreadSteps). thread_of u ∷ xs) (put_nowhere ts k s p less)
