-- The runs of all threads, by number and by name.
use Rattle.std.proofs.Common.{ℕ, zero, suc, ◌≡◌, ◌<◌, ◌≤◌, ◌+◌, inl, inr, List, [], ◌∷◌, ◌++◌, length, Some, slice_get, refl, sym, ap, subst, ◌∙◌, arith, vec_len, length-append}
use Rattle.std.specs.List.{AllZip}
use Rattle.std.proofs.lemmas.Bool.{cases_lt}
use Rattle.std.proofs.lemmas.Option.{same_Some, slice_get_within}
use Rattle.std.proofs.lemmas.List.{length-map}
use Rattle.text_values.specs.declared.test.Test.{Test}
use Rattle.text_values.specs.TestValue.{content_of, thread_steps}
use Rattle.thread_runs.specs.declared.value.Value as numbered_value
use Rattle.thread_runs.specs.declared.instruction.Program.{Program}
use Rattle.thread_runs.specs.Runs as by_number
use Rattle.thread_runs.specs.Runs.{Thread, IsThreadRun}
use Rattle.thread_runs.specs.AllRuns.{thread_of}
use Rattle.ppc_lowering.specs.Domain.{threads_from, threads_of}
use Rattle.ppc_lowering.specs.Lowering.{IsProgram}
use Rattle.candidates.proofs.Elements.{in_first, behind_first}
use Rattle.meaning.specs.Runs.{Run, IsRun}
use Rattle.meaning.specs.Domain.{InDomain}
use Rattle.meaning_executions.specs.Domain.{IsNumberedRun, AreSameRuns}
use Rattle.meaning_executions.proofs.Domains.{same_runs}
use Rattle.meaning_executions.specs.ThreadRuns.{AreSameThreadRuns, none, more}
use Rattle.meaning_executions.proofs.Lists.{at_right, as_long}

-- ---- The threads of a program

pub threads_long : (p : Program) (n : ℕ) → length (threads_from p n) ≡ n
threads_long p zero = refl
threads_long p (suc n) =
    let one : _ = length-append (threads_from p n) (thread_of p n ∷ []) in
    let rest : _ = threads_long p n in
    omega (arith, one, rest)

pub thread_at : (p : Program) (n k : ℕ) → k < n
    → slice_get (threads_from p n) k ≡ Some (thread_of p k)
thread_at p zero k lt = absurd (omega (arith, lt))
thread_at p (suc n) k lt = elim (cases_lt k n) [
  | inl less ↦
      in_first (threads_from p n) (thread_of p n ∷ []) k (thread_of p k) (thread_at p n k less)
  | inr le ↦
      let same : n ≡ k = omega (arith, le, lt) in
      let long : _ = threads_long p n in
      let at : k ≡ length (threads_from p n) + 0 = omega (arith, long, same) in
      ap (λ (i : ℕ). slice_get (threads_from p n ++ thread_of p n ∷ []) i) at
      ∙ behind_first (threads_from p n) (thread_of p n ∷ []) 0
      ∙ ap (λ (i : ℕ). Some (thread_of p i)) same
]

-- two lists correspond if they do at each index
zipped : {X Y : Type 0} (R : X → Y → Type 0) (xs : List X) (ys : List Y) → length xs ≡ length ys
    → ((k : ℕ) (x : X) (y : Y) → slice_get xs k ≡ Some x → slice_get ys k ≡ Some y → R x y)
    → AllZip R xs ys
zipped R [] [] long h = tt
zipped R [] (y ∷ ys) long h = absurd (omega arith)
zipped R (x ∷ xs) [] long h = absurd (omega arith)
zipped R (x ∷ xs) (y ∷ ys) long h =
    (h 0 x y refl refl, zipped R xs ys (omega arith) (λ k v w. h (suc k) v w))

module _ (p : Program) (P : numbered_value.Value → Type 0) (rs : List by_number.Run) where
  pub threads_run : AllZip (λ s r. IsThreadRun s P r) (threads_of p) rs
      → (length rs ≡ vec_len p.threads)
      × ((k : ℕ) (r : by_number.Run) → slice_get rs k ≡ Some r → IsThreadRun (thread_of p k) P r)
  threads_run h =
      let long : length (threads_of p) ≡ length rs =
      as_long (λ s r. IsThreadRun s P r) (threads_of p) rs h in
      let many : length (threads_of p) ≡ vec_len p.threads = threads_long p (vec_len p.threads) in
      let all : length rs ≡ vec_len p.threads = omega (arith, long, many) in (
        all,
        λ k r at.
            let found : _ = at_right (λ s r. IsThreadRun s P r) (threads_of p) rs h k r at in
            let within : k < length rs = slice_get_within rs k r at in
            let same : found.0 ≡ thread_of p k =
            same_Some _ _ (sym found.1 ∙ thread_at p (vec_len p.threads) k (omega (arith, within, all))) in
            subst (λ (s : Thread). IsThreadRun s P r) same found.2,
      )

  pub runs_of_threads : length rs ≡ vec_len p.threads
      → ((k : ℕ) (r : by_number.Run) → slice_get rs k ≡ Some r → IsThreadRun (thread_of p k) P r)
      → AllZip (λ s r. IsThreadRun s P r) (threads_of p) rs
  runs_of_threads long h =
      let many : length (threads_of p) ≡ vec_len p.threads = threads_long p (vec_len p.threads) in
      zipped (λ s r. IsThreadRun s P r) (threads_of p) rs (omega (arith, long, many))
      (λ k s r at there.
      let within : k < length rs = slice_get_within rs k r there in
      let same : thread_of p k ≡ s =
      same_Some _ _ (sym (thread_at p (vec_len p.threads) k (omega (arith, within, long))) ∙ at) in
      subst (λ (u : Thread). IsThreadRun u P r) same (h k r there))

pub same_long : {t : _} {thread : ℕ} {rs : List by_number.Run} {qs : List Run}
    → AreSameThreadRuns t thread rs qs → length rs ≡ length qs
same_long none = refl
same_long (more one rest) = ap (λ (n : ℕ). suc n) (same_long rest)

-- ---- Runs that are the same

module _ (t : Test) (p : Program) (of : IsProgram t p) where
  pub thread_count : length p.threads.items ≡ length t.threads.items
  thread_count = of.threads.each_one

  pub many_threads : vec_len p.threads ≡ length (content_of t).threads
  many_threads =
      p.threads.ok.0 ∙ of.threads.each_one ∙ sym (length-map t.threads.items thread_steps)

  runs_are : (thread : ℕ) → thread < vec_len p.threads → AreSameRuns (content_of t) p thread
  runs_are thread lt =
      same_runs t p of thread
      (subst (λ (n : ℕ). thread < n) (p.threads.ok.0 ∙ of.threads.each_one) lt)

  -- the runs by name that are the same as these
  pub runs_named : (thread : ℕ) (rs : List by_number.Run) → thread + length rs ≤ vec_len p.threads
      → ((j k : ℕ) (r : by_number.Run) → j ≡ thread + k → slice_get rs k ≡ Some r
      → IsNumberedRun p j r)
      → (qs : List Run) × AreSameThreadRuns (content_of t) thread rs qs
      × ((j k : ℕ) (q : Run) → j ≡ thread + k → slice_get qs k ≡ Some q
      → IsRun (content_of t) (InDomain (content_of t)) j q)
  runs_named thread [] few are = ([], none, λ j k q e at. absurd cc)
  runs_named thread (r ∷ rs) few are =
      let alike : AreSameRuns (content_of t) p thread = runs_are thread (omega (arith, few)) in
      let one : _ = alike.by_name r (are thread 0 r (omega arith) refl) in
      let rest : _ = runs_named (suc thread) rs (omega (arith, few))
      (λ j k s e at. are j (suc k) s (omega (arith, e)) at) in (
        one.0 ∷ rest.0,
        more (record { labels = alike.labels; numbered = alike.numbered; same = one.2 }) rest.1,
        λ j k. named_each thread one.0 rest.0 one.1 rest.2 k j,
      )
    where
      named_each : (u : ℕ) (q : Run) (qs : List Run)
          → IsRun (content_of t) (InDomain (content_of t)) u q
          → ((j k : ℕ) (s : Run) → j ≡ suc u + k → slice_get qs k ≡ Some s
          → IsRun (content_of t) (InDomain (content_of t)) j s)
          → (k j : ℕ) (s : Run) → j ≡ u + k → slice_get (q ∷ qs) k ≡ Some s
          → IsRun (content_of t) (InDomain (content_of t)) j s
      named_each u q qs one rest zero j s e at =
          let here : u ≡ j = omega (arith, e) in
          subst (λ (n : ℕ). IsRun (content_of t) (InDomain (content_of t)) n s) here
          (subst (λ (v : Run). IsRun (content_of t) (InDomain (content_of t)) u v) (same_Some _ _ at) one)
      named_each u q qs one rest (suc k) j s e at = rest j k s (omega (arith, e)) at

  -- the runs by number that are the same as these
  pub runs_numbered : (thread : ℕ) (qs : List Run) → thread + length qs ≤ vec_len p.threads
      → ((j k : ℕ) (q : Run) → j ≡ thread + k → slice_get qs k ≡ Some q
      → IsRun (content_of t) (InDomain (content_of t)) j q)
      → (rs : List by_number.Run) × AreSameThreadRuns (content_of t) thread rs qs
      × ((j k : ℕ) (r : by_number.Run) → j ≡ thread + k → slice_get rs k ≡ Some r
      → IsNumberedRun p j r)
  runs_numbered thread [] few are = ([], none, λ j k q e at. absurd cc)
  runs_numbered thread (q ∷ qs) few are =
      let alike : AreSameRuns (content_of t) p thread = runs_are thread (omega (arith, few)) in
      let one : _ = alike.by_number q (are thread 0 q (omega arith) refl) in
      let rest : _ = runs_numbered (suc thread) qs (omega (arith, few))
      (λ j k s e at. are j (suc k) s (omega (arith, e)) at) in (
        one.0 ∷ rest.0,
        more (record { labels = alike.labels; numbered = alike.numbered; same = one.2 }) rest.1,
        λ j k. numbered_each thread one.0 rest.0 one.1 rest.2 k j,
      )
    where
      numbered_each : (u : ℕ) (r : by_number.Run) (rs : List by_number.Run) → IsNumberedRun p u r
          → ((j k : ℕ) (s : by_number.Run) → j ≡ suc u + k → slice_get rs k ≡ Some s
          → IsNumberedRun p j s)
          → (k j : ℕ) (s : by_number.Run) → j ≡ u + k → slice_get (r ∷ rs) k ≡ Some s
          → IsNumberedRun p j s
      numbered_each u r rs one rest zero j s e at =
          let here : u ≡ j = omega (arith, e) in
          subst (λ (n : ℕ). IsNumberedRun p n s) here
          (subst (λ (v : by_number.Run). IsNumberedRun p u v) (same_Some _ _ at) one)
      numbered_each u r rs one rest (suc k) j s e at = rest j k s (omega (arith, e)) at
