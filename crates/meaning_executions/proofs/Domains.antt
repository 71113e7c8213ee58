-- The domain, and the runs over it, are the same by numbers as by names.
use Rattle.std.proofs.Common.{ℕ, suc, ◌≡◌, ◌<◌, ◌+◌, Bool, false, List, [], ◌∷◌, map, length, refl, sym, ap, ap₂, subst, ◌∙◌, arith, Vec, cond}
use Rattle.std.specs.List.{count_by, sum_by}
use Rattle.std.specs.declared.alloc.Global.{Global}
use Rattle.std.proofs.lemmas.List.Sums.{sum_by-cons}
use Rattle.text_values.specs.declared.test.Test.{Test}
use Rattle.text_values.specs.declared.test.Thread.{Thread}
use Rattle.text_values.specs.declared.test.Step.{Step}
use Rattle.text_values.specs.declared.test.Step.TheVariants.{Label, Instruction}
use Rattle.text_values.specs.TestValue.{content_of, thread_steps}
use Rattle.thread_runs.specs.declared.instruction.Line.{Line}
use Rattle.thread_runs.specs.declared.instruction.Program.{Program}
use Rattle.thread_runs.specs.Runs as by_number
use Rattle.ppc_lowering.specs.Domain.{InDomainAt, has_load, load_total}
use Rattle.ppc_lowering.specs.Lowering.{AreThreadLines, IsProgram, LowersTo, lowered_line}
use Rattle.meaning.specs.Names.{Name, locations}
use Rattle.meaning.specs.Machine.{is_load}
use Rattle.meaning.specs.Runs.{Run, IsRun}
use Rattle.meaning.specs.Domain.{InDomain, InRound, instruction_count}
use Rattle.meaning_executions.specs.Values.{AreSameSets}
use Rattle.meaning_executions.specs.Runs.{IsSameRun}
use Rattle.meaning_executions.specs.Domain.{AreSameRuns, IsNumberedRun}
use Rattle.meaning_executions.proofs.Machines.{loading}
use Rattle.meaning_executions.proofs.Starts.{runs_alike}
use Rattle.meaning_executions.proofs.Rounds.{values_down, values_up, run_by_name, run_by_number, rounds_alike}

-- ---- The number of loads

module _ (q : Step → Bool)
    (same : (labels : List Name) (x : Step) → has_load (lowered_line labels x) ≡ q x) where
  count : (labels : List Name) (xs : List Step)
      → count_by has_load (map (lowered_line labels) xs) ≡ count_by q xs
  count labels [] = refl
  count labels (x ∷ xs) =
      sum_by-cons (λ (y : Line). cond (has_load y) 1 0) (lowered_line labels x)
      (map (lowered_line labels) xs)
      ∙ ap₂ (λ (b : Bool) (n : ℕ). cond b 1 0 + n) (same labels x) (count labels xs)
      ∙ sym (sum_by-cons (λ (y : Step). cond (q y) 1 0) x xs)

  count_lowered : (xs : List Step) (lines : List Line) → LowersTo xs lines
      → count_by has_load lines ≡ count_by q xs
  count_lowered xs lines (labels, names, is) =
      ap (λ (ls : List Line). count_by has_load ls) is ∙ count labels xs

  total : (threads : List Thread) (lines : List (Vec Line Global)) → AreThreadLines threads lines
      → sum_by (λ (ls : Vec Line Global). count_by has_load ls.items) lines
      ≡ sum_by (λ (xs : List Step). count_by q xs) (map thread_steps threads)
  total [] [] are = refl
  total [] (l ∷ ls) are = absurd (let e : _ = are.each_one in omega arith)
  total (t ∷ ts) [] are = absurd (let e : _ = are.each_one in omega arith)
  total (t ∷ ts) (l ∷ ls) are =
      sum_by-cons (λ (ks : Vec Line Global). count_by has_load ks.items) l ls
      ∙ ap₂ (λ (m n : ℕ). m + n)
      (count_lowered t.steps.items l.items (are.each 0 t l (omega arith)))
      (total ts ls (record {
        each_one = let e : _ = are.each_one in omega arith;
        each = λ k d m lt. are.each (suc k) d m (omega arith);
      }))
      ∙ sym (sum_by-cons (λ (xs : List Step). count_by q xs) t.steps.items (map thread_steps ts))

abbrev loads_in_text : Step → Bool
loads_in_text (Label l) = false
loads_in_text (Instruction i) = is_load i

line_loads : (labels : List Name) (x : Step)
    → has_load (lowered_line labels x) ≡ loads_in_text x
line_loads labels (Label l) = refl
line_loads labels (Instruction i) = loading labels i

loads_are : (t : Test) (p : Program) → IsProgram t p
    → load_total p ≡ instruction_count is_load (content_of t)
loads_are t p of = total loads_in_text line_loads t.threads.items p.threads.items of.threads

-- ---- Runs

module _ (t : Test) (p : Program) (of : IsProgram t p) where
  abbrev names : List Name
  names = locations (content_of t)

  pub same_domain : AreSameSets names (InDomainAt p (load_total p)) (InDomain (content_of t))
  same_domain =
      subst
      (λ (k : ℕ). AreSameSets names (InDomainAt p (load_total p)) (InRound (content_of t) k))
      (loads_are t p of) (rounds_alike t p of (load_total p))

  module _ (thread : ℕ) (there : thread < length t.threads.items) where
    abbrev labels : List Name
    labels = (runs_alike t p of thread there).labels

    run_down : (r : by_number.Run) → IsNumberedRun p thread r
        → (q : Run) × IsRun (content_of t) (InDomain (content_of t)) thread q
        × IsSameRun names labels r.outcome q
    run_down r (all, is) =
        let ws : _ = values_down names (InDomainAt p (load_total p)) (InDomain (content_of t))
        same_domain.by_name r.values all in
        let run : _ = run_by_name names labels
        ((runs_alike t p of thread there).runs r.values ws.0 ws.1) r.outcome is in
        (run.0, (ws.0, ws.2, run.1), run.2)

    run_up : (q : Run) → IsRun (content_of t) (InDomain (content_of t)) thread q
        → (r : by_number.Run) × IsNumberedRun p thread r × IsSameRun names labels r.outcome q
    run_up q (ws, all, is) =
        let vs : _ = values_up names (InDomainAt p (load_total p)) (InDomain (content_of t))
        same_domain.by_number ws all in
        let run : _ = run_by_number names labels
        ((runs_alike t p of thread there).runs vs.0 ws vs.1) q is in
        (record { values = vs.0; outcome = run.0 }, (vs.2, run.1), run.2)

    pub same_runs : AreSameRuns (content_of t) p thread
    same_runs = record {
      labels = labels;
      numbered = (runs_alike t p of thread there).numbered;
      by_name = run_down;
      by_number = run_up;
    }
