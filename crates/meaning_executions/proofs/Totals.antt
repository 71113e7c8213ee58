-- A program has as many events and loads as its test.
use Rattle.std.proofs.Common.{ℕ, suc, ◌≡◌, ◌+◌, Bool, false, List, [], ◌∷◌, map, length, refl, sym, ap, ap₂, ◌∙◌, arith, Vec, cond}
use Rattle.std.specs.List.{count_by, sum_by}
use Rattle.std.specs.declared.alloc.Global.{Global}
use Rattle.std.proofs.lemmas.List.Sums.{sum_by-cons}
use Rattle.text_values.specs.declared.test.Test.{Test}
use Rattle.text_values.specs.declared.test.Thread.{Thread}
use Rattle.text_values.specs.declared.test.Step.{Step}
use Rattle.text_values.specs.declared.test.Step.TheVariants.{Label, Instruction}
use Rattle.text_values.specs.declared.instruction.Instruction as text
use Rattle.text_values.specs.declared.instruction.Instruction.TheVariants as does
use Rattle.text_values.specs.TestValue.{content_of, thread_steps}
use Rattle.thread_runs.specs.declared.instruction.Line.{Line}
use Rattle.thread_runs.specs.declared.instruction.Program.{Program}
use Rattle.ppc_lowering.specs.Domain.{has_event, has_load, lines_with, load_total, event_total, makes_event}
use Rattle.ppc_lowering.specs.Lowering.{AreThreadLines, IsProgram, LowersTo, lowered_line, lowered_instruction}
use Rattle.meaning.specs.Names.{Name}
use Rattle.meaning.specs.Machine.{is_load}
use Rattle.meaning.specs.Domain.{instruction_count}
use Rattle.meaning.specs.Dependencies.{is_event}
use Rattle.meaning.specs.Refusals.{event_count}
use Rattle.meaning_executions.proofs.Located.{numbered_are}
use Rattle.meaning_executions.proofs.Machines.{loading}

abbrev passes : (text.Instruction → Bool) → Step → Bool
passes test (Label l) = false
passes test (Instruction i) = test i

module _ (q : Line → Bool) (test : text.Instruction → Bool)
    (same : (labels : List Name) (x : Step) → q (lowered_line labels x) ≡ passes test x) where
  count : (labels : List Name) (xs : List Step)
      → count_by q (map (lowered_line labels) xs) ≡ count_by (passes test) xs
  count labels [] = refl
  count labels (x ∷ xs) =
      sum_by-cons (λ (y : Line). cond (q y) 1 0) (lowered_line labels x)
      (map (lowered_line labels) xs)
      ∙ ap₂ (λ (b : Bool) (n : ℕ). cond b 1 0 + n) (same labels x) (count labels xs)
      ∙ sym (sum_by-cons (λ (y : Step). cond (passes test y) 1 0) x xs)

  count_lowered : (xs : List Step) (lines : List Line) → LowersTo xs lines
      → count_by q lines ≡ count_by (passes test) xs
  count_lowered xs lines (labels, names, is) =
      ap (λ (ls : List Line). count_by q ls) is ∙ count labels xs

  total : (threads : List Thread) (lines : List (Vec Line Global)) → AreThreadLines threads lines
      → sum_by (λ (ls : Vec Line Global). count_by q ls.items) lines
      ≡ sum_by (λ (xs : List Step). count_by (passes test) xs) (map thread_steps threads)
  total [] [] are = refl
  total [] (l ∷ ls) are = absurd (let e : _ = are.each_one in omega arith)
  total (t ∷ ts) [] are = absurd (let e : _ = are.each_one in omega arith)
  total (t ∷ ts) (l ∷ ls) are =
      sum_by-cons (λ (ks : Vec Line Global). count_by q ks.items) l ls
      ∙ ap₂ (λ (m n : ℕ). m + n)
      (count_lowered t.steps.items l.items (are.each 0 t l (omega arith)))
      (total ts ls (record {
        each_one = let e : _ = are.each_one in omega arith;
        each = λ k d m lt. are.each (suc k) d m (omega arith);
      }))
      ∙ sym (sum_by-cons (λ (xs : List Step). count_by (passes test) xs) t.steps.items (map thread_steps ts))

line_loads : (labels : List Name) (x : Step) → has_load (lowered_line labels x) ≡ passes is_load x
line_loads labels (Label l) = refl
line_loads labels (Instruction i) = loading labels i

making : (labels : List Name) (i : text.Instruction)
    → makes_event (lowered_instruction labels i) ≡ is_event i
making labels (does.LoadImmediate d n) = refl
making labels (does.Move d a) = refl
making labels (does.AddImmediate d a n) = refl
making labels (does.Compute o d a b) = refl
making labels (does.Load d a) = refl
making labels (does.LoadIndexed d a b) = refl
making labels (does.Store d a) = refl
making labels (does.StoreIndexed d a b) = refl
making labels (does.Compare a b) = refl
making labels (does.CompareImmediate a n) = refl
making labels (does.BranchIf c l) = refl
making labels (does.Branch l) = refl
making labels (does.Fence f) = refl

line_events : (labels : List Name) (x : Step)
    → has_event (lowered_line labels x) ≡ passes is_event x
line_events labels (Label l) = refl
line_events labels (Instruction i) = making labels i

module _ (t : Test) (p : Program) (of : IsProgram t p) where
  pub loads_are : load_total p ≡ instruction_count is_load (content_of t)
  loads_are = total has_load is_load line_loads t.threads.items p.threads.items of.threads

  events_in_text : lines_with has_event p ≡ instruction_count is_event (content_of t)
  events_in_text = total has_event is_event line_events t.threads.items p.threads.items of.threads

  pub events_are : event_total p ≡ event_count (content_of t)
  events_are =
      ap₂ (λ (m n : ℕ). m + n)
      (ap (λ (ns : List Name). length ns) (numbered_are t p.locations.items of.locations))
      events_in_text
