use Rattle.std.proofs.Common.{◌≡◌, ℕ, ◌+◌, Bool, true, false, not, List, [], ◌∷◌, ◌++◌, Some, refl, ap, subst, ◌∙◌, arith}
use Rattle.std.specs.List.{AllByRecursion as Each}
use Rattle.memo_core.specs.declared.keys.Node.{Node}
use Rattle.memo_core.specs.Graph.{stored_output}
use Rattle.memo_core.specs.Laws.{IsUsedClosed}
use Rattle.memo_core.specs.Right.{IsSoundNet}
use Rattle.memo_core.specs.Run as core
use Rattle.memo_core.specs.Run.{Bench, TextsMeaning, state_in, MemoRun, IsNewBench, IsLawfulMeaning}
use Rattle.memo_core.specs.Step.{Has}
use Rattle.memo_core.specs.Work.{WorkIsBounded, SettledIsDecided, QuietRunIsSettled}
use Rattle.memo_core.proofs.Runs.{run_right}
use Rattle.memo_core.proofs.Exact.{run_apart}
use Rattle.memo_core.proofs.Counts.{count_no_more}
use Rattle.memo_core.proofs.Headline.{untouched_edit, kept_memo}
use Rattle.cells.specs.Cells.{Cells, AreSolved, SolvedIsFromScratch, UsedIsNeeded, UnreachedIsUntouched}
use Rattle.cells.specs.CellLaws.{SettledCellIsFromScratch, UnreachedCellStays, OnlyNeededIsGiven, NoneIsOutTwice, EditBoundsWork, QuietCellsAreSettled}
use Rattle.cells.proofs.Solved.{bench_solved, carries_one}
use Rattle.cells.proofs.Listed.{runs_on}

-- what texts owe of runs and of nodes
pub record Owes {T E V G : Type 0} (means : TextsMeaning T E V G) (is_there : T → Node → Type 0)
    : Type 0 where
  pub kept : IsLawfulMeaning means
  pub sound : (t : T) → means.is_valid t → IsSoundNet means.makes (means.net t) (is_there t)
  pub there : (t : T) → means.is_valid t → Each (is_there t) ((means.net t).used)
  pub closed : (t : T) → means.is_valid t → IsUsedClosed (means.net t)

module _ {T E V G O : Type 0} (means : TextsMeaning T E V G) (of : Cells T E V O)
    (is_there : T → Node → Type 0) (owes : Owes means is_there) where
  valid_after : (es : List (core.MemoEvent E V G)) (start end : Bench T V)
      → IsNewBench means.is_valid means.net start → MemoRun means start es end → means.is_valid end.texts
  valid_after es start end s run =
      (run_right means owes.kept es start end
      (s.valid, record { each = rw s.no_memos tt; parts = s.parts }) run).0

  solved_after : (es : List (core.MemoEvent E V G)) (start end : Bench T V)
      → IsNewBench means.is_valid means.net start → MemoRun means start es end
      → AreSolved means.makes (means.net end.texts) end.memos
  solved_after es start end s run =
      let last = run_right means owes.kept es start end (s.valid, record { each = rw s.no_memos tt; parts = s.parts }) run in
      bench_solved means.is_valid means.since means.net means.makes is_there (owes.kept).given_stays
      owes.sound owes.there owes.closed end.texts end.memos end.taken last.0 last.1

  pub from_scratch_after : ((t : T) (test model : List ℕ) → means.is_valid t
      → SolvedIsFromScratch means.makes (means.net t) of.outcome_in
      (of.verdict_of t test model) (of.from_scratch t test model))
      → SettledCellIsFromScratch means of
  from_scratch_after solved es start end s run test model o cell =
      let held = solved end.texts test model (valid_after es start end s run) end.memos cell.verdict (solved_after es start end s run) cell.is cell.settled in
      subst (of.from_scratch end.texts test model)
      (carries_one of.outcome_in end.memos cell.verdict held.0 o held.1 cell.carries) held.2

  pub stays_settled : ((t u : T) (e : E) (number : ℕ) (test model : List ℕ) → means.is_valid t
      → means.edited t e number u → (of.reaches t e u test model → ⊥)
      → UnreachedIsUntouched (means.keeps u) (means.net t) (means.net u)
      (of.verdict_of t test model) (of.verdict_of u test model))
      → UnreachedCellStays means of
  stays_settled unreached es start old new e test model o s run step apart cell =
      let kept = unreached old.texts new.texts e (old.taken + 1) test model (valid_after es start old s run) step.0 apart cell.verdict cell.is in
      let same = kept_memo (means.keeps new.texts) (state_in means old) (state_in means new) cell.verdict step.1 ((kept.1 1).1) in
      record {
        verdict = cell.verdict;
        is = kept.0;
        settled =
            untouched_edit (means.keeps new.texts) (state_in means old) (state_in means new)
            cell.verdict step.1 kept.1 cell.settled;
        carries =
            record {
              stamp = cell.carries.stamp;
              value = cell.carries.value;
              first = ap (stored_output 0) same ∙ cell.carries.first;
              holds = cell.carries.holds;
            };
      }

  pub only_needed : ((t : T) → means.is_valid t → UsedIsNeeded (means.net t) (of.verdict_of t))
      → OnlyNeededIsGiven means of
  only_needed needed es start old new number n given keys values s run step =
      (needed old.texts (valid_after es start old s run) n (step.1).work.used, (step.1).work)

  pub none_twice : NoneIsOutTwice means
  none_twice es start end s run =
      (run_apart means es start end
      (record { fresh = rw s.no_claims tt; numbered = rw s.no_claims tt }) run).fresh

  not_false : (b : Bool) → not b ≡ true → b ≡ false
  not_false true h = cc
  not_false false h = refl

  pub edit_bounds : WorkIsBounded means → SettledIsDecided means → EditBoundsWork means
  edit_bounds bounded decided earlier es first old start end e is_open s run step settled more jobs
      =
      let all = runs_on means earlier (core.Edit e ∷ []) first old start run (start, step, refl) in
      let then = decided (earlier ++ core.Edit e ∷ []) first start s all in
      let now = decided ((earlier ++ core.Edit e ∷ []) ++ es) first end s (runs_on means (earlier ++ core.Edit e ∷ []) es first start end all more) in
      let low = bounded (earlier ++ core.Edit e ∷ []) es first start end then.0 now.0 s all more jobs then.1 now.1 in
      let still : (n : Node) → not (is_open n) ≡ true → then.0 n ≡ true =
      λ n t.
      let was = settled n (not_false (is_open n) t) in
      (then.1 n).1
      (untouched_edit (means.keeps start.texts) (state_in means old) (state_in means start) n
      step.1 was.1 was.0) in
      let fewer = count_no_more (λ n. not (is_open n)) then.0 still (means.net start.texts).used in
      omega (arith, low, fewer)

  pub quiet_cells : QuietRunIsSettled means
      → ((t : T) (test model : List ℕ) (n : Node) → means.is_valid t
      → of.verdict_of t test model ≡ Some n → Has (means.net t).used n)
      → QuietCellsAreSettled means of
  quiet_cells quiet used es start before end s run step none test model n is =
      quiet es start before end s run step none n (used end.texts test model n
      (rw step.1 (valid_after es start before s run)) is)
