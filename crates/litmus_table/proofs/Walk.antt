-- The checks of labels, thread by thread.
use Rattle.std.proofs.Common.{◌≡◌, ℕ, zero, suc, ◌+◌, ◌<◌, ◌≤◌, List, [], ◌∷◌, length, get_or, drop, Option, Some, None, refl, ap, ◌∙◌, subst, arith}
use Rattle.std.proofs.lemmas.List.{drop_all}
use Rattle.litmus_tokens.specs.Texts as texts
use Rattle.litmus_table.specs.declared.late.LateFault.{LateFault}
use Rattle.litmus_table.specs.declared.late.PlacedThread.{PlacedThread}
use Rattle.litmus_table.specs.Checks.{first_from, first_fault, IsFoundAt}
use Rattle.litmus_table.specs.Late.{Late, Note, or_else, late_notes, first_late}
use Rattle.litmus_table.specs.Laws.{AreNoted}
use Rattle.litmus_words.specs.Machine.{ThreadSteps}
use Rattle.litmus_table.specs.Reading.{thread_of, threads_of}
use Rattle.litmus_table.proofs.Labels.{late_found}

-- what the checks find in a thread
abbrev pub found_in : ThreadSteps → Option LateFault
found_in t = first_fault (λ w. first_from w 0 t.steps) 0 t.steps t.offsets

module _ (text : List texts.TokenAt) where
  none_late : (found : Option LateFault) (late : Option Late) → found ≡ None
      → IsFoundAt text found late → late ≡ None
  none_late None None e f = refl
  none_late None (Some late) e f = absurd f
  none_late (Some fault) late e f = absurd cc

  some_late : (found : Option LateFault) (fault : LateFault) (late other : Option Late)
      → found ≡ Some fault → IsFoundAt text found late
      → IsFoundAt text (Some fault) (or_else late other)
  some_late (Some f) fault (Some late) other e x =
      subst (λ (o : Option LateFault). IsFoundAt text o (Some late)) e x
  some_late (Some f) fault None other e x = absurd x
  some_late None fault late other e x = absurd cc

  -- a thread in which nothing is found
  pub passed : (nss : List (List Note)) (ts : List PlacedThread) (k : ℕ) (d : PlacedThread)
      → AreNoted text nss (threads_of ts) → k < length ts
      → found_in (thread_of (get_or ts k d)) ≡ None
      → first_late (drop k nss) ≡ first_late (drop (k + 1) nss)
  passed (ns ∷ nss) (t ∷ ts) zero d a lt e =
      ap (λ (o : Option Late). or_else o (first_late nss)) (none_late (found_in (thread_of t))
      (late_notes [] ns) e (late_found text t.steps.items [] t.offsets.items [] ns a.0.each
      a.0.marked (λ w. refl)))
  passed (ns ∷ nss) (t ∷ ts) (suc k) d a lt e =
      let less : k < length ts = omega arith in
      let more : suc (k + 1) ≡ suc k + 1 = omega arith in
      passed nss ts k d a.1 less e ∙ ap (λ (i : ℕ). first_late (drop i (ns ∷ nss))) more
  passed [] (t ∷ ts) k d a lt e = absurd a
  passed nss [] k d a lt e = absurd (omega arith)

  -- the first in which something is found
  pub stopped : (nss : List (List Note)) (ts : List PlacedThread) (k : ℕ) (d : PlacedThread)
      (fault : LateFault) → AreNoted text nss (threads_of ts) → k < length ts
      → found_in (thread_of (get_or ts k d)) ≡ Some fault
      → IsFoundAt text (Some fault) (first_late (drop k nss))
  stopped (ns ∷ nss) (t ∷ ts) zero d fault a lt e =
      some_late (found_in (thread_of t)) fault (late_notes [] ns) (first_late nss) e
      (late_found text t.steps.items [] t.offsets.items [] ns a.0.each a.0.marked (λ w. refl))
  stopped (ns ∷ nss) (t ∷ ts) (suc k) d fault a lt e =
      let less : k < length ts = omega arith in stopped nss ts k d fault a.1 less e
  stopped [] (t ∷ ts) k d fault a lt e = absurd a
  stopped nss [] k d fault a lt e = absurd (omega arith)

  noted_length : (nss : List (List Note)) (ts : List PlacedThread)
      → AreNoted text nss (threads_of ts) → length nss ≡ length ts
  noted_length [] [] a = refl
  noted_length (ns ∷ nss) (t ∷ ts) a = let e = noted_length nss ts a.1 in omega arith
  noted_length [] (t ∷ ts) a = absurd a
  noted_length (ns ∷ nss) [] a = absurd a

  pub all_passed : (nss : List (List Note)) (ts : List PlacedThread) (k : ℕ)
      → AreNoted text nss (threads_of ts) → length ts ≤ k → first_late (drop k nss) ≡ None
  all_passed nss ts k a le =
      let e = noted_length nss ts a in ap first_late (drop_all k nss (omega arith))
