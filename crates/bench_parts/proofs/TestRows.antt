-- Rows of tests after an edit.
use Rattle.std.proofs.Common.{ℕ, zero, suc, ◌+◌, ◌-◌, ◌<◌, ◌≤◌, ◌≡◌, ◌≢◌, inl, inr, List, [], ◌∷◌, length, map, get_or, Option, Some, None, refl, sym, ap, subst, ◌∙◌, ne_eqb, arith}
use Rattle.std.specs.List.{AllByRecursion as Each}
use Rattle.std.proofs.lemmas.Bool.Decides.{leb_tells}
use Rattle.std.proofs.lemmas.List.{length-map, get_or-map}
use Rattle.text_values.specs.declared.test.Test.{Test}
use Rattle.text_values.specs.declared.test.Thread.{Thread}
use Rattle.text_values.specs.TestValue.{formula_of, thread_steps}
use Rattle.bench_nodes.specs.declared.table.TestRow.{TestRow}
use Rattle.bench_nodes.specs.Nodes.{stamp_in}
use Rattle.bench_parts.specs.Built.{IsStamp, IsTestRow}
use Rattle.bench_parts.specs.Contents.{PartContent, OfCondition, OfObserved, OfLocations, OfInit, OfThread, test_part}
use Rattle.bench_parts.specs.TableLaws.{WasTestRow, IsTestAfter}
use Rattle.bench_parts.specs.Stamps.{IsPartNow, raised, IsStampOf}
use Rattle.bench_parts.specs.Tests.{TestEntry, held_by, stamp_by, thread_at, thread_by, thread_stamp_by}
use Rattle.bench_parts.proofs.Stamping.{raised_low, part_now, stamp_now}

-- ---- parts, one by one

by_part : (P : ℕ → Type 0) → P 2 → P 3 → P 4 → P 5
    → ((part : ℕ) → part ≢ 2 → part ≢ 3 → part ≢ 4 → part ≢ 5 → P part) → (part : ℕ) → P part
by_part P a b c d e zero = e 0 (omega arith) (omega arith) (omega arith) (omega arith)
by_part P a b c d e (suc zero) = e 1 (omega arith) (omega arith) (omega arith) (omega arith)
by_part P a b c d e (suc (suc zero)) = a
by_part P a b c d e (suc (suc (suc zero))) = b
by_part P a b c d e (suc (suc (suc (suc zero)))) = c
by_part P a b c d e (suc (suc (suc (suc (suc zero))))) = d
by_part P a b c d e (suc (suc (suc (suc (suc (suc n)))))) =
    e (suc (suc (suc (suc (suc (suc n)))))) (omega arith) (omega arith) (omega arith) (omega arith)

part_of_thread : (t : Test) (ls : List (List ℕ)) (part : ℕ) → part ≢ 2 → part ≢ 3 → part ≢ 4
    → part ≢ 5 → test_part t ls part ≡ thread_at t.threads.items (part - 6)
part_of_thread t ls part a b c d =
    rw (ne_eqb part 2 a, ne_eqb part 3 b, ne_eqb part 4 c, ne_eqb part 5 d) refl

stamp_of_thread : (r : TestRow) (part : ℕ) → part ≢ 2 → part ≢ 3 → part ≢ 4 → part ≢ 5
    → stamp_in r part ≡ get_or r.threads.items (part - 6) 0
stamp_of_thread r part a b c d =
    rw (ne_eqb part 2 a, ne_eqb part 3 b, ne_eqb part 4 c, ne_eqb part 5 d) refl

held_thread : (held : Option TestEntry) (part : ℕ) → part ≢ 2 → part ≢ 3 → part ≢ 4 → part ≢ 5
    → held_by held part ≡ thread_by held (part - 6)
held_thread None part a b c d = refl
held_thread (Some e) part a b c d = part_of_thread e.test e.locations part a b c d

stamp_held : (held : Option TestEntry) (part : ℕ) → part ≢ 2 → part ≢ 3 → part ≢ 4 → part ≢ 5
    → stamp_by held part ≡ thread_stamp_by held (part - 6)
stamp_held None part a b c d = refl
stamp_held (Some e) part a b c d = stamp_of_thread e.row part a b c d

pub row_stamps : (fresh : ℕ) (held : Option TestEntry) (test : Test) (locations : List (List ℕ))
    (row : TestRow)
    → IsStampOf fresh (held_by held 2) (stamp_by held 2)
    (Some (OfCondition test.condition.quantifier (formula_of test.condition.proposition)))
    row.condition
    → IsStampOf fresh (held_by held 3) (stamp_by held 3) (Some (OfObserved test.observed.items))
    row.observed
    → IsStampOf fresh (held_by held 4) (stamp_by held 4) (Some (OfLocations locations))
    row.locations
    → IsStampOf fresh (held_by held 5) (stamp_by held 5) (Some (OfInit test.init.items)) row.init
    → ((k : ℕ)
    → IsStampOf fresh (thread_by held k) (thread_stamp_by held k)
    (thread_at test.threads.items k) (get_or row.threads.items k 0))
    → (part : ℕ)
    → IsStampOf fresh (held_by held part) (stamp_by held part) (test_part test locations part)
    (stamp_in row part)
row_stamps fresh held test locations row a b c d e =
    by_part
    (λ part. IsStampOf fresh (held_by held part) (stamp_by held part)
    (test_part test locations part) (stamp_in row part)) a b c d
    (λ part n2 n3 n4 n5. rw (
      held_thread held part n2 n3 n4 n5,
      stamp_held held part n2 n3 n4 n5,
      part_of_thread test locations part n2 n3 n4 n5,
      stamp_of_thread row part n2 n3 n4 n5,
    )
    (e (part - 6)))

-- ---- lists

each_at : (P : ℕ → Type 0) (xs : List ℕ) (k : ℕ) → Each P xs → k < length xs → P (get_or xs k 0)
each_at P [] k h lt = absurd (omega arith)
each_at P (x ∷ xs) zero h lt = h.0
each_at P (x ∷ xs) (suc k) h lt = each_at P xs k h.1 (omega arith)

each_of : (P : ℕ → Type 0) (xs : List ℕ) → ((k : ℕ) → k < length xs → P (get_or xs k 0)) → Each P xs
each_of P [] h = tt
each_of P (x ∷ xs) h = (h 0 (omega arith), each_of P xs (λ k lt. h (suc k) (omega arith)))

past : (xs : List ℕ) (k : ℕ) → length xs ≤ k → get_or xs k 0 ≡ 0
past [] k le = refl
past (x ∷ xs) zero le = absurd (omega arith)
past (x ∷ xs) (suc k) le = past xs k (omega arith)

at_most : (last : ℕ) (xs : List ℕ) (k : ℕ) → Each (IsStamp last) xs → get_or xs k 0 ≤ last
at_most last [] k h = omega arith
at_most last (x ∷ xs) zero h = h.0.1
at_most last (x ∷ xs) (suc k) h = at_most last xs k h.1

thread_there : (ts : List Thread) (k : ℕ) (c : PartContent) → thread_at ts k ≡ Some c
    → k < length ts
thread_there [] k c e = cc
thread_there (t ∷ ts) zero c e = omega arith
thread_there (t ∷ ts) (suc k) c e = let lt = thread_there ts k c e in omega (arith, lt)

there_thread : (ts : List Thread) (k : ℕ) → k < length ts
    → (c : PartContent) × (thread_at ts k ≡ Some c)
there_thread [] k lt = absurd (omega arith)
there_thread (t ∷ ts) zero lt = (OfThread (thread_steps t), refl)
there_thread (t ∷ ts) (suc k) lt = there_thread ts k (omega arith)

no_thread : (ts : List Thread) (k : ℕ) → length ts ≤ k → thread_at ts k ≡ None
no_thread [] k le = refl
no_thread (t ∷ ts) zero le = absurd (omega arith)
no_thread (t ∷ ts) (suc k) le = no_thread ts k (omega arith)

abbrev IsThreadStamp : ℕ → Option TestEntry → List Thread → List ℕ → ℕ → Type 0
IsThreadStamp fresh held ts stamps k =
    IsStampOf fresh (thread_by held k) (thread_stamp_by held k) (thread_at ts k) (get_or stamps k 0)

-- where no thread is, there is no stamp
pub thread_stamps : (fresh : ℕ) (held : Option TestEntry) (ts : List Thread) (stamps : List ℕ)
    → length stamps ≡ length ts → ((k : ℕ) → k < length ts → IsThreadStamp fresh held ts stamps k)
    → (k : ℕ) → IsThreadStamp fresh held ts stamps k
thread_stamps fresh held ts stamps e h k = elim (leb_tells (suc k) (length ts)) [
  | inl within ↦ h k (omega (arith, within.1))
  | inr beyond ↦ none (omega (arith, beyond.1))
]
  where
    none : length ts ≤ k → IsThreadStamp fresh held ts stamps k
    none le = rw (no_thread ts k le) (past stamps k (omega (arith, le, e)))

-- ---- the row before

pub row_low : (last : ℕ) (r : TestRow) (t : Test) → IsTestRow last r t → (part : ℕ)
    → stamp_in r part ≤ last
row_low last r t w =
    by_part (λ part. stamp_in r part ≤ last) w.condition.1 w.observed.1 w.locations.1 w.init.1
    (λ part n2 n3 n4 n5. rw (stamp_of_thread r part n2 n3 n4 n5)
    (at_most last r.threads.items (part - 6) w.threads))

was_low : (last : ℕ) (held : Option TestEntry) → WasTestRow last held → (part : ℕ)
    → stamp_by held part ≤ last
was_low last None w part = omega arith
was_low last (Some e) w part = row_low last e.row e.test w part

row_stamped : (last : ℕ) (e : TestEntry) → IsTestRow last e.row e.test
    → (part : ℕ) (c : PartContent) → test_part e.test e.locations part ≡ Some c
    → IsStamp last (stamp_in e.row part)
row_stamped last e w =
    by_part (λ part. (c : PartContent) → test_part e.test e.locations part ≡ Some c
    → IsStamp last (stamp_in e.row part))
    (λ c h. w.condition) (λ c h. w.observed) (λ c h. w.locations) (λ c h. w.init)
    (λ part n2 n3 n4 n5 c h.
    let there = thread_there e.test.threads.items (part - 6) c (sym (part_of_thread e.test e.locations part n2 n3 n4 n5) ∙ h) in
    rw (stamp_of_thread e.row part n2 n3 n4 n5) (each_at (IsStamp last) e.row.threads.items
    (part - 6) w.threads (omega (arith, there, w.each_thread))))

was_stamped : (last : ℕ) (held : Option TestEntry) → WasTestRow last held
    → (part : ℕ) (c : PartContent) → held_by held part ≡ Some c → IsStamp last (stamp_by held part)
was_stamped last None w part c h = cc
was_stamped last (Some e) w part c h = row_stamped last e w part c h

-- ---- the row after

module _ (last number id : ℕ) (before : Option TestEntry) (test : Test) (locations : List (List ℕ))
    (new : TestRow) (a : IsTestAfter last number before id test locations new) where
  stamp_after : (part : ℕ) (c : PartContent) → test_part test locations part ≡ Some c
      → IsStamp number (raised last number (stamp_in a.row part))
  stamp_after part c e =
      stamp_now last number (stamp_by before part) (stamp_in a.row part) (held_by before part) c
      a.later (was_stamped last before a.was part c)
      (rw e at (a.made.stamps part))

  raised_threads : (k : ℕ) → k < length a.row.threads.items
      → get_or new.threads.items k 0 ≡ raised last number (get_or a.row.threads.items k 0)
  raised_threads k lt =
      ap (λ (l : List ℕ). get_or l k 0) a.raised.threads
      ∙ get_or-map (raised last number) a.row.threads.items k 0 0 lt

  raised_length : length new.threads.items ≡ length a.row.threads.items
  raised_length =
      ap (λ (l : List ℕ). length l) a.raised.threads
      ∙ length-map a.row.threads.items (raised last number)

  thread_stamp : (k : ℕ) → k < length a.row.threads.items
      → IsStamp number (raised last number (get_or a.row.threads.items k 0))
  thread_stamp k lt =
      let there = there_thread test.threads.items k (omega (arith, a.made.each_thread)) in
      let e : (k + 6) - 6 ≡ k = omega arith in
      let n2 : k + 6 ≢ 2 = omega arith in let n3 : k + 6 ≢ 3 = omega arith in let n4 : k + 6 ≢ 4 = omega arith in let n5 : k + 6 ≢ 5 = omega arith in
      let part : test_part test locations (k + 6) ≡ Some there.0 = part_of_thread test locations (k + 6) n2 n3 n4 n5 ∙ (ap (thread_at test.threads.items) e ∙ there.1) in
      let stamp : stamp_in a.row (k + 6) ≡ get_or a.row.threads.items k 0 = stamp_of_thread a.row (k + 6) n2 n3 n4 n5 ∙ ap (λ (i : ℕ). get_or a.row.threads.items i 0) e in
      subst (λ (s : ℕ). IsStamp number (raised last number s)) stamp
      (stamp_after (k + 6) there.0 part)

  pub test_stamped : IsTestRow number new test
  test_stamped = record {
    condition =
        subst (IsStamp number) (sym a.raised.condition) (stamp_after 2
        (OfCondition test.condition.quantifier (formula_of test.condition.proposition)) refl);
    observed =
        subst (IsStamp number) (sym a.raised.observed)
        (stamp_after 3 (OfObserved test.observed.items) refl);
    locations =
        subst (IsStamp number) (sym a.raised.locations)
        (stamp_after 4 (OfLocations locations) refl);
    init = subst (IsStamp number) (sym a.raised.init) (stamp_after 5 (OfInit test.init.items) refl);
    threads =
        each_of (IsStamp number) new.threads.items (λ k lt.
        let l : k < length a.row.threads.items = omega (arith, raised_length) in
        subst (IsStamp number) (sym (raised_threads k l)) (thread_stamp k l));
    each_thread = raised_length ∙ a.made.each_thread;
  }

  -- the stamp of a part is raised
  raised_part : (part : ℕ) → stamp_in new part ≡ raised last number (stamp_in a.row part)
  raised_part =
      by_part (λ part. stamp_in new part ≡ raised last number (stamp_in a.row part))
      a.raised.condition a.raised.observed a.raised.locations a.raised.init
      (λ part n2 n3 n4 n5. stamp_of_thread new part n2 n3 n4 n5
      ∙ (raised_thread (part - 6)
      ∙ ap (raised last number) (sym (stamp_of_thread a.row part n2 n3 n4 n5))))
    where
      raised_zero : raised last number 0 ≡ 0
      raised_zero = raised_low last number 0 (omega arith)

      raised_thread : (k : ℕ)
          → get_or new.threads.items k 0 ≡ raised last number (get_or a.row.threads.items k 0)
      raised_thread k =
          ap (λ (l : List ℕ). get_or l k 0) a.raised.threads ∙ all_raised a.row.threads.items k
        where
          all_raised : (xs : List ℕ) (k : ℕ)
              → get_or (map (raised last number) xs) k 0 ≡ raised last number (get_or xs k 0)
          all_raised [] k = sym raised_zero
          all_raised (x ∷ xs) zero = refl
          all_raised (x ∷ xs) (suc k) = all_raised xs k

  pub parts_now : (part : ℕ)
      → IsPartNow (held_by before part) (stamp_by before part) number
      (test_part test locations part) (stamp_in new part)
  parts_now part =
      rw (raised_part part) (part_now last number (stamp_by before part) (stamp_in a.row part)
      (held_by before part) (test_part test locations part) a.later
      (was_low last before a.was part) (a.made.stamps part))

-- ---- rows that stay

stamps_stay : (last number : ℕ) (xs : List ℕ) → last ≤ number → Each (IsStamp last) xs
    → Each (IsStamp number) xs
stamps_stay last number [] le h = tt
stamps_stay last number (x ∷ xs) le h =
    ((h.0.0, omega (arith, h.0.1)), stamps_stay last number xs le h.1)

pub row_stays : (last number : ℕ) (row : TestRow) (test : Test) → last ≤ number
    → IsTestRow last row test → IsTestRow number row test
row_stays last number row test le w = record {
  condition = (w.condition.0, omega (arith, w.condition.1));
  observed = (w.observed.0, omega (arith, w.observed.1));
  locations = (w.locations.0, omega (arith, w.locations.1));
  init = (w.init.0, omega (arith, w.init.1));
  threads = stamps_stay last number row.threads.items le w.threads;
  each_thread = w.each_thread;
}
