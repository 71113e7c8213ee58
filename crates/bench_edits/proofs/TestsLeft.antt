-- A test of one name before an edit and after it.
use Rattle.std.proofs.Common.{◌≡◌, ℕ, zero, suc, ◌+◌, ◌-◌, ◌≤◌, inl, inr, List, [], ◌∷◌, ◌++◌, length, map, get_or, Option, Some, None, slice_get, option_map, Vec, Global, refl, sym, ap, subst, ◌∙◌, arith}
use Rattle.std.specs.List.{AllByRecursion as Each, remove}
use Rattle.std.proofs.lemmas.Bool.Decides.{eqb_tells}
use Rattle.text_values.specs.declared.test.Test.{Test}
use Rattle.text_values.specs.declared.test.Thread.{Thread}
use Rattle.text_values.specs.TestValue.{thread_steps}
use Rattle.memo_core.specs.Step.{Has}
use Rattle.memo_core.specs.declared.keys.Key.{Key}
use Rattle.memo_core.specs.declared.keys.Key.TheVariants.{Part}
use Rattle.bench_texts.specs.BenchTexts.{put_at}
use Rattle.bench_texts.specs.Replacements.{tests_with}
use Rattle.bench_texts.specs.declared.model.NamedModel.{NamedModel}
use Rattle.bench_texts.specs.declared.replacement.Replacement.{Replacement}
use Rattle.bench_texts.specs.declared.replacement.Replacement.TheVariants as made
use Rattle.bench_nodes.specs.declared.table.TestRow.{TestRow}
use Rattle.bench_nodes.specs.Nodes.{stamp_in, thread_parts, space_parts}
use Rattle.bench_parts.specs.declared.parts.Parts.{Parts}
use Rattle.bench_parts.specs.Built.{IsStamp, IsTestRow}
use Rattle.bench_parts.specs.Contents.{PartContent, OfThread, test_part}
use Rattle.bench_parts.specs.Stamps.{next_number, raised, IsStampOf}
use Rattle.bench_parts.specs.Tests.{TestEntry, IsRowOf, IsRaisedRow}
use Rattle.bench_parts.proofs.Stamping.{raised_low}
use Rattle.bench_edits.specs.declared.edited.EditedParts.{EditedParts}
use Rattle.bench_edits.specs.declared.edited.EditedParts.TheVariants as edited
use Rattle.bench_edits.specs.Edited.{entry_at, test_id, AreTestsSame, IsTestMade, PutsTest, DropsTest}
use Rattle.bench_edits.specs.Laws.{IsEdit}
use Rattle.bench_edits.specs.Owed.{ArePartsOf}
use Rattle.bench_text_laws.specs.Orderly.{AreApart}
use Rattle.bench_edits.proofs.Lists.{one_of_key, in_removed, kept_in_put}
use Rattle.bench_edits.proofs.TestEntries.{entries, entries_put, entries_removed, entry_is, entry_name, entry_names}
use Rattle.bench_edits.proofs.Faults.{kept_stamp}

none_is : {A : Type 0} {P : Type 0} {a : A} → Some a ≡ None → P
none_is e = cc

-- ---- stamps of a row

-- a part that is not there has the stamp 0
threads_none : (ns : List ℕ) (ts : List Thread) (k : ℕ) → length ns ≡ length ts
    → option_map OfThread (slice_get (map thread_steps ts) k) ≡ None → get_or ns k 0 ≡ 0
threads_none [] ts zero l e = refl
threads_none [] ts (suc k) l e = refl
threads_none (n ∷ ns) [] k l e = absurd (omega arith)
threads_none (n ∷ ns) (t ∷ ts) zero l e = none_is e
threads_none (n ∷ ns) (t ∷ ts) (suc k) l e =
    let m : length ns ≡ length ts = omega arith in threads_none ns ts k m e

none_stamp : (r : TestRow) (t : Test) (ls : List (List ℕ))
    → length r.threads.items ≡ length t.threads.items → (part : ℕ) → test_part t ls part ≡ None
    → stamp_in r part ≡ 0
none_stamp r t ls l part = elim (eqb_tells part 2) [
  | inl is ↦ rw is.0 (λ e. none_is e)
  | inr n2 ↦ elim (eqb_tells part 3) [
    | inl is ↦ rw (n2.0, is.0) (λ e. none_is e)
    | inr n3 ↦ elim (eqb_tells part 4) [
      | inl is ↦ rw (n2.0, n3.0, is.0) (λ e. none_is e)
      | inr n4 ↦ elim (eqb_tells part 5) [
        | inl is ↦ rw (n2.0, n3.0, n4.0, is.0) (λ e. none_is e)
        | inr n5 ↦ rw (n2.0, n3.0, n4.0, n5.0) (λ e.
            threads_none r.threads.items t.threads.items (part - 6) l e)
      ]
    ]
  ]
]

thread_low : (last : ℕ) (xs : List ℕ) (k : ℕ) → Each (IsStamp last) xs → get_or xs k 0 ≤ last
thread_low last [] zero h = omega arith
thread_low last [] (suc k) h = omega arith
thread_low last (x ∷ xs) zero h = h.0.1
thread_low last (x ∷ xs) (suc k) h = thread_low last xs k h.1

row_low : (last : ℕ) (r : TestRow) (t : Test) → IsTestRow last r t → (part : ℕ)
    → stamp_in r part ≤ last
row_low last r t w part = elim (eqb_tells part 2) [
  | inl is ↦ rw is.0 w.condition.1
  | inr n2 ↦ elim (eqb_tells part 3) [
    | inl is ↦ rw (n2.0, is.0) w.observed.1
    | inr n3 ↦ elim (eqb_tells part 4) [
      | inl is ↦ rw (n2.0, n3.0, is.0) w.locations.1
      | inr n4 ↦ elim (eqb_tells part 5) [
        | inl is ↦ rw (n2.0, n3.0, n4.0, is.0) w.init.1
        | inr n5 ↦ rw (n2.0, n3.0, n4.0, n5.0)
            (thread_low last r.threads.items (part - 6) w.threads)
      ]
    ]
  ]
]

module _ (last number : ℕ) (row new : TestRow) (h : IsRaisedRow last number row new) where
  raised_thread : (k : ℕ)
      → get_or new.threads.items k 0 ≡ raised last number (get_or row.threads.items k 0)
  raised_thread k = ap (λ (l : List ℕ). get_or l k 0) h.threads ∙ each row.threads.items k
    where
      each : (xs : List ℕ) (k : ℕ)
          → get_or (map (raised last number) xs) k 0 ≡ raised last number (get_or xs k 0)
      each [] zero = sym (raised_low last number 0 (omega arith))
      each [] (suc k) = sym (raised_low last number 0 (omega arith))
      each (x ∷ xs) zero = refl
      each (x ∷ xs) (suc k) = each xs k

  raised_stamp : (part : ℕ) → stamp_in new part ≡ raised last number (stamp_in row part)
  raised_stamp part = elim (eqb_tells part 2) [
    | inl is ↦ rw is.0 h.condition
    | inr n2 ↦ elim (eqb_tells part 3) [
      | inl is ↦ rw (n2.0, is.0) h.observed
      | inr n3 ↦ elim (eqb_tells part 4) [
        | inl is ↦ rw (n2.0, n3.0, is.0) h.locations
        | inr n4 ↦ elim (eqb_tells part 5) [
          | inl is ↦ rw (n2.0, n3.0, n4.0, is.0) h.init
          | inr n5 ↦ rw (n2.0, n3.0, n4.0, n5.0) (raised_thread (part - 6))
        ]
      ]
    ]
  ]

-- ---- an entry before and after

-- the test has its number, and a part that holds what it held has its stamp
pub record IsEntryKept (a b : TestEntry) : Type 0 where
  pub id : b.row.id ≡ a.row.id
  pub stamps : (part : ℕ) → test_part b.test b.locations part ≡ test_part a.test a.locations part
      → stamp_in b.row part ≡ stamp_in a.row part

same_entry : (a b : TestEntry) → a ≡ b → IsEntryKept a b
same_entry a b e = subst (IsEntryKept a) e (record { id = refl; stamps = λ part same. refl })

-- the test was put in the place of the one that was there
pub put_entry : (last number : ℕ) (a : TestEntry) (test : Test) (locations : List (List ℕ))
    (row new : TestRow) → IsTestRow last a.row a.test
    → IsRowOf (next_number last) (Some a) a.row.id test locations row
    → IsRaisedRow last number row new
    → IsEntryKept a (record { row = new; test = test; locations = locations })
put_entry last number a test locations row new was made up = record {
  id = up.id_is ∙ made.id_is;
  stamps =
      λ part same. raised_stamp last number row new up part
      ∙ by_content (test_part test locations part) part refl same;
}
  where
    by_content : (now : Option PartContent) (part : ℕ) → test_part test locations part ≡ now
        → test_part test locations part ≡ test_part a.test a.locations part
        → raised last number (stamp_in row part) ≡ stamp_in a.row part
    by_content None part e same =
        let zero_now : stamp_in row part ≡ 0 = subst (λ (o : Option PartContent). IsStampOf (next_number last) (test_part a.test a.locations part) (stamp_in a.row part) o (stamp_in row part)) e (made.stamps part) in
        ap (raised last number) zero_now
        ∙ (raised_low last number 0 (omega arith)
        ∙ sym (none_stamp a.row a.test a.locations was.each_thread part (sym same ∙ e)))
    by_content (Some c) part e same =
        kept_stamp last number (stamp_in a.row part) (stamp_in row part)
        (test_part a.test a.locations part) (test_part test locations part) c
        (row_low last a.row a.test was part) (made.stamps part) (sym same ∙ e) e

-- ---- after an edit

module _ (p q : Parts) (tests : List Test) (models : List NamedModel) (number : ℕ)
    (owed : ArePartsOf p tests models) (was : AreApart (map (λ t. t.name) tests)) where
  abbrev entries_before : List TestEntry
  entries_before = entries p.table.tests.items tests p.locations.items

  apart : AreApart (map entry_name entries_before)
  apart =
      subst (λ (l : List (List ℕ)). AreApart l)
      (sym (entry_names p.last p.table.tests.items tests p.locations.items owed.built.tests)) was

  abbrev Keeps : List Test → Type 0
  Keeps after =
      AreApart (map entry_name (entries q.table.tests.items after q.locations.items))
      → (a b : TestEntry) → IsTestRow p.last a.row a.test → Has entries_before a
      → Has (entries q.table.tests.items after q.locations.items) b → b.test.name ≡ a.test.name
      → IsEntryKept a b

  tests_same : AreTestsSame p q → Keeps tests
  tests_same same now a b row here there e =
      same_entry a b (one_of_key entry_name entries_before apart a b here
      (rw (same.rows, same.locations) at there) (sym e))

  test_put : (at : ℕ) (test : Test) (row : TestRow) (names : Vec (List ℕ) Global)
      → IsTestMade p tests at test row names.items → PutsTest p number at row names q
      → Keeps (put_at at test tests)
  test_put at test row names made puts now a b stamps here there e =
      let x : TestEntry = record { row = puts.new; test = test; locations = names.items } in
      let is : entries q.table.tests.items (put_at at test tests) q.locations.items ≡ put_at at x entries_before =
      rw (puts.rows, puts.locations_are)
      (entries_put p.last at p.table.tests.items tests p.locations.items puts.new test names
      owed.built.tests) in
      elim
      (kept_in_put entry_name at x entries_before apart
      (subst (λ (es : List TestEntry). AreApart (map entry_name es)) is now) a b here
      (subst (λ (es : List TestEntry). Has es b) is there) (sym e)) [
        | inl same ↦ same_entry a b same
        | inr put ↦
            let stood : entry_at p tests at ≡ Some a = entry_is p.last at p.table.tests.items tests p.locations.items owed.built.tests ∙ put.0 in
            subst (IsEntryKept a) put.1 (put_entry p.last number a test names.items row puts.new
            stamps
            (subst
            (λ (o : Option TestEntry). IsRowOf (next_number p.last) o
            (test_id (next_number p.last) o) test names.items row) stood made.made)
            puts.raised)
      ]

  test_dropped : (at : ℕ) → DropsTest p at q → Keeps (remove tests at)
  test_dropped at drops now a b row here there e =
      let is : entries q.table.tests.items (remove tests at) q.locations.items ≡ remove entries_before at =
      rw (drops.rows, drops.locations)
      (entries_removed p.last at p.table.tests.items tests p.locations.items owed.built.tests)
      in
      same_entry a b (one_of_key entry_name entries_before apart a b here
      (in_removed entries_before at b (subst (λ (es : List TestEntry). Has es b) is there))
      (sym e))

pub test_kept : (p q : Parts) (tests : List Test) (models : List NamedModel) (r : Replacement)
    (number : ℕ) (e : EditedParts) → IsEdit p tests models r number e q
    → AreApart (map (λ t. t.name) tests)
    → AreApart (map entry_name (entries q.table.tests.items (tests_with r tests) q.locations.items))
    → (a b : TestEntry) → IsTestRow p.last a.row a.test
    → Has (entries p.table.tests.items tests p.locations.items) a
    → Has (entries q.table.tests.items (tests_with r tests) q.locations.items) b
    → b.test.name ≡ a.test.name → IsEntryKept a b
test_kept p q tests models (made.PutTest at test) number (edited.PutTest to row names) edit was =
    let same : to ≡ at = edit.is_made.0 in
    test_put p q tests models number edit.owed was at test row names edit.is_made.1
    (subst (λ (i : ℕ). PutsTest p number i row names q) same edit.committed.changes)
test_kept p q tests models (made.PutTest at test) number (edited.DropTest to) edit was =
    absurd edit.is_made
test_kept p q tests models (made.PutTest at test) number (edited.Models m) edit was =
    absurd edit.is_made
test_kept p q tests models (made.DropTest at) number (edited.PutTest to row names) edit was =
    absurd edit.is_made
test_kept p q tests models (made.DropTest at) number (edited.DropTest to) edit was =
    let same : to ≡ at = edit.is_made in
    test_dropped p q tests models number edit.owed was at (subst (λ (i : ℕ). DropsTest p i q) same
    edit.committed.changes)
test_kept p q tests models (made.DropTest at) number (edited.Models m) edit was =
    absurd edit.is_made
test_kept p q tests models (made.PutModel at model next) number (edited.PutTest to row names) edit
    was = absurd edit.is_made
test_kept p q tests models (made.PutModel at model next) number (edited.DropTest to) edit was =
    absurd edit.is_made
test_kept p q tests models (made.PutModel at model next) number (edited.Models m) edit was =
    tests_same p q tests models number edit.owed was edit.committed.changes.tests
test_kept p q tests models (made.DropModel at) number (edited.PutTest to row names) edit was =
    absurd edit.is_made
test_kept p q tests models (made.DropModel at) number (edited.DropTest to) edit was =
    absurd edit.is_made
test_kept p q tests models (made.DropModel at) number (edited.Models m) edit was =
    tests_same p q tests models number edit.owed was edit.committed.changes.tests

-- ---- the inputs of a space

threads_alike : (id part : ℕ) (xs ys : List ℕ) → length xs ≡ length ys
    → thread_parts id part xs ≡ thread_parts id part ys
threads_alike id part [] [] e = refl
threads_alike id part [] (y ∷ ys) e = absurd (omega arith)
threads_alike id part (x ∷ xs) [] e = absurd (omega arith)
threads_alike id part (x ∷ xs) (y ∷ ys) e =
    let l : length xs ≡ length ys = omega arith in
    ap (λ (ks : List Key). Part part id ∷ ks) (threads_alike id (part + 1) xs ys l)

pub space_alike : (r s : TestRow) → s.id ≡ r.id → length s.threads.items ≡ length r.threads.items
    → space_parts s ≡ space_parts r
space_alike r s e l =
    ap (λ (id : ℕ). Part 5 id ∷ thread_parts id 6 s.threads.items ++ Part 4 id ∷ []) e
    ∙ ap (λ (ks : List Key). Part 5 r.id ∷ ks ++ Part 4 r.id ∷ [])
    (threads_alike r.id 6 s.threads.items r.threads.items l)
