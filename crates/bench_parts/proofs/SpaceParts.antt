-- What the space of a test is given.
use Rattle.std.proofs.Common.{ℕ, suc, ◌+◌, ◌-◌, inl, inr, ◌<◌, ◌≤◌, ◌≡◌, ◌≢◌, List, [], ◌∷◌, ◌++◌, length, map, take, drop, Option, Some, None, option_map, slice_get, refl, ap, sym, ◌∙◌, ne_eqb, arith}
use Rattle.std.proofs.lemmas.List.{append_assoc, append-nil, length-map, take-map}
use Rattle.std.proofs.lemmas.Option.{slice_get_cases}
use Rattle.text_values.specs.declared.test.InitEntry.{InitEntry}
use Rattle.text_values.specs.declared.test.Step.{Step}
use Rattle.text_values.specs.declared.test.Test.{Test}
use Rattle.text_values.specs.TestValue.{thread_steps}
use Rattle.memo_core.specs.declared.keys.Key.{Key}
use Rattle.memo_core.specs.declared.keys.Key.TheVariants.{Part}
use Rattle.memo_core.proofs.Inputs.{drop_get}
use Rattle.bench_nodes.specs.declared.table.TestRow.{TestRow}
use Rattle.bench_nodes.specs.Nodes.{row_of, row_parts, thread_parts, space_keys}
use Rattle.bench_values.specs.Givens.{GivenContent, ForSpace}
use Rattle.bench_values.specs.Parts.{parts_of}
use Rattle.bench_parts.specs.Contents.{PartContent, OfLocations, OfThread, PartsState, test_part, test_content, content}
use Rattle.bench_parts.specs.States.{contents, space_given, given_space}
use Rattle.bench_parts.specs.Views.{FoundTest, view_of}
use Rattle.bench_parts.proofs.Rows.{part_in, test_in, row_in, row_number}

-- ---- the parts of a test

-- from the condition on they are parts of tests
content_of_test : (s : PartsState) (part id : ℕ) → 2 ≤ part
    → content s part id
    ≡ test_content s.parts.table.tests.items s.tests s.parts.locations.items part id
content_of_test s part id h =
    let a : part ≢ 0 = λ e. omega (arith, h, e) in
    let b : part ≢ 1 = λ e. omega (arith, h, e) in
    rw (ne_eqb part 0 a) (rw (ne_eqb part 1 b) refl)

thread_of_test : (t : Test) (locations : List (List ℕ)) (k : ℕ)
    → test_part t locations (6 + k)
    ≡ option_map OfThread (slice_get (map thread_steps t.threads.items) k)
thread_of_test t locations k =
    let a : 6 + k ≢ 2 = λ e. omega (arith, e) in
    let b : 6 + k ≢ 3 = λ e. omega (arith, e) in
    let c : 6 + k ≢ 4 = λ e. omega (arith, e) in
    let d : 6 + k ≢ 5 = λ e. omega (arith, e) in
    let e : 6 + k - 6 ≡ k = omega arith in
    rw (ne_eqb (6 + k) 2 a) (rw (ne_eqb (6 + k) 3 b) (rw (ne_eqb (6 + k) 4 c)
    (rw (ne_eqb (6 + k) 5 d) (rw e refl))))

-- ---- threads, and locations at the end

module _ (s : PartsState) (id : ℕ) (init : List InitEntry) (locations : List (List ℕ))
    (xs : List (List Step))
    (threads : (k : ℕ) → content s (6 + k) id ≡ option_map OfThread (slice_get xs k))
    (ends : content s 4 id ≡ Some (OfLocations locations)) where
  abbrev rest : ℕ → List ℕ → List Key
  rest part stamps = thread_parts id part stamps ++ Part 4 id ∷ []

  abbrev all : List (List Step) → Option GivenContent
  all ts = Some (ForSpace (record { init = init; threads = ts; locations = locations }))

  -- a thread that is there
  more : (k : ℕ) (stamp : ℕ) (stamps : List ℕ) (x : List Step) (before : List (List Step))
      → slice_get xs k ≡ Some x
      → space_given init before (contents s (rest (6 + k) (stamp ∷ stamps)))
      ≡ space_given init (before ++ x ∷ []) (contents s (rest (6 + (k + 1)) stamps))
  more k stamp stamps x before at =
      let next : 6 + k + 1 ≡ 6 + (k + 1) = omega arith in
      ap
      (λ (c : Option PartContent).
      space_given init before (c ∷ contents s (rest (6 + k + 1) stamps)))
      (threads k ∙ ap (option_map OfThread) at)
      ∙ ap (λ (p : ℕ). space_given init (before ++ x ∷ []) (contents s (rest p stamps))) next

  enough : (stamps : List ℕ) (k : ℕ) (before : List (List Step)) → k + length stamps ≤ length xs
      → space_given init before (contents s (rest (6 + k) stamps))
      ≡ all (before ++ take (length stamps) (drop k xs))
  enough [] k before h =
      ap (λ (c : Option PartContent). space_given init before (c ∷ [])) ends
      ∙ ap all (sym (append-nil before))
  enough (stamp ∷ stamps) k before h = elim (slice_get_cases xs k).1 [
    | inl at ↦
        more k stamp stamps at.0 before at.2
        ∙ enough stamps (k + 1) (before ++ at.0 ∷ []) (omega (arith, h))
        ∙ ap all (append_assoc before (at.0 ∷ []) (take (length stamps) (drop (k + 1) xs))
        ∙ ap (λ (l : List (List Step)). before ++ take (suc (length stamps)) l)
        (sym (drop_get xs k at.0 at.2)))
    | inr past ↦ absurd (omega (arith, h, past.0))
  ]

  few : (stamps : List ℕ) (k : ℕ) (before : List (List Step)) → k ≤ length xs
      → length xs < k + length stamps
      → space_given init before (contents s (rest (6 + k) stamps)) ≡ None
  few [] k before h short = absurd (omega (arith, h, short))
  few (stamp ∷ stamps) k before h short = elim (slice_get_cases xs k).1 [
    | inl at ↦ more k stamp stamps at.0 before at.2
        ∙ few stamps (k + 1) (before ++ at.0 ∷ []) (omega (arith, at.1)) (omega (arith, short))
    | inr past ↦ ap
        (λ (c : Option PartContent).
        space_given init before (c ∷ contents s (rest (6 + k + 1) stamps)))
        (threads k ∙ ap (option_map OfThread) past.1)
  ]

-- ---- the space of a test

pub no_space : (s : PartsState) (id : ℕ)
    → view_of s.parts.table.tests.items s.tests s.parts.locations.items id ≡ None
    → given_space (contents s (space_keys s.parts.table.tests.items id)) ≡ None
no_space s id none = by_row (row_of s.parts.table.tests.items id) refl
  where
    by_row : (o : Option TestRow) → row_of s.parts.table.tests.items id ≡ o
        → given_space (contents s (row_parts o)) ≡ None
    by_row None e = refl
    by_row (Some r) e =
        let is = row_number s.parts.table.tests.items id r e in
        let lost : content s 5 r.id ≡ None = ap (content s 5) is ∙ test_in s.parts.table.tests.items s.tests s.parts.locations.items 5 id ∙ ap (part_in 5) none in
        ap
        (λ (c : Option PartContent). given_space (c
        ∷ contents s (thread_parts r.id 6 r.threads.items ++ Part 4 r.id ∷ []))) lost

module _ (s : PartsState) (id : ℕ) (v : FoundTest)
    (found : view_of s.parts.table.tests.items s.tests s.parts.locations.items id ≡ Some v) where
  pub part_is : (part : ℕ) → 2 ≤ part → content s part id ≡ test_part v.test v.locations part
  part_is part h =
      content_of_test s part id h
      ∙ test_in s.parts.table.tests.items s.tests s.parts.locations.items part id
      ∙ ap (part_in part) found

  threads_are : (k : ℕ)
      → content s (6 + k) id ≡ option_map OfThread (slice_get (map thread_steps v.test.threads.items) k)
  threads_are k = part_is (6 + k) (omega arith) ∙ thread_of_test v.test v.locations k

  -- the initial values come first
  begins : given_space (contents s (space_keys s.parts.table.tests.items id))
      ≡ space_given v.test.init.items [] (contents s
      (thread_parts id 6 v.row.threads.items ++ Part 4 id ∷ []))
  begins =
      let row = row_in s.parts.table.tests.items s.tests s.parts.locations.items id v found in
      ap (λ (o : Option TestRow). given_space (contents s (row_parts o))) row
      ∙ ap
      (λ (n : ℕ). given_space (content s 5 n
      ∷ contents s (thread_parts n 6 v.row.threads.items ++ Part 4 n ∷ [])))
      (row_number s.parts.table.tests.items id v.row row)
      ∙ ap
      (λ (c : Option PartContent). given_space (c
      ∷ contents s (thread_parts id 6 v.row.threads.items ++ Part 4 id ∷ [])))
      (part_is 5 (omega arith))

  pub space_is : length v.row.threads.items ≤ length v.test.threads.items
      → given_space (contents s (space_keys s.parts.table.tests.items id))
      ≡ Some (ForSpace (parts_of v.test.init.items
      (take (length v.row.threads.items) v.test.threads.items) v.locations))
  space_is h =
      let many = length-map v.test.threads.items thread_steps in
      begins
      ∙ enough s id v.test.init.items v.locations (map thread_steps v.test.threads.items) threads_are
      (part_is 4 (omega arith)) v.row.threads.items 0 [] (omega (arith, h, many))
      ∙ ap
      (λ (l : List (List Step)). Some (ForSpace (record {
        init = v.test.init.items;
        threads = l;
        locations = v.locations;
      })))
      (take-map thread_steps (length v.row.threads.items) v.test.threads.items)

  pub threads_lack : length v.test.threads.items < length v.row.threads.items
      → given_space (contents s (space_keys s.parts.table.tests.items id)) ≡ None
  threads_lack h =
      let many = length-map v.test.threads.items thread_steps in
      begins
      ∙ few s id v.test.init.items v.locations (map thread_steps v.test.threads.items) threads_are
      (part_is 4 (omega arith)) v.row.threads.items 0 [] (omega arith)
      (omega (arith, h, many))
