-- Stamps and contents of the parts of a state that is built of its tests and models.
use Rattle.std.proofs.Common.{ℕ, inl, inr, ◌-◌, ◌≤◌, ◌≡◌, ◌==◌, true, false, List, [], ◌∷◌, length, map, get_or, Vec, Option, Some, None, option_map, slice_get, refl, sym, ◌∙◌, zero, suc, eqb-true, eq-eqb, arith}
use Rattle.std.specs.List.{AllZip, AllByRecursion as Each}
use Rattle.std.specs.declared.alloc.Global.{Global}
use Rattle.std.proofs.lemmas.Bool.{cases_Bool}
use Rattle.std.proofs.lemmas.List.{length-map}
use Rattle.text_values.specs.declared.test.Step.{Step}
use Rattle.text_values.specs.declared.test.Test.{Test}
use Rattle.text_values.specs.TestValue.{thread_steps}
use Rattle.binding_kinds.specs.declared.fault.ModelFault.{ModelFault}
use Rattle.bench_nodes.specs.declared.table.ItemRow.{ItemRow}
use Rattle.bench_nodes.specs.declared.table.ModelRow.{ModelRow}
use Rattle.bench_nodes.specs.declared.table.TestRow.{TestRow}
use Rattle.bench_nodes.specs.Nodes.{item_stamp, fault_stamp, stamp_in, test_stamp, has_test_row, part_stamp}
use Rattle.bench_items.specs.declared.items.SharedItem.{SharedItem}
use Rattle.bench_parts.specs.Contents.{OfThread, role_part, item_content, fault_part, fault_content, test_part, test_content, PartsState, content}
use Rattle.bench_parts.specs.Built.{IsStamp, IsItemRow, IsModelRow, IsTestRow, AreTestRows}
use Rattle.bench_parts.specs.Views.{FoundTest, view_of}

-- ---- items and models

module _ (last : ℕ) where
  role_low : (row : ItemRow) (o : Option SharedItem) → IsItemRow last row o → row.stamp ≤ last
  role_low row o h = h.1

  role_empty : (row : ItemRow) (o : Option SharedItem) → IsItemRow last row o → row.stamp ≡ 0
      → role_part o ≡ None
  role_empty row o h e = absurd (let low = h.0 in omega (arith, low, e))

  item_low : (is : List ItemRow) (rs : List (Option SharedItem)) (n : ℕ)
      → AllZip (IsItemRow last) is rs → item_stamp is n ≤ last
  item_low [] rs n h = omega arith
  item_low (i ∷ is) [] n h = absurd h
  item_low (i ∷ is) (r ∷ rs) n h = elim (cases_Bool (i.number == n)) [
    | inl t ↦ rw t (role_low i r h.0)
    | inr t ↦ rw t (item_low is rs n h.1)
  ]

  item_empty : (is : List ItemRow) (rs : List (Option SharedItem)) (n : ℕ)
      → AllZip (IsItemRow last) is rs → item_stamp is n ≡ 0 → item_content is rs n ≡ None
  item_empty [] rs n h e = refl
  item_empty (i ∷ is) [] n h e = refl
  item_empty (i ∷ is) (r ∷ rs) n h e = elim (cases_Bool (i.number == n)) [
    | inl t ↦ rw t (role_empty i r h.0 (rw t at e))
    | inr t ↦ rw t (item_empty is rs n h.1 (rw t at e))
  ]

  fault_low : (row : ModelRow) (o : Option ModelFault) → IsModelRow last row o → row.stamp ≤ last
  fault_low row None h = omega (arith, h)
  fault_low row (Some fault) h = h.1

  fault_empty : (row : ModelRow) (o : Option ModelFault) → IsModelRow last row o → row.stamp ≡ 0
      → fault_part o ≡ None
  fault_empty row None h e = refl
  fault_empty row (Some fault) h e = absurd (let low = h.0 in omega (arith, low, e))

  model_low : (ms : List ModelRow) (fs : List (Option ModelFault)) (n : ℕ)
      → AllZip (IsModelRow last) ms fs → fault_stamp ms n ≤ last
  model_low [] fs n h = omega arith
  model_low (m ∷ ms) [] n h = absurd h
  model_low (m ∷ ms) (f ∷ fs) n h = elim (cases_Bool (m.id == n)) [
    | inl t ↦ rw t (fault_low m f h.0)
    | inr t ↦ rw t (model_low ms fs n h.1)
  ]

  model_empty : (ms : List ModelRow) (fs : List (Option ModelFault)) (n : ℕ)
      → AllZip (IsModelRow last) ms fs → fault_stamp ms n ≡ 0 → fault_content ms fs n ≡ None
  model_empty [] fs n h e = refl
  model_empty (m ∷ ms) [] n h e = refl
  model_empty (m ∷ ms) (f ∷ fs) n h e = elim (cases_Bool (m.id == n)) [
    | inl t ↦ rw t (fault_empty m f h.0 (rw t at e))
    | inr t ↦ rw t (model_empty ms fs n h.1 (rw t at e))
  ]

  -- ---- tests

  stamps_low : (stamps : List ℕ) (k : ℕ) → Each (IsStamp last) stamps → get_or stamps k 0 ≤ last
  stamps_low [] k h = omega arith
  stamps_low (x ∷ xs) zero h = h.0.1
  stamps_low (x ∷ xs) (suc k) h = stamps_low xs k h.1

  -- no thread is there whose stamp is 0
  stamps_empty : (stamps : List ℕ) (threads : List (List Step)) (k : ℕ) → Each (IsStamp last) stamps
      → length stamps ≡ length threads → get_or stamps k 0 ≡ 0
      → option_map OfThread (slice_get threads k) ≡ None
  stamps_empty [] [] k h many e = refl
  stamps_empty [] (t ∷ ts) k h many e = absurd (omega (arith, many))
  stamps_empty (x ∷ xs) [] k h many e = refl
  stamps_empty (x ∷ xs) (t ∷ ts) zero h many e = absurd (let low = h.0.0 in omega (arith, low, e))
  stamps_empty (x ∷ xs) (t ∷ ts) (suc k) h many e = stamps_empty xs ts k h.1 (omega (arith, many)) e

  row_low : (row : TestRow) (t : Test) (part : ℕ) → IsTestRow last row t → stamp_in row part ≤ last
  row_low row t part h = elim (cases_Bool (part == 2)) [
    | inl a ↦ rw a h.condition.1
    | inr a ↦ rw a (elim (cases_Bool (part == 3)) [
      | inl b ↦ rw b h.observed.1
      | inr b ↦ rw b (elim (cases_Bool (part == 4)) [
        | inl c ↦ rw c h.locations.1
        | inr c ↦ rw c (elim (cases_Bool (part == 5)) [
          | inl d ↦ rw d h.init.1
          | inr d ↦ rw d (stamps_low row.threads.items (part - 6) h.threads)
        ])
      ])
    ])
  ]

  no_stamp : {X : Type 0} (stamp : ℕ) → IsStamp last stamp → stamp ≡ 0 → X
  no_stamp stamp h e = absurd (let low = h.0 in omega (arith, low, e))

  row_empty : (row : TestRow) (t : Test) (locations : List (List ℕ)) (part : ℕ)
      → IsTestRow last row t → stamp_in row part ≡ 0 → test_part t locations part ≡ None
  row_empty row t locations part h e = elim (cases_Bool (part == 2)) [
    | inl a ↦ no_stamp row.condition h.condition (rw a at e)
    | inr a ↦ elim (cases_Bool (part == 3)) [
      | inl b ↦ no_stamp row.observed h.observed (rw (a, b) at e)
      | inr b ↦ elim (cases_Bool (part == 4)) [
        | inl c ↦ no_stamp row.locations h.locations (rw (a, b, c) at e)
        | inr c ↦ elim (cases_Bool (part == 5)) [
          | inl d ↦ no_stamp row.init h.init (rw (a, b, c, d) at e)
          | inr d ↦ rw (a, b, c, d) (stamps_empty row.threads.items (map thread_steps t.threads.items)
              (part - 6) h.threads (h.each_thread ∙ sym (length-map t.threads.items thread_steps))
              (rw (a, b, c, d) at e))
        ]
      ]
    ]
  ]

  test_low : (rs : List TestRow) (ts : List Test) (ls : List (Vec (List ℕ) Global)) (part id : ℕ)
      → AreTestRows last rs ts ls → test_stamp rs part id ≤ last
  test_low [] ts ls part id h = omega arith
  test_low (r ∷ rs) [] ls part id h = absurd h
  test_low (r ∷ rs) (t ∷ ts) [] part id h = absurd h
  test_low (r ∷ rs) (t ∷ ts) (l ∷ ls) part id h = elim (cases_Bool (r.id == id)) [
    | inl e ↦ rw e (row_low r t part h.0)
    | inr e ↦ rw e (test_low rs ts ls part id h.1)
  ]

  test_empty : (rs : List TestRow) (ts : List Test) (ls : List (Vec (List ℕ) Global)) (part id : ℕ)
      → AreTestRows last rs ts ls → test_stamp rs part id ≡ 0 → test_content rs ts ls part id ≡ None
  test_empty [] ts ls part id h e = refl
  test_empty (r ∷ rs) [] ls part id h e = refl
  test_empty (r ∷ rs) (t ∷ ts) [] part id h e = refl
  test_empty (r ∷ rs) (t ∷ ts) (l ∷ ls) part id h e = elim (cases_Bool (r.id == id)) [
    | inl f ↦ rw f (row_empty r t l.items part h.0 (rw f at e))
    | inr f ↦ rw f (test_empty rs ts ls part id h.1 (rw f at e))
  ]

  -- the first test of a number that is there
  pub found_test : (rs : List TestRow) (ts : List Test) (ls : List (Vec (List ℕ) Global)) (id : ℕ)
      → AreTestRows last rs ts ls → has_test_row rs id ≡ true
      → (v : FoundTest) × (view_of rs ts ls id ≡ Some v) × IsTestRow last v.row v.test
  found_test [] ts ls id h e = absurd (let f : false ≡ true = e in cc)
  found_test (r ∷ rs) [] ls id h e = absurd h
  found_test (r ∷ rs) (t ∷ ts) [] id h e = absurd h
  found_test (r ∷ rs) (t ∷ ts) (l ∷ ls) id h e = elim (cases_Bool (r.id == id)) [
    | inl f ↦ (record { row = r; test = t; locations = l.items }, rw f refl, h.0)
    | inr f ↦ (let more = found_test rs ts ls id h.1 (rw (turned r.id id f) at e) in
        (more.0, rw f more.1, more.2))
  ]
    where
      turned : (a b : ℕ) → (a == b) ≡ false → (b == a) ≡ false
      turned a b e = elim (cases_Bool (b == a)) [
        | inl t ↦ absurd (let same : true ≡ false = sym (eq-eqb a b (sym (eqb-true b a t))) ∙ e in
            cc)
        | inr t ↦ t
      ]

-- ---- all parts

pub stamps_are_low : (s : PartsState) (last : ℕ)
    → AllZip (IsItemRow last) s.parts.table.items.items s.parts.roles.items
    → AllZip (IsModelRow last) s.parts.table.models.items s.parts.faults.items
    → AreTestRows last s.parts.table.tests.items s.tests s.parts.locations.items → (part of : ℕ)
    → part_stamp s.parts.table part of ≤ last
stamps_are_low s last items faults tests part of = elim (cases_Bool (part == 0)) [
  | inl a ↦ rw a (item_low last s.parts.table.items.items s.parts.roles.items of items)
  | inr a ↦ rw a (elim (cases_Bool (part == 1)) [
    | inl b ↦ rw b (model_low last s.parts.table.models.items s.parts.faults.items of faults)
    | inr b ↦ rw b (test_low last s.parts.table.tests.items s.tests s.parts.locations.items part of
        tests)
  ])
]

pub empty_are_none : (s : PartsState) (last : ℕ)
    → AllZip (IsItemRow last) s.parts.table.items.items s.parts.roles.items
    → AllZip (IsModelRow last) s.parts.table.models.items s.parts.faults.items
    → AreTestRows last s.parts.table.tests.items s.tests s.parts.locations.items → (part of : ℕ)
    → part_stamp s.parts.table part of ≡ 0 → content s part of ≡ None
empty_are_none s last items faults tests part of e = elim (cases_Bool (part == 0)) [
  | inl a ↦ rw a (item_empty last s.parts.table.items.items s.parts.roles.items of items
      (rw a at e))
  | inr a ↦ elim (cases_Bool (part == 1)) [
    | inl b ↦ rw (a, b) (model_empty last s.parts.table.models.items s.parts.faults.items of faults
        (rw (a, b) at e))
    | inr b ↦ rw (a, b) (test_empty last s.parts.table.tests.items s.tests s.parts.locations.items
        part of tests (rw (a, b) at e))
  ]
]
