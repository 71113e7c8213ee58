-- The row of a test after an edit.
use Rattle.std.specs.Prelude.{◌≡◌, ℕ, List, length, map, get_or, slice_get, option_map, Option, Some, None}
use Rattle.text_values.specs.declared.test.Test.{Test}
use Rattle.text_values.specs.declared.test.Thread.{Thread}
use Rattle.text_values.specs.TestValue.{thread_steps}
use Rattle.bench_nodes.specs.declared.table.TestRow.{TestRow}
use Rattle.bench_nodes.specs.Nodes.{stamp_in}
use Rattle.bench_parts.specs.Contents.{PartContent, OfThread, test_part}
use Rattle.bench_parts.specs.declared.test_rows.HeldTest.{HeldTest}
use Rattle.bench_parts.specs.Stamps.{IsStampOf, raised}

-- a test with its row and the set of its locations
pub record TestEntry : Type 0 where
  pub row : TestRow
  pub test : Test
  pub locations : List (List ℕ)

abbrev pub entry_of : HeldTest → TestEntry
entry_of h = record { row = h.row.now; test = h.test.now; locations = h.locations.now }

-- what a part held, and its stamp
abbrev pub held_by : Option TestEntry → ℕ → Option PartContent
held_by None part = None
held_by (Some e) part = test_part e.test e.locations part

abbrev pub stamp_by : Option TestEntry → ℕ → ℕ
stamp_by None part = 0
stamp_by (Some e) part = stamp_in e.row part

-- the thread of that number from 0 on
abbrev pub thread_at : List Thread → ℕ → Option PartContent
thread_at threads k = option_map OfThread (slice_get (map thread_steps threads) k)

-- what it held, and its stamp
abbrev pub thread_by : Option TestEntry → ℕ → Option PartContent
thread_by None k = None
thread_by (Some e) k = thread_at e.test.threads.items k

abbrev pub thread_stamp_by : Option TestEntry → ℕ → ℕ
thread_stamp_by None k = 0
thread_stamp_by (Some e) k = get_or e.row.threads.items k 0

-- the row of a test of that number, which was there as `before`
pub record IsRowOf (fresh : ℕ) (before : Option TestEntry) (id : ℕ) (test : Test)
    (locations : List (List ℕ)) (row : TestRow) : Type 0 where
  pub id_is : row.id ≡ id
  pub stamps : (part : ℕ)
      → IsStampOf fresh (held_by before part) (stamp_by before part) (test_part test locations part)
      (stamp_in row part)
  pub each_thread : length row.threads.items ≡ length test.threads.items

-- the row under the number of the edit
pub record IsRaisedRow (last number : ℕ) (row new : TestRow) : Type 0 where
  pub id_is : new.id ≡ row.id
  pub condition : new.condition ≡ raised last number row.condition
  pub observed : new.observed ≡ raised last number row.observed
  pub locations : new.locations ≡ raised last number row.locations
  pub init : new.init ≡ raised last number row.init
  pub threads : new.threads.items ≡ map (raised last number) row.threads.items
