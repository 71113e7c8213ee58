-- Tests with their rows and locations, before an edit and after it.
use Rattle.std.proofs.Common.{◌≡◌, ◌≢◌, ℕ, zero, suc, inl, inr, true, List, [], ◌∷◌, map, Some, None, Vec, Global, slice_get, refl, sym, ap, subst, eq-eqb, ne_eqb}
use Rattle.std.specs.List.{AllZip, remove}
use Rattle.text_values.specs.declared.test.Test.{Test}
use Rattle.text_values.specs.TestValue.{Content, content_of, formula_of, thread_steps}
use Rattle.ppc_lowering.specs.Lowering.{AreNamesOf, test_names}
use Rattle.candidates.proofs.OneProgram.{names_one}
use Rattle.memo_core.specs.Step.{Has}
use Rattle.bench_texts.specs.BenchTexts.{put_at}
use Rattle.bench_nodes.specs.declared.table.TestRow.{TestRow}
use Rattle.bench_nodes.specs.Nodes.{stamp_in, test_stamp, space_parts, space_keys, has_test_row}
use Rattle.bench_parts.specs.Built.{IsTestRow, AreTestRows}
use Rattle.bench_parts.specs.Contents.{test_part, test_content}
use Rattle.bench_parts.specs.Tests.{TestEntry}
use Rattle.bench_text_laws.specs.Orderly.{AreApart}
use Rattle.bench_edits.proofs.PutTests.{entry_in}

abbrev Names : Type 0
Names = Vec (List ℕ) Global

-- the tests with their rows and locations
abbrev pub entries : List TestRow → List Test → List Names → List TestEntry
entries [] ts ls = []
entries (r ∷ rs) [] ls = []
entries (r ∷ rs) (t ∷ ts) [] = []
entries (r ∷ rs) (t ∷ ts) (l ∷ ls) =
    record { row = r; test = t; locations = l.items } ∷ entries rs ts ls

pub entries_put : (last at : ℕ) (rs : List TestRow) (ts : List Test) (ls : List Names) (r : TestRow)
    (t : Test) (l : Names) → AreTestRows last rs ts ls
    → entries (put_at at r rs) (put_at at t ts) (put_at at l ls)
    ≡ put_at at (record { row = r; test = t; locations = l.items }) (entries rs ts ls)
entries_put last zero [] [] [] r t l h = refl
entries_put last (suc at) [] [] [] r t l h = refl
entries_put last at [] [] (m ∷ ls) r t l h = absurd h
entries_put last at [] (u ∷ ts) ls r t l h = absurd h
entries_put last at (q ∷ rs) [] ls r t l h = absurd h
entries_put last at (q ∷ rs) (u ∷ ts) [] r t l h = absurd h
entries_put last zero (q ∷ rs) (u ∷ ts) (m ∷ ls) r t l h = refl
entries_put last (suc at) (q ∷ rs) (u ∷ ts) (m ∷ ls) r t l h =
    ap (λ (es : List TestEntry). record { row = q; test = u; locations = m.items } ∷ es)
    (entries_put last at rs ts ls r t l h.1)

pub entries_removed : (last at : ℕ) (rs : List TestRow) (ts : List Test) (ls : List Names)
    → AreTestRows last rs ts ls
    → entries (remove rs at) (remove ts at) (remove ls at) ≡ remove (entries rs ts ls) at
entries_removed last zero [] [] [] h = refl
entries_removed last (suc at) [] [] [] h = refl
entries_removed last at [] [] (m ∷ ls) h = absurd h
entries_removed last at [] (u ∷ ts) ls h = absurd h
entries_removed last at (q ∷ rs) [] ls h = absurd h
entries_removed last at (q ∷ rs) (u ∷ ts) [] h = absurd h
entries_removed last zero (q ∷ rs) (u ∷ ts) (m ∷ ls) h = refl
entries_removed last (suc at) (q ∷ rs) (u ∷ ts) (m ∷ ls) h =
    ap (λ (es : List TestEntry). record { row = q; test = u; locations = m.items } ∷ es)
    (entries_removed last at rs ts ls h.1)

pub entry_is : (last at : ℕ) (rs : List TestRow) (ts : List Test) (ls : List Names)
    → AreTestRows last rs ts ls → entry_in rs ts ls at ≡ slice_get (entries rs ts ls) at
entry_is last at [] [] [] h = refl
entry_is last at [] [] (m ∷ ls) h = absurd h
entry_is last at [] (u ∷ ts) ls h = absurd h
entry_is last at (q ∷ rs) [] ls h = absurd h
entry_is last at (q ∷ rs) (u ∷ ts) [] h = absurd h
entry_is last zero (q ∷ rs) (u ∷ ts) (m ∷ ls) h = refl
entry_is last (suc at) (q ∷ rs) (u ∷ ts) (m ∷ ls) h = entry_is last at rs ts ls h.1

abbrev pub entry_name : TestEntry → List ℕ
entry_name e = e.test.name

pub entry_names : (last : ℕ) (rs : List TestRow) (ts : List Test) (ls : List Names)
    → AreTestRows last rs ts ls → map entry_name (entries rs ts ls) ≡ map (λ t. t.name) ts
entry_names last [] [] [] h = refl
entry_names last [] [] (m ∷ ls) h = absurd h
entry_names last [] (u ∷ ts) ls h = absurd h
entry_names last (q ∷ rs) [] ls h = absurd h
entry_names last (q ∷ rs) (u ∷ ts) [] h = absurd h
entry_names last (q ∷ rs) (u ∷ ts) (m ∷ ls) h =
    ap (λ (ns : List (List ℕ)). u.name ∷ ns) (entry_names last rs ts ls h.1)

-- ---- a test that is there

none_is : {A : Type 0} {a : A} → None ≡ Some a → ⊥
none_is e = cc

some_is : {A : Type 0} {a b : A} → Some a ≡ Some b → a ≡ b
some_is e = cc

-- its row and its locations stand at its index
pub record IsEntry (last : ℕ) (rs : List TestRow) (ts : List Test) (ls : List Names) (row : TestRow)
    (test : Test) : Type 0 where
  pub entry : TestEntry
  pub there : Has (entries rs ts ls) entry
  pub row_is : entry.row ≡ row
  pub test_is : entry.test ≡ test
  pub stamps : IsTestRow last entry.row entry.test
  pub names : AreNamesOf (test_names entry.test) entry.locations

pub find_entry : (last i : ℕ) (rs : List TestRow) (ts : List Test) (ls : List Names) (row : TestRow)
    (test : Test) → AreTestRows last rs ts ls
    → AllZip (λ t l. AreNamesOf (test_names t) l.items) ts ls
    → slice_get rs i ≡ Some row → slice_get ts i ≡ Some test → IsEntry last rs ts ls row test
find_entry last i [] ts ls row test h n e f = absurd (none_is e)
find_entry last i (r ∷ rs) [] ls row test h n e f = absurd h
find_entry last i (r ∷ rs) (t ∷ ts) [] row test h n e f = absurd h
find_entry last zero (r ∷ rs) (t ∷ ts) (l ∷ ls) row test h n e f =
    record { entry = record { row = r; test = t; locations = l.items }; there = inl refl; row_is = some_is e; test_is = some_is f; stamps = h.0; names = n.0 }
find_entry last (suc i) (r ∷ rs) (t ∷ ts) (l ∷ ls) row test h n e f =
    let k = find_entry last i rs ts ls row test h.1 n.1 e f in
    record { entry = k.entry; there = inr k.there; row_is = k.row_is; test_is = k.test_is; stamps = k.stamps; names = k.names }

-- what the lists say of its number
pub record IsFound (rs : List TestRow) (ts : List Test) (ls : List Names) (e : TestEntry)
    : Type 0 where
  pub contents : (part : ℕ)
      → test_content rs ts ls part e.row.id ≡ test_part e.test e.locations part
  pub stamps : (part : ℕ) → test_stamp rs part e.row.id ≡ stamp_in e.row part
  pub keys : space_keys rs e.row.id ≡ space_parts e.row
  pub is_there : has_test_row rs e.row.id ≡ true

id_there : (rs : List TestRow) (ts : List Test) (ls : List Names) (e : TestEntry)
    → Has (entries rs ts ls) e → Has (map (λ r. r.id) rs) e.row.id
id_there [] ts ls e h = absurd h
id_there (r ∷ rs) [] ls e h = absurd h
id_there (r ∷ rs) (t ∷ ts) [] e h = absurd h
id_there (r ∷ rs) (t ∷ ts) (l ∷ ls) e (inl p) = inl (ap (λ (x : TestEntry). x.row.id) p)
id_there (r ∷ rs) (t ∷ ts) (l ∷ ls) e (inr h) = inr (id_there rs ts ls e h)

pub found_by_number : (rs : List TestRow) (ts : List Test) (ls : List Names) (e : TestEntry)
    → AreApart (map (λ r. r.id) rs) → Has (entries rs ts ls) e → IsFound rs ts ls e
found_by_number [] ts ls e apart h = absurd h
found_by_number (r ∷ rs) [] ls e apart h = absurd h
found_by_number (r ∷ rs) (t ∷ ts) [] e apart h = absurd h
found_by_number (r ∷ rs) (t ∷ ts) (l ∷ ls) e apart (inl p) =
    subst (IsFound (r ∷ rs) (t ∷ ts) (l ∷ ls)) p (record {
      contents = λ part. rw (eq-eqb r.id r.id refl) refl;
      stamps = λ part. rw (eq-eqb r.id r.id refl) refl;
      keys = rw (eq-eqb r.id r.id refl) refl;
      is_there = rw (eq-eqb r.id r.id refl) refl;
    })
found_by_number (r ∷ rs) (t ∷ ts) (l ∷ ls) e apart (inr h) =
    let other : r.id ≢ e.row.id = λ k. apart.0 (subst (Has (map (λ (q : TestRow). q.id) rs)) (sym k) (id_there rs ts ls e h)) in
    let turned : e.row.id ≢ r.id = λ k. other (sym k) in
    let rest = found_by_number rs ts ls e apart.1 h in
    record {
      contents = λ part. rw (ne_eqb r.id e.row.id other) (rest.contents part);
      stamps = λ part. rw (ne_eqb r.id e.row.id other) (rest.stamps part);
      keys = rw (ne_eqb r.id e.row.id other) rest.keys;
      is_there = rw (ne_eqb e.row.id r.id turned) rest.is_there;
    }

-- ---- parts that are the same

-- tests that say the same have the same parts
pub part_alike : (a b : Test) (ls ms : List (List ℕ)) → content_of a ≡ content_of b
    → AreNamesOf (test_names a) ls → AreNamesOf (test_names b) ms → (part : ℕ)
    → test_part a ls part ≡ test_part b ms part
part_alike a b ls ms e f g part =
    let init : a.init.items ≡ b.init.items = ap (λ (c : Content). c.init) e in
    let threads : map thread_steps a.threads.items ≡ map thread_steps b.threads.items = ap (λ (c : Content). c.threads) e in
    let observed : a.observed.items ≡ b.observed.items = ap (λ (c : Content). c.observed) e in
    let quantifier : a.condition.quantifier ≡ b.condition.quantifier = ap (λ (c : Content). c.quantifier) e in
    let condition : formula_of a.condition.proposition ≡ formula_of b.condition.proposition = ap (λ (c : Content). c.condition) e in
    let names : test_names a ≡ test_names b = rw (init, condition, observed) refl in
    let locations : ls ≡ ms = names_one (test_names b) ls ms (subst (λ (n : List (List ℕ)). AreNamesOf n ls) names f) g in
    rw (init, threads, observed, quantifier, condition, locations) refl
