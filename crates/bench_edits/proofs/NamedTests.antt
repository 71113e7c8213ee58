-- The test at an index, by the number of its row.
use Rattle.std.proofs.Common.{ℕ, ◌≡◌, ◌⊎◌, inl, inr, zero, suc, ◌==◌, ◌||◌, Bool, true, false, List, [], ◌∷◌, ◌++◌, Vec, Some, slice_get, Contains, AllPairs, refl, subst, eq-eqb, ne_eqb}
use Rattle.std.specs.List.{AllZip, flat_map}
use Rattle.std.specs.declared.alloc.Global.{Global}
use Rattle.std.proofs.lemmas.List.Elements.{Contains-append_left}
use Rattle.std.proofs.lemmas.Option.{none-some, same_Some}
use Rattle.text_values.specs.declared.test.Test.{Test}
use Rattle.text_values.specs.TestValue.{formula_of}
use Rattle.ppc_lowering.specs.Lowering.{AreNamesOf, place_names, entry_names, formula_names, test_names}
use Rattle.memo_core.specs.Step.{Has}
use Rattle.bench_nodes.specs.declared.table.TestRow.{TestRow}
use Rattle.bench_nodes.specs.Nodes.{has_test_row}
use Rattle.bench_values.specs.Parts.{parts_of, HasParts}
use Rattle.bench_parts.specs.Built.{IsTestRow, AreTestRows}
use Rattle.bench_parts.specs.Views.{view_of}
use Rattle.bench_edits.proofs.Origin.{pairs_tail, pairs_head}

-- what is found by the number of a row
pub record IsFound (last : ℕ) (rs : List TestRow) (ts : List Test) (ls : List (Vec (List ℕ) Global))
    (row : TestRow) (test : Test) : Type 0 where
  pub locations : List (List ℕ)
  pub found : view_of rs ts ls row.id
      ≡ Some (record { row = row; test = test; locations = locations })
  pub row_is : IsTestRow last row test
  pub names : AreNamesOf (test_names test) locations
  pub there : has_test_row rs row.id ≡ true

abbrev IsOther : TestRow → TestRow → Type 0
IsOther a b = a.id ≡ b.id → ⊥

has_at : (rs : List TestRow) (i : ℕ) (row : TestRow) → slice_get rs i ≡ Some row → Has rs row
has_at [] i row e = absurd (none-some row e)
has_at (r ∷ rs) zero row e = inl (some e)
  where
    some : {a b : TestRow} → Some a ≡ Some b → a ≡ b
    some e = cc
has_at (r ∷ rs) (suc i) row e = inr (has_at rs i row e)

pub find_test : (last : ℕ) (rs : List TestRow) (ts : List Test) (ls : List (Vec (List ℕ) Global))
    (i : ℕ) (row : TestRow) (test : Test) → AreTestRows last rs ts ls → AllPairs IsOther rs
    → AllZip (λ t l. AreNamesOf (test_names t) l.items) ts ls → slice_get rs i ≡ Some row
    → slice_get ts i ≡ Some test → IsFound last rs ts ls row test
find_test last [] ts ls i row test h apart names a b = absurd (none-some row a)
find_test last (r ∷ rs) [] ls i row test h apart names a b = absurd h
find_test last (r ∷ rs) (t ∷ ts) [] i row test h apart names a b = absurd h
find_test last (r ∷ rs) (t ∷ ts) (l ∷ ls) zero row test h apart names a b =
    let same : r ≡ row = same_Some _ _ a in
    let also : t ≡ test = same_Some _ _ b in
    subst (λ (x : TestRow). IsFound last (r ∷ rs) (t ∷ ts) (l ∷ ls) x test) same
    (subst (λ (x : Test). IsFound last (r ∷ rs) (t ∷ ts) (l ∷ ls) r x) also
    (record {
      locations = l.items;
      found = rw (eq-eqb r.id r.id refl) refl;
      row_is = h.0;
      names = names.0;
      there = rw (eq-eqb r.id r.id refl) refl;
    }))
find_test last (r ∷ rs) (t ∷ ts) (l ∷ ls) (suc i) row test h apart names a b =
    let f = find_test last rs ts ls i row test h.1 (pairs_tail IsOther r rs apart) names.1 a b in
    let unlike : r.id ≡ row.id → ⊥ = pairs_head IsOther r rs apart row (has_at rs i row a) in
    record {
      locations = f.locations;
      found = rw (ne_eqb r.id row.id unlike) f.found;
      row_is = f.row_is;
      names = f.names;
      there = or_right (row.id == r.id) (has_test_row rs row.id) f.there;
    }
  where
    or_right : (a b : Bool) → b ≡ true → a || b ≡ true
    or_right true b h = refl
    or_right false b h = h

-- the test has the parts that its space is given
pub parts_had : (test : Test) (locations : List (List ℕ)) → AreNamesOf (test_names test) locations
    → HasParts (parts_of test.init.items test.threads.items locations) test
parts_had test locations names = record {
  init = refl;
  threads = refl;
  locations = λ n. ((λ h. inr ((names.exact n).1 h)), back n);
}
  where
    inside : (n : List ℕ) → Contains (flat_map entry_names test.init.items) n
        → Contains (test_names test) n
    inside n h =
        Contains-append_left
        (flat_map entry_names test.init.items
        ++ formula_names (formula_of test.condition.proposition))
        (flat_map place_names test.observed.items) n
        (Contains-append_left (flat_map entry_names test.init.items)
        (formula_names (formula_of test.condition.proposition)) n h)

    back : (n : List ℕ) → Contains (flat_map entry_names test.init.items) n ⊎ Contains locations n
        → Contains (test_names test) n
    back n (inl h) = inside n h
    back n (inr h) = (names.exact n).0 h
