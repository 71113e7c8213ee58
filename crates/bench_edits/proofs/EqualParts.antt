-- A part that holds what it held has its stamp of before.
use Rattle.std.proofs.Common.{◌≡◌, ◌≢◌, ℕ, zero, suc, inl, inr, List, [], ◌∷◌, map, Some, None, Vec, Global, All, sym, subst, ◌∙◌, refl, eq-eqb, ne_eqb}
use Rattle.std.specs.List.{remove}
use Rattle.std.proofs.lemmas.Bool.Decides.{eqb_tells}
use Rattle.text_values.specs.declared.test.Test.{Test}
use Rattle.memo_core.specs.Step.{Has}
use Rattle.bench_texts.specs.BenchTexts.{put_at}
use Rattle.bench_texts.specs.Held.{IsModelRead}
use Rattle.bench_texts.specs.Replacements.{tests_with, models_with}
use Rattle.bench_texts.specs.declared.model.NamedModel.{NamedModel}
use Rattle.bench_texts.specs.declared.replacement.Replacement.{Replacement}
use Rattle.bench_texts.specs.declared.replacement.Replacement.TheVariants as made
use Rattle.bench_nodes.specs.declared.table.TestRow.{TestRow}
use Rattle.bench_nodes.specs.Nodes.{test_stamp}
use Rattle.bench_parts.specs.declared.parts.Parts.{Parts}
use Rattle.bench_parts.specs.Built.{AreTestRows}
use Rattle.bench_parts.specs.Contents.{PartContent, test_content}
use Rattle.bench_parts.specs.Stamps.{next_number}
use Rattle.bench_parts.specs.Tests.{IsRowOf, IsRaisedRow}
use Rattle.bench_parts.specs.Written.{EqualPartsKeepStamps}
use Rattle.bench_edits.specs.declared.edited.EditedParts.{EditedParts}
use Rattle.bench_edits.specs.declared.edited.EditedParts.TheVariants as edited
use Rattle.bench_edits.specs.Edited.{test_id, AreTestsSame, PutsTest, DropsTest}
use Rattle.bench_edits.specs.Laws.{IsEdit}
use Rattle.bench_edits.specs.Owed.{ArePartsOf, item_numbers}
use Rattle.bench_text_laws.specs.Orderly.{AreApart}
use Rattle.bench_edits.specs.Readings.{written_state}
use Rattle.bench_edits.proofs.Faults.{items_left, faults_left}
use Rattle.bench_edits.proofs.ModelEdits.{edits_keep}
use Rattle.bench_edits.proofs.PutTests.{entry_in}
use Rattle.bench_edits.proofs.TestsLeft.{put_entry}

abbrev Names : Type 0
Names = Vec (List ℕ) Global

none_is : {A : Type 0} {a : A} → None ≡ Some a → ⊥
none_is e = cc

-- ---- tests

-- a part that holds the same in the later tests has one stamp in both
abbrev KeepStamps : List TestRow → List Test → List Names → List TestRow → List Test → List Names
    → Type 0
KeepStamps rs ts ls new after names =
    (part of : ℕ) (c : PartContent) → test_content rs ts ls part of ≡ Some c
    → test_content new after names part of ≡ Some c → test_stamp new part of ≡ test_stamp rs part of

-- what holds something is a part of a test
content_has : (rs : List TestRow) (ts : List Test) (ls : List Names) (part of : ℕ) (c : PartContent)
    → test_content rs ts ls part of ≡ Some c → Has (map (λ r. r.id) rs) of
content_has [] ts ls part of c = λ e. absurd (none_is e)
content_has (r ∷ rs) [] ls part of c = λ e. absurd (none_is e)
content_has (r ∷ rs) (t ∷ ts) [] part of c = λ e. absurd (none_is e)
content_has (r ∷ rs) (t ∷ ts) (l ∷ ls) part of c = elim (eqb_tells r.id of) [
  | inl same ↦ λ e. inl same.1
  | inr other ↦ rw other.0 (λ e. inr (content_has rs ts ls part of c e))
]

module _ (last number : ℕ) (row new : TestRow) (test : Test) (names : Names)
    (raised : IsRaisedRow last number row new) where
  -- a test takes an index
  tests_put : (at : ℕ) (rs : List TestRow) (ts : List Test) (ls : List Names)
      → AreTestRows last rs ts ls
      → IsRowOf (next_number last) (entry_in rs ts ls at)
      (test_id (next_number last) (entry_in rs ts ls at)) test names.items row
      → KeepStamps rs ts ls (put_at at new rs) (put_at at test ts) (put_at at names ls)
  tests_put at [] [] [] h made part of c = λ was is. absurd (none_is was)
  tests_put at [] [] (l ∷ ls) h made part of c = absurd h
  tests_put at [] (t ∷ ts) ls h made part of c = absurd h
  tests_put at (r ∷ rs) [] ls h made part of c = absurd h
  tests_put at (r ∷ rs) (t ∷ ts) [] h made part of c = absurd h
  tests_put zero (r ∷ rs) (t ∷ ts) (l ∷ ls) h made part of c = elim (eqb_tells r.id of) [
    | inl same ↦ let e : new.id ≡ of = raised.id_is ∙ made.id_is ∙ same.1 in
        let kept = put_entry last number (record { row = r; test = t; locations = l.items }) test names.items row new h.0 made raised in
        rw (same.0, eq-eqb new.id of e) (λ was is. kept.stamps part (is ∙ sym was))
    | inr other ↦
        let e : new.id ≢ of = λ k. other.1 (sym (raised.id_is ∙ made.id_is) ∙ k) in
        rw (other.0, ne_eqb new.id of e) (λ was is. refl)
  ]
  tests_put (suc at) (r ∷ rs) (t ∷ ts) (l ∷ ls) h made part of c = elim (eqb_tells r.id of) [
    | inl same ↦ rw same.0 (λ was is. refl)
    | inr other ↦ rw other.0 (λ was is. tests_put at rs ts ls h.1 made part of c was is)
  ]

-- a test goes
tests_removed : (last at : ℕ) (rs : List TestRow) (ts : List Test) (ls : List Names)
    → AreTestRows last rs ts ls → AreApart (map (λ r. r.id) rs)
    → KeepStamps rs ts ls (remove rs at) (remove ts at) (remove ls at)
tests_removed last at [] [] [] h apart part of c = λ was is. absurd (none_is was)
tests_removed last at [] [] (l ∷ ls) h apart part of c = absurd h
tests_removed last at [] (t ∷ ts) ls h apart part of c = absurd h
tests_removed last at (r ∷ rs) [] ls h apart part of c = absurd h
tests_removed last at (r ∷ rs) (t ∷ ts) [] h apart part of c = absurd h
tests_removed last zero (r ∷ rs) (t ∷ ts) (l ∷ ls) h apart part of c = elim (eqb_tells r.id of) [
  | inl same ↦ λ was is. absurd (apart.0 (subst (λ (n : ℕ). Has (map (λ (x : TestRow). x.id) rs) n)
      (sym same.1) (content_has rs ts ls part of c is)))
  | inr other ↦ rw other.0 (λ was is. refl)
]
tests_removed last (suc at) (r ∷ rs) (t ∷ ts) (l ∷ ls) h apart part of c =
    elim (eqb_tells r.id of) [
      | inl same ↦ rw same.0 (λ was is. refl)
      | inr other ↦ rw other.0 (λ was is.
          tests_removed last at rs ts ls h.1 apart.1 part of c was is)
    ]

-- ---- after an edit

abbrev TestsKeep : Parts → List Test → Parts → List Test → Type 0
TestsKeep p tests q after =
    KeepStamps p.table.tests.items tests p.locations.items q.table.tests.items after
    q.locations.items

tests_same : (p q : Parts) (tests : List Test) → AreTestsSame p q → TestsKeep p tests q tests
tests_same p q tests same part of c = rw (same.rows, same.locations) (λ was is. refl)

tests_left : (p q : Parts) (tests : List Test) (models : List NamedModel) (r : Replacement)
    (number : ℕ) (e : EditedParts) → IsEdit p tests models r number e q
    → TestsKeep p tests q (tests_with r tests)
tests_left p q tests models (made.PutTest at test) number (edited.PutTest to row names) edit part of
    c =
    let puts = subst (λ (i : ℕ). PutsTest p number i row names q) edit.is_made.0 edit.committed.changes in
    rw (puts.rows, puts.locations_are) (tests_put p.last number row puts.new test names puts.raised
    at p.table.tests.items tests p.locations.items edit.owed.built.tests edit.is_made.1.made
    part of c)
tests_left p q tests models (made.PutTest at test) number (edited.DropTest to) edit part of c =
    absurd edit.is_made
tests_left p q tests models (made.PutTest at test) number (edited.Models m) edit part of c =
    absurd edit.is_made
tests_left p q tests models (made.DropTest at) number (edited.PutTest to row names) edit part of c =
    absurd edit.is_made
tests_left p q tests models (made.DropTest at) number (edited.DropTest to) edit part of c =
    let drops = subst (λ (i : ℕ). DropsTest p i q) edit.is_made edit.committed.changes in
    rw (drops.rows, drops.locations) (tests_removed p.last at p.table.tests.items tests
    p.locations.items edit.owed.built.tests edit.owed.numbered.tests_apart part of c)
tests_left p q tests models (made.DropTest at) number (edited.Models m) edit part of c =
    absurd edit.is_made
tests_left p q tests models (made.PutModel at model next) number (edited.PutTest to row names) edit
    part of c = absurd edit.is_made
tests_left p q tests models (made.PutModel at model next) number (edited.DropTest to) edit part of
    c = absurd edit.is_made
tests_left p q tests models (made.PutModel at model next) number (edited.Models m) edit part of c =
    tests_same p q tests edit.committed.changes.tests part of c
tests_left p q tests models (made.DropModel at) number (edited.PutTest to row names) edit part of
    c = absurd edit.is_made
tests_left p q tests models (made.DropModel at) number (edited.DropTest to) edit part of c =
    absurd edit.is_made
tests_left p q tests models (made.DropModel at) number (edited.Models m) edit part of c =
    tests_same p q tests edit.committed.changes.tests part of c

pub equal_parts_keep : (p q : Parts) (tests : List Test) (models : List NamedModel)
    (r : Replacement) (number : ℕ) (e : EditedParts) → IsEdit p tests models r number e q
    → AreApart (item_numbers (models_with r models)) → All IsModelRead (models_with r models)
    → (next later part : ℕ)
    → EqualPartsKeepStamps (written_state p tests models next)
    (written_state q (tests_with r tests) (models_with r models) later) part
equal_parts_keep p q tests models r number e edit numbers read next later part =
    elim (eqb_tells part 0) [
      | inl zero_is ↦ subst Keep (sym zero_is.1) (items_left p q tests models r number e next later
          edit
          owed)
      | inr other ↦ elim (eqb_tells part 1) [
        | inl one_is ↦ subst Keep (sym one_is.1) (faults_left p q tests models r number e next later
            edit owed)
        | inr more ↦ λ of c.
            rw (other.0, more.0) (tests_left p q tests models r number e edit part of c)
      ]
    ]
  where
    Keep : ℕ → Type 0
    Keep =
        EqualPartsKeepStamps (written_state p tests models next) (written_state q
        (tests_with r tests) (models_with r models) later)

    owed : ArePartsOf q (tests_with r tests) (models_with r models)
    owed = edits_keep p q tests models r number e edit numbers read
