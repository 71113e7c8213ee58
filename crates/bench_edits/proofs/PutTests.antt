-- The tests after an edit of a test.
use Rattle.std.proofs.Common.{ℕ, zero, suc, ◌<◌, ◌≤◌, ◌≡◌, ◌≢◌, ◌⊎◌, inl, inr, List, [], ◌∷◌, map, Option, Some, None, Vec, Global, slice_get, refl, sym, subst, ◌∙◌, eq-eqb, ne_eqb, arith}
use Rattle.std.specs.List.{AllZip, AllByRecursion as Each, remove}
use Rattle.std.proofs.lemmas.Bool.Decides.{eqb_tells}
use Rattle.text_values.specs.declared.test.Test.{Test}
use Rattle.memo_core.specs.Step.{Has}
use Rattle.bench_texts.specs.BenchTexts.{put_at}
use Rattle.bench_nodes.specs.declared.table.TestRow.{TestRow}
use Rattle.bench_nodes.specs.Nodes.{stamp_in, test_stamp}
use Rattle.bench_parts.specs.Built.{IsTestRow, AreTestRows}
use Rattle.bench_parts.specs.Contents.{test_part, test_content}
use Rattle.bench_parts.specs.TableLaws.{WasTestRow}
use Rattle.bench_parts.specs.Stamps.{IsPartNow}
use Rattle.bench_parts.specs.Tests.{TestEntry, held_by, stamp_by}
use Rattle.bench_parts.proofs.TestRows.{row_stays}
use Rattle.bench_edits.specs.Edited.{entry_by, test_id}
use Rattle.bench_text_laws.specs.Orderly.{AreApart}

abbrev Names : Type 0
Names = Vec (List ℕ) Global

-- the test at an index of these lists
abbrev pub entry_in : List TestRow → List Test → List Names → ℕ → Option TestEntry
entry_in rs ts ls at = entry_by (slice_get rs at) (slice_get ts at) (slice_get ls at)

-- it had the stamps of edits
pub entry_was : (last : ℕ) (rs : List TestRow) (ts : List Test) (ls : List Names) (at : ℕ)
    → AreTestRows last rs ts ls → WasTestRow last (entry_in rs ts ls at)
entry_was last [] ts ls at h = tt
entry_was last (r ∷ rs) [] ls at h = absurd h
entry_was last (r ∷ rs) (t ∷ ts) [] at h = absurd h
entry_was last (r ∷ rs) (t ∷ ts) (l ∷ ls) zero h = h.0
entry_was last (r ∷ rs) (t ∷ ts) (l ∷ ls) (suc at) h = entry_was last rs ts ls at h.1

-- rows of an earlier edit are rows of a later one
pub rows_stay : (last number : ℕ) (rs : List TestRow) (ts : List Test) (ls : List Names)
    → last ≤ number → AreTestRows last rs ts ls → AreTestRows number rs ts ls
rows_stay last number [] [] [] le h = tt
rows_stay last number [] [] (l ∷ ls) le h = absurd h
rows_stay last number [] (t ∷ ts) ls le h = absurd h
rows_stay last number (r ∷ rs) [] ls le h = absurd h
rows_stay last number (r ∷ rs) (t ∷ ts) [] le h = absurd h
rows_stay last number (r ∷ rs) (t ∷ ts) (l ∷ ls) le h =
    (row_stays last number r t le h.0, rows_stay last number rs ts ls le h.1)

-- ---- a test takes an index

pub rows_put : (last number at : ℕ) (rs : List TestRow) (ts : List Test) (ls : List Names)
    (new : TestRow) (test : Test) (names : Names) → last ≤ number → AreTestRows last rs ts ls
    → IsTestRow number new test
    → AreTestRows number (put_at at new rs) (put_at at test ts) (put_at at names ls)
rows_put last number zero [] [] [] new test names le h one = (one, tt)
rows_put last number (suc at) [] [] [] new test names le h one = (one, tt)
rows_put last number at [] [] (l ∷ ls) new test names le h one = absurd h
rows_put last number at [] (t ∷ ts) ls new test names le h one = absurd h
rows_put last number at (r ∷ rs) [] ls new test names le h one = absurd h
rows_put last number at (r ∷ rs) (t ∷ ts) [] new test names le h one = absurd h
rows_put last number zero (r ∷ rs) (t ∷ ts) (l ∷ ls) new test names le h one =
    (one, rows_stay last number rs ts ls le h.1)
rows_put last number (suc at) (r ∷ rs) (t ∷ ts) (l ∷ ls) new test names le h one =
    (row_stays last number r t le h.0, rows_put last number at rs ts ls new test names le h.1 one)

pub zip_put : {A B : Type 0} (R : A → B → Type 0) (at : ℕ) (xs : List A) (ys : List B) (x : A)
    (y : B) → AllZip R xs ys → R x y → AllZip R (put_at at x xs) (put_at at y ys)
zip_put R zero [] [] x y h one = (one, tt)
zip_put R (suc at) [] [] x y h one = (one, tt)
zip_put R at [] (b ∷ ys) x y h one = absurd h
zip_put R at (a ∷ xs) [] x y h one = absurd h
zip_put R zero (a ∷ xs) (b ∷ ys) x y h one = (one, h.1)
zip_put R (suc at) (a ∷ xs) (b ∷ ys) x y h one = (h.0, zip_put R at xs ys x y h.1 one)

-- each part of the tests is as it was, or has the number of the edit, or is gone
pub parts_put : (number fresh at : ℕ) (rs : List TestRow) (ts : List Test) (ls : List Names)
    (new : TestRow) (test : Test) (names : Names) (last : ℕ) → AreTestRows last rs ts ls
    → new.id ≡ test_id fresh (entry_in rs ts ls at)
    → ((part : ℕ)
    → IsPartNow (held_by (entry_in rs ts ls at) part) (stamp_by (entry_in rs ts ls at) part)
    number (test_part test names.items part) (stamp_in new part))
    → (part of : ℕ)
    → IsPartNow (test_content rs ts ls part of) (test_stamp rs part of) number
    (test_content (put_at at new rs) (put_at at test ts) (put_at at names ls) part of)
    (test_stamp (put_at at new rs) part of)
parts_put number fresh zero [] [] [] new test names last h id now part of =
    elim (eqb_tells new.id of) [
      | inl same ↦ rw same.0 (now part)
      | inr other ↦ rw other.0 (inl (refl, refl))
    ]
parts_put number fresh (suc at) [] [] [] new test names last h id now part of =
    elim (eqb_tells new.id of) [
      | inl same ↦ rw same.0 (now part)
      | inr other ↦ rw other.0 (inl (refl, refl))
    ]
parts_put number fresh at [] [] (l ∷ ls) new test names last h id now part of = absurd h
parts_put number fresh at [] (t ∷ ts) ls new test names last h id now part of = absurd h
parts_put number fresh at (r ∷ rs) [] ls new test names last h id now part of = absurd h
parts_put number fresh at (r ∷ rs) (t ∷ ts) [] new test names last h id now part of = absurd h
parts_put number fresh zero (r ∷ rs) (t ∷ ts) (l ∷ ls) new test names last h id now part of =
    elim (eqb_tells r.id of) [
      | inl same ↦ let e : new.id ≡ of = id ∙ same.1 in rw (same.0, eq-eqb new.id of e) (now part)
      | inr other ↦
          let e : new.id ≢ of = λ k. other.1 (sym id ∙ k) in
          rw (other.0, ne_eqb new.id of e) (inl (refl, refl))
    ]
parts_put number fresh (suc at) (r ∷ rs) (t ∷ ts) (l ∷ ls) new test names last h id now part of =
    elim (eqb_tells r.id of) [
      | inl same ↦ rw same.0 (inl (refl, refl))
      | inr other ↦ rw other.0 (parts_put number fresh at rs ts ls new test names last h.1 id now
          part
          of)
    ]

-- ---- numbers

abbrev ids : List TestRow → List ℕ
ids rs = map (λ r. r.id) rs

has_put : (fresh at n : ℕ) (rs : List TestRow) (ts : List Test) (ls : List Names) (new : TestRow)
    (last : ℕ) → AreTestRows last rs ts ls → new.id ≡ test_id fresh (entry_in rs ts ls at)
    → Has (ids (put_at at new rs)) n → Has (ids rs) n ⊎ (n ≡ fresh)
has_put fresh zero n [] [] [] new last h id has =
    elim has [ inl e ↦ inr (sym e ∙ id) | inr gone ↦ absurd gone ]
has_put fresh (suc at) n [] [] [] new last h id has =
    elim has [ inl e ↦ inr (sym e ∙ id) | inr gone ↦ absurd gone ]
has_put fresh at n [] [] (l ∷ ls) new last h id has = absurd h
has_put fresh at n [] (t ∷ ts) ls new last h id has = absurd h
has_put fresh at n (r ∷ rs) [] ls new last h id has = absurd h
has_put fresh at n (r ∷ rs) (t ∷ ts) [] new last h id has = absurd h
has_put fresh zero n (r ∷ rs) (t ∷ ts) (l ∷ ls) new last h id has =
    elim has [ inl e ↦ inl (inl (sym id ∙ e)) | inr later ↦ inl (inr later) ]
has_put fresh (suc at) n (r ∷ rs) (t ∷ ts) (l ∷ ls) new last h id has = elim has [
  | inl e ↦ inl (inl e)
  | inr later ↦ elim (has_put fresh at n rs ts ls new last h.1 id later)
      [ inl was ↦ inl (inr was) | inr e ↦ inr e ]
]

pub apart_put : (fresh at last : ℕ) (rs : List TestRow) (ts : List Test) (ls : List Names)
    (new : TestRow) → AreTestRows last rs ts ls → new.id ≡ test_id fresh (entry_in rs ts ls at)
    → last < fresh → Each (λ r. r.id ≤ last) rs → AreApart (ids rs)
    → AreApart (ids (put_at at new rs))
apart_put fresh zero last [] [] [] new h id lt low apart = ((λ gone. gone), tt)
apart_put fresh (suc at) last [] [] [] new h id lt low apart = ((λ gone. gone), tt)
apart_put fresh at last [] [] (l ∷ ls) new h id lt low apart = absurd h
apart_put fresh at last [] (t ∷ ts) ls new h id lt low apart = absurd h
apart_put fresh at last (r ∷ rs) [] ls new h id lt low apart = absurd h
apart_put fresh at last (r ∷ rs) (t ∷ ts) [] new h id lt low apart = absurd h
apart_put fresh zero last (r ∷ rs) (t ∷ ts) (l ∷ ls) new h id lt low apart =
    ((λ has. apart.0 (subst (λ (n : ℕ). Has (ids rs) n) id has)), apart.1)
apart_put fresh (suc at) last (r ∷ rs) (t ∷ ts) (l ∷ ls) new h id lt low apart = (
  (λ has. elim (has_put fresh at r.id rs ts ls new last h.1 id has) [
    | inl was ↦ apart.0 was
    | inr e
        ↦ absurd (omega (arith, low.0, e, lt))
  ]),
  apart_put fresh at last rs ts ls new h.1 id lt low.1 apart.1,
)

pub low_put : (number at last : ℕ) (rs : List TestRow) (new : TestRow) → new.id ≤ number
    → last ≤ number → Each (λ r. r.id ≤ last) rs → Each (λ r. r.id ≤ number) (put_at at new rs)
low_put number zero last [] new one le low = (one, tt)
low_put number (suc at) last [] new one le low = (one, tt)
low_put number zero last (r ∷ rs) new one le low = (one, lows_stay number last rs le low.1)
  where
    lows_stay : (number last : ℕ) (rs : List TestRow) → last ≤ number → Each (λ r. r.id ≤ last) rs
        → Each (λ r. r.id ≤ number) rs
    lows_stay number last [] le low = tt
    lows_stay number last (r ∷ rs) le low =
        (omega (arith, low.0, le), lows_stay number last rs le low.1)
low_put number (suc at) last (r ∷ rs) new one le low =
    (omega (arith, low.0, le), low_put number at last rs new one le low.1)

-- the number of the test that takes an index
pub id_low : (fresh at last : ℕ) (rs : List TestRow) (ts : List Test) (ls : List Names)
    → last < fresh → Each (λ r. r.id ≤ last) rs → test_id fresh (entry_in rs ts ls at) ≤ fresh
id_low fresh at last [] ts ls lt low = omega arith
id_low fresh at last (r ∷ rs) [] ls lt low = none (slice_get (r ∷ rs) at) (slice_get ls at)
  where
    none : (o : Option TestRow) (q : Option Names) → test_id fresh (entry_by o None q) ≤ fresh
    none None q = omega arith
    none (Some r) q = omega arith
id_low fresh at last (r ∷ rs) (t ∷ ts) [] lt low =
    none (slice_get (r ∷ rs) at) (slice_get (t ∷ ts) at)
  where
    none : (o : Option TestRow) (q : Option Test) → test_id fresh (entry_by o q None) ≤ fresh
    none None q = omega arith
    none (Some r) None = omega arith
    none (Some r) (Some t) = omega arith
id_low fresh zero last (r ∷ rs) (t ∷ ts) (l ∷ ls) lt low = omega (arith, low.0, lt)
id_low fresh (suc at) last (r ∷ rs) (t ∷ ts) (l ∷ ls) lt low =
    id_low fresh at last rs ts ls lt low.1

-- ---- a test goes

pub rows_removed : (last number at : ℕ) (rs : List TestRow) (ts : List Test) (ls : List Names)
    → last ≤ number → AreTestRows last rs ts ls
    → AreTestRows number (remove rs at) (remove ts at) (remove ls at)
rows_removed last number zero [] [] [] le h = tt
rows_removed last number (suc at) [] [] [] le h = tt
rows_removed last number at [] [] (l ∷ ls) le h = absurd h
rows_removed last number at [] (t ∷ ts) ls le h = absurd h
rows_removed last number at (r ∷ rs) [] ls le h = absurd h
rows_removed last number at (r ∷ rs) (t ∷ ts) [] le h = absurd h
rows_removed last number zero (r ∷ rs) (t ∷ ts) (l ∷ ls) le h =
    rows_stay last number rs ts ls le h.1
rows_removed last number (suc at) (r ∷ rs) (t ∷ ts) (l ∷ ls) le h =
    (row_stays last number r t le h.0, rows_removed last number at rs ts ls le h.1)

pub zip_removed : {A B : Type 0} (R : A → B → Type 0) (at : ℕ) (xs : List A) (ys : List B)
    → AllZip R xs ys → AllZip R (remove xs at) (remove ys at)
zip_removed R zero [] [] h = tt
zip_removed R (suc at) [] [] h = tt
zip_removed R at [] (b ∷ ys) h = absurd h
zip_removed R at (a ∷ xs) [] h = absurd h
zip_removed R zero (a ∷ xs) (b ∷ ys) h = h.1
zip_removed R (suc at) (a ∷ xs) (b ∷ ys) h = (h.0, zip_removed R at xs ys h.1)

no_stamp : (rs : List TestRow) (part of : ℕ) → (Has (ids rs) of → ⊥) → test_stamp rs part of ≡ 0
no_stamp [] part of gone = refl
no_stamp (r ∷ rs) part of gone =
    rw (ne_eqb r.id of (λ e. gone (inl e))) (no_stamp rs part of (λ has. gone (inr has)))

pub parts_removed : (number at last : ℕ) (rs : List TestRow) (ts : List Test) (ls : List Names)
    → AreTestRows last rs ts ls → AreApart (ids rs)
    → (part of : ℕ)
    → IsPartNow (test_content rs ts ls part of) (test_stamp rs part of) number
    (test_content (remove rs at) (remove ts at) (remove ls at) part of)
    (test_stamp (remove rs at) part of)
parts_removed number zero last [] [] [] h apart part of = inl (refl, refl)
parts_removed number (suc at) last [] [] [] h apart part of = inl (refl, refl)
parts_removed number at last [] [] (l ∷ ls) h apart part of = absurd h
parts_removed number at last [] (t ∷ ts) ls h apart part of = absurd h
parts_removed number at last (r ∷ rs) [] ls h apart part of = absurd h
parts_removed number at last (r ∷ rs) (t ∷ ts) [] h apart part of = absurd h
parts_removed number zero last (r ∷ rs) (t ∷ ts) (l ∷ ls) h apart part of =
    elim (eqb_tells r.id of) [
      | inl same ↦ inr (inr (no_stamp rs part of (λ has.
          apart.0 (subst (λ (n : ℕ). Has (ids rs) n) (sym same.1) has))))
      | inr other ↦ rw other.0 (inl (refl, refl))
    ]
parts_removed number (suc at) last (r ∷ rs) (t ∷ ts) (l ∷ ls) h apart part of =
    elim (eqb_tells r.id of) [
      | inl same ↦ rw same.0 (inl (refl, refl))
      | inr other ↦ rw other.0 (parts_removed number at last rs ts ls h.1 apart.1 part of)
    ]

has_removed : {A : Type 0} (xs : List A) (at : ℕ) (x : A) → Has (remove xs at) x → Has xs x
has_removed [] zero x h = h
has_removed [] (suc at) x h = h
has_removed (y ∷ xs) zero x h = inr h
has_removed (y ∷ xs) (suc at) x h =
    elim h [ inl e ↦ inl e | inr later ↦ inr (has_removed xs at x later) ]

pub apart_removed : {A : Type 0} (xs : List A) (at : ℕ) → AreApart xs → AreApart (remove xs at)
apart_removed [] zero h = tt
apart_removed [] (suc at) h = tt
apart_removed (x ∷ xs) zero h = h.1
apart_removed (x ∷ xs) (suc at) h =
    ((λ has. h.0 (has_removed xs at x has)), apart_removed xs at h.1)

pub low_removed : (number last at : ℕ) (rs : List TestRow) → last ≤ number
    → Each (λ r. r.id ≤ last) rs → Each (λ r. r.id ≤ number) (remove rs at)
low_removed number last zero [] le low = tt
low_removed number last (suc at) [] le low = tt
low_removed number last zero (r ∷ rs) le low = lows_stay rs low.1
  where
    lows_stay : (rs : List TestRow) → Each (λ r. r.id ≤ last) rs → Each (λ r. r.id ≤ number) rs
    lows_stay [] low = tt
    lows_stay (r ∷ rs) low = (omega (arith, low.0, le), lows_stay rs low.1)
low_removed number last (suc at) (r ∷ rs) le low =
    (omega (arith, low.0, le), low_removed number last at rs le low.1)
