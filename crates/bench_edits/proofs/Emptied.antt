-- Columns over no candidates.
use Rattle.std.proofs.Common.{ℕ, zero, suc, ◌≡◌, ◌<◌, List, [], ◌∷◌, length, map, Bool, refl, sym, ap, ◌∙◌, subst, arith}
use Rattle.std.specs.Prelude.{slice_index_or}
use Rattle.std.proofs.lemmas.List.{length-map, get_or-map}
use Rattle.std.proofs.lemmas.Option.{none-some}
use denote.Ref.{Bor}
use Rattle.binding_kinds.specs.declared.kinds.Kind.{Kind}
use Rattle.binding_kinds.specs.declared.kinds.Kind.TheVariants.{OfSet, OfRelation, OfAny}
use Rattle.binding_graph.specs.declared.resolved.Body.{Body}
use Rattle.candidate_spaces.specs.Space.{Candidate}
use Rattle.cat_machine.specs.declared.column.Column.{Column}
use Rattle.cat_machine.specs.declared.column.Column.TheVariants as columns
use Rattle.cat_machine.specs.Columns.{AreGroupColumns}
use Rattle.cat_machine.specs.Values.{IsFor, column_len}
use Rattle.bench_values.specs.Values.{OfColumn, column_of, column_value}

-- no column has a value
abbrev pub AreEmpty : List Column → Type 0
AreEmpty cs = (j : ℕ) → j < length cs → (c : Column) → column_len (slice_index_or cs j c) ≡ 0

one_value : (c d : Column) → column_len c ≡ 0 → column_len d ≡ 0
    → column_value c ≡ column_value d
one_value c d none also =
    ap (λ (n : ℕ). OfColumn (column_of n c)) none
    ∙ sym (ap (λ (n : ℕ). OfColumn (column_of n d)) also)

-- as many columns without a value have the same values
pub empty_values : (cs ds : List Column) → length cs ≡ length ds → AreEmpty cs → AreEmpty ds
    → map column_value cs ≡ map column_value ds
empty_values [] [] long e f = refl
empty_values [] (d ∷ ds) long e f = absurd (omega (arith, long))
empty_values (c ∷ cs) [] long e f = absurd (omega (arith, long))
empty_values (c ∷ cs) (d ∷ ds) long e f =
    let first : column_value c ≡ column_value d = one_value c d (e 0 (omega arith) c) (f 0 (omega arith) d) in
    let rest = empty_values cs ds (omega (arith, long)) (λ j lt x. e (suc j) (omega (arith, lt)) x)
    (λ j lt x. f (suc j) (omega (arith, lt)) x) in
    λ i. first i ∷ rest i

-- ---- the columns of bodies

abbrev empty_for : Kind → Column
empty_for OfSet = columns.Sets []
empty_for OfRelation = columns.Relations []
empty_for OfAny = columns.Relations []

empty_is_for : (k : Kind) → IsFor k (empty_for k)
empty_is_for OfSet = tt
empty_is_for OfRelation = tt
empty_is_for OfAny = tt

empty_has_none : (k : Kind) → column_len (empty_for k) ≡ 0
empty_has_none OfSet = refl
empty_has_none OfRelation = refl
empty_has_none OfAny = refl

abbrev empty_of : Body → Column
empty_of b = empty_for b.code.kind

abbrev pub empties : List Body → List Column
empties bodies = map empty_of bodies

empty_at : (bodies : List Body) (j : ℕ) (b : Body) (c : Column) → j < length bodies
    → slice_index_or (empties bodies) j c ≡ empty_of (slice_index_or bodies j b)
empty_at bodies j b c lt = get_or-map empty_of bodies j b c lt

pub empties_long : (bodies : List Body) → length (empties bodies) ≡ length bodies
empties_long bodies = length-map bodies empty_of

empties_at : (bodies : List Body) (j : ℕ) (c : Column) → j < length bodies
    → column_len (slice_index_or (empties bodies) j c) ≡ 0
empties_at [] j c lt = absurd (omega (arith, lt))
empties_at (b ∷ bs) zero c lt = empty_has_none b.code.kind
empties_at (b ∷ bs) (suc j) c lt = empties_at bs j c (omega (arith, lt))

pub are_empties : (bodies : List Body) → AreEmpty (empties bodies)
are_empties bodies j lt c =
    let long = empties_long bodies in empties_at bodies j c (omega (arith, lt, long))

-- over no candidates these are the columns of the bodies
pub empty_columns : (recursive : Bool) (bodies : List Body) (inputs : List (Bor Column))
    (candidates : List Candidate) → length candidates ≡ 0
    → AreGroupColumns recursive bodies inputs candidates (empties bodies)
empty_columns recursive bodies inputs [] none = record {
  as_many = empties_long bodies;
  suited = λ j lt b c. subst (IsFor (slice_index_or bodies j b).code.kind)
      (sym (empty_at bodies j b c lt)) (empty_is_for (slice_index_or bodies j b).code.kind);
  long = λ j lt c. empties_at bodies j c lt;
  values = λ k one e. absurd (none-some one e);
}
empty_columns recursive bodies inputs (x ∷ xs) none = absurd (omega (arith, none))
