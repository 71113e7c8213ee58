-- A relation of the things of a list, and the same relation of their indexes.
use Rattle.std.proofs.Common.{◌≡◌, ◌↔◌, ◌⊎◌, inl, inr, ℕ, ◌<◌, List, [], ◌∷◌, get_or, Contains, Bool, sym, ap, subst, ◌∙◌, arith}
use Rattle.std.specs.Prelude.{Some, slice_get, IsTrue}
use Rattle.std.proofs.lemmas.Option.{slice_get_within, slice_get-get_or, get_or_from_slice_get, same_Some}
use Rattle.meaning.specs.Sets.{Relation, Path, Transitive, IsAcyclic, IsOnce}
use Rattle.meaning_plain.specs.Lists.{RelationOf, HasPairs}
use Rattle.plain_executions.specs.Executions.{AreRelated, IsAmong}

pub index_of : {X : Type 0} (xs : List X) (x : X) → Contains xs x
    → (k : ℕ) × (slice_get xs k ≡ Some x)
index_of {X} xs x there =
    (there.0, slice_get-get_or xs there.0 x there.1 ∙ ap (λ (y : X). Some y) there.2)

pub stands : {X : Type 0} (xs : List X) (k : ℕ) (x : X) → slice_get xs k ≡ Some x
    → Contains xs x
stands xs k x at = (k, slice_get_within xs k x at, get_or_from_slice_get xs k x x at)

pub one_index : {X : Type 0} (xs : List X) (j k : ℕ) (x : X) → IsOnce xs → slice_get xs j ≡ Some x
    → slice_get xs k ≡ Some x → j ≡ k
one_index {X} xs j k x once first second = elim order [
  | inl lt ↦ absurd (once j k x lt (slice_get_within xs k x second) (same j k first second))
  | inr other ↦ elim other [
    | inl lt ↦ absurd (once k j x lt (slice_get_within xs j x first) (same k j second first))
    | inr e ↦ e
  ]
]
  where
    order : (j < k) ⊎ ((k < j) ⊎ (j ≡ k))
    order = grind arith

    same : (i l : ℕ) → slice_get xs i ≡ Some x → slice_get xs l ≡ Some x
        → get_or xs i x ≡ get_or xs l x
    same i l at also =
        get_or_from_slice_get xs i x x at ∙ sym (get_or_from_slice_get xs l x x also)

module _ {X : Type 0} (R : Relation X) (xs : List X) (ps : List (ℕ × ℕ))
    (pairs : HasPairs (AreRelated R xs) ps) where
  -- a path from what stands at an index, as one of indexes
  path_on : IsAmong xs R → (cs : List X) (a b : X) → Path R a cs b → (i : ℕ)
      → slice_get xs i ≡ Some a
      → (j : ℕ) × (slice_get xs j ≡ Some b) × Transitive (RelationOf ps) i j
  path_on among [] a b step i at =
      let end : (j : ℕ) × (slice_get xs j ≡ Some b) = index_of xs b (among a b step).1 in
      (end.0, end.1, ([], (pairs i end.0).1 (a, b, at, end.1, step)))
  path_on among (c ∷ cs) a b (step, path) i at =
      let next : (k : ℕ) × (slice_get xs k ≡ Some c) = index_of xs c (among a c step).1 in
      let rest : (j : ℕ) × (slice_get xs j ≡ Some b) × Transitive (RelationOf ps) next.0 j =
      path_on among cs c b path next.0 next.1 in
      (rest.0, rest.1, (next.0 ∷ rest.2.0, ((pairs i next.0).1 (a, c, at, next.1, step), rest.2.1)))

  -- a path of indexes, as one of what stands there
  path_back : (is : List ℕ) (i j : ℕ) → Path (RelationOf ps) i is j
      → (a : X) × (b : X) × (slice_get xs i ≡ Some a) × (slice_get xs j ≡ Some b) × Transitive R a b
  path_back [] i j step =
      let r : AreRelated R xs i j = (pairs i j).0 step in (r.0, r.1, r.2, r.3, ([], r.4))
  path_back (k ∷ is) i j (step, path) =
      let r : AreRelated R xs i k = (pairs i k).0 step in
      let q : (a : X) × (b : X) × (slice_get xs k ≡ Some a) × (slice_get xs j ≡ Some b) × Transitive R a b =
      path_back is k j path in (
        r.0,
        q.1,
        r.2,
        q.3,
        (q.0 ∷ q.4.0, (subst (λ (c : X). R r.0 c) (same_Some r.1 q.0 (sym r.3 ∙ q.2)) r.4, q.4.1)),
      )

  begins : IsAmong xs R → (cs : List X) (a b : X) → Path R a cs b → Contains xs a
  begins among [] a b step = (among a b step).0
  begins among (c ∷ cs) a b (step, path) = (among a c step).0

  pub acyclic_indexes : IsOnce xs → IsAmong xs R → IsAcyclic (RelationOf ps) ↔ IsAcyclic R
  acyclic_indexes once among = (to, back)
    where
      to : IsAcyclic (RelationOf ps) → IsAcyclic R
      to acyclic a (cs, path) =
          let at : (k : ℕ) × (slice_get xs k ≡ Some a) = index_of xs a (begins among cs a a path) in
          let round : (j : ℕ) × (slice_get xs j ≡ Some a) × Transitive (RelationOf ps) at.0 j =
          path_on among cs a a path at.0 at.1 in
          acyclic at.0
          (subst (λ (j : ℕ). Transitive (RelationOf ps) at.0 j)
          (one_index xs round.0 at.0 a once round.1 at.1) round.2)

      back : IsAcyclic R → IsAcyclic (RelationOf ps)
      back acyclic i (is, path) =
          let round : (a : X) × (b : X) × (slice_get xs i ≡ Some a) × (slice_get xs i ≡ Some b) × Transitive R a b =
          path_back is i i path in
          acyclic round.0
          (subst (λ (b : X). Transitive R round.0 b)
          (same_Some round.1 round.0 (sym round.3 ∙ round.2)) round.4)

pub acyclic_answer : {X : Type 0} (R : Relation X) (xs : List X) (ps same : List (ℕ × ℕ)) (b : Bool)
    → HasPairs (AreRelated R xs) ps → IsOnce xs → IsAmong xs R → same ≡ ps
    → IsTrue b ↔ IsAcyclic (RelationOf same) → IsTrue b ↔ IsAcyclic R
acyclic_answer R xs ps same b pairs once among e answers = (
  (λ is. both.0 (own.0 is)),
  λ acyclic. own.1 (both.1 acyclic),
)
  where
    both : IsAcyclic (RelationOf ps) ↔ IsAcyclic R
    both = acyclic_indexes R xs ps pairs once among

    own : IsTrue b ↔ IsAcyclic (RelationOf ps)
    own = subst (λ (l : List (ℕ × ℕ)). IsTrue b ↔ IsAcyclic (RelationOf l)) e answers
