-- The part of a list that lies in a set, where it is decided of each thing of the list whether it
-- does.
use Rattle.std.proofs.Common.{◌↔◌, inl, inr, ℕ, ◌<◌, ◌≤◌, List, [], ◌∷◌, length, Contains, refl, sym, subst, arith}
use Rattle.std.specs.List.{AllByRecursion}
use Rattle.meaning.specs.Sets.{Set, IsOnce, IsListOf, HasCount}
use Rattle.meaning.proofs.Counting.{here, behind, head_or_tail}
use Rattle.plain_runs.proofs.Listing.{none_there, once_none, once_cons, head_new, tail_once}
use Rattle.meanings_exist.proofs.Decisions.{Decided}

-- The second list is the part of the first that lies in the set.
pub record IsPart {X : Type 0} (T : Set X) (xs ys : List X) : Type 0 where
  pub once : IsOnce ys
  pub exact : (x : X) → Contains ys x ↔ (Contains xs x × T x)
  pub shorter : length ys ≤ length xs

none_part : {X : Type 0} (T : Set X) → IsPart T [] []
none_part T = record {
  once = once_none;
  exact = λ x. ((λ there. absurd (none_there x there)), λ h. absurd (none_there x h.0));
  shorter = omega arith;
}

more_part : {X : Type 0} (T : Set X) (x : X) (xs ys : List X) → IsOnce (x ∷ xs) → T x
    → IsPart T xs ys → IsPart T (x ∷ xs) (x ∷ ys)
more_part {X} T x xs ys once is part = record {
  once = once_cons x ys (λ there. head_new x xs once ((part.exact x).0 there).0) part.once;
  exact = λ z. (to z, back z);
  shorter = omega (arith, part.shorter);
}
  where
    to : (z : X) → Contains (x ∷ ys) z → Contains (x ∷ xs) z × T z
    to z there = elim (head_or_tail x ys z there) [
      | inl at ↦ (subst (λ (w : X). Contains (x ∷ xs) w) at (here x xs), subst T at is)
      | inr later ↦
          let found : Contains xs z × T z = (part.exact z).0 later in
          (behind x xs z found.0, found.1)
    ]

    back : (z : X) → Contains (x ∷ xs) z × T z → Contains (x ∷ ys) z
    back z h = elim (head_or_tail x xs z h.0) [
      | inl at ↦ subst (λ (w : X). Contains (x ∷ ys) w) at (here x ys)
      | inr later ↦ behind x ys z ((part.exact z).1 (later, h.1))
    ]

same_part : {X : Type 0} (T : Set X) (x : X) (xs ys : List X) → (T x → ⊥) → IsPart T xs ys
    → IsPart T (x ∷ xs) ys
same_part {X} T x xs ys not part = record {
  once = part.once;
  exact = λ z. (to z, back z);
  shorter = omega (arith, part.shorter);
}
  where
    to : (z : X) → Contains ys z → Contains (x ∷ xs) z × T z
    to z there =
        let found : Contains xs z × T z = (part.exact z).0 there in
        (behind x xs z found.0, found.1)

    back : (z : X) → Contains (x ∷ xs) z × T z → Contains ys z
    back z h = elim (head_or_tail x xs z h.0) [
      | inl at ↦ absurd (not (subst T (sym at) h.1))
      | inr later ↦ (part.exact z).1 (later, h.1)
    ]

pub part_of : {X : Type 0} (T : Set X) (xs : List X) → IsOnce xs
    → AllByRecursion (λ x. Decided (T x)) xs → (ys : List X) × IsPart T xs ys
part_of T [] once decisions = ([], none_part T)
part_of T (x ∷ xs) once decisions =
    let rest : _ = part_of T xs (tail_once x xs once) decisions.1 in
    elim decisions.0 [
      | inl is ↦ (x ∷ rest.0, more_part T x xs rest.0 once is rest.1)
      | inr not ↦ (rest.0, same_part T x xs rest.0 not rest.1)
    ]

-- the list of what two sets share
pub listed_part : {X : Type 0} (S T : Set X) (xs : List X) → IsListOf S xs
    → AllByRecursion (λ x. Decided (T x)) xs → (ys : List X) × IsListOf (λ x. S x × T x) ys
listed_part S T xs listed decisions =
    let found : _ = part_of T xs listed.once decisions in (
      found.0,
      record {
        once = found.1.once;
        exact = λ x. (
          (λ there.
              let h : _ = (found.1.exact x).0 there in ((listed.exact x).0 h.0, h.1)),
          λ h. (found.1.exact x).1 ((listed.exact x).1 h.0, h.1),
        );
      },
    )

-- and how many that are
pub counted_part : {X : Type 0} (S T : Set X) (xs : List X) → IsListOf S xs
    → AllByRecursion (λ x. Decided (T x)) xs → (n : ℕ) × HasCount (λ x. S x × T x) n
counted_part S T xs listed decisions =
    let found : _ = listed_part S T xs listed decisions in
    (length found.0, (found.0, found.1, refl))

-- decisions of each thing of a list
pub decide_each : {X : Type 0} (P : X → Type 0) (xs : List X)
    → ((x : X) → Contains xs x → P x) → AllByRecursion P xs
decide_each P [] each = tt
decide_each P (x ∷ xs) each =
    (each x (here x xs), decide_each P xs (λ z there. each z (behind x xs z there)))

-- a set with a member has some
pub above_none : {X : Type 0} (S : Set X) (n : ℕ) (x : X) → HasCount S n → S x → 0 < n
above_none S n x (xs, listed, n_is) is =
    let there : Contains xs x = (listed.exact x).1 is in omega (arith, there.1, n_is)
