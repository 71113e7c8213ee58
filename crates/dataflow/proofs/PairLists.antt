-- The list of the pairs whose bits are set, by rising first places.
use Rattle.std.proofs.Common.{ℕ, zero, ◌≡◌, ◌<◌, ◌⊎◌, ◌+◌, ◌↔◌, inl, inr, List, [], ◌∷◌, ◌++◌, refl, sym, ap, subst, ◌∙◌, arith, length, get_or}
use Rattle.std.specs.List.{All, Contains}
use Rattle.std.proofs.lemmas.List.{length-append, get_or_append_left}
use Rattle.std.proofs.lemmas.List.Elements.{Contains-append_left, Contains-append_right, Contains-append_cases, Contains-get_or}
use Rattle.std.proofs.Math.Seq.{get_or-append_seam}
use Rattle.std.proofs.lemmas.Bool.{cases_eq}
use Rattle.taints.specs.Chains.{IsPairBefore, ArePairsRising}
use Rattle.bit_rows.specs.Relation.{Bit}
use Rattle.dataflow.specs.Dependencies.{ArePairsOfWords}
use Rattle.dataflow.specs.Bounds.{IsPairBelow}

-- before the pair of these places
abbrev pub IsEarlier : ℕ → ℕ → ℕ × ℕ → Type 0
IsEarlier from to p = (p.0 < from) ⊎ ((p.0 ≡ from) × (p.1 < to))

-- the pairs that come before a pair
pub record UpTo (words : List ℕ) (count from to : ℕ) (ps : List (ℕ × ℕ)) : Type 0 where
  pub rising : ArePairsRising ps
  pub exact : (p : ℕ × ℕ)
      → Contains ps p ↔ (IsEarlier from to p × (p.1 < count) × Bit (get_or words p.1 0) p.0)

rising_more : (ps : List (ℕ × ℕ)) (q : ℕ × ℕ) → ((p : ℕ × ℕ) → Contains ps p → IsPairBefore p q)
    → ArePairsRising ps → ArePairsRising (ps ++ q ∷ [])
rising_more ps q before old i j lt inside = elim (cases_eq j (length ps)) [
  | inl same ↦
      subst (λ (x : ℕ × ℕ). IsPairBefore (get_or (ps ++ q ∷ []) i (0, 0)) x) (sym
      (ap (λ (k : ℕ). get_or (ps ++ q ∷ []) k (0, 0)) same
      ∙ get_or-append_seam ps q [] (0, 0)))
      (subst (λ (x : ℕ × ℕ). IsPairBefore x q)
      (sym (get_or_append_left ps (q ∷ []) (0, 0) i (omega (arith, lt, same))))
      (before (get_or ps i (0, 0)) (Contains-get_or ps i (0, 0) (omega (arith, lt, same)))))
  | inr ne ↦
      let less : j < length ps = omega (arith, inside, length-append ps (q ∷ [])) in
      subst (λ (x : ℕ × ℕ). IsPairBefore (get_or (ps ++ q ∷ []) i (0, 0)) x)
      (sym (get_or_append_left ps (q ∷ []) (0, 0) j less))
      (subst (λ (x : ℕ × ℕ). IsPairBefore x (get_or ps j (0, 0)))
      (sym (get_or_append_left ps (q ∷ []) (0, 0) i (omega (arith, lt, less))))
      (old i j lt less))
]

pair_is : (p q : ℕ × ℕ) → p.0 ≡ q.0 → p.1 ≡ q.1 → p ≡ q
pair_is p q a b = ap (λ (x : ℕ). (x, p.1)) a ∙ ap (λ (y : ℕ). (q.0, y)) b

one_only : (q p : ℕ × ℕ) → Contains (q ∷ []) p → q ≡ p
one_only q p here =
    let (k, lt, same) = here in
    let first : k ≡ 0 = omega (arith, lt) in
    subst (λ (j : ℕ). get_or (q ∷ []) j p ≡ p) first same

pub one_more : (words : List ℕ) (count from to : ℕ) (ps : List (ℕ × ℕ)) → to < count
    → Bit (get_or words to 0) from → UpTo words count from to ps
    → UpTo words count from (to + 1) (ps ++ (from, to) ∷ [])
one_more words count from to ps lt bit old = record {
  rising =
      rising_more ps (from, to) (λ p here. let (e, r, b) = (old.exact p).0 here in e) old.rising;
  exact = λ p. ((λ here. forth p (Contains-append_cases ps ((from, to) ∷ []) p here)), back p);
}
  where
    later : (p : ℕ × ℕ) → IsEarlier from to p → IsEarlier from (to + 1) p
    later p (inl x) = inl x
    later p (inr x) = inr (x.0, omega (arith, x.1))

    forth : (p : ℕ × ℕ) → Contains ps p ⊎ Contains ((from, to) ∷ []) p
        → IsEarlier from (to + 1) p × (p.1 < count) × Bit (get_or words p.1 0) p.0
    forth p (inl here) = let (e, r, b) = (old.exact p).0 here in (later p e, r, b)
    forth p (inr here) =
        subst
        (λ (q : ℕ × ℕ). IsEarlier from (to + 1) q × (q.1 < count) × Bit (get_or words q.1 0) q.0)
        (one_only (from, to) p here) (inr (refl, omega arith), lt, bit)

    back : (p : ℕ × ℕ) → IsEarlier from (to + 1) p × (p.1 < count) × Bit (get_or words p.1 0) p.0
        → Contains (ps ++ (from, to) ∷ []) p
    back p x = let (e, r, b) = x in elim e [
      | inl less ↦ Contains-append_left ps ((from, to) ∷ []) p ((old.exact p).1 (inl less, r, b))
      | inr y ↦ elim (cases_eq p.1 to) [
        | inl same ↦ Contains-append_right ps ((from, to) ∷ []) p (
          zero,
          omega arith,
          pair_is (from, to) p (sym y.0) (sym same),
        )
        | inr ne ↦ Contains-append_left ps ((from, to) ∷ []) p
            ((old.exact p).1 (inr (y.0, omega (arith, y.1, ne)), r, b))
      ]
    ]

pub none_more : (words : List ℕ) (count from to : ℕ) (ps : List (ℕ × ℕ))
    → (Bit (get_or words to 0) from → ⊥) → UpTo words count from to ps
    → UpTo words count from (to + 1) ps
none_more words count from to ps none old = record {
  rising = old.rising;
  exact =
      λ p. (
        (λ here. let (e, r, b) = (old.exact p).0 here in (later p e, r, b)),
        (λ x. let (e, r, b) = x in (old.exact p).1 (sooner p e b, r, b)),
      );
}
  where
    later : (p : ℕ × ℕ) → IsEarlier from to p → IsEarlier from (to + 1) p
    later p (inl x) = inl x
    later p (inr x) = inr (x.0, omega (arith, x.1))

    sooner : (p : ℕ × ℕ) → IsEarlier from (to + 1) p → Bit (get_or words p.1 0) p.0
        → IsEarlier from to p
    sooner p (inl x) b = inl x
    sooner p (inr x) b = elim (cases_eq p.1 to) [
      | inl same ↦ absurd (none (subst (λ (k : ℕ). Bit (get_or words to 0) k) x.0
          (subst (λ (k : ℕ). Bit (get_or words k 0) p.0) same b)))
      | inr ne ↦ inr (x.0, omega (arith, x.1, ne))
    ]

pub row_done : (words : List ℕ) (count from : ℕ) (ps : List (ℕ × ℕ))
    → UpTo words count from count ps → UpTo words count (from + 1) 0 ps
row_done words count from ps old = record {
  rising = old.rising;
  exact =
      λ p. (
        (λ here. let (e, r, b) = (old.exact p).0 here in (later p e, r, b)),
        (λ x. let (e, r, b) = x in (old.exact p).1 (sooner p e r, r, b)),
      );
}
  where
    later : (p : ℕ × ℕ) → IsEarlier from count p → IsEarlier (from + 1) 0 p
    later p (inl x) = inl (omega (arith, x))
    later p (inr x) = inl (omega (arith, x.0))

    sooner : (p : ℕ × ℕ) → IsEarlier (from + 1) 0 p → p.1 < count → IsEarlier from count p
    sooner p (inl x) r =
        elim (cases_eq p.0 from) [ inl same ↦ inr (same, r) | inr ne ↦ inl (omega (arith, x, ne)) ]
    sooner p (inr x) r = absurd (omega (arith, x.1))

pub all_done : (words : List ℕ) (count : ℕ) (ps : List (ℕ × ℕ)) → UpTo words count count 0 ps
    → ArePairsOfWords words count ps
all_done words count ps old = record {
  rising = old.rising;
  exact =
      λ p. (
        (λ here. let (e, r, b) = (old.exact p).0 here in (below p e, r, b)),
        (λ x. let (l, r, b) = x in (old.exact p).1 (inl l, r, b)),
      );
}
  where
    below : (p : ℕ × ℕ) → IsEarlier count 0 p → p.0 < count
    below p (inl x) = x
    below p (inr x) = absurd (omega (arith, x.1))

-- the places of the pairs are below the count
pub all_within : (words : List ℕ) (count : ℕ) (ps : List (ℕ × ℕ)) → ArePairsOfWords words count ps
    → All (IsPairBelow count) ps
all_within words count ps found k d lt =
    let (l, r, b) = (found.exact (get_or ps k d)).0 (Contains-get_or ps k d lt) in (l, r)
