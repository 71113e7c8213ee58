-- The pairs of a relation, as they are listed; and what is drawn of it.
use Rattle.std.proofs.Common.{ℕ, zero, ◌≡◌, ◌<◌, ◌⊎◌, ◌+◌, ◌↔◌, inl, inr, List, [], ◌∷◌, ◌++◌, refl, sym, ap, subst, ◌∙◌, arith, length, get_or}
use Rattle.std.specs.List.{Contains}
use Rattle.std.proofs.lemmas.List.{length-append, get_or_append_left}
use Rattle.std.proofs.lemmas.List.Elements.{Contains-append_left, Contains-append_right, Contains-append_cases, Contains-get_or}
use Rattle.std.proofs.Math.Seq.{get_or-append_seam}
use Rattle.std.proofs.lemmas.Bool.{cases_eq}
use Rattle.taints.specs.Chains.{IsPairBefore, ArePairsRising}
use Rattle.std.specs.Prelude.{Bool, IsTrue, slice_index}
use Rattle.std.specs.Int.{bit_at}
use Rattle.bit_rows.specs.Pairs.{Composite, Minus, Restriction, IsEmpty}
use Rattle.bit_rows.specs.Relation.{Relation, Bit, Has, IsRelation, IsRegular}
use Rattle.draw_graph.specs.Drawn.{AreEdges, Drawn, DrawnAmong, IsStrictOrder, IsTransitive}

-- before the pair of these two
abbrev pub IsEarlier : ℕ → ℕ → ℕ × ℕ → Type 0
IsEarlier from to p = (p.0 < from) ⊎ ((p.0 ≡ from) × (p.1 < to))

-- the pairs that come before a pair
pub record UpTo (R : ℕ → ℕ → Type 0) (from to : ℕ) (ps : List (ℕ × ℕ)) : Type 0 where
  pub rising : ArePairsRising ps
  pub exact : (p : ℕ × ℕ) → Contains ps p ↔ (IsEarlier from to p × R p.0 p.1)

rising_more : (ps : List (ℕ × ℕ)) (q : ℕ × ℕ) → ((p : ℕ × ℕ) → Contains ps p → IsPairBefore p q)
    → ArePairsRising ps → ArePairsRising (ps ++ q ∷ [])
rising_more ps q before old i j lt inside = elim (cases_eq j (length ps)) [
  | inl same ↦
      subst (λ (x : ℕ × ℕ). IsPairBefore (get_or (ps ++ q ∷ []) i (0, 0)) x) (sym
      (ap (λ (k : ℕ). get_or (ps ++ q ∷ []) k (0, 0)) same
      ∙ get_or-append_seam ps q [] (0, 0)))
      (subst (λ (x : ℕ × ℕ). IsPairBefore x q)
      (sym (get_or_append_left ps (q ∷ []) (0, 0) i (omega (arith, lt, same))))
      (before (get_or ps i (0, 0)) (Contains-get_or ps i (0, 0) (omega (arith, lt, same)))))
  | inr ne ↦
      let less : j < length ps = omega (arith, inside, length-append ps (q ∷ [])) in
      subst (λ (x : ℕ × ℕ). IsPairBefore (get_or (ps ++ q ∷ []) i (0, 0)) x)
      (sym (get_or_append_left ps (q ∷ []) (0, 0) j less))
      (subst (λ (x : ℕ × ℕ). IsPairBefore x (get_or ps j (0, 0)))
      (sym (get_or_append_left ps (q ∷ []) (0, 0) i (omega (arith, lt, less))))
      (old i j lt less))
]

pair_is : (p q : ℕ × ℕ) → p.0 ≡ q.0 → p.1 ≡ q.1 → p ≡ q
pair_is p q a b = ap (λ (x : ℕ). (x, p.1)) a ∙ ap (λ (y : ℕ). (q.0, y)) b

one_only : (q p : ℕ × ℕ) → Contains (q ∷ []) p → q ≡ p
one_only q p here =
    let (k, lt, same) = here in
    let first : k ≡ 0 = omega (arith, lt) in
    subst (λ (j : ℕ). get_or (q ∷ []) j p ≡ p) first same

none_in : (p : ℕ × ℕ) → Contains [] p → ⊥
none_in p here = let (k, lt, same) = here in absurd (omega (arith, lt))

pub none_yet : (R : ℕ → ℕ → Type 0) → UpTo R 0 0 []
none_yet R = record {
  rising = λ i j lt inside. absurd (omega (arith, inside));
  exact = λ p. ((λ here. absurd (none_in p here)), (λ x. absurd (empty p x.0)));
}
  where
    empty : (p : ℕ × ℕ) → IsEarlier 0 0 p → ⊥
    empty p (inl x) = omega (arith, x)
    empty p (inr x) = omega (arith, x.1)

pub one_more : (R : ℕ → ℕ → Type 0) (from to : ℕ) (ps : List (ℕ × ℕ)) → R from to
    → UpTo R from to ps → UpTo R from (to + 1) (ps ++ (from, to) ∷ [])
one_more R from to ps related old = record {
  rising = rising_more ps (from, to) (λ p here. let (e, r) = (old.exact p).0 here in e) old.rising;
  exact = λ p. ((λ here. forth p (Contains-append_cases ps ((from, to) ∷ []) p here)), back p);
}
  where
    later : (p : ℕ × ℕ) → IsEarlier from to p → IsEarlier from (to + 1) p
    later p (inl x) = inl x
    later p (inr x) = inr (x.0, omega (arith, x.1))

    forth : (p : ℕ × ℕ) → Contains ps p ⊎ Contains ((from, to) ∷ []) p
        → IsEarlier from (to + 1) p × R p.0 p.1
    forth p (inl here) = let (e, r) = (old.exact p).0 here in (later p e, r)
    forth p (inr here) =
        subst (λ (q : ℕ × ℕ). IsEarlier from (to + 1) q × R q.0 q.1) (one_only (from, to) p here)
        (inr (refl, omega arith), related)

    back : (p : ℕ × ℕ) → IsEarlier from (to + 1) p × R p.0 p.1 → Contains (ps ++ (from, to) ∷ []) p
    back p x = let (e, r) = x in elim e [
      | inl less ↦ Contains-append_left ps ((from, to) ∷ []) p ((old.exact p).1 (inl less, r))
      | inr y ↦ elim (cases_eq p.1 to) [
        | inl same ↦ Contains-append_right ps ((from, to) ∷ []) p (
          zero,
          omega arith,
          pair_is (from, to) p (sym y.0) (sym same),
        )
        | inr ne ↦ Contains-append_left ps ((from, to) ∷ []) p
            ((old.exact p).1 (inr (y.0, omega (arith, y.1, ne)), r))
      ]
    ]

pub none_more : (R : ℕ → ℕ → Type 0) (from to : ℕ) (ps : List (ℕ × ℕ)) → (R from to → ⊥)
    → UpTo R from to ps → UpTo R from (to + 1) ps
none_more R from to ps none old = record {
  rising = old.rising;
  exact =
      λ p. (
        (λ here. let (e, r) = (old.exact p).0 here in (later p e, r)),
        (λ x. let (e, r) = x in (old.exact p).1 (sooner p e r, r)),
      );
}
  where
    later : (p : ℕ × ℕ) → IsEarlier from to p → IsEarlier from (to + 1) p
    later p (inl x) = inl x
    later p (inr x) = inr (x.0, omega (arith, x.1))

    sooner : (p : ℕ × ℕ) → IsEarlier from (to + 1) p → R p.0 p.1 → IsEarlier from to p
    sooner p (inl x) r = inl x
    sooner p (inr x) r = elim (cases_eq p.1 to) [
      | inl same ↦ absurd (none (subst (λ (k : ℕ). R k to) x.0 (subst (λ (k : ℕ). R p.0 k) same r)))
      | inr ne ↦ inr (x.0, omega (arith, x.1, ne))
    ]

pub row_done : (R : ℕ → ℕ → Type 0) (count from : ℕ) (ps : List (ℕ × ℕ))
    → ((a b : ℕ) → R a b → b < count) → UpTo R from count ps → UpTo R (from + 1) 0 ps
row_done R count from ps bound old = record {
  rising = old.rising;
  exact =
      λ p. (
        (λ here. let (e, r) = (old.exact p).0 here in (later p e, r)),
        (λ x. let (e, r) = x in (old.exact p).1 (sooner p e (bound p.0 p.1 r), r)),
      );
}
  where
    later : (p : ℕ × ℕ) → IsEarlier from count p → IsEarlier (from + 1) 0 p
    later p (inl x) = inl (omega (arith, x))
    later p (inr x) = inl (omega (arith, x.0))

    sooner : (p : ℕ × ℕ) → IsEarlier (from + 1) 0 p → p.1 < count → IsEarlier from count p
    sooner p (inl x) r =
        elim (cases_eq p.0 from) [ inl same ↦ inr (same, r) | inr ne ↦ inl (omega (arith, x, ne)) ]
    sooner p (inr x) r = absurd (omega (arith, x.1))

pub all_done : (R : ℕ → ℕ → Type 0) (count : ℕ) (ps : List (ℕ × ℕ))
    → ((a b : ℕ) → R a b → a < count) → UpTo R count 0 ps → AreEdges R ps
all_done R count ps bound old = record {
  rising = old.rising;
  exact =
      λ p. (
        (λ here. let (e, r) = (old.exact p).0 here in r),
        (λ r. (old.exact p).1 (inl (bound p.0 p.1 r), r)),
      );
}

-- ---- what is drawn

unset : (word k : ℕ) → (Bit word k → ⊥) ⊎ Bit word k
unfolding Bit
unset word k =
    elim (cases_eq (bit_at word k) 1) [ inl same ↦ inr same | inr ne ↦ inl (λ same. ne same) ]

pub transitive_is : (r c o : Relation) (n m : ℕ) (b : Bool)
    → IsRelation c n (Composite (Has r) (Has r)) → IsRelation o m (Minus (Has c) (Has r))
    → IsTrue b ↔ IsEmpty (Has o) → IsTrue b ↔ IsTransitive (Has r)
transitive_is r c o n m b composed outside told = ((λ t. forth (told.0 t)), (λ t. told.1 (back t)))
  where
    forth : IsEmpty (Has o) → IsTransitive (Has r)
    forth none x y both = elim (unset (slice_index r.rows x) y) [
      | inl bare ↦ absurd (none x y ((outside.pairs x y).1 ((composed.pairs x y).1 both, bare)))
      | inr set ↦ set
    ]

    back : IsTransitive (Has r) → IsEmpty (Has o)
    back closed x y outer =
        let (both, bare) = (outside.pairs x y).0 outer in
        bare (closed x y ((composed.pairs x y).0 both))

pub drawn_of_order : (r c m : Relation) (n : ℕ) → IsStrictOrder (Has r)
    → IsRelation c n (Composite (Has r) (Has r)) → IsRelation m r.count (Minus (Has r) (Has c))
    → IsRelation m r.count (Drawn (Has r))
drawn_of_order r c m n order composed between = record {
  count = between.count;
  regular = between.regular;
  pairs =
      λ a b. (
        (λ x.
            let (here, apart) = (between.pairs a b).0 x in
            (here, λ o k. apart ((composed.pairs a b).1 k))),
        (λ d. (between.pairs a b).1 (d.0, λ k. d.1 order ((composed.pairs a b).0 k))),
      );
}

pub drawn_of_other : (r : Relation) → IsRegular r → (IsStrictOrder (Has r) → ⊥)
    → IsRelation r r.count (Drawn (Has r))
drawn_of_other r regular none = record {
  count = refl;
  regular = regular;
  pairs = λ a b. ((λ x. (x, λ o k. none o)), (λ d. d.0));
}

-- relations with the same pairs have the same edges
pub same_edges : (R S : ℕ → ℕ → Type 0) (ps : List (ℕ × ℕ)) → ((a b : ℕ) → R a b ↔ S a b)
    → AreEdges R ps → AreEdges S ps
same_edges R S ps same old = record {
  rising = old.rising;
  exact =
      λ p. (
        (λ here. (same p.0 p.1).0 ((old.exact p).0 here)),
        (λ s. (old.exact p).1 ((same p.0 p.1).1 s)),
      );
}

-- what is drawn of relations with the same pairs is the same
pub same_drawn : (R S : ℕ → ℕ → Type 0) → ((a b : ℕ) → R a b ↔ S a b) → (a b : ℕ)
    → Drawn R a b ↔ Drawn S a b
same_drawn R S same a b = (
  one R S (λ x y. (same x y).0) (λ x y. (same x y).1) a b,
  one S R (λ x y. (same x y).1) (λ x y. (same x y).0) a b,
)
  where
    order : (P Q : ℕ → ℕ → Type 0) → ((x y : ℕ) → P x y → Q x y) → ((x y : ℕ) → Q x y → P x y)
        → IsStrictOrder Q → IsStrictOrder P
    order P Q to back o = (
      (λ x p. o.0 x (to x x p)),
      (λ x y c. let (z, f, s) = c in back x y (o.1 x y (z, to x z f, to z y s))),
    )

    one : (P Q : ℕ → ℕ → Type 0) → ((x y : ℕ) → P x y → Q x y) → ((x y : ℕ) → Q x y → P x y)
        → (x y : ℕ) → Drawn P x y → Drawn Q x y
    one P Q to back x y d = (
      to x y d.0,
      λ o c. let (z, f, s) = c in d.1 (order P Q to back o) (z, back x z f, back z y s),
    )

pub among_edges : (r d a : Relation) (S : ℕ → Type 0) (n m : ℕ) (ps : List (ℕ × ℕ))
    → IsRelation a n (Restriction (Has r) S) → IsRelation d m (Drawn (Has a)) → AreEdges (Has d) ps
    → AreEdges (DrawnAmong S (Has r)) ps
among_edges r d a S n m ps among drawn listed =
    let same = same_drawn (Has a) (Restriction (Has r) S) among.pairs in
    same_edges (Has d) (DrawnAmong S (Has r)) ps
    (λ x y. (
      (λ h. (same x y).0 ((drawn.pairs x y).0 h)),
      (λ h. (drawn.pairs x y).1 ((same x y).1 h)),
    )) listed
