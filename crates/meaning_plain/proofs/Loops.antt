-- Relations without a pair of one event with itself.
use Rattle.std.proofs.Common.{◌≡◌, ◌↔◌, ℕ, ◌+◌, ◌<◌, ◌≤◌, List, [], Bool, length, take, get_or, Contains, IsTrue, true, false, refl, sym, subst, ◌∙◌}
use Rattle.std.proofs.lemmas.List.{take_more, take_all}
use Rattle.std.proofs.lemmas.List.Elements.{Contains-get_or, Contains-push_cases}
use Rattle.meaning.specs.Sets.{IsIrreflexive, IsAcyclic, Transitive}
use Rattle.meaning_plain.specs.Lists.{RelationOf, HasPairs}
use Rattle.meaning_plain.proofs.Growing.{by_cases, nothing_there, pair_joined, first_of, second_of}

pub none_related : IsIrreflexive (RelationOf [])
none_related a h = nothing_there (a, a) h

pub none_more : (ps : List (ℕ × ℕ)) (i : ℕ) (d : ℕ × ℕ) → i < length ps
    → ((get_or ps i d).0 ≡ (get_or ps i d).1 → ⊥) → IsIrreflexive (RelationOf (take i ps))
    → IsIrreflexive (RelationOf (take (i + 1) ps))
none_more ps i d lt differ before a h = by_cases (before a) last
    (Contains-push_cases (take i ps) (get_or ps i d) (a, a)
    (subst (λ (l : List (ℕ × ℕ)). Contains l (a, a)) (take_more ps i d lt) h))
  where
    last : get_or ps i d ≡ (a, a) → ⊥
    last e = differ (first_of e ∙ sym (second_of e))

pub one_related : (ps : List (ℕ × ℕ)) (i : ℕ) (d : ℕ × ℕ) → i < length ps
    → (get_or ps i d).0 ≡ (get_or ps i d).1 → IsTrue false ↔ IsIrreflexive (RelationOf ps)
one_related ps i d lt same = (to, λ irreflexive. absurd (irreflexive (get_or ps i d).1 there))
  where
    to : IsTrue false → IsIrreflexive (RelationOf ps)
    to is a h = let e : false ≡ true = is in cc

    there : Contains ps ((get_or ps i d).1, (get_or ps i d).1)
    there =
        subst (λ (p : ℕ × ℕ). Contains ps p)
        (pair_joined (get_or ps i d) ((get_or ps i d).1, (get_or ps i d).1) same refl)
        (Contains-get_or ps i d lt)

pub all_irreflexive : (ps : List (ℕ × ℕ)) (n : ℕ) → length ps ≤ n
    → IsIrreflexive (RelationOf (take n ps)) → IsTrue true ↔ IsIrreflexive (RelationOf ps)
all_irreflexive ps n le all = (
  (λ is. subst (λ (l : List (ℕ × ℕ)). IsIrreflexive (RelationOf l)) (take_all n ps le) all),
  λ irreflexive. refl,
)

pub acyclic_made : (ps paths same : List (ℕ × ℕ)) (b : Bool) → same ≡ paths
    → HasPairs (Transitive (RelationOf ps)) paths
    → IsTrue b ↔ IsIrreflexive (RelationOf same) → IsTrue b ↔ IsAcyclic (RelationOf ps)
acyclic_made ps paths same b e all answers = (to, back)
  where
    own : HasPairs (Transitive (RelationOf ps)) same
    own = subst (λ (l : List (ℕ × ℕ)). HasPairs (Transitive (RelationOf ps)) l) (sym e) all

    to : IsTrue b → IsAcyclic (RelationOf ps)
    to is a path = answers.0 is a ((own a a).1 path)

    back : IsAcyclic (RelationOf ps) → IsTrue b
    back acyclic = answers.1 (λ a h. acyclic a ((own a a).0 h))
