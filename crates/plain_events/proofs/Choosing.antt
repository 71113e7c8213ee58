-- All ways to choose an index for each of some lists.
use Rattle.std.proofs.Common.{◌≡◌, ◌⊎◌, inl, inr, ℕ, ◌+◌, ◌<◌, List, [], ◌∷◌, ◌++◌, map, Contains, refl, sym, subst, ◌∙◌, arith}
use Rattle.meaning.specs.Sets.{IsOnce, IsListOf}
use Rattle.plain_runs.proofs.Listing.{listed_as, listed_none, listed_one, listed_map, listed_both}
use Rattle.plain_events.specs.Choices.{IsIndexChoice, BeginsWith, BeginsBelow}

same_tail : (k : ℕ) (xs ys : List ℕ) → k ∷ xs ≡ k ∷ ys → xs ≡ ys
same_tail k xs ys e = cc

same_head : (j k : ℕ) (xs ys : List ℕ) → j ∷ xs ≡ k ∷ ys → j ≡ k
same_head j k xs ys e = cc

pub begin_below : (rests : List (List ℕ)) → IsListOf (BeginsBelow 0 rests) []
begin_below rests =
    listed_none (BeginsBelow 0 rests) (λ ks is. absurd (let lt : _ = is.1 in omega (arith, lt)))

pub listed_once : {X : Type 0} (xs : List X) → IsOnce xs → IsListOf (λ x. Contains xs x) xs
listed_once xs once = record {
  once = once;
  exact = λ x. ((λ there. there), λ there. there);
}

pub begin_more : (rests : List (List ℕ)) (k : ℕ) (old more new : List (List ℕ)) → IsOnce rests
    → IsListOf (BeginsBelow k rests) old → more ≡ map (λ ks. k ∷ ks) rests → new ≡ old ++ more
    → IsListOf (BeginsBelow (k + 1) rests) new
begin_more rests k old more new once before e joined =
    subst (λ (l : List (List ℕ)). IsListOf (BeginsBelow (k + 1) rests) l) (sym joined)
    (listed_as (λ ks. BeginsBelow k rests ks ⊎ BeginsWith rests k ks) (BeginsBelow (k + 1) rests)
    (old ++ more) (λ ks. (to ks, back ks))
    (listed_both (BeginsBelow k rests) (BeginsWith rests k) old more apart before
    (subst (λ (l : List (List ℕ)). IsListOf (BeginsWith rests k) l) (sym e)
    (listed_map (λ ks. k ∷ ks) (λ ks. Contains rests ks) rests (λ xs ys. same_tail k xs ys)
    (listed_once rests once)))))
  where
    apart : (ks : List ℕ) → BeginsBelow k rests ks → BeginsWith rests k ks → ⊥
    apart ks (j, lt, (r, there, is)) (q, also, other) =
        let e : _ = same_head j k r q (is ∙ sym other) in omega (arith, lt, e)

    to : (ks : List ℕ) → BeginsBelow k rests ks ⊎ BeginsWith rests k ks
        → BeginsBelow (k + 1) rests ks
    to ks (inl (j, lt, is)) = (j, omega (arith, lt), is)
    to ks (inr is) = (k, omega arith, is)

    split : (ks : List ℕ) (j : ℕ) → (j < k) ⊎ (j ≡ k) → BeginsWith rests j ks
        → BeginsBelow k rests ks ⊎ BeginsWith rests k ks
    split ks j (inl lt) is = inl (j, lt, is)
    split ks j (inr same) is = inr (subst (λ (i : ℕ). BeginsWith rests i ks) same is)

    back : (ks : List ℕ) → BeginsBelow (k + 1) rests ks
        → BeginsBelow k rests ks ⊎ BeginsWith rests k ks
    back ks (j, lt, is) = split ks j (below j lt) is
      where
        below : (i : ℕ) → i < k + 1 → (i < k) ⊎ (i ≡ k)
        below i lt = grind arith

pub chosen_none : (all : List (List ℕ)) → all ≡ [] ∷ [] → IsListOf (IsIndexChoice []) all
chosen_none all e =
    subst (λ (l : List (List ℕ)). IsListOf (IsIndexChoice []) l) (sym e)
    (listed_one (IsIndexChoice []) [] (λ ks. (to ks, from ks)))
  where
    to : (ks : List ℕ) → IsIndexChoice [] ks → [] ≡ ks
    to [] is = refl
    to (k ∷ ks) is = absurd is

    from : (ks : List ℕ) → [] ≡ ks → IsIndexChoice [] ks
    from ks e = subst (λ (l : List ℕ). IsIndexChoice [] l) e tt

pub chosen_more : (n : ℕ) (counts : List ℕ) (rests all : List (List ℕ))
    → IsListOf (IsIndexChoice counts) rests → IsListOf (BeginsBelow n rests) all
    → IsListOf (IsIndexChoice (n ∷ counts)) all
chosen_more n counts rests all before listed =
    listed_as (BeginsBelow n rests) (IsIndexChoice (n ∷ counts)) all (λ ks. (to ks, from ks)) listed
  where
    to : (ks : List ℕ) → BeginsBelow n rests ks → IsIndexChoice (n ∷ counts) ks
    to ks (k, lt, (rest, there, is)) =
        subst (λ (l : List ℕ). IsIndexChoice (n ∷ counts) l) is (lt, (before.exact rest).0 there)

    from : (ks : List ℕ) → IsIndexChoice (n ∷ counts) ks → BeginsBelow n rests ks
    from [] is = absurd is
    from (k ∷ ks) (lt, is) = (k, lt, (ks, (before.exact ks).1 is, refl))
