-- A list in order, each thing once, where of two good things one comes before the other or both are
-- one.
use Rattle.std.proofs.Common.{◌≡◌, ◌↔◌, ◌⊎◌, inl, inr, ℕ, zero, suc, List, [], ◌∷◌, ◌++◌, take, drop, map, get_or, Contains, AllPairs, sym, subst, arith}
use Rattle.std.proofs.lemmas.List.Kept.{AllPairs-cons}
use Rattle.std.proofs.lemmas.List.Elements.{Contains-get_or}
use Rattle.meaning.proofs.Counting.{here, behind, head_or_tail}
use Rattle.plain_runs.proofs.Listing.{none_there, there_mapped}
use Rattle.meanings_exist.specs.Sorted.{Compared, Rises, HasOneMore}

module _ {X : Type 0} (Before : X → X → Type 0) (Good : X → Type 0)
    (compared : (x y : X) → Good x → Good y → Compared Before x y)
    (transitive : (x y z : X) → Before x y → Before y z → Before x z) where
  alone : (x : X) → HasOneMore Before x [] (x ∷ [])
  alone x = record {
    rises = ((λ y there. absurd (none_there y there)), tt);
    exact = λ z. (head_or_tail x [] z, back z);
  }
    where
      back : (z : X) → (x ≡ z) ⊎ Contains [] z → Contains (x ∷ []) z
      back z (inl at) = subst (λ (w : X). Contains (x ∷ []) w) at (here x [])
      back z (inr there) = absurd (none_there z there)

  put_first : (x y : X) (ys : List X) → Rises Before (y ∷ ys) → Before x y
      → HasOneMore Before x (y ∷ ys) (x ∷ y ∷ ys)
  put_first x y ys rises before = record {
    rises = (above, rises);
    exact = λ z. (head_or_tail x (y ∷ ys) z, back z);
  }
    where
      above : (z : X) → Contains (y ∷ ys) z → Before x z
      above z there = elim (head_or_tail y ys z there) [
        | inl at ↦ subst (λ (w : X). Before x w) at before
        | inr later ↦ transitive x y z before (rises.0 z later)
      ]

      back : (z : X) → (x ≡ z) ⊎ Contains (y ∷ ys) z → Contains (x ∷ y ∷ ys) z
      back z (inl at) = subst (λ (w : X). Contains (x ∷ y ∷ ys) w) at (here x (y ∷ ys))
      back z (inr there) = behind x (y ∷ ys) z there

  put_nowhere : (x y : X) (ys : List X) → Rises Before (y ∷ ys) → x ≡ y
      → HasOneMore Before x (y ∷ ys) (y ∷ ys)
  put_nowhere x y ys rises same = record {
    rises = rises;
    exact = λ z. ((λ there. inr there), back z);
  }
    where
      back : (z : X) → (x ≡ z) ⊎ Contains (y ∷ ys) z → Contains (y ∷ ys) z
      back z (inl at) =
          subst (λ (w : X). Contains (y ∷ ys) w) at
          (subst (λ (w : X). Contains (y ∷ ys) w) (sym same) (here y ys))
      back z (inr there) = there

  put_later : (x y : X) (ys zs : List X) → Rises Before (y ∷ ys) → Before y x
      → HasOneMore Before x ys zs → HasOneMore Before x (y ∷ ys) (y ∷ zs)
  put_later x y ys zs rises after rest = record {
    rises = (above, rest.rises);
    exact = λ z. (to z, back z);
  }
    where
      above : (z : X) → Contains zs z → Before y z
      above z there = elim ((rest.exact z).0 there) [
        | inl at ↦ subst (λ (w : X). Before y w) at after
        | inr later ↦ rises.0 z later
      ]

      to : (z : X) → Contains (y ∷ zs) z → (x ≡ z) ⊎ Contains (y ∷ ys) z
      to z there = elim (head_or_tail y zs z there) [
        | inl at ↦ inr (subst (λ (w : X). Contains (y ∷ ys) w) at (here y ys))
        | inr later ↦ elim ((rest.exact z).0 later) [
          | inl at ↦ inl at
          | inr older ↦ inr (behind y ys z older)
        ]
      ]

      back : (z : X) → (x ≡ z) ⊎ Contains (y ∷ ys) z → Contains (y ∷ zs) z
      back z (inl at) = behind y zs z ((rest.exact z).1 (inl at))
      back z (inr there) = elim (head_or_tail y ys z there) [
        | inl at ↦ subst (λ (w : X). Contains (y ∷ zs) w) at (here y zs)
        | inr later ↦ behind y zs z ((rest.exact z).1 (inr later))
      ]

  put : (x : X) → Good x → (ys : List X) → ((y : X) → Contains ys y → Good y)
      → Rises Before ys → (zs : List X) × HasOneMore Before x ys zs
  put x good [] all rises = (x ∷ [], alone x)
  put x good (y ∷ ys) all rises =
      let rest : _ = put x good ys (λ z there. all z (behind y ys z there)) rises.1 in
      elim (compared x y good (all y (here y ys))) [
        | inl before ↦ (x ∷ y ∷ ys, put_first x y ys rises before)
        | inr (inl same) ↦ (y ∷ ys, put_nowhere x y ys rises same)
        | inr (inr after) ↦ (y ∷ rest.0, put_later x y ys rest.0 rises after rest.1)
      ]

  -- a thing is put at an index
  pub put_at : (x : X) (ys : List X) (k : ℕ) → Rises Before ys
      → ((y : X) → Contains (take k ys) y → Before y x)
      → ((y : X) → Contains (drop k ys) y → Before x y)
      → HasOneMore Before x ys (take k ys ++ x ∷ drop k ys)
  put_at x [] zero rises below above = alone x
  put_at x [] (suc k) rises below above = alone x
  put_at x (y ∷ ys) zero rises below above =
      put_first x y ys rises (above y (here y ys))
  put_at x (y ∷ ys) (suc k) rises below above =
      put_later x y ys (take k ys ++ x ∷ drop k ys) rises (below y (here y (take k ys)))
      (put_at x ys k rises.1 (λ z there. below z (behind y (take k ys) z there)) above)

  -- the things of a list in order
  pub sorted : (xs : List X) → ((x : X) → Contains xs x → Good x)
      → (ys : List X) × Rises Before ys × ((z : X) → Contains ys z ↔ Contains xs z)
  sorted [] all = ([], tt, λ z. ((λ there. there), λ there. there))
  sorted (x ∷ xs) all =
      let rest : _ = sorted xs (λ z there. all z (behind x xs z there)) in
      let more : _ =
      put x (all x (here x xs)) rest.0
      (λ z there. all z (behind x xs z ((rest.2 z).0 there))) rest.1 in
      (more.0, more.1.rises, λ z. (to rest.0 rest.2 more.0 more.1 z, back rest.0 rest.2 more.0 more.1 z))
    where
      to : (ys : List X) → ((z : X) → Contains ys z ↔ Contains xs z) → (zs : List X)
          → HasOneMore Before x ys zs → (z : X) → Contains zs z → Contains (x ∷ xs) z
      to ys same zs more z there = elim ((more.exact z).0 there) [
        | inl at ↦ subst (λ (w : X). Contains (x ∷ xs) w) at (here x xs)
        | inr later ↦ behind x xs z ((same z).0 later)
      ]

      back : (ys : List X) → ((z : X) → Contains ys z ↔ Contains xs z) → (zs : List X)
          → HasOneMore Before x ys zs → (z : X) → Contains (x ∷ xs) z → Contains zs z
      back ys same zs more z there = elim (head_or_tail x xs z there) [
        | inl at ↦ (more.exact z).1 (inl at)
        | inr later ↦ (more.exact z).1 (inr ((same z).1 later))
      ]

-- so the pairs of a list rise, where what its things are mapped to does
pub pairs_rise : {X Y : Type 0} (Before : Y → Y → Type 0) (f : X → Y) (xs : List X)
    → Rises Before (map f xs) → AllPairs (λ x y. Before (f x) (f y)) xs
pairs_rise Before f [] rises = λ i j d less lt. absurd (omega (arith, lt))
pairs_rise {X} {Y} Before f (x ∷ xs) rises =
    AllPairs-cons (λ (y z : X). Before (f y) (f z)) x xs
    (λ k d lt. rises.0 (f (get_or xs k d))
    (there_mapped f xs (get_or xs k d) (Contains-get_or xs k d lt)))
    (pairs_rise Before f xs rises.1)
