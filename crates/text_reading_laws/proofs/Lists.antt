-- Two cuts of one list.
use Rattle.std.proofs.Common.{◌≡◌, List, [], ◌∷◌, ◌++◌, ◌⊎◌, inl, inr, refl, sym, ap}

-- a list that is cut at two elements: they are one, or the one stands before the other
pub data Cut {A : Type 0} (first second : List A) (x y : A) : Type 0 where
  Same : first ≡ second → x ≡ y → Cut first second x y
  Before : (middle : List A) → second ≡ first ++ x ∷ middle → Cut first second x y
  Behind : (middle : List A) → first ≡ second ++ y ∷ middle → Cut first second x y

module _ {A : Type 0} where
  pub cut : (first second : List A) (x y : A) (others rest : List A)
      → (first ++ x ∷ others) ≡ (second ++ y ∷ rest) → Cut first second x y
  cut [] [] x y others rest e = Same refl (let h : x ≡ y = cc in h)
  cut [] (z ∷ second) x y others rest e =
      Before second (let h : z ≡ x = cc in ap (λ (a : A). a ∷ second) h)
  cut (z ∷ first) [] x y others rest e =
      Behind first (let h : z ≡ y = cc in ap (λ (a : A). a ∷ first) h)
  cut (z ∷ first) (w ∷ second) x y others rest e =
      let heads : z ≡ w = cc in
      let tails : (first ++ x ∷ others) ≡ (second ++ y ∷ rest) = cc in
      by_cut heads (cut first second x y others rest tails)
    where
      by_cut : z ≡ w → Cut first second x y → Cut (z ∷ first) (w ∷ second) x y
      by_cut heads (Same e h) = Same (λ i. heads i ∷ e i) h
      by_cut heads (Before middle e) = Before middle (λ i. sym heads i ∷ e i)
      by_cut heads (Behind middle e) = Behind middle (λ i. heads i ∷ e i)

  none_behind : (xs ys : List A) → [] ≡ (xs ++ ys) → ys ≡ []
  none_behind [] ys e = sym e
  none_behind (x ∷ xs) ys e = absurd cc

  -- what stands behind a prefix of a list that ends with this element is nothing, or goes on to that
  -- element
  pub last_cut : (prefix behind others : List A) (x : A) → (prefix ++ behind) ≡ (others ++ x ∷ [])
      → (behind ≡ []) ⊎ ((rest : List A) × (others ≡ prefix ++ rest))
  last_cut [] [] others x e = inl refl
  last_cut [] (b ∷ behind) others x e = inr (others, refl)
  last_cut (f ∷ prefix) behind [] x e =
      inl (none_behind prefix behind (let h : [] ≡ (prefix ++ behind) = cc in h))
  last_cut (f ∷ prefix) behind (o ∷ others) x e =
      let heads : o ≡ f = cc in
      let tails : (prefix ++ behind) ≡ (others ++ x ∷ []) = cc in
      by_cut heads (last_cut prefix behind others x tails)
    where
      by_cut : o ≡ f → (behind ≡ []) ⊎ ((rest : List A) × (others ≡ prefix ++ rest))
          → (behind ≡ []) ⊎ ((rest : List A) × ((o ∷ others) ≡ (f ∷ prefix) ++ rest))
      by_cut heads (inl h) = inl h
      by_cut heads (inr h) = inr (h.0, λ i. heads i ∷ h.1 i)
