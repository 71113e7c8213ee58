-- What choices pick from lists, as a list.
use Rattle.std.proofs.Common.{◌≡◌, inl, inr, ℕ, zero, suc, ◌<◌, List, [], ◌∷◌, ◌++◌, map, length, Contains, refl, sym, ap, ap₂, subst, ◌∙◌, arith}
use Rattle.std.specs.Prelude.{Option, Some, slice_get, option_to_list}
use Rattle.std.specs.List.{AllZip}
use Rattle.meaning.specs.Sets.{Set, IsOnce, IsListOf}
use Rattle.meaning.proofs.Counting.{here, behind, head_or_tail}
use Rattle.plain_runs.proofs.Listing.{none_there, once_none, once_cons, head_new, tail_once, there_mapped, mapped_from}
use Rattle.plain_runs.proofs.Running.{no_some, same_some}
use Rattle.plain_events.specs.Choices.{IsIndexChoice, pick}

-- ---- what stands at an index

at_index : {X : Type 0} (l : List X) (k : ℕ) → k < length l
    → (x : X) × (slice_get l k ≡ Some x) × Contains l x
at_index [] k lt = absurd (omega (arith, lt))
at_index (y ∷ l) zero lt = (y, refl, here y l)
at_index (y ∷ l) (suc k) lt =
    let found : _ = at_index l k (omega (arith, lt)) in
    (found.0, found.1, behind y l found.0 found.2)

index_of : {X : Type 0} (l : List X) (x : X) → Contains l x
    → (k : ℕ) × (k < length l) × (slice_get l k ≡ Some x)
index_of [] x there = absurd (none_there x there)
index_of {X} (y ∷ l) x there = elim (head_or_tail y l x there) [
  | inl at ↦ (0, omega arith, ap (λ (z : X). Some z) at)
  | inr later ↦
      let found : _ = index_of l x later in
      (suc found.0, (let lt : _ = found.1 in omega (arith, lt)), found.2)
]

stands : {X : Type 0} (l : List X) (k : ℕ) (x : X) → slice_get l k ≡ Some x → Contains l x
stands [] k x e = absurd (no_some x e)
stands {X} (y ∷ l) zero x e =
    subst (λ (z : X). Contains (y ∷ l) z) (same_some y x e) (here y l)
stands (y ∷ l) (suc k) x e = behind y l x (stands l k x e)

one_index : {X : Type 0} (l : List X) (j k : ℕ) (x : X) → IsOnce l → slice_get l j ≡ Some x
    → slice_get l k ≡ Some x → j ≡ k
one_index [] j k x once first second = absurd (no_some x first)
one_index (y ∷ l) zero zero x once first second = refl
one_index {X} (y ∷ l) zero (suc k) x once first second =
    absurd (head_new y l once (subst (λ (z : X). Contains l z) (sym (same_some y x first)) (stands l k x second)))
one_index {X} (y ∷ l) (suc j) zero x once first second =
    absurd (head_new y l once (subst (λ (z : X). Contains l z) (sym (same_some y x second)) (stands l j x first)))
one_index (y ∷ l) (suc j) (suc k) x once first second =
    let same : _ = one_index l j k x (tail_once y l once) first second in omega (arith, same)

-- ---- picking

module _ {A X : Type 0} (S : A → Set X) where
  abbrev Have : List A → List (List X) → Type 0
  Have ts ls = AllZip (λ t l. IsListOf (S t) l) ts ls

  picked : (ts : List A) (ls : List (List X)) → Have ts ls → (ks : List ℕ)
      → IsIndexChoice (map length ls) ks → AllZip S ts (pick ls ks)
  picked [] [] have ks is = tt
  picked [] (l ∷ ls) have ks is = absurd have
  picked (t ∷ ts) [] have ks is = absurd have
  picked (t ∷ ts) (l ∷ ls) have [] is = absurd is
  picked (t ∷ ts) (l ∷ ls) (listed, have) (k ∷ ks) (lt, is) =
      let found : (x : X) × (slice_get l k ≡ Some x) × Contains l x = at_index l k lt in
      subst (λ (o : Option X). AllZip S (t ∷ ts) (option_to_list o ++ pick ls ks)) (sym found.1)
      ((listed.exact found.0).0 found.2, picked ts ls have ks is)

  choosing : (ts : List A) (ls : List (List X)) → Have ts ls → (xs : List X) → AllZip S ts xs
      → (ks : List ℕ) × IsIndexChoice (map length ls) ks × (pick ls ks ≡ xs)
  choosing [] [] have [] is = ([], tt, refl)
  choosing [] [] have (x ∷ xs) is = absurd is
  choosing [] (l ∷ ls) have xs is = absurd have
  choosing (t ∷ ts) [] have xs is = absurd have
  choosing (t ∷ ts) (l ∷ ls) have [] is = absurd is
  choosing (t ∷ ts) (l ∷ ls) (listed, have) (x ∷ xs) (at, is) =
      let found : (k : ℕ) × (k < length l) × (slice_get l k ≡ Some x) =
      index_of l x ((listed.exact x).1 at) in
      let rest : (ks : List ℕ) × IsIndexChoice (map length ls) ks × (pick ls ks ≡ xs) =
      choosing ts ls have xs is in (
        found.0 ∷ rest.0,
        (found.1, rest.1),
        ap (λ (o : Option X). option_to_list o ++ pick ls rest.0) found.2 ∙ ap (λ (l : List X). x ∷ l) rest.2,
      )

  only : (ts : List A) (ls : List (List X)) → Have ts ls → (js ks : List ℕ)
      → IsIndexChoice (map length ls) js → IsIndexChoice (map length ls) ks → pick ls js ≡ pick ls ks
      → js ≡ ks
  only [] [] have [] [] first second e = refl
  only [] [] have [] (k ∷ ks) first second e = absurd second
  only [] [] have (j ∷ js) ks first second e = absurd first
  only [] (l ∷ ls) have js ks first second e = absurd have
  only (t ∷ ts) [] have js ks first second e = absurd have
  only (t ∷ ts) (l ∷ ls) have [] ks first second e = absurd first
  only (t ∷ ts) (l ∷ ls) have (j ∷ js) [] first second e = absurd second
  only (t ∷ ts) (l ∷ ls) (listed, have) (j ∷ js) (k ∷ ks) (less, first) (lt, second) e =
      let one : (x : X) × (slice_get l j ≡ Some x) × Contains l x = at_index l j less in
      let two : (x : X) × (slice_get l k ≡ Some x) × Contains l x = at_index l k lt in
      let both : one.0 ∷ pick ls js ≡ two.0 ∷ pick ls ks =
      ap (λ (o : Option X). option_to_list o ++ pick ls js) (sym one.1) ∙ e
      ∙ ap (λ (o : Option X). option_to_list o ++ pick ls ks) two.1 in
      let same : two.0 ≡ one.0 = heads two.0 one.0 (pick ls ks) (pick ls js) (sym both) in
      ap₂ (λ (i : ℕ) (is : List ℕ). i ∷ is)
      (one_index l j k one.0 listed.once one.1 (two.1 ∙ ap (λ (x : X). Some x) same))
      (only ts ls have js ks first second (tails one.0 two.0 (pick ls js) (pick ls ks) both))
    where
      heads : (x y : X) (xs ys : List X) → x ∷ xs ≡ y ∷ ys → x ≡ y
      heads x y xs ys h = cc

      tails : (x y : X) (xs ys : List X) → x ∷ xs ≡ y ∷ ys → xs ≡ ys
      tails x y xs ys h = cc

-- ---- what is mapped, where no two members give the same

once_map_on : {X Y : Type 0} (f : X → Y) (S : Set X) → ((x y : X) → S x → S y → f x ≡ f y → x ≡ y)
    → (xs : List X) → ((x : X) → Contains xs x → S x) → IsOnce xs → IsOnce (map f xs)
once_map_on f S injective [] inside once = once_none
once_map_on {X} {Y} f S injective (x ∷ xs) inside once =
    once_cons (f x) (map f xs) new
    (once_map_on f S injective xs (λ y there. inside y (behind x xs y there)) (tail_once x xs once))
  where
    new : Contains (map f xs) (f x) → ⊥
    new there =
        let found : (z : X) × Contains xs z × (f z ≡ f x) = mapped_from f xs (f x) there in
        head_new x xs once
        (subst (λ (z : X). Contains xs z)
        (injective found.0 x (inside found.0 (behind x xs found.0 found.1)) (inside x (here x xs)) found.2)
        found.1)

-- all that choices pick
pub listed_picks : {A X : Type 0} (S : A → Set X) (ts : List A) (ls : List (List X))
    → AllZip (λ t l. IsListOf (S t) l) ts ls → (all : List (List ℕ))
    → IsListOf (IsIndexChoice (map length ls)) all
    → IsListOf (λ (xs : List X). AllZip S ts xs) (map (pick ls) all)
listed_picks {A} {X} S ts ls have all listed = record {
  once = once_map_on (pick ls) (IsIndexChoice (map length ls)) (only S ts ls have) all
      (λ ks. (listed.exact ks).0) listed.once;
  exact = λ xs. (to xs, back xs);
}
  where
    to : (xs : List X) → Contains (map (pick ls) all) xs → AllZip S ts xs
    to xs there =
        let found : (ks : List ℕ) × Contains all ks × (pick ls ks ≡ xs) =
        mapped_from (pick ls) all xs there in
        subst (λ (l : List X). AllZip S ts l) found.2
        (picked S ts ls have found.0 ((listed.exact found.0).0 found.1))

    back : (xs : List X) → AllZip S ts xs → Contains (map (pick ls) all) xs
    back xs is =
        let found : (ks : List ℕ) × IsIndexChoice (map length ls) ks × (pick ls ks ≡ xs) =
        choosing S ts ls have xs is in
        subst (λ (l : List X). Contains (map (pick ls) all) l) found.2
        (there_mapped (pick ls) all found.0 ((listed.exact found.0).1 found.1))
