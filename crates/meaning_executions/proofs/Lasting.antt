-- What the last store of one location stores, among the orders of all locations.
use Rattle.std.proofs.Common.{ℕ, zero, suc, ◌≡◌, ◌+◌, List, [], ◌∷◌, ◌++◌, length, Contains, Option, Some, None, slice_get, refl, sym, ap, subst, ◌∙◌, arith}
use Rattle.std.specs.List.{AllZip, filter_map, cons_option}
use Rattle.std.proofs.lemmas.List.{append-nil}
use Rattle.std.proofs.lemmas.List.Elements.{filter_map-append}
use Rattle.std.proofs.lemmas.Option.{same_Some}
use Rattle.candidates.proofs.Elements.{behind_first}
use Rattle.meaning.proofs.Counting.{here, behind}
use Rattle.meaning_executions.proofs.Stores.{flat}
use Rattle.outcome_states.specs.Final.{last_or}

-- ---- lists with a last member

pub ended : {X : Type 0} (x : X) (xs : List X)
    → (before : List X) × (last : X) × (x ∷ xs ≡ before ++ last ∷ [])
ended x [] = ([], x, refl)
ended {X} x (z ∷ xs) =
    let rest : _ = ended z xs in
    (x ∷ rest.0, rest.1, ap (λ (ys : List X). x ∷ ys) rest.2)

pub last_is : {X : Type 0} (d : X) (before : List X) (x : X) → last_or d (before ++ x ∷ []) ≡ x
last_is d [] x = refl
last_is d (b ∷ before) x = last_is b before x

pub last_there : (before : List ℕ) (x : ℕ)
    → slice_get (before ++ x ∷ []) (length before + 0) ≡ Some x
last_there before x = behind_first before (x ∷ []) 0

-- lists that correspond have last members that do
pub zip_ended : {X Y : Type 0} (R : X → Y → Type 0) (before : List X) (x : X) (ys : List Y)
    → AllZip R (before ++ x ∷ []) ys
    → (first : List Y) × (y : Y) × (ys ≡ first ++ y ∷ []) × R x y
zip_ended R [] x [] h = absurd h
zip_ended R [] x (y ∷ []) h = ([], y, refl, h.0)
zip_ended R [] x (y ∷ z ∷ ys) h = absurd h.1
zip_ended R (b ∷ before) x [] h = absurd h
zip_ended {X} {Y} R (b ∷ before) x (y ∷ ys) h =
    let rest : _ = zip_ended R before x ys h.1 in
    (y ∷ rest.0, rest.1, ap (λ (zs : List Y). y ∷ zs) rest.2, rest.3)

-- ---- what is found in lists one after another

module _ {V : Type 0} (stored : ℕ → Option V) where
  pub last_found : (d : V) (before : List ℕ) (n : ℕ) (v : V) → stored n ≡ Some v
      → last_or d (filter_map stored (before ++ n ∷ [])) ≡ v
  last_found d before n v is =
      ap (λ (vs : List V). last_or d vs)
      (filter_map-append stored before (n ∷ [])
      ∙ ap (λ (o : Option V). filter_map stored before ++ cons_option o []) is)
      ∙ last_is d (filter_map stored before) v

  none_found : (xs : List ℕ) → ((n : ℕ) → Contains xs n → stored n ≡ None)
      → filter_map stored xs ≡ []
  none_found [] h = refl
  none_found (x ∷ xs) h =
      first (stored x) (h x (here x xs)) (none_found xs (λ n c. h n (behind x xs n c)))
    where
      first : (o : Option V) → o ≡ None → filter_map stored xs ≡ []
          → cons_option o (filter_map stored xs) ≡ []
      first None e rest = rest
      first (Some v) e rest = absurd (let f : Some v ≡ None = e in cc)

  all_none : (xss : List (List ℕ))
      → ((j : ℕ) (u : List ℕ) (n : ℕ) → slice_get xss j ≡ Some u → Contains u n
      → stored n ≡ None)
      → filter_map stored (flat xss) ≡ []
  all_none [] h = refl
  all_none (xs ∷ xss) h =
      filter_map-append stored xs (flat xss)
      ∙ ap (λ (vs : List V). vs ++ filter_map stored (flat xss))
      (none_found xs (λ n c. h 0 xs n refl c))
      ∙ all_none xss (λ j u n at c. h (suc j) u n at c)

  -- where only one of the lists has what is looked for
  pub alone : (xss : List (List ℕ)) (k : ℕ) (o : List ℕ) → slice_get xss k ≡ Some o
      → ((j : ℕ) (u : List ℕ) (n : ℕ) → slice_get xss j ≡ Some u → (j ≡ k → ⊥) → Contains u n
      → stored n ≡ None)
      → filter_map stored (flat xss) ≡ filter_map stored o
  alone [] k o at h = absurd (let f : None ≡ Some o = at in cc)
  alone (xs ∷ xss) zero o at h =
      let same : xs ≡ o = same_Some _ _ at in
      filter_map-append stored xs (flat xss)
      ∙ ap (λ (vs : List V). filter_map stored xs ++ vs)
      (all_none xss (λ j u n there c. h (suc j) u n there (λ e. omega (arith, e)) c))
      ∙ append-nil (filter_map stored xs)
      ∙ ap (λ (ys : List ℕ). filter_map stored ys) same
  alone (xs ∷ xss) (suc k) o at h =
      filter_map-append stored xs (flat xss)
      ∙ ap (λ (vs : List V). vs ++ filter_map stored (flat xss))
      (none_found xs (λ n c. h 0 xs n refl (λ e. omega (arith, e)) c))
      ∙ alone xss k o at
      (λ j u n there other c. h (suc j) u n there (λ e. other (omega (arith, e))) c)
