-- Where a thing is put among things in order.
use Rattle.std.proofs.Common.{◌≡◌, ℕ, ◌+◌, ◌<◌, ◌≤◌, List, [], ◌∷◌, ◌++◌, length, map, take, drop, get_or, Bool, true, false, refl, sym, ap, ◌∙◌, append_assoc, arith}
use Rattle.std.specs.Prelude.{if◌then◌else◌}
use Rattle.std.specs.List.{insert}
use Rattle.std.proofs.lemmas.List.{take_more, take_all, drop_all, at_drop_more, take-append-drop, take-map, drop-map, map-append, length-map}
use Rattle.std.proofs.Math.ListN.{get_or-map}
use Rattle.meaning.specs.Names.{with_one, in_order}
use Rattle.plain_runs.specs.Locations.{with_each}

module _ {X : Type 0} (is_same is_before : X → X → Bool) where
  abbrev pub one_in : X → List X → List X
  one_in x ys = with_one is_same is_before x ys

  abbrev put_at : Bool → Bool → X → X → List X → List X
  put_at same before x y ys =
      if same then y ∷ ys else if before then x ∷ y ∷ ys else y ∷ one_in x ys

  -- a loop over a list that is mapped
  module _ {A : Type 0} (f : A → X) (x : X) (xs : List A) where
    module _ (k : ℕ) (d : A) (lt : k < length xs)
        (before : one_in x (map f xs) ≡ take k (map f xs) ++ one_in x (drop k (map f xs))) where
      abbrev y : X
      y = f (get_or xs k d)

      abbrev later : List X
      later = drop (k + 1) (map f xs)

      at_least : k < length (map f xs)
      at_least = let e : _ = length-map xs f in omega (arith, e, lt)

      here_at : get_or (map f xs) k (f d) ≡ y
      here_at = get_or-map f xs k d

      rest_is : drop k (map f xs) ≡ y ∷ later
      rest_is =
          at_drop_more (λ (l : List X). l) (map f xs) k (f d) at_least
          ∙ ap (λ (n : X). n ∷ later) here_at

      here_is : one_in x (map f xs)
          ≡ take k (map f xs) ++ put_at (is_same x y) (is_before x y) x y later
      here_is = before ∙ ap (λ (l : List X). take k (map f xs) ++ one_in x l) rest_is

      pub placed_same : is_same x y ≡ true → one_in x (map f xs) ≡ map f xs
      placed_same same =
          here_is
          ∙ ap (λ (b : Bool). take k (map f xs) ++ put_at b (is_before x y) x y later) same
          ∙ ap (λ (l : List X). take k (map f xs) ++ l) (sym rest_is)
          ∙ take-append-drop k (map f xs)

      pub placed_before : is_same x y ≡ false → is_before x y ≡ true
          → one_in x (map f xs) ≡ insert (map f xs) k x
      placed_before other earlier =
          here_is
          ∙ ap (λ (b : Bool). take k (map f xs) ++ put_at b (is_before x y) x y later) other
          ∙ ap (λ (b : Bool). take k (map f xs) ++ put_at false b x y later) earlier
          ∙ ap (λ (l : List X). take k (map f xs) ++ x ∷ l) (sym rest_is)

      pub placed_more : is_same x y ≡ false → is_before x y ≡ false
          → one_in x (map f xs) ≡ take (k + 1) (map f xs) ++ one_in x later
      placed_more other after =
          here_is
          ∙ ap (λ (b : Bool). take k (map f xs) ++ put_at b (is_before x y) x y later) other
          ∙ ap (λ (b : Bool). take k (map f xs) ++ put_at false b x y later) after
          ∙ sym (append_assoc (take k (map f xs)) (y ∷ []) (one_in x later))
          ∙ ap (λ (l : List X). l ++ one_in x later)
          (ap (λ (n : X). take k (map f xs) ++ n ∷ []) (sym here_at)
          ∙ sym (take_more (map f xs) k (f d) at_least))

    pub placed_last : (k : ℕ) → length xs ≤ k
        → one_in x (map f xs) ≡ take k (map f xs) ++ one_in x (drop k (map f xs))
        → one_in x (map f xs) ≡ insert (map f xs) (length xs) x
    placed_last k le before =
        before
        ∙ ap (λ (l : List X). take k (map f xs) ++ one_in x l) (drop_all k (map f xs) (long k le))
        ∙ ap (λ (l : List X). l ++ x ∷ []) (take_all k (map f xs) (long k le) ∙ sym (take_all (length xs) (map f xs) (long (length xs) (omega arith))))
        ∙ ap (λ (l : List X). take (length xs) (map f xs) ++ x ∷ l) (sym (drop_all (length xs) (map f xs) (long (length xs) (omega arith))))
      where
        long : (j : ℕ) → length xs ≤ j → length (map f xs) ≤ j
        long j less = let e : _ = length-map xs f in omega (arith, e, less)

  pub each_append : (xs ys zs : List X)
      → with_each is_same is_before (xs ++ ys) zs
      ≡ with_each is_same is_before xs (with_each is_same is_before ys zs)
  each_append [] ys zs = refl
  each_append (x ∷ xs) ys zs = ap (λ (l : List X). one_in x l) (each_append xs ys zs)

  pub in_order_each : (xs : List X)
      → in_order is_same is_before xs ≡ with_each is_same is_before xs []
  in_order_each [] = refl
  in_order_each (x ∷ xs) = ap (λ (l : List X). one_in x l) (in_order_each xs)

  abbrev all_in : List X → List X → List X
  all_in xs ys = with_each is_same is_before xs ys

  -- things put in two steps, the last first
  pub both_parts : (fs gs start x y : List X) → start ≡ [] → x ≡ all_in gs start
      → y ≡ all_in fs x → y ≡ in_order is_same is_before (fs ++ gs)
  both_parts fs gs start x y begin first second =
      second ∙ ap (λ (l : List X). all_in fs l) first
      ∙ ap (λ (l : List X). all_in fs (all_in gs l)) begin
      ∙ sym (each_append fs gs []) ∙ sym (in_order_each (fs ++ gs))

  -- and in three
  pub all_parts : (fs gs hs start x y z : List X) → start ≡ [] → x ≡ all_in hs start
      → y ≡ all_in gs x → z ≡ all_in fs y → z ≡ in_order is_same is_before (fs ++ gs ++ hs)
  all_parts fs gs hs start x y z begin first second third =
      third ∙ ap (λ (l : List X). all_in fs l) second
      ∙ ap (λ (l : List X). all_in fs (all_in gs l)) first
      ∙ ap (λ (l : List X). all_in fs (all_in gs (all_in hs l))) begin
      ∙ sym (each_append fs gs (all_in hs [])) ∙ sym (each_append (fs ++ gs) hs [])
      ∙ sym (in_order_each (fs ++ gs ++ hs))

pub inserted_as : {A X : Type 0} (f : A → X) (xs : List A) (k : ℕ) (x : A)
    → map f (insert xs k x) ≡ insert (map f xs) k (f x)
inserted_as {A} {X} f xs k x =
    map-append f (take k xs) (x ∷ drop k xs)
    ∙ ap (λ (l : List X). l ++ f x ∷ map f (drop k xs)) (sym (take-map f k xs))
    ∙ ap (λ (l : List X). take k (map f xs) ++ f x ∷ l) (sym (drop-map f k xs))
