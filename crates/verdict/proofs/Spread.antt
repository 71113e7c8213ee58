-- A list whose members are counted by what a function gives of them: pairs of a value and a number.
use Rattle.std.proofs.Common.{ℕ, ◌+◌, ◌<◌, ◌≤◌, Bool, true, false, not, ◌&&◌, ◌||◌, cond, ◌≡◌, List, [], ◌∷◌, length, get_or, map, filter, ◌⊎◌, inl, inr, ⊎_elim, refl, sym, ap, subst, ◌∙◌, arith, zero-add}
use Rattle.std.specs.Cmp.{IsEquivalence}
use Rattle.std.specs.List.{All, IsDistinct, list_any}
use Rattle.std.specs.Map.{keys_of, lookup}
use Rattle.std.specs.Option.{unwrap_or}
use Rattle.std.proofs.lemmas.Bool.{false≢true, or_right}
use Rattle.std.proofs.lemmas.List.{length-map, get_or-map}
use Rattle.std.proofs.lemmas.List.Elements.{All-nil, All-cons}
use Rattle.std.proofs.lemmas.Map.{lookup-none}
use Rattle.std.proofs.lemmas.Map.Entries.{lookup_head, lookup_tail, none_past_head, lookup_from_place}
use Rattle.std.proofs.lemmas.Map.Keys.{IsDistinct-tail}
use Rattle.std.proofs.lemmas.Option.{slice_get-get_or}

-- how many of a list pass a test
unfoldable pub how_many : {X : Type 0} → (X → Bool) → List X → ℕ
how_many test [] = 0
how_many test (x ∷ xs) = cond (test x) 1 0 + how_many test xs

pub many_agree : {X : Type 0} (p q : X → Bool) → ((x : X) → p x ≡ q x) → (xs : List X)
    → how_many p xs ≡ how_many q xs
unfolding how_many
many_agree p q h [] = refl
many_agree p q h (x ∷ xs) =
    ap (λ (b : Bool). cond b 1 0 + how_many p xs) (h x)
    ∙ ap (λ (n : ℕ). cond (q x) 1 0 + n) (many_agree p q h xs)

many_none : {X : Type 0} (p : X → Bool) → ((x : X) → p x ≡ false) → (xs : List X)
    → how_many p xs ≡ 0
unfolding how_many
many_none p h [] = refl
many_none p h (x ∷ xs) =
    ap (λ (b : Bool). cond b 1 0 + how_many p xs) (h x) ∙ zero-add (how_many p xs)
    ∙ many_none p h xs

many_split : {X : Type 0} (p q r : X → Bool)
    → ((x : X) → cond (p x) 1 0 ≡ cond (q x) 1 0 + cond (r x) 1 0) → (xs : List X)
    → how_many p xs ≡ how_many q xs + how_many r xs
unfolding how_many
many_split p q r h [] = refl
many_split p q r h (x ∷ xs) =
    let here : cond (p x) 1 0 ≡ cond (q x) 1 0 + cond (r x) 1 0 = h x in
    let more : how_many p xs ≡ how_many q xs + how_many r xs = many_split p q r h xs in
    omega arith

many_if : {X : Type 0} (b : Bool) (p : X → Bool) (xs : List X)
    → how_many (λ x. b && p x) xs ≡ cond b (how_many p xs) 0
many_if true p xs = refl
many_if false p xs = many_none (λ x. false) (λ x. refl) xs

length_cond : {X : Type 0} (b : Bool) (x : X) (xs : List X)
    → length (cond b (x ∷ xs) xs) ≡ cond b 1 0 + length xs
length_cond true x xs = omega arith
length_cond false x xs = omega arith

-- the length of a filter of a filter
pub length-filter_twice : {X : Type 0} (g p : X → Bool) (xs : List X)
    → length (filter p (filter g xs)) ≡ how_many (λ x. g x && p x) xs
unfolding how_many
length-filter_twice g p [] = refl
length-filter_twice {X} g p (x ∷ xs) =
    elim (g x) as
    (λ b. length (filter p (cond b (x ∷ filter g xs) (filter g xs)))
    ≡ cond (b && p x) 1 0 + how_many (λ y. g y && p y) xs) [
      | true ↦ length_cond (p x) x (filter p (filter g xs))
          ∙ ap (λ (n : ℕ). cond (p x) 1 0 + n) (length-filter_twice g p xs)
      | false ↦ length-filter_twice g p xs ∙ sym (zero-add (how_many (λ y. g y && p y) xs))
    ]

-- the sum of the numbers whose values pass a test
unfoldable pub weigh : {V : Type 0} → (V → Bool) → List (V × ℕ) → ℕ
weigh t [] = 0
weigh t (p ∷ ps) = cond (t p.0) p.1 0 + weigh t ps

no_bit : (b c : Bool) (n : ℕ) → c ≡ true → 0 ≡ cond (b && c) 1 0 + n → b ≡ false
no_bit false c n e h = refl
no_bit true true n e h = absurd (omega arith)
no_bit true false n e h = absurd (false≢true e)

one_bit : (b c : Bool) (n top : ℕ) → b ≡ true → c ≡ true → cond (b && c) 1 0 + n ≤ top → 0 < top
one_bit true true n top e f h = omega arith
one_bit true false n top e f h = absurd (false≢true f)
one_bit false c n top e f h = absurd (false≢true e)

parts : (g b t s : Bool) → (b ≡ true → s ≡ t)
    → cond (g && s) 1 0 ≡ cond (t && (g && b)) 1 0 + cond ((g && not b) && s) 1 0
parts false b true s h = refl
parts false b false s h = refl
parts true true true s h = ap (λ (x : Bool). cond x 1 0) (h refl)
parts true true false s h = ap (λ (x : Bool). cond x 1 0) (h refl)
parts true false true s h = sym (zero-add (cond s 1 0))
parts true false false s h = sym (zero-add (cond s 1 0))

not_both : (g b c : Bool) → c ≡ b → ((g && not b) && c) ≡ false
not_both false b c h = refl
not_both true true c h = refl
not_both true false c h = h

still : (g b c : Bool) → (b ≡ true → c ≡ false) → (g && c) ≡ ((g && not b) && c)
still false b c h = refl
still true false c h = refl
still true true c h = h refl

module _ {V X : Type 0} (e : V → V → Bool) (laws : IsEquivalence e)
    (same : (v w : V) → e v w ≡ true → v ≡ w) (f : X → V) where
  -- what the pairs have at a value
  abbrev pub at : List (V × ℕ) → V → ℕ
  at ps v = unwrap_or (lookup (e v) ps) 0

  -- the pairs count the members that pass a test
  abbrev pub Count : List (V × ℕ) → (X → Bool) → List X → Type 0
  Count ps g xs = (v : V) → at ps v ≡ how_many (λ x. g x && e v (f x)) xs

  alike : (v w y : V) → e w v ≡ true → e w y ≡ e v y
  alike v w y h = laws.congr w v y h

  apart : (v w y : V) → e w v ≡ false → e v y ≡ true → e w y ≡ false
  apart v w y n h = laws.symm w y ∙ sym (laws.congr v y w h) ∙ laws.symm v w ∙ n

  nothing : (t : V → Bool) (g : X → Bool) (xs : List X)
      → ((v : V) → 0 ≡ how_many (λ x. g x && e v (f x)) xs) → how_many (λ x. g x && t (f x)) xs ≡ 0
  unfolding how_many
  nothing t g [] h = refl
  nothing t g (x ∷ xs) h =
      let out : g x ≡ false = no_bit (g x) (e (f x) (f x)) (how_many (λ y. g y && e (f x) (f y)) xs) (laws.refl (f x)) (h (f x)) in
      ap (λ (b : Bool). cond (b && t (f x)) 1 0 + how_many (λ y. g y && t (f y)) xs) out
      ∙ zero-add (how_many (λ y. g y && t (f y)) xs)
      ∙ nothing t g xs (λ v. h v
      ∙ ap (λ (b : Bool). cond (b && e v (f x)) 1 0 + how_many (λ y. g y && e v (f y)) xs)
      out ∙ zero-add (how_many (λ y. g y && e v (f y)) xs))

  fewer : (p : V × ℕ) (ps : List (V × ℕ)) (g : X → Bool) (xs : List X)
      → IsDistinct e (keys_of (p ∷ ps)) → Count (p ∷ ps) g xs
      → Count ps (λ x. g x && not (e p.0 (f x))) xs
  fewer p ps g xs d h w = by (e w p.0) refl
    where
      by : (b : Bool) → e w p.0 ≡ b
          → at ps w ≡ how_many (λ x. (g x && not (e p.0 (f x))) && e w (f x)) xs
      by true is =
          ap (λ o. unwrap_or o 0) (lookup-none (e w) ps (none_past_head laws w p ps d is))
          ∙ sym (many_none (λ x. (g x && not (e p.0 (f x))) && e w (f x))
          (λ x. not_both (g x) (e p.0 (f x)) (e w (f x)) (alike p.0 w (f x) is)) xs)
      by false is =
          ap (λ o. unwrap_or o 0) (sym (lookup_tail (e w) p ps is))
          ∙ h w
          ∙ many_agree (λ x. g x && e w (f x)) (λ x. (g x && not (e p.0 (f x))) && e w (f x))
          (λ x. still (g x) (e p.0 (f x)) (e w (f x)) (apart p.0 w (f x) is)) xs

  -- numbers that count by the value add up to counts by a test of the value
  pub weighed : (t : V → Bool) (ps : List (V × ℕ)) (g : X → Bool) (xs : List X)
      → IsDistinct e (keys_of ps) → Count ps g xs → weigh t ps ≡ how_many (λ x. g x && t (f x)) xs
  unfolding weigh
  weighed t [] g xs d h = sym (nothing t g xs h)
  weighed t (p ∷ ps) g xs d h =
      let here : p.1 ≡ how_many (λ x. g x && e p.0 (f x)) xs = sym (ap (λ o. unwrap_or o 0) (lookup_head (e p.0) p ps (laws.refl p.0))) ∙ h p.0 in
      ap (λ (n : ℕ). cond (t p.0) n 0 + weigh t ps) here
      ∙ ap (λ (n : ℕ). n + weigh t ps) (sym (many_if (t p.0) (λ x. g x && e p.0 (f x)) xs))
      ∙ ap (λ (n : ℕ). how_many (λ x. t p.0 && (g x && e p.0 (f x))) xs + n) (weighed t ps
      (λ x. g x && not (e p.0 (f x))) xs (IsDistinct-tail e p.0 (keys_of ps) d)
      (fewer p ps g xs d h))
      ∙ sym (many_split (λ x. g x && t (f x)) (λ x. t p.0 && (g x && e p.0 (f x)))
      (λ x. (g x && not (e p.0 (f x))) && t (f x))
      (λ x. parts (g x) (e p.0 (f x)) (t p.0) (t (f x)) (λ s. ap t (sym (same p.0 (f x) s)))) xs)

  is_key_at : (v : V) (p : V × ℕ) (ps : List (V × ℕ)) (b : Bool) → e v p.0 ≡ b → 0 < at (p ∷ ps) v
      → (0 < at ps v → list_any (e v) (keys_of ps) ≡ true)
      → (e v p.0 || list_any (e v) (keys_of ps)) ≡ true
  is_key_at v p ps true is h more = ap (λ (b : Bool). b || list_any (e v) (keys_of ps)) is
  is_key_at v p ps false is h more =
      or_right (e v p.0) (list_any (e v) (keys_of ps)) (more (subst (λ (n : ℕ). 0 < n)
      (ap (λ o. unwrap_or o 0) (lookup_tail (e v) p ps is)) h))

  is_key : (v : V) (ps : List (V × ℕ)) → 0 < at ps v → list_any (e v) (keys_of ps) ≡ true
  is_key v [] h = absurd (omega arith)
  is_key v (p ∷ ps) h = is_key_at v p ps (e v p.0) refl h (is_key v ps)

  abbrev IsKey : List (V × ℕ) → X → Type 0
  IsKey ps x = list_any (e (f x)) (keys_of ps) ≡ true

  all_keys_at : (ps : List (V × ℕ)) (g : X → Bool) (x : X) (xs : List X) (b : Bool) → g x ≡ b
      → 0 < at ps (f x) ⊎ (g x ≡ false) → All (IsKey ps) (filter g xs)
      → All (IsKey ps) (cond b (x ∷ filter g xs) (filter g xs))
  all_keys_at ps g x xs true is h later =
      All-cons (IsKey ps) x (filter g xs)
      (⊎_elim (λ lt. is_key (f x) ps lt) (λ no. absurd (false≢true (sym no ∙ is))) h) later
  all_keys_at ps g x xs false is h later = later

  counted_once : (ps : List (V × ℕ)) (g : X → Bool) (x : X) (xs : List X) (b : Bool) → g x ≡ b
      → cond (g x && e (f x) (f x)) 1 0 + how_many (λ y. g y && e (f x) (f y)) xs ≤ at ps (f x)
      → 0 < at ps (f x) ⊎ (g x ≡ false)
  counted_once ps g x xs true is h =
      inl (one_bit (g x) (e (f x) (f x)) (how_many (λ y. g y && e (f x) (f y)) xs) (at ps (f x)) is
      (laws.refl (f x)) h)
  counted_once ps g x xs false is h = inr is

  -- each member that is counted has its value among the pairs
  pub all_keys : (ps : List (V × ℕ)) (g : X → Bool) (xs : List X)
      → ((v : V) → how_many (λ x. g x && e v (f x)) xs ≤ at ps v)
      → All (λ x. list_any (e (f x)) (keys_of ps) ≡ true) (filter g xs)
  unfolding how_many
  all_keys ps g [] h = All-nil (IsKey ps)
  all_keys ps g (x ∷ xs) h =
      all_keys_at ps g x xs (g x) refl (counted_once ps g x xs (g x) refl (h (f x)))
      (all_keys ps g xs (λ v.
      let top : cond (g x && e v (f x)) 1 0 + how_many (λ y. g y && e v (f y)) xs
      ≤ at ps v = h v in
      omega (arith, top)))

  -- each pair has the number at its value
  pub own_number : (ps : List (V × ℕ)) → IsDistinct e (keys_of ps) → All (λ p. p.1 ≡ at ps p.0) ps
  own_number ps d k p lt =
      let q : V × ℕ = get_or ps k p in
      sym (ap (λ o. unwrap_or o 0) (lookup_from_place laws ps k q.0 q.1 d
      (slice_get-get_or ps k p lt)))

-- what holds of each member of a map
pub All-of_map : {X Y : Type 0} (P : Y → Type 0) (f : X → Y) (xs : List X) → All P (map f xs)
    → All (λ x. P (f x)) xs
All-of_map P f xs all k d lt =
    let long : length (map f xs) ≡ length xs = length-map xs f in
    subst P (get_or-map f xs k d (f d) lt) (all k (f d) (subst (λ (n : ℕ). k < n) (sym long) lt))
