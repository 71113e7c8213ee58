-- Each event has a code, and each number is the code of one event.
use Rattle.std.proofs.Common.{ℕ, zero, suc, ◌≡◌, ◌<◌, ◌≤◌, ◌+◌, [], ◌∷◌, refl, sym, ap, ap₂, ◌∙◌, arith}
use Rattle.meaning.specs.Names.{Name}
use Rattle.meaning.specs.Executions.{Event, Initial, Does}

-- ---- pairs

data Halves (n : ℕ) : Type 0 where
  even : (h : ℕ) → n ≡ h + h → Halves n
  odd : (h : ℕ) → n ≡ h + h + 1 → Halves n

halves : (n : ℕ) → Halves n
halves zero = even 0 refl
halves (suc n) = next (halves n)
  where
    next : Halves n → Halves (suc n)
    next (even h e) = odd h (omega (arith, e))
    next (odd h e) = even (suc h) (omega (arith, e))

abbrev pair : ℕ → ℕ → ℕ
pair zero b = b + b
pair (suc a) b = pair a b + pair a b + 1

paired : (fuel n : ℕ) → n < fuel → (a : ℕ) × (b : ℕ) × (pair a b ≡ n)
paired zero n lt = absurd (omega (arith, lt))
paired (suc fuel) n lt = at (halves n) (λ h small. paired fuel h small)
  where
    at : Halves n → ((h : ℕ) → h < fuel → (a : ℕ) × (b : ℕ) × (pair a b ≡ h))
        → (a : ℕ) × (b : ℕ) × (pair a b ≡ n)
    at (even h e) half = (0, h, sym e)
    at (odd h e) half =
        let rest : (a : ℕ) × (b : ℕ) × (pair a b ≡ h) = half h (omega (arith, e, lt)) in
        (suc rest.0, rest.1, ap (λ (k : ℕ). k + k + 1) rest.2 ∙ sym e)

one_pair : (a b c d : ℕ) → pair a b ≡ pair c d → (a ≡ c) × (b ≡ d)
one_pair zero b zero d e = (refl, omega (arith, e))
one_pair zero b (suc c) d e =
    let f : b + b ≡ pair c d + pair c d + 1 = e in absurd (omega (arith, f))
one_pair (suc a) b zero d e =
    let f : pair a b + pair a b + 1 ≡ d + d = e in absurd (omega (arith, f))
one_pair (suc a) b (suc c) d e =
    let f : pair a b + pair a b + 1 ≡ pair c d + pair c d + 1 = e in
    let same : pair a b ≡ pair c d = omega (arith, f) in
    let rest : _ = one_pair a b c d same in
    (ap (λ (k : ℕ). suc k) rest.0, rest.1)

second_below : (a b : ℕ) → b ≤ pair a b
second_below zero b = let le : b ≤ b + b = omega arith in le
second_below (suc a) b =
    let rest : b ≤ pair a b = second_below a b in
    let le : b ≤ pair a b + pair a b + 1 = omega (arith, rest) in le

-- ---- names

abbrev name_code : Name → ℕ
name_code [] = 0
name_code (a ∷ as_more) = suc (pair a (name_code as_more))

name_of : (fuel n : ℕ) → n < fuel → (l : Name) × (name_code l ≡ n)
name_of zero n lt = absurd (omega (arith, lt))
name_of (suc fuel) zero lt = ([], refl)
name_of (suc fuel) (suc n) lt =
    let two : (a : ℕ) × (b : ℕ) × (pair a b ≡ n) = paired (suc n) n (omega arith) in
    let small : two.1 ≤ pair two.0 two.1 = second_below two.0 two.1 in
    let is : pair two.0 two.1 ≡ n = two.2 in
    let rest : (l : Name) × (name_code l ≡ two.1) =
    name_of fuel two.1 (omega (arith, small, is, lt)) in (
      two.0 ∷ rest.0,
      ap (λ (k : ℕ). suc k) (ap (λ (k : ℕ). pair two.0 k) rest.1 ∙ two.2),
    )

one_name : (l m : Name) → name_code l ≡ name_code m → l ≡ m
one_name [] [] e = refl
one_name [] (b ∷ m) e =
    let f : 0 ≡ suc (pair b (name_code m)) = e in absurd (omega (arith, f))
one_name (a ∷ l) [] e =
    let f : suc (pair a (name_code l)) ≡ 0 = e in absurd (omega (arith, f))
one_name (a ∷ l) (b ∷ m) e =
    let f : suc (pair a (name_code l)) ≡ suc (pair b (name_code m)) = e in
    let same : pair a (name_code l) ≡ pair b (name_code m) = omega (arith, f) in
    let parts : _ = one_pair a (name_code l) b (name_code m) same in
    ap₂ (λ (k : ℕ) (ks : Name). k ∷ ks) parts.0 (one_name l m parts.1)

-- ---- events

abbrev pub event_code : Event → ℕ
event_code (Initial l) = name_code l + name_code l
event_code (Does u i) = pair u i + pair u i + 1

pub event_of : (n : ℕ) → (e : Event) × (event_code e ≡ n)
event_of n = at (halves n)
  where
    at : Halves n → (e : Event) × (event_code e ≡ n)
    at (even h e) =
        let name : (l : Name) × (name_code l ≡ h) = name_of (suc h) h (omega arith) in
        (Initial name.0, ap (λ (k : ℕ). k + k) name.1 ∙ sym e)
    at (odd h e) =
        let two : (a : ℕ) × (b : ℕ) × (pair a b ≡ h) = paired (suc h) h (omega arith) in
        (Does two.0 two.1, ap (λ (k : ℕ). k + k + 1) two.2 ∙ sym e)

pub one_event : (e f : Event) → event_code e ≡ event_code f → e ≡ f
one_event (Initial l) (Initial m) e =
    let f : name_code l + name_code l ≡ name_code m + name_code m = e in
    let same : name_code l ≡ name_code m = omega (arith, f) in
    ap (λ (n : Name). Initial n) (one_name l m same)
one_event (Initial l) (Does v j) e =
    let f : name_code l + name_code l ≡ pair v j + pair v j + 1 = e in absurd (omega (arith, f))
one_event (Does u i) (Initial m) e =
    let f : pair u i + pair u i + 1 ≡ name_code m + name_code m = e in absurd (omega (arith, f))
one_event (Does u i) (Does v j) e =
    let f : pair u i + pair u i + 1 ≡ pair v j + pair v j + 1 = e in
    let same : pair u i ≡ pair v j = omega (arith, f) in
    let parts : _ = one_pair u i v j same in
    ap₂ (λ (k l : ℕ). Does k l) parts.0 parts.1
