-- Lists that are gone through from the front, and seen from the back.
use Rattle.std.proofs.Common.{ℕ, zero, suc, ◌≡◌, ◌<◌, ◌≤◌, ◌+◌, ◌-◌, true, List, [], ◌∷◌, ◌++◌, length, map, reverse, take, get_or, bytes_eq, false, inl, inr, Option, Some, None, refl, ap, sym, ◌∙◌, subst, arith}
use Rattle.std.proofs.lemmas.Bool.{cases_Bool}
use Rattle.std.proofs.lemmas.Nat.{le_bytes_8}
use Rattle.text_values.specs.Names.{key_of, key_bytes}
use Rattle.binding_kinds.specs.declared.scope.Found.{Found}
use Rattle.binding_kinds.specs.Meanings.{named_of, meaning_named, meaning_of}
use Rattle.std.proofs.lemmas.List.{take_more, reverse-append, map-append, same_lists, get_or_default}
use Rattle.std.proofs.lemmas.Slice.Eq.{bytes_eq-Decides}

pub rev_push : {X Y : Type 0} (f : X → Y) (xs : List X) (x : X)
    → reverse (map f (xs ++ x ∷ [])) ≡ f x ∷ reverse (map f xs)
rev_push f xs x = rw (map-append f xs (x ∷ []), reverse-append (map f xs) (f x ∷ [])) refl

pub rev_more : {X Y : Type 0} (f : X → Y) (xs : List X) (i : ℕ) (d : X) → i < length xs
    → reverse (map f (take (i + 1) xs)) ≡ f (get_or xs i d) ∷ reverse (map f (take i xs))
rev_more f xs i d lt = rw (take_more xs i d lt) (rev_push f (take i xs) (get_or xs i d))

-- the same from the back
pub rev_less : {X Y : Type 0} (f : X → Y) (xs : List X) (n : ℕ) (d : X) → 0 < n → n ≤ length xs
    → reverse (map f (take n xs)) ≡ f (get_or xs (n - 1) d) ∷ reverse (map f (take (n - 1) xs))
rev_less f xs n d more few =
    let next : n - 1 + 1 ≡ n = omega (arith, more) in
    subst
    (λ m. reverse (map f (take m xs))
    ≡ f (get_or xs (n - 1) d) ∷ reverse (map f (take (n - 1) xs))) next
    (rev_more f xs (n - 1) d (omega (arith, more, few)))

-- names with different keys are not the same
pub keys_apart : (xs ys : List ℕ) (n : ℕ) → (key_of xs ≡ n → ⊥) → n ≡ key_of ys
    → bytes_eq xs ys ≡ false
keys_apart xs ys n apart is = elim (cases_Bool (bytes_eq xs ys)) [
  | inl same ↦ absurd (apart (ap key_of ((bytes_eq-Decides xs ys).0 same) ∙ sym is))
  | inr other ↦ other
]

-- names of at most seven bytes with the same key are the same
pub keys_same : (xs ys : List ℕ) (n : ℕ) → ((i : ℕ) → get_or xs i 0 < 256)
    → ((i : ℕ) → get_or ys i 0 < 256) → key_of xs ≡ n → n ≡ key_of ys → length xs ≤ 7
    → bytes_eq xs ys ≡ true
unfolding key_of key_bytes
keys_same xs ys n small few mine others short = (bytes_eq-Decides xs ys).1 same
  where
    inside : (l : List ℕ) → ((i : ℕ) → get_or l i 0 < 256) → (i : ℕ)
        → get_or (key_bytes l) i 0 < 256
    inside l low zero = omega arith
    inside l low (suc zero) = low 0
    inside l low (suc (suc zero)) = low 1
    inside l low (suc (suc (suc zero))) = low 2
    inside l low (suc (suc (suc (suc zero)))) = low 3
    inside l low (suc (suc (suc (suc (suc zero))))) = low 4
    inside l low (suc (suc (suc (suc (suc (suc zero)))))) = low 5
    inside l low (suc (suc (suc (suc (suc (suc (suc zero))))))) = low 6
    inside l low (suc (suc (suc (suc (suc (suc (suc (suc i)))))))) = omega arith

    parts : key_bytes xs ≡ key_bytes ys
    parts =
        sym (le_bytes_8 (key_bytes xs) n refl (inside xs small) (sym mine))
        ∙ le_bytes_8 (key_bytes ys) n refl (inside ys few) others

    at : (i : ℕ) → get_or (key_bytes xs) i 0 ≡ get_or (key_bytes ys) i 0
    at i = ap (λ l. get_or l i 0) parts

    long : length xs ≡ length ys
    long = omega (arith, at 0, short)

    each : (i : ℕ) → i < 7 → get_or xs i 0 ≡ get_or ys i 0
    each zero lt = at 1
    each (suc zero) lt = at 2
    each (suc (suc zero)) lt = at 3
    each (suc (suc (suc zero))) lt = at 4
    each (suc (suc (suc (suc zero)))) lt = at 5
    each (suc (suc (suc (suc (suc zero))))) lt = at 6
    each (suc (suc (suc (suc (suc (suc zero)))))) lt = at 7
    each (suc (suc (suc (suc (suc (suc (suc i))))))) lt = absurd (omega (arith, lt))

    same : xs ≡ ys
    same =
        same_lists xs ys long (λ k d lt. get_or_default xs k d 0 lt
        ∙ (each k (omega (arith, lt, short))
        ∙ get_or_default ys k 0 d (omega (arith, lt, long))))

pub rev_next : {X : Type 0} (xs : List X) (i : ℕ) (d : X) → i < length xs
    → reverse (take (i + 1) xs) ≡ get_or xs i d ∷ reverse (take i xs)
rev_next xs i d lt = rw (take_more xs i d lt, reverse-append (take i xs) (get_or xs i d ∷ [])) refl

-- what a name stands for is what it is found to stand for
pub named_meaning : (p : Option ℕ) (o : Option Found)
    → meaning_named (named_of p o) ≡ meaning_of p o
named_meaning (Some i) o = refl
named_meaning None o = refl
