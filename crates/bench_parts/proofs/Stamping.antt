-- Stamps after an edit.
use Rattle.std.proofs.Common.{ℕ, zero, suc, ◌+◌, ◌<◌, ◌≤◌, ◌≡◌, ◌^◌, inl, inr, List, [], ◌∷◌, ◌++◌, length, map, take, drop, get_or, add-one, Option, Some, None, refl, sym, ap, ◌∙◌, arith}
use Rattle.std.proofs.Math.ListN.{set}
use Rattle.std.proofs.lemmas.Bool.Decides.{nat_tests}
use Rattle.bench_parts.specs.Built.{IsStamp}
use Rattle.bench_parts.specs.Contents.{PartContent}
use Rattle.bench_parts.specs.Stamps.{next_number, raised, IsStampOf, IsLaterNumber, IsPartNow}

pub raised_low : (last number stamp : ℕ) → stamp ≤ last → raised last number stamp ≡ stamp
raised_low last number stamp le = grind (arith, nat_tests)

raised_high : (last number stamp : ℕ) → last < stamp → raised last number stamp ≡ number
raised_high last number stamp lt = grind (arith, nat_tests)

next_is : (last number : ℕ) → IsLaterNumber last number → next_number last ≡ last + 1
next_is last number n =
    let later : last < number = n.later in let fits : number < 2 ^ 64 = n.fits in omega arith

raised_next : (last number stamp : ℕ) → IsLaterNumber last number → stamp ≡ next_number last
    → raised last number stamp ≡ number
raised_next last number stamp n e =
    let f : next_number last ≡ last + 1 = next_is last number n in raised_high last number stamp (omega arith)

pub part_now : (last number was stamp : ℕ) (before now : Option PartContent)
    → IsLaterNumber last number → was ≤ last → IsStampOf (next_number last) before was now stamp
    → IsPartNow before was number now (raised last number stamp)
part_now last number was stamp before None n low h =
    inr (inr (ap (raised last number) h ∙ raised_low last number 0 (omega arith)))
part_now last number was stamp before (Some now) n low h = elim h [
  | inl same ↦ inl (ap (raised last number) same.1 ∙ raised_low last number was low, sym same.0)
  | inr other ↦ inr (inl (raised_next last number stamp n other.1))
]

pub stamp_now : (last number was stamp : ℕ) (before : Option PartContent) (now : PartContent)
    → IsLaterNumber last number → (before ≡ Some now → IsStamp last was)
    → IsStampOf (next_number last) before was (Some now) stamp
    → IsStamp number (raised last number stamp)
stamp_now last number was stamp before now n held h = elim h [
  | inl same ↦ kept (held same.0) (ap (raised last number) same.1
      ∙ raised_low last number was (held same.0).1)
  | inr other ↦ new (raised_next last number stamp n other.1)
]
  where
    later : last < number
    later = n.later

    kept : IsStamp last was → raised last number stamp ≡ was
        → IsStamp number (raised last number stamp)
    kept k e = (omega (arith, k.0), omega (arith, k.1))

    new : raised last number stamp ≡ number → IsStamp number (raised last number stamp)
    new e = (omega arith, omega arith)

-- one element more of a list is changed
pub changed_more : {A : Type 0} (f : A → A) (xs ys : List A) (i : ℕ) (d y : A) → i < length xs
    → ys ≡ map f (take i xs) ++ drop i xs → y ≡ f (get_or ys i d)
    → set ys i y ≡ map f (take (i + 1) xs) ++ drop (i + 1) xs
changed_more {A} f xs ys i d y lt e is =
    rw add-one (ap (λ (v : A). set ys i v) is
    ∙ (ap (λ (zs : List A). set zs i (f (get_or zs i d))) e ∙ changed f d xs i lt))
  where
    changed : {A : Type 0} (f : A → A) (d : A) (xs : List A) (i : ℕ) → i < length xs
        → set (map f (take i xs) ++ drop i xs) i (f (get_or (map f (take i xs) ++ drop i xs) i d))
        ≡ map f (take (suc i) xs) ++ drop (suc i) xs
    changed f d [] i lt = absurd (omega arith)
    changed f d (x ∷ xs) zero lt = refl
    changed {A} f d (x ∷ xs) (suc i) lt =
        ap (λ (zs : List A). f x ∷ zs) (changed f d xs i (omega arith))
