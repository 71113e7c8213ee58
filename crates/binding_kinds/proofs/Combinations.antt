-- The digits of a combination are its kinds.
use Rattle.std.proofs.Common.{ℕ, zero, suc, ◌≡◌, ◌<◌, ◌+◌, ◌*◌, ◌/◌, ◌%◌, ◌^◌, List, [], ◌∷◌, length, get_or, take, Bool, true, false, ◌||◌, refl, sym, ap, ◌∙◌, arith, ◌≢◌, add-one}
use Rattle.std.proofs.Math.Nat.{add-mul-mod_self_left, add-mul-div_left, div-div-eq-div-mul, div-one, pow-succ'}
use Rattle.binding_kinds.specs.declared.kinds.Kind.{Kind}
use Rattle.binding_kinds.specs.declared.kinds.Kind.TheVariants.{OfSet, OfRelation, OfAny}
use Rattle.binding_kinds.specs.Combinations.{digit, kinds_number, is_any, has_any}

lowest : (k : Kind) (n : ℕ) → (digit k + 3 * n) % 3 ≡ digit k
lowest k n = add-mul-mod_self_left (digit k) 3 n ∙ at_kind k
  where
    at_kind : (l : Kind) → digit l % 3 ≡ digit l
    at_kind OfSet = refl
    at_kind OfRelation = refl
    at_kind OfAny = refl

others : (k : Kind) (n : ℕ) → (digit k + 3 * n) / 3 ≡ n
others k n = add-mul-div_left (digit k) n (omega arith) ∙ at_kind k
  where
    at_kind : (l : Kind) → digit l / 3 + n ≡ n
    at_kind OfSet = omega arith
    at_kind OfRelation = omega arith
    at_kind OfAny = omega arith

digit_at : (p : ℕ) (ks : List Kind) (d : Kind) → p < length ks
    → kinds_number ks / 3 ^ p % 3 ≡ digit (get_or ks p d)
digit_at p [] d lt = absurd (omega arith)
digit_at zero (k ∷ ks) d lt =
    ap (λ (n : ℕ). n % 3) (div-one (kinds_number (k ∷ ks))) ∙ lowest k (kinds_number ks)
digit_at (suc p) (k ∷ ks) d lt =
    ap (λ (n : ℕ). n % 3) (ap (λ (m : ℕ). kinds_number (k ∷ ks) / m) (pow-succ' 3 p)
    ∙ sym (div-div-eq-div-mul (kinds_number (k ∷ ks)) 3 (3 ^ p))
    ∙ ap (λ (n : ℕ). n / 3 ^ p) (others k (kinds_number ks)))
    ∙ digit_at p ks d (omega arith)

pub digit_of : (p n w : ℕ) (ks : List Kind) (d : Kind) → n ≡ kinds_number ks → w ≡ 3 ^ p
    → p < length ks → n / w % 3 ≡ digit (get_or ks p d)
digit_of p n w ks d n_is w_is lt = rw (n_is, w_is) (digit_at p ks d lt)

any_next : (ks : List Kind) (i : ℕ) (d : Kind) → i < length ks
    → has_any (take (suc i) ks) ≡ (has_any (take i ks) || is_any (get_or ks i d))
any_next [] i d lt = absurd (omega arith)
any_next (OfSet ∷ ks) zero d lt = refl
any_next (OfRelation ∷ ks) zero d lt = refl
any_next (OfAny ∷ ks) zero d lt = refl
any_next (OfSet ∷ ks) (suc i) d lt = any_next ks i d (omega arith)
any_next (OfRelation ∷ ks) (suc i) d lt = any_next ks i d (omega arith)
any_next (OfAny ∷ ks) (suc i) d lt = refl

-- one more kind
any_more : (ks : List Kind) (i : ℕ) (d : Kind) → i < length ks
    → has_any (take (i + 1) ks) ≡ (has_any (take i ks) || is_any (get_or ks i d))
any_more ks i d lt = ap (λ n. has_any (take n ks)) (add-one i) ∙ any_next ks i d lt

set_digit : (k : Kind) → 0 ≡ digit k → OfSet ≡ k
set_digit OfSet e = refl
set_digit OfRelation e = absurd (omega arith)
set_digit OfAny e = absurd (omega arith)

relation_digit : (k : Kind) → 1 ≡ digit k → OfRelation ≡ k
relation_digit OfSet e = absurd (omega arith)
relation_digit OfRelation e = refl
relation_digit OfAny e = absurd (omega arith)

any_digit : (k : Kind) (n : ℕ) → n ≡ digit k → n ≢ 0 → n ≢ 1 → OfAny ≡ k
any_digit OfSet n e a b = absurd (a e)
any_digit OfRelation n e a b = absurd (b e)
any_digit OfAny n e a b = refl

pub set_at : (p n w : ℕ) (ks : List Kind) (d : Kind) → n ≡ kinds_number ks → w ≡ 3 ^ p → p < length ks
    → n / w % 3 ≡ 0 → OfSet ≡ get_or ks p d
set_at p n w ks d n_is w_is lt z =
    set_digit (get_or ks p d) (sym z ∙ digit_of p n w ks d n_is w_is lt)

pub relation_at : (p n w : ℕ) (ks : List Kind) (d : Kind) → n ≡ kinds_number ks → w ≡ 3 ^ p
    → p < length ks → n / w % 3 ≡ 1 → OfRelation ≡ get_or ks p d
relation_at p n w ks d n_is w_is lt z =
    relation_digit (get_or ks p d) (sym z ∙ digit_of p n w ks d n_is w_is lt)

pub any_at : (p n w : ℕ) (ks : List Kind) (d : Kind) → n ≡ kinds_number ks → w ≡ 3 ^ p → p < length ks
    → n / w % 3 ≢ 0 → n / w % 3 ≢ 1 → OfAny ≡ get_or ks p d
any_at p n w ks d n_is w_is lt a b =
    any_digit (get_or ks p d) (n / w % 3) (digit_of p n w ks d n_is w_is lt) a b

pub any_yes : (ks : List Kind) (i : ℕ) (d k : Kind) → i < length ks → k ≡ get_or ks i d
    → is_any k ≡ true → true ≡ has_any (take (i + 1) ks)
any_yes ks i d k lt k_is e =
    sym (any_more ks i d lt ∙ ap (λ b. has_any (take i ks) || b) (ap is_any (sym k_is) ∙ e)
    ∙ at_bool (has_any (take i ks)))
  where
    at_bool : (b : Bool) → (b || true) ≡ true
    at_bool true = refl
    at_bool false = refl

pub any_no : (ks : List Kind) (i : ℕ) (d k : Kind) → i < length ks → k ≡ get_or ks i d
    → is_any k ≡ false → has_any (take i ks) ≡ has_any (take (i + 1) ks)
any_no ks i d k lt k_is e =
    sym (any_more ks i d lt ∙ ap (λ b. has_any (take i ks) || b) (ap is_any (sym k_is) ∙ e)
    ∙ at_bool (has_any (take i ks)))
  where
    at_bool : (b : Bool) → (b || false) ≡ b
    at_bool true = refl
    at_bool false = refl
