-- The laws of the names of a group as a number.
use Rattle.std.proofs.Common.{ℕ, ◌≡◌, ◌<◌, ◌↔◌, ◌⊎◌, ◌*◌, ◌-◌, ◌%◌, ◌^◌, ◌+◌, ◌∙◌, ◌≤◌, w64, min, refl, inl, inr, arith, sym, List, length, get_or}
use Rattle.std.specs.Int.{bit_at}
use Rattle.std.specs.Int.RustNames.{bit_or}
use Rattle.std.proofs.lemmas.Nat.Bits.{bit_at-zero, bit_at_set_same, bit_at_set_other, bit_at_ones}
use Rattle.std.proofs.lemmas.Bool.{cases_eq}
use Rattle.std.proofs.lemmas.List.{get_or_read}
use Rattle.binding_graph.specs.declared.resolved.Body.{Body}
use Rattle.cat_machine.specs.Uses.{ShareBit, IsAmong, UsesAny, UsesAt, UsesNear}
use Rattle.bit_rows.proofs.Bits.{zero_or_one}

pub among_none : (k : ℕ) → IsAmong 0 k → ⊥
unfolding IsAmong
among_none k h = let z : bit_at 0 (min k 63) ≡ 0 = bit_at-zero (min k 63) in zero_or_one _ z h

least_bit : (k : ℕ) → min k 63 < 64
least_bit k = grind (arith, k)

pub among_all : (k : ℕ) → IsAmong (2 ^ 64 - 1) k
unfolding IsAmong
among_all k = bit_at_ones 64 (min k 63) (least_bit k)

-- `x | 1 << a`
pub among_set : (x a k : ℕ) → a < 64
    → IsAmong (bit_or x (1 * 2 ^ a % 2 ^ 64)) k ↔ (IsAmong x k ⊎ (a ≡ min k 63))
unfolding IsAmong
among_set x a k lt =
    let i = min k 63 in
    elim (cases_eq i a) [
      | inl same ↦ ((λ h. inr (sym same)), (λ h. rw same (bit_at_set_same w64 x a lt)))
      | inr other ↦
          let e : bit_at (bit_or x (1 * 2 ^ a % 2 ^ 64)) i ≡ bit_at x i = bit_at_set_other w64 x a lt i other in
          rw e (
            (λ h. inl h),
            (λ h. elim h [ inl old ↦ old | inr same ↦ absurd (other (sym same)) ]),
          )
    ]

-- the body that stands at a position
pub uses_at_read : (names : ℕ) (bodies : List Body) (k : ℕ) (body : Body) → k < length bodies
    → body ≡ get_or bodies k body → UsesAny names body.code.steps.items ↔ UsesAt names bodies k
uses_at_read names bodies k body lt is = (
  (λ uses. (body, lt, sym is, uses)),
  (λ at. let same : body ≡ at.0 = get_or_read bodies k body lt is at.0 ∙ at.2 in rw same at.3),
)

-- of the bodies before a position
abbrev pub UsesBefore : ℕ → List Body → ℕ → ℕ → Type 0
UsesBefore grew bodies position k =
    (other : ℕ) × (other < position) × ShareBit other k × UsesAt grew bodies other

-- one position further, where the body uses a name that grew
pub next_used : (grew names new position : ℕ) (bodies : List Body) (body : Body)
    → position < length bodies → body ≡ get_or bodies position body
    → UsesAny grew body.code.steps.items
    → ((k : ℕ) → IsAmong new k ↔ (IsAmong names k ⊎ ShareBit position k))
    → ((k : ℕ) → IsAmong names k ↔ UsesBefore grew bodies position k)
    → (k : ℕ) → IsAmong new k ↔ UsesBefore grew bodies (position + 1) k
next_used grew names new position bodies body lt is uses gains before k = (
  (λ h. elim ((gains k).0 h) [
    | inl old ↦ let was = (before k).0 old in (was.0, omega (arith, was.1), was.2, was.3)
    | inr same ↦ (
      position,
      omega arith,
      same,
      (uses_at_read grew bodies position body lt is).0 uses,
    )
  ]),
  (λ h. elim (cases_eq h.0 position) [
    | inl same ↦ (gains k).1 (inr (rw same at h.2))
    | inr other ↦ (gains k).1 (inl ((before k).1 (h.0, omega (arith, other, h.1), h.2, h.3)))
  ]),
)

-- one position further, where the body uses no name that grew
pub next_unused : (grew names position : ℕ) (bodies : List Body) (body : Body)
    → position < length bodies → body ≡ get_or bodies position body
    → (UsesAny grew body.code.steps.items → ⊥)
    → ((k : ℕ) → IsAmong names k ↔ UsesBefore grew bodies position k) → (k : ℕ)
    → IsAmong names k ↔ UsesBefore grew bodies (position + 1) k
next_unused grew names position bodies body lt is unused before k = (
  (λ h. let was = (before k).0 h in (was.0, omega (arith, was.1), was.2, was.3)),
  (λ h. elim (cases_eq h.0 position) [
    | inl same ↦
        let at : UsesAt grew bodies position = rw same at h.3 in
        absurd (unused ((uses_at_read grew bodies position body lt is).1 at))
    | inr other ↦ (before k).1 (h.0, omega (arith, other, h.1), h.2, h.3)
  ]),
)

-- in a group of up to 64 names each has a bit of its own
pub own_bit : (grew names : ℕ) (bodies : List Body) → length bodies ≤ 64
    → ((k : ℕ) → IsAmong names k ↔ UsesNear grew bodies k) → (k : ℕ) → k < 64
    → (bit_at names k ≡ 1) ↔ UsesAt grew bodies k
unfolding IsAmong
own_bit grew names bodies few near k lt =
    let least : min k 63 ≡ k = grind (arith, k, lt) in (
      (λ h.
          let (other, share, at) = (near k).0 (rw least h) in
          let there : other < length bodies = at.1 in
          let same : other ≡ k = grind (arith, share, there, few, lt) in rw same at at),
      (λ at. let h = (near k).1 (k, refl, at) in rw least at h),
    )
