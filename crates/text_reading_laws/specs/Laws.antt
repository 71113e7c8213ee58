-- What the laws of this crate say of texts.
use Rattle.std.specs.Prelude.{◌≡◌, ℕ, List}

-- the bytes mean one thing, if any
abbrev pub MeansOne : {V : Type 0} → (List ℕ → V → Type 0) → Type 0
MeansOne {V} Means = (bytes : List ℕ) (v w : V) → Means bytes v → Means bytes w → v ≡ w

-- the bytes have one fault, if any: they break one rule, at one offset
abbrev pub HasOneTextFault : {R : Type 0} → (R → ℕ → Type 0) → Type 0
HasOneTextFault {R} IsFault =
    (rule other : R) (offset again : ℕ) → IsFault rule offset → IsFault other again
    → (rule ≡ other) × (offset ≡ again)

-- the bytes do not both mean something and have a fault
abbrev pub AreExclusive : {V R : Type 0} → (V → Type 0) → (R → ℕ → Type 0) → Type 0
AreExclusive {V} {R} Means IsFault =
    (v : V) (rule : R) (offset : ℕ) → Means v → IsFault rule offset → ⊥
