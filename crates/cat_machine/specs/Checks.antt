-- What the check words ask of a relation. A set meets a check of emptiness alone.
use Rattle.std.specs.Prelude.{ℕ}
use Rattle.bit_rows.specs.Pairs.{IsAcyclic, IsIrreflexive, IsEmpty}
use Rattle.text_values.specs.declared.model.CheckWord.{CheckWord}
use Rattle.text_values.specs.declared.model.CheckWord.TheVariants as words

abbrev pub Holds : CheckWord → (ℕ → ℕ → Type 0) → Type 0
Holds words.Acyclic R = IsAcyclic R
Holds words.Irreflexive R = IsIrreflexive R
Holds words.Empty R = IsEmpty R

-- no event is in the set
abbrev pub IsEmptySet : (ℕ → Type 0) → Type 0
IsEmptySet S = (a : ℕ) → S a → ⊥
