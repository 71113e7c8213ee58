-- When an expression means no less than another. Read it after Cat of meaning/specs. Read next:
-- RisingLaws.
use Rattle.meaning.specs.Cat.{Meaning, ASet, ARelation, Nothing}

-- Both are sets, relations or nothing, and the first has nothing that the second lacks.
abbrev pub IsInside : {E : Type 0} → Meaning E → Meaning E → Type 0
IsInside {E} (ASet S) (ASet T) = (a : E) → S a → T a
IsInside {E} (ARelation R) (ARelation Q) = (a b : E) → R a b → Q a b
IsInside Nothing Nothing = Unit {0}
IsInside _ _ = ⊥

-- Both are the same set or the same relation, or nothing.
abbrev pub IsAlike : {E : Type 0} → Meaning E → Meaning E → Type 0
IsAlike m k = IsInside m k × IsInside k m
