-- When a thing is put behind others.
use Rattle.std.specs.Prelude.{◌≡◌, ◌⊎◌, List, [], ◌∷◌, ◌++◌}

-- The thing is put behind the others if the fact holds, and else nothing is.
abbrev pub PutsIf : {X : Type 0} → Type 0 → X → List X → List X → Type 0
PutsIf P x old new = (P × (new ≡ old ++ x ∷ [])) ⊎ ((P → ⊥) × (new ≡ old))
