-- Texts put together: a list of texts with a separator between them, and parentheses around a text.
use Rattle.std.specs.Prelude.{ℕ, zero, suc, List, [], ◌∷◌, ◌++◌, Bool, true, false, codes}

-- texts with a separator between them
abbrev pub joined : List ℕ → List (List ℕ) → List ℕ
joined separator [] = []
joined separator (t ∷ []) = t
joined separator (t ∷ u ∷ ts) = t ++ (separator ++ joined separator (u ∷ ts))

-- the separator before the part of an index: none before the first
abbrev pub separation : List ℕ → ℕ → List ℕ
separation separator zero = []
separation separator (suc k) = separator

-- a text, in parentheses if they are wanted
abbrev pub bracketed : Bool → List ℕ → List ℕ
bracketed true text = codes "(" ++ (text ++ codes ")")
bracketed false text = text
