-- What a session says to a command. Read this file first, then Requests, Faults and Edits.
use Rattle.std.specs.Prelude.{ℕ, List, ◌∷◌, ◌++◌, [], Bool, true, false, decimal, codes}

-- the bytes, and whether the command is refused
pub record SessionAnswer : Type 0 where
  pub text : List ℕ
  pub refused : Bool

-- a line feed
abbrev pub line_end : List ℕ
line_end = 10 ∷ []

-- the line of a refusal: the letter of its rules and the rule's number,
unfoldable pub refusal_line : ℕ → ℕ → List ℕ
refusal_line letter number = codes "refused " ++ letter ∷ decimal number ++ line_end

-- and where a text is refused, the offset too
unfoldable pub refused_line : ℕ → ℕ → ℕ → List ℕ
refused_line letter number offset =
    codes "refused " ++ letter ∷ decimal number ++ codes " " ++ decimal offset ++ line_end

-- an answer that is no refusal, and one that is
abbrev pub plain_answer : List ℕ → SessionAnswer
plain_answer text = record { text = text; refused = false }

abbrev pub refusal_answer : List ℕ → SessionAnswer
refusal_answer text = record { text = text; refused = true }
