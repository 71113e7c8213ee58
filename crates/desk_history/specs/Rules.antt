-- The rule of a book of operations, and what its step tells.
use Rattle.std.specs.Prelude.{ℕ, ◌≡◌, true, List, [], ◌∷◌, ◌++◌, length}
use Rattle.logbook.specs.Pages.{Cell, Step, View, Book, Named}

-- The first word is the length of the history. A book has two words, of which this one leaves the
-- second at 0.
abbrev pub HasLengthOf : {O : Type 0} → List Cell → List O → Type 0
HasLengthOf cells log = cells ≡ (length log, true) ∷ (0, true) ∷ []

-- where the length was as expected, the operation was added to all that had been seen
abbrev pub AddsOperation : {O : Type 0} → Step O → View O ℕ → ℕ → View O ℕ → Type 0
AddsOperation s v found w = found ≡ s.old → w.0 ≡ v.0 ++ s.ask ∷ []

abbrev pub head_of : Book → Named
head_of b = record { tracked = true; key = 0; book = b }
