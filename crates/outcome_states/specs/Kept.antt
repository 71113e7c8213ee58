-- The candidates that a model keeps, and the names that they raise.
use Rattle.std.specs.Prelude.{ℕ, ◌≡◌, ◌<◌, Bool, false, not, ◌&&◌, List, [], ◌∷◌, map, filter, length, slice_index_or}
use Rattle.std.specs.List.{list_all, list_any, enumerate_from, zip}
use Rattle.outcome_states.specs.Names.{is_name}
use Rattle.outcome_states.specs.declared.raised.Raised.{Raised}

-- whether a check that has these answers holds on the candidate at this index
abbrev pub holds_at : ℕ → List Bool → Bool
holds_at index answers = slice_index_or answers index false

-- a candidate is kept if all checks hold on it
abbrev pub is_kept : List (List Bool) → ℕ → Bool
is_kept checks index = list_all (λ answers. holds_at index answers) checks

-- of so many candidates those are kept on which all checks hold
pub record AreKeptBy (checks : List (List Bool)) (count : ℕ) (kept : List Bool) : Type 0 where
  pub long : length kept ≡ count
  pub each : (k : ℕ) → k < count → holds_at k kept ≡ is_kept checks k

-- the candidates that are kept, each with its index
abbrev pub kept : {X : Type 0} → List (List Bool) → List X → List (ℕ × X)
kept checks candidates = filter (λ x. is_kept checks x.0) (enumerate_from 0 candidates)

-- whether two lists of answers are both true at some index
abbrev pub holds_on_some : List Bool → List Bool → Bool
holds_on_some kept answers = list_any (λ x. x.0 && x.1) (zip kept answers)

-- a flag: its name, and the answers of its check
abbrev pub Flag : Type 0
Flag = List ℕ × List Bool

abbrev pub of_raised : List Raised → List Flag
of_raised flags = map (λ f. (f.name.now, f.holds.now)) flags

-- a flag is raised if its check holds on some kept candidate
abbrev pub is_raised : {X : Type 0} → List (ℕ × X) → Flag → Bool
is_raised candidates flag = list_any (λ x. holds_at x.0 flag.1) candidates

-- the names of a list, each once, where it stands first
abbrev pub each_once : List (List ℕ) → List (List ℕ)
each_once [] = []
each_once (n ∷ ns) = n ∷ filter (λ m. not (is_name n m)) (each_once ns)

-- the names of the flags that pass a test, each once, in the order of the text
unfoldable pub names_of_flags : (Flag → Bool) → List Flag → List (List ℕ)
names_of_flags test flags = each_once (map (λ f. f.0) (filter test flags))

-- the names that the kept candidates raise
abbrev pub raised_names : {X : Type 0} → List (ℕ × X) → List Flag → List (List ℕ)
raised_names candidates flags = names_of_flags (is_raised candidates) flags
