-- What people are told of the versions of files. Contracts inside the crate cite it.
use Rattle.std.specs.Prelude.{◌≡◌, ◌≢◌, ℕ, Bool, true, false, List, [], get_or, slice_get, bytes_eq, if◌then◌else◌, Some}
use Rattle.command_answers.specs.declared.file.TextFile.{TextFile}
use Rattle.command_answers.specs.Reports.{IsModelTold, IsTestTold}
use Rattle.command_answers.specs.Told.{IsFaultTold}
use Rattle.watch_run.specs.declared.telling.VersionTeller.{VersionTeller}

-- the path stands at that index among these
abbrev pub IsPathAt : (paths : List (List ℕ)) → (path : List ℕ) → (index : ℕ) → Type 0
IsPathAt paths path index = slice_get paths index ≡ Some path

-- it stands nowhere among them
abbrev pub HasNoPath : (paths : List (List ℕ)) → (path : List ℕ) → Type 0
HasNoPath paths path = (index : ℕ) → slice_get paths index ≢ Some path

-- the versions come from the same source, the same files hold models, and as much is told of tests
pub record IsSameTeller {V W : Type 0} (old new : VersionTeller V W) : Type 0 where
  pub versions : new.versions ≡ old.versions
  pub models : new.models ≡ old.models
  pub tests : new.tells_tests ≡ old.tells_tests

-- The lines of the fault of that model are noted. They are told if they are others than those that
-- were noted before, and otherwise nothing is told. The others stay.
pub record IsFaultNoted (index : ℕ) (fault : List ℕ) (old new : List (List ℕ)) (told : List ℕ)
    : Type 0 where
  pub is : told ≡ (if bytes_eq (get_or old index []) fault then [] else fault)
  pub noted : get_or new index [] ≡ fault
  pub others : (other : ℕ) → other ≢ index → get_or new other [] ≡ get_or old other []

-- What is told of a text of a model: why it is refused, or else its fault, if that is another than
-- was noted.
pub data IsModelTextTold (index : ℕ) (file : TextFile) (old new : List (List ℕ)) (told : List ℕ)
    : Type 0 where
  IsRefusalTold : IsModelTold file told → told ≢ [] → new ≡ old
      → IsModelTextTold index file old new told
  IsFaultOf : (fault : List ℕ) → IsModelTold file [] → IsFaultTold file fault
      → IsFaultNoted index fault old new told → IsModelTextTold index file old new told

-- What is told of a text, where the files of these paths hold models, and any other a test, of
-- which a refusal is told only where that is wanted.
pub data IsVersionTold (models : List (List ℕ)) (tests : Bool) (file : TextFile)
    (old new : List (List ℕ)) (told : List ℕ) : Type 0 where
  IsOfModel : (index : ℕ) → IsPathAt models file.path.now index
      → IsModelTextTold index file old new told → IsVersionTold models tests file old new told
  IsOfTest : HasNoPath models file.path.now → tests ≡ true → IsTestTold file [] told → new ≡ old
      → IsVersionTold models tests file old new told
  IsUntold : HasNoPath models file.path.now → tests ≡ false → told ≡ [] → new ≡ old
      → IsVersionTold models tests file old new told
