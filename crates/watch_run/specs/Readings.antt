-- What is read of files.
use Rattle.std.specs.Prelude.{◌≡◌, ◌≤◌, ℕ, List, ◌++◌, length, take, Option, Some, None, IfSome}
use Rattle.std.specs.declared.io.ErrorKind.{ErrorKind}
use Rattle.std.specs.declared.io.ErrorKind.TheVariants as kinds
use Rattle.watch_run.specs.declared.versions.Version.{Version}
use Rattle.watch_run.specs.declared.versions.Version.TheVariants as versions

-- what was read of the file of a path
pub record FileReading : Type 0 where
  pub path : List ℕ
  pub version : Version

-- what is said of a file that cannot be opened, by the kind of the error
abbrev pub unopened : ErrorKind → Version
unopened kinds.OutOfMemory = versions.OutOfMemory
unopened _ = versions.Unread

-- the text that is read of a file with these bytes, where they are known and it can be read
abbrev pub IsReadOf : Option (List ℕ) → Version → Type 0
IsReadOf bytes (versions.Text text) = IfSome bytes (λ all. text.items ≡ take 65537 all)
IsReadOf bytes versions.Unread = Unit {0}
IsReadOf bytes versions.OutOfMemory = Unit {0}

-- these were read from one time to the other, where it is known what was
abbrev pub AreReadBetween : (before after : Option (List FileReading)) → List FileReading → Type 0
AreReadBetween None after read = after ≡ None
AreReadBetween (Some readings) after read = after ≡ Some (readings ++ read)

-- from one time to the other files were read at most so often
pub record HasReadAtMost (most : ℕ) (before after : Option (List FileReading)) : Type 0 where
  pub read : List FileReading
  pub few : length read ≤ most
  pub are : AreReadBetween before after read
