-- The files that words and lists ask for. Read Lists first.
use Rattle.std.specs.Prelude.{◌≡◌, ℕ, List, [], ◌∷◌, ◌++◌, Bool, true, false, if◌then◌else◌, Option, Some, None, decimal, map, codes}
use Rattle.std.specs.String.{string_bytes}
use Rattle.path_lists.specs.Lists.{ListedPath, listed_paths}
use Rattle.path_lists.specs.declared.file.WantedFile as given
use Rattle.path_lists.specs.declared.file.InnerListFault.{InnerListFault}
use Rattle.path_lists.specs.declared.file.InnerListFault.TheVariants as faults

-- a file that is asked for: its path, what is told of it before a reason, and whether a list names it
pub record WantedFile : Type 0 where
  pub path : List ℕ
  pub label : List ℕ
  pub is_listed : Bool

abbrev pub wanted_by : given.WantedFile → WantedFile
wanted_by f =
    record { path = string_bytes f.path; label = string_bytes f.label; is_listed = f.is_listed }

-- the file of a word
abbrev pub word_file : List ℕ → WantedFile
word_file word = record { path = word; label = word; is_listed = false }

-- what is told of a path of a list: the list, the line and the path
abbrev pub place_told : List ℕ → ℕ → List ℕ → List ℕ
place_told list line path = list ++ codes ":" ++ decimal line ++ codes ": " ++ path

-- the file of a path of a list
abbrev pub listed_file : List ℕ → ListedPath → WantedFile
listed_file list p =
    record { path = p.path; label = place_told list p.line p.path; is_listed = true }

abbrev pub listed_files : List ℕ → List ListedPath → List WantedFile
listed_files list paths = map (listed_file list) paths

-- the line of the first of these paths that is that of a list
abbrev pub first_list : List ListedPath → Option ℕ
first_list [] = None
first_list (p ∷ ps) = if p.is_list then Some p.line else first_list ps

-- a list that a list names names files alone, and these are its files
pub record AreInnerFiles (list text : List ℕ) (files : List WantedFile) : Type 0 where
  pub no_list : first_list (listed_paths list text) ≡ None
  pub files_are : files ≡ listed_files list (listed_paths list text)

-- it is refused where it names a list, for the first line that does
abbrev pub IsInnerFault : List ℕ → List ℕ → InnerListFault → Type 0
IsInnerFault list text (faults.NamesList line) = first_list (listed_paths list text) ≡ Some line
IsInnerFault list text (faults.OutOfMemory e) = Unit {0}
