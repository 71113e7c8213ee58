-- Reads that failed: of a file at the start, and of a source that is read in turns.
use Rattle.std.proofs.Common.{◌≡◌, ℕ, zero, suc, ◌+◌, ◌<◌, ◌≤◌, List, [], ◌∷◌, ◌++◌, length, map, take, drop, Option, Some, None, IfSome, refl, sym, ap, ◌∙◌, arith}
use Rattle.std.specs.Prelude.{slice_get}
use Rattle.std.specs.Io.KnownBytes.{Consumes}
use Rattle.std.proofs.lemmas.List.{length-append, map-append}
use Rattle.std.proofs.lemmas.Option.{same_Some}
use Rattle.session_script.specs.Reading.{IsPaid}
use Rattle.watch_run.specs.declared.versions.Version.TheVariants.{Text, Unread}
use Rattle.watch_run.specs.Readings.{FileReading, AreReadBetween}
use Rattle.watch_run.specs.Holding.{FilePath}
use Rattle.watch_run.specs.Runs.{Standing, AreFilesBegun, NoFile, Begun, NotBegun, HasBegunFiles, EndsUnread}
use Rattle.watch_run.proofs.Gaining.{read_more}

-- ---- files

one_path : (files : List FilePath) (file : FilePath) (read : List FileReading) (reading : FileReading)
    → reading.path ≡ file.path
    → map (λ (r : FileReading). r.path) read ≡ map (λ (f : FilePath). f.path) files
    → map (λ (r : FileReading). r.path) (read ++ reading ∷ [])
    ≡ map (λ (f : FilePath). f.path) (files ++ file ∷ [])
one_path files file read reading same paths =
    map-append (λ (r : FileReading). r.path) read (reading ∷ [])
    ∙ ap (λ (l : List (List ℕ)). l ++ reading.path ∷ []) paths
    ∙ ap (λ (p : List ℕ). map (λ (f : FilePath). f.path) files ++ p ∷ []) same
    ∙ sym (map-append (λ (f : FilePath). f.path) files (file ∷ []))

-- for each file that was begun its version was read
begun_paths : (files : List FilePath) (old new : Standing) (read : List FileReading) (told : List ℕ)
    → AreFilesBegun files old new read told
    → map (λ (r : FileReading). r.path) read ≡ map (λ (f : FilePath). f.path) files
begun_paths files old new read told (NoFile standing) = refl
begun_paths files old new read told
    (Begun before file text from middle held readings said begun taken) =
    one_path before file readings (record { path = file.path; version = Text text }) refl
    (begun_paths before from middle readings said begun)
begun_paths files old new read told
    (NotBegun before file text from middle readings said fault begun refused) =
    one_path before file readings (record { path = file.path; version = Text text }) refl
    (begun_paths before from middle readings said begun)

files_split : (files : List FilePath) (i : ℕ) (file : FilePath) → slice_get files i ≡ Some file
    → files ≡ take i files ++ file ∷ drop (suc i) files
files_split [] i file there = absurd cc
files_split (x ∷ xs) zero file there =
    ap (λ (f : FilePath). f ∷ xs) (same_Some x file there)
files_split (x ∷ xs) (suc i) file there =
    ap (λ (l : List FilePath). x ∷ l) (files_split xs i file there)

-- a file cannot be read, behind those that were begun
pub unread_next : (files : List FilePath) (i : ℕ) (file : FilePath) (old new : Standing)
    (r s t : Option (List FileReading)) (told : List ℕ) → slice_get files i ≡ Some file
    → HasBegunFiles (take i files) old new r s told
    → AreReadBetween s t (record { path = file.path; version = Unread } ∷ [])
    → EndsUnread files r t
unread_next files i file old new r s t told there begun unread = record {
  begun = take i files;
  file = file;
  later = drop (suc i) files;
  all = files_split files i file there;
  read = begun.read;
  paths = begun_paths (take i files) old new begun.read told begun.begun;
  reads =
      read_more r s t begun.read (record { path = file.path; version = Unread } ∷ []) begun.reads
      unread;
}

-- ---- turns

pub none_paid : (left : Option (List ℕ)) → IsPaid 0 0 left left
none_paid None = tt
none_paid (Some bytes) = omega arith

-- a turn that takes bytes
pub one_paid : (taken : List ℕ) (before after : Option (List ℕ)) → 0 < length taken
    → Consumes before after taken → IsPaid 1 0 before after
one_paid taken None after some consumes = tt
one_paid taken (Some xs) None some consumes = absurd consumes
one_paid taken (Some xs) (Some ys) some consumes =
    let long : length xs ≡ length taken + length ys = ap (λ (l : List ℕ). length l) consumes ∙ length-append taken ys in
    omega (arith, some, long)

-- behind others
pub more_paid : (turns : ℕ) (first between last : Option (List ℕ)) → IsPaid turns 0 first between
    → IsPaid 1 0 between last → IsPaid (turns + 1) 0 first last
more_paid turns None between last paid one = tt
more_paid turns (Some first) None last paid one = absurd paid
more_paid turns (Some first) (Some between) None paid one = absurd one
more_paid turns (Some first) (Some between) (Some last) paid one = omega (arith, paid, one)

-- after so many turns the source had so many bytes
pub all_paid : (turns most : ℕ) (first last : Option (List ℕ)) → most ≤ turns
    → IsPaid turns 0 first last → IfSome first (λ all. most ≤ length all)
all_paid turns most None last many paid = tt
all_paid turns most (Some first) None many paid = absurd paid
all_paid turns most (Some first) (Some last) many paid = omega (arith, many, paid)
