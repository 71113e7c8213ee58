-- What watching answers, and what a run writes. Read after Lines and Edited.
use Rattle.std.specs.Prelude.{◌≡◌, ◌≤◌, ◌==◌, ◌+◌, if◌then◌else◌, ℕ, Bool, true, false, List, [], ◌∷◌, ◌++◌, codes, length, map, Option, Some, None, Vec}
use Rattle.std.specs.declared.alloc.Global.{Global}
use Rattle.std.specs.Io.KnownBytes.{Appends}
use Rattle.bench_texts.specs.declared.fault.EditFault.{EditFault}
use Rattle.session_edits.specs.Faults.{fault_line}
use Rattle.watch_run.specs.declared.versions.Version.TheVariants.{Text, Unread}
use Rattle.session_script.specs.Written.{WritesPrefix}
use Rattle.watch_run.specs.Readings.{FileReading, AreReadBetween}
use Rattle.watch_run.specs.Holding.{Holding, empty_holding, bench_model_names, File, FilePath, all_files, file_at, IsVersionRefused}
use Rattle.watch_run.specs.Edited.{IsTakenByEdits}
use Rattle.watch_run.specs.Lines.{AreLinesOf, AreLinesWritten}

-- ---- the lines of the source

-- a line before others, if it is not empty
abbrev pub line_before : (line : List ℕ) → (lines : List (List ℕ)) → List (List ℕ)
line_before [] lines = lines
line_before (byte ∷ line) lines = (byte ∷ line) ∷ lines

-- The lines of these bytes that are not empty, where these stand before them in the first line.
-- Each line ends in a line feed, and the last one may lack it.
abbrev pub lines_from : (front bytes : List ℕ) → List (List ℕ)
lines_from front [] = line_before front []
lines_from front (byte ∷ bytes) =
    if byte == 10 then line_before front (lines_from [] bytes)
    else lines_from (front ++ byte ∷ []) bytes

-- ---- the answer to a line of the source

-- how things stand: how many files are of models, what is held of all files, the lines that were
-- last written of the files of tests, in their order, whether a text was refused so far, and how
-- many jobs were counted
pub record Standing : Type 0 where
  pub models : ℕ
  pub held : Holding
  pub lines : List (List ℕ)
  pub refused : Bool
  pub jobs : ℕ

abbrev pub with_held : Holding → Standing → Standing
with_held held s =
    record { models = s.models; held = held; lines = s.lines; refused = s.refused; jobs = s.jobs }

abbrev pub with_refusal : Standing → Standing
with_refusal s =
    record { models = s.models; held = s.held; lines = s.lines; refused = true; jobs = s.jobs }

-- what tells of the file of this path why its text is refused
abbrev pub file_refusal : (path : List ℕ) → EditFault → List ℕ
file_refusal path fault = path ++ codes ": " ++ fault_line fault

-- the lines are those of what is held, and a text gained those that changed, and the number of the
-- jobs that were counted meanwhile
pub record AreLinesSettled (old new : Standing) (before after : List ℕ) : Type 0 where
  pub models : new.models ≡ old.models
  pub held : new.held ≡ old.held
  pub refused : new.refused ≡ old.refused
  pub right : AreLinesOf (bench_model_names new.models) new.held.texts new.held.names new.lines
  pub jobs : ℕ
  pub done : new.jobs ≡ old.jobs + jobs
  pub written : AreLinesWritten old.lines new.lines jobs before after

-- A text of a file is accepted: what is held changes by its edits, and the answer is those of the
-- lines that changed, and the number of jobs.
pub record IsTextAccepted (file : File) (text : List ℕ) (old new : Standing) (said : List ℕ)
    : Type 0 where
  pub held : Holding
  pub taken : IsTakenByEdits file text old.held held
  pub settled : AreLinesSettled (with_held held old) new [] said

-- it is refused, and the answer tells why
pub record IsTextRefused (file : File) (path text : List ℕ) (old new : Standing) (said : List ℕ)
    : Type 0 where
  pub fault : EditFault
  pub refused : IsVersionRefused file text old.held.texts fault
  pub stands : new ≡ with_refusal old
  pub is : said ≡ file_refusal path fault

-- The answer to a line that is a path, what was read for it, and how things stand after it, by
-- which file the path is of.
pub data IsLineAnswer (path : List ℕ) (old new : Standing)
    : Option File → (read : List FileReading) → (said : List ℕ) → Type 0 where
  Unwatched : (said : List ℕ) → new ≡ old → said ≡ path ++ (codes ": not watched" ++ 10 ∷ [])
      → IsLineAnswer path old new None [] said
  NotRead : (file : File) (said : List ℕ) → new ≡ old
      → said ≡ path ++ (codes ": not read" ++ 10 ∷ [])
      → IsLineAnswer path old new (Some file) (record { path = path; version = Unread } ∷ []) said
  Refused : (file : File) (text : Vec ℕ Global) (said : List ℕ)
      → IsTextRefused file path text.items old new said
      → IsLineAnswer path old new (Some file)
      (record { path = path; version = Text text } ∷ []) said
  Accepted : (file : File) (text : Vec ℕ Global) (said : List ℕ)
      → IsTextAccepted file text.items old new said
      → IsLineAnswer path old new (Some file)
      (record { path = path; version = Text text } ∷ []) said

-- the answers to lines of the source, one after another
pub data AreLineAnswers (models tests : List (List ℕ))
    : (lines : List (List ℕ)) (old new : Standing) (read : List FileReading) (said : List ℕ)
    → Type 0 where
  NoAnswer : (standing : Standing) → AreLineAnswers models tests [] standing standing [] []
  OneMore : (lines : List (List ℕ)) (line : List ℕ) (old middle new : Standing)
      (read more : List FileReading) (text said : List ℕ)
      → AreLineAnswers models tests lines old middle read text
      → IsLineAnswer line middle new (file_at models tests line) more said
      → AreLineAnswers models tests (lines ++ line ∷ []) old new (read ++ more) (text ++ said)

-- ---- the beginning of a run

-- before the first version of any file, of so many of models and of tests, and before the first
-- job, where these lines were the last that were written
abbrev pub at_first : (models tests : ℕ) → (lasts : List (List ℕ)) → Standing
at_first models tests lasts = record {
  models = models;
  held = empty_holding tests;
  lines = lasts;
  refused = false;
  jobs = 0;
}

-- the first versions of some files, one after another: each is accepted, or it is told why it is
-- refused
pub data AreFilesBegun
    : List FilePath → (old new : Standing) (read : List FileReading) (told : List ℕ) → Type 0 where
  NoFile : (standing : Standing) → AreFilesBegun [] standing standing [] []
  Begun : (files : List FilePath) (file : FilePath) (text : Vec ℕ Global) (old middle : Standing)
      (held : Holding) (read : List FileReading) (told : List ℕ)
      → AreFilesBegun files old middle read told
      → IsTakenByEdits file.file text.items middle.held held
      → AreFilesBegun (files ++ file ∷ []) old (with_held held middle)
      (read ++ record { path = file.path; version = Text text } ∷ []) told
  NotBegun : (files : List FilePath) (file : FilePath) (text : Vec ℕ Global) (old middle : Standing)
      (read : List FileReading) (told : List ℕ) (fault : EditFault)
      → AreFilesBegun files old middle read told
      → IsVersionRefused file.file text.items middle.held.texts fault
      → AreFilesBegun (files ++ file ∷ []) old (with_refusal middle)
      (read ++ record { path = file.path; version = Text text } ∷ [])
      (told ++ file_refusal file.path fault)

-- What is written at the start: what is told of the first versions that are refused, the line of
-- each test, and the number of jobs.
pub record IsRunStart (models tests lasts : List (List ℕ)) (new : Standing)
    (read : List FileReading) (said : List ℕ) : Type 0 where
  pub told : List ℕ
  pub middle : Standing
  pub begun : AreFilesBegun (all_files models tests)
      (at_first (length models) (length tests) lasts) middle read told
  pub settled : AreLinesSettled middle new told said

-- The first versions of these files were asked for, one after another, up to that of one file,
-- which could not be read.
pub record EndsUnread (files : List FilePath) (read_before read_after : Option (List FileReading))
    : Type 0 where
  pub begun : List FilePath
  pub file : FilePath
  pub later : List FilePath
  pub all : files ≡ begun ++ file ∷ later
  pub read : List FileReading
  pub paths : map (λ r. r.path) read ≡ map (λ f. f.path) begun
  pub reads : AreReadBetween read_before read_after
      (read ++ record { path = file.path; version = Unread } ∷ [])

-- A whole run over the files of these paths is written: its beginning, and an answer to each line
-- of the source that is not empty, where it is known which bytes it had. Before it these lines were
-- the last that were written. It is told what it read of the files, and whether a text was refused.
pub record IsWatchRun (models tests lasts : List (List ℕ)) (refused : Bool)
    (source : Option (List ℕ)) (read_before read_after : Option (List FileReading))
    (before after : Option (List ℕ)) : Type 0 where
  pub begins : Standing
  pub ends : Standing
  pub first_read : List FileReading
  pub read : List FileReading
  pub first : List ℕ
  pub text : List ℕ
  pub lines : List (List ℕ)
  pub begun : IsRunStart models tests lasts begins first_read first
  pub answers : AreLineAnswers models tests lines begins ends read text
  pub told : ends.refused ≡ refused
  pub asked : (bytes : List ℕ) → source ≡ Some bytes → lines ≡ lines_from [] bytes
  pub reads : AreReadBetween read_before read_after (first_read ++ read)
  pub gains : Appends before after (first ++ text)

-- ---- what was written before a fault

-- these are the first lines of the source behind the first part of its first line, where it is
-- known which bytes it had
abbrev pub ArePrefixOf : (front : List ℕ) → (source : Option (List ℕ)) → List (List ℕ) → Type 0
ArePrefixOf front source lines =
    (bytes : List ℕ) → source ≡ Some bytes
    → (more : List (List ℕ)) × (lines_from front bytes ≡ lines ++ more)

-- What a run writes up to a line of the source, of these readings, and how many more it makes at
-- most for what it writes next: nothing yet, and next the start, for which it reads each file; or
-- the start and then the answers to the first lines, and next the answer to one line.
pub data IsRunText (models tests lasts : List (List ℕ)) (source : Option (List ℕ))
    : (read : List FileReading) (most : ℕ) (text : List ℕ) → Type 0 where
  NothingYet : IsRunText models tests lasts source [] (length (all_files models tests)) []
  FirstLines : (begins ends : Standing) (first_read read : List FileReading) (first text : List ℕ)
      (lines : List (List ℕ))
      → IsRunStart models tests lasts begins first_read first
      → AreLineAnswers models tests lines begins ends read text → ArePrefixOf [] source lines
      → IsRunText models tests lasts source (first_read ++ read) 1 (first ++ text)

-- A run over the files of these paths ended by a fault: what was written is a front of such a text,
-- of what was read first. The other readings were made for what was to be written next.
pub record IsCutRun (models tests lasts : List (List ℕ)) (source : Option (List ℕ))
    (read_before read_after : Option (List FileReading)) (before after : Option (List ℕ))
    : Type 0 where
  pub read : List FileReading
  pub more : List FileReading
  pub most : ℕ
  pub text : List ℕ
  pub is : IsRunText models tests lasts source read most text
  pub few : length more ≤ most
  pub reads : AreReadBetween read_before read_after (read ++ more)
  pub front : WritesPrefix before after text

-- ---- parts of a run

-- what is said of a text of a file, which is accepted or refused
pub data IsTextAnswer (file : File) (path text : List ℕ) (old new : Standing) (said : List ℕ)
    : Type 0 where
  TextAccepted : IsTextAccepted file text old new said → IsTextAnswer file path text old new said
  TextRefused : IsTextRefused file path text old new said → IsTextAnswer file path text old new said

-- a text is taken, by whether it is accepted: what is told gains why it is refused
pub data IsTextNoted (file : File) (path text : List ℕ) (old new : Standing) (before after : List ℕ)
    : Bool → Type 0 where
  NotedTaken : (held : Holding) → IsTakenByEdits file text old.held held → new ≡ with_held held old
      → after ≡ before → IsTextNoted file path text old new before after true
  NotedRefused : (fault : EditFault) → IsVersionRefused file text old.held.texts fault
      → new ≡ with_refusal old → after ≡ before ++ file_refusal path fault
      → IsTextNoted file path text old new before after false

-- lines for which this holds were answered, and files read for them
pub record HasLineAnswers (models tests : List (List ℕ)) (asks : List (List ℕ) → Type 0)
    (old new : Standing)
    (read_before read_after : Option (List FileReading)) (before after : Option (List ℕ))
    : Type 0 where
  pub lines : List (List ℕ)
  pub asked : asks lines
  pub read : List FileReading
  pub text : List ℕ
  pub answers : AreLineAnswers models tests lines old new read text
  pub reads : AreReadBetween read_before read_after read
  pub gains : Appends before after text

-- Answers to lines for which this holds were made, for which files were read, and a front of them
-- was written. For the next line a file was read at most once.
pub record HasAnswersPrefix (models tests : List (List ℕ)) (asks : List (List ℕ) → Type 0)
    (old : Standing)
    (read_before read_after : Option (List FileReading)) (before after : Option (List ℕ))
    : Type 0 where
  pub lines : List (List ℕ)
  pub asked : asks lines
  pub new : Standing
  pub read : List FileReading
  pub more : List FileReading
  pub text : List ℕ
  pub answers : AreLineAnswers models tests lines old new read text
  pub few : length more ≤ 1
  pub reads : AreReadBetween read_before read_after (read ++ more)
  pub front : WritesPrefix before after text

-- first lines: of one that may be empty; of those that end in these bytes, behind the first part of
-- the first
abbrev pub IsPrefixOfLine : (line : List ℕ) → List (List ℕ) → Type 0
IsPrefixOfLine line lines = (more : List (List ℕ)) × (line_before line [] ≡ lines ++ more)

abbrev pub ArePrefixIn : (front bytes : List ℕ) → List (List ℕ) → Type 0
ArePrefixIn front bytes lines =
    (rest : List ℕ) → (more : List (List ℕ)) × (lines_from front (bytes ++ rest) ≡ lines ++ more)

-- it is the line, if it is not empty
abbrev pub IsLineAlone : (line : List ℕ) → List (List ℕ) → Type 0
IsLineAlone line lines = lines ≡ line_before line []

-- the lines that end in these bytes, behind the first part of the first, where the second part is
-- left
abbrev pub AreIn : (front bytes left : List ℕ) → List (List ℕ) → Type 0
AreIn front bytes left lines =
    (rest : List ℕ) → lines_from front (bytes ++ rest) ≡ lines ++ lines_from left rest

-- the lines that a turn answers, where the source goes on or ends, and where its bytes are known
abbrev pub AreOfTurn : (goes_on : Bool) → (front left : List ℕ) → (before after : Option (List ℕ))
    → List (List ℕ) → Type 0
AreOfTurn true front left before after lines =
    (bytes : List ℕ) → before ≡ Some bytes
    → (rest : List ℕ) × (after ≡ Some rest)
    × (lines_from front bytes ≡ lines ++ lines_from left rest)
AreOfTurn false front left before after lines =
    (bytes : List ℕ) → before ≡ Some bytes → lines ≡ lines_from front bytes

-- all lines of the source
abbrev pub AreAll : (source : Option (List ℕ)) → List (List ℕ) → Type 0
AreAll source lines = (bytes : List ℕ) → source ≡ Some bytes → lines ≡ lines_from [] bytes

-- a line was answered, for which this was read
pub record IsLineAnswered (path : List ℕ) (file : Option File) (old new : Standing)
    (read_before read_after : Option (List FileReading)) (said : List ℕ) : Type 0 where
  pub read : List FileReading
  pub answer : IsLineAnswer path old new file read said
  pub reads : AreReadBetween read_before read_after read

-- some files were begun, for which these were read, and what is told of them stands behind what was
pub record HasBegunFiles (files : List FilePath) (old new : Standing)
    (read_before read_after : Option (List FileReading)) (told : List ℕ) : Type 0 where
  pub read : List FileReading
  pub begun : AreFilesBegun files old new read told
  pub reads : AreReadBetween read_before read_after read

-- one file more was
abbrev pub BeginsFile : FilePath → (old new : Standing)
    → (read_before read_after : Option (List FileReading)) → (before after : List ℕ) → Type 0
BeginsFile file old new read_before read_after before after =
    (text : Vec ℕ Global)
    × AreReadBetween read_before read_after (record { path = file.path; version = Text text } ∷ [])
    × (accepted : Bool) × IsTextNoted file.file file.path text.items old new before after accepted

-- a run was begun, for which these were read
pub record HasBegunRun (models tests lasts : List (List ℕ)) (new : Standing)
    (read_before read_after : Option (List FileReading)) (said : List ℕ) : Type 0 where
  pub read : List FileReading
  pub begun : IsRunStart models tests lasts new read said
  pub reads : AreReadBetween read_before read_after read
