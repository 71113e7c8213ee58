-- What bytes mean: the text of a test, or of a part of one.
use Rattle.std.specs.Prelude.{◌≡◌, ℕ, ◌+◌, ◌<◌, ◌≤◌, List, [], ◌∷◌, ◌++◌, map, length, Bool, true, false, nat_lt, Option, Some, None, if◌then◌else◌}
use Rattle.litmus_tokens.specs.declared.rule.LitmusRule.{LitmusRule}
use Rattle.litmus_tokens.specs.declared.rule.LitmusRule.TheVariants as rules
use Rattle.litmus_tokens.specs.declared.stage.Stage.{Stage}
use Rattle.litmus_tokens.specs.declared.stage.Stage.TheVariants.{Magic, Init, CellBegins, Tail}
use Rattle.litmus_tokens.specs.declared.token.Token.{Token}
use Rattle.litmus_tokens.specs.declared.token.Token.TheVariants as tokens
use Rattle.litmus_tokens.specs.declared.token.Mark.TheVariants.{OpenBrace, OpenBracket, Colon, Semicolon}
use Rattle.litmus_tokens.specs.Words.{decimal}
use Rattle.litmus_tokens.specs.Texts.{test_tokens_of, stage_after, test_lexing, StandsAt}
use Rattle.litmus_tokens.specs.Faults.{CanFollow, IsFault}
use Rattle.text_values.specs.declared.test.Place.{Place}
use Rattle.text_values.specs.declared.test.InitEntry.{InitEntry}
use Rattle.text_values.specs.declared.test.Step.{Step}
use Rattle.text_values.specs.declared.test.Quantifier.{Quantifier}
use Rattle.text_values.specs.TestValue.{Content, Formula}
use Rattle.litmus_tokens.specs.Conditions.{PlaceTree, Location, Register, condition_limits, place_meaning, tree_formula, IsConditionText}
use Rattle.litmus_table.specs.Grammar.{spelled_header, thread_meaning}
use Rattle.litmus_table.specs.Late.{Late, or_else, late_notes, late_columns, thread_notes}
use Rattle.litmus_grammar.specs.Grammar.{EntryTree, spelled_entry, spelled_init, spelled_head, members, entry_meaning, TestTree, test_meaning, IsTestText, IsInitText, IsThreadText, IsLocationsText}
use Rattle.text_values.specs.Layout.{most_bytes}

-- ---- what the later checks find in a text that is one

-- an entry for a thread that is not there
abbrev pub names_thread : ℕ → PlaceTree → Bool
names_thread threads (Location b n) = true
names_thread threads (Register t r) = nat_lt (decimal t) threads

abbrev pub late_entries : ℕ → List Token → List EntryTree → Option Late
late_entries threads before [] = None
late_entries threads before (e ∷ es) =
    if names_thread threads e.place
    then late_entries threads (before ++ spelled_entry e (tokens.Mark Semicolon ∷ [])) es
    else Some (record { rule = rules.Init; before = before })

abbrev pub before_entries : TestTree → List Token
before_entries t = spelled_head t (tokens.Mark OpenBrace ∷ [])

abbrev pub before_rows : TestTree → List Token
before_rows t = spelled_head t (spelled_init t.init (spelled_header t.others []))

-- a missing thread, then thread by thread
abbrev pub late_test : TestTree → Option Late
late_test t =
    or_else (late_entries (t.others + 1) (before_entries t) (members t.init))
    (late_columns 0 (t.others + 1) (before_rows t) t.rows)

abbrev pub late_of_test : (ts : List Token) → IsTestText condition_limits ts → Option Late
late_of_test ts t = late_test t.tree

abbrev pub late_of_init : ℕ → (ts : List Token) → IsInitText ts → Option Late
late_of_init threads ts t = late_entries threads (tokens.Mark OpenBrace ∷ []) (members t.entries)

-- Where the fault of an init block is looked for, its text may break off behind the number of a
-- thread, or its colon, which stand where an entry may begin: so a register that repeats is at
-- fault itself, also where each register of its thread was named.
abbrev pub spelled_colon : Bool → List Token
spelled_colon true = tokens.Mark Colon ∷ []
spelled_colon false = []

abbrev pub is_init : Stage → Bool
is_init (Init alone after_word) = true
is_init s = false

pub record IsBrokenOff (IsText : List Token → Type 0) (start : Stage) (ts : List Token)
    : Type 0 where
  pub before : List Token
  pub in_init : is_init (stage_after start before) ≡ true
  pub entry : CanFollow IsText before (tokens.Mark OpenBracket)
  pub thread : List ℕ
  pub colon : Bool
  pub whole : ts ≡ before ++ tokens.Number false thread ∷ spelled_colon colon

pub data IsStart (IsText : List Token → Type 0) (start : Stage) (ts : List Token) : Type 0 where
  IsWhole : IsText ts → IsStart IsText start ts
  BreaksOff : IsBrokenOff IsText start ts → IsStart IsText start ts

abbrev pub late_of_start : {IsText : List Token → Type 0} {start : Stage}
    → ((ts : List Token) → IsText ts → Option Late) → (ts : List Token) → IsStart IsText start ts
    → Option Late
late_of_start late ts (IsWhole t) = late ts t
late_of_start late ts (BreaksOff b) = None

abbrev pub late_of_thread : (ts : List Token) → IsThreadText ts → Option Late
late_of_thread ts t = late_notes [] (thread_notes [] (t.tree.first ∷ t.tree.others))

-- ---- reading

-- these bytes are a text, read from this part on, that the later checks pass and that has this
-- value
pub record ReadsText {V : Type 0} (IsText : List Token → Type 0) (start : Stage)
    (late : (ts : List Token) → IsText ts → Option Late) (value : (ts : List Token) → IsText ts → V)
    (bytes : List ℕ) (v : V) : Type 0 where
  pub short : length bytes ≤ most_bytes
  pub text : IsText (test_tokens_of (test_lexing start bytes))
  pub in_time : late (test_tokens_of (test_lexing start bytes)) text ≡ None
  pub meant : value (test_tokens_of (test_lexing start bytes)) text ≡ v

pub record IsLateFault (IsText : List Token → Type 0) (start : Stage)
    (late : (ts : List Token) → IsText ts → Option Late) (bytes : List ℕ) (rule : LitmusRule)
    (offset : ℕ) : Type 0 where
  pub text : IsText (test_tokens_of (test_lexing start bytes))
  pub found : Late
  pub is_found : late (test_tokens_of (test_lexing start bytes)) text ≡ Some found
  pub rule_is : found.rule ≡ rule
  pub stands : StandsAt (test_lexing start bytes) found.before offset

-- the fault of bytes: too long, else at the first token that no text could have there, else the
-- first of the later checks
pub data IsFaultAt (IsText : List Token → Type 0) (start : Stage)
    (late : (ts : List Token) → IsText ts → Option Late)
    (bytes : List ℕ) (rule : LitmusRule) (offset : ℕ) : Type 0 where
  IsTooLong : most_bytes < length bytes → rule ≡ rules.TooLong → offset ≡ most_bytes
      → IsFaultAt IsText start late bytes rule offset
  IsGrammar : length bytes ≤ most_bytes → IsFault IsText start (test_lexing start bytes) rule offset
      → IsFaultAt IsText start late bytes rule offset
  IsLater : length bytes ≤ most_bytes → IsLateFault IsText start late bytes rule offset
      → IsFaultAt IsText start late bytes rule offset

-- ---- the five readers

abbrev pub ReadsTest : List ℕ → Content → Type 0
ReadsTest bytes v =
    ReadsText (IsTestText condition_limits) Magic late_of_test (λ ts t. test_meaning t.tree) bytes v

abbrev pub IsTestFault : List ℕ → LitmusRule → ℕ → Type 0
IsTestFault bytes rule offset =
    IsFaultAt (IsStart (IsTestText condition_limits) Magic) Magic (late_of_start late_of_test) bytes rule
    offset

abbrev pub ReadsInit : ℕ → List ℕ → List InitEntry → Type 0
ReadsInit threads bytes v =
    ReadsText IsInitText (Init true false) (late_of_init threads)
    (λ ts t. map entry_meaning (members t.entries)) bytes v

abbrev pub IsInitFault : ℕ → List ℕ → LitmusRule → ℕ → Type 0
IsInitFault threads bytes rule offset =
    IsFaultAt (IsStart IsInitText (Init true false)) (Init true false)
    (late_of_start (late_of_init threads)) bytes rule offset

abbrev pub ReadsThread : List ℕ → List Step → Type 0
ReadsThread bytes v =
    ReadsText IsThreadText CellBegins late_of_thread (λ ts t. thread_meaning t.tree) bytes v

abbrev pub IsThreadFault : List ℕ → LitmusRule → ℕ → Type 0
IsThreadFault bytes rule offset = IsFaultAt IsThreadText CellBegins late_of_thread bytes rule offset

abbrev pub ReadsCondition : ℕ → List ℕ → Quantifier × Formula → Type 0
ReadsCondition threads bytes v =
    ReadsText (IsConditionText condition_limits threads) Tail (λ ts t. None)
    (λ ts t. (t.quantifier, tree_formula t.condition)) bytes v

abbrev pub IsConditionFault : ℕ → List ℕ → LitmusRule → ℕ → Type 0
IsConditionFault threads bytes rule offset =
    IsFaultAt (IsConditionText condition_limits threads) Tail (λ ts t. None) bytes rule offset

abbrev pub ReadsLocations : ℕ → List ℕ → List Place → Type 0
ReadsLocations threads bytes v =
    ReadsText (IsLocationsText threads) Tail (λ ts t. None)
    (λ ts t. map place_meaning (members t.items)) bytes v

abbrev pub IsLocationsFault : ℕ → List ℕ → LitmusRule → ℕ → Type 0
IsLocationsFault threads bytes rule offset =
    IsFaultAt (IsLocationsText threads) Tail (λ ts t. None) bytes rule offset
