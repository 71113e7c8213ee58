-- Laws of what is said of a model's text and a test's text, and of files of models and of tests,
-- each the contract of a call of this crate. Read `Answer`, `Cut`, `Reports`, `Told`, `Whys` and
-- `Pictures` of litmusbench first. Want of memory and a failed read are no answers: of them these
-- laws say nothing.
use Rattle.std.specs.Prelude.{◌≡◌, ℕ, List, ◌++◌, map, Bool, true, Option, Some, Result, Ok, Err}
use Rattle.command_line.specs.declared.fault.SessionFault.{SessionFault}
use Rattle.command_line.specs.declared.fault.SessionFault.TheVariants as session_faults
use Rattle.command_answers.specs.declared.fault.EvalFault.{EvalFault}
use Rattle.command_answers.specs.declared.fault.EvalFault.TheVariants as eval_faults
use Rattle.command_answers.specs.declared.file.TextFile.{TextFile}
use Rattle.command_answers.specs.Answer.{IsEvalLog, IsEvalRefusal, IsEvalAnswer}

-- ---- a model's text and a test's text

-- two answers to the two texts are one: the bytes, and whether a text is refused
abbrev pub HasOneAnswer : (model test : List ℕ) → Type 0
HasOneAnswer model test =
    (text other : List ℕ) (refused also : Bool)
    → IsEvalAnswer model test text refused → IsEvalAnswer model test other also
    → (text ≡ other) × (refused ≡ also)

-- what evaluating the two texts gives where memory is not wanting: the log, or the rule and the
-- offset of the first text that is refused
abbrev pub IsEvalResult : (model test : List ℕ) → Result (List ℕ) EvalFault → Type 0
IsEvalResult model test (Ok log) = IsEvalLog model test log
IsEvalResult model test (Err (eval_faults.Model fault)) =
    IsEvalRefusal model test (eval_faults.Model fault)
IsEvalResult model test (Err (eval_faults.Test fault)) =
    IsEvalRefusal model test (eval_faults.Test fault)
IsEvalResult model test (Err (eval_faults.Memory e)) = ⊥

-- evaluating the two texts gives one of these
abbrev pub HasOneEvaluation : (model test : List ℕ) → Type 0
HasOneEvaluation model test =
    (given other : Result (List ℕ) EvalFault)
    → IsEvalResult model test given → IsEvalResult model test other → given ≡ other

-- two answers both refuse a text or both do not, and where they do they are one
abbrev pub HasOneRefusalLine : (List ℕ → Bool → Type 0) → Type 0
HasOneRefusalLine is_said =
    (text other : List ℕ) (refused also : Bool) → is_said text refused → is_said other also
    → (refused ≡ also) × (refused ≡ true → text ≡ other)

-- ---- what is written

-- answers that are written in full leave the same bytes, and refuse a text or do not alike
abbrev pub LeaveOne : (Option (List ℕ) → Result Bool SessionFault → Type 0) → Type 0
LeaveOne is_left =
    (new other : Option (List ℕ)) (refused also : Bool)
    → is_left new (Ok refused) → is_left other (Ok also) → (new ≡ other) × (refused ≡ also)

-- an answer whose write failed leaves a prefix of what an answer that is written in full leaves
abbrev pub LeavePrefixes : (Option (List ℕ) → Result Bool SessionFault → Type 0) → Type 0
LeavePrefixes is_left =
    (new other : Option (List ℕ)) (refused : Bool)
    → is_left new (Err session_faults.Write) → is_left other (Ok refused)
    → (prefix rest : List ℕ) × (new ≡ Some prefix) × (other ≡ Some (prefix ++ rest))

-- ---- files

-- the path of a file and its bytes
abbrev pub path_and_text : TextFile → List ℕ × List ℕ
path_and_text file = (file.path.now, file.text.items)

-- files with the same paths and the same bytes, in the same order
abbrev pub AreSameFiles : (files others : List TextFile) → Type 0
AreSameFiles files others = map path_and_text files ≡ map path_and_text others

-- two reports of the same models and tests are one, and so are the lines of the files that are
-- refused
abbrev pub HasOneReport : (List TextFile → List TextFile → List ℕ → List ℕ → Type 0) → Type 0
HasOneReport is_report =
    (models same_models tests same_tests : List TextFile) (text other faults lines : List ℕ)
    → AreSameFiles models same_models → AreSameFiles tests same_tests
    → is_report models tests text faults → is_report same_models same_tests other lines
    → (text ≡ other) × (faults ≡ lines)

-- what is told of a file depends on its path and its bytes alone
abbrev pub HasOneTelling : (TextFile → List ℕ → Type 0) → Type 0
HasOneTelling is_told =
    (file other : TextFile) (lines more : List ℕ) → path_and_text file ≡ path_and_text other
    → is_told file lines → is_told other more → lines ≡ more

-- what is told of a model and a test depends on their paths and their bytes alone
abbrev pub HasOneTellingOfBoth : (TextFile → TextFile → List ℕ → Type 0) → Type 0
HasOneTellingOfBoth is_told =
    (model same_model test same_test : TextFile) (lines more : List ℕ)
    → path_and_text model ≡ path_and_text same_model → path_and_text test ≡ path_and_text same_test
    → is_told model test lines → is_told same_model same_test more → lines ≡ more
