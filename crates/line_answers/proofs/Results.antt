-- Results and their lines, one behind another.
use Rattle.std.proofs.Common.{◌≡◌, ℕ, ◌+◌, ◌<◌, Bool, true, false, cond, List, [], ◌∷◌, ◌++◌, length, get_or, take, map, Bor, Result, refl, sym, ap, ◌∙◌, subst, append_assoc, arith}
use Rattle.std.proofs.lemmas.List.{take_more, append-nil, map-append}
use Rattle.std.proofs.lemmas.List.Concat.{flat_map-append}
use Rattle.std.specs.Prelude.{◌==◌}
use Rattle.std.specs.List.{AllZip, flat_map}
use Rattle.litmus_tokens.specs.declared.rule.LitmusRule.{LitmusRule}
use Rattle.litmus_tokens.specs.Numbers.{number_of as test_rule_number}
use Rattle.text_values.specs.declared.test.Test.{Test}
use Rattle.text_values.specs.declared.model.ModelText.{ModelText}
use Rattle.outcome_states.specs.declared.answer.Outcome.{Outcome}
use Rattle.from_scratch.specs.FromScratch.{IsFromScratch}
use Rattle.from_scratch.specs.Suites.{AreOutcomes, AreResolvedAs}
use Rattle.binding_kinds.specs.declared.fault.ModelFault.{ModelFault}
use Rattle.binding_graph.specs.declared.resolved.Resolved.{Resolved}
use Rattle.session_answers.proofs.Named.{first_is, rest_is, no_first}
use Rattle.outcome_lines.specs.Records.{TextRefusal, ModelOutcome, TestResult, Refused, Tested}
use Rattle.outcome_lines.specs.Tab.{tab_test_lines, tab_pair_lines}
use Rattle.outcome_lines.specs.Json.{json_test_lines, json_pair_lines}
use Rattle.command_answers.specs.declared.file.TextFile.{TextFile}
use Rattle.command_answers.specs.declared.reading.NamedModel.{NamedModel}
use Rattle.command_answers.specs.declared.report.Report.{Report}
use Rattle.line_answers.specs.declared.report.Lines.{Lines}
use Rattle.line_answers.specs.declared.report.Lines.TheVariants as kinds
use Rattle.line_answers.specs.Results.{rule_text, refused_file, IsOutcomeUnder, FileResult, IsFileResult}
use Rattle.line_answers.specs.Reports.{lines_of, lines_said}
use Rattle.line_answers.specs.Added.{named_outcomes, AreJudges, AddsResult, AddsResults}

-- outcomes under the texts of models are outcomes under the models
pub outcomes_under : (test : Test) (models : List NamedModel) (texts : List (Bor ModelText))
    (outcomes : List Outcome) → map (λ t. t.now) texts ≡ map (λ m. m.model) models
    → AreOutcomes texts test outcomes
    → AllZip (IsOutcomeUnder test) models (named_outcomes models outcomes)
outcomes_under test [] texts outcomes e h = tt
outcomes_under test (m ∷ ms) [] outcomes e h =
    absurd (no_first m.model (map (λ m. m.model) ms) (sym e))
outcomes_under test (m ∷ ms) (t ∷ ts) [] e h = absurd h
outcomes_under test (m ∷ ms) (t ∷ ts) (o ∷ os) e h =
    let first = first_is t.now m.model (map (λ t. t.now) ts) (map (λ m. m.model) ms) e in
    let rest = rest_is t.now m.model (map (λ t. t.now) ts) (map (λ m. m.model) ms) e in (
      record {
        name = refl;
        outcome = subst (λ (l : ModelText). IsFromScratch test l o) first h.0;
      },
      outcomes_under test ms ts os rest h.1,
    )

pub as_many : (test : Test) (models : List NamedModel) (texts : List (Bor ModelText))
    (outcomes : List Outcome) → map (λ t. t.now) texts ≡ map (λ m. m.model) models
    → AreOutcomes texts test outcomes → length models ≡ length outcomes
as_many test [] [] [] e h = refl
as_many test [] [] (o ∷ os) e h = absurd h
as_many test [] (t ∷ ts) outcomes e h = absurd (no_first t.now (map (λ t. t.now) ts) e)
as_many test (m ∷ ms) [] outcomes e h =
    absurd (no_first m.model (map (λ m. m.model) ms) (sym e))
as_many test (m ∷ ms) (t ∷ ts) [] e h = absurd h
as_many test (m ∷ ms) (t ∷ ts) (o ∷ os) e h =
    let rest = rest_is t.now m.model (map (λ t. t.now) ts) (map (λ m. m.model) ms) e in
    let more : length ms ≡ length os = as_many test ms ts os rest h.1 in
    omega (arith, more)

-- ---- lines

pub no_lines : (lines : Lines) → lines_of lines [] ≡ []
no_lines kinds.TableTab = refl
no_lines kinds.TableJson = refl
no_lines kinds.DifferenceTab = refl
no_lines kinds.DifferenceJson = refl

pub lines_behind : (lines : Lines) (a b : List TestResult)
    → lines_of lines (a ++ b) ≡ lines_of lines a ++ lines_of lines b
lines_behind kinds.TableTab a b = flat_map-append tab_test_lines a b
lines_behind kinds.TableJson a b = flat_map-append json_test_lines a b
lines_behind kinds.DifferenceTab a b = flat_map-append tab_pair_lines a b
lines_behind kinds.DifferenceJson a b = flat_map-append json_pair_lines a b

either_behind : (b : Bool) (x y : List ℕ) → cond b (x ++ y) [] ≡ cond b x [] ++ cond b y []
either_behind true x y = refl
either_behind false x y = refl

pub said_behind : (lines : Lines) (models : List NamedModel) (x y : List ℕ)
    → lines_said lines models (x ++ y) ≡ lines_said lines models x ++ lines_said lines models y
said_behind kinds.TableTab models x y = refl
said_behind kinds.TableJson models x y = refl
said_behind kinds.DifferenceTab models x y = either_behind (length models == 2) x y
said_behind kinds.DifferenceJson models x y = either_behind (length models == 2) x y

-- the line of a refused file
pub refused_text : (lines : Lines) (old new : List ℕ) (file : TextFile) (rule : LitmusRule)
    (word : List ℕ) (number offset : ℕ) (given : TextRefusal)
    → given ≡ refused_file file word offset → word ≡ rule_text 76 number
    → number ≡ test_rule_number rule → new ≡ old ++ lines_of lines (Refused given ∷ [])
    → new ≡ old
    ++ lines_of lines (Refused (refused_file file (rule_text 76 (test_rule_number rule)) offset)
    ∷ [])
refused_text lines old new file rule word number offset given g w n e =
    e ∙ ap (λ (t : TextRefusal). old ++ lines_of lines (Refused t ∷ []))
    (g ∙ ap (λ (l : List ℕ). refused_file file l offset)
    (w ∙ ap (λ (k : ℕ). rule_text 76 k) n))

-- the lines of a test
pub tested_text : (lines : Lines) (old new path p name n : List ℕ)
    (outcomes shown : List ModelOutcome) → p ≡ path → n ≡ name → shown ≡ outcomes
    → new ≡ old ++ lines_of lines (Tested p n shown ∷ [])
    → new ≡ old ++ lines_of lines (Tested path name outcomes ∷ [])
tested_text lines old new path p name n outcomes shown q r s e =
    e ∙ ap (λ (x : List ℕ). old ++ lines_of lines (Tested x n shown ∷ [])) q
    ∙ ap (λ (x : List ℕ). old ++ lines_of lines (Tested path x shown ∷ [])) r
    ∙ ap (λ (x : List ModelOutcome). old ++ lines_of lines (Tested path name x ∷ [])) s

-- ---- files

pub results_append : (models : List NamedModel) (files more : List TextFile)
    (rs ss : List FileResult) → AllZip (IsFileResult models) files rs
    → AllZip (IsFileResult models) more ss
    → AllZip (IsFileResult models) (files ++ more) (rs ++ ss)
results_append models [] more [] ss h k = k
results_append models [] more (r ∷ rs) ss h k = absurd h
results_append models (f ∷ fs) more [] ss h k = absurd h
results_append models (f ∷ fs) more (r ∷ rs) ss h k =
    (h.0, results_append models fs more rs ss h.1 k)

pub results_text : (lines : Lines) (old mid new : List ℕ) (rs ss : List FileResult)
    → mid ≡ old ++ lines_of lines (map (λ r. r.result) rs)
    → new ≡ mid ++ lines_of lines (map (λ r. r.result) ss)
    → new ≡ old ++ lines_of lines (map (λ r. r.result) (rs ++ ss))
results_text lines old mid new rs ss p q =
    q ∙ ap (λ (l : List ℕ). l ++ lines_of lines (map (λ r. r.result) ss)) p
    ∙ append_assoc old (lines_of lines (map (λ r. r.result) rs))
    (lines_of lines (map (λ r. r.result) ss))
    ∙ ap (λ (l : List ℕ). old ++ l)
    (sym (lines_behind lines (map (λ r. r.result) rs) (map (λ r. r.result) ss)))
    ∙ ap (λ (l : List TestResult). old ++ lines_of lines l)
    (sym (map-append (λ (r : FileResult). r.result) rs ss))

pub results_told : (old mid new : List ℕ) (rs ss : List FileResult)
    → mid ≡ old ++ flat_map (λ r. r.told) rs → new ≡ mid ++ flat_map (λ r. r.told) ss
    → new ≡ old ++ flat_map (λ r. r.told) (rs ++ ss)
results_told old mid new rs ss p q =
    q ∙ ap (λ (l : List ℕ). l ++ flat_map (λ r. r.told) ss) p
    ∙ append_assoc old (flat_map (λ r. r.told) rs) (flat_map (λ r. r.told) ss)
    ∙ ap (λ (l : List ℕ). old ++ l) (sym (flat_map-append (λ (r : FileResult). r.told) rs ss))

pub nothing_added : (lines : Lines) (models : List NamedModel) (report : Report)
    → AddsResults lines models [] report report
nothing_added lines models report = record {
  given = [];
  given_are = tt;
  text = sym (ap (λ (l : List ℕ). report.text.items ++ l) (no_lines lines)
      ∙ append-nil report.text.items);
  faults = sym (append-nil report.faults.items);
}

pub one_more : (lines : Lines) (models : List NamedModel) (files : List TextFile) (i : ℕ)
    (file : TextFile) (old mid new : Report) → i < length files → file ≡ get_or files i file
    → AddsResults lines models (take i files) old mid → AddsResult lines models file mid new
    → AddsResults lines models (take (i + 1) files) old new
one_more lines models files i file old mid new inside at_i before adds =
    let cut : take (i + 1) files ≡ take i files ++ file ∷ [] = take_more files i file inside ∙ ap (λ (f : TextFile). take i files ++ f ∷ []) (sym at_i) in
    subst (λ (l : List TextFile). AddsResults lines models l old new) (sym cut) (record {
      given = before.given ++ adds.given ∷ [];
      given_are = results_append models (take i files) (file ∷ []) before.given (adds.given ∷ [])
          before.given_are (adds.given_is, tt);
      text = results_text lines old.text.items mid.text.items new.text.items before.given
          (adds.given ∷ []) before.text adds.text;
      faults = results_told old.faults.items mid.faults.items new.faults.items before.given
          (adds.given ∷ []) before.faults
          (adds.faults
          ∙ ap (λ (l : List ℕ). mid.faults.items ++ l) (sym (append-nil adds.given.told)));
    })

-- ---- models

pub judges_are : (models given held : List NamedModel) (texts shown : List (Bor ModelText))
    (resolved listed : List (Result Resolved ModelFault)) → given ≡ models → held ≡ models
    → shown ≡ texts → listed ≡ resolved → map (λ t. t.now) texts ≡ map (λ m. m.model) given
    → AreResolvedAs shown resolved → AreJudges held listed
judges_are models given held texts shown resolved listed g h t l same are = record {
  texts = shown;
  same = ap (λ (ts : List (Bor ModelText)). map (λ t. t.now) ts) t ∙ same
      ∙ ap (λ (ms : List NamedModel). map (λ m. m.model) ms) (g ∙ sym h);
  resolved_are = subst (λ (rs : List (Result Resolved ModelFault)). AreResolvedAs shown rs) (sym l)
      are;
}
