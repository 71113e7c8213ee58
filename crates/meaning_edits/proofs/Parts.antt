-- The numbers that the text of a part of a test means have 32 bits.
use Rattle.std.proofs.Common.{ℕ, List, [], ◌∷◌, All, subst}
use Rattle.std.proofs.lemmas.List.Elements.{All-from_recursion}
use Rattle.text_values.specs.declared.test.InitEntry.{InitEntry}
use Rattle.text_values.specs.declared.test.Quantifier.{Quantifier}
use Rattle.text_values.specs.declared.test.Step.{Step}
use Rattle.text_values.specs.TestValue.{Formula}
use Rattle.litmus_table.specs.Grammar.{thread_meaning}
use Rattle.litmus_grammar.specs.Grammar.{members}
use Rattle.litmus_grammar.specs.Texts.{ReadsInit, ReadsThread, ReadsCondition}
use Rattle.meaning_laws.specs.Words.{IsWrittenWord, IsStepOfWords, IsFormulaOfWords}
use Rattle.meaning_texts.proofs.Reading.{entries_fit, cells_fit, formula_fits}

abbrev pub AreEntriesOfWords : List InitEntry → Type 0
AreEntriesOfWords es = All (λ e. IsWrittenWord e.value) es

pub init_of_words : (threads : ℕ) (text : List ℕ) (v : List InitEntry) → ReadsInit threads text v
    → AreEntriesOfWords v
init_of_words threads text v read =
    subst AreEntriesOfWords read.meant
    (entries_fit [] (members read.text.entries) read.text.fine)

pub thread_of_words : (text : List ℕ) (v : List Step) → ReadsThread text v → All IsStepOfWords v
thread_of_words text v read =
    subst (λ (steps : List Step). All IsStepOfWords steps) read.meant
    (All-from_recursion IsStepOfWords (thread_meaning read.text.tree)
    (cells_fit (read.text.tree.first ∷ read.text.tree.others) read.text.fine))

pub condition_of_words : (threads : ℕ) (text : List ℕ) (v : Quantifier × Formula)
    → ReadsCondition threads text v → IsFormulaOfWords v.1
condition_of_words threads text v read =
    subst (λ (q : Quantifier × Formula). IsFormulaOfWords q.1) read.meant
    (formula_fits threads read.text.condition read.text.fine.atoms)
