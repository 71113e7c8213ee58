-- The tests of a history write numbers of 32 bits.
use Rattle.std.proofs.Common.{List, [], ◌∷◌, All, map, subst}
use Rattle.std.specs.Prelude.{false, fold}
use Rattle.std.specs.List.{AllByRecursion}
use Rattle.std.proofs.lemmas.List.Elements.{All-nil, All-from_recursion, recursion_from_All}
use Rattle.text_values.specs.declared.test.Test.{Test}
use Rattle.text_values.specs.TestValue.{Content, content_of}
use Rattle.bench_texts.specs.BenchTexts.{BenchTexts, no_texts}
use Rattle.bench_texts.specs.Replacements.{texts_with}
use Rattle.board.specs.declared.operation.BoardOp.{BoardOp}
use Rattle.board.specs.declared.operation.BoardOp.TheVariants.{Edit, Settle}
use Rattle.board.specs.Histories.{contents_with, IsMadeOn, AreMadeFrom}
use Rattle.board.specs.Legal.{texts_after}
use Rattle.board.proofs.Histories.{contents_are_those}
use Rattle.meaning_laws.specs.Words.{IsTestOfWords}
use Rattle.meaning_outcomes.specs.Outcomes.{FromScratchIsMeant, TestsOfWordsAreMeant}
use Rattle.meaning_edits.specs.Boards.{BoardsAreMeant}
use Rattle.meaning_edits.specs.Edits.{AreTextsOfWords, HistoriesAreOfWords, TestsAreMeantAfter, HistoriesAreMeant}
use Rattle.meaning_edits.proofs.Edited.{keeps_words}

step_words : (t : BenchTexts) (op : BoardOp) → AreTextsOfWords t → IsMadeOn t op
    → AreTextsOfWords (contents_with t op)
step_words t (Edit edit) words (e, of) =
    keeps_words t (texts_with edit.prepared.value.replacement t) false e words of.applies
step_words t (Settle at outcome) words made = words

words_from : (t : BenchTexts) (ops : List BoardOp) → AreTextsOfWords t → AreMadeFrom t ops
    → AreTextsOfWords (fold contents_with t ops)
words_from t [] words made = words
words_from t (op ∷ ops) words made =
    words_from (contents_with t op) ops (step_words t op words made.0) made.1

each_unmapped : (ts : List Test) → AllByRecursion IsTestOfWords (map content_of ts)
    → AllByRecursion (λ t. IsTestOfWords (content_of t)) ts
each_unmapped [] all = tt
each_unmapped (t ∷ ts) all = (all.0, each_unmapped ts all.1)

pub histories_of_words : HistoriesAreOfWords
histories_of_words ops made =
    let words = words_from no_texts ops (All-nil IsTestOfWords) made in
    let tests : List Test = (texts_after ops).tests in
    let mapped = subst (λ (cs : List Content). All IsTestOfWords cs) (contents_are_those ops).tests words in
    All-from_recursion (λ (t : Test). IsTestOfWords (content_of t)) tests
    (each_unmapped tests (recursion_from_All IsTestOfWords (map content_of tests) mapped))

each_meant : TestsOfWordsAreMeant → (ts : List Test)
    → AllByRecursion (λ t. IsTestOfWords (content_of t)) ts → AllByRecursion FromScratchIsMeant ts
each_meant laws [] all = tt
each_meant laws (t ∷ ts) all = (laws t all.0, each_meant laws ts all.1)

pub tests_meant : TestsOfWordsAreMeant → TestsAreMeantAfter
tests_meant laws ops made =
    let tests : List Test = (texts_after ops).tests in
    All-from_recursion FromScratchIsMeant tests
    (each_meant laws tests
    (recursion_from_All (λ (t : Test). IsTestOfWords (content_of t)) tests
    (histories_of_words ops made)))

pub histories_meant : BoardsAreMeant → HistoriesAreMeant
histories_meant boards ops made right = boards ops (histories_of_words ops made) right
