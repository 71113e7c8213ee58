use Rattle.std.proofs.Common.{List, ℕ, Option, ◌∙◌, ap, subst, sym}
use Rattle.std.specs.Prelude.{slice_get, Vec}
use Rattle.std.specs.declared.alloc.Global.{Global}
use Rattle.litmus_grammar.specs.Texts.{ReadsTest}
use Rattle.bench_texts.specs.BenchTexts.{BenchTexts}
use Rattle.session_answers.specs.Cells.{test_named}
use Rattle.watch_run.proofs.Changing.{full_of_none}
use Rattle.watch_run.proofs.Edited.{test_edited_so, test_unedited}
use Rattle.watch_run.proofs.watched.Watched.take_test.Goals as goal

pub hold_test-requires-clause-only : goal.hold_test-requires-clause-only
hold_test-requires-clause-only g c =
    λ d reads. c.in-Ok.ensures.only d (subst (λ (l : List ℕ). ReadsTest l d)
    (sym c.deref-2.ensures.value) reads)

pub returns-in-Err-Refused-clause-full : goal.returns-in-Err-Refused-clause-full
returns-in-Err-Refused-clause-full g c =
    full_of_none c.args.index c.args.text.items c.args.self.now.names.items c.unread.result (λ test reads.
    rw c.in-Err-Refused.field-0-is at c.in-Err-Refused.ensures.only test
    (subst (λ (l : List ℕ). ReadsTest l test) (sym c.deref-2.ensures.value) reads))

pub returns-clause-kept : goal.returns-clause-kept
returns-clause-kept g c = λ held.
    let taken = c.in_ok-hold_test.ensures.kept (
      held.0,
      held.1,
      ap (λ (v : Vec (Option (List ℕ)) Global). slice_get v.items c.args.index)
          c.refusal.ensures.names
          ∙ held.2,
      ap (λ (t : BenchTexts). test_named t held.0.name) c.refusal.ensures.texts ∙ held.3,
    ) in
    record {
      texts = taken.texts ∙ c.refusal.ensures.texts;
      counted = taken.counted ∙ ap g.A.Author.counts c.refusal.ensures.author;
    }

pub returns-in-Err-Refused-clause-edits : goal.returns-in-Err-Refused-clause-edits
returns-in-Err-Refused-clause-edits g c =
    test_unedited c.args.index c.args.text.items _ _ _ _ c.unread.result
    (ap g.A.Author.counts c.refusal.ensures.author) c.unread.ensures.some

pub returns-clause-edits : goal.returns-clause-edits
returns-clause-edits g c =
    test_edited_so c.args.index c.args.text.items _ _ _ _ _ _ _ _ c.refusal.ensures.texts
    c.refusal.ensures.names (ap g.A.Author.counts c.refusal.ensures.author)
    c.in_ok-hold_test.ensures.edits
