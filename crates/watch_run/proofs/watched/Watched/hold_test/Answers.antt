use Rattle.std.proofs.Common.{◌≡◌, List, ℕ, Option, Some, None, ◌∙◌, ap, subst, sym, rules}
use Rattle.std.specs.Prelude.{Vec}
use Rattle.std.specs.declared.alloc.Global.{Global}
use Rattle.text_values.specs.TestValue.{Content, content_of}
use Rattle.bench_texts.specs.BenchTexts.{BenchTexts}
use Rattle.bench_texts.specs.Held.{texts_of}
use Rattle.watch_run.specs.Edits.{holding_of}
use Rattle.watch_run.specs.Holding.{IsTestTaken}
use Rattle.session_answers.specs.Cells.{test_named}
use Rattle.watch_run.specs.Counts.{HasEditsFor}
use Rattle.watch_run.specs.Edited.{IsTestEdited}
use Rattle.watch_run.proofs.Changing.{stays_held}
use Rattle.watch_run.proofs.Edited.{test_edited}
use Rattle.watch_run.proofs.Taking.{test_taken}
use Rattle.watch_run.proofs.watched.Watched.hold_test.Goals as goal

pub returns-clause-taken : goal.returns-clause-taken
returns-clause-taken g c =
    let old = holding_of c.args.self.now.texts c.args.self.now.names in
    let kept = c.in_ok-put_test.ensures.names ∙ c.in_ok-drop_unheld.ensures.names in
    subst
    (λ (v : Vec (Option (List ℕ)) Global).
    IsTestTaken c.args.index c.args.text.items old (holding_of c.put_test.new.self.texts v))
    (sym kept)
    (test_taken c.args.index c.args.text.items c.in_ok-name.name old c.put_name-old.result
    c.put_name-old.new.names.items
    (texts_of c.drop_unheld.new.self.texts) (texts_of c.put_test.new.self.texts)
    (content_of c.args.new.now)
    c.requires.reads (search rules) c.put_name-old.ensures.names c.put_name-old.ensures.old
    c.in_ok-drop_unheld.ensures.tests c.in_ok-drop_unheld.ensures.models
    c.in_ok-put_test.ensures.tests c.in_ok-put_test.ensures.models)

pub returns-clause-kept : goal.returns-clause-kept
returns-clause-kept g c = λ held.
    let same : content_of c.args.new.now ≡ held.0 = c.requires.only held.0 held.1 in
    let named : held.0.name ≡ c.in_ok-name.name = ap (λ (d : Content). d.name) (sym same) ∙ sym c.in_ok-name.ensures in
    let dropped = c.in_ok-drop_unheld.ensures.kept (stays_held c.in_ok-name.name c.args.index
    c.args.self.now.names.items c.put_name-old.new.names.items c.put_name-old.result
    (held.2 ∙ ap (λ (n : List ℕ). Some (Some n)) named) c.put_name-old.ensures.old
    c.put_name-old.ensures.names) in
    let there : test_named (texts_of c.args.self.now.texts) (content_of c.args.new.now).name ≡ Some (content_of c.args.new.now) =
    subst
    (λ (d : Content). test_named (texts_of c.args.self.now.texts) d.name ≡ Some d) (sym same)
    held.3 in
    let put = c.in_ok-put_test.ensures.kept
    (ap (λ (t : BenchTexts). test_named t c.args.new.now.name) dropped.texts ∙ there) in
    record { texts = put.texts ∙ dropped.texts; counted = put.counted ∙ dropped.counted }

pub returns-clause-edits : goal.returns-clause-edits
returns-clause-edits g c =
    let old = holding_of c.args.self.now.texts c.args.self.now.names in
    let kept = c.in_ok-put_test.ensures.names ∙ c.in_ok-drop_unheld.ensures.names in
    subst
    (λ (v : Vec (Option (List ℕ)) Global).
    HasEditsFor
    (IsTestEdited c.args.index c.args.text.items None old (holding_of c.put_test.new.self.texts v))
    (g.A.Author.counts c.args.self.now.author) (g.A.Author.counts c.put_test.new.self.author))
    (sym kept)
    (test_edited c.args.index c.args.text.items old c.put_name-old.new.names.items
    (texts_of c.drop_unheld.new.self.texts) (texts_of c.put_test.new.self.texts)
    (content_of c.args.new.now) c.put_name-old.result _ _ _ c.requires.reads
    c.put_name-old.ensures.old c.in_ok-drop_unheld.ensures.edits c.in_ok-put_test.ensures.edits)
