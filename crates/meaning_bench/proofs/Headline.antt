-- What a cell shows after events, and around an edit.
use Rattle.std.proofs.Common.{◌≡◌, ◌↔◌, ℕ, List, Bool, IsTrue, subst}
use Rattle.outcome_states.specs.declared.answer.Outcome.{Outcome}
use Rattle.memo_core.specs.Run as core
use Rattle.memo_core.specs.Run.{Step}
use Rattle.bench_texts.specs.declared.edit.Edit.{Edit}
use Rattle.bench_texts.specs.declared.fault.EditFault.{EditFault}
use Rattle.bench_texts.specs.BenchTexts.{BenchTexts, no_texts}
use Rattle.cells.specs.declared.events.Event.{Event}
use Rattle.cells.specs.declared.events.Reply.{Reply}
use Rattle.cells.specs.Views.{IsRightBench}
use Rattle.bench_laws.specs.Live.{live_meaning}
use Rattle.bench_laws.specs.There.{LiveState}
use Rattle.bench_laws.specs.Locked.{HoldsOfRight, EditsKeepUnreached}
use Rattle.meaning_bench.specs.Says.{SaysIn}
use Rattle.meaning_bench.specs.Shown.{AreTextsAfter, IsShownAfter, IsShownAround}
use Rattle.meaning_bench.proofs.Events.{plain_on}
use Rattle.meaning_bench.proofs.Settled.{Shows, is_unreached}

pub shown_after : (first last : BenchTexts) (events : List (Event Edit))
    (replies : List (Reply EditFault)) (test model : List ℕ) (o : Outcome) (is_shown : Bool)
    → first ≡ no_texts → AreTextsAfter first events replies last
    → (IsTrue is_shown → SaysIn last test model o)
    → IsShownAfter events replies test model o is_shown
shown_after first last events replies test model o is_shown none after says = record {
  texts = last;
  after = subst (λ (t : BenchTexts). AreTextsAfter t events replies last) none after;
  says = says;
}

pub shown_around : (old new : LiveState) → IsRightBench live_meaning old
    → HoldsOfRight EditsKeepUnreached → (e : Edit) (test model : List ℕ) (o : Outcome)
    (before after : Bool)
    → Step live_meaning old (core.Edit e) new → IsTrue before ↔ Shows old test model o
    → (IsTrue before → SaysIn (plain_on old) test model o)
    → IsTrue after ↔ Shows new test model o → (IsTrue after → SaysIn (plain_on new) test model o)
    → IsShownAround old.texts.texts new.texts.texts e test model o before after
shown_around old new right keeps e test model o before after step was said is says = record {
  applies = (step.0).applies;
  said = said;
  says = says;
  kept = λ left shown.
      is.1 (keeps old right new e test model o step
      (λ reached. reached (is_unreached old.texts new.texts test model left)) (was.0 shown));
}
