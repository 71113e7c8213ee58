-- The texts after events are those that the accepted edits among them make.
use Rattle.std.proofs.Common.{◌≡◌, ℕ, List, [], ◌∷◌, Option, Some, None, sym, ap, subst}
use Rattle.std.specs.Prelude.{Result, Ok, Err}
use Rattle.value_store.specs.declared.fault.StoreFault.{StoreFault}
use Rattle.memo_core.specs.declared.claims.ClaimFault.{ClaimFault}
use Rattle.memo_core.specs.declared.claims.Finish.{Finish}
use Rattle.memo_core.specs.declared.claims.Finish.TheVariants.{Unknown, Stale, Same, Stored}
use Rattle.memo_core.specs.Run.{RefusesCall}
use Rattle.bench_values.specs.Givens.{GivenContent}
use Rattle.bench_values.specs.Values.{NodeContent}
use Rattle.bench_texts.specs.declared.edit.Edit.{Edit}
use Rattle.bench_texts.specs.declared.fault.EditFault.{EditFault}
use Rattle.bench_texts.specs.BenchTexts.{BenchTexts}
use Rattle.bench_texts.specs.Held.{texts_of}
use Rattle.cells.specs.declared.events.Event.{Event}
use Rattle.cells.specs.declared.events.Event.TheVariants as events
use Rattle.cells.specs.declared.events.Reply.{Reply}
use Rattle.cells.specs.declared.events.Reply.TheVariants as replies
use Rattle.cells.specs.Events.{IsClaimed, IsEdited, IsEventAnswered, IsReturned, AreEventsAnswered, AnswersEvents, task_given}
use Rattle.cells.specs.Views.{Task}
use Rattle.bench_instance.specs.declared.stamped_texts.StampedTexts.{StampedTexts}
use Rattle.bench_instance.specs.StampedTexts.{AreSoundTexts}
use Rattle.bench_instance.specs.Lemmas.StampedLaws.{since_itself}
use Rattle.bench_laws.specs.Live.{live_meaning, live_refusing, live_last}
use Rattle.bench_laws.specs.There.{LiveState}
use Rattle.meaning_bench.specs.Shown.{ChangesTexts, AreTextsAfter}

abbrev pub plain_on : LiveState → BenchTexts
plain_on b = texts_of b.texts.texts

-- the texts say the same, and are sound still
abbrev AreKept : LiveState → LiveState → Type 0
AreKept old new = (plain_on new ≡ plain_on old) × AreSoundTexts new.texts

-- the event with its reply makes these texts, which are sound still
abbrev AreMade : LiveState → Event Edit → Reply EditFault → LiveState → Type 0
AreMade old event reply new =
    ChangesTexts (plain_on old) event reply (plain_on new) × AreSoundTexts new.texts

kept : (old new : LiveState) → AreSoundTexts old.texts → new.texts ≡ old.texts → AreKept old new
kept old new sound same = (
  ap (λ (t : StampedTexts). texts_of t.texts) same,
  subst AreSoundTexts (sym same) sound,
)

refused : (old new : LiveState) → AreSoundTexts old.texts → RefusesCall live_meaning old new
    → live_last new.texts ≡ live_last old.texts → AreKept old new
refused old new sound refuses last =
    let since = refuses.texts.since old.texts (since_itself old.texts sound) in
    ((since.same last).texts, refuses.texts.valid sound)

edited : (old new : LiveState) (e : Edit) (answer : Result ℕ EditFault) → AreSoundTexts old.texts
    → IsEdited live_meaning live_refusing live_last old e answer new
    → AreMade old (events.Edit e) (replies.Edited answer) new
edited old new e (Ok number) sound (below, next, step) =
    ((step.0).applies, (step.0).sound sound)
edited old new e (Err fault) sound (refuses, step, last) = refused old new sound step last

claimed : (old new : LiveState) (given after : List (Task NodeContent GivenContent))
    (answer : Result (Option ℕ) ClaimFault) → AreSoundTexts old.texts
    → IsClaimed live_meaning live_refusing live_last old given answer new after → AreKept old new
claimed old new given after (Ok (Some number)) sound (below, task, is, step, rest) =
    kept old new sound step.0
claimed old new given after (Ok None) sound (below, step, rest) =
    kept old new sound (ap (λ (b : LiveState). b.texts) step.1)
claimed old new given after (Err fault) sound (faulty, step, same, rest) = kept old new sound same

unchanged : (old new : LiveState) → AreSoundTexts old.texts → new ≡ old → AreKept old new
unchanged old new sound same = kept old new sound (ap (λ (b : LiveState). b.texts) same)

returned : (old new : LiveState) (task : Option (Task NodeContent GivenContent))
    (answer : Result Finish StoreFault) → AreSoundTexts old.texts
    → IsReturned live_meaning live_refusing live_last old task answer new → AreKept old new
returned old new None (Ok Unknown) sound h = unchanged old new sound h
returned old new None (Ok (Stale stamp)) sound h = absurd h
returned old new None (Ok Same) sound h = absurd h
returned old new None (Ok (Stored told)) sound h = absurd h
returned old new None (Err fault) sound h = absurd h
returned old new (Some t) (Ok answer) sound (r, is, step) = kept old new sound step.1
returned old new (Some t) (Err fault) sound h = unchanged old new sound h

answered : (old new : LiveState) (given after : List (Task NodeContent GivenContent))
    (event : Event Edit) (reply : Reply EditFault) → AreSoundTexts old.texts
    → IsEventAnswered live_meaning live_refusing live_last old given event reply new after
    → AreMade old event reply new
answered old new given after (events.Edit e) (replies.Edited answer) sound h =
    edited old new e answer sound h.0
answered old new given after (events.Edit e) (replies.Claimed answer) sound h = absurd h
answered old new given after (events.Edit e) (replies.Returned answer) sound h = absurd h
answered old new given after (events.Edit e) (replies.Lost answer) sound h = absurd h
answered old new given after (events.Edit e) replies.Renewed sound h = absurd h
answered old new given after events.Claim (replies.Edited answer) sound h = absurd h
answered old new given after events.Claim (replies.Claimed answer) sound h =
    claimed old new given after answer sound h
answered old new given after events.Claim (replies.Returned answer) sound h = absurd h
answered old new given after events.Claim (replies.Lost answer) sound h = absurd h
answered old new given after events.Claim replies.Renewed sound h = absurd h
answered old new given after (events.Return claim) (replies.Edited answer) sound h = absurd h
answered old new given after (events.Return claim) (replies.Claimed answer) sound h = absurd h
answered old new given after (events.Return claim) (replies.Returned answer) sound h =
    returned old new (task_given claim given) answer sound h.0
answered old new given after (events.Return claim) (replies.Lost answer) sound h = absurd h
answered old new given after (events.Return claim) replies.Renewed sound h = absurd h
answered old new given after (events.Lose claim) (replies.Edited answer) sound h = absurd h
answered old new given after (events.Lose claim) (replies.Claimed answer) sound h = absurd h
answered old new given after (events.Lose claim) (replies.Returned answer) sound h = absurd h
answered old new given after (events.Lose claim) (replies.Lost answer) sound h =
    kept old new sound (h.0).0
answered old new given after (events.Lose claim) replies.Renewed sound h = absurd h
answered old new given after events.Renew (replies.Edited answer) sound h = absurd h
answered old new given after events.Renew (replies.Claimed answer) sound h = absurd h
answered old new given after events.Renew (replies.Returned answer) sound h = absurd h
answered old new given after events.Renew (replies.Lost answer) sound h = absurd h
answered old new given after events.Renew replies.Renewed sound h = kept old new sound (h.0).0

all_answered : (old new : LiveState) (given after : List (Task NodeContent GivenContent))
    (es : List (Event Edit)) (rs : List (Reply EditFault)) → AreSoundTexts old.texts
    → AreEventsAnswered live_meaning live_refusing live_last old given es rs new after
    → AreTextsAfter (plain_on old) es rs (plain_on new)
all_answered old new given after [] [] sound h = ap plain_on h.0
all_answered old new given after [] (r ∷ rs) sound h = absurd h
all_answered old new given after (e ∷ es) [] sound h = absurd h
all_answered old new given after (e ∷ es) (r ∷ rs) sound (mid, later, first, rest) =
    let made = answered old mid given later e r sound first in
    (plain_on mid, made.0, all_answered mid new later after es rs made.1 rest)

pub texts_made : (old new : LiveState) (es : List (Event Edit)) (rs : List (Reply EditFault))
    → AreSoundTexts old.texts
    → AnswersEvents live_meaning live_refusing live_last old es rs new
    → AreTextsAfter (plain_on old) es rs (plain_on new)
texts_made old new es rs sound (after, h) = all_answered old new [] after es rs sound h
