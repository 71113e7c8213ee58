-- A list of events with its replies is the run of just these events.
use Rattle.std.proofs.Common.{◌≡◌, ℕ, inl, inr, List, [], ◌∷◌, ◌++◌, Bool, true, ◌==◌, Option, Some, None, refl, sym, ap, ◌∙◌, subst, eqb-true}
use Rattle.std.specs.Prelude.{Result, Ok, Err}
use Rattle.std.proofs.lemmas.Bool.{cases_Bool}
use Rattle.memo_core.specs.declared.claims.ClaimFault.{ClaimFault}
use Rattle.memo_core.specs.declared.claims.Finish.{Finish}
use Rattle.memo_core.specs.declared.claims.Finish.TheVariants.{Unknown, Stale, Same, Stored}
use Rattle.memo_core.specs.Run as core
use Rattle.memo_core.specs.Run.{Bench, TextsMeaning, Step, MemoRun}
use Rattle.cells.specs.declared.events.Event.{Event}
use Rattle.cells.specs.declared.events.Event.TheVariants as events
use Rattle.cells.specs.declared.events.Reply.{Reply}
use Rattle.cells.specs.declared.events.Reply.TheVariants as replies
use Rattle.cells.specs.Events.{Refusing, IsEdited, IsClaimed, IsReturned, IsEventAnswered, AreEventsAnswered, task_given}
use Rattle.cells.specs.Views.{Task, task_answered}
use Rattle.cells.proofs.Listed.{runs_on}
use Rattle.bench_laws.specs.ListRuns.{IsRunOf, AreRunsOf, ListsAreTheirRuns}

-- a job that is found by a number has it
given_number : {V G : Type 0} (c : ℕ) (ts : List (Task V G)) (t : Task V G) → task_given c ts ≡ Some t
    → t.claim ≡ c
given_number c [] t e = cc
given_number {V} {G} c (u ∷ ts) t e = elim (cases_Bool (c == u.claim)) [
  | inl y ↦ ap (λ (x : Task V G). x.claim) (sym (same u t (rw y at e))) ∙ sym (eqb-true c u.claim y)
  | inr f ↦ given_number c ts t (rw f at e)
]
  where
    same : (x y : Task V G) → Some x ≡ Some y → x ≡ y
    same x y h = cc

-- the run of one event with its reply
record HasRunOf {T E V G F : Type 0} (means : TextsMeaning T E V G) (e : Event E) (r : Reply F)
    (old new : Bench T V) : Type 0 where
  pub run : List (core.MemoEvent E V G)
  pub of : IsRunOf e r run
  pub is : MemoRun means old run new

module _ {T E V G F : Type 0} (means : TextsMeaning T E V G) (refuses : Refusing T E F) (last : T → ℕ)
  where
    edit_run : (e : E) (old new : Bench T V) (answer : Result ℕ F)
        → IsEdited means refuses last old e answer new
        → HasRunOf means (events.Edit e) (replies.Edited answer) old new
    edit_run e old new (Ok number) h =
        record { run = core.Edit e ∷ []; of = refl; is = (new, h.2, refl) }
    edit_run e old new (Err fault) h =
        record { run = core.Refused ∷ []; of = refl; is = (new, h.1, refl) }

    claim_run : (old new : Bench T V) (given after : List (Task V G))
        (answer : Result (Option ℕ) ClaimFault)
        → IsClaimed means refuses last old given answer new after
        → HasRunOf {F = F} means events.Claim (replies.Claimed answer) old new
    claim_run old new given after (Ok (Some number)) h = record {
      run = core.Claim (h.1).claim (h.1).node (h.1).given (h.1).keys (h.1).values ∷ [];
      of =
          subst
          (λ (n : ℕ). IsRunOf {E = E} {V = V} {G = G} {F = F} events.Claim (replies.Claimed (Ok (Some n)))
          (core.Claim (h.1).claim (h.1).node (h.1).given (h.1).keys (h.1).values ∷ [])) (sym h.2)
          ((h.1).node, (h.1).given, (h.1).keys, (h.1).values, refl);
      is = (new, h.3, refl);
    }
    claim_run old new given after (Ok None) h =
        record { run = core.NoClaim ∷ []; of = refl; is = (new, h.1, refl) }
    claim_run old new given after (Err fault) h =
        record { run = core.Refused ∷ []; of = refl; is = (new, h.1, refl) }

    return_run : (claim : ℕ) (old new : Bench T V) (task : Option (Task V G))
        (answer : Result Finish _)
        → ((t : Task V G) → task ≡ Some t → t.claim ≡ claim)
        → IsReturned means refuses last old task answer new
        → HasRunOf {F = F} means (events.Return claim) (replies.Returned answer) old new
    return_run claim old new None (Ok Unknown) named h =
        record { run = []; of = inl (refl, refl); is = h }
    return_run claim old new None (Ok (Stale stamp)) named h = absurd h
    return_run claim old new None (Ok Same) named h = absurd h
    return_run claim old new None (Ok (Stored names)) named h = absurd h
    return_run claim old new None (Err fault) named h = absurd h
    return_run claim old new (Some t) (Ok answer) named h = record {
      run = core.Returned h.0 answer ∷ [];
      of = inr (h.0, ap (λ (x : Task V G). x.claim) h.1 ∙ named t refl, refl);
      is = (new, h.2, refl);
    }
    return_run claim old new (Some t) (Err fault) named h = record { run = []; of = refl; is = h }

    event_run : (old new : Bench T V) (given after : List (Task V G)) (e : Event E) (r : Reply F)
        → IsEventAnswered means refuses last old given e r new after → HasRunOf means e r old new
    event_run old new given after (events.Edit e) (replies.Edited answer) h =
        edit_run e old new answer h.0
    event_run old new given after (events.Edit e) (replies.Claimed answer) h = absurd h
    event_run old new given after (events.Edit e) (replies.Returned answer) h = absurd h
    event_run old new given after (events.Edit e) (replies.Lost answer) h = absurd h
    event_run old new given after (events.Edit e) replies.Renewed h = absurd h
    event_run old new given after events.Claim (replies.Edited answer) h = absurd h
    event_run old new given after events.Claim (replies.Claimed answer) h =
        claim_run old new given after answer h
    event_run old new given after events.Claim (replies.Returned answer) h = absurd h
    event_run old new given after events.Claim (replies.Lost answer) h = absurd h
    event_run old new given after events.Claim replies.Renewed h = absurd h
    event_run old new given after (events.Return claim) (replies.Edited answer) h = absurd h
    event_run old new given after (events.Return claim) (replies.Claimed answer) h = absurd h
    event_run old new given after (events.Return claim) (replies.Returned answer) h =
        return_run claim old new (task_given claim given) answer (given_number claim given) h.0
    event_run old new given after (events.Return claim) (replies.Lost answer) h = absurd h
    event_run old new given after (events.Return claim) replies.Renewed h = absurd h
    event_run old new given after (events.Lose claim) (replies.Edited answer) h = absurd h
    event_run old new given after (events.Lose claim) (replies.Claimed answer) h = absurd h
    event_run old new given after (events.Lose claim) (replies.Returned answer) h = absurd h
    event_run old new given after (events.Lose claim) (replies.Lost answer) h =
        record { run = core.Lose claim answer ∷ []; of = refl; is = (new, h.0, refl) }
    event_run old new given after (events.Lose claim) replies.Renewed h = absurd h
    event_run old new given after events.Renew (replies.Edited answer) h = absurd h
    event_run old new given after events.Renew (replies.Claimed answer) h = absurd h
    event_run old new given after events.Renew (replies.Returned answer) h = absurd h
    event_run old new given after events.Renew (replies.Lost answer) h = absurd h
    event_run old new given after events.Renew replies.Renewed h =
        record { run = core.Renew ∷ []; of = refl; is = (new, h.0, refl) }

    list_run : (old new : Bench T V) (given after : List (Task V G)) (es : List (Event E))
        (rs : List (Reply F)) → AreEventsAnswered means refuses last old given es rs new after
        → (run : List (core.MemoEvent E V G)) × AreRunsOf es rs run × MemoRun means old run new
    list_run old new given after [] [] h = ([], refl, h.0)
    list_run old new given after [] (r ∷ rs) h = absurd h
    list_run old new given after (e ∷ es) [] h = absurd h
    list_run old new given after (e ∷ es) (r ∷ rs) h =
        let one = event_run old h.0 given h.1 e r h.2 in
        let more = list_run h.0 new h.1 after es rs h.3 in (
          one.run ++ more.0,
          (one.run, more.0, refl, one.of, more.1),
          runs_on means one.run more.0 old h.0 new one.is more.2,
        )

    pub lists_are_their_runs : ListsAreTheirRuns means refuses last
    lists_are_their_runs old new es rs answers = list_run old new [] answers.0 es rs answers.1
