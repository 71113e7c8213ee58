-- A list of claims, returns and losses with its replies is a run with as many claims and losses.
use Rattle.std.proofs.Common.{◌≡◌, ℕ, ◌+◌, List, [], ◌∷◌, ◌++◌, length, Option, Some, None, if◌then◌else◌, refl, ◌∙◌, arith}
use Rattle.std.specs.Prelude.{Result, Ok, Err}
use Rattle.std.specs.List.{AllByRecursion as Each}
use Rattle.std.proofs.lemmas.List.{length-append}
use Rattle.memo_core.specs.declared.claims.ClaimFault.{ClaimFault}
use Rattle.memo_core.specs.declared.claims.Finish.{Finish}
use Rattle.memo_core.specs.declared.claims.Finish.TheVariants.{Unknown, Stale, Same, Stored}
use Rattle.memo_core.specs.Run as core
use Rattle.memo_core.specs.Run.{Bench, TextsMeaning, Step, MemoRun}
use Rattle.memo_core.specs.Work.{IsJobEvent, number_given, numbers_given}
use Rattle.cells.specs.declared.events.Event.{Event}
use Rattle.cells.specs.declared.events.Event.TheVariants as events
use Rattle.cells.specs.declared.events.Reply.{Reply}
use Rattle.cells.specs.declared.events.Reply.TheVariants as replies
use Rattle.cells.specs.Events.{Refusing, IsJob, IsClaimed, IsReturned, IsEventAnswered, AreEventsAnswered, task_given}
use Rattle.cells.specs.Views.{Task}
use Rattle.cells.proofs.Listed.{runs_on}
use Rattle.bench_laws.specs.Jobs.{given_count, lost_by, lost_count, GivenIsBounded}
use Rattle.bench_laws.specs.JobLists.{given_in, lost_in, given_among, lost_among, ListBoundsGiven}

-- one event of a job, or none, with so many claims given and lost
pub record HasStep {T E V G : Type 0} (means : TextsMeaning T E V G) (given lost : ℕ)
    (old new : Bench T V) : Type 0 where
  pub run : List (core.MemoEvent E V G)
  pub is : MemoRun means old run new
  pub jobs : Each IsJobEvent run
  pub given_is : given_count run ≡ given
  pub lost_is : lost_count run ≡ lost

no_step : {T E V G : Type 0} (means : TextsMeaning T E V G) (old new : Bench T V) → new ≡ old
    → HasStep means 0 0 old new
no_step means old new same =
    record { run = []; is = same; jobs = tt; given_is = refl; lost_is = refl }

one_step : {T E V G : Type 0} (means : TextsMeaning T E V G) (given lost : ℕ) (old new : Bench T V)
    (e : core.MemoEvent E V G) → Step means old e new → IsJobEvent e
    → length (number_given e) ≡ given → lost_by e ≡ lost → HasStep means given lost old new
one_step means given lost old new e step job given_is lost_is = record {
  run = e ∷ [];
  is = (new, step, refl);
  jobs = (job, tt);
  given_is = length-append (number_given e) [] ∙ plus_none (length (number_given e)) ∙ given_is;
  lost_is = plus_none (lost_by e) ∙ lost_is;
}
  where
    plus_none : (n : ℕ) → n + 0 ≡ n
    plus_none n = omega arith

module _ {T E V G F : Type 0} (means : TextsMeaning T E V G) (refuses : Refusing T E F) (last : T → ℕ)
  where
    claimed_step : (old new : Bench T V) (given after : List (Task V G))
        (answer : Result (Option ℕ) ClaimFault)
        → IsClaimed means refuses last old given answer new after
        → HasStep means (given_in {F = F} (replies.Claimed answer)) 0 old new
    claimed_step old new given after (Ok (Some number)) h =
        one_step means 1 0 old new
        (core.Claim (h.1).claim (h.1).node (h.1).given (h.1).keys (h.1).values) h.3 tt refl refl
    claimed_step old new given after (Ok None) h =
        one_step means 0 0 old new core.NoClaim h.1 tt refl refl
    claimed_step old new given after (Err fault) h =
        one_step means 0 0 old new core.Refused h.1 tt refl refl

    returned_step : (old new : Bench T V) (task : Option (Task V G)) (answer : Result Finish _)
        → IsReturned means refuses last old task answer new → HasStep means 0 0 old new
    returned_step old new None (Ok Unknown) h = no_step means old new h
    returned_step old new None (Ok (Stale stamp)) h = absurd h
    returned_step old new None (Ok Same) h = absurd h
    returned_step old new None (Ok (Stored names)) h = absurd h
    returned_step old new None (Err fault) h = absurd h
    returned_step old new (Some t) (Ok answer) h =
        one_step means 0 0 old new (core.Returned h.0 answer) h.2 tt refl refl
    returned_step old new (Some t) (Err fault) h = no_step means old new h

    pub answered_step : (old new : Bench T V) (given after : List (Task V G)) (e : Event E)
        (r : Reply F) → IsJob e → IsEventAnswered means refuses last old given e r new after
        → HasStep means (given_in r) (lost_in r) old new
    answered_step old new given after (events.Edit e) r job h = absurd job
    answered_step old new given after events.Claim (replies.Edited answer) job h = absurd h
    answered_step old new given after events.Claim (replies.Claimed answer) job h =
        claimed_step old new given after answer h
    answered_step old new given after events.Claim (replies.Returned answer) job h = absurd h
    answered_step old new given after events.Claim (replies.Lost answer) job h = absurd h
    answered_step old new given after events.Claim replies.Renewed job h = absurd h
    answered_step old new given after (events.Return claim) (replies.Edited answer) job h = absurd h
    answered_step old new given after (events.Return claim) (replies.Claimed answer) job h =
        absurd h
    answered_step old new given after (events.Return claim) (replies.Returned answer) job h =
        returned_step old new (task_given claim given) answer h.0
    answered_step old new given after (events.Return claim) (replies.Lost answer) job h = absurd h
    answered_step old new given after (events.Return claim) replies.Renewed job h = absurd h
    answered_step old new given after (events.Lose claim) (replies.Edited answer) job h = absurd h
    answered_step old new given after (events.Lose claim) (replies.Claimed answer) job h = absurd h
    answered_step old new given after (events.Lose claim) (replies.Returned answer) job h = absurd h
    answered_step old new given after (events.Lose claim) (replies.Lost answer) job h =
        one_step means 0 (if answer then 1 else 0) old new (core.Lose claim answer) h.0 tt refl refl
    answered_step old new given after (events.Lose claim) replies.Renewed job h = absurd h
    answered_step old new given after events.Renew r job h = absurd job

    -- two lists, one after the other
    both_steps : (given lost more_given more_lost : ℕ) (old mid new : Bench T V)
        → HasStep means given lost old mid → HasStep means more_given more_lost mid new
        → HasStep means (given + more_given) (lost + more_lost) old new
    both_steps given lost more_given more_lost old mid new one rest = record {
      run = one.run ++ rest.run;
      is = runs_on means one.run rest.run old mid new one.is rest.is;
      jobs = each_both one.run rest.run one.jobs rest.jobs;
      given_is =
          (let a = one.given_is in
          let b = rest.given_is in let c = given_both one.run rest.run in omega (arith, a, b, c));
      lost_is =
          (let a = one.lost_is in
          let b = rest.lost_is in let c = lost_both one.run rest.run in omega (arith, a, b, c));
    }
      where
        each_both : (xs ys : List (core.MemoEvent E V G)) → Each IsJobEvent xs → Each IsJobEvent ys
            → Each IsJobEvent (xs ++ ys)
        each_both [] ys a b = b
        each_both (x ∷ xs) ys a b = (a.0, each_both xs ys a.1 b)

        given_both : (xs ys : List (core.MemoEvent E V G))
            → given_count (xs ++ ys) ≡ given_count xs + given_count ys
        given_both [] ys = omega arith
        given_both (x ∷ xs) ys =
            let a = length-append (number_given x) (numbers_given (xs ++ ys)) in
            let b = length-append (number_given x) (numbers_given xs) in
            let c = given_both xs ys in
            omega (arith, a, b, c)

        lost_both : (xs ys : List (core.MemoEvent E V G))
            → lost_count (xs ++ ys) ≡ lost_count xs + lost_count ys
        lost_both [] ys = omega arith
        lost_both (x ∷ xs) ys = let c = lost_both xs ys in omega (arith, c)

    list_steps : (old new : Bench T V) (given after : List (Task V G)) (es : List (Event E))
        (rs : List (Reply F)) → Each IsJob es
        → AreEventsAnswered means refuses last old given es rs new after
        → HasStep means (given_among rs) (lost_among rs) old new
    list_steps old new given after [] [] jobs h = no_step means old new h.0
    list_steps old new given after [] (r ∷ rs) jobs h = absurd h
    list_steps old new given after (e ∷ es) [] jobs h = absurd h
    list_steps old new given after (e ∷ es) (r ∷ rs) jobs h =
        both_steps (given_in r) (lost_in r) (given_among rs) (lost_among rs) old h.0 new
        (answered_step old h.0 given h.1 e r jobs.0 h.2)
        (list_steps h.0 new h.1 after es rs jobs.1 h.3)

    pub list_bounds_given : GivenIsBounded means → ListBoundsGiven means refuses last
    list_bounds_given bounded earlier first start end es rs settled s run answers jobs decides =
        let all = list_steps start end [] answers.0 es rs jobs answers.1 in
        let low = bounded earlier all.run first start end settled s run all.is all.jobs decides in
        let given_is = all.given_is in
        let lost_is = all.lost_is in
        omega (arith, low, given_is, lost_is)
