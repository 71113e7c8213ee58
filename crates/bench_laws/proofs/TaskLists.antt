-- A job that a list was given was given by a claim of it, and only claims, returns and losses came
-- since.
use Rattle.std.proofs.Common.{◌≡◌, ℕ, true, ◌==◌, inl, inr, List, [], ◌∷◌, ◌++◌, Option, Some, None, refl, sym, subst, eqb-true}
use Rattle.std.specs.Prelude.{Result, Ok, Err}
use Rattle.std.specs.List.{AllByRecursion as Each}
use Rattle.std.proofs.lemmas.Bool.{cases_Bool}
use Rattle.memo_core.specs.declared.claims.ClaimFault.{ClaimFault}
use Rattle.memo_core.specs.declared.claims.Finish.{Finish}
use Rattle.memo_core.specs.Run as core
use Rattle.memo_core.specs.Run.{Bench, TextsMeaning, Step, MemoRun, IsNewBench}
use Rattle.memo_core.specs.Work.{IsJobEvent, is_accepted}
use Rattle.cells.specs.declared.events.Event.{Event}
use Rattle.cells.specs.declared.events.Event.TheVariants as events
use Rattle.cells.specs.declared.events.Reply.{Reply}
use Rattle.cells.specs.declared.events.Reply.TheVariants as replies
use Rattle.cells.specs.Events.{Refusing, IsJob, IsClaimed, IsReturned, IsEventAnswered, AreEventsAnswered, task_given}
use Rattle.cells.specs.Views.{Task}
use Rattle.cells.proofs.Listed.{runs_on}
use Rattle.bench_laws.specs.Jobs.{IsClaimOut, JobsAreAccepted}
use Rattle.bench_laws.specs.JobLists.{ListAcceptsJobs}
use Rattle.bench_laws.proofs.JobLists.{HasStep, answered_step}
use Rattle.bench_laws.proofs.Ready.{each_on, each_last}

jobs_both : {E V G : Type 0} (xs ys : List (core.MemoEvent E V G)) → Each IsJobEvent xs
    → Each IsJobEvent ys → Each IsJobEvent (xs ++ ys)
jobs_both [] ys a b = b
jobs_both (x ∷ xs) ys a b = (a.0, jobs_both xs ys a.1 b)

-- what holds of each job holds of the one that is found, which has the claim
task_found : {V G : Type 0} (P : Task V G → Type 0) (claim : ℕ) (ts : List (Task V G))
    (t : Task V G) → Each P ts → task_given claim ts ≡ Some t → P t × (claim ≡ t.claim)
task_found {V} {G} P claim [] t all h = absurd (none h)
  where
    none : None ≡ Some t → ⊥
    none e = cc
task_found {V} {G} P claim (x ∷ xs) t all h = elim (cases_Bool (claim == x.claim)) [
  | inl same ↦ (let q : x ≡ t = some_inj x t (rw same at h) in
      subst (λ (y : Task V G). P y × (claim ≡ y.claim)) q (all.0, eqb-true claim x.claim same))
  | inr other ↦ task_found P claim xs t all.1 (rw other at h)
]
  where
    some_inj : (x y : Task V G) → Some x ≡ Some y → x ≡ y
    some_inj x y h = cc

module _ {T E V G F : Type 0} (means : TextsMeaning T E V G) (refuses : Refusing T E F) (last : T → ℕ)
    (first : Bench T V) where
  -- the job was given by a claim, and only events of jobs came since
  record IsGiven (now : Bench T V) (t : Task V G) : Type 0 where
    earlier : List (core.MemoEvent E V G)
    later : List (core.MemoEvent E V G)
    old : Bench T V
    new : Bench T V
    before : MemoRun means first earlier old
    claimed : Step means old (core.Claim t.claim t.node t.given t.keys t.values) new
    since : MemoRun means new later now
    jobs : Each IsJobEvent later

  given_on : (old new : Bench T V) (run : List (core.MemoEvent E V G)) → MemoRun means old run new
      → Each IsJobEvent run → (t : Task V G) → IsGiven old t → IsGiven new t
  given_on old new run is jobs t h = record {
    earlier = h.earlier;
    later = h.later ++ run;
    old = h.old;
    new = h.new;
    before = h.before;
    claimed = h.claimed;
    since = runs_on means h.later run h.new old new h.since is;
    jobs = jobs_both h.later run h.jobs jobs;
  }

  claimed_given : (es : List (core.MemoEvent E V G)) (old new : Bench T V)
      (given after : List (Task V G)) (answer : Result (Option ℕ) ClaimFault)
      → MemoRun means first es old → IsClaimed means refuses last old given answer new after
      → Each (IsGiven new) given → Each (IsGiven new) after
  claimed_given es old new given after (Ok (Some number)) sofar h all =
      let one : IsGiven new h.1 = record { earlier = es; later = []; old = old; new = new; before = sofar; claimed = h.3; since = refl; jobs = tt } in
      subst (λ (ts : List (Task V G)). Each (IsGiven new) ts) (sym h.4)
      (each_last (IsGiven new) given h.1 all one)
  claimed_given es old new given after (Ok None) sofar h all = rw h.2 all
  claimed_given es old new given after (Err fault) sofar h all = rw h.3 all

  answered_given : (es : List (core.MemoEvent E V G)) (old new : Bench T V)
      (given after : List (Task V G)) (e : Event E) (r : Reply F) → IsJob e
      → MemoRun means first es old → IsEventAnswered means refuses last old given e r new after
      → Each (IsGiven new) given → Each (IsGiven new) after
  answered_given es old new given after (events.Edit e) r job sofar h all = absurd job
  answered_given es old new given after events.Claim (replies.Edited answer) job sofar h all =
      absurd h
  answered_given es old new given after events.Claim (replies.Claimed answer) job sofar h all =
      claimed_given es old new given after answer sofar h all
  answered_given es old new given after events.Claim (replies.Returned answer) job sofar h all =
      absurd h
  answered_given es old new given after events.Claim (replies.Lost answer) job sofar h all =
      absurd h
  answered_given es old new given after events.Claim replies.Renewed job sofar h all = absurd h
  answered_given es old new given after (events.Return claim) (replies.Edited answer) job sofar h
      all = absurd h
  answered_given es old new given after (events.Return claim) (replies.Claimed answer) job sofar h
      all = absurd h
  answered_given es old new given after (events.Return claim) (replies.Returned answer) job sofar h
      all = rw h.1 all
  answered_given es old new given after (events.Return claim) (replies.Lost answer) job sofar h
      all = absurd h
  answered_given es old new given after (events.Return claim) replies.Renewed job sofar h all =
      absurd h
  answered_given es old new given after (events.Lose claim) (replies.Edited answer) job sofar h
      all = absurd h
  answered_given es old new given after (events.Lose claim) (replies.Claimed answer) job sofar h
      all = absurd h
  answered_given es old new given after (events.Lose claim) (replies.Returned answer) job sofar h
      all = absurd h
  answered_given es old new given after (events.Lose claim) (replies.Lost answer) job sofar h all =
      rw h.1 all
  answered_given es old new given after (events.Lose claim) replies.Renewed job sofar h all =
      absurd h
  answered_given es old new given after events.Renew r job sofar h all = absurd job

  list_given : (run : List (core.MemoEvent E V G)) (old new : Bench T V) (given after : List (Task V G))
      (es : List (Event E)) (rs : List (Reply F)) → Each IsJob es → MemoRun means first run old
      → Each (IsGiven old) given
      → AreEventsAnswered means refuses last old given es rs new after → Each (IsGiven new) after
  list_given run old new given after [] [] jobs sofar all h = rw (h.0, h.1) all
  list_given run old new given after [] (r ∷ rs) jobs sofar all h = absurd h
  list_given run old new given after (e ∷ es) [] jobs sofar all h = absurd h
  list_given run old new given after (e ∷ es) (r ∷ rs) jobs sofar all h =
      let step : HasStep means _ _ old h.0 = answered_step means refuses last old h.0 given h.1 e r jobs.0 h.2 in
      let on = each_on (IsGiven old) (IsGiven h.0) (λ t g. given_on old h.0 step.run step.is step.jobs t g) given all in
      list_given (run ++ step.run) h.0 new h.1 after es rs jobs.1
      (runs_on means run step.run first old h.0 sofar step.is)
      (answered_given run old h.0 given h.1 e r jobs.0 sofar h.2 on) h.3

  return_accepted : JobsAreAccepted means → IsNewBench means.is_valid means.net first
      → (mid end : Bench T V) (task : Task V G) (o : Option (Task V G)) (answer : Finish)
      → IsGiven mid task → IsClaimOut mid task.claim
      → o ≡ Some task → IsReturned means refuses last mid o (Ok answer) end
      → is_accepted answer ≡ true
  return_accepted accepted s mid end task o answer g out found h =
      let returned : IsReturned means refuses last mid (Some task) (Ok answer) end = subst (λ (x : Option (Task V G)). IsReturned means refuses last mid x (Ok answer) end) found h in
      accepted g.earlier g.later first g.old g.new mid end task.claim task.node task.given task.keys
      task.values returned.0 answer s g.before g.claimed g.since g.jobs out returned.1
      returned.2

pub list_accepts_jobs : {T E V G F : Type 0} (means : TextsMeaning T E V G) (refuses : Refusing T E F)
    (last : T → ℕ) → JobsAreAccepted means → ListAcceptsJobs means refuses last
list_accepts_jobs means refuses last accepted earlier first start mid end es rs given after task
    claim answer s run answers jobs found out returned =
    let all = list_given means refuses last first earlier start mid [] given es rs jobs run tt answers in
    let there = task_found (IsGiven means refuses last first mid) claim given task all found in
    return_accepted means refuses last first accepted s mid end task (task_given claim given) answer
    there.0 (subst (λ (n : ℕ). IsClaimOut mid n) there.1 out) found returned.0
