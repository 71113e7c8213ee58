-- The return of a job is accepted where no edit comes between.
use Rattle.std.proofs.Common.{◌≡◌, ℕ, ◌+◌, ◌<◌, ◌≤◌, Bool, true, false, List, [], ◌∷◌, Some, refl, ap, sym, subst, ◌∙◌, arith}
use Rattle.std.specs.List.{AllByRecursion as Each}
use Rattle.memo_core.specs.declared.keys.Node.{Node}
use Rattle.memo_core.specs.declared.keys.Key.{Key}
use Rattle.memo_core.specs.declared.claims.Finish.{Finish}
use Rattle.memo_core.specs.declared.claims.Finish.TheVariants.{Unknown, Stale, Same, Stored}
use Rattle.memo_core.specs.Graph.{present_inputs}
use Rattle.memo_core.specs.Step.{OpenClaim, MemoState, Return, claim_of, without_claim, IsOut, IsOfPresent, AreClaimsNumbered, FinishesReturn, Gives, Loses}
use Rattle.memo_core.specs.Run.{Bench, MemoEvent, Edit, Claim, NoClaim, Returned, Lose, Renew, Refused, IsFreshFrom, TextsMeaning, MemoRun, Step, state_in}
use Rattle.memo_core.specs.Work.{IsJobEvent, is_accepted}
use Rattle.memo_core.proofs.Exact.{AreApart}
use Rattle.memo_core.proofs.Honest.{step_goes}
use Rattle.memo_core.proofs.Progress.{each_closed}
use Rattle.cells.specs.Views.{Task, task_of, task_answered}
use Rattle.bench_laws.specs.Jobs.{IsClaimOut, JobsAreAccepted}
use Rattle.bench_laws.proofs.Ready.{each_last, found_in, IsJobNow, IsReadyAbove, AreReadyAbove, not_stale, above_given, above_none, accept_job, step_apart, step_above, apart_after}

-- ---- claims of one number

-- the claims after a call are among those before it, or have a greater number
claims_closed : {V G : Type 0} (P : OpenClaim → Type 0) (old new : MemoState V G) (n : ℕ)
    → new.claims ≡ without_claim n old.claims → Each P old.claims → Each P new.claims
claims_closed P old new n is all =
    subst (λ (cs : List OpenClaim). Each P cs) (sym is) (each_closed P n old.claims all)

claims_finished : {V G : Type 0} (P : OpenClaim → Type 0) (old new : MemoState V G) (r : Return V G)
    (f : Finish) → Each P old.claims → FinishesReturn old r f new → Each P new.claims
claims_finished P old new r Unknown all h = rw h.1 all
claims_finished {V} {G} P old new r (Stale stamp) all h =
    claims_closed P old new r.claim (ap (λ (s : MemoState V G). s.claims) h.3) all
claims_finished {V} {G} P old new r Same all h =
    claims_closed P old new r.claim (ap (λ (s : MemoState V G). s.claims) (h.0).after) all
claims_finished {V} {G} P old new r (Stored names) all h =
    claims_closed P old new r.claim (ap (λ (s : MemoState V G). s.claims) (h.0).after) all

claims_lost : {V G : Type 0} (P : OpenClaim → Type 0) (old new : MemoState V G) (n : ℕ) (b : Bool)
    → Each P old.claims → Loses old n b new → Each P new.claims
claims_lost {V} {G} P old new n true all h =
    claims_closed P old new n (ap (λ (s : MemoState V G). s.claims) h.2) all
claims_lost P old new n false all h = rw h.1 all

claims_given : {V G : Type 0} (P : OpenClaim → Type 0) (old new : MemoState V G) (number : ℕ) (n : Node)
    (given : G) (keys : List Key) (values : List V)
    → ((c : OpenClaim) → old.taken < c.number → P c) → Each P old.claims
    → Gives old number n given keys values new → Each P new.claims
claims_given {V} {G} P old new number n given keys values later all g =
    let claim : OpenClaim = record { number = number; node = n; inputs = present_inputs old.net old.memos (old.net.inputs n) } in
    subst (λ (cs : List OpenClaim). Each P cs) (sym (ap (λ (s : MemoState V G). s.claims) g.after))
    (each_last P old.claims claim all (later claim (omega (arith, g.number_is))))

-- ---- jobs

job_same : {V G : Type 0} (old new : MemoState V G) (n : Node) (given : G) (keys : List Key)
    (values : List V) → new.net ≡ old.net → new.memos ≡ old.memos
    → IsJobNow old n given keys values → IsJobNow new n given keys values
job_same old new n given keys values net memos h =
    record {
      gives = rw net h.gives;
      keys_are = rw net h.keys_are;
      settled = rw (net, memos) h.settled;
      present = rw (net, memos) h.present;
    }

job_finished : {V G : Type 0} (old new : MemoState V G) (r : Return V G) (f : Finish) (n : Node)
    (given : G) (keys : List Key) (values : List V)
    → IsFreshFrom old.memos old.claims → IsJobNow old n given keys values → FinishesReturn old r f new
    → IsJobNow new n given keys values
job_finished old new r Unknown n given keys values fresh job h = rw h.1 job
job_finished {V} {G} old new r (Stale stamp) n given keys values fresh job h =
    job_same old new n given keys values (ap (λ (s : MemoState V G). s.net) h.3)
    (ap (λ (s : MemoState V G). s.memos) h.3) job
job_finished old new r Same n given keys values fresh job h =
    accept_job old new r fresh h.0 n given keys values job
job_finished old new r (Stored names) n given keys values fresh job h =
    accept_job old new r fresh h.0 n given keys values job

job_lost : {V G : Type 0} (old new : MemoState V G) (m : ℕ) (b : Bool) (n : Node) (given : G)
    (keys : List Key) (values : List V) → IsJobNow old n given keys values → Loses old m b new
    → IsJobNow new n given keys values
job_lost {V} {G} old new m true n given keys values job h =
    job_same old new n given keys values (ap (λ (s : MemoState V G). s.net) h.2)
    (ap (λ (s : MemoState V G). s.memos) h.2) job
job_lost old new m false n given keys values job h = rw h.1 job

-- a return of what the job made is accepted
job_accepted : {V G : Type 0} (first : ℕ) (old new : MemoState V G) (r : Return V G) (f : Finish)
    (d : OpenClaim) (n : Node) → AreReadyAbove first old → first < r.claim
    → claim_of r.claim old.claims ≡ Some d → d.node ≡ r.node
    → IsJobNow old r.node r.given r.keys r.values → FinishesReturn old r f new → is_accepted f ≡ true
job_accepted first old new r Unknown d n all lt found same job h =
    let out : IsOut old r d = record { found = found; same = same } in
    let present : IsOfPresent old r = record { given = job.gives; keys = job.keys_are; values = job.present } in
    absurd ((h.0 d out).1 present)
job_accepted first old new r (Stale stamp) d n all lt found same job h =
    let c = h.0 in
    let there = found_in (IsReadyAbove first old) r.claim old.claims c all (h.1).found in
    let higher : first < c.number = omega (arith, lt, there.1) in
    absurd (not_stale old c stamp (there.0 higher) h.2)
job_accepted first old new r Same d n all lt found same job h = refl
job_accepted first old new r (Stored names) d n all lt found same job h = refl

module _ {T E V G : Type 0} (means : TextsMeaning T E V G) where
  step_claims : (P : OpenClaim → Type 0) (old new : Bench T V) (e : MemoEvent E V G) → IsJobEvent e
      → ((c : OpenClaim) → old.taken < c.number → P c) → Each P old.claims → Step means old e new
      → Each P new.claims
  step_claims P old new (Edit e) job later all h = absurd job
  step_claims P old new (Claim number n given keys values) job later all h =
      claims_given P (state_in means old) (state_in means new) number n given keys values later all
      h.1
  step_claims P old new NoClaim job later all h = rw h.1 all
  step_claims P old new (Returned r answer) job later all h =
      claims_finished P (state_in means old) (state_in means new) r answer all h.2
  step_claims P old new (Lose n answer) job later all h =
      claims_lost P (state_in means old) (state_in means new) n answer all h.1
  step_claims P old new Renew job later all h = absurd job
  step_claims P old new Refused job later all h = rw h.claims all

  step_job : (old new : Bench T V) (e : MemoEvent E V G) (n : Node) (given : G) (keys : List Key)
      (values : List V) → IsJobEvent e → IsFreshFrom old.memos old.claims
      → IsJobNow (state_in means old) n given keys values → Step means old e new
      → IsJobNow (state_in means new) n given keys values
  step_job old new (Edit e) n given keys values job fresh now h = absurd job
  step_job old new (Claim number m g ks vs) n given keys values job fresh now h =
      job_same (state_in means old) (state_in means new) n given keys values
      (ap (λ (s : MemoState V G). s.net) (h.1).after) (ap (λ (s : MemoState V G). s.memos) (h.1).after)
      now
  step_job old new NoClaim n given keys values job fresh now h = rw h.1 now
  step_job old new (Returned r answer) n given keys values job fresh now h =
      job_finished (state_in means old) (state_in means new) r answer n given keys values fresh now
      h.2
  step_job old new (Lose m answer) n given keys values job fresh now h =
      job_lost (state_in means old) (state_in means new) m answer n given keys values now h.1
  step_job old new Renew n given keys values job fresh now h = absurd job
  step_job old new Refused n given keys values job fresh now h =
      job_same (state_in means old) (state_in means new) n given keys values h.texts.net h.memos now

  -- while a job is out
  record IsJobOut (first number : ℕ) (n : Node) (given : G) (keys : List Key) (values : List V)
      (b : Bench T V) : Type 0 where
    apart : AreApart (state_in means b)
    low : number ≤ b.taken
    all : AreReadyAbove first (state_in means b)
    one : Each (λ c. c.number ≡ number → c.node ≡ n) b.claims
    now : IsJobNow (state_in means b) n given keys values

  step_out : (first number : ℕ) (n : Node) (given : G) (keys : List Key) (values : List V)
      (old new : Bench T V) (e : MemoEvent E V G) → IsJobEvent e
      → IsJobOut first number n given keys values old → Step means old e new
      → IsJobOut first number n given keys values new
  step_out first number n given keys values old new e job out h =
      let low = out.low in
      let more = (step_goes means old new e h).more in
      record {
        apart = step_apart means old new e out.apart h;
        low = omega (arith, low, more);
        all = step_above means first old new e job (out.apart).fresh out.all h;
        one =
            step_claims (λ c. c.number ≡ number → c.node ≡ n) old new e job
            (λ c lt is. absurd (omega (arith, low, lt, is))) out.one h;
        now = step_job old new e n given keys values job (out.apart).fresh out.now h;
      }

  run_out : (first number : ℕ) (n : Node) (given : G) (keys : List Key) (values : List V)
      (es : List (MemoEvent E V G)) (old new : Bench T V) → Each IsJobEvent es
      → IsJobOut first number n given keys values old → MemoRun means old es new
      → IsJobOut first number n given keys values new
  run_out first number n given keys values [] old new jobs out h = rw h out
  run_out first number n given keys values (e ∷ es) old new jobs out h =
      run_out first number n given keys values es h.0 new jobs.1
      (step_out first number n given keys values old h.0 e jobs.0 out h.1) h.2

  -- none of the claims before has the number of a new one
  numbered_one : (taken number : ℕ) (n : Node) (cs : List OpenClaim) → taken < number
      → AreClaimsNumbered taken cs → Each (λ c. c.number ≡ number → c.node ≡ n) cs
  numbered_one taken number n [] lt a = tt
  numbered_one taken number n (c ∷ cs) lt a =
      ((λ is. absurd (omega (arith, lt, is, a.0))), numbered_one taken number n cs lt a.1)

  given_out : (old new : Bench T V) (number : ℕ) (n : Node) (given : G) (keys : List Key)
      (values : List V) → AreApart (state_in means old)
      → Step means old (Claim number n given keys values) new
      → IsJobOut old.taken number n given keys values new
  given_out old new number n given keys values apart h =
      let g = h.1 in
      let is : number ≡ old.taken + 1 = g.number_is in
      let now : IsJobNow (state_in means old) n given keys values = record { gives = g.given_is; keys_are = g.keys_are; settled = g.work.inputs_settled; present = rw g.keys_are at g.values_are } in
      let claim : OpenClaim = record { number = number; node = n; inputs = present_inputs (means.net old.texts) old.memos ((means.net old.texts).inputs n) } in
      let taken : new.taken ≡ number = ap (λ (s : MemoState V G). s.taken) g.after in
      record {
        apart = step_apart means old new (Claim number n given keys values) apart h;
        low = omega (arith, taken);
        all =
            above_given old.taken (state_in means old) (state_in means new) number n given keys
            values (above_none (state_in means old) old.claims apart.numbered) g;
        one =
            subst (λ (cs : List OpenClaim). Each (λ c. c.number ≡ number → c.node ≡ n) cs)
            (sym (ap (λ (s : MemoState V G). s.claims) g.after))
            (each_last (λ c. c.number ≡ number → c.node ≡ n) old.claims claim
            (numbered_one old.taken number n old.claims (omega (arith, is)) apart.numbered)
            (λ same. refl));
        now =
            step_job old new (Claim number n given keys values) n given keys values tt apart.fresh
            now h;
      }

  pub accepted_from : (later : List (MemoEvent E V G)) (old start end new : Bench T V) (number : ℕ)
      (n : Node) (given : G) (keys : List Key) (values : List V) (r : Return V G) (answer : Finish)
      → AreApart (state_in means old) → Step means old (Claim number n given keys values) start
      → MemoRun means start later end → Each IsJobEvent later → IsClaimOut end number
      → task_answered r ≡ task_of number n given keys values
      → Step means end (Returned r answer) new → is_accepted answer ≡ true
  accepted_from later old start end new number n given keys values r answer apart claimed more jobs
      out task step =
      let is : number ≡ old.taken + 1 = (claimed.1).number_is in
      let held = run_out old.taken number n given keys values later start end jobs (given_out old start number n given keys values apart claimed) more in
      let claim : r.claim ≡ number = ap (λ (t : Task V G). t.claim) task in
      let node : r.node ≡ n = ap (λ (t : Task V G). t.node) task in
      let one = found_in (λ c. c.number ≡ number → c.node ≡ n) number end.claims out.0 held.one out.1 in
      let found : claim_of r.claim end.claims ≡ Some out.0 = rw claim out.1 in
      let same : (out.0).node ≡ r.node = one.0 (sym one.1) ∙ sym node in
      let job : IsJobNow (state_in means end) r.node r.given r.keys r.values = subst (λ (t : Task V G). IsJobNow (state_in means end) t.node t.given t.keys t.values) (sym task) held.now in
      job_accepted old.taken (state_in means end) (state_in means new) r answer out.0 n held.all
      (omega (arith, claim, is)) found same job step.2

  pub jobs_accepted : JobsAreAccepted means
  jobs_accepted earlier later first old start end new number n given keys values r answer s run
      claimed more jobs out task step =
      accepted_from later old start end new number n given keys values r answer
      (apart_after means earlier first old s run) claimed more jobs out task step
