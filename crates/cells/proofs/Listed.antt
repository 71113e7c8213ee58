use Rattle.std.proofs.Common.{◌≡◌, ℕ, ◌+◌, inl, inr, Bool, true, false, ◌&&◌, ◌==◌, List, [], ◌∷◌, ◌++◌, Option, Some, None, if◌then◌else◌, refl, ap, sym, ◌∙◌, subst, eq-eqb, append_assoc, arith}
use Rattle.std.specs.Prelude.{⊤, Result, Ok, Err}
use Rattle.std.specs.List.{AllByRecursion as Each}
use Rattle.std.proofs.lemmas.Bool.{cases_Bool}
use Rattle.value_store.specs.declared.fault.StoreFault.{StoreFault}
use Rattle.memo_core.specs.declared.claims.ClaimFault.{ClaimFault}
use Rattle.memo_core.specs.declared.claims.Finish.{Finish}
use Rattle.memo_core.specs.declared.claims.Finish.TheVariants.{Unknown, Stale, Same, Stored}
use Rattle.memo_core.specs.Run as core
use Rattle.memo_core.specs.Run.{Bench, TextsMeaning, Step, MemoRun}
use Rattle.memo_core.specs.Work.{IsJobEvent, number_given, numbers_given, has_number, is_accepted, accepted_by, accepted_count, WorkIsBounded}
use Rattle.cells.specs.declared.events.Event.{Event}
use Rattle.cells.specs.declared.events.Event.TheVariants.{Edit, Claim, Return, Lose, Renew}
use Rattle.cells.specs.declared.events.Reply.{Reply}
use Rattle.cells.specs.declared.events.Reply.TheVariants.{Edited, Claimed, Returned, Lost, Renewed}
use Rattle.cells.specs.Views.{Task}
use Rattle.cells.specs.Events.{Refusing, IsEdited, IsClaimed, IsReturned, IsEventAnswered, AreEventsAnswered, IsJob, accepted_in, accepted_among, task_given}
use Rattle.cells.specs.CellLaws.{ListBoundsWork}

module _ {T E V G : Type 0} (means : TextsMeaning T E V G) where
  -- two runs are one
  pub runs_on : (es fs : List (core.MemoEvent E V G)) (old mid new : Bench T V) → MemoRun means old es mid
      → MemoRun means mid fs new → MemoRun means old (es ++ fs) new
  runs_on [] fs old mid new h k = subst (λ (b : Bench T V). MemoRun means b fs new) h k
  runs_on (e ∷ es) fs old mid new h k = (h.0, h.1, runs_on es fs h.0 mid new h.2 k)

-- the claims of the jobs that a list was given are among these numbers
abbrev AreGivenIn : {V G : Type 0} → List ℕ → List (Task V G) → Type 0
AreGivenIn ns given = Each (λ t. has_number t.claim ns ≡ true) given

abbrev HasAll : List ℕ → List ℕ → Type 0
HasAll ns ms = (n : ℕ) → has_number n ms ≡ true → has_number n ns ≡ true

-- the run of an event with its reply, or of a list of them
pub record HasRun {T E V G : Type 0} (means : TextsMeaning T E V G) (jobs : Type 0)
    (given after : List (Task V G)) (accepted : ℕ) (old new : Bench T V) : Type 0 where
  pub run : List (core.MemoEvent E V G)
  pub is : MemoRun means old run new
  pub are_jobs : jobs → Each IsJobEvent run
  pub after_in : (ns : List ℕ) → AreGivenIn ns given → HasAll ns (numbers_given run)
      → AreGivenIn ns after
  pub counts : (ns : List ℕ) → AreGivenIn ns given → HasAll ns (numbers_given run)
      → accepted_count ns run ≡ accepted

abbrev one_if : Bool → ℕ
one_if b = if b then 1 else 0

if_and : (b c : Bool) → c ≡ true → one_if (b && c) ≡ one_if b
if_and true c h = rw h refl
if_and false c h = refl

has_left : (n : ℕ) (ms ns : List ℕ) → has_number n ms ≡ true → has_number n (ms ++ ns) ≡ true
has_left n [] ns h = cc
has_left n (m ∷ ms) ns h =
    elim (cases_Bool (n == m)) [ inl t ↦ rw t refl | inr f ↦ rw f (has_left n ms ns (rw f at h)) ]

has_right : (n : ℕ) (ms ns : List ℕ) → has_number n ns ≡ true → has_number n (ms ++ ns) ≡ true
has_right n [] ns h = h
has_right n (m ∷ ms) ns h =
    elim (cases_Bool (n == m)) [ inl t ↦ rw t refl | inr f ↦ rw f (has_right n ms ns h) ]

given_in : {V G : Type 0} (ns : List ℕ) (c : ℕ) (ts : List (Task V G)) (t : Task V G)
    → AreGivenIn ns ts → task_given c ts ≡ Some t → has_number t.claim ns ≡ true
given_in ns c [] t e h = cc
given_in {V} {G} ns c (u ∷ ts) t e h = elim (cases_Bool (c == u.claim)) [
  | inl y ↦ subst (λ (x : Task V G). has_number x.claim ns ≡ true) (some_same u t (rw y at h)) e.0
  | inr f ↦ given_in ns c ts t e.1 (rw f at h)
]
  where
    some_same : (x y : Task V G) → Some x ≡ Some y → x ≡ y
    some_same x y h = cc

each_append : {X : Type 0} (P : X → Type 0) (xs ys : List X) → Each P xs → Each P ys
    → Each P (xs ++ ys)
each_append P [] ys a b = b
each_append P (x ∷ xs) ys a b = (a.0, each_append P xs ys a.1 b)

module _ {E V G : Type 0} where
  numbers_on : (es fs : List (core.MemoEvent E V G))
      → numbers_given (es ++ fs) ≡ numbers_given es ++ numbers_given fs
  numbers_on [] fs = refl
  numbers_on (e ∷ es) fs =
      ap (λ (ns : List ℕ). number_given e ++ ns) (numbers_on es fs)
      ∙ sym (append_assoc (number_given e) (numbers_given es) (numbers_given fs))

  count_on : (ns : List ℕ) (es fs : List (core.MemoEvent E V G))
      → accepted_count ns (es ++ fs) ≡ accepted_count ns es + accepted_count ns fs
  count_on ns [] fs = omega arith
  count_on ns (e ∷ es) fs = omega (arith, count_on ns es fs)

module _ {T E V G : Type 0} (means : TextsMeaning T E V G) where
  -- nothing happens
  none_run : (jobs : Type 0) (given after : List (Task V G)) (old new : Bench T V) → new ≡ old
      → after ≡ given → HasRun means jobs given after 0 old new
  none_run jobs given after old new is same = record {
    run = [];
    is = is;
    are_jobs = λ j. tt;
    after_in = λ ns g h. rw same g;
    counts = λ ns g h. refl;
  }

  -- one event happens, which gives no job
  step_run : (jobs : Type 0) (given after : List (Task V G)) (accepted : ℕ) (old new : Bench T V)
      (e : core.MemoEvent E V G) → Step means old e new → after ≡ given → (jobs → IsJobEvent e)
      → ((ns : List ℕ) → AreGivenIn ns given → accepted_by ns e ≡ accepted)
      → HasRun means jobs given after accepted old new
  step_run jobs given after accepted old new e step same job count = record {
    run = e ∷ [];
    is = (new, step, refl);
    are_jobs = λ j. (job j, tt);
    after_in = λ ns g h. rw same g;
    counts = λ ns g h. let one = count ns g in omega (arith, one);
  }

  -- one event after others
  two_runs : (jobs more : Type 0) (given later after : List (Task V G)) (a b : ℕ)
      (old mid new : Bench T V) → HasRun means jobs given later a old mid
      → HasRun means more later after b mid new
      → HasRun means (jobs × more) given after (a + b) old new
  two_runs jobs more given later after a b old mid new one rest =
      let left : (ns : List ℕ) → HasAll ns (numbers_given (one.run ++ rest.run)) → HasAll ns (numbers_given one.run) = λ ns h n t. h n (rw (numbers_on one.run rest.run) (has_left n (numbers_given one.run) (numbers_given rest.run) t)) in
      let right : (ns : List ℕ) → HasAll ns (numbers_given (one.run ++ rest.run)) → HasAll ns (numbers_given rest.run) = λ ns h n t. h n (rw (numbers_on one.run rest.run) (has_right n (numbers_given one.run) (numbers_given rest.run) t)) in
      record {
        run = one.run ++ rest.run;
        is = runs_on means one.run rest.run old mid new one.is rest.is;
        are_jobs =
            λ j. each_append IsJobEvent one.run rest.run (one.are_jobs j.0) (rest.are_jobs j.1);
        after_in = λ ns g h. rest.after_in ns (one.after_in ns g (left ns h)) (right ns h);
        counts =
            λ ns g h.
            let x = one.counts ns g (left ns h) in
            let y = rest.counts ns (one.after_in ns g (left ns h)) (right ns h) in
            let z = count_on ns one.run rest.run in omega (arith, x, y, z);
      }

module _ {T E V G F : Type 0} (means : TextsMeaning T E V G) (refuses : Refusing T E F) (last : T → ℕ)
  where
    edited_run : (old new : Bench T V) (given after : List (Task V G)) (e : E) (r : Result ℕ F)
        → IsEdited means refuses last old e r new → after ≡ given
        → HasRun means ⊥ given after 0 old new
    edited_run old new given after e (Ok number) h same =
        step_run means ⊥ given after 0 old new (core.Edit e) h.2 same (λ j. absurd j) (λ ns g. refl)
    edited_run old new given after e (Err fault) h same =
        step_run means ⊥ given after 0 old new core.Refused h.1 same (λ j. absurd j) (λ ns g. refl)

    claimed_run : (old new : Bench T V) (given after : List (Task V G))
        (r : Result (Option ℕ) ClaimFault) → IsClaimed means refuses last old given r new after
        → HasRun means ⊤ given after 0 old new
    claimed_run old new given after (Ok (Some number)) h = record {
      run = core.Claim (h.1).claim (h.1).node (h.1).given (h.1).keys (h.1).values ∷ [];
      is = (new, h.3, refl);
      are_jobs = λ j. (tt, tt);
      after_in =
          λ ns g k. rw h.4 (each_append (λ t. has_number t.claim ns ≡ true) given (h.1 ∷ []) g
          ((k (h.1).claim (rw (eq-eqb (h.1).claim (h.1).claim refl) refl), tt)));
      counts = λ ns g k. refl;
    }
    claimed_run old new given after (Ok None) h =
        step_run means ⊤ given after 0 old new core.NoClaim h.1 h.2 (λ j. tt) (λ ns g. refl)
    claimed_run old new given after (Err fault) h =
        step_run means ⊤ given after 0 old new core.Refused h.1 h.3 (λ j. tt) (λ ns g. refl)

    returned_run : (old new : Bench T V) (given after : List (Task V G)) (claim : ℕ)
        (o : Option (Task V G)) (r : Result Finish StoreFault) → task_given claim given ≡ o
        → IsReturned means refuses last old o r new → after ≡ given
        → HasRun means ⊤ given after (accepted_in {F = F} (Returned r)) old new
    returned_run old new given after claim None (Ok Unknown) is h same =
        none_run means ⊤ given after old new h same
    returned_run old new given after claim None (Ok (Stale stamp)) is h same = absurd h
    returned_run old new given after claim None (Ok Same) is h same = absurd h
    returned_run old new given after claim None (Ok (Stored names)) is h same = absurd h
    returned_run old new given after claim None (Err fault) is h same = absurd h
    returned_run old new given after claim (Some t) (Ok answer) is h same =
        step_run means ⊤ given after (if is_accepted answer then 1 else 0) old new
        (core.Returned h.0 answer) h.2 same (λ j. tt)
        (λ ns g. if_and (is_accepted answer) (has_number (h.0).claim ns) (subst
        (λ (u : Task V G). has_number u.claim ns ≡ true) (sym h.1)
        (given_in ns claim given t g is)))
    returned_run old new given after claim (Some t) (Err fault) is h same =
        none_run means ⊤ given after old new h same

    answered_run : (old new : Bench T V) (given after : List (Task V G)) (e : Event E) (r : Reply F)
        → IsEventAnswered means refuses last old given e r new after
        → HasRun means (IsJob e) given after (accepted_in r) old new
    answered_run old new given after (Edit e) (Edited r) h =
        edited_run old new given after e r h.0 h.1
    answered_run old new given after (Edit e) (Claimed r) h = absurd h
    answered_run old new given after (Edit e) (Returned r) h = absurd h
    answered_run old new given after (Edit e) (Lost r) h = absurd h
    answered_run old new given after (Edit e) Renewed h = absurd h
    answered_run old new given after Claim (Edited r) h = absurd h
    answered_run old new given after Claim (Claimed r) h = claimed_run old new given after r h
    answered_run old new given after Claim (Returned r) h = absurd h
    answered_run old new given after Claim (Lost r) h = absurd h
    answered_run old new given after Claim Renewed h = absurd h
    answered_run old new given after (Return claim) (Edited r) h = absurd h
    answered_run old new given after (Return claim) (Claimed r) h = absurd h
    answered_run old new given after (Return claim) (Returned r) h =
        returned_run old new given after claim (task_given claim given) r refl h.0 h.1
    answered_run old new given after (Return claim) (Lost r) h = absurd h
    answered_run old new given after (Return claim) Renewed h = absurd h
    answered_run old new given after (Lose claim) (Edited r) h = absurd h
    answered_run old new given after (Lose claim) (Claimed r) h = absurd h
    answered_run old new given after (Lose claim) (Returned r) h = absurd h
    answered_run old new given after (Lose claim) (Lost r) h =
        step_run means ⊤ given after 0 old new (core.Lose claim r) h.0 h.1 (λ j. tt) (λ ns g. refl)
    answered_run old new given after (Lose claim) Renewed h = absurd h
    answered_run old new given after Renew (Edited r) h = absurd h
    answered_run old new given after Renew (Claimed r) h = absurd h
    answered_run old new given after Renew (Returned r) h = absurd h
    answered_run old new given after Renew (Lost r) h = absurd h
    answered_run old new given after Renew Renewed h =
        step_run means ⊥ given after 0 old new core.Renew h.0 h.1 (λ j. absurd j) (λ ns g. refl)

    -- events with their replies are a run
    pub lists_run : (old new : Bench T V) (given after : List (Task V G)) (es : List (Event E))
        (rs : List (Reply F)) → AreEventsAnswered means refuses last old given es rs new after
        → HasRun means (Each IsJob es) given after (accepted_among rs) old new
    lists_run old new given after [] [] h = none_run means ⊤ given after old new h.0 h.1
    lists_run old new given after [] (r ∷ rs) h = absurd h
    lists_run old new given after (e ∷ es) [] h = absurd h
    lists_run old new given after (e ∷ es) (r ∷ rs) h =
        two_runs means (IsJob e) (Each IsJob es) given h.1 after (accepted_in r) (accepted_among rs)
        old h.0 new (answered_run old h.0 given h.1 e r h.2)
        (lists_run h.0 new h.1 after es rs h.3)

    pub list_bounds : WorkIsBounded means → ListBoundsWork means refuses last
    list_bounds bounded earlier first start end events replies before after s run answers jobs was
        is
        =
        let all = lists_run start end [] answers.0 events replies answers.1 in
        let low = bounded earlier all.run first start end before after s run all.is (all.are_jobs jobs) was is in
        let count = all.counts (numbers_given all.run) tt (λ n t. t) in
        omega (arith, low, count)
