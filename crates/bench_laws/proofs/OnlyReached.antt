-- An edit gives no job of a node under a settled cell that it does not reach.
use Rattle.std.proofs.Common.{◌≡◌, ℕ, ◌+◌, ◌≤◌, inl, inr, Bool, true, false, not, List, [], ◌∷◌, Some, refl, sym, ap, subst, ◌∙◌, arith}
use Rattle.std.specs.List.{AllByRecursion as Each}
use Rattle.std.proofs.lemmas.Bool.{cases_Bool}
use Rattle.memo_core.specs.declared.keys.Node.{Node}
use Rattle.memo_core.specs.declared.keys.Key.{Key}
use Rattle.memo_core.specs.Graph.{Net, IsSettled}
use Rattle.memo_core.specs.Run.{MemoEvent, Edit, Claim, NoClaim, Returned, Lose, Renew, Refused, MemoRun, Step, count_unsettled, state_in}
use Rattle.memo_core.specs.Step.{Has}
use Rattle.memo_core.specs.Work.{IsJobEvent}
use Rattle.memo_core.proofs.Exact.{AreApart}
use Rattle.memo_core.proofs.Headline.{untouched_edit}
use Rattle.memo_core.proofs.Runs.{run_since}
use Rattle.bench_values.specs.Givens.{GivenContent}
use Rattle.bench_values.specs.Values.{NodeContent}
use Rattle.bench_nodes.specs.Nodes.{rank}
use Rattle.bench_texts.specs.declared.edit.Edit.{Edit as Code}
use Rattle.bench_parts.specs.States.{keeps}
use Rattle.bench_instance.specs.StampedTexts.{AreSoundTexts, stamped_net, verdict_of}
use Rattle.bench_instance.specs.Lemmas.StampedLaws.{since_itself}
use Rattle.bench_instance.specs.Lemmas.LeftCells.{cells_left}
use Rattle.bench_laws.specs.Live.{live_meaning, live_last}
use Rattle.bench_laws.specs.There.{LiveState}
use Rattle.bench_laws.specs.OnlyReached.{IsUnreachedCell, IsUnderCell, IsUnderUnreached, OnlyReachedIsGiven, ReachedBoundsGiven}
use Rattle.bench_laws.specs.Jobs.{given_count, lost_count}
use Rattle.bench_laws.proofs.Given.{bounded_from, decision, decision_is}
use Rattle.bench_laws.proofs.Once.{given_open, run_settled}
use Rattle.bench_laws.proofs.Ready.{apart_after, step_apart}
use Rattle.bench_laws.proofs.Runs.{kept, has_ranks, sound_after}
use Rattle.bench_laws.proofs.SameVerdicts.{same_verdicts}
use Rattle.bench_laws.proofs.Unreached.{settled_under}

abbrev LiveEvent : Type 0
LiveEvent = MemoEvent Code NodeContent GivenContent

some_is : {A : Type 0} {a b : A} → Some a ≡ Some b → a ≡ b
some_is e = cc

-- ---- claims, returns, losses and refused calls leave the nodes and the verdicts

record SaysTheSame (old new : LiveState) : Type 0 where
  nodes : stamped_net new.texts ≡ stamped_net old.texts
  last : live_last new.texts ≡ live_last old.texts

same_texts : (old new : LiveState) → new.texts ≡ old.texts → SaysTheSame old new
same_texts old new e = record { nodes = ap stamped_net e; last = ap live_last e }

step_same : (old new : LiveState) (e : LiveEvent) → IsJobEvent e → Step live_meaning old e new
    → SaysTheSame old new
step_same old new (Edit e) job h = absurd job
step_same old new (Claim number n given keys values) job h = same_texts old new h.0
step_same old new NoClaim job h = same_texts old new (ap (λ (b : LiveState). b.texts) h.1)
step_same old new (Returned r answer) job h = same_texts old new h.1
step_same old new (Lose n answer) job h = same_texts old new h.0
step_same old new Renew job h = absurd job
step_same old new Refused job h = record { nodes = h.texts.net; last = h.texts.last }

run_same : (es : List LiveEvent) (old new : LiveState) → Each IsJobEvent es
    → MemoRun live_meaning old es new → SaysTheSame old new
run_same [] old new jobs h = same_texts old new (ap (λ (b : LiveState). b.texts) h)
run_same (e ∷ es) old new jobs h =
    let one = step_same old h.0 e jobs.0 h.1 in
    let rest = run_same es h.0 new jobs.1 h.2 in
    record { nodes = rest.nodes ∙ one.nodes; last = rest.last ∙ one.last }

verdicts_same : (es : List LiveEvent) (old new : LiveState) → Each IsJobEvent es
    → MemoRun live_meaning old es new → AreSoundTexts old.texts → (test model : List ℕ)
    → verdict_of new.texts test model ≡ verdict_of old.texts test model
verdicts_same es old new jobs h sound test model =
    let same = run_same es old new jobs h in
    let since = run_since live_meaning kept es old new old.texts (sound, since_itself old.texts sound) h in
    same_verdicts old.texts new.texts sound since.0 (since.1.same same.last)
    (ap (λ (net : Net GivenContent). net.used) same.nodes) test model

-- ---- after an edit

module _ (old start : LiveState) (e : Code) (sound : AreSoundTexts old.texts)
    (apart : AreApart (state_in live_meaning old)) (step : Step live_meaning old (Edit e) start) where
  start_sound : AreSoundTexts start.texts
  start_sound = kept.valid_edited old.texts start.texts e (old.taken + 1) sound step.0

  start_apart : AreApart (state_in live_meaning start)
  start_apart = step_apart live_meaning old start (Edit e) apart step

  -- a settled cell that the edit does not reach stays settled
  verdict_settled : (test model : List ℕ) (v : Node) → IsUnreachedCell old start test model
      → verdict_of start.texts test model ≡ Some v → IsSettled (stamped_net start.texts) start.memos v
  verdict_settled test model v cell is =
      let was = cell.settled in
      let left = cells_left old.texts start.texts e (old.taken + 1) test model sound step.0 (λ reached. reached cell.slice) was.verdict was.is in
      subst (λ (k : Node). IsSettled (stamped_net start.texts) start.memos k)
      (some_is (sym left.0 ∙ is))
      (untouched_edit (λ n. keeps start.texts.parts n) (state_in live_meaning old)
      (state_in live_meaning start) was.verdict step.1 left.1 was.settled)

  -- so does what it stands on
  under_settled : (n : Node) → IsUnderUnreached old start n
      → IsSettled (stamped_net start.texts) start.memos n
  under_settled n h =
      let of = h.under in
      let settled = verdict_settled h.test h.model of.verdict h.cell of.is in
      settled_under (stamped_net start.texts) start.memos (of.stands).0 settled.0 of.verdict n
      (of.stands).1 settled.1

  -- also after claims, returns, losses and refused calls
  settled_later : (later : List LiveEvent) (mid : LiveState) (n : Node) (test model : List ℕ)
      → MemoRun live_meaning start later mid → Each IsJobEvent later
      → IsUnreachedCell old start test model → IsUnderCell mid test model n
      → IsSettled (stamped_net mid.texts) mid.memos n
  settled_later later mid n test model more jobs cell under =
      let same = verdicts_same later start mid jobs more start_sound test model in
      let was = verdict_settled test model under.verdict cell (sym same ∙ under.is) in
      let settled = run_settled live_meaning later start mid jobs start_apart more under.verdict was in
      settled_under (stamped_net mid.texts) mid.memos (under.stands).0 settled.0 under.verdict n
      (under.stands).1 settled.1

  pub reached_given : (later : List LiveEvent) (mid end : LiveState) (number : ℕ) (n : Node)
      (given : GivenContent) (keys : List Key) (values : List NodeContent) (test model : List ℕ)
      → MemoRun live_meaning start later mid → Each IsJobEvent later
      → Step live_meaning mid (Claim number n given keys values) end
      → IsUnreachedCell old start test model → IsUnderCell mid test model n → ⊥
  reached_given later mid end number n given keys values test model more jobs claim cell under =
      given_open live_meaning mid end number n given keys values claim
      (settled_later later mid n test model more jobs cell under)

pub only_reached_is_given : OnlyReachedIsGiven
only_reached_is_given earlier later first old start mid end e number n given keys values test model
    s run step more jobs claim cell under =
    reached_given old start e (sound_after earlier first old s run)
    (apart_after live_meaning earlier first old s run) step later mid end number n given keys
    values test model more jobs claim cell under

-- ---- how many jobs

not_true : (b : Bool) → not b ≡ true → b ≡ false
not_true true h = cc
not_true false h = refl

-- where each of these nodes of which the first holds has the second, no more lack it
count_no_more : (p q : Node → Bool) (ns : List Node)
    → ((n : Node) → Has ns n → p n ≡ true → q n ≡ true)
    → count_unsettled q ns ≤ count_unsettled p ns
count_no_more p q [] f = omega arith
count_no_more p q (n ∷ ns) f =
    let rest = count_no_more p q ns (λ m h t. f m (inr h) t) in
    elim (cases_Bool (p n)) [
      | inl t ↦ rw (t, f n (inl refl) t) rest
      | inr g ↦ elim (cases_Bool (q n)) [
        | inl t ↦ rw (g, t) (omega (arith, rest))
        | inr h ↦ rw (g, h) (omega (arith, rest))
      ]
    ]

pub reached_bounded : (old start end : LiveState) (e : Code) (later : List LiveEvent)
    (is_open : Node → Bool) → AreSoundTexts old.texts → AreApart (state_in live_meaning old)
    → Step live_meaning old (Edit e) start
    → ((n : Node) → Has (stamped_net start.texts).used n → is_open n ≡ false
    → IsUnderUnreached old start n)
    → MemoRun live_meaning start later end → Each IsJobEvent later
    → given_count later
    ≤ count_unsettled (λ n. not (is_open n)) (stamped_net start.texts).used + lost_count later
reached_bounded old start end e later is_open sound apart step under more jobs =
    let now = decision live_meaning kept (λ t. rank t.parts.table) has_ranks start in
    let is = decision_is live_meaning kept (λ t. rank t.parts.table) has_ranks start (start_sound old start e sound apart step) in
    let low = bounded_from live_meaning kept (λ t. rank t.parts.table) has_ranks later start end now (start_sound old start e sound apart step) (start_apart old start e sound apart step) more jobs is in
    let still : (n : Node) → Has (stamped_net start.texts).used n → not (is_open n) ≡ true → now n ≡ true =
    λ n has t.
    (is n).1 (under_settled old start e sound apart step n
    (under n has (not_true (is_open n) t))) in
    let fewer = count_no_more (λ n. not (is_open n)) now (stamped_net start.texts).used still in
    omega (arith, low, fewer)

pub reached_bounds_given : ReachedBoundsGiven
reached_bounds_given earlier later first old start end e is_open s run step under more jobs =
    reached_bounded old start end e later is_open (sound_after earlier first old s run)
    (apart_after live_meaning earlier first old s run) step under more jobs
