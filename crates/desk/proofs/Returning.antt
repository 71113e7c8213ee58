-- A return settles only cells whose verdicts stand on its node, and the other calls settle none.
use Rattle.std.proofs.Common.{◌≡◌, inl, inr, ℕ, ◌+◌, ◌<◌, ◌≤◌, Bool, true, false, List, [], ◌∷◌, ◌++◌, Option, Some, None, refl, ap, sym, ◌∙◌, subst, arith}
use Rattle.std.specs.Prelude.{IfSome, IfNone, length, IsTrue, not}
use Rattle.std.specs.List.{AllByRecursion as Each}
use Rattle.std.proofs.Math.Nat.{lt_of_not-le}
use mathlib.Core.List.{IsPrefix}
use Rattle.memo_core.specs.declared.keys.Node.{Node}
use Rattle.memo_core.specs.declared.keys.Key.{Key}
use Rattle.memo_core.specs.declared.claims.Finish.{Finish}
use Rattle.memo_core.specs.Step.{MemoState, Return}
use Rattle.memo_core.specs.Run.{Bench, TextsMeaning, Claim, NoClaim, Returned, Refused, Step, state_in}
use Rattle.cells.specs.Cells.{Cells}
use Rattle.desk_ledger.specs.Boards.{BoardCell, ArePosted, ArePostedBut}
use Rattle.desk.specs.declared.answer.Posted.{Posted}
use Rattle.desk.specs.declared.answer.Posted.TheVariants.{Now, Later}
use Rattle.desk.specs.Held.{ShowsAllOrAsBefore, Held, held, AppendsSettles, HasEdit, IsEditAppended, PublishesOr, IsRefusedTurn, IsShownOrOwed}
use Rattle.desk_ledger.proofs.AllPosted.{memos_after, posted_same, but_put}

-- where something is owed nothing is said of what is posted

module _ {T E V G O : Type 0} (means : TextsMeaning T E V G) (of : Cells T E V O) (old new : Bench T V)
    (cells : List (BoardCell O)) where
  pub posted_claimed : (number : ℕ) (n : Node) (given : G) (keys : List Key) (values : List V)
      → Step means old (Claim number n given keys values) new → ArePosted means.net of old cells
      → ArePosted means.net of new cells
  posted_claimed number n given keys values step posted =
      posted_same means.net of old new cells step.0 (ap (λ (s : MemoState V G). s.memos) step.1.after)
      posted

  pub posted_idle : Step means old NoClaim new → ArePosted means.net of old cells
      → ArePosted means.net of new cells
  posted_idle step posted =
      subst (λ (b : Bench T V). ArePosted means.net of b cells) (sym step.1) posted

  pub but_returned : (r : Return V G) (answer : Finish) → Step means old (Returned r answer) new
      → ArePosted means.net of old cells → ArePostedBut means.net of new r.node cells
  but_returned r answer step posted =
      elim (memos_after (state_in means old) (state_in means new) r answer step.2) [
        | inl same ↦ λ test model o s.
            inl (posted_same means.net of old new cells step.1 same posted test model o s)
        | inr put ↦ subst (λ (n : Node). ArePostedBut means.net of new n cells) put.1
            (but_put means.net of old new put.0 cells step.1 put.2 posted)
      ]

-- ---- claims

-- what holds where a job is given, and where none is
pub given_or_none : {J : Type 0} (r : Option J) (P : J → Type 0) (Q R : Type 0) → IfSome r P
    → IfNone r Q → ((j : J) → P j → R) → (Q → R) → R
given_or_none (Some j) P Q R given none f g = f j given
given_or_none None P Q R given none f g = g none

module _ {T E V G : Type 0} (means : TextsMeaning T E V G) (old new : Bench T V) where
  pub later_claimed : (number : ℕ) (n : Node) (given : G) (keys : List Key) (values : List V)
      → Step means old (Claim number n given keys values) new → old.taken ≤ new.taken
  later_claimed number n given keys values step =
      let taken : new.taken ≡ number = ap (λ (s : MemoState V G). s.taken) step.1.after in
      let is : number ≡ old.taken + 1 = step.1.number_is in
      omega (arith, taken, is)

  pub later_idle : Step means old NoClaim new → old.taken ≤ new.taken
  later_idle step =
      let same : new.taken ≡ old.taken = ap (λ (b : Bench T V). b.taken) step.1 in
      omega (arith, same)

pub was_so : (b : Bool) → not b ≡ false → IsTrue b
was_so true e = cc
was_so false e = cc

pub is_owed : (b : Bool) → false ≡ not b → b ≡ true
is_owed true e = refl
is_owed false e = cc

pub is_unowed : (b : Bool) → true ≡ not b → b ≡ false
is_unowed true e = cc
is_unowed false e = refl

-- what is published does not depend on the bench before
pub publishes_same : {T V O : Type 0} (P : Bench T V → List O → Type 0) (a b new : Held T V O)
    (r : Posted) → a.published ≡ b.published → PublishesOr P a new r → PublishesOr P b new r
publishes_same P a b new Now e h = h
publishes_same P a b new Later e h = (h.0 ∙ e, h.1)

-- operations that settle cells were appended under the lock
pub appends_of : {T V O : Type 0} (is_settle : O → Type 0) (inside old : Held T V O) (more : List O)
    → inside ≡ old → Each is_settle more
    → (bench : Bench T V) (all published : List O) (owes : Bool)
    → all ≡ inside.all ++ more
    → AppendsSettles is_settle old.all old (held bench all published inside.spare inside.closed owes)
appends_of is_settle inside old more same each bench all published owes e =
    subst
    (λ (h : Held _ _ _).
    AppendsSettles is_settle h.all h (held bench all published inside.spare inside.closed owes))
    same
    (record { settles = more; are_settles = each; all = e; spare = refl; closed = refl })

-- so they were where the bench, and what is owed, alone was changed before
pub appends_since : {T V O : Type 0} (is_settle : O → Type 0) (before after : Bench T V)
    (all published : List O) (spare : ℕ) (closed owes owes' : Bool) (old new : Held T V O)
    → held before all published spare closed owes ≡ old
    → AppendsSettles is_settle all (held after all published spare closed owes') new
    → AppendsSettles is_settle old.all old new
appends_since is_settle before after all published spare closed owes owes' old new same a =
    subst (λ (h : Held _ _ _). AppendsSettles is_settle h.all h new) same
    (record {
      settles = a.settles;
      are_settles = a.are_settles;
      all = a.all;
      spare = a.spare;
      closed = a.closed;
    })

-- where the bench refused a call, nothing else changed
pub refused_since : {T E V G O : Type 0} (means : TextsMeaning T E V G) (before after : Bench T V)
    (all published : List O) (spare : ℕ) (closed owes owes' : Bool) (old : Held T V O)
    → held before all published spare closed owes ≡ old
    → Step means before Refused after
    → IsRefusedTurn means old (held after all published spare closed owes')
refused_since means before after all published spare closed owes owes' old same step =
    subst (λ (h : Held _ _ _). IsRefusedTurn means h (held after all published spare closed owes'))
    same (step, refl)

-- where nothing was owed, and nothing but the bench changed
pub still_since : {T V O : Type 0} (before after : Bench T V) (all published : List O) (spare : ℕ)
    (closed owes : Bool) (old new : Held T V O)
    → held before all published spare closed owes ≡ old
    → owes ≡ false → new ≡ held after all published spare closed owes
    → new ≡ held new.bench old.all old.published old.spare old.closed false
still_since before after all published spare closed owes old new same none is =
    subst (λ (h : Held _ _ _). new ≡ held new.bench h.all h.published h.spare h.closed false) same
    (subst (λ (h : Held _ _ _). h ≡ held h.bench all published spare closed false) (sym is)
    (ap (λ (b : Bool). held after all published spare closed b) none))

-- what holds under the lock where nothing is owed
pub shown_as : {T V O : Type 0} (are_posted : Bench T V → List O → Type 0) (bench : Bench T V)
    (all published : List O) (spare : ℕ) (closed owes : Bool) (desk : Held T V O)
    → held bench all published spare closed owes ≡ desk
    → (owes ≡ false → (published ≡ all) × are_posted bench all) → IsShownOrOwed are_posted desk
shown_as are_posted bench all published spare closed owes desk same shown =
    subst (IsShownOrOwed are_posted) same (λ none.
    let s = shown none in (s.0, subst (are_posted bench) (sym s.0) s.1))

-- so it is once it was tried to publish
pub publishes_shown : {T V O : Type 0} (are_posted : Bench T V → List O → Type 0)
    (old new : Held T V O) (r : Posted) → PublishesOr are_posted old new r
    → IsShownOrOwed are_posted new
publishes_shown are_posted old new Now p = λ none. (p.0, p.1)
publishes_shown are_posted old new Later p = λ none. absurd (both new.owes p.1 none)
  where
    both : (b : Bool) → b ≡ true → b ≡ false → ⊥
    both b on off = cc

-- whether a viewer has seen more, seen from outside
pub behind_of : {T V O : Type 0} (inside old : Held T V O) (me : List O) → inside ≡ old
    → length me ≤ length inside.all → length me ≤ length old.all
behind_of inside old me same le = subst (λ (h : Held _ _ _). length me ≤ length h.all) same le

pub ahead_of : {T V O : Type 0} (inside old : Held T V O) (me : List O) → inside ≡ old
    → (length me ≤ length inside.all → ⊥) → length old.all < length me
ahead_of inside old me same more =
    lt_of_not-le (subst (λ (h : Held _ _ _). length me ≤ length h.all → ⊥) same more)

-- the edit was made after all that a viewer knew, and settled cells were appended after it
pub has_edit : {T E V G O : Type 0} (means : TextsMeaning T E V G) (is_legal : List O → Type 0)
    (is_edit : List O → O → E → ℕ → Type 0) (is_settle : O → Type 0) (e : E) (number : ℕ)
    (old new : Bench T V) (me before list more all later : List O)
    → IsPrefix me before → IsEditAppended means is_edit e old new before list number → Each is_settle more
    → all ≡ list ++ more → later ≡ all → is_legal later
    → HasEdit is_legal is_edit is_settle e number me later
has_edit means is_legal is_edit is_settle e number old new me before list more all later behind made
    settles appended same legal = record {
      between = behind.0;
      op = made.op;
      is = subst (λ (l : List _). is_edit l made.op e number) (sym behind.1) made.is;
      settles = more;
      are_settles = settles;
      list =
          same
          ∙ (appended
          ∙ ap (λ (l : List _). l ++ more) (made.list
          ∙ ap (λ (l : List _). l ++ made.op ∷ []) (sym behind.1)));
      legal = legal;
    }

-- a try to publish shows all or what was shown
pub whole_by : {T V O : Type 0} (are_posted : Bench T V → List O → Type 0) (old new : Held T V O)
    (posted : Posted) → PublishesOr are_posted old new posted → ShowsAllOrAsBefore old new
whole_by are_posted old new Now h = inl h.0
whole_by are_posted old new Later h = inr h.0
