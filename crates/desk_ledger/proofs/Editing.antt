-- An edit settles only cells whose verdicts stand on a node that it touches.
use Rattle.std.proofs.Common.{◌≡◌, inl, inr, ℕ, zero, suc, ◌<◌, ◌≤◌, Bool, true, List, [], ◌∷◌, Option, Some, refl, ap, sym, ◌∙◌, subst}
use Rattle.std.specs.Prelude.{option_map}
use Rattle.std.specs.List.{AllByRecursion as Each}
use Rattle.memo_core.specs.declared.keys.Node.{Node}
use Rattle.memo_core.specs.declared.keys.Key.{Key}
use Rattle.memo_core.specs.declared.keys.Key.TheVariants.{Part, Output}
use Rattle.memo_core.specs.declared.keys.Input.{Input}
use Rattle.memo_core.specs.Graph.{Net, Memo, memo_of, stored_output, stamp_or_zero, present_inputs, input_nodes, IsSettledBy}
use Rattle.memo_core.specs.Laws.{IsUsedClosed, IsUsedAlike, TouchesOnly}
use Rattle.memo_core.specs.Right.{IsSamePart}
use Rattle.memo_core.specs.Step.{Has, MemoState, Edits}
use Rattle.memo_core.specs.Run.{Bench, TextsMeaning, Step, Edit, state_in}
use Rattle.memo_core.proofs.Theory.{keep_found}
use Rattle.cells.specs.Cells.{Cells, StandsOn}
use Rattle.desk_ledger.specs.Boards.{BoardCell, ArePosted, ArePostedOutside, AreCellsKept, LeavesCells}
use Rattle.desk_ledger.specs.Posts.{IsPosted}
use Rattle.desk_ledger.proofs.AllPosted.{settled_on, listed_posted}

-- ---- nodes that stand on no touched node

module _ {V G : Type 0} (keep : Node → Bool) (old new : MemoState V G) (edits : Edits keep old new)
    (touched : List Node) (only : TouchesOnly old.net new.net touched)
    (closed : IsUsedClosed new.net)
    (kept : (n : Node) → Has new.net.used n → keep n ≡ true) where
  memo_before : (n : Node) → Has new.net.used n → memo_of n new.memos ≡ memo_of n old.memos
  memo_before n used = ap (memo_of n) edits.memos ∙ keep_found keep n old.memos (kept n used)

  abbrev IsApart : Node → Type 0
  IsApart n = (k : Node) → Has touched k → StandsOn new.net n k → ⊥

  abbrev input_of : Key → ℕ → Input
  input_of k s = record { key = k; stamp = s }

  inputs_before : (ks : List Key) → Each (IsSamePart old.net new.net) ks
      → Each (Has new.net.used) (input_nodes ks)
      → present_inputs new.net new.memos ks ≡ present_inputs old.net old.memos ks
  inputs_before [] parts used = refl
  inputs_before (Part p q ∷ ks) parts used =
      ap (λ (s : ℕ). input_of (Part p q) s ∷ present_inputs new.net new.memos ks) parts.0
      ∙ ap (λ (is : List Input). input_of (Part p q) (old.net.part p q) ∷ is)
      (inputs_before ks parts.1 used)
  inputs_before (Output k x ∷ ks) parts used =
      ap
      (λ (o : Option (Memo V)). input_of (Output k x) (stamp_or_zero (stored_output x o))
      ∷ present_inputs new.net new.memos ks)
      (memo_before k used.0)
      ∙ ap
      (λ (is : List Input).
      input_of (Output k x) (stamp_or_zero (stored_output x (memo_of k old.memos))) ∷ is)
      (inputs_before ks parts.1 used.1)

  alike : (n : Node) → Has new.net.used n → IsApart n → IsUsedAlike old.net new.net n
  alike n used apart = elim (only n (inr used)) [
    | inl there ↦ absurd (apart n there (0, refl))
    | inr same ↦ same
  ]

  abbrev Before : ℕ → Type 0
  Before d =
      (n : Node) → Has new.net.used n → IsApart n → IsSettledBy d new.net new.memos n
      → IsSettledBy d old.net old.memos n

  each_before : (d : ℕ) → Before d → (ns : List Node) → Each (Has new.net.used) ns
      → ((k : Node) → Has ns k → IsApart k) → Each (IsSettledBy d new.net new.memos) ns
      → Each (IsSettledBy d old.net old.memos) ns
  each_before d before [] used apart h = tt
  each_before d before (n ∷ ns) used apart h = (
    before n used.0 (apart n (inl refl)) h.0,
    each_before d before ns used.1 (λ k g. apart k (inr g)) h.1,
  )

  -- what is settled after the edit was so before it
  settled_before : (d : ℕ) → Before d
  settled_before zero n used apart h = absurd h
  settled_before (suc d) n used apart h =
      let same = alike n used apart in
      let parts = subst (Each (IsSamePart old.net new.net)) (sym same.inputs) same.parts in
      let under = each_before d (settled_before d) (input_nodes (new.net.inputs n)) (closed n used) (λ k g j there stands. apart j there (suc stands.0, (k, g, stands.1))) h.1 in (
        ap (λ (o : Option (Memo V)). option_map (λ m. m.inputs) o) (sym (memo_before n used))
            ∙ (h.0
            ∙ (ap (λ (is : List Input). Some is)
            (inputs_before (new.net.inputs n) parts (closed n used))
            ∙ ap (λ (ks : List Key). Some (present_inputs old.net old.memos ks)) same.inputs)),
        subst (λ (ks : List Key). Each (IsSettledBy d old.net old.memos) (input_nodes ks))
            same.inputs under,
      )

-- ---- cells

module _ {T E V G O : Type 0} (means : TextsMeaning T E V G) (of : Cells T E V O)
    (old new : Bench T V) (e : E) (step : Step means old (Edit e) new) (touched : List Node)
    (only : TouchesOnly (means.net old.texts) (means.net new.texts) touched)
    (closed : IsUsedClosed (means.net new.texts))
    (kept : (n : Node) → Has (means.net new.texts).used n → means.keeps new.texts n ≡ true)
    (used : (test model : List ℕ) (n : Node) → of.verdict_of new.texts test model ≡ Some n
    → Has (means.net new.texts).used n) where
  -- where all were posted before it, each settled cell is posted that is not at an index of the
  -- range
  pub posted_outside : (before now : List (BoardCell O)) (first end : ℕ)
      → LeavesCells (means.net new.texts) (of.verdict_of old.texts) (of.verdict_of new.texts)
      touched before now first end
      → ArePosted means.net of old before → ArePostedOutside means.net of new first end now
  posted_outside before now first end leaves posted test model o s =
      elim (leaves test model s.verdict s.is) [
        | inl listed ↦ inr listed
        | inr left ↦ (
            let there = used test model s.verdict s.is in
            let settled = settled_before (means.keeps new.texts) (state_in means old) (state_in means new) step.1 touched only closed kept s.settled.0 s.verdict there left.apart s.settled.1 in
            let same = memo_before (means.keeps new.texts) (state_in means old) (state_in means new) step.1 touched only closed kept s.verdict there in
            inl (left.shown (posted test model o (record {
              verdict = s.verdict;
              is = left.was;
              settled = (s.settled.0, settled);
              carries = record {
                stamp = s.carries.stamp;
                value = s.carries.value;
                first =
                    ap (λ (k : Option (Memo V)). stored_output 0 k) (sym same) ∙ s.carries.first;
                holds = s.carries.holds;
              };
            }))))
      ]

-- where each of the range is posted then, all are
pub posted_edited : {T E V G O : Type 0} (net : T → Net G) (of : Cells T E V O) (bench : Bench T V)
    (old new : List (BoardCell O)) (first end : ℕ)
    → ArePostedOutside net of bench first end old → AreCellsKept old new
    → ((k : ℕ) → first ≤ k → k < end → IsPosted net of bench new k) → ArePosted net of bench new
posted_edited net of bench old new first end outside keeps posted test model o s =
    elim (outside test model o s) [
      | inl on ↦ settled_on old new keeps test model on
      | inr listed ↦ listed_posted net of bench old new first end keeps posted test model o listed s
    ]
