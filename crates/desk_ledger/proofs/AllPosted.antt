-- Which cells are posted, where the memos of the bench change.
use Rattle.std.proofs.Common.{◌≡◌, ◌⊎◌, inl, inr, ℕ, zero, suc, ◌+◌, ◌<◌, ◌≤◌, false, List, [], ◌∷◌, ◌++◌, Option, Some, None, refl, ap, sym, ◌∙◌, subst, slice_get, arith}
use Rattle.std.specs.Prelude.{option_map, IfSome, length, Result, Ok, Err, MatchResult, fold}
use Rattle.std.specs.List.{AllByRecursion as Each}
use Rattle.std.proofs.lemmas.Bool.{cases_Bool}
use Rattle.memo_core.specs.declared.keys.Node.{Node}
use Rattle.memo_core.specs.declared.keys.Key.{Key}
use Rattle.memo_core.specs.declared.keys.Key.TheVariants.{Part, Output}
use Rattle.memo_core.specs.declared.keys.Input.{Input}
use Rattle.memo_core.specs.declared.claims.Finish.{Finish}
use Rattle.memo_core.specs.declared.claims.Finish.TheVariants.{Unknown, Stale, Same, Stored}
use Rattle.memo_core.specs.Names.{same_node}
use Rattle.memo_core.specs.Lemmas.Equality.{same_node_exact}
use Rattle.memo_core.specs.Graph.{Memo, Net, memo_of, at, stored_output, stamp_or_zero, present_inputs, put_memo, input_nodes, IsSettledBy, IsSettled}
use Rattle.memo_core.specs.Step.{Has, MemoState, Return, Accepts, FinishesReturn}
use Rattle.memo_core.specs.Run.{Bench}
use Rattle.memo_core.proofs.Theory.{put_other}
use Rattle.desk_history.proofs.Showing.{fold_push}
use Rattle.cells.specs.Cells.{Cells, Carries, IsSettledCell, StandsOn}
use Rattle.desk_ledger.specs.Boards.{BoardCell, IsSettledOn, IsListedWithin, HoldsFor, ArePosted, ArePostedAbove, ArePostedFor, ArePostedBut, IsCellKept, AreCellsKept, settled_with, with_outcome}
use Rattle.desk_ledger.specs.Posts.{IsPosted}
use Rattle.desk_ledger.proofs.Outcomes.{below_get}

-- ---- one memo more

module _ {V G : Type 0} (net : Net G) (memos : List (Memo V)) (m : Memo V) where
  -- what the inputs say: they were settled so before and have the stamps that they had, or one of
  -- them stands on the node
  abbrev Inputs : ℕ → List Key → Type 0
  Inputs d ks =
      (Each (IsSettledBy d net memos) (input_nodes ks)
      × (present_inputs net (put_memo m memos) ks ≡ present_inputs net memos ks))
      ⊎ ((k : Node) × Has (input_nodes ks) k × StandsOn net k m.node)

  abbrev Before : ℕ → Type 0
  Before d =
      (n : Node) → IsSettledBy d net (put_memo m memos) n
      → IsSettledBy d net memos n ⊎ StandsOn net n m.node

  abbrev input_of : Key → ℕ → Input
  input_of k s = record { key = k; stamp = s }

  inputs_before : (d : ℕ) → Before d → (ks : List Key)
      → Each (IsSettledBy d net (put_memo m memos)) (input_nodes ks) → Inputs d ks
  inputs_before d before [] e = inl (tt, refl)
  inputs_before d before (Part p q ∷ ks) e = elim (inputs_before d before ks e) [
    | inl r ↦ inl (r.0, ap (λ (is : List Input). input_of (Part p q) (net.part p q) ∷ is) r.1)
    | inr r ↦ inr r
  ]
  inputs_before d before (Output k x ∷ ks) e = elim (cases_Bool (same_node k m.node)) [
    | inl t ↦ inr (k, inl refl, (0, same_node_exact k m.node t))
    | inr f ↦ elim (before k e.0) [
      | inr stands ↦ inr (k, inl refl, stands)
      | inl settled ↦ elim (inputs_before d before ks e.1) [
        | inr r ↦ inr (r.0, inr r.1, r.2)
        | inl r ↦ inl ((settled, r.0), same_first k x f ks r.1)
      ]
    ]
  ]
    where
      same_first : (k : Node) (x : ℕ) → same_node k m.node ≡ false → (ks : List Key)
          → present_inputs net (put_memo m memos) ks ≡ present_inputs net memos ks
          → present_inputs net (put_memo m memos) (Output k x ∷ ks)
          ≡ present_inputs net memos (Output k x ∷ ks)
      same_first k x f ks e =
          ap
          (λ (o : Option (Memo V)). input_of (Output k x) (stamp_or_zero (stored_output x o))
          ∷ present_inputs net (put_memo m memos) ks)
          (put_other m k memos f)
          ∙ ap
          (λ (is : List Input). input_of (Output k x) (stamp_or_zero (stored_output x (memo_of k memos)))
          ∷ is) e

  -- what is settled once the memo is put was so before, or stands on its node
  pub settled_before : (d : ℕ) → Before d
  settled_before zero n h = absurd h
  settled_before (suc d) n h = elim (cases_Bool (same_node n m.node)) [
    | inl t ↦ inr (0, same_node_exact n m.node t)
    | inr f ↦ elim (inputs_before d (settled_before d) (net.inputs n) h.1) [
      | inr r ↦ inr (suc r.2.0, (r.0, r.1, r.2.1))
      | inl r ↦ inl (
        ap (λ (o : Option (Memo V)). option_map (λ m. m.inputs) o)
            (sym (put_other m n memos f)) ∙ (h.0 ∙ ap (λ (is : List Input). Some is) r.1),
        r.0,
      )
    ]
  ]

-- ---- cells that are kept

module _ {O : Type 0} where
  kept_self : (c : BoardCell O) → IsCellKept c c
  kept_self c = record { test = refl; model = refl; outcome = λ s. s }

  pub keeps_self : (old new : List (BoardCell O)) → new ≡ old → AreCellsKept old new
  keeps_self old new same index c e =
      (c, subst (λ (l : List (BoardCell O)). slice_get l index ≡ Some c) (sym same) e, kept_self c)

  pub keeps_then : (a b c : List (BoardCell O)) → AreCellsKept a b → AreCellsKept b c → AreCellsKept a c
  keeps_then a b c f g index x e =
      let y = f index x e in
      let z = g index y.0 y.1 in (
        z.0,
        z.1,
        record {
          test = z.2.test ∙ y.2.test;
          model = z.2.model ∙ y.2.model;
          outcome = λ s. z.2.outcome (y.2.outcome s);
        },
      )

  settled_is : (x c : BoardCell O) (o : O) → Some x ≡ Some c → IsCellKept c (settled_with o x)
  settled_is x c o e =
      let same : x ≡ c = cc in
      record { test = ap (λ (d : BoardCell O). d.test) same; model = ap (λ (d : BoardCell O). d.model) same; outcome = λ s. refl }

  pub keeps_with : (cs : List (BoardCell O)) (i : ℕ) (o : O) → AreCellsKept cs (with_outcome i o cs)
  keeps_with [] i o index c e = absurd cc
  keeps_with (x ∷ cs) zero o zero c e = (settled_with o x, refl, settled_is x c o e)
  keeps_with (x ∷ cs) zero o (suc k) c e = (c, e, kept_self c)
  keeps_with (x ∷ cs) (suc i) o zero c e = (c, e, kept_self c)
  keeps_with (x ∷ cs) (suc i) o (suc k) c e = keeps_with cs i o k c e

  -- where the operation that settles one was appended or nothing was
  pub keeps_one : {A F B P : Type 0} (cells : B → List (BoardCell O)) (after : B → P → B) (none : B)
      (r : Result A F) (old new : List P) (op : P) (i : ℕ) (o : O)
      → MatchResult r (λ _. new ≡ old ++ op ∷ []) (λ _. new ≡ old)
      → cells (after (fold after none old) op) ≡ with_outcome i o (cells (fold after none old))
      → AreCellsKept (cells (fold after none old)) (cells (fold after none new))
  keeps_one cells after none (Ok x) old new op i o is made =
      subst (AreCellsKept (cells (fold after none old)))
      (sym (ap (λ l. cells (fold after none l)) is
      ∙ (ap cells (fold_push after none old op) ∙ made)))
      (keeps_with (cells (fold after none old)) i o)
  keeps_one cells after none (Err x) old new op i o is made =
      keeps_self (cells (fold after none old)) (cells (fold after none new))
      (ap (λ l. cells (fold after none l)) is)

  pub settled_on : (old new : List (BoardCell O)) → AreCellsKept old new → (test model : List ℕ)
      → IsSettledOn old test model → IsSettledOn new test model
  settled_on old new keeps test model s =
      let d = keeps s.index s.cell s.there in
      record { index = s.index; cell = d.0; there = d.1; test_is = d.2.test ∙ s.test_is; model_is = d.2.model ∙ s.model_is; settled = d.2.outcome s.settled }

-- ---- the bench

-- the memos of the state after a return
abbrev pub MemosAfter : {V G : Type 0} → MemoState V G → Return V G → MemoState V G → Type 0
MemosAfter {V} old r new =
    (new.memos ≡ old.memos)
    ⊎ ((m : Memo V) × (m.node ≡ r.node) × (new.memos ≡ put_memo m old.memos))

accepted : {V G : Type 0} (old new : MemoState V G) (r : Return V G) → Accepts old r new
    → MemosAfter old r new
accepted old new r a =
    inr (
      record { node = r.node; inputs = a.claim.inputs; outputs = a.outputs },
      refl,
      ap (λ (s : MemoState _ _). s.memos) a.after,
    )

pub memos_after : {V G : Type 0} (old new : MemoState V G) (r : Return V G) (answer : Finish)
    → FinishesReturn old r answer new → MemosAfter old r new
memos_after old new r Unknown f = inl (ap (λ (s : MemoState _ _). s.memos) f.1)
memos_after old new r (Stale stamp) f = inl (ap (λ (s : MemoState _ _). s.memos) f.3)
memos_after old new r Same f = accepted old new r f.0
memos_after old new r (Stored names) f = accepted old new r f.0

module _ {T E V G O : Type 0} (net : T → Net G) (of : Cells T E V O) where
  cell_same : (old new : Bench T V) → new.texts ≡ old.texts → new.memos ≡ old.memos
      → (test model : List ℕ) (o : O) → IsSettledCell net of new test model o
      → IsSettledCell net of old test model o
  cell_same old new t m test model o s = record {
    verdict = s.verdict;
    is = rw t at s.is;
    settled = rw (t, m) at s.settled;
    carries = rw m at s.carries;
  }

  pub posted_same : (old new : Bench T V) (cells : List (BoardCell O)) → new.texts ≡ old.texts
      → new.memos ≡ old.memos → ArePosted net of old cells → ArePosted net of new cells
  posted_same old new cells t m posted test model o s =
      posted test model o (cell_same old new t m test model o s)

  -- so are those of texts that say the same
  pub posted_refused : (old new : Bench T V) (cells : List (BoardCell O))
      → net new.texts ≡ net old.texts → new.memos ≡ old.memos
      → ((test model : List ℕ)
      → of.verdict_of new.texts test model ≡ of.verdict_of old.texts test model)
      → ArePosted net of old cells → ArePosted net of new cells
  posted_refused old new cells n m same posted test model o s =
      posted test model o (record {
        verdict = s.verdict;
        is = sym (same test model) ∙ s.is;
        settled = rw (n, m) at s.settled;
        carries = rw m at s.carries;
      })

  -- one memo more
  pub but_put : (old new : Bench T V) (m : Memo V) (cells : List (BoardCell O)) → new.texts ≡ old.texts
      → new.memos ≡ put_memo m old.memos → ArePosted net of old cells
      → ArePostedBut net of new m.node cells
  but_put old new m cells t e posted test model o s =
      let settled : IsSettled (net old.texts) (put_memo m old.memos) s.verdict = rw (t, e) at s.settled in
      elim (cases_Bool (same_node s.verdict m.node)) [
        | inl same ↦ inr (0, same_node_exact s.verdict m.node same)
        | inr other ↦ elim
            (settled_before (net old.texts) old.memos m settled.0 s.verdict settled.1) [
              | inr stands ↦ inr (subst (λ (u : T). StandsOn (net u) s.verdict m.node) (sym t)
                  stands)
              | inl before ↦ inl (posted test model o (record {
                verdict = s.verdict;
                is = rw t at s.is;
                settled = (settled.0, before);
                carries = carried other;
              }))
            ]
      ]
    where
      carried : same_node s.verdict m.node ≡ false → Carries of.outcome_in old.memos s.verdict o
      carried other = record {
        stamp = s.carries.stamp;
        value = s.carries.value;
        first =
            ap (λ (k : Option (Memo V)). stored_output 0 k)
            (sym (put_other m s.verdict old.memos other))
            ∙ (ap (λ (ms : List (Memo V)). at ms (Output s.verdict 0)) (sym e) ∙ s.carries.first);
        holds = s.carries.holds;
      }

  pub posted_all : (bench : Bench T V) (node : Node) (old new : List (BoardCell O))
      → ArePostedBut net of bench node old → AreCellsKept old new → ArePostedAbove net of bench node new
      → ArePosted net of bench new
  posted_all bench node old new but keeps above test model o s = elim (but test model o s) [
    | inl on ↦ settled_on old new keeps test model on
    | inr stands ↦ above test model o s stands
  ]

  -- where none but these was left, all are posted
  pub posted_for : (bench : Bench T V) (above : Option Node) (old new : List (BoardCell O))
      → IfSome above (λ node. ArePostedBut net of bench node old) → AreCellsKept old new
      → ArePostedFor net of bench above new → ArePosted net of bench new
  posted_for bench None old new rest keeps posted = posted
  posted_for bench (Some node) old new rest keeps posted =
      posted_all bench node old new rest keeps posted

  -- a cell of the range is posted where each of the range is
  pub listed_posted : (bench : Bench T V) (old new : List (BoardCell O)) (first end : ℕ)
      → AreCellsKept old new → ((k : ℕ) → first ≤ k → k < end → IsPosted net of bench new k)
      → (test model : List ℕ) (o : O) → IsListedWithin old first end test model
      → IsSettledCell net of bench test model o → IsSettledOn new test model
  listed_posted bench old new first end keeps posted test model o k s =
      let d = keeps k.index k.cell k.there in
      let test_is : d.0.test ≡ test = d.2.test ∙ k.test_is in
      let model_is : d.0.model ≡ model = d.2.model ∙ k.model_is in
      let here : IsSettledCell net of bench d.0.test d.0.model o = rw (test_is, model_is) s in
      record { index = k.index; cell = d.0; there = d.1; test_is = test_is; model_is = model_is; settled = posted k.index k.from_first k.before_end d.0 o d.1 here }

  -- so it is for all whose verdicts stand on the node, or for each cell, where the range holds
  -- these
  pub for_posted : (bench : Bench T V) (above : Option Node) (old new : List (BoardCell O))
      (first end : ℕ)
      → HoldsFor (net bench.texts) (of.verdict_of bench.texts) above old first end
      → AreCellsKept old new → ((k : ℕ) → first ≤ k → k < end → IsPosted net of bench new k)
      → ArePostedFor net of bench above new
  for_posted bench None old new first end holds keeps posted =
      λ test model o s. listed_posted bench old new first end keeps posted test model o
      (holds test model s.verdict s.is) s
  for_posted bench (Some node) old new first end holds keeps posted =
      λ test model o s stands. listed_posted bench old new first end keeps posted test model o
      (holds test model s.verdict s.is stands) s

-- a cell of the board is within all of it
pub known_within : {O : Type 0} (cells : List (BoardCell O)) (end : ℕ) (test model : List ℕ)
    → end ≡ length cells
    → (index : ℕ) × (c : BoardCell O) × (slice_get cells index ≡ Some c) × (c.test ≡ test)
    × (c.model ≡ model) → IsListedWithin cells 0 end test model
known_within cells end test model is k =
    let lt : k.0 < length cells = below_get cells k.0 k.1 k.2 in
    record { index = k.0; from_first = omega arith; before_end = omega arith; cell = k.1; there = k.2; test_is = k.3; model_is = k.4 }
