-- Marks that an edit takes away, and what is right once they are gone.
use Rattle.std.proofs.Common.{◌≡◌, ℕ, zero, suc, ◌<◌, ◌⊎◌, inl, inr, Bool, true, false, ◌&&◌, ◌++◌, filter, List, [], ◌∷◌, Some, None, if◌then◌else◌, refl, ap, subst, sym, ◌∙◌, arith}
use Rattle.std.specs.List.{AllByRecursion as Each}
use Rattle.std.specs.Map.{lookup, set_value}
use Rattle.std.proofs.lemmas.Bool.{cases_Bool}
use Rattle.std.proofs.lemmas.Option.{same_Some}
use Rattle.value_store.specs.Tokens.{TokenShown}
use Rattle.memo_core.specs.declared.keys.Node.{Node}
use Rattle.memo_core.specs.declared.keys.Key.{Key}
use Rattle.memo_core.specs.declared.keys.Key.TheVariants.{Part, Output}
use Rattle.memo_core.specs.declared.table.Kept.{Kept}
use Rattle.memo_core.specs.declared.claims.Claim.{Claim}
use Rattle.memo_core.specs.Names.{same_node}
use Rattle.memo_core.specs.Graph.{Memo, Net, memo_of, present_inputs, Matches, input_nodes, IsSettled, IsSettledBy}
use Rattle.memo_core.specs.Right.{IsSamePart}
use Rattle.memo_core.specs.Views.{MemoEntry, as_memo, as_memos}
use Rattle.memo_core.specs.Step.{Has}
use Rattle.memo_core.specs.Tests.{has_node}
use Rattle.memo_core.specs.Laws.{IsUsedClosed, AreUsers, AreReaders, Falls, IsUsedAlike, TouchesOnly}
use Rattle.memo_core.specs.Marks.{mark_of, with_mark, IsMarkedTo}
use Rattle.memo_core.specs.Lemmas.Equality.{same_node_exact, same_node_refl}
use Rattle.memo_core.proofs.JudgeLemmas.{true_false, has_is}
use Rattle.memo_core.proofs.Theory.{keep_found}
use Rattle.memo_engine.specs.Unmarked.{without_mark_at, marked_count, HasMarkedInputs, IsClosedTo, IsMarkedBut, HasNoNewMark, LosesMarks}
use Rattle.memo_engine.specs.declared.waiting.Waiting.{Waiting}
use Rattle.memo_engine.specs.Matched.{AreMatched, AreMatchedTo, HasNoNewMatch}
use Rattle.memo_engine.specs.Waiting.{IsWholeTo}
use Rattle.memo_engine.proofs.MatchLemmas.{matched_there}
use Rattle.memo_engine.proofs.MarkLemmas.{has_left, has_right, settled_marked, work_there, work_now, waits, whole_of}

-- ---- a mark that is taken away

pub as_memos-without_mark_at : {V : Type 0} (n : Node) (ks : List (MemoEntry V))
    → as_memos (without_mark_at n ks) ≡ as_memos ks
as_memos-without_mark_at n [] = refl
as_memos-without_mark_at {V} n (k ∷ ks) = elim (cases_Bool (same_node n k.0)) [
  | inl t ↦ rw t refl
  | inr f ↦ rw f (ap (λ (ms : List (Memo V)). as_memo k ∷ ms) (as_memos-without_mark_at n ks))
]

pub unmarked_other : {V : Type 0} (n m : Node) (ks : List (MemoEntry V)) → same_node m n ≡ false
    → mark_of (without_mark_at n ks) m ≡ mark_of ks m
unmarked_other n m [] h = refl
unmarked_other {V} n m (k ∷ ks) h = elim (cases_Bool (same_node n k.0)) [
  | inl t ↦ (
      let g : same_node m k.0 ≡ false =
      subst (λ (x : Node). same_node m x ≡ false) (same_node_exact n k.0 t) h in
      rw t (rw g refl))
  | inr f ↦ rw f (ap (λ (b : Bool). if same_node m k.0 then k.1.settled else b)
      (unmarked_other n m ks h))
]

pub unmarked_same : {V : Type 0} (n : Node) (ks : List (MemoEntry V))
    → mark_of (without_mark_at n ks) n ≡ false
unmarked_same n [] = refl
unmarked_same {V} n (k ∷ ks) = elim (cases_Bool (same_node n k.0)) [
  | inl t ↦ rw t (rw t refl)
  | inr f ↦ rw f (rw f (unmarked_same n ks))
]

pub marked_count-less : {V : Type 0} (n : Node) (ks : List (MemoEntry V)) → mark_of ks n ≡ true
    → marked_count (without_mark_at n ks) < marked_count ks
marked_count-less n [] h = cc
marked_count-less {V} n (k ∷ ks) h = elim (cases_Bool (same_node n k.0)) [
  | inl t ↦ (let e : k.1.settled ≡ true = rw t at h in rw t (rw e (omega arith)))
  | inr f ↦ (let less = marked_count-less n ks (rw f at h) in rw f (omega arith))
]

-- where there is no mark, nothing changes
pub without_no_mark : {V : Type 0} (n : Node) (ks : List (MemoEntry V)) → mark_of ks n ≡ false
    → without_mark_at n ks ≡ ks
without_no_mark n [] h = refl
without_no_mark {V} n (k ∷ ks) h = elim (cases_Bool (same_node n k.0)) [
  | inl t ↦ (let e : k.1.settled ≡ false = rw t at h in
      rw t (ap
      (λ (b : Bool).
      let s : MemoEntry V =
      (k.0, record { inputs = k.1.inputs; outputs = k.1.outputs; settled = b; matched = k.1.matched }) in
      s ∷ ks)
      (sym e)))
  | inr f ↦ rw f (ap (λ (r : List (MemoEntry V)). k ∷ r) (without_no_mark n ks (rw f at h)))
]

-- what is written at a node takes its mark away
pub unmark_written : {V : Type 0} (n : Node) (ks : List (MemoEntry V)) (k : Kept (TokenShown V))
    → Some k ≡ lookup (same_node n) ks
    → set_value (same_node n) ks
    (record { inputs = k.inputs; outputs = k.outputs; settled = false; matched = k.matched })
    ≡ without_mark_at n ks
unmark_written n [] k h = cc
unmark_written {V} n (x ∷ ks) k h = elim (cases_Bool (same_node n x.0)) [
  | inl t ↦ (let q : Some k ≡ Some x.1 = rw t at h in
      rw t (ap
      (λ (k : Kept (TokenShown V)).
      let s : MemoEntry V =
      (x.0, record { inputs = k.inputs; outputs = k.outputs; settled = false; matched = k.matched }) in
      s ∷ ks)
      (same_Some k x.1 q)))
  | inr f ↦ rw f (ap (λ (r : List (MemoEntry V)). x ∷ r) (unmark_written n ks k (rw f at h)))
]

pub nothing_unmarked : {V : Type 0} (n : Node) (ks : List (MemoEntry V))
    → None ≡ lookup (same_node n) ks → ks ≡ without_mark_at n ks
nothing_unmarked n [] h = refl
nothing_unmarked {V} n (x ∷ ks) h = elim (cases_Bool (same_node n x.0)) [
  | inl t ↦ absurd (none_some x.1 (rw t at h))
  | inr f ↦ rw f (ap (λ (r : List (MemoEntry V)). x ∷ r) (nothing_unmarked n ks (rw f at h)))
]
  where
    none_some : (k : Kept (TokenShown V)) → None ≡ Some k → ⊥
    none_some k h = cc

-- ---- the nodes above

-- a node that has no mark is not pending
pub closed_passed : {V G : Type 0} (net : Net G) (ks : List (MemoEntry V)) (n : Node)
    (rest : List Node) → mark_of ks n ≡ false → IsClosedTo net ks (n ∷ rest) → IsClosedTo net ks rest
closed_passed net ks n rest none p m marked = elim (p m marked) [
  | inl has ↦ elim has [
    | inl e ↦ absurd (true_false _ marked (subst (λ (x : Node). mark_of ks x ≡ false) e none))
    | inr r ↦ inl r
  ]
  | inr s ↦ inr s
]

module _ {V G : Type 0} (net : Net G) (ks : List (MemoEntry V)) (n : Node) where
  -- a mark that is left was there, at another node
  was_marked : (m : Node) → mark_of (without_mark_at n ks) m ≡ true
      → (same_node m n ≡ false) × (mark_of ks m ≡ true)
  was_marked m h = elim (cases_Bool (same_node m n)) [
    | inl t ↦ absurd (true_false _ h (subst (λ (x : Node). mark_of (without_mark_at n ks) x ≡ false)
        (sym (same_node_exact m n t)) (unmarked_same n ks)))
    | inr f ↦ (f, sym (unmarked_other n m ks f) ∙ h)
  ]

  pub no_new_mark : HasNoNewMark ks (without_mark_at n ks)
  no_new_mark m h = (was_marked m h).1

  -- the inputs are still marked, or the node is among them
  split : (ns : List Node) → Each (λ m. mark_of ks m ≡ true) ns
      → Each (λ m. mark_of (without_mark_at n ks) m ≡ true) ns ⊎ Has ns n
  split [] e = inl tt
  split (m ∷ ns) e = elim (cases_Bool (same_node m n)) [
    | inl t ↦ inr (inl (same_node_exact m n t))
    | inr f ↦ elim (split ns e.1) [
      | inl all ↦ inl (unmarked_other n m ks f ∙ e.0, all)
      | inr has ↦ inr (inr has)
    ]
  ]

  -- once a mark is gone, what stands on its node is pending
  pub closed_on : (users : Node → List Node) → AreUsers net users → (rest : List Node)
      → IsClosedTo net ks (n ∷ rest) → IsClosedTo net (without_mark_at n ks) (users n ++ rest)
  closed_on users are rest p m h =
      let was = was_marked m h in elim (p m was.1) [
        | inl has ↦ elim has [
          | inl e ↦ absurd (true_false _ (same_node_refl m)
              (subst (λ (x : Node). same_node m x ≡ false) e was.0))
          | inr r ↦ inl (has_right (users n) rest m r)
        ]
        | inr s ↦ elim (split (input_nodes (net.inputs m)) s.inputs) [
          | inl all ↦ inr (record {
            used = s.used;
            matches = rw (as_memos-without_mark_at n ks) s.matches;
            inputs = all;
          })
          | inr on ↦ inl (has_left (users n) rest m (are.listed n m s.used on))
        ]
      ]

  -- only the node itself lost its mark
  pub lost_here : LosesMarks net ks (without_mark_at n ks) (n ∷ [])
  lost_here m used before after = elim (cases_Bool (same_node m n)) [
    | inl t ↦ inl (inl (sym (same_node_exact m n t)))
    | inr f ↦ absurd (true_false _ (unmarked_other n m ks f ∙ before) after)
  ]

each_old : {V : Type 0} (old new : List (MemoEntry V)) → HasNoNewMark old new → (ns : List Node)
    → Each (λ m. mark_of new m ≡ true) ns → Each (λ m. mark_of old m ≡ true) ns
each_old old new none [] e = tt
each_old old new none (m ∷ ns) e = (none m e.0, each_old old new none ns e.1)

each_has : (P : Node → Type 0) (ns : List Node) (n : Node) → Each P ns → Has ns n → P n
each_has P [] n e h = absurd h
each_has P (m ∷ ns) n e h = elim h [ inl q ↦ subst P q e.0 | inr r ↦ each_has P ns n e.1 r ]

-- what a user loses with all above it, it loses for the node under it
pub lost_above : {V G : Type 0} (net : Net G) (users : Node → List Node) (old mid new : List (MemoEntry V))
    (n u : Node) → AreReaders net users → Has (users n) u → mark_of new n ≡ false
    → HasNoNewMark mid new → LosesMarks net old mid (n ∷ []) → LosesMarks net mid new (u ∷ [])
    → LosesMarks net old new (n ∷ [])
lost_above net users old mid new n u are is none fewer first next m used before after =
    elim (cases_Bool (mark_of mid m)) [
      | inl t ↦ elim (next m used t after) [
        | inl has ↦ elim has [
          | inl e ↦ inr (λ all. true_false _
              (each_has (λ m. mark_of new m ≡ true) (input_nodes (net.inputs m)) n all
              (are n m used (subst (Has (users n)) e is))) none)
          | inr r ↦ absurd r
        ]
        | inr not ↦ inr not
      ]
      | inr f ↦ elim (first m used before f) [
        | inl has ↦ inl has
        | inr not ↦ inr (λ all. not (each_old mid new fewer (input_nodes (net.inputs m)) all))
      ]
    ]

-- what is closed stays so where the marks do
pub closed_same : {V G : Type 0} (net : Net G) (old new : List (MemoEntry V)) (pending : List Node)
    → as_memos new ≡ as_memos old → ((n : Node) → mark_of new n ≡ mark_of old n)
    → IsClosedTo net old pending → IsClosedTo net new pending
closed_same {V} {G} net old new pending same marks p n h = elim (p n (sym (marks n) ∙ h)) [
  | inl has ↦ inl has
  | inr s ↦ inr (record {
    used = s.used;
    matches = rw same s.matches;
    inputs = each_old new old (λ m h. marks m ∙ h) (input_nodes (net.inputs n)) s.inputs;
  })
]

-- ---- after the marks are gone

module _ {V G : Type 0} (net : Net G) (old new : List (MemoEntry V)) (n : Node) (touched : List Node)
    (same : as_memos new ≡ as_memos old) (fewer : HasNoNewMark old new)
    (lost : LosesMarks net old new (n ∷ [])) (is : Has touched n) where
  -- what could be marked now is still among the touched
  pub left_after : ((m : Node) → Has net.used m → mark_of old m ≡ false → Matches net (as_memos old) m
      → HasMarkedInputs net old m → Has touched m)
      → (m : Node) → Has net.used m → mark_of new m ≡ false → Matches net (as_memos new) m
      → HasMarkedInputs net new m → Has touched m
  left_after left m used none match all = elim (cases_Bool (mark_of old m)) [
    | inl t ↦ elim (lost m used t none) [
      | inl has ↦ elim has [ inl e ↦ subst (Has touched) e is | inr r ↦ absurd r ]
      | inr not ↦ absurd (not all)
    ]
    | inr f ↦ left m used f (rw same at match)
        (each_old old new fewer (input_nodes (net.inputs m)) all)
  ]

-- where nothing is pending, what is marked is settled
module _ {V G : Type 0} (net : Net G) (ks : List (MemoEntry V)) (rank : Node → ℕ)
    (falls : Falls net rank) (closed : IsClosedTo net ks []) where
  settled_by : (d : ℕ) (n : Node) → rank n < d → mark_of ks n ≡ true
      → IsSettledBy d net (as_memos ks) n
  settled_by zero n low h = absurd (omega (arith, low))
  settled_by (suc d) n low h = elim (closed n h) [
    | inl has ↦ absurd has
    | inr s ↦ (
      s.matches,
      all (λ m below h. settled_by d m (omega (arith, below, low)) h)
          (input_nodes (net.inputs n)) (falls n) s.inputs,
    )
  ]
    where
      all : ((m : Node) → rank m < rank n → mark_of ks m ≡ true → IsSettledBy d net (as_memos ks) m)
          → (ns : List Node) → Each (λ m. rank m < rank n) ns
          → Each (λ m. mark_of ks m ≡ true) ns → Each (IsSettledBy d net (as_memos ks)) ns
      all go [] l e = tt
      all go (m ∷ ns) l e = (go m l.0 e.0, all go ns l.1 e.1)

  pub closed_settled : (n : Node) → mark_of ks n ≡ true → IsSettled net (as_memos ks) n
  closed_settled n h = (suc (rank n), settled_by (suc (rank n)) n (omega arith) h)

  pub closed_used : (n : Node) → mark_of ks n ≡ true → Has net.used n
  closed_used n h = elim (closed n h) [ inl has ↦ absurd has | inr s ↦ s.used ]

-- a node that is not used leaves the pending
pub unused_passed : {V G : Type 0} (net : Net G) (ks : List (MemoEntry V)) (n : Node)
    (rest : List Node) → has_node n net.used ≡ false → IsMarkedTo net ks (n ∷ rest)
    → IsMarkedTo net ks rest
unused_passed net ks n rest none p = record {
  used = p.used;
  sound = p.sound;
  left = λ m used f match all. elim (p.left m used f match all) [
    | inl e ↦ absurd (true_false _ (has_is n net.used (subst (Has net.used) (sym e) used)) none)
    | inr r ↦ r
  ];
}

-- ---- after an edit

-- what an edit leaves of memos and marks
module _ {V G : Type 0} (old new : Net G) (keep : Node → Bool) (before after : List (MemoEntry V))
    (touched : List Node) (marks : IsMarkedTo old before [])
    (closed_before : IsUsedClosed old)
    (closed_after : IsUsedClosed new) (kept : (n : Node) → Has new.used n → keep n ≡ true)
    (only : TouchesOnly old new touched)
    (memos : as_memos after ≡ filter (λ m. keep m.node) (as_memos before))
    (flags : (n : Node) → mark_of after n ≡ (keep n && mark_of before n)) where
  memo_is : (n : Node) → Has new.used n → memo_of n (as_memos after) ≡ memo_of n (as_memos before)
  memo_is n used =
      ap (memo_of n) memos ∙ keep_found keep n (as_memos before) (kept n used)

  was_marked_before : (n : Node) → mark_of after n ≡ true → mark_of before n ≡ true
  was_marked_before n h = second (keep n) (mark_of before n) (sym (flags n) ∙ h)
    where
      second : (a b : Bool) → (a && b) ≡ true → b ≡ true
      second true b h = h
      second false b h = cc

  is_marked_after : (n : Node) → Has new.used n → mark_of before n ≡ true → mark_of after n ≡ true
  is_marked_after n used h = flags n ∙ rw (kept n used) h

  -- the present inputs are as before
  inputs_alike : (ks : List Key) → Each (IsSamePart old new) ks → Each (Has new.used) (input_nodes ks)
      → present_inputs new (as_memos after) ks ≡ present_inputs old (as_memos before) ks
  inputs_alike [] parts used = refl
  inputs_alike (Part p q ∷ ks) parts used = rw (parts.0, inputs_alike ks parts.1 used) refl
  inputs_alike (Output n x ∷ ks) parts used =
      rw (memo_is n used.0, inputs_alike ks parts.1 used.1) refl

  each_after : (ns : List Node) → Each (Has new.used) ns → Each (λ m. mark_of before m ≡ true) ns
      → Each (λ m. mark_of after m ≡ true) ns
  each_after [] used e = tt
  each_after (m ∷ ns) used e = (is_marked_after m used.0 e.0, each_after ns used.1 e.1)

  each_before : (ns : List Node) → Each (λ m. mark_of after m ≡ true) ns
      → Each (λ m. mark_of before m ≡ true) ns
  each_before [] e = tt
  each_before (m ∷ ns) e = (was_marked_before m e.0, each_before ns e.1)

  module _ (n : Node) (alike : IsUsedAlike old new n) where
    below_used : Each (Has new.used) (input_nodes (old.inputs n))
    below_used = rw alike.inputs at (closed_after n alike.after)

    present_alike : present_inputs new (as_memos after) (new.inputs n)
        ≡ present_inputs old (as_memos before) (old.inputs n)
    present_alike = rw alike.inputs (inputs_alike (old.inputs n) alike.parts below_used)

    matches_after : Matches old (as_memos before) n → Matches new (as_memos after) n
    matches_after h = rw (memo_is n alike.after, present_alike) h

    matches_before : Matches new (as_memos after) n → Matches old (as_memos before) n
    matches_before h = rw (memo_is n alike.after, present_alike) at h

  -- the marks of a marked node's inputs
  marked_below : (n : Node) → mark_of before n ≡ true
      → Matches old (as_memos before) n × HasMarkedInputs old before n
  marked_below n h = let s = marks.sound n h in go s.0 s.1
    where
      all : (d : ℕ) (ns : List Node) → Each (Has old.used) ns → Each (IsSettledBy d old (as_memos before)) ns
          → Each (λ m. mark_of before m ≡ true) ns
      all d [] used e = tt
      all d (m ∷ ns) used e =
          (settled_marked old before closed_before marks d m used.0 e.0, all d ns used.1 e.1)

      go : (d : ℕ) → IsSettledBy d old (as_memos before) n
          → Matches old (as_memos before) n × HasMarkedInputs old before n
      go zero s = absurd s
      go (suc d) s =
          (s.0, all d (input_nodes (old.inputs n)) (closed_before n (marks.used n h)) s.1)

  pub marked_but : IsMarkedBut new after touched
  marked_but = record {
    closed = λ n h. (let was = was_marked_before n h in elim (only n (inl (marks.used n was))) [
      | inl has ↦ inl has
      | inr alike ↦ (let below = marked_below n was in inr (record {
        used = alike.after;
        matches = matches_after n alike below.0;
        inputs =
            rw alike.inputs (each_after (input_nodes (old.inputs n)) (below_used n alike) below.1);
      }))
    ]);
    left = λ n used none match all. elim (only n (inr used)) [
      | inl has ↦ has
      | inr alike ↦ elim (cases_Bool (mark_of before n)) [
        | inl t ↦ absurd (true_false _ (is_marked_after n used t) none)
        | inr f ↦ absurd (marks.left n alike.before f (matches_before n alike match)
            (rw alike.inputs at (each_before (input_nodes (new.inputs n)) all)))
      ]
    ];
  }

  -- an untouched node that was known to match does
  pub matched_but : HasNoNewMatch before after → AreMatched old before
      → AreMatchedTo new after touched
  matched_but fewer was n h = let p = matched_there old before was n (fewer n h) in elim (only n (inl p.0)) [
    | inl has ↦ inl has
    | inr alike ↦ inr (alike.after, matches_after n alike p.1)
  ]

  -- an untouched node that has work had it
  pub whole_but : (cs : List (ℕ × Claim)) (w : Waiting) → IsWholeTo old before cs w []
      → IsWholeTo new after cs w touched
  whole_but cs w whole = whole_of new after cs w touched (λ is n used work.
      elim (only n (inr used)) [
        | inl has ↦ inr has
        | inr alike ↦ (let q = work_there new after cs n work in
            elim (waits old before cs w [] whole is n alike.before (work_now old before cs n
            (rw (memo_is n alike.after, present_alike n alike) at q.0)
            (rw alike.inputs at (each_before (input_nodes (new.inputs n)) q.1))
            (rw (present_alike n alike) at q.2))) [
              | inl there ↦ inl there
              | inr none ↦ absurd none
            ])
      ])

-- what has work with fewer marks had it
pub fewer_whole : {V G : Type 0} (net : Net G) (old new : List (MemoEntry V)) (cs : List (ℕ × Claim))
    (w : Waiting) (pending : List Node) → as_memos new ≡ as_memos old → HasNoNewMark old new
    → IsWholeTo net old cs w pending → IsWholeTo net new cs w pending
fewer_whole net old new cs w pending same fewer whole h n used work =
    let q = rw same at (work_there net new cs n work) in
    whole h n used
    (work_now net old cs n q.0 (each_old old new fewer (input_nodes (net.inputs n)) q.1) q.2)
