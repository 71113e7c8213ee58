-- The nodes that may have work, over what changes who has some.
use Rattle.std.proofs.Common.{◌≡◌, ◌≢◌, ℕ, ◌⊎◌, inl, inr, Bool, true, false, ◌&&◌, ◌++◌, List, [], ◌∷◌, length, Option, Some, None, refl, ap, subst, sym, ◌∙◌, arith}
use Rattle.std.specs.List.{AllByRecursion as Each}
use Rattle.std.specs.Map.{lookup, remove_entry}
use Rattle.std.specs.Ordering.{nat_cmp}
use Rattle.std.specs.BTreeMap.{is_at}
use Rattle.std.proofs.lemmas.Bool.{cases_Bool}
use Rattle.memo_core.specs.declared.keys.Node.{Node}
use Rattle.memo_core.specs.declared.keys.Input.{Input}
use Rattle.memo_core.specs.declared.claims.Claim.{Claim}
use Rattle.memo_core.specs.Names.{same_node}
use Rattle.memo_core.specs.Graph.{Net, present_inputs}
use Rattle.memo_core.specs.Tests.{has_node, is_match, is_out, all_nodes, same_inputs}
use Rattle.memo_core.specs.Views.{MemoEntry, as_memos}
use Rattle.memo_core.specs.Step.{OpenClaim, Return, open_claims, Has, IsOut, IsStale}
use Rattle.memo_core.specs.Marks.{mark_of, can_work, IsIdle}
use Rattle.memo_core.specs.Lemmas.Equality.{and_true, same_node_exact}
use Rattle.memo_core.proofs.Inputs.{same_inputs_exact}
use Rattle.memo_core.proofs.JudgeLemmas.{of_all, true_false, has_is}
use Rattle.memo_core.proofs.Depth.{all_from}
use Rattle.memo_engine.specs.declared.waiting.Waiting.{Waiting}
use Rattle.memo_engine.specs.Waiting.{IsWholeTo, HasNoted}
use Rattle.memo_engine.proofs.MarkLemmas.{has_left, has_right, has_at, at_has, work_there, work_now, waits, whole_of}
use Rattle.memo_engine.proofs.WorkLemmas.{not_out_yes, not_out_is}
use Rattle.memo_engine.proofs.AcceptLemmas.{claimed}

-- ---- what is noted

pub pushed_has : (old new : List Node) (node : Node) → new ≡ old ++ node ∷ [] → (n : Node)
    → Has old n ⊎ Has (node ∷ []) n → Has new n
pushed_has old new node e n has = rw e (elim has [
  | inl there ↦ has_left old (node ∷ []) n there
  | inr is ↦ has_right old (node ∷ []) n is
])

has_either : {X : Type 0} (xs ys : List X) (x : X) → Has (xs ++ ys) x → Has xs x ⊎ Has ys x
has_either [] ys x h = inr h
has_either (z ∷ xs) ys x h = elim h [
  | inl e ↦ inl (inl e)
  | inr r ↦ elim (has_either xs ys x r) [ inl a ↦ inl (inr a) | inr b ↦ inr b ]
]

module _ {V G : Type 0} (net : Net G) (ks : List (MemoEntry V)) (cs : List (ℕ × Claim)) where
  -- noted nodes leave the pending
  pub whole_noted : (old new : Waiting) (nodes pending : List Node) → HasNoted old nodes new
      → IsWholeTo net ks cs old (nodes ++ pending) → IsWholeTo net ks cs new pending
  whole_noted old new nodes pending noted whole = whole_of net ks cs new pending (λ is n used work.
      (let now = noted is in
      elim (waits net ks cs old (nodes ++ pending) whole now.0 n used work) [
        | inl there ↦ inl (now.1 n (inl there))
        | inr has ↦ elim (has_either nodes pending n has) [
          | inl one ↦ inl (now.1 n (inr one))
          | inr rest ↦ inr rest
        ]
      ]))

  -- so does a node that has no work, or is not used
  pub whole_passed : (w : Waiting) (node : Node) (pending : List Node)
      → (Has net.used node → can_work net ks cs node ≡ false)
      → IsWholeTo net ks cs w (node ∷ pending) → IsWholeTo net ks cs w pending
  whole_passed w node pending idle whole = whole_of net ks cs w pending (λ is n used work.
      elim (waits net ks cs w (node ∷ pending) whole is n used work) [
        | inl there ↦ inl there
        | inr has ↦ elim has [
          | inl e ↦ absurd (true_false _ work (subst (λ (x : Node). can_work net ks cs x ≡ false) e
              (idle (subst (Has net.used) (sym e) used))))
          | inr rest ↦ inr rest
        ]
      ])

  pub matched_idle : (n : Node) → is_match net (as_memos ks) n ≡ true → can_work net ks cs n ≡ false
  matched_idle n h = rw h refl

  pub unready_idle : (n : Node) → all_nodes (mark_of ks) (net.inputs n) ≡ false
      → can_work net ks cs n ≡ false
  unready_idle n h = elim (cases_Bool (can_work net ks cs n)) [
    | inl t ↦ absurd (true_false _ (all_from (mark_of ks) (λ m. mark_of ks m ≡ true) (λ m t. t)
        (net.inputs n) (work_there net ks cs n t).1) h)
    | inr f ↦ f
  ]

  -- where the waiting nodes are whole and none is left, no used node has work
  pub whole_idle : (w : Waiting) → IsWholeTo net ks cs w [] → w.is_whole ≡ true
      → w.nodes.items ≡ [] → IsIdle net ks cs 0 (length net.used)
  whole_idle w whole is none i n low high at = elim (cases_Bool (can_work net ks cs n)) [
    | inl t ↦ elim (waits net ks cs w [] whole is n (has_at net.used i n at) t) [
      | inl there ↦ absurd (rw none at there)
      | inr has ↦ absurd has
    ]
    | inr f ↦ f
  ]

  -- where no used node has work, the waiting nodes are whole
  pub idle_whole : (w : Waiting) → IsIdle net ks cs 0 (length net.used) → IsWholeTo net ks cs w []
  idle_whole w idle is n used work =
      let there = at_has net.used n used in
      absurd (true_false _ work (idle there.0 n (omega arith) there.1 there.2))

  -- a node that was taken from behind is pending
  pub whole_popped : (old new : Waiting) (node : Node) → new.is_whole ≡ old.is_whole
      → old.nodes.items ≡ new.nodes.items ++ node ∷ [] → IsWholeTo net ks cs old []
      → IsWholeTo net ks cs new (node ∷ [])
  whole_popped old new node same items whole = whole_of net ks cs new (node ∷ [])
      (λ is n used work. elim (waits net ks cs old [] whole (sym same ∙ is) n used work) [
        | inl there ↦ has_either new.nodes.items (node ∷ []) n (rw items at there)
        | inr has ↦ absurd has
      ])

-- a node that is not used has no work to note
pub unused_idle : {G P : Type 0} (net : Net G) (n : Node) → has_node n net.used ≡ false
    → Has net.used n → P
unused_idle net n none used = absurd (true_false _ (has_is n net.used used) none)

-- what is the same has the same work
pub whole_same : {V G : Type 0} (old new : Net G) (before after : List (MemoEntry V))
    (cs : List (ℕ × Claim)) (w : Waiting) → new ≡ old → after ≡ before
    → IsWholeTo old before cs w [] → IsWholeTo new after cs w []
whole_same old new before after cs w e f whole = rw (e, f) whole

-- ---- claims that come and go

each_front : {X : Type 0} (P : X → Type 0) (xs ys : List X) → Each P (xs ++ ys) → Each P xs
each_front P [] ys e = tt
each_front P (x ∷ xs) ys e = (e.0, each_front P xs ys e.1)

-- who is out no more was out by the claim that was closed
closed_out : (test : ℕ → Bool) (n : Node) (present : List Input) (cs : List (ℕ × Claim)) (k : Claim)
    → Some k ≡ lookup test cs → is_out n present (remove_entry test cs) ≡ false
    → (is_out n present cs ≡ false) ⊎ ((k.node ≡ n) × (k.inputs.items ≡ present))
closed_out test n present [] k is none = inl refl
closed_out test n present (c ∷ cs) k is none = elim (cases_Bool (test c.0)) [
  | inl t ↦ (let e : k ≡ c.1 = some_one k c.1 (rw t at is) in
      elim (cases_Bool (same_node n c.1.node && same_inputs c.1.inputs.items present)) [
        | inl out ↦ (let p = and_true (same_node n c.1.node) (same_inputs c.1.inputs.items present) out in
            inr (
              rw e (sym (same_node_exact n c.1.node p.0)),
              rw e (same_inputs_exact c.1.inputs.items present p.1),
            ))
        | inr not ↦ inl (rw not (rw t at none))
      ])
  | inr f ↦ (
      let left = rw f at none in
      elim (cases_Bool (same_node n c.1.node && same_inputs c.1.inputs.items present)) [
        | inl out ↦ absurd (true_false _ refl (rw out at left))
        | inr not ↦ elim (closed_out test n present cs k (rw f at is) (rw not at left)) [
          | inl still ↦ inl (rw not still)
          | inr by ↦ inr by
        ]
      ])
]
  where
    some_one : (k l : Claim) → Some k ≡ Some l → k ≡ l
    some_one k l h = cc

module _ {V G : Type 0} (net : Net G) (ks : List (MemoEntry V)) (cs next : List (ℕ × Claim))
    (w : Waiting) where
  pub whole_opened : (c : OpenClaim) → open_claims next ≡ open_claims cs ++ c ∷ []
      → IsWholeTo net ks cs w [] → IsWholeTo net ks next w []
  whole_opened c e whole is n used work =
      let q = work_there net ks next n work in
      let present = present_inputs net (as_memos ks) (net.inputs n) in
      whole is n used (work_now net ks cs n q.0 q.1 (not_out_is n present cs
      (each_front (λ c. c.node ≡ n → c.inputs ≢ present) (open_claims cs) (c ∷ [])
      (rw e at (not_out_yes n present next q.2)))))

  -- a node that was out by a claim that is closed is pending
  pub whole_closed : (test : ℕ → Bool) (k : Claim) (pending : List Node) → Some k ≡ lookup test cs
      → next ≡ remove_entry test cs
      → ((n : Node) → Has net.used n → k.node ≡ n
      → k.inputs.items ≡ present_inputs net (as_memos ks) (net.inputs n) → Has pending n)
      → IsWholeTo net ks cs w [] → IsWholeTo net ks next w pending
  whole_closed test k pending found e still whole = whole_of net ks next w pending
      (λ is n used work. (let q = work_there net ks next n work in
      let present = present_inputs net (as_memos ks) (net.inputs n) in
      elim (closed_out test n present cs k found (rw e at q.2)) [
        | inl out ↦ elim (waits net ks cs w [] whole is n used (work_now net ks cs n q.0 q.1 out)) [
          | inl there ↦ inl there
          | inr has ↦ absurd has
        ]
        | inr by ↦ inr (still n used by.0 by.1)
      ]))

-- where no claim is closed, all are as before
pub whole_unclosed : {V G : Type 0} (net : Net G) (ks : List (MemoEntry V))
    (cs next : List (ℕ × Claim)) (w : Waiting) (test : ℕ → Bool) → None ≡ lookup test cs
    → next ≡ remove_entry test cs → IsWholeTo net ks cs w [] → IsWholeTo net ks next w []
whole_unclosed {V} {G} net ks cs next w test none e whole = rw (e, same cs none) whole
  where
    same : (cs : List (ℕ × Claim)) → None ≡ lookup test cs → remove_entry test cs ≡ cs
    same [] h = refl
    same (c ∷ cs) h = elim (cases_Bool (test c.0)) [
      | inl t ↦ absurd (none_some c.1 (rw t at h))
      | inr f ↦ rw f (rw (same cs (rw f at h)) refl)
    ]
      where
        none_some : (k : Claim) → None ≡ Some k → ⊥
        none_some k h = cc

-- a late return closes a claim that is not of the present inputs
pub whole_stale : {V G : Type 0} (net : Net G) (ks : List (MemoEntry V))
    (cs next : List (ℕ × Claim)) (w : Waiting) (taken : ℕ) (r : Return V G) (c : OpenClaim)
    (stamp : Option ℕ) → IsOut (of_all net (as_memos ks) cs taken) r c
    → IsStale (of_all net (as_memos ks) cs taken) c stamp
    → next ≡ remove_entry (is_at (nat_cmp r.claim)) cs → IsWholeTo net ks cs w []
    → IsWholeTo net ks next w []
whole_stale {V} {G} net ks cs next w taken r c stamp out stale e whole =
    go (lookup (is_at (nat_cmp r.claim)) cs) refl
  where
    not_stale : (stamp : Option ℕ) → IsStale (of_all net (as_memos ks) cs taken) c stamp
        → (n : Node) → Has net.used n → c.node ≡ n
        → c.inputs ≡ present_inputs net (as_memos ks) (net.inputs n) → ⊥
    not_stale None stale n used at is = stale (subst (Has net.used) (sym at) used)
    not_stale (Some stamp) stale n used at is = stale.1 (rw at is)

    go : (o : Option Claim) → lookup (is_at (nat_cmp r.claim)) cs ≡ o → IsWholeTo net ks next w []
    go None none = whole_unclosed net ks cs next w (is_at (nat_cmp r.claim)) (sym none) e whole
    go (Some k) found =
        let by = claimed net (as_memos ks) cs taken r k (sym found) c out in
        whole_closed net ks cs next w (is_at (nat_cmp r.claim)) k [] (sym found) e
        (λ n used at is. absurd (not_stale stamp stale n used
        (ap (λ (c : OpenClaim). c.node) by.0 ∙ at) (ap (λ (c : OpenClaim). c.inputs) by.0 ∙ is)))
        whole
