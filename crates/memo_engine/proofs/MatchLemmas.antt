-- Memos that are known to match: what marks and returns leave of that.
use Rattle.std.proofs.Common.{◌≡◌, ℕ, ◌+◌, ◌<◌, ◌⊎◌, inl, inr, Bool, true, false, ◌&&◌, ◌++◌, ◌==◌, List, [], ◌∷◌, Option, Some, None, option_map, if◌then◌else◌, refl, ap, subst, sym, ◌∙◌, eqb-true, arith}
use Rattle.std.specs.List.{AllByRecursion as Each}
use Rattle.std.specs.Map.{lookup, set_value}
use Rattle.std.proofs.lemmas.Bool.{cases_Bool}
use Rattle.std.proofs.lemmas.Option.{same_Some}
use Rattle.value_store.specs.Tokens.{TokenShown}
use Rattle.memo_core.specs.declared.keys.Node.{Node}
use Rattle.memo_core.specs.declared.keys.Key.{Key}
use Rattle.memo_core.specs.declared.keys.Key.TheVariants.{Part, Output}
use Rattle.memo_core.specs.declared.keys.Input.{Input}
use Rattle.memo_core.specs.declared.keys.Output.{Output as Made}
use Rattle.memo_core.specs.declared.table.Kept.{Kept}
use Rattle.memo_core.specs.Names.{same_node}
use Rattle.memo_core.specs.Graph.{Memo, Net, memo_of, output_at, stored_output, stamp_or_zero, stamp_at, present_inputs, Matches, input_nodes, named_values, lookup as value_of, put_memo}
use Rattle.memo_core.specs.Right.{Making, HasOutputValue}
use Rattle.memo_core.specs.Views.{MemoEntry, as_memo, as_memos}
use Rattle.memo_core.specs.Tests.{has_node, is_match, holds_value, stamped_outputs, changed_names, outputs_of}
use Rattle.memo_core.specs.Laws.{AreUsers, Falls}
use Rattle.memo_core.specs.Step.{Has}
use Rattle.memo_core.specs.Marks.{mark_of, matched_of, with_mark_at}
use Rattle.memo_core.specs.Lemmas.Equality.{and_true, same_node_exact}
use Rattle.memo_core.proofs.Depth.{match_is}
use Rattle.memo_core.proofs.JudgeLemmas.{has_is, has_yes, true_false}
use Rattle.memo_core.proofs.Theory.{put_same, put_other}
use Rattle.memo_engine.specs.Matched.{AreMatched, AreMatchedTo, AreDoubted, HasNoNewMatch}
use Rattle.memo_engine.specs.Unmarked.{without_mark_at}
use Rattle.memo_engine.proofs.MarkLemmas.{as_memos-with_mark_at}

-- ---- the two ways to say it

pub matched_there : {V G : Type 0} (net : Net G) (ks : List (MemoEntry V)) → AreMatched net ks
    → (n : Node) → matched_of ks n ≡ true → Has net.used n × Matches net (as_memos ks) n
matched_there net ks are n h =
    let p = and_true (has_node n net.used) (is_match net (as_memos ks) n) (are n h) in
    (has_yes n net.used p.0, (match_is net (as_memos ks) n).0 p.1)

matched_now : {V G : Type 0} (net : Net G) (ks : List (MemoEntry V))
    → ((n : Node) → matched_of ks n ≡ true → Has net.used n × Matches net (as_memos ks) n)
    → AreMatched net ks
matched_now net ks go n h =
    let p = go n h in
    rw (has_is n net.used p.0, (match_is net (as_memos ks) n).1 p.1) refl

pub matched_same : {V G : Type 0} (old new : Net G) (ks : List (MemoEntry V)) → new ≡ old
    → AreMatched old ks → AreMatched new ks
matched_same {V} {G} old new ks e are = subst (λ (net : Net G). AreMatched net ks) (sym e) are

-- ---- by what is kept of a node

pub kept_matched : {V : Type 0} (n : Node) (ks : List (MemoEntry V)) (k : Kept (TokenShown V))
    → Some k ≡ lookup (same_node n) ks → matched_of ks n ≡ k.matched
kept_matched n [] k h = cc
kept_matched {V} n (x ∷ ks) k h = elim (cases_Bool (same_node n x.0)) [
  | inl t ↦ rw t (ap (λ (k : Kept (TokenShown V)). k.matched) (sym (same_Some k x.1 (rw t at h))))
  | inr f ↦ rw f (kept_matched n ks k (rw f at h))
]

pub no_match_kept : {V : Type 0} (n : Node) (ks : List (MemoEntry V))
    → None ≡ lookup (same_node n) ks → matched_of ks n ≡ false
no_match_kept n [] h = refl
no_match_kept {V} n (x ∷ ks) h = elim (cases_Bool (same_node n x.0)) [
  | inl t ↦ absurd (none_some x.1 (rw t at h))
  | inr f ↦ rw f (no_match_kept n ks (rw f at h))
]
  where
    none_some : (k : Kept (TokenShown V)) → None ≡ Some k → ⊥
    none_some k h = cc

-- ---- what a doubt leaves

abbrev pub doubted : {V : Type 0} → Kept (TokenShown V) → Kept (TokenShown V)
doubted k =
    record { inputs = k.inputs; outputs = k.outputs; settled = k.settled; matched = false }

module _ {V : Type 0} (n : Node) (k : Kept (TokenShown V)) where
  pub doubted_memos : (ks : List (MemoEntry V)) → Some k ≡ lookup (same_node n) ks
      → as_memos (set_value (same_node n) ks (doubted k)) ≡ as_memos ks
  doubted_memos [] h = cc
  doubted_memos (x ∷ ks) h = elim (cases_Bool (same_node n x.0)) [
    | inl t ↦ rw t (ap (λ (k : Kept (TokenShown V)). as_memo (x.0, k) ∷ as_memos ks)
        (same_Some k x.1 (rw t at h)))
    | inr f ↦ rw f (ap (λ (ms : List (Memo V)). as_memo x ∷ ms) (doubted_memos ks (rw f at h)))
  ]

  pub doubted_marks : (ks : List (MemoEntry V)) → Some k ≡ lookup (same_node n) ks → (m : Node)
      → mark_of (set_value (same_node n) ks (doubted k)) m ≡ mark_of ks m
  doubted_marks [] h m = cc
  doubted_marks (x ∷ ks) h m = elim (cases_Bool (same_node n x.0)) [
    | inl t ↦ rw t (ap
        (λ (k : Kept (TokenShown V)). if same_node m x.0 then k.settled else mark_of ks m)
        (same_Some k x.1 (rw t at h)))
    | inr f ↦ rw f (ap (λ (b : Bool). if same_node m x.0 then x.1.settled else b)
        (doubted_marks ks (rw f at h) m))
  ]

  pub doubted_here : (ks : List (MemoEntry V)) → Some k ≡ lookup (same_node n) ks
      → matched_of (set_value (same_node n) ks (doubted k)) n ≡ false
  doubted_here [] h = cc
  doubted_here (x ∷ ks) h = elim (cases_Bool (same_node n x.0)) [
    | inl t ↦ rw t (rw t refl)
    | inr f ↦ rw f (rw f (doubted_here ks (rw f at h)))
  ]

  pub doubted_old : (ks : List (MemoEntry V)) → Some k ≡ lookup (same_node n) ks
      → HasNoNewMatch ks (set_value (same_node n) ks (doubted k))
  doubted_old [] h m is = cc
  doubted_old (x ∷ ks) h m is = elim (cases_Bool (same_node n x.0)) [
    | inl t ↦ elim (cases_Bool (same_node m x.0)) [
      | inl s ↦ absurd (true_false _ (rw (t, s) at is) refl)
      | inr g ↦ rw g (rw (t, g) at is)
    ]
    | inr f ↦ elim (cases_Bool (same_node m x.0)) [
      | inl s ↦ rw s (rw (f, s) at is)
      | inr g ↦ rw g (doubted_old ks (rw f at h) m (rw (f, g) at is))
    ]
  ]

-- ---- what marks leave

pub retained_old : (keep matched : Bool) → (keep && matched) ≡ true → matched ≡ true
retained_old true matched h = h
retained_old false matched h = cc

pub unmarked_matched : {V : Type 0} (n m : Node) (ks : List (MemoEntry V))
    → matched_of (without_mark_at n ks) m ≡ matched_of ks m
unmarked_matched n m [] = refl
unmarked_matched {V} n m (k ∷ ks) = elim (cases_Bool (same_node n k.0)) [
  | inl t ↦ rw t refl
  | inr f ↦ rw f (ap (λ (b : Bool). if same_node m k.0 then k.1.matched else b)
      (unmarked_matched n m ks))
]

-- only the node that is marked may be known to match and was not
marked_matched : {V : Type 0} (n m : Node) (ks : List (MemoEntry V))
    → matched_of (with_mark_at n ks) m ≡ true → (same_node m n ≡ true) ⊎ (matched_of ks m ≡ true)
marked_matched n m [] h = inr h
marked_matched {V} n m (k ∷ ks) h = elim (cases_Bool (same_node n k.0)) [
  | inl t ↦ elim (cases_Bool (same_node m k.0)) [
    | inl s ↦ inl (subst (λ (x : Node). same_node m x ≡ true) (sym (same_node_exact n k.0 t)) s)
    | inr g ↦ inr (rw g (rw (t, g) at h))
  ]
  | inr f ↦ elim (cases_Bool (same_node m k.0)) [
    | inl s ↦ inr (rw s (rw (f, s) at h))
    | inr g ↦ elim (marked_matched n m ks (rw (f, g) at h)) [
      | inl e ↦ inl e
      | inr r ↦ inr (rw g r)
    ]
  ]
]

pub matched_marked : {V G : Type 0} (net : Net G) (ks : List (MemoEntry V)) (n : Node)
    → AreMatched net ks → Has net.used n → Matches net (as_memos ks) n
    → AreMatched net (with_mark_at n ks)
matched_marked net ks n are used match = matched_now net (with_mark_at n ks) (λ m h.
    elim (marked_matched n m ks h) [
      | inl t ↦ (let e = sym (same_node_exact m n t) in (
        subst (Has net.used) e used,
        rw (as_memos-with_mark_at n ks) (subst (Matches net (as_memos ks)) e match),
      ))
      | inr r ↦ (let p = matched_there net ks are m r in
          (p.0, rw (as_memos-with_mark_at n ks) p.1))
    ])

-- ---- the touched, one after the other

pub matched_on : {V G : Type 0} (net : Net G) (old mid new : List (MemoEntry V)) (n : Node)
    (rest : List Node) → as_memos new ≡ as_memos old → matched_of mid n ≡ false
    → HasNoNewMatch old mid → HasNoNewMatch mid new → AreMatchedTo net old (n ∷ rest)
    → AreMatchedTo net new rest
matched_on net old mid new n rest same none first next are m h = elim (are m (first m (next m h))) [
  | inl has ↦ elim has [
    | inl e ↦ absurd (true_false _ (next m h)
        (subst (λ (x : Node). matched_of mid x ≡ false) e none))
    | inr r ↦ inl r
  ]
  | inr p ↦ inr (p.0, rw same p.1)
]

pub matched_end : {V G : Type 0} (net : Net G) (ks : List (MemoEntry V)) → AreMatchedTo net ks []
    → AreMatched net ks
matched_end net ks are =
    matched_now net ks (λ n h. elim (are n h) [ inl none ↦ absurd none | inr p ↦ p ])

-- what is known to match and is among these is among those behind the first
pub doubted_on : {V : Type 0} (ks : List (MemoEntry V)) (n m : Node) (rest : List Node)
    → matched_of ks n ≡ false → matched_of ks m ≡ true → Has (n ∷ rest) m → Has rest m
doubted_on ks n m rest none h has = elim has [
  | inl e ↦ absurd (true_false _ h (subst (λ (x : Node). matched_of ks x ≡ false) e none))
  | inr r ↦ r
]

-- ---- after a return

-- the stamps of outputs where none is new or changed
same_stamp : {V : Type 0} (same : V → V → Bool) (old : List (Made V)) (number : ℕ)
    (os : List (Made V)) (x : ℕ) (v : V) → changed_names same old os ≡ []
    → value_of x (named_values os) ≡ Some v
    → stamp_or_zero (output_at x (stamped_outputs same old number os))
    ≡ stamp_or_zero (output_at x old)
same_stamp same old number [] x v none there = cc
same_stamp {V} same old number (o ∷ os) x v none there =
    elim (cases_Bool (holds_value same (output_at o.name old) o.value)) [
      | inl t ↦ elim (cases_Bool (x == o.name)) [
        | inl e ↦ rw (e, t) (ap (λ (y : ℕ). stamp_or_zero (output_at y old))
            (sym (eqb-true x o.name e)))
        | inr g ↦ rw g (same_stamp same old number os x v (rw t at none) (rw g at there))
      ]
      | inr f ↦ absurd (clash (rw f at none))
    ]
  where
    clash : (o.name ∷ []) ++ changed_names same old os ≡ [] → ⊥
    clash h = cc

stored_in : {V : Type 0} (x : ℕ) (o : Option (Memo V))
    → output_at x (outputs_of o) ≡ stored_output x o
stored_in x None = refl
stored_in x (Some m) = refl

each_has : (P : Node → Type 0) (ns : List Node) (n : Node) → Each P ns → Has ns n → P n
each_has P [] n e h = absurd h
each_has P (m ∷ ns) n e h = elim h [ inl q ↦ subst P q e.0 | inr r ↦ each_has P ns n e.1 r ]

module _ {V G : Type 0} (net : Net G) (ms : List (Memo V)) (m : Memo V) where
  -- keys that have the stamps that they had
  alike : (ks : List Key) → Each (λ k. stamp_at net (put_memo m ms) k ≡ stamp_at net ms k) ks
      → present_inputs net (put_memo m ms) ks ≡ present_inputs net ms ks
  alike [] e = refl
  alike (k ∷ ks) e = rw (e.0, alike ks e.1) refl

  stamp_other : (n : Node) (x : ℕ) → same_node n m.node ≡ false
      → stamp_at net (put_memo m ms) (Output n x) ≡ stamp_at net ms (Output n x)
  stamp_other n x f = rw (put_other m n ms f) refl

  -- keys of other nodes
  others : (ks : List Key) → (Has (input_nodes ks) m.node → ⊥)
      → Each (λ k. stamp_at net (put_memo m ms) k ≡ stamp_at net ms k) ks
  others [] apart = tt
  others (Part p q ∷ ks) apart = (refl, others ks apart)
  others (Output n x ∷ ks) apart = elim (cases_Bool (same_node n m.node)) [
    | inl t ↦ absurd (apart (inl (same_node_exact n m.node t)))
    | inr f ↦ (stamp_other n x f, others ks (λ h. apart (inr h)))
  ]

  module _ (makes : Making V G) (same : V → V → Bool) (number : ℕ) (given : G) (values : List V)
      (made : List (Made V)) (gives : net.gives m.node given ≡ true)
      (makes_it : makes m.node given (net.inputs m.node) values (named_values made))
      (stamped : m.outputs ≡ stamped_outputs same (outputs_of (memo_of m.node ms)) number made)
      (none : changed_names same (outputs_of (memo_of m.node ms)) made ≡ []) where
    -- keys that get values, where no output is new or changed
    valued : (ks : List Key) → Each (HasOutputValue makes net) ks
        → Each (λ k. stamp_at net (put_memo m ms) k ≡ stamp_at net ms k) ks
    valued [] e = tt
    valued (Part p q ∷ ks) e = (refl, valued ks e.1)
    valued (Output n x ∷ ks) e = elim (cases_Bool (same_node n m.node)) [
      | inl t ↦ (own (same_node_exact n m.node t) e.0, valued ks e.1)
      | inr f ↦ (stamp_other n x f, valued ks e.1)
    ]
      where
        own : n ≡ m.node → HasOutputValue makes net (Output n x)
            → stamp_at net (put_memo m ms) (Output n x) ≡ stamp_at net ms (Output n x)
        own q has =
            let v = (subst (λ (n : Node). HasOutputValue makes net (Output n x)) q has) given values (named_values made) gives makes_it in
            rw (q, put_same m ms, stamped)
            (same_stamp same (outputs_of (memo_of m.node ms)) number made x v.0 none v.1
            ∙ ap stamp_or_zero (stored_in x (memo_of m.node ms)))

-- what is known to match after a return does
pub return_matched : {V G : Type 0} (net : Net G) (ks next : List (MemoEntry V)) (m : Memo V)
    (makes : Making V G) (same : V → V → Bool) (number : ℕ) (given : G) (values : List V)
    (made : List (Made V)) (names : List ℕ) (users : Node → List Node) (rank : Node → ℕ)
    → net.gives m.node given ≡ true
    → makes m.node given (net.inputs m.node) values (named_values made)
    → m.outputs ≡ stamped_outputs same (outputs_of (memo_of m.node (as_memos ks))) number made
    → names ≡ changed_names same (outputs_of (memo_of m.node (as_memos ks))) made
    → AreUsers net users → Falls net rank
    → ((n : Node) → Has net.used n → Each (HasOutputValue makes net) (net.inputs n))
    → Has net.used m.node → m.inputs ≡ present_inputs net (as_memos ks) (net.inputs m.node)
    → as_memos next ≡ put_memo m (as_memos ks)
    → ((n : Node) → same_node n m.node ≡ false → matched_of next n ≡ true → matched_of ks n ≡ true)
    → AreDoubted names (users m.node) next → AreMatched net ks → AreMatched net next
return_matched {V} {G} net ks next m makes same number given values made names users rank gives makes_it stamped told listed falls valued_in used present memos old doubts are = matched_now net next go
  where
    own : Matches net (put_memo m (as_memos ks)) m.node
    own =
        let ms = as_memos ks in
        let apart = λ (has : Has (input_nodes (net.inputs m.node)) m.node).
        absurd_low (each_has (λ n. rank n < rank m.node) (input_nodes (net.inputs m.node)) m.node
        (falls m.node) has) in
        rw (
          put_same m ms,
          alike net ms m (net.inputs m.node)
              (others net ms m (net.inputs m.node) apart),
        )
        (ap (λ (is : List Input). let o : Option (List Input) = Some is in o) present)
      where
        absurd_low : rank m.node < rank m.node → ⊥
        absurd_low low = omega (arith, low)

    stamps : (n : Node) → matched_of next n ≡ true → Has net.used n
        → Each (λ k. stamp_at net (put_memo m (as_memos ks)) k ≡ stamp_at net (as_memos ks) k)
        (net.inputs n)
    stamps n h is_used =
        let ms = as_memos ks in elim (doubts n h) [
          | inl none ↦ valued net ms m makes same number given values made gives makes_it stamped
              (sym told ∙ none) (net.inputs n) (valued_in n is_used)
          | inr not ↦ others net ms m (net.inputs n) (λ has. not (listed.listed m.node n is_used has))
        ]

    go : (n : Node) → matched_of next n ≡ true → Has net.used n × Matches net (as_memos next) n
    go n h = rw memos (elim (cases_Bool (same_node n m.node)) [
      | inl t ↦ (let e = sym (same_node_exact n m.node t) in
          (subst (Has net.used) e used, subst (Matches net (put_memo m (as_memos ks))) e own))
      | inr f ↦ (let p = matched_there net ks are n (old n f h) in (
        p.0,
        rw (
          put_other m n (as_memos ks) f,
          alike net (as_memos ks) m (net.inputs n)
              (stamps n h p.0),
        ) p.1,
      ))
    ])
