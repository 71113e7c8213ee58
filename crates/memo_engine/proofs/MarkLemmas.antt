use Rattle.std.proofs.Common.{◌≡◌, ℕ, zero, suc, ◌<◌, ◌⊎◌, inl, inr, Bool, true, false, not, ◌&&◌, ◌||◌, ◌++◌, List, [], ◌∷◌, Some, option_map, if◌then◌else◌, refl, ap, subst, sym, ◌∙◌, arith, slice_get, length, Option}
use Rattle.std.specs.List.{AllByRecursion as Each}
use Rattle.std.proofs.lemmas.Bool.{cases_Bool}
use Rattle.memo_core.specs.declared.keys.Node.{Node}
use Rattle.memo_core.specs.declared.keys.Input.{Input}
use Rattle.memo_core.specs.Names.{same_node}
use Rattle.memo_core.specs.Graph.{Memo, Net, memo_of, present_inputs, Matches, input_nodes, IsSettled, IsSettledBy}
use Rattle.memo_core.specs.Views.{MemoEntry, as_memo, as_memos}
use Rattle.memo_core.specs.declared.claims.Claim.{Claim}
use Rattle.memo_core.specs.Tests.{has_node, is_match, all_nodes, is_out}
use Rattle.memo_core.specs.Graph.{put_memo}
use Rattle.memo_core.specs.Step.{Has, IsWork}
use Rattle.memo_core.specs.Marks.{mark_of, with_mark_at, unmarked_count, is_ready, IsMarkedTo, can_work, IsWorkAt, IsIdle, AreMarked, HasUnmarked}
use Rattle.memo_core.proofs.Tests.{same_node_exact, same_node_refl}
use Rattle.memo_core.proofs.Depth.{match_is, all_to, all_from}
use Rattle.memo_core.proofs.JudgeLemmas.{of_all, has_yes, has_is, true_false}
use Rattle.memo_core.proofs.Theory.{put_other}
use Rattle.memo_core.proofs.Headline.{settled_stays, same_present}
use Rattle.memo_engine.proofs.WorkLemmas.{not_out_yes, not_out_is}
use Rattle.memo_core.proofs.Progress.{one_depth}
use Rattle.memo_engine.specs.declared.waiting.Waiting.{Waiting}
use Rattle.memo_engine.specs.Needs.{IsMemoAt}
use Rattle.memo_engine.specs.Waiting.{IsWholeTo}

pub as_memos-with_mark_at : {V : Type 0} (n : Node) (ks : List (MemoEntry V))
    → as_memos (with_mark_at n ks) ≡ as_memos ks
as_memos-with_mark_at n [] = refl
as_memos-with_mark_at {V} n (k ∷ ks) = elim (cases_Bool (same_node n k.0)) [
  | inl t ↦ rw t refl
  | inr f ↦ rw f (ap (λ (ms : List (Memo V)). as_memo k ∷ ms) (as_memos-with_mark_at n ks))
]

pub mark_of-other : {V : Type 0} (n m : Node) (ks : List (MemoEntry V)) → same_node m n ≡ false
    → mark_of (with_mark_at n ks) m ≡ mark_of ks m
mark_of-other n m [] h = refl
mark_of-other {V} n m (k ∷ ks) h = elim (cases_Bool (same_node n k.0)) [
  | inl t ↦ (
      let g : same_node m k.0 ≡ false =
      subst (λ (x : Node). same_node m x ≡ false) (same_node_exact n k.0 t) h in
      rw t (rw g refl))
  | inr f ↦ rw f (ap (λ (b : Bool). if same_node m k.0 then k.1.settled else b)
      (mark_of-other n m ks h))
]

pub mark_of-same : {V : Type 0} (n : Node) (ks : List (MemoEntry V)) (is : List Input)
    → option_map (λ m. m.inputs) (memo_of n (as_memos ks)) ≡ Some is
    → mark_of (with_mark_at n ks) n ≡ true
mark_of-same n [] is h = cc
mark_of-same {V} n (k ∷ ks) is h = elim (cases_Bool (same_node n k.0)) [
  | inl t ↦ rw t (rw t refl)
  | inr f ↦ rw f (rw f (mark_of-same n ks is (rw f at h)))
]

pub unmarked_count-less : {V : Type 0} (n : Node) (ks : List (MemoEntry V)) (i : ℕ)
    → IsMemoAt n i ks → mark_of ks n ≡ false
    → unmarked_count (with_mark_at n ks) < unmarked_count ks
unmarked_count-less n [] i there f = absurd there
unmarked_count-less n (k ∷ ks) zero there not_yet =
    let e : k.1.settled ≡ false = rw there at not_yet in rw there (rw e (omega arith))
unmarked_count-less n (k ∷ ks) (suc i) there not_yet =
    let less = unmarked_count-less n ks i there.1 (rw there.0 at not_yet) in
    rw there.0 (omega arith)

pub has_left : {X : Type 0} (xs ys : List X) (x : X) → Has xs x → Has (xs ++ ys) x
has_left [] ys x h = absurd h
has_left (z ∷ xs) ys x h = elim h [ inl e ↦ inl e | inr r ↦ inr (has_left xs ys x r) ]

pub has_right : {X : Type 0} (xs ys : List X) (x : X) → Has ys x → Has (xs ++ ys) x
has_right [] ys x h = h
has_right (z ∷ xs) ys x h = inr (has_right xs ys x h)

ready_parts : (a b c : Bool) → (not a && b && c) ≡ true → (a ≡ false) × (b ≡ true) × (c ≡ true)
ready_parts true b c h = cc
ready_parts false false c h = cc
ready_parts false true false h = cc
ready_parts false true true h = (refl, refl, refl)

ready_whole : (a b c : Bool) → a ≡ false → b ≡ true → c ≡ true → (not a && b && c) ≡ true
ready_whole a b c p q r = rw (p, q, r) refl

-- work, by its three tests
work_parts : (a b c : Bool) → (not a && b && not c) ≡ true → (a ≡ false) × (b ≡ true) × (c ≡ false)
work_parts true b c h = cc
work_parts false false c h = cc
work_parts false true true h = cc
work_parts false true false h = (refl, refl, refl)

module _ {V G : Type 0} (net : Net G) (ks : List (MemoEntry V)) (cs : List (ℕ × Claim)) (n : Node) where
  pub work_there : can_work net ks cs n ≡ true
      → (is_match net (as_memos ks) n ≡ false)
      × Each (λ m. mark_of ks m ≡ true) (input_nodes (net.inputs n))
      × (is_out n (present_inputs net (as_memos ks) (net.inputs n)) cs ≡ false)
  work_there h =
      let q = work_parts (is_match net (as_memos ks) n) (all_nodes (mark_of ks) (net.inputs n)) (is_out n (present_inputs net (as_memos ks) (net.inputs n)) cs) h in
      (q.0, all_to (mark_of ks) (λ m. mark_of ks m ≡ true) (λ m t. t) (net.inputs n) q.1, q.2)

  pub work_now : is_match net (as_memos ks) n ≡ false
      → Each (λ m. mark_of ks m ≡ true) (input_nodes (net.inputs n))
      → is_out n (present_inputs net (as_memos ks) (net.inputs n)) cs ≡ false
      → can_work net ks cs n ≡ true
  work_now u e o =
      let all : all_nodes (mark_of ks) (net.inputs n) ≡ true = all_from (mark_of ks) (λ m. mark_of ks m ≡ true) (λ m t. t) (net.inputs n) e in
      rw (u, all, o) refl

-- the waiting nodes, by cases
module _ {V G : Type 0} (net : Net G) (ks : List (MemoEntry V)) (cs : List (ℕ × Claim)) (w : Waiting)
    (pending : List Node) where
  abbrev pub Waits : Node → Type 0
  Waits n = Has w.nodes.items n ⊎ Has pending n

  pub waits : IsWholeTo net ks cs w pending → w.is_whole ≡ true → (n : Node) → Has net.used n
      → can_work net ks cs n ≡ true → Waits n
  waits whole is n used work = elim (cases_Bool (has_node n w.nodes.items)) [
    | inl t ↦ inl (has_yes n w.nodes.items t)
    | inr f ↦ inr (has_yes n pending (rw f at (whole is n used work)))
  ]

  pub whole_of : (w.is_whole ≡ true → (n : Node) → Has net.used n → can_work net ks cs n ≡ true
      → Waits n) → IsWholeTo net ks cs w pending
  whole_of go is n used work = elim (go is n used work) [
    | inl there ↦ rw (has_is n w.nodes.items there) refl
    | inr has ↦ rw (has_is n pending has) (or_true (has_node n w.nodes.items))
  ]
    where
      or_true : (b : Bool) → (b || true) ≡ true
      or_true true = refl
      or_true false = refl

module _ {V G : Type 0} (net : Net G) (ks : List (MemoEntry V)) (n : Node) where
  pub ready_there : is_ready net ks n ≡ true
      → (mark_of ks n ≡ false) × (Matches net (as_memos ks) n)
      × Each (λ m. mark_of ks m ≡ true) (input_nodes (net.inputs n))
  ready_there h =
      let p = ready_parts (mark_of ks n) (is_match net (as_memos ks) n) (all_nodes (mark_of ks) (net.inputs n)) h in (
        p.0,
        (match_is net (as_memos ks) n).0 p.1,
        all_to (mark_of ks) (λ m. mark_of ks m ≡ true) (λ m t. t) (net.inputs n) p.2,
      )

  is_ready_now : mark_of ks n ≡ false → Matches net (as_memos ks) n
      → Each (λ m. mark_of ks m ≡ true) (input_nodes (net.inputs n)) → is_ready net ks n ≡ true
  is_ready_now f m e =
      ready_whole (mark_of ks n) (is_match net (as_memos ks) n)
      (all_nodes (mark_of ks) (net.inputs n)) f ((match_is net (as_memos ks) n).1 m)
      (all_from (mark_of ks) (λ m. mark_of ks m ≡ true) (λ m t. t) (net.inputs n) e)

  -- what cannot be marked now leaves the pending
  pub passed : is_ready net ks n ≡ false → (rest : List Node) → IsMarkedTo net ks (n ∷ rest)
      → IsMarkedTo net ks rest
  passed not_now rest p = record {
    used = p.used;
    sound = p.sound;
    left = λ u has f m e. elim (p.left u has f m e) [
      | inl q ↦ absurd (true_false _
          (is_ready_now (rw (sym q) at f) (subst (Matches net (as_memos ks)) (sym q) m)
          (subst
          (λ (x : Node). Each (λ m. mark_of ks m ≡ true) (input_nodes (net.inputs x)))
          (sym q) e)) not_now)
      | inr r ↦ r
    ];
  }

  module _ (users : Node → List Node)
      (covers : (u : Node) → Has net.used u → Has (input_nodes (net.inputs u)) n → Has (users n) u)
      (there : Has net.used n) (now : is_ready net ks n ≡ true) (rest : List Node) (p : IsMarkedTo net ks (n ∷ rest)) where
    each_sound : (ns : List Node) → Each (λ m. mark_of ks m ≡ true) ns
        → Each (IsSettled net (as_memos ks)) ns
    each_sound [] e = tt
    each_sound (m ∷ ns) e = (p.sound m e.0, each_sound ns e.1)

    now_settled : IsSettled net (as_memos ks) n
    now_settled =
        let r = ready_there now in
        let deep = one_depth net (as_memos ks) (input_nodes (net.inputs n)) (each_sound (input_nodes (net.inputs n)) r.2) in
        (suc deep.0, (r.1, deep.1))

    is_marked_now : mark_of (with_mark_at n ks) n ≡ true
    is_marked_now =
        mark_of-same n ks (present_inputs net (as_memos ks) (net.inputs n)) (ready_there now).1

    -- the new mark is the only one
    split : (ns : List Node) → Each (λ m. mark_of (with_mark_at n ks) m ≡ true) ns
        → Each (λ m. mark_of ks m ≡ true) ns ⊎ Has ns n
    split [] e = inl tt
    split (m ∷ ns) e = elim (cases_Bool (same_node m n)) [
      | inl t ↦ inr (inl (same_node_exact m n t))
      | inr f ↦ elim (split ns e.1) [
        | inl all ↦ inl (sym (mark_of-other n m ks f) ∙ e.0, all)
        | inr has ↦ inr (inr has)
      ]
    ]

    -- once a node is marked, what stands on it is pending
    pub marked_on : IsMarkedTo net (with_mark_at n ks) (users n ++ rest)
    marked_on = record {
      used = λ m h. elim (cases_Bool (same_node m n)) [
        | inl t ↦ subst (Has net.used) (sym (same_node_exact m n t)) there
        | inr f ↦ p.used m (sym (mark_of-other n m ks f) ∙ h)
      ];
      sound = λ m h. rw (as_memos-with_mark_at n ks) (elim (cases_Bool (same_node m n)) [
        | inl t ↦ subst (IsSettled net (as_memos ks)) (sym (same_node_exact m n t)) now_settled
        | inr f ↦ p.sound m (sym (mark_of-other n m ks f) ∙ h)
      ]);
      left = λ u has f m e. elim (cases_Bool (same_node u n)) [
        | inl t ↦ absurd (true_false _ is_marked_now (subst
            (λ (x : Node). mark_of (with_mark_at n ks) x ≡ false) (same_node_exact u n t)
            f))
        | inr g ↦ elim (split (input_nodes (net.inputs u)) e) [
          | inl all ↦ elim
              (p.left u has (sym (mark_of-other n u ks g) ∙ f)
              (rw (as_memos-with_mark_at n ks) at m) all) [
                | inl q ↦ absurd (true_false _ (same_node_refl u)
                    (subst (λ (x : Node). same_node u x ≡ false) q g))
                | inr r ↦ has_right (users n) rest u r
              ]
          | inr on ↦ has_left (users n) rest u (covers u has on)
        ]
      ];
    }

    -- and so is what got work by the mark
    pub marked_whole : (cs : List (ℕ × Claim)) (w : Waiting) → IsWholeTo net ks cs w (n ∷ rest)
        → IsWholeTo net (with_mark_at n ks) cs w (users n ++ rest)
    marked_whole cs w whole = whole_of net (with_mark_at n ks) cs w (users n ++ rest) (λ is u has h.
        (let q = rw (as_memos-with_mark_at n ks) at (work_there net (with_mark_at n ks) cs u h) in
        elim (split (input_nodes (net.inputs u)) q.1) [
          | inl all ↦ elim
              (waits net ks cs w (n ∷ rest) whole is u has (work_now net ks cs u q.0 all q.2)) [
                | inl there ↦ inl there
                | inr pends ↦ elim pends [
                  | inl e ↦ absurd (true_false _ ((match_is net (as_memos ks) n).1 (ready_there now).1)
                      (subst (λ (x : Node). is_match net (as_memos ks) x ≡ false) (sym e) q.0))
                  | inr r ↦ inr (has_right (users n) rest u r)
                ]
              ]
          | inr on ↦ inr (has_left (users n) rest u (covers u has on))
        ]))

-- where nothing is pending, the marks are what is settled
module _ {V G : Type 0} (net : Net G) (ks : List (MemoEntry V))
    (without_claim : (n : Node) → Has net.used n → Each (Has net.used) (input_nodes (net.inputs n)))
    (p : IsMarkedTo net ks []) where
  pub settled_marked : (d : ℕ) (n : Node) → Has net.used n → IsSettledBy d net (as_memos ks) n
      → mark_of ks n ≡ true
  settled_marked zero n has s = absurd s
  settled_marked (suc d) n has s = elim (cases_Bool (mark_of ks n)) [
    | inl t ↦ t
    | inr f ↦ absurd (p.left n has f s.0 (all (λ m h t. settled_marked d m h t)
        (input_nodes (net.inputs n)) (without_claim n has) s.1))
  ]
    where
      all : ((m : Node) → Has net.used m → IsSettledBy d net (as_memos ks) m → mark_of ks m ≡ true)
          → (ns : List Node) → Each (Has net.used) ns → Each (IsSettledBy d net (as_memos ks)) ns
          → Each (λ m. mark_of ks m ≡ true) ns
      all go [] h t = tt
      all go (m ∷ ns) h t = (go m h.0 t.0, all go ns h.1 t.1)

-- an accepted return leaves its node pending, and nothing else
module _ {V G : Type 0} (net : Net G) (ks next : List (MemoEntry V)) (m : Memo V)
    (p : IsMarkedTo net ks []) (is : as_memos next ≡ put_memo m (as_memos ks))
    (flags : (n : Node) → mark_of next n ≡ (if same_node n m.node then false else mark_of ks n))
    (unsettled : IsSettled net (as_memos ks) m.node → ⊥) where
  other : (n : Node) → same_node n m.node ≡ false → mark_of next n ≡ mark_of ks n
  other n f = flags n ∙ rw f refl

  not_it : (n : Node) → mark_of next n ≡ true → same_node n m.node ≡ false
  not_it n h =
      elim (cases_Bool (same_node n m.node)) [
        | inl t ↦ absurd
            (true_false _ h (flags n ∙ rw t refl))
        | inr g ↦ g
      ]

  each_old : (ns : List Node) → Each (λ m. mark_of next m ≡ true) ns
      → Each (λ m. mark_of ks m ≡ true) ns
  each_old [] e = tt
  each_old (n ∷ ns) e = (sym (other n (not_it n e.0)) ∙ e.0, each_old ns e.1)

  all_settled : (ns : List Node) → Each (λ m. mark_of next m ≡ true) ns
      → Each (IsSettled net (as_memos ks)) ns
  all_settled [] e = tt
  all_settled (n ∷ ns) e = (p.sound n (sym (other n (not_it n e.0)) ∙ e.0), all_settled ns e.1)

  -- another node with marked inputs has the memo and the present inputs that it had
  memo_same : (n : Node) → same_node n m.node ≡ false
      → memo_of n (as_memos next) ≡ memo_of n (as_memos ks)
  memo_same n g = rw is (put_other m n (as_memos ks) g)

  inputs_same : (n : Node) → Each (λ m. mark_of next m ≡ true) (input_nodes (net.inputs n))
      → present_inputs net (as_memos next) (net.inputs n)
      ≡ present_inputs net (as_memos ks) (net.inputs n)
  inputs_same n e =
      let deep = one_depth net (as_memos ks) (input_nodes (net.inputs n)) (all_settled (input_nodes (net.inputs n)) e) in
      rw is (same_present net (as_memos ks) m unsettled deep.0 (net.inputs n) deep.1)

  pub put_pending : IsMarkedTo net next (m.node ∷ [])
  put_pending = record {
    used = λ n h. p.used n (sym (other n (not_it n h)) ∙ h);
    sound = λ n h. elim (cases_Bool (same_node n m.node)) [
      | inl t ↦ absurd (true_false _ h (flags n ∙ rw t refl))
      | inr f ↦ (let s = p.sound n (sym (other n f) ∙ h) in
          rw is (s.0, settled_stays net (as_memos ks) m unsettled s.0 n s.1))
    ];
    left = λ n has f match e. elim (cases_Bool (same_node n m.node)) [
      | inl t ↦ inl (sym (same_node_exact n m.node t))
      | inr g ↦ absurd (p.left n has (sym (other n g) ∙ f)
          (rw (memo_same n g, inputs_same n e) at match)
          (each_old (input_nodes (net.inputs n)) e))
    ];
  }

  -- and no other node gets work
  pub put_whole : (cs : List (ℕ × Claim)) (w : Waiting) → IsWholeTo net ks cs w (m.node ∷ [])
      → IsWholeTo net next cs w (m.node ∷ [])
  put_whole cs w whole = whole_of net next cs w (m.node ∷ []) (λ is n has work.
      elim (cases_Bool (same_node n m.node)) [
        | inl t ↦ inr (inl (sym (same_node_exact n m.node t)))
        | inr g ↦ (let q = work_there net next cs n work in
            waits net ks cs w (m.node ∷ []) whole is n has
            (work_now net ks cs n (rw (memo_same n g, inputs_same n q.1) at q.0)
            (each_old (input_nodes (net.inputs n)) q.1) (rw (inputs_same n q.1) at q.2)))
      ])

-- what has an index is there, and what is there has one
pub has_at : (ns : List Node) (i : ℕ) (n : Node) → slice_get ns i ≡ Some n → Has ns n
has_at [] i n h = cc
has_at (m ∷ ns) zero n h = inl (some_one m n h)
  where
    some_one : (m n : Node) → Some m ≡ Some n → m ≡ n
    some_one m n h = cc
has_at (m ∷ ns) (suc i) n h = inr (has_at ns i n h)

pub at_has : (ns : List Node) (n : Node) → Has ns n
    → (i : ℕ) × (i < length ns) × (slice_get ns i ≡ Some n)
at_has [] n h = absurd h
at_has (m ∷ ns) n h = elim h [
  | inl e ↦ (0, omega arith, ap (λ (n : Node). let o : Option Node = Some n in o) e)
  | inr r ↦ (let t = at_has ns n r in (suc t.0, omega (arith, t.1), t.2))
]

-- the used node of an index that has work
pub work_at : {V G : Type 0} (net : Net G) (ks : List (MemoEntry V)) (cs : List (ℕ × Claim)) (i : ℕ)
    → IsWorkAt net ks cs i → (n : Node) → slice_get net.used i ≡ Some n
    → can_work net ks cs n ≡ true
work_at net ks cs i w n at =
    subst (λ (n : Node). can_work net ks cs n ≡ true) (some_node w.node n (sym w.found ∙ at)) w.work
  where
    some_node : (m n : Node) → Some m ≡ Some n → m ≡ n
    some_node m n h = cc

-- work by marks is work
module _ {V G : Type 0} (net : Net G) (ks : List (MemoEntry V))
    (without_claim : (n : Node) → Has net.used n → Each (Has net.used) (input_nodes (net.inputs n)))
    (p : IsMarkedTo net ks []) (cs : List (ℕ × Claim)) (taken : ℕ) where
  to_settled : (ns : List Node) → Each (λ m. mark_of ks m ≡ true) ns
      → Each (IsSettled net (as_memos ks)) ns
  to_settled [] e = tt
  to_settled (m ∷ ns) e = (p.sound m e.0, to_settled ns e.1)

  to_marked : (ns : List Node) → Each (Has net.used) ns → Each (IsSettled net (as_memos ks)) ns
      → Each (λ m. mark_of ks m ≡ true) ns
  to_marked [] h e = tt
  to_marked (m ∷ ns) h e =
      (settled_marked net ks without_claim p (e.0).0 m h.0 (e.0).1, to_marked ns h.1 e.1)

  pub is_work_of : (n : Node) → Has net.used n → can_work net ks cs n ≡ true
      → IsWork (of_all net (as_memos ks) cs taken) n
  is_work_of n has h =
      let q = work_there net ks cs n h in
      record {
        used = has;
        unmatched = λ m. true_false _ ((match_is net (as_memos ks) n).1 m) q.0;
        inputs_settled = to_settled (input_nodes (net.inputs n)) q.1;
        not_out = not_out_yes n (present_inputs net (as_memos ks) (net.inputs n)) cs q.2;
      }

  can_work_of : (n : Node) → IsWork (of_all net (as_memos ks) cs taken) n
      → can_work net ks cs n ≡ true
  can_work_of n w =
      let u : is_match net (as_memos ks) n ≡ false = elim (cases_Bool (is_match net (as_memos ks) n)) [ inl t ↦ absurd (w.unmatched ((match_is net (as_memos ks) n).0 t)) | inr f ↦ f ] in
      work_now net ks cs n u (to_marked (input_nodes (net.inputs n)) (without_claim n w.used)
      w.inputs_settled) (not_out_is n (present_inputs net (as_memos ks) (net.inputs n)) cs w.not_out)

  pub marked_none : IsIdle net ks cs 0 (length net.used) → (n : Node)
      → IsWork (of_all net (as_memos ks) cs taken) n → ⊥
  marked_none idle n w =
      let there = at_has net.used n w.used in
      true_false _ (can_work_of n w) (idle there.0 n (omega arith) there.1 there.2)

module _ {V G : Type 0} (net : Net G) (ks : List (MemoEntry V))
    (without_claim : (n : Node) → Has net.used n → Each (Has net.used) (input_nodes (net.inputs n)))
    (p : IsMarkedTo net ks []) where
  pub all_marked : AreMarked net ks (length net.used) → (n : Node) → Has net.used n
      → IsSettled net (as_memos ks) n
  all_marked all n has =
      let there = at_has net.used n has in p.sound n (all there.0 n there.1 there.2)

  pub some_unmarked : HasUnmarked net ks
      → (n : Node) × Has net.used n × (IsSettled net (as_memos ks) n → ⊥)
  some_unmarked u =
      let has = has_at net.used u.index u.node u.found in (
        u.node,
        has,
        λ s. true_false _ (settled_marked net ks without_claim p s.0 u.node has s.1)
            u.unmarked,
      )

-- a marked node has no work
pub marked_idle : {V G : Type 0} (net : Net G) (ks : List (MemoEntry V)) (cs : List (ℕ × Claim))
    (n : Node) (pending : List Node) → IsMarkedTo net ks pending → mark_of ks n ≡ true
    → can_work net ks cs n ≡ false
marked_idle {V} net ks cs n pending p h = let s = p.sound n h in go s.0 s.1
  where
    go : (d : ℕ) → IsSettledBy d net (as_memos ks) n → can_work net ks cs n ≡ false
    go zero s = absurd s
    go (suc d) s = rw ((match_is net (as_memos ks) n).1 s.0) refl
