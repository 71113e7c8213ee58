use Rattle.std.proofs.Common.{◌≡◌, inl, inr, Bool, true, false, ◌&&◌, List, [], ◌∷◌, filter, Option, Some, None, option_map, option_copied, Bor, if◌then◌else◌, refl, ap, sym, subst, ◌∙◌}
use Rattle.std.specs.Map.{lookup}
use Rattle.std.specs.Map.Calls.{RetainsPairs}
use Rattle.std.proofs.lemmas.Option.{same_Some}
use Rattle.std.proofs.lemmas.Bool.{cases_Bool}
use Rattle.indexmap.specs.IndexMap.{insert_entry}
use Rattle.value_store.specs.Tokens.{TokenShown}
use Rattle.memo_core.specs.declared.keys.Node.{Node}
use Rattle.memo_core.specs.declared.table.Kept.{Kept}
use Rattle.memo_core.specs.Names.{same_node}
use Rattle.memo_core.specs.Lemmas.Equality.{same_node_exact, same_node_refl}
use Rattle.memo_core.specs.Graph.{Memo, memo_of, put_memo}
use Rattle.memo_core.specs.Views.{MemoEntry, as_memo, as_memos, output_tokens}
use Rattle.memo_core.specs.Marks.{mark_in, mark_of, matched_of}

-- what is found at a node is its memo
pub memo_found_at : {V : Type 0} (n : Node) (ks : List (MemoEntry V))
    → option_map (λ k. as_memo (n, k)) (lookup (same_node n) ks) ≡ memo_of n (as_memos ks)
memo_found_at n [] = refl
memo_found_at {V} n (k ∷ ks) = elim (cases_Bool (same_node n k.0)) [
  | inl t ↦ rw t (ap (λ (m : Node). let o : Option (Memo V) = Some (as_memo (m, k.1)) in o)
      (same_node_exact n k.0 t))
  | inr f ↦ rw f (memo_found_at n ks)
]

pub mark_found_at : {V : Type 0} (n : Node) (ks : List (MemoEntry V))
    → mark_in (lookup (same_node n) ks) ≡ mark_of ks n
mark_found_at n [] = refl
mark_found_at n (k ∷ ks) =
    elim (cases_Bool (same_node n k.0)) [ inl t ↦ rw t refl | inr f ↦ rw f (mark_found_at n ks) ]

-- a found share of what is kept shows its memo
pub found_memo : {V : Type 0} (n : Node) (ks : List (MemoEntry V)) (o : Option (Bor (Kept (TokenShown V))))
    → option_copied o ≡ lookup (same_node n) ks
    → option_map (λ k. as_memo (n, k.now)) o ≡ memo_of n (as_memos ks)
found_memo {V} n ks o h =
    go o ∙ ap (option_map (λ (k : Kept (TokenShown V)). as_memo (n, k))) h ∙ memo_found_at n ks
  where
    go : (o : Option (Bor (Kept (TokenShown V))))
        → option_map (λ k. as_memo (n, k.now)) o
        ≡ option_map (λ (k : Kept (TokenShown V)). as_memo (n, k)) (option_copied o)
    go None = refl
    go (Some k) = refl

-- what is found at a node holds its tokens
pub tokens_found : {V : Type 0} (n : Node) (ks : List (MemoEntry V)) (k : Kept (TokenShown V))
    → Some k ≡ lookup (same_node n) ks → k.outputs.items ≡ output_tokens n ks
tokens_found n [] k h = cc
tokens_found {V} n (x ∷ ks) k h = elim (cases_Bool (same_node n x.0)) [
  | inl t ↦ rw t (ap (λ (k : Kept (TokenShown V)). k.outputs.items) (same_Some k x.1 (rw t at h)))
  | inr f ↦ rw f (tokens_found n ks k (rw f at h))
]

pub no_tokens : {V : Type 0} (n : Node) (ks : List (MemoEntry V)) → None ≡ lookup (same_node n) ks
    → output_tokens n ks ≡ []
no_tokens n [] h = refl
no_tokens {V} n (x ∷ ks) h = elim (cases_Bool (same_node n x.0)) [
  | inl t ↦ absurd (none_some x.1 (rw t at h))
  | inr f ↦ rw f (no_tokens n ks (rw f at h))
]
  where
    none_some : (k : Kept (TokenShown V)) → None ≡ Some k → ⊥
    none_some k h = cc

-- a flag of the node's memo, as its mark and whether it is known to match are
abbrev flag_of : {V : Type 0} → (Kept (TokenShown V) → Bool) → List (MemoEntry V) → Node → Bool
flag_of f [] n = false
flag_of f (k ∷ ks) n = if same_node n k.0 then f k.1 else flag_of f ks n

mark_is : {V : Type 0} (ks : List (MemoEntry V)) (n : Node)
    → mark_of ks n ≡ flag_of (λ k. k.settled) ks n
mark_is [] n = refl
mark_is (k ∷ ks) n =
    ap (λ (b : Bool). if same_node n k.0 then k.1.settled else b) (mark_is ks n)

matched_is : {V : Type 0} (ks : List (MemoEntry V)) (n : Node)
    → matched_of ks n ≡ flag_of (λ k. k.matched) ks n
matched_is [] n = refl
matched_is (k ∷ ks) n =
    ap (λ (b : Bool). if same_node n k.0 then k.1.matched else b) (matched_is ks n)

-- what is inserted is put
pub memo_inserted : {V : Type 0} (n : Node) (k : Kept (TokenShown V)) (ks : List (MemoEntry V))
    → as_memos (insert_entry same_node ks n k) ≡ put_memo (as_memo (n, k)) (as_memos ks)
memo_inserted n k [] = refl
memo_inserted {V} n k (x ∷ ks) = elim (cases_Bool (same_node n x.0)) [
  | inl t ↦ rw t (ap (λ (m : Node). as_memo (m, k) ∷ as_memos ks) (sym (same_node_exact n x.0 t)))
  | inr f ↦ rw f (ap (λ (r : List (Memo V)). as_memo x ∷ r) (memo_inserted n k ks))
]

flag_inserted : {V : Type 0} (f : Kept (TokenShown V) → Bool) (n : Node) (k : Kept (TokenShown V))
    (ks : List (MemoEntry V)) (m : Node)
    → flag_of f (insert_entry same_node ks n k) m
    ≡ (if same_node m n then f k else flag_of f ks m)
flag_inserted f n k [] m = refl
flag_inserted {V} f n k (x ∷ ks) m = elim (cases_Bool (same_node n x.0)) [
  | inl t ↦ rw t (ap (λ (y : Node). if same_node m y then f k else flag_of f ks m)
      (sym (same_node_exact n x.0 t)) ∙ under m (same_node_exact n x.0 t))
  | inr g ↦ rw g (elim (cases_Bool (same_node m x.0)) [
    | inl s ↦ rw s (rw (apart (same_node_exact m x.0 s) g) refl)
    | inr h ↦ rw h (flag_inserted f n k ks m)
  ])
]
  where
    under : (m : Node) → n ≡ x.0
        → (if same_node m n then f k else flag_of f ks m) ≡ (if same_node m n then f k
        else (if same_node m x.0 then f x.1 else flag_of f ks m))
    under m e = elim (cases_Bool (same_node m n)) [
      | inl t ↦ rw t refl
      | inr g ↦ (
          let h : same_node m x.0 ≡ false = subst (λ (y : Node). same_node m y ≡ false) e g in
          rw g (rw h refl))
    ]

    apart : m ≡ x.0 → same_node n x.0 ≡ false → same_node m n ≡ false
    apart e g = elim (cases_Bool (same_node m n)) [
      | inl t ↦ absurd (clash (subst (λ (y : Node). same_node y x.0 ≡ false)
          (sym (same_node_exact m n t) ∙ e) g))
      | inr h ↦ h
    ]
      where
        clash : same_node x.0 x.0 ≡ false → ⊥
        clash h = let c : true ≡ false = sym (same_node_refl x.0) ∙ h in cc

pub mark_inserted : {V : Type 0} (n : Node) (k : Kept (TokenShown V)) (ks : List (MemoEntry V)) (m : Node)
    → mark_of (insert_entry same_node ks n k) m
    ≡ (if same_node m n then k.settled else mark_of ks m)
mark_inserted n k ks m =
    mark_is (insert_entry same_node ks n k) m ∙ flag_inserted (λ k. k.settled) n k ks m
    ∙ ap (λ (b : Bool). if same_node m n then k.settled else b) (sym (mark_is ks m))

pub matched_inserted : {V : Type 0} (n : Node) (k : Kept (TokenShown V)) (ks : List (MemoEntry V)) (m : Node)
    → matched_of (insert_entry same_node ks n k) m
    ≡ (if same_node m n then k.matched else matched_of ks m)
matched_inserted n k ks m =
    matched_is (insert_entry same_node ks n k) m ∙ flag_inserted (λ k. k.matched) n k ks m
    ∙ ap (λ (b : Bool). if same_node m n then k.matched else b) (sym (matched_is ks m))

-- what is retained stays as it is
module _ {V F : Type 0} (S : F → Node → Kept (TokenShown V) → Bool → Kept (TokenShown V) → F → Type 0)
    (keep : Node → Bool) (f : F)
    (says : (n : Node) (k : Kept (TokenShown V)) (b : Bool) (w : Kept (TokenShown V)) (g : F) → S f n k b w g
    → (b ≡ keep n) × (w ≡ k) × (g ≡ f)) where
  abbrev left : List (MemoEntry V) → List (MemoEntry V)
  left [] = []
  left (k ∷ ks) = if keep k.0 then (k.0, k.1) ∷ left ks else left ks

  retained_left : (ks kept : List (MemoEntry V)) → RetainsPairs S f ks kept → kept ≡ left ks
  retained_left [] kept h = h
  retained_left (k ∷ ks) kept h =
      let s = says k.0 k.1 h.0 h.1 h.2 h.4 in
      let rest = retained_left ks h.3 (subst (λ g. RetainsPairs S g ks h.3) s.2 h.5) in
      h.6 ∙ rw (s.0, s.1, rest) refl

  left_memos : (ks : List (MemoEntry V)) → as_memos (left ks) ≡ filter (λ m. keep m.node) (as_memos ks)
  left_memos [] = refl
  left_memos (k ∷ ks) = elim (cases_Bool (keep k.0)) [
    | inl t ↦ rw t (ap (λ (r : List (Memo V)). as_memo k ∷ r) (left_memos ks))
    | inr g ↦ rw g (left_memos ks)
  ]

  -- a flag stays where its memo does
  left_flags : (flag : Kept (TokenShown V) → Bool) (ks : List (MemoEntry V)) (n : Node)
      → flag_of flag (left ks) n ≡ (keep n && flag_of flag ks n)
  left_flags flag [] n = sym (none (keep n))
    where
      none : (b : Bool) → (b && false) ≡ false
      none true = refl
      none false = refl
  left_flags flag (k ∷ ks) n = elim (cases_Bool (same_node n k.0)) [
    | inl s ↦ rw s (same (same_node_exact n k.0 s) (left_flags flag ks n))
    | inr g ↦ elim (cases_Bool (keep k.0)) [
      | inl t ↦ rw (t, g) (left_flags flag ks n)
      | inr h ↦ rw (h, g) (left_flags flag ks n)
    ]
  ]
    where
      same : n ≡ k.0 → flag_of flag (left ks) n ≡ (keep n && flag_of flag ks n)
          → flag_of flag (if keep k.0 then (k.0, k.1) ∷ left ks else left ks) n ≡ (keep n && flag k.1)
      same e rest = elim (cases_Bool (keep n)) [
        | inl t ↦ (let u : keep k.0 ≡ true = subst (λ (m : Node). keep m ≡ true) e t in
            let s : same_node n k.0 ≡ true = subst (λ (m : Node). same_node n m ≡ true) e (same_node_refl n) in
            rw (u, t) (rw s refl))
        | inr h ↦ (let u : keep k.0 ≡ false = subst (λ (m : Node). keep m ≡ false) e h in
            rw (u, h) (rw h at rest))
      ]

  pub retained_memos : (ks kept : List (MemoEntry V)) → RetainsPairs S f ks kept
      → as_memos kept ≡ filter (λ m. keep m.node) (as_memos ks)
  retained_memos ks kept h = ap as_memos (retained_left ks kept h) ∙ left_memos ks

  pub retained_marks : (ks kept : List (MemoEntry V)) → RetainsPairs S f ks kept → (n : Node)
      → mark_of kept n ≡ (keep n && mark_of ks n)
  retained_marks ks kept h n =
      ap (λ (ks : List (MemoEntry V)). mark_of ks n) (retained_left ks kept h) ∙ mark_is (left ks) n
      ∙ left_flags (λ k. k.settled) ks n
      ∙ ap (λ (b : Bool). keep n && b) (sym (mark_is ks n))

  pub retained_matched : (ks kept : List (MemoEntry V)) → RetainsPairs S f ks kept → (n : Node)
      → matched_of kept n ≡ (keep n && matched_of ks n)
  retained_matched ks kept h n =
      ap (λ (ks : List (MemoEntry V)). matched_of ks n) (retained_left ks kept h)
      ∙ matched_is (left ks) n ∙ left_flags (λ k. k.matched) ks n
      ∙ ap (λ (b : Bool). keep n && b) (sym (matched_is ks n))
