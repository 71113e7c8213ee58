-- What a node needs, by its memo and by its inputs one after the other.
use Rattle.std.proofs.Common.{◌≡◌, ℕ, zero, suc, ◌+◌, ◌<◌, ◌≤◌, ◌==◌, ◌⊎◌, inl, inr, Bool, true, false, not, ◌&&◌, List, [], ◌∷◌, map, drop, length, slice_get, Option, Some, None, option_map, if◌then◌else◌, refl, ap, sym, ◌∙◌, arith}
use Rattle.std.specs.Map.{lookup, values_of}
use Rattle.std.proofs.lemmas.Bool.{cases_Bool}
use Rattle.std.proofs.lemmas.Option.{same_Some}
use Rattle.indexmap.specs.IndexMap.{set_value_at}
use Rattle.value_store.specs.Tokens.{TokenShown}
use Rattle.memo_core.specs.declared.keys.Node.{Node}
use Rattle.memo_core.specs.declared.keys.Key.{Key}
use Rattle.memo_core.specs.declared.keys.Key.TheVariants.{Part, Output}
use Rattle.memo_core.specs.declared.keys.Input.{Input}
use Rattle.memo_core.specs.declared.table.Kept.{Kept}
use Rattle.memo_core.specs.Names.{same_node, same_key}
use Rattle.memo_core.specs.Graph.{Net, memo_of, stamp_at, present_inputs}
use Rattle.memo_core.specs.Views.{MemoEntry, as_memo, as_memos}
use Rattle.memo_core.specs.Tests.{is_match, matches_in, all_nodes, same_inputs}
use Rattle.memo_core.specs.Marks.{mark_of, mark_in, with_mark_at, is_ready}
use Rattle.memo_core.proofs.Slots.{memo_found_at, mark_found_at}
use Rattle.memo_engine.specs.declared.needs.Need.{Need}
use Rattle.memo_engine.specs.declared.needs.Need.TheVariants.{Nothing, Work, Mark}
use Rattle.memo_core.proofs.Depth.{match_is}
use Rattle.memo_engine.specs.Matched.{AreMatched}
use Rattle.memo_engine.specs.Needs.{IsMemoAt, IsNodeNeed, IsMarkPlace, marked_stamp, need_by}
use Rattle.memo_engine.proofs.FindLemmas.{keys_claimed}
use Rattle.memo_engine.proofs.MatchLemmas.{kept_matched, matched_there}

-- a mark at the index of a node's memo is the node's
pub marked_at : {V : Type 0} (n : Node) (ks : List (MemoEntry V)) (i : ℕ) (k : Kept (TokenShown V))
    → IsMemoAt n i ks → Some k ≡ slice_get (values_of ks) i
    → set_value_at ks i
    (record { inputs = k.inputs; outputs = k.outputs; settled = true; matched = true })
    ≡ with_mark_at n ks
marked_at n [] i k at h = absurd at
marked_at {V} n (x ∷ ks) zero k at h =
    rw at (ap
    (λ (k : Kept (TokenShown V)).
    let s : MemoEntry V =
    (x.0, record { inputs = k.inputs; outputs = k.outputs; settled = true; matched = true }) in
    s ∷ ks)
    (same_Some k x.1 h))
marked_at {V} n (x ∷ ks) (suc i) k at h =
    rw at.0 (ap (λ (r : List (MemoEntry V)). x ∷ r) (marked_at n ks i k at.1 h))

pub none_at : {V : Type 0} (n : Node) (ks : List (MemoEntry V)) (i : ℕ) → IsMemoAt n i ks
    → None ≡ slice_get (values_of ks) i → ⊥
none_at n [] i at h = at
none_at {V} n (x ∷ ks) zero at h = none_some x.1 h
  where
    none_some : (k : Kept (TokenShown V)) → None ≡ Some k → ⊥
    none_some k h = cc
none_at n (x ∷ ks) (suc i) at h = none_at n ks i at.1 h

-- the mark and the match of a node, by what is kept of it
module _ {V G : Type 0} (net : Net G) (n : Node) (ks : List (MemoEntry V)) where
  pub kept_mark : (k : Kept (TokenShown V)) → Some k ≡ lookup (same_node n) ks
      → mark_of ks n ≡ k.settled
  kept_mark k h = sym (mark_found_at n ks) ∙ ap mark_in (sym h)

  pub kept_match : (k : Kept (TokenShown V)) → Some k ≡ lookup (same_node n) ks
      → is_match net (as_memos ks) n
      ≡ same_inputs k.inputs.items (present_inputs net (as_memos ks) (net.inputs n))
  kept_match k h =
      let found : memo_of n (as_memos ks) ≡ Some (as_memo (n, k)) = sym (memo_found_at n ks) ∙ ap (option_map (λ (k : Kept (TokenShown V)). as_memo (n, k))) (sym h) in
      rw found refl

  pub no_mark : None ≡ lookup (same_node n) ks → mark_of ks n ≡ false
  no_mark h = sym (mark_found_at n ks) ∙ ap mark_in (sym h)

  pub no_match : None ≡ lookup (same_node n) ks → is_match net (as_memos ks) n ≡ false
  no_match h =
      let none : memo_of n (as_memos ks) ≡ None = sym (memo_found_at n ks) ∙ ap (option_map (λ (k : Kept (TokenShown V)). as_memo (n, k))) (sym h) in
      rw none refl

-- what an unmarked node with a memo needs
pub need_found : {V G : Type 0} (net : Net G) (ks : List (MemoEntry V)) (n : Node) (i : ℕ)
    (k : Kept (TokenShown V)) (need : Need) → Some k ≡ lookup (same_node n) ks
    → k.settled ≡ false
    → need ≡ need_by i (all_nodes (mark_of ks) (net.inputs n))
    (same_inputs k.inputs.items (present_inputs net (as_memos ks) (net.inputs n)))
    → IsNodeNeed net ks n need
need_found net ks n i k need found off e =
    rw e (go (all_nodes (mark_of ks) (net.inputs n)) refl
    (same_inputs k.inputs.items (present_inputs net (as_memos ks) (net.inputs n))) refl)
  where
    go : (all : Bool) → all_nodes (mark_of ks) (net.inputs n) ≡ all → (same : Bool)
        → same_inputs k.inputs.items (present_inputs net (as_memos ks) (net.inputs n)) ≡ same
        → IsNodeNeed net ks n (need_by i all same)
    go false a same s = inr a
    go true a false s = (kept_mark net n ks k found ∙ off, kept_match net n ks k found ∙ s, a)
    go true a true s =
        rw (kept_mark net n ks k found ∙ off, kept_match net n ks k found, s, a) refl

-- the same where the memo is known to match
pub need_matched : {V G : Type 0} (net : Net G) (ks : List (MemoEntry V)) (n : Node) (i : ℕ)
    (k : Kept (TokenShown V)) (need : Need) → Some k ≡ lookup (same_node n) ks
    → k.settled ≡ false → k.matched ≡ true → AreMatched net ks
    → need ≡ need_by i (all_nodes (mark_of ks) (map (λ i. i.key) k.inputs.items)) true
    → IsNodeNeed net ks n need
need_matched net ks n i k need found off known are e =
    let same = sym (kept_match net n ks k found) ∙ (match_is net (as_memos ks) n).1 (matched_there net ks are n (kept_matched n ks k found ∙ known)).1 in
    need_found net ks n i k need found off
    (e ∙ rw (same, keys_claimed net (as_memos ks) (net.inputs n) k.inputs.items same) refl)

-- where a node is to be marked
pub need_place : {V : Type 0} (ks : List (MemoEntry V)) (n : Node) (i : ℕ) (need : Need)
    (all same : Bool) → IsMemoAt n i ks → mark_of ks n ≡ false → need ≡ need_by i all same
    → IsMarkPlace ks n need
need_place ks n i need all same there off e = rw e (go all same)
  where
    go : (all same : Bool) → IsMarkPlace ks n (need_by i all same)
    go false same = tt
    go true false = tt
    go true true = (there, off)

-- the inputs of a node, from an index on
module _ {V G : Type 0} (net : Net G) (ks : List (MemoEntry V)) where
  clash : {A : Type 0} {x : A} → Some x ≡ None → ⊥
  clash e = cc

  pub unmarked_key : (k : Key) (keys : List Key) → None ≡ marked_stamp net ks k
      → all_nodes (mark_of ks) (k ∷ keys) ≡ false
  unmarked_key (Part p q) keys h = absurd (clash (sym h))
  unmarked_key (Output n x) keys h = elim (cases_Bool (mark_of ks n)) [
    | inl t ↦ absurd (clash (sym (rw t at h)))
    | inr f ↦ rw f refl
  ]

  pub marked_key : (k : Key) (keys : List Key) (s : ℕ) → Some s ≡ marked_stamp net ks k
      → all_nodes (mark_of ks) (k ∷ keys) ≡ all_nodes (mark_of ks) keys
  marked_key (Part p q) keys s h = refl
  marked_key (Output n x) keys s h = elim (cases_Bool (mark_of ks n)) [
    | inl t ↦ rw t refl
    | inr f ↦ absurd (clash (rw f at h))
  ]

  pub present_stamp : (k : Key) (s : ℕ) → Some s ≡ marked_stamp net ks k
      → s ≡ stamp_at net (as_memos ks) k
  present_stamp (Part p q) s h = same_Some s _ h
  present_stamp (Output n x) s h = elim (cases_Bool (mark_of ks n)) [
    | inl t ↦ same_Some s _ (rw t at h)
    | inr f ↦ absurd (clash (rw f at h))
  ]

  and_false : (b : Bool) → (b && false) ≡ false
  and_false true = refl
  and_false false = refl

  module _ (keys : List Key) (is : List Input) (i : ℕ) (k : Key) (s : ℕ) (here : Bool)
      (rest : drop i keys ≡ k ∷ drop (i + 1) keys) (now : Some s ≡ marked_stamp net ks k)
      (is_here : (js : List Input) → same_inputs (drop i is) (record { key = k; stamp = s } ∷ js)
      ≡ (here && same_inputs (drop (i + 1) is) js)) where
    from_here : same_inputs (drop i is) (present_inputs net (as_memos ks) (drop i keys))
        ≡ (here
        && same_inputs (drop (i + 1) is) (present_inputs net (as_memos ks) (drop (i + 1) keys)))
    from_here = rw (rest, sym (present_stamp k s now)) (is_here _)

    pub marked_from : all_nodes (mark_of ks) (drop (i + 1) keys)
        ≡ all_nodes (mark_of ks) (drop i keys)
    marked_from = rw rest (sym (marked_key k (drop (i + 1) keys) s now))

    pub same_from : (so_far : Bool) → here ≡ true
        → (so_far
        && same_inputs (drop (i + 1) is) (present_inputs net (as_memos ks) (drop (i + 1) keys)))
        ≡ (so_far && same_inputs (drop i is) (present_inputs net (as_memos ks) (drop i keys)))
    same_from so_far t = rw (from_here, t) refl

    pub other_from : (so_far : Bool) → here ≡ false
        → false
        ≡ (so_far && same_inputs (drop i is) (present_inputs net (as_memos ks) (drop i keys)))
    other_from so_far f = sym (rw (from_here, f) (and_false so_far))

pub longer : (is : List Input) (i : ℕ) → i < length is → same_inputs (drop i is) [] ≡ false
longer [] i h = absurd (omega arith)
longer (x ∷ is) zero h = refl
longer (x ∷ is) (suc i) h = longer is i (omega arith)

-- where one of the inputs is not the memo's, or the memo has more
pub need_work : (index : ℕ) (all same : Bool) → all ≡ true → same ≡ false
    → Work ≡ need_by index all same
need_work index all same a s = rw (a, s) refl

-- what needs nothing, or is to be computed, is not to be marked
module _ {V G : Type 0} (net : Net G) (ks : List (MemoEntry V)) (n : Node) where
  pub nothing_unready : (mark_of ks n ≡ true) ⊎ (all_nodes (mark_of ks) (net.inputs n) ≡ false)
      → false ≡ is_ready net ks n
  nothing_unready (inl marked) = rw marked refl
  nothing_unready (inr waits) =
      rw waits (sym (first_false (not (mark_of ks n) && is_match net (as_memos ks) n)))
    where
      first_false : (b : Bool) → (b && false) ≡ false
      first_false true = refl
      first_false false = refl

  pub work_unready : (mark_of ks n ≡ false) × (is_match net (as_memos ks) n ≡ false)
      × (all_nodes (mark_of ks) (net.inputs n) ≡ true) → false ≡ is_ready net ks n
  work_unready work = rw (work.0, work.1) refl
