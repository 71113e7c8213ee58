-- The memos that may stay, over what changes them.
use Rattle.std.proofs.Common.{◌≡◌, inl, inr, Bool, true, false, ◌&&◌, filter, List, [], ◌∷◌, refl, ap, sym, subst}
use Rattle.std.proofs.lemmas.Bool.{cases_Bool}
use Rattle.memo_core.specs.declared.keys.Node.{Node}
use Rattle.memo_core.specs.Names.{same_node}
use Rattle.memo_core.specs.Graph.{Memo, put_memo}
use Rattle.memo_core.specs.Views.{MemoEntry, as_memos}
use Rattle.memo_core.specs.Marks.{mark_of}
use Rattle.memo_core.specs.Lemmas.Equality.{and_true, same_node_exact}
use Rattle.memo_engine.specs.Kept.{keeps_each, AreKept}

abbrev IsAll : {V : Type 0} → (Node → Bool) → List (Memo V) → Type 0
IsAll keep ms = keeps_each keep ms ≡ true

both : (a b : Bool) → a ≡ true → b ≡ true → (a && b) ≡ true
both a b s t = rw (s, t) refl

-- where all may stay, all are left
all_left : {V : Type 0} (keep : Node → Bool) (ms : List (Memo V)) → IsAll keep ms
    → ms ≡ filter (λ m. keep m.node) ms
all_left keep [] h = refl
all_left {V} keep (m ∷ ms) h =
    let p = and_true (keep m.node) (keeps_each keep ms) h in
    rw p.0 (ap (λ (l : List (Memo V)). m ∷ l) (all_left keep ms p.1))

-- what is left may stay
left_stays : {V : Type 0} (keep : Node → Bool) (ms : List (Memo V))
    → IsAll keep (filter (λ m. keep m.node) ms)
left_stays keep [] = refl
left_stays keep (m ∷ ms) = elim (cases_Bool (keep m.node)) [
  | inl t ↦ rw t (rw t (left_stays keep ms))
  | inr f ↦ rw f (left_stays keep ms)
]

-- a memo that is put may stay where its node may
put_stays : {V : Type 0} (keep : Node → Bool) (m : Memo V) (ms : List (Memo V)) → keep m.node ≡ true
    → IsAll keep ms → IsAll keep (put_memo m ms)
put_stays keep m [] t h = both (keep m.node) true t refl
put_stays keep m (x ∷ ms) t h =
    let p = and_true (keep x.node) (keeps_each keep ms) h in
    elim (cases_Bool (same_node m.node x.node)) [
      | inl e ↦ rw e (both (keep m.node) (keeps_each keep ms) t p.1)
      | inr f ↦ rw f (both (keep x.node) (keeps_each keep (put_memo m ms)) p.0
          (put_stays keep m ms t p.1))
    ]

pub all_kept : {V : Type 0} (keep : Node → Bool) (ks : List (MemoEntry V)) → AreKept keep ks
    → as_memos ks ≡ filter (λ m. keep m.node) (as_memos ks)
all_kept keep ks h = all_left keep (as_memos ks) h

-- a marked node has a memo
pub kept_marks : {V : Type 0} (keep : Node → Bool) (ks : List (MemoEntry V)) → AreKept keep ks
    → (n : Node) → mark_of ks n ≡ (keep n && mark_of ks n)
kept_marks keep [] h n = sym (none (keep n))
  where
    none : (b : Bool) → (b && false) ≡ false
    none true = refl
    none false = refl
kept_marks {V} keep (k ∷ ks) h n =
    let p = and_true (keep k.0) (keeps_each keep (as_memos ks)) h in
    elim (cases_Bool (same_node n k.0)) [
      | inl e ↦ (let t : keep n ≡ true = subst (λ (m : Node). keep m ≡ true)
          (sym (same_node_exact n k.0 e)) p.0 in rw (e, t) refl)
      | inr f ↦ rw f (kept_marks keep ks p.1 n)
    ]

pub left_kept : {V : Type 0} (keep : Node → Bool) (old new : List (MemoEntry V))
    → as_memos new ≡ filter (λ m. keep m.node) (as_memos old) → AreKept keep new
left_kept {V} keep old new e =
    subst (λ (ms : List (Memo V)). IsAll keep ms) (sym e) (left_stays keep (as_memos old))

pub put_kept : {V : Type 0} (keep : Node → Bool) (m : Memo V) (old new : List (MemoEntry V))
    → as_memos new ≡ put_memo m (as_memos old) → keep m.node ≡ true → AreKept keep old
    → AreKept keep new
put_kept {V} keep m old new e t h =
    subst (λ (ms : List (Memo V)). IsAll keep ms) (sym e) (put_stays keep m (as_memos old) t h)

pub same_kept : {V : Type 0} (keep : Node → Bool) (old new : List (MemoEntry V))
    → as_memos new ≡ as_memos old → AreKept keep old → AreKept keep new
same_kept {V} keep old new e h = subst (λ (ms : List (Memo V)). IsAll keep ms) (sym e) h

-- what may stay by one set of texts may by another
pub kept_by : {V : Type 0} (keep after : Node → Bool)
    → ((n : Node) → keep n ≡ true → after n ≡ true) → (ks : List (MemoEntry V)) → AreKept keep ks
    → AreKept after ks
kept_by keep after f [] h = refl
kept_by keep after f (k ∷ ks) h =
    let p = and_true (keep k.0) (keeps_each keep (as_memos ks)) h in
    both (after k.0) (keeps_each after (as_memos ks)) (f k.0 p.0) (kept_by keep after f ks p.1)
