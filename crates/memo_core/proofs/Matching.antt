-- A memo of the present inputs holds what is made of their present values: none of them is without
-- a value.
use Rattle.std.proofs.Common.{◌≡◌, ℕ, ◌+◌, ◌<◌, ◌==◌, inl, inr, Bool, true, false, List, [], ◌∷◌, filter, Option, Some, None, option_map, refl, sym, ap, subst, ◌∙◌, arith}
use Rattle.std.proofs.lemmas.Bool.{cases_Bool}
use Rattle.std.specs.List.{AllByRecursion as Each}
use Rattle.memo_core.specs.declared.keys.Node.{Node}
use Rattle.memo_core.specs.declared.keys.Key.{Key}
use Rattle.memo_core.specs.declared.keys.Key.TheVariants.{Part, Output}
use Rattle.memo_core.specs.declared.keys.Input.{Input}
use Rattle.memo_core.specs.declared.keys.Output.{Output as Made}
use Rattle.memo_core.specs.declared.claims.Finish.{Finish}
use Rattle.memo_core.specs.declared.claims.Finish.TheVariants.{Unknown, Stale, Same, Stored}
use Rattle.memo_core.specs.Names.{same_node}
use Rattle.memo_core.specs.Graph.{Memo, Net, memo_of, output_at, stored_output, at, stamp_or_zero, present_inputs, outputs_among, put_memo, IsRestamped}
use Rattle.memo_core.specs.Right.{ArePresent, AreAsPresent}
use Rattle.memo_core.specs.Step.{MemoState, Return, Accepts, FinishesReturn, Loses}
use Rattle.memo_core.specs.Run.{Bench, MemoEvent, Edit, Claim, NoClaim, Returned, Lose, Renew, Refused, IsLawfulMeaning, TextsMeaning, MemoRun, Step, state_in}
use Rattle.memo_core.proofs.Runs.{matching_holds}
use Rattle.memo_core.proofs.Theory.{memo_found}
use Rattle.memo_core.specs.Laws.{MatchingIsSolved}

some_is : {A : Type 0} {a b : A} → Some a ≡ Some b → a ≡ b
some_is e = cc

-- ---- stamps of outputs

-- no output that an input names, or that is stored, has the stamp 0
record IsStampedMemo {V : Type 0} (m : Memo V) : Type 0 where
  inputs : Each (λ i. 0 < i.stamp) (outputs_among m.inputs)
  outputs : Each (λ o. 0 < o.stamp) m.outputs

abbrev AreStamped : {V : Type 0} → List (Memo V) → Type 0
AreStamped {V} ms = Each (IsStampedMemo {V = V}) ms

each_filter : {X : Type 0} (P : X → Type 0) (keep : X → Bool) (xs : List X) → Each P xs
    → Each P (filter keep xs)
each_filter P keep [] all = tt
each_filter {X} P keep (x ∷ xs) all = elim (cases_Bool (keep x)) [
  | inl t ↦ rw t (all.0, each_filter P keep xs all.1)
  | inr f ↦ rw f (each_filter P keep xs all.1)
]

each_put : {V : Type 0} (P : Memo V → Type 0) (m : Memo V) (ms : List (Memo V)) → P m → Each P ms
    → Each P (put_memo m ms)
each_put P m [] p all = (p, tt)
each_put {V} P m (old ∷ ms) p all = elim (cases_Bool (same_node m.node old.node)) [
  | inl t ↦ rw t (p, all.1)
  | inr f ↦ rw f (all.0, each_put P m ms p all.1)
]

abbrev stamped_value : {V : Type 0} → Made V → Option (ℕ × V)
stamped_value o = Some (o.stamp, o.value)

output_stamped : {V : Type 0} (x : ℕ) (os : List (Made V)) (s : ℕ) (v : V)
    → Each (λ o. 0 < o.stamp) os → output_at x os ≡ Some (s, v) → 0 < s
output_stamped x [] s v all h = cc
output_stamped {V} x (o ∷ os) s v all h = elim (cases_Bool (x == o.name)) [
  | inl t ↦ high o (rw t at h) all.0
  | inr f ↦ output_stamped x os s v all.1 (rw f at h)
]
  where
    high : (o : Made V) → stamped_value o ≡ Some (s, v) → 0 < o.stamp → 0 < s
    high o q l = let e : o.stamp ≡ s = ap stamp_or_zero q in rw e at l

stored_stamped : {V : Type 0} (x : ℕ) (n : Node) (ms : List (Memo V)) (o : Option (Memo V))
    → memo_of n ms ≡ o → AreStamped ms → (s : ℕ) (v : V) → stored_output x o ≡ Some (s, v) → 0 < s
stored_stamped x n ms None found all s v h = cc
stored_stamped {V} x n ms (Some m) found all s v h =
    output_stamped x m.outputs s v ((memo_found (IsStampedMemo {V = V}) n ms m all found).0).outputs
    h

-- present values have stamps
present_stamped : {V G : Type 0} (net : Net G) (ms : List (Memo V)) (ks : List Key) (vs : List V)
    → AreStamped ms → ArePresent (at ms) ks vs
    → Each (λ i. 0 < i.stamp) (outputs_among (present_inputs net ms ks))
present_stamped net ms [] [] all p = tt
present_stamped net ms [] (v ∷ vs) all p = absurd p
present_stamped net ms (Part a b ∷ ks) vs all p = present_stamped net ms ks vs all p
present_stamped net ms (Output n x ∷ ks) [] all p = absurd p
present_stamped net ms (Output n x ∷ ks) (v ∷ vs) all p =
    let stored : stored_output x (memo_of n ms) ≡ Some ((p.0).0, v) = (p.0).1 in
    let high : 0 < (p.0).0 = stored_stamped x n ms (memo_of n ms) refl all (p.0).0 v stored in
    (subst (λ (s : ℕ). 0 < s) (sym (ap stamp_or_zero stored)) high, present_stamped net ms ks vs all p.1)

-- and what has a stamp has a value
value_there : {V : Type 0} (o : Option (ℕ × V)) (v : V)
    → ((s : ℕ) (w : V) → o ≡ Some (s, w) → w ≡ v) → 0 < stamp_or_zero o → (s : ℕ) × (o ≡ Some (s, v))
value_there None v same high = absurd (omega (arith, high))
value_there {V} (Some q) v same high =
    (q.0, ap (λ (w : V). let r : Option (ℕ × V) = Some (q.0, w) in r) (same q.0 q.1 refl))

all_present : {V G : Type 0} (net : Net G) (ms : List (Memo V)) (ks : List Key) (vs : List V)
    → AreAsPresent (at ms) ks vs
    → Each (λ i. 0 < i.stamp) (outputs_among (present_inputs net ms ks)) → ArePresent (at ms) ks vs
all_present net ms [] [] p high = tt
all_present net ms [] (v ∷ vs) p high = absurd p
all_present net ms (Part a b ∷ ks) vs p high = all_present net ms ks vs p high
all_present net ms (Output n x ∷ ks) [] p high = absurd p
all_present net ms (Output n x ∷ ks) (v ∷ vs) p high =
    (value_there (stored_output x (memo_of n ms)) v p.0 high.0, all_present net ms ks vs p.1 high.1)

-- ---- any list of events

made_stamped : {V : Type 0} (taken : ℕ) (n : Node) (ms : List (Memo V)) (os : List (Made V))
    → AreStamped ms → Each (IsRestamped (memo_of n ms) (taken + 1)) os → Each (λ o. 0 < o.stamp) os
made_stamped taken n ms [] all made = tt
made_stamped {V} taken n ms (o ∷ os) all made = (one made.0, made_stamped taken n ms os all made.1)
  where
    one : IsRestamped (memo_of n ms) (taken + 1) o → 0 < o.stamp
    one (inl kept) = stored_stamped o.name n ms (memo_of n ms) refl all o.stamp o.value kept
    one (inr new) = let e : o.stamp ≡ taken + 1 = new.0 in omega (arith, e)

accepts_stamped : {V G : Type 0} (old new : MemoState V G) (r : Return V G) → AreStamped old.memos
    → Accepts old r new → AreStamped new.memos
accepts_stamped {V} {G} old new r all a =
    let e : a.claim.node ≡ r.node = a.out.same in
    let present : a.claim.inputs ≡ present_inputs old.net old.memos (old.net.inputs r.node) = rw e at a.current.present in
    let memo : Memo V = record { node = r.node; inputs = a.claim.inputs; outputs = a.outputs } in
    let stamped : IsStampedMemo memo = record {
      inputs =
          subst (λ (is : List Input). Each (λ i. 0 < i.stamp) (outputs_among is)) (sym present)
          (present_stamped old.net old.memos (old.net.inputs r.node) r.values all
          a.of_present.values);
      outputs = made_stamped old.taken r.node old.memos a.outputs all a.stamps;
    } in
    subst (λ (s : MemoState V G). AreStamped s.memos) (sym a.after) (each_put (IsStampedMemo {V = V})
    memo old.memos stamped all)

finish_stamped : {V G : Type 0} (old new : MemoState V G) (r : Return V G) (f : Finish)
    → AreStamped old.memos → FinishesReturn old r f new → AreStamped new.memos
finish_stamped old new r Unknown all h = rw h.1 all
finish_stamped old new r (Stale stamp) all h = rw h.3 all
finish_stamped old new r Same all h = accepts_stamped old new r all h.0
finish_stamped old new r (Stored names) all h = accepts_stamped old new r all h.0

lose_stamped : {V G : Type 0} (old new : MemoState V G) (n : ℕ) (b : Bool) → AreStamped old.memos
    → Loses old n b new → AreStamped new.memos
lose_stamped old new n true all h = rw h.2 all
lose_stamped old new n false all h = rw h.1 all

module _ {T E V G : Type 0} (means : TextsMeaning T E V G) where
  step_stamped : (old new : Bench T V) (e : MemoEvent E V G) → AreStamped old.memos
      → Step means old e new → AreStamped new.memos
  step_stamped old new (Edit e) all h =
      subst (λ (ms : List (Memo V)). AreStamped ms) (sym h.1.memos) (each_filter
      (IsStampedMemo {V = V}) (λ m. means.keeps new.texts m.node) old.memos all)
  step_stamped old new (Claim number n given keys values) all h =
      subst (λ (s : MemoState V G). AreStamped s.memos) (sym h.1.after) all
  step_stamped old new NoClaim all h = rw h.1 all
  step_stamped old new (Returned r answer) all h =
      finish_stamped (state_in means old) (state_in means new) r answer all h.2
  step_stamped old new (Lose n answer) all h =
      lose_stamped (state_in means old) (state_in means new) n answer all h.1
  step_stamped old new Renew all h = subst (λ (s : MemoState V G). AreStamped s.memos) (sym h.1) tt
  step_stamped old new Refused all h =
      subst (λ (ms : List (Memo V)). AreStamped ms) (sym h.memos) all

  run_stamped : (es : List (MemoEvent E V G)) (old new : Bench T V) → AreStamped old.memos
      → MemoRun means old es new → AreStamped new.memos
  run_stamped [] old new all h = rw h all
  run_stamped (e ∷ es) old new all h = run_stamped es h.0 new (step_stamped old h.0 e all h.1) h.2

  pub matching_solved : IsLawfulMeaning means → MatchingIsSolved means
  matching_solved kept events start end s run n same =
      let made = matching_holds means kept events start end s run n same in
      let all = run_stamped events start end (subst (λ (ms : List (Memo V)). AreStamped ms) (sym s.no_memos) tt) run in
      let stamped = (memo_found (IsStampedMemo {V = V}) n end.memos made.memo all made.found).0 in
      let keys : List Key = (means.net end.texts).inputs n in
      let is : (made.memo).inputs ≡ present_inputs (means.net end.texts) end.memos keys =
      some_is (sym (ap (option_map (λ (m : Memo V). m.inputs)) made.found) ∙ same) in
      let high = subst (λ (is : List Input). Each (λ i. 0 < i.stamp) (outputs_among is)) is stamped.inputs in
      record {
        memo = made.memo;
        found = made.found;
        values = made.values;
        present = all_present (means.net end.texts) end.memos keys made.values made.present high;
        made = made.made;
      }
