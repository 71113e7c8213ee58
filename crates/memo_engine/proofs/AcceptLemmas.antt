use Rattle.std.proofs.Common.{◌≡◌, ◌≢◌, ℕ, ◌+◌, ◌<◌, inl, inr, Bool, true, false, ◌↔◌, List, [], ◌∷◌, length, Option, Some, None, option_map, refl, ap, subst, sym, ◌∙◌, eq-eqb, ne_eqb, arith}
use Rattle.std.specs.List.{AllByRecursion as Each}
use Rattle.memo_core.specs.declared.keys.Node.{Node}
use Rattle.memo_core.specs.declared.keys.Key.{Key}
use Rattle.memo_core.specs.declared.keys.Input.{Input}
use Rattle.memo_core.specs.declared.keys.Key.TheVariants.{Output}
use Rattle.memo_core.specs.declared.keys.Output.{Output as Made}
use Rattle.memo_core.specs.Graph.{Memo, Net, memo_of, output_at, stored_output, stamp_or_zero, present_inputs, named_values, put_memo, IsRestamped, AreAsNow, IsSettled}
use Rattle.memo_core.specs.Names.{same_node}
use Rattle.memo_core.specs.Laws.{AreUsers, Falls}
use Rattle.memo_core.specs.Marks.{matched_of}
use Rattle.memo_core.specs.Views.{MemoEntry, as_memos}
use Rattle.memo_core.specs.Right.{Making, IsRight, IsSoundNet}
use Rattle.memo_core.specs.Tests.{holds_value, stamped_output, stamped_outputs, changed_names, outputs_of}
use Rattle.memo_core.specs.declared.claims.Finish.{Finish}
use Rattle.memo_core.specs.declared.claims.Finish.TheVariants.{Unknown, Stale, Same, Stored}
use Rattle.memo_engine.specs.Clauses.{TellsChangedNames}
use Rattle.memo_engine.specs.Matched.{AreMatched, AreDoubted}
use Rattle.memo_engine.proofs.MatchLemmas.{return_matched}
use Rattle.memo_engine.proofs.WorkLemmas.{has_there}
use Rattle.memo_core.specs.Step.{OpenClaim, MemoState, Return, open_claim, open_claims, without_claim, return_of, Has, IsOut, IsCurrent, IsJudgementOf, Accepts, FinishesReturn, names_stamped}
use Rattle.memo_core.specs.Run.{IsFreshFrom}
use Rattle.memo_core.proofs.Progress.{accept_unsettled}
use Rattle.memo_core.proofs.Counted.{as_now_present}
use Rattle.memo_core.proofs.Headline.{at_low, store_right}
use Rattle.std.specs.Ordering.{nat_cmp}
use Rattle.std.specs.BTreeMap.{is_at}
use Rattle.std.specs.Map.{lookup, remove_entry}
use Rattle.std.proofs.lemmas.Bool.{cases_Bool}
use Rattle.memo_core.proofs.ClaimLemmas.{closed, found}
use Rattle.memo_core.proofs.JudgeLemmas.{of_all}
use Rattle.memo_core.specs.declared.claims.Claim.{Claim}
use Rattle.memo_core.specs.declared.claims.Judgement.TheVariants.{Due}

module _ {V : Type 0} (same : V → V → Bool) (exact : (a b : V) → (same a b ≡ true) ↔ (a ≡ b)) where
  holds_yes : (o : Option (ℕ × V)) (v : V) → holds_value same o v ≡ true → o ≡ Some (stamp_or_zero o, v)
  holds_yes None v h = cc
  holds_yes (Some p) v h =
      ap (λ (w : V). let r : Option (ℕ × V) = Some (p.0, w) in r) ((exact p.1 v).0 h)

  holds_no : (o : Option (ℕ × V)) (v : V) → holds_value same o v ≡ false → (s : ℕ) → o ≢ Some (s, v)
  holds_no o v h s e = let t : true ≡ false = sym ((exact v v).1 refl) ∙ rw e at h in cc

  stored_outputs : (x : ℕ) (o : Option (Memo V)) → stored_output x o ≡ output_at x (outputs_of o)
  stored_outputs x None = refl
  stored_outputs x (Some m) = refl

  one_restamped : (old : Option (Memo V)) (number : ℕ) (o : Made V)
      → IsRestamped old number (stamped_output same (outputs_of old) number o)
  one_restamped old number o =
      elim (cases_Bool (holds_value same (output_at o.name (outputs_of old)) o.value)) [
        | inl t ↦ inl (stored_outputs o.name old
            ∙ rw t (holds_yes (output_at o.name (outputs_of old)) o.value t))
        | inr f ↦ inr (
          (rw f refl),
          (λ s e. holds_no (output_at o.name (outputs_of old)) o.value f s
              (sym (stored_outputs o.name old) ∙ e)),
        )
      ]

  pub all_restamped : (old : Option (Memo V)) (number : ℕ) (os : List (Made V))
      → Each (IsRestamped old number) (stamped_outputs same (outputs_of old) number os)
  all_restamped old number [] = tt
  all_restamped old number (o ∷ os) = (one_restamped old number o, all_restamped old number os)

  pub named_values-stamped_outputs : (old : List (Made V)) (number : ℕ) (os : List (Made V))
      → named_values (stamped_outputs same old number os) ≡ named_values os
  named_values-stamped_outputs old number [] = refl
  named_values-stamped_outputs old number (o ∷ os) =
      ap (λ (ps : List (ℕ × V)). (o.name, o.value) ∷ ps)
      (named_values-stamped_outputs old number os)

  -- where no old stamp is the new number, the names that are name_if_changed are those with it
  pub names_are : (old : List (Made V)) (number : ℕ)
      → ((x s : ℕ) (v : V) → output_at x old ≡ Some (s, v) → s < number) → (os : List (Made V))
      → changed_names same old os ≡ names_stamped number (stamped_outputs same old number os)
  names_are old number low [] = refl
  names_are old number low (o ∷ os) =
      elim (cases_Bool (holds_value same (output_at o.name old) o.value)) [
        | inl t ↦ (let below = low o.name _ o.value (holds_yes (output_at o.name old) o.value t) in
            let other : stamp_or_zero (output_at o.name old) ≢ number = omega arith in
            rw t (rw (ne_eqb _ _ other) (names_are old number low os)))
        | inr f ↦ rw f (rw (eq-eqb number number refl) (ap (λ (ns : List ℕ). o.name ∷ ns)
            (names_are old number low os)))
      ]

low_in : {V G : Type 0} (compute : Node → List Input → List V → List (ℕ × V) → Type 0) (net : Net G)
    (ms : List (Memo V)) (taken : ℕ) (node : Node) → IsRight compute net ms taken
    → (o : Option (Memo V)) → memo_of node ms ≡ o → (x s : ℕ) (v : V)
    → output_at x (outputs_of o) ≡ Some (s, v) → s < taken + 1
low_in {V} compute net ms taken node right o e x s v h =
    let l = at_low compute net ms taken right (Output node x) s v (ap (stored_output x) e ∙ same_there o ∙ h) in omega arith
  where
    same_there : (o : Option (Memo V)) → stored_output x o ≡ output_at x (outputs_of o)
    same_there None = refl
    same_there (Some m) = refl

-- a claim that is found at a return's number is the one that the return answers
pub claimed : {V G : Type 0} (net : Net G) (ms : List (Memo V)) (cs : List (ℕ × Claim)) (taken : ℕ)
    (r : Return V G) (k : Claim) → Some k ≡ lookup (is_at (nat_cmp r.claim)) cs → (c : OpenClaim)
    → IsOut (of_all net ms cs taken) r c → (c ≡ open_claim (r.claim, k)) × (k.node ≡ r.node)
claimed net ms cs taken r k is c out =
    let e : c ≡ open_claim (r.claim, k) = some_out c (open_claim (r.claim, k)) (sym out.found ∙ sym (found r.claim cs) ∙ ap (option_map (λ k. open_claim (r.claim, k))) (sym is)) in
    (e, sym (ap (λ (c : OpenClaim). c.node) e) ∙ out.same)
  where
    some_out : (c d : OpenClaim) → Some c ≡ Some d → c ≡ d
    some_out c d h = cc

-- a return that is due is of a node that is not settled
pub due_unsettled : {V G : Type 0} (same : V → V → Bool)
    → ((a b : V) → (same a b ≡ true) ↔ (a ≡ b)) → (net : Net G) (ms : List (Memo V))
    (cs : List (ℕ × Claim)) (taken claim : ℕ) (node : Node) (given : G) (keys : List Key)
    (values : List V) (os : List (Made V))
    → IsJudgementOf (of_all net ms cs taken) (return_of claim node given keys values os) Due
    → IsFreshFrom ms (open_claims cs) → IsSettled net ms node → ⊥
due_unsettled {V} {G} same exact net ms cs taken claim node given keys values os due fresh =
    let old = memo_of node ms in
    let outputs = stamped_outputs same (outputs_of old) (taken + 1) os in
    let m : Memo V = record { node = node; inputs = (due.0).inputs; outputs = outputs } in
    let new : MemoState V G = record {
      net = net;
      memos = put_memo m ms;
      claims = without_claim claim (open_claims cs);
      taken = taken + 1;
    } in
    accept_unsettled (of_all net ms cs taken) new (return_of claim node given keys values os) fresh
    (record {
      claim = due.0;
      out = due.1;
      current = due.2;
      of_present = due.3;
      outputs = outputs;
      values = named_values-stamped_outputs same exact (outputs_of old) (taken + 1) os;
      stamps = all_restamped same exact old (taken + 1) os;
      after = refl;
    })

module _ {V G : Type 0} (same : V → V → Bool) (exact : (a b : V) → (same a b ≡ true) ↔ (a ≡ b))
    (compute : Node → List Input → List V → List (ℕ × V) → Type 0)
    (net : Net G) (ms : List (Memo V)) (cs : List (ℕ × Claim)) (taken : ℕ)
    (claim : ℕ) (node : Node) (given : G) (keys : List Key) (values : List V) (os : List (Made V))
    (k : Claim) (is : Some k ≡ lookup (is_at (nat_cmp claim)) cs)
    (due : IsJudgementOf (of_all net ms cs taken) (return_of claim node given keys values os) Due)
    (right : IsRight compute net ms taken)
    (computed : (is : List Input) → AreAsNow net is (net.inputs node)
    → compute node is values (named_values os)) where
  -- what is left by a return that is due
  pub accepted : (after : List (Memo V)) (left : List (ℕ × Claim))
      → after
      ≡ put_memo
      (record {
        node = node;
        inputs = k.inputs.items;
        outputs =
            stamped_outputs same (outputs_of (memo_of node ms)) (taken + 1) os;
      }) ms
      → left ≡ remove_entry (is_at (nat_cmp claim)) cs
      → IsRight compute net after (taken + 1)
      × (a : Accepts (of_all net ms cs taken) (return_of claim node given keys values os)
      (record { net = net; memos = after; claims = open_claims left; taken = taken + 1 }))
      × (changed_names same (outputs_of (memo_of node ms)) os ≡ names_stamped (taken + 1) a.outputs)
  accepted after left e l =
      let by = claimed net ms cs taken (return_of claim node given keys values os) k is due.0 due.1 in
      let c_is : due.0 ≡ open_claim (claim, k) = by.0 in
      let current : IsCurrent (of_all net ms cs taken) (open_claim (claim, k)) = rw c_is at due.2 in
      let node_is : k.node ≡ node = by.1 in
      let stamps = all_restamped same exact (memo_of node ms) (taken + 1) os in
      let values_are : named_values (stamped_outputs same (outputs_of (memo_of node ms)) (taken + 1) os) ≡ named_values os = named_values-stamped_outputs same exact (outputs_of (memo_of node ms)) (taken + 1) os in (
        rw e (store_right compute net ms taken
            (record {
              node = node;
              inputs = k.inputs.items;
              outputs = stamped_outputs same (outputs_of (memo_of node ms)) (taken + 1) os;
            })
            values
            right (rw node_is at current.present) due.3.values
            (subst (λ (ps : List (ℕ × V)). compute node k.inputs.items values ps) (sym values_are)
            (computed k.inputs.items (rw (rw node_is at current.present)
            (as_now_present net ms (net.inputs node))))) stamps),
        record {
          claim = open_claim (claim, k);
          out = rw c_is at due.1;
          current = current;
          of_present = due.3;
          outputs = stamped_outputs same (outputs_of (memo_of node ms)) (taken + 1) os;
          values = values_are;
          stamps = stamps;
          after = rw (e, l, closed claim cs) refl;
        },
        names_are same exact (outputs_of (memo_of node ms)) (taken + 1)
            (low_in compute net ms taken node right (memo_of node ms) refl) os,
      )

-- the claim of a return that is due has the present inputs
claim_present : {V G : Type 0} (net : Net G) (ms : List (Memo V)) (cs : List (ℕ × Claim)) (taken : ℕ)
    (r : Return V G) (k : Claim) → Some k ≡ lookup (is_at (nat_cmp r.claim)) cs
    → IsJudgementOf (of_all net ms cs taken) r Due
    → k.inputs.items ≡ present_inputs net ms (net.inputs r.node)
claim_present net ms cs taken r k is due =
    let by = claimed net ms cs taken r k is due.0 due.1 in
    let current : IsCurrent (of_all net ms cs taken) (open_claim (r.claim, k)) = rw by.0 at due.2 in
    rw by.1 at current.present

-- what is known to match after a return that is due does
pub accepted_matched : {V G : Type 0} (makes : Making V G) (same : V → V → Bool) (net : Net G)
    (ks next : List (MemoEntry V)) (cs : List (ℕ × Claim)) (taken claim : ℕ) (node : Node)
    (given : G) (keys : List Key) (values : List V) (os outputs : List (Made V)) (k : Claim)
    (names : List ℕ) (users : Node → List Node) (rank : Node → ℕ) (IsThere : Node → Type 0)
    → Some k ≡ lookup (is_at (nat_cmp claim)) cs
    → IsJudgementOf (of_all net (as_memos ks) cs taken)
    (return_of claim node given keys values os) Due
    → makes node given keys values (named_values os)
    → outputs ≡ stamped_outputs same (outputs_of (memo_of node (as_memos ks))) (taken + 1) os
    → names ≡ changed_names same (outputs_of (memo_of node (as_memos ks))) os
    → AreUsers net users → Falls net rank → IsSoundNet makes net IsThere → Each IsThere net.used
    → as_memos next
    ≡ put_memo (record { node = node; inputs = k.inputs.items; outputs = outputs }) (as_memos ks)
    → ((n : Node) → same_node n node ≡ false → matched_of next n ≡ true → matched_of ks n ≡ true)
    → AreDoubted names (users node) next → AreMatched net ks → AreMatched net next
accepted_matched {V} makes same net ks next cs taken claim node given keys values os outputs k names users rank IsThere is due computed stamped told listed falls sound there memos old doubts are =
    let m : Memo V = record { node = node; inputs = k.inputs.items; outputs = outputs } in
    return_matched net ks next m makes same (taken + 1) given values os names users rank due.3.given
    (subst (λ (ks : List Key). makes node given ks values (named_values os)) due.3.keys computed)
    stamped told listed falls
    (λ n used. sound.has_values n (has_there IsThere net.used n there used))
    (subst (Has net.used) due.1.same due.2.used)
    (claim_present net (as_memos ks) cs taken (return_of claim node given keys values os) k is due)
    memos old doubts are

pub finishes : {V G : Type 0} (old new : MemoState V G) (r : Return V G) (names : List ℕ) (f : Finish)
    → TellsChangedNames r.node names f → (a : Accepts old r new)
    → names ≡ names_stamped (old.taken + 1) a.outputs
    → FinishesReturn old r f new
finishes old new r names Same t a e = (a, sym e ∙ t)
finishes old new r names (Stored told) t a e = (a, t.0 ∙ e, λ h. t.1 (sym t.0 ∙ h), t.2)
finishes old new r names Unknown t a e = absurd t
finishes old new r names (Stale stamp) t a e = absurd t

pub no_items : (xs : List ℕ) → length xs ≡ 0 → xs ≡ []
no_items [] h = refl
no_items (x ∷ xs) h = absurd (omega arith)
