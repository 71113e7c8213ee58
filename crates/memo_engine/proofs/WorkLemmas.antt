use Rattle.std.proofs.Common.{◌≡◌, ◌≢◌, ℕ, inl, inr, true, false, ◌&&◌, List, [], ◌∷◌, Option, Some, None, option_map, option_and_then, refl, ap, subst, sym, ◌∙◌}
use Rattle.std.specs.List.{AllByRecursion as Each}
use Rattle.std.proofs.lemmas.Bool.{cases_Bool}
use Rattle.memo_core.specs.declared.keys.Node.{Node}
use Rattle.memo_core.specs.declared.keys.Key.{Key}
use Rattle.memo_core.specs.declared.keys.Key.TheVariants.{Part, Output}
use Rattle.memo_core.specs.declared.keys.Input.{Input}
use Rattle.memo_core.specs.declared.keys.Output.{Output as Made}
use Rattle.memo_core.specs.declared.claims.Claim.{Claim}
use Rattle.memo_core.specs.Names.{same_node}
use Rattle.memo_core.specs.Graph.{Memo, Net, at, stored_output, input_nodes, IsSettled, named_values}
use Rattle.memo_core.specs.Right.{Making, Counting, ArePresent, IsRight, HasOutputValue, IsSolvedNode, IsSoundNet}
use Rattle.memo_core.specs.Tests.{is_out, values_at, same_inputs}
use Rattle.memo_core.specs.Step.{open_claims, Has}
use Rattle.memo_core.proofs.Tests.{and_true, same_node_exact, same_node_refl}
use Rattle.memo_core.proofs.Inputs.{same_inputs_exact, same_inputs_refl}
use Rattle.memo_core.proofs.Headline.{IsRead, settled_solved, plain_at}
use Rattle.memo_core.proofs.JudgeLemmas.{true_false}

-- who is not out has no claim with the present inputs
pub not_out_yes : (n : Node) (present : List Input) (cs : List (ℕ × Claim))
    → is_out n present cs ≡ false → Each (λ c. c.node ≡ n → c.inputs ≢ present) (open_claims cs)
not_out_yes n present [] h = tt
not_out_yes n present (c ∷ cs) h =
    elim (cases_Bool (same_node n c.1.node && same_inputs c.1.inputs.items present)) [
      | inl t ↦ absurd (clash (rw t at h))
      | inr f ↦ (
        (λ e i. true_false _ (rw (e, i, same_node_refl n, same_inputs_refl present) refl) f),
        not_out_yes n present cs (rw f at h),
      )
    ]
  where
    clash : true ≡ false → ⊥
    clash e = cc

pub not_out_is : (n : Node) (present : List Input) (cs : List (ℕ × Claim))
    → Each (λ c. c.node ≡ n → c.inputs ≢ present) (open_claims cs) → is_out n present cs ≡ false
not_out_is n present [] e = refl
not_out_is n present (c ∷ cs) e =
    elim (cases_Bool (same_node n c.1.node && same_inputs c.1.inputs.items present)) [
      | inl t ↦ (let p = and_true (same_node n c.1.node) (same_inputs c.1.inputs.items present) t in
          absurd (e.0 (sym (same_node_exact n c.1.node p.0))
          (same_inputs_exact c.1.inputs.items present p.1)))
      | inr f ↦ rw f (not_out_is n present cs e.1)
    ]

-- values that were found are the present ones
pub values_present : {V : Type 0} (now : Key → Option (ℕ × V)) (ks : List Key) (vs : List V)
    → values_at now ks ≡ Some vs → ArePresent now ks vs
values_present now [] [] h = tt
values_present now [] (v ∷ vs) h = cc
values_present now (Part a b ∷ ks) vs h = values_present now ks vs h
values_present {V} now (Output n x ∷ ks) vs h =
    go (λ ws e. values_present now ks ws e) (now (Output n x)) refl (values_at now ks) refl vs h
  where
    go : ((ws : List V) → values_at now ks ≡ Some ws → ArePresent now ks ws) → (o : Option (ℕ × V))
        → now (Output n x) ≡ o → (r : Option (List V)) → values_at now ks ≡ r → (vs : List V)
        → option_and_then (λ p. option_map (λ vs. p.1 ∷ vs) r) o ≡ Some vs
        → ArePresent now (Output n x ∷ ks) vs
    go rest None e r f vs h = cc
    go rest (Some p) e None f vs h = cc
    go rest (Some p) e (Some ws) f [] h = cc
    go rest (Some p) e (Some ws) f (v ∷ vs) h =
        let q : p.1 ≡ v = cc in
        let w : ws ≡ vs = cc in (
          (p.0, e ∙ ap (λ (x : V). let o : Option (ℕ × V) = Some (p.0, x) in o) q),
          rest vs (f ∙ ap (λ (x : List V). let o : Option (List V) = Some x in o) w),
        )

-- solved inputs have values
clash : {X : Type 0} (x : X) → Some x ≡ None → ⊥
clash x e = cc

values_left : {V : Type 0} (now : Key → Option (ℕ × V)) (n : Node) (x : ℕ) (ks : List Key) (s : ℕ)
    (v : V) → now (Output n x) ≡ Some (s, v) → values_at now ks ≢ None
    → values_at now (Output n x ∷ ks) ≢ None
values_left {V} now n x ks s v e r h = go (values_at now ks) refl (rw e at h)
  where
    go : (o : Option (List V)) → values_at now ks ≡ o
        → option_map (λ vs. v ∷ vs) (values_at now ks) ≡ None → ⊥
    go None f g = r f
    go (Some ws) f g = clash (v ∷ ws) (rw f at g)

values_in : {V G : Type 0} (makes : Making V G) (net : Net G) (ms : List (Memo V)) (ks : List Key)
    → Each (HasOutputValue makes net) ks → Each (IsSolvedNode makes net ms) (input_nodes ks)
    → values_at (at ms) ks ≢ None
values_in {V} makes net ms [] h e c = clash [] c
values_in {V} makes net ms (Part a b ∷ ks) h e c = values_in makes net ms ks h.1 e c
values_in {V} makes net ms (Output n x ∷ ks) h e c =
    let m = (e.0).made in
    let there = h.0 m.given (e.0).values (named_values ((e.0).memo).outputs) m.gives m.made in
    let found = plain_at x ((e.0).memo).outputs there.0 there.1 in
    values_left (at ms) n x ks found.0 there.0 (ap (stored_output x) (e.0).found ∙ found.1)
    (values_in makes net ms ks h.1 e.1) c

pub values_there : {V G : Type 0} (compute : Counting V) (makes : Making V G) (net : Net G)
    (ms : List (Memo V)) (taken : ℕ) (IsThere : Node → Type 0) → IsRead compute makes net
    → IsRight compute net ms taken → IsSoundNet makes net IsThere → (n : Node) → IsThere n
    → Each (IsSettled net ms) (input_nodes (net.inputs n))
    → values_at (at ms) (net.inputs n) ≢ None
values_there {V} compute makes net ms taken IsThere reads right sound n there e =
    values_in makes net ms (net.inputs n) (sound.has_values n there) (each_solved
    (input_nodes (net.inputs n)) (sound.inputs_there n there) e)
  where
    each_solved : (ns : List Node) → Each IsThere ns → Each (IsSettled net ms) ns
        → Each (IsSolvedNode makes net ms) ns
    each_solved [] t s = tt
    each_solved (m ∷ ns) t s = (
      settled_solved compute makes net ms taken IsThere reads right sound (s.0).0 m t.0 (s.0).1,
      each_solved ns t.1 s.1,
    )

pub has_there : (IsThere : Node → Type 0) (ns : List Node) (n : Node) → Each IsThere ns → Has ns n
    → IsThere n
has_there IsThere [] n e h = absurd h
has_there IsThere (m ∷ ns) n e h =
    elim h [ inl q ↦ subst IsThere q e.0 | inr r ↦ has_there IsThere ns n e.1 r ]

pub outputs_made : {V : Type 0} (P : List (ℕ × V) → Type 0) (o : Option (Memo V)) (m : Memo V)
    (os : List (Made V)) → Some os ≡ option_map (λ m. m.outputs) o → o ≡ Some m
    → P (named_values m.outputs) → P (named_values os)
outputs_made P None m os h e p = cc
outputs_made {V} P (Some k) m os h e p =
    let q : k ≡ m = some_one k m e in let r : os ≡ k.outputs = cc in rw (r, q) p
  where
    some_one : (k m : Memo V) → Some k ≡ Some m → k ≡ m
    some_one k m h = cc

pub no_outputs : {V : Type 0} (o : Option (Memo V)) (m : Memo V)
    → None ≡ option_map (λ m. m.outputs) o → o ≡ Some m → ⊥
no_outputs None m h e = cc
no_outputs (Some k) m h e = cc
