use Rattle.std.proofs.Common.{◌≡◌, ◌≤◌, ◌==◌, ℕ, ◌+◌, ◌-◌, append_assoc, option_and_then, Bool, false, List, [], ◌∷◌, ◌++◌, length, drop, Option, Some, None, option_map, refl, ap, sym, ◌∙◌, eqb-true, eq-eqb, inl, inr, arith}
use Rattle.std.proofs.lemmas.List.{append-nil, drop_all, length-drop}
use Rattle.std.specs.List.{AllByRecursion as Each}
use Rattle.std.proofs.lemmas.Bool.{cases_Bool}
use Rattle.value_store.specs.Tokens.{TokenShown}
use Rattle.memo_core.proofs.JudgeLemmas.{true_false}
use Rattle.memo_core.specs.declared.keys.Output.{Output as Made}
use Rattle.memo_core.specs.declared.keys.Node.{Node}
use Rattle.memo_core.specs.Graph.{named_values}
use Rattle.memo_core.specs.declared.keys.Key.{Key}
use Rattle.memo_core.specs.declared.keys.Key.TheVariants.{Part, Output}
use Rattle.memo_core.specs.Tests.{all_hold, values_at}
use Rattle.memo_core.specs.Views.{shown_outputs, shown_values}

pub shown_values-append : {V : Type 0} (ts us : List (TokenShown V))
    → shown_values (ts ++ us) ≡ shown_values ts ++ shown_values us
shown_values-append [] us = refl
shown_values-append {V} (t ∷ ts) us = ap (λ (vs : List V). t.value ∷ vs) (shown_values-append ts us)

pub named_values-shown_outputs-append : {V : Type 0} (os ps : List (Made (TokenShown V)))
    → named_values (shown_outputs (os ++ ps))
    ≡ named_values (shown_outputs os) ++ named_values (shown_outputs ps)
named_values-shown_outputs-append [] ps = refl
named_values-shown_outputs-append {V} (o ∷ os) ps =
    ap (λ (vs : List (ℕ × V)). (o.name, o.value.value) ∷ vs)
    (named_values-shown_outputs-append os ps)

-- the loop's step over a part, which has no value
pub part_step : {V : Type 0} (now : Key → Option (ℕ × V)) (ks : List Key) (i a b : ℕ) (vs : List V)
    → drop i ks ≡ Part a b ∷ drop (i + 1) ks
    → option_map (λ rest. vs ++ rest) (values_at now (drop (i + 1) ks))
    ≡ option_map (λ rest. vs ++ rest) (values_at now (drop i ks))
part_step now ks i a b vs d = rw d refl

-- all tokens are compared where no key is left
pub hold_end : {V : Type 0} (same : V → V → Bool) (now : Key → Option (ℕ × V)) (ts : List (TokenShown V))
    (j : ℕ) → j ≤ length ts → (j == length ts) ≡ all_hold same now [] (shown_values (drop j ts))
hold_end {V} same now ts j h = elim (cases_Bool (j == length ts)) [
  | inl t ↦ (let e : j ≡ length ts = eqb-true j (length ts) t in
      t
      ∙ sym (ap (λ (us : List (TokenShown V)). all_hold same now [] (shown_values us))
      (drop_all j ts (omega arith))))
  | inr f ↦ f ∙ sym (left (drop j ts) (λ e. short (e ∙ refl) f))
]
  where
    left : (us : List (TokenShown V)) → (length us ≡ 0 → ⊥)
        → all_hold same now [] (shown_values us) ≡ false
    left [] e = absurd (e refl)
    left (u ∷ us) e = refl

    short : length (drop j ts) ≡ 0 → (j == length ts) ≡ false → ⊥
    short e f =
        let l : length ts - j ≡ 0 = sym (length-drop j ts) ∙ e in
        true_false (j == length ts) (eq-eqb j (length ts) (omega arith)) f

-- the loop's step over an output that has a value
pub hold_step : {V : Type 0} (now : Key → Option (ℕ × V)) (ks : List Key) (i : ℕ) (n : Node) (x : ℕ)
    (ts next : List (TokenShown V)) (t : TokenShown V)
    → drop i ks ≡ Output n x ∷ drop (i + 1) ks
    → Some t.value ≡ option_map (λ p. p.1) (now (Output n x)) → next ≡ ts ++ t ∷ []
    → option_map (λ rest. shown_values next ++ rest) (values_at now (drop (i + 1) ks))
    ≡ option_map (λ rest. shown_values ts ++ rest) (values_at now (drop i ks))
hold_step {V} now ks i n x ts next t d there e =
    rw (d, e) (rw (shown_values-append ts (t ∷ [])) (go (now (Output n x)) there
    (values_at now (drop (i + 1) ks))))
  where
    go : (o : Option (ℕ × V)) → Some t.value ≡ option_map (λ p. p.1) o → (r : Option (List V))
        → option_map (λ rest. (shown_values ts ++ t.value ∷ []) ++ rest) r
        ≡ option_map (λ rest. shown_values ts ++ rest)
        (option_and_then (λ p. option_map (λ vs. p.1 ∷ vs) r) o)
    go None t r = cc
    go (Some p) h None = refl
    go (Some p) h (Some vs) =
        let q : t.value ≡ p.1 = cc in
        ap (λ (xs : List V). let s : Option (List V) = Some xs in s) (append_assoc (shown_values ts)
        (t.value ∷ []) vs ∙ ap (λ (x : V). shown_values ts ++ x ∷ vs) q)

-- the loop's end at an output without a value
pub hold_none : {V : Type 0} (now : Key → Option (ℕ × V)) (ks : List Key) (i : ℕ) (n : Node) (x : ℕ)
    (vs : List V) (all : Option (List V))
    → drop i ks ≡ Output n x ∷ drop (i + 1) ks → None ≡ option_map (λ p. p.1) (now (Output n x))
    → option_map (λ rest. vs ++ rest) (values_at now (drop i ks)) ≡ all → None ≡ all
hold_none {V} now ks i n x vs all d none h = go (now (Output n x)) none (rw d at h)
  where
    go : (o : Option (ℕ × V)) → None ≡ option_map (λ p. p.1) o
        → option_map (λ rest. vs ++ rest) (option_and_then
        (λ p. option_map (λ ws. p.1 ∷ ws) (values_at now (drop (i + 1) ks))) o) ≡ all
        → None ≡ all
    go None e h = h
    go (Some p) e h = cc

-- its end where no key is left
pub held_all : {V : Type 0} (now : Key → Option (ℕ × V)) (ks : List Key) (i : ℕ) (vs : List V)
    (all : Option (List V))
    → length ks ≤ i → option_map (λ rest. vs ++ rest) (values_at now (drop i ks)) ≡ all
    → Some vs ≡ all
held_all now ks i vs all l h = rw (drop_all i ks l, append-nil vs) at h

named_values-append : {V : Type 0} (os : List (Made V)) (o : Made V)
    → named_values (os ++ o ∷ []) ≡ named_values os ++ (o.name, o.value) ∷ []
named_values-append [] o = refl
named_values-append {V} (p ∷ os) o =
    ap (λ (vs : List (ℕ × V)). (p.name, p.value) ∷ vs) (named_values-append os o)

-- the loop's step over an output whose token shows its value
pub put_step : {V : Type 0} (os next : List (Made (TokenShown V))) (ps : List (Made V)) (o : Made V)
    (n : Made (TokenShown V)) → named_values (shown_outputs os) ≡ named_values ps → n.name ≡ o.name
    → n.value.value ≡ o.value → next ≡ os ++ n ∷ []
    → named_values (shown_outputs next) ≡ named_values (ps ++ o ∷ [])
put_step {V} os next ps o n e name value is =
    rw (is, named_values-shown_outputs-append os (n ∷ []), named_values-append ps o)
    (rw (e, name, value) refl)

pub each_last : {X : Type 0} (P : X → Type 0) (xs : List X) (x : X) → Each P xs → P x
    → Each P (xs ++ x ∷ [])
each_last P [] x e p = (p, tt)
each_last P (y ∷ xs) x e p = (e.0, each_last P xs x e.1 p)
