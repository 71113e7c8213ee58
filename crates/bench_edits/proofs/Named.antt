-- Outputs by their names.
use Rattle.std.proofs.Common.{ℕ, ◌≡◌, suc, inl, inr, List, [], ◌∷◌, length, map, Some, slice_get, refl, sym, ap, ◌∙◌, eqb, eqb-true, arith}
use Rattle.std.specs.Prelude.{zip}
use Rattle.std.proofs.lemmas.Bool.{cases_Bool}
use Rattle.std.proofs.lemmas.Option.{none-some, same_Some}
use Rattle.memo_core.specs.declared.keys.Output.{Output as Made}
use Rattle.memo_core.specs.Graph.{named_values, output_at}
use Rattle.bench_values.specs.Values.{NodeContent}

abbrev pub made_values : List (Made NodeContent) → List NodeContent
made_values os = map (λ o. o.value) os

abbrev Pair : Type 0
Pair = ℕ × NodeContent

head_is : (p q : Pair) (ps qs : List Pair) → ◌≡◌ {A = List Pair} (p ∷ ps) (q ∷ qs) → p ≡ q
head_is p q ps qs e = cc

tail_is : (p q : Pair) (ps qs : List Pair) → ◌≡◌ {A = List Pair} (p ∷ ps) (q ∷ qs) → ps ≡ qs
tail_is p q ps qs e = cc

none_some : (p : Pair) (ps : List Pair) → ◌≡◌ {A = List Pair} [] (p ∷ ps) → ⊥
none_some p ps e = cc

pub values_named : (os : List (Made NodeContent)) (ns : List ℕ) (vs : List NodeContent)
    → length ns ≡ length vs → named_values os ≡ zip ns vs → made_values os ≡ vs
values_named [] [] [] l e = refl
values_named [] [] (v ∷ vs) l e = absurd (omega (arith, l))
values_named [] (n ∷ ns) [] l e = refl
values_named [] (n ∷ ns) (v ∷ vs) l e = absurd (none_some (n, v) (zip ns vs) e)
values_named (o ∷ os) [] vs l e = absurd (none_some (o.name, o.value) (named_values os) (sym e))
values_named (o ∷ os) (n ∷ ns) [] l e =
    absurd (none_some (o.name, o.value) (named_values os) (sym e))
values_named (o ∷ os) (n ∷ ns) (v ∷ vs) l e =
    let first : o.value ≡ v = ap (λ (p : Pair). p.1) (head_is (o.name, o.value) (n, v) (named_values os) (zip ns vs) e) in
    let rest = values_named os ns vs (omega (arith, l)) (tail_is (o.name, o.value) (n, v) (named_values os) (zip ns vs) e) in
    ap (λ (w : NodeContent). w ∷ made_values os) first ∙ ap (λ (ws : List NodeContent). v ∷ ws) rest

-- a value is found under a number where both stand at one index
abbrev pub StandAt : List ℕ → List NodeContent → ℕ → NodeContent → Type 0
StandAt ns vs x v = (q : ℕ) × (slice_get ns q ≡ Some x) × (slice_get vs q ≡ Some v)

pub found_at : (os : List (Made NodeContent)) (ns : List ℕ) (vs : List NodeContent) (x s : ℕ)
    (v : NodeContent) → named_values os ≡ zip ns vs → output_at x os ≡ Some (s, v)
    → StandAt ns vs x v
found_at [] ns vs x s v e at = absurd (none-some (s, v) at)
found_at (o ∷ os) [] vs x s v e at = absurd (none_some (o.name, o.value) (named_values os) (sym e))
found_at (o ∷ os) (n ∷ ns) [] x s v e at =
    absurd (none_some (o.name, o.value) (named_values os) (sym e))
found_at (o ∷ os) (n ∷ ns) (w ∷ ws) x s v e at =
    let first = head_is (o.name, o.value) (n, w) (named_values os) (zip ns ws) e in
    let name : o.name ≡ n = ap (λ (p : Pair). p.0) first in
    let value : o.value ≡ w = ap (λ (p : Pair). p.1) first in
    elim (cases_Bool (eqb x o.name)) [
      | inl same ↦ (
        0,
        ap (λ (k : ℕ). Some k) (sym name ∙ sym (eqb-true x o.name same)),
        ap (λ (u : NodeContent). Some u) (sym value
            ∙ ap (λ (p : Pair). p.1)
            (same_Some (o.stamp, o.value) (s, v) (rw same at at))),
      )
      | inr other ↦ (
          let rest =
          found_at os ns ws x s v
          (tail_is (o.name, o.value) (n, w) (named_values os) (zip ns ws) e)
          (rw other at at) in
          (suc rest.0, rest.1, rest.2))
    ]
