use Rattle.std.proofs.Common.{ℕ, ◌≡◌, ◌<◌, ◌+◌, ◌∙◌, List, [], ◌∷◌, ◌++◌, length, get_or, take, map, ap, sym, subst, arith}
use Rattle.std.specs.List.{All}
use Rattle.std.proofs.lemmas.List.{take_all, take_more, map-append}
use Rattle.std.proofs.lemmas.List.Elements.{All-push}
use Rattle.why_walks.specs.declared.factor.Factor.{Factor}
use Rattle.why_walks.specs.declared.value.FactorValues.{FactorValues}
use Rattle.why_walks.specs.Factors.{FactorSteps, factor_steps}
use Rattle.why_walks.specs.Values.{value_part, HasFactorColumn}
use Rattle.why_walks.proofs.value.factor_values.Goals as goal

-- one more value, of the next part
more_parts : (values : List FactorValues) (v : FactorValues) (parts : List Factor) (i : ℕ)
    (x : Factor) → i < length parts → x ≡ get_or parts i x → value_part v ≡ factor_steps x
    → map value_part values ≡ map factor_steps (take i parts)
    → map value_part (values ++ v ∷ []) ≡ map factor_steps (take (i + 1) parts)
more_parts values v parts i x lt is same before =
    let here : factor_steps x ≡ factor_steps (get_or parts i x) = ap factor_steps is in
    let left : map value_part (values ++ v ∷ []) ≡ map value_part values ++ value_part v ∷ [] = map-append value_part values (v ∷ []) in
    let right : map factor_steps (take i parts ++ get_or parts i x ∷ []) ≡ map factor_steps (take i parts) ++ factor_steps (get_or parts i x) ∷ [] = map-append factor_steps (take i parts) (get_or parts i x ∷ []) in
    left ∙ ap (λ (l : List FactorSteps). l ++ value_part v ∷ []) before
    ∙ ap (λ (p : FactorSteps). map factor_steps (take i parts) ++ p ∷ []) (same ∙ here) ∙ sym right
    ∙ ap (map factor_steps) (sym (take_more parts i x lt))

pub loop-index-preserved : goal.loop-index-preserved
loop-index-preserved c =
    let v : FactorValues = c.in_ok-factor_value.field-0 in
    let items : c.push.new.self.items ≡ c.loop-index.values.items ++ v ∷ [] = c.in_ok-push.ensures.items in
    let parts = more_parts c.loop-index.values.items v c.in_ok-parts.parts.items c.loop-index.index c.index.result.now (omega arith) c.index.ensures c.in_ok-factor_value.ensures.part c.loop-index.invariant.0 in
    let valued = All-push (HasFactorColumn c.args.inputs.now c.args.space.now) c.loop-index.values.items v c.loop-index.invariant.1 c.in_ok-factor_value.ensures.values in (
      subst
          (λ (l : List FactorValues). map value_part l
          ≡ map factor_steps (take (c.loop-index.index + 1) c.in_ok-parts.parts.items))
          (sym items) parts,
      subst (λ (l : List FactorValues). All (HasFactorColumn c.args.inputs.now c.args.space.now) l)
          (sym items) valued,
    )

pub returns : goal.returns
returns c =
    let all : take c.loop-index.index c.in_ok-parts.parts.items ≡ c.in_ok-parts.parts.items = take_all c.loop-index.index c.in_ok-parts.parts.items (omega arith) in
    record {
      parts =
          λ t code. c.loop-index.invariant.0 ∙ ap (map factor_steps) all
          ∙ c.in_ok-parts.ensures t (c.deref.ensures.value ∙ code);
      values = c.loop-index.invariant.1;
    }
