-- A candidate is kept just where all checks are met.
use Rattle.std.proofs.Common.{ℕ, ◌≡◌, ◌<◌, ◌↔◌, List, [], ◌∷◌, Bool, true, false, ◌&&◌, IsTrue, rules}
use Rattle.text_values.specs.declared.model.Item.{Item}
use Rattle.text_values.specs.ModelValue.{Clause, Binding, Function, Checking, Flagging, Showing, Including}
use Rattle.text_values.specs.ModelValues.{clauses_of}
use Rattle.binding_graph.specs.declared.resolved.ResolvedItem.{ResolvedItem}
use Rattle.candidate_spaces.specs.declared.candidate.Space.{Space}
use Rattle.cat_machine.specs.Executions.{events_of}
use Rattle.outcome_states.specs.Kept.{Flag, holds_at, is_kept}
use Rattle.meaning.specs.Sets.{Set}
use Rattle.meaning.specs.Cat.{Names, names_after, AreMet}
use Rattle.meaning_items.specs.Behind.{outer_bound}
use Rattle.meaning_items.specs.Slots.{candidate_value}
use Rattle.meaning_items.specs.Laws.{AreMeant, KeptAreMet}
use Rattle.meaning_items.proofs.Answers.{answers_meant}

both_true : (a b : Bool) (P Q : Type 0) → IsTrue a ↔ P → IsTrue b ↔ Q → IsTrue (a && b) ↔ (P × Q)
both_true true true P Q h g = (λ t. (h.0 t, g.0 t), λ x. h.1 x.0)
both_true true false P Q h g =
    (λ t. absurd (let f : false ≡ true = t in cc), λ x. absurd (let f : false ≡ true = g.1 x.1 in cc))
both_true false b P Q h g =
    (λ t. absurd (let f : false ≡ true = t in cc), λ x. absurd (let f : false ≡ true = h.1 x.0 in cc))

aside : (A B : Type 0) → A ↔ B → A ↔ (Unit {0} × B)
aside A B h = (λ a. (tt, h.0 a), λ x. h.1 x.1)

kept_met : (k : ℕ) (all : Set ℕ) (N : Names ℕ) (cs : List Clause) (checks : List (List Bool))
    (flags : List Flag) → AreMeant k all N cs checks flags
    → IsTrue (is_kept checks k) ↔ AreMet all N cs
kept_met k all N [] [] [] h = (λ t. tt, λ x. search rules)
kept_met k all N [] [] (f ∷ fs) h = absurd h
kept_met k all N [] (a ∷ answers) fs h = absurd h
kept_met k all N (Binding true group ∷ cs) checks flags h =
    aside _ _ (kept_met k all (names_after all N (Binding true group)) cs checks flags h)
kept_met k all N (Binding false group ∷ cs) checks flags h =
    aside _ _ (kept_met k all (names_after all N (Binding false group)) cs checks flags h)
kept_met k all N (Function n ps body ∷ cs) checks flags h =
    aside _ _ (kept_met k all (names_after all N (Function n ps body)) cs checks flags h)
kept_met k all N (Checking check label ∷ cs) [] flags h = absurd h
kept_met k all N (Checking check label ∷ cs) (a ∷ answers) flags h =
    both_true (holds_at k a) (is_kept answers k) _ _ h.0 (kept_met k all N cs answers flags h.1)
kept_met k all N (Flagging check name ∷ cs) checks [] h = absurd h
kept_met k all N (Flagging check name ∷ cs) checks (f ∷ fs) h =
    aside _ _ (kept_met k all N cs checks fs h.2)
kept_met k all N (Showing hidden shown ∷ cs) checks flags h =
    aside _ _ (kept_met k all N cs checks flags h)
kept_met k all N (Including path ∷ cs) checks flags h =
    aside _ _ (kept_met k all N cs checks flags h)

pub kept_are_met : (space : Space) (is : List Item) (resolved : List ResolvedItem)
    → KeptAreMet space is resolved
kept_are_met space is resolved faultless made labelled checks flags said k one there =
    kept_met k (λ a. a < events_of one) (outer_bound (candidate_value one)) (clauses_of is) checks
    flags (answers_meant space is resolved faultless made labelled checks flags said k one there)
