-- The names of an expression that are kept stand before its item.
use Rattle.std.proofs.Common.{ℕ, zero, suc, ◌≡◌, List, [], ◌∷◌, Bool, true, false, IsTrue, Option, Some, None, refl, arith}
use Rattle.std.specs.Prelude.{option_and_then}
use Rattle.std.specs.List.{cons_option, filter_map}
use Rattle.binding_kinds.specs.declared.scope.Input.{Input}
use Rattle.binding_graph.specs.declared.resolved.Source.{Source}
use Rattle.why_labels.specs.declared.unions.ModelName.{ModelName}
use Rattle.why_labels.specs.Operands.{name_of, is_earlier, kept_if, earlier_name, AreEarlier}

one_more : (item : ℕ) (name : ModelName) (rest : List ModelName) → IsTrue (is_earlier item name)
    → AreEarlier item rest → AreEarlier item (name ∷ rest)
one_more item name rest this h zero lt d = this
one_more item name rest this h (suc j) lt d = h j (omega (arith, lt)) d

by_test : (item : ℕ) (name : ModelName) (rest : List ModelName) (b : Bool)
    → is_earlier item name ≡ b → AreEarlier item rest
    → AreEarlier item (cons_option (kept_if b name) rest)
by_test item name rest true e h = one_more item name rest e h
by_test item name rest false e h = h

kept : (item : ℕ) (found : Option ModelName) (rest : List ModelName) → AreEarlier item rest
    → AreEarlier item (cons_option
    (option_and_then (λ name. kept_if (is_earlier item name) name) found) rest)
kept item None rest h = h
kept item (Some name) rest h = by_test item name rest (is_earlier item name) refl h

pub earlier_all : (item : ℕ) (inputs : List Input) (sources : List Source)
    → AreEarlier item (filter_map (earlier_name item inputs) sources)
earlier_all item inputs [] = λ j lt d. absurd (omega (arith, lt))
earlier_all item inputs (s ∷ ss) =
    kept item (name_of item inputs s) (filter_map (earlier_name item inputs) ss)
    (earlier_all item inputs ss)
