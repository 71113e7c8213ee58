-- From one choice to another.
use Rattle.std.proofs.Common.{◌≡◌, Bool, true, false, List, [], ◌++◌, ap, sym, ◌∙◌, MatchBool}
use Rattle.std.proofs.lemmas.List.{append-nil}
use mathlib.Core.List.{IsPrefix}
use Rattle.desk_history.specs.Histories.{latest}
use Rattle.desk_history.proofs.Fronts.{prefix_self}

-- what is shown after a turn, with what still waits, is all that was appended
pub turned : {O : Type 0} (b : Bool) (shown old all : List O) (waits handed queue : List (List O))
    → MatchBool b ((shown ≡ latest old handed) × (waits ≡ [])) ((shown ≡ old) × (waits ≡ handed))
    → queue ≡ [] → latest old (handed ++ queue) ≡ all → IsPrefix old all
    → (latest shown (waits ++ queue) ≡ all) × IsPrefix shown all
turned true shown old all waits handed queue h none is begins =
    let whole : latest old handed ≡ all = ap (λ l. latest old l) (sym (append-nil handed)) ∙ (ap (λ q. latest old (handed ++ q)) (sym none) ∙ is) in
    let same : shown ≡ all = h.0 ∙ whole in
    (rw (h.1, none) same, rw same (prefix_self all))
turned false shown old all waits handed queue h none is begins = (rw (h.0, h.1) is, rw (h.0) begins)
