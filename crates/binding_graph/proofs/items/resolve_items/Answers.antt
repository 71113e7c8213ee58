use Rattle.binding_kinds.proofs.FirstItem.{judged_items, JudgesItems}
use Rattle.std.proofs.Common.{ℕ, Option, Some, None, subst, sym, ◌∙◌, ◌≡◌, List}
use Rattle.binding_kinds.specs.declared.fault.ModelFault.{ModelFault}
use Rattle.binding_kinds.specs.Value.{Naming, BareItem}
use Rattle.binding_kinds.specs.Senses.{Sense}
use Rattle.binding_kinds.specs.First.{first}
use Rattle.binding_graph.proofs.items.resolve_items.Goals as goal

given : (ss : List Sense) (names : List Naming) (from : ℕ) (cs : List BareItem)
    (o : Option ModelFault) → o ≡ first ss names from cs → JudgesItems ss names from cs o
given ss names from cs o e =
    let P : Option ModelFault → Type 0 = λ q. JudgesItems ss names from cs q in
    subst P (sym e) (judged_items ss names from cs)

pub returns-in-None-clause-fault : goal.returns-in-None-clause-fault
returns-in-None-clause-fault c =
    λ ss kept. given ss _ _ _ None (sym c.in-None.is ∙ c.in_ok-resolved.ensures.fault ss kept)

pub returns-clause-fault : goal.returns-clause-fault
returns-clause-fault c =
    λ ss kept. given ss _ _ _ (Some c.in-Some.fault)
    (sym c.in-Some.is ∙ c.in_ok-resolved.ensures.fault ss kept)
