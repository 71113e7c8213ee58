-- What is answered for a whole model.
use Rattle.std.proofs.Common.{◌≡◌, List, [], map, reverse, Result, Vec, Global}
use Rattle.std.specs.Prelude.{MatchResult, IfOk}
use Rattle.binding_kinds.specs.declared.fault.ModelFault.{ModelFault}
use Rattle.binding_kinds.specs.declared.scope.Entry.{Entry}
use Rattle.binding_kinds.specs.Value.{Naming, BareItem, entry_of}
use Rattle.binding_kinds.specs.declared.function.Function.{Function}
use Rattle.binding_kinds.specs.Senses.{Sense}
use Rattle.binding_graph.specs.declared.resolved.ResolvedItem.{ResolvedItem}
use Rattle.binding_graph.specs.Usages.{usage_of}
use Rattle.binding_graph.specs.Resolved.{AreResolved}
use Rattle.binding_kinds.specs.Faults.{HasNoFault, FirstFault}

-- the first fault, where the names that are seen are those
pub faults_seen : {V E : Type 0} (ss : List Sense) (es : List Entry) (ns : List Naming)
    (cs : List BareItem) (r : Result (Result V ModelFault) E) → map entry_of es ≡ ns
    → IfOk r (λ o. MatchResult o (λ _. HasNoFault ss (reverse (map entry_of es)) 0 cs)
    (λ k. FirstFault ss (reverse (map entry_of es)) 0 cs k))
    → IfOk r (λ o. MatchResult o (λ _. HasNoFault ss (reverse ns) 0 cs)
    (λ k. FirstFault ss (reverse ns) 0 cs k))
faults_seen ss es ns cs r e h = rw e at h

-- the items, where the names that are seen are those, and there are no functions yet
pub items_seen : {E : Type 0} (fs : List Function) (es : List Entry) (ns : List Naming)
    (cs : List BareItem) (r : Result (Result (Vec ResolvedItem Global) ModelFault) E)
    → map entry_of es ≡ ns → fs ≡ []
    → IfOk r (λ o. IfOk o (λ v.
    AreResolved [] (map usage_of fs) (reverse (map entry_of es)) 0 cs v.items))
    → IfOk r (λ o. IfOk o (λ v. AreResolved [] [] (reverse ns) 0 cs v.items))
items_seen fs es ns cs r e none h = rw (e, none) at h
