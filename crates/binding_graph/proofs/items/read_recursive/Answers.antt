use Rattle.std.proofs.Common.{◌≡◌, List, length, map, reverse, ap, ◌∙◌, arith}
use Rattle.binding_kinds.specs.declared.scope.Entry.{Entry}
use Rattle.binding_kinds.specs.Value.{entry_of, bound_value_of}
use Rattle.binding_kinds.specs.Senses.{HaveSenses}
use Rattle.binding_kinds.specs.Fits.{AreKnown}
use Rattle.binding_kinds.proofs.Fitted.{known_own}
use Rattle.binding_graph.specs.Usages.{usage_of}
use Rattle.binding_graph.proofs.Declared.{count_names}
use Rattle.binding_graph.proofs.items.read_recursive.Goals as goal

pub returns-in-Err-clause-fault : goal.returns-in-Err-clause-fault
returns-in-Err-clause-fault c = λ ss kept.
    let es = c.args.scope.now.entries.items in
    let s = c.sight_of-sight.ensures in
    let from : c.sight_of-sight.result.from ≡ length (reverse (map entry_of es)) = let n = c.len-from.ensures in let k = c.args.scope.now.entries.ok in let f = s.from in rw (count_names es) (omega (arith, n, k, f)) in
    let own = ap (λ (l : List Entry). reverse (map entry_of l)) s.entries ∙ c.in_ok-declare_own.ensures in
    rw (c.in-Err.is, own, from) at (c.in_ok-fault.ensures.fault ss (rw s.functions kept)
    s.parameters)

pub returns-in_ok-group_item-in-Ok-clause-fault : goal.returns-in_ok-group_item-in-Ok-clause-fault
returns-in_ok-group_item-in-Ok-clause-fault c = λ ss kept.
    let es = c.args.scope.now.entries.items in
    let s = c.sight_of-sight.ensures in
    let from : c.sight_of-sight.result.from ≡ length (reverse (map entry_of es)) = let n = c.len-from.ensures in let k = c.args.scope.now.entries.ok in let f = s.from in rw (count_names es) (omega (arith, n, k, f)) in
    let own = ap (λ (l : List Entry). reverse (map entry_of l)) s.entries ∙ c.in_ok-declare_own.ensures in
    rw (c.in-Ok.is, own, from) at (c.in_ok-fault.ensures.fault ss (rw s.functions kept)
    s.parameters)

pub returns-in_ok-group_item-in-Ok-clause-item : goal.returns-in_ok-group_item-in-Ok-clause-item
returns-in_ok-group_item-in-Ok-clause-item c = λ ss kept sound known.
    let es = c.args.scope.now.entries.items in
    let s = c.sight_of-sight.ensures in
    let from : c.sight_of-sight.result.from ≡ length (reverse (map entry_of es)) = let n = c.len-from.ensures in let k = c.args.scope.now.entries.ok in let f = s.from in rw (count_names es) (omega (arith, n, k, f)) in
    let own = ap (λ (l : List Entry). reverse (map entry_of l)) s.entries ∙ c.in_ok-declare_own.ensures in
    let sight = c.sight_of-sight.result in
    let kept_there : HaveSenses sight.functions.now ss = rw s.functions kept in
    let known_there : AreKnown (reverse (map entry_of sight.entries.now)) = rw own (known_own (reverse (map entry_of es)) c.args.index 0 (map bound_value_of c.args.group.now) known) in
    let new = c.clear.ensures in
    let read = c.in_ok-fault.ensures in
    let noted = rw c.in-Ok.is at (read.uses s.parameters) in
    let bodies = rw (c.in-Ok.is, new.values) at (read.bodies ss kept_there sound known_there s.parameters new.indexed) in
    let values = rw new.values at (noted.values new.indexed) in
    let functions = rw new.functions at (noted.functions new.listed) in
    rw (own, s.functions, from) at (c.in_ok-group_item-in-Ok.ensures ss
    (map usage_of sight.functions.now) (reverse (map entry_of sight.entries.now)) sight.from
    (map bound_value_of c.args.group.now) bodies values functions)
