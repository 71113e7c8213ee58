use Rattle.std.proofs.Common.{◌≡◌, length, map, reverse, arith}
use Rattle.binding_kinds.specs.Value.{entry_of, bound_value_of}
use Rattle.binding_kinds.specs.Senses.{HaveSenses}
use Rattle.binding_kinds.specs.Fits.{AreKnown}
use Rattle.binding_graph.specs.Usages.{usage_of}
use Rattle.binding_graph.proofs.Declared.{count_names}
use Rattle.binding_graph.proofs.items.read_plain.Goals as goal

pub returns-in-Err-clause-fault : goal.returns-in-Err-clause-fault
returns-in-Err-clause-fault c = λ ss kept.
    let es = c.args.scope.now.entries.items in
    let s = c.sight_of-sight.ensures in
    let from : c.sight_of-sight.result.from ≡ length (reverse (map entry_of es)) = let n = c.len.ensures in let k = c.args.scope.now.entries.ok in let f = s.from in rw (count_names es) (omega (arith, n, k, f)) in
    rw (c.in-Err.is, s.entries, from) at (c.in_ok-fault.ensures.fault ss (rw s.functions kept)
    s.parameters)

pub returns-in_ok-group_item-in-Ok-clause-fault : goal.returns-in_ok-group_item-in-Ok-clause-fault
returns-in_ok-group_item-in-Ok-clause-fault c = λ ss kept.
    let es = c.args.scope.now.entries.items in
    let s = c.sight_of-sight.ensures in
    let from : c.sight_of-sight.result.from ≡ length (reverse (map entry_of es)) = let n = c.len.ensures in let k = c.args.scope.now.entries.ok in let f = s.from in rw (count_names es) (omega (arith, n, k, f)) in
    rw (c.in-Ok.is, s.entries, from) at (c.in_ok-fault.ensures.fault ss (rw s.functions kept)
    s.parameters)

pub returns-in_ok-group_item-in-Ok-clause-names : goal.returns-in_ok-group_item-in-Ok-clause-names
returns-in_ok-group_item-in-Ok-clause-names c = λ ss kept.
    let s = c.sight_of-sight.ensures in
    let named = rw (c.in-Ok.is, s.entries) at (c.in_ok-fault.ensures.named ss (rw s.functions kept) s.parameters) in
    c.in_ok-declare_all-in-Ok.ensures ss (reverse (map entry_of c.args.scope.now.entries.items))
    (map bound_value_of c.args.group.now) (rw c.deref.ensures.value named)

pub returns-in_ok-group_item-in-Ok-clause-item : goal.returns-in_ok-group_item-in-Ok-clause-item
returns-in_ok-group_item-in-Ok-clause-item c = λ ss kept sound known.
    let es = c.args.scope.now.entries.items in
    let s = c.sight_of-sight.ensures in
    let from : c.sight_of-sight.result.from ≡ length (reverse (map entry_of es)) = let n = c.len.ensures in let k = c.args.scope.now.entries.ok in let f = s.from in rw (count_names es) (omega (arith, n, k, f)) in
    let sight = c.sight_of-sight.result in
    let kept_there : HaveSenses sight.functions.now ss = rw s.functions kept in
    let known_there : AreKnown (reverse (map entry_of sight.entries.now)) = rw s.entries known in
    let new = c.clear.ensures in
    let read = c.in_ok-fault.ensures in
    let noted = rw c.in-Ok.is at (read.uses s.parameters) in
    let bodies = rw (c.in-Ok.is, new.values) at (read.bodies ss kept_there sound known_there s.parameters new.indexed) in
    let values = rw new.values at (noted.values new.indexed) in
    let functions = rw new.functions at (noted.functions new.listed) in
    rw (s.entries, s.functions, from) at (c.in_ok-group_item-in-Ok.ensures ss
    (map usage_of sight.functions.now) (reverse (map entry_of sight.entries.now)) sight.from
    (map bound_value_of c.args.group.now) bodies values functions)
