use Rattle.std.proofs.Common.{◌≡◌, length, arith}
use Rattle.binding_graph.proofs.declare.add_function.Goals as goal

pub returns-clause-entries : goal.returns-clause-entries
returns-clause-entries c =
    let count : c.len.result ≡ length c.args.scope.now.functions.items = let n = c.len.ensures in let k = c.args.scope.now.functions.ok in omega (arith, n, k) in
    rw (← c.in_ok-copied.ensures, ← count) c.in_ok-push-2.ensures.items
