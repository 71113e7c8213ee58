use Rattle.std.proofs.Common.{ℕ, ◌≡◌, List, [], ◌∷◌, ◌++◌, length, get_or, ap, ◌∙◌, arith}
use Rattle.memo_core.specs.Graph.{named_values}
use Rattle.bench_values.specs.Values.{NodeContent}
use Rattle.bench_parts.proofs.Numbering.{named_push}
use Rattle.bench_parts.proofs.jobs.put_output.Goals as goal

pub returns-in_ok-push-clause-named : goal.returns-in_ok-push-clause-named
returns-in_ok-push-clause-named c = λ lt.
    let outputs = c.args.outputs.now in
    let at : c.len-at.result ≡ length outputs.items = omega (arith, c.len-at.ensures, outputs.ok.0) in
    ap named_values c.in_ok-push.ensures.items ∙ named_push outputs.items _
    ∙ ap
    (λ (k : ℕ).
    let last : List (ℕ × NodeContent) = (get_or c.args.names.now k 0, c.args.value) ∷ [] in
    named_values outputs.items ++ last) at
