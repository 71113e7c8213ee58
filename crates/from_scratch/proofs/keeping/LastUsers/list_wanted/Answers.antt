use Rattle.std.proofs.Common.{◌+◌, ◌∙◌, not, ap, refl}
use Rattle.std.proofs.lemmas.List.{length_push}
use Rattle.from_scratch.proofs.Letting.{enough_none, enough_more}
use Rattle.from_scratch.proofs.keeping.LastUsers.list_wanted.Goals as goal

pub loop-position-init : goal.loop-position-init
loop-position-init c = rw c.clear.ensures.items (refl, enough_none c.args.self.now c.args.at)

pub loop-position-preserved : goal.loop-position-preserved
loop-position-preserved c =
    let ws = c.loop-position.wanted.items in
    let before = c.loop-position.invariant in
    rw c.in_ok-push.ensures.items (
      length_push ws (not c.is_gone.result) ∙ ap (λ n. n + 1) before.0,
      enough_more c.args.self.now c.args.at c.loop-position.position ws c.is_gone.result before.0
          before.1 c.is_gone.ensures.0,
    )
