use Rattle.cat_expressions.proofs.Stack.{star_tilde_other}
use Rattle.cat_expressions.proofs.terms.OpenExpression.after_star_tilde.Goals as goal

pub returns-in_ok-push-in_default : goal.returns-in_ok-push-in_default
returns-in_ok-push-in_default c =
    star_tilde_other c.args.self.now.frames.items c.open_infix.new.frames.items
    c.push.new.self.items c.args.self.now.operators c.args.left c.args.token.now _ _
    c.in_default.not-Check c.in_ok-open_infix-in_default.ensures
    c.in_ok-push-in_default.ensures.items c.operand.ensures
