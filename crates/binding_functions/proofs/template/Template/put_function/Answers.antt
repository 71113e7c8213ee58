use Rattle.std.proofs.Common.{refl}
use Rattle.binding_functions.proofs.Filling.{put_large, put_whole}
use Rattle.binding_functions.proofs.template.Template.put_function.Goals as goal

pub returns-then-function : goal.returns-then-function
returns-then-function c =
    λ s wholes kept all. put_large c.args.function.now s c.args.self.now _ c.args.arguments.now
    wholes kept all c.if-function.true refl

pub returns : goal.returns
returns c = λ s wholes kept all.
    put_whole c.args.function.now s c.args.self.now c.put_body.new.self c.put_body.result wholes
    c.deref.result.now kept c.if-function.false c.deref.ensures.value
    (c.put_body.ensures wholes all)
