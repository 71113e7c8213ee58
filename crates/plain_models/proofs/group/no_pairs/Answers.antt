use Rattle.std.proofs.Common.{List, [], sym, subst, arith}
use Rattle.plain_models.specs.declared.value.Value.{Value}
use Rattle.plain_models.specs.declared.value.Value.TheVariants as values
use Rattle.plain_models.specs.Groups.{AreRelations}
use Rattle.plain_models.proofs.Stepping.{relations_next, relations_whole, empty_meant}
use Rattle.plain_models.proofs.group.no_pairs.Goals as goal

pub loop-name-init : goal.loop-name-init
loop-name-init c =
    subst (λ (l : List Value). AreRelations (λ n a b. ⊥) [] l) (sym c.new-values.ensures.items) tt

pub loop-name-preserved : goal.loop-name-preserved
loop-name-preserved c =
    relations_next (λ n a b. ⊥) c.args.names.now c.loop-name._name-index
    c.loop-name.values.items c.push.new.self.items (values.Relation c.new-pairs.result) (omega arith)
    c.loop-name.invariant (empty_meant c.new-pairs.result c.new-pairs.ensures.items)
    c.in_ok-push.ensures.items

pub returns : goal.returns
returns c =
    relations_whole (λ n a b. ⊥) c.args.names.now c.loop-name._name-index
    c.loop-name.values.items (omega arith) c.loop-name.invariant
