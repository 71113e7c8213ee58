use Rattle.std.proofs.Common.{sym, ◌∙◌, arith}
use Rattle.std.proofs.lemmas.List.{length-map}
use Rattle.memo_core.specs.declared.keys.Input.{Input}
use Rattle.memo_core.proofs.Inputs.{other_keys}
use Rattle.memo_engine.proofs.FindLemmas.{keys_from}
use Rattle.memo_engine.proofs.finds.keys_are.Goals as goal

pub returns-then-keys-count : goal.returns-then-keys-count
returns-then-keys-count c =
    sym (other_keys _ _ (λ e. c.if-keys-count.true
    (e ∙ length-map c.args.inputs.now (λ (i : Input). i.key))))

pub returns-then-not-is_same_key : goal.returns-then-not-is_same_key
returns-then-not-is_same_key c =
    sym (rw c.if-not-is_same_key.true at (keys_from c.args.keys.now c.args.inputs.now c.loop-i.i _ _
    (omega arith) (omega arith) c.is_same_key.result c.is_same_key.ensures)) ∙ c.loop-i.invariant

pub loop-i-preserved : goal.loop-i-preserved
loop-i-preserved c =
    sym (rw c.if-not-is_same_key.false at (keys_from c.args.keys.now c.args.inputs.now c.loop-i.i _ _
    (omega arith) (omega arith) c.is_same_key.result c.is_same_key.ensures)) ∙ c.loop-i.invariant
