use Rattle.std.proofs.Common.{arith, ◌∙◌, sym}
use Rattle.binding_kinds.specs.declared.kinds.Kind.TheVariants.{OfAny}
use Rattle.binding_kinds.proofs.Combinations.{any_yes, any_no}
use Rattle.binding_kinds.proofs.signature.has_any.Goals.{then-is_any, else-is_any}
use Rattle.binding_kinds.proofs.signature.has_any.Goals as goal

pub loop-index-preserved : goal.loop-index-preserved
loop-index-preserved c = λ ks n_is arity_is le. elim c.if-is_any.branch [
  | then-is_any w ↦ w.any-is
      ∙ any_yes ks c.loop-index.index OfAny _ (omega arith)
      (c.kind_at.ensures ks OfAny n_is (omega arith) le)
      (sym c.is_any.ensures ∙ w.if-is_any.true)
  | else-is_any w ↦ w.any-is
      ∙ (c.loop-index.invariant ks n_is arity_is le
      ∙ any_no ks c.loop-index.index OfAny _ (omega arith)
      (c.kind_at.ensures ks OfAny n_is (omega arith) le)
      (sym c.is_any.ensures ∙ w.if-is_any.false))
]
