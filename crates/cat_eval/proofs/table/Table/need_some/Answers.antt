use Rattle.std.proofs.Common.{rules, ◌≡◌, inl, inr, List, Contains, vec_len, sym, subst, arith}
use Rattle.predefined_names.specs.declared.predefined.Predefined.{Predefined}
use Rattle.cat_eval.proofs.table.Table.need_some.Goals as goal

pub returns-then-is_empty-clause-there : goal.returns-then-is_empty-clause-there
returns-then-is_empty-clause-there c = λ name inside same.
    let none : vec_len c.in_ok-missing.missing.names ≡ 0 = search (rules, c.is_empty.ensures, c.if-is_empty.true) in
    elim (c.in_ok-missing.ensures.all name inside same) [
      | inl has ↦ has
      | inr made ↦ absurd
          (omega (arith, none, made.1))
    ]

pub returns-clause-right : goal.returns-clause-right
returns-clause-right c = λ right. c.add_block.ensures.right _ c.in_ok-block.ensures.columns right

pub returns-in_err-add_block-clause-right : goal.returns-in_err-add_block-clause-right
returns-in_err-add_block-clause-right c =
    λ right. c.add_block.ensures.right _ c.in_ok-block.ensures.columns right

pub returns-clause-there : goal.returns-clause-there
returns-clause-there c = λ name inside same. elim (c.in_ok-missing.ensures.all name inside same) [
  | inl has ↦ c.add_block.ensures.kept name has
  | inr made ↦ c.in_ok-add_block.ensures.there name (subst
      (λ (ns : List Predefined). Contains ns name) (sym c.in_ok-block.ensures.names) made)
]
