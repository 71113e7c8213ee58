use Rattle.std.proofs.Common.{◌≡◌, ◌≤◌, List, sym, ap, ◌∙◌, arith, length}
use Rattle.std.specs.List.{count_by}
use Rattle.binding_kinds.specs.declared.function.Piece.{Piece}
use Rattle.binding_kinds.specs.Applicable.{is_no_parameter, is_parameter_at}
use Rattle.binding_kinds.specs.Columns.{signature_in}
use Rattle.binding_kinds.specs.Functions.{formula_in}
use Rattle.binding_functions.proofs.Filling.{constant_postfix, factor_postfix, formula_within}
use Rattle.binding_functions.proofs.kept.function_of.Goals as goal

pub returns-clause-kept : goal.returns-clause-kept
returns-clause-kept c = λ ss names ps t arity few read part.
    let formula = formula_in ss names ps t in
    let whole = c.bounded-pieces.ensures _ read in
    let within : length ps ≤ 8 = omega (arith, arity, few) in
    let v : c.deref.result.now ≡ c.bounded-pieces.result.pieces.items = c.deref.ensures.value in
    let column = rw (← arity) at (part.column within) in record {
      arity = arity;
      few = within;
      kinds =
          λ kinds long. c.in_ok-signatures.ensures (signature_in ss names ps t) kinds
          (rw c.deref-2.ensures.value column) (long ∙ sym arity) few;
      under = λ index lt. part.marks index (omega (arith, within, lt));
      within = formula_within ss names ps t;
      large = whole.large;
      template = whole.fits;
      constant =
          λ e. c.count_parts-constant.ensures.constant
          ∙ (ap (λ (l : List Piece). count_by is_no_parameter l) (v ∙ whole.fits e)
          ∙ constant_postfix formula);
      factor =
          λ e index lt. c.count_parts-constant.ensures.factors index (omega (arith, within, lt))
          ∙ (ap (λ (l : List Piece). count_by (is_parameter_at index) l) (v ∙ whole.fits e)
          ∙ factor_postfix index formula);
    }
