-- By which code propositions are told apart: their parts in the order of a reader, each operator
-- before its operands.
use Rattle.std.specs.Prelude.{◌≡◌, Bool, true, List, [], ◌∷◌, ◌⊎◌, refl}
use Rattle.std.specs.Coded.{Coded, code_by, coded_list, coded_bool, coded×, coded⊎}
use base.Stored.{coded_unit}
use Rattle.std.proofs.Common.{inl, inr, ap, ◌∙◌}
use Rattle.text_values.specs.declared.test.Connective.{Connective}
use Rattle.text_values.specs.declared.test.Place.{Place}
use Rattle.text_values.specs.declared.test.Value.{Value}
use Rattle.text_values.specs.contracts.test.Connective as connective
use Rattle.text_values.specs.contracts.test.Place as place
use Rattle.text_values.specs.contracts.test.Value as value
use Rattle.text_values.specs.TestValue.{Formula, Constant, Holds, Not, Join}

-- a constant or an atom; or a negation or an operator
abbrev pub FormulaMark : Type 0
FormulaMark = (Bool ⊎ (Place × Value)) ⊎ (Unit {0} ⊎ Connective)

abbrev pub formula_marks : Formula → List FormulaMark → List FormulaMark
formula_marks (Constant b) rest = inl (inl b) ∷ rest
formula_marks (Holds p v) rest = inl (inr (p, v)) ∷ rest
formula_marks (Not a) rest = inr (inl tt) ∷ formula_marks a rest
formula_marks (Join op a b) rest = inr (inr op) ∷ formula_marks a (formula_marks b rest)

abbrev pub with_not : List Formula → List Formula
with_not [] = []
with_not (a ∷ rest) = Not a ∷ rest

abbrev pub with_join : Connective → List Formula → List Formula
with_join op [] = []
with_join op (a ∷ []) = []
with_join op (a ∷ b ∷ rest) = Join op a b ∷ rest

abbrev pub with_mark : FormulaMark → List Formula → List Formula
with_mark (inl (inl b)) rest = Constant b ∷ rest
with_mark (inl (inr atom)) rest = Holds atom.0 atom.1 ∷ rest
with_mark (inr (inl _)) rest = with_not rest
with_mark (inr (inr op)) rest = with_join op rest

abbrev pub formulas : List FormulaMark → List Formula
formulas [] = []
formulas (m ∷ ms) = with_mark m (formulas ms)

abbrev pub first_formula : List Formula → Formula
first_formula [] = Constant true
first_formula (a ∷ rest) = a

pub formulas-marks : (a : Formula) (rest : List FormulaMark) → formulas (formula_marks a rest) ≡ a ∷ formulas rest
formulas-marks (Constant b) rest = refl
formulas-marks (Holds p v) rest = refl
formulas-marks (Not a) rest = ap with_not (formulas-marks a rest)
formulas-marks (Join op a b) rest =
    ap (with_join op) (formulas-marks a (formula_marks b rest) ∙ ap (λ (l : List Formula). a ∷ l)
    (formulas-marks b rest))

abbrev pub formula_code : Coded Formula
formula_code =
    code_by (List FormulaMark) (coded_list (coded⊎
    (coded⊎ coded_bool (coded× place.the_row.coded value.the_row.coded))
    (coded⊎ coded_unit connective.the_row.coded)))
    (λ a. formula_marks a []) (λ ms. first_formula (formulas ms))
    (λ a. ap first_formula (formulas-marks a []))
