-- What was read keeps the limit of operators when it is printed, and so it is read again.
use Rattle.std.proofs.Common.{◌≡◌, ℕ, ◌+◌, ◌<◌, ◌≤◌, List, refl, ap, arith}
use Rattle.text_values.specs.declared.test.Quantifier.{Quantifier}
use Rattle.text_values.specs.TestValue.{Formula, Content}
use Rattle.litmus_tokens.specs.Conditions.{FormulaTree, Word, Atom, Prefix, Pair, Group, tree_formula, operators, condition_limits, IsFormulaTree}
use Rattle.litmus_grammar.specs.Texts.{ReadsCondition, ReadsTest}
use Rattle.litmus_printing.specs.Printing.{condition_text, printed}
use Rattle.litmus_laws.specs.Written.{joins, IsFormulaWithinLimits, StaysWithin}
use Rattle.litmus_laws.proofs.Conditions.{condition_reads}
use Rattle.litmus_laws.proofs.Meant.{condition_reads_written}
use Rattle.litmus_laws.proofs.MeantTests.{test_reads_written}
use Rattle.litmus_laws.proofs.Whole.{test_reads}

joins_meant : (t : FormulaTree) → joins (tree_formula t) ≡ operators t
joins_meant (Word b) = refl
joins_meant (Atom p v) = refl
joins_meant (Prefix tilde a) = joins_meant a
joins_meant (Pair op a b) =
    let x = joins_meant a in
    let y = joins_meant b in
    omega arith
joins_meant (Group a) = joins_meant a

few_joins : (threads : ℕ) (t : FormulaTree) → IsFormulaTree condition_limits threads t
    → joins (tree_formula t) ≤ condition_limits.operators
few_joins threads t h =
    let x = joins_meant t in
    let y = h.short in
    omega arith

within : (bytes : List ℕ) (f : Formula) → StaysWithin bytes f → joins f ≤ condition_limits.operators
    → IsFormulaWithinLimits bytes f
within bytes f s few = record { short = s.short; shallow = s.shallow; few = few }

pub test_again : (bytes : List ℕ) (v : Content) → ReadsTest bytes v
    → StaysWithin (printed v) v.condition → ReadsTest (printed v) v
test_again bytes v r s =
    let t = r.text.tree in
    let same = ap (λ (c : Content). joins c.condition) r.meant in
    let few = few_joins (t.others + 1) t.condition r.text.fine.condition in
    test_reads v (test_reads_written bytes v r) (within (printed v) v.condition s (omega arith))

pub condition_again : (threads : ℕ) (bytes : List ℕ) (q : Quantifier) (f : Formula)
    → threads < 18446744073709551616 → ReadsCondition threads bytes (q, f)
    → StaysWithin (condition_text q f) f → ReadsCondition threads (condition_text q f) (q, f)
condition_again threads bytes q f few r s =
    let same = ap (λ (p : Quantifier × Formula). joins p.1) r.meant in
    let less = few_joins threads r.text.condition r.text.fine in
    condition_reads threads few q f (condition_reads_written threads bytes q f r)
    (within (condition_text q f) f s (omega arith))
