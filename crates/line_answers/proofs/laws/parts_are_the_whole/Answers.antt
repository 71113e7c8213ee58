use Rattle.std.proofs.Common.{ℕ, List, ◌++◌, map, sym, ap, ◌∙◌}
use Rattle.std.specs.List.{flat_map}
use Rattle.std.proofs.lemmas.List.{map-append}
use Rattle.std.proofs.lemmas.List.Concat.{flat_map-append}
use Rattle.outcome_lines.specs.Records.{TestResult}
use Rattle.line_answers.specs.Results.{FileResult}
use Rattle.line_answers.specs.Reports.{lines_of, lines_said}
use Rattle.line_answers.proofs.Results.{lines_behind, said_behind, results_append}
use Rattle.line_answers.proofs.laws.parts_are_the_whole.Goals as goal

pub returns : goal.returns
returns c = λ lines models a b text more told others h k. record {
  results = h.results ++ k.results;
  results_are = results_append models a b h.results k.results h.results_are k.results_are;
  text_is = ap (λ (l : List ℕ). l ++ more) h.text_is
      ∙ ap (λ (l : List ℕ). lines_said lines models (lines_of lines (map (λ r. r.result) h.results)) ++ l) k.text_is
      ∙ sym (said_behind lines models (lines_of lines (map (λ r. r.result) h.results)) (lines_of lines (map (λ r. r.result) k.results)))
      ∙ ap (lines_said lines models) (sym (lines_behind lines (map (λ r. r.result) h.results) (map (λ r. r.result) k.results)))
      ∙ ap (λ (l : List TestResult). lines_said lines models (lines_of lines l)) (sym (map-append (λ (r : FileResult). r.result) h.results k.results));
  told_is = ap (λ (l : List ℕ). l ++ others) h.told_is
      ∙ ap (λ (l : List ℕ). flat_map (λ r. r.told) h.results ++ l) k.told_is
      ∙ sym (flat_map-append (λ (r : FileResult). r.told) h.results k.results);
}
