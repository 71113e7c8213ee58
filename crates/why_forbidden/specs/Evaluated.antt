-- The values of a model in each candidate. The contracts of evaluated.rt cite it; read Checked and
-- Language first.
use Rattle.std.specs.Prelude.{◌≡◌, List}
use Rattle.std.specs.List.{All}
use Rattle.binding_graph.specs.declared.resolved.ResolvedItem.{ResolvedItem}
use Rattle.candidate_spaces.specs.declared.candidate.Space.{Space}
use Rattle.predefined_names.specs.declared.predefined.TheConstants.{PREDEFINED}
use Rattle.from_scratch.specs.Answers.{AreSoundItems}
use Rattle.from_scratch.specs.Known.{HasAllColumns}
use Rattle.why_forbidden.specs.declared.evaluated.Evaluated.{Evaluated}
use Rattle.why_forbidden.specs.Checked.{IsChecked, check_indexes, checked_items}
use Rattle.why_forbidden.specs.Language.{IsOfLanguage, valued_names, relation_names}

-- the columns of all names that checks use, the checks that are no flags, and the names of the
-- language, with their values
pub record AreModelValues (space : Space) (items : List ResolvedItem) (e : Evaluated) : Type 0 where
  pub columns : AreSoundItems items → HasAllColumns space items e.answers
  pub each_check : All (IsChecked space e.answers.columns.items items) e.checks.items
  pub all_checks : checked_items e.checks.items ≡ check_indexes 0 items
  pub each_name : All (IsOfLanguage space) e.predefined.items
  pub all_names : valued_names e.predefined.items ≡ relation_names PREDEFINED
