use Rattle.std.proofs.lemmas.List.Concat.{flat_map-append}
use Rattle.outcome_lines.specs.Tab as tab
use Rattle.outcome_lines.specs.Json as json
use Rattle.outcome_lines.proofs.laws.parts_are_the_whole.Goals as goal

pub returns : goal.returns
returns c = record {
  tab_table = flat_map-append tab.tab_test_lines;
  tab_difference = flat_map-append tab.tab_pair_lines;
  json_table = flat_map-append json.json_test_lines;
  json_difference = flat_map-append json.json_pair_lines;
}
