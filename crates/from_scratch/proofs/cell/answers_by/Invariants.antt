use Rattle.std.proofs.Common.{◌≡◌, length, vec_len}
use Rattle.candidate_spaces.specs.Space.{shown_in}
use Rattle.cat_eval.specs.Tables.{IsOver}
use Rattle.from_scratch.specs.Answers.{AreSoundItems}
use Rattle.from_scratch.specs.Keeping.{AreKeptTo}
use Rattle.from_scratch.specs.Known.{kept_of, HasNoOtherColumns}
use Rattle.from_scratch.proofs.cell.answers_by.Given as goal

abbrev pub invariant-loop-at : goal.invariant-loop-at
invariant-loop-at l = record {
  known : AreSoundItems l.resolved.items.items
      → AreKeptTo l.space l.resolved.items.items l.last l.at-items l.at-index l.answers;
  over : IsOver l.evaluator l.space;
  long : length (kept_of l.answers) ≡ length (shown_in l.space);
  count : vec_len l.answers.columns ≡ length l.resolved.items.items;
  no_others : HasNoOtherColumns l.resolved.items.items l.answers;
}
