-- What texts of tests and models say of operations on boards. Read it after Cells, and the
-- histories of `board`.
use Rattle.std.specs.Prelude.{◌≡◌, ℕ, ◌<◌, ◌≤◌, List, length}
use Rattle.std.specs.Arc.{arc_value}
use Rattle.outcome_states.specs.declared.answer.Outcome.{Outcome}
use Rattle.bench_texts.specs.declared.fault.EditFault.{EditFault}
use Rattle.bench_texts.specs.declared.fault.EditFault.TheVariants as faults
use Rattle.bench_texts.specs.Edits.{Edit}
use Rattle.bench_texts.specs.Held.{texts_of}
use Rattle.board.specs.declared.operation.BoardOp.{BoardOp}
use Rattle.board.specs.declared.operation.BoardOp.TheVariants as ops
use Rattle.board.specs.Contents.{BoardContent}
use Rattle.board.specs.Legal as legal
use Rattle.board.specs.Legal.{TestsAndModels, tests_and_models, texts_after, MayFollow}
use Rattle.board.specs.Right.{HasNamesOf}
use Rattle.board.specs.Histories.{contents_after}
use Rattle.bench_instance.specs.declared.stamped_texts.StampedTexts.{StampedTexts}
use Rattle.bench_instance.specs.declared.stamped_texts.PreparedEdit.{PreparedEdit}
use Rattle.bench_instance.specs.Cells.{IsCellAt}

-- the texts are those after the edits among these operations, whose board has their names, and no
-- more than the bench takes
pub record AreAfter (t : StampedTexts) (all : List BoardOp) : Type 0 where
  pub held : tests_and_models t.texts ≡ texts_after all
  pub contents : texts_of t.texts ≡ contents_after all
  pub names : HasNamesOf all
  pub few_tests : length (texts_after all).tests ≤ 512
  pub few_models : length (texts_after all).models ≤ 16

-- the operation may follow when these are held and the numbers of all edits are below that one
abbrev pub MayFollowBelow : TestsAndModels → ℕ → BoardOp → Type 0
MayFollowBelow h number op = (last : ℕ) → last < number → MayFollow h last op

-- the operation of an edit that was prepared on these texts, under its number: it may follow any
-- operations after which they are
abbrev pub IsAnnounced : StampedTexts → PreparedEdit → ℕ → BoardOp → Type 0
IsAnnounced t p number (ops.Edit edit) =
    (edit.number ≡ number) × (edit.prepared.value ≡ p.texts)
    × MayFollowBelow (tests_and_models t.texts) number (ops.Edit edit)
IsAnnounced t p number (ops.Settle at outcome) = ⊥

-- the edit was refused for want of memory
abbrev pub IsWantOfMemory : EditFault → Type 0
IsWantOfMemory (faults.OutOfMemory error) = Unit {0}
IsWantOfMemory fault = ⊥

-- the operation settles the cell that the desk counts so, with that outcome
abbrev pub SettlesCell : BoardContent → ℕ → Outcome → BoardOp → Type 0
SettlesCell b index o (ops.Edit edit) = ⊥
SettlesCell b index o (ops.Settle at outcome) = (arc_value outcome ≡ o) × IsCellAt b index at
