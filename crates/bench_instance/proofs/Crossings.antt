-- What crosses to the threads of a running bench holds no thread's own: its texts, what its jobs
-- are given, and its prepared edits.
use denote.Param.Send.{IsSend, IsSync, sendable}
use Rattle.std.proofs.Crossing.{crosses}
use Rattle.text_values.proofs.name.Name.TheSendSync as name
use Rattle.text_values.proofs.test.Proposition.TheLaws.TheKnot as proposition
use Rattle.text_values.proofs.model.Expression.TheLaws.TheKnot as expression
use Rattle.bench_items.proofs.items.SharedItem.TheSendSync as shared
use Rattle.bench_values.proofs.given.SpaceParts.TheSendSync as space
use Rattle.bench_texts.proofs.reading.Reading.TheSendSync as reading
use Rattle.bench_parts.proofs.parts.Parts.TheSendSync as parts
use Rattle.bench_edits.proofs.edited.EditedParts.TheSendSync as edited
use Rattle.text_values.specs.contracts.test.Test as Test
use Rattle.text_values.specs.contracts.model.Item as Item
use Rattle.bench_texts.specs.contracts.model.NamedModel as NamedModel
use Rattle.bench_texts.specs.contracts.replacement.Replacement as Replacement
use Rattle.bench_texts.specs.contracts.prepared.Prepared as Prepared
use Rattle.bench_texts.specs.contracts.texts.Texts as Texts
use Rattle.bench_values.specs.contracts.given.Given as Given
use Rattle.bench_instance.specs.contracts.stamped_texts.PreparedEdit as PreparedEdit
use Rattle.bench_instance.specs.contracts.stamped_texts.StampedTexts as StampedTexts
use Rattle.bench_values.proofs.value.NodeValue.TheSendSync as value
use Rattle.board.specs.contracts.operation.BoardOp as BoardOp
use Rattle.board.proofs.board.Board.TheSendSync as board
use Rattle.cells.proofs.job.Done.TheSendSync as done
use Rattle.desk.proofs.desk.Desk.TheSendSync as desk

test_field_send : IsSend (Test.the_field).row
test_field_send =
    search (name.the_send, proposition.crosses, crosses, sendable) depth 100 fits 20000

pub test_send : IsSend Test.the_row
test_send = search (name.the_send, proposition.crosses, crosses, sendable) depth 100 fits 20000

test_field_sync : IsSync (Test.the_field).row
test_field_sync =
    search (name.the_sync, proposition.crosses, crosses, sendable) depth 100 fits 20000

pub test_sync : IsSync Test.the_row
test_sync = search (name.the_sync, proposition.crosses, crosses, sendable) depth 100 fits 20000

pub item_send : IsSend Item.the_row
item_send = search (expression.crosses, crosses, sendable) depth 100 fits 20000

pub item_sync : IsSync Item.the_row
item_sync = search (expression.crosses, crosses, sendable) depth 100 fits 20000

model_field_send : IsSend (NamedModel.the_field).row
model_field_send =
    search (item_send, reading.the_field_send, crosses, sendable) depth 100 fits 20000

pub model_send : IsSend NamedModel.the_row
model_send = search (item_send, reading.the_field_send, crosses, sendable) depth 100 fits 20000

model_field_sync : IsSync (NamedModel.the_field).row
model_field_sync =
    search (item_sync, reading.the_field_sync, crosses, sendable) depth 100 fits 20000

pub model_sync : IsSync NamedModel.the_row
model_sync = search (item_sync, reading.the_field_sync, crosses, sendable) depth 100 fits 20000

replacement_field_send : IsSend (Replacement.the_field).row
replacement_field_send =
    search (test_field_send, model_field_send, crosses, sendable) depth 100 fits 20000

replacement_field_sync : IsSync (Replacement.the_field).row
replacement_field_sync =
    search (test_field_sync, model_field_sync, crosses, sendable) depth 100 fits 20000

prepared_field_send : IsSend (Prepared.the_field).row
prepared_field_send = search (replacement_field_send, crosses, sendable) depth 100 fits 20000

prepared_field_sync : IsSync (Prepared.the_field).row
prepared_field_sync = search (replacement_field_sync, crosses, sendable) depth 100 fits 20000

texts_field_send : IsSend (Texts.the_field).row
texts_field_send = search (test_send, model_send, crosses, sendable) depth 100 fits 20000

texts_field_sync : IsSync (Texts.the_field).row
texts_field_sync = search (test_sync, model_sync, crosses, sendable) depth 100 fits 20000

pub given_send : IsSend Given.the_row
given_send =
    search (
      proposition.crosses,
      shared.the_field_send,
      shared.the_field_sync,
      space.the_field_send,
      space.the_field_sync,
      crosses,
      sendable,
    ) depth 100 fits 20000

pub given_sync : IsSync Given.the_row
given_sync =
    search (
      proposition.crosses,
      shared.the_field_send,
      shared.the_field_sync,
      space.the_field_send,
      space.the_field_sync,
      crosses,
      sendable,
    ) depth 100 fits 20000

pub edit_send : IsSend PreparedEdit.the_row
edit_send =
    search (prepared_field_send, edited.the_field_send, crosses, sendable) depth 100 fits 20000

pub edit_sync : IsSync PreparedEdit.the_row
edit_sync =
    search (prepared_field_sync, edited.the_field_sync, crosses, sendable) depth 100 fits 20000

pub stamped_send : IsSend StampedTexts.the_row
stamped_send =
    search (texts_field_send, parts.the_field_send, crosses, sendable) depth 100 fits 20000

pub stamped_sync : IsSync StampedTexts.the_row
stamped_sync =
    search (texts_field_sync, parts.the_field_sync, crosses, sendable) depth 100 fits 20000

pub operation_send : IsSend BoardOp.the_row
operation_send = search (crosses, sendable) depth 100 fits 20000

pub operation_sync : IsSync BoardOp.the_row
operation_sync = search (crosses, sendable) depth 100 fits 20000

-- what a desk and its workers ask of texts
pub ruleset bench_crosses = (
  given_send,
  given_sync,
  edit_send,
  edit_sync,
  stamped_send,
  stamped_sync,
  operation_send,
  operation_sync,
  value.the_send,
  value.the_sync,
  board.the_send,
  board.the_sync,
  crosses,
  sendable,
)

-- a desk that threads share, and what its calls are given
pub ruleset desk_crosses = (desk.the_sync, done.the_sync, bench_crosses)
