-- What a request asks for: an edit of the texts, or an answer from them.
use Rattle.std.specs.Prelude.{ℕ, List}
use Rattle.session_script.specs.declared.request.Request.{Request}
use Rattle.session_script.specs.declared.request.Request.TheVariants as requests
use Rattle.bench_texts.specs.Edits.{Edit, PutTest, DropTest, SetInit, SetThread, SetCond, SetLocations, PutModel, DropModel, SetItem, InsertItem, RemoveItem, edit_of}
use Rattle.session_edits.specs.declared.request.Asked as code
use Rattle.session_edits.specs.declared.request.Asked.TheVariants as variants
use Rattle.session_edits.specs.declared.request.Question.{Question}
use Rattle.session_edits.specs.declared.request.Question.TheVariants as questions

-- an edit, without where it lies in memory, or a question
pub data RequestAsked : Type 0 where
  Editing : Edit → RequestAsked
  Asking : Question → RequestAsked

abbrev pub asked_by : code.Asked → RequestAsked
asked_by (variants.Edit edit) = Editing (edit_of edit)
asked_by (variants.Question question) = Asking question

-- what a request with this text behind it asks for
abbrev pub request_meaning : Request → List ℕ → RequestAsked
request_meaning requests.PutTest text = Editing (PutTest text)
request_meaning (requests.PutModel model) text = Editing (PutModel model text)
request_meaning (requests.SetInit test) text = Editing (SetInit test text)
request_meaning (requests.SetThread test thread) text = Editing (SetThread test thread text)
request_meaning (requests.SetCondition test) text = Editing (SetCond test text)
request_meaning (requests.SetLocations test) text = Editing (SetLocations test text)
request_meaning (requests.SetItem model item) text = Editing (SetItem model item text)
request_meaning (requests.InsertItem model before) text = Editing (InsertItem model before text)
request_meaning (requests.RemoveItem model item) text = Editing (RemoveItem model item)
request_meaning (requests.DropTest test) text = Editing (DropTest test)
request_meaning (requests.DropModel model) text = Editing (DropModel model)
request_meaning (requests.Items model) text = Asking (questions.Items model)
request_meaning (requests.Show test model) text = Asking (questions.Show test model)
request_meaning (requests.Counts test model) text = Asking (questions.Counts test model)
request_meaning (requests.Table models) text = Asking (questions.Table models)
request_meaning (requests.Difference first second) text = Asking (questions.Difference first second)
