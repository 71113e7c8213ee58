-- How the reader goes from token to token through a text. The grammar does not rest on it.
use Rattle.std.specs.Prelude.{ℕ, List, [], ◌∷◌, ◌++◌, Bool, true, false, ◌&&◌, Option, Some, None, Result, Ok, Err, length, codes, if◌then◌else◌}
use Rattle.std.specs.Str.{bytes_eq}
use Rattle.litmus_tokens.specs.declared.rule.LitmusRule.{LitmusRule}
use Rattle.litmus_tokens.specs.declared.rule.LitmusRule.TheVariants as rules
use Rattle.litmus_tokens.specs.declared.stage.Stage.{Stage}
use Rattle.litmus_tokens.specs.declared.stage.Stage.TheVariants as stages
use Rattle.litmus_tokens.specs.declared.token.Token.{Token}
use Rattle.litmus_tokens.specs.declared.token.Token.TheVariants as tokens
use Rattle.litmus_tokens.specs.declared.token.Mark.TheVariants as marks
use Rattle.litmus_tokens.specs.Stage.{next_stage, part_rule}
use Rattle.litmus_tokens.specs.Texts.{TokenAt, is_end, begins_tail}
use Rattle.litmus_tokens.specs.Words.{is_test_name, is_filter}
use Rattle.text_values.specs.declared.test.Place.{Place}
use Rattle.text_values.specs.declared.test.Quantifier.{Quantifier}
use Rattle.text_values.specs.declared.test.Quantifier.TheVariants.{Exists, NotExists, Forall}
use Rattle.text_values.specs.TestValue.{Formula, Constant}
use Rattle.litmus_tokens.specs.declared.place.PlaceExpectation.TheVariants as place_expectations
use Rattle.litmus_tokens.specs.declared.place.PlaceStep.{PlaceStep}
use Rattle.litmus_tokens.specs.declared.place.PlaceStep.TheVariants as place_steps
use Rattle.litmus_tokens.specs.Conditions.{condition_limits}
use Rattle.litmus_tokens.specs.PlaceMachine.{place_step, place_of, has_thread}
use Rattle.litmus_tokens.specs.ConditionMachine as condition
use Rattle.litmus_words.specs.Machine as table
use Rattle.litmus_grammar.specs.declared.parts.TextKind.{TextKind}
use Rattle.litmus_grammar.specs.declared.parts.TextKind.TheVariants as kinds
use Rattle.litmus_grammar.specs.declared.parts.ItemExpectation.{ItemExpectation}
use Rattle.litmus_grammar.specs.declared.parts.ItemExpectation.TheVariants as items
use Rattle.litmus_grammar.specs.declared.parts.InitExpectation.{InitExpectation}
use Rattle.litmus_grammar.specs.declared.parts.InitExpectation.TheVariants as init_expectations
use Rattle.litmus_grammar.specs.declared.parts.InitStep.{InitStep}
use Rattle.litmus_grammar.specs.declared.parts.InitStep.TheVariants as init_steps
use Rattle.litmus_grammar.specs.InitMachine as init

-- where in a text the reader stands
pub data Part : Type 0 where
  Magic : Part
  Title : Part
  TitleEnd : Part
  Head : (may_have_text : Bool) → Part
  Init : (expected : InitExpectation) → Part
  WantsColumn : Part
  HasColumn : Part
  Rows : Part
  Cells : Part
  WantsList : Part
  Item : (expected : ItemExpectation) → Part
  WantsQuantifier : Part
  AfterTilde : Part
  Proposition : (quantifier : Quantifier) (frames : List condition.ConditionFrame) (used : ℕ)
      (expected : condition.ConditionExpectation) → Part
  ListOrEnd : Part
  WantsEnd : Part
  Done : Part

-- what was read so far
pub record Draft : Type 0 where
  pub name : List ℕ
  pub init : init.Block
  pub table : table.TableState
  pub observed : List Place
  pub quantifier : Quantifier
  pub formula : Formula

pub record Next : Type 0 where
  pub part : Part
  pub draft : Draft

-- ---- what was read, and more

abbrev pub with_name : Draft → List ℕ → Draft
with_name h n =
    record {
      name = n;
      init = h.init;
      table = h.table;
      observed = h.observed;
      quantifier = h.quantifier;
      formula = h.formula;
    }

abbrev pub with_init : Draft → init.Block → Draft
with_init h b =
    record {
      name = h.name;
      init = b;
      table = h.table;
      observed = h.observed;
      quantifier = h.quantifier;
      formula = h.formula;
    }

abbrev pub with_table : Draft → table.TableState → Draft
with_table h t =
    record {
      name = h.name;
      init = h.init;
      table = t;
      observed = h.observed;
      quantifier = h.quantifier;
      formula = h.formula;
    }

abbrev pub with_place : Draft → Place → Draft
with_place h p = record {
  name = h.name;
  init = h.init;
  table = h.table;
  observed = h.observed ++ p ∷ [];
  quantifier = h.quantifier;
  formula = h.formula;
}

abbrev pub with_condition : Draft → Quantifier → Formula → Draft
with_condition h q a =
    record {
      name = h.name;
      init = h.init;
      table = h.table;
      observed = h.observed;
      quantifier = q;
      formula = a;
    }

abbrev pub at : Draft → Part → Option Next
at h p = Some (record { part = p; draft = h })

abbrev pub next_at : Draft → Option Part → Option Next
next_at h (Some p) = at h p
next_at h None = None

-- ---- tokens that are looked at alone

abbrev pub is_word_token : Token → Bool
is_word_token (tokens.Word w) = true
is_word_token t = false

abbrev pub is_filter_word : Token → Bool
is_filter_word (tokens.Word w) = is_filter w
is_filter_word t = false

abbrev pub is_list_word : Token → Bool
is_list_word (tokens.Word w) = bytes_eq w (codes "locations")
is_list_word t = false

-- ---- before the init block

abbrev pub magic_read : Token → Option Part
magic_read (tokens.Word w) = if bytes_eq w (codes "PPC") then Some Title else None
magic_read t = None

abbrev pub title_read : Draft → Token → Option Next
title_read h (tokens.Word w) = if is_test_name w then at (with_name h w) TitleEnd else None
title_read h t = None

abbrev pub title_ended : Token → Option Part
title_ended tokens.LineEnd = Some (Head true)
title_ended t = None

abbrev pub head_read : Bool → Token → Option Part
head_read may_have_text tokens.Text = if may_have_text then Some (Head false) else None
head_read may_have_text tokens.Keyline = Some (Head false)
head_read may_have_text (tokens.Mark marks.OpenBrace) = Some (Init init_expectations.WantsEntry)
head_read may_have_text t = None

-- ---- the init block

abbrev pub after_init : TextKind → Part
after_init kinds.Init = WantsEnd
after_init kind = WantsColumn

abbrev pub init_part : TextKind → InitStep → Part
init_part kind (init_steps.Goes expected) = Init expected
init_part kind init_steps.Ends = after_init kind

abbrev pub init_result : TextKind → Draft → Option init.Did → Option Next
init_result kind h (Some d) = at (with_init h d.block) (init_part kind d.step)
init_result kind h None = None

-- ---- the table

abbrev pub table_result : Draft → Part → Option table.TableState → Option Next
table_result h p (Some t) = at (with_table h t) p
table_result h p None = None

abbrev pub column_ended : Token → Option Part
column_ended (tokens.Mark marks.Bar) = Some WantsColumn
column_ended (tokens.Mark marks.Semicolon) = Some Rows
column_ended t = None

-- ---- the condition

abbrev pub proposition_part : Quantifier → Part
proposition_part q = Proposition q [] 0 condition.Wants

abbrev pub word_quantifier : List ℕ → Option Part
word_quantifier w =
    if bytes_eq w (codes "exists") then Some (proposition_part Exists) else (
    if bytes_eq w (codes "forall") then Some (proposition_part Forall) else None)

abbrev pub quantifier_read : Token → Option Part
quantifier_read (tokens.Mark marks.Tilde) = Some AfterTilde
quantifier_read (tokens.Word w) = word_quantifier w
quantifier_read t = None

-- behind the tilde of `~exists`
abbrev pub exists_read : Token → Option Part
exists_read (tokens.Word w) =
    if bytes_eq w (codes "exists") then Some (proposition_part NotExists) else None
exists_read t = None

abbrev pub proposition_result : Draft → Quantifier → condition.ConditionStepResult → Option Next
proposition_result h q (condition.Goes fs used expected) = at h (Proposition q fs used expected)
proposition_result h q (condition.Ends a) = at (with_condition h q a) Done
proposition_result h q condition.Refuses = None

-- ---- the list of places

abbrev pub list_opened : Token → Option Part
list_opened (tokens.Mark marks.OpenBracket) = Some (Item items.WantsFirst)
list_opened t = None

abbrev pub after_list : TextKind → Part
after_list kinds.Locations = WantsEnd
after_list kind = WantsQuantifier

abbrev pub item_result : Draft → Option PlaceStep → Option Next
item_result h (Some (place_steps.Goes expected)) = at h (Item (items.InItem expected))
item_result h (Some (place_steps.Ends written)) =
    at (with_place h (place_of written)) (Item items.HasItem)
item_result h None = None

abbrev pub item_start : ℕ → Draft → Token → Option Next
item_start threads h t =
    if has_thread threads t then item_result h (place_step place_expectations.Begins t) else None

abbrev pub next_item : TextKind → ℕ → Draft → Token → Option Next
next_item kind threads h (tokens.Mark marks.CloseBracket) = at h (after_list kind)
next_item kind threads h t = item_start threads h t

abbrev pub item_ended : TextKind → Token → Option Part
item_ended kind (tokens.Mark marks.Semicolon) = Some (Item items.WantsNext)
item_ended kind (tokens.Mark marks.CloseBracket) = Some (after_list kind)
item_ended kind t = None

abbrev pub item_read : TextKind → ℕ → Draft → ItemExpectation → Token → Option Next
item_read kind threads h items.WantsFirst t = item_start threads h t
item_read kind threads h items.WantsNext t = next_item kind threads h t
item_read kind threads h (items.InItem expected) t = item_result h (place_step expected t)
item_read kind threads h items.HasItem t = next_at h (item_ended kind t)

-- behind the table
abbrev pub tail_start : Token → Option Part
tail_start t = if is_list_word t then Some WantsList else quantifier_read t

abbrev pub end_read : Token → Option Part
end_read tokens.End = Some Done
end_read t = None

-- where the text of a list of places begins, or ends
abbrev pub list_start : Token → Option Part
list_start t = if is_list_word t then Some WantsList else end_read t

-- ---- all parts

-- a token in a row, or behind the rows
abbrev pub row_read : Draft → Token → ℕ → Option Next
row_read h t offset =
    if table.is_row_start h.table && begins_tail t then next_at h (tail_start t)
    else table_result h Rows (table.table_step h.table t offset)

-- a token in the text of a thread, which ends where a cell may
abbrev pub cell_read : Draft → Token → ℕ → Option Next
cell_read h t offset =
    if table.can_end h.table.expected && is_end t then at h Done
    else table_result h Cells (table.table_step h.table t offset)

-- how many threads there are: behind the table of a test those of the table
abbrev pub threads_in : TextKind → ℕ → Draft → ℕ
threads_in kinds.Test given h = length h.table.threads
threads_in kind given h = given

-- a token that stands at this byte
abbrev pub part_step : TextKind → ℕ → Draft → Part → Token → ℕ → Option Next
part_step kind given h Magic t offset = next_at h (magic_read t)
part_step kind given h Title t offset = title_read h t
part_step kind given h TitleEnd t offset = next_at h (title_ended t)
part_step kind given h (Head may_have_text) t offset = next_at h (head_read may_have_text t)
part_step kind given h (Init expected) t offset =
    init_result kind h (init.init_step h.init expected t offset)
part_step kind given h WantsColumn t offset = table_result h HasColumn (table.name_thread h.table t)
part_step kind given h HasColumn t offset = next_at h (column_ended t)
part_step kind given h Rows t offset = row_read h t offset
part_step kind given h Cells t offset = cell_read h t offset
part_step kind given h WantsList t offset = next_at h (list_opened t)
part_step kind given h (Item expected) t offset =
    item_read kind (threads_in kind given h) h expected t
part_step kind given h WantsQuantifier t offset = next_at h (quantifier_read t)
part_step kind given h AfterTilde t offset = next_at h (exists_read t)
part_step kind given h (Proposition q fs used expected) t offset =
    proposition_result h q (condition.proposition_step condition_limits (threads_in kind given h) fs used
    expected t)
part_step kind given h ListOrEnd t offset = next_at h (list_start t)
part_step kind given h WantsEnd t offset = next_at h (end_read t)
part_step kind given h Done t offset = None

-- ---- the rule that a refused token breaks

abbrev pub is_thread : TextKind → Bool
is_thread kinds.Thread = true
is_thread kind = false

abbrev pub stage_rule : TextKind → table.TableState → Stage → Token → LitmusRule
stage_rule kind rows stages.CellBegins t = table.table_rule_at (is_thread kind) rows t
stage_rule kind rows stages.InCell t = table.table_rule_at (is_thread kind) rows t
stage_rule kind rows (stages.Init alone true) t =
    if is_word_token t then rules.TypedDeclaration else rules.Init
stage_rule kind rows stages.Tail t = if is_filter_word t then rules.Filter else rules.Condition
stage_rule kind rows s t = part_rule s

abbrev pub text_rule_at : TextKind → table.TableState → Stage → Token → LitmusRule
text_rule_at kind rows s (tokens.Broken rule) = rule
text_rule_at kind rows s t = stage_rule kind rows s t

-- ---- a whole text

pub record TextState : Type 0 where
  pub kind : TextKind
  pub threads : ℕ
  pub stage : Stage
  pub part : Part
  pub draft : Draft

abbrev pub stepped : TextState → Token → Option Next → Result TextState LitmusRule
stepped s t (Some n) =
    Ok (record {
      kind = s.kind;
      threads = s.threads;
      stage = next_stage s.stage t;
      part = n.part;
      draft = n.draft;
    })
stepped s t None = Err (text_rule_at s.kind s.draft.table s.stage t)

abbrev pub text_step : TextState → Token → ℕ → Result TextState LitmusRule
text_step s t offset = stepped s t (part_step s.kind s.threads s.draft s.part t offset)

abbrev pub first_stage : TextKind → Stage
first_stage kinds.Test = stages.Magic
first_stage kinds.Thread = stages.CellBegins
first_stage kinds.Init = stages.Init true false
first_stage kinds.Condition = stages.Tail
first_stage kinds.Locations = stages.Tail

abbrev pub first_part : TextKind → Part
first_part kinds.Test = Magic
first_part kinds.Thread = Cells
first_part kinds.Init = Init init_expectations.WantsOpen
first_part kinds.Condition = WantsQuantifier
first_part kinds.Locations = ListOrEnd

-- the text of a thread alone is a table of one column without a header
abbrev pub first_table : TextKind → table.TableState
first_table kinds.Thread = table.widened table.table_start
first_table kind = table.table_start

abbrev pub nothing : TextKind → Draft
nothing kind = record {
  name = [];
  init = init.init_start;
  table = first_table kind;
  observed = [];
  quantifier = Exists;
  formula = Constant true;
}

abbrev pub text_start : TextKind → ℕ → TextState
text_start kind threads =
    record {
      kind = kind;
      threads = threads;
      stage = first_stage kind;
      part = first_part kind;
      draft = nothing kind;
    }

abbrev pub TextResult : Type 0
TextResult = Result TextState (LitmusRule × ℕ)

abbrev pub with_offset : ℕ → Result TextState LitmusRule → TextResult
with_offset offset (Ok s) = Ok s
with_offset offset (Err r) = Err (r, offset)

abbrev pub and_then : TextResult → (TextState → TextResult) → TextResult
and_then (Ok s) f = f s
and_then (Err e) f = Err e

-- the tokens one after another, with the offset of the first that is refused
abbrev pub run_parts : TextState → List TokenAt → TextResult
run_parts s [] = Ok s
run_parts s (p ∷ ps) = and_then (with_offset p.offset (text_step s p.token p.offset)) (λ s'. run_parts s' ps)
