-- Behind the end of a text the reader stands nowhere else.
use Rattle.std.proofs.Common.{◌≡◌, ℕ, Bool, true, false, List, [], ◌∷◌, ◌++◌, Option, Some, None, Ok, Err, refl, sym, ap, ◌∙◌, subst}
use Rattle.std.specs.Prelude.{◌&&◌, nat_lt, if◌then◌else◌}
use Rattle.litmus_tokens.specs.declared.token.Token.TheVariants.{End}
use Rattle.litmus_tokens.specs.Texts.{TokenAt}
use Rattle.text_values.specs.declared.test.Quantifier.{Quantifier}
use Rattle.text_values.specs.TestValue.{Formula, Constant}
use Rattle.litmus_tokens.specs.declared.place.PlaceExpectation.{PlaceExpectation}
use Rattle.litmus_tokens.specs.declared.place.PlaceExpectation.TheVariants as places
use Rattle.litmus_tokens.specs.Conditions.{condition_limits}
use Rattle.litmus_tokens.specs.PlaceMachine.{place_step}
use Rattle.litmus_tokens.specs.ConditionMachine as condition
use Rattle.litmus_tokens.specs.ConditionMachine.{ConditionFrame}
use Rattle.litmus_words.specs.declared.opcode.Want.{Want}
use Rattle.litmus_words.specs.declared.opcode.Want.TheVariants as wants
use Rattle.litmus_words.specs.Machine as table
use Rattle.litmus_grammar.specs.declared.parts.InitExpectation.{InitExpectation}
use Rattle.litmus_grammar.specs.declared.parts.InitExpectation.TheVariants as expectations
use Rattle.litmus_grammar.specs.declared.parts.ItemExpectation.{ItemExpectation}
use Rattle.litmus_grammar.specs.declared.parts.ItemExpectation.TheVariants as items
use Rattle.litmus_grammar.specs.declared.parts.TextKind.{TextKind}
use Rattle.litmus_grammar.specs.InitMachine as init
use Rattle.litmus_grammar.specs.TextMachine as text
use Rattle.litmus_grammar.specs.TextMachine.{Part, Draft, Next, TextState, TextResult, stepped, and_then, part_step, run_parts}
use Rattle.litmus_grammar.proofs.Runs.{run-split}

no_place : (expected : PlaceExpectation) → place_step expected End ≡ None
no_place places.Begins = refl
no_place places.WantsName = refl
no_place (places.WantsBracket n) = refl
no_place (places.WantsColon n) = refl
no_place (places.WantsRegister n) = refl

no_operand : (p : table.Pending) (o : Option Want) → table.pending_as p o End ≡ None
no_operand p None = refl
no_operand p (Some wants.Register) = refl
no_operand p (Some wants.Base) = refl
no_operand p (Some wants.Immediate) = refl
no_operand p (Some wants.Zero) = refl
no_operand p (Some wants.Comma) = refl
no_operand p (Some wants.Open) = refl
no_operand p (Some wants.Close) = refl

pub no_cell : (ts : List table.ThreadSteps) (c : ℕ) (expected : table.CellExpectation) (offset : ℕ)
    → table.expected_step ts c expected End offset ≡ None
no_cell ts c table.Begins offset = refl
no_cell ts c table.Labelled offset = refl
no_cell ts c (table.InInstruction p) offset =
    ap (λ (o : Option table.Pending). table.operand ts c o offset)
    (no_operand p (table.first_of p.wants))
no_cell ts c (table.WantsLabel condition) offset = refl
no_cell ts c table.Whole offset = refl

abbrev IsDone : Option Next → Type 0
IsDone None = Unit {0}
IsDone (Some n) = n.part ≡ text.Done

module _ (kind : TextKind) (given : ℕ) (h : Draft) (offset : ℕ) where
  no_row : (q : Part) → IsDone (text.table_result h q (table.table_step h.table End offset))
  no_row q =
      subst (λ (o : Option table.TableState). IsDone (text.table_result h q o))
      (sym (no_cell h.table.threads h.table.column h.table.expected offset)) tt

  row_done : (b : Bool)
      → IsDone (if b && false then text.next_at h (text.tail_start End)
      else text.table_result h text.Rows (table.table_step h.table End offset))
  row_done true = no_row text.Rows
  row_done false = no_row text.Rows

  cell_done : (b : Bool)
      → IsDone (if b && true then text.at h text.Done
      else text.table_result h text.Cells (table.table_step h.table End offset))
  cell_done true = refl
  cell_done false = no_row text.Cells

  init_done : (expected : InitExpectation)
      → IsDone (text.init_result kind h (init.init_step h.init expected End offset))
  init_done expectations.WantsOpen = tt
  init_done expectations.WantsEntry = tt
  init_done (expectations.InPlace within) =
      subst (λ o. IsDone (text.init_result kind h (init.place_result h.init o)))
      (sym (no_place within)) tt
  init_done (expectations.WantsEquals p) = tt
  init_done (expectations.WantsValue p) = tt
  init_done expectations.HasEntry = tt

  item_done : (threads : ℕ) (expected : ItemExpectation)
      → IsDone (text.item_read kind threads h expected End)
  item_done threads items.WantsFirst = tt
  item_done threads items.WantsNext = tt
  item_done threads (items.InItem within) =
      subst (λ o. IsDone (text.item_result h o)) (sym (no_place within)) tt
  item_done threads items.HasItem = tt

  ended_done : (q : Quantifier) (p : List ConditionFrame × Formula)
      → IsDone (text.proposition_result h q (condition.condition_ended p))
  ended_done q ([], v) = refl
  ended_done q (f ∷ fs, v) = tt

  not_done : (q : Quantifier) (b : Bool)
      → IsDone (text.proposition_result h q (if b then condition.Refuses else condition.Refuses))
  not_done q true = tt
  not_done q false = tt

  proposition_done : (threads : ℕ) (q : Quantifier) (fs : List ConditionFrame) (used : ℕ)
      (expected : condition.ConditionExpectation)
      → IsDone (text.proposition_result h q (condition.proposition_step condition_limits threads fs used
      expected End))
  proposition_done threads q fs used condition.Wants = tt
  proposition_done threads q fs used (condition.HasConstant b) =
      ended_done q (condition.fold_to 0 fs (Constant b))
  proposition_done threads q fs used condition.HasNot =
      not_done q (nat_lt (condition.open_count fs) condition_limits.nesting)
  proposition_done threads q fs used (condition.InPlace within) =
      subst
      (λ o. IsDone (text.proposition_result h q (condition.in_place fs used
      (condition.expected_after_place o))))
      (sym (no_place within)) tt
  proposition_done threads q fs used (condition.WantsEquals p) = tt
  proposition_done threads q fs used (condition.WantsValue p) = tt
  proposition_done threads q fs used (condition.Has v) = ended_done q (condition.fold_to 0 fs v)

  part_done : (p : Part) → IsDone (part_step kind given h p End offset)
  part_done text.Magic = tt
  part_done text.Title = tt
  part_done text.TitleEnd = tt
  part_done (text.Head b) = tt
  part_done (text.Init expected) = init_done expected
  part_done text.WantsColumn = tt
  part_done text.HasColumn = tt
  part_done text.Rows = row_done (table.is_row_start h.table)
  part_done text.Cells = cell_done (table.can_end h.table.expected)
  part_done text.WantsList = tt
  part_done (text.Item expected) = item_done (text.threads_in kind given h) expected
  part_done text.WantsQuantifier = tt
  part_done text.AfterTilde = tt
  part_done (text.Proposition q fs used expected) =
      proposition_done (text.threads_in kind given h) q fs used expected
  part_done text.ListOrEnd = refl
  part_done text.WantsEnd = refl
  part_done text.Done = tt

abbrev part_in : TextResult → Part
part_in (Ok x) = x.part
part_in (Err d) = text.Done

pub ends_done : (s s' : TextState) (ps : List TokenAt) (n : ℕ)
    → run_parts s (ps ++ record { token = End; offset = n } ∷ []) ≡ Ok s' → s'.part ≡ text.Done
ends_done s s' ps n e =
    by_run (run_parts s ps) (sym (run-split s ps (record { token = End; offset = n } ∷ [])) ∙ e)
  where
    by_end : (x : TextState) (o : Option Next) → IsDone o
        → and_then (text.with_offset n (stepped x End o)) (λ y. Ok y) ≡ Ok s' → s'.part ≡ text.Done
    by_end x (Some y) d k = sym (ap part_in k) ∙ d
    by_end x None d k = absurd cc

    by_run : (r : TextResult) → and_then r (λ x. run_parts x (record { token = End; offset = n } ∷ [])) ≡ Ok s'
        → s'.part ≡ text.Done
    by_run (Ok x) k =
        by_end x (part_step x.kind x.threads x.draft x.part End n)
        (part_done x.kind x.threads x.draft n x.part) k
    by_run (Err d) k = absurd cc
