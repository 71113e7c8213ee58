-- The picture of a drawing: threads as columns, events downwards, initial stores above. Read after
-- Lines; `picture_of` cites the last definition.
use Rattle.std.specs.Prelude.{◌≡◌, ℕ, true, List, [], ◌++◌, map, codes, Option, Some, None, Vec}
use Rattle.std.specs.declared.alloc.Global.{Global}
use Rattle.draw_graph.specs.declared.drawing.Cluster.{Cluster}
use Rattle.draw_graph.specs.declared.drawing.Drawing.{Drawing}
use Rattle.draw_layout.specs.declared.picture.Label.{Label}
use Rattle.draw_layout.specs.declared.picture.Picture.{Picture}
use Rattle.draw_scene.specs.Lines.{seen_line, drawing_lines}
use Rattle.thread_runs.specs.declared.instruction.Instruction.{Instruction}
use Rattle.why_text.specs.Events.{action_text, event_name, instruction_text}
use Rattle.why_text.specs.declared.event.ToldEvent.{ToldEvent}

-- the texts of a box: what the event does, and its instruction
abbrev pub BoxTexts : Type 0
BoxTexts = List ℕ × List ℕ

abbrev pub texts_in : Label → BoxTexts
texts_in b = (b.action.items, b.instruction.items)

-- its name, and what it does
unfoldable pub event_text : List (List ℕ) → ℕ → ToldEvent → List ℕ
event_text locations initial e =
    event_name initial e.number ++ codes ": " ++ action_text true locations e.event.action

abbrev pub origin_text : Option Instruction → List ℕ
origin_text None = []
origin_text (Some instruction) = instruction_text instruction

abbrev pub store_texts : List (List ℕ) → ℕ → ToldEvent → BoxTexts
store_texts locations initial e = (event_text locations initial e, codes "initial")

abbrev pub event_texts : List (List ℕ) → ℕ → ToldEvent → BoxTexts
event_texts locations initial e = (event_text locations initial e, origin_text e.instruction)

abbrev pub thread_texts : List (List ℕ) → ℕ → Cluster → List BoxTexts
thread_texts locations initial c = map (event_texts locations initial) c.events.items

abbrev pub column_texts : Vec Label Global → List BoxTexts
column_texts labels = map texts_in labels.items

-- what is drawn of an execution, over locations of these names, the first so many events being
-- initial stores
pub record IsPicture (locations : List (List ℕ)) (initial : ℕ) (d : Drawing) (p : Picture)
    : Type 0 where
  pub title : p.title.items ≡ d.title.items
  pub stores : map texts_in p.initial.items ≡ map (store_texts locations initial) d.initial.items
  pub threads :
      map column_texts p.threads.items ≡ map (thread_texts locations initial) d.clusters.items
  pub lines : map seen_line p.lines.items ≡ drawing_lines d
