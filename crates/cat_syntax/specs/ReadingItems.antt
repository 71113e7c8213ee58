-- What the reader holds of the items, as the machine sees it.
use Rattle.std.specs.Prelude.{◌≡◌, Bool, true, false, List, map, Result, Ok, Err}
use Rattle.cat_expressions.specs.declared.frames.StepError.{StepError}
use Rattle.cat_expressions.specs.declared.frames.StepError.TheVariants as errors
use Rattle.text_values.specs.declared.model.Item.{Item}
use Rattle.cat_syntax.specs.declared.lets.Group as code_group
use Rattle.cat_syntax.specs.declared.lets.LetPart as code_let
use Rattle.cat_syntax.specs.declared.lets.LetPart.TheVariants as lets
use Rattle.cat_syntax.specs.declared.parts.ShowHead.{ShowHead}
use Rattle.cat_syntax.specs.declared.parts.Head as code_head
use Rattle.cat_syntax.specs.declared.parts.Head.TheVariants as heads
use Rattle.cat_syntax.specs.declared.parts.Part as code_part
use Rattle.cat_syntax.specs.declared.parts.Part.TheVariants as parts
use Rattle.cat_grammar.specs.ItemMachine as machine
use Rattle.text_values.specs.ModelValues.{term_of, binding_of, shown_term, clauses_of}

abbrev pub group_of : code_group.Group → machine.Group
group_of g = record { recursive = g.recursive; bindings = map binding_of g.bindings.items }

abbrev pub show_of : ShowHead → machine.ShownPart
show_of s = record { hidden = s.hidden; terms = map shown_term s.shown.items }

abbrev pub let_of : code_let.LetPart → machine.LetPart
let_of lets.Keyword = machine.Keyword
let_of (lets.Named n) = machine.Named n
let_of (lets.And g) = machine.And (group_of g)
let_of (lets.Bound g n) = machine.Bound (group_of g) n
let_of (lets.Parameter n ps) = machine.Parameter n ps.items
let_of (lets.AfterParameter n ps) = machine.AfterParameter n ps.items
let_of (lets.Parameters n ps) = machine.Parameters n ps.items

abbrev pub head_of : code_head.Head → machine.Head
head_of (heads.Bound g n) = machine.BoundHead (group_of g) n
head_of (heads.Function n ps) = machine.FunctionHead n ps.items
head_of (heads.Check h) = machine.CheckedHead h
head_of (heads.Show s) = machine.ShownHead (show_of s)

-- an expression begins where a part leads to one
abbrev pub part_of : code_part.Part → machine.Part
part_of parts.Title = machine.Title
part_of parts.Start = machine.Start
part_of (parts.Let p) = machine.InLet (let_of p)
part_of parts.AfterFlag = machine.AfterFlag
part_of (parts.AfterTilde flagged) = machine.AfterTilde flagged
part_of (parts.Body h) = machine.begin_body (head_of h)
part_of (parts.Label h v) = machine.Label h (term_of v)
part_of (parts.ShowLabel s v) = machine.ShowLabel (show_of s) (term_of v)
part_of (parts.AfterShowLabel s) = machine.AfterShowLabel (show_of s)
part_of parts.AfterInclude = machine.AfterInclude
part_of parts.Done = machine.Done

-- What a function returned, seen by view, is what the machine does, unless memory ran out.
abbrev pub Fails : {Y : Type 0} → StepError → Result Y machine.Fault → Type 0
Fails errors.OutOfMemory made = Unit {0}
Fails (errors.Refused k) made = made ≡ Err (machine.Here k)
Fails (errors.RefusedBefore k) made = made ≡ Err (machine.Before k)

abbrev pub GivesRead : {X Y : Type 0} → (X → Y) → Result X StepError → Result Y machine.Fault → Type 0
GivesRead view (Ok x) made = made ≡ Ok (view x)
GivesRead view (Err e) made = Fails e made

-- the part that a step leads to, beside the items
abbrev pub ItemSteps : Result code_part.Part StepError → List Item → Result machine.ItemState machine.Fault
    → Type 0
ItemSteps (Ok p) is made = made ≡ Ok (record { items = clauses_of is; part = part_of p })
ItemSteps (Err e) is made = Fails e made

abbrev pub is_body : code_part.Part → Bool
is_body parts.Title = false
is_body parts.Start = false
is_body (parts.Let p) = false
is_body parts.AfterFlag = false
is_body (parts.AfterTilde flagged) = false
is_body (parts.Body h) = true
is_body (parts.Label h v) = false
is_body (parts.ShowLabel s v) = false
is_body (parts.AfterShowLabel s) = false
is_body parts.AfterInclude = false
is_body parts.Done = false
