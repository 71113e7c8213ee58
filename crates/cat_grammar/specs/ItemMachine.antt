-- How the reader goes from token to token over items.
use Rattle.std.specs.Prelude.{ℕ, ◌+◌, List, [], ◌∷◌, ◌++◌, Bool, true, false, ◌==◌, Option, Some, None, Result, Ok, Err, length, nat_lt, if◌then◌else◌}
use Rattle.cat_tokens.specs.declared.rule.CatRule.{CatRule}
use Rattle.cat_tokens.specs.declared.rule.CatRule.TheVariants as rules
use Rattle.text_values.specs.declared.model.CheckWord.{CheckWord}
use Rattle.cat_grammar.specs.declared.form.Form.{Form}
use Rattle.cat_grammar.specs.declared.form.Form.TheVariants as forms
use Rattle.cat_grammar.specs.declared.form.CheckHead.{CheckHead}
use Rattle.cat_tokens.specs.declared.token.Token.{Token}
use Rattle.cat_tokens.specs.declared.token.Token.TheVariants as tokens
use Rattle.text_values.specs.ModelValue.{Term, Clause, Binding, Function, Checking, Flagging, Showing, Including, Checked}
use Rattle.cat_grammar.specs.Machine as machine
use Rattle.cat_grammar.specs.Grammar.{Limits, has_no_effect}
use Rattle.cat_tokens.specs.Tokens.{rule_of}

-- the bindings of a let so far
pub record Group : Type 0 where
  pub recursive : Bool
  pub bindings : List (List ℕ × Term)

-- the expressions of a show so far
pub record ShownPart : Type 0 where
  pub hidden : Bool
  pub terms : List (Term × Option (List ℕ))

pub data LetPart : Type 0 where
  Keyword : LetPart
  Named : (name : List ℕ) → LetPart
  And : (group : Group) → LetPart
  Bound : (group : Group) (name : List ℕ) → LetPart
  Parameter : (name : List ℕ) (parameters : List (List ℕ)) → LetPart
  AfterParameter : (name : List ℕ) (parameters : List (List ℕ)) → LetPart
  Parameters : (name : List ℕ) (parameters : List (List ℕ)) → LetPart

-- the item whose expression is read
pub data Head : Type 0 where
  BoundHead : (group : Group) (name : List ℕ) → Head
  FunctionHead : (name : List ℕ) (parameters : List (List ℕ)) → Head
  CheckedHead : (check : CheckHead) → Head
  ShownHead : (shown : ShownPart) → Head

pub data Part : Type 0 where
  Title : Part
  Start : Part
  InLet : (part : LetPart) → Part
  AfterFlag : Part
  AfterTilde : (flagged : Bool) → Part
  Body : (head : Head) (frames : List machine.TermFrame) (used : ℕ) (expected : machine.TermExpectation)
      → Part
  Label : (check : CheckHead) (body : Term) → Part
  ShowLabel : (shown : ShownPart) (body : Term) → Part
  AfterShowLabel : (shown : ShownPart) → Part
  AfterInclude : Part
  Done : Part

-- a rule that the token breaks, or that the one before it breaks
pub data Fault : Type 0 where
  Here : (rule : CatRule) → Fault
  Before : (rule : CatRule) → Fault

pub record ItemState : Type 0 where
  pub items : List Clause
  pub part : Part

abbrev pub refuses : {A : Type 0} → Token → Result A Fault
refuses t = Err (Here (rule_of t))

abbrev pub begin_body : Head → Part
begin_body h = Body h [] 0 machine.Wants

abbrev pub begin_check : Bool → Bool → CheckWord → Part
begin_check flagged negated w =
    begin_body (CheckedHead (record { flagged = flagged; negated = negated; word = w }))

abbrev pub begin_show : Bool → Part
begin_show hidden = begin_body (ShownHead (record { hidden = hidden; terms = [] }))

-- the first token of an item
abbrev pub begin_item : Token → Result Part Fault
begin_item tokens.Let = Ok (InLet Keyword)
begin_item tokens.Flag = Ok AfterFlag
begin_item tokens.Tilde = Ok (AfterTilde false)
begin_item (tokens.Check w) = Ok (begin_check false false w)
begin_item tokens.Show = Ok (begin_show false)
begin_item tokens.Unshow = Ok (begin_show true)
begin_item tokens.Include = Ok AfterInclude
begin_item t = refuses t

-- the rule that one more item breaks, if it breaks one
abbrev pub excess : Limits → Form → ℕ → Option CatRule
excess most forms.Model n = if nat_lt n most.items then None else Some rules.TooMany
excess most forms.Item n = if nat_lt n 1 then None else Some rules.Syntax

abbrev pub unless : Option CatRule → Result Part Fault → Result Part Fault
unless None p = p
unless (Some r) (Ok p) = Err (Here r)
unless (Some r) (Err e) = Err e

abbrev pub end_of : Form → ℕ → Result Part Fault
end_of forms.Model n = Ok Done
end_of forms.Item n = if n == 0 then Err (Here rules.Syntax) else Ok Done

-- a token where an item may begin or the text may end
abbrev pub item_or_end : Limits → Form → ℕ → Token → Result Part Fault
item_or_end most form n tokens.End = end_of form n
item_or_end most form n t = unless (excess most form n) (begin_item t)

-- the first token of a text, which may be a title
abbrev pub after_title : Limits → Form → ℕ → Token → Result Part Fault
after_title most form n (tokens.Name t) = Ok Start
after_title most form n (tokens.Quoted t) = Ok Start
after_title most form n t = item_or_end most form n t

abbrev pub after_tilde : Bool → Token → Result Part Fault
after_tilde flagged (tokens.Check w) = Ok (begin_check flagged true w)
after_tilde flagged t = refuses t

abbrev pub after_flag : Token → Result Part Fault
after_flag tokens.Tilde = Ok (AfterTilde true)
after_flag (tokens.Check w) = Ok (begin_check true false w)
after_flag t = refuses t

-- ---- let

abbrev pub fresh : Bool → Group
fresh recursive = record { recursive = recursive; bindings = [] }

abbrev pub extended : Group → List ℕ → Term → Group
extended g n v = record { recursive = g.recursive; bindings = g.bindings ++ (n, v) ∷ [] }

abbrev pub after_keyword : Token → Result Part Fault
after_keyword tokens.Rec = Ok (InLet (And (fresh true)))
after_keyword (tokens.Name n) = Ok (InLet (Named n))
after_keyword t = refuses t

abbrev pub bound_name : Limits → Group → Token → Result Part Fault
bound_name most g (tokens.Name n) =
    if nat_lt (length g.bindings) most.names then Ok (InLet (Bound g n))
    else Err (Here rules.TooMany)
bound_name most g t = refuses t

abbrev pub parameter_read : Limits → List ℕ → List (List ℕ) → Token → Result Part Fault
parameter_read most n ps (tokens.Name p) =
    if nat_lt (length ps) most.parameters then Ok (InLet (AfterParameter n (ps ++ p ∷ [])))
    else Err (Here rules.TooMany)
parameter_read most n ps t = refuses t

abbrev pub after_parameter : List ℕ → List (List ℕ) → Token → Result Part Fault
after_parameter n ps tokens.Comma = Ok (InLet (Parameter n ps))
after_parameter n ps tokens.Close = Ok (InLet (Parameters n ps))
after_parameter n ps t = refuses t

-- a name after let alone: a parenthesis makes it a function's
abbrev pub after_let_name : List ℕ → Token → Result Part Fault
after_let_name n tokens.Equals = Ok (begin_body (BoundHead (fresh false) n))
after_let_name n tokens.Open = Ok (InLet (Parameter n []))
after_let_name n t = refuses t

abbrev pub after_bound : Group → List ℕ → Token → Result Part Fault
after_bound g n tokens.Equals = Ok (begin_body (BoundHead g n))
after_bound g n tokens.Open = Err (Here rules.Unsupported)
after_bound g n t = refuses t

abbrev pub after_parameters : List ℕ → List (List ℕ) → Token → Result Part Fault
after_parameters n ps tokens.Equals = Ok (begin_body (FunctionHead n ps))
after_parameters n ps t = refuses t

abbrev pub after_let : Limits → LetPart → Token → Result Part Fault
after_let most Keyword t = after_keyword t
after_let most (Named n) t = after_let_name n t
after_let most (And g) t = bound_name most g t
after_let most (Bound g n) t = after_bound g n t
after_let most (Parameter n ps) t = parameter_read most n ps t
after_let most (AfterParameter n ps) t = after_parameter n ps t
after_let most (Parameters n ps) t = after_parameters n ps t

-- ---- after an item's expression

abbrev pub checked : CheckHead → Term → Checked
checked h v = record { negated = h.negated; word = h.word; body = v }

abbrev pub shown_also : ShownPart → Term → Option (List ℕ) → ShownPart
shown_also s v label = record { hidden = s.hidden; terms = s.terms ++ (v, label) ∷ [] }

abbrev pub group_clause : Group → Clause
group_clause g = Binding g.recursive g.bindings

abbrev pub shown_clause : ShownPart → Clause
shown_clause s = Showing s.hidden s.terms

-- The item that ends with this expression. A flag does not end without its label.
abbrev pub finished : Head → Term → CatRule → Result Clause Fault
finished (BoundHead g n) v r = Ok (group_clause (extended g n v))
finished (FunctionHead n ps) v r = Ok (Function n ps v)
finished (CheckedHead h) v r = if h.flagged then Err (Here r) else Ok (Checking (checked h v) None)
finished (ShownHead s) v r = Ok (shown_clause (shown_also s v None))

abbrev pub at : List Clause → Result Part Fault → Result ItemState Fault
at is (Ok p) = Ok (record { items = is; part = p })
at is (Err e) = Err e

abbrev pub added : List Clause → Result Clause Fault → (ℕ → Result Part Fault) → Result ItemState Fault
added is (Err e) next = Err e
added is (Ok c) next = at (is ++ c ∷ []) (next (length is + 1))

-- a token that ends an item
abbrev pub clause_ended : Limits → Form → List Clause → Head → Term → Token → Result ItemState Fault
clause_ended most form is h v t = added is (finished h v (rule_of t)) (λ n. item_or_end most form n t)

abbrev pub unless_before : Option CatRule → Part → Result Part Fault
unless_before None p = Ok p
unless_before (Some rules.TooMany) p = Err (Before rules.TooMany)
unless_before (Some r) p = Err (Here r)

-- the tilde of the next item, which this check word shows, ends an item
abbrev pub item_ended_by_tilde : Limits → Form → List Clause → Head → Term → CheckWord
    → Result ItemState Fault
item_ended_by_tilde most form is h v w =
    added is (finished h v rules.Syntax) (λ n.
    unless_before (excess most form n) (begin_check false true w))

abbrev pub and_read : Head → Term → Result Part Fault
and_read (BoundHead g n) v = Ok (InLet (And (extended g n v)))
and_read h v = Err (Here rules.Syntax)

abbrev pub label_start : Head → Term → Result Part Fault
label_start (CheckedHead h) v = Ok (Label h v)
label_start (ShownHead s) v = Ok (ShowLabel s v)
label_start h v = Err (Here rules.Syntax)

abbrev pub shown_on : Head → Term → Result Part Fault
shown_on (ShownHead s) v = Ok (begin_body (ShownHead (shown_also s v None)))
shown_on h v = Err (Here rules.Syntax)

abbrev pub after_body : Limits → Form → List Clause → Head → Term → Token → Result ItemState Fault
after_body most form is h v tokens.And = at is (and_read h v)
after_body most form is h v tokens.As = at is (label_start h v)
after_body most form is h v tokens.Comma = at is (shown_on h v)
after_body most form is h v t = clause_ended most form is h v t

abbrev pub labelled : CheckHead → Term → List ℕ → Clause
labelled h v n = if h.flagged then Flagging (checked h v) n else Checking (checked h v) (Some n)

abbrev pub after_as : List Clause → CheckHead → Term → Token → Result ItemState Fault
after_as is h v (tokens.Name n) = Ok (record { items = is ++ labelled h v n ∷ []; part = Start })
after_as is h v t = refuses t

abbrev pub after_show_as : ShownPart → Term → Token → Result Part Fault
after_show_as s v (tokens.Name n) = Ok (AfterShowLabel (shown_also s v (Some n)))
after_show_as s v t = refuses t

abbrev pub after_show_label : Limits → Form → List Clause → ShownPart → Token → Result ItemState Fault
after_show_label most form is s tokens.Comma = at is (Ok (begin_body (ShownHead s)))
after_show_label most form is s t = added is (Ok (shown_clause s)) (λ n. item_or_end most form n t)

abbrev pub after_include : List Clause → Token → Result ItemState Fault
after_include is (tokens.Quoted path) =
    if has_no_effect path then Ok (record { items = is ++ Including path ∷ []; part = Start })
    else Err (Here rules.Include)
after_include is t = refuses t

-- ---- the whole step

-- what a token did to the expression of an item
abbrev pub goes_on : Limits → Form → List Clause → Head → Token → machine.TermStep
    → Result ItemState Fault
goes_on most form is h t (machine.Goes fs used expected) = at is (Ok (Body h fs used expected))
goes_on most form is h t (machine.Ends v) = after_body most form is h v t
goes_on most form is h (tokens.Check w) (machine.EndsTilde v) =
    item_ended_by_tilde most form is h v w
goes_on most form is h t (machine.EndsTilde v) = refuses t
goes_on most form is h t (machine.Refuses k) = Err (Here k)

abbrev pub step_part : Limits → Form → List Clause → Part → Token → Result ItemState Fault
step_part most form is Title t = at is (after_title most form (length is) t)
step_part most form is Start t = at is (item_or_end most form (length is) t)
step_part most form is (InLet p) t = at is (after_let most p t)
step_part most form is AfterFlag t = at is (after_flag t)
step_part most form is (AfterTilde flagged) t = at is (after_tilde flagged t)
step_part most form is (Body h fs used expected) t =
    goes_on most form is h t (machine.expression_step most fs used expected t)
step_part most form is (Label h v) t = after_as is h v t
step_part most form is (ShowLabel s v) t = at is (after_show_as s v t)
step_part most form is (AfterShowLabel s) t = after_show_label most form is s t
step_part most form is AfterInclude t = after_include is t
step_part most form is Done t = refuses t

abbrev pub clause_step : Limits → Form → ItemState → Token → Result ItemState Fault
clause_step most form s t = step_part most form s.items s.part t

abbrev pub start_part : Form → Part
start_part forms.Model = Title
start_part forms.Item = Start

abbrev pub clause_start : Form → ItemState
clause_start form = record { items = []; part = start_part form }
