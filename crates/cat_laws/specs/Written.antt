-- The items and models that a text can have, and the limits that a printed one has to keep.
use Rattle.std.specs.Prelude.{◌≡◌, ℕ, ◌+◌, ◌<◌, ◌≤◌, max, List, [], ◌∷◌, map, true, Option, Some, None, length, slice_index}
use Rattle.cat_tokens.specs.declared.token.Token.TheVariants as tokens
use Rattle.text_values.specs.ModelValue.{Term, Terms, Atom, AllEvents, EmptyRelation, EmptySet, Join, Mark, Not, On, Apply, NoTerm, OneMore, Clause, Binding, Function, Checking, Flagging, Showing, Including}
use Rattle.cat_tokens.specs.Lexer.{is_name_byte, model_lexing}
use Rattle.text_values.specs.Letters.{is_letter}
use Rattle.cat_tokens.specs.Words.{word_token}
use Rattle.cat_grammar.specs.declared.form.Form.TheVariants as forms
use Rattle.cat_grammar.specs.Grammar.{Limits, model_limits, Means, has_no_effect}
use Rattle.cat_tokens.specs.Tokens.{model_tokens_of}
use Rattle.cat_printing.specs.Printing.{is_binary, is_compound, printed_item, printed_model}
use Rattle.cat_grammar.specs.Reads.{ReadsClauses}
use Rattle.text_values.specs.Layout.{most_bytes}
use Rattle.text_laws.specs.Counts.{one_where}

-- a letter and then letters, digits, `_`, `.` and `-`, and no word of the language
pub record IsName (n : List ℕ) : Type 0 where
  pub first : is_letter (slice_index n 0) ≡ true
  pub each : (k : ℕ) → k < length n → is_name_byte (slice_index n k) ≡ true
  pub no_word : word_token n ≡ tokens.Name n

abbrev mutual
  -- its names are names, and each function has an argument
  pub IsTerm : Term → Type 0
  IsTerm (Atom n) = IsName n
  IsTerm AllEvents = Unit {0}
  IsTerm EmptyRelation = Unit {0}
  IsTerm EmptySet = Unit {0}
  IsTerm (Join op a b) = IsTerm a × IsTerm b
  IsTerm (Mark op a) = IsTerm a
  IsTerm (Not a) = IsTerm a
  IsTerm (On a) = IsTerm a
  IsTerm (Apply n arguments) = IsName n × AreTerms arguments

  pub AreTerms : Terms → Type 0
  AreTerms NoTerm = ⊥
  AreTerms (OneMore a others) = IsTerm a × AreOthers others

  pub AreOthers : Terms → Type 0
  AreOthers NoTerm = Unit {0}
  AreOthers (OneMore a others) = IsTerm a × AreOthers others

abbrev pub AreNames : List (List ℕ) → Type 0
AreNames [] = Unit {0}
AreNames (n ∷ ns) = IsName n × AreNames ns

abbrev pub IsOptionalLabel : Option (List ℕ) → Type 0
IsOptionalLabel None = Unit {0}
IsOptionalLabel (Some n) = IsName n

abbrev pub AreBindings : List (List ℕ × Term) → Type 0
AreBindings [] = Unit {0}
AreBindings (b ∷ bs) = IsName b.0 × IsTerm b.1 × AreBindings bs

abbrev pub AreShownTerms : List (Term × Option (List ℕ)) → Type 0
AreShownTerms [] = Unit {0}
AreShownTerms (s ∷ ss) = IsTerm s.0 × IsOptionalLabel s.1 × AreShownTerms ss

-- an item with one binding, parameter or shown expression or more, and no file but those without
-- effect
abbrev pub IsWritable : Clause → Type 0
IsWritable (Binding recursive group) = (0 < length group) × AreBindings group
IsWritable (Function n parameters body) =
    IsName n × (0 < length parameters) × AreNames parameters × IsTerm body
IsWritable (Checking check label) = IsTerm check.body × IsOptionalLabel label
IsWritable (Flagging check label) = IsTerm check.body × IsName label
IsWritable (Showing hidden shown) = (0 < length shown) × AreShownTerms shown
IsWritable (Including path) = has_no_effect path ≡ true

abbrev pub AreWritable : List Clause → Type 0
AreWritable [] = Unit {0}
AreWritable (c ∷ cs) = IsWritable c × AreWritable cs

-- the bytes are a text of this item, or of a model with these items, where limits are wide enough
abbrev pub IsTextOfItem : List ℕ → Clause → Type 0
IsTextOfItem bytes c = (most : Limits) × Means most forms.Item (model_tokens_of (model_lexing bytes)) (c ∷ [])

abbrev pub IsTextOfModel : List ℕ → List Clause → Type 0
IsTextOfModel bytes cs = (most : Limits) × Means most forms.Model (model_tokens_of (model_lexing bytes)) cs

-- ---- the limits of the format

abbrev mutual
  -- how many brackets and prefixes are open at once in what is printed
  pub nesting : Term → ℕ
  nesting (Atom n) = 0
  nesting AllEvents = 0
  nesting EmptyRelation = 0
  nesting EmptySet = 0
  nesting (Join op a b) =
      max (nesting a + one_where (is_binary a)) (nesting b + one_where (is_binary b))
  nesting (Mark op a) = nesting a + one_where (is_compound a)
  nesting (Not a) = nesting a + one_where (is_binary a) + 1
  nesting (On a) = nesting a + 1
  nesting (Apply n arguments) = nestings arguments + 1

  pub nestings : Terms → ℕ
  nestings NoTerm = 0
  nestings (OneMore a others) = max (nesting a) (nestings others)

abbrev mutual
  -- how many infix and postfix operators
  pub joins : Term → ℕ
  joins (Atom n) = 0
  joins AllEvents = 0
  joins EmptyRelation = 0
  joins EmptySet = 0
  joins (Join op a b) = joins a + joins b + 1
  joins (Mark op a) = joins a + 1
  joins (Not a) = joins a
  joins (On a) = joins a
  joins (Apply n arguments) = joins_of arguments

  pub joins_of : Terms → ℕ
  joins_of NoTerm = 0
  joins_of (OneMore a others) = joins a + joins_of others

-- of the expressions of a list, the deepest one's nesting, and the greatest number of operators
abbrev pub deepest : List Term → ℕ
deepest [] = 0
deepest (v ∷ vs) = max (nesting v) (deepest vs)

abbrev pub most_joins : List Term → ℕ
most_joins [] = 0
most_joins (v ∷ vs) = max (joins v) (most_joins vs)

-- the expressions of an item
abbrev pub bodies : Clause → List Term
bodies (Binding recursive group) = map (λ b. b.1) group
bodies (Function n parameters body) = body ∷ []
bodies (Checking check label) = check.body ∷ []
bodies (Flagging check label) = check.body ∷ []
bodies (Showing hidden shown) = map (λ s. s.0) shown
bodies (Including path) = []

-- how many names it binds in one group, and how many parameters it has
abbrev pub name_count : Clause → ℕ
name_count (Binding recursive group) = length group
name_count c = 0

abbrev pub parameter_count : Clause → ℕ
parameter_count (Function n parameters body) = length parameters
parameter_count c = 0

-- the item keeps these limits when it is printed
pub record KeepsLimits (most : Limits) (c : Clause) : Type 0 where
  pub shallow : deepest (bodies c) ≤ most.nesting
  pub few : most_joins (bodies c) ≤ most.operators
  pub names : name_count c ≤ most.names
  pub parameters : parameter_count c ≤ most.parameters

abbrev pub KeepLimits : Limits → List Clause → Type 0
KeepLimits most [] = Unit {0}
KeepLimits most (c ∷ cs) = KeepsLimits most c × KeepLimits most cs

-- the printed item is no longer than a text may be, and keeps the limits
pub record IsItemWithinLimits (c : Clause) : Type 0 where
  pub short : length (printed_item c) ≤ most_bytes
  pub fits : KeepsLimits model_limits c

-- so the printed model, with no more items than a model may have
pub record IsModelWithinLimits (cs : List Clause) : Type 0 where
  pub short : length (printed_model cs) ≤ most_bytes
  pub few : length cs ≤ model_limits.items
  pub fits : KeepLimits model_limits cs

-- ---- what was read before

-- What printing can break of the limits that an item kept which was read: its text may be longer,
-- and have more parentheses.
abbrev pub AreShallow : List Clause → Type 0
AreShallow [] = Unit {0}
AreShallow (c ∷ cs) = (deepest (bodies c) ≤ model_limits.nesting) × AreShallow cs

pub record ItemStaysWithin (c : Clause) : Type 0 where
  pub short : length (printed_item c) ≤ most_bytes
  pub shallow : AreShallow (c ∷ [])

pub record ModelStaysWithin (cs : List Clause) : Type 0 where
  pub short : length (printed_model cs) ≤ most_bytes
  pub shallow : AreShallow cs

-- the reader reads this item from these bytes, or these items of a model
abbrev pub ReadsItem : List ℕ → Clause → Type 0
ReadsItem bytes c = ReadsClauses forms.Item bytes (c ∷ [])

abbrev pub ReadsModel : List ℕ → List Clause → Type 0
ReadsModel bytes cs = ReadsClauses forms.Model bytes cs
