-- Which relations a model shows, in order, and what each stands for: `shown_names` and `text_of`
-- cite the last definitions.
use Rattle.std.specs.Prelude.{ℕ, ◌≡◌, ◌+◌, List, [], ◌∷◌, ◌++◌, Bool, true, false, not, Option, Some, None, option_and_then}
use Rattle.std.specs.Prelude.{filter, nat_eq, slice_get, take}
use Rattle.std.specs.Cmp.Lexicographic.{pointwise}
use Rattle.std.specs.Option.{option_map}
use Rattle.text_values.specs.declared.model.CheckWord.TheVariants as words
use Rattle.text_values.specs.declared.model.Item.{Item}
use Rattle.text_values.specs.ModelValue.{Term, Atom, Clause, Binding, Function, Checking, Showing}
use Rattle.text_values.specs.ModelValues.{clauses_of}
use Rattle.draw_relations.specs.declared.names.ShownName.{ShownName}

-- the name of a shown expression: the one after `as`, or else the name that the expression is
abbrev pub name_or : Option (List ℕ) → Term → Option (List ℕ)
name_or (Some label) body = Some label
name_or None (Atom name) = Some name
name_or None body = None

abbrev pub name_of : Term × Option (List ℕ) → Option (List ℕ)
name_of e = name_or e.1 e.0

abbrev pub is_other : List ℕ → ShownName → Bool
is_other name x = not (pointwise nat_eq x.name name)

abbrev pub shown_if : Bool → ℕ → ℕ → List ℕ → List ShownName
shown_if true item position name = []
shown_if false item position name = record { name = name; item = item; position = position } ∷ []

-- a name that is shown comes last, and stands for its last meaning; one that is hidden is no longer
-- shown
abbrev pub after_name : Bool → ℕ → ℕ → List ℕ → List ShownName → List ShownName
after_name hidden item position name xs =
    filter (is_other name) xs ++ shown_if hidden item position name

-- an expression without a name changes nothing
abbrev pub after_named : Bool → ℕ → ℕ → Option (List ℕ) → List ShownName → List ShownName
after_named hidden item position None xs = xs
after_named hidden item position (Some name) xs = after_name hidden item position name xs

-- after the expressions of an item from a position on
abbrev pub after_show : Bool → ℕ → ℕ → List (Term × Option (List ℕ)) → List ShownName
    → List ShownName
after_show hidden item position [] xs = xs
after_show hidden item position (e ∷ es) xs =
    after_show hidden item (position + 1) es (after_named hidden item position (name_of e) xs)

abbrev pub after_clause : ℕ → Clause → List ShownName → List ShownName
after_clause item (Showing hidden es) xs = after_show hidden item 0 es xs
after_clause item clause xs = xs

abbrev pub after_clauses : ℕ → List Clause → List ShownName → List ShownName
after_clauses item [] xs = xs
after_clauses item (c ∷ cs) xs = after_clauses (item + 1) cs (after_clause item c xs)

-- what a model of these items shows
abbrev pub names_shown : List Clause → List ShownName
names_shown clauses = after_clauses 0 clauses []

-- ---- what a shown relation stands for

abbrev pub expressions_of : Clause → List (Term × Option (List ℕ))
expressions_of (Showing hidden es) = es
expressions_of clause = []

abbrev pub body_at : ℕ → Clause → Option Term
body_at position clause = option_map (λ e. e.0) (slice_get (expressions_of clause) position)

abbrev pub body_of : List Clause → ShownName → Option Term
body_of clauses x = option_and_then (body_at x.position) (slice_get clauses x.item)

abbrev pub is_binding : Clause → Bool
is_binding (Binding recursive group) = true
is_binding (Function name parameters body) = true
is_binding clause = false

abbrev pub check_on : Term → Clause
check_on body = Checking (record { negated = false; word = words.Acyclic; body = body }) None

-- the expression as the body of a check behind the definitions that stand before it
abbrev pub clauses_for : List Clause → ShownName → Term → List Clause
clauses_for clauses x body = filter is_binding (take x.item clauses) ++ check_on body ∷ []

-- so much of a model is what a name stands for
abbrev pub IsTextFor : List Clause → ShownName → List Item → Type 0
IsTextFor clauses x items =
    (body : Term) × (body_of clauses x ≡ Some body)
    × (clauses_of items ≡ clauses_for clauses x body)
