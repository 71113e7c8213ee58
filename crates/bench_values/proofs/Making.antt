-- From what the evaluator gives to what a node gives.
use Rattle.std.proofs.Common.{ℕ, ◌+◌, ◌<◌, ◌≤◌, min, length, get_or, append_assoc, ◌≡◌, ◌⊎◌, ◌↔◌, Bool, List, [], ◌∷◌, ◌++◌, Option, Some, None, Result, Ok, Err, IfOk, Vec, Global, Bor, map, inl, inr, refl, sym, ap, subst, ◌∙◌}
use Rattle.std.specs.Option.{unwrap_or}
use Rattle.std.specs.List.{Contains, flat_map}
use Rattle.std.specs.declared.alloc.AllocError.{AllocError}
use Rattle.std.proofs.lemmas.List.{append-nil, map-append}
use Rattle.std.proofs.lemmas.List.Elements.{Contains-append_left, Contains-append_right, Contains-append_cases}
use Rattle.text_values.specs.declared.test.InitEntry.{InitEntry}
use Rattle.text_values.specs.declared.test.Place.{Place}
use Rattle.text_values.specs.declared.test.Place.TheVariants.{Location}
use Rattle.text_values.specs.TestValue.{formula_of}
use Rattle.ppc_lowering.specs.Lowering.{place_names, entry_names}
use Rattle.candidate_spaces.specs.Space.{shown_in}
use Rattle.candidate_spaces.specs.declared.candidate.Space.{Space}
use Rattle.binding_graph.specs.declared.resolved.Role.{Role}
use Rattle.cat_machine.specs.declared.column.Column.{Column}
use Rattle.cat_machine.specs.Columns.{ColumnsOf}
use Rattle.cat_machine.specs.Values.{AnswersOf}
use Rattle.outcome_states.specs.declared.answer.Outcome.{Outcome}
use Rattle.outcome_states.specs.declared.raised.Raised.{Raised}
use Rattle.verdict.specs.Evaluated.{IsOutcomeOn}
use Rattle.outcome_states.specs.Kept.{Flag, of_raised}
use Rattle.bench_items.specs.Items.{RoleContent, role_content}
use Rattle.bench_items.specs.Naming.{SeenName, item_outputs}
use Rattle.bench_values.specs.Givens.{ForItem}
use Rattle.binding_shapes.specs.Shapes.{role_shape, role_with}
use Rattle.binding_shapes.proofs.Shaped.{role_by_shape}
use Rattle.bench_values.specs.Makes.{column_kind, role_over, ItemMakes, Makes, HasGroupColumns, HasCheckAnswers, checks_among, flags_among, IsVerdictOutcome}
use Rattle.bench_values.specs.Spaces.{SpaceContent, space_content, no_executions}
use Rattle.bench_values.specs.Values.{NodeContent, first_space, space_of, columns_of, answers_of}
use Rattle.bench_values.specs.Views.{verdict_parts}
use Rattle.bench_values.specs.declared.given.VerdictParts.{VerdictParts}
use Rattle.bench_values.proofs.Counting.{item_many}
use Rattle.bench_values.proofs.Finding.{rest_here, rest_there, checks_from, flags_from, among_end, checks_here, flags_here}

-- ---- the space among the values

pub space_there : (values : List NodeContent) (s : SpaceContent) → Some s ≡ first_space values
    → s ≡ space_of values
space_there values s is = ap (λ (o : Option SpaceContent). unwrap_or o no_executions) is

pub space_missing : (values : List NodeContent) (s : SpaceContent) → None ≡ first_space values
    → s ≡ no_executions → s ≡ space_of values
space_missing values s is none =
    none ∙ ap (λ (o : Option SpaceContent). unwrap_or o no_executions) is

-- ---- columns, answers and outcomes over it

-- the role that was made is that of the shape over these columns
pub role_made : (r made : RoleContent) (columns : List Column)
    → made ≡ role_with (map column_kind columns) r → made ≡ role_over (role_shape r) columns
role_made r made columns is = is ∙ sym (role_by_shape (map column_kind columns) r)

-- the role that was made for the inputs is that of their columns
read_over : (r : Role) (shape : RoleContent) (values : List NodeContent)
    (inputs found more : List (Bor Column)) → more ≡ found
    → map (λ c. c.now) found ≡ columns_of values
    → role_content r ≡ role_over shape (map (λ c. c.now) more)
    → role_content r ≡ role_over shape (columns_of values)
read_over r shape values inputs found more same are read =
    read ∙ ap (role_over shape) (ap (λ (l : List (Bor Column)). map (λ c. c.now) l) same ∙ are)

pub columns_over : (r : Role) (shape : RoleContent) (values : List NodeContent) (s : Space)
    (inputs found more : List (Bor Column)) (x : Result (Vec Column Global) AllocError)
    → space_content s ≡ space_of values → inputs ≡ found → more ≡ found
    → map (λ c. c.now) found ≡ columns_of values
    → role_content r ≡ role_over shape (map (λ c. c.now) more)
    → IfOk x (λ v. ColumnsOf r inputs s v.items)
    → IfOk x (λ v. HasGroupColumns shape (space_of values) (columns_of values) v.items)
columns_over r shape values s inputs found more (Ok v) over same also are read made = record {
  read = r;
  reading = read_over r shape values inputs found more also are read;
  over = s;
  shown = over;
  inputs = inputs;
  are = ap (λ (l : List (Bor Column)). map (λ c. c.now) l) same ∙ are;
  values = made;
}
columns_over r shape values s inputs found more (Err e) over same also are read made = tt

pub answers_over : (r : Role) (shape : RoleContent) (values : List NodeContent) (s : Space)
    (inputs found more : List (Bor Column)) (x : Result (Vec Bool Global) AllocError)
    → space_content s ≡ space_of values → inputs ≡ found → more ≡ found
    → map (λ c. c.now) found ≡ columns_of values
    → role_content r ≡ role_over shape (map (λ c. c.now) more)
    → IfOk x (λ v. AnswersOf r inputs s v.items)
    → IfOk x (λ v. HasCheckAnswers shape (space_of values) (columns_of values) v.items)
answers_over r shape values s inputs found more (Ok v) over same also are read made = record {
  read = r;
  reading = read_over r shape values inputs found more also are read;
  over = s;
  shown = over;
  inputs = inputs;
  are = ap (λ (l : List (Bor Column)). map (λ c. c.now) l) same ∙ are;
  values = made;
}
answers_over r shape values s inputs found more (Err e) over same also are read made = tt

pub outcome_over : (parts : VerdictParts) (values : List NodeContent) (s : Space)
    (observed : List Place) (checks : List (List Bool)) (flags : List Flag)
    (x : Result Outcome AllocError) → space_content s ≡ space_of values
    → observed ≡ parts.observed.items → checks ≡ checks_among parts.flags.items (answers_of values)
    → flags ≡ flags_among parts.flags.items (answers_of values)
    → IfOk x (λ o. IsOutcomeOn s.locations.items (shown_in s) parts.condition.quantifier
    (formula_of parts.condition.proposition) observed checks flags o)
    → IfOk x (λ o. IsVerdictOutcome (verdict_parts parts) (space_of values) (answers_of values) o)
outcome_over parts values s observed checks flags (Ok o) over shows are raised made =
    subst (λ (t : SpaceContent). IsVerdictOutcome (verdict_parts parts) t (answers_of values) o) over
    (rw (← shows, ← are, ← raised) made)
outcome_over parts values s observed checks flags (Err e) over shows are raised made = tt

-- ---- what an item gives, as many values as it has numbers

pub item_over : (r : Role) (role : RoleContent) (history : List SeenName)
    (values : List NodeContent) (x : Result (Vec NodeContent Global) AllocError)
    → role_content r ≡ role → IfOk x (λ v. ItemMakes (role_shape (role_content r)) values v.items)
    → IfOk x (λ v. Makes (ForItem (role_shape role) (item_outputs role history)) values v.items)
item_over r role history values (Ok v) is made =
    let here : ItemMakes (role_shape role) values v.items = subst (λ (q : RoleContent). ItemMakes (role_shape q) values v.items) is made in
    (here, item_many role history (space_of values) (columns_of values) v.items here)
item_over r role history values (Err e) is made = tt

-- ---- the locations of a test of some parts

abbrev places : List (List ℕ) → List Place
places ls = map Location ls

names_of_places : (ls : List (List ℕ)) → flat_map place_names (places ls) ≡ ls
names_of_places [] = refl
names_of_places (l ∷ ls) = ap (λ (ns : List (List ℕ)). l ∷ ns) (names_of_places ls)

pub part_names : (init entries : List InitEntry) (ls : List (List ℕ)) (observed : List Place)
    → entries ≡ init → observed ≡ places ls → (n : List ℕ)
    → Contains ((flat_map entry_names entries ++ []) ++ flat_map place_names observed) n
    ↔ (Contains (flat_map entry_names init) n ⊎ Contains ls n)
part_names init entries ls observed same are n =
    let names : List (List ℕ) = flat_map entry_names init in
    let whole : (flat_map entry_names entries ++ []) ++ flat_map place_names observed ≡ names ++ ls =
    ap (λ (l : List (List ℕ)). l ++ flat_map place_names observed) (append-nil
    (flat_map entry_names entries)
    ∙ ap (λ (es : List InitEntry). flat_map entry_names es) same)
    ∙ ap (λ (l : List (List ℕ)). names ++ l)
    (ap (λ (ps : List Place). flat_map place_names ps) are ∙ names_of_places ls) in (
      (λ c. Contains-append_cases names ls n (subst (λ (l : List (List ℕ)). Contains l n) whole c)),
      (λ c. subst (λ (l : List (List ℕ)). Contains l n) (sym whole) (elim c [
        | inl a ↦ Contains-append_left
            names ls n a
        | inr b ↦ Contains-append_right names ls n b
      ])),
    )

-- ---- checks, and flags with their names

module _ (names : List (Option (List ℕ))) (answers : List (Bor (List Bool))) where
  abbrev pub AreChecksTo : ℕ → List (Bor (List Bool)) → Type 0
  AreChecksTo i checks =
      map (λ a. a.now) checks ++ checks_from names answers i
      ≡ checks_among names (map (λ a. a.now) answers)

  abbrev pub AreFlagsTo : ℕ → List Raised → Type 0
  AreFlagsTo i raised =
      of_raised raised ++ flags_from names answers i ≡ flags_among names (map (λ a. a.now) answers)

  pub all_checks : (i : ℕ) (checks : List (Bor (List Bool)))
      → min (length names) (length answers) ≤ i → AreChecksTo i checks
      → map (λ a. a.now) checks ≡ checks_among names (map (λ a. a.now) answers)
  all_checks i checks past so_far =
      sym (append-nil (map (λ a. a.now) checks))
      ∙ ap (λ (l : List (List Bool)). map (λ a. a.now) checks ++ l)
      (sym (among_end names answers i past).0) ∙ so_far

  pub all_flags : (i : ℕ) (raised : List Raised) → min (length names) (length answers) ≤ i
      → AreFlagsTo i raised → of_raised raised ≡ flags_among names (map (λ a. a.now) answers)
  all_flags i raised past so_far =
      sym (append-nil (of_raised raised))
      ∙ ap (λ (l : List Flag). of_raised raised ++ l) (sym (among_end names answers i past).1)
      ∙ so_far

  module _ (i : ℕ) (lt : i < length names) (lt' : i < length answers) where
    -- one check more
    pub check_more : (a : Bor (List Bool)) (old new : List (Bor (List Bool)))
        → None ≡ get_or names i None → a ≡ get_or answers i a → AreChecksTo i old
        → new ≡ old ++ a ∷ [] → AreChecksTo (i + 1) new
    check_more a old new is is' so_far pushed =
        let rest : List (List Bool) = checks_from names answers (i + 1) in
        ap (λ (l : List (Bor (List Bool))). map (λ b. b.now) l ++ rest) pushed
        ∙ ap (λ (l : List (List Bool)). l ++ rest)
        (map-append (λ (b : Bor (List Bool)). b.now) old (a ∷ []))
        ∙ append_assoc (map (λ b. b.now) old) (a.now ∷ []) rest
        ∙ ap (λ (l : List (List Bool)). map (λ b. b.now) old ++ l) (sym
        (checks_here names answers i None a lt is (rest_here answers i a lt' is')))
        ∙ so_far

    -- a flag is no check
    pub check_none : (old new : List (Bor (List Bool))) (name : List ℕ)
        → Some name ≡ get_or names i (Some name) → AreChecksTo i old → new ≡ old
        → AreChecksTo (i + 1) new
    check_none old new name is so_far same =
        let next = rest_there answers i lt' in
        ap (λ (l : List (Bor (List Bool))). map (λ b. b.now) l ++ checks_from names answers (i + 1))
        same
        ∙ ap (λ (l : List (List Bool)). map (λ b. b.now) old ++ l) (sym
        (checks_here names answers i (Some name) next.0 lt is next.1))
        ∙ so_far

    -- one flag more
    pub flag_more : (old new : List Raised) (r : Raised)
        → Some r.name.now ≡ get_or names i (Some r.name.now) → r.holds ≡ get_or answers i r.holds
        → AreFlagsTo i old → new ≡ old ++ r ∷ [] → AreFlagsTo (i + 1) new
    flag_more old new r is is' so_far pushed =
        let rest : List Flag = flags_from names answers (i + 1) in
        ap (λ (l : List Raised). of_raised l ++ rest) pushed
        ∙ ap (λ (l : List Flag). l ++ rest) (map-append (λ (f : Raised). (f.name.now, f.holds.now))
        old (r ∷ []))
        ∙ append_assoc (of_raised old) ((r.name.now, r.holds.now) ∷ []) rest
        ∙ ap (λ (l : List Flag). of_raised old ++ l) (sym (flags_here names answers i
        (Some r.name.now) r.holds lt is (rest_here answers i r.holds lt' is')))
        ∙ so_far

    -- a check is no flag
    pub flag_none : (old new : List Raised) → None ≡ get_or names i None → AreFlagsTo i old
        → new ≡ old → AreFlagsTo (i + 1) new
    flag_none old new is so_far same =
        let next = rest_there answers i lt' in
        ap (λ (l : List Raised). of_raised l ++ flags_from names answers (i + 1)) same
        ∙ ap (λ (l : List Flag). of_raised old ++ l)
        (sym (flags_here names answers i None next.0 lt is next.1))
        ∙ so_far

-- what is found of the parts is found of these
pub checks_named : (names seen : List (Option (List ℕ)))
    (given found bs answers : List (Bor (List Bool))) (held : List (List Bool)) → given ≡ found
    → map (λ a. a.now) found ≡ checks_among seen (map (λ a. a.now) bs) → seen ≡ names → bs ≡ answers
    → map (λ a. a.now) answers ≡ held → map (λ a. a.now) given ≡ checks_among names held
checks_named names seen given found bs answers held same are as_named as_found holds =
    ap (λ (l : List (Bor (List Bool))). map (λ a. a.now) l) same ∙ are
    ∙ ap (λ (l : List (Option (List ℕ))). checks_among l (map (λ a. a.now) bs)) as_named
    ∙ ap (λ (l : List (Bor (List Bool))). checks_among names (map (λ a. a.now) l)) as_found
    ∙ ap (checks_among names) holds

pub flags_named : (names seen : List (Option (List ℕ))) (given raised : List Raised)
    (bs answers : List (Bor (List Bool))) (held : List (List Bool)) → given ≡ raised
    → of_raised raised ≡ flags_among seen (map (λ a. a.now) bs) → seen ≡ names → bs ≡ answers
    → map (λ a. a.now) answers ≡ held → of_raised given ≡ flags_among names held
flags_named names seen given raised bs answers held same are as_named as_found holds =
    ap of_raised same ∙ are
    ∙ ap (λ (l : List (Option (List ℕ))). flags_among l (map (λ a. a.now) bs)) as_named
    ∙ ap (λ (l : List (Bor (List Bool))). flags_among names (map (λ a. a.now) l)) as_found
    ∙ ap (flags_among names) holds
