-- The outputs of the checks and flags in a solved table are the answers of the model.
use Rattle.std.proofs.Common.{ℕ, zero, suc, ◌≡◌, List, [], ◌∷◌, ◌++◌, length, map, Bool, true, false, if◌then◌else◌, Option, Some, None, length-append, refl, sym, ap, ◌∙◌, subst, arith}
use denote.Ref.{Bor}
use Rattle.std.specs.Prelude.{slice_get}
use Rattle.std.proofs.lemmas.List.{append-nil}
use Rattle.std.proofs.lemmas.Option.{none-some}
use Rattle.std.proofs.lemmas.List.Elements.{filter_map-append}
use Rattle.binding_graph.specs.declared.resolved.ResolvedItem.{ResolvedItem}
use Rattle.binding_graph.specs.declared.resolved.Role.{Role}
use Rattle.binding_graph.specs.declared.resolved.Role.TheVariants as roles
use Rattle.binding_graph.specs.Reach.{is_check}
use Rattle.candidate_spaces.specs.declared.candidate.Space.{Space}
use Rattle.candidate_spaces.specs.Space.{Candidate, candidates_in}
use Rattle.cat_machine.specs.declared.column.Column.{Column}
use Rattle.cat_machine.specs.Values.{AnswersOf}
use Rattle.order_growth.proofs.Keeping.{answers_kept}
use Rattle.outcome_states.specs.Kept.{Flag}
use Rattle.binding_shapes.specs.Shapes.{role_shape}
use Rattle.shape_laws.specs.Laws.{IsReadByKind}
use Rattle.bench_items.specs.Items.{role_content}
use Rattle.bench_values.specs.Makes as nodes
use Rattle.bench_values.specs.Spaces.{SpaceContent, space_content}
use Rattle.bench_values.specs.Values.{NodeContent, OfSpace, OfCheck, check_in, answers_of}
use Rattle.from_scratch.specs.Answers.{HasAnswers, AreItemColumns, IsSaidAs, IsSaidBy, AreSaid, AreOrdered}
use Rattle.bench_edits.specs.Solved.{Table, is_node, flag_name}
use Rattle.bench_edits.proofs.KeptNodes.{answers_over}
use Rattle.bench_edits.proofs.Latest.{Each, late_answers, late_names}
use Rattle.bench_edits.proofs.Valued.{Fits, AreColumnsOf, count, held_column, held_are, counted_so, over_inputs, made_over, inputs_of}

abbrev Names : Type 0
Names = List (Option (List ℕ))

-- one check more
checks_more : (names : Names) (values : List (List Bool)) (answers : List Bool)
    → length names ≡ length values
    → nodes.checks_among (names ++ None ∷ []) (values ++ answers ∷ [])
    ≡ nodes.checks_among names values ++ answers ∷ []
checks_more [] [] answers long = refl
checks_more [] (v ∷ vs) answers long = absurd (omega (arith, long))
checks_more (n ∷ ns) [] answers long = absurd (omega (arith, long))
checks_more (None ∷ ns) (v ∷ vs) answers long =
    ap (λ (l : List (List Bool)). v ∷ l) (checks_more ns vs answers (omega (arith, long)))
checks_more (Some n ∷ ns) (v ∷ vs) answers long = checks_more ns vs answers (omega (arith, long))

checks_stay : (names : Names) (values : List (List Bool)) (name : List ℕ) (answers : List Bool)
    → length names ≡ length values
    → nodes.checks_among (names ++ Some name ∷ []) (values ++ answers ∷ [])
    ≡ nodes.checks_among names values
checks_stay [] [] name answers long = refl
checks_stay [] (v ∷ vs) name answers long = absurd (omega (arith, long))
checks_stay (n ∷ ns) [] name answers long = absurd (omega (arith, long))
checks_stay (None ∷ ns) (v ∷ vs) name answers long =
    ap (λ (l : List (List Bool)). v ∷ l) (checks_stay ns vs name answers (omega (arith, long)))
checks_stay (Some n ∷ ns) (v ∷ vs) name answers long =
    checks_stay ns vs name answers (omega (arith, long))

-- one flag more
flags_more : (names : Names) (values : List (List Bool)) (name : List ℕ) (answers : List Bool)
    → length names ≡ length values
    → nodes.flags_among (names ++ Some name ∷ []) (values ++ answers ∷ [])
    ≡ nodes.flags_among names values ++ (name, answers) ∷ []
flags_more [] [] name answers long = refl
flags_more [] (v ∷ vs) name answers long = absurd (omega (arith, long))
flags_more (n ∷ ns) [] name answers long = absurd (omega (arith, long))
flags_more (None ∷ ns) (v ∷ vs) name answers long =
    flags_more ns vs name answers (omega (arith, long))
flags_more (Some n ∷ ns) (v ∷ vs) name answers long =
    ap (λ (l : List Flag). (n, v) ∷ l) (flags_more ns vs name answers (omega (arith, long)))

flags_stay : (names : Names) (values : List (List Bool)) (answers : List Bool)
    → length names ≡ length values
    → nodes.flags_among (names ++ None ∷ []) (values ++ answers ∷ [])
    ≡ nodes.flags_among names values
flags_stay [] [] answers long = refl
flags_stay [] (v ∷ vs) answers long = absurd (omega (arith, long))
flags_stay (n ∷ ns) [] answers long = absurd (omega (arith, long))
flags_stay (None ∷ ns) (v ∷ vs) answers long = flags_stay ns vs answers (omega (arith, long))
flags_stay (Some n ∷ ns) (v ∷ vs) answers long =
    ap (λ (l : List Flag). (n, v) ∷ l) (flags_stay ns vs answers (omega (arith, long)))

-- what these answers say, of checks and of flags of these names
pub record Say (P : List (List Bool) → List Flag → Type 0) (names : Names)
    (values : List NodeContent) : Type 0 where
  pub said : P (nodes.checks_among names (answers_of values))
      (nodes.flags_among names (answers_of values))
  pub as_many : length names ≡ length (answers_of values)

-- the same said, as the lists are
pub say_at : (P : List (List Bool) → List Flag → Type 0) (names more : Names)
    (values longer : List NodeContent) → more ≡ names → longer ≡ values → Say P names values
    → Say P more longer
say_at P names more values longer e f h =
    subst (λ (ns : Names). Say P ns longer) (sym e) (subst
    (λ (vs : List NodeContent). Say P names vs) (sym f) h)

answers_more : (values : List NodeContent) (answers : List Bool)
    → answers_of (values ++ OfCheck answers ∷ []) ≡ answers_of values ++ answers ∷ []
answers_more values answers = filter_map-append check_in values (OfCheck answers ∷ [])

longer : (names : Names) (values : List NodeContent) (flag : Option (List ℕ)) (answers : List Bool)
    → length names ≡ length (answers_of values)
    → length (names ++ flag ∷ []) ≡ length (answers_of (values ++ OfCheck answers ∷ []))
longer names values flag answers long =
    let both : length (names ++ flag ∷ []) ≡ length (answers_of values ++ answers ∷ []) = omega (arith, length-append names (flag ∷ []), length-append (answers_of values) (answers ∷ []), long) in
    both ∙ ap (λ (l : List (List Bool)). length l) (sym (answers_more values answers))

-- one answer more, of a check or a flag
answer_said : (P : List (List Bool) → List Flag → Type 0) (A : List Bool → Type 0) (names : Names)
    (values : List NodeContent) (flag : Option (List ℕ)) (answers : List Bool) → A answers
    → Say P names values
    → Say (IsSaidAs flag A P) (names ++ flag ∷ []) (values ++ OfCheck answers ∷ [])
answer_said P A names values None answers holds h =
    let vs = answers_of values in
    let checks : nodes.checks_among (names ++ None ∷ []) (answers_of (values ++ OfCheck answers ∷ [])) ≡ nodes.checks_among names vs ++ answers ∷ [] =
    ap (nodes.checks_among (names ++ None ∷ [])) (answers_more values answers)
    ∙ checks_more names vs answers h.as_many in
    let flags : nodes.flags_among (names ++ None ∷ []) (answers_of (values ++ OfCheck answers ∷ [])) ≡ nodes.flags_among names vs =
    ap (nodes.flags_among (names ++ None ∷ [])) (answers_more values answers)
    ∙ flags_stay names vs answers h.as_many in
    record {
      said = (
        nodes.checks_among names vs,
        answers,
        checks,
        holds,
        subst (λ (l : List Flag). P (nodes.checks_among names vs) l) (sym flags) h.said,
      );
      as_many = longer names values None answers h.as_many;
    }
answer_said P A names values (Some name) answers holds h =
    let vs = answers_of values in
    let checks : nodes.checks_among (names ++ Some name ∷ []) (answers_of (values ++ OfCheck answers ∷ [])) ≡ nodes.checks_among names vs =
    ap (nodes.checks_among (names ++ Some name ∷ [])) (answers_more values answers)
    ∙ checks_stay names vs name answers h.as_many in
    let flags : nodes.flags_among (names ++ Some name ∷ []) (answers_of (values ++ OfCheck answers ∷ [])) ≡ nodes.flags_among names vs ++ (name, answers) ∷ [] =
    ap (nodes.flags_among (names ++ Some name ∷ [])) (answers_more values answers)
    ∙ flags_more names vs name answers h.as_many in
    record {
      said = (
        nodes.flags_among names vs,
        answers,
        flags,
        holds,
        subst (λ (l : List (List Bool)). P l (nodes.flags_among names vs)) (sym checks)
            h.said,
      );
      as_many = longer names values (Some name) answers h.as_many;
    }

-- what a check or a flag gives, and that it is so
abbrev Gives : (List Bool → Type 0) → List NodeContent → Type 0
Gives A outputs = (answers : List Bool) × (outputs ≡ OfCheck answers ∷ []) × A answers

item_said : (P : List (List Bool) → List Flag → Type 0) (A : List Bool → Type 0) (names : Names)
    (values outputs : List NodeContent) (role : Role) → (is_check role ≡ true → Gives A outputs)
    → Say P names values
    → Say (IsSaidBy role A P) (names ++ (if is_check role then flag_name role ∷ [] else []))
    (values ++ (if is_check role then outputs else []))
item_said P A names values outputs (roles.Group recursive bodies) gives h =
    say_at P names (names ++ []) values (values ++ []) (append-nil names) (append-nil values) h
item_said P A names values outputs (roles.Check check) gives h =
    let g = gives refl in
    say_at (IsSaidAs check.flag A P) (names ++ check.flag ∷ []) (names ++ check.flag ∷ [])
    (values ++ OfCheck g.0 ∷ []) (values ++ outputs) refl
    (ap (λ (l : List NodeContent). values ++ l) g.1)
    (answer_said P A names values check.flag g.0 g.2 h)
item_said P A names values outputs roles.Silent gives h =
    say_at P names (names ++ []) values (values ++ []) (append-nil names) (append-nil values) h

check_made : (role : Role) (space : SpaceContent) (columns : List Column)
    (outputs : List NodeContent) → is_check role ≡ true
    → nodes.RoleMakes (role_shape (role_content role)) space columns outputs
    → Gives (nodes.HasCheckAnswers (role_shape (role_content role)) space columns) outputs
check_made (roles.Group recursive bodies) space columns outputs is h =
    absurd (let f : false ≡ true = is in cc)
check_made (roles.Check check) space columns outputs is h = h
check_made roles.Silent space columns outputs is h = absurd (let f : false ≡ true = is in cc)

check_is_node : (role : Role) → is_check role ≡ true → is_node role ≡ true
check_is_node (roles.Group recursive bodies) is = refl
check_is_node (roles.Check check) is = refl
check_is_node roles.Silent is = is

-- ---- over no candidates there is no answer

no_candidate : (candidates : List Candidate) → length candidates ≡ 0 → (k : ℕ) (one : Candidate)
    → slice_get candidates k ≡ Some one → ⊥
no_candidate [] none k one e = none-some one e
no_candidate (x ∷ xs) none k one e = omega (arith, none)

read_none : (space : Space) (read : Role) (inputs : List (Bor Column)) (answers : List Bool)
    → count space ≡ 0 → AnswersOf read inputs space answers → length answers ≡ 0
read_none space (roles.Group recursive bodies) inputs answers none h =
    ap (λ (l : List Bool). length l) h
read_none space (roles.Check check) inputs answers none h = h.0 ∙ none
read_none space roles.Silent inputs answers none h = ap (λ (l : List Bool). length l) h

check_empty : (space : Space) (role : Role) (inputs : List (Bor Column)) (columns : List Column)
    (outputs : List NodeContent) → is_check role ≡ true → count space ≡ 0
    → nodes.RoleMakes (role_shape (role_content role)) (space_content space) columns outputs
    → Gives (AnswersOf role inputs space) outputs
check_empty space (roles.Group recursive bodies) inputs columns outputs is none h =
    absurd (let f : false ≡ true = is in cc)
check_empty space (roles.Check check) inputs columns outputs is none h =
    let made = h.2 in
    let moved = answers_kept made.read made.read made.over space made.inputs made.inputs h.0 (record { roles = refl; candidates = ap (λ (s : SpaceContent). s.executions) made.shown; values = refl }) made.values in (
      h.0,
      h.1,
      (
        read_none space made.read made.inputs h.0 none moved ∙ sym none,
        λ k one answer e f. absurd (no_candidate (candidates_in space.combinations.items) none k
            one e),
      ),
    )
check_empty space roles.Silent inputs columns outputs is none h =
    absurd (let f : false ≡ true = is in cc)

module _ (items : List ResolvedItem) (space : Space) (table : Table) (needed : ℕ → Bool)
    (is_space : table.space ≡ OfSpace (space_content space)) where
  -- the answers that a check or a flag gives
  check_answers : (rs : List ResolvedItem) (r : ResolvedItem) (values : List NodeContent)
      (are : AreColumnsOf items space rs r.inputs.items values) → IsReadByKind items r
      → is_check r.role ≡ true → (outputs : List NodeContent)
      → nodes.RoleMakes (role_shape (role_content r.role)) (space_content space)
      (map held_column are.inputs) outputs
      → (n : ℕ) → count space ≡ n → Gives (AnswersOf r.role are.inputs space) outputs
  check_answers rs r values are read is outputs h zero none =
      check_empty space r.role are.inputs (map held_column are.inputs) outputs is none h
  check_answers rs r values are read is outputs h (suc n) some =
      let held = held_are are.inputs n (counted_so are.inputs (count space) (suc n) some are.long) in
      let made = check_made r.role (space_content space) (map (λ b. b.now) are.inputs) outputs is
      (subst (λ (l : List Column). nodes.RoleMakes (role_shape (role_content r.role)) (space_content space) l outputs) held h) in (
        made.0,
        made.1,
        answers_over r.role space are.inputs made.0 (over_inputs items r are.inputs
            read are.kinds) made.2,
      )

  check_given : (rs : List ResolvedItem) (r : ResolvedItem) → Each (Fits items table needed) rs
      → AreOrdered (r ∷ rs) → Fits items table needed (length rs) r → is_check r.role ≡ true
      → Gives (HasAnswers space (λ j ds. AreItemColumns space rs j ds) r) (table.outputs (length rs))
  check_given rs r before ordered fits is =
      let needs = fits.asked is in
      let solved = fits.solved needs (check_is_node r.role is) in
      let are = inputs_of items space table needed is_space rs r solved.0 before ordered fits needs (check_is_node r.role is) solved.1 in
      let made = made_over (role_shape (role_content r.role)) table.space (space_content space) solved.0 (table.outputs (length rs)) (map held_column are.inputs) is_space are.columns solved.2 in
      let answers = check_answers rs r solved.0 are fits.read is (table.outputs (length rs)) made (count space) refl in
      (answers.0, answers.1, (are.inputs, are.named, answers.2))

  pub all_said : (rs : List ResolvedItem) → Each (Fits items table needed) rs → AreOrdered rs
      → Say (λ cs fs. AreSaid space rs cs fs) (late_names rs) (late_answers table rs)
  all_said [] fits ordered = record { said = (refl, refl); as_many = refl }
  all_said (r ∷ rs) fits ordered =
      let h = item_said (λ cs fs. AreSaid space rs cs fs) (HasAnswers space (λ j ds. AreItemColumns space rs j ds) r) (late_names rs) (late_answers table rs) (table.outputs (length rs)) r.role (check_given rs r fits.1 ordered fits.0) (all_said rs fits.1 ordered.1) in
      record { said = h.said; as_many = h.as_many }
