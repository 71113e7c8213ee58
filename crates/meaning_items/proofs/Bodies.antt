-- The columns of the names of a group have what the definitions bind.
use Rattle.std.proofs.Common.{ℕ, zero, suc, ◌≡◌, ◌<◌, ◌+◌, ◌↔◌, List, [], ◌∷◌, length, map, false, Some, None, refl, ap, sym, ◌∙◌, subst, arith}
use Rattle.std.specs.Prelude.{slice_get, slice_index_or, if◌then◌else◌}
use denote.Ref.{Bor}
use Rattle.text_values.specs.declared.model.Binding as code_binding
use Rattle.text_values.specs.ModelValue.{Term}
use Rattle.text_values.specs.ModelValues.{term_of, binding_of}
use Rattle.binding_kinds.specs.declared.kinds.Kind.{Kind}
use Rattle.binding_kinds.specs.declared.scope.Used.{Used}
use Rattle.binding_kinds.specs.Value.{Naming, bound_value_of}
use Rattle.binding_kinds.specs.Fits.{IsKnown}
use Rattle.binding_kinds.specs.Functions.{formula_in}
use Rattle.binding_kinds.specs.Senses.{Sense, kind_in, term_fault}
use Rattle.binding_kinds.proofs.Fitted.{fit, fit_known}
use Rattle.binding_graph.specs.declared.resolved.Body.{Body}
use Rattle.binding_graph.specs.declared.resolved.ResolvedItem.{ResolvedItem}
use Rattle.binding_graph.specs.declared.resolved.Source.{Source}
use Rattle.binding_graph.specs.declared.resolved.Step.{Step}
use Rattle.binding_graph.specs.Inputs.{inputs_of}
use Rattle.binding_graph.specs.Meaning.{set_tree, rel_tree, steps_of, IsCode}
use Rattle.binding_graph.specs.Resolved.{AreBodies}
use Rattle.binding_graph.specs.Trees.{SetTree, RelTree, rel_code}
use Rattle.binding_graph.specs.Usages.{Usage, with_values, with_all_values}
use Rattle.candidate_spaces.specs.declared.candidate.Space.{Space}
use Rattle.candidate_spaces.specs.Space.{Candidate}
use Rattle.cat_machine.specs.declared.column.Column.{Column}
use Rattle.cat_machine.specs.Columns.{HasColumnValue, HaveValues}
use Rattle.cat_machine.specs.Executions.{events_of, EventsAt, PairsAt}
use Rattle.cat_machine.specs.Least.{body}
use Rattle.cat_machine.specs.Meaning.{MeansSet, MeansRelation}
use Rattle.cat_machine.specs.Named.{ColumnEvents, ColumnPairs, OwnPairs, WithOwn}
use Rattle.cat_machine.specs.Running.{BuildsTrees, sets_after, rels_after}
use Rattle.cat_machine.specs.Values.{IsFor, IsMeaning}
use Rattle.cat_machine.proofs.Codes.{code_leads}
use Rattle.from_scratch.specs.Answers.{AreItemColumns, AreNamed as AreNamedColumns}
use Rattle.meaning.specs.Cat.{Names, meaning_of}
use Rattle.meaning_items.specs.Formulas.{HasNames}
use Rattle.meaning_items.proofs.Items.{AreSound}
use Rattle.meaning_items.specs.Alike.{IsAs}
use Rattle.meaning_items.specs.Groups.{term_at}
use Rattle.meaning_items.specs.Slots.{AreSlotsMeant}
use Rattle.meaning_items.proofs.Naming.{AreNamedSenses, AreUsedNames, formula_named}
use Rattle.meaning_items.proofs.Seen.{column_as, seen_as}
use Rattle.meaning_items.proofs.Used.{Extends, IsCovered, AllCover, values_extend, covered}

-- ---- which names the bodies use

-- the names that are used up to the body at a position
abbrev pub used_at : List Usage → List Naming → ℕ → List Used → List code_binding.Binding → ℕ
    → List Used
used_at us names from vs [] j = vs
used_at us names from vs (b ∷ bs) zero = with_values us names [] from (term_of b.body) vs
used_at us names from vs (b ∷ bs) (suc j) =
    used_at us names from (with_values us names [] from (term_of b.body) vs) bs j

all_extend : (us : List Usage) (names : List Naming) (from : ℕ) (bs : List code_binding.Binding)
    (vs : List Used) → Extends vs (with_all_values us names from (map bound_value_of bs) vs)
all_extend us names from [] vs s i e = e
all_extend us names from (b ∷ bs) vs s i e =
    all_extend us names from bs (with_values us names [] from (term_of b.body) vs) s i
    (values_extend us names [] from (term_of b.body) vs s i e)

pub at_extends : (us : List Usage) (names : List Naming) (from : ℕ)
    (bs : List code_binding.Binding) (vs : List Used) (j : ℕ) → j < length bs
    → Extends (used_at us names from vs bs j) (with_all_values us names from (map bound_value_of bs) vs)
at_extends us names from [] vs j lt = absurd (omega (arith, lt))
at_extends us names from (b ∷ bs) vs zero lt =
    all_extend us names from bs (with_values us names [] from (term_of b.body) vs)
at_extends us names from (b ∷ bs) vs (suc j) lt =
    at_extends us names from bs (with_values us names [] from (term_of b.body) vs) j
    (omega (arith, lt))

-- the body's names are covered there
pub at_covered : (us : List Usage) (ss : List Sense) (names : List Naming) (from : ℕ)
    → AllCover us ss → (bs : List code_binding.Binding) (vs : List Used) (j : ℕ) → j < length bs
    → (prev : List Used)
    × (used_at us names from vs bs j
    ≡ with_values us names [] from (term_at (map binding_of bs) j) prev)
at_covered us ss names from all [] vs j lt = absurd (omega (arith, lt))
at_covered us ss names from all (b ∷ bs) vs zero lt = (vs, refl)
at_covered us ss names from all (b ∷ bs) vs (suc j) lt =
    at_covered us ss names from all bs (with_values us names [] from (term_of b.body) vs) j
    (omega (arith, lt))

-- the code of the body at a position
pub code_at : (ss : List Sense) (us : List Usage) (names : List Naming) (from : ℕ)
    (bs : List code_binding.Binding) (vs : List Used) (bodies : List Body)
    → AreBodies ss us names from vs (map bound_value_of bs) bodies → (j : ℕ) → j < length bs
    → (b : Body) × ((d : Body) → slice_index_or bodies j d ≡ b)
    × IsCode ss names (used_at us names from vs bs j) from (term_at (map binding_of bs) j) b.code
code_at ss us names from [] vs bodies h j lt = absurd (omega (arith, lt))
code_at ss us names from (b ∷ bs) vs [] h j lt = absurd h
code_at ss us names from (b ∷ bs) vs (r ∷ rs) h zero lt = (r, λ d. refl, h.1)
code_at ss us names from (b ∷ bs) vs (r ∷ rs) h (suc j) lt =
    code_at ss us names from bs (with_values us names [] from (term_of b.body) vs) rs h.2 j
    (omega (arith, lt))

pub as_many_bodies : (ss : List Sense) (us : List Usage) (names : List Naming) (from : ℕ)
    (bs : List code_binding.Binding) (vs : List Used) (bodies : List Body)
    → AreBodies ss us names from vs (map bound_value_of bs) bodies → length bodies ≡ length bs
as_many_bodies ss us names from [] vs [] h = refl
as_many_bodies ss us names from [] vs (r ∷ rs) h = absurd h
as_many_bodies ss us names from (b ∷ bs) vs [] h = absurd h
as_many_bodies ss us names from (b ∷ bs) vs (r ∷ rs) h =
    ap suc
    (as_many_bodies ss us names from bs (with_values us names [] from (term_of b.body) vs) rs h.2)

-- ---- steps have one tree

one_end : (xs : List Step) (ss : List SetTree) (rs : List RelTree) (s t : List SetTree)
    (q r : List RelTree) → BuildsTrees xs ss rs s q → BuildsTrees xs ss rs t r → q ≡ r
one_end [] ss rs s t q r h g = sym h.1 ∙ g.1
one_end (x ∷ xs) ss rs s t q r h g =
    one_end xs (sets_after x ss) (rels_after x ss rs) s t q r h.1 g.1

pub one_tree : (e f : RelTree) → rel_code e [] ≡ rel_code f [] → e ≡ f
one_tree e f same =
    let lists : (e ∷ []) ≡ (f ∷ []) =
    one_end (rel_code e []) [] [] [] [] (e ∷ []) (f ∷ []) (code_leads e)
    (subst (λ (xs : List Step). BuildsTrees xs [] [] [] (f ∷ [])) (sym same) (code_leads f)) in cc

-- ---- a column of a list

pub column_at : (cs : List Column) (j : ℕ) (c : Column) → slice_get cs j ≡ Some c
    → slice_index_or cs j c ≡ c
column_at [] j c e = absurd (let f : None ≡ Some c = e in cc)
column_at (d ∷ cs) zero c e = let same : d ≡ c = let f : Some d ≡ Some c = e in cc in same
column_at (d ∷ cs) (suc j) c e = column_at cs j c e

-- ---- a group that is not recursive

module _ (space : Space) (rs : List ResolvedItem) (k : ℕ) (one : Candidate) (ss : List Sense)
    (usages : List Usage) (names : List Naming) (N : Names ℕ)
    (sound : AreSound (λ a. a < events_of one) ss names N)
    (senses : AreNamedSenses names ss) (covers : AllCover usages ss)
    (meant : AreSlotsMeant space rs k one names N)
    (us : List Used) (named : AreUsedNames names us) (inputs : List (Bor Column))
    (given : AreNamedColumns (λ j ds. AreItemColumns space rs j ds) (inputs_of us) inputs) where
  abbrev sets : Source → ℕ → Type 0
  sets = EventsAt (events_of one) one inputs k

  abbrev outer : Source → ℕ → ℕ → Type 0
  outer = PairsAt (events_of one) one inputs k

  -- an expression whose names are used
  pub used_as : (t : Term) → term_fault ss names (length names) false t ≡ None
      → (vs prev : List Used) → vs ≡ with_values usages names [] (length names) t prev
      → Extends vs us
      → IsAs (kind_in ss names t) (meaning_of (λ a. a < events_of one) N t)
      (MeansSet (events_of one) sets (set_tree vs (length names) (formula_in ss names [] t)))
      (MeansRelation (events_of one) sets (WithOwn outer (OwnPairs (events_of one) []))
      (rel_tree vs (length names) (formula_in ss names [] t)))
  used_as t none vs prev is more =
      seen_as space rs k one ss names N sound meant us named inputs given t none vs more
      (formula_named ss names [] senses t)
      (subst
      (λ (ws : List Used). HasNames (IsCovered (length names) ws) (formula_in ss names [] t))
      (sym is) (covered usages ss names [] (length names) covers t prev))

  pub known_kind : (t : Term) → term_fault ss names (length names) false t ≡ None
      → IsKnown (kind_in ss names t)
  known_kind t none =
      fit_known ss names t sound.sound (fit ss names (length names) false t sound.known none)

  -- the column of a name of a group that is not recursive
  pub plain_column : (bs : List code_binding.Binding)
      → us ≡ with_all_values usages names (length names) (map bound_value_of bs) []
      → (bodies : List Body) → AreBodies ss usages names (length names) [] (map bound_value_of bs) bodies
      → (cs : List Column)
      → ((j : ℕ) → j < length bodies → (b : Body) (c : Column)
      → IsFor (slice_index_or bodies j b).code.kind (slice_index_or cs j c))
      → HaveValues false bodies (events_of one) sets outer k cs → (j : ℕ) → j < length bs
      → term_fault ss names (length names) false (term_at (map binding_of bs) j) ≡ None
      → (c : Column) → slice_get cs j ≡ Some c
      → IsAs (kind_in ss names (term_at (map binding_of bs) j))
      (meaning_of (λ a. a < events_of one) N (term_at (map binding_of bs) j))
      (ColumnEvents c k (events_of one)) (ColumnPairs c k (events_of one))
  plain_column bs all bodies made cs suited have j lt none c there =
      let t : Term = term_at (map binding_of bs) j in
      let used : List Used = used_at usages names (length names) [] bs j in
      let code = code_at ss usages names (length names) bs [] bodies made j lt in
      let many = as_many_bodies ss usages names (length names) bs [] bodies made in
      let value = have j (omega (arith, lt, many)) c code.0 in
      let seen_names = at_covered usages ss names (length names) covers bs [] j lt in
      let S : SetTree = set_tree used (length names) (formula_in ss names [] t) in
      let R : RelTree = rel_tree used (length names) (formula_in ss names [] t) in
      let suits : IsFor (kind_in ss names t) c =
      subst (λ (kind : Kind). IsFor kind c) code.2.0
      (subst (λ (b : Body). IsFor b.code.kind c) (code.1 code.0)
      (subst (λ (d : Column). IsFor (slice_index_or bodies j code.0).code.kind d)
      (column_at cs j c there) (suited j (omega (arith, lt, many)) code.0 c))) in
      let means : IsMeaning (kind_in ss names t) (steps_of (kind_in ss names t) S R) (events_of one) sets outer value.0 value.1 =
      subst
      (λ (xs : List Step). IsMeaning (kind_in ss names t) xs (events_of one) sets outer value.0 value.1)
      code.2.1
      (subst
      (λ (kind : Kind). IsMeaning kind code.0.code.steps.items (events_of one) sets outer value.0 value.1)
      code.2.0
      (subst
      (λ (b : Body). IsMeaning b.code.kind b.code.steps.items (events_of one) sets outer value.0 value.1)
      (code.1 code.0) value.3)) in
      column_as (kind_in ss names t) (known_kind t none) c suits k (events_of one) value.0 value.1
      (subst (λ (d : Column). HasColumnValue d k value.0 value.1) (column_at cs j c there) value.2)
      sets outer S R means (meaning_of (λ a. a < events_of one) N t)
      (used_as t none used seen_names.0 seen_names.1
      (subst (Extends used) (sym all)
      (at_extends usages names (length names) bs [] j lt)))
