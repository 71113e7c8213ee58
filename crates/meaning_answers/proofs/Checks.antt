-- The checks of a model over a candidate: which of them refuses it first, and what each asks for.
use Rattle.std.proofs.Common.{ℕ, zero, suc, ◌≡◌, ◌<◌, ◌≤◌, ◌+◌, ◌↔◌, ◌⊎◌, inl, inr, List, [], ◌∷◌, ◌++◌, length, map, reverse, take, get_or, Bool, true, false, IsTrue, Option, Some, None, Contains, All, refl, ap, sym, subst, ◌∙◌, arith}
use Rattle.std.specs.Prelude.{slice_get}
use Rattle.std.proofs.Math.Seq.{take-length}
use Rattle.std.proofs.lemmas.Bool.{cases_lt}
use Rattle.std.proofs.lemmas.List.{append-nil}
use Rattle.std.proofs.lemmas.Option.{same_Some, none-some, slice_get_within, get_or_from_slice_get}
use denote.Ref.{Bor}
use Rattle.text_values.specs.declared.model.Check as code_check
use Rattle.text_values.specs.declared.model.CheckWord.{CheckWord}
use Rattle.text_values.specs.declared.model.Item.{Item}
use Rattle.text_values.specs.declared.model.Item.TheVariants as items
use Rattle.text_values.specs.ModelValue.{Clause, Term}
use Rattle.text_values.specs.ModelValues.{term_of, check_of, clause_of, clauses_of}
use Rattle.binding_kinds.specs.declared.fault.ModelFault.TheVariants as faults
use Rattle.binding_kinds.specs.declared.kinds.Kind.{Kind}
use Rattle.binding_kinds.specs.declared.scope.Input.{Input}
use Rattle.binding_kinds.specs.declared.scope.Used.{Used}
use Rattle.binding_kinds.specs.Value.{Naming, bound_value_of, bare_item}
use Rattle.binding_kinds.specs.Fits.{IsKnown}
use Rattle.binding_kinds.specs.Kinds.{takes_body}
use Rattle.binding_kinds.specs.Verdict.{unless}
use Rattle.binding_kinds.specs.Outermost.{outermost_names}
use Rattle.binding_kinds.specs.Functions.{formula_in}
use Rattle.binding_kinds.specs.Senses.{Sense, kind_in, term_fault}
use Rattle.binding_kinds.proofs.Fitting.{holds}
use Rattle.binding_graph.specs.declared.resolved.CheckCode.{CheckCode}
use Rattle.binding_graph.specs.declared.resolved.ResolvedItem.{ResolvedItem}
use Rattle.binding_graph.specs.declared.resolved.Role.{Role}
use Rattle.binding_graph.specs.declared.resolved.Role.TheVariants as roles
use Rattle.binding_graph.specs.declared.resolved.Step.{Step}
use Rattle.binding_graph.specs.Inputs.{inputs_of}
use Rattle.binding_graph.specs.Meaning.{set_tree, rel_tree, steps_of}
use Rattle.binding_graph.specs.Reach.{is_check, IsReached}
use Rattle.binding_graph.specs.Resolved.{AreResolved, IsResolvedIn, IsGroupRole, IsCheckRole, IsLabelled, IsLabelledAs, AreLabelledAs}
use Rattle.binding_graph.specs.Trees.{SetTree, RelTree}
use Rattle.binding_graph.specs.Usages.{Usage, with_values}
use Rattle.candidate_spaces.specs.declared.candidate.Space.{Space}
use Rattle.candidate_spaces.specs.Space.{Candidate, candidates_in}
use Rattle.cat_machine.specs.declared.column.Column.{Column}
use Rattle.cat_machine.specs.Executions.{events_of, EventsAt, PairsAt}
use Rattle.from_scratch.specs.declared.cell.ItemAnswers.{ItemAnswers}
use Rattle.from_scratch.specs.Answers.{AreItemColumns, AreOrdered, AreNamed}
use Rattle.from_scratch.specs.Known.{AreFound, HasAllColumns}
use Rattle.why_witness.specs.declared.witness.Witness.{Witness}
use Rattle.why_witness.specs.Refusals.{IsWitness}
use Rattle.why_witness.specs.Witnesses.{IsExplained}
use Rattle.why_forbidden.specs.declared.checks.CheckValues.{CheckValues}
use Rattle.why_forbidden.specs.declared.checks.FirstRefusal.{FirstRefusal}
use Rattle.why_forbidden.specs.Checked.{IsChecked, Accepts, AcceptBelow, IsFirstRefusal, is_unnamed, is_unnamed_check, index_if, check_indexes, checked_items}
use Rattle.meaning.specs.Sets.{Set}
use Rattle.meaning.specs.Cat.{Meaning, Names, HasProperty, NegatedIf, meaning_of, IsMet, IsItemMet, AreMet}
use Rattle.meaning_items.specs.Behind.{bound_behind, outer_bound}
use Rattle.meaning_items.specs.FunctionLaws.{AreFaultless}
use Rattle.meaning_items.proofs.Applying.{none_first}
use Rattle.meaning_items.specs.Slots.{candidate_value}
use Rattle.meaning_items.proofs.Naming.{values_named}
use Rattle.meaning_items.proofs.Bodies.{used_as, known_kind}
use Rattle.meaning_items.proofs.State.{IsState}
use Rattle.meaning_executions.proofs.Lists.{at_right}
use Rattle.meaning_answers.proofs.At.{IsAt, at_model}
use Rattle.meaning_answers.proofs.Coded.{IsMeantBy, is_met, is_unmet}
use Rattle.meaning_answers.proofs.Inputs.{inputs_named}
use Rattle.meaning_answers.proofs.Meeting.{all_met}

-- ---- lists

pub from_map : {X Y : Type 0} (f : X → Y) (xs : List X) (k : ℕ) (y : Y)
    → slice_get (map f xs) k ≡ Some y → (x : X) × (slice_get xs k ≡ Some x) × (f x ≡ y)
from_map f [] k y e = absurd (let g : None ≡ Some y = e in cc)
from_map f (x ∷ xs) zero y e = (x, refl, same_Some _ _ e)
from_map f (x ∷ xs) (suc k) y e = from_map f xs k y e

pub map_at : {X Y : Type 0} (f : X → Y) (xs : List X) (k : ℕ) (x : X) → slice_get xs k ≡ Some x
    → slice_get (map f xs) k ≡ Some (f x)
map_at f [] k x e = absurd (let g : None ≡ Some x = e in cc)
map_at f (z ∷ xs) zero x e = ap (λ (w : _). Some (f w)) (same_Some _ _ e)
map_at f (z ∷ xs) (suc k) x e = map_at f xs k x e

pub each_at : {X : Type 0} (P : X → Type 0) (xs : List X) → All P xs → (k : ℕ) (x : X)
    → slice_get xs k ≡ Some x → P x
each_at P xs all k x e =
    subst P (get_or_from_slice_get xs k x x e) (all k x (slice_get_within xs k x e))

-- ---- the indexes of checks

index_there : (base : ℕ) (rs : List ResolvedItem) (j : ℕ) (r : ResolvedItem)
    → slice_get rs j ≡ Some r → is_unnamed_check r.role ≡ true
    → (q : ℕ) × (slice_get (check_indexes base rs) q ≡ Some (base + j))
index_there base [] j r e is = absurd (let g : None ≡ Some r = e in cc)
index_there base (x ∷ rs) zero r e is =
    let plain : is_unnamed_check x.role ≡ true =
    ap (λ (y : ResolvedItem). is_unnamed_check y.role) (same_Some _ _ e) ∙ is in
    let zeroth : base ≡ base + 0 = omega arith in (
      0,
      subst (λ (b : Bool). slice_get (index_if b base ++ check_indexes (base + 1) rs) 0 ≡ Some (base + 0))
          (sym plain) (ap (λ (n : ℕ). Some n) zeroth),
    )
index_there base (x ∷ rs) (suc j) r e is =
    let rest = index_there (base + 1) rs j r e is in
    let next : (base + 1) + j ≡ base + suc j = omega arith in
    by (is_unnamed_check x.role) rest.0 (rest.1 ∙ ap (λ (n : ℕ). Some n) next)
  where
    by : (b : Bool) (q : ℕ) → slice_get (check_indexes (base + 1) rs) q ≡ Some (base + suc j)
        → (p : ℕ) × (slice_get (index_if b base ++ check_indexes (base + 1) rs) p ≡ Some (base + suc j))
    by true q at = (suc q, at)
    by false q at = (q, at)

index_above : (base : ℕ) (rs : List ResolvedItem) (q m : ℕ)
    → slice_get (check_indexes base rs) q ≡ Some m → base ≤ m
index_above base [] q m e = absurd (let g : None ≡ Some m = e in cc)
index_above base (x ∷ rs) q m e =
    by (is_unnamed_check x.role) (λ p at. index_above (base + 1) rs p m at) q e
  where
    by : (b : Bool) → ((p : ℕ) → slice_get (check_indexes (base + 1) rs) p ≡ Some m → base + 1 ≤ m)
        → (p : ℕ) → slice_get (index_if b base ++ check_indexes (base + 1) rs) p ≡ Some m → base ≤ m
    by true rest zero at = let same : base ≡ m = same_Some _ _ at in omega (arith, same)
    by true rest (suc p) at = let le : base + 1 ≤ m = rest p at in omega (arith, le)
    by false rest p at = let le : base + 1 ≤ m = rest p at in omega (arith, le)

indexes_rise : (base : ℕ) (rs : List ResolvedItem) (q p m n : ℕ) → q < p
    → slice_get (check_indexes base rs) q ≡ Some m → slice_get (check_indexes base rs) p ≡ Some n
    → m < n
indexes_rise base [] q p m n lt first second = absurd (let g : None ≡ Some m = first in cc)
indexes_rise base (x ∷ rs) q p m n lt first second =
    by (is_unnamed_check x.role)
    (λ i j less at there. indexes_rise (base + 1) rs i j m n less at there) q p lt first second
  where
    by : (b : Bool)
        → ((i j : ℕ) → i < j → slice_get (check_indexes (base + 1) rs) i ≡ Some m
        → slice_get (check_indexes (base + 1) rs) j ≡ Some n → m < n)
        → (i j : ℕ) → i < j
        → slice_get (index_if b base ++ check_indexes (base + 1) rs) i ≡ Some m
        → slice_get (index_if b base ++ check_indexes (base + 1) rs) j ≡ Some n → m < n
    by true rest i zero less at there = absurd (omega (arith, less))
    by true rest zero (suc j) less at there =
        let same : base ≡ m = same_Some _ _ at in
        let le : base + 1 ≤ n = index_above (base + 1) rs j n there in omega (arith, same, le)
    by true rest (suc i) (suc j) less at there = rest i j (omega (arith, less)) at there
    by false rest i j less at there = rest i j less at there

-- ---- which item a check is

unnamed : (o : Option (List ℕ)) → o ≡ None → is_unnamed o ≡ true
unnamed o e = ap (λ (q : Option (List ℕ)). is_unnamed q) e

no_silent : (check : CheckCode) → roles.Silent ≡ roles.Check check → ⊥
no_silent check e = cc

as_check : (ss : List Sense) (us : List Usage) (names own : List Naming) (from : ℕ) (x : Item)
    (r : ResolvedItem) → IsResolvedIn ss us names own from (bare_item x) r → IsLabelledAs x r
    → (check : CheckCode) → r.role ≡ roles.Check check → check.flag ≡ None
    → (c : code_check.Check) × (label : Option (List ℕ)) × (x ≡ items.Check c label)
as_check ss us names own from (items.Let true group) r made labelled check role flag =
    absurd (subst (λ (o : Role). IsGroupRole ss us own from true (map bound_value_of group.items) o) role made.0)
as_check ss us names own from (items.Let false group) r made labelled check role flag =
    absurd (subst (λ (o : Role). IsGroupRole ss us names from false (map bound_value_of group.items) o) role made.0)
as_check ss us names own from (items.Function f ps body) r made labelled check role flag =
    absurd (no_silent check (sym made.0 ∙ role))
as_check ss us names own from (items.Check c label) r made labelled check role flag =
    (c, label, refl)
as_check ss us names own from (items.Flag c label) r made labelled check role flag =
    absurd
    (none-some label
    (sym flag ∙ (subst (λ (o : Role). IsLabelled c.negated (Some label) o) role labelled).1))
as_check ss us names own from (items.Show hidden list) r made labelled check role flag =
    absurd (no_silent check (sym made.0 ∙ role))
as_check ss us names own from (items.Include path) r made labelled check role flag =
    absurd (no_silent check (sym made.0 ∙ role))

module _ (space : Space) (is : List Item) (resolved : List ResolvedItem)
    (faultless : AreFaultless is)
    (made : AreResolved [] [] outermost_names 0 (map bare_item is) resolved)
    (labelled : AreLabelledAs is resolved) (answers : ItemAnswers)
    (known : HasAllColumns space resolved answers) (ordered : AreOrdered (reverse resolved))
    (k : ℕ) (one : Candidate)
    (there : slice_get (candidates_in space.combinations.items) k ≡ Some one) where
  abbrev Below : Set ℕ
  Below a = a < events_of one

  abbrev outer_names : Names ℕ
  outer_names = outer_bound (candidate_value one)

  abbrev pub names_at : ℕ → Names ℕ
  names_at i = bound_behind Below outer_names (take i (clauses_of is))

  abbrev IsOfItems : CheckValues → Type 0
  IsOfItems cv = IsChecked space answers.columns.items resolved cv

  pub item_of : (i : ℕ) (x : Item) → slice_get is i ≡ Some x
      → IsAt space k one outer_names [] is resolved i x
  item_of i x e = at_model space k one there is resolved faultless made labelled i x e

  -- the check as the model writes it
  pub written_check : (cv : CheckValues) → IsOfItems cv
      → (c : code_check.Check) × (label : Option (List ℕ))
      × (slice_get is cv.item ≡ Some (items.Check c label))
  written_check cv h =
      let x = at_right IsLabelledAs is resolved labelled cv.item h.item h.stands in
      let at : IsAt space k one outer_names [] is resolved cv.item x.0 = item_of cv.item x.0 x.1 in
      let same : at.item ≡ h.item = same_Some _ _ (sym at.there ∙ h.stands) in
      let check = as_check at.senses at.usages at.names _ (length at.names) x.0 at.item at.made at.labelled cv.check.now (ap (λ (r : ResolvedItem). r.role) same ∙ h.check) h.not_flag in
      (check.0, check.1, x.1 ∙ ap (λ (y : Item). Some y) check.2)

  -- ---- what the expression of a check means

  -- by the steps of its code, where the names of other items have the columns of the inputs
  pub record IsMeantAt (i : ℕ) (check : CheckCode) (inputs : List (Bor Column))
      (c : code_check.Check) : Type 0 where
    pub set : SetTree
    pub relation : RelTree
    pub meant : IsMeantBy (events_of one) (EventsAt (events_of one) one inputs k)
        (PairsAt (events_of one) one inputs k) set relation check.code.kind
        check.code.steps.items (meaning_of Below (names_at i) (term_of c.body))
    pub takes : IsTrue (takes_body check.word check.code.kind)
    pub word : check.word ≡ c.word
    pub negated : check.negated ≡ c.negated

  module _ (i : ℕ) (r : ResolvedItem) (stands : slice_get resolved i ≡ Some r) (check : CheckCode)
      (role_is : r.role ≡ roles.Check check) (inputs : List (Bor Column))
      (found : AreFound answers.columns.items r.inputs.items inputs) (c : code_check.Check)
      (label : Option (List ℕ)) (e : slice_get is i ≡ Some (items.Check c label)) where
    code_reached : IsReached resolved i
    code_reached = record {
      from = i;
      is_check = (r, stands, ap is_check role_is);
      through = [];
      leads = refl;
    }

    at : IsAt space k one outer_names [] is resolved i (items.Check c label)
    at = item_of i (items.Check c label) e

    same : at.item ≡ r
    same = same_Some _ _ (sym at.there ∙ stands)

    role : at.item.role ≡ roles.Check check
    role = ap (λ (x : ResolvedItem). x.role) same ∙ role_is

    abbrev t : Term
    t = term_of c.body

    abbrev us : List Used
    us = with_values at.usages at.names [] (length at.names) t []

    code : IsCheckRole at.senses at.usages at.names (length at.names) c.word t (roles.Check check)
    code =
        subst (λ (o : Role). IsCheckRole at.senses at.usages at.names (length at.names) c.word t o)
        role at.made.0

    abbrev rs : List ResolvedItem
    rs = reverse (take i resolved) ++ []

    given : AreNamed (λ j cs. AreItemColumns space rs j cs) (inputs_of us) inputs
    given =
        subst (λ (ns : List Input). AreNamed (λ j cs. AreItemColumns space rs j cs) ns inputs)
        (sym (ap (λ (x : ResolvedItem). x.inputs.items) same) ∙ at.made.1.inputs)
        (subst
        (λ (xs : List ResolvedItem). AreNamed (λ j cs. AreItemColumns space xs j cs) r.inputs.items inputs)
        (sym (append-nil (reverse (take i resolved))))
        (inputs_named space resolved answers known ordered i r stands code_reached inputs found))

    both : (unless (takes_body c.word (kind_in at.senses at.names t)) faults.Kind ≡ None)
        × (term_fault at.senses at.names (length at.names) false t ≡ None)
    both =
        none_first (unless (takes_body c.word (kind_in at.senses at.names t)) faults.Kind)
        (term_fault at.senses at.names (length at.names) false t) at.none

    abbrev S : SetTree
    S = set_tree us (length at.names) (formula_in at.senses at.names [] t)

    abbrev R : RelTree
    R = rel_tree us (length at.names) (formula_in at.senses at.names [] t)

    by_kind : IsMeantBy (events_of one) (EventsAt (events_of one) one inputs k)
        (PairsAt (events_of one) one inputs k) S R (kind_in at.senses at.names t)
        check.code.steps.items (meaning_of Below (names_at i) t)
    by_kind = record {
      known =
          known_kind space rs k one at.senses at.usages at.names (names_at i) at.state.sound
          at.state.senses at.state.covers at.state.meant us
          (values_named at.usages at.names [] (length at.names) at.state.named t [] tt) inputs given
          t both.1;
      made = code.1.1;
      like =
          used_as space rs k one at.senses at.usages at.names (names_at i) at.state.sound
          at.state.senses at.state.covers at.state.meant us
          (values_named at.usages at.names [] (length at.names) at.state.named t [] tt) inputs given
          t both.1 us [] refl (λ slot input seen. seen);
    }

    pub code_meant : IsMeantAt i check inputs c
    code_meant = record {
      set = S;
      relation = R;
      meant =
          subst
          (λ (q : Kind). IsMeantBy (events_of one) (EventsAt (events_of one) one inputs k)
          (PairsAt (events_of one) one inputs k) S R q check.code.steps.items
          (meaning_of Below (names_at i) t)) (sym code.1.0) by_kind;
      takes =
          subst (λ (q : Kind). IsTrue (takes_body check.word q)) (sym code.1.0)
          (subst (λ (w : CheckWord). IsTrue (takes_body w (kind_in at.senses at.names t)))
          (sym code.0) (holds (takes_body c.word (kind_in at.senses at.names t)) faults.Kind both.0));
      word = code.0;
      negated = (subst (λ (o : Role). IsLabelled c.negated None o) role at.labelled).0;
    }

  pub reached : (cv : CheckValues) → IsOfItems cv → IsReached resolved cv.item
  reached cv h = record {
    from = cv.item;
    is_check = (h.item, h.stands, ap is_check h.check);
    through = [];
    leads = refl;
  }

  abbrev pub IsCheckMeant : (cv : CheckValues) → IsOfItems cv → code_check.Check → Type 0
  IsCheckMeant cv h c = IsMeantAt cv.item cv.check.now h.inputs c

  pub check_meant : (cv : CheckValues) (h : IsOfItems cv) (c : code_check.Check)
      (label : Option (List ℕ)) → slice_get is cv.item ≡ Some (items.Check c label)
      → IsCheckMeant cv h c
  check_meant cv h c label e =
      code_meant cv.item h.item h.stands cv.check.now h.check h.inputs h.found c label e

  explained : (cv : CheckValues) (h : IsOfItems cv) (found : Option Witness)
      → IsWitness cv.check.now cv.values k found
      → IsExplained cv.check.now (events_of one) (EventsAt (events_of one) one h.inputs k)
      (PairsAt (events_of one) one h.inputs k) cv.check.now.code.kind found
  explained cv h found w = w space h.inputs one h.values there

  as_met : (cv : CheckValues) (h : IsOfItems cv) (c : code_check.Check) (m : IsCheckMeant cv h c)
      → NegatedIf cv.check.now.negated
      (HasProperty cv.check.now.word (meaning_of Below (names_at cv.item) (term_of c.body)))
      ≡ IsMet Below (names_at cv.item) (check_of c)
  as_met cv h c m =
      ap
      (λ (b : Bool). NegatedIf b
      (HasProperty cv.check.now.word (meaning_of Below (names_at cv.item) (term_of c.body)))) m.negated
      ∙ ap
      (λ (w : CheckWord). NegatedIf c.negated
      (HasProperty w (meaning_of Below (names_at cv.item) (term_of c.body)))) m.word

  check_accepted : (cv : CheckValues) (h : IsOfItems cv) (c : code_check.Check)
      → IsCheckMeant cv h c → Accepts cv k → IsMet Below (names_at cv.item) (check_of c)
  check_accepted cv h c m accepts =
      subst (λ (X : Type 0). X) (as_met cv h c m)
      (is_met (events_of one) (EventsAt (events_of one) one h.inputs k)
      (PairsAt (events_of one) one h.inputs k) m.set m.relation cv.check.now cv.check.now.code.kind
      (meaning_of Below (names_at cv.item) (term_of c.body)) m.meant m.takes
      (explained cv h None accepts))

  pub check_refused : (cv : CheckValues) (h : IsOfItems cv) (c : code_check.Check)
      → IsCheckMeant cv h c → (w : Witness) → IsWitness cv.check.now cv.values k (Some w)
      → IsMet Below (names_at cv.item) (check_of c) → ⊥
  check_refused cv h c m w refuses met =
      is_unmet (events_of one) (EventsAt (events_of one) one h.inputs k)
      (PairsAt (events_of one) one h.inputs k) m.set m.relation cv.check.now cv.check.now.code.kind
      (meaning_of Below (names_at cv.item) (term_of c.body)) m.meant m.takes w
      (explained cv h (Some w) refuses)
      (subst (λ (X : Type 0). X) (sym (as_met cv h c m)) met)

  -- ---- all checks

  module _ (checks : List CheckValues) (each : All (λ cv. IsOfItems cv) checks)
      (all : checked_items checks ≡ check_indexes 0 resolved) where
    -- each check of the text is among them
    check_there : (j : ℕ) (c : code_check.Check) (label : Option (List ℕ))
        → slice_get is j ≡ Some (items.Check c label)
        → (q : ℕ) × (cv : CheckValues) × (slice_get checks q ≡ Some cv) × (cv.item ≡ j)
    check_there j c label e =
        let at : IsAt space k one outer_names [] is resolved j (items.Check c label) =
        item_of j (items.Check c label) e in
        let index = index_there 0 resolved j at.item at.there (plain at.item.role at.labelled) in
        let zeroth : 0 + j ≡ j = omega arith in
        let cv = from_map (λ (v : CheckValues). v.item) checks index.0 j
        (ap (λ (ns : List ℕ). slice_get ns index.0) all
        ∙ (index.1 ∙ ap (λ (n : ℕ). Some n) zeroth)) in
        (index.0, cv.0, cv.1, cv.2)
      where
        plain : (role : Role) → IsLabelled c.negated None role → is_unnamed_check role ≡ true
        plain (roles.Group recursive bodies) h = absurd h
        plain (roles.Check check) h = unnamed check.flag h.1
        plain roles.Silent h = absurd h

    pub items_rise : (q p : ℕ) (cv dv : CheckValues) → q < p → slice_get checks q ≡ Some cv
        → slice_get checks p ≡ Some dv → cv.item < dv.item
    items_rise q p cv dv lt first second =
        indexes_rise 0 resolved q p cv.item dv.item lt
        (sym (ap (λ (ns : List ℕ). slice_get ns q) all)
        ∙ map_at (λ (v : CheckValues). v.item) checks q cv first)
        (sym (ap (λ (ns : List ℕ). slice_get ns p) all)
        ∙ map_at (λ (v : CheckValues). v.item) checks p dv second)

    -- where the checks before an index accept the candidate
    module _ (end : ℕ) (accept : AcceptBelow checks k end) where
      check_met_at : (j : ℕ) (c : code_check.Check) (label : Option (List ℕ))
          → slice_get is j ≡ Some (items.Check c label)
          → ((q : ℕ) (cv : CheckValues) → slice_get checks q ≡ Some cv → cv.item ≡ j → q < end)
          → IsMet Below (names_at j) (check_of c)
      check_met_at j c label e before =
          let found = check_there j c label e in
          let cv : CheckValues = found.1 in
          let h : IsOfItems cv = each_at (λ v. IsOfItems v) checks each found.0 cv found.2 in
          let same : slice_get is cv.item ≡ Some (items.Check c label) =
          ap (λ (i : ℕ). slice_get is i) found.3 ∙ e in
          let accepts : Accepts cv k =
          subst (λ (v : CheckValues). Accepts v k) (get_or_from_slice_get checks found.0 cv cv found.2)
          (accept found.0 (before found.0 cv found.2 found.3) cv
          (slice_get_within checks found.0 cv found.2)) in
          subst (λ (i : ℕ). IsMet Below (names_at i) (check_of c)) found.3
          (check_accepted cv h c (check_meant cv h c label same) accepts)

      item_met : (j : ℕ) (x : Item) → slice_get is j ≡ Some x
          → ((q : ℕ) (cv : CheckValues) → slice_get checks q ≡ Some cv → cv.item ≡ j → q < end)
          → IsItemMet Below (names_at j) (clause_of x)
      item_met j (items.Let recursive group) e before = tt
      item_met j (items.Function f ps body) e before = tt
      item_met j (items.Check c label) e before = check_met_at j c label e before
      item_met j (items.Flag c label) e before = tt
      item_met j (items.Show hidden list) e before = tt
      item_met j (items.Include path) e before = tt

      pub met_before : (i : ℕ)
          → ((j q : ℕ) (cv : CheckValues) → j < i → slice_get checks q ≡ Some cv → cv.item ≡ j
          → q < end)
          → AreMet Below outer_names (take i (clauses_of is))
      met_before i before =
          all_met Below outer_names (clauses_of is) i
          (λ j c lt e.
          let x = from_map clause_of is j c e in
          subst (λ (d : Clause). IsItemMet Below (names_at j) d) x.2
          (item_met j x.0 x.1 (λ q cv at same. before j q cv lt at same)))

    -- a candidate that all checks accept meets all of the model
    pub all_accepted : AcceptBelow checks k (length checks)
        → AreMet Below outer_names (clauses_of is)
    all_accepted accept =
        subst (λ (cs : List Clause). AreMet Below outer_names cs) (take-length (clauses_of is))
        (met_before (length checks) accept (length (clauses_of is))
        (λ j q cv lt at same. slice_get_within checks q cv at))

    -- a candidate that is refused meets what stands before the first check that does
    pub first_refused : (first : FirstRefusal) → IsFirstRefusal checks k first → (cv : CheckValues)
        → slice_get checks first.index ≡ Some cv
        → AreMet Below outer_names (take cv.item (clauses_of is))
    first_refused first h cv here =
        met_before first.index h.before cv.item
        (λ j q dv lt at same. below j q dv lt at same (cases_lt q first.index))
      where
        past : (j q : ℕ) (dv : CheckValues) → j < cv.item → slice_get checks q ≡ Some dv
            → dv.item ≡ j → first.index ≤ q → (first.index < q) ⊎ (q ≤ first.index) → ⊥
        past j q dv lt at same le (inl more) =
            let less : cv.item < dv.item = items_rise first.index q cv dv more here at in
            omega (arith, less, lt, same)
        past j q dv lt at same le (inr rest) =
            let equal : q ≡ first.index = omega (arith, le, rest) in
            let one_check : dv ≡ cv =
            same_Some _ _ (sym at ∙ (ap (λ (i : ℕ). slice_get checks i) equal ∙ here)) in
            let one_item : dv.item ≡ cv.item = ap (λ (v : CheckValues). v.item) one_check in
            omega (arith, one_item, lt, same)

        below : (j q : ℕ) (dv : CheckValues) → j < cv.item → slice_get checks q ≡ Some dv
            → dv.item ≡ j → (q < first.index) ⊎ (first.index ≤ q) → q < first.index
        below j q dv lt at same (inl less) = less
        below j q dv lt at same (inr le) =
            absurd (past j q dv lt at same le (cases_lt first.index q))

    pub refused_witness : (first : FirstRefusal) → IsFirstRefusal checks k first
        → (cv : CheckValues) → slice_get checks first.index ≡ Some cv
        → IsWitness cv.check.now cv.values k (Some first.witness)
    refused_witness first h cv here =
        subst (λ (v : CheckValues). IsWitness v.check.now v.values k (Some first.witness))
        (get_or_from_slice_get checks first.index cv cv here) (h.refuses cv)
