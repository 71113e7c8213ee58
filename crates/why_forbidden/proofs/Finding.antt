-- One first check refuses a candidate, for one reason; and an event that an expression relates to
-- itself has a walk back.
use Rattle.std.proofs.Common.{ℕ, ◌≡◌, ◌<◌, ◌∙◌, ◌⊎◌, inl, inr, List, [], ◌∷◌, length, get_or, Bool, true, false, Option, Some, None, refl, sym, ap, subst, arith}
use Rattle.std.specs.Prelude.{Vec}
use Rattle.std.specs.declared.alloc.Global.{Global}
use Rattle.std.proofs.lemmas.Bool.{cases_lt}
use Rattle.bit_rows.specs.Relation.{Relation, Events, IsRelation}
use Rattle.binding_kinds.specs.declared.kinds.Kind.{Kind}
use Rattle.binding_kinds.specs.declared.kinds.Kind.TheVariants as kinds
use Rattle.binding_graph.specs.declared.resolved.CheckCode.{CheckCode}
use Rattle.binding_graph.specs.declared.resolved.ResolvedItem.{ResolvedItem}
use Rattle.binding_graph.specs.declared.resolved.Source.{Source}
use Rattle.binding_graph.specs.Trees.{RelTree, rel_code}
use Rattle.candidate_spaces.specs.declared.candidate.Space.{Space}
use Rattle.candidate_spaces.specs.Space.{Candidate}
use Rattle.cat_machine.specs.declared.column.Column.{Column}
use Rattle.cat_machine.specs.Checks.{Holds, IsEmptySet}
use Rattle.cat_machine.specs.Executions.{events_of, EventsAt, PairsAt}
use Rattle.cat_machine.specs.Meaning.{MeansRelation, MeansSet}
use Rattle.cat_machine.specs.Named.{WithOwn, OwnPairs}
use Rattle.cat_machine.specs.Values.{IsMeaning}
use Rattle.text_values.specs.declared.model.CheckWord.{CheckWord}
use Rattle.text_values.specs.declared.model.CheckWord.TheVariants as words
use Rattle.why_witness.specs.declared.witness.Witness.{Witness}
use Rattle.why_witness.specs.declared.witness.Witness.TheVariants as shown
use Rattle.why_witness.specs.Refusals.{IsWitness}
use Rattle.why_witness.specs.Witnesses.{AreSameWitnesses, Breaks, BreaksSet, IsExplained, IsExplanation, IsExpression, IsSame}
use Rattle.why_witness.proofs.OneReason.{one_refusal}
use Rattle.why_walks.specs.Values.{AreLinksAt}
use Rattle.why_walks.specs.Found.{IsWalked}
use Rattle.why_walks.specs.Walks.{AreLinksOn, IsFirstWalk, IsWalk, IsLinkOn, IsNoWalk}
use Rattle.why_walks.specs.declared.run.Link.{Link}
use Rattle.why_walks.proofs.First.{first_walk_same, one_walk}
use Rattle.why_walks.proofs.Meant.{factors_on, has_walks}
use Rattle.why_walks.proofs.Walking.{links_on, walk_same}
use Rattle.why_forbidden.specs.declared.checks.CheckValues.{CheckValues}
use Rattle.why_forbidden.specs.declared.checks.FirstRefusal.{FirstRefusal}
use Rattle.why_forbidden.specs.Checked.{IsChecked, IsFirstRefusal}
use Rattle.why_forbidden.specs.Laws.{AreOver, HasOneFirstRefusal, HasSameStarts, HasWalkBack}
use Rattle.why_forbidden.proofs.Stepping.{through_none}
use Rattle.why_forbidden.specs.Steps.{AreFactorsOn, AreStepStarts, HasNoSteps, HasNoWalkBack, HasSteps, IsWalkBack, AreStartsBack, StepStart, start_at, starts_at, starts_through}

-- ---- no walk where none is found

module _ (check : CheckValues) (k n event : ℕ) (links : List Link)
    (are : AreLinksAt k check.factors.items links) where
  -- the search through these links has found none
  pub no_walk : (AreLinksOn n links → event < n → IsNoWalk links event event)
      → HasNoWalkBack check k n event
  no_walk none all lt others same runs walk =
      none (links_on k n check.factors.items links are all) lt runs
      (walk_same k check.factors.items others links same are event event runs walk)

  -- the search has found one
  pub walk_by : (runs : List (List ℕ)) → IsWalk links event runs event
      → (AreLinksOn n links → event < n → IsFirstWalk links event runs event)
      → (starts : List StepStart) → starts ≡ starts_through check.factors.items runs
      → IsWalkBack check k n event starts
  walk_by runs walk first starts through = record {
    links = links;
    runs = runs;
    linked = are;
    walk = walk;
    first = λ all lt. first (links_on k n check.factors.items links are all) lt;
    through = through;
  }

  -- a relation has at most 128 events
  pub too_many : 128 < n → HasNoSteps check k n event
  too_many more = go links are
    where
      few : (l : Link) → IsLinkOn n l → ⊥
      few l on = omega (arith, more, on.count, on.regular.few)

      go : (ls : List Link) → AreLinksAt k check.factors.items ls → HasNoSteps check k n event
      go [] h =
          inl (record {
            links = [];
            runs = [];
            linked = h;
            walk = refl;
            first = λ all lt. refl;
            through = sym (through_none check.factors.items);
          })
      go (l ∷ ls) h =
          inr (λ all lt others same runs walk.
          absurd (few l (links_on k n check.factors.items (l ∷ ls) h all 0 l (omega arith))))

-- ---- one first check

some_check : (checks : List CheckValues) (i : ℕ) → i < length checks → CheckValues
some_check [] i lt = absurd (omega (arith, lt))
some_check (c ∷ cs) i lt = c

module _ (space : Space) (columns : List (Vec Column Global)) (items : List ResolvedItem)
    (checks : List CheckValues) (k : ℕ) (one : Candidate)
    (over : AreOver space columns items checks k one) where
  one_answer : (i : ℕ) (d : CheckValues) → i < length checks → (f g : Option Witness) → let c =
      get_or checks i d in IsWitness c.check.now c.values k f → IsWitness c.check.now c.values k g
      → AreSameWitnesses f g
  one_answer i d lt f g p q =
      let c : CheckValues = get_or checks i d in
      let checked = over.checked i d lt in
      one_refusal c.check.now c.values k space checked.inputs one (over.expressions i d lt)
      checked.values over.at f g p q

  not_before : (a b : FirstRefusal) → IsFirstRefusal checks k a → IsFirstRefusal checks k b
      → a.index < b.index → ⊥
  not_before a b p q lt =
      let d : CheckValues = some_check checks a.index p.within in
      one_answer a.index d p.within None (Some a.witness) (q.before a.index lt d p.within)
      (p.refuses d)

  one_found : (a b : FirstRefusal) → IsFirstRefusal checks k a → IsFirstRefusal checks k b
      → (a.index ≡ b.index) × IsSame a.witness b.witness
  one_found a b p q = elim (cases_lt a.index b.index) [
    | inl lt ↦ absurd (not_before a b p q lt)
    | inr le ↦ elim (cases_lt b.index a.index) [
      | inl gt ↦ absurd (not_before b a q p gt)
      | inr ge ↦
          let same : b.index ≡ a.index = omega arith in
          let d : CheckValues = some_check checks a.index p.within in
          let there = subst (λ (i : ℕ). let c = get_or checks i d in IsWitness c.check.now c.values k (Some b.witness)) same (q.refuses d) in (
            sym same,
            one_answer a.index d p.within (Some a.witness) (Some b.witness) (p.refuses d)
                there,
          )
    ]
  ]

pub one_first : (space : Space) (checks : List CheckValues) → HasOneFirstRefusal space checks
one_first space checks columns items k one over a b p q =
    one_found space columns items checks k one over a b p q

-- ---- a walk back

broken : (negated : Bool) (A : Type 0) (P : Witness → Type 0) (event : ℕ)
    → IsExplanation negated A P (Some (shown.Reflexive event)) → P (shown.Reflexive event)
broken false A P event h = h
broken true A P event h = absurd h.1

broken_word : (word : CheckWord) (R : ℕ → ℕ → Type 0) (event : ℕ)
    → Breaks word R (shown.Reflexive event) → (word ≡ words.Irreflexive) × R event event
broken_word words.Acyclic R event h = absurd h
broken_word words.Irreflexive R event h = (refl, h.related)
broken_word words.Empty R event h = absurd h

-- the expression relates the event to itself
record IsRelated (check : CheckCode) (n : ℕ) (sets : Source → ℕ → Type 0)
    (outer : Source → ℕ → ℕ → Type 0) (event : ℕ) : Type 0 where
  tree : RelTree
  is : check.code.steps.items ≡ rel_code tree []
  word : check.word ≡ words.Irreflexive
  related : MeansRelation n sets (WithOwn outer (OwnPairs n [])) tree event event
  few : event < n

module _ (check : CheckCode) (n : ℕ) (sets : Source → ℕ → Type 0) (outer : Source → ℕ → ℕ → Type 0)
    (event : ℕ) (s : Events) (r : Relation) where
  of_tree : (t : RelTree) → check.code.steps.items ≡ rel_code t []
      → IsRelation r n (MeansRelation n sets (WithOwn outer (OwnPairs n [])) t)
      → IsExplanation check.negated (Holds check.word (MeansRelation n sets (WithOwn outer (OwnPairs n [])) t))
      (Breaks check.word (MeansRelation n sets (WithOwn outer (OwnPairs n [])) t))
      (Some (shown.Reflexive event)) → IsRelated check n sets outer event
  of_tree t is are h =
      let R = MeansRelation n sets (WithOwn outer (OwnPairs n [])) t in
      let b = broken_word check.word R event (broken check.negated (Holds check.word R) (Breaks check.word R) event h) in
      let inside : event < r.count = (are.regular.within event event ((are.pairs event event).1 b.1)).0 in
      record { tree = t; is = is; word = b.0; related = b.1; few = subst (λ (m : ℕ). event < m) are.count inside }

  is_related : (kind : Kind) → IsExpression kind check.code.steps.items
      → IsMeaning kind check.code.steps.items n sets outer s r
      → IsExplained check n sets outer kind (Some (shown.Reflexive event))
      → IsRelated check n sets outer event
  is_related kinds.OfSet (t, is) meant h =
      absurd (broken check.negated (IsEmptySet (MeansSet n sets t)) (BreaksSet (MeansSet n sets t))
      event (h t is))
  is_related kinds.OfRelation (t, is) meant h = of_tree t is (meant t is) (h t is)
  is_related kinds.OfAny (t, is) meant h = of_tree t is (meant t is) (h t is)

-- a walk through the factors leads from the event back to it
record IsShown (check : CheckValues) (k n event : ℕ) : Type 0 where
  on : AreFactorsOn check k n
  few : event < n
  walked : IsWalked k check.factors.items event event

module _ (space : Space) (check : CheckValues) (columns : List (Vec Column Global))
    (items : List ResolvedItem) (k : ℕ) (one : Candidate)
    (over : AreOver space columns items (check ∷ []) k one) where
  is_shown : (event : ℕ)
      → IsWitness check.check.now check.values k (Some (shown.Reflexive event))
      → IsShown check k (events_of one) event
  is_shown event refuses =
      let checked : IsChecked space columns items check = over.checked 0 check (omega arith) in
      let code = check.check.now.code in
      let n : ℕ = events_of one in
      let (s, r, has, meant) = checked.values.values k one over.at in
      let is = is_related check.check.now n (EventsAt n one checked.inputs k) (PairsAt n one checked.inputs k) event s r code.kind (over.expressions 0 check (omega arith)) meant
      (refuses space checked.inputs one checked.values over.at) in
      let values = checked.factors is.word in
      record {
        on =
            factors_on code checked.inputs space check.factors.items values is.tree is.is k one
            over.at;
        few = is.few;
        walked =
            has_walks code space check.factors.items checked.inputs values is.tree is.is k one
            over.at event event is.related;
      }

  walk_is_back : (event : ℕ) (starts : List StepStart)
      → IsWitness check.check.now check.values k (Some (shown.Reflexive event))
      → AreStartsBack check k (events_of one) event starts
      → HasSteps check k (events_of one) event starts
      ⊎ ((starts ≡ start_at check.check.now.code event ∷ [])
      × IsWalkBack check k (events_of one) event [])
  walk_is_back event starts refuses back = elim back [
    | inl steps ↦ inl steps
    | inr whole ↦ elim whole.1 [
      | inl stays ↦ inr (whole.0, stays)
      | inr none ↦
          let is : IsShown check k (events_of one) event = is_shown event refuses in
          let (links, runs, linked, walk) = is.walked in
          absurd (none is.on is.few links linked runs walk)
    ]
  ]

pub walk_back : (space : Space) (check : CheckValues) → HasWalkBack space check
walk_back space check columns items k one over event starts refuses back =
    walk_is_back space check columns items k one over event starts refuses back

-- ---- the same steps

one_back : (check : CheckValues) (k n event : ℕ) (starts others : List StepStart)
    → IsShown check k n event → IsWalkBack check k n event starts
    → IsWalkBack check k n event others → starts ≡ others
one_back check k n event starts others is p q =
    let same = first_walk_same k check.factors.items q.links p.links q.linked p.linked event event q.runs (q.first is.on is.few) in
    let runs : p.runs ≡ q.runs = one_walk p.links event event p.runs q.runs (p.first is.on is.few) same in
    p.through ∙ ap (starts_through check.factors.items) runs ∙ sym q.through

no_step : (starts : List StepStart) → 0 < length starts → starts ≡ [] → ⊥
no_step starts lt e = omega (arith, lt, ap (λ (l : List StepStart). length l) e)

module _ (space : Space) (check : CheckValues) (columns : List (Vec Column Global))
    (items : List ResolvedItem) (k : ℕ) (one : Candidate)
    (over : AreOver space columns items (check ∷ []) k one) where
  same_back : (event : ℕ) (starts others : List StepStart)
      → IsWitness check.check.now check.values k (Some (shown.Reflexive event))
      → AreStartsBack check k (events_of one) event starts
      → AreStartsBack check k (events_of one) event others → starts ≡ others
  same_back event starts others refuses p q =
      let n : ℕ = events_of one in
      let is : IsShown check k n event = is_shown space check columns items k one over event refuses in
      elim (walk_is_back space check columns items k one over event starts refuses p) [
        | inl p1 ↦ elim (walk_is_back space check columns items k one over event others refuses q) [
          | inl q1 ↦ one_back check k n event starts others is p1.0 q1.0
          | inr q1 ↦ absurd (no_step starts p1.1
              (one_back check k n event starts [] is p1.0 q1.1))
        ]
        | inr p1 ↦ elim (walk_is_back space check columns items k one over event others refuses q) [
          | inl q1 ↦ absurd (no_step others q1.1
              (one_back check k n event others [] is q1.0 p1.1))
          | inr q1 ↦ p1.0 ∙ sym q1.0
        ]
      ]

  same_starts : (v w : Witness) → IsSame v w
      → IsWitness check.check.now check.values k (Some v) → (starts others : List StepStart)
      → AreStepStarts check k (events_of one) v starts → AreStepStarts check k (events_of one) w others
      → starts ≡ others
  same_starts (shown.Cycle xs) (shown.Cycle ys) same refuses starts others p q =
      p ∙ ap (starts_at check.check.now.code) same ∙ sym q
  same_starts (shown.Cycle xs) (shown.Reflexive b) same refuses starts others p q = absurd same
  same_starts (shown.Cycle xs) (shown.Pair b c) same refuses starts others p q = absurd same
  same_starts (shown.Cycle xs) (shown.Member b) same refuses starts others p q = absurd same
  same_starts (shown.Cycle xs) shown.Met same refuses starts others p q = absurd same
  same_starts (shown.Reflexive a) (shown.Cycle ys) same refuses starts others p q = absurd same
  same_starts (shown.Reflexive a) (shown.Reflexive b) same refuses starts others p q =
      same_back a starts others refuses p
      (subst (λ (e : ℕ). AreStartsBack check k (events_of one) e others) (sym same) q)
  same_starts (shown.Reflexive a) (shown.Pair b c) same refuses starts others p q = absurd same
  same_starts (shown.Reflexive a) (shown.Member b) same refuses starts others p q = absurd same
  same_starts (shown.Reflexive a) shown.Met same refuses starts others p q = absurd same
  same_starts (shown.Pair a x) (shown.Cycle ys) same refuses starts others p q = absurd same
  same_starts (shown.Pair a x) (shown.Reflexive b) same refuses starts others p q = absurd same
  same_starts (shown.Pair a x) (shown.Pair b c) same refuses starts others p q =
      p ∙ ap (λ (e : ℕ). start_at check.check.now.code e ∷ []) same.0 ∙ sym q
  same_starts (shown.Pair a x) (shown.Member b) same refuses starts others p q = absurd same
  same_starts (shown.Pair a x) shown.Met same refuses starts others p q = absurd same
  same_starts (shown.Member a) (shown.Cycle ys) same refuses starts others p q = absurd same
  same_starts (shown.Member a) (shown.Reflexive b) same refuses starts others p q = absurd same
  same_starts (shown.Member a) (shown.Pair b c) same refuses starts others p q = absurd same
  same_starts (shown.Member a) (shown.Member b) same refuses starts others p q = p ∙ sym q
  same_starts (shown.Member a) shown.Met same refuses starts others p q = absurd same
  same_starts shown.Met (shown.Cycle ys) same refuses starts others p q = absurd same
  same_starts shown.Met (shown.Reflexive b) same refuses starts others p q = absurd same
  same_starts shown.Met (shown.Pair b c) same refuses starts others p q = absurd same
  same_starts shown.Met (shown.Member b) same refuses starts others p q = absurd same
  same_starts shown.Met shown.Met same refuses starts others p q = p ∙ sym q

pub has_same_starts : (space : Space) (check : CheckValues) → HasSameStarts space check
has_same_starts space check columns items k one over v w p q starts others =
    let checked : IsChecked space columns items check = over.checked 0 check (omega arith) in
    let same : IsSame v w = one_refusal check.check.now check.values k space checked.inputs one (over.expressions 0 check (omega arith)) checked.values over.at (Some v) (Some w) p q in
    same_starts space check columns items k one over v w same p starts others
