-- What the expression of a check means, by its steps; and why it refuses a candidate.
use Rattle.std.proofs.Common.{ℕ, ◌≡◌, ◌<◌, ◌↔◌, List, [], ◌∷◌, Bool, true, false, IsTrue, Option, Some, None, refl, sym, subst, ◌∙◌, true≢false}
use Rattle.text_values.specs.declared.model.CheckWord.{CheckWord}
use Rattle.text_values.specs.declared.model.CheckWord.TheVariants as words
use Rattle.std.proofs.lemmas.Option.{same_Some}
use Rattle.bit_rows.specs.Relation.{Relation, Events, Has, IsRelation, IsEvents}
use Rattle.relation_cycles.specs.Cycles.{Path, IsCycle}
use Rattle.binding_kinds.specs.declared.kinds.Kind.{Kind}
use Rattle.binding_kinds.specs.declared.kinds.Kind.TheVariants as kinds
use Rattle.binding_kinds.specs.Fits.{IsKnown}
use Rattle.binding_kinds.specs.Kinds.{takes_body}
use Rattle.binding_graph.specs.declared.resolved.CheckCode.{CheckCode}
use Rattle.binding_graph.specs.declared.resolved.Source.{Source}
use Rattle.binding_graph.specs.declared.resolved.Step.{Step}
use Rattle.binding_graph.specs.Meaning.{steps_of}
use Rattle.binding_graph.specs.Trees.{SetTree, RelTree, set_code, rel_code}
use Rattle.cat_machine.specs.declared.column.Column.{Column}
use Rattle.cat_machine.specs.declared.column.Column.TheVariants as columns
use Rattle.cat_machine.specs.Checks.{Holds, IsEmptySet}
use Rattle.cat_machine.specs.Columns.{HasColumnValue}
use Rattle.cat_machine.specs.Meaning.{MeansSet, MeansRelation}
use Rattle.cat_machine.specs.Named.{OwnPairs, WithOwn}
use Rattle.cat_machine.specs.Values.{Unless, IsCheckAnswer, IsFor, IsMeaning}
use Rattle.why_witness.specs.declared.witness.Witness.{Witness}
use Rattle.why_witness.specs.declared.witness.Witness.TheVariants as shown
use Rattle.why_witness.specs.Pairs as program
use Rattle.why_witness.specs.Witnesses.{Breaks, BreaksSet, IsMetWitness, IsExplanation, IsExplained}
use Rattle.meaning.specs.Cat.{Meaning, ASet, ARelation, Nothing, HasPair, HasProperty, NegatedIf}
use Rattle.meaning_items.specs.Alike.{IsAs}
use Rattle.meaning_items.proofs.Checks.{check_met}

-- what shows that what is meant has not the property
abbrev pub IsShownByNumber : CheckWord → Meaning ℕ → Witness → Type 0
IsShownByNumber words.Acyclic (ARelation Q) (shown.Cycle events) = IsCycle Q events.items
IsShownByNumber words.Irreflexive (ARelation Q) (shown.Reflexive a) = Q a a
IsShownByNumber words.Empty (ARelation Q) (shown.Pair a b) = Q a b
IsShownByNumber words.Empty (ASet S) (shown.Member a) = S a
IsShownByNumber word m witness = ⊥

-- why a check is not met
abbrev pub IsUnmetBy : Bool → CheckWord → Meaning ℕ → Witness → Type 0
IsUnmetBy false word m witness = IsShownByNumber word m witness
IsUnmetBy true word m witness = HasProperty word m × IsMetWitness witness

module _ (n : ℕ) (sets : Source → ℕ → Type 0) (outer : Source → ℕ → ℕ → Type 0) (S : SetTree)
    (R : RelTree) where
  abbrev Pairs : ℕ → ℕ → Type 0
  Pairs = MeansRelation n sets (WithOwn outer (OwnPairs n [])) R

  -- what is meant is what the steps mean
  pub record IsMeantBy (K : Kind) (steps : List Step) (m : Meaning ℕ) : Type 0 where
    pub known : IsKnown K
    pub made : steps ≡ steps_of K S R
    pub like : IsAs K m (MeansSet n sets S) Pairs

  -- ---- below the number of events

  pub pair_below : (K : Kind) (steps : List Step) (m : Meaning ℕ) → IsMeantBy K steps m
      → (s : Events) (r : Relation) → IsMeaning K steps n sets outer s r → (a b : ℕ)
      → HasPair m a b → (a < n) × (b < n)
  pair_below kinds.OfSet steps (ASet T) h s r means a b p = absurd p
  pair_below kinds.OfSet steps (ARelation Q) h s r means a b p = absurd h.like
  pair_below kinds.OfSet steps Nothing h s r means a b p = absurd p
  pair_below kinds.OfRelation steps (ASet T) h s r means a b p = absurd p
  pair_below kinds.OfRelation steps (ARelation Q) h s r means a b p =
      let is : IsRelation r n Pairs = means R h.made in
      let within : _ = is.regular.within a b ((is.pairs a b).1 ((h.like a b).0 p)) in (
        subst (λ (c : ℕ). a < c) is.count within.0,
        subst (λ (c : ℕ). b < c) is.count within.1,
      )
  pair_below kinds.OfRelation steps Nothing h s r means a b p = absurd p
  pair_below kinds.OfAny steps m h s r means a b p = absurd h.known

  pub member_below : (K : Kind) (steps : List Step) (T : ℕ → Type 0)
      → IsMeantBy K steps (ASet T) → (s : Events) (r : Relation)
      → IsMeaning K steps n sets outer s r → (a : ℕ) → T a → a < n
  member_below kinds.OfSet steps T h s r means a p =
      let is : IsEvents s n (MeansSet n sets S) = means S h.made in
      is.within a ((is.members a).1 ((h.like a).0 p))
  member_below kinds.OfRelation steps T h s r means a p = absurd h.like
  member_below kinds.OfAny steps T h s r means a p = absurd h.known

  -- the pairs of a column are those of what is meant
  pub column_pairs : (K : Kind) (steps : List Step) (m : Meaning ℕ) → IsMeantBy K steps m
      → (column : Column) → IsFor K column → (k : ℕ) (s : Events) (r : Relation)
      → HasColumnValue column k s r → IsMeaning K steps n sets outer s r → (a b : ℕ)
      → program.HasPair column k a b ↔ HasPair m a b
  column_pairs kinds.OfSet steps (ASet T) h (columns.Sets values) suits k s r at means a b =
      (λ p. absurd p, λ p. absurd p)
  column_pairs kinds.OfSet steps (ARelation Q) h (columns.Sets values) suits k s r at means a b =
      absurd h.like
  column_pairs kinds.OfSet steps Nothing h (columns.Sets values) suits k s r at means a b =
      (λ p. absurd p, λ p. absurd p)
  column_pairs kinds.OfSet steps m h (columns.Relations values) suits k s r at means a b =
      absurd suits
  column_pairs kinds.OfRelation steps m h (columns.Sets values) suits k s r at means a b =
      absurd suits
  column_pairs kinds.OfRelation steps (ASet T) h (columns.Relations values) suits k s r at means a b =
      absurd h.like
  column_pairs kinds.OfRelation steps Nothing h (columns.Relations values) suits k s r at means a b =
      absurd h.like
  column_pairs kinds.OfRelation steps (ARelation Q) h (columns.Relations values) suits k s r at means a b =
      let is : IsRelation r n Pairs = means R h.made in (
        λ p. (h.like a b).1
            ((is.pairs a b).0
            (subst (λ (x : Relation). Has x a b) (same_Some _ _ (sym p.1 ∙ at)) p.2)),
        λ p. (r, at, (is.pairs a b).1 ((h.like a b).0 p)),
      )
  column_pairs kinds.OfAny steps m h column suits k s r at means a b = absurd h.known

  -- ---- checks that are met

  -- a check without a witness is met
  accepted : (b : Bool) (Asked : Type 0) (Broken : Witness → Type 0)
      → IsExplanation b Asked Broken None → Unless b Asked
  accepted false Asked Broken h = h
  accepted true Asked Broken h = h

  -- one with a witness is not
  refused : (b : Bool) (Asked : Type 0) (Broken : Witness → Type 0)
      → ((w : Witness) → Broken w → Asked → ⊥) → (w : Witness)
      → IsExplanation b Asked Broken (Some w) → Unless b Asked → ⊥
  refused false Asked Broken never w h u = never w h u
  refused true Asked Broken never w h u = u h.0

  set_breaks : (T : ℕ → Type 0) (w : Witness) → BreaksSet T w → IsEmptySet T → ⊥
  set_breaks T (shown.Member a) h none = none a h.member
  set_breaks T (shown.Cycle events) h none = absurd h
  set_breaks T (shown.Reflexive a) h none = absurd h
  set_breaks T (shown.Pair a b) h none = absurd h
  set_breaks T shown.Met h none = absurd h

  cycle_back : (Q : ℕ → ℕ → Type 0) (events : List ℕ) → IsCycle Q events
      → Holds words.Acyclic Q → ⊥
  cycle_back Q [] h none = absurd h
  cycle_back Q (x ∷ xs) h none = none x (xs, h)

  relation_breaks : (word : CheckWord) (Q : ℕ → ℕ → Type 0) (w : Witness) → Breaks word Q w
      → Holds word Q → ⊥
  relation_breaks words.Acyclic Q (shown.Cycle events) h none =
      cycle_back Q events.items h.cycle none
  relation_breaks words.Irreflexive Q (shown.Reflexive a) h none = none a h.related
  relation_breaks words.Empty Q (shown.Pair a b) h none = none a b h.related
  relation_breaks words.Acyclic Q (shown.Reflexive a) h none = absurd h
  relation_breaks words.Acyclic Q (shown.Pair a b) h none = absurd h
  relation_breaks words.Acyclic Q (shown.Member a) h none = absurd h
  relation_breaks words.Acyclic Q shown.Met h none = absurd h
  relation_breaks words.Irreflexive Q (shown.Cycle events) h none = absurd h
  relation_breaks words.Irreflexive Q (shown.Pair a b) h none = absurd h
  relation_breaks words.Irreflexive Q (shown.Member a) h none = absurd h
  relation_breaks words.Irreflexive Q shown.Met h none = absurd h
  relation_breaks words.Empty Q (shown.Cycle events) h none = absurd h
  relation_breaks words.Empty Q (shown.Reflexive a) h none = absurd h
  relation_breaks words.Empty Q (shown.Member a) h none = absurd h
  relation_breaks words.Empty Q shown.Met h none = absurd h

  answer_true : (b : Bool) (P : Type 0) → Unless b P → IsTrue true ↔ Unless b P
  answer_true b P u = (λ e. u, λ h. refl)

  answer_false : (b : Bool) (P : Type 0) → (Unless b P → ⊥) → IsTrue false ↔ Unless b P
  answer_false b P never = (λ e. absurd (true≢false (sym e)), λ h. absurd (never h))

  accepts_true : (check : CheckCode) (K : Kind) → IsExplained check n sets outer K None
      → IsCheckAnswer check n sets outer K true
  accepts_true check kinds.OfSet h = λ t e.
      answer_true check.negated _ (accepted check.negated _ _ (h t e))
  accepts_true check kinds.OfRelation h = λ t e.
      answer_true check.negated _ (accepted check.negated _ _ (h t e))
  accepts_true check kinds.OfAny h = λ t e.
      answer_true check.negated _ (accepted check.negated _ _ (h t e))

  refuses_false : (check : CheckCode) (K : Kind) (w : Witness)
      → IsExplained check n sets outer K (Some w) → IsCheckAnswer check n sets outer K false
  refuses_false check kinds.OfSet w h = λ t e.
      answer_false check.negated _
      (refused check.negated _ _ (set_breaks (MeansSet n sets t)) w (h t e))
  refuses_false check kinds.OfRelation w h = λ t e.
      answer_false check.negated _
      (refused check.negated _ _
      (relation_breaks check.word (MeansRelation n sets (WithOwn outer (OwnPairs n [])) t)) w (h t e))
  refuses_false check kinds.OfAny w h = λ t e.
      answer_false check.negated _
      (refused check.negated _ _
      (relation_breaks check.word (MeansRelation n sets (WithOwn outer (OwnPairs n [])) t)) w (h t e))

  module _ (check : CheckCode) (K : Kind) (m : Meaning ℕ)
      (meant : IsMeantBy K check.code.steps.items m) (takes : IsTrue (takes_body check.word K)) where
    pub is_met : IsExplained check n sets outer K None
        → NegatedIf check.negated (HasProperty check.word m)
    is_met h =
        (check_met check n sets outer K meant.known true (accepts_true check K h) S R meant.made m
        meant.like takes).0 refl

    pub is_unmet : (w : Witness) → IsExplained check n sets outer K (Some w)
        → NegatedIf check.negated (HasProperty check.word m) → ⊥
    is_unmet w h met =
        true≢false
        (sym
        ((check_met check n sets outer K meant.known false (refuses_false check K w h) S R meant.made
        m meant.like takes).1 met))

  -- what a negated check asks for
  abbrev plain : CheckCode → CheckCode
  plain check = record check { negated = false }

  asked : (Asked : Type 0) (Broken : Witness → Type 0) (b : Bool) (w : Witness) → b ≡ true
      → IsExplanation b Asked Broken (Some w) → Asked × IsMetWitness w
  asked Asked Broken b w negated h =
      subst (λ (c : Bool). IsExplanation c Asked Broken (Some w)) negated h

  asks_true : (check : CheckCode) (K : Kind) (w : Witness) → check.negated ≡ true
      → IsExplained check n sets outer K (Some w) → IsCheckAnswer (plain check) n sets outer K true
  asks_true check kinds.OfSet w negated h = λ t e.
      answer_true false _ (asked _ _ check.negated w negated (h t e)).0
  asks_true check kinds.OfRelation w negated h = λ t e.
      answer_true false _ (asked _ _ check.negated w negated (h t e)).0
  asks_true check kinds.OfAny w negated h = λ t e.
      answer_true false _ (asked _ _ check.negated w negated (h t e)).0

  -- ---- witnesses

  set_shown : (word : CheckWord) (m : Meaning ℕ) (w : Witness)
      → IsTrue (takes_body word kinds.OfSet) → IsAs kinds.OfSet m (MeansSet n sets S) Pairs
      → BreaksSet (MeansSet n sets S) w → IsShownByNumber word m w
  set_shown words.Empty (ASet T) (shown.Member a) takes like h = (like a).1 h.member
  set_shown words.Empty (ASet T) (shown.Cycle events) takes like h = absurd h
  set_shown words.Empty (ASet T) (shown.Reflexive a) takes like h = absurd h
  set_shown words.Empty (ASet T) (shown.Pair a b) takes like h = absurd h
  set_shown words.Empty (ASet T) shown.Met takes like h = absurd h
  set_shown words.Acyclic m w takes like h = absurd (true≢false (sym takes))
  set_shown words.Irreflexive m w takes like h = absurd (true≢false (sym takes))
  set_shown words.Empty (ARelation Q) w takes like h = absurd like
  set_shown words.Empty Nothing w takes like h = absurd like

  path_as : (Q : ℕ → ℕ → Type 0) → ((a b : ℕ) → Q a b ↔ Pairs a b) → (x : ℕ) (xs : List ℕ)
      (end : ℕ) → Path Pairs x xs end → Path Q x xs end
  path_as Q like x [] end h = (like x end).1 h
  path_as Q like x (c ∷ cs) end h = ((like x c).1 h.0, path_as Q like c cs end h.1)

  cycle_as : (Q : ℕ → ℕ → Type 0) → ((a b : ℕ) → Q a b ↔ Pairs a b) → (events : List ℕ)
      → IsCycle Pairs events → IsCycle Q events
  cycle_as Q like [] h = h
  cycle_as Q like (x ∷ xs) h = path_as Q like x xs x h

  relation_shown : (word : CheckWord) (m : Meaning ℕ) (w : Witness)
      → IsAs kinds.OfRelation m (MeansSet n sets S) Pairs → Breaks word Pairs w
      → IsShownByNumber word m w
  relation_shown words.Acyclic (ARelation Q) (shown.Cycle events) like h =
      cycle_as Q like events.items h.cycle
  relation_shown words.Irreflexive (ARelation Q) (shown.Reflexive a) like h = (like a a).1 h.related
  relation_shown words.Empty (ARelation Q) (shown.Pair a b) like h = (like a b).1 h.related
  relation_shown words.Acyclic (ARelation Q) (shown.Reflexive a) like h = absurd h
  relation_shown words.Acyclic (ARelation Q) (shown.Pair a b) like h = absurd h
  relation_shown words.Acyclic (ARelation Q) (shown.Member a) like h = absurd h
  relation_shown words.Acyclic (ARelation Q) shown.Met like h = absurd h
  relation_shown words.Irreflexive (ARelation Q) (shown.Cycle events) like h = absurd h
  relation_shown words.Irreflexive (ARelation Q) (shown.Pair a b) like h = absurd h
  relation_shown words.Irreflexive (ARelation Q) (shown.Member a) like h = absurd h
  relation_shown words.Irreflexive (ARelation Q) shown.Met like h = absurd h
  relation_shown words.Empty (ARelation Q) (shown.Cycle events) like h = absurd h
  relation_shown words.Empty (ARelation Q) (shown.Reflexive a) like h = absurd h
  relation_shown words.Empty (ARelation Q) (shown.Member a) like h = absurd h
  relation_shown words.Empty (ARelation Q) shown.Met like h = absurd h
  relation_shown word (ASet T) w like h = absurd like
  relation_shown word Nothing w like h = absurd like

  -- of a check that is not negated
  pub is_shown : (check : CheckCode) (K : Kind) (m : Meaning ℕ)
      → IsMeantBy K check.code.steps.items m → IsTrue (takes_body check.word K) → (w : Witness)
      → check.negated ≡ false → IsExplained check n sets outer K (Some w)
      → IsShownByNumber check.word m w
  is_shown check kinds.OfSet m meant takes w plain h =
      set_shown check.word m w takes meant.like
      (subst
      (λ (b : Bool). IsExplanation b (IsEmptySet (MeansSet n sets S)) (BreaksSet (MeansSet n sets S)) (Some w))
      plain (h S meant.made))
  is_shown check kinds.OfRelation m meant takes w plain h =
      relation_shown check.word m w meant.like
      (subst (λ (b : Bool). IsExplanation b (Holds check.word Pairs) (Breaks check.word Pairs) (Some w))
      plain (h R meant.made))
  is_shown check kinds.OfAny m meant takes w plain h = absurd meant.known

  -- of one that is negated
  pub is_asked : (check : CheckCode) (K : Kind) (m : Meaning ℕ)
      → IsMeantBy K check.code.steps.items m → IsTrue (takes_body check.word K) → (w : Witness)
      → check.negated ≡ true → IsExplained check n sets outer K (Some w)
      → HasProperty check.word m × IsMetWitness w
  is_asked check K m meant takes w negated h = (
    (check_met (plain check) n sets outer K meant.known true (asks_true check K w negated h) S R
        meant.made m meant.like takes).0 refl,
    met K meant.known meant.made h,
  )
    where
      met : (K : Kind) → IsKnown K → check.code.steps.items ≡ steps_of K S R
          → IsExplained check n sets outer K (Some w) → IsMetWitness w
      met kinds.OfSet known made h = (asked _ _ check.negated w negated (h S made)).1
      met kinds.OfRelation known made h = (asked _ _ check.negated w negated (h R made)).1
      met kinds.OfAny known made h = absurd known
