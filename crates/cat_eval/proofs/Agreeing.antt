-- Where the names of an expression stand for the same events and pairs, the expression means the
-- same.
use Rattle.std.proofs.Common.{ℕ, ◌≡◌, ◌<◌, List, [], ◌∷◌, length, get_or, Contains, zero, suc, IsTrue, arith, refl}
use Rattle.std.proofs.lemmas.List.Elements.{Contains-append_left, Contains-append_right}
use Rattle.bit_rows.specs.Relation.{Relation}
use Rattle.predefined_names.specs.declared.predefined.Predefined.{Predefined}
use Rattle.binding_graph.specs.declared.resolved.Body.{Body}
use Rattle.binding_graph.specs.declared.resolved.Source.{Source}
use Rattle.binding_graph.specs.declared.resolved.Source.TheVariants as sources
use Rattle.binding_graph.specs.declared.resolved.Step.{Step}
use Rattle.binding_graph.specs.declared.resolved.Step.TheVariants as steps
use Rattle.binding_graph.specs.Trees.{SetTree, SetName, AllEvents, NoEvent, BlendSets, ComplementSet, RelTree, RelName, NoPair, BlendRelations, SequenceRelations, ProductOfSets, IdentityOn, Close, ComplementRelation, set_code, rel_code}
use Rattle.cat_machine.specs.Least.{IsLeast, body}
use Rattle.cat_machine.specs.Meaning.{MeansSet, MeansRelation}
use Rattle.cat_machine.specs.Named.{WithOwn, OwnPairs}
use Rattle.cat_eval.specs.Needed.{source_names, step_names, predefined_names_in, bodies_names}
use Rattle.cat_machine.specs.Rising.{AreCodes}
use Rattle.cat_machine.proofs.Same.{Same, SameSet, same_sets, same_others, same_blend, same_then, same_cross, same_on, same_close, same_turn}

-- ---- what holds of each name that a list of steps pushes holds of each name of its tree

module _ (P : Source → Type 0) where
  abbrev pub OfSet : SetTree → Type 0
  OfSet (SetName source) = P source
  OfSet AllEvents = Unit {0}
  OfSet NoEvent = Unit {0}
  OfSet (BlendSets how s t) = OfSet s × OfSet t
  OfSet (ComplementSet s) = OfSet s

  abbrev pub OfRelation : RelTree → Type 0
  OfRelation (RelName source) = P source
  OfRelation NoPair = Unit {0}
  OfRelation (BlendRelations how e f) = OfRelation e × OfRelation f
  OfRelation (SequenceRelations e f) = OfRelation e × OfRelation f
  OfRelation (ProductOfSets s t) = OfSet s × OfSet t
  OfRelation (IdentityOn s) = OfSet s
  OfRelation (Close how e) = OfRelation e
  OfRelation (ComplementRelation e) = OfRelation e

  abbrev pub OfStep : Step → Type 0
  OfStep (steps.PushSet source) = P source
  OfStep steps.PushEverything = Unit {0}
  OfStep steps.PushNoEvents = Unit {0}
  OfStep (steps.BlendSets how) = Unit {0}
  OfStep steps.ComplementSet = Unit {0}
  OfStep (steps.PushRelation source) = P source
  OfStep steps.PushNoPairs = Unit {0}
  OfStep (steps.BlendRelations how) = Unit {0}
  OfStep steps.SequenceRelations = Unit {0}
  OfStep steps.ProductOfSets = Unit {0}
  OfStep steps.IdentityOn = Unit {0}
  OfStep (steps.Close how) = Unit {0}
  OfStep steps.ComplementRelation = Unit {0}

  abbrev pub OfSteps : List Step → Type 0
  OfSteps [] = Unit {0}
  OfSteps (x ∷ xs) = OfStep x × OfSteps xs

  pub set_parts : (t : SetTree) (rest : List Step) → OfSteps (set_code t rest)
      → OfSet t × OfSteps rest
  set_parts (SetName source) rest h = h
  set_parts AllEvents rest h = h
  set_parts NoEvent rest h = h
  set_parts (BlendSets how s t) rest h =
      let one = set_parts s (set_code t (steps.BlendSets how ∷ rest)) h in
      let two = set_parts t (steps.BlendSets how ∷ rest) one.1 in
      ((one.0, two.0), two.1.1)
  set_parts (ComplementSet s) rest h =
      let one = set_parts s (steps.ComplementSet ∷ rest) h in
      (one.0, one.1.1)

  pub relation_parts : (e : RelTree) (rest : List Step) → OfSteps (rel_code e rest)
      → OfRelation e × OfSteps rest
  relation_parts (RelName source) rest h = h
  relation_parts NoPair rest h = h
  relation_parts (BlendRelations how e f) rest h =
      let one = relation_parts e (rel_code f (steps.BlendRelations how ∷ rest)) h in
      let two = relation_parts f (steps.BlendRelations how ∷ rest) one.1 in
      ((one.0, two.0), two.1.1)
  relation_parts (SequenceRelations e f) rest h =
      let one = relation_parts e (rel_code f (steps.SequenceRelations ∷ rest)) h in
      let two = relation_parts f (steps.SequenceRelations ∷ rest) one.1 in
      ((one.0, two.0), two.1.1)
  relation_parts (ProductOfSets s t) rest h =
      let one = set_parts s (set_code t (steps.ProductOfSets ∷ rest)) h in
      let two = set_parts t (steps.ProductOfSets ∷ rest) one.1 in
      ((one.0, two.0), two.1.1)
  relation_parts (IdentityOn s) rest h =
      let one = set_parts s (steps.IdentityOn ∷ rest) h in
      (one.0, one.1.1)
  relation_parts (Close how e) rest h =
      let one = relation_parts e (steps.Close how ∷ rest) h in
      (one.0, one.1.1)
  relation_parts (ComplementRelation e) rest h =
      let one = relation_parts e (steps.ComplementRelation ∷ rest) h in
      (one.0, one.1.1)

  module _ (input : (index : ℕ) → P (sources.Input index))
      (own : (position : ℕ) → P (sources.Own position)) where
    of_source : (source : Source)
        → ((name : Predefined) → Contains (source_names source) name → P (sources.Predefined name))
        → P source
    of_source (sources.Predefined name) named = named name (0, omega arith, refl)
    of_source (sources.Input index) named = input index
    of_source (sources.Own position) named = own position

    of_step : (x : Step)
        → ((name : Predefined) → Contains (step_names x) name → P (sources.Predefined name))
        → OfStep x
    of_step (steps.PushSet source) named = of_source source named
    of_step steps.PushEverything named = tt
    of_step steps.PushNoEvents named = tt
    of_step (steps.BlendSets how) named = tt
    of_step steps.ComplementSet named = tt
    of_step (steps.PushRelation source) named = of_source source named
    of_step steps.PushNoPairs named = tt
    of_step (steps.BlendRelations how) named = tt
    of_step steps.SequenceRelations named = tt
    of_step steps.ProductOfSets named = tt
    of_step steps.IdentityOn named = tt
    of_step (steps.Close how) named = tt
    of_step steps.ComplementRelation named = tt

    pub of_steps : (xs : List Step)
        → ((name : Predefined) → Contains (predefined_names_in xs) name → P (sources.Predefined name))
        → OfSteps xs
    of_steps [] named = tt
    of_steps (x ∷ xs) named = (
      of_step x (λ name inside.
          named name (Contains-append_left (step_names x) (predefined_names_in xs) name inside)),
      of_steps xs (λ name inside.
          named name (Contains-append_right (step_names x) (predefined_names_in xs) name inside)),
    )

-- the names of one body are among those of the group
pub body_named : (bodies : List Body) (j : ℕ) → j < length bodies → (b : Body) (name : Predefined)
    → Contains (predefined_names_in (get_or bodies j b).code.steps.items) name
    → Contains (bodies_names bodies) name
body_named [] j lt b name inside = absurd (omega (arith, lt))
body_named (c ∷ cs) zero lt b name inside =
    Contains-append_left (predefined_names_in c.code.steps.items) (bodies_names cs) name inside
body_named (c ∷ cs) (suc j) lt b name inside =
    Contains-append_right (predefined_names_in c.code.steps.items) (bodies_names cs) name
    (body_named cs j (omega (arith, lt)) b name inside)

-- a tree of the group is that of a body, whose names are among those of the group
pub code_at : (trees : List RelTree) (bodies : List Body) → AreCodes trees bodies → (x : ℕ)
    → x < length trees
    → (b : Body) × (b.code.steps.items ≡ rel_code (body trees x) [])
    × ((name : Predefined) → Contains (predefined_names_in b.code.steps.items) name
    → Contains (bodies_names bodies) name)
code_at [] bodies codes x lt = absurd (omega (arith, lt))
code_at (t ∷ ts) [] codes x lt = absurd codes
code_at (t ∷ ts) (c ∷ cs) codes zero lt = (
  c,
  codes.0,
  (λ name inside.
      Contains-append_left (predefined_names_in c.code.steps.items) (bodies_names cs) name inside),
)
code_at (t ∷ ts) (c ∷ cs) codes (suc x) lt =
    let (b, is, within) = code_at ts cs codes.1 x (omega (arith, lt)) in (
      b,
      is,
      (λ name inside. Contains-append_right (predefined_names_in c.code.steps.items) (bodies_names cs)
          name (within name inside)),
    )

-- ---- two ways for names to stand for events and pairs

module _ (n : ℕ) (sets others : Source → ℕ → Type 0) (rels further : Source → ℕ → ℕ → Type 0) where
  abbrev pub Agree : Source → Type 0
  Agree source = SameSet (sets source) (others source) × Same (rels source) (further source)

  pub set_agrees : (t : SetTree) → OfSet Agree t → SameSet (MeansSet n sets t) (MeansSet n others t)
  set_agrees (SetName source) h = h.0
  set_agrees AllEvents h = λ a. ((λ x. x), (λ x. x))
  set_agrees NoEvent h = λ a. ((λ x. x), (λ x. x))
  set_agrees (BlendSets how s t) h = same_sets how _ _ _ _ (set_agrees s h.0) (set_agrees t h.1)
  set_agrees (ComplementSet s) h = same_others n _ _ (set_agrees s h)

  pub relation_agrees : (e : RelTree) → OfRelation Agree e
      → Same (MeansRelation n sets rels e) (MeansRelation n others further e)
  relation_agrees (RelName source) h = h.1
  relation_agrees NoPair h = λ a b. ((λ x. x), (λ x. x))
  relation_agrees (BlendRelations how e f) h =
      same_blend how _ _ _ _ (relation_agrees e h.0) (relation_agrees f h.1)
  relation_agrees (SequenceRelations e f) h = same_then _ _ _ _ (relation_agrees e h.0) (relation_agrees f h.1)
  relation_agrees (ProductOfSets s t) h = same_cross _ _ _ _ (set_agrees s h.0) (set_agrees t h.1)
  relation_agrees (IdentityOn s) h = same_on _ _ (set_agrees s h)
  relation_agrees (Close how e) h = same_close how n _ _ (relation_agrees e h)
  relation_agrees (ComplementRelation e) h = same_turn n _ _ (relation_agrees e h)

-- the least solution is the same
pub least_agrees : (n : ℕ) (sets others : Source → ℕ → Type 0)
    (outer further : Source → ℕ → ℕ → Type 0) (trees : List RelTree) (values : List Relation)
    → ((x : ℕ) → x < length trees → (own : ℕ → ℕ → ℕ → Type 0)
    → Same (MeansRelation n sets (WithOwn outer own) (body trees x))
    (MeansRelation n others (WithOwn further own) (body trees x)))
    → IsLeast n sets outer trees values → IsLeast n others further trees values
least_agrees n sets others outer further trees values same h = record {
  as_many = h.as_many;
  on = h.on;
  solves = λ x lt a b.
      let meant = same x lt (OwnPairs n values) a b in
      let solved = h.solves x lt a b in
      ((λ p. meant.0 (solved.0 p)), (λ q. solved.1 (meant.1 q)));
  inside =
      λ test closed x lt a b of. h.inside test
      (λ y less c d m. closed y less c d ((same y less (λ z e f. IsTrue (test z e f)) c d).0 m)) x
      lt a b of;
}
