-- The columns of a group change as its growths say.
use Rattle.std.proofs.Common.{ℕ, ◌≡◌, ◌<◌, ◌↔◌, ◌∙◌, zero, suc, List, [], ◌∷◌, length, get_or, Bool, true, false, IsTrue, Option, Some, Bor, refl, sym, ap, subst, arith}
use Rattle.std.specs.Prelude.{slice_get}
use Rattle.std.specs.List.{AllByRecursion}
use Rattle.std.proofs.lemmas.List.{get_or-replicate}
use Rattle.std.proofs.lemmas.Option.{slice_get-get_or}
use Rattle.bit_rows.specs.Relation.{Relation, Events, IsRelation, IsEvents, no_slot}
use Rattle.base_names.specs.Known.{EventsFound}
use Rattle.binding_kinds.specs.declared.kinds.Kind.{Kind}
use Rattle.binding_kinds.specs.declared.kinds.Kind.TheVariants as kinds
use Rattle.binding_graph.specs.declared.resolved.Body.{Body}
use Rattle.binding_graph.specs.declared.resolved.Step.{Step}
use Rattle.binding_graph.specs.Trees.{RelTree, rel_code}
use Rattle.store_orders.specs.declared.combination.Event.{Event}
use Rattle.candidate_spaces.specs.Space.{Candidate}
use Rattle.cat_machine.specs.declared.column.Column.{Column}
use Rattle.cat_machine.specs.declared.column.Column.TheVariants as columns
use Rattle.cat_machine.specs.Columns.{HasColumnValue, HaveValues}
use Rattle.cat_machine.specs.Executions.{events_of, EventsAt, PairsAt}
use Rattle.cat_machine.specs.Least.{IsLeast, body}
use Rattle.cat_machine.specs.Meaning.{MeansSet, MeansRelation}
use Rattle.cat_machine.specs.Named.{ColumnEvents, ColumnPairs, PairsFound, OwnPairs, WithOwn}
use Rattle.cat_machine.specs.Rising.{AreCodes}
use Rattle.cat_machine.specs.Values.{IsFor, IsMeaning}
use Rattle.cat_machine.proofs.Growing.{codes_long}
use Rattle.cat_machine.proofs.Same.{Same, SameSet}
use Rattle.order_growth.specs.declared.growth.Growth.{Growth}
use Rattle.order_growth.specs.declared.growth.Growth.TheVariants.{Stays, Grows, Unknown}
use Rattle.order_growth.specs.Growth.{growth_of, growth_of_both, growth_of_all, source_growth, IsGrowthOf, AreGrowthsOf, AreGroupGrowths}
use Rattle.order_growth.specs.Within.{IsWithin, IsGrowthBetween, IsColumnGrown, AreInputsGrown, HasExpression, AreBodyExpressions}
use Rattle.order_growth.specs.Laws.{ColumnsGrow}
use Rattle.order_growth.proofs.Trees.{Subset, same_grown, set_same, tree_grown}
use Rattle.order_growth.proofs.Naming.{events_same, pairs_grown}
use Rattle.order_growth.proofs.Least.{least_inside, tests_of, tests_same}

-- ---- what is known of all is known of each

left_weaker : (g h : Growth) (R S : ℕ → ℕ → Type 0) → IsGrowthBetween g R S → IsGrowthBetween (growth_of_both g h) R S
left_weaker Stays h R S r = same_grown h R S r
left_weaker Grows Stays R S r = r
left_weaker Grows Grows R S r = r
left_weaker Grows Unknown R S r = tt
left_weaker Unknown h R S r = tt

right_weaker : (g h : Growth) (R S : ℕ → ℕ → Type 0) → IsGrowthBetween h R S → IsGrowthBetween (growth_of_both g h) R S
right_weaker Stays h R S r = r
right_weaker Grows Stays R S r = λ a b x. (r a b).0 x
right_weaker Grows Grows R S r = r
right_weaker Grows Unknown R S r = tt
right_weaker Unknown h R S r = tt

all_weaker : (gs : List Growth) (j : ℕ) (R S : ℕ → ℕ → Type 0) → j < length gs
    → IsGrowthBetween (get_or gs j Unknown) R S → IsGrowthBetween (growth_of_all gs) R S
all_weaker [] j R S lt r = absurd (omega (arith, lt))
all_weaker (g ∷ gs) zero R S lt r = left_weaker g (growth_of_all gs) R S r
all_weaker (g ∷ gs) (suc j) R S lt r =
    right_weaker g (growth_of_all gs) R S (all_weaker gs j R S (omega (arith, lt)) r)

-- ---- the growth of a body

growth_at : (inputs : List Growth) (bodies : List Body) (gs : List Growth) (j : ℕ)
    → AreGrowthsOf inputs bodies gs → j < length bodies → (b : Body)
    → IsGrowthOf inputs (get_or bodies j b).code.steps.items (get_or gs j Unknown)
growth_at inputs [] gs j h lt b = absurd (omega (arith, lt))
growth_at inputs (c ∷ cs) [] j h lt b = absurd h
growth_at inputs (c ∷ cs) (g ∷ gs) zero h lt b = h.0
growth_at inputs (c ∷ cs) (g ∷ gs) (suc j) h lt b = growth_at inputs cs gs j h.1 (omega (arith, lt)) b

growths_long : (inputs : List Growth) (bodies : List Body) (gs : List Growth)
    → AreGrowthsOf inputs bodies gs → length gs ≡ length bodies
growths_long inputs [] [] h = refl
growths_long inputs [] (g ∷ gs) h = absurd h
growths_long inputs (c ∷ cs) [] h = absurd h
growths_long inputs (c ∷ cs) (g ∷ gs) h = ap suc (growths_long inputs cs gs h.1)

expression_at : (bodies : List Body) (j : ℕ) → j < length bodies → (b : Body)
    → AllByRecursion (λ x. HasExpression x.code.kind x.code.steps.items) bodies
    → HasExpression (get_or bodies j b).code.kind (get_or bodies j b).code.steps.items
expression_at [] j lt b h = absurd (omega (arith, lt))
expression_at (c ∷ cs) zero lt b h = h.0
expression_at (c ∷ cs) (suc j) lt b h = expression_at cs j (omega (arith, lt)) b h.1

-- the steps of the body at an index are those of its tree
code_at : (trees : List RelTree) (bodies : List Body) (j : ℕ) → AreCodes trees bodies
    → j < length bodies → (b : Body) → (get_or bodies j b).code.steps.items ≡ rel_code (body trees j) []
code_at [] [] j codes lt b = absurd (omega (arith, lt))
code_at [] (c ∷ cs) j codes lt b = absurd codes
code_at (t ∷ ts) [] j codes lt b = absurd codes
code_at (t ∷ ts) (c ∷ cs) zero codes lt b = codes.0
code_at (t ∷ ts) (c ∷ cs) (suc j) codes lt b = code_at ts cs j codes.1 (omega (arith, lt)) b

-- ---- what a column has

-- a column of sets has no pairs, and one of relations no events
set_column : (c : Column) (k n : ℕ) (s : Events) (r : Relation) (S : ℕ → Type 0)
    → IsFor kinds.OfSet c → HasColumnValue c k s r → IsEvents s n S
    → SameSet (ColumnEvents c k n) S × Same (ColumnPairs c k n) (λ a b. ⊥)
set_column (columns.Sets values) k n s r S fits has is = (
  (λ a. (
    (λ h. (is.members a).0 (subst (λ (o : Option Events). EventsFound o n a) has h).1),
    (λ h. subst (λ (o : Option Events). EventsFound o n a) (sym has) (is.count, (is.members a).1 h)),
  )),
  (λ a b. ((λ h. h), (λ h. h))),
)
set_column (columns.Relations values) k n s r S fits has is = absurd fits

abbrev IsOfRelations : Column → Type 0
IsOfRelations (columns.Sets values) = ⊥
IsOfRelations (columns.Relations values) = Unit {0}

relation_column : (c : Column) (k n : ℕ) (s : Events) (r : Relation) (R : ℕ → ℕ → Type 0)
    → IsOfRelations c → HasColumnValue c k s r → IsRelation r n R
    → SameSet (ColumnEvents c k n) (λ a. ⊥) × Same (ColumnPairs c k n) R
relation_column (columns.Sets values) k n s r R fits has is = absurd fits
relation_column (columns.Relations values) k n s r R fits has is = (
  (λ a. ((λ h. h), (λ h. h))),
  (λ a b. (
    (λ h. (is.pairs a b).0 (subst (λ (o : Option Relation). PairsFound o n a b) has h).1),
    (λ h. subst (λ (o : Option Relation). PairsFound o n a b) (sym has) (is.count, (is.pairs a b).1 h)),
  )),
)

-- a column of a name that is no set
relations_at : (bodies : List Body) (j : ℕ) → j < length bodies → (c : Column)
    → AllByRecursion (λ b. b.code.kind ≡ kinds.OfSet → ⊥) bodies
    → ((b : Body) → IsFor (get_or bodies j b).code.kind c) → IsOfRelations c
relations_at [] j lt c none fits = absurd (omega (arith, lt))
relations_at (b ∷ bs) zero lt c none fits = by_kind b.code.kind c none.0 (fits b)
  where
    by_kind : (kind : Kind) (c : Column) → (kind ≡ kinds.OfSet → ⊥) → IsFor kind c → IsOfRelations c
    by_kind kinds.OfSet c none fits = absurd (none refl)
    by_kind kinds.OfRelation (columns.Sets values) none fits = fits
    by_kind kinds.OfRelation (columns.Relations values) none fits = fits
    by_kind kinds.OfAny (columns.Sets values) none fits = fits
    by_kind kinds.OfAny (columns.Relations values) none fits = fits
relations_at (b ∷ bs) (suc j) lt c none fits = relations_at bs j (omega (arith, lt)) c none.1 fits

-- from what two columns have to how the one is grown to the other
grown_alike : (g : Growth) (P R S Q : ℕ → ℕ → Type 0) → Same P R → Same Q S → IsGrowthBetween g R S
    → IsGrowthBetween g P Q
grown_alike Stays P R S Q p q r =
    λ a b. ((λ x. (q a b).1 ((r a b).0 ((p a b).0 x))), (λ y. (p a b).1 ((r a b).1 ((q a b).0 y))))
grown_alike Grows P R S Q p q r = λ a b x. (q a b).1 (r a b ((p a b).0 x))
grown_alike Unknown P R S Q p q r = tt

sets_alike : (P R S Q : ℕ → Type 0) → SameSet P R → SameSet Q S → SameSet R S → SameSet P Q
sets_alike P R S Q p q r =
    λ a. ((λ x. (q a).1 ((r a).0 ((p a).0 x))), (λ y. (p a).1 ((r a).1 ((q a).0 y))))

no_change : (a : ℕ) → ⊥ ↔ ⊥
no_change a = ((λ x. x), (λ x. x))

module _ (one more : Candidate) (inside : IsWithin one more) (growths : List Growth) (n : ℕ)
    (inputs : List (Bor Column)) (k : ℕ) (others : List (Bor Column)) (l : ℕ)
    (grown : AreInputsGrown growths n inputs k others l) where
  -- what an expression means in the one candidate and in the other
  abbrev before : (ℕ → ℕ → ℕ → Type 0) → RelTree → ℕ → ℕ → Type 0
  before own e = MeansRelation n (EventsAt n one inputs k) (WithOwn (PairsAt n one inputs k) own) e

  abbrev behind : (ℕ → ℕ → ℕ → Type 0) → RelTree → ℕ → ℕ → Type 0
  behind own e = MeansRelation n (EventsAt n more others l) (WithOwn (PairsAt n more others l) own) e

  -- the pairs that the tests of values pass
  abbrev tested : List Relation → ℕ → ℕ → ℕ → Type 0
  tested values y a b = IsTrue (tests_of n values y a b)

  -- ---- a body that is evaluated

  none_own : (position : ℕ) → Same (OwnPairs n [] position) (OwnPairs n [] position)
  none_own position = λ a b. ((λ x. x), (λ x. x))

  pub relation_grown : (e : RelTree)
      → IsGrowthBetween (growth_of (source_growth growths) e) (before (OwnPairs n []) e)
      (behind (OwnPairs n []) e)
  relation_grown =
      tree_grown n (EventsAt n one inputs k) (EventsAt n more others l)
      (WithOwn (PairsAt n one inputs k) (OwnPairs n [])) (WithOwn (PairsAt n more others l) (OwnPairs n []))
      (source_growth growths)
      (events_same one more inside growths n inputs k others l grown)
      (pairs_grown one more inside growths n inputs k others l grown (OwnPairs n []) (OwnPairs n []) none_own)

  of_relations : (g : Growth) (steps : List Step) (c d : Column) (s t : Events) (r q : Relation)
      → IsOfRelations c → IsOfRelations d → (e : RelTree) → steps ≡ rel_code e []
      → IsGrowthOf growths steps g → HasColumnValue c k s r → HasColumnValue d l t q
      → IsRelation r n (before (OwnPairs n []) e) → IsRelation q n (behind (OwnPairs n []) e)
      → IsColumnGrown g n c k d l
  of_relations g steps c d s t r q fits suits e code growth has holds is means =
      let R : ℕ → ℕ → Type 0 = before (OwnPairs n []) e in
      let S : ℕ → ℕ → Type 0 = behind (OwnPairs n []) e in
      let x = relation_column c k n s r R fits has is in
      let y = relation_column d l n t q S suits holds means in
      record {
        events = sets_alike (ColumnEvents c k n) (λ a. ⊥) (λ a. ⊥) (ColumnEvents d l n) x.0 y.0 no_change;
        pairs = grown_alike g (ColumnPairs c k n) R S (ColumnPairs d l n) x.1 y.1
            (subst (λ (h : Growth). IsGrowthBetween h R S) (sym (growth e code)) (relation_grown e));
      }

  one_body : (kind : Kind) (steps : List Step) (g : Growth) (c d : Column) (s t : Events)
      (r q : Relation) → IsFor kind c → IsFor kind d → HasExpression kind steps
      → IsGrowthOf growths steps g → HasColumnValue c k s r → HasColumnValue d l t q
      → IsMeaning kind steps n (EventsAt n one inputs k) (PairsAt n one inputs k) s r
      → IsMeaning kind steps n (EventsAt n more others l) (PairsAt n more others l) t q
      → IsColumnGrown g n c k d l
  one_body kinds.OfSet steps g c d s t r q fits suits tree growth has holds is means =
      let S : ℕ → Type 0 = MeansSet n (EventsAt n one inputs k) tree.0 in
      let T : ℕ → Type 0 = MeansSet n (EventsAt n more others l) tree.0 in
      let x = set_column c k n s r S fits has (is tree.0 tree.1) in
      let y = set_column d l n t q T suits holds (means tree.0 tree.1) in
      record {
        events = sets_alike (ColumnEvents c k n) S T (ColumnEvents d l n) x.0 y.0 (set_same n (EventsAt n one inputs k) (EventsAt n more others l)
            (PairsAt n one inputs k) (PairsAt n more others l) (λ source. Unknown)
            (events_same one more inside growths n inputs k others l grown) (λ source. tt) tree.0);
        pairs = grown_alike g (ColumnPairs c k n) (λ a b. ⊥) (λ a b. ⊥) (ColumnPairs d l n) x.1 y.1 (same_grown g (λ a b. ⊥) (λ a b. ⊥) (λ a b. ((λ z. z), (λ z. z))));
      }
  one_body kinds.OfRelation steps g c d s t r q fits suits tree growth has holds is means =
      of_relations g steps c d s t r q (is_of c fits) (is_of d suits) tree.0 tree.1 growth has holds
      (is tree.0 tree.1) (means tree.0 tree.1)
    where
      is_of : (c : Column) → IsFor kinds.OfRelation c → IsOfRelations c
      is_of (columns.Sets values) h = h
      is_of (columns.Relations values) h = h
  one_body kinds.OfAny steps g c d s t r q fits suits tree growth has holds is means =
      of_relations g steps c d s t r q (is_of c fits) (is_of d suits) tree.0 tree.1 growth has holds
      (is tree.0 tree.1) (means tree.0 tree.1)
    where
      is_of : (c : Column) → IsFor kinds.OfAny c → IsOfRelations c
      is_of (columns.Sets values) h = h
      is_of (columns.Relations values) h = h

  -- ---- bodies that are evaluated

  evaluated : (bodies : List Body) (names : List Growth) (cs ds : List Column) (j : ℕ)
      → AllByRecursion (λ b. HasExpression b.code.kind b.code.steps.items) bodies
      → AreGrowthsOf growths bodies names
      → ((b : Body) (c : Column) → IsFor (get_or bodies j b).code.kind (get_or cs j c))
      → ((b : Body) (c : Column) → IsFor (get_or bodies j b).code.kind (get_or ds j c))
      → HaveValues false bodies n (EventsAt n one inputs k) (PairsAt n one inputs k) k cs
      → HaveValues false bodies n (EventsAt n more others l) (PairsAt n more others l) l ds
      → j < length bodies → (c : Column)
      → IsColumnGrown (get_or names j Unknown) n (get_or cs j c) k (get_or ds j c) l
  evaluated [] names cs ds j trees growth fits suits has holds lt c = absurd (omega (arith, lt))
  evaluated (d ∷ bs) names cs ds j trees growth fits suits has holds lt c =
      let (s, r, has_value, is) = has j lt c d in
      let (t, q, holds_value, means) = holds j lt c d in
      one_body (get_or (d ∷ bs) j d).code.kind (get_or (d ∷ bs) j d).code.steps.items
      (get_or names j Unknown) (get_or cs j c) (get_or ds j c) s t r q (fits d c) (suits d c)
      (expression_at (d ∷ bs) j lt d trees) (growth_at growths (d ∷ bs) names j growth lt d)
      has_value holds_value is means

  -- ---- least values

  module _ (trees : List RelTree) (bodies : List Body) (each : List Growth) (codes : AreCodes trees bodies)
      (growth : AreGrowthsOf growths bodies each) (values after : List Relation)
      (least : IsLeast n (EventsAt n one inputs k) (PairsAt n one inputs k) trees values)
      (leasts : IsLeast n (EventsAt n more others l) (PairsAt n more others l) trees after) where
    -- where the names of the group have the same pairs, a body changes as all bodies do
    body_grown : (own next : ℕ → ℕ → ℕ → Type 0) → ((position : ℕ) → Same (own position) (next position))
        → (x : ℕ) → x < length trees
        → IsGrowthBetween (growth_of_all each) (before own (body trees x)) (behind next (body trees x))
    body_grown own next same x lt =
        let R : ℕ → ℕ → Type 0 = before own (body trees x) in
        let S : ℕ → ℕ → Type 0 = behind next (body trees x) in
        let inside_bodies : x < length bodies = omega (arith, lt, codes_long trees bodies codes) in
        let many : length each ≡ length bodies = growths_long growths bodies each growth in
        let grown_so : IsGrowthBetween (growth_of (source_growth growths) (body trees x)) R S =
        tree_grown n (EventsAt n one inputs k) (EventsAt n more others l)
        (WithOwn (PairsAt n one inputs k) own) (WithOwn (PairsAt n more others l) next)
        (source_growth growths)
        (events_same one more inside growths n inputs k others l grown)
        (pairs_grown one more inside growths n inputs k others l grown own next same) (body trees x) in
        all_weaker each x R S (omega (arith, inside_bodies, many))
        (subst (λ (h : Growth). IsGrowthBetween h R S) (sym (its_growth x inside_bodies)) grown_so)
      where
        its_growth : (x : ℕ) → x < length bodies
            → get_or each x Unknown ≡ growth_of (source_growth growths) (body trees x)
        its_growth x lt = at_body bodies growth codes x lt
          where
            at_body : (bs : List Body) → AreGrowthsOf growths bs each → AreCodes trees bs → (x : ℕ)
                → x < length bs
                → get_or each x Unknown ≡ growth_of (source_growth growths) (body trees x)
            at_body [] g cs x lt = absurd (omega (arith, lt))
            at_body (b ∷ bs) g cs x lt =
                growth_at growths (b ∷ bs) each x g lt b (body trees x) (code_at trees (b ∷ bs) x cs lt b)

    own_grown : (g : Growth) → g ≡ growth_of_all each → (x : ℕ) → x < length trees
        → IsGrowthBetween g (OwnPairs n values x) (OwnPairs n after x)
    own_grown Stays is x lt = λ a b. (
      least_inside n (EventsAt n one inputs k) (EventsAt n more others l) (PairsAt n one inputs k)
          (PairsAt n more others l) trees values after least leasts
          (λ y y_lt c d m. (stays (tested after) (OwnPairs n after) (tests_same n after) y y_lt c d).0 m)
          x lt a b,
      least_inside n (EventsAt n more others l) (EventsAt n one inputs k) (PairsAt n more others l)
          (PairsAt n one inputs k) trees after values leasts least
          (λ y y_lt c d m. (stays (OwnPairs n values) (tested values)
          (λ z e f. let t = tests_same n values z e f in (t.1, t.0)) y y_lt c d).1 m) x lt a b,
    )
      where
        stays : (own next : ℕ → ℕ → ℕ → Type 0) → ((position : ℕ) → Same (own position) (next position))
            → (x : ℕ) → x < length trees → Same (before own (body trees x)) (behind next (body trees x))
        stays own next same x lt =
            subst (λ (g : Growth). IsGrowthBetween g (before own (body trees x)) (behind next (body trees x)))
            (sym is) (body_grown own next same x lt)
    own_grown Grows is x lt = λ a b pair.
        least_inside n (EventsAt n one inputs k) (EventsAt n more others l) (PairsAt n one inputs k)
        (PairsAt n more others l) trees values after least leasts
        (λ y y_lt c d m. grows y y_lt c d m) x lt a b pair
      where
        grows : (x : ℕ) → x < length trees
            → Subset (before (tested after) (body trees x)) (behind (OwnPairs n after) (body trees x))
        grows x lt =
            subst
            (λ (g : Growth). IsGrowthBetween g (before (tested after) (body trees x)) (behind (OwnPairs n after) (body trees x)))
            (sym is) (body_grown (tested after) (OwnPairs n after) (tests_same n after) x lt)
    own_grown Unknown is x lt = tt

  -- a column whose value is the one of a list
  own_column : (c : Column) (m : ℕ) (values : List Relation) (j : ℕ) (s : Events) → j < length values
      → IsOfRelations c → HasColumnValue c m s (get_or values j no_slot)
      → SameSet (ColumnEvents c m n) (λ a. ⊥) × Same (ColumnPairs c m n) (OwnPairs n values j)
  own_column (columns.Sets xs) m values j s lt fits has = absurd fits
  own_column (columns.Relations xs) m values j s lt fits has =
      let here : slice_get values j ≡ Some (get_or values j no_slot) = slice_get-get_or values j no_slot lt in
      let same : slice_get xs m ≡ slice_get values j = has ∙ sym here in (
        (λ a. ((λ h. h), (λ h. h))),
        (λ a b. (
          subst (λ (o : Option Relation). PairsFound o n a b) same,
          subst (λ (o : Option Relation). PairsFound o n a b) (sym same),
        )),
      )

  solved : (bodies : List Body) (names : List Growth) (cs ds : List Column) (j : ℕ)
      → AreBodyExpressions true bodies → AreGroupGrowths growths true bodies names
      → ((b : Body) (c : Column) → IsFor (get_or bodies j b).code.kind (get_or cs j c))
      → ((b : Body) (c : Column) → IsFor (get_or bodies j b).code.kind (get_or ds j c))
      → HaveValues true bodies n (EventsAt n one inputs k) (PairsAt n one inputs k) k cs
      → HaveValues true bodies n (EventsAt n more others l) (PairsAt n more others l) l ds
      → j < length bodies → (c : Column)
      → IsColumnGrown (get_or names j Unknown) n (get_or cs j c) k (get_or ds j c) l
  solved bodies names cs ds j expressions growth fits suits has holds lt c =
      let (trees, codes, rises) = expressions.0 in
      let (each, grows, are) = growth in
      let (values, least, here) = has trees codes rises in
      let (after, leasts, there) = holds trees codes rises in
      let inside_trees : j < length trees = omega (arith, lt, codes_long trees bodies codes) in
      let many : length each ≡ length bodies = growths_long growths bodies each grows in
      let (s, has_value) = here j lt c in
      let (t, holds_value) = there j lt c in
      let x = own_column (get_or cs j c) k values j s (omega (arith, inside_trees, least.as_many)) (relations_at bodies j lt (get_or cs j c) expressions.1 (λ b. fits b c)) has_value in
      let y = own_column (get_or ds j c) l after j t (omega (arith, inside_trees, leasts.as_many)) (relations_at bodies j lt (get_or ds j c) expressions.1 (λ b. suits b c)) holds_value in
      let g : get_or names j Unknown ≡ growth_of_all each = rw are (get_or-replicate (length each) j (growth_of_all each) Unknown (omega (arith, many, lt))) in
      record {
        events = sets_alike (ColumnEvents (get_or cs j c) k n) (λ a. ⊥) (λ a. ⊥) (ColumnEvents (get_or ds j c) l n) x.0 y.0 no_change;
        pairs = grown_alike (get_or names j Unknown) (ColumnPairs (get_or cs j c) k n) (OwnPairs n values j)
            (OwnPairs n after j) (ColumnPairs (get_or ds j c) l n) x.1 y.1
            (own_grown trees bodies each codes grows values after least leasts (get_or names j Unknown) g j inside_trees);
      }

  pub group_grown : (recursive : Bool) (bodies : List Body) (names : List Growth) (cs ds : List Column) (j : ℕ)
      → AreBodyExpressions recursive bodies → AreGroupGrowths growths recursive bodies names
      → ((b : Body) (c : Column) → IsFor (get_or bodies j b).code.kind (get_or cs j c))
      → ((b : Body) (c : Column) → IsFor (get_or bodies j b).code.kind (get_or ds j c))
      → HaveValues recursive bodies n (EventsAt n one inputs k) (PairsAt n one inputs k) k cs
      → HaveValues recursive bodies n (EventsAt n more others l) (PairsAt n more others l) l ds
      → j < length bodies → (c : Column)
      → IsColumnGrown (get_or names j Unknown) n (get_or cs j c) k (get_or ds j c) l
  group_grown false = evaluated
  group_grown true = solved

-- the candidates have as many events
pub count_same : (one more : Candidate) → IsWithin one more → events_of more ≡ events_of one
count_same one more inside = ap (λ (es : List Event). length es) (sym inside.events)

pub columns_grown : (recursive : Bool) (bodies : List Body) → ColumnsGrow recursive bodies
columns_grown recursive bodies growths names inputs others candidates further cs ds k l one more
    expressions growth are were here there inside grown j lt c =
    let n = events_of one in
    let moved : HaveValues recursive bodies n (EventsAt n more others l) (PairsAt n more others l) l ds =
    subst (λ (m : ℕ). HaveValues recursive bodies m (EventsAt m more others l) (PairsAt m more others l) l ds)
    (count_same one more inside) (were.values l more there) in
    group_grown one more inside growths n inputs k others l grown recursive bodies names cs ds j
    expressions growth (λ b d. are.suited j lt b d) (λ b d. were.suited j lt b d)
    (are.values k one here) moved lt c
