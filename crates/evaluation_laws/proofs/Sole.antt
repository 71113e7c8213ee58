-- Columns and answers of an item are one.
use Rattle.std.proofs.Common.{ℕ, ◌≡◌, ◌<◌, ◌↔◌, zero, suc, List, [], ◌∷◌, length, Bool, true, false, IsTrue, Option, Some, Bor, get_or, refl, sym, ◌∙◌, subst, arith}
use Rattle.std.specs.Prelude.{slice_get, slice_index_or}
use Rattle.std.specs.List.{AllByRecursion}
use Rattle.std.proofs.lemmas.List.{ext_get_or}
use Rattle.std.proofs.lemmas.Option.{get_or_from_slice_get, slice_get-get_or}
use Rattle.bit_rows.specs.Relation.{Relation, Events, IsEvents, IsRelation, Has, no_slot}
use Rattle.bit_rows.proofs.Bits.{same_word}
use Rattle.bit_relations.proofs.Laws.{same_relation}
use Rattle.binding_kinds.specs.declared.kinds.Kind.{Kind}
use Rattle.binding_kinds.specs.declared.kinds.Kind.TheVariants as kinds
use Rattle.binding_graph.specs.declared.resolved.Body.{Body}
use Rattle.binding_graph.specs.declared.resolved.CheckCode.{CheckCode}
use Rattle.binding_graph.specs.declared.resolved.Role.{Role}
use Rattle.binding_graph.specs.declared.resolved.Role.TheVariants as roles
use Rattle.binding_graph.specs.declared.resolved.Source.{Source}
use Rattle.binding_graph.specs.declared.resolved.Step.{Step}
use Rattle.binding_graph.specs.Trees.{RelTree}
use Rattle.candidate_spaces.specs.declared.candidate.Space.{Space}
use Rattle.candidate_spaces.specs.Space.{candidates_in, Candidate}
use Rattle.cat_machine.specs.declared.column.Column.{Column}
use Rattle.cat_machine.specs.declared.column.Column.TheVariants as columns
use Rattle.cat_machine.specs.Columns.{HaveValues, HasColumnValue, AreGroupColumns}
use Rattle.cat_machine.specs.Executions.{events_of, EventsAt, PairsAt}
use Rattle.cat_machine.specs.Least.{IsLeast, AreMonotone}
use Rattle.cat_machine.specs.Named.{PairsFound}
use Rattle.cat_machine.specs.Values.{IsCheckAnswer, IsFor, IsMeaning, column_len}
use Rattle.from_scratch.proofs.Sole.{one_least}
use Rattle.evaluation_laws.specs.Laws.{HasTree, AreCoded, HasOneColumns, HasOneAnswers}
use Rattle.from_scratch.proofs.Knowing.{item_at}
use Rattle.cat_machine.proofs.Growing.{codes_long}

-- ---- values

events_one : (s t : Events) (n : ℕ) (S : ℕ → Type 0) → IsEvents s n S → IsEvents t n S → s ≡ t
events_one s t n S h g =
    let count : s.count ≡ t.count = h.count ∙ sym g.count in
    let word : s.word ≡ t.word = same_word s.word t.word (λ a. ((λ x. (g.members a).1 ((h.members a).0 x)), (λ y. (h.members a).1 ((g.members a).0 y)))) in
    λ i. record { count = count i; word = word i }

relation_one : (r q : Relation) (n : ℕ) (R : ℕ → ℕ → Type 0) → IsRelation r n R → IsRelation q n R
    → r ≡ q
relation_one r q n R h g =
    same_relation r q h.regular g.regular (h.count ∙ sym g.count) (λ a b.
    ((λ x. (g.pairs a b).1 ((h.pairs a b).0 x)), (λ y. (h.pairs a b).1 ((g.pairs a b).0 y))))

-- of the two values the one of this kind
abbrev AreOne : Kind → Events → Events → Relation → Relation → Type 0
AreOne kinds.OfSet s t r q = s ≡ t
AreOne kinds.OfRelation s t r q = r ≡ q
AreOne kinds.OfAny s t r q = r ≡ q

meant_one : (kind : Kind) (steps : List Step) (n : ℕ) (sets : Source → ℕ → Type 0)
    (outer : Source → ℕ → ℕ → Type 0) (s t : Events) (r q : Relation) → HasTree kind steps
    → IsMeaning kind steps n sets outer s r → IsMeaning kind steps n sets outer t q
    → AreOne kind s t r q
meant_one kinds.OfSet steps n sets outer s t r q tree f g =
    events_one s t n _ (f tree.0 tree.1) (g tree.0 tree.1)
meant_one kinds.OfRelation steps n sets outer s t r q tree f g =
    relation_one r q n _ (f tree.0 tree.1) (g tree.0 tree.1)
meant_one kinds.OfAny steps n sets outer s t r q tree f g =
    relation_one r q n _ (f tree.0 tree.1) (g tree.0 tree.1)

no_set : (kind : Kind) (s t : Events) (r q : Relation) → (kind ≡ kinds.OfSet → ⊥) → r ≡ q
    → AreOne kind s t r q
no_set kinds.OfSet s t r q none e = absurd (none refl)
no_set kinds.OfRelation s t r q none e = e
no_set kinds.OfAny s t r q none e = e

-- least values
module _ (n : ℕ) (sets : Source → ℕ → Type 0) (outer : Source → ℕ → ℕ → Type 0)
    (trees : List RelTree) (rises : AreMonotone trees) where
  pair_given : (values others : List Relation) → IsLeast n sets outer trees values
      → IsLeast n sets outer trees others → (x : ℕ) → x < length trees → (a b : ℕ)
      → Has (get_or values x no_slot) a b → Has (get_or others x no_slot) a b
  pair_given values others h g x lt a b has =
      let left : slice_get values x ≡ Some (get_or values x no_slot) = slice_get-get_or values x no_slot (omega (arith, lt, h.as_many)) in
      let right : slice_get others x ≡ Some (get_or others x no_slot) = slice_get-get_or others x no_slot (omega (arith, lt, g.as_many)) in
      let found : PairsFound (slice_get values x) n a b = subst (λ (o : Option Relation). PairsFound o n a b) (sym left) ((h.on x (omega (arith, lt, h.as_many))).0, has) in
      let other : PairsFound (Some (get_or others x no_slot)) n a b = subst (λ (o : Option Relation). PairsFound o n a b) right (one_least n sets outer trees values others rises h g x lt a b found) in
      other.1

  least_one : (values others : List Relation) → IsLeast n sets outer trees values
      → IsLeast n sets outer trees others → (x : ℕ) → x < length trees
      → get_or values x no_slot ≡ get_or others x no_slot
  least_one values others h g x lt =
      let on = h.on x (omega (arith, lt, h.as_many)) in
      let other_on = g.on x (omega (arith, lt, g.as_many)) in
      same_relation (get_or values x no_slot) (get_or others x no_slot) on.1 other_on.1
      (on.0 ∙ sym other_on.0) (λ a b.
      (pair_given values others h g x lt a b, pair_given others values g h x lt a b))

-- ---- lists

list_one : {X : Type 0} (d : X) (xs ys : List X) → length xs ≡ length ys
    → ((k : ℕ) → k < length xs
    → (x : X) × (y : X) × (slice_get xs k ≡ Some x) × (slice_get ys k ≡ Some y) × (x ≡ y))
    → xs ≡ ys
list_one d xs ys e h =
    ext_get_or d xs ys e (λ k lt.
    let p = h k lt in
    get_or_from_slice_get xs k p.0 d p.2 ∙ (p.4 ∙ sym (get_or_from_slice_get ys k p.1 d p.3)))

all_at : {X : Type 0} (P : X → Type 0) (xs : List X) (k : ℕ) (d : X) → k < length xs
    → AllByRecursion P xs → P (get_or xs k d)
all_at P [] k d lt h = absurd (omega (arith, lt))
all_at P (x ∷ xs) zero d lt h = h.0
all_at P (x ∷ xs) (suc k) d lt h = all_at P xs k d (omega (arith, lt)) h.1

-- ---- columns

-- two columns have one value in the candidate of this number
abbrev AgreeAt : Kind → Column → Column → ℕ → Type 0
AgreeAt kind c d k =
    (s : Events) × (t : Events) × (r : Relation) × (q : Relation) × HasColumnValue c k s r
    × HasColumnValue d k t q × AreOne kind s t r q

column_one : (kind : Kind) (c d : Column) (n : ℕ) → IsFor kind c → IsFor kind d → column_len c ≡ n
    → column_len d ≡ n → ((k : ℕ) → k < n → AgreeAt kind c d k) → c ≡ d
column_one kinds.OfSet (columns.Sets xs) (columns.Sets ys) n f g l m h =
    let e : xs ≡ ys = list_one (record { count = 0; word = 0 }) xs ys (l ∙ sym m) (λ k lt. let p = h k (omega (arith, lt, l)) in (p.0, p.1, p.4, p.5, p.6)) in
    λ i. columns.Sets (e i)
column_one kinds.OfSet (columns.Sets xs) (columns.Relations ys) n f g l m h = absurd g
column_one kinds.OfSet (columns.Relations xs) d n f g l m h = absurd f
column_one kinds.OfRelation (columns.Sets xs) d n f g l m h = absurd f
column_one kinds.OfRelation (columns.Relations xs) (columns.Sets ys) n f g l m h = absurd g
column_one kinds.OfRelation (columns.Relations xs) (columns.Relations ys) n f g l m h =
    let e : xs ≡ ys = list_one no_slot xs ys (l ∙ sym m) (λ k lt. let p = h k (omega (arith, lt, l)) in (p.2, p.3, p.4, p.5, p.6)) in
    λ i. columns.Relations (e i)
column_one kinds.OfAny (columns.Sets xs) d n f g l m h = absurd f
column_one kinds.OfAny (columns.Relations xs) (columns.Sets ys) n f g l m h = absurd g
column_one kinds.OfAny (columns.Relations xs) (columns.Relations ys) n f g l m h =
    let e : xs ≡ ys = list_one no_slot xs ys (l ∙ sym m) (λ k lt. let p = h k (omega (arith, lt, l)) in (p.2, p.3, p.4, p.5, p.6)) in
    λ i. columns.Relations (e i)

values_agree : (recursive : Bool) (bodies : List Body) (n : ℕ) (sets : Source → ℕ → Type 0)
    (outer : Source → ℕ → ℕ → Type 0) (k : ℕ) (cs ds : List Column) → AreCoded recursive bodies
    → HaveValues recursive bodies n sets outer k cs → HaveValues recursive bodies n sets outer k ds
    → (j : ℕ) → j < length bodies → (c : Column) (b : Body)
    → AgreeAt (slice_index_or bodies j b).code.kind (slice_index_or cs j c)
    (slice_index_or ds j c) k
values_agree false bodies n sets outer k cs ds coded h g j lt c b =
    let x = h j lt c b in
    let y = g j lt c b in
    let tree = all_at (λ p. HasTree p.code.kind p.code.steps.items) bodies j b lt coded in (
      x.0,
      y.0,
      x.1,
      y.1,
      x.2,
      y.2,
      meant_one (slice_index_or bodies j b).code.kind
          (slice_index_or bodies j b).code.steps.items n sets outer x.0 y.0 x.1 y.1 tree x.3
          y.3,
    )
values_agree true bodies n sets outer k cs ds coded h g j lt c b =
    let trees = coded.0.0 in
    let x = h trees coded.0.1 coded.0.2 in
    let y = g trees coded.0.1 coded.0.2 in
    let v = x.2 j lt c in
    let w = y.2 j lt c in
    let none = all_at (λ p. p.code.kind ≡ kinds.OfSet → ⊥) bodies j b lt coded.1 in
    let e = least_one n sets outer trees coded.0.2 x.0 y.0 x.1 y.1 j (omega (arith, lt, codes_long trees bodies coded.0.1)) in (
      v.0,
      w.0,
      slice_index_or x.0 j no_slot,
      slice_index_or y.0 j no_slot,
      v.1,
      w.1,
      no_set (slice_index_or bodies j b).code.kind v.0 w.0 (slice_index_or x.0 j no_slot)
          (slice_index_or y.0 j no_slot) none e,
    )

first_of_them : (bodies : List Body) (j : ℕ) → j < length bodies → Body
first_of_them [] j lt = absurd (omega (arith, lt))
first_of_them (b ∷ bs) j lt = b

group_one : (recursive : Bool) (bodies : List Body) (inputs : List (Bor Column))
    (candidates : List Candidate) (cs ds : List Column) → AreCoded recursive bodies
    → AreGroupColumns recursive bodies inputs candidates cs
    → AreGroupColumns recursive bodies inputs candidates ds → cs ≡ ds
group_one recursive bodies inputs candidates cs ds coded h g =
    let none : Column = columns.Sets [] in
    ext_get_or none cs ds (h.as_many ∙ sym g.as_many) (λ j lt.
    let below : j < length bodies = omega (arith, lt, h.as_many) in
    let b = first_of_them bodies j below in
    column_one (slice_index_or bodies j b).code.kind (slice_index_or cs j none)
    (slice_index_or ds j none) (length candidates) (h.suited j below b none)
    (g.suited j below b none) (h.long j below none) (g.long j below none) (λ k within.
    let one = item_at candidates k within in
    values_agree recursive bodies (events_of one.0) (EventsAt (events_of one.0) one.0 inputs k)
    (PairsAt (events_of one.0) one.0 inputs k) k cs ds coded (h.values k one.0 one.1)
    (g.values k one.0 one.1) j below none b))

pub one_columns : (role : Role) (space : Space) → HasOneColumns role space
one_columns (roles.Group recursive bodies) space inputs cs ds coded h g =
    group_one recursive bodies.items inputs (candidates_in space.combinations.items) cs ds coded h g
one_columns (roles.Check check) space inputs cs ds coded h g = h ∙ sym g
one_columns roles.Silent space inputs cs ds coded h g = h ∙ sym g

-- ---- answers

same_bool : (P : Type 0) (a b : Bool) → IsTrue a ↔ P → IsTrue b ↔ P → a ≡ b
same_bool P true true f g = refl
same_bool P true false f g = absurd (let e : false ≡ true = g.1 (f.0 refl) in cc)
same_bool P false true f g = absurd (let e : false ≡ true = f.1 (g.0 refl) in cc)
same_bool P false false f g = refl

answer_one : (check : CheckCode) (n : ℕ) (sets : Source → ℕ → Type 0)
    (outer : Source → ℕ → ℕ → Type 0) (kind : Kind) (a b : Bool)
    → HasTree kind check.code.steps.items → IsCheckAnswer check n sets outer kind a
    → IsCheckAnswer check n sets outer kind b → a ≡ b
answer_one check n sets outer kinds.OfSet a b t f g = same_bool _ a b (f t.0 t.1) (g t.0 t.1)
answer_one check n sets outer kinds.OfRelation a b t f g = same_bool _ a b (f t.0 t.1) (g t.0 t.1)
answer_one check n sets outer kinds.OfAny a b t f g = same_bool _ a b (f t.0 t.1) (g t.0 t.1)

pub one_answers : (role : Role) (space : Space) → HasOneAnswers role space
one_answers (roles.Group recursive bodies) space inputs xs ys coded h g = h ∙ sym g
one_answers (roles.Check check) space inputs xs ys coded h g =
    let candidates = candidates_in space.combinations.items in
    list_one false xs ys (h.0 ∙ sym g.0) (λ k lt.
    let one = item_at candidates k (omega (arith, lt, h.0)) in
    let x = item_at xs k lt in
    let y = item_at ys k (omega (arith, lt, h.0, g.0)) in (
      x.0,
      y.0,
      x.1,
      y.1,
      answer_one check (events_of one.0) (EventsAt (events_of one.0) one.0 inputs k)
          (PairsAt (events_of one.0) one.0 inputs k) check.code.kind x.0 y.0 coded
          (h.1 k one.0 x.0 one.1 x.1) (g.1 k one.0 y.0 one.1 y.1),
    ))
one_answers roles.Silent space inputs xs ys coded h g = h ∙ sym g
