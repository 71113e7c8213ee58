-- The names of a group have events of each candidate alone.
use Rattle.std.proofs.Common.{ℕ, ◌≡◌, ◌<◌, zero, suc, List, [], ◌∷◌, length, get_or, Bool, true, false, Option, Some, refl, subst, arith}
use Rattle.std.specs.Prelude.{slice_get}
use Rattle.std.specs.List.{AllByRecursion}
use Rattle.std.proofs.lemmas.Option.{slice_get_within, get_or_from_slice_get}
use Rattle.bit_rows.specs.Relation.{Relation, Events, IsRegular, IsEvents, no_slot}
use Rattle.base_names.specs.Known.{EventsFound}
use Rattle.binding_kinds.specs.declared.kinds.Kind.{Kind}
use Rattle.binding_kinds.specs.declared.kinds.Kind.TheVariants as kinds
use Rattle.binding_graph.specs.declared.resolved.Body.{Body}
use Rattle.binding_graph.specs.declared.resolved.Source.{Source}
use Rattle.binding_graph.specs.declared.resolved.Step.{Step}
use Rattle.cat_machine.specs.declared.column.Column.{Column}
use Rattle.cat_machine.specs.declared.column.Column.TheVariants as columns
use Rattle.cat_machine.specs.Columns.{HasColumnValue, HaveValues}
use Rattle.cat_machine.specs.Executions.{events_of, EventsAt, PairsAt}
use Rattle.cat_machine.specs.Named.{PairsFound}
use Rattle.cat_machine.specs.Values.{IsFor, IsMeaning}
use Rattle.cat_machine.proofs.Growing.{codes_long}
use Rattle.order_growth.specs.Within.{HasExpression, AreBodyExpressions}
use Rattle.whole_outcomes.specs.Whole.{IsColumnBelow}
use Rattle.whole_outcomes.specs.ColumnLaws.{ColumnsAreBelow}

-- ---- one column

set_below : (c : Column) (n k : ℕ) (s : Events) (r : Relation) (S : ℕ → Type 0)
    → IsFor kinds.OfSet c → HasColumnValue c k s r → IsEvents s n S → IsColumnBelow n c k
set_below (columns.Sets xs) n k s r S fits has is = record {
  events = λ a h. is.within a (subst (λ (o : Option Events). EventsFound o n a) has h).1;
  pairs = λ a b h. absurd h;
}
set_below (columns.Relations xs) n k s r S fits has is = absurd fits

pairs_below : (xs : List Relation) (n k : ℕ) (r : Relation) → slice_get xs k ≡ Some r
    → r.count ≡ n → IsRegular r → IsColumnBelow n (columns.Relations xs) k
pairs_below xs n k r has count is = record {
  events = λ a h. absurd h;
  pairs = λ a b h.
      let w = is.within a b (subst (λ (o : Option Relation). PairsFound o n a b) has h).1 in
      (omega (arith, w.0, count), omega (arith, w.1, count));
}

relation_below : (kind : Kind) (c : Column) (n k : ℕ) (s : Events) (r : Relation)
    → (kind ≡ kinds.OfSet → ⊥) → IsFor kind c → HasColumnValue c k s r → r.count ≡ n → IsRegular r
    → IsColumnBelow n c k
relation_below kinds.OfSet c n k s r none fits has count is = absurd (none refl)
relation_below kinds.OfRelation (columns.Sets xs) n k s r none fits has count is = absurd fits
relation_below kinds.OfRelation (columns.Relations xs) n k s r none fits has count is =
    pairs_below xs n k r has count is
relation_below kinds.OfAny (columns.Sets xs) n k s r none fits has count is = absurd fits
relation_below kinds.OfAny (columns.Relations xs) n k s r none fits has count is =
    pairs_below xs n k r has count is

meaning_below : (kind : Kind) (steps : List Step) (n : ℕ) (sets : Source → ℕ → Type 0)
    (outer : Source → ℕ → ℕ → Type 0) (c : Column) (k : ℕ) (s : Events) (r : Relation)
    → HasExpression kind steps → IsFor kind c → HasColumnValue c k s r
    → IsMeaning kind steps n sets outer s r → IsColumnBelow n c k
meaning_below kinds.OfSet steps n sets outer c k s r tree fits has is =
    set_below c n k s r _ fits has (is tree.0 tree.1)
meaning_below kinds.OfRelation steps n sets outer c k s r tree fits has is =
    let it = is tree.0 tree.1 in
    relation_below kinds.OfRelation c n k s r (λ e. let no : kinds.OfRelation ≡ kinds.OfSet = e in cc)
    fits has it.count it.regular
meaning_below kinds.OfAny steps n sets outer c k s r tree fits has is =
    let it = is tree.0 tree.1 in
    relation_below kinds.OfAny c n k s r (λ e. let no : kinds.OfAny ≡ kinds.OfSet = e in cc) fits
    has it.count it.regular

-- ---- the body at an index

at_body : (P : Body → Type 0) (bodies : List Body) → AllByRecursion P bodies → (p : ℕ)
    → p < length bodies → (b : Body) × P (get_or bodies p b)
at_body P [] h p lt = absurd (omega (arith, lt))
at_body P (c ∷ cs) h zero lt = (c, h.0)
at_body P (c ∷ cs) h (suc p) lt = at_body P cs h.1 p (omega (arith, lt))

module _ (n : ℕ) (sets : Source → ℕ → Type 0) (outer : Source → ℕ → ℕ → Type 0) (k : ℕ) where
  group_below : (recursive : Bool) (bodies : List Body) (cs : List Column) (p : ℕ)
      → AreBodyExpressions recursive bodies
      → ((b : Body) (c : Column) → IsFor (get_or bodies p b).code.kind (get_or cs p c))
      → HaveValues recursive bodies n sets outer k cs → p < length bodies → (c : Column)
      → IsColumnBelow n (get_or cs p c) k
  group_below false bodies cs p expressions fits has lt c =
      let (b, tree) = at_body (λ x. HasExpression x.code.kind x.code.steps.items) bodies expressions p lt in
      let (s, r, value, is) = has p lt c b in
      meaning_below (get_or bodies p b).code.kind (get_or bodies p b).code.steps.items n sets outer
      (get_or cs p c) k s r tree (fits b c) value is
  group_below true bodies cs p expressions fits has lt c =
      let (trees, codes, rises) = expressions.0 in
      let (values, least, here) = has trees codes rises in
      let (s, value) = here p lt c in
      let (b, none) = at_body (λ x. x.code.kind ≡ kinds.OfSet → ⊥) bodies expressions.1 p lt in
      let many = codes_long trees bodies codes in
      let on = least.on p (omega (arith, lt, many, least.as_many)) in
      relation_below (get_or bodies p b).code.kind (get_or cs p c) n k s (get_or values p no_slot) none
      (fits b c) value on.0 on.1

pub columns_below : (recursive : Bool) (bodies : List Body) → ColumnsAreBelow recursive bodies
columns_below recursive bodies all inputs cs k one p c expressions are here at =
    let n = events_of one in
    let inside = slice_get_within cs p c at in
    let lt : p < length bodies = omega (arith, inside, are.as_many) in
    subst (λ (x : Column). IsColumnBelow n x k) (get_or_from_slice_get cs p c c at)
    (group_below n (EventsAt n one inputs k) (PairsAt n one inputs k) k recursive bodies cs p
    expressions (λ b d. are.suited p lt b d) (are.values k one here) lt c)
