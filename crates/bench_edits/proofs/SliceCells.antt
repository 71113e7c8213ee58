-- Items that are read alike are the same to a cell.
use Rattle.std.proofs.Common.{ℕ, ◌≡◌, zero, suc, List, [], ◌∷◌, map, Option, Some, None, refl, sym, ap, ◌∙◌}
use Rattle.std.specs.Prelude.{slice_get, option_map, unwrap_or}
use Rattle.std.specs.Arc.{arc_value}
use Rattle.std.proofs.lemmas.Option.{same_Some}
use Rattle.text_values.specs.TestValue.{Content, Formula}
use Rattle.text_values.specs.declared.test.Quantifier.{Quantifier}
use Rattle.text_values.specs.declared.model.Item.{Item}
use Rattle.text_values.specs.ModelValue.{Clause}
use Rattle.binding_kinds.specs.declared.fault.ModelFault.{ModelFault}
use Rattle.binding_kinds.specs.declared.scope.Input.{Input}
use Rattle.binding_graph.specs.declared.resolved.ResolvedItem.{ResolvedItem}
use Rattle.bench_texts.specs.declared.model.NamedModel.{NamedModel}
use Rattle.bench_texts.specs.declared.reading.Reading.{Reading}
use Rattle.bench_texts.specs.declared.reading.Reading.TheVariants as readings
use Rattle.bench_slices.specs.Slices.{BoundName, Uses, OfFault, OfItems, bound_name, clause_at, slice_by}
use Rattle.bench_slots.specs.Slots.{number_at}
use Rattle.bench_edits.specs.Readings.{reading_by}
use Rattle.bench_edits.specs.BenchCells.{CellItem, name_of, cell_item, cell_items, AreReadAlike}
use Rattle.evaluation_laws.specs.Readings.{ReadItem, read_item, read_items, items_read_by}
use Rattle.evaluation_laws.proofs.Slices.{clauses_same, read_alike}
use Rattle.bench_edits.specs.Slices.{EqualSlicesHaveSameCells}

-- ---- numbers

number_by : (ns : List ℕ) (k : ℕ) → number_at ns k ≡ unwrap_or (slice_get ns k) 0
number_by [] k = refl
number_by (n ∷ ns) zero = refl
number_by (n ∷ ns) (suc k) = number_by ns k

abbrev name_by : BoundName → ℕ × ℕ
name_by b = (unwrap_or b.item 0, b.position)

names_by : (ns : List ℕ) (is : List Input)
    → map (name_of ns) is ≡ map name_by (map (bound_name ns) is)
names_by ns [] = refl
names_by ns (i ∷ is) =
    let e = number_by ns i.item in let rest = names_by ns is in λ k. (e k, i.position) ∷ rest k

abbrev number_in : Option ℕ → ℕ
number_in o = unwrap_or o 0

functions_by : (ns fs : List ℕ) → map (number_at ns) fs ≡ map number_in (map (slice_get ns) fs)
functions_by ns [] = refl
functions_by ns (f ∷ fs) =
    let e = number_by ns f in let rest = functions_by ns fs in λ k. e k ∷ rest k

-- ---- items

module _ (ns ms : List ℕ) where
  cell_same : (k l : ℕ) (a b : Option Clause) (r q : ResolvedItem) → k ≡ l → a ≡ b
      → read_item ns r ≡ read_item ms q → cell_item ns k a r ≡ cell_item ms l b q
  cell_same k l a b r q number said e =
      let role = ap (λ (x : ReadItem). x.role) e in
      let names : map (name_of ns) r.inputs.items ≡ map (name_of ms) q.inputs.items = names_by ns r.inputs.items ∙ (ap (λ (x : ReadItem). map name_by x.uses.names) e ∙ sym (names_by ms q.inputs.items)) in
      let functions : map (number_at ns) r.functions.items ≡ map (number_at ms) q.functions.items = functions_by ns r.functions.items ∙ (ap (λ (x : ReadItem). map number_in x.uses.functions) e ∙ sym (functions_by ms q.functions.items)) in
      λ i. record {
        number = number i;
        said = said i;
        role = role i;
        functions = functions i;
        names = names i;
      }

  item_same : (k l : ℕ) (a b : Option Clause) (o p : Option ResolvedItem) → k ≡ l → a ≡ b
      → option_map (read_item ns) o ≡ option_map (read_item ms) p
      → option_map (cell_item ns k a) o ≡ option_map (cell_item ms l b) p
  item_same k l a b None None number said e = refl
  item_same k l a b None (Some q) number said e =
      absurd (let n : None ≡ Some (read_item ms q) = e in cc)
  item_same k l a b (Some r) None number said e =
      absurd (let n : Some (read_item ns r) ≡ None = e in cc)
  item_same k l a b (Some r) (Some q) number said e =
      ap (λ (c : CellItem). Some c) (cell_same k l a b r q number said (same_Some _ _ e))

  first_is : {A : Type 0} {a b : A} {ls ks : List A} → a ∷ ls ≡ b ∷ ks → a ≡ b
  first_is e = cc

  rest_is : {A : Type 0} {a b : A} {ls ks : List A} → a ∷ ls ≡ b ∷ ks → ls ≡ ks
  rest_is e = cc

  cells_same : (xs ys : List Item) (rs qs : List ResolvedItem) (us vs : List ℕ)
      → map (slice_get ns) us ≡ map (slice_get ms) vs
      → map (clause_at xs) us ≡ map (clause_at ys) vs → read_items ns rs us ≡ read_items ms qs vs
      → cell_items ns xs rs us ≡ cell_items ms ys qs vs
  cells_same xs ys rs qs [] [] numbers texts items = refl
  cells_same xs ys rs qs [] (v ∷ vs) numbers texts items =
      absurd (let n : [] ≡ slice_get ms v ∷ map (slice_get ms) vs = numbers in cc)
  cells_same xs ys rs qs (u ∷ us) [] numbers texts items =
      absurd (let n : slice_get ns u ∷ map (slice_get ns) us ≡ [] = numbers in cc)
  cells_same xs ys rs qs (u ∷ us) (v ∷ vs) numbers texts items =
      let number : number_at ns u ≡ number_at ms v = number_by ns u ∙ (ap number_in (first_is numbers) ∙ sym (number_by ms v)) in
      let first = item_same (number_at ns u) (number_at ms v) (clause_at xs u) (clause_at ys v) (slice_get rs u) (slice_get qs v) number (first_is texts) (first_is items) in
      let rest = cells_same xs ys rs qs us vs (rest_is numbers) (rest_is texts) (rest_is items) in
      λ i. first i ∷ rest i

-- ---- models

numbers_same : (c d : Content) (ns ms : List (Option ℕ)) (cs ds : List (Option Clause))
    (us vs : List (Option Uses)) → OfItems c ns cs us ≡ OfItems d ms ds vs → ns ≡ ms
numbers_same c d ns ms cs ds us vs e = cc

fault_same : (f g : ModelFault) (q p : Quantifier) (c d : Formula) → OfFault f q c ≡ OfFault g p d
    → f ≡ g
fault_same f g q p c d e = cc

by_readings : (test other : Content) (m n : NamedModel) (id : ℕ) (r q : Reading)
    → slice_by test m r ≡ slice_by other n q → items_read_by m r ≡ items_read_by n q
    → AreReadAlike m.text.items.items (reading_by id m.numbers.items r) n.text.items.items
    (reading_by id n.numbers.items q)
by_readings test other m n id (readings.Faulty f) (readings.Faulty g) e items =
    (refl, fault_same _ _ _ _ _ _ e)
by_readings test other m n id (readings.Faulty f) (readings.Sound resolved used) e items = cc
by_readings test other m n id (readings.Sound resolved used) (readings.Faulty g) e items = cc
by_readings test other m n id (readings.Sound resolved used) (readings.Sound others reached) e
    items = (
      refl,
      cells_same m.numbers.items n.numbers.items m.text.items.items n.text.items.items
          (arc_value resolved).items.items (arc_value others).items.items used.items reached.items
          (numbers_same _ _ _ _ _ _ _ _ e) (clauses_same _ _ _ _ _ _ _ _ e) items,
    )

pub same_cells : EqualSlicesHaveSameCells
same_cells test other m n row a b e =
    by_readings test other m n row.id m.reading n.reading e (read_alike test other m n a b e)
