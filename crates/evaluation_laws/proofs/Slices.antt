-- Models that give a test one slice are read alike.
use Rattle.std.proofs.Common.{ℕ, ◌≡◌, List, [], ◌∷◌, map, Option, Some, None, refl}
use Rattle.std.specs.Prelude.{slice_get, option_map}
use Rattle.std.specs.Arc.{arc_value}
use Rattle.std.specs.List.{AllZip}
use Rattle.std.proofs.lemmas.Option.{same_Some}
use Rattle.text_values.specs.TestValue.{Content}
use Rattle.text_values.specs.ModelValue as value
use Rattle.binding_graph.specs.declared.resolved.ResolvedItem.{ResolvedItem}
use Rattle.binding_graph.specs.Contents.{role_content}
use Rattle.bench_texts.specs.declared.model.NamedModel.{NamedModel}
use Rattle.bench_texts.specs.declared.reading.Reading.{Reading}
use Rattle.bench_texts.specs.declared.reading.Reading.TheVariants as readings
use Rattle.bench_texts.specs.Held.{IsModelRead}
use Rattle.bench_texts.specs.Readings.{IsModelReading}
use Rattle.bench_slices.specs.Slices.{Uses, OfItems, uses_of, uses_at, slice, slice_by}
use Rattle.evaluation_laws.specs.Readings.{read_item, items_read_by, items_read}
use Rattle.evaluation_laws.proofs.ReadModels.{models_walked}
use Rattle.evaluation_laws.proofs.Walk.{role_at}

module _ (ns ms : List ℕ) where
  read_one : (o p : Option ResolvedItem)
      → option_map (λ r. role_content r.role) o ≡ option_map (λ r. role_content r.role) p
      → option_map (uses_of ns) o ≡ option_map (uses_of ms) p
      → option_map (read_item ns) o ≡ option_map (read_item ms) p
  read_one None None e f = refl
  read_one None (Some q) e f = absurd (let n : None ≡ Some (role_content q.role) = e in cc)
  read_one (Some r) None e f = absurd (let n : Some (role_content r.role) ≡ None = e in cc)
  read_one (Some r) (Some q) e f =
      let role : role_content r.role ≡ role_content q.role = same_Some _ _ e in
      let uses : uses_of ns r ≡ uses_of ms q = same_Some _ _ f in
      λ i. Some (record { role = role i; uses = uses i })

  first_uses : (a b : Option Uses) (ls ks : List (Option Uses)) → a ∷ ls ≡ b ∷ ks → a ≡ b
  first_uses a b ls ks e = cc

  rest_uses : (a b : Option Uses) (ls ks : List (Option Uses)) → a ∷ ls ≡ b ∷ ks → ls ≡ ks
  rest_uses a b ls ks e = cc

  read_all : (rs qs : List ResolvedItem) (us vs : List ℕ)
      → AllZip (λ u v. role_at rs u ≡ role_at qs v) us vs
      → map (uses_at ns rs) us ≡ map (uses_at ms qs) vs
      → map (λ k. option_map (read_item ns) (slice_get rs k)) us
      ≡ map (λ k. option_map (read_item ms) (slice_get qs k)) vs
  read_all rs qs [] [] roles uses = refl
  read_all rs qs [] (v ∷ vs) roles uses = absurd roles
  read_all rs qs (u ∷ us) [] roles uses = absurd roles
  read_all rs qs (u ∷ us) (v ∷ vs) roles uses =
      let first = read_one (slice_get rs u) (slice_get qs v) roles.0 (first_uses (uses_at ns rs u) (uses_at ms qs v) (map (uses_at ns rs) us) (map (uses_at ms qs) vs) uses) in
      let rest = read_all rs qs us vs roles.1 (rest_uses (uses_at ns rs u) (uses_at ms qs v) (map (uses_at ns rs) us) (map (uses_at ms qs) vs) uses) in
      λ i. first i ∷ rest i

pub clauses_same : (c d : Content) (ns ms : List (Option ℕ)) (cs ds : List (Option value.Clause))
    (us vs : List (Option Uses)) → OfItems c ns cs us ≡ OfItems d ms ds vs → cs ≡ ds
clauses_same c d ns ms cs ds us vs e = cc

uses_same : (c d : Content) (ns ms : List (Option ℕ)) (cs ds : List (Option value.Clause))
    (us vs : List (Option Uses)) → OfItems c ns cs us ≡ OfItems d ms ds vs → us ≡ vs
uses_same c d ns ms cs ds us vs e = cc

by_readings : (test other : Content) (m n : NamedModel) (r q : Reading)
    → IsModelReading m.text.items.items r → IsModelReading n.text.items.items q
    → slice_by test m r ≡ slice_by other n q → items_read_by m r ≡ items_read_by n q
by_readings test other m n (readings.Faulty f) (readings.Faulty g) a b e = refl
by_readings test other m n (readings.Faulty f) (readings.Sound resolved used) a b e = cc
by_readings test other m n (readings.Sound resolved used) (readings.Faulty g) a b e = cc
by_readings test other m n (readings.Sound resolved used) (readings.Sound others reached) a b e =
    let rs = (arc_value resolved).items.items in
    let qs = (arc_value others).items.items in
    let walked = models_walked m.text.items.items n.text.items.items rs qs used.items reached.items a.0 b.0 a.1 b.1 (clauses_same _ _ _ _ _ _ _ _ e) in
    read_all m.numbers.items n.numbers.items rs qs used.items reached.items walked.roles
    (uses_same _ _ _ _ _ _ _ _ e)

pub read_alike : (test other : Content) (m n : NamedModel) → IsModelRead m → IsModelRead n
    → slice test m ≡ slice other n → items_read m ≡ items_read n
read_alike test other m n a b e = by_readings test other m n m.reading n.reading a b e
