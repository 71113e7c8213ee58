-- Rounds find the values that can arise.
use Rattle.std.proofs.Common.{ℕ, ◌≡◌, ◌<◌, inl, inr, List, length, get_or, slice_get, Option, Some, Contains, sym, subst, ap, ◌∙◌}
use Rattle.std.proofs.lemmas.Option.{slice_get_within, get_or_from_slice_get}
use Rattle.bit_rows.specs.Relation.{Events, IsMember, IsEvents}
use Rattle.store_orders.specs.Events.{numbers, is_load, is_store}
use Rattle.run_combinations.specs.ReadChoices.{MayReadFrom, Derived, stored, read, chosen, accesses_in}
use Rattle.run_combinations.specs.Rounds.{IsReadingOf, Stepped, CanArise, IsArisingRound, AllArise, store_event, load_event}
use Rattle.store_orders.specs.declared.combination.Event.{Event}
use Rattle.run_combinations.specs.declared.reading.Reading.{Reading}
use Rattle.run_combinations.proofs.Numbers.{contains_at, mapped_at, Behind, behind_at, element_at, proper}

pub round_keeps : (r : Reading) (reads_from : List ℕ) (without : Option ℕ) (old new : Events)
    → IsArisingRound r reads_from without old new → (x : ℕ) → IsMember old x → IsMember new x
round_keeps r reads_from without old new h x m =
    (h.loads.members x).1 (inl ((h.stores.members x).1 (inl m)))

pub round_count : (r : Reading) (reads_from : List ℕ) (without : Option ℕ) (old new : Events)
    → IsArisingRound r reads_from without old new → new.count ≡ old.count
round_count r reads_from without old new h = h.loads.count ∙ h.stores.count

-- what a round adds can arise
pub round_arises : (r : Reading) (reads_from : List ℕ) (without : Option ℕ) (old new : Events)
    → IsArisingRound r reads_from without old new → AllArise r reads_from without old → AllArise r reads_from without new
round_arises r reads_from without old new h before es pairs shows x m =
    elim ((h.loads.members x).0 m) [
      | inl was ↦ between x was
      | inr t ↦ loaded t
    ]
  where
    between : (y : ℕ) → IsMember h.between y → Derived (accesses_in es pairs) reads_from without y
    between y k = elim ((h.stores.members y).0 k) [
      | inl was ↦ before es pairs shows y was
      | inr t ↦
          let listed : Contains (numbers is_store 0 es) y = subst (λ (z : ℕ). Contains (numbers is_store 0 es) z) (sym t.holds.1) (contains_at (numbers is_store 0 es) t.index t.item.event (mapped_at store_event r.stores.items (numbers is_store 0 es) t.index t.item shows.stores t.there)) in
          stored listed (λ a need. before es pairs shows a (t.holds.2.1 a (((shows.needs t.index
          t.item t.there).members a).1
          (subst (λ (z : ℕ). (accesses_in es pairs).Need a z) t.holds.1 need))))
    ]

    loaded : Stepped load_event (CanArise reads_from without h.between) h.between.count
        (length r.loads.items) r.loads.items x → Derived (accesses_in es pairs) reads_from without x
    loaded t =
        let at : slice_get (numbers is_load 0 es) t.index ≡ Some t.item.event = mapped_at load_event r.loads.items (numbers is_load 0 es) t.index t.item shows.loads t.there in
        let within : t.index < length (numbers is_load 0 es) = slice_get_within (numbers is_load 0 es) t.index t.item.event at in
        let is : x ≡ get_or (numbers is_load 0 es) t.index 0 = t.holds.1 ∙ sym (get_or_from_slice_get (numbers is_load 0 es) t.index t.item.event 0 at) in
        elim t.holds.2.1 [
          | inl said ↦ read t.index within t.holds.2.0 is said.0
              (between (get_or reads_from t.index 0) said.1)
          | inr any ↦ chosen t.index any.1.1.0 within t.holds.2.0 is any.0
              (((shows.sources t.index t.item t.there).members any.1.1.0).0 any.1.1.1)
              (between any.1.1.0 any.1.1.2)
        ]

-- where a round adds nothing, all is there that can arise
pub nothing_more : (es : List Event) (pairs : List (ℕ × ℕ)) (r : Reading) (reads_from : List ℕ)
    (without : Option ℕ) (d : Events) → IsReadingOf es pairs r → d.count ≡ r.count
    → IsArisingRound r reads_from without d d → (x : ℕ) → Derived (accesses_in es pairs) reads_from without x
    → IsMember d x
nothing_more es pairs r reads_from without d shows count h x (stored st needs) =
    let n : (k : ℕ) × (k < length (numbers is_store 0 es)) × (get_or (numbers is_store 0 es) k x ≡ x) = st in
    let b : Behind store_event r.stores.items n.0 x = behind_at store_event r.stores.items (numbers is_store 0 es) n.0 x shows.stores (element_at (numbers is_store 0 es) n.0 x n.1 ∙ ap (λ (y : ℕ). Some y) n.2) in
    let lt : x < d.count = subst (λ (k : ℕ). x < k) (sym (count ∙ shows.count)) ((proper es pairs).stores_within x st) in
    (h.loads.members x).1 (inl ((h.stores.members x).1 (inr (record {
      index = n.0;
      item = b.item;
      below = slice_get_within r.stores.items n.0 b.item b.there;
      there = b.there;
      holds = (
        lt,
        b.is,
        (
          (shows.needs n.0 b.item b.there).count ∙ sym count,
          λ a m. nothing_more es pairs r reads_from without d shows count h a
              (needs a (subst (λ (z : ℕ). (accesses_in es pairs).Need a z) (sym b.is)
              (((shows.needs n.0 b.item b.there).members a).0 m))),
        ),
      );
    }))))
nothing_more es pairs r reads_from without d shows count h x (read i lt other is within v) =
    let b : Behind load_event r.loads.items i (get_or (numbers is_load 0 es) i 0) = behind_at load_event r.loads.items (numbers is_load 0 es) i (get_or (numbers is_load 0 es) i 0) shows.loads (element_at (numbers is_load 0 es) i 0 lt) in
    let below : x < h.between.count = subst (λ (k : ℕ). x < k) (sym (h.stores.count ∙ count ∙ shows.count)) (subst (λ (y : ℕ). y < length es) (sym is) ((proper es pairs).loads_within i lt)) in
    (h.loads.members x).1 (inr (record {
      index = i;
      item = b.item;
      below = slice_get_within r.loads.items i b.item b.there;
      there = b.there;
      holds = (
        below,
        is ∙ b.is,
        (
          other,
          inl (
            within,
            (h.stores.members (get_or reads_from i 0)).1 (inl (nothing_more es pairs r
                reads_from without d shows count h (get_or reads_from i 0) v)),
          ),
        ),
      );
    }))
nothing_more es pairs r reads_from without d shows count h x (chosen i s lt other is past source v) =
    let b : Behind load_event r.loads.items i (get_or (numbers is_load 0 es) i 0) = behind_at load_event r.loads.items (numbers is_load 0 es) i (get_or (numbers is_load 0 es) i 0) shows.loads (element_at (numbers is_load 0 es) i 0 lt) in
    let below : x < h.between.count = subst (λ (k : ℕ). x < k) (sym (h.stores.count ∙ count ∙ shows.count)) (subst (λ (y : ℕ). y < length es) (sym is) ((proper es pairs).loads_within i lt)) in
    let sources : IsEvents b.item.sources r.count (MayReadFrom (accesses_in es pairs) i) = shows.sources i b.item b.there in
    (h.loads.members x).1 (inr (record {
      index = i;
      item = b.item;
      below = slice_get_within r.loads.items i b.item b.there;
      there = b.there;
      holds = (
        below,
        is ∙ b.is,
        (
          other,
          inr (
            past,
            (
              sources.count ∙ sym (h.stores.count ∙ count),
              (
                s,
                (sources.members s).1 source,
                (h.stores.members s).1 (inl (nothing_more es pairs r
                    reads_from without d shows count h s v)),
              ),
            ),
          ),
        ),
      );
    }))
