-- A value joined into another.
use Rattle.std.proofs.Common.{ℕ, ◌≡◌, ◌<◌, ◌∙◌, inl, inr, sym, subst, List, length, get_or, set}
use Rattle.std.proofs.lemmas.List.{get_or_read}
use Rattle.bit_rows.specs.Pairs.{Union}
use Rattle.bit_rows.specs.Relation.{Relation, Has, IsRelation, IsRegular, IsSubset, room_of, no_slot}
use Rattle.bit_relations.proofs.Laws.{grows, same_relation}
use Rattle.cat_machine.specs.Rising.{rooms}
use Rattle.cat_machine.proofs.Growing.{rooms-set}

module _ (own copy joined value : Relation) (copied : copy ≡ own)
    (made : IsRelation joined copy.count (Union (Has copy) (Has value))) (regular : IsRegular own)
  where
    union : IsRelation joined own.count (Union (Has own) (Has value))
    union =
        subst (λ (r : Relation). IsRelation joined r.count (Union (Has r) (Has value))) copied made

    pub less_room : (own ≡ joined → ⊥) → room_of joined < room_of own
    less_room other =
        elim
        (grows own joined regular union.regular (sym union.count)
        (λ a b h. (union.pairs a b).1 (inl h))) [
          | inl same ↦ absurd (other same)
          | inr less ↦ less
        ]

    -- where nothing is gained, the value lies inside the old one
    pub no_gain : own ≡ joined → value.count ≡ own.count → IsRegular value → IsSubset own value
        → own ≡ value
    no_gain same count formed within = same_relation own value regular formed (sym count) (λ a b. (
      (λ h. within a b h),
      (λ h. subst (λ (r : Relation). Has r a b) (sym same) ((union.pairs a b).1 (inr h))),
    ))

    -- what the old one lies inside is the two joined
    pub whole_gain : value.count ≡ own.count → IsRegular value → IsSubset own value → joined ≡ value
    whole_gain count formed within =
        same_relation joined value union.regular formed (union.count ∙ sym count) (λ a b. (
          (λ h. elim ((union.pairs a b).0 h) [ inl old ↦ within a b old | inr new ↦ new ]),
          (λ h. (union.pairs a b).1 (inr h)),
        ))

-- one value with less room
pub rooms_less : (values : List Relation) (x : ℕ) (v r : Relation) → x < length values
    → v ≡ get_or values x v → room_of r < room_of v → rooms (set values x r) < rooms values
rooms_less values x v r lt here less =
    rooms-set values x r lt (subst (λ (s : Relation). room_of r < room_of s)
    (get_or_read values x v lt here no_slot) less)
