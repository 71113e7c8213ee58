-- Which names an expression holds, and one value evaluated anew.
use Rattle.std.proofs.Common.{ℕ, ◌≡◌, ◌<◌, ◌≤◌, ◌+◌, ◌↔◌, ◌⊎◌, ◌∙◌, inl, inr, zero, suc, List, [], ◌∷◌, length, get_or, set, IsTrue, arith, sym, subst, refl, get_or-set_same, get_or-set_other}
use Rattle.std.proofs.lemmas.Bool.{cases_eq}
use Rattle.std.proofs.lemmas.List.{length-set, get_or_default}
use Rattle.bit_rows.specs.Relation.{Relation, Has, IsRelation, IsSubset, room_of, no_slot}
use Rattle.binding_graph.specs.declared.resolved.Source.{Source}
use Rattle.binding_graph.specs.declared.resolved.Source.TheVariants as sources
use Rattle.binding_graph.specs.declared.resolved.Blend.TheVariants as blends
use Rattle.binding_graph.specs.declared.resolved.Body.{Body}
use Rattle.binding_graph.specs.declared.resolved.Step.{Step}
use Rattle.binding_graph.specs.declared.resolved.Step.TheVariants as steps
use Rattle.binding_graph.specs.Trees.{SetTree, SetName, AllEvents, NoEvent, BlendSets, ComplementSet, RelTree, RelName, NoPair, BlendRelations, SequenceRelations, ProductOfSets, IdentityOn, Close, ComplementRelation, set_code, rel_code}
use Rattle.cat_machine.specs.Meaning.{MeansRelation}
use Rattle.cat_machine.specs.Named.{OwnPairs, WithOwn}
use Rattle.cat_machine.specs.Least.{AreMonotone, SolvesAt, IsLeast, body}
use Rattle.cat_machine.specs.Rising.{IsBelowSolution, IsFixpointRound, HoldsOne, AreEmpty, AreCodes, rooms}
use Rattle.cat_machine.specs.Uses.{IsAmong, UsesOne, UsesAny, UsesAt, UsesNear}
use Rattle.cat_machine.proofs.Among.{among_none}
use Rattle.cat_machine.proofs.Monotone.{closed_wider, monotone}

-- the expression holds the name of the group at this position
abbrev pub Mentions : ℕ → RelTree → Type 0
Mentions y (RelName (sources.Predefined x)) = ⊥
Mentions y (RelName (sources.Input x)) = ⊥
Mentions y (RelName (sources.Own x)) = x ≡ y
Mentions y NoPair = ⊥
Mentions y (BlendRelations how e f) = Mentions y e ⊎ Mentions y f
Mentions y (SequenceRelations e f) = Mentions y e ⊎ Mentions y f
Mentions y (ProductOfSets s t) = ⊥
Mentions y (IdentityOn s) = ⊥
Mentions y (Close how e) = Mentions y e
Mentions y (ComplementRelation e) = Mentions y e

either : {P Q : Type 0} → P ⊎ (P → ⊥) → Q ⊎ (Q → ⊥) → (P ⊎ Q) ⊎ (P ⊎ Q → ⊥)
either (inl p) d = inl (inl p)
either (inr no_p) (inl q) = inl (inr q)
either (inr no_p) (inr no_q) = inr (λ h. elim h [ inl p ↦ no_p p | inr q ↦ no_q q ])

mentions_cases : (y : ℕ) (e : RelTree) → Mentions y e ⊎ (Mentions y e → ⊥)
mentions_cases y (RelName (sources.Predefined x)) = inr (λ h. h)
mentions_cases y (RelName (sources.Input x)) = inr (λ h. h)
mentions_cases y (RelName (sources.Own x)) = cases_eq x y
mentions_cases y NoPair = inr (λ h. h)
mentions_cases y (BlendRelations how e f) = either (mentions_cases y e) (mentions_cases y f)
mentions_cases y (SequenceRelations e f) = either (mentions_cases y e) (mentions_cases y f)
mentions_cases y (ProductOfSets s t) = inr (λ h. h)
mentions_cases y (IdentityOn s) = inr (λ h. h)
mentions_cases y (Close how e) = mentions_cases y e
mentions_cases y (ComplementRelation e) = mentions_cases y e

holds_mentioned : (names y : ℕ) (e : RelTree) → Mentions y e → IsAmong names y → HoldsOne names e
holds_mentioned names y (RelName (sources.Predefined x)) u b = absurd u
holds_mentioned names y (RelName (sources.Input x)) u b = absurd u
holds_mentioned names y (RelName (sources.Own x)) u b = subst (λ (z : ℕ). IsAmong names z) (sym u) b
holds_mentioned names y NoPair u b = absurd u
holds_mentioned names y (BlendRelations how e f) (inl u) b = inl (holds_mentioned names y e u b)
holds_mentioned names y (BlendRelations how e f) (inr u) b = inr (holds_mentioned names y f u b)
holds_mentioned names y (SequenceRelations e f) (inl u) b = inl (holds_mentioned names y e u b)
holds_mentioned names y (SequenceRelations e f) (inr u) b = inr (holds_mentioned names y f u b)
holds_mentioned names y (ProductOfSets s t) u b = absurd u
holds_mentioned names y (IdentityOn s) u b = absurd u
holds_mentioned names y (Close how e) u b = holds_mentioned names y e u b
holds_mentioned names y (ComplementRelation e) u b = holds_mentioned names y e u b

holds_wider : (m n : ℕ) → ((k : ℕ) → IsAmong m k → IsAmong n k) → (e : RelTree) → HoldsOne m e
    → HoldsOne n e
holds_wider m n wider (RelName (sources.Predefined x)) u = absurd u
holds_wider m n wider (RelName (sources.Input x)) u = absurd u
holds_wider m n wider (RelName (sources.Own x)) u = wider x u
holds_wider m n wider NoPair u = absurd u
holds_wider m n wider (BlendRelations how e f) u =
    elim u [ inl h ↦ inl (holds_wider m n wider e h) | inr h ↦ inr (holds_wider m n wider f h) ]
holds_wider m n wider (SequenceRelations e f) u =
    elim u [ inl h ↦ inl (holds_wider m n wider e h) | inr h ↦ inr (holds_wider m n wider f h) ]
holds_wider m n wider (ProductOfSets s t) u = absurd u
holds_wider m n wider (IdentityOn s) u = absurd u
holds_wider m n wider (Close how e) u = holds_wider m n wider e u
holds_wider m n wider (ComplementRelation e) u = holds_wider m n wider e u

pub holds_none : (e : RelTree) → HoldsOne 0 e → ⊥
holds_none (RelName (sources.Predefined x)) u = u
holds_none (RelName (sources.Input x)) u = u
holds_none (RelName (sources.Own x)) u = among_none x u
holds_none NoPair u = u
holds_none (BlendRelations how e f) u = elim u [ inl h ↦ holds_none e h | inr h ↦ holds_none f h ]
holds_none (SequenceRelations e f) u = elim u [ inl h ↦ holds_none e h | inr h ↦ holds_none f h ]
holds_none (ProductOfSets s t) u = u
holds_none (IdentityOn s) u = u
holds_none (Close how e) u = holds_none e u
holds_none (ComplementRelation e) u = holds_none e u

-- the first of the steps uses one of the names
first : (names : ℕ) (x : Step) (xs : List Step) → UsesOne names x → UsesAny names (x ∷ xs)
first names x xs u = (0, x, omega arith, refl, u)

-- a use in the rest of the steps
later : (names : ℕ) (x : Step) (xs : List Step) → UsesAny names xs → UsesAny names (x ∷ xs)
later names x xs (k, d, lt, at, u) = (suc k, d, omega (arith, lt), at, u)

set_past : (names : ℕ) (s : SetTree) (rest : List Step) → UsesAny names rest
    → UsesAny names (set_code s rest)
set_past names (SetName x) rest u = later names _ rest u
set_past names AllEvents rest u = later names _ rest u
set_past names NoEvent rest u = later names _ rest u
set_past names (BlendSets how s t) rest u =
    set_past names s (set_code t (steps.BlendSets how ∷ rest)) (set_past names t
    (steps.BlendSets how ∷ rest) (later names _ rest u))
set_past names (ComplementSet s) rest u =
    set_past names s (steps.ComplementSet ∷ rest) (later names _ rest u)

past : (names : ℕ) (e : RelTree) (rest : List Step) → UsesAny names rest
    → UsesAny names (rel_code e rest)
past names (RelName x) rest u = later names _ rest u
past names NoPair rest u = later names _ rest u
past names (BlendRelations how e f) rest u =
    past names e (rel_code f (steps.BlendRelations how ∷ rest)) (past names f
    (steps.BlendRelations how ∷ rest) (later names _ rest u))
past names (SequenceRelations e f) rest u =
    past names e (rel_code f (steps.SequenceRelations ∷ rest))
    (past names f (steps.SequenceRelations ∷ rest) (later names _ rest u))
past names (ProductOfSets s t) rest u =
    set_past names s (set_code t (steps.ProductOfSets ∷ rest)) (set_past names t (steps.ProductOfSets ∷ rest)
    (later names _ rest u))
past names (IdentityOn s) rest u = set_past names s (steps.IdentityOn ∷ rest) (later names _ rest u)
past names (Close how e) rest u = past names e (steps.Close how ∷ rest) (later names _ rest u)
past names (ComplementRelation e) rest u = past names e (steps.ComplementRelation ∷ rest) (later names _ rest u)

-- what an expression holds, its steps use
pub holds_uses : (names : ℕ) (e : RelTree) (rest : List Step) → HoldsOne names e
    → UsesAny names (rel_code e rest)
holds_uses names (RelName x) rest u = first names _ rest u
holds_uses names NoPair rest u = absurd u
holds_uses names (BlendRelations how e f) rest (inl u) =
    holds_uses names e (rel_code f (steps.BlendRelations how ∷ rest)) u
holds_uses names (BlendRelations how e f) rest (inr u) =
    past names e (rel_code f (steps.BlendRelations how ∷ rest))
    (holds_uses names f (steps.BlendRelations how ∷ rest) u)
holds_uses names (SequenceRelations e f) rest (inl u) = holds_uses names e (rel_code f (steps.SequenceRelations ∷ rest)) u
holds_uses names (SequenceRelations e f) rest (inr u) =
    past names e (rel_code f (steps.SequenceRelations ∷ rest)) (holds_uses names f (steps.SequenceRelations ∷ rest) u)
holds_uses names (ProductOfSets s t) rest u = absurd u
holds_uses names (IdentityOn s) rest u = absurd u
holds_uses names (Close how e) rest u = holds_uses names e (steps.Close how ∷ rest) u
holds_uses names (ComplementRelation e) rest u = holds_uses names e (steps.ComplementRelation ∷ rest) u

module _ (n : ℕ) (sets : Source → ℕ → Type 0) (outer : Source → ℕ → ℕ → Type 0) where
  -- where the names that it holds have the same pairs, an expression means the same
  agree : (R S : ℕ → ℕ → ℕ → Type 0) (e : RelTree)
      → ((y : ℕ) → Mentions y e → (a b : ℕ) → R y a b ↔ S y a b) → (a b : ℕ)
      → MeansRelation n sets (WithOwn outer R) e a b ↔ MeansRelation n sets (WithOwn outer S) e a b
  agree R S (RelName (sources.Predefined x)) same a b = ((λ m. m), (λ m. m))
  agree R S (RelName (sources.Input x)) same a b = ((λ m. m), (λ m. m))
  agree R S (RelName (sources.Own x)) same a b = same x refl a b
  agree R S NoPair same a b = ((λ m. m), (λ m. m))
  agree R S (BlendRelations blends.Union e f) same a b =
      let g = agree R S e (λ y u. same y (inl u)) a b in
      let h = agree R S f (λ y u. same y (inr u)) a b in (
        (λ m. elim m [ inl k ↦ inl (g.0 k) | inr k ↦ inr (h.0 k) ]),
        (λ m. elim m [ inl k ↦ inl (g.1 k) | inr k ↦ inr (h.1 k) ]),
      )
  agree R S (BlendRelations blends.Intersection e f) same a b =
      let g = agree R S e (λ y u. same y (inl u)) a b in
      let h = agree R S f (λ y u. same y (inr u)) a b in
      ((λ m. (g.0 m.0, h.0 m.1)), (λ m. (g.1 m.0, h.1 m.1)))
  agree R S (BlendRelations blends.Difference e f) same a b =
      let g = agree R S e (λ y u. same y (inl u)) a b in
      let h = agree R S f (λ y u. same y (inr u)) a b in
      ((λ m. (g.0 m.0, (λ k. m.1 (h.1 k)))), (λ m. (g.1 m.0, (λ k. m.1 (h.0 k)))))
  agree R S (SequenceRelations e f) same a b =
      let g = agree R S e (λ y u. same y (inl u)) in
      let h = agree R S f (λ y u. same y (inr u)) in
      ((λ (c, m, k). (c, (g a c).0 m, (h c b).0 k)), (λ (c, m, k). (c, (g a c).1 m, (h c b).1 k)))
  agree R S (ProductOfSets s t) same a b = ((λ m. m), (λ m. m))
  agree R S (IdentityOn s) same a b = ((λ m. m), (λ m. m))
  agree R S (Close how e) same a b =
      let g = agree R S e same in
      (closed_wider how n _ _ (λ c d. (g c d).0) a b, closed_wider how n _ _ (λ c d. (g c d).1) a b)
  agree R S (ComplementRelation e) same a b =
      let g = agree R S e same a b in
      ((λ m. (m.0, m.1, (λ k. m.2 (g.1 k)))), (λ m. (m.0, m.1, (λ k. m.2 (g.0 k)))))

-- the pairs of a value are those of its index in the list
found : (n : ℕ) (values : List Relation) (x a b : ℕ) → x < length values
    → OwnPairs n values x a b
    ↔ (((get_or values x no_slot).count ≡ n) × Has (get_or values x no_slot) a b)
found n [] x a b lt = absurd (omega arith)
found n (v ∷ vs) zero a b lt = ((λ h. h), (λ h. h))
found n (v ∷ vs) (suc x) a b lt = found n vs x a b (omega arith)

found_past : (n : ℕ) (values : List Relation) (x a b : ℕ) → OwnPairs n values x a b → x < length values
found_past n [] zero a b h = absurd h
found_past n [] (suc x) a b h = absurd h
found_past n (v ∷ vs) zero a b h = omega arith
found_past n (v ∷ vs) (suc x) a b h =
    let k : x < length vs = found_past n vs x a b h in omega (arith, k)

pub rooms-set : (values : List Relation) (x : ℕ) (r : Relation) → x < length values
    → room_of r < room_of (get_or values x no_slot) → rooms (set values x r) < rooms values
rooms-set [] x r lt less = absurd (omega arith)
rooms-set (v ∷ vs) zero r lt less = omega arith
rooms-set (v ∷ vs) (suc x) r lt less =
    let t : rooms (set vs x r) < rooms vs = rooms-set vs x r (omega arith) less in omega arith

module _ (n : ℕ) (sets : Source → ℕ → Type 0) (outer : Source → ℕ → ℕ → Type 0)
    (bodies : List RelTree) (values : List Relation) (x : ℕ) (r : Relation)
    (fit : AreMonotone bodies) (sound : IsBelowSolution n sets outer bodies values) (lt : x < length bodies)
    (next : IsRelation r n (MeansRelation n sets (WithOwn outer (OwnPairs n values)) (body bodies x))) where
  in_values : x < length values
  in_values = rw sound.as_many lt

  here : get_or (set values x r) x no_slot ≡ r
  here = get_or-set_same values x r no_slot in_values

  there : (y : ℕ) → (y ≡ x → ⊥) → get_or (set values x r) y no_slot ≡ get_or values y no_slot
  there y other = get_or-set_other values x y r no_slot other

  long : length (set values x r) ≡ length values
  long = length-set values x r

  -- the new pairs of the name
  of_here : (a b : ℕ) → OwnPairs n (set values x r) x a b ↔ Has r a b
  of_here a b =
      let f = found n (set values x r) x a b (rw long in_values) in
      ((λ h. rw here at ((f.0 h).1)), (λ h. f.1 (rw here (next.count, h))))

  -- the other names have the pairs they had
  of_there : (y : ℕ) → (y ≡ x → ⊥) → (a b : ℕ) → OwnPairs n (set values x r) y a b ↔ OwnPairs n values y a b
  of_there y other a b = (
    (λ h. let inside : y < length values = rw long at (found_past n (set values x r) y a b h) in
        (found n values y a b inside).1 (rw (there y other) at
        ((found n (set values x r) y a b (rw long inside)).0 h))),
    (λ h. let inside : y < length values = found_past n values y a b h in
        (found n (set values x r) y a b (rw long inside)).1
        (rw (there y other) ((found n values y a b inside).0 h))),
  )

  -- the old value lies inside the new one
  pub value_within : IsSubset (get_or values x no_slot) r
  value_within a b h =
      (next.pairs a b).1 (sound.rising x lt a b ((found n values x a b in_values).1
      ((sound.on x in_values).0, h)))

  wider : (y a b : ℕ) → OwnPairs n values y a b → OwnPairs n (set values x r) y a b
  wider y a b h =
      elim (cases_eq y x) [
        | inl same ↦ rw same ((of_here a b).1 (value_within a b
            ((found n values x a b in_values).0 (rw same at h)).1))
        | inr other ↦ (of_there y other a b).1 h
      ]

  -- what the new values have, they have of the new relation or of the old values
  either_way : (y a b : ℕ) → OwnPairs n (set values x r) y a b
      → ((y ≡ x) × MeansRelation n sets (WithOwn outer (OwnPairs n values)) (body bodies x) a b)
      ⊎ OwnPairs n values y a b
  either_way y a b h =
      elim (cases_eq y x) [
        | inl same ↦ inl (same, (next.pairs a b).0 ((of_here a b).0 (rw same at h)))
        | inr other ↦ inr ((of_there y other a b).0 h)
      ]

  pub sound_step : IsBelowSolution n sets outer bodies (set values x r)
  sound_step = record {
    as_many = long ∙ sound.as_many;
    on = λ y in_set. elim (cases_eq y x) [
      | inl same ↦ rw (same, here) (next.count, next.regular)
      | inr other ↦ rw (there y other) (sound.on y (rw long at in_set))
    ];
    rising = λ y in_bodies a b h. elim (either_way y a b h) [
      | inl t ↦ rw t.0 (monotone n sets outer (OwnPairs n values) (OwnPairs n (set values x r)) wider
          (body bodies x) (fit x lt) a b t.1)
      | inr old ↦ monotone n sets outer (OwnPairs n values) (OwnPairs n (set values x r)) wider (body bodies y)
          (fit y in_bodies) a b (sound.rising y in_bodies a b old)
    ];
    inside = λ test closed y in_bodies a b h. elim (either_way y a b h) [
      | inl t ↦
          let passes : MeansRelation n sets (WithOwn outer (λ z c d. IsTrue (test z c d))) (body bodies x) a b =
          monotone n sets outer (OwnPairs n values) (λ z c d. IsTrue (test z c d))
          (λ z c d k. sound.inside test closed z
          (rw (← sound.as_many) (found_past n values z c d k)) c d k)
          (body bodies x) (fit x lt) a b t.1 in
          rw t.0 (closed x lt a b passes)
      | inr old ↦ sound.inside test closed y in_bodies a b old
    ];
  }

  module _ (todo grew : ℕ)
      (pending : (y : ℕ) → y < length bodies
      → SolvesAt n sets outer bodies values y
      ⊎ (((x ≤ y) × IsAmong todo y) ⊎ HoldsOne grew (body bodies y))) where
    kept_names : (y : ℕ) → (Mentions x (body bodies y) → ⊥) → (z : ℕ) → Mentions z (body bodies y)
        → (a b : ℕ) → OwnPairs n values z a b ↔ OwnPairs n (set values x r) z a b
    kept_names y avoids z uses a b = elim (cases_eq z x) [
      | inl same ↦ absurd (avoids (subst (λ (k : ℕ). Mentions k (body bodies y)) same uses))
      | inr unlike ↦ let t = of_there z unlike a b in (t.1, t.0)
    ]

    -- the new value is another one
    pub round_grows : (more : ℕ) → ((k : ℕ) → IsAmong grew k → IsAmong more k) → IsAmong more x
        → IsFixpointRound n sets outer bodies (set values x r) todo (x + 1) more
    round_grows more bits marked = record {
      sound = sound_step;
      pending = λ y y_lt. elim (cases_eq y x) [
        | inl same ↦ at_x y same
        | inr unlike ↦ elim (pending y y_lt) [
          | inl solved ↦ elim (mentions_cases x (body bodies y)) [
            | inl uses ↦ inr (inr (holds_mentioned more x (body bodies y) uses marked))
            | inr avoids ↦ inl (λ a b.
                let t = of_there y unlike a b in
                let k = agree n sets outer (OwnPairs n values) (OwnPairs n (set values x r)) (body bodies y) (kept_names y avoids) a b in
                ((λ h. k.0 ((solved a b).0 (t.0 h))), (λ h. t.1 ((solved a b).1 (k.1 h)))))
          ]
          | inr rest ↦ elim rest [
            | inl t ↦ inr (inl (omega (arith, t.0, unlike), t.1))
            | inr uses ↦ inr (inr (holds_wider grew more bits (body bodies y) uses))
          ]
        ]
      ];
    }
      where
        at_x : (y : ℕ) → y ≡ x
            → SolvesAt n sets outer bodies (set values x r) y
            ⊎ (((x + 1 ≤ y) × IsAmong todo y) ⊎ HoldsOne more (body bodies y))
        at_x y same = rw same (elim (mentions_cases x (body bodies x)) [
          | inl uses ↦ inr (inr (holds_mentioned more x (body bodies x) uses marked))
          | inr avoids ↦ inl (λ a b.
              let t = of_here a b in
              let k = agree n sets outer (OwnPairs n values) (OwnPairs n (set values x r)) (body bodies x) (kept_names x avoids) a b in
              ((λ h. k.0 ((next.pairs a b).0 (t.0 h))), (λ h. t.1 ((next.pairs a b).1 (k.1 h)))))
        ])

    -- the new value is the old one
    pub round_stays : r ≡ get_or values x no_slot
        → IsFixpointRound n sets outer bodies values todo (x + 1) grew
    round_stays same = record {
      sound = sound;
      pending = λ y y_lt. elim (pending y y_lt) [
        | inl solved ↦ inl solved
        | inr rest ↦ elim rest [
          | inl t ↦ elim (cases_eq y x) [
            | inl at_x ↦ inl (rw at_x (λ a b.
                let f = found n values x a b in_values in (
                  (λ h. (next.pairs a b).0 (rw (← same) at (f.0 h).1)),
                  (λ h. f.1 ((sound.on x in_values).0, rw (← same) ((next.pairs a b).1 h))),
                )))
            | inr unlike ↦ inr (inl (omega (arith, t.0, unlike), t.1))
          ]
          | inr uses ↦ inr (inr uses)
        ]
      ];
    }

-- a name that is not to do
pub round_skips : (n : ℕ) (sets : Source → ℕ → Type 0) (outer : Source → ℕ → ℕ → Type 0)
    (bodies : List RelTree) (values : List Relation) (todo x grew : ℕ)
    → IsFixpointRound n sets outer bodies values todo x grew → (IsAmong todo x → ⊥)
    → IsFixpointRound n sets outer bodies values todo (x + 1) grew
round_skips n sets outer bodies values todo x grew round not_todo = record {
  sound = round.sound;
  pending = λ y y_lt. elim (round.pending y y_lt) [
    | inl solved ↦ inl solved
    | inr rest ↦ elim rest [
      | inl t ↦ elim (cases_eq y x) [
        | inl at_x ↦ absurd (not_todo (subst (λ (k : ℕ). IsAmong todo k) at_x t.1))
        | inr unlike ↦ inr (inl (further y t.0 unlike, t.1))
      ]
      | inr uses ↦ inr (inr uses)
    ]
  ];
}
  where
    further : (y : ℕ) → x ≤ y → (y ≡ x → ⊥) → x + 1 ≤ y
    further y le unlike = omega arith

pub empty_sound : (n : ℕ) (sets : Source → ℕ → Type 0) (outer : Source → ℕ → ℕ → Type 0)
    (bodies : List RelTree) (values : List Relation) → AreEmpty n (length values) values
    → length values ≡ length bodies → IsBelowSolution n sets outer bodies values
empty_sound n sets outer bodies values empty many = record {
  as_many = many;
  on = λ x lt. ((empty x lt).count, (empty x lt).regular);
  rising = λ x lt a b h. absurd (none x a b h);
  inside = λ test closed x lt a b h. absurd (none x a b h);
}
  where
    none : (x a b : ℕ) → OwnPairs n values x a b → ⊥
    none x a b h =
        let lt : x < length values = found_past n values x a b h in
        ((empty x lt).pairs a b).0 ((found n values x a b lt).0 h).1

-- the body at an index is the steps of the tree there
pub code_at : (trees : List RelTree) (bodies : List Body) (x : ℕ) (b : Body) → AreCodes trees bodies
    → x < length trees → (get_or bodies x b).code.steps.items ≡ rel_code (body trees x) []
code_at [] bodies x b h lt = absurd (omega arith)
code_at (t ∷ ts) [] x b h lt = absurd h
code_at (t ∷ ts) (c ∷ cs) zero b h lt = h.0
code_at (t ∷ ts) (c ∷ cs) (suc x) b h lt = code_at ts cs x b h.1 (omega arith)

pub codes_long : (trees : List RelTree) (bodies : List Body) → AreCodes trees bodies
    → length trees ≡ length bodies
codes_long [] [] h = refl
codes_long [] (c ∷ cs) h = absurd h
codes_long (t ∷ ts) [] h = absurd h
codes_long (t ∷ ts) (c ∷ cs) h =
    let e : length ts ≡ length cs = codes_long ts cs h.1 in omega (arith, e)

-- a name whose body holds one of the names is among those to do
pub holds_next : (trees : List RelTree) (bodies : List Body) (x grew : ℕ) → AreCodes trees bodies
    → x < length trees → HoldsOne grew (body trees x) → UsesAt grew bodies x
holds_next (t ∷ ts) [] x grew h lt u = absurd h
holds_next [] bodies x grew h lt u = absurd (omega arith)
holds_next (t ∷ ts) (c ∷ cs) x grew h lt u =
    let long : length (t ∷ ts) ≡ length (c ∷ cs) = codes_long (t ∷ ts) (c ∷ cs) h in
    let b : Body = get_or (c ∷ cs) x c in (
      b,
      omega (arith, lt, long),
      get_or_default (c ∷ cs) x b c (omega (arith, lt, long)),
      rw (code_at (t ∷ ts) (c ∷ cs) x c h lt) (holds_uses grew (body (t ∷ ts) x) [] u),
    )

-- before the first round: all names are to do
pub round_first : (n : ℕ) (sets : Source → ℕ → Type 0) (outer : Source → ℕ → ℕ → Type 0)
    (bodies : List RelTree) (values : List Relation) (todo : ℕ)
    → AreEmpty n (length values) values → length values ≡ length bodies → ((k : ℕ) → IsAmong todo k)
    → IsFixpointRound n sets outer bodies values todo 0 0
round_first n sets outer bodies values todo empty many all = record {
  sound = empty_sound n sets outer bodies values empty many;
  pending = λ y y_lt. inr (inl (omega arith, all y));
}

-- from one round to the next
pub round_next : (n : ℕ) (sets : Source → ℕ → Type 0) (outer : Source → ℕ → ℕ → Type 0)
    (trees : List RelTree) (bodies : List Body) (values : List Relation) (old grew new : ℕ)
    → AreCodes trees bodies → IsFixpointRound n sets outer trees values old (length trees) grew
    → ((k : ℕ) → IsAmong new k ↔ UsesNear grew bodies k) → IsFixpointRound n sets outer trees values new 0 0
round_next n sets outer trees bodies values old grew new codes round next = record {
  sound = round.sound;
  pending = λ y y_lt. elim (round.pending y y_lt) [
    | inl solved ↦ inl solved
    | inr rest ↦ elim rest [
      | inl t ↦ absurd (omega (arith, t.0, y_lt))
      | inr uses ↦ inr (inl (
        omega arith,
        (next y).1 (y, refl, holds_next trees bodies y grew codes y_lt uses),
      ))
    ]
  ];
}

-- after a round in which nothing grew
pub round_done : (n : ℕ) (sets : Source → ℕ → Type 0) (outer : Source → ℕ → ℕ → Type 0)
    (trees : List RelTree) (values : List Relation) (old grew : ℕ) → grew ≡ 0
    → IsFixpointRound n sets outer trees values old (length trees) grew → IsLeast n sets outer trees values
round_done n sets outer trees values old grew none round = record {
  as_many = round.sound.as_many;
  on = round.sound.on;
  solves = λ y y_lt. elim (round.pending y y_lt) [
    | inl solved ↦ solved
    | inr rest ↦ elim rest [
      | inl t ↦ absurd (omega (arith, t.0, y_lt))
      | inr uses ↦ absurd (holds_none (body trees y) (rw none at uses))
    ]
  ];
  inside = round.sound.inside;
}
