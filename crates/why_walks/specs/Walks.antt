-- Walks through the factors of a composition: from one event to another, over steps of each factor
-- in turn.
use Rattle.std.specs.Prelude.{ℕ, ◌≡◌, ◌<◌, ◌-◌, ◌⊎◌, List, [], ◌∷◌, Vec, drop, length, map, slice_index_or}
use Rattle.std.specs.List.{All}
use Rattle.std.specs.declared.alloc.Global.{Global}
use Rattle.bit_rows.specs.Pairs.{Composite, Identity, Opt, Plus, Star}
use Rattle.bit_rows.specs.Relation.{Relation, Has, IsRegular, IsRelation, no_slot}
use Rattle.relation_cycles.specs.Cycles.{IsPathFrom, IsShortestPath}
use Rattle.why_walks.specs.declared.factor.Repeats.{Repeats}
use Rattle.why_walks.specs.declared.factor.Repeats.TheVariants as repeats
use Rattle.why_walks.specs.declared.run.Link.{Link}

-- no step, and one step: the events where the steps begin
abbrev pub IsStay : ℕ → List ℕ → ℕ → Type 0
IsStay a events b = (events ≡ []) × (a ≡ b)

abbrev pub IsOneStep : (ℕ → ℕ → Type 0) → ℕ → List ℕ → ℕ → Type 0
IsOneStep R a events b = (events ≡ a ∷ []) × R a b

-- the steps of one factor from an event to another, by the events where they begin
abbrev pub IsFactorRun : Repeats → (ℕ → ℕ → Type 0) → ℕ → List ℕ → ℕ → Type 0
IsFactorRun repeats.Once R a events b = IsOneStep R a events b
IsFactorRun repeats.AtMostOnce R a events b = IsStay a events b ⊎ IsOneStep R a events b
IsFactorRun repeats.OnceOrMore R a events b = IsPathFrom R a b events
IsFactorRun repeats.AnyNumber R a events b = IsStay a events b ⊎ IsPathFrom R a b events

-- a run of each factor, each from where the one before it leads to
abbrev pub IsWalk : List Link → ℕ → List (List ℕ) → ℕ → Type 0
IsWalk [] a [] b = a ≡ b
IsWalk [] a (run ∷ runs) b = ⊥
IsWalk (l ∷ ls) a [] b = ⊥
IsWalk (l ∷ ls) a (run ∷ runs) b =
    (c : ℕ) × IsFactorRun l.repeats (Has l.relation) a run c × IsWalk ls c runs b

abbrev pub runs_of : List (Vec ℕ Global) → List (List ℕ)
runs_of runs = map (λ v. v.items) runs

-- ---- which of the walks is found

-- of the runs of one factor from an event to another the shortest, and of these the first
abbrev pub IsFirstRun : Repeats → (ℕ → ℕ → Type 0) → ℕ → List ℕ → ℕ → Type 0
IsFirstRun repeats.Once R a events b = IsOneStep R a events b
IsFirstRun repeats.AtMostOnce R a events b =
    IsStay a events b ⊎ ((a ≡ b → ⊥) × IsOneStep R a events b)
IsFirstRun repeats.OnceOrMore R a events b = IsShortestPath R a b events
IsFirstRun repeats.AnyNumber R a events b =
    IsStay a events b ⊎ ((a ≡ b → ⊥) × IsShortestPath R a b events)

-- the factor leads to no smaller event from which a walk through the further factors leads to the
-- end
abbrev pub IsLeastNext : Link → List Link → ℕ → ℕ → ℕ → Type 0
IsLeastNext l ls from next to =
    (d : ℕ) → d < next → (run : List ℕ) → IsFactorRun l.repeats (Has l.relation) from run d
    → (runs : List (List ℕ)) → IsWalk ls d runs to → ⊥

-- of the walks the one of which each factor in turn leads to the least event from which the walk
-- can go on, by the first of its shortest runs
abbrev pub IsFirstWalk : List Link → ℕ → List (List ℕ) → ℕ → Type 0
IsFirstWalk [] a [] b = a ≡ b
IsFirstWalk [] a (run ∷ runs) b = ⊥
IsFirstWalk (l ∷ ls) a [] b = ⊥
IsFirstWalk (l ∷ ls) a (run ∷ runs) b =
    (c : ℕ) × IsFirstRun l.repeats (Has l.relation) a run c × IsLeastNext l ls a c b
    × IsFirstWalk ls c runs b

-- there is no walk
abbrev pub IsNoWalk : List Link → ℕ → ℕ → Type 0
IsNoWalk links a b = (runs : List (List ℕ)) → IsWalk links a runs b → ⊥

-- the relation is one on n events
pub record IsLinkOn (n : ℕ) (link : Link) : Type 0 where
  pub count : link.relation.count ≡ n
  pub regular : IsRegular link.relation

abbrev pub AreLinksOn : ℕ → List Link → Type 0
AreLinksOn n links = All (IsLinkOn n) links

-- ---- what the search for a walk keeps

-- the pairs that the steps of a factor lead from and to, among n events
abbrev pub Repeated : Repeats → ℕ → (ℕ → ℕ → Type 0) → ℕ → ℕ → Type 0
Repeated repeats.Once n R = R
Repeated repeats.AtMostOnce n R = Opt n R
Repeated repeats.OnceOrMore n R = Plus R
Repeated repeats.AnyNumber n R = Star n R

abbrev pub LinkPairs : Link → ℕ → ℕ → Type 0
LinkPairs l = Repeated l.repeats l.relation.count (Has l.relation)

-- the pairs that factors in turn lead from and to
abbrev pub LeadsThrough : ℕ → List Link → ℕ → ℕ → Type 0
LeadsThrough n [] = Identity n
LeadsThrough n (l ∷ ls) = Composite (LinkPairs l) (LeadsThrough n ls)

-- of the last factor, the one before it, and so on, the pairs that those behind it lead from and to
abbrev pub AreRests : ℕ → List Link → List Relation → Type 0
AreRests n links rests =
    (j : ℕ) → j < length rests
    → IsRelation (slice_index_or rests j no_slot) n (LeadsThrough n (drop (length links - j) links))

-- the left leads to no smaller event from which the right leads on
abbrev pub IsLeastBetween : (ℕ → ℕ → Type 0) → (ℕ → ℕ → Type 0) → ℕ → ℕ → ℕ → Type 0
IsLeastBetween R S from event to = (d : ℕ) → d < event → R from d → S d to → ⊥

-- the least event that the left leads to and from which the right leads on
pub record IsLeastMiddle (R S : ℕ → ℕ → Type 0) (from to event : ℕ) : Type 0 where
  pub into : R from event
  pub on : S event to
  pub least : IsLeastBetween R S from event to

-- a run of the link to the least event from which the rest leads on
pub record IsRunInto (link : Link) (rest : Relation) (from : ℕ) (events : List ℕ) (next to : ℕ)
    : Type 0 where
  pub run : IsFirstRun link.repeats (Has link.relation) from events next
  pub on : Has rest next to
  pub least : IsLeastBetween (LinkPairs link) (Has rest) from next to
