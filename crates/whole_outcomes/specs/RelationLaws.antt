-- What a test tells of events is a set, and of pairs a relation. Read `Pairs` and `Relation` of
-- bit_rows first. Read next: NameLaws.
use Rattle.std.specs.Prelude.{ℕ, ◌<◌, ◌≤◌, Bool, IsTrue}
use Rattle.bit_rows.specs.Relation.{Relation, Events, IsRelation, IsEvents}

-- A test of events tells a set of the first n.
abbrev pub TestsAreSets : Type 0
TestsAreSets =
    (n : ℕ) (test : ℕ → Bool)
    → (s : Events) × IsEvents s n (λ a. (a < n) × IsTrue (test a))

-- A test of pairs tells a relation on the first n, where these are at most 128.
abbrev pub TestsAreRelations : Type 0
TestsAreRelations =
    (n : ℕ) (test : ℕ → ℕ → Bool) → n ≤ 128
    → (r : Relation) × IsRelation r n (λ a b. (a < n) × (b < n) × IsTrue (test a b))
