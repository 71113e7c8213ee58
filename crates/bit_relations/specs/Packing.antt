-- Lists of relations, packed into lists of numbers.
use Rattle.std.specs.Prelude.{ℕ, ◌≡◌, ◌+◌, ◌-◌, List, [], ◌∷◌, ◌++◌, length, take, drop, map, flat_map, replicate, All, nat_lt, cond}
use Rattle.bit_rows.specs.Relation.{Relation, IsRegular, max_events, wide, low_words, high_words}

-- how many high words a relation on n events needs
abbrev pub high_rows : ℕ → ℕ
high_rows n = cond (nat_lt 64 n) n 0

-- the words of a relation: a low word for each event, and then, where there are over 64, a high
-- word for each
unfoldable pub packed : Relation → List ℕ
packed r = take r.count (low_words r.rows) ++ take (high_rows r.count) (high_words r.rows)

-- where the words of each relation begin
abbrev pub starts_from : ℕ → List Relation → List ℕ
starts_from at [] = []
starts_from at (r ∷ rs) = at ∷ starts_from (at + length (packed r)) rs

-- the counts of relations, the indexes where their words begin, and their words one after another
pub record ArePacked (ns ss ws : List ℕ) (rs : List Relation) : Type 0 where
  pub counts : ns ≡ map (λ r. r.count) rs
  pub starts : ss ≡ starts_from 0 rs
  pub words : ws ≡ flat_map packed rs
  pub regular : All IsRegular rs

-- the words of rows that have none are 0
abbrev pub padded : List ℕ → List ℕ
padded ws = ws ++ replicate (max_events - length ws) 0

-- the relation on n events whose words come first
unfoldable pub relation_of : ℕ → List ℕ → Relation
relation_of n ws =
    record { count = n; rows = wide (padded (take n ws)) (padded (take (high_rows n) (drop n ws))) }

-- the relations of these counts whose words stand one after another
abbrev pub unpacked : List ℕ → List ℕ → List Relation
unpacked [] ws = []
unpacked (n ∷ ns) ws = relation_of n ws ∷ unpacked ns (drop (n + high_rows n) ws)
