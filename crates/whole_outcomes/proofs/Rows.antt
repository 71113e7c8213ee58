-- Values of all names of a group at one index, and columns that have them.
use Rattle.std.proofs.Common.{ℕ, ◌≡◌, ◌<◌, zero, suc, List, [], ◌∷◌, length, get_or, map, Bool, true, false, Some, Bor, refl, sym, ap, ◌∙◌, subst, arith}
use Rattle.std.specs.Prelude.{slice_get}
use Rattle.std.specs.Option.{option_map}
use Rattle.std.proofs.lemmas.List.{length-map}
use Rattle.std.proofs.lemmas.Option.{slice_get-get_or, slice_get-map}
use Rattle.bit_rows.specs.Relation.{Relation, Events, no_slot}
use Rattle.binding_kinds.specs.declared.kinds.Kind.{Kind}
use Rattle.binding_kinds.specs.declared.kinds.Kind.TheVariants as kinds
use Rattle.binding_graph.specs.declared.resolved.Body.{Body}
use Rattle.candidate_spaces.specs.Space.{Candidate}
use Rattle.cat_machine.specs.declared.column.Column.{Column}
use Rattle.cat_machine.specs.declared.column.Column.TheVariants as columns
use Rattle.cat_machine.specs.Columns.{HasColumnValue, HaveValues}
use Rattle.cat_machine.specs.Executions.{events_of, EventsAt, PairsAt}
use Rattle.cat_machine.specs.Values.{IsFor, column_len}
use Rattle.whole_outcomes.specs.Values.{no_set, AreGroupValues}
use Rattle.whole_outcomes.specs.Whole.{HaveSameValue}

-- for each name a set and a relation, of which the one of its kind is its value
abbrev pub Row : Type 0
Row = List Events × List Relation

-- at that index so many columns have these values
abbrev pub HaveRow : ℕ → List Column → ℕ → Row → Type 0
HaveRow names cs k row =
    (p : ℕ) → p < names → (c : Column)
    → HasColumnValue (get_or cs p c) k (get_or row.0 p no_set) (get_or row.1 p no_slot)

-- ---- the row of columns that are there

value_at : (c : Column) (j : ℕ) → j < column_len c
    → (s : Events) × (r : Relation) × HasColumnValue c j s r
value_at (columns.Sets xs) j lt = (get_or xs j no_set, no_slot, slice_get-get_or xs j no_set lt)
value_at (columns.Relations xs) j lt = (no_set, get_or xs j no_slot, slice_get-get_or xs j no_slot lt)

one_more : (d : Column) (ds : List Column) (j : ℕ) (s : Events) (ss : List Events) (r : Relation)
    (rs : List Relation) → HasColumnValue d j s r → HaveRow (length ds) ds j (ss, rs)
    → HaveRow (length (d ∷ ds)) (d ∷ ds) j (s ∷ ss, r ∷ rs)
one_more d ds j s ss r rs has rest zero lt c = has
one_more d ds j s ss r rs has rest (suc p) lt c = rest p (omega (arith, lt)) c

pub row_of : (ds : List Column) (j : ℕ)
    → ((p : ℕ) → p < length ds → (d : Column) → j < column_len (get_or ds p d))
    → (row : Row) × HaveRow (length ds) ds j row
row_of [] j long = (([], []), λ p lt d. absurd (omega (arith, lt)))
row_of (d ∷ ds) j long =
    let (s, r, has) = value_at d j (long 0 (omega arith) d) in
    let (row, rest) = row_of ds j (λ p lt e. long (suc p) (omega (arith, lt)) e) in
    ((s ∷ row.0, r ∷ row.1), one_more d ds j s row.0 r row.1 has rest)

-- columns of one kind that have a row in common have the same value there
pub same_value : (kind : Kind) (c d : Column) (k j : ℕ) (s : Events) (r : Relation) → IsFor kind c
    → IsFor kind d → HasColumnValue c k s r → HasColumnValue d j s r → HaveSameValue c k d j
same_value kinds.OfSet (columns.Sets xs) (columns.Sets ys) k j s r f g h i = h ∙ sym i
same_value kinds.OfSet (columns.Sets xs) (columns.Relations ys) k j s r f g h i = absurd g
same_value kinds.OfSet (columns.Relations xs) d k j s r f g h i = absurd f
same_value kinds.OfRelation (columns.Sets xs) d k j s r f g h i = absurd f
same_value kinds.OfRelation (columns.Relations xs) (columns.Sets ys) k j s r f g h i = absurd g
same_value kinds.OfRelation (columns.Relations xs) (columns.Relations ys) k j s r f g h i = h ∙ sym i
same_value kinds.OfAny (columns.Sets xs) d k j s r f g h i = absurd f
same_value kinds.OfAny (columns.Relations xs) (columns.Sets ys) k j s r f g h i = absurd g
same_value kinds.OfAny (columns.Relations xs) (columns.Relations ys) k j s r f g h i = h ∙ sym i

-- ---- columns of rows

kind_at : List Body → ℕ → Kind
kind_at [] p = kinds.OfAny
kind_at (b ∷ bs) zero = b.code.kind
kind_at (b ∷ bs) (suc p) = kind_at bs p

kind_is : (bodies : List Body) (p : ℕ) → p < length bodies → (b : Body)
    → (get_or bodies p b).code.kind ≡ kind_at bodies p
unfolding kind_at
kind_is [] p lt b = absurd (omega (arith, lt))
kind_is (c ∷ cs) zero lt b = refl
kind_is (c ∷ cs) (suc p) lt b = kind_is cs p (omega (arith, lt)) b

-- a column of sets or of relations
abbrev column_for : Kind → List Events → List Relation → Column
column_for kinds.OfSet ss rs = columns.Sets ss
column_for kinds.OfRelation ss rs = columns.Relations rs
column_for kinds.OfAny ss rs = columns.Relations rs

is_for : (kind : Kind) (ss : List Events) (rs : List Relation) → IsFor kind (column_for kind ss rs)
is_for kinds.OfSet ss rs = tt
is_for kinds.OfRelation ss rs = tt
is_for kinds.OfAny ss rs = tt

long_for : (kind : Kind) (ss : List Events) (rs : List Relation) (n : ℕ) → length ss ≡ n
    → length rs ≡ n → column_len (column_for kind ss rs) ≡ n
long_for kinds.OfSet ss rs n h g = h
long_for kinds.OfRelation ss rs n h g = g
long_for kinds.OfAny ss rs n h g = g

value_for : (kind : Kind) (ss : List Events) (rs : List Relation) (k : ℕ) (s : Events)
    (r : Relation) → slice_get ss k ≡ Some s → slice_get rs k ≡ Some r
    → HasColumnValue (column_for kind ss rs) k s r
value_for kinds.OfSet ss rs k s r h g = h
value_for kinds.OfRelation ss rs k s r h g = g
value_for kinds.OfAny ss rs k s r h g = g

mapped : {X Y : Type 0} (f : X → Y) (xs : List X) (k : ℕ) (d : X) → k < length xs
    → slice_get (map f xs) k ≡ Some (f (get_or xs k d))
mapped f xs k d lt =
    slice_get-map f xs k ∙ ap (λ o. option_map f o) (slice_get-get_or xs k d lt)

-- the column of a name, with a value for each row
pub record IsColumnOf (bodies : List Body) (rows : List Row) (p : ℕ) (c : Column) : Type 0 where
  pub suited : (b : Body) → IsFor (get_or bodies p b).code.kind c
  pub long : column_len c ≡ length rows
  pub values : (k : ℕ) (row : Row) → k < length rows
      → HasColumnValue c k (get_or (get_or rows k row).0 p no_set) (get_or (get_or rows k row).1 p no_slot)

pub column_of : (bodies : List Body) (rows : List Row) (p : ℕ) → p < length bodies
    → (c : Column) × IsColumnOf bodies rows p c
column_of bodies rows p lt =
    let kind = kind_at bodies p in
    let set_in : Row → Events = λ row. get_or row.0 p no_set in
    let pairs_in : Row → Relation = λ row. get_or row.1 p no_slot in
    let c = column_for kind (map set_in rows) (map pairs_in rows) in (
      c,
      record {
        suited = λ b. subst (λ (x : Kind). IsFor x c) (sym (kind_is bodies p lt b))
            (is_for kind (map set_in rows) (map pairs_in rows));
        long = long_for kind (map set_in rows) (map pairs_in rows) (length rows)
            (length-map rows set_in) (length-map rows pairs_in);
        values = λ k row inside.
            value_for kind (map set_in rows) (map pairs_in rows) k (set_in (get_or rows k row))
            (pairs_in (get_or rows k row)) (mapped set_in rows k row inside)
            (mapped pairs_in rows k row inside);
      },
    )

-- ---- values that are there where nothing computes them

pub row_has : (recursive : Bool) (bodies : List Body) (one : Candidate) (inputs : List (Bor Column))
    (k : ℕ) (cs : List Column) (row : Row)
    → AreGroupValues recursive bodies one inputs k row.0 row.1 → HaveRow (length bodies) cs k row
    → HaveValues recursive bodies (events_of one) (EventsAt (events_of one) one inputs k)
    (PairsAt (events_of one) one inputs k) k cs
row_has false bodies one inputs k cs row are has = λ p lt c b.
    (get_or row.0 p no_set, get_or row.1 p no_slot, has p lt c, are p lt b)
row_has true bodies one inputs k cs row are has = λ trees codes rises.
    (row.1, are trees codes rises, λ p lt c. (get_or row.0 p no_set, has p lt c))
