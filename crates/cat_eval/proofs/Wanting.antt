-- Columns of names that are wanted, beside those of all names.
use Rattle.std.proofs.Common.{ℕ, zero, suc, ◌≡◌, ◌<◌, ◌+◌, ◌-◌, ◌++◌, ◌∙◌, inl, inr, List, [], ◌∷◌, length, get_or, Bool, true, false, refl, sym, ap, subst, arith}
use Rattle.std.proofs.lemmas.Bool.{cases_eq, false≢true}
use Rattle.std.proofs.lemmas.Option.{same_Some}
use Rattle.std.proofs.lemmas.List.{length_push, get_or_push, get_or_default, get_or_append_left}
use denote.Ref.{Bor}
use Rattle.bit_rows.specs.Relation.{Relation, Events, no_slot}
use Rattle.binding_graph.specs.declared.resolved.Body.{Body}
use Rattle.binding_graph.specs.declared.resolved.Role.{Role}
use Rattle.binding_graph.specs.Trees.{RelTree}
use Rattle.candidate_spaces.specs.declared.candidate.Space.{Space}
use Rattle.candidate_spaces.specs.Space.{Candidate}
use Rattle.cat_machine.specs.declared.seen.NamedColumn.{NamedColumn}
use Rattle.cat_machine.specs.declared.column.Column.{Column}
use Rattle.cat_machine.specs.declared.column.Column.TheVariants as columns
use Rattle.cat_machine.specs.Columns.{HasColumnValue, HasOwn, AreGroupColumns, ColumnsOf}
use Rattle.cat_machine.specs.Least.{IsLeast, AreMonotone}
use Rattle.cat_machine.specs.Named.{EventsIn, PairsOutside}
use Rattle.cat_eval.specs.OverNames.{IsMeaningOver, AreColumnsOver}
use Rattle.cat_machine.specs.Rising.{AreCodes}
use Rattle.cat_eval.specs.Needed.{ListsNeeded, bodies_names}
use Rattle.cat_machine.specs.Seen.{NamedValues, seen_in}
use Rattle.cat_machine.specs.Steady.{IsSteady, Repeats, HasAsLast}
use Rattle.cat_eval.specs.Tables.{AreColumnsFor, column_names}
use Rattle.cat_machine.specs.Values.{AddsValue, IsFor, column_len}
use Rattle.cat_eval.specs.Wanted.{is_wanted, AreWantedColumns, AreWantedOver, IsWantedColumn, WantedColumnsOf, AddsIf, RepeatsIf}
use Rattle.cat_eval.proofs.Bodies.{AreBodyColumns, bodies_more, bodies_all}
use Rattle.cat_eval.proofs.Columns.{columns_none, columns_moved, evaluated_more, solved_more}
use Rattle.cat_eval.proofs.Exact.{columns_exact}
use Rattle.cat_eval.proofs.Repeating.{columns_again, ends_long, value_there}

-- ---- a list that is chosen element by element

chosen_at : {X : Type 0} (P : ℕ → X → X → Type 0) (x y : X) (xs ys : List X) → P 0 x y
    → ((j : ℕ) → j < length xs → (d : X) → P (suc j) (get_or xs j d) (get_or ys j d)) → (j : ℕ)
    → j < length (x ∷ xs) → (d : X) → P j (get_or (x ∷ xs) j d) (get_or (y ∷ ys) j d)
chosen_at P x y xs ys first rest zero lt d = first
chosen_at P x y xs ys first rest (suc j) lt d = rest j (omega (arith, lt)) d

chosen : {X : Type 0} (P : ℕ → X → X → Type 0) (xs : List X)
    → ((j : ℕ) → j < length xs → (d : X) → (y : X) × P j (get_or xs j d) y)
    → (ys : List X) × (length ys ≡ length xs)
    × ((j : ℕ) → j < length xs → (d : X) → P j (get_or xs j d) (get_or ys j d))
chosen P [] each = ([], refl, λ j lt d. absurd (omega (arith, lt)))
chosen P (x ∷ xs) each =
    let (y, first) = each 0 (omega arith) x in
    let (ys, long, rest) = chosen (λ j. P (suc j)) xs (λ j lt d. each (suc j) (omega (arith, lt)) d) in
    (y ∷ ys, ap suc long, chosen_at P x y xs ys first rest)

-- ---- one value more

abbrev grown : Column → Events → Relation → Column
grown (columns.Sets xs) s r = columns.Sets (xs ++ s ∷ [])
grown (columns.Relations xs) s r = columns.Relations (xs ++ r ∷ [])

adds_grown : (a : Column) (s : Events) (r : Relation) → AddsValue a (grown a s r) s r
adds_grown (columns.Sets xs) s r = refl
adds_grown (columns.Relations xs) s r = refl

is_grown : (a b : Column) (s : Events) (r : Relation) → AddsValue a b s r → b ≡ grown a s r
is_grown (columns.Sets xs) (columns.Sets ys) s r adds = ap columns.Sets adds
is_grown (columns.Sets xs) (columns.Relations ys) s r adds = absurd adds
is_grown (columns.Relations xs) (columns.Sets ys) s r adds = absurd adds
is_grown (columns.Relations xs) (columns.Relations ys) s r adds = ap columns.Relations adds

-- the next column of a name that is wanted is the old one, grown
one_next : (b : Bool) (before old new : Column) (s : Events) (r : Relation) → b ≡ true
    → old ≡ before → AddsIf b old new s r → new ≡ grown before s r
one_next true before old new s r is same adds =
    is_grown old new s r adds ∙ ap (λ (x : Column). grown x s r) same
one_next false before old new s r is same adds = absurd (false≢true is)

-- where the old columns are shown and those that are wanted get a value more, so do all columns
module _ (wanted : List Bool) (V : ℕ → Events → Relation → Type 0) (whole olds news : List Column)
    (shown : AreWantedColumns wanted whole olds) (many : length news ≡ length olds)
    (more : (j : ℕ) → j < length olds → (c : Column)
    → (s : Events) × (r : Relation)
    × AddsIf (is_wanted wanted j) (get_or olds j c) (get_or news j c) s r × V j s r) where
  abbrev IsNext : ℕ → Column → Column → Type 0
  IsNext j x y =
      (s : Events) × (r : Relation) × AddsValue x y s r × V j s r
      × (is_wanted wanted j ≡ true → (c : Column) → get_or news j c ≡ y)

  next_at : (j : ℕ) → j < length whole → (d : Column) → (y : Column) × IsNext j (get_or whole j d) y
  next_at j lt d =
      let inside : j < length olds = omega (arith, lt, shown.long) in
      let (s, r, adds, v) = more j inside d in
      let same : is_wanted wanted j ≡ true → (c : Column) → get_or news j c ≡ grown (get_or whole j d) s r =
      λ is c. get_or_default news j c d (omega (arith, many, inside))
      ∙ one_next (is_wanted wanted j) (get_or whole j d) (get_or olds j d) (get_or news j d) s r
      is (shown.same j inside is d) adds in
      (grown (get_or whole j d) s r, (s, r, adds_grown (get_or whole j d) s r, v, same))

  all_next : (ys : List Column) × (length ys ≡ length whole)
      × ((j : ℕ) → j < length whole → (d : Column) → IsNext j (get_or whole j d) (get_or ys j d))
  all_next = chosen IsNext whole next_at

  pub whole_more : (next : List Column) × AreWantedColumns wanted next news × (length next ≡ length whole)
      × ((j : ℕ) → j < length whole → (c : Column)
      → (s : Events) × (r : Relation) × AddsValue (get_or whole j c) (get_or next j c) s r
      × V j s r)
  whole_more = (
    all_next.0,
    record {
      long = many ∙ shown.long ∙ sym all_next.1;
      same = λ j lt is c. (all_next.2 j (omega (arith, lt, many, shown.long)) c).4 is c;
      empty = λ j lt is c.
          let inside : j < length olds = omega (arith, lt, many) in
          let stays : get_or news j c ≡ get_or olds j c = subst (λ (b : Bool). AddsIf b (get_or olds j c) (get_or news j c) (more j inside c).0 (more j inside c).1) is (more j inside c).2 in
          ap column_len stays ∙ shown.empty j inside is c;
    },
    all_next.1,
    (λ j lt c.
        let one = all_next.2 j lt c in
        (one.0, one.1, one.2, one.3)),
  )

-- ---- one candidate more

module _ (wanted : List Bool) (bodies : List Body) (inputs : List (Bor Column)) (bases : List NamedValues)
    (base : NamedValues) (olds news : List Column) (k : ℕ) (many : length news ≡ length olds)
    (at : k ≡ length bases) where
  -- each body was evaluated once
  pub evaluated_shown : (recursive : Bool) → recursive ≡ false
      → AreWantedOver wanted recursive bodies inputs bases olds
      → ((j : ℕ) → j < length bodies → j < length olds → (c : Column)
      → (s : Events) × (r : Relation)
      × AddsIf (is_wanted wanted j) (get_or olds j c) (get_or news j c) s r
      × ((b : Body)
      → IsMeaningOver (get_or bodies j b).code.kind
      (get_or bodies j b).code.steps.items inputs base k s r))
      → AreWantedOver wanted recursive bodies inputs (bases ++ base ∷ []) news
  evaluated_shown recursive is h added =
      let (whole, over, shown) = h in
      let (next, still, long, each) = whole_more wanted (λ j s r. (b : Body) → IsMeaningOver (get_or bodies j b).code.kind (get_or bodies j b).code.steps.items inputs base k s r) whole olds news shown many (λ j lt c. added j (omega (arith, lt, shown.long, over.as_many)) lt c) in (
        next,
        evaluated_more bodies inputs bases base whole next k long at recursive is over
            (λ j lt inside c. each j inside c),
        still,
      )

  -- the equations were solved
  pub solved_shown : (recursive : Bool) (own values : List Relation) → recursive ≡ true
      → HasOwn recursive bodies own → AreWantedOver wanted recursive bodies inputs bases olds
      → ((j : ℕ) → j < length own → j < length olds → (c : Column)
      → (s : Events)
      × AddsIf (is_wanted wanted j) (get_or olds j c) (get_or news j c) s
      (get_or values j no_slot))
      → (length own ≡ length bodies → (trees : List RelTree) → AreCodes trees bodies
      → AreMonotone trees
      → IsLeast base.count (EventsIn base inputs k) (PairsOutside base inputs k) trees
      values)
      → AreWantedOver wanted recursive bodies inputs (bases ++ base ∷ []) news
  solved_shown false own values is held h added least = absurd (false≢true is)
  solved_shown true own values is held h added least =
      let (whole, over, shown) = h in
      let (next, still, long, each) = whole_more wanted (λ j s r. r ≡ get_or values j no_slot) whole olds news shown many
      (λ j lt c.
      let (s, adds) = added j (omega (arith, lt, shown.long, over.as_many, held)) lt c in
      (s, get_or values j no_slot, adds, refl))
      in (
        next,
        solved_more bodies inputs bases base whole next k long at true own values is held over
            (λ j lt inside c.
            let (s, r, adds, same) = each j inside c in
            (s, subst (λ (q : Relation). AddsValue (get_or whole j c) (get_or next j c) s q) same adds))
            least,
        still,
      )

-- ---- the last value once more

repeats_adds : (b : Bool) (old new whole : Column) (s : Events) (r : Relation)
    → (b ≡ true → old ≡ whole) → RepeatsIf b old new → HasColumnValue whole (column_len whole - 1) s r
    → AddsIf b old new s r
repeats_adds true old new whole s r same repeats has =
    repeats s r (subst (λ (c : Column). HasColumnValue c (column_len c - 1) s r) (sym (same refl)) has)
repeats_adds false old new whole s r same repeats has = repeats

adds_other : (a b : Column) (k : ℕ) (s t : Events) (r q : Relation) → AddsValue a b s r
    → HasColumnValue a k s r → HasColumnValue a k t q → AddsValue a b t q
adds_other (columns.Sets xs) (columns.Sets ys) k s t r q adds has other =
    subst (λ (z : Events). ys ≡ xs ++ z ∷ []) (same_Some s t (sym has ∙ other)) adds
adds_other (columns.Sets xs) (columns.Relations ys) k s t r q adds has other = absurd adds
adds_other (columns.Relations xs) (columns.Sets ys) k s t r q adds has other = absurd adds
adds_other (columns.Relations xs) (columns.Relations ys) k s t r q adds has other =
    subst (λ (z : Relation). ys ≡ xs ++ z ∷ []) (same_Some r q (sym has ∙ other)) adds

-- the values that the last of the candidates has there
abbrev HasLast : List Column → ℕ → Events → Relation → Type 0
HasLast whole j s r =
    (c : Column) → HasColumnValue (get_or whole j c) (column_len (get_or whole j c) - 1) s r

module _ (wanted : List Bool) (recursive : Bool) (bodies : List Body) (inputs : List (Bor Column))
    (bases : List NamedValues) (base : NamedValues) (olds news whole : List Column) (ends : HasAsLast bases base)
    (over : AreColumnsOver recursive bodies inputs bases whole) (shown : AreWantedColumns wanted whole olds)
    (many : length news ≡ length olds)
    (repeats : (x : ℕ) → x < length olds → (c : Column)
    → RepeatsIf (is_wanted wanted x) (get_or olds x c) (get_or news x c)) where
  last_more : (j : ℕ) → j < length olds → (c : Column)
      → (s : Events) × (r : Relation)
      × AddsIf (is_wanted wanted j) (get_or olds j c) (get_or news j c) s r
      × HasLast whole j s r
  last_more j less c =
      let inside : j < length whole = omega (arith, less, shown.long) in
      let long = over.long j (omega (arith, inside, over.as_many)) c in
      let (s, r, has) = value_there (get_or whole j c) (column_len (get_or whole j c) - 1) (omega (arith, long, (ends_long bases base ends).0)) in (
        s,
        r,
        repeats_adds (is_wanted wanted j) (get_or olds j c) (get_or news j c) (get_or whole j c) s r
            (λ is. shown.same j less is c) (repeats j less c) has,
        (λ d. subst (λ (x : Column). HasColumnValue x (column_len x - 1) s r)
            (get_or_default whole j c d inside) has),
      )

  repeats_whole : (next : List Column)
      → ((j : ℕ) → j < length whole → (c : Column)
      → (s : Events) × (r : Relation) × AddsValue (get_or whole j c) (get_or next j c) s r
      × HasLast whole j s r) → (j : ℕ) → j < length whole → (c : Column)
      → Repeats (get_or whole j c) (get_or next j c)
  repeats_whole next each j inside c = λ t q other.
      let (s, r, adds, has) = each j inside c in
      adds_other (get_or whole j c) (get_or next j c) (column_len (get_or whole j c) - 1) s t r q
      adds (has c) other

pub repeated_shown : (wanted : List Bool) (recursive : Bool) (bodies : List Body)
    (inputs : List (Bor Column)) (bases : List NamedValues) (base : NamedValues) (olds news : List Column)
    (k steady : ℕ) → HasAsLast bases base
    → AreWantedOver wanted recursive bodies inputs bases olds
    → k ≡ length bases → IsSteady inputs (length bases) steady → k < steady
    → length news ≡ length olds
    → ((x : ℕ) → x < length olds → (c : Column)
    → RepeatsIf (is_wanted wanted x) (get_or olds x c) (get_or news x c))
    → AreWantedOver wanted recursive bodies inputs (bases ++ base ∷ []) news
repeated_shown wanted recursive bodies inputs bases base olds news k steady ends h at held lt many
    repeats =
    let (whole, over, shown) = h in
    let (next, still, long, each) = whole_more wanted (HasLast whole) whole olds news shown many (last_more wanted recursive bodies inputs bases base olds news whole ends over shown many repeats) in (
      next,
      columns_again recursive bodies inputs bases base whole next k steady ends over at held
          lt long (repeats_whole wanted recursive bodies inputs bases base olds news whole
          ends over shown many repeats next each),
      still,
    )

-- ---- before the first candidate

pub shown_none : (wanted : List Bool) (recursive : Bool) (bodies : List Body)
    (inputs : List (Bor Column)) (cs : List Column) → length cs ≡ length bodies
    → ((j : ℕ) → j < length bodies → (b : Body) (c : Column)
    → IsFor (get_or bodies j b).code.kind (get_or cs j c)
    × (column_len (get_or cs j c) ≡ 0))
    → AreWantedOver wanted recursive bodies inputs [] cs
shown_none wanted recursive bodies inputs cs many fits =
    let over = columns_none recursive bodies inputs cs many fits in (
      cs,
      over,
      record { long = refl; same = λ j lt is c. refl; empty = λ j lt is c. over.long j (omega (arith, lt, many)) c },
    )

-- ---- the same group, inputs and wishes, by another name

pub shown_moved : (p q : Bool) (b d : Bor (List Body)) (x y : Bor (List (Bor Column)))
    (w v : Bor (List Bool)) → p ≡ q → b ≡ d → x ≡ y → w ≡ v
    → (bases : List NamedValues) (cs : List Column) → AreWantedOver w.now p b.now x.now bases cs
    → AreWantedOver v.now q d.now y.now bases cs
shown_moved p q b d x y w v e f g same bases cs h =
    let (whole, over, shown) = h in (
      whole,
      columns_moved p q b d x y e f g bases whole over,
      subst (λ (z : Bor (List Bool)). AreWantedColumns z.now whole cs) same shown,
    )

-- ---- body after body

-- each of the first bodies has its column, of which those that are wanted are shown
abbrev pub AreBodiesShown : List Bool → List Body → List (Bor Column) → List NamedValues → ℕ → List Column
    → Type 0
AreBodiesShown wanted bodies inputs bases end cs =
    (whole : List Column) × (length whole ≡ end) × AreBodyColumns bodies inputs bases whole end
    × AreWantedColumns wanted whole cs

shown_push : (wanted : List Bool) (whole cs : List Column) (column one : Column)
    → AreWantedColumns wanted whole cs → (is_wanted wanted (length cs) ≡ true → one ≡ column)
    → (is_wanted wanted (length cs) ≡ false → column_len one ≡ 0)
    → AreWantedColumns wanted (whole ++ column ∷ []) (cs ++ one ∷ [])
shown_push wanted whole cs column one shown same empty = record {
  long = length_push cs one ∙ ap (λ n. n + 1) shown.long ∙ sym (length_push whole column);
  same = λ j lt is c. elim (cases_eq j (length cs)) [
    | inl last ↦
        let here : get_or (cs ++ one ∷ []) j c ≡ one = get_or_push cs one c j (sym last) in
        let there : get_or (whole ++ column ∷ []) j c ≡ column = get_or_push whole column c j (sym (last ∙ shown.long)) in
        here ∙ same (subst (λ (n : ℕ). is_wanted wanted n ≡ true) last is) ∙ sym there
    | inr other ↦
        let inside : j < length cs = omega (arith, lt, length_push cs one, other) in
        get_or_append_left cs (one ∷ []) c j inside ∙ shown.same j inside is c
        ∙ sym (get_or_append_left whole (column ∷ []) c j (omega (arith, inside, shown.long)))
  ];
  empty = λ j lt is c. elim (cases_eq j (length cs)) [
    | inl last ↦ ap column_len (get_or_push cs one c j (sym last))
        ∙ empty (subst (λ (n : ℕ). is_wanted wanted n ≡ false) last is)
    | inr other ↦
        let inside : j < length cs = omega (arith, lt, length_push cs one, other) in
        ap column_len (get_or_append_left cs (one ∷ []) c j inside) ∙ shown.empty j inside is c
  ];
}

pub bodies_shown_none : (wanted : List Bool) (bodies : List Body) (inputs : List (Bor Column))
    (bases : List NamedValues) → AreBodiesShown wanted bodies inputs bases 0 []
bodies_shown_none wanted bodies inputs bases = (
  [],
  refl,
  (λ j lt. absurd (omega (arith, lt))),
  record { long = refl; same = λ j lt. absurd (omega (arith, lt)); empty = λ j lt. absurd (omega (arith, lt)) },
)

pub bodies_shown_more : (wanted : List Bool) (bodies : List Body) (inputs : List (Bor Column))
    (bases : List NamedValues) (cs : List Column) (i : ℕ) (body : Body) (one : Column)
    → i < length bodies → body ≡ get_or bodies i body
    → AreBodiesShown wanted bodies inputs bases i cs
    → IsWantedColumn (is_wanted wanted (length cs)) body inputs bases one
    → AreBodiesShown wanted bodies inputs bases (i + 1) (cs ++ one ∷ [])
bodies_shown_more wanted bodies inputs bases cs i body one lt here h is =
    let (whole, long, each, shown) = h in
    let (column, good, same, empty) = is in (
      whole ++ column ∷ [],
      length_push whole column ∙ ap (λ n. n + 1) long,
      bodies_more bodies inputs bases whole i body column long lt here good each,
      shown_push wanted whole cs column one shown same empty,
    )

pub bodies_shown_all : (wanted : List Bool) (bodies : List Body) (inputs : List (Bor Column))
    (bases : List NamedValues) (cs : List Column) (i : ℕ) → i ≡ length bodies
    → AreBodiesShown wanted bodies inputs bases i cs
    → AreWantedOver wanted false bodies inputs bases cs
bodies_shown_all wanted bodies inputs bases cs i end h =
    let (whole, long, each, shown) = subst (λ (n : ℕ). AreBodiesShown wanted bodies inputs bases n cs) end h in
    (whole, bodies_all bodies inputs bases whole long each, shown)

-- ---- all names are wanted

same_lists : (xs ys : List Column) → length xs ≡ length ys
    → ((j : ℕ) → j < length xs → (c : Column) → get_or xs j c ≡ get_or ys j c) → xs ≡ ys
same_lists [] [] long same = refl
same_lists [] (y ∷ ys) long same = absurd (omega (arith, long))
same_lists (x ∷ xs) [] long same = absurd (omega (arith, long))
same_lists (x ∷ xs) (y ∷ ys) long same =
    ap (λ (z : Column). z ∷ xs) (same 0 (omega arith) x)
    ∙ ap (λ (zs : List Column). y ∷ zs) (same_lists xs ys (omega (arith, long))
    (λ j lt c. same (suc j) (omega (arith, lt)) c))

pub all_shown : (whole shown : List Column) → AreWantedColumns [] whole shown → whole ≡ shown
all_shown whole shown h = sym (same_lists shown whole h.long (λ j lt c. h.same j lt refl c))

pub all_wanted : (role : Role) (inputs : List (Bor Column)) (space : Space) (cs : List Column)
    → WantedColumnsOf [] role inputs space cs → ColumnsOf role inputs space cs
all_wanted role inputs space cs h =
    subst (λ (xs : List Column). ColumnsOf role inputs space xs) (all_shown h.0 cs h.2) h.1

-- ---- over the candidates of a space

pub shown_exact : (wanted : List Bool) (recursive : Bool) (bodies : List Body)
    (inputs : List (Bor Column)) (xs : List NamedColumn) (cs : List Candidate)
    (columns : List Column)
    → AreColumnsFor xs cs → ListsNeeded (column_names xs) (bodies_names bodies)
    → AreWantedOver wanted recursive bodies inputs (seen_in xs 0 cs) columns
    → (whole : List Column) × AreGroupColumns recursive bodies inputs cs whole
    × AreWantedColumns wanted whole columns
shown_exact wanted recursive bodies inputs xs cs columns right listed h =
    let (whole, over, shown) = h in
    (whole, columns_exact recursive bodies inputs xs cs whole right listed over, shown)
