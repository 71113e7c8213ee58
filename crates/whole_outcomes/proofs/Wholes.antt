-- Columns and answers over all candidates, from those over fewer.
use Rattle.std.proofs.Common.{ℕ, ◌≡◌, ◌<◌, inl, inr, List, [], ◌∷◌, length, get_or, Bool, Option, Some, None, Bor, refl, sym, ap, ◌∙◌, subst, arith}
use Rattle.std.specs.Prelude.{slice_get}
use Rattle.std.proofs.lemmas.Option.{slice_get-get_or, slice_get_within, slice_get_cases, get_or_from_slice_get, same_Some}
use Rattle.binding_graph.specs.declared.resolved.Body.{Body}
use Rattle.binding_graph.specs.declared.resolved.CheckCode.{CheckCode}
use Rattle.candidate_spaces.specs.Space.{Candidate}
use Rattle.cat_machine.specs.declared.column.Column.{Column}
use Rattle.cat_machine.specs.Columns.{HaveValues, AreGroupColumns}
use Rattle.cat_machine.specs.Executions.{events_of, EventsAt, PairsAt}
use Rattle.cat_machine.specs.Values.{AreAnswers, IsCheckAnswer}
use Rattle.order_growth.specs.Within.{HasExpression, AreBodyExpressions}
use Rattle.whole_outcomes.specs.Values.{AreGroupValues}
use Rattle.whole_outcomes.proofs.Bodies.{values_found}
use Rattle.whole_outcomes.proofs.Answering as checks
use Rattle.whole_outcomes.specs.Whole.{AreAmong, HaveSameValue, AreInputsKept, AreBelowAll}
use Rattle.whole_outcomes.specs.ColumnLaws.{WholeColumnsExist, WholeAnswersExist}
use Rattle.whole_outcomes.proofs.Choosing.{chosen}
use Rattle.whole_outcomes.proofs.Keeping.{values_kept, holds_over_all}
use Rattle.whole_outcomes.proofs.Rows.{Row, HaveRow, row_of, same_value, IsColumnOf, column_of, row_has}

module _ (indexes : List (Option ℕ)) (all fewer : List Candidate)
    (among : AreAmong indexes all fewer) where
  -- where a candidate stays, if it does
  pub stays_or_not : (k : ℕ) → k < length all
      → (one : Candidate) × (slice_get all k ≡ Some one) × (o : Option ℕ)
      × (slice_get indexes k ≡ Some o)
  stays_or_not k lt = elim (slice_get_cases all k).1 [
    | inl (one, inside, at, same) ↦ (
      one,
      at,
      get_or indexes k None,
      slice_get-get_or indexes k None (omega (arith, lt, among.long)),
    )
    | inr (past, none) ↦ absurd (omega (arith, past, lt))
  ]

  is_below : (k j : ℕ) → slice_get indexes k ≡ Some (Some j) → k < length all
  is_below k j stays =
      let lt = slice_get_within indexes k (Some j) stays in omega (arith, lt, among.long)

  one_index : (k i j : ℕ) → slice_get indexes k ≡ Some (Some i) → slice_get indexes k ≡ Some (Some j)
      → i ≡ j
  one_index k i j x y = same_Some i j (same_Some (Some i) (Some j) (sym x ∙ y))

  never_both : (k j : ℕ) → slice_get indexes k ≡ Some None → slice_get indexes k ≡ Some (Some j) → ⊥
  never_both k j x y =
      let e : None ≡ Some j = same_Some None (Some j) (sym x ∙ y) in cc

  one_candidate : (k : ℕ) (one two : Candidate) → slice_get all k ≡ Some one
      → slice_get all k ≡ Some two → one ≡ two
  one_candidate k one two x y = same_Some one two (sym x ∙ y)

  -- ---- the names of a group

  module _ (recursive : Bool) (bodies : List Body) (inputs others : List (Bor Column))
      (ds : List Column) (expressions : AreBodyExpressions recursive bodies)
      (kept : AreInputsKept indexes inputs others) (below : AreBelowAll all inputs)
      (are : AreGroupColumns recursive bodies others fewer ds) where
    -- values for a candidate: those that it has where it stays
    pub record IsRowAt (k : ℕ) (row : Row) : Type 0 where
      pub left : (one : Candidate) → slice_get all k ≡ Some one → slice_get indexes k ≡ Some None
          → AreGroupValues recursive bodies one inputs k row.0 row.1
      pub there : (j : ℕ) → slice_get indexes k ≡ Some (Some j) → HaveRow (length ds) ds j row

    row_at : (k : ℕ) → k < length all → (row : Row) × IsRowAt k row
    row_at k lt =
        let (one, here, o, place) = stays_or_not k lt in of_place one here o place
      where
        of_place : (one : Candidate) → slice_get all k ≡ Some one → (o : Option ℕ)
            → slice_get indexes k ≡ Some o → (row : Row) × IsRowAt k row
        of_place one here None place =
            let (ss, rs, values) = values_found recursive bodies one inputs k expressions (below k one here) in (
              (ss, rs),
              record {
                left = λ two there is.
                    subst (λ (x : Candidate). AreGroupValues recursive bodies x inputs k ss rs)
                    (one_candidate k one two here there) values;
                there = λ j is. absurd (never_both k j place is);
              },
            )
        of_place one here (Some j) place =
            let like = among.same k j one here place in
            let inside = slice_get_within fewer j like.0 like.1 in
            let (row, has) = row_of ds j (λ p p_lt d.
            let long = are.long p (omega (arith, p_lt, are.as_many)) d in
            omega (arith, inside, long)) in (
              row,
              record {
                left = λ two there is. absurd (never_both k j is place);
                there = λ i is.
                    subst (λ (x : ℕ). HaveRow (length ds) ds x row) (one_index k j i place is) has;
              },
            )

    module _ (rows : List Row) (many : length rows ≡ length all)
        (each : (k : ℕ) (row : Row) → k < length all → IsRowAt k (get_or rows k row))
        (cs : List Column) (as_many : length cs ≡ length bodies)
        (made : (p : ℕ) (c : Column) → p < length bodies → IsColumnOf bodies rows p (get_or cs p c))
      where
        has_row : (k : ℕ) → k < length all → (row : Row)
            → HaveRow (length bodies) cs k (get_or rows k row)
        has_row k lt row p p_lt c = (made p c p_lt).values k row (omega (arith, lt, many))

        same_at : (k j : ℕ) → slice_get indexes k ≡ Some (Some j) → (p : ℕ) → p < length bodies
            → (b : Body) (c d : Column) → HaveSameValue (get_or cs p c) k (get_or ds p d) j
        same_at k j stays p lt b c d =
            let row : Row = get_or rows k ([], []) in
            let inside = is_below k j stays in
            same_value (get_or bodies p b).code.kind (get_or cs p c) (get_or ds p d) k j _ _
            ((made p c lt).suited b) (are.suited p lt b d) (has_row k inside ([], []) p lt c)
            ((each k ([], []) inside).there j stays p (omega (arith, lt, are.as_many)) d)

        pub columns_kept : (k j : ℕ) → slice_get indexes k ≡ Some (Some j) → (p : ℕ)
            → p < length bodies → (c d : Column) → HaveSameValue (get_or cs p c) k (get_or ds p d) j
        columns_kept k j stays p lt c d = of_bodies bodies refl
          where
            of_bodies : (bs : List Body) → bodies ≡ bs
                → HaveSameValue (get_or cs p c) k (get_or ds p d) j
            of_bodies [] e =
                let none : length bodies ≡ 0 = ap (λ (x : List Body). length x) e in
                absurd (omega (arith, lt, none))
            of_bodies (b ∷ bs) e = same_at k j stays p lt b c d

        values_at : (k : ℕ) (one : Candidate) → slice_get all k ≡ Some one
            → HaveValues recursive bodies (events_of one) (EventsAt (events_of one) one inputs k)
            (PairsAt (events_of one) one inputs k) k cs
        values_at k one here =
            let lt = slice_get_within all k one here in
            let (two, there, o, place) = stays_or_not k lt in of_place lt o place
          where
            of_place : k < length all → (o : Option ℕ) → slice_get indexes k ≡ Some o
                → HaveValues recursive bodies (events_of one) (EventsAt (events_of one) one inputs k)
                (PairsAt (events_of one) one inputs k) k cs
            of_place lt None place =
                row_has recursive bodies one inputs k cs (get_or rows k ([], []))
                ((each k ([], []) lt).left one here place) (has_row k lt ([], []))
            of_place lt (Some j) place =
                let (two, there, alike) = among.same k j one here place in
                let n = events_of two in
                holds_over_all indexes k j place inputs others kept one two alike
                (λ m sets outer. HaveValues recursive bodies m sets outer k cs)
                (values_kept recursive bodies n (EventsAt n two others j) (PairsAt n two others j) k j
                cs ds (columns_kept k j place) (are.values j two there))

        pub are_columns : AreGroupColumns recursive bodies inputs all cs
        are_columns = record {
          as_many = as_many;
          suited = λ p lt b c. (made p c lt).suited b;
          long = λ p lt c. (made p c lt).long ∙ many;
          values = values_at;
        }

  -- ---- the answers of a check

  module _ (check : CheckCode) (inputs others : List (Bor Column)) (less : List Bool)
      (tree : HasExpression check.code.kind check.code.steps.items)
      (kept : AreInputsKept indexes inputs others) (below : AreBelowAll all inputs)
      (are : AreAnswers check others fewer less) where
    -- it is the answer in a candidate, and that among the fewer where it stays
    pub record IsAnswerAt (k : ℕ) (answer : Bool) : Type 0 where
      pub is : (one : Candidate) → slice_get all k ≡ Some one
          → IsCheckAnswer check (events_of one) (EventsAt (events_of one) one inputs k)
          (PairsAt (events_of one) one inputs k) check.code.kind answer
      pub there : (j : ℕ) → slice_get indexes k ≡ Some (Some j) → slice_get less j ≡ Some answer

    abbrev Answers : ℕ → Bool → Candidate → Type 0
    Answers k answer one =
        IsCheckAnswer check (events_of one) (EventsAt (events_of one) one inputs k)
        (PairsAt (events_of one) one inputs k) check.code.kind answer

    answer_at : (k : ℕ) → k < length all → (answer : Bool) × IsAnswerAt k answer
    answer_at k lt =
        let (one, here, o, place) = stays_or_not k lt in of_place one here o place
      where
        of_place : (one : Candidate) → slice_get all k ≡ Some one → (o : Option ℕ)
            → slice_get indexes k ≡ Some o → (answer : Bool) × IsAnswerAt k answer
        of_place one here None place =
            let (answer, is) = checks.answers_found check one inputs k tree (below k one here) in (
              answer,
              record {
                is = λ two there. subst (λ (x : Candidate). Answers k answer x)
                    (one_candidate k one two here there) is;
                there = λ j stays. absurd (never_both k j place stays);
              },
            )
        of_place one here (Some j) place =
            let (like, at, alike) = among.same k j one here place in
            let inside = slice_get_within fewer j like at in
            let answer = get_or less j Bool.false in
            let found = slice_get-get_or less j Bool.false (omega (arith, inside, are.0)) in (
              answer,
              record {
                is = λ two there. subst (λ (x : Candidate). Answers k answer x)
                    (one_candidate k one two here there)
                    (holds_over_all indexes k j place inputs others kept one like alike
                    (λ n sets outer. IsCheckAnswer check n sets outer check.code.kind answer)
                    (are.1 j like answer at found));
                there = λ i stays.
                    subst (λ (x : ℕ). slice_get less x ≡ Some answer) (one_index k j i place stays)
                    found;
              },
            )

pub columns_whole : (recursive : Bool) (bodies : List Body) → WholeColumnsExist recursive bodies
columns_whole recursive bodies indexes all fewer inputs others ds expressions among kept below are =
    let (rows, many, each) =
    chosen (length all) (IsRowAt indexes all fewer among recursive bodies inputs others ds expressions kept below are)
    (row_at indexes all fewer among recursive bodies inputs others ds expressions kept below are) in
    let (cs, as_many, made) = chosen (length bodies) (IsColumnOf bodies rows) (column_of bodies rows) in (
      cs,
      are_columns indexes all fewer among recursive bodies inputs others ds expressions kept below are
          rows many each cs as_many made,
      record {
        as_many = as_many ∙ sym are.as_many;
        each = λ p c d at found k j stays.
            let inside = slice_get_within cs p c at in
            let same = columns_kept indexes all fewer among recursive bodies inputs others ds expressions
            kept below are rows many each cs as_many made k j stays p (omega (arith, inside, as_many)) c d in
            subst (λ (x : Column). HaveSameValue c k x j) (get_or_from_slice_get ds p d d found)
            (subst (λ (x : Column). HaveSameValue x k (get_or ds p d) j)
            (get_or_from_slice_get cs p c c at) same);
      },
    )

pub answers_whole : (check : CheckCode) → WholeAnswersExist check
answers_whole check indexes all fewer inputs others less tree among kept below are =
    let (answers, many, each) =
    chosen (length all) (IsAnswerAt indexes all fewer among check inputs others less tree kept below are)
    (answer_at indexes all fewer among check inputs others less tree kept below are) in (
      answers,
      (
        many,
        λ k one answer here found.
            let lt = slice_get_within all k one here in
            subst
            (λ (x : Bool). IsCheckAnswer check (events_of one) (EventsAt (events_of one) one inputs k)
            (PairsAt (events_of one) one inputs k) check.code.kind x)
            (get_or_from_slice_get answers k answer answer found) ((each k answer lt).is one here),
      ),
      λ k j stays.
          let lt = is_below indexes all fewer among k j stays in
          slice_get-get_or answers k Bool.false (omega (arith, lt, many))
          ∙ sym ((each k Bool.false lt).there j stays),
    )
