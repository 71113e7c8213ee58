-- How many edits there are among operations, and their numbers.
use Rattle.std.proofs.Common.{◌≡◌, ℕ, zero, suc, ◌+◌, ◌-◌, ◌≤◌, ◌<◌, ◌^◌, min, ◌⊎◌, inl, inr, List, [], ◌∷◌, Some, refl, ap, ◌∙◌, subst, arith}
use Rattle.std.specs.Prelude.{fold, slice_get}
use Rattle.std.proofs.lemmas.Bool.{cases_lt}
use Rattle.std.proofs.lemmas.Option.{none-some}
use Rattle.board.specs.declared.operation.BoardEdit.{BoardEdit}
use Rattle.board.specs.declared.operation.BoardOp.{BoardOp}
use Rattle.board.specs.declared.operation.BoardOp.TheVariants.{Edit, Settle}
use Rattle.board.specs.Contents.{BoardContent}
use Rattle.board.specs.Operations.{no_board, after_operation}
use Rattle.board.specs.Legal.{TestsAndModels, no_tests_or_models, tests_and_models_after, number_after, LegalFrom}
use Rattle.board.specs.Edits.{edits_in}

-- ---- how many

abbrev most : ℕ
most = 2 ^ 64 - 1

none_more : (e : ℕ) → e ≤ most → e ≡ min (0 + e) most
none_more e le = omega (arith, le)

at_most : (n : ℕ) → min n most ≤ most
at_most n = omega arith

stopped : (k e : ℕ) → (most < suc e) ⊎ (suc e ≤ most)
    → min (k + min (suc e) most) most ≡ min (suc k + e) most
stopped k e (inl more) = omega (arith, more)
stopped k e (inr few) = omega (arith, few)

pub counted_from : (ops : List BoardOp) (b : BoardContent) → b.edits ≤ most
    → (fold after_operation b ops).edits ≡ min (edits_in ops + b.edits) most
counted_from [] b le = none_more b.edits le
counted_from (Edit edit ∷ ops) b le =
    counted_from ops (after_operation b (Edit edit)) (at_most (suc b.edits))
    ∙ stopped (edits_in ops) b.edits (cases_lt most (suc b.edits))
counted_from (Settle at outcome ∷ ops) b le =
    counted_from ops (after_operation b (Settle at outcome)) le

-- ---- numbers

pub numbered_from : (ops : List BoardOp) (h : TestsAndModels) (last : ℕ) → LegalFrom h last ops
    → edits_in ops + last ≤ fold number_after last ops
numbered_from [] h last l = omega arith
numbered_from (Edit edit ∷ ops) h last l =
    let later = numbered_from ops (tests_and_models_after h (Edit edit)) edit.number l.1 in
    let first : last < edit.number = l.0.0 in
    omega (arith, later, first)
numbered_from (Settle at outcome ∷ ops) h last l = numbered_from ops h last l.1

-- each edit has a number above the last one before
above : (ops : List BoardOp) (h : TestsAndModels) (last : ℕ) (i : ℕ) (e : BoardEdit) → LegalFrom h last ops
    → slice_get ops i ≡ Some (Edit e) → last < e.number
above [] h last i e l there = absurd (none-some (Edit e) there)
above (Edit edit ∷ ops) h last zero e l there =
    let same : edit ≡ e = (cc) in subst (λ (x : BoardEdit). last < x.number) same l.0.0
above (Edit edit ∷ ops) h last (suc i) e l there =
    let later = above ops (tests_and_models_after h (Edit edit)) edit.number i e l.1 there in
    let first : last < edit.number = l.0.0 in
    omega (arith, later, first)
above (Settle at outcome ∷ ops) h last zero e l there = cc
above (Settle at outcome ∷ ops) h last (suc i) e l there = above ops h last i e l.1 there

first_edit : (a e : BoardEdit) (n : ℕ) → Some (Edit a) ≡ Some (Edit e) → n ≡ a.number → n ≡ e.number
first_edit a e n there same =
    let is : a ≡ e = (cc) in subst (λ (x : BoardEdit). n ≡ x.number) is same

pub apart_from : (ops : List BoardOp) (h : TestsAndModels) (last : ℕ) → LegalFrom h last ops
    → (i k : ℕ) (e f : BoardEdit) → slice_get ops i ≡ Some (Edit e)
    → slice_get ops k ≡ Some (Edit f) → e.number ≡ f.number → i ≡ k
apart_from [] h last l i k e f a b same = absurd (none-some (Edit e) a)
apart_from (op ∷ ops) h last l zero zero e f a b same = refl
apart_from (Edit edit ∷ ops) h last l zero (suc k) e f a b same =
    let later = above ops (tests_and_models_after h (Edit edit)) edit.number k f l.1 b in
    let is = first_edit edit e edit.number a refl in
    absurd (omega (arith, later, is, same))
apart_from (Settle at outcome ∷ ops) h last l zero (suc k) e f a b same = cc
apart_from (Edit edit ∷ ops) h last l (suc i) zero e f a b same =
    let later = above ops (tests_and_models_after h (Edit edit)) edit.number i e l.1 a in
    let is = first_edit edit f edit.number b refl in
    absurd (omega (arith, later, is, same))
apart_from (Settle at outcome ∷ ops) h last l (suc i) zero e f a b same = cc
apart_from (op ∷ ops) h last l (suc i) (suc k) e f a b same =
    ap suc (apart_from ops (tests_and_models_after h op) (number_after last op) l.1 i k e f a b same)

-- ---- from nothing

plus_none : (n : ℕ) → n + 0 ≡ n
plus_none n = omega arith

pub counted : (ops : List BoardOp)
    → (fold after_operation no_board ops).edits ≡ min (edits_in ops) most
counted ops =
    counted_from ops no_board (omega arith) ∙ ap (λ (n : ℕ). min n most) (plus_none (edits_in ops))

pub numbered : (ops : List BoardOp) → LegalFrom no_tests_or_models 0 ops
    → edits_in ops ≤ fold number_after 0 ops
numbered ops legal =
    subst (λ (n : ℕ). n ≤ fold number_after 0 ops) (plus_none (edits_in ops))
    (numbered_from ops no_tests_or_models 0 legal)
