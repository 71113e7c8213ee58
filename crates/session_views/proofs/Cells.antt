-- A cell that is settled on a board is right for the texts that the board shows.
use Rattle.std.proofs.Common.{◌≡◌, ℕ, zero, suc, List, [], ◌∷◌, length, map, Option, Some, None, IfSome, Bor, refl, sym, ap, ◌∙◌, subst, arith}
use Rattle.std.specs.Prelude.{slice_get}
use Rattle.std.proofs.lemmas.Option.{same_Some}
use Rattle.text_values.specs.TestValue.{Content, content_of}
use Rattle.outcome_states.specs.declared.answer.Outcome.{Outcome}
use Rattle.bench_texts.specs.BenchTexts.{BenchTexts, PlainModel}
use Rattle.bench_texts.specs.Held.{plain_model}
use Rattle.evaluation_laws.proofs.Deciding.{decide}
use Rattle.evaluation_laws.proofs.SliceModels.{items_suffice}
use Rattle.outcome_texts.specs.Cells.{Settled}
use Rattle.board.specs.Contents.{BoardContent, cell_at, shown_cell}
use Rattle.board.specs.Legal.{texts_after, IsRightAt}
use Rattle.board.proofs.Legal.{legal_is_right}
use Rattle.board.proofs.Histories.{contents_are_those}
use Rattle.session_answers.specs.Cells.{IsPlainOutcome}
use Rattle.session_answers.proofs.Named.{clauses_of-items}
use Rattle.session_views.specs.Shown.{ShowsTexts}

get_mapped : {A B : Type 0} (f : A → B) (xs : List A) (i : ℕ) (x : A) → slice_get xs i ≡ Some x
    → slice_get (map f xs) i ≡ Some (f x)
get_mapped f [] i x e = absurd cc
get_mapped f (y ∷ xs) zero x e = let same : y ≡ x = (cc) in ap (λ z. Some (f z)) same
get_mapped f (y ∷ xs) (suc i) x e = get_mapped f xs i x e

-- the outcome is that of these two, at their indexes
outcome_at : (t : BenchTexts) (b : BoardContent) (s : ShowsTexts t b) (i j : ℕ) (o : Outcome)
    → IsRightAt (texts_after s.ops) i j o → (c : Content) (m : PlainModel)
    → slice_get t.tests i ≡ Some c → slice_get t.models j ≡ Some m → IsPlainOutcome c m o
outcome_at t b s i j o r c m test model =
    let plain = contents_are_those s.ops in
    let tests : slice_get t.tests i ≡ Some (content_of r.test) = ap (λ (x : BenchTexts). slice_get x.tests i) (sym s.texts) ∙ ap (λ (l : List Content). slice_get l i) plain.tests ∙ get_mapped content_of (texts_after s.ops).tests i r.test r.test_there in
    let models : slice_get t.models j ≡ Some (plain_model r.model) = ap (λ (x : BenchTexts). slice_get x.models j) (sym s.texts) ∙ ap (λ (l : List PlainModel). slice_get l j) plain.models ∙ get_mapped plain_model (texts_after s.ops).models j r.model r.model_there in
    let same_test : content_of r.test ≡ c = same_Some (content_of r.test) c (sym tests ∙ test) in
    let same_model : plain_model r.model ≡ m = same_Some (plain_model r.model) m (sym models ∙ model) in
    let long : length r.model.numbers.items ≡ length r.model.text.items.items = omega (arith, r.model.paired, r.model.numbers.ok.0, r.model.text.items.ok.0) in
    subst (λ (x : Content). IsPlainOutcome x m o) same_test
    (subst (λ (x : PlainModel). IsPlainOutcome (content_of r.test) x o) same_model
    (record {
      test = r.test;
      model = r.model.text;
      test_is = refl;
      model_is = clauses_of-items r.model.numbers.items r.model.text.items.items long;
      said = r.right;
    }))

pub right_cell : (t : BenchTexts) (b : BoardContent) → ShowsTexts t b → (i j : ℕ) (o : Outcome)
    → cell_at b.rows i j ≡ Some (Some o) → (c : Content) (m : PlainModel)
    → slice_get t.tests i ≡ Some c → slice_get t.models j ≡ Some m → IsPlainOutcome c m o
right_cell t b s i j o e c m test model =
    let there = ap (λ (x : BoardContent). cell_at x.rows i j) (sym s.board) ∙ e in
    outcome_at t b s i j o (legal_is_right (items_suffice decide) s.ops s.legal i j o there) c m
    test model

-- an outcome that is shown, if there is one
pub outcome_shown : (t : BenchTexts) (b : BoardContent) → ShowsTexts t b
    → (i j : ℕ) (c : Content) (m : PlainModel) → slice_get t.tests i ≡ Some c
    → slice_get t.models j ≡ Some m
    → (r : Option (Bor Outcome)) → IfSome r (λ o. cell_at b.rows i j ≡ Some (Some o.now))
    → IfSome r (λ o. IsPlainOutcome c m o.now)
outcome_shown t b s i j c m test model None h = tt
outcome_shown t b s i j c m test model (Some o) h = right_cell t b s i j o.now h c m test model

-- a cell that is shown as settled
pub settled_cell : (x : Option (Option Outcome)) (o : Outcome) → Settled o ≡ shown_cell x
    → x ≡ Some (Some o)
settled_cell None o e = absurd cc
settled_cell (Some None) o e = absurd cc
settled_cell (Some (Some p)) o e =
    let same : o ≡ p = (cc) in ap (λ (q : Outcome). Some (Some q)) (sym same)

-- what is there at an index, as plain texts
pub plain_at : {A B : Type 0} (f : A → B) (xs : List A) (ys : List B) (i : ℕ) (x : A)
    → map f xs ≡ ys → slice_get xs i ≡ Some x → slice_get ys i ≡ Some (f x)
plain_at f xs ys i x e there =
    ap (λ (l : List _). slice_get l i) (sym e) ∙ get_mapped f xs i x there
