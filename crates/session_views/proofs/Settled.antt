-- Cells that are counted as settled.
use Rattle.std.proofs.Common.{◌≡◌, ℕ, ◌+◌, ◌-◌, ◌<◌, ◌^◌, min, List, [], ◌∷◌, length, map, take, get_or, Bool, true, false, None, refl, sym, ap, ◌∙◌, subst, arith}
use Rattle.std.proofs.lemmas.Grind.{common_steps}
use Rattle.std.specs.List.{sum_by}
use Rattle.std.proofs.lemmas.List.{length-map}
use Rattle.std.proofs.lemmas.List.Sums.{sum_by_more}
use Rattle.text_values.specs.declared.test.Test.{Test}
use Rattle.text_values.specs.TestValue.{Content, content_of}
use Rattle.outcome_states.specs.declared.answer.Outcome.{Outcome}
use Rattle.outcome_texts.specs.Cells.{Cell, NoCell, Open, Settled}
use Rattle.session_answers.specs.declared.progress.Progress.{Progress}
use Rattle.session_views.specs.Progress.{is_settled, capped}

pub shown_settled : (c : Cell) (o : Outcome) → Settled o ≡ c → true ≡ is_settled c
shown_settled c o e = subst (λ (x : Cell). true ≡ is_settled x) e refl

pub shown_open : (c : Cell) → Open ≡ c → false ≡ is_settled c
shown_open c e = subst (λ (x : Cell). false ≡ is_settled x) e refl

pub shown_none : (c : Cell) → NoCell ≡ c → false ≡ is_settled c
shown_none c e = subst (λ (x : Cell). false ≡ is_settled x) e refl

capped_sum : (a b c : ℕ) → c ≡ a + b → min (capped a + b) (2 ^ 64 - 1) ≡ capped c
capped_sum a b c e = grind (arith, common_steps)

-- the cells of one more name are added
pub capped_next : (f : List ℕ → ℕ) (names : List (List ℕ)) (i : ℕ) (d : List ℕ)
    (settled more sum : ℕ) (name : List ℕ) → settled ≡ capped (sum_by f (take i names))
    → i < length names → name ≡ get_or names i d → more ≡ f name
    → sum ≡ min (settled + more) (2 ^ 64 - 1) → sum ≡ capped (sum_by f (take (i + 1) names))
capped_next f names i d settled more sum name before lt there counts adds =
    adds ∙ ap (λ (n : ℕ). min (n + more) (2 ^ 64 - 1)) before
    ∙ ap (λ (n : ℕ). min (capped (sum_by f (take i names)) + n) (2 ^ 64 - 1)) (counts ∙ ap f there)
    ∙ capped_sum (sum_by f (take i names)) (f (get_or names i d)) (sum_by f (take (i + 1) names))
    (sum_by_more f names i d lt)

-- those of two names
pub capped_two : (f : List ℕ → ℕ) (x y : List ℕ) (a b sum : ℕ) → a ≡ f x → b ≡ f y
    → sum ≡ min (a + b) (2 ^ 64 - 1) → sum ≡ capped (sum_by f (x ∷ y ∷ []))
capped_two f x y a b sum one two adds =
    adds ∙ ap (λ (n : ℕ). min (n + b) (2 ^ 64 - 1)) one
    ∙ ap (λ (n : ℕ). min (f x + n) (2 ^ 64 - 1)) two ∙ both (f x) (f y)
  where
    both : (n m : ℕ) → min (n + m) (2 ^ 64 - 1) ≡ capped (0 + n + m)
    both n m = grind (arith, common_steps)

-- the same counts are told
pub same_progress : (settled cells m n : ℕ) → settled ≡ m → cells ≡ n
    → ◌≡◌ {A = Progress} (record { settled = settled; cells = cells; jobs = None })
    (record { settled = m; cells = n; jobs = None })
same_progress settled cells m n one two = rw one (rw two refl)

-- as many tests as their contents
pub as_many : (tests : List Test) (contents : List Content) → map content_of tests ≡ contents
    → length tests ≡ length contents
as_many tests contents e =
    sym (length-map tests content_of) ∙ ap (λ (l : List Content). length l) e
