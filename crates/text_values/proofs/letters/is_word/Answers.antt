use Rattle.std.proofs.Common.{◌≡◌, ◌≢◌, ℕ, List, length, Bool, true, false, refl, sym, ap, ◌∙◌}
use Rattle.std.specs.Prelude.{slice_index}
use Rattle.std.specs.Bool.{Decides}
use Rattle.std.specs.Str.{bytes_eq}
use Rattle.std.proofs.lemmas.Slice.Eq.{bytes_eq-Decides}
use Rattle.text_values.proofs.letters.is_word.Goals as goal

-- two texts differ where some number that they determine does
differ : (b : Bool) (xs ys : List ℕ) (f : List ℕ → ℕ) → Decides b (xs ≡ ys) → f xs ≢ f ys
    → false ≡ b
differ false xs ys f d n = refl
differ true xs ys f d n = absurd (n (ap f (d.0 refl)))

pub returns-then-text-word : goal.returns-then-text-word
returns-then-text-word c =
    differ (bytes_eq c.args.text.now c.args.word.now) _ _ (λ xs. length xs) (bytes_eq-Decides _ _)
    c.if-text-word.true

pub returns-then-byte_at : goal.returns-then-byte_at
returns-then-byte_at c =
    differ (bytes_eq c.args.text.now c.args.word.now) c.args.text.now c.args.word.now
    (λ xs. slice_index xs 0) (bytes_eq-Decides c.args.text.now c.args.word.now)
    (λ e. c.if-byte_at.true (c.byte_at.ensures.value ∙ e ∙ sym c.byte_at-2.ensures.value))
