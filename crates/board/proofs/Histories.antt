-- The texts after some operations are what the tests and the models after them say.
use Rattle.std.proofs.Common.{◌≡◌, ℕ, List, [], ◌∷◌, map, refl, sym, ap, ◌∙◌}
use Rattle.std.specs.Prelude.{fold, remove}
use Rattle.text_values.specs.TestValue.{content_of}
use Rattle.bench_texts.specs.declared.replacement.Replacement.{Replacement}
use Rattle.bench_texts.specs.declared.replacement.Replacement.TheVariants as made
use Rattle.bench_texts.specs.BenchTexts.{BenchTexts, put_at, no_texts}
use Rattle.bench_texts.specs.Held.{plain_model}
use Rattle.bench_texts.specs.Replacements.{texts_with}
use Rattle.bench_texts.proofs.Lists.{map-remove}
use Rattle.board.specs.declared.operation.BoardOp.{BoardOp}
use Rattle.board.specs.declared.operation.BoardOp.TheVariants.{Edit, Settle}
use Rattle.board.specs.Legal.{TestsAndModels, no_tests_or_models, tests_and_models_with, tests_and_models_after}
use Rattle.board.proofs.Changed.{map-placed}
use Rattle.board.specs.Histories.{IsContentOf, HasContents, contents_with}

put_same : {A B : Type 0} (f : A → B) (at : ℕ) (y : A) (xs : List A) (ys : List B) → ys ≡ map f xs
    → put_at at (f y) ys ≡ map f (put_at at y xs)
put_same f at y xs ys e = ap (λ zs. put_at at (f y) zs) e ∙ sym (map-placed f y xs at)

removed_same : {A B : Type 0} (f : A → B) (at : ℕ) (xs : List A) (ys : List B) → ys ≡ map f xs
    → remove ys at ≡ map f (remove xs at)
removed_same f at xs ys e = ap (λ zs. remove zs at) e ∙ sym (map-remove f xs at)

content_with : (t : BenchTexts) (h : TestsAndModels) (r : Replacement) → IsContentOf t h
    → IsContentOf (texts_with r t) (tests_and_models_with r h)
content_with t h (made.PutTest at test) p =
    record { tests = put_same content_of at test h.tests t.tests p.tests; models = p.models }
content_with t h (made.DropTest at) p =
    record { tests = removed_same content_of at h.tests t.tests p.tests; models = p.models }
content_with t h (made.PutModel at model next) p =
    record { tests = p.tests; models = put_same plain_model at model h.models t.models p.models }
content_with t h (made.DropModel at) p =
    record { tests = p.tests; models = removed_same plain_model at h.models t.models p.models }

content_step : (t : BenchTexts) (h : TestsAndModels) (op : BoardOp) → IsContentOf t h
    → IsContentOf (contents_with t op) (tests_and_models_after h op)
content_step t h (Edit edit) p = content_with t h edit.prepared.value.replacement p
content_step t h (Settle at outcome) p = p

content_from : (ops : List BoardOp) (t : BenchTexts) (h : TestsAndModels) → IsContentOf t h
    → IsContentOf (fold contents_with t ops) (fold tests_and_models_after h ops)
content_from [] t h p = p
content_from (op ∷ ops) t h p =
    content_from ops (contents_with t op) (tests_and_models_after h op) (content_step t h op p)

pub contents_are_those : (ops : List BoardOp) → HasContents ops
contents_are_those ops =
    content_from ops no_texts no_tests_or_models (record { tests = refl; models = refl })
