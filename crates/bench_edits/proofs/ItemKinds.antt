-- The kinds of items after an edit.
use Rattle.std.proofs.Common.{ℕ, List}
use Rattle.text_values.specs.declared.test.Test.{Test}
use Rattle.bench_texts.specs.Replacements.{models_with}
use Rattle.bench_texts.specs.declared.model.NamedModel.{NamedModel}
use Rattle.bench_texts.specs.declared.replacement.Replacement.{Replacement}
use Rattle.bench_texts.specs.declared.replacement.Replacement.TheVariants as made
use Rattle.bench_parts.specs.declared.parts.Parts.{Parts}
use Rattle.bench_parts.specs.ItemLaws.{AreItemsAfter}
use Rattle.bench_parts.proofs.ItemKinds.{have_kinds}
use Rattle.bench_edits.specs.declared.edited.EditedParts.{EditedParts}
use Rattle.bench_edits.specs.declared.edited.EditedParts.TheVariants as edited
use Rattle.bench_edits.specs.declared.edited.ModelParts.{ModelParts}
use Rattle.bench_edits.specs.Edited.{AreModelsSame, AreModelsAfter}
use Rattle.bench_edits.specs.Laws.{IsEdit}
use Rattle.bench_edits.specs.Owed.{item_numbers}
use Rattle.bench_text_laws.specs.Orderly.{AreApart}
use Rattle.bench_edits.specs.Readings.{named_text, all_facts}
use Rattle.bench_edits.specs.Left.{AreKindsOf}
use Rattle.bench_edits.proofs.Facts.{all_apart, all_written, unstamped_gone}

-- ---- after an edit of a model

module _ (p q : Parts) (tests : List Test) (models : List NamedModel) (r : Replacement) (number : ℕ)
    (m : ModelParts) (edit : IsEdit p tests models r number (edited.Models m) q)
    (after : AreModelsAfter p models r m) where
  pub items_after : AreItemsAfter p.last number p.table.items.items p.roles.items
      (named_text models) (all_facts (models_with r models)) q.table.items.items q.roles.items
      q.kinds.items
  items_after = rw (edit.committed.changes.roles, edit.committed.changes.kinds) (record {
    later = edit.later;
    was = edit.owed.built.items;
    gone = λ of none. unstamped_gone p tests models of edit.owed none;
    before = m.items.rows.items;
    written = all_written (models_with r models);
    made = after.items;
    raised = edit.committed.changes.items;
  })

  models_kinds : AreApart (item_numbers (models_with r models))
      → AreKindsOf q (models_with r models)
  models_kinds apart =
      have_kinds p.last number p.table.items.items q.table.items.items p.roles.items q.roles.items
      (named_text models) q.kinds.items (all_facts (models_with r models)) items_after
      (all_apart (models_with r models) apart)

same_kinds : (p q : Parts) (models : List NamedModel) → AreModelsSame p q → AreKindsOf p models
    → AreKindsOf q models
same_kinds p q models same h = rw (same.items, same.kinds) h

pub kinds_after : (p q : Parts) (tests : List Test) (models : List NamedModel) (r : Replacement)
    (number : ℕ) (e : EditedParts) → IsEdit p tests models r number e q
    → AreApart (item_numbers (models_with r models)) → AreKindsOf p models
    → AreKindsOf q (models_with r models)
kinds_after p q tests models (made.PutTest at test) number (edited.PutTest to row names) edit apart
    h = same_kinds p q models edit.committed.changes.models h
kinds_after p q tests models (made.PutTest at test) number (edited.DropTest to) edit apart h =
    absurd edit.is_made
kinds_after p q tests models (made.PutTest at test) number (edited.Models m) edit apart h =
    absurd edit.is_made
kinds_after p q tests models (made.DropTest at) number (edited.PutTest to row names) edit apart h =
    absurd edit.is_made
kinds_after p q tests models (made.DropTest at) number (edited.DropTest to) edit apart h =
    same_kinds p q models edit.committed.changes.models h
kinds_after p q tests models (made.DropTest at) number (edited.Models m) edit apart h =
    absurd edit.is_made
kinds_after p q tests models (made.PutModel at model next) number (edited.PutTest to row names) edit
    apart h = absurd edit.is_made
kinds_after p q tests models (made.PutModel at model next) number (edited.DropTest to) edit apart
    h = absurd edit.is_made
kinds_after p q tests models (made.PutModel at model next) number (edited.Models m) edit apart h =
    models_kinds p q tests models (made.PutModel at model next) number m edit edit.is_made apart
kinds_after p q tests models (made.DropModel at) number (edited.PutTest to row names) edit apart h =
    absurd edit.is_made
kinds_after p q tests models (made.DropModel at) number (edited.DropTest to) edit apart h =
    absurd edit.is_made
kinds_after p q tests models (made.DropModel at) number (edited.Models m) edit apart h =
    models_kinds p q tests models (made.DropModel at) number m edit edit.is_made apart
