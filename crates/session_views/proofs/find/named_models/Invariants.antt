use Rattle.std.proofs.Common.{◌≡◌, drop, take, map}
use Rattle.std.specs.Prelude.{All}
use Rattle.bench_texts.specs.Held.{texts_of}
use Rattle.session_answers.specs.Cells.{models_named}
use Rattle.session_answers.proofs.Named.{joined}
use Rattle.session_views.specs.Asked.{IsModelAt, asked_index, asked_model}
use Rattle.session_views.specs.Waiting.{model_indexes}
use Rattle.session_views.proofs.find.named_models.Given as goal

-- the models so far stand before those of the other names
abbrev pub invariant-loop-name : goal.invariant-loop-name
invariant-loop-name l = record {
  named : models_named (texts_of l.texts) l.names
      ≡ joined (map asked_model l.found.items) (models_named (texts_of l.texts)
      (drop l.name-index l.names));
  indexes : map asked_index l.found.items
      ≡ model_indexes (texts_of l.texts) (take l.name-index l.names);
  there : All (IsModelAt l.texts) l.found.items;
}
