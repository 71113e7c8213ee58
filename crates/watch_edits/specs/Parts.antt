-- What changed parts make of a test.
use Rattle.std.specs.Prelude.{◌≡◌, List, [], ◌∷◌, length}
use Rattle.text_values.specs.declared.test.Step.{Step}
use Rattle.text_values.specs.TestValue.{Content}
use Rattle.bench_texts.specs.BenchTexts.{with_init, with_condition, with_observed}
use Rattle.watch_edits.specs.declared.parts.TestPart.{TestPart}
use Rattle.watch_edits.specs.declared.parts.TestPart.TheVariants.{Init, Thread, Condition, Locations}
use Rattle.watch_edits.specs.Changes.{element_at, set_at}

abbrev pub with_threads : List (List Step) → Content → Content
with_threads threads c =
    record {
      name = c.name;
      init = c.init;
      threads = threads;
      observed = c.observed;
      quantifier = c.quantifier;
      condition = c.condition;
    }

-- the test with a part of the new version
abbrev pub with_part : Content → TestPart → Content → Content
with_part new Init c = with_init new.init c
with_part new (Thread k) c = with_threads (set_at new.threads k c.threads) c
with_part new Condition c = with_condition (new.quantifier, new.condition) c
with_part new Locations c = with_observed new.observed c

-- one part after another
abbrev pub with_parts : Content → List TestPart → Content → Content
with_parts new [] c = c
with_parts new (p ∷ ps) c = with_parts new ps (with_part new p c)

-- the two versions have the same name and as many threads
pub record HasSameShape (old new : Content) : Type 0 where
  pub name : old.name ≡ new.name
  pub threads : length old.threads ≡ length new.threads

-- the part differs
abbrev pub Differs : (old new : Content) → TestPart → Type 0
Differs old new Init = old.init ≡ new.init → ⊥
Differs old new (Thread k) = element_at k old.threads ≡ element_at k new.threads → ⊥
Differs old new Condition = old.quantifier ≡ new.quantifier → old.condition ≡ new.condition → ⊥
Differs old new Locations = old.observed ≡ new.observed → ⊥
