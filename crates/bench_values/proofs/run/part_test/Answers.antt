use Rattle.std.proofs.Common.{ap, ◌∙◌, map}
use Rattle.text_values.specs.TestValue.{thread_steps}
use Rattle.bench_values.proofs.Making.{part_names}
use Rattle.bench_values.proofs.run.part_test.Goals as goal

pub returns : goal.returns
returns c =
    let init = c.in_ok-copied_entries.ensures ∙ c.deref.ensures.value in
    record {
      init = init;
      threads = c.in_ok-copied_threads.ensures ∙ ap (map thread_steps) c.deref-2.ensures.value;
      locations =
          part_names c.args.parts.now.init.items c.in_ok-copied_entries.field-0.items
          c.args.parts.now.locations.items c.in_ok-places_of.field-0.items init
          (c.in_ok-places_of.ensures ∙ ap (map _) c.deref-3.ensures.value);
    }
