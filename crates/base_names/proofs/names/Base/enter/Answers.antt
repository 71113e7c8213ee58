use Rattle.std.proofs.Common.{◌≡◌, rules, ◌∙◌}
use Rattle.std.specs.Vec.{with_items}
use Rattle.std.proofs.lemmas.List.{with_items_is}
use Rattle.base_names.proofs.Lookups.{under_set, under_shared}
use Rattle.base_names.proofs.names.Base.enter.Goals as goal

pub returns-clause-entered : goal.returns-clause-entered
returns-clause-entered c =
    let sets_are : (with_items c.self.inside.sets c.put_sets.new.sets).items ≡ c.put_sets.new.sets = with_items_is c.self.inside.sets c.put_sets.new.sets (c.put_sets.ensures.long ∙ c.deref_mut.ensures.len) in
    let shared_are : (with_items c.self.inside.shared c.put_shared.new.shared).items ≡ c.put_shared.new.shared = with_items_is c.self.inside.shared c.put_shared.new.shared (c.put_shared.ensures.long ∙ c.deref_mut-2.ensures.len) in
    record {
      count = search rules;
      sets =
          λ name held a. rw sets_are (under_set c.put_sets.new.sets c.len-count.result
          c.args.combination.now name c.put_sets.ensures.right (rw sets_are at held) a);
      shared =
          λ name held a b. rw shared_are (under_shared c.put_shared.new.shared c.len-count.result
          c.args.combination.now name c.put_shared.ensures.right (rw shared_are at held) a b);
    }
