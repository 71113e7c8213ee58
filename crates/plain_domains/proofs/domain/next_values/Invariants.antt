use Rattle.text_values.specs.TestValue.{content_of}
use Rattle.plain_runs.specs.Runs.{ValuesOf}
use Rattle.plain_domains.specs.Domains.{Adds}
use Rattle.plain_domains.proofs.Rounds.{StoredBelow, FewBelow}
use Rattle.plain_domains.proofs.domain.next_values.Given as goal

abbrev pub invariant-loop-thread : goal.invariant-loop-thread
invariant-loop-thread l = record {
  adds : Adds (StoredBelow (content_of l.test) (ValuesOf l.values) l.thread) l.values l.next.items;
  few : FewBelow (content_of l.test) (ValuesOf l.values) l.thread;
}
