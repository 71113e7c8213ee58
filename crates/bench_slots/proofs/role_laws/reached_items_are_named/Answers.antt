use Rattle.bench_slots.proofs.Reached.{reached_by_names}
use Rattle.bench_slots.proofs.role_laws.reached_items_are_named.Goals as goal

pub returns : goal.returns
returns c =
    λ items index r closed reached found loud.
    reached_by_names items closed index r found loud reached
