use Rattle.std.proofs.Common.{◌+◌, ◌*◌}
use Rattle.plain_events.proofs.chain.+chains.Given as goal

abbrev pub decreases-put_slot_sources : goal.decreases-put_slot_sources
decreases-put_slot_sources l = 4 * l.index

abbrev pub decreases-put_all_sources : goal.decreases-put_all_sources
decreases-put_all_sources l = 4 * l.index + 1

abbrev pub decreases-put_fed : goal.decreases-put_fed
decreases-put_fed l = 4 * l.index + 2

abbrev pub decreases-put_sources : goal.decreases-put_sources
decreases-put_sources l = 4 * l.index + 3
