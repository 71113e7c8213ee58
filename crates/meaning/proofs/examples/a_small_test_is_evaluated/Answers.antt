use Rattle.std.proofs.Common.{refl}
use Rattle.meaning.proofs.Store.{store_is_accepted, store_says}
use Rattle.meaning.proofs.examples.a_small_test_is_evaluated.Goals as goal

pub returns : goal.returns
returns c = (refl, store_is_accepted, store_says)
