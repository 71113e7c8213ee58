-- The list of the nodes that cells use has each once: so what counts its members counts nodes. Read
-- it after There.
use Rattle.bench_text_laws.specs.Orderly.{AreApart}
use Rattle.bench_instance.specs.declared.stamped_texts.StampedTexts.{StampedTexts}
use Rattle.bench_instance.specs.StampedTexts.{stamped_net}
use Rattle.bench_laws.specs.There.{LiveState}

-- no node stands twice in the list of the nodes that cells use
abbrev pub ListsEachNodeOnce : StampedTexts → Type 0
ListsEachNodeOnce t = AreApart (stamped_net t).used

abbrev pub HasEachNodeOnce : LiveState → Type 0
HasEachNodeOnce b = ListsEachNodeOnce b.texts
