-- Dependencies, from what the loops of the code find.
use Rattle.std.proofs.Common.{◌≡◌, ◌↔◌, ℕ, List, [], Contains, Bool, refl, sym, ◌∙◌}
use Rattle.std.specs.Prelude.{IsTrue}
use Rattle.meaning.specs.Machine.{is_load}
use Rattle.meaning.specs.Dependencies.{Instructions, LoadReaches, IsCtrl, IsCtrlIsync, is_event}
use Rattle.meaning_plain.specs.Lists.{Grows}
use Rattle.meaning_plain.proofs.Growing.{from_nothing}
use Rattle.plain_events.specs.declared.slot.Reads.{Reads}
use Rattle.plain_events.specs.declared.slot.Passes.{Passes}
use Rattle.plain_events.specs.Slots.{IsReadBy, passes_of}
use Rattle.plain_events.specs.Reaching.{ReachesOneOf, IsBranchOn, IsIsyncOn, IsSoBefore}

-- ---- of what kind an instruction is

pub so_on : (P : Type 0) (kind kind_of other is : Bool) → kind ≡ kind_of → IsTrue other ↔ P
    → IsTrue is ↔ (IsTrue kind × IsTrue other) → IsTrue is ↔ (IsTrue kind_of × P)
so_on P kind kind_of other is e so both = (to, from)
  where
    to : IsTrue is → IsTrue kind_of × P
    to holds = let parts : _ = both.0 holds in (sym e ∙ parts.0, so.0 parts.1)

    from : IsTrue kind_of × P → IsTrue is
    from (first, second) = both.1 (e ∙ first, so.1 second)

-- ---- dependencies

module _ (at : Instructions) (i j : ℕ) where
  pub load_reaches : (passes : Passes) (reads : Reads) (sources : List ℕ)
      (loads among is : Bool) → loads ≡ is_load (at i)
      → Grows (ReachesOneOf passes at j (IsReadBy reads (at j))) [] sources
      → IsTrue among ↔ Contains sources i → IsTrue is ↔ (IsTrue loads × IsTrue among)
      → IsTrue is ↔ LoadReaches (passes_of passes) (IsReadBy reads) at i j
  load_reaches passes reads sources loads among is load grows contains both = (to, from)
    where
      reaching : Contains sources i ↔ ReachesOneOf passes at j (IsReadBy reads (at j)) i
      reaching =
          from_nothing (ReachesOneOf passes at j (IsReadBy reads (at j))) [] sources refl grows i

      to : IsTrue is → LoadReaches (passes_of passes) (IsReadBy reads) at i j
      to holds =
          let parts : _ = both.0 holds in
          (sym load ∙ parts.0, reaching.0 (contains.0 parts.1))

      from : LoadReaches (passes_of passes) (IsReadBy reads) at i j → IsTrue is
      from (loading, reaches) = both.1 (load ∙ loading, contains.1 (reaching.1 reaches))

  pub ctrl_before : (does depends is : Bool) → does ≡ is_event (at j)
      → IsTrue depends ↔ IsSoBefore (IsBranchOn at i) j
      → IsTrue is ↔ (IsTrue does × IsTrue depends) → IsTrue is ↔ IsCtrl at i j
  ctrl_before does depends is event before both = (to, from)
    where
      to : IsTrue is → IsCtrl at i j
      to holds =
          let parts : _ = both.0 holds in
          let found : IsSoBefore (IsBranchOn at i) j = before.0 parts.1 in
          (sym event ∙ parts.0, (found.0, found.1, found.2.0, found.2.1))

      from : IsCtrl at i j → IsTrue is
      from (acts, (b, lt, branch, reaches)) =
          both.1 (event ∙ acts, before.1 (b, lt, (branch, reaches)))

  pub isync_before : (does depends is : Bool) → does ≡ is_event (at j)
      → IsTrue depends ↔ IsSoBefore (IsIsyncOn at i) j
      → IsTrue is ↔ (IsTrue does × IsTrue depends) → IsTrue is ↔ IsCtrlIsync at i j
  isync_before does depends is event before both = (to, from)
    where
      to : IsTrue is → IsCtrlIsync at i j
      to holds =
          let parts : _ = both.0 holds in
          let found : IsSoBefore (IsIsyncOn at i) j = before.0 parts.1 in
          (sym event ∙ parts.0, (found.0, found.1, found.2.0, found.2.1))

      from : IsCtrlIsync at i j → IsTrue is
      from (acts, (f, lt, isync, ctrl)) =
          both.1 (event ∙ acts, before.1 (f, lt, (isync, ctrl)))
