use denote.Ref.{Bor}
use Rattle.std.proofs.Common.{ℕ, List, [], take, sym, subst}
use Rattle.text_values.specs.TestValue.{content_of}
use Rattle.meaning.specs.Names.{Name}
use Rattle.meaning_plain.specs.Lists.{Given}
use Rattle.plain_machine.specs.declared.value.Value.{Value}
use Rattle.plain_runs.specs.Locations.{names_as}
use Rattle.plain_domains.specs.Domains.{Adds, IsStartOf}
use Rattle.plain_domains.proofs.Storing.{adds_begin, adds_more, adds_listed}
use Rattle.plain_runs.proofs.Mapping.{mapped_more, mapped_all}
use Rattle.plain_domains.proofs.domain.start_values.Goals as goal

pub loop-location-init : goal.loop-location-init
loop-location-init c =
    let t = content_of c.args.test.now in
    subst (λ (l : List Value). Adds (Given (IsStartOf t) []) [] l) (sym c.new-values.ensures.items)
    (adds_begin (IsStartOf t) [])

pub loop-location-preserved : goal.loop-location-preserved
loop-location-preserved c =
    let t = content_of c.args.test.now in
    let names = names_as c.args.locations.now in
    let k = c.loop-location.location-index in
    adds_more (IsStartOf t) (take k names) _ _ [] c.loop-location.values.items
    c.put_start.new.values.items
    (mapped_more (λ (n : Bor (List ℕ)). n.now) c.args.locations.now k (record { ref_ptr = (0, 0); now = [] }) c.loop-location-test.true)
    c.loop-location.invariant c.in_ok-put_start.ensures

pub returns : goal.returns
returns c =
    let t = content_of c.args.test.now in
    adds_listed (Given (IsStartOf t) (names_as c.args.locations.now)) c.loop-location.values.items
    (subst (λ (l : List Name). Adds (Given (IsStartOf t) l) [] c.loop-location.values.items)
    (mapped_all (λ (n : Bor (List ℕ)). n.now) c.args.locations.now c.loop-location.location-index c.loop-location-test.false)
    c.loop-location.invariant)
