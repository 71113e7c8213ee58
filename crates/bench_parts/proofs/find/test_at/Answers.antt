use Rattle.std.proofs.Common.{refl, sym, ap, ◌∙◌, Some, arith}
use Rattle.std.proofs.lemmas.Option.{slice_get_read}
use Rattle.bench_parts.specs.Views.{FoundTest}
use Rattle.bench_parts.proofs.Rows.{view_at, no_view}
use Rattle.bench_parts.proofs.find.test_at.Goals as goal
use Rattle.bench_parts.proofs.find.test_at.Goals.{else-index-rows-via-then-index-rows+then-index-tests+else-index-locations, else-index-rows-via-then-index-rows+else-index-tests, else-index-rows-via-else-index-rows}

pub returns-then-index-locations : goal.returns-then-index-locations
returns-then-index-locations c =
    let rows = c.args.rows.now in
    let tests = c.args.tests.now in
    let locations = c.args.locations.now in
    let index = c.args.index in
    let row = slice_get_read rows _ index c.index-rows-index.result refl c.if-index-rows.true c.index-rows-index.is in
    let test = slice_get_read tests _ index c.index-tests-index.result refl c.if-index-tests.true c.index-tests-index.is in
    let set = slice_get_read locations _ index c.index-locations-index.result refl c.if-index-locations.true c.index-locations-index.is in
    ap
    (λ l. Some (
    let v : FoundTest =
    record {
      row = c.index-rows-index.result;
      test = c.index-tests-index.result;
      locations = l;
    } in
    v)) c.deref.ensures.value
    ∙ sym (view_at c.args._id rows tests locations index c.index-rows-index.result
    c.index-tests-index.result c.index-locations-index.result (sym c.requires) row test set)

pub returns-else-index-rows : goal.returns-else-index-rows
returns-else-index-rows c =
    let found = sym c.requires in
    let rows = c.args.rows.now in
    let tests = c.args.tests.now in
    let locations = c.args.locations.now in
    elim c.else-index-rows.branch [
      | else-index-rows-via-then-index-rows+then-index-tests+else-index-locations w ↦ sym
          (no_view c.args._id rows tests locations c.args.index found
          (λ a b d. omega (arith, d, w.if-index-locations.false)))
      | else-index-rows-via-then-index-rows+else-index-tests w ↦ sym (no_view c.args._id rows tests
          locations c.args.index found (λ a b d. omega (arith, b, w.if-index-tests.false)))
      | else-index-rows-via-else-index-rows w ↦ sym (no_view c.args._id rows tests locations
          c.args.index found (λ a b d. omega (arith, a, w.if-index-rows.false)))
    ]
