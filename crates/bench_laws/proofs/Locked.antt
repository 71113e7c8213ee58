-- What holds of a bench behind a lock, by what holds of a bench at all times.
use Rattle.std.proofs.Common.{◌+◌, ◌≤◌, ap, ◌∙◌}
use Rattle.std.specs.List.{AllByRecursion as Each}
use Rattle.memo_core.specs.Graph.{at, stored_output}
use Rattle.memo_core.specs.Right.{IsRightMemo}
use Rattle.memo_core.specs.Run.{counting_on, state_in}
use Rattle.memo_core.proofs.Exact.{AreApart}
use Rattle.memo_core.proofs.Headline.{untouched_edit, kept_memo}
use Rattle.cells.specs.CellLaws.{RightIsFromScratch}
use Rattle.cells.specs.Views.{IsRightBench}
use Rattle.bench_nodes.specs.Nodes.{rank}
use Rattle.bench_instance.specs.Lemmas.CellProofs.{all_needed}
use Rattle.bench_instance.specs.Lemmas.LeftCells.{cells_left}
use Rattle.bench_laws.specs.Live.{live_meaning, live_cells}
use Rattle.bench_laws.specs.There.{LiveState, HasJustItsCells, ShowsRight}
use Rattle.bench_laws.specs.Stamps.{AreLow}
use Rattle.bench_laws.specs.Locked.{HoldsOfRight, EditsKeepUnreached, GivesNeeded, HasNoneOutTwice, HasLowMemos, AcceptsJobs, BoundsGiven, GivesOnce, GivesReached, BoundsReached}
use Rattle.bench_laws.proofs.Runs.{kept, has_ranks}
use Rattle.bench_laws.proofs.There.{has_just_its_cells, shows_right}
use Rattle.bench_laws.proofs.Ready.{each_on}
use Rattle.bench_laws.proofs.Jobs.{accepted_from}
use Rattle.bench_laws.proofs.Given.{bounded_from}
use Rattle.bench_laws.proofs.Once.{given_open, once_given}
use Rattle.bench_laws.proofs.OnlyReached.{reached_given, reached_bounded}

apart : (b : LiveState) → IsRightBench live_meaning b → AreApart (state_in live_meaning b)
apart b right = record { fresh = right.fresh; numbered = right.numbered }

pub just_its_cells : HoldsOfRight HasJustItsCells
just_its_cells b right = has_just_its_cells b right.valid

pub shown_right : RightIsFromScratch live_meaning live_cells → HoldsOfRight ShowsRight
shown_right scratch b right =
    shows_right b right.valid (λ test model o is. scratch b right test model o is)

pub unreached_kept : HoldsOfRight EditsKeepUnreached
unreached_kept old right new e test model o step left cell =
    let means = live_meaning in
    let stays = cells_left old.texts new.texts e (old.taken + 1) test model right.valid step.0 left cell.verdict cell.is in
    let same = kept_memo (means.keeps new.texts) (state_in means old) (state_in means new) cell.verdict step.1 ((stays.1 1).1) in
    record {
      verdict = cell.verdict;
      is = stays.0;
      settled =
          untouched_edit (means.keeps new.texts) (state_in means old) (state_in means new)
          cell.verdict step.1 stays.1 cell.settled;
      carries =
          record {
            stamp = cell.carries.stamp;
            value = cell.carries.value;
            first = ap (stored_output 0) same ∙ cell.carries.first;
            holds = cell.carries.holds;
          };
    }

pub needed_given : HoldsOfRight GivesNeeded
needed_given old right new number n given keys values step =
    let work = (step.1).work in
    record {
      needed = all_needed old.texts right.valid n work.used;
      work = work;
      unsettled = given_open live_meaning old new number n given keys values step;
    }

pub none_out_twice : HoldsOfRight HasNoneOutTwice
none_out_twice b right = right.fresh

pub low_memos : HoldsOfRight HasLowMemos
low_memos b right =
    let memo = IsRightMemo (counting_on live_meaning b.texts) (at b.memos) b.taken in
    record {
      parts = right.right.parts;
      inputs = each_on memo (λ m. AreLow b.taken m.inputs) (λ m h. h.low) b.memos right.right.each;
      outputs =
          each_on memo (λ m. Each (λ o. o.stamp ≤ b.taken) m.outputs) (λ m h. h.stamps) b.memos
          right.right.each;
      numbers = right.numbered;
    }

pub jobs_taken : HoldsOfRight AcceptsJobs
jobs_taken old right later start end new number n given keys values r answer claimed more jobs out
    task step =
    accepted_from live_meaning later old start end new number n given keys values r answer
    (apart old right) claimed more jobs out task step

pub given_few : HoldsOfRight BoundsGiven
given_few start right events end settled more jobs decides =
    bounded_from live_meaning kept (λ t. rank t.parts.table) has_ranks events start end settled
    right.valid (apart start right) more jobs decides

pub nodes_once : HoldsOfRight GivesOnce
nodes_once old right later start mid end number other n m given more keys others values rest claimed
    run jobs kept again =
    once_given live_meaning later old start mid end number other n m given more keys others values
    rest (apart old right) claimed run jobs kept again

pub only_reached : HoldsOfRight GivesReached
only_reached old right later start mid end e number n given keys values test model step more jobs
    claim cell under =
    reached_given old start e right.valid (apart old right) step later mid end number n given keys
    values test model more jobs claim cell under

pub reached_few : HoldsOfRight BoundsReached
reached_few old right events start end e is_open step under more jobs =
    reached_bounded old start end e events is_open right.valid (apart old right) step under more
    jobs
