use denote.Ref.{Bor}
use Rattle.std.proofs.Common.{◌≤◌, ℕ, List, false, length, map, sym, ap, subst, ◌∙◌, arith}
use Rattle.std.specs.Prelude.{Option, option_map}
use Rattle.std.proofs.lemmas.List.{length-map, map-append}
use Rattle.plain_machine.specs.Values.{value_as, state_as}
use Rattle.plain_runs.specs.Runs.{ValuesOf}
use Rattle.plain_runs.proofs.Listing.{over_all}
use Rattle.plain_runs.specs.declared.free.FreeRun as code
use Rattle.plain_runs.specs.Frees.{free_run_as, with_first, IsFreeRunWith}
use Rattle.plain_runs.proofs.Freeing.{with_listed, loading_more, at_load, at_other, at_branch, at_label, at_passed}
use Rattle.plain_runs.proofs.free.+free.Goals as goal

pub free_runs_with-returns : goal.free_runs_with-returns
free_runs_with-returns t c =
    let V = ValuesOf c.args.values.now in
    let i = c.args.instruction.now in
    let s = state_as c.args.state.now in
    let v = value_as c.args.loaded.now in
    with_listed V c.args.lines.now i s c.args.taken v _ _ (map free_run_as c.in_ok-rest.rest.items)
    (map free_run_as c.in_ok-longer.longer.items)
    c.target-seeking.ensures
    c.state_after-next.ensures c.in_ok-rest.ensures
    (c.in_ok-longer.ensures
    ∙ ap (λ (l : List code.FreeRun). map (with_first c.args.taken (record { instruction = i; before = s; loaded = v })) (map free_run_as l))
    c.deref.ensures.value)

pub free_runs_loading-loop-value-preserved : goal.free_runs_loading-loop-value-preserved
free_runs_loading-loop-value-preserved t c =
    loading_more (ValuesOf c.args.values.now) c.args.lines.now c.args.instruction.now (state_as c.args.state.now) c.args.values.now
    c.loop-value.value-index _ (map free_run_as c.loop-value.runs.items)
    (map free_run_as c.in_ok-more.more.items) (map free_run_as c.append.new.self.items) (omega arith)
    c.requires c.loop-value.invariant c.in_ok-more.ensures (ap (λ (l : List code.FreeRun). map free_run_as l) c.in_ok-append.ensures.items
    ∙ map-append free_run_as c.loop-value.runs.items c.in_ok-more.more.items)

pub free_runs_loading-returns : goal.free_runs_loading-returns
free_runs_loading-returns t c =
    let V = ValuesOf c.args.values.now in
    let vs = c.args.values.now in
    let le : length vs ≤ c.loop-value.value-index = omega arith in
    over_all (IsFreeRunWith V c.args.lines.now c.args.instruction.now (state_as c.args.state.now) false) (map value_as vs)
    c.loop-value.value-index (map free_run_as c.loop-value.runs.items)
    (subst (λ (n : ℕ). n ≤ c.loop-value.value-index) (sym (length-map vs value_as)) le)
    c.loop-value.invariant

pub free_runs_branching-returns : goal.free_runs_branching-returns
free_runs_branching-returns t c =
    at_branch (ValuesOf c.args.values.now) c.args.lines.now c.args.instruction.now
    (state_as c.args.state.now) c.requires.branch (map free_run_as c.in_ok-runs.runs.items)
    (map free_run_as c.in_ok-more.more.items) (map free_run_as c.append.new.self.items)
    c.in_ok-runs.ensures c.in_ok-more.ensures
    (ap (λ (l : List code.FreeRun). map free_run_as l) c.in_ok-append.ensures.items
    ∙ map-append free_run_as c.in_ok-runs.runs.items c.in_ok-more.more.items)

pub free_runs_at-returns-then-is_load : goal.free_runs_at-returns-then-is_load
free_runs_at-returns-then-is_load t c =
    at_load (ValuesOf c.args.values.now) c.args.lines.now c.args.instruction.now
    (state_as c.args.state.now) (map free_run_as c.in_ok-loading.loading.items)
    (sym c.is_branch.ensures ∙ c.if-is_branch.false) (sym c.is_load.ensures ∙ c.if-is_load.true)
    c.in_ok-loading.ensures

pub free_runs_at-returns : goal.free_runs_at-returns
free_runs_at-returns t c =
    at_other (ValuesOf c.args.values.now) c.args.lines.now c.args.instruction.now
    (state_as c.args.state.now) (map free_run_as c.in_ok-others.others.items)
    (sym c.is_branch.ensures ∙ c.if-is_branch.false) (sym c.is_load.ensures ∙ c.if-is_load.false)
    c.in_ok-others.ensures

pub free_runs_at_line-returns-in_ok-labelled-in-Label : goal.free_runs_at_line-returns-in_ok-labelled-in-Label
free_runs_at_line-returns-in_ok-labelled-in-Label t c =
    at_label (ValuesOf c.args.values.now) c.args.lines.now c.args.line.now c.in-Label.label
    (option_map (λ (l : Bor (List ℕ)). l.now) c.args.seeking)
    (option_map (λ (l : Bor (List ℕ)). l.now) c.label_behind-behind.result)
    (state_as c.args.state.now) (map free_run_as c.in_ok-labelled-in-Label.labelled.items) c.in-Label.is
    c.label_behind-behind.ensures c.in_ok-labelled-in-Label.ensures

pub free_runs_at_line-returns-in_ok-passed-in-Some : goal.free_runs_at_line-returns-in_ok-passed-in-Some
free_runs_at_line-returns-in_ok-passed-in-Some t c =
    at_passed (ValuesOf c.args.values.now) c.args.lines.now c.args.line.now
    c.in-Instruction.instruction (option_map (λ (l : Bor (List ℕ)). l.now) c.args.seeking)
    c.in-Some.label.now (state_as c.args.state.now) (map free_run_as c.in_ok-passed-in-Some.passed.items)
    c.in-Instruction.is (ap (λ (o : Option (Bor (List ℕ))). option_map (λ (l : Bor (List ℕ)). l.now) o) c.in-Some.is)
    c.in_ok-passed-in-Some.ensures
