use denote.Ref.{Bor}
use Rattle.std.proofs.Common.{◌≤◌, ℕ, List, Bool, length, map, sym, ap, subst, ◌∙◌, arith}
use Rattle.std.specs.Prelude.{Option, option_map}
use Rattle.std.proofs.lemmas.List.{length-map, map-append}
use Rattle.meaning.specs.Machine.{is_taken_in, target}
use Rattle.meaning.specs.Runs.{with_instance}
use Rattle.plain_runs.specs.declared.run.Run as code
use Rattle.plain_machine.specs.Values.{value_as, state_as}
use Rattle.plain_runs.specs.Runs.{run_as, ValuesOf, IsRunWith}
use Rattle.plain_runs.proofs.Listing.{over_all}
use Rattle.plain_runs.proofs.Running.{with_listed, loading_more, at_load, at_other, at_label, at_passed}
use Rattle.plain_runs.proofs.run.+runs.Goals as goal

pub runs_with-returns : goal.runs_with-returns
runs_with-returns t c =
    let V = ValuesOf c.args.values.now in
    let i = c.args.instruction.now in
    let s = state_as c.args.state.now in
    let v = value_as c.args.loaded.now in
    with_listed V c.args.lines.now i (is_taken_in s i) s v _ _ (map run_as c.in_ok-rest.rest.items)
    (map run_as c.in_ok-longer.longer.items)
    (c.target-seeking.ensures ∙ ap (λ (b : Bool). target i b) c.is_taken_in.ensures)
    c.state_after-next.ensures c.in_ok-rest.ensures
    (c.in_ok-longer.ensures
    ∙ ap (λ (l : List code.Run). map (with_instance (record { instruction = i; before = s; loaded = v })) (map run_as l))
    c.deref.ensures.value)

pub runs_loading-loop-value-preserved : goal.runs_loading-loop-value-preserved
runs_loading-loop-value-preserved t c =
    let i = c.args.instruction.now in
    let s = state_as c.args.state.now in
    loading_more (ValuesOf c.args.values.now) c.args.lines.now i (is_taken_in s i) s c.args.values.now
    c.loop-value.value-index _ (map run_as c.loop-value.runs.items)
    (map run_as c.in_ok-more.more.items) (map run_as c.append.new.self.items) (omega arith)
    c.requires c.loop-value.invariant c.in_ok-more.ensures (ap (λ (l : List code.Run). map run_as l) c.in_ok-append.ensures.items
    ∙ map-append run_as c.loop-value.runs.items c.in_ok-more.more.items)

pub runs_loading-returns : goal.runs_loading-returns
runs_loading-returns t c =
    let V = ValuesOf c.args.values.now in
    let vs = c.args.values.now in
    let i = c.args.instruction.now in
    let s = state_as c.args.state.now in
    let le : length vs ≤ c.loop-value.value-index = omega arith in
    over_all (IsRunWith V c.args.lines.now i (is_taken_in s i) s) (map value_as vs)
    c.loop-value.value-index (map run_as c.loop-value.runs.items)
    (subst (λ (n : ℕ). n ≤ c.loop-value.value-index) (sym (length-map vs value_as)) le)
    c.loop-value.invariant

pub runs_at-returns-then-is_load : goal.runs_at-returns-then-is_load
runs_at-returns-then-is_load t c =
    at_load (ValuesOf c.args.values.now) c.args.lines.now c.args.instruction.now
    (state_as c.args.state.now) (map run_as c.in_ok-loading.loading.items)
    (sym c.is_fault.ensures ∙ c.if-is_fault.false) (sym c.is_load.ensures ∙ c.if-is_load.true)
    c.in_ok-loading.ensures

pub runs_at-returns : goal.runs_at-returns
runs_at-returns t c =
    at_other (ValuesOf c.args.values.now) c.args.lines.now c.args.instruction.now
    (state_as c.args.state.now) (map run_as c.in_ok-others.others.items)
    (sym c.is_fault.ensures ∙ c.if-is_fault.false) (sym c.is_load.ensures ∙ c.if-is_load.false)
    c.in_ok-others.ensures

pub runs_at_line-returns-in_ok-labelled-in-Label : goal.runs_at_line-returns-in_ok-labelled-in-Label
runs_at_line-returns-in_ok-labelled-in-Label t c =
    at_label (ValuesOf c.args.values.now) c.args.lines.now c.args.line.now c.in-Label.label
    (option_map (λ (l : Bor (List ℕ)). l.now) c.args.seeking)
    (option_map (λ (l : Bor (List ℕ)). l.now) c.label_behind-behind.result)
    (state_as c.args.state.now) (map run_as c.in_ok-labelled-in-Label.labelled.items) c.in-Label.is
    c.label_behind-behind.ensures c.in_ok-labelled-in-Label.ensures

pub runs_at_line-returns-in_ok-passed-in-Some : goal.runs_at_line-returns-in_ok-passed-in-Some
runs_at_line-returns-in_ok-passed-in-Some t c =
    at_passed (ValuesOf c.args.values.now) c.args.lines.now c.args.line.now
    c.in-Instruction.instruction (option_map (λ (l : Bor (List ℕ)). l.now) c.args.seeking)
    c.in-Some.label.now (state_as c.args.state.now) (map run_as c.in_ok-passed-in-Some.passed.items)
    c.in-Instruction.is (ap (λ (o : Option (Bor (List ℕ))). option_map (λ (l : Bor (List ℕ)). l.now) o) c.in-Some.is)
    c.in_ok-passed-in-Some.ensures
