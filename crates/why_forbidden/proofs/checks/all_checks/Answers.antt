use Rattle.std.proofs.Common.{ℕ, ◌+◌, ◌≡◌, subst, sym, arith, ap, ◌∙◌, List, [], ◌∷◌, ◌++◌, length, take, refl}
use Rattle.std.specs.List.{All}
use Rattle.std.proofs.lemmas.List.{append-nil, take_all}
use Rattle.std.proofs.lemmas.List.Elements.{All-push}
use Rattle.std.proofs.lemmas.Option.{slice_get_read}
use Rattle.why_forbidden.specs.declared.checks.CheckValues.{CheckValues}
use Rattle.why_forbidden.specs.Checked.{IsChecked, check_indexes, checked_items}
use Rattle.why_forbidden.proofs.Listing.{listed}
use Rattle.why_forbidden.proofs.checks.all_checks.Goals as goal
use Rattle.why_forbidden.proofs.checks.all_checks.Goals.{in-Some+in_ok-push, in_default}

pub loop-index-preserved : goal.loop-index-preserved
loop-index-preserved c =
    let items = c.args.items.now in
    let i : ℕ = c.loop-index.index in
    let checks : List CheckValues = c.loop-index.checks.items in
    let P = IsChecked c.args.space.now c.args.columns.now items in
    let at = slice_get_read items (length items) i c.index-items-index.result refl (omega arith) c.index-items-index.is in
    let Goal : List CheckValues → Type 0 = λ xs. All P xs × (checked_items xs ≡ check_indexes 0 (take (i + 1) items)) in
    elim c.match-branch-2.branch [
      | in-Some+in_ok-push w ↦
          let one = rw w.in-Some.is at c.in_ok-check.ensures.checked in
          let here = rw w.in-Some.is at c.in_ok-check.ensures.all in
          let more = All-push P checks w.in-Some.check c.loop-index.invariant.0 (one items at) in
          let all = listed items i c.index-items-index.result checks (w.in-Some.check ∷ []) (omega arith) c.index-items-index.is here c.loop-index.invariant.1 in
          subst Goal (sym (ap (λ v. v.items) w.checks-is ∙ w.in_ok-push.ensures.items)) (more, all)
      | in_default w ↦
          let here = rw w.in_default.is at c.in_ok-check.ensures.all in
          let all = listed items i c.index-items-index.result checks [] (omega arith) c.index-items-index.is here c.loop-index.invariant.1 in
          let same : checks ++ [] ≡ checks = append-nil checks in
          subst Goal (sym (ap (λ v. v.items) w.checks-is)) (
            c.loop-index.invariant.0,
            subst
                (λ (xs : List CheckValues). checked_items xs
                ≡ check_indexes 0 (take (i + 1) items)) same all,
          )
    ]

pub returns-clause-all : goal.returns-clause-all
returns-clause-all c =
    let whole : take c.loop-index.index c.args.items.now ≡ c.args.items.now = take_all c.loop-index.index c.args.items.now (omega arith) in
    c.loop-index.invariant.1 ∙ ap (check_indexes 0) whole
