use Rattle.std.proofs.Common.{ℕ, ◌≡◌, ◌∙◌, ◌+◌, List, [], ◌∷◌, ◌++◌, ap, arith, sym, subst, take}
use Rattle.std.specs.List.{All}
use Rattle.std.proofs.lemmas.List.{append-nil, take_all}
use Rattle.std.proofs.lemmas.List.Elements.{All-push}
use Rattle.predefined_names.specs.declared.predefined.Predefined.{Predefined}
use Rattle.why_labels.specs.declared.label.PredefinedValue.{PredefinedValue}
use Rattle.why_forbidden.specs.Language.{IsOfLanguage, valued_names, relation_names}
use Rattle.why_forbidden.proofs.Listing.{adds, adds_none, named}
use Rattle.why_forbidden.proofs.labels.relation_values.Goals as goal
use Rattle.why_forbidden.proofs.labels.relation_values.Goals.{then-not-is_set+in_ok-predefined_value+in_ok-push, else-not-is_set}

pub loop-index-preserved : goal.loop-index-preserved
loop-index-preserved c =
    let names : List Predefined = c.args.names.now in
    let i : ℕ = c.loop-index.index in
    let values : List PredefinedValue = c.loop-index.values.items in
    let P = IsOfLanguage c.args.space.now in
    let Goal : List PredefinedValue → Type 0 = λ xs. All P xs × (valued_names xs ≡ relation_names (take (i + 1) names)) in
    elim c.if-not-is_set.branch [
      | then-not-is_set+in_ok-predefined_value+in_ok-push w ↦
          let v = w.in_ok-predefined_value.field-0 in
          let here = adds _ v (sym c.is_set.ensures ∙ w.if-not-is_set.true) w.in_ok-predefined_value.ensures.name in
          let more = All-push P values v c.loop-index.invariant.0 w.in_ok-predefined_value.ensures.value in
          let all = named names i _ values (v ∷ []) (omega arith) here c.loop-index.invariant.1 in
          subst Goal (sym (ap (λ v. v.items) w.values-is ∙ w.in_ok-push.ensures.items)) (more, all)
      | else-not-is_set w ↦
          let here = adds_none _ (sym c.is_set.ensures ∙ w.if-not-is_set.false) in
          let all = named names i _ values [] (omega arith) here c.loop-index.invariant.1 in
          let same : values ++ [] ≡ values = append-nil values in
          subst Goal (sym (ap (λ v. v.items) w.values-is)) (
            c.loop-index.invariant.0,
            subst
                (λ (xs : List PredefinedValue). valued_names xs
                ≡ relation_names (take (i + 1) names)) same all,
          )
    ]

pub returns-clause-all : goal.returns-clause-all
returns-clause-all c =
    let whole : take c.loop-index.index c.args.names.now ≡ c.args.names.now = take_all c.loop-index.index c.args.names.now (omega arith) in
    c.loop-index.invariant.1 ∙ ap relation_names whole
