use Rattle.std.proofs.Common.{Vec, ℕ, ◌≡◌, List, Contains, true, false, sym, subst}
use Rattle.std.specs.List.{AllZip}
use Rattle.std.specs.declared.alloc.Global.{Global}
use Rattle.text_values.specs.ModelValues.{clauses_of}
use Rattle.text_values.specs.TestValue.{content_of}
use Rattle.meaning.specs.Outcome.{IsStateBefore, AreFlags, is_met}
use Rattle.meanings_exist.specs.Sorted.{IsInOrder}
use Rattle.plain_machine.specs.declared.value.Value.{Value}
use Rattle.plain_runs.specs.Locations.{names_as}
use Rattle.plain_ends.specs.declared.ending.End.{End}
use Rattle.plain_outcomes.specs.States.{states_as, ends_as, AreGood, HaveCount, IsCountedOf}
use Rattle.plain_outcomes.proofs.Saying.{ends_are_good, positive, negative, states, raised}
use Rattle.plain_outcomes.proofs.evaluation.evaluation_of.Goals as goal

pub sorted_states-requires : goal.sorted_states-requires
sorted_states-requires c =
    subst (λ (es : List End). AreGood (ends_as es)) (sym c.deref.ensures.value)
    (ends_are_good (content_of c.args.test.now) (clauses_of c.args.items.now) c.in_ok-kept.kept
    c.in_ok-kept.ensures c.test_is_of_words.ensures)

pub returns : goal.returns
returns c =
    let t = content_of c.args.test.now in
    let items = clauses_of c.args.items.now in
    let k = c.in_ok-kept.kept in
    let sorted = c.in_ok-sorted.sorted.items in
    let counted = c.in_ok-states.states.items in
    record {
      states = states t items k c.in_ok-kept.ensures (states_as sorted) counted
          (subst (λ (es : List End). IsInOrder IsStateBefore (ends_as es) (states_as sorted)) c.deref.ensures.value c.in_ok-sorted.ensures)
          (subst (λ (es : List End). AllZip (IsCountedOf es) (states_as sorted) counted) c.deref-2.ensures.value
          (subst (λ (vs : List (Vec Value Global)). AllZip (IsCountedOf c.deref-2.result.now) (states_as vs) counted) c.deref-3.ensures.value c.in_ok-states.ensures));
      positive = positive t items k c.in_ok-kept.ensures c.count_holding-positive.result
          (subst (λ (es : List End). HaveCount (λ (e : End). e.holds ≡ true) es c.count_holding-positive.result) c.deref-5.ensures.value c.count_holding-positive.ensures);
      negative = negative t items k c.in_ok-kept.ensures c.count_holding-negative.result
          (subst (λ (es : List End). HaveCount (λ (e : End). e.holds ≡ false) es c.count_holding-negative.result) c.deref-6.ensures.value c.count_holding-negative.ensures);
      observation = c.observation_of.ensures;
      ok = c.is_met.ensures;
      flags = raised t items k c.in_ok-kept.ensures (names_as c.in_ok-flags.flags.items)
          (subst (λ (is : List ℕ). AreFlags (λ i. Contains is i) items (names_as c.in_ok-flags.flags.items)) c.deref-4.ensures.value c.in_ok-flags.ensures);
    }
