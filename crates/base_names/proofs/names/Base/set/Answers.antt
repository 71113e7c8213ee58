use Rattle.base_names.proofs.names.Base.set.Goals as goal

pub returns-clause-meant : goal.returns-clause-meant
returns-clause-meant c = λ k entered held. record {
  count = c.set_named.ensures.count;
  within = c.set_named.ensures.within;
  members =
      λ a. (
        (λ h. (entered.sets _ held a).0 ((c.set_named.ensures.members a).0 h)),
        (λ h. (c.set_named.ensures.members a).1 ((entered.sets _ held a).1 h)),
      );
}
