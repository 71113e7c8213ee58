use Rattle.base_names.proofs.Linking.{with_pairs}
use Rattle.base_names.proofs.Meant.{relation_meant}
use Rattle.base_names.proofs.names.Base.write_relation.Goals as goal

pub returns-clause-meant : goal.returns-clause-meant
returns-clause-meant c =
    λ k reads_from coherence entered reading ordered given. with_pairs c.write_named.ensures
    (relation_meant c.args.self.now k reads_from coherence c.count.ensures.known entered reading ordered
    c.args.name given)
