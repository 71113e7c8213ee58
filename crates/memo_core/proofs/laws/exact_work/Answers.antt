use Rattle.memo_core.proofs.Exact.{exact_laws}
use Rattle.memo_core.proofs.laws.exact_work.Goals as goal

pub returns : goal.returns
returns g c =
    let t = g.T.Texts in
    let laws = g.met.T.Texts in
    let all = exact_laws (record { net = t.net; is_valid = t.is_valid; since = t.since; makes = t.makes; keeps = t.keeps; edited = t.edited; last = t.last })
    (record {
      valid_edited = λ x u e k v h. laws.valid_edited x u e k v h;
      since_same = λ x v. laws.since_same x v;
      since_edited = λ x u w e k s h. laws.since_edited x u w e k s h;
      given_stays = λ x u m given v s i p h. laws.given_stays x u m given v s i p h;
    }) t.rank (record {
      falls = λ x v. laws.falls x v;
      used_closed = λ x v. laws.used_closed x v;
    }) in
    record { lowers = all.0; bounded = all.1; kept = all.2; decided = all.3; quiet = all.4 }
