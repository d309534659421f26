use Rattle.opa_mean.proofs.kinds.Membership.{memberships_count_holds}
use Rattle.opa_mean.proofs.kinds.laws.memberships_count.Goals as goal

pub returns : goal.returns
returns c = memberships_count_holds (record {
  for_all = c.members_count.ensures.for_all;
  exists = c.members_count.ensures.exists;
  count = c.members_count.ensures.count;
  count_if = c.members_count.ensures.count_if;
  sum = c.members_count.ensures.sum;
  sum_if = c.members_count.ensures.sum_if;
})
