use Rattle.std.proofs.Common.{sym}
use Rattle.nv_mem.proofs.Counts.{AllMapped-told, all_mapped-true}
use Rattle.nv_mem.proofs.MappedRuns.{AllMapped-run}
use Rattle.nv_mem.proofs.guest_map.GuestMap.holds.Goals as goal

-- all is mapped that the first region has
pub returns-in-Some-clause-value : goal.returns-in-Some-clause-value
returns-in-Some-clause-value c =
    sym (all_mapped-true c.args.self.now.regions c.args.addr c.args.len
    (AllMapped-run c.args.self.now.regions c.args.addr c.in-Some.start.host c.in-Some.start.left c.args.len c.in-Some.ensures c.if-len-start.true))

pub returns-in-Some-clause-all_mapped : goal.returns-in-Some-clause-all_mapped
returns-in-Some-clause-all_mapped c = AllMapped-told c.args.self.now.regions c.args.addr c.args.len _ (returns-in-Some-clause-value c)

pub returns-in_default-clause-all_mapped : goal.returns-in_default-clause-all_mapped
returns-in_default-clause-all_mapped c = AllMapped-told c.args.self.now.regions c.args.addr c.args.len _ c.holds_elsewhere.ensures
