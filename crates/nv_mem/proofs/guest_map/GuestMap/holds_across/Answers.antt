use Rattle.std.proofs.Common.{◌≡◌, ℕ, ◌+◌, ◌^◌, ◌≤◌, None, arith, subst, sym}
use Rattle.nv_mem.specs.GuestMap.{host_of}
use Rattle.nv_mem.specs.MapRuns.{AllMapped, IsContiguous}
use Rattle.nv_mem.proofs.Counts.{all_mapped-true, covered_of-all, covered_of-le}
use Rattle.nv_mem.proofs.Images.{host_of-high}
use Rattle.nv_mem.proofs.MappedRuns.{AllMapped-more, all_mapped-gap}
use Rattle.nv_mem.proofs.guest_map.GuestMap.holds_across.Goals as goal

-- no more is covered than is asked for
pub covered-requires : goal.covered-requires
covered-requires c =
    rw c.deref.ensures.value (covered_of-le c.self.inside.regions.items c.args.addr c.args.len c.self.invariant.sound.apart)

-- as much is covered exactly where all is mapped
pub returns-then-len-gt-RANKS : goal.returns-then-len-gt-RANKS
returns-then-len-gt-RANKS c =
    rw (c.covered.ensures, c.deref.ensures.value, ← c.self.view_is)
    (covered_of-all c.self.inside.regions.items c.args.addr c.args.len c.self.invariant.sound.apart)

-- no address from 2 to the 64 on is mapped
pub returns-in_default : goal.returns-in_default
returns-in_default c =
    let high : 2 ^ 64 ≤ c.args.addr + c.loop-done.done = omega arith in
    let none : host_of c.args.self.now.regions (c.args.addr + c.loop-done.done) ≡ None =
    rw (← c.self.view_is) (host_of-high c.self.inside.host_len c.self.inside.regions.items (c.args.addr + c.loop-done.done) c.self.invariant.sound.inside high) in
    sym (all_mapped-gap c.args.self.now.regions c.args.addr c.args.len c.loop-done.done c.loop-done-test.true none)

-- what is found in no region is a gap
pub returns-in_default-locate_at : goal.returns-in_default-locate_at
returns-in_default-locate_at c =
    let P : ℕ → Type 0 = λ at. host_of c.args.self.now.regions at ≡ None in
    sym (all_mapped-gap c.args.self.now.regions c.args.addr c.args.len c.loop-done.done c.loop-done-test.true (subst P c.in-Some.ensures.1 c.in_default-locate_at.ensures))

-- what is found in a region goes on where the mapped ones ended
pub loop-done-preserved : goal.loop-done-preserved
loop-done-preserved c =
    let rs = c.args.self.now.regions in
    let stretch = c.in-Some-locate_at.stretch in
    let P : ℕ → Type 0 = λ at. IsContiguous rs at stretch.host stretch.left in
    let run = subst P c.in-Some.ensures.1 c.in-Some-locate_at.ensures in
    record {
      mapped = AllMapped-more rs c.args.addr c.loop-done.done stretch.host stretch.left c.min-done.result c.loop-done.invariant.mapped run (omega arith);
      within = omega arith;
    }

-- all of them were found
pub returns : goal.returns
returns c =
    let P : ℕ → Type 0 = λ n. AllMapped c.args.self.now.regions c.args.addr n in
    let whole : c.loop-done.done ≡ c.args.len = omega arith in
    sym (all_mapped-true c.args.self.now.regions c.args.addr c.args.len (subst P whole c.loop-done.invariant.mapped))
