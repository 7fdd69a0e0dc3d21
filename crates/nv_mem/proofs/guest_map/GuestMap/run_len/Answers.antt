use Rattle.std.proofs.Common.{◌≡◌, ℕ, ◌+◌, ◌^◌, ◌≤◌, None, arith, subst, sym}
use Rattle.nv_mem.specs.GuestMap.{Mapping, host_of}
use Rattle.nv_mem.specs.MapRuns.{IsContiguous}
use Rattle.nv_mem.proofs.Images.{IsContiguous-append, IsContiguous-inside, host_of-high}
use Rattle.nv_mem.proofs.guest_map.GuestMap.run_len.Goals as goal

-- the run so far ends inside the host
pub overflow_add-host : goal.overflow_add-host
overflow_add-host c =
    let run : IsContiguous c.self.inside.regions.items c.args.addr c.args.host c.loop-n.n =
    let P : Mapping → Type 0 = λ m. IsContiguous m.regions c.args.addr c.args.host c.loop-n.n in
    subst P (sym c.self.view_is) c.loop-n.invariant.run in
    let inside = IsContiguous-inside c.self.inside.host_len c.self.inside.regions.items c.args.addr c.args.host c.loop-n.n c.self.invariant.sound.inside run in
    omega (arith, inside)

-- what comes next goes on where the run ended
pub loop-n-preserved : goal.loop-n-preserved
loop-n-preserved c =
    let rs = c.args.self.now.regions in
    let P : ℕ → Type 0 = λ at. IsContiguous rs at (c.args.host + c.loop-n.n) c.in-Some-next.more.left in
    let more = subst P c.in-Some.ensures.1 c.in-Some-next.ensures in
    record {
      run = IsContiguous-append rs c.args.addr c.args.host c.loop-n.n c.in-Some-next.more.left c.min-n.result c.loop-n.invariant.run more (omega arith);
      within = omega arith;
    }

-- no address from 2 to the 64 on is mapped
pub returns-in_default : goal.returns-in_default
returns-in_default c =
    let high : 2 ^ 64 ≤ c.args.addr + c.loop-n.n = omega arith in
    let none : host_of c.args.self.now.regions (c.args.addr + c.loop-n.n) ≡ None =
    rw (← c.self.view_is) (host_of-high c.self.inside.host_len c.self.inside.regions.items (c.args.addr + c.loop-n.n) c.self.invariant.sound.inside high) in
    record { run = c.loop-n.invariant.run; within = c.loop-n.invariant.within; longest = λ below is. cc }
