use Rattle.std.proofs.Common.{◌+◌, ◌-◌, ◌<◌, ◌≤◌, ◌^◌, ◌&&◌, Bool, ◌++◌, Some, arith, sym, ap, ◌∙◌}
use Rattle.nv_mem.specs.Places.{addresses}
use Rattle.nv_prp.specs.Fits.{fit_behind, hosts_of}
use Rattle.nv_mem.proofs.MappedRuns.{mapped-below, mapped-none, run-inside}
use Rattle.nv_prp.proofs.HostRuns.{fit_behind-run, hosts_of-none}
use Rattle.nv_prp.proofs.fitting.run_fits.Goals as goal

pub overflow_add-addr : goal.overflow_add-addr
overflow_add-addr c =
    let below : c.args.addr + c.loop-done.done < 2 ^ 64 =
    mapped-below c.args.map.now c.args.addr c.args.len c.loop-done.done c.host_len-known.ensures.sound c.requires c.loop-done-test.true in
    omega arith

pub returns-in_default : goal.returns-in_default
returns-in_default c =
    absurd (mapped-none c.args.map.now.regions c.args.addr c.args.len c.loop-done.done c.requires c.loop-done-test.true c.in_default.ensures)

pub returns-then-not-may_follow : goal.returns-then-not-may_follow
returns-then-not-may_follow c = λ rest.
    c.loop-done.invariant.fits rest
    ∙ fit_behind-run c.args.map.now.regions c.loop-done.end c.args.addr c.args.len c.loop-done.done c.in-Some.host c.in-Some.n rest c.loop-done-test.true c.in-Some.ensures
    ∙ ap
    (λ (b : Bool).
    b
    && fit_behind
    (Some (c.in-Some.host + c.in-Some.n))
    (hosts_of c.args.map.now.regions (addresses (c.args.addr + (c.loop-done.done + c.in-Some.n)) (c.args.len - (c.loop-done.done + c.in-Some.n))) ++ rest))
    (sym c.may_follow.ensures ∙ c.if-not-may_follow.true)

pub overflow_add-end : goal.overflow_add-end
overflow_add-end c =
    let inside : c.in-Some.host + c.in-Some.n ≤ c.args.map.now.host_len =
    run-inside c.args.map.now (c.args.addr + c.loop-done.done) (c.args.len - c.loop-done.done) c.in-Some.host c.in-Some.n c.host_len-known.ensures.sound c.in-Some.ensures in
    let is = c.host_len-known.ensures.value in
    omega arith

pub loop-done-preserved : goal.loop-done-preserved
loop-done-preserved c = record {
  within = let within = c.in-Some.ensures.within in let below = c.loop-done-test.true in omega arith;
  fits = λ rest.
      c.loop-done.invariant.fits rest
      ∙ fit_behind-run c.args.map.now.regions c.loop-done.end c.args.addr c.args.len c.loop-done.done c.in-Some.host c.in-Some.n rest c.loop-done-test.true c.in-Some.ensures
      ∙ ap
      (λ (b : Bool).
      b
      && fit_behind
      (Some (c.in-Some.host + c.in-Some.n))
      (hosts_of c.args.map.now.regions (addresses (c.args.addr + (c.loop-done.done + c.in-Some.n)) (c.args.len - (c.loop-done.done + c.in-Some.n))) ++ rest))
      (sym c.may_follow.ensures ∙ c.if-not-may_follow.false);
}

pub returns : goal.returns
returns c = λ rest.
    c.loop-done.invariant.fits rest
    ∙ ap (fit_behind c.loop-done.end)
    (hosts_of-none c.args.map.now.regions (c.args.addr + c.loop-done.done) (c.args.len - c.loop-done.done) rest (let over = c.loop-done-test.false in omega arith))
