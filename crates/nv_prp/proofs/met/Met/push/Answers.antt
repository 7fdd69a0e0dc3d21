use Rattle.std.proofs.Common.{◌≡◌, ◌<◌, length, take, arith, ap, length-take}
use Rattle.nv_prp.specs.Met.{Met}
use Rattle.nv_prp.proofs.Entries.{IsFilled-push}
use Rattle.nv_prp.proofs.met.Met.push.Goals as goal

pub invariant_of-self : goal.invariant_of-self
invariant_of-self c =
    let same : length (take c.self.inside.used c.self.inside.list) ≡ length c.args.self.now.entries = ap (λ (m : Met). length m.entries) c.self.view_is in
    let count = length-take c.self.inside.used c.self.inside.list in
    let all = c.self.told in
    let room : c.self.inside.used < 32 = omega arith in
    IsFilled-push c.self.inside.used c.self.inside.list c.args.entry c.self.invariant room
