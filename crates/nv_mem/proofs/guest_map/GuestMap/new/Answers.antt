use Rattle.std.proofs.Common.{◌≡◌, ◌≤◌, List, None, length, subst}
use Rattle.nv_mem.specs.declared.region.Region.{Region}
use Rattle.nv_mem.specs.MapRefusal.{refusal_of}
use Rattle.nv_mem.specs.GuestOrder.{IsGuestOrder, ranks}
use Rattle.nv_mem.proofs.Soundness.{IsSound-tested}
use Rattle.nv_mem.proofs.guest_map.GuestMap.new.Goals as goal

-- what is not refused is sound, and in order
pub invariant_of-result : goal.invariant_of-result
invariant_of-result c =
    let kept : refusal_of c.args.host_len c.args.regions.items ≡ None = cc (c.refusal.ensures, c.in-None.is, c.deref.ensures.value) in
    let P : List Region → Type 0 = λ rs. length rs ≤ ranks → IsGuestOrder rs c.of-order.result.places in
    record { sound = IsSound-tested c.args.host_len c.args.regions.items kept; ordered = subst P c.deref-in-None.ensures.value c.of-order.ensures }
