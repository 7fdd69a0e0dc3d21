use Rattle.std.proofs.Common.{◌≡◌, Some, arith, subst, sym}
use Rattle.std.specs.List.{find}
use Rattle.nv_mem.specs.GuestMap.{Mapping, covers}
use Rattle.nv_mem.proofs.Images.{found-covers, found-inside, IsContiguous-front}
use Rattle.nv_mem.proofs.guest_map.GuestMap.stretch.Goals as goal

pub overflow_sub-offset : goal.overflow_sub-offset
overflow_sub-offset c =
    let P : Mapping → Type 0 = λ m. find (λ r. covers r c.args.addr) m.regions ≡ Some c.args.ranked.region in
    let found : find (λ r. covers r c.args.addr) c.self.inside.regions.items ≡ Some c.args.ranked.region = subst P (sym c.self.view_is) c.requires in
    (found-covers c.self.inside.regions.items c.args.addr c.args.ranked.region found).0

pub overflow_add-result : goal.overflow_add-result
overflow_add-result c =
    let P : Mapping → Type 0 = λ m. find (λ r. covers r c.args.addr) m.regions ≡ Some c.args.ranked.region in
    let found : find (λ r. covers r c.args.addr) c.self.inside.regions.items ≡ Some c.args.ranked.region = subst P (sym c.self.view_is) c.requires in
    let covers = found-covers c.self.inside.regions.items c.args.addr c.args.ranked.region found in
    let inside = found-inside c.self.inside.host_len c.self.inside.regions.items c.args.addr c.args.ranked.region c.self.invariant.sound.inside found in
    omega (arith, covers.1, inside)

pub overflow_sub-result : goal.overflow_sub-result
overflow_sub-result c =
    let P : Mapping → Type 0 = λ m. find (λ r. covers r c.args.addr) m.regions ≡ Some c.args.ranked.region in
    let found : find (λ r. covers r c.args.addr) c.self.inside.regions.items ≡ Some c.args.ranked.region = subst P (sym c.self.view_is) c.requires in
    let covers = found-covers c.self.inside.regions.items c.args.addr c.args.ranked.region found in
    omega (arith, covers.1)

pub returns : goal.returns
returns c =
    let P : Mapping → Type 0 = λ m. find (λ r. covers r c.args.addr) m.regions ≡ Some c.args.ranked.region in
    let found : find (λ r. covers r c.args.addr) c.self.inside.regions.items ≡ Some c.args.ranked.region = subst P (sym c.self.view_is) c.requires in
    rw (← c.self.view_is) (IsContiguous-front c.self.inside.regions.items c.args.ranked.region c.args.addr c.self.invariant.sound.apart found)
