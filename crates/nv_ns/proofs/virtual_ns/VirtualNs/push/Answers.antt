use Rattle.std.proofs.Common.{◌≡◌, ℕ, ◌+◌, ◌++◌, [], ◌∷◌, set, ap, sym, ◌∙◌, subst, arith}
use Rattle.nv_ns.specs.Extents.{Namespace, blocks_in, is_namespace}
use Rattle.nv_ns.specs.Joined.{AreJoined}
use Rattle.nv_ns.proofs.Pushed.{AreJoined-push, may_push}
use Rattle.nv_ns.proofs.virtual_ns.VirtualNs.push.Goals as goal

pub overflow_add-self-2 : goal.overflow_add-self-2
overflow_add-self-2 c =
    let may = may_push c.args.self.now c.args.next c.requires in
    let blocks : c.self.inside.blocks ≡ blocks_in c.args.self.now = sym c.self.invariant.blocks ∙ ap blocks_in c.self.view_is in
    omega (arith, may.fits, c.blocks-2.ensures.value)

pub invariant_of-self : goal.invariant_of-self
invariant_of-self c =
    let may = ap (λ (ns : Namespace). is_namespace (ns ++ c.args.next ∷ [])) c.self.view_is ∙ c.requires in
    let there = AreJoined-push c.self.inside.extents c.self.inside.len c.self.inside.blocks c.args.next c.self.invariant may in
    subst (λ (n : ℕ). AreJoined (set c.self.inside.extents c.self.inside.len c.args.next) (c.self.inside.len + 1) (c.self.inside.blocks + n))
    (sym c.blocks-2.ensures.value) there
