use Rattle.std.proofs.Common.{◌≡◌, ℕ, ◌+◌, ◌-◌, ◌<◌, ◌^◌, ◌&&◌, Bool, leb, length, ap, sym, ◌∙◌, arith}
use Rattle.std.specs.List.{list_all}
use Rattle.nv_ns.specs.Extents.{Namespace, blocks_in, is_within}
use Rattle.nv_ns.specs.Filled.{filled_len, nowhere}
use Rattle.nv_ns.proofs.Pushed.{is_namespace-many, is_namespace-ninth, is_namespace-push, leb-within}
use Rattle.nv_ns.proofs.virtual_ns.VirtualNs.fits_behind.Goals as goal
use Rattle.nv_ns.proofs.virtual_ns.VirtualNs.fits_behind.Goals.{then-self-eq-MOST_EXTENTS-via-then-self-eq-MOST_EXTENTS, then-self-eq-MOST_EXTENTS-via-else-self-eq-MOST_EXTENTS+then-blocks-self}

pub returns-then-self-eq-MOST_EXTENTS : goal.returns-then-self-eq-MOST_EXTENTS
returns-then-self-eq-MOST_EXTENTS c =
    let size = filled_len nowhere c.self.inside.extents c.self.inside.len c.self.invariant.filled in
    let seen = ap length c.self.view_is in
    let blocks : c.self.inside.blocks ≡ blocks_in c.args.self.now = sym c.self.invariant.blocks ∙ ap blocks_in c.self.view_is in
    elim c.then-self-eq-MOST_EXTENTS.branch [
      | then-self-eq-MOST_EXTENTS-via-then-self-eq-MOST_EXTENTS w ↦ sym (is_namespace-ninth c.args.self.now c.args.next (omega arith))
      | then-self-eq-MOST_EXTENTS-via-else-self-eq-MOST_EXTENTS+then-blocks-self w ↦
          sym (is_namespace-many c.args.self.now c.args.next (omega (arith, w.blocks-else-self-eq-MOST_EXTENTS.ensures.value)))
    ]

pub returns-then-all_within : goal.returns-then-all_within
returns-then-all_within c =
    let size = filled_len nowhere c.self.inside.extents c.self.inside.len c.self.invariant.filled in
    let within = c.self.invariant.filled.within in
    let seen = ap length c.self.view_is in
    let blocks : c.self.inside.blocks ≡ blocks_in c.args.self.now = sym c.self.invariant.blocks ∙ ap blocks_in c.self.view_is in
    let total : ℕ = c.self.inside.blocks + c.blocks-2.result in
    let fits : total < 2 ^ 64 = omega (arith, c.blocks-2.ensures.value, c.blocks-else-self-eq-MOST_EXTENTS.ensures.value) in
    let last = ap (λ (base : ℕ). leb base (18446744073709551615 - total)) c.base.ensures.value ∙ leb-within c.args.next total fits in
    let all = sym c.all_within.ensures ∙ c.if-all_within.true in
    let others = sym (ap (λ (ns : Namespace). list_all (is_within total) ns) c.as_slice.ensures.items) ∙ all in
    last ∙ sym (ap (λ (b : Bool). b && is_within total c.args.next) others)
    ∙ sym (is_namespace-push c.args.self.now c.args.next total (omega arith) (omega (arith, c.blocks-2.ensures.value)))

pub returns-else-all_within : goal.returns-else-all_within
returns-else-all_within c =
    let size = filled_len nowhere c.self.inside.extents c.self.inside.len c.self.invariant.filled in
    let within = c.self.invariant.filled.within in
    let seen = ap length c.self.view_is in
    let blocks : c.self.inside.blocks ≡ blocks_in c.args.self.now = sym c.self.invariant.blocks ∙ ap blocks_in c.self.view_is in
    let total : ℕ = c.self.inside.blocks + c.blocks-2.result in
    let all = sym c.all_within.ensures ∙ c.if-all_within.false in
    let others = sym (ap (λ (ns : Namespace). list_all (is_within total) ns) c.as_slice.ensures.items) ∙ all in
    c.if-all_within.false ∙ sym (ap (λ (b : Bool). b && is_within total c.args.next) others)
    ∙ sym (is_namespace-push c.args.self.now c.args.next total (omega arith) (omega (arith, c.blocks-2.ensures.value)))
