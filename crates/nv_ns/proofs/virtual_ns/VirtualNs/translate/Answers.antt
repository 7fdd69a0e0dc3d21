use Rattle.std.proofs.Common.{◌≡◌, ℕ, ◌+◌, ◌-◌, ◌≤◌, List, [], ◌∷◌, Some, drop, take, get_or, ap, sym, ◌∙◌, arith}
use Rattle.nv_ns.specs.BlockRange.{Extent}
use Rattle.nv_ns.specs.Extents.{Cut, blocks_in}
use Rattle.nv_ns.proofs.Pushed.{first-joined}
use Rattle.nv_ns.proofs.Spelled.{cut_out-first, cuts-first}
use Rattle.nv_ns.proofs.virtual_ns.VirtualNs.translate.Goals as goal

-- the part that is made, by the first extent's base
made : (parts : List Cut) (cut : Cut) (base place slba count : ℕ) → parts ≡ cut ∷ []
    → cut ≡ record { first = 0; start = base + slba; count = count } → base ≡ place
    → parts ≡ record { first = 0; start = place + slba; count = count } ∷ []
made parts cut base place slba count is cuts_at at =
    is ∙ ap (λ (c : Cut). c ∷ []) cuts_at ∙ ap (λ (b : ℕ). record { first = 0; start = b + slba; count = count } ∷ []) at

pub returns-then-slba-blocks-clause-value : goal.returns-then-slba-blocks-clause-value
returns-then-slba-blocks-clause-value c =
    let first : Extent = get_or c.self.inside.extents 0 c.index-self-0.result in
    let front = sym c.self.view_is
    ∙ first-joined c.self.inside.extents c.self.inside.len c.self.inside.blocks c.index-self-0.result c.self.invariant in
    let part = made c.one.result c.new.result c.base.result first.base c.args.slba c.args.count c.one.ensures c.new.ensures c.base.ensures.value in
    let fits : c.args.count ≤ first.blocks = omega (arith, c.blocks-then-count-gt0.ensures.value) in
    let within : c.args.slba ≤ first.blocks - c.args.count = omega (arith, c.blocks-then-count-blocks.ensures.value) in
    ap Some part
    ∙ sym (cut_out-first c.args.self.now first (drop 1 (take c.self.inside.len c.self.inside.extents)) c.args.slba c.args.count
    front c.if-count-gt0.true fits within)

pub returns-then-slba-blocks-clause-none_exactly_outside :
    goal.returns-then-slba-blocks-clause-none_exactly_outside
returns-then-slba-blocks-clause-none_exactly_outside c =
    let first : Extent = get_or c.self.inside.extents 0 c.index-self-0.result in
    let front = sym c.self.view_is
    ∙ first-joined c.self.inside.extents c.self.inside.len c.self.inside.blocks c.index-self-0.result c.self.invariant in
    let part = made c.one.result c.new.result c.base.result first.base c.args.slba c.args.count c.one.ensures c.new.ensures c.base.ensures.value in
    let fits : c.args.count ≤ first.blocks = omega (arith, c.blocks-then-count-gt0.ensures.value) in
    let within : c.args.slba ≤ first.blocks - c.args.count = omega (arith, c.blocks-then-count-blocks.ensures.value) in
    let all : blocks_in c.args.self.now ≡ first.blocks + blocks_in (drop 1 (take c.self.inside.len c.self.inside.extents)) = ap blocks_in front in (
      (omega arith, omega arith),
      part
          ∙ sym (cuts-first c.args.self.now first (drop 1 (take c.self.inside.len c.self.inside.extents)) c.args.slba c.args.count
          front c.if-count-gt0.true fits within),
    )
