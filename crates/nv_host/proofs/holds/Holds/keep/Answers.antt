use Rattle.std.proofs.Common.{◌≡◌, ◌&&◌, ◌∙◌, ℕ, List, length, arith, ap}
use Rattle.nv_host.proofs.HoldNotes.{kept-of, past-none}
use Rattle.nv_tags.proofs.Rows.{is_among}
use Rattle.nv_host.proofs.holds.Holds.keep.Goals as goal

pub returns-then-at-ge-LANE_COUNT-clause-tags : goal.returns-then-at-ge-LANE_COUNT-clause-tags
returns-then-at-ge-LANE_COUNT-clause-tags c = λ l t.
    let many : length c.args.self.now.tags ≡ 8 = omega arith in
    past-none c.args.self.now.tags c.args.lane c.args.tags (omega (arith, many, c.if-at-ge-LANE_COUNT.true, c.from-at.ensures)) l t

pub returns-clause-tags : goal.returns-clause-tags
returns-clause-tags c =
    let many : length c.args.self.now.tags ≡ 8 = omega arith in
    kept-of c.args.self.now.tags c.args.lane c.from-at.result c.mask.result c.args.tags c.from-at.ensures (omega (arith, many, c.if-at-ge-LANE_COUNT.false))
    (λ t. ap (λ (xs : List ℕ). is_among xs t) c.mask.ensures ∙ c.keep.ensures t ∙ ap (λ (xs : List ℕ). is_among xs t && is_among c.args.tags t) c.of-some.ensures)
