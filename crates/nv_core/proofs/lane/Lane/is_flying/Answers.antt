use Rattle.std.proofs.Common.{◌≡◌, ◌∙◌, true, false, Option, Some, None, slice_get, ap, refl, sym, arith}
use Rattle.nv_core.proofs.LaneTags.{lane-past, lane-state}
use Rattle.nv_core.specs.Tags.{is_flying, state_in}
use Rattle.nv_tags.specs.declared.state.TagState.{TagState}
use Rattle.nv_tags.specs.declared.state.TagState.TheVariants as state
use Rattle.nv_world_model.specs.World.{Ended, Flying, Free, Tag, Taken}
use Rattle.nv_core.proofs.lane.Lane.is_flying.Goals as goal

nowhere : (t : Option Tag) → None ≡ state_in t → false ≡ is_flying t
nowhere None e = refl
nowhere (Some t) e = cc

flies : (t : Option Tag) → Some state.Flying ≡ state_in t → true ≡ is_flying t
flies None e = cc
flies (Some Free) e = cc
flies (Some (Taken command reads)) e = cc
flies (Some (Flying command share at)) e = refl
flies (Some (Ended command st share)) e = cc

elsewhere : (t : Option Tag) (s : TagState) → Some s ≡ state_in t → (s ≡ state.Flying → ⊥) → false ≡ is_flying t
elsewhere None s e differs = refl
elsewhere (Some Free) s e differs = refl
elsewhere (Some (Taken command reads)) s e differs = refl
elsewhere (Some (Flying command share at)) s e differs = (let same : s ≡ state.Flying = cc in absurd (differs same))
elsewhere (Some (Ended command st share)) s e differs = refl

pub returns-then-from-ge-TAG_COUNT-clause-flies : goal.returns-then-from-ge-TAG_COUNT-clause-flies
returns-then-from-ge-TAG_COUNT-clause-flies c =
    let i = c.self.inside in
    nowhere (slice_get c.args.self.now.tags c.args.identifier)
    (lane-past i.head i.phase i.tags i.progress.items c.args.self.now c.self.invariant c.self.view_is
    c.args.identifier (let e = c.from.ensures in let t = c.if-from-ge-TAG_COUNT.true in omega arith))

pub returns-in-Flying-clause-flies : goal.returns-in-Flying-clause-flies
returns-in-Flying-clause-flies c =
    let i = c.self.inside in
    flies (slice_get c.args.self.now.tags c.args.identifier)
    (ap (λ (s : TagState). Some s) (sym c.in-Flying.is ∙ c.state.ensures)
    ∙ lane-state i.head i.phase i.tags i.progress.items c.args.self.now c.self.invariant c.self.view_is
    c.args.identifier (let e = c.from.ensures in let t = c.if-from-ge-TAG_COUNT.false in omega arith))

pub returns-in_default-clause-flies : goal.returns-in_default-clause-flies
returns-in_default-clause-flies c =
    let i = c.self.inside in
    elsewhere (slice_get c.args.self.now.tags c.args.identifier) c.state.result
    (ap (λ (s : TagState). Some s) c.state.ensures
    ∙ lane-state i.head i.phase i.tags i.progress.items c.args.self.now c.self.invariant c.self.view_is
    c.args.identifier (let e = c.from.ensures in let t = c.if-from-ge-TAG_COUNT.false in omega arith))
    c.in_default.not-Flying
