use Rattle.std.proofs.Common.{◌≡◌, ◌∙◌, ◌<◌, ℕ, List, true, false, length, ap, refl, sym, arith}
use Rattle.std.proofs.lemmas.Option.{slice_get_within}
use Rattle.nv_core.proofs.GroupWorlds.{IsTakenHere, taken-below, taken-in, taken-state, taken-there}
use Rattle.nv_core.proofs.ListReads.{listed-there, unlisted-nobody, unlisted-unfit, unlisted-unmapped, unlisted-untaken}
use Rattle.nv_core.proofs.Placed.{held-is}
use Rattle.nv_laws_sound.proofs.Lists.{slice_get-there}
use Rattle.nv_laws_sound.specs.Side.{Side}
use Rattle.nv_world_model.specs.World.{Command, Lane}
use Rattle.nv_core.proofs.front.Front.listing.Goals as goal

pub returns-in-Some-clause-err : goal.returns-in-Some-clause-err
returns-in-Some-clause-err c =
    unlisted-untaken c.args.layout.now c.args.lane c.args.tag c.args.addr c.args.len c.args.self.now c.untaken.result c.in-Some.reply c.untaken.ensures c.in-Some.is

pub index-requires : goal.index-requires
index-requires c =
    let lanes : List Lane = c.self.inside.lanes.items in
    let t = taken-in lanes c.args.self.now.lanes c.args.lane c.args.tag c.untaken.result (ap (λ (f : Side). f.lanes) c.self.view_is) c.untaken.ensures c.in_default.is in
    let below = taken-below lanes c.args.lane c.args.tag t in
    let number = c.from-at.ensures in omega arith

pub claimed-requires : goal.claimed-requires
claimed-requires c =
    let lanes : List Lane = c.self.inside.lanes.items in
    let t = taken-in lanes c.args.self.now.lanes c.args.lane c.args.tag c.untaken.result (ap (λ (f : Side). f.lanes) c.self.view_is) c.untaken.ensures c.in_default.is in
    taken-state lanes c.args.lane c.args.tag t c.from-at.result c.index.result.now c.from-at.ensures c.index.ensures

pub returns-in_default-guest-clause-err : goal.returns-in_default-guest-clause-err
returns-in_default-guest-clause-err c =
    let s : Side = record { lanes = c.self.inside.lanes.items; tails = c.self.inside.tails.items; controllers = c.self.inside.controllers.items } in
    let t = taken-in s.lanes c.args.self.now.lanes c.args.lane c.args.tag c.untaken.result (ap (λ (f : Side). f.lanes) c.self.view_is) c.untaken.ensures c.in_default.is in
    unlisted-nobody c.args.layout.now c.args.lane c.args.tag c.args.addr c.args.len s c.args.self.now c.self.view_is t c.claimed.result.now.guest
    (ap (λ (d : Command). d.guest)
    (c.claimed.ensures t.command t.reads (taken-there s.lanes c.args.lane c.args.tag t c.from-at.result c.index.result.now c.from-at.ensures c.index.ensures)))
    c.in_default-guest.ensures

pub returns-then-not-holds-clause-err : goal.returns-then-not-holds-clause-err
returns-then-not-holds-clause-err c =
    let s : Side = record { lanes = c.self.inside.lanes.items; tails = c.self.inside.tails.items; controllers = c.self.inside.controllers.items } in
    let t = taken-in s.lanes c.args.self.now.lanes c.args.lane c.args.tag c.untaken.result (ap (λ (f : Side). f.lanes) c.self.view_is) c.untaken.ensures c.in_default.is in
    let number : ℕ = c.claimed.result.now.guest in
    let many : length s.controllers ≡ length c.args.layout.now.guests = ap (λ (f : Side). length f.controllers) c.self.view_is ∙ c.requires.controllers in
    let within : number < length c.args.layout.now.guests = slice_get_within c.args.layout.now.guests number c.in-Some-guest.given.now c.in-Some-guest.ensures in
    let has = slice_get-there s.controllers number (omega (arith, many, within)) in
    unlisted-unmapped c.args.layout.now c.args.lane c.args.tag c.args.addr c.args.len s c.args.self.now c.self.view_is t number
    (ap (λ (d : Command). d.guest)
    (c.claimed.ensures t.command t.reads (taken-there s.lanes c.args.lane c.args.tag t c.from-at.result c.index.result.now c.from-at.ensures c.index.ensures)))
    c.in-Some-guest.given.now c.in-Some-guest.ensures has.0 has.1
    (held-is c.map.result.now c.in-Some-guest.given.now c.args.addr c.args.len c.args.len c.holds.result false c.map.ensures refl c.holds.ensures.value c.if-not-holds.true)

pub returns-then-not-is_part-clause-err : goal.returns-then-not-is_part-clause-err
returns-then-not-is_part-clause-err c =
    let s : Side = record { lanes = c.self.inside.lanes.items; tails = c.self.inside.tails.items; controllers = c.self.inside.controllers.items } in
    let t = taken-in s.lanes c.args.self.now.lanes c.args.lane c.args.tag c.untaken.result (ap (λ (f : Side). f.lanes) c.self.view_is) c.untaken.ensures c.in_default.is in
    let number : ℕ = c.claimed.result.now.guest in
    let many : length s.controllers ≡ length c.args.layout.now.guests = ap (λ (f : Side). length f.controllers) c.self.view_is ∙ c.requires.controllers in
    let within : number < length c.args.layout.now.guests = slice_get_within c.args.layout.now.guests number c.in-Some-guest.given.now c.in-Some-guest.ensures in
    let has = slice_get-there s.controllers number (omega (arith, many, within)) in
    unlisted-unfit c.args.layout.now c.args.lane c.args.tag c.args.addr c.args.len s c.args.self.now c.self.view_is t number
    (ap (λ (d : Command). d.guest)
    (c.claimed.ensures t.command t.reads (taken-there s.lanes c.args.lane c.args.tag t c.from-at.result c.index.result.now c.from-at.ensures c.index.ensures)))
    c.in-Some-guest.given.now c.in-Some-guest.ensures has.0 has.1
    (held-is c.map.result.now c.in-Some-guest.given.now c.args.addr c.args.len c.args.len c.holds.result true c.map.ensures refl c.holds.ensures.value c.if-not-holds.false)
    (sym c.is_part.ensures ∙ c.if-not-is_part.true)

pub returns-clause-ok : goal.returns-clause-ok
returns-clause-ok c =
    let s : Side = record { lanes = c.self.inside.lanes.items; tails = c.self.inside.tails.items; controllers = c.self.inside.controllers.items } in
    let t = taken-in s.lanes c.args.self.now.lanes c.args.lane c.args.tag c.untaken.result (ap (λ (f : Side). f.lanes) c.self.view_is) c.untaken.ensures c.in_default.is in
    let number : ℕ = c.claimed.result.now.guest in
    let many : length s.controllers ≡ length c.args.layout.now.guests = ap (λ (f : Side). length f.controllers) c.self.view_is ∙ c.requires.controllers in
    let within : number < length c.args.layout.now.guests = slice_get_within c.args.layout.now.guests number c.in-Some-guest.given.now c.in-Some-guest.ensures in
    let has = slice_get-there s.controllers number (omega (arith, many, within)) in
    listed-there c.args.layout.now c.args.lane c.args.tag c.args.addr c.args.len s c.args.self.now c.self.view_is t number
    (ap (λ (d : Command). d.guest)
    (c.claimed.ensures t.command t.reads (taken-there s.lanes c.args.lane c.args.tag t c.from-at.result c.index.result.now c.from-at.ensures c.index.ensures)))
    c.in-Some-guest.given.now c.in-Some-guest.ensures has.0 has.1
    (held-is c.map.result.now c.in-Some-guest.given.now c.args.addr c.args.len c.args.len c.holds.result true c.map.ensures refl c.holds.ensures.value c.if-not-holds.false)
    (sym c.is_part.ensures ∙ c.if-not-is_part.false)
