use Rattle.std.proofs.Common.{◌≡◌, ℕ, List, Some, inl, inr, length, refl, slice_get}
use Rattle.nv_core.proofs.Placed.{act-nobody, act-quiet, controller-of, made-for}
use Rattle.nv_core.proofs.Sides.{of-side, own-side, own-world, quiet-in, state_in}
use Rattle.nv_core.specs.Front.{IsSideStep}
use Rattle.nv_laws_sound.specs.Side.{Side}
use Rattle.nv_core.specs.Kept.{IsLent}
use Rattle.nv_core.specs.Seat.{IsActed, IsLoaded}
use Rattle.nv_core.specs.State.{State}
use Rattle.nv_model.specs.Controller.{Controller}
use Rattle.nv_model.specs.Memory.{byte_in}
use Rattle.nv_model.specs.declared.act.Act.{Act}
use Rattle.nv_model.specs.declared.act.Act.TheVariants as act
use Rattle.nv_model.specs.declared.reply.Reply.{Reply}
use Rattle.nv_model.specs.declared.reply.Reply.TheVariants as reply
use Rattle.nv_world_model.specs.Geometry.{Geometry, Guest}
use Rattle.nv_world_model.specs.declared.event.Event.TheVariants as event
use Rattle.nv_core.proofs.front.Front.load.Goals as goal

-- a load changes nothing in any world
quiet-load : (geometry : Geometry) (side : Side) (m : List ℕ) (number : ℕ) (guest : Guest) (a : Act) (r : Reply) (before after : List ℕ)
    → slice_get geometry.guests number ≡ Some guest → IsLent geometry side m
    → ((c : Controller) → IsLoaded (λ x. IsActed guest a (byte_in m) c x (byte_in m) c) r before after)
    → IsLoaded (λ x. IsSideStep geometry (event.Guest number a) side m x side m) r before after
quiet-load geometry side m number guest a r before after there lent acts = by-case found.0 found.1 (acts found.0)
  where
    first : State
    first = state_in geometry side m (own-world side m) (own-side side m)

    found : (c : Controller) × (slice_get side.controllers number ≡ Some c)
    found = controller-of geometry first first number guest refl (of-side geometry side m (own-world side m) (own-side side m) lent) there

    by-case : (c : Controller) → slice_get side.controllers number ≡ Some c → IsLoaded (λ x. IsActed guest a (byte_in m) c x (byte_in m) c) r before after
        → IsLoaded (λ x. IsSideStep geometry (event.Guest number a) side m x side m) r before after
    by-case c has (inl so) =
        inl (
          so.0,
          λ w is.
              let s = state_in geometry side m w is in
              quiet-in geometry side m w is (event.Guest number a) tt _ side m refl (act-quiet geometry s s number guest c a (reply.Bytes after) refl (of-side geometry side m w is lent) there has so.1),
        )
    by-case c has (inr so) =
        inr (
          so.0,
          so.1,
          λ w is.
              let s = state_in geometry side m w is in
              quiet-in geometry side m w is (event.Guest number a) tt _ side m refl (act-quiet geometry s s number guest c a r refl (of-side geometry side m w is lent) there has so.2),
        )

pub returns-in_default : goal.returns-in_default
returns-in_default g c =
    let m : List ℕ = g.C.MemoryCell.bytes c.args.host.now in
    inr (
      refl,
      refl,
      λ w is.
          let s : State = state_in c.args.layout.now c.args.self.now m w is in
          quiet-in c.args.layout.now c.args.self.now m w is (event.Guest c.args.guest (act.Load c.args.addr (length c.args.room.now))) tt _ c.args.self.now m refl
          (act-nobody c.args.layout.now s s c.args.guest (act.Load c.args.addr (length c.args.room.now)) c.in_default.ensures),
    )

pub load_into-requires : goal.load_into-requires
load_into-requires g c =
    let m : List ℕ = g.C.MemoryCell.bytes c.args.host.now in
    let s : State = state_in c.args.layout.now c.args.self.now m (own-world c.args.self.now m) (own-side c.args.self.now m) in
    made-for c.args.layout.now s s c.args.guest c.in-Some.given.now c.in-Some.given.now.memory_map refl
    (of-side c.args.layout.now c.args.self.now m (own-world c.args.self.now m) (own-side c.args.self.now m) c.requires) c.in-Some.ensures refl

pub returns : goal.returns
returns g c =
    quiet-load c.args.layout.now c.args.self.now (g.C.MemoryCell.bytes c.args.host.now) c.args.guest c.in-Some.given.now
    (act.Load c.args.addr (length c.args.room.now)) c.load_into.result c.args.room.now c.load_into.new.room c.in-Some.ensures c.requires c.load_into.ensures
