-- What the mediator's side keeps in a world that is consistent, and the side of a world that keeps it.
use Rattle.std.proofs.Common.{ℕ, ◌<◌, Option, arith, sym, ◌∙◌}
use Rattle.nv_laws_sound.specs.Consistent.{IsConsistent, IsTag}
use Rattle.nv_laws_sound.specs.Kept.{IsKeptTag, IsKeptWorld}
use Rattle.nv_laws_sound.specs.Side.{AreKept, tails_of}
use Rattle.nv_laws_sound.proofs.Lists.{slice_get-below, slice_get-there}
use Rattle.nv_laws_sound.proofs.Tails.{length-tails, of-tail}
use Rattle.nv_world_model.specs.Area.{ring_size}
use Rattle.nv_world_model.specs.Device.{DeviceLane, Held}
use Rattle.nv_world_model.specs.Geometry.{Geometry}
use Rattle.nv_world_model.specs.World.{Ended, Flying, Free, Tag, Taken, World}

-- a tag of a consistent world keeps what is kept of it
kept-tag : (geometry : Geometry) (lane tag : ℕ) (host : ℕ → ℕ) (head : ℕ) (d : DeviceLane) (held : Option Held) (t : Tag)
    → IsTag geometry lane tag host head d held t → IsKeptTag geometry t
kept-tag geometry lane tag host head d held Free is = tt
kept-tag geometry lane tag host head d held (Taken command reads) is = record { guest = is.guest; is = is.is; planned = is.planned }
kept-tag geometry lane tag host head d held (Flying command share at) is = record { guest = is.guest; is = is.is; planned = is.planned }
kept-tag geometry lane tag host head d held (Ended command st share) is = record { guest = is.guest; is = is.is; planned = is.planned }

-- a world that is consistent keeps all of it
pub kept-consistent : (geometry : Geometry) (w : World) → IsConsistent geometry w → IsKeptWorld geometry w
kept-consistent geometry w is =
    let tags = is.of_tags in
    record {
      lanes = (λ lane l found.
          let sides = tags.sides in
          let below = slice_get-below w.lanes lane l found in
          let d = slice_get-there w.device lane (omega (arith, sides, below)) in
          let fine = tags.lanes lane l d.0 found d.1 in
          let positions = fine.positions in
          record {
            head = positions.read;
            tags_are = positions.tags;
            tags = (λ tag t there.
                let many = positions.tags in
                let sized = positions.held in
                let among = slice_get-below l.tags tag t there in
                let held = slice_get-there d.0.held tag (omega (arith, many, sized, among)) in
                kept-tag geometry lane tag w.host l.head d.0 held.0 t (fine.tags tag t held.0 there held.1));
            groups = is.groups lane l found;
          });
      sides = tags.sides;
      tails = (λ lane d there.
          let sides = tags.sides in
          let below = slice_get-below w.device lane d there in
          let l = slice_get-there w.lanes lane (omega (arith, sides, below)) in
          (tags.lanes lane l.0 d l.1 there).positions.tail);
      controllers = tags.controllers;
      queues = tags.queues;
    }

-- what a world keeps, by the tails of its rings
pub kept-world : (geometry : Geometry) (w : World) → IsKeptWorld geometry w → AreKept geometry w.lanes (tails_of w.device) w.controllers
kept-world geometry w is =
    record {
      lanes = is.lanes;
      many = length-tails w.device ∙ sym is.sides;
      slots = (λ lane tail there.
          let d = of-tail w.device lane tail there in
          let fits : d.0.tail < ring_size = is.tails lane d.0 d.1.0 in
          let same = d.1.1 in omega (arith, fits, same));
      controllers = is.controllers;
      queues = is.queues;
    }
