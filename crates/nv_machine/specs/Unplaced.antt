-- The machine does not ask where parts are that were handed on: two of the mediator's sides that are the same but for that, and two calls that come to the
-- same but for that (profile).
use Rattle.std.specs.Prelude.{◌≡◌, map}
use Rattle.nv_laws_sound.specs.Side.{Side}
use Rattle.nv_laws_sound.specs.Unplaced.{unplaced_lane}
use Rattle.nv_machine.specs.Doing.{Called}

-- of all places the one in the physical controller
abbrev pub unplaced_side : Side → Side
unplaced_side s = record s { lanes = map unplaced_lane s.lanes }

-- two sides are the same but for the places of parts
pub record AreSameButPlaces (s z : Side) : Type 0 where
  pub lanes : map unplaced_lane s.lanes ≡ map unplaced_lane z.lanes
  pub tails : s.tails ≡ z.tails
  pub controllers : s.controllers ≡ z.controllers

-- the same reply and the same effects, and sides that are the same but for places
pub record ComeToSameButPlaces (c d : Called) : Type 0 where
  pub reply : c.reply ≡ d.reply
  pub effects : c.now.effects ≡ d.now.effects
  pub sides : AreSameButPlaces c.now.side d.now.side
