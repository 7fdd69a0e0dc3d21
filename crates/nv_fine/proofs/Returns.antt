-- What a call comes to in a world: another world that is as events leave it, in which what the drive has is as it was.
use Rattle.std.proofs.Common.{◌≡◌, ℕ, ◌<◌, ◌≤◌, true, false, List, length, All, Option, Some, None}
use Rattle.std.proofs.Common.{refl, sym, ap, ◌∙◌, subst}
use Rattle.nv_fine.proofs.Runs.{IsShown, shown-live}
use Rattle.nv_fine.proofs.Steady.{IsSteady, effects_on-at}
use Rattle.nv_laws_sound.proofs.Lists.{some-same}
use Rattle.nv_laws_sound.proofs.Steps.{step-consistent}
use Rattle.nv_laws_sound.proofs.Tails.{rung-same}
use Rattle.nv_laws_sound.proofs.phases.Steps.{step-phased}
use Rattle.nv_laws_sound.specs.LaidOut.{IsLaidOut}
use Rattle.nv_laws_sound.specs.Mediators.{IsMediators}
use Rattle.nv_laws_sound.specs.Side.{IsKept, rung_with}
use Rattle.nv_machine.proofs.ContainedFlying.{flying-left}
use Rattle.nv_machine.proofs.EventCalls.{event-is}
use Rattle.nv_machine.proofs.InWorlds.{Is}
use Rattle.nv_machine.proofs.PagesKept.{pages-kept}
use Rattle.nv_machine.proofs.SideWorlds.{begun}
use Rattle.nv_machine.specs.Contained.{reads_for}
use Rattle.nv_machine.specs.Doing.{Called, Doing, tag_at}
use Rattle.nv_machine.specs.Effects.{effects_on}
use Rattle.nv_machine.specs.InWorld.{IsLive, IsNoReap, after_in, called_in, in_world, side_of}
use Rattle.nv_machine.specs.Machine.{call, called, is_flying}
use Rattle.nv_model.specs.declared.reply.Reply.{Reply}
use Rattle.nv_world_model.specs.Area.{lane_start}
use Rattle.nv_world_model.specs.Geometry.{Geometry}
use Rattle.nv_world_model.specs.Step as step
use Rattle.nv_world_model.specs.World.{Answered, Ended, Flying, Free, InDevice, Queued, Tag, Taken, World, with_host}
use Rattle.nv_world_model.specs.declared.event.Event.{Event}
use Rattle.nv_world_model.specs.declared.event.Event.TheVariants as event

-- ---- tags whose completion is not there

abbrev pub IsUnread : Tag → Type 0
IsUnread Free = ⊥
IsUnread (Taken command reads) = ⊥
IsUnread (Flying command share (Queued slot)) = Unit {0}
IsUnread (Flying command share InDevice) = Unit {0}
IsUnread (Flying command share (Answered slot)) = ⊥
IsUnread (Ended command st share) = ⊥

unread-flies : (t : Tag) → IsUnread t → is_flying (Some t) ≡ true
unread-flies Free is = absurd is
unread-flies (Taken command reads) is = absurd is
unread-flies (Flying command share standing) is = refl
unread-flies (Ended command st share) is = absurd is

-- no such tag is read
abbrev pub ReadsNone : Geometry → World → Event → (fetched : List ℕ) → Type 0
ReadsNone geometry w e fetched = (lane tag : ℕ) (t : Tag) → tag_at (side_of w) lane tag ≡ Some t → IsUnread t → reads_for e fetched lane tag ≡ false

pub none-read : (geometry : Geometry) (w : World) (e : Event) (fetched : List ℕ) → IsNoReap e → ReadsNone geometry w e fetched
none-read geometry w (event.Guest guest a) fetched other lane tag t there is = refl
none-read geometry w (event.Admin guest) fetched other lane tag t there is = refl
none-read geometry w (event.Take guest queue number) fetched other lane tag t there is = refl
none-read geometry w (event.List number leader addr len) fetched other lane tag t there is = refl
none-read geometry w (event.Submit number leader) fetched other lane tag t there is = refl
none-read geometry w (event.GiveUp number leader) fetched other lane tag t there is = refl
none-read geometry w (event.DevTake number) fetched other lane tag t there is = refl
none-read geometry w (event.DevMove number slot unit) fetched other lane tag t there is = refl
none-read geometry w (event.DevPost number slot) fetched other lane tag t there is = refl
none-read geometry w (event.DevFail number slot st) fetched other lane tag t there is = refl
none-read geometry w (event.Keep block) fetched other lane tag t there is = refl
none-read geometry w (event.Reap number) fetched other lane tag t there is = absurd other
none-read geometry w (event.Post number leader) fetched other lane tag t there is = refl

-- ---- how a call's bytes were fetched

-- as they lie in a memory that is the same in the mediator's area; or so that nothing comes of them
pub data HowFetched (geometry : Geometry) (w : World) (e : Event) (fetched : List ℕ) : Type 0 where
  Shows : IsMediators e → IsShown geometry w e fetched → ReadsNone geometry w e fetched → HowFetched geometry w e fetched
  Quiet : (call geometry e fetched (side_of w)).now ≡ begun (side_of w) → HowFetched geometry w e fetched

-- a world with what a call comes to
pub record IsReturned (geometry : Geometry) (w : World) (m : Doing) : Type 0 where
  pub world : World
  pub live : IsLive geometry world
  pub lanes : world.lanes ≡ m.side.lanes
  pub controllers : world.controllers ≡ m.side.controllers
  pub device : world.device ≡ rung_with m.side.tails w.device
  pub host : (at : ℕ) → geometry.mediator ≤ at → at < lane_start geometry.mediator (length w.lanes) → All (IsSteady at) m.effects
      → world.host at ≡ effects_on m.effects w.host at
  pub stays : (lane tag : ℕ) (t : Tag) → tag_at (side_of w) lane tag ≡ Some t → IsUnread t → tag_at m.side lane tag ≡ Some t

world-behind : (w : World) (c : Called) (a : step.After) → Is w c a → in_world w c.now ≡ a.world
world-behind w c a is = by c.reply is
  where
    by : (r : Option Reply) → after_in w c r ≡ Some a → in_world w c.now ≡ a.world
    by None e = cc
    by (Some r) e = ap (λ (x : step.After). x.world) (some-same _ a e)

module _ (host_bytes : ℕ) (geometry : Geometry) (w : World) (laid : IsLaidOut host_bytes (length w.lanes) geometry) (live : IsLive geometry w)
    (kept : IsKept geometry (side_of w)) (e : Event) (fetched : List ℕ) where
  abbrev now : Doing
  now = (call geometry e fetched (side_of w)).now

  shows : IsMediators e → IsShown geometry w e fetched → ReadsNone geometry w e fetched → IsReturned geometry w now
  shows mine shown unread =
      record {
        world = in_world v now;
        live = subst (IsLive geometry) (sym same) after;
        lanes = refl;
        controllers = refl;
        device = refl;
        host = λ at low high steady. effects_on-at now.effects shown.host w.host at steady (sym (shown.same at low high));
        stays = λ lane tag t there is.
            flying-left geometry (side_of w) kept e fetched lane tag (ap is_flying there ∙ unread-flies t is) (unread lane tag t there is) ∙ there;
      }
    where
      v : World
      v = with_host shown.host w

      fine : IsLive geometry v
      fine = shown-live host_bytes geometry w laid live kept shown.host shown.same

      is : called_in v (call geometry e fetched (side_of w)) ≡ Some (step.step geometry e v)
      is =
          ap (λ (xs : List ℕ). called_in v (call geometry e xs (side_of w))) (sym shown.there) ∙ event-is host_bytes geometry v laid fine e mine

      same : in_world v now ≡ (step.step geometry e v).world
      same = world-behind v (call geometry e fetched (side_of w)) (step.step geometry e v) is

      after : IsLive geometry (step.step geometry e v).world
      after =
          record {
            consistent = step-consistent host_bytes geometry e v laid fine.consistent;
            phased = step-phased host_bytes geometry e v laid fine.consistent fine.phased;
            on_pages = pages-kept geometry v fine.on_pages e mine;
          }

  quiet : now ≡ begun (side_of w) → IsReturned geometry w now
  unfolding effects_on
  quiet is =
      record {
        world = w;
        live = live;
        lanes = ap (λ (m : Doing). m.side.lanes) (sym is);
        controllers = ap (λ (m : Doing). m.side.controllers) (sym is);
        device = sym (rung-same w.device) ∙ ap (λ (m : Doing). rung_with m.side.tails w.device) (sym is);
        host = λ at low high steady. ap (λ (m : Doing). effects_on m.effects w.host at) (sym is);
        stays = λ lane tag t there unread. ap (λ (m : Doing). tag_at m.side lane tag) is ∙ there;
      }

  pub returned : HowFetched geometry w e fetched → IsReturned geometry w now
  returned (Shows mine shown unread) = shows mine shown unread
  returned (Quiet is) = quiet is

-- what is the physical controller's does nothing
pub quiet-others : (geometry : Geometry) (w : World) (e : Event) (fetched : List ℕ) → (IsMediators e → HowFetched geometry w e fetched) → HowFetched geometry w e fetched
unfolding called
quiet-others geometry w (event.Guest guest a) fetched mine = mine tt
quiet-others geometry w (event.Admin guest) fetched mine = mine tt
quiet-others geometry w (event.Take guest queue lane) fetched mine = mine tt
quiet-others geometry w (event.List lane tag addr len) fetched mine = mine tt
quiet-others geometry w (event.Submit lane tag) fetched mine = mine tt
quiet-others geometry w (event.GiveUp lane tag) fetched mine = mine tt
quiet-others geometry w (event.DevTake lane) fetched mine = Quiet refl
quiet-others geometry w (event.DevMove lane slot number) fetched mine = Quiet refl
quiet-others geometry w (event.DevPost lane slot) fetched mine = Quiet refl
quiet-others geometry w (event.DevFail lane slot st) fetched mine = Quiet refl
quiet-others geometry w (event.Keep block) fetched mine = Quiet refl
quiet-others geometry w (event.Reap lane) fetched mine = mine tt
quiet-others geometry w (event.Post lane tag) fetched mine = mine tt
