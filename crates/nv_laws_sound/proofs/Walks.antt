-- The ways through a step: what holds of the world as it is, and where something is done of the world behind, holds behind the step.
use Rattle.std.proofs.Common.{◌≡◌, ℕ, Bool, true, false, cond, ◌==◌, List, Option, Some, None, refl, eqb-true}
use Rattle.nv_entry.specs.Status.{StatusField}
use Rattle.nv_model.specs.Transcript.{ReadDone}
use Rattle.nv_model.specs.declared.reply.Reply.TheVariants as reply
use Rattle.nv_world_model.specs.Device.{DeviceLane, Held}
use Rattle.nv_world_model.specs.Share.{Share}
use Rattle.nv_world_model.specs.Seat.{Owner}
use Rattle.nv_world_model.specs.Step.{After, for_one, for_ended, for_held, for_leader, for_owner, for_taken, replied}
use Rattle.nv_world_model.specs.World.{Command, Ended, Flying, Free, Lane, Tag, Taken, World}

module _ (P : World → Type 0) (w : World) (holds : P w) where
  pub either : (b : Bool) (x y : After) → (b ≡ true → P x.world) → (b ≡ false → P y.world) → P (cond b x y).world
  either true x y so not_so = so refl
  either false x y so not_so = not_so refl

  pub guest-walk : (found : Option Owner) (more : Owner → After) → ((o : Owner) → found ≡ Some o → P (more o).world) → P (for_one found w more).world
  guest-walk None more rest = holds
  guest-walk (Some o) more rest = rest o refl

  pub owner-walk : (found : Option Owner) (more : Owner → After) → ((o : Owner) → found ≡ Some o → P (more o).world) → P (for_owner found w more).world
  owner-walk None more rest = holds
  owner-walk (Some o) more rest = rest o refl

  pub lane-walk : (found : Option Lane) (more : Lane → After) → ((l : Lane) → found ≡ Some l → P (more l).world) → P (for_one found w more).world
  lane-walk None more rest = holds
  lane-walk (Some l) more rest = rest l refl

  pub device-walk : (found : Option DeviceLane) (more : DeviceLane → After) → ((d : DeviceLane) → found ≡ Some d → P (more d).world)
      → P (for_one found w more).world
  device-walk None more rest = holds
  device-walk (Some d) more rest = rest d refl

  -- a command is found by the tag that it goes by alone
  leader-walk : (tag : ℕ) (command : Command) (done : After) → (command.leader ≡ tag → P done.world) → P (for_leader tag command w done).world
  leader-walk tag command done rest =
      either (command.leader == tag) done (replied reply.Stale w) (λ same. rest (eqb-true command.leader tag same)) (λ other. holds)

  pub taken-walk : (tag : ℕ) (found : Option Tag) (more : Command → List ReadDone → After)
      → ((command : Command) (reads : List ReadDone) → found ≡ Some (Taken command reads) → command.leader ≡ tag → P (more command reads).world)
      → P (for_taken tag found w more).world
  taken-walk tag None more rest = holds
  taken-walk tag (Some Free) more rest = holds
  taken-walk tag (Some (Taken command reads)) more rest = leader-walk tag command (more command reads) (λ leads. rest command reads refl leads)
  taken-walk tag (Some (Flying command share standing)) more rest = holds
  taken-walk tag (Some (Ended command st share)) more rest = holds

  pub ended-walk : (tag : ℕ) (found : Option Tag) (more : Command → After)
      → ((command : Command) (st : StatusField) (share : Option Share) → found ≡ Some (Ended command st share) → command.leader ≡ tag
      → P (more command).world) → P (for_ended tag found w more).world
  ended-walk tag None more rest = holds
  ended-walk tag (Some Free) more rest = holds
  ended-walk tag (Some (Taken command reads)) more rest = holds
  ended-walk tag (Some (Flying command share standing)) more rest = holds
  ended-walk tag (Some (Ended command st share)) more rest = leader-walk tag command (more command) (λ leads. rest command st share refl leads)

  pub held-walk : (found : Option (Option Held)) (more : Held → After) → ((h : Held) → found ≡ Some (Some h) → P (more h).world)
      → P (for_held found w more).world
  held-walk None more rest = holds
  held-walk (Some None) more rest = holds
  held-walk (Some (Some h)) more rest = rest h refl
