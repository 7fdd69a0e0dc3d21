-- The ways through a step: what holds of the world as it is with each reply that tells of no change, and where something is done of what comes of
-- it, holds of what comes of the step.
use Rattle.std.proofs.Common.{◌≡◌, ℕ, ◌==◌, Bool, true, false, cond, List, Option, Some, None, refl}
use Rattle.nv_entry.specs.Status.{StatusField}
use Rattle.nv_model.specs.Transcript.{ReadDone}
use Rattle.nv_model.specs.declared.reply.Reply.{Reply}
use Rattle.nv_model.specs.declared.reply.Reply.TheVariants as reply
use Rattle.nv_world_model.specs.Device.{DeviceLane, Held}
use Rattle.nv_world_model.specs.Share.{Share}
use Rattle.nv_world_model.specs.Seat.{Owner}
use Rattle.nv_world_model.specs.Step.{After, for_one, for_ended, for_held, for_leader, for_owner, for_taken, is_telling, replied}
use Rattle.nv_world_model.specs.World.{Command, Ended, Flying, Free, Lane, Tag, Taken, World}

module _ (P : After → Type 0) (w : World) (dull : (r : Reply) → is_telling r ≡ false → P (replied r w)) where
  pub either-way : (b : Bool) (x y : After) → (b ≡ true → P x) → (b ≡ false → P y) → P (cond b x y)
  either-way true x y so not_so = so refl
  either-way false x y so not_so = not_so refl

  pub guest-way : (found : Option Owner) (more : Owner → After) → ((o : Owner) → found ≡ Some o → P (more o)) → P (for_one found w more)
  guest-way None more rest = dull reply.Ignored refl
  guest-way (Some o) more rest = rest o refl

  pub owner-way : (found : Option Owner) (more : Owner → After) → ((o : Owner) → found ≡ Some o → P (more o)) → P (for_owner found w more)
  owner-way None more rest = dull reply.Stale refl
  owner-way (Some o) more rest = rest o refl

  pub lane-way : (found : Option Lane) (more : Lane → After) → ((l : Lane) → found ≡ Some l → P (more l)) → P (for_one found w more)
  lane-way None more rest = dull reply.Ignored refl
  lane-way (Some l) more rest = rest l refl

  pub device-way : (found : Option DeviceLane) (more : DeviceLane → After) → ((d : DeviceLane) → found ≡ Some d → P (more d))
      → P (for_one found w more)
  device-way None more rest = dull reply.Ignored refl
  device-way (Some d) more rest = rest d refl

  pub leader-way : (tag : ℕ) (command : Command) (done : After) → ((command.leader == tag) ≡ true → P done) → P (for_leader tag command w done)
  leader-way tag command done rest = either-way (command.leader == tag) done (replied reply.Stale w) rest (λ other. dull reply.Stale refl)

  pub taken-way : (tag : ℕ) (found : Option Tag) (more : Command → List ReadDone → After)
      → ((command : Command) (reads : List ReadDone) → found ≡ Some (Taken command reads) → (command.leader == tag) ≡ true → P (more command reads))
      → P (for_taken tag found w more)
  taken-way tag None more rest = dull reply.Ignored refl
  taken-way tag (Some Free) more rest = dull reply.Stale refl
  taken-way tag (Some (Taken command reads)) more rest = leader-way tag command (more command reads) (λ leads. rest command reads refl leads)
  taken-way tag (Some (Flying command share standing)) more rest = dull reply.Stale refl
  taken-way tag (Some (Ended command st share)) more rest = dull reply.Stale refl

  pub ended-way : (tag : ℕ) (found : Option Tag) (more : Command → After)
      → ((command : Command) (st : StatusField) (share : Option Share) → found ≡ Some (Ended command st share) → (command.leader == tag) ≡ true → P (more command))
      → P (for_ended tag found w more)
  ended-way tag None more rest = dull reply.Ignored refl
  ended-way tag (Some Free) more rest = dull reply.Stale refl
  ended-way tag (Some (Taken command reads)) more rest = dull reply.Stale refl
  ended-way tag (Some (Flying command share standing)) more rest = dull reply.Stale refl
  ended-way tag (Some (Ended command st share)) more rest = leader-way tag command (more command) (λ leads. rest command st share refl leads)

  pub held-way : (found : Option (Option Held)) (more : Held → After) → ((h : Held) → found ≡ Some (Some h) → P (more h)) → P (for_held found w more)
  held-way None more rest = dull reply.Ignored refl
  held-way (Some None) more rest = dull reply.Idle refl
  held-way (Some (Some h)) more rest = rest h refl
