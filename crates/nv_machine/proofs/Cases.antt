-- A call and the world's step go by the same cases.
use Rattle.std.proofs.Common.{◌≡◌, ℕ, Bool, true, false, cond, ◌==◌, List, slice_get, Option, Some, None, eqb-true, refl}
use Rattle.nv_entry.specs.Status.{StatusField}
use Rattle.nv_machine.specs.Doing.{Called, Doing, for_ended, for_leader, for_one, for_owner, for_taken, replied}
use Rattle.nv_machine.specs.InWorld.{in_world}
use Rattle.nv_machine.proofs.InWorlds.{Is}
use Rattle.nv_model.specs.Transcript.{ReadDone}
use Rattle.nv_model.specs.declared.reply.Reply.{Reply}
use Rattle.nv_world_model.specs.Seat.{Owner}
use Rattle.nv_world_model.specs.Share.{Share}
use Rattle.nv_world_model.specs.Step as step
use Rattle.nv_world_model.specs.World.{Command, Ended, Flying, Free, Lane, Tag, Taken, World, tag_in}

-- the lane of a tag
pub tag-lane : (o : Option Lane) (tag : ℕ) (t : Tag) → tag_in o tag ≡ Some t → (l : Lane) × ((o ≡ Some l) × (slice_get l.tags tag ≡ Some t))
tag-lane None tag t e = cc
tag-lane (Some l) tag t e = (l, (refl, e))

module _ (w : World) (m : Doing) where
  pub both-replied : (r : Reply) → Is w (replied r m) (step.replied r (in_world w m))
  both-replied r = refl

  pub both-cond : (b : Bool) (c d : Called) (a e : step.After) → (b ≡ true → Is w c a) → (b ≡ false → Is w d e) → Is w (cond b c d) (cond b a e)
  both-cond true c d a e so not_so = so refl
  both-cond false c d a e so not_so = not_so refl

  pub both-one : {A : Type 0} (o : Option A) (k : A → Called) (j : A → step.After) → ((x : A) → o ≡ Some x → Is w (k x) (j x))
      → Is w (for_one o m k) (step.for_one o (in_world w m) j)
  both-one None k j each = refl
  both-one (Some x) k j each = each x refl

  pub both-owner : (o : Option Owner) (k : Owner → Called) (j : Owner → step.After) → ((x : Owner) → o ≡ Some x → Is w (k x) (j x))
      → Is w (for_owner o m k) (step.for_owner o (in_world w m) j)
  both-owner None k j each = refl
  both-owner (Some x) k j each = each x refl

  pub both-leader : (tag : ℕ) (command : Command) (c : Called) (a : step.After) → (command.leader ≡ tag → Is w c a)
      → Is w (for_leader tag command m c) (step.for_leader tag command (in_world w m) a)
  both-leader tag command c a so =
      both-cond (command.leader == tag) c (replied _ m) a (step.replied _ (in_world w m)) (λ e. so (eqb-true command.leader tag e)) (λ e. refl)

  pub both-taken : (tag : ℕ) (t : Option Tag) (k : Command → List ReadDone → Called) (j : Command → List ReadDone → step.After)
      → ((command : Command) (reads : List ReadDone) → t ≡ Some (Taken command reads) → command.leader ≡ tag → Is w (k command reads) (j command reads))
      → Is w (for_taken tag t m k) (step.for_taken tag t (in_world w m) j)
  both-taken tag None k j each = refl
  both-taken tag (Some Free) k j each = refl
  both-taken tag (Some (Taken command reads)) k j each =
      both-leader tag command (k command reads) (j command reads) (λ leads. each command reads refl leads)
  both-taken tag (Some (Flying command share standing)) k j each = refl
  both-taken tag (Some (Ended command st share)) k j each = refl

  pub both-ended : (tag : ℕ) (t : Option Tag) (k : Command → Called) (j : Command → step.After)
      → ((command : Command) (st : StatusField) (share : Option Share) → t ≡ Some (Ended command st share) → command.leader ≡ tag
      → Is w (k command) (j command))
      → Is w (for_ended tag t m k) (step.for_ended tag t (in_world w m) j)
  both-ended tag None k j each = refl
  both-ended tag (Some Free) k j each = refl
  both-ended tag (Some (Taken command reads)) k j each = refl
  both-ended tag (Some (Flying command share standing)) k j each = refl
  both-ended tag (Some (Ended command st share)) k j each =
      both-leader tag command (k command) (j command) (λ leads. each command st share refl leads)
