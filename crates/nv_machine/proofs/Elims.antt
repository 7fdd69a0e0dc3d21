-- What holds in each case of a call holds of the call.
use Rattle.std.proofs.Common.{◌≡◌, ℕ, Bool, true, false, cond, ◌==◌, List, Option, Some, None, refl}
use Rattle.nv_entry.specs.Status.{StatusField}
use Rattle.nv_machine.specs.Doing.{Called, Doing, for_ended, for_one, for_owner, for_taken, replied}
use Rattle.nv_model.specs.Controller.{Controller}
use Rattle.nv_model.specs.Transcript.{ReadDone}
use Rattle.nv_model.specs.declared.reply.Reply.{Reply}
use Rattle.nv_world_model.specs.Geometry.{Guest}
use Rattle.nv_world_model.specs.Seat.{Owner, owner_by}
use Rattle.nv_world_model.specs.Share.{Share}
use Rattle.nv_world_model.specs.World.{Command, Ended, Flying, Free, Tag, Taken}

-- the owner is what it was given
pub owner-given : (number : ℕ) (g : Option Guest) (c : Option Controller) (o : Owner) → owner_by number g c ≡ Some o → g ≡ Some o.given
owner-given number None c o is = cc
owner-given number (Some guest) None o is = cc
owner-given number (Some guest) (Some c) o is = cc

module _ (P : Called → Type 0) (m : Doing) (none : (r : Reply) → P (replied r m)) where
  pub each-cond : (b : Bool) (c : Called) → (b ≡ true → P c) → (r : Reply) → P (cond b c (replied r m))
  each-cond true c so r = so refl
  each-cond false c so r = none r

  pub each-one : {A : Type 0} (o : Option A) (k : A → Called) → ((x : A) → o ≡ Some x → P (k x)) → P (for_one o m k)
  each-one None k each = none _
  each-one (Some x) k each = each x refl

  pub each-owner : (o : Option Owner) (k : Owner → Called) → ((x : Owner) → o ≡ Some x → P (k x)) → P (for_owner o m k)
  each-owner None k each = none _
  each-owner (Some x) k each = each x refl

  pub each-taken : (tag : ℕ) (t : Option Tag) (k : Command → List ReadDone → Called)
      → ((command : Command) (reads : List ReadDone) → t ≡ Some (Taken command reads) → P (k command reads)) → P (for_taken tag t m k)
  each-taken tag None k each = none _
  each-taken tag (Some Free) k each = none _
  each-taken tag (Some (Taken command reads)) k each = each-cond (command.leader == tag) (k command reads) (λ leads. each command reads refl) _
  each-taken tag (Some (Flying command share standing)) k each = none _
  each-taken tag (Some (Ended command st share)) k each = none _

  pub each-ended : (tag : ℕ) (t : Option Tag) (k : Command → Called)
      → ((command : Command) (st : StatusField) (share : Option Share) → t ≡ Some (Ended command st share) → P (k command)) → P (for_ended tag t m k)
  each-ended tag None k each = none _
  each-ended tag (Some Free) k each = none _
  each-ended tag (Some (Taken command reads)) k each = none _
  each-ended tag (Some (Flying command share standing)) k each = none _
  each-ended tag (Some (Ended command st share)) k each = each-cond (command.leader == tag) (k command) (λ leads. each command st share refl) _
