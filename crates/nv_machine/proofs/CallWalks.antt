-- The ways through a call: what holds of the call as it is under way, and where something is done holds behind that, holds behind the call.
use Rattle.std.proofs.Common.{◌≡◌, ℕ, Bool, true, false, cond, ◌==◌, List, [], ◌∷◌, slice_get, Option, Some, None, eqb-true, refl, subst}
use Rattle.nv_entry.specs.Status.{StatusField}
use Rattle.nv_laws_sound.specs.Side.{Side}
use Rattle.nv_machine.specs.Doing.{Called, Doing, for_ended, for_leader, for_one, for_owner, for_taken, owner_in, tag_put, tags_put}
use Rattle.nv_model.specs.Controller.{Controller}
use Rattle.nv_model.specs.Transcript.{ReadDone}
use Rattle.nv_world_model.specs.Geometry.{Geometry, Guest}
use Rattle.nv_world_model.specs.Seat.{Owner, owner_by}
use Rattle.nv_world_model.specs.Share.{Share}
use Rattle.nv_world_model.specs.World.{Command, Ended, Flying, Free, Tag, Taken}

-- ---- who is named

-- who is named is a guest of the geometry, and has a controller
pub record IsNamed (geometry : Geometry) (s : Side) (number : ℕ) (o : Owner) : Type 0 where
  pub same : number ≡ o.number
  pub given : slice_get geometry.guests o.number ≡ Some o.given
  pub controller : slice_get s.controllers o.number ≡ Some o.controller

owner_by-named : (number : ℕ) (g : Option Guest) (c : Option Controller) (o : Owner) → owner_by number g c ≡ Some o
    → (number ≡ o.number) × ((g ≡ Some o.given) × (c ≡ Some o.controller))
owner_by-named number None c o e = cc
owner_by-named number (Some guest) None o e = cc
owner_by-named number (Some guest) (Some c) o e = (cc, (cc, cc))

pub owner_in-named : (geometry : Geometry) (s : Side) (number : ℕ) (o : Owner) → owner_in geometry s number ≡ Some o → IsNamed geometry s number o
owner_in-named geometry s number o e =
    (let found = owner_by-named number (slice_get geometry.guests number) (slice_get s.controllers number) o e in
    record {
      same = found.0;
      given = subst (λ n. slice_get geometry.guests n ≡ Some o.given) found.0 found.1.0;
      controller = subst (λ n. slice_get s.controllers n ≡ Some o.controller) found.0 found.1.1;
    })

-- ---- the ways

module _ (P : Doing → Type 0) (m : Doing) (holds : P m) where
  pub either : (b : Bool) (x y : Called) → (b ≡ true → P x.now) → (b ≡ false → P y.now) → P (cond b x y).now
  either true x y so not_so = so refl
  either false x y so not_so = not_so refl

  pub one-walk : {A : Type 0} (found : Option A) (more : A → Called) → ((a : A) → found ≡ Some a → P (more a).now) → P (for_one found m more).now
  one-walk None more rest = holds
  one-walk (Some a) more rest = rest a refl

  pub owner-walk : (found : Option Owner) (more : Owner → Called) → ((o : Owner) → found ≡ Some o → P (more o).now) → P (for_owner found m more).now
  owner-walk None more rest = holds
  owner-walk (Some o) more rest = rest o refl

  leader-walk : (tag : ℕ) (command : Command) (done : Called) → (command.leader ≡ tag → P done.now) → P (for_leader tag command m done).now
  leader-walk tag command done rest =
      either (command.leader == tag) done _ (λ same. rest (eqb-true command.leader tag same)) (λ other. holds)

  pub taken-walk : (tag : ℕ) (found : Option Tag) (more : Command → List ReadDone → Called)
      → ((command : Command) (reads : List ReadDone) → found ≡ Some (Taken command reads) → command.leader ≡ tag → P (more command reads).now)
      → P (for_taken tag found m more).now
  taken-walk tag None more rest = holds
  taken-walk tag (Some Free) more rest = holds
  taken-walk tag (Some (Taken command reads)) more rest = leader-walk tag command (more command reads) (λ leads. rest command reads refl leads)
  taken-walk tag (Some (Flying command share standing)) more rest = holds
  taken-walk tag (Some (Ended command st share)) more rest = holds

  pub ended-walk : (tag : ℕ) (found : Option Tag) (more : Command → Called)
      → ((command : Command) (st : StatusField) (share : Option Share) → found ≡ Some (Ended command st share) → command.leader ≡ tag
      → P (more command).now) → P (for_ended tag found m more).now
  ended-walk tag None more rest = holds
  ended-walk tag (Some Free) more rest = holds
  ended-walk tag (Some (Taken command reads)) more rest = holds
  ended-walk tag (Some (Flying command share standing)) more rest = holds
  ended-walk tag (Some (Ended command st share)) more rest = leader-walk tag command (more command) (λ leads. rest command st share refl leads)

-- what one tag's change keeps, that of several does
pub tags_put-keeps : (P : Doing → Type 0) (lane : ℕ) (t : Tag) → ((m : Doing) (tag : ℕ) → P m → P (tag_put lane tag t m)) → (tags : List ℕ) (m : Doing)
    → P m → P (tags_put lane tags t m)
unfolding tags_put
tags_put-keeps P lane t each [] m holds = holds
tags_put-keeps P lane t each (tag ∷ tags) m holds = tags_put-keeps P lane t each tags (tag_put lane tag t m) (each m tag holds)
