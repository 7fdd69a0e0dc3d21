-- The tag of a share of a guest's command stands elsewhere now, and what has come of the share is the same: the guest's private controller stands for
-- the world still.
use Rattle.std.proofs.Common.{◌≡◌, ℕ, ◌<◌, ◌⊎◌, inl, inr, true, false, cond, ◌==◌, slice_get, Option, Some, None, arith, refl, sym, ap, ◌∙◌, eq-eqb, eqb-true, subst}
use Rattle.std.proofs.lemmas.Bool.{cases_eq, ne_eqb}
use Rattle.nv_model.specs.Memory.{image}
use Rattle.nv_model.specs.Private.{Private}
use Rattle.nv_world_model.specs.Area.{bounce_page, tag_count}
use Rattle.nv_world_model.specs.Device.{Held}
use Rattle.nv_world_model.specs.Geometry.{Geometry, Guest, regions_of}
use Rattle.nv_world_model.specs.Share.{Share}
use Rattle.nv_world_model.specs.Seat.{member_in, members, name_of, rest_at, rests_of, tag_rest}
use Rattle.nv_world_model.specs.View.{own_held, own_tag}
use Rattle.nv_world_model.specs.World.{Command, Flying, Standing, Tag, World, tag_of}
use Rattle.nv_laws_sound.specs.Groups.{part_of}
use Rattle.nv_laws_sound.proofs.CountedActs.{HasLane, lane-of}
use Rattle.nv_laws_sound.proofs.Folds.{tag-part}
use Rattle.nv_laws.specs.Leaving.{IsBytes}
use Rattle.nv_laws.proofs.others.Behind.{IsRetagged}
use Rattle.nv_laws.specs.Following.{IsReached}
use Rattle.nv_laws.specs.Related.{IsTagRelated, Related, hides}
use Rattle.nv_laws.proofs.related.Rests.{led, rests-by}
use Rattle.nv_laws.proofs.related.Retold.{IsRetold, members-of, retag-related}
use Rattle.nv_laws.proofs.related.Tags.{own-as, put-same, tag-below}
use Rattle.nv_laws.proofs.related.Views.{device_of, own-there, rest-kept, status-left, status_in}

module _ (host_bytes : ℕ) (geometry : Geometry) (number : ℕ) (guest : Guest) (given : slice_get geometry.guests number ≡ Some guest)
    (w : World) (reached : IsReached host_bytes geometry w) (lane tag : ℕ) (command : Command) (share : Share) (before after : Standing)
    (there : tag_of w lane tag ≡ Some (Flying command share before)) (mine : (command.guest == number) ≡ true) (held now_held : Option Held) (z : World)
    (changed : IsRetagged lane tag (Flying command share after) w z) (held_is : device_of w lane tag ≡ held) (now_is : device_of z lane tag ≡ now_held)
    (bytes : (a b : ℕ) (t : Tag) (addr : ℕ) → ((a ≡ lane) → (b ≡ tag) → ⊥) → tag_of w a b ≡ Some t → IsBytes geometry.mediator a b t addr
    → w.host addr ≡ z.host addr) where
  abbrev pub was : Tag
  was = Flying command share before

  abbrev pub now : Tag
  now = Flying command share after

  abbrev pub bounce : ℕ
  bounce = bounce_page geometry.mediator lane tag

  away-as : (a b : ℕ) → ((a ≡ lane) → (b == tag) ≡ true → ⊥) → (a ≡ lane) → (b ≡ tag) → ⊥
  away-as a b away same also = away same (eq-eqb b tag also)

  -- ---- the group

  -- the command goes by the tag that it went by
  pub led-kept : (other b : ℕ) → led other (tag_of w lane b) ≡ led other (tag_of z lane b)
  led-kept other b =
      elim (cases_eq b tag) [
        | inl same ↦ subst (λ n. led other (tag_of w lane n) ≡ led other (tag_of z lane n)) (sym same) (ap (led other) there ∙ sym (ap (led other) changed.here))
        | inr apart ↦ ap (led other) (sym (changed.tags lane b (λ same also. apart also)))
      ]

  led-only : (other b : ℕ) → (b == tag) ≡ true → (other ≡ command.leader → ⊥) → led other (tag_of w lane b) ≡ false
  led-only other b is apart =
      subst (λ n. led other (tag_of w lane n) ≡ false) (sym (eqb-true b tag is)) (ap (led other) there ∙ ne_eqb command.leader other (λ same. apart (sym same)))

  tag_below : (p : Private) → Related geometry number guest w p → tag < tag_count
  tag_below p related = tag-below host_bytes geometry number guest given w reached p related lane tag was there

  pub leader-below : (p : Private) → Related geometry number guest w p → command.leader < tag_count
  leader-below p related =
      let l : HasLane w lane tag was = lane-of w lane tag was there in
      let m = reached.consistent.groups lane l.l l.at tag (part_of was) command (tag-part l.l.tags tag was l.found) refl in
      let low = m.low in
      let high = tag_below p related in
      omega (arith, low, high)

  -- ---- what has come of it

  pub rest-away : (b : ℕ) (t : Tag) → (b ≡ tag → ⊥) → tag_of w lane b ≡ Some t → rest_at geometry w lane b ≡ rest_at geometry z lane b
  unfolding rest_at
  rest-away b t apart here =
      ap (λ o. tag_rest o (device_of w lane b) (status_in geometry w lane)) here
      ∙ rest-kept t (device_of w lane b) (status_in geometry w lane) (status_in geometry z lane)
      (λ at stands. status-left geometry w z lane b at t (λ addr by. bytes lane b t addr (λ same also. apart also) here by) stands)
      ∙ ap (λ h. tag_rest (Some t) h (status_in geometry z lane)) (sym (changed.held lane b (λ same also. apart also)))
      ∙ sym (ap (λ o. tag_rest o (device_of z lane b) (status_in geometry z lane)) (changed.tags lane b (λ same also. apart also) ∙ here))

  pub rest-was : rest_at geometry w lane tag ≡ tag_rest (Some was) held (status_in geometry w lane)
  unfolding rest_at
  rest-was =
      ap (λ o. tag_rest o (device_of w lane tag) (status_in geometry w lane)) there
      ∙ ap (λ h. tag_rest (Some was) h (status_in geometry w lane)) held_is

  pub rest-now : rest_at geometry z lane tag ≡ tag_rest (Some now) now_held (status_in geometry z lane)
  unfolding rest_at
  rest-now =
      ap (λ o. tag_rest o (device_of z lane tag) (status_in geometry z lane)) changed.here
      ∙ ap (λ h. tag_rest (Some now) h (status_in geometry z lane)) now_is

  rests-as : rest_at geometry w lane tag ≡ rest_at geometry z lane tag
      → rests_of geometry w lane command.leader ≡ rests_of geometry z lane command.leader
  rests-as here =
      rests-by geometry w z lane command.leader (led-kept command.leader)
      (λ b goes. elim (cases_eq b tag) [
        | inl same ↦ subst (λ n. rest_at geometry w lane n ≡ rest_at geometry z lane n) (sym same) here
        | inr apart ↦ by_tag b apart (tag_of w lane b) refl goes
      ])
    where
      by_tag : (b : ℕ) → (b ≡ tag → ⊥) → (o : Option Tag) → tag_of w lane b ≡ o → led command.leader o ≡ true → rest_at geometry w lane b ≡ rest_at geometry z lane b
      by_tag b apart None is goes = cc
      by_tag b apart (Some t) is goes = rest-away b t apart is

  -- ---- nothing else has changed

  module _ (p : Private) (related : Related geometry number guest w p) (same : image (regions_of guest) w.host ≡ image (regions_of guest) z.host)
      (disk : z.disk ≡ w.disk) (kept : z.kept ≡ w.kept) (controllers : z.controllers ≡ w.controllers) where
    retold : IsRetold geometry number guest lane command.leader (λ b. b == tag) w z
    retold =
        record {
          tags = (λ a b away. changed.tags a b (away-as a b away));
          held = (λ a b away. changed.held a b (away-as a b away));
          before = (λ b other is apart. led-only other b is apart);
          behind = (λ b other is apart. sym (led-kept other b) ∙ led-only other b is apart);
          bytes = (λ a b t addr away own by. bytes a b t addr (away-as a b away) (own-there number (tag_of w a b) t own).0 by);
          memory = same;
          disk = disk;
          kept = kept;
        }

    first-as : (b : ℕ) → (b ≡ tag) ⊎ (b ≡ tag → ⊥)
        → member_in (tag_of w lane b) b number (rests_of geometry z lane command.leader) ≡ member_in (tag_of z lane b) b number (rests_of geometry z lane command.leader)
    first-as b (inl here) =
        subst (λ n. member_in (tag_of w lane n) n number (rests_of geometry z lane command.leader) ≡ member_in (tag_of z lane n) n number (rests_of geometry z lane command.leader)) (sym here)
        (ap (λ o. member_in o tag number (rests_of geometry z lane command.leader)) there
        ∙ sym (ap (λ o. member_in o tag number (rests_of geometry z lane command.leader)) changed.here))
    first-as b (inr apart) = ap (λ o. member_in o b number (rests_of geometry z lane command.leader)) (sym (changed.tags lane b (λ here also. apart also)))

    member-as : rest_at geometry w lane tag ≡ rest_at geometry z lane tag → members geometry w number (name_of lane command.leader)
        ≡ member_in (tag_of z lane command.leader) command.leader number (rests_of geometry z lane command.leader)
    member-as here =
        members-of geometry w number lane command.leader (leader-below p related)
        ∙ ap (λ rests. member_in (tag_of w lane command.leader) command.leader number rests) (rests-as here)
        ∙ first-as command.leader (cases_eq command.leader tag)

    -- in the world before, and in that behind
    before-is : IsTagRelated (Some was) guest held (status_in geometry w lane) bounce w.host p.memory
    before-is =
        subst (λ h. IsTagRelated (Some was) guest h (status_in geometry w lane) bounce w.host p.memory)
        (ap (λ o. own_held number o (device_of w lane tag)) there ∙ ap (λ b. cond b (device_of w lane tag) None) mine ∙ held_is)
        (subst (λ o. IsTagRelated o guest (own_held number (tag_of w lane tag) (device_of w lane tag)) (status_in geometry w lane) bounce w.host p.memory)
        (ap (own_tag number) there ∙ ap (λ b. cond b (Some was) None) mine) (related.tags lane tag))

    held-now : own_held number (tag_of z lane tag) (device_of z lane tag) ≡ now_held
    held-now = ap (λ o. own_held number o (device_of z lane tag)) changed.here ∙ ap (λ b. cond b (device_of z lane tag) None) mine ∙ now_is

    hides-was : (addr : ℕ) → hides (own_tag number (tag_of w lane tag)) (own_held number (tag_of w lane tag) (device_of w lane tag)) addr ≡ hides (Some was) held addr
    hides-was addr =
        ap (λ h. hides (own_tag number (tag_of w lane tag)) h addr)
        (ap (λ o. own_held number o (device_of w lane tag)) there ∙ ap (λ b. cond b (device_of w lane tag) None) mine ∙ held_is)
        ∙ ap (λ o. hides o held addr) (ap (own_tag number) there ∙ ap (λ b. cond b (Some was) None) mine)

    hides-now : (addr : ℕ) → hides (own_tag number (tag_of z lane tag)) (own_held number (tag_of z lane tag) (device_of z lane tag)) addr ≡ hides (Some now) now_held addr
    hides-now addr =
        ap (λ h. hides (own_tag number (tag_of z lane tag)) h addr) held-now
        ∙ ap (λ o. hides o now_held addr) (ap (own_tag number) changed.here ∙ ap (λ b. cond b (Some now) None) mine)

    pub retagged : tag_rest (Some was) held (status_in geometry w lane) ≡ tag_rest (Some now) now_held (status_in geometry z lane)
        → ((addr : ℕ) → hides (Some now) now_held addr ≡ false → hides (Some was) held addr ≡ false)
        → (IsTagRelated (Some was) guest held (status_in geometry w lane) bounce w.host p.memory
        → IsTagRelated (Some now) guest now_held (status_in geometry z lane) bounce z.host p.memory)
        → Related geometry number guest z p
    retagged rest hidden one =
        subst (λ bag. Related geometry number guest z (record p { bag = bag })) (put-same p.bag (name_of lane command.leader))
        (retag-related geometry number guest w z reached.consistent lane command.leader (λ b. b == tag) (leader-below p related) retold p related
        (p.bag (name_of lane command.leader)) p.controller (ap (λ cs. slice_get cs number) controllers ∙ related.controller)
        (λ b addr is none.
        subst (λ n. hides (own_tag number (tag_of w lane n)) (own_held number (tag_of w lane n) (device_of w lane n)) addr ≡ false) (sym (eqb-true b tag is))
        (hides-was addr
        ∙ hidden addr
        (sym (hides-now addr)
        ∙ subst (λ n. hides (own_tag number (tag_of z lane n)) (own_held number (tag_of z lane n) (device_of z lane n)) addr ≡ false) (eqb-true b tag is) none)))
        (related.bag (name_of lane command.leader) ∙ member-as (rest-was ∙ rest ∙ sym rest-now))
        (λ b is.
        subst (λ n. IsTagRelated (own_tag number (tag_of z lane n)) guest (own_held number (tag_of z lane n) (device_of z lane n)) (status_in geometry z lane)
        (bounce_page geometry.mediator lane n) z.host p.memory) (sym (eqb-true b tag is))
        (subst (λ h. IsTagRelated (own_tag number (tag_of z lane tag)) guest h (status_in geometry z lane) bounce z.host p.memory) (sym held-now)
        (own-as number (tag_of z lane tag) now (λ o. IsTagRelated o guest now_held (status_in geometry z lane) bounce z.host p.memory) changed.here mine (one before-is)))))
