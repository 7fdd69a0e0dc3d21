-- The private controller of a guest goes along with a unit of a share of the guest's own command, where its memory behind the unit stands for the
-- world's.
use Rattle.std.proofs.Common.{◌≡◌, ℕ, ◌+◌, ◌/◌, ◌%◌, ◌<◌, inl, inr, Bool, true, false, cond, ◌||◌, ◌==◌, List, [], ◌∷◌, ◌++◌, All, filter, length, map, set}
use Rattle.std.proofs.Common.{slice_get, Option, Some, None, arith, refl, sym, ap, ◌∙◌, eq-eqb, eqb-true, subst}
use Rattle.std.specs.List.{list_any}
use Rattle.std.proofs.lemmas.Bool.{cases_eq}
use Rattle.nv_mem.specs.GuestMap.{mapped}
use Rattle.nv_model.proofs.Bags.{put-elsewhere, put-here}
use Rattle.nv_model.specs.Carried.{units_moved}
use Rattle.nv_model.specs.Carrying.{at_work}
use Rattle.nv_model.specs.Judge.{Work}
use Rattle.nv_model.specs.Limits.{most_bytes}
use Rattle.nv_model.specs.Memory.{image}
use Rattle.nv_model.specs.Private.{AtWork, MoveStep, Moved, Private, Progress, Taken as Member, numbers_of, others, put, run_of}
use Rattle.nv_model.specs.declared.reply.Reply.TheVariants as reply
use Rattle.nv_world_model.specs.declared.event.Event.TheVariants as event
use Rattle.nv_world_model.specs.Area.{bounce_page, tag_count}
use Rattle.nv_world_model.specs.Device.{DeviceLane, Held, device_unit, unit_gone, with_held}
use Rattle.nv_world_model.specs.Geometry.{Geometry, Guest, regions_of, shape_of}
use Rattle.nv_world_model.specs.Share.{Share}
use Rattle.nv_world_model.specs.Seat.{Rest, held_by, held_in, member_in, members, name_of, numbers_behind, rest, rest_at, rests_of, tag_rest, work_of}
use Rattle.nv_world_model.specs.Seat.{work_progress}
use Rattle.nv_world_model.specs.Step.{device_moved, replied}
use Rattle.nv_world_model.specs.View.{own_held, own_tag}
use Rattle.nv_world_model.specs.World.{Command, Flying, InDevice, Lane, Tag, World, changed_at, group, tag_in, tag_of}
use Rattle.nv_world_model.proofs.Seats.{slice_get-set}
use Rattle.nv_laws_sound.specs.Area.{SameBetween}
use Rattle.nv_laws_sound.specs.Consistent.{IsPlanned}
use Rattle.nv_laws_sound.proofs.Lists.{set-same}
use Rattle.nv_laws_sound.proofs.MoveEvents.{moved-elsewhere, moved-undisturbed}
use Rattle.nv_laws.specs.Leaving.{IsBytes}
use Rattle.nv_laws.proofs.others.Behind.{IsRetagged, retagged-by}
use Rattle.nv_laws.proofs.others.Leaving.{bytes-elsewhere}
use Rattle.nv_laws.proofs.others.Parts.{held-put}
use Rattle.nv_laws.specs.Following.{GoesAlong, IsReached}
use Rattle.nv_laws.specs.Related.{IsTagRelated, NoneHides, Related, hides}
use Rattle.nv_laws.proofs.related.Rests.{led, member-rests, rests-by}
use Rattle.nv_laws.proofs.related.Retold.{members-of}
use Rattle.nv_laws.proofs.related.Tags.{own-as, tag-below}
use Rattle.nv_laws.proofs.related.Views.{device_of, page-left, rest-kept, status-left, status_in}
use Rattle.nv_laws.specs.Units.{IsHeld, SameBlocks, left_without, own_of, own_units, whole_of}
use Rattle.nv_laws.proofs.units.Events.{own-steps, run-from}
use Rattle.nv_laws.proofs.units.InWorld.{parts}
use Rattle.nv_laws.proofs.units.LeftThere.{numbers-there}
use Rattle.nv_laws.proofs.units.Progress.{differed-before, in_rests, progress-left}
use Rattle.nv_laws.proofs.headline.MoveGroups.{HasPart, IsAround, any_differed, around-here, differed-amid, leader-part, map-changed, member-handed}
use Rattle.nv_laws.proofs.headline.MoveGroups.{numbers, others-left, shares, whole-same}

-- a unit of a share of the guest's own command that is left in the device
pub record IsMove (host_bytes : ℕ) (geometry : Geometry) (number : ℕ) (guest : Guest) (w : World) (p : Private) (lane tag unit : ℕ) : Type 0 where
  pub given : slice_get geometry.guests number ≡ Some guest
  pub reached : IsReached host_bytes geometry w
  pub related : Related geometry number guest w p
  pub l : Lane
  pub d : DeviceLane
  pub h : Held
  pub command : Command
  pub share : Share
  pub whole : Work
  pub work : Work
  pub at : slice_get w.lanes lane ≡ Some l
  pub there : slice_get w.device lane ≡ Some d
  pub found : slice_get l.tags tag ≡ Some (Flying command share InDevice)
  pub under : slice_get d.held tag ≡ Some (Some h)
  pub whose : command.guest ≡ number
  pub goes : work_of share.whole ≡ Some whole
  pub part : work_of share.plan ≡ Some work
  pub left : list_any (λ k. k == unit) h.left ≡ true

-- another tag than that one
abbrev pub IsElsewhere : (lane tag a b : ℕ) → Type 0
IsElsewhere lane tag a b = (a ≡ lane) → (b ≡ tag) → ⊥

module _ (host_bytes : ℕ) (geometry : Geometry) (number : ℕ) (guest : Guest) (w : World) (p : Private) (lane tag unit : ℕ)
    (m : IsMove host_bytes geometry number guest w p lane tag unit) where
  abbrev pub was : Tag
  was = Flying m.command m.share InDevice

  abbrev pub leader : ℕ
  leader = m.command.leader

  abbrev pub name : ℕ
  name = name_of lane leader

  -- the guest's own memory and blocks, before the unit and behind it, and the host's behind it
  abbrev pub own : Moved
  own = own_of p m.h.differed

  abbrev pub own_behind : Moved
  own_behind = units_moved (own_units m.whole m.share unit) m.whole own

  abbrev pub moved : Moved
  moved = device_unit unit geometry.disk_blocks m.h w.host w.disk w.kept

  abbrev pub h_behind : Held
  h_behind = unit_gone unit moved.differed m.h

  abbrev pub bounce : ℕ
  bounce = bounce_page geometry.mediator lane tag

  pub is_there : tag_of w lane tag ≡ Some was
  is_there = ap (λ o. tag_in o tag) m.at ∙ m.found

  pub is_under : device_of w lane tag ≡ Some m.h
  is_under = ap (λ o. held_in o tag) m.there ∙ ap held_by m.under

  pub mine : (m.command.guest == number) ≡ true
  mine = eq-eqb m.command.guest number m.whose

  abbrev pub it : IsHeld geometry w number guest lane tag m.share m.whole m.work m.h
  it = record { command = m.command; own = m.whose; given = m.given; flies = is_there; held = is_under; goes = m.goes; part = m.part }

  abbrev pub planned : IsPlanned guest m.command.entry m.share
  planned = (parts host_bytes geometry w m.reached.laid m.reached.consistent number guest lane tag m.share m.whole m.work m.h it).planned

  pub whole_is : planned.work ≡ m.whole
  whole_is = (parts host_bytes geometry w m.reached.laid m.reached.consistent number guest lane tag m.share m.whole m.work m.h it).whole_is

  pub same_before : SameBlocks guest.namespace own (whole_of w m.h.differed)
  same_before = record { bytes = m.related.blocks; marks = m.related.marks; compared = refl }

  -- ---- its command's tags

  leader-at : HasPart w lane leader m.command (numbers geometry number guest m.given w m.reached.consistent lane tag m.command m.share InDevice is_there m.whose)
      (shares geometry number guest m.given w m.reached.consistent lane tag m.command m.share InDevice is_there m.whose)
  leader-at = leader-part geometry number guest m.given w m.reached.consistent lane tag m.command m.share InDevice is_there m.whose

  around-tag : IsAround (group w lane leader) tag
  around-tag = around-here geometry number guest m.given w m.reached.consistent lane tag m.command m.share InDevice is_there m.whose

  abbrev front_rests : List Rest
  front_rests = map (rest_at geometry w lane) around-tag.front

  abbrev back_rests : List Rest
  back_rests = map (rest_at geometry w lane) around-tag.back

  abbrev others_differed : Bool
  others_differed = any_differed front_rests || any_differed back_rests

  abbrev gone : List ℕ
  gone = numbers_behind m.share (unit ∷ [])

  -- those rests with one of that tag
  abbrev rests_with : Rest → List Rest
  rests_with r = front_rests ++ r ∷ back_rests

  abbrev rest_was : Rest
  rest_was = rest (numbers_behind m.share m.h.left) m.h.differed

  abbrev rest_now : Rest
  rest_now = rest (numbers_behind m.share (others unit m.h.left)) moved.differed

  rest-was : rest_at geometry w lane tag ≡ rest_was
  unfolding rest_at
  rest-was =
      ap (λ o. tag_rest o (device_of w lane tag) (status_in geometry w lane)) is_there
      ∙ ap (λ o. tag_rest (Some was) o (status_in geometry w lane)) is_under

  rests-were : rests_of geometry w lane leader ≡ rests_with rest_was
  unfolding rests_of
  rests-were =
      map-changed (rest_at geometry w lane) (rest_at geometry w lane) (group w lane leader) tag around-tag (λ b apart. refl)
      ∙ ap rests_with rest-was

  abbrev left_with : Rest → List ℕ
  left_with r = filter (λ k. in_rests k (rests_with r)) (numbers_of m.whole)

  abbrev member : List ℕ → Bool → Member
  member left differed = record { queue = m.command.queue; entry = m.command.entry; progress = AtWork m.whole left differed }

  leader_below : leader < tag_count
  leader_below = tag-below host_bytes geometry number guest m.given w m.reached p m.related lane leader leader-at.t leader-at.there

  -- the member with these rests
  member-with : (rests : List Rest) (r : Rest) → rests ≡ rests_with r
      → member_in (tag_of w lane leader) leader number rests ≡ Some (member (left_with r) (others_differed || r.differed))
  member-with rests r is =
      ap (λ o. member_in o leader number rests) leader-at.there
      ∙ member-handed leader-at.t leader number m.command leader-at.share rests leader-at.part_is (eq-eqb leader leader refl) mine
      ∙ ap (λ (progress : Progress). Some (record { queue = m.command.queue; entry = m.command.entry; progress = progress }))
      (ap (λ plan. work_progress (work_of plan) rests)
      (whole-same geometry number guest m.given w m.reached.consistent lane tag m.command m.share InDevice is_there m.whose leader leader-at)
      ∙ ap (λ o. work_progress o rests) m.goes ∙ ap (work_progress (Some m.whole)) is
      ∙ ap (AtWork m.whole (left_with r)) (differed-amid front_rests back_rests r))

  abbrev t_was : Member
  t_was = member (left_with rest_was) (others_differed || m.h.differed)

  bag-has : p.bag name ≡ Some t_was
  bag-has =
      m.related.bag name ∙ members-of geometry w number lane leader leader_below ∙ member-with (rests_of geometry w lane leader) rest_was rests-were

  -- ---- its steps

  left-there : All (λ k. list_any (λ n. n == k) (left_with rest_was) ≡ true) gone
  left-there =
      subst (λ (x : Work). All (λ k. list_any (λ n. n == k) (filter (λ n. in_rests n (rests_with rest_was)) (numbers_of x)) ≡ true) gone) whole_is
      (numbers-there guest m.command.entry m.share planned unit m.h.left front_rests back_rests m.h.differed m.left)

  abbrev behind : Private
  behind = at_work name t_was m.whole (left_without gone (left_with rest_was)) (record own_behind { differed = others_differed || own_behind.differed }) p

  unit-runs : run_of (shape_of guest) (map (MoveStep name) gone) p ≡ Some (record { state = behind; seen = [] })
  unit-runs =
      run-from host_bytes geometry w number guest lane tag m.share m.whole m.work m.h unit (shape_of guest) name t_was p (left_with rest_was)
      (others_differed || m.h.differed) m.reached.laid m.reached.consistent it bag-has refl left-there
      ∙ ap (λ x. Some (record { state = at_work name t_was m.whole (left_without gone (left_with rest_was)) x p; seen = [] }))
      (differed-before (own_units m.whole m.share unit) m.whole own others_differed)

  -- ---- the world behind

  abbrev pub z : World
  z =
      record w {
        host = moved.memory;
        disk = moved.disk;
        kept = moved.kept;
        device = changed_at (slice_get w.device lane) lane (with_held tag (Some h_behind)) w.device;
      }

  pub z-is : device_moved geometry.disk_blocks lane tag unit m.h w ≡ z
  unfolding device_moved
  z-is = refl

  changed : IsRetagged lane tag was w z
  changed =
      retagged-by w z lane tag m.l m.l m.d (with_held tag (Some h_behind) m.d) was was m.at m.there m.found (sym (set-same m.l.tags tag was m.found))
      (sym (set-same w.lanes lane m.l m.at)) (ap (λ o. changed_at o lane (with_held tag (Some h_behind)) w.device) m.there)
      (λ b apart. held-put m.d.held tag (Some h_behind) b apart)

  -- other tags' bytes in the area are as they were
  pub bytes : (a b : ℕ) (t : Tag) (addr : ℕ) → IsElsewhere lane tag a b → tag_of w a b ≡ Some t → IsBytes geometry.mediator a b t addr
      → w.host addr ≡ z.host addr
  bytes =
      let known = parts host_bytes geometry w m.reached.laid m.reached.consistent number guest lane tag m.share m.whole m.work m.h it in
      let owner : slice_get geometry.guests m.command.guest ≡ Some guest = ap (slice_get geometry.guests) m.whose ∙ m.given in
      bytes-elsewhere geometry w moved.memory lane tag m.l.head m.l m.d (record m.d { held = set m.d.held tag (Some h_behind) }) m.reached.consistent.of_tags
      m.at m.there
      (moved-elsewhere host_bytes geometry (length w.lanes) lane tag m.reached.laid known.lane_below known.tag_below guest m.command.guest owner
      m.command.entry m.share planned m.h w.host known.in_device unit w.disk w.kept)
      (λ b x apart b_below is.
      moved-undisturbed host_bytes geometry (length w.lanes) lane tag m.reached.laid known.lane_below known.tag_below guest m.command.guest owner
      m.command.entry m.share planned m.h w.host known.in_device unit w.disk w.kept b m.l.head m.d (set m.d.held tag (Some h_behind)) x apart b_below)

  z_under : device_of z lane tag ≡ Some h_behind
  z_under =
      ap (λ o. held_in (slice_get (changed_at o lane (with_held tag (Some h_behind)) w.device) lane) tag) m.there
      ∙ ap (λ o. held_in o tag) (slice_get-set w.device lane m.d (with_held tag (Some h_behind) m.d) m.there)
      ∙ ap held_by (slice_get-set m.d.held tag (Some m.h) (Some h_behind) m.under)

  -- what has come of other tags is the same
  rest-away : (a b : ℕ) → IsElsewhere lane tag a b → rest_at geometry w a b ≡ rest_at geometry z a b
  unfolding rest_at
  rest-away a b apart = by (tag_of w a b) refl
    where
      by : (o : Option Tag) → tag_of w a b ≡ o
          → tag_rest (tag_of w a b) (device_of w a b) (status_in geometry w a) ≡ tag_rest (tag_of w a b) (device_of z a b) (status_in geometry z a)
      by None here =
          ap (λ o. tag_rest o (device_of w a b) (status_in geometry w a)) here ∙ sym (ap (λ o. tag_rest o (device_of z a b) (status_in geometry z a)) here)
      by (Some t) here =
          ap (λ o. tag_rest o (device_of w a b) (status_in geometry w a)) here
          ∙ rest-kept t (device_of w a b) (status_in geometry w a) (status_in geometry z a)
          (λ at stands. status-left geometry w z a b at t (λ addr of_it. bytes a b t addr apart here of_it) stands)
          ∙ ap (λ o. tag_rest (Some t) o (status_in geometry z a)) (sym (changed.held a b apart))
          ∙ sym (ap (λ o. tag_rest o (device_of z a b) (status_in geometry z a)) here)

  rest-now : rest_at geometry z lane tag ≡ rest_now
  unfolding rest_at
  rest-now =
      ap (λ o. tag_rest o (device_of z lane tag) (status_in geometry z lane)) is_there
      ∙ ap (λ o. tag_rest (Some was) o (status_in geometry z lane)) z_under

  rests-are : rests_of geometry z lane leader ≡ rests_with rest_now
  unfolding rests_of group
  rests-are =
      map-changed (rest_at geometry w lane) (rest_at geometry z lane) (group w lane leader) tag around-tag (λ b apart. rest-away lane b (λ _ also. apart also))
      ∙ ap rests_with rest-now

  -- ---- commands

  -- another command is as it was
  other-member : (a b : ℕ) → IsElsewhere lane leader a b
      → member_in (tag_of w a b) b number (rests_of geometry w a b) ≡ member_in (tag_of z a b) b number (rests_of geometry z a b)
  other-member a b apart =
      member-rests (tag_of w a b) b number (rests_of geometry w a b) (rests_of geometry z a b)
      (λ goes own_too.
      rests-by geometry w z a b (λ c. refl)
      (λ c goes_by_it. rest-away a c (λ same also. apart same (by_leader a c goes_by_it same also))))
    where
      by_leader : (a c : ℕ) → led b (tag_of w a c) ≡ true → a ≡ lane → c ≡ tag → b ≡ leader
      by_leader a c goes same also =
          sym (eqb-true leader b (sym (ap (led b) is_there) ∙ subst (λ y. led b (tag_of w lane y) ≡ true) also (subst (λ x. led b (tag_of w x c) ≡ true) same goes)))

  bag-behind : own_behind.differed ≡ moved.differed → (n : ℕ) → behind.bag n ≡ members geometry z number n
  unfolding members
  bag-behind compared n =
      elim (cases_eq n name) [
        | inl same ↦
            ap (put p.bag name (Some (member (left_without gone (left_with rest_was)) (others_differed || own_behind.differed)))) same
            ∙ put-here p.bag name (Some (member (left_without gone (left_with rest_was)) (others_differed || own_behind.differed)))
            ∙ ap (λ left. Some (member left (others_differed || own_behind.differed)))
            (progress-left guest m.command.entry m.share planned unit m.h.left (numbers_of m.whole) front_rests back_rests m.h.differed moved.differed
            (others-left geometry number guest m.given w m.reached.consistent lane tag m.command m.share InDevice is_there m.whose planned around-tag))
            ∙ ap (λ b. Some (member (left_with rest_now) (others_differed || b))) compared
            ∙ sym (ap (members geometry z number) same ∙ members-of geometry z number lane leader leader_below
            ∙ member-with (rests_of geometry z lane leader) rest_now rests-are)
        | inr other ↦
            put-elsewhere p.bag name (Some (member (left_without gone (left_with rest_was)) (others_differed || own_behind.differed))) n other
            ∙ m.related.bag n ∙ other-member (n / tag_count) (n % tag_count) (λ same also. other (omega (arith, same, also)))
      ]

  -- ---- hidden bytes

  abbrev Hides : World → (a b addr : ℕ) → Bool
  Hides x a b addr = hides (own_tag number (tag_of x a b)) (own_held number (tag_of x a b) (device_of x a b)) addr

  hides-as : (x : World) (held : Held) (addr : ℕ) → tag_of x lane tag ≡ Some was → device_of x lane tag ≡ Some held → Hides x lane tag addr ≡ hides (Some was) (Some held) addr
  hides-as x held addr there_too is =
      ap (λ o. hides (own_tag number o) (own_held number o (device_of x lane tag)) addr) there_too
      ∙ ap (λ b. hides (cond b (Some was) None) (cond b (device_of x lane tag) None) addr) mine ∙ ap (λ o. hides (Some was) o addr) is

  by-tag : (P : (a b : ℕ) → Type 0) → P lane tag → ((a b : ℕ) → IsElsewhere lane tag a b → P a b) → (a b : ℕ) → P a b
  by-tag P here away a b =
      elim (cases_eq a lane) [
        | inr apart ↦ away a b (λ same also. apart same)
        | inl same ↦ elim (cases_eq b tag) [
          | inr apart ↦ away a b (λ _ also. apart also)
          | inl also ↦ subst (λ x. P x b) (sym same) (subst (λ y. P lane y) (sym also) here)
        ]
      ]

  -- what is hidden in the world is hidden behind the unit
  pub hidden-moved : (addr : ℕ) → (hides (Some was) (Some h_behind) addr ≡ false → hides (Some was) (Some m.h) addr ≡ false) → NoneHides number z addr
      → NoneHides number w addr
  hidden-moved addr one none =
      by-tag (λ a b. Hides w a b addr ≡ false)
      (hides-as w m.h addr is_there is_under ∙ one (sym (hides-as z h_behind addr is_there z_under) ∙ none lane tag))
      (λ a b apart. ap (λ o. hides (own_tag number (tag_of w a b)) (own_held number (tag_of w a b) o) addr) (sym (changed.held a b apart)) ∙ none a b)

  -- and a byte that the share hides behind the unit is hidden there
  pub share-shown : (addr : ℕ) → NoneHides number z addr → hides (Some was) (Some h_behind) addr ≡ false
  share-shown addr none = sym (hides-as z h_behind addr is_there z_under) ∙ none lane tag

  -- ---- tags

  -- what is known of a tag in the world before, and in that behind
  abbrev pub IsTagBefore : (a b : ℕ) → Option Tag → Option Held → Type 0
  IsTagBefore a b o held = IsTagRelated o guest held (status_in geometry w a) (bounce_page geometry.mediator a b) w.host p.memory

  abbrev pub IsTagBehind : (a b : ℕ) → Option Tag → Option Held → Type 0
  IsTagBehind a b o held = IsTagRelated o guest held (status_in geometry z a) (bounce_page geometry.mediator a b) z.host own_behind.memory

  pub known : IsTagBefore lane tag (Some was) (Some m.h)
  known =
      subst (IsTagBefore lane tag (Some was))
      (ap (λ o. own_held number o (device_of w lane tag)) is_there ∙ ap (λ b. cond b (device_of w lane tag) None) mine ∙ is_under)
      (subst (λ o. IsTagBefore lane tag o (own_held number (tag_of w lane tag) (device_of w lane tag)))
      (ap (own_tag number) is_there ∙ ap (λ b. cond b (Some was) None) mine) (m.related.tags lane tag))

  abbrev pub AreOthersKept : Type 0
  AreOthersKept = (a b : ℕ) (t : Tag) (held : Option Held) → IsElsewhere lane tag a b → own_tag number (tag_of w a b) ≡ Some t
      → IsTagBefore a b (Some t) held → IsTagBehind a b (Some t) held

  tags-behind : AreOthersKept → IsTagBehind lane tag (Some was) (Some h_behind) → (a b : ℕ)
      → IsTagBehind a b (own_tag number (tag_of z a b)) (own_held number (tag_of z a b) (device_of z a b))
  tags-behind kept one =
      by-tag (λ a b. IsTagBehind a b (own_tag number (tag_of z a b)) (own_held number (tag_of z a b) (device_of z a b)))
      (subst (IsTagBehind lane tag (own_tag number (tag_of z lane tag)))
      (sym (ap (λ o. own_held number o (device_of z lane tag)) is_there ∙ ap (λ b. cond b (device_of z lane tag) None) mine ∙ z_under))
      (own-as number (tag_of z lane tag) was (λ o. IsTagBehind lane tag o (Some h_behind)) is_there mine one))
      (λ a b apart.
      subst (λ o. IsTagBehind a b (own_tag number (tag_of w a b)) (own_held number (tag_of w a b) o)) (sym (changed.held a b apart))
      (away a b apart (own_tag number (tag_of w a b)) (own_held number (tag_of w a b) (device_of w a b)) refl (m.related.tags a b)))
    where
      away : (a b : ℕ) → IsElsewhere lane tag a b → (o : Option Tag) (held : Option Held) → own_tag number (tag_of w a b) ≡ o → IsTagBefore a b o held
          → IsTagBehind a b o held
      away a b apart None held own_is was_so = tt
      away a b apart (Some t) held own_is was_so = kept a b t held apart own_is was_so

  -- another tag's pages, and the status of its completion
  pub page-away : (a b : ℕ) (t : Tag) → IsElsewhere lane tag a b → tag_of w a b ≡ Some t
      → SameBetween w.host z.host (bounce_page geometry.mediator a b) (bounce_page geometry.mediator a b + most_bytes)
  page-away a b t apart here = page-left geometry w z a b t (λ addr of_it. bytes a b t addr apart here of_it)

  -- ---- the event

  pub moved-goes : SameBlocks guest.namespace own_behind moved
      → ((addr : ℕ) → mapped (regions_of guest) addr ≡ true → NoneHides number z addr → own_behind.memory addr ≡ image (regions_of guest) moved.memory addr)
      → AreOthersKept → IsTagBehind lane tag (Some was) (Some h_behind)
      → GoesAlong geometry number guest (event.DevMove lane tag unit) w p (replied reply.Done (device_moved geometry.disk_blocks lane tag unit m.h w))
  moved-goes same memory others_kept one =
      record {
        run = record { state = behind; seen = [] };
        runs = ap (λ steps. run_of (shape_of guest) steps p) (own-steps geometry w number guest lane tag m.share m.whole m.work m.h unit it) ∙ unit-runs;
        seen = refl;
        related = subst (λ x. Related geometry number guest x behind) (sym z-is)
            (record {
              controller = m.related.controller;
              blocks = same.bytes;
              marks = same.marks;
              memory = memory;
              bag = bag-behind same.compared;
              tags = tags-behind others_kept one;
            });
      }
