-- The world at the start.
use Rattle.std.proofs.Common.{◌≡◌, ℕ, zero, suc, Bool, cond, length, replicate, slice_get, Option, Some, None, arith, refl, sym, ap, ◌∙◌, subst}
use Rattle.std.proofs.lemmas.List.{length-replicate}
use Rattle.std.proofs.lemmas.List.Sums.{sum_by-cons}
use Rattle.nv_mem.specs.GuestMap.{mapped}
use Rattle.nv_model.proofs.QueueOrder.{IsKept-in_place}
use Rattle.nv_model.proofs.QueuesKept.{QueuesHave-opening}
use Rattle.nv_model.specs.Controller.{opening}
use Rattle.nv_model.specs.Laws.{IsCompletionInPlace, IsSubmissionInPlace, QueuesInPlace}
use Rattle.nv_world_model.specs.Area.{tag_count}
use Rattle.nv_world_model.specs.Contained.{tag_stands}
use Rattle.nv_world_model.specs.Device.{DeviceLane, Held, opening_device_lane}
use Rattle.nv_world_model.specs.Geometry.{Geometry, regions_of}
use Rattle.nv_world_model.specs.World.{Free, Lane, Standing, Tag, opening_lane, opening_world}
use Rattle.nv_laws_sound.specs.Consistent.{IsBetween, IsConsistent, IsConsistentOfTags, IsLane, IsTag, standing_count, waits_for_device, waits_for_mediator}
use Rattle.nv_laws_sound.specs.Groups.{NoPart, command_of, part_of, parts_of}
use Rattle.nv_laws_sound.proofs.Folds.{part-tag}
use Rattle.nv_laws_sound.proofs.GroupsKept.{HasGroups}
use Rattle.nv_laws_sound.proofs.Lists.{slice_get-replicate}

-- no free tag stands anywhere
standing_count-free : (test : Standing → Bool) (n : ℕ) → standing_count test (replicate n Free) ≡ 0
standing_count-free test zero = refl
standing_count-free test (suc n) =
    let first = sum_by-cons (λ t. cond (tag_stands test t) 1 0) Free (replicate n Free) in
    let rest = standing_count-free test n in
    omega (arith, first, rest)

-- nothing lies between the start and the start
nothing-between : (at : ℕ) → IsBetween 0 0 at → {A : Type 0} → A
nothing-between at between = absurd (omega arith)

tags-free : (geometry : Geometry) (lane tag : ℕ) (host : ℕ → ℕ) (head : ℕ) (d : DeviceLane) (held : Option Held) (t : Tag) → Free ≡ t → None ≡ held
    → IsTag geometry lane tag host head d held t
tags-free geometry lane tag host head d held t free none = subst (IsTag geometry lane tag host head d held) free (sym none)

pub lane-opening : (geometry : Geometry) (lane : ℕ) (host : ℕ → ℕ) → IsLane geometry lane host opening_lane opening_device_lane
lane-opening geometry lane host =
    record {
      positions = record { head = omega arith; tail = omega arith; posted = omega arith; read = omega arith; tags = refl; held = refl };
      tags = (λ tag t held at there.
          tags-free geometry lane tag host 0 opening_device_lane held t (slice_get-replicate tag_count tag Free t at) (slice_get-replicate tag_count tag None held there));
      queued = (λ at between. nothing-between at between);
      answered = (λ at between. nothing-between at between);
      queued_count = standing_count-free waits_for_device tag_count;
      answered_count = standing_count-free waits_for_mediator tag_count;
    }

-- no tag has a command
opening-groups : (geometry : Geometry) (lanes : ℕ) → HasGroups geometry (replicate lanes opening_lane)
opening-groups geometry lanes lane l at tag part command there has =
    let free : slice_get (parts_of (replicate tag_count Free)) tag ≡ Some part =
    ap (λ (x : Lane). slice_get (parts_of x.tags) tag) (slice_get-replicate lanes lane opening_lane l at) ∙ there in
    let t = part-tag (replicate tag_count Free) tag part free in
    let none : NoPart ≡ part = ap part_of (slice_get-replicate tag_count tag Free t.t t.is) ∙ t.part_is in
    let bad : None ≡ Some command = ap command_of none ∙ has in cc

opening-of_tags : (host : ℕ → ℕ) (disk : ℕ → ℕ → ℕ) (geometry : Geometry) (lanes : ℕ) → IsConsistentOfTags geometry (opening_world host disk geometry lanes)
unfolding opening_world
opening-of_tags host disk geometry lanes =
    record {
      sides = length-replicate lanes opening_lane ∙ sym (length-replicate lanes opening_device_lane);
      controllers = length-replicate (length geometry.guests) opening;
      lanes = (λ lane l d at there.
          subst (λ x. IsLane geometry lane host l x) (slice_get-replicate lanes lane opening_device_lane d there)
          (subst (λ x. IsLane geometry lane host x opening_device_lane) (slice_get-replicate lanes lane opening_lane l at)
          (lane-opening geometry lane host)));
      queues = (λ number guest c given at.
          subst (QueuesInPlace (mapped (regions_of guest))) (slice_get-replicate _ number opening c at)
          (QueuesHave-opening (mapped (regions_of guest)) (IsSubmissionInPlace (mapped (regions_of guest))) (IsCompletionInPlace (mapped (regions_of guest)))
          (IsKept-in_place (mapped (regions_of guest)))));
    }

pub opening-consistent : (host : ℕ → ℕ) (disk : ℕ → ℕ → ℕ) (geometry : Geometry) (lanes : ℕ) → IsConsistent geometry (opening_world host disk geometry lanes)
unfolding opening_world
opening-consistent host disk geometry lanes = record { of_tags = opening-of_tags host disk geometry lanes; groups = opening-groups geometry lanes }
