-- Lanes that are the same but for the places of parts: what is kept of them, told of their tags, and counted of them is the same.
use Rattle.std.proofs.Common.{◌≡◌, ℕ, ◌+◌, ◌/◌, ◌%◌, Bool, ◌&&◌, cond, List, [], ◌∷◌, length, map, slice_get, Option, Some, None, refl, sym, ap, ◌∙◌, subst}
use Rattle.std.specs.List.{count_by}
use Rattle.std.specs.Option.{option_map}
use Rattle.std.proofs.lemmas.List.{length-map}
use Rattle.std.proofs.lemmas.Option.{slice_get-map}
use mathlib.Core.Path.{fun_ext}
use Rattle.nv_core.proofs.HeldTags.{count-cons, in-front, numbers as numbered}
use Rattle.nv_core.specs.Front.{IsBeside, IsSideOf}
use Rattle.nv_laws_sound.specs.Side.{Side, AreKept}
use Rattle.nv_core.specs.Held.{held_in, is_of}
use Rattle.nv_core.specs.Jobs.{holder_in, job_in}
use Rattle.nv_core.specs.Submit.{IsCurrentIn, IsOfTag}
use Rattle.nv_core.specs.Tags.{those_in}
use Rattle.nv_laws_sound.proofs.Lists.{some-same}
use Rattle.nv_laws_sound.proofs.Unplaced.{placed-alike}
use Rattle.nv_laws_sound.specs.Counted.{IsCounted, command_in, commands}
use Rattle.nv_laws_sound.specs.Groups.{AreGrouped, Part, part_of}
use Rattle.nv_laws_sound.specs.Kept.{IsKeptLane, IsKeptTag}
use Rattle.nv_laws_sound.specs.Mediators.{IsMediators}
use Rattle.nv_laws_sound.specs.Unplaced.{after_unplaced, unplaced, unplaced_lane, unplaced_tag}
use Rattle.nv_model.specs.Controller.{Controller}
use Rattle.nv_model.specs.Running.{IsConsistent as IsRunningWith}
use Rattle.nv_plan.specs.Made.{MadePlan}
use Rattle.nv_world_model.specs.Area.{tag_count}
use Rattle.nv_world_model.specs.Due.{due, is_due_kind}
use Rattle.nv_world_model.specs.Geometry.{Geometry}
use Rattle.nv_world_model.specs.Step.{After, is_done, step}
use Rattle.nv_world_model.specs.World.{Ended, Flying, Free, Lane, Tag, Taken, World, tag_in, tag_of}
use Rattle.nv_world_model.specs.declared.event.Event.{Event}

-- ---- lanes

pub as-many : (ls ks : List Lane) → map unplaced_lane ls ≡ map unplaced_lane ks → length ls ≡ length ks
as-many ls ks same = sym (length-map ls unplaced_lane) ∙ ap (λ (xs : List Lane). length xs) same ∙ length-map ks unplaced_lane

-- the lane in the place of one
pub record HasAlike (ks : List Lane) (lane : ℕ) (l : Lane) : Type 0 where
  pub k : Lane
  pub there : slice_get ks lane ≡ Some k
  pub same : unplaced_lane k ≡ unplaced_lane l

pub lane-alike : (ls ks : List Lane) → map unplaced_lane ls ≡ map unplaced_lane ks → (lane : ℕ) (l : Lane) → slice_get ls lane ≡ Some l → HasAlike ks lane l
lane-alike ls ks same lane l found = by (slice_get ks lane) refl
  where
    both : option_map unplaced_lane (slice_get ks lane) ≡ Some (unplaced_lane l)
    both =
        sym (slice_get-map unplaced_lane ks lane) ∙ ap (λ (xs : List Lane). slice_get xs lane) (sym same) ∙ slice_get-map unplaced_lane ls lane
        ∙ ap (option_map unplaced_lane) found

    by : (o : Option Lane) → slice_get ks lane ≡ o → HasAlike ks lane l
    by None at = (let bad : None ≡ Some (unplaced_lane l) = sym (ap (option_map unplaced_lane) at) ∙ both in cc)
    by (Some k) at =
        record { k = k; there = at; same = some-same (unplaced_lane k) (unplaced_lane l) (sym (ap (option_map unplaced_lane) at) ∙ both) }

-- ---- what is kept

module _ (geometry : Geometry) where
  tag-plain : (t : Tag) → IsKeptTag geometry t → IsKeptTag geometry (unplaced_tag t)
  tag-plain Free is = tt
  tag-plain (Taken command reads) is = is
  tag-plain (Flying command share at) is = is
  tag-plain (Ended command st share) is = is

  tag-back : (t : Tag) → IsKeptTag geometry (unplaced_tag t) → IsKeptTag geometry t
  tag-back Free is = tt
  tag-back (Taken command reads) is = is
  tag-back (Flying command share at) is = is
  tag-back (Ended command st share) is = is

  part-plain : (t : Tag) → part_of (unplaced_tag t) ≡ part_of t
  part-plain Free = refl
  part-plain (Taken command reads) = refl
  part-plain (Flying command share at) = refl
  part-plain (Ended command st None) = refl
  part-plain (Ended command st (Some share)) = refl

  parts-plain : (ts : List Tag) → map part_of (map unplaced_tag ts) ≡ map part_of ts
  parts-plain [] = refl
  parts-plain (t ∷ ts) =
      ap (λ (p : Part). p ∷ map part_of (map unplaced_tag ts)) (part-plain t) ∙ ap (λ (ps : List Part). part_of t ∷ ps) (parts-plain ts)

  lane-plain : (l : Lane) → IsKeptLane geometry l → IsKeptLane geometry (unplaced_lane l)
  lane-plain l is =
      record {
        head = is.head;
        tags_are = length-map l.tags unplaced_tag ∙ is.tags_are;
        tags = (λ tag t there. by tag t (slice_get l.tags tag) refl (sym (slice_get-map unplaced_tag l.tags tag) ∙ there));
        groups = subst (AreGrouped geometry) (sym (parts-plain l.tags)) is.groups;
      }
    where
      by : (tag : ℕ) (t : Tag) (o : Option Tag) → slice_get l.tags tag ≡ o → option_map unplaced_tag o ≡ Some t → IsKeptTag geometry t
      by tag t None at e = cc
      by tag t (Some u) at e = subst (IsKeptTag geometry) (some-same (unplaced_tag u) t e) (tag-plain u (is.tags tag u at))

  lane-back : (l : Lane) → IsKeptLane geometry (unplaced_lane l) → IsKeptLane geometry l
  lane-back l is =
      record {
        head = is.head;
        tags_are = sym (length-map l.tags unplaced_tag) ∙ is.tags_are;
        tags = (λ tag t there. tag-back t (is.tags tag (unplaced_tag t) (slice_get-map unplaced_tag l.tags tag ∙ ap (option_map unplaced_tag) there)));
        groups = subst (AreGrouped geometry) (parts-plain l.tags) is.groups;
      }

  -- lanes keep what lanes keep that are the same but for places
  pub kept-alike : (ls ks : List Lane) (ts : List ℕ) (cs : List Controller) → map unplaced_lane ls ≡ map unplaced_lane ks → AreKept geometry ks ts cs
      → AreKept geometry ls ts cs
  kept-alike ls ks ts cs same is =
      record {
        lanes = (λ lane l found.
            let a = lane-alike ls ks same lane l found in
            lane-back l (subst (IsKeptLane geometry) a.same (lane-plain a.k (is.lanes lane a.k a.there))));
        many = is.many ∙ sym (as-many ls ks same);
        slots = is.slots;
        controllers = is.controllers;
        queues = is.queues;
      }

-- ---- what is told of a tag

tags-alike : (ls ks : List Lane) → map unplaced_lane ls ≡ map unplaced_lane ks → (lane tag : ℕ)
    → option_map unplaced_tag (tag_in (slice_get ls lane) tag) ≡ option_map unplaced_tag (tag_in (slice_get ks lane) tag)
tags-alike ls ks same lane tag = sym (plain ls) ∙ ap (λ (xs : List Lane). tag_in (slice_get xs lane) tag) same ∙ plain ks
  where
    by : (o : Option Lane) → tag_in (option_map unplaced_lane o) tag ≡ option_map unplaced_tag (tag_in o tag)
    by None = refl
    by (Some l) = slice_get-map unplaced_tag l.tags tag

    plain : (xs : List Lane) → tag_in (slice_get (map unplaced_lane xs) lane) tag ≡ option_map unplaced_tag (tag_in (slice_get xs lane) tag)
    plain xs = ap (λ (o : Option Lane). tag_in o tag) (slice_get-map unplaced_lane xs lane) ∙ by (slice_get xs lane)

module _ (ls ks : List Lane) (same : map unplaced_lane ls ≡ map unplaced_lane ks) where
  pub holder-alike : (lane tag : ℕ) → holder_in (tag_in (slice_get ls lane) tag) ≡ holder_in (tag_in (slice_get ks lane) tag)
  holder-alike lane tag = sym (plain (tag_in (slice_get ls lane) tag)) ∙ ap holder_in (tags-alike ls ks same lane tag) ∙ plain (tag_in (slice_get ks lane) tag)
    where
      plain : (o : Option Tag) → holder_in (option_map unplaced_tag o) ≡ holder_in o
      plain None = refl
      plain (Some Free) = refl
      plain (Some (Taken command reads)) = refl
      plain (Some (Flying command share at)) = refl
      plain (Some (Ended command st share)) = refl

  -- a guest has as many tags of a lane
  pub held-alike : (guest lane : ℕ) → held_in guest (slice_get ls lane) ≡ held_in guest (slice_get ks lane)
  held-alike guest lane = sym (plain (slice_get ls lane)) ∙ ap (held_in guest) there ∙ plain (slice_get ks lane)
    where
      there : option_map unplaced_lane (slice_get ls lane) ≡ option_map unplaced_lane (slice_get ks lane)
      there = sym (slice_get-map unplaced_lane ls lane) ∙ ap (λ (xs : List Lane). slice_get xs lane) same ∙ slice_get-map unplaced_lane ks lane

      owner : (t : Tag) → is_of guest (unplaced_tag t) ≡ is_of guest t
      owner Free = refl
      owner (Taken command reads) = refl
      owner (Flying command share at) = refl
      owner (Ended command st share) = refl

      tags : (ts : List Tag) → count_by (is_of guest) (map unplaced_tag ts) ≡ count_by (is_of guest) ts
      tags [] = refl
      tags (t ∷ ts) =
          count-cons (is_of guest) (unplaced_tag t) (map unplaced_tag ts)
          ∙ ap (λ (b : Bool). cond b 1 0 + count_by (is_of guest) (map unplaced_tag ts)) (owner t)
          ∙ ap (λ n. cond (is_of guest t) 1 0 + n) (tags ts) ∙ sym (count-cons (is_of guest) t ts)

      plain : (o : Option Lane) → held_in guest (option_map unplaced_lane o) ≡ held_in guest o
      plain None = refl
      plain (Some l) = tags l.tags

  -- tags of which a test holds that asks for no place are the same
  pub those-alike : (test : Tag → Bool) → ((t : Tag) → test (unplaced_tag t) ≡ test t) → (lane : ℕ)
      → those_in test (slice_get ls lane) ≡ those_in test (slice_get ks lane)
  those-alike test placeless lane = sym (plain (slice_get ls lane)) ∙ ap (those_in test) there ∙ plain (slice_get ks lane)
    where
      there : option_map unplaced_lane (slice_get ls lane) ≡ option_map unplaced_lane (slice_get ks lane)
      there = sym (slice_get-map unplaced_lane ls lane) ∙ ap (λ (xs : List Lane). slice_get xs lane) same ∙ slice_get-map unplaced_lane ks lane

      tags : (from : ℕ) (ts : List Tag) → numbered test from (map unplaced_tag ts) ≡ numbered test from ts
      tags from [] = refl
      tags from (t ∷ ts) =
          in-front test from (unplaced_tag t) (map unplaced_tag ts) (test t) (placeless t)
          ∙ ap (λ (xs : List ℕ). cond (test t) (from ∷ xs) xs) (tags (from + 1) ts)
          ∙ sym (in-front test from t ts (test t) refl)

      plain : (o : Option Lane) → those_in test (option_map unplaced_lane o) ≡ those_in test o
      plain None = refl
      plain (Some l) = tags 0 l.tags

  pub job-alike : (lane tag : ℕ) → job_in lane tag (tag_in (slice_get ls lane) tag) ≡ job_in lane tag (tag_in (slice_get ks lane) tag)
  job-alike lane tag =
      sym (plain (tag_in (slice_get ls lane) tag)) ∙ ap (job_in lane tag) (tags-alike ls ks same lane tag) ∙ plain (tag_in (slice_get ks lane) tag)
    where
      plain : (o : Option Tag) → job_in lane tag (option_map unplaced_tag o) ≡ job_in lane tag o
      plain None = refl
      plain (Some Free) = refl
      plain (Some (Taken command reads)) = refl
      plain (Some (Flying command share at)) = refl
      plain (Some (Ended command st share)) = refl

  pub current-alike : (geometry : Geometry) (p : MadePlan) → IsCurrentIn geometry ls p → IsCurrentIn geometry ks p
  current-alike geometry p is =
      record {
        of_tag =
            back (tag_in (slice_get ks p.job.lane) p.job.tag)
            (subst (λ (o : Option Tag). IsOfTag o p.job) (tags-alike ls ks same p.job.lane p.job.tag) (plain (tag_in (slice_get ls p.job.lane) p.job.tag) is.of_tag));
        made_with = is.made_with;
      }
    where
      plain : (o : Option Tag) → IsOfTag o p.job → IsOfTag (option_map unplaced_tag o) p.job
      plain None of = absurd of
      plain (Some Free) of = absurd of
      plain (Some (Taken command reads)) of = of
      plain (Some (Flying command share at)) of = absurd of
      plain (Some (Ended command st share)) of = absurd of

      back : (o : Option Tag) → IsOfTag (option_map unplaced_tag o) p.job → IsOfTag o p.job
      back None of = absurd of
      back (Some Free) of = absurd of
      back (Some (Taken command reads)) of = of
      back (Some (Flying command share at)) of = absurd of
      back (Some (Ended command st share)) of = absurd of

-- ---- what is counted, and what is due

pub counted-alike : (geometry : Geometry) (w z : World) → map unplaced_lane z.lanes ≡ map unplaced_lane w.lanes → z.controllers ≡ w.controllers
    → IsCounted geometry w → IsCounted geometry z
unfolding commands
counted-alike geometry w z same controllers is =
    record {
      running = (λ number guest c given at.
          subst (IsRunningWith c) (fun_ext (λ name. each number name))
          (is.running number guest c given (ap (λ (cs : List Controller). slice_get cs number) (sym controllers) ∙ at)));
    }
  where
    plain : (o : Option Tag) (tag number : ℕ) → command_in (option_map unplaced_tag o) tag number ≡ command_in o tag number
    plain None tag number = refl
    plain (Some Free) tag number = refl
    plain (Some (Taken command reads)) tag number = refl
    plain (Some (Flying command share at)) tag number = refl
    plain (Some (Ended command st share)) tag number = refl

    each : (number name : ℕ) → command_in (tag_of w (name / tag_count) (name % tag_count)) (name % tag_count) number
        ≡ command_in (tag_of z (name / tag_count) (name % tag_count)) (name % tag_count) number
    each number name =
        let lane = name / tag_count in
        let tag = name % tag_count in
        sym (plain (tag_of w lane tag) tag number)
        ∙ ap (λ (o : Option Tag). command_in o tag number) (tags-alike w.lanes z.lanes (sym same) lane tag)
        ∙ plain (tag_of z lane tag) tag number

pub unplaced-due : (geometry : Geometry) (e : Event) → IsMediators e → (v w : World) → unplaced v ≡ unplaced w → due geometry e v ≡ due geometry e w
unfolding due
unplaced-due geometry e mine v w same =
    ap (λ (a : After). is_due_kind e && is_done a.reply)
    (sym (placed-alike geometry e v mine) ∙ ap (λ (u : World). after_unplaced (step geometry e u)) same ∙ placed-alike geometry e w mine)

-- in each world with a side but for places what is due in each with that side
pub beside-told : (geometry : Geometry) (e : Event) → IsMediators e → (side : Side) (memory : List ℕ) (b : Bool)
    → ((w : World) → IsSideOf side memory w → b ≡ due geometry e w) → (z : World) → IsBeside side memory z → b ≡ due geometry e z
beside-told geometry e mine side memory b told z on =
    let v : World = record z { lanes = side.lanes } in
    let left : unplaced v ≡ unplaced z = ap (λ (ls : List Lane). let u : World = record z { lanes = ls } in u) (sym on.lanes) in
    told v (record { host = on.host; lanes = refl; controllers = on.controllers; tails = on.tails })
    ∙ unplaced-due geometry e mine v z left
