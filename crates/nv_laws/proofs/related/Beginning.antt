-- Where the world and a guest's private controller begin, and that they agree where they stand for one another.
use Rattle.std.proofs.Common.{◌≡◌, ℕ, ◌+◌, ◌*◌, ◌/◌, ◌%◌, ◌<◌, ◌≤◌, ◌⊎◌, inl, inr, Bool, true, false, cond, not}
use Rattle.std.proofs.Common.{◌&&◌, ◌||◌, ◌==◌, List, [], ◌∷◌, drop, length}
use Rattle.std.proofs.Common.{map, replicate, slice_get, Option, Some, None, refl, sym, ap, ◌∙◌, subst}
use Rattle.std.specs.List.{list_any}
use Rattle.std.proofs.lemmas.List.{length-replicate}
use Rattle.nv_entry.specs.Status.{StatusField}
use Rattle.nv_entry.specs.Completion.{status_of}
use Rattle.nv_mem.specs.Places.{places_of}
use Rattle.nv_model.proofs.Endings.{and-true}
use Rattle.nv_model.specs.Controller.{opening}
use Rattle.nv_model.specs.Dialogue.{asked}
use Rattle.nv_model.specs.Footprint.{Destination, ListBytes, Named, Source, buffer_named, io_named, is_destination, named_as, names, verdict_named}
use Rattle.nv_model.specs.Judge.{Go, Verdict, Work, is_read, judge}
use Rattle.nv_model.specs.Limits.{block}
use Rattle.nv_model.specs.Memory.{image}
use Rattle.nv_model.specs.Private.{Private, numbers_of, verdict_in}
use Rattle.nv_world_model.specs.Agrees.{Agrees, is_awaited}
use Rattle.nv_world_model.specs.Area.{bounce_page, tag_count}
use Rattle.nv_world_model.specs.Device.{Held}
use Rattle.nv_world_model.specs.Share.{Share}
use Rattle.nv_world_model.specs.Geometry.{Geometry, Guest, regions_of, shape_of}
use Rattle.nv_world_model.specs.Headline.{start_in}
use Rattle.nv_world_model.specs.Plan.{Answer, Bounced, Direct, NoData, Plan}
use Rattle.nv_world_model.specs.Seat.{Rest, completion_at, held_in, member_in, members, work_of}
use Rattle.nv_world_model.specs.SetUp.{SetUp}
use Rattle.nv_world_model.specs.View.{own_held, own_tag}
use Rattle.nv_world_model.specs.World.{Ended, Flying, Free, Lane, Tag, Taken, World, opening_lane, opening_world, tag_in, tag_of}
use Rattle.nv_laws_sound.proofs.Lists.{slice_get-below, slice_get-replicate, slice_get-there}
use Rattle.nv_laws.proofs.others.ShownTags.{any-behind}
use Rattle.nv_laws.proofs.related.Named.{any-drop, any-one, any-take, any_entry, place-passes, run-names, taken-among}
use Rattle.nv_laws.proofs.related.Within.{IsFit, IsFitOr, IsFitTag, IsPart, there-fit}
use Rattle.nv_laws_sound.specs.Consistent.{IsConsistent}
use Rattle.nv_laws.specs.Related.{HasEndedWell, IsTagRelated, IsUnderWay, NoneHides, Related, block_names, ended_hides, hides, is_place_at, left_where, none_left, plan_hides}

-- ---- the start

-- a tag that is there is free
tag-free : (tags : List Tag) (tag : ℕ) → ((t : Tag) → slice_get tags tag ≡ Some t → Free ≡ t) → (slice_get tags tag ≡ None) ⊎ (slice_get tags tag ≡ Some Free)
tag-free tags tag each =
    (elim (slice_get tags tag) as (λ o. slice_get tags tag ≡ o → (o ≡ None) ⊎ (o ≡ Some Free)) [
      | None ↦ λ e. inl refl
      | Some t ↦ λ e. inr (ap (λ x. Some x) (sym (each t e)))
    ]) refl

lane-free : (o : Option Lane) (tag : ℕ) → ((l : Lane) → o ≡ Some l → opening_lane ≡ l) → (tag_in o tag ≡ None) ⊎ (tag_in o tag ≡ Some Free)
lane-free None tag each = inl refl
lane-free (Some l) tag each =
    subst (λ (x : Lane). (slice_get x.tags tag ≡ None) ⊎ (slice_get x.tags tag ≡ Some Free)) (each l refl)
    (tag-free (replicate tag_count Free) tag (λ t e. slice_get-replicate tag_count tag Free t e))

opening-free : (host : ℕ → ℕ) (disk : ℕ → ℕ → ℕ) (geometry : Geometry) (lanes lane tag : ℕ)
    → (tag_of (opening_world host disk geometry lanes) lane tag ≡ None) ⊎ (tag_of (opening_world host disk geometry lanes) lane tag ≡ Some Free)
unfolding opening_world
opening-free host disk geometry lanes lane tag =
    lane-free (slice_get (replicate lanes opening_lane) lane) tag (λ l e. slice_get-replicate lanes lane opening_lane l e)

free-no_member : (o : Option Tag) (tag number : ℕ) (rests : List Rest) → (o ≡ None) ⊎ (o ≡ Some Free) → None ≡ member_in o tag number rests
free-no_member o tag number rests (inl none) = ap (λ x. member_in x tag number rests) (sym none)
free-no_member o tag number rests (inr free) = ap (λ x. member_in x tag number rests) (sym free)

free-related : (o : Option Tag) (number : ℕ) (guest : Guest) (held : Option Held) (status_at : ℕ → StatusField) (bounce : ℕ) (host memory : ℕ → ℕ)
    → (o ≡ None) ⊎ (o ≡ Some Free) → IsTagRelated (own_tag number o) guest held status_at bounce host memory
free-related o number guest held status_at bounce host memory (inl none) =
    subst (λ x. IsTagRelated (own_tag number x) guest held status_at bounce host memory) (sym none) tt
free-related o number guest held status_at bounce host memory (inr free) =
    subst (λ x. IsTagRelated (own_tag number x) guest held status_at bounce host memory) (sym free) tt

-- a row has a member at each of its places
in-row : {X : Type 0} (n i : ℕ) (x : X) → i < n → slice_get (replicate n x) i ≡ Some x
in-row n i x below =
    let sized = length-replicate n x in
    let found = slice_get-there (replicate n x) i (subst (λ m. i < m) (sym sized) below) in
    found.1 ∙ ap (λ y. Some y) (sym (slice_get-replicate n i x found.0 found.1))

pub opening-related : (s : SetUp) (host : ℕ → ℕ) (disk : ℕ → ℕ → ℕ) (number : ℕ) (guest : Guest) → slice_get s.geometry.guests number ≡ Some guest
    → (let w = opening_world host disk s.geometry s.lanes in Related s.geometry number guest w (start_in guest w))
unfolding opening_world members
opening-related s host disk number guest given =
    let w : World = opening_world host disk s.geometry s.lanes in
    record {
      controller = in-row (length s.geometry.guests) number opening (slice_get-below s.geometry.guests number guest given);
      blocks = (λ lba offset below. refl);
      marks = (λ lba below. refl);
      memory = (λ addr there shown. refl);
      bag = (λ name.
          free-no_member (tag_of w (name / tag_count) (name % tag_count)) (name % tag_count) number _
          (opening-free host disk s.geometry s.lanes (name / tag_count) (name % tag_count)));
      tags = (λ lane tag. free-related (tag_of w lane tag) number guest _ _ _ _ _ (opening-free host disk s.geometry s.lanes lane tag));
    }

-- ---- what is hidden is awaited

-- whether a destination among named bytes has an address
abbrev pub awaits : (addr : ℕ) → Named → Bool
awaits addr n = is_destination n && names n addr

run-awaits : (addr from len : ℕ) → from ≤ addr → addr < from + len → awaits addr (named_as Destination from len) ≡ true
run-awaits addr from len low high = run-names addr Destination from len low high

-- whether a command of that entry awaits an address
abbrev pub entry_awaits : Guest → (host : ℕ → ℕ) → (addr : ℕ) → List ℕ → Bool
entry_awaits guest host addr entry = list_any (awaits addr) (io_named (shape_of guest) (image (regions_of guest) host) entry)

pub verdict-awaits : (addr : ℕ) (v : Verdict) (work : Work) → v ≡ Go work → is_read work.opcode ≡ true → list_any (is_place_at addr) (places_of work.pieces) ≡ true
    → list_any (awaits addr) (verdict_named v) ≡ true
verdict-awaits addr v work goes read e =
    ap (λ x. list_any (awaits addr) (verdict_named x)) goes
    ∙ ap (λ b. list_any (awaits addr) (buffer_named (cond b Destination Source) work.pieces)) read ∙ place-passes addr Destination (awaits addr) (run-awaits addr) work.pieces e

pub plan-awaits : (guest : Guest) (entry : List ℕ) (share : Share) (left : ℕ → Bool) (bounce : ℕ) (host memory : ℕ → ℕ) (addr : ℕ)
    → IsFit share → IsUnderWay guest entry share left bounce host memory → plan_hides share.plan left addr ≡ true → entry_awaits guest host addr entry ≡ true
plan-awaits guest entry share left bounce host memory addr fit is e = by share.plan refl e
  where
    by : (plan : Plan) → share.plan ≡ plan → plan_hides plan left addr ≡ true → entry_awaits guest host addr entry ≡ true
    by (Answer st) same e = cc
    by (NoData own) same e = cc
    by (Direct own) same e = cc
    by (Bounced own) same e =
        let read = and-true (is_read own.opcode) (list_any (λ k. not (left k) && block_names own k addr) (numbers_of own)) e in
        let one = any-one (λ k. not (left k) && block_names own k addr) (numbers_of own) read.1 in
        let named = (and-true (not (left one.0)) (block_names own one.0 addr) one.1).1 in
        let part : IsPart share own = fit own (ap work_of same) in
        any-behind (awaits addr) (map (λ a. named_as ListBytes a.0 a.1) (asked (image (regions_of guest) host) (judge (shape_of guest).mapped (shape_of guest).limit (shape_of guest).blocks entry)))
        (verdict_named (verdict_in (shape_of guest) (image (regions_of guest) host) entry))
        (verdict-awaits addr (verdict_in (shape_of guest) (image (regions_of guest) host) entry) part.whole (is.steady part.whole part.is)
        (sym (ap is_read part.opcode) ∙ read.0)
        (part.within addr
        (any-drop (is_place_at addr) (block * one.0) (places_of own.pieces) (any-take (is_place_at addr) block (drop (block * one.0) (places_of own.pieces)) named))))

ended-awaits : (guest : Guest) (entry : List ℕ) (st : StatusField) (share : Option Share) (bounce : ℕ) (host memory : ℕ → ℕ) (addr : ℕ)
    → IsFitOr share → HasEndedWell share guest entry st bounce host memory → ended_hides share addr ≡ true → entry_awaits guest host addr entry ≡ true
ended-awaits guest entry st None bounce host memory addr fit is e = cc
ended-awaits guest entry st (Some share) bounce host memory addr fit is e = plan-awaits guest entry share none_left bounce host memory addr fit is.0 e

module _ (number : ℕ) (guest : Guest) (held : Option Held) (status_at : ℕ → StatusField) (bounce : ℕ) (host memory : ℕ → ℕ) (addr : ℕ) where
  -- a guest's own command, or another's
  own-awaits : (b : Bool) (t : Tag) (entry : List ℕ)
      → (hides (Some t) held addr ≡ true → IsTagRelated (Some t) guest held status_at bounce host memory → entry_awaits guest host addr entry ≡ true)
      → hides (cond b (Some t) None) held addr ≡ true → IsTagRelated (cond b (Some t) None) guest held status_at bounce host memory
      → list_any (entry_awaits guest host addr) (cond b (entry ∷ []) []) ≡ true
  own-awaits true t entry one e is = ap (λ b. b || false) (one e is)
  own-awaits false t entry one e is = cc

  pub tag-awaits : (t : Tag) → IsFitTag t → hides (own_tag number (Some t)) held addr ≡ true → IsTagRelated (own_tag number (Some t)) guest held status_at bounce host memory
      → list_any (entry_awaits guest host addr) (any_entry number t) ≡ true
  tag-awaits Free fit e is = cc
  tag-awaits (Taken command reads) fit e is =
      own-awaits (command.guest == number) (Taken command reads) command.entry (λ hid _. (let none : false ≡ true = hid in cc)) e is
  tag-awaits (Flying command share standing) fit e is =
      own-awaits (command.guest == number) (Flying command share standing) command.entry
      (λ hid so. plan-awaits guest command.entry share (left_where standing held) bounce host memory addr fit so.0 hid) e is
  tag-awaits (Ended command st share) fit e is =
      own-awaits (command.guest == number) (Ended command st share) command.entry
      (λ hid so. ended-awaits guest command.entry st share bounce host memory addr fit so hid) e is

module _ (geometry : Geometry) (number : ℕ) (guest : Guest) (w : World) (fine : IsConsistent geometry w) (p : Private)
    (related : Related geometry number guest w p) where
  hides-awaited : (addr lane tag : ℕ) (o : Option Tag) (held : Option Held) → tag_of w lane tag ≡ o
      → IsTagRelated (own_tag number o) guest held (λ at. status_of (completion_at geometry w lane at)) (bounce_page geometry.mediator lane tag) w.host p.memory
      → hides (own_tag number o) held addr ≡ true → is_awaited number guest w addr ≡ true
  hides-awaited addr lane tag None held there is e = cc
  hides-awaited addr lane tag (Some t) held there is e =
      taken-among geometry w fine.groups number (entry_awaits guest w.host addr) lane tag t there
      (tag-awaits number guest held (λ at. status_of (completion_at geometry w lane at)) (bounce_page geometry.mediator lane tag) w.host p.memory addr t
      (there-fit geometry w lane tag t fine.of_tags there) e is)

  -- what isn't awaited isn't hidden
  pub not-awaited : (addr : ℕ) → is_awaited number guest w addr ≡ false → NoneHides number w addr
  not-awaited addr free lane tag =
      (elim (hides (own_tag number (tag_of w lane tag)) held addr) as (λ b. hides (own_tag number (tag_of w lane tag)) held addr ≡ b → b ≡ false) [
        | true ↦ λ e. (let bad = sym (hides-awaited addr lane tag (tag_of w lane tag) held refl (related.tags lane tag) e) ∙ free in cc)
        | false ↦ λ e. refl
      ]) refl
    where
      held : Option Held
      held = own_held number (tag_of w lane tag) (held_in (slice_get w.device lane) tag)

  pub related-agrees : Agrees number guest w p
  related-agrees =
      record {
        controller = related.controller;
        memory = (λ addr there free. related.memory addr there (not-awaited addr free));
        blocks = related.blocks;
        marks = related.marks;
      }
