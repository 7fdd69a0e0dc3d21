-- The world cut down to a guest looks to that guest as it does whole.
use Rattle.std.proofs.Common.{◌≡◌, ℕ, zero, suc, ◌+◌, Bool, true, false, cond, ◌&&◌, ◌||◌, ◌==◌, List, [], ◌∷◌, length, map}
use Rattle.std.proofs.Common.{slice_get}
use Rattle.std.proofs.Common.{Option, Some, None, is_some, arith, refl, sym, ap, ◌∙◌, eq-eqb}
use Rattle.std.specs.List.{enumerate_from}
use Rattle.std.specs.Option.{option_map}
use Rattle.std.proofs.lemmas.Bool.{ne_eqb}
use Rattle.std.proofs.lemmas.List.{length-map}
use Rattle.std.proofs.lemmas.List.FromFn.{length-enumerate_from}
use Rattle.std.proofs.lemmas.Option.{slice_get-map}
use Rattle.nv_mem.specs.GuestMap.{host_of}
use Rattle.nv_mem.proofs.Images.{guest_of-host}
use Rattle.nv_model.specs.Controller.{Controller, opening}
use Rattle.nv_model.specs.Memory.{byte_at_host, image}
use Rattle.nv_ns.specs.Extents.{place_in}
use Rattle.nv_world_model.specs.CutDown.{cut, cut_controller, cut_device, cut_lane, cut_tag, nobodys}
use Rattle.nv_world_model.specs.Device.{DeviceLane, Held}
use Rattle.nv_world_model.specs.Geometry.{Geometry, Guest, regions_of}
use Rattle.nv_world_model.specs.Seat.{held_by, held_in}
use Rattle.nv_world_model.specs.View.{IsAlike, in_image, is_tag_of, lane_numbers, lies_in, own_held, own_tag, ring_numbers, shared_numbers, shown}
use Rattle.nv_world_model.specs.World.{Ended, Flying, Free, Lane, Tag, Taken, World, is_free, tag_in, tag_of}
use Rattle.nv_laws_sound.specs.LaidOut.{IsLaidOut}
use Rattle.nv_laws_sound.proofs.Lists.{slice_get-below}
use Rattle.nv_laws_sound.proofs.Namespaces.{place-own}

-- ---- lists of numbered members

numbered : {X Y : Type 0} (f : ℕ × X → Y) (n : ℕ) (xs : List X) (i : ℕ)
    → slice_get (map f (enumerate_from n xs)) i ≡ option_map (λ x. f (n + i, x)) (slice_get xs i)
numbered f n [] i = refl
numbered f n (x ∷ xs) zero = (let same : n ≡ n + 0 = omega arith in ap (λ m. Some (f (m, x))) same)
numbered f n (x ∷ xs) (suc i) =
    (let same : n + 1 + i ≡ n + suc i = omega arith in
    numbered f (n + 1) xs i ∙ ap (λ m. option_map (λ y. f (m, y)) (slice_get xs i)) same)

numbered-from : {X Y : Type 0} (f : ℕ × X → Y) (xs : List X) (i : ℕ) → slice_get (map f (enumerate_from 0 xs)) i ≡ option_map (λ x. f (i, x)) (slice_get xs i)
numbered-from f xs i =
    (let same : 0 + i ≡ i = omega arith in
    numbered f 0 xs i ∙ ap (λ m. option_map (λ x. f (m, x)) (slice_get xs i)) same)

length-numbered : {X Y : Type 0} (f : ℕ × X → Y) (n : ℕ) (xs : List X) → length (map f (enumerate_from n xs)) ≡ length xs
length-numbered f n xs = length-map (enumerate_from n xs) f ∙ length-enumerate_from n xs

-- ---- tags

module _ (number nobody : ℕ) (apart : (nobody == number) ≡ false) where
  -- by whether it is that guest's
  free-chosen : (b : Bool) (t : Tag) → is_free t ≡ false → false ≡ is_free (cond b t (Taken (nobodys nobody) []))
  free-chosen true t is = sym is
  free-chosen false t is = refl

  free-kept : (t : Tag) → is_free t ≡ is_free (cut_tag number nobody t)
  free-kept Free = refl
  free-kept (Taken command reads) = free-chosen (command.guest == number) (Taken command reads) refl
  free-kept (Flying command share standing) = free-chosen (command.guest == number) (Flying command share standing) refl
  free-kept (Ended command st share) = free-chosen (command.guest == number) (Ended command st share) refl

  own-chosen : (b : Bool) (t : Tag) → is_tag_of number (Some t) ≡ b → b ≡ is_tag_of number (Some (cond b t (Taken (nobodys nobody) [])))
  own-chosen true t is = sym is
  own-chosen false t is = sym apart

  own-kept : (t : Tag) → is_tag_of number (Some t) ≡ is_tag_of number (Some (cut_tag number nobody t))
  own-kept Free = refl
  own-kept (Taken command reads) = own-chosen (command.guest == number) (Taken command reads) refl
  own-kept (Flying command share standing) = own-chosen (command.guest == number) (Flying command share standing) refl
  own-kept (Ended command st share) = own-chosen (command.guest == number) (Ended command st share) refl

  tag-chosen : (b : Bool) (t : Tag) → is_tag_of number (Some t) ≡ b → cond b (Some t) None ≡ own_tag number (Some (cond b t (Taken (nobodys nobody) [])))
  tag-chosen true t is = sym (ap (λ b. cond b (Some t) None) is)
  tag-chosen false t is = sym (ap (λ b. cond b (Some (Taken (nobodys nobody) [])) None) apart)

  tag-kept : (t : Tag) → own_tag number (Some t) ≡ own_tag number (Some (cut_tag number nobody t))
  tag-kept Free = refl
  tag-kept (Taken command reads) = tag-chosen (command.guest == number) (Taken command reads) refl
  tag-kept (Flying command share standing) = tag-chosen (command.guest == number) (Flying command share standing) refl
  tag-kept (Ended command st share) = tag-chosen (command.guest == number) (Ended command st share) refl

  -- where there is one
  tags-kept : (t : Option Tag) → own_tag number t ≡ own_tag number (option_map (cut_tag number nobody) t)
  tags-kept None = refl
  tags-kept (Some t) = tag-kept t

  owns-kept : (t : Option Tag) → is_tag_of number t ≡ is_tag_of number (option_map (cut_tag number nobody) t)
  owns-kept None = refl
  owns-kept (Some t) = own-kept t

  -- ---- lanes

  frees-kept : (tags : List Tag) → map is_free tags ≡ map is_free (map (cut_tag number nobody) tags)
  frees-kept [] = refl
  frees-kept (t ∷ tags) = ap (λ b. b ∷ map is_free tags) (free-kept t) ∙ ap (λ bs. is_free (cut_tag number nobody t) ∷ bs) (frees-kept tags)

  lane-kept : (l : Lane) → lane_numbers l ≡ lane_numbers (cut_lane number nobody l)
  lane-kept l = ap (λ free. record { head = l.head; phase = l.phase; free = free }) (frees-kept l.tags)

  lanes-kept : (lanes : List Lane) → map lane_numbers lanes ≡ map lane_numbers (map (cut_lane number nobody) lanes)
  lanes-kept [] = refl
  lanes-kept (l ∷ lanes) =
      ap (λ n. n ∷ map lane_numbers lanes) (lane-kept l) ∙ ap (λ ns. lane_numbers (cut_lane number nobody l) ∷ ns) (lanes-kept lanes)

  tag-in : (l : Option Lane) (tag : ℕ) → tag_in (option_map (cut_lane number nobody) l) tag ≡ option_map (cut_tag number nobody) (tag_in l tag)
  tag-in None tag = refl
  tag-in (Some l) tag = slice_get-map (cut_tag number nobody) l.tags tag

-- ---- the device

-- what is held by a tag of that guest, or of nobody
held-own : (number : ℕ) (mine : Bool) (held : Option (Option Held)) → cond mine (held_by held) None ≡ held_by (option_map (λ h. cond mine h None) held)
held-own number true None = refl
held-own number false None = refl
held-own number true (Some h) = refl
held-own number false (Some h) = refl

twice : (mine : Bool) (held : Option Held) → cond mine held None ≡ cond mine (cond mine held None) None
twice true held = refl
twice false held = refl

module _ (number : ℕ) (w : World) where
  ring-kept : (n : ℕ) (d : DeviceLane) → ring_numbers d ≡ ring_numbers (cut_device number w (n, d))
  ring-kept n d =
      ap (λ slots. record { head = d.head; tail = d.tail; posted = d.posted; phase = d.phase; slots = slots })
      (sym (length-numbered (λ h. own_held number (tag_of w n h.0) h.1) 0 d.held))

  rings-kept : (n : ℕ) (ds : List DeviceLane) → map ring_numbers ds ≡ map ring_numbers (map (cut_device number w) (enumerate_from n ds))
  rings-kept n [] = refl
  rings-kept n (d ∷ ds) =
      ap (λ r. r ∷ map ring_numbers ds) (ring-kept n d) ∙ ap (λ rs. ring_numbers (cut_device number w (n, d)) ∷ rs) (rings-kept (n + 1) ds)

  held-kept : (d : Option DeviceLane) (lane tag : ℕ)
      → own_held number (tag_of w lane tag) (held_in d tag) ≡ held_in (option_map (λ x. cut_device number w (lane, x)) d) tag
  held-kept None lane tag =
      (elim (is_tag_of number (tag_of w lane tag)) as (λ b. cond b None None ≡ held_in None tag) [
        | true ↦ refl
        | false ↦ refl
      ])
  held-kept (Some d) lane tag =
      held-own number (is_tag_of number (tag_of w lane tag)) (slice_get d.held tag)
      ∙ ap held_by (sym (numbered-from (λ h. own_held number (tag_of w lane h.0) h.1) d.held tag))

-- ---- controllers

controller-kept : (number : ℕ) (b : Bool) (w : World) → (number == number) ≡ b → b ≡ true
    → slice_get w.controllers number ≡ slice_get (map (cut_controller number) (enumerate_from 0 w.controllers)) number
controller-kept number b w is on =
    by_there (slice_get w.controllers number) ∙ sym (numbered-from (cut_controller number) w.controllers number)
  where
    by_there : (c : Option Controller) → c ≡ option_map (λ x. cut_controller number (number, x)) c
    by_there None = refl
    by_there (Some c) = sym (ap (λ t. Some (cond t c opening)) (is ∙ on))

or-behind : (a b : Bool) → b ≡ true → (a || b) ≡ true
or-behind true b is = refl
or-behind false b is = is

-- ---- the world

module _ (host_bytes lanes : ℕ) (geometry : Geometry) (laid : IsLaidOut host_bytes lanes geometry) (w : World) (number : ℕ) (guest : Guest)
    (given : slice_get geometry.guests number ≡ Some guest) where
  nobody-apart : (length geometry.guests == number) ≡ false
  nobody-apart =
      let below = slice_get-below geometry.guests number guest given in
      ne_eqb (length geometry.guests) number (λ same. absurd (omega (arith, below, same)))

  memory-kept : (addr : ℕ) (found : Option ℕ) → host_of (regions_of guest) addr ≡ found
      → byte_at_host w.host found ≡ byte_at_host (cut number guest geometry w).host found
  unfolding cut
  memory-kept addr None is = refl
  memory-kept addr (Some at) is =
      let there = guest_of-host (regions_of guest) addr at (laid.given number guest given).sound.apart is in
      sym (ap (λ o. cond (is_some o || lies_in (shown number guest geometry w) at) (w.host at) 0) there)

  pub tag-cut : (lane tag : ℕ) → tag_of (cut number guest geometry w) lane tag ≡ option_map (cut_tag number (length geometry.guests)) (tag_of w lane tag)
  unfolding cut
  tag-cut lane tag =
      ap (λ o. tag_in o tag) (slice_get-map (cut_lane number (length geometry.guests)) w.lanes lane)
      ∙ tag-in number (length geometry.guests) nobody-apart (slice_get w.lanes lane) tag

  tags-same : (lane tag : ℕ) → own_tag number (tag_of w lane tag) ≡ own_tag number (tag_of (cut number guest geometry w) lane tag)
  tags-same lane tag =
      tags-kept number (length geometry.guests) nobody-apart (tag_of w lane tag) ∙ sym (ap (own_tag number) (tag-cut lane tag))

  pub owns-same : (lane tag : ℕ) → is_tag_of number (tag_of w lane tag) ≡ is_tag_of number (tag_of (cut number guest geometry w) lane tag)
  owns-same lane tag =
      owns-kept number (length geometry.guests) nobody-apart (tag_of w lane tag) ∙ sym (ap (is_tag_of number) (tag-cut lane tag))

  pub device-cut : (lane tag : ℕ) → own_held number (tag_of w lane tag) (held_in (slice_get w.device lane) tag)
      ≡ held_in (slice_get (cut number guest geometry w).device lane) tag
  unfolding cut
  device-cut lane tag =
      held-kept number w (slice_get w.device lane) lane tag
      ∙ ap (λ d. held_in d tag) (sym (numbered-from (cut_device number w) w.device lane))

  held-same : (lane tag : ℕ) → own_held number (tag_of w lane tag) (held_in (slice_get w.device lane) tag)
      ≡ own_held number (tag_of (cut number guest geometry w) lane tag) (held_in (slice_get (cut number guest geometry w).device lane) tag)
  held-same lane tag =
      twice (is_tag_of number (tag_of w lane tag)) (held_in (slice_get w.device lane) tag)
      ∙ ap (λ h. cond (is_tag_of number (tag_of w lane tag)) h None) (device-cut lane tag)
      ∙ ap (λ b. cond b (held_in (slice_get (cut number guest geometry w).device lane) tag) None) (owns-same lane tag)

  numbers-same : shared_numbers w ≡ shared_numbers (cut number guest geometry w)
  unfolding cut shared_numbers
  numbers-same =
      ap (λ ls. record { lanes = ls; rings = map ring_numbers w.device; guests = length w.controllers })
      (lanes-kept number (length geometry.guests) nobody-apart w.lanes)
      ∙ ap (λ rs. record { lanes = map lane_numbers (map (cut_lane number (length geometry.guests)) w.lanes); rings = rs; guests = length w.controllers })
      (rings-kept number w 0 w.device)
      ∙ ap (λ n. record {
        lanes = map lane_numbers (map (cut_lane number (length geometry.guests)) w.lanes);
        rings = map ring_numbers (map (cut_device number w) (enumerate_from 0 w.device));
        guests = n;
      })
      (sym (length-numbered (cut_controller number) 0 w.controllers))

  pub cut-alike : IsAlike number guest geometry w (cut number guest geometry w)
  unfolding cut image
  cut-alike =
      record {
        view = record {
          memory = (λ addr. memory-kept addr (host_of (regions_of guest) addr) refl);
          blocks = (λ lba offset below. sym (ap (λ b. cond b (w.disk (place_in guest.namespace lba) offset) 0) (place-own guest.namespace lba below)));
          controller = controller-kept number (number == number) w refl (eq-eqb number number refl);
          tags = tags-same;
          held = held-same;
          area = (λ addr lies. sym (ap (λ b. cond b (w.host addr) 0) (or-behind (in_image guest addr) _ lies)));
        };
        marks = (λ lba below. sym (ap (λ b. b && w.kept (place_in guest.namespace lba)) (place-own guest.namespace lba below)));
        shared = numbers-same;
      }
