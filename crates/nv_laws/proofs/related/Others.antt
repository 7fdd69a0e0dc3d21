-- The private controller of a guest goes along with the events of others, and with those that keep a block.
use Rattle.std.proofs.Common.{◌≡◌, ℕ, ◌+◌, ◌<◌, Bool, true, false, cond, ◌&&◌, ◌||◌, ◌==◌, nat_le, nat_lt, List, [], All, filter, length, map, slice_get}
use Rattle.std.proofs.Common.{Option, Some, None, arith, refl, sym, ap, ◌∙◌}
use Rattle.std.specs.List.{list_any, range_with_len}
use Rattle.std.proofs.lemmas.Bool.{lt-ltb, ne_eqb}
use Rattle.std.proofs.lemmas.List.Elements.{All-nil}
use Rattle.nv_model.specs.Judge.{form_of}
use Rattle.nv_model.specs.Private.{KeepStep, Private, Step}
use Rattle.nv_model.specs.declared.reply.Reply.{Reply}
use Rattle.nv_model.specs.declared.reply.Reply.TheVariants as reply
use Rattle.nv_ns.specs.Extents.{blocks_in, place_in}
use Rattle.nv_world_model.specs.declared.event.Event.{Event}
use Rattle.nv_world_model.specs.declared.event.Event.TheVariants as event
use Rattle.nv_world_model.specs.Area.{tag_count}
use Rattle.nv_world_model.specs.Contained.{guest_of_one, in_extents_of, owner}
use Rattle.nv_world_model.specs.Device.{DeviceLane, Held}
use Rattle.nv_world_model.specs.Geometry.{Geometry, Guest}
use Rattle.nv_world_model.specs.PrivateSteps.{act_of, keeps_all, others_moves, own_moves, steps_done, work_in}
use Rattle.nv_world_model.specs.Step.{After, device_move, device_moved, is_telling, kept_block, replied, step}
use Rattle.nv_world_model.specs.View.{guest_of_tag, is_tag_of}
use Rattle.nv_world_model.specs.World.{Flying, InDevice, Lane, Tag, World, is_that, tag_in, tag_of}
use Rattle.nv_laws_sound.proofs.Lists.{slice_get-below, slice_get-there}
use Rattle.nv_laws_sound.proofs.MoveEvents.{held-flies}
use Rattle.nv_laws_sound.proofs.Named.{row-all}
use Rattle.nv_laws_sound.proofs.Namespaces.{place-disk}
use Rattle.nv_laws_sound.proofs.OwnWork.{own-of}
use Rattle.nv_laws_sound.proofs.GroupsKept.{HasGroups}
use Rattle.nv_laws_sound.proofs.Steps.{step-consistent}
use Rattle.nv_laws.proofs.others.Every.{each-leaves, each-leaves-others}
use Rattle.nv_laws.proofs.others.Leaving.{extent-apart}
use Rattle.nv_laws.specs.Following.{GoesAlong, IsReached}
use Rattle.nv_laws.specs.Related.{Related}
use Rattle.nv_laws.proofs.related.Keeping.{any-filter, keep_all, keep_all-is, row-any}
use Rattle.nv_laws.proofs.related.Marks.{RaisesNone, marks-kept}
use Rattle.nv_laws.proofs.related.UnitMarks.{unit-marks}
use Rattle.nv_laws.proofs.related.Views.{IsLeft, view-related}
use Rattle.nv_laws.proofs.related.Within.{planned-own}
use Rattle.nv_laws.proofs.related.Goings.{and-yes, dull-goes, filter-all, keep-goes, none-goes}
use Rattle.nv_laws.proofs.related.Ways.{device-way, either-way, held-way}

-- ---- whose an event is

pub not-own : (number : ℕ) (o : Option Tag) → (guest_of_one o ≡ Some number → ⊥) → is_tag_of number o ≡ false
not-own number None apart = refl
not-own number (Some t) apart = by_guest (guest_of_tag t) apart
  where
    by_guest : (g : Option ℕ) → (g ≡ Some number → ⊥) → is_that number g ≡ false
    by_guest None apart = refl
    by_guest (Some other) apart = ne_eqb other number (λ same. apart (ap (λ n. Some n) same))

-- a guest's event is no other's
not-same : {X : Type 0} (g number : ℕ) (x y : X) → (Some g ≡ Some number → ⊥) → cond (g == number) x y ≡ y
not-same g number x y apart = ap (λ b. cond b x y) (ne_eqb g number (λ same. apart (ap (λ n. Some n) same)))

pub others-act : (number : ℕ) (e : Event) (w : World) → (owner e w ≡ Some number → ⊥) → act_of number e ≡ None
others-act number (event.Guest g a) w apart = not-same g number (Some a) None apart
others-act number (event.Admin g) w apart = refl
others-act number (event.Take g queue lane) w apart = refl
others-act number (event.List lane tag addr len) w apart = refl
others-act number (event.Submit lane tag) w apart = refl
others-act number (event.GiveUp lane tag) w apart = refl
others-act number (event.DevTake lane) w apart = refl
others-act number (event.DevMove lane slot unit) w apart = refl
others-act number (event.DevPost lane slot) w apart = refl
others-act number (event.DevFail lane slot st) w apart = refl
others-act number (event.Keep block) w apart = refl
others-act number (event.Reap lane) w apart = refl
others-act number (event.Post lane tag) w apart = refl

tag-none : (number : ℕ) (o : Option Tag) (steps : List Step) → (guest_of_one o ≡ Some number → ⊥) → cond (is_tag_of number o) steps [] ≡ []
tag-none number o steps apart = ap (λ b. cond b steps []) (not-own number o apart)

others-none : (number : ℕ) (guest : Guest) (e : Event) (w : World) → RaisesNone e → (owner e w ≡ Some number → ⊥) → steps_done number guest w e ≡ []
others-none number guest (event.Guest g a) w none apart = not-same g number _ [] apart
others-none number guest (event.Admin g) w none apart = not-same g number _ [] apart
others-none number guest (event.Take g queue lane) w none apart = not-same g number _ [] apart
others-none number guest (event.List lane tag addr len) w none apart = refl
others-none number guest (event.Submit lane tag) w none apart = tag-none number (tag_of w lane tag) _ apart
others-none number guest (event.GiveUp lane tag) w none apart = tag-none number (tag_of w lane tag) _ apart
others-none number guest (event.DevTake lane) w none apart = refl
others-none number guest (event.DevMove lane slot unit) w none apart = absurd none
others-none number guest (event.DevPost lane slot) w none apart = refl
others-none number guest (event.DevFail lane slot st) w none apart = refl
others-none number guest (event.Keep block) w none apart = absurd none
others-none number guest (event.Reap lane) w none apart = refl
others-none number guest (event.Post lane tag) w none apart = tag-none number (tag_of w lane tag) _ apart

-- ---- events of others

module _ (host_bytes : ℕ) (geometry : Geometry) (number : ℕ) (guest : Guest) (given : slice_get geometry.guests number ≡ Some guest)
    (w : World) (reached : IsReached host_bytes geometry w) (p : Private) (related : Related geometry number guest w p) where
  pub others-left : (e : Event) → (owner e w ≡ Some number → ⊥) → IsLeft number guest geometry w (step geometry e w).world
  others-left e apart =
      record {
        view = (each-leaves-others host_bytes geometry w e reached.laid reached.consistent).views number guest given apart;
        area = (λ addr shown. (each-leaves host_bytes geometry w e reached.laid reached.consistent).area number guest addr given apart shown);
      }

  groups-behind : (e : Event) → HasGroups geometry (step geometry e w).world.lanes
  groups-behind e = (step-consistent host_bytes geometry e w reached.laid reached.consistent).groups

  plain-goes : (e : Event) → RaisesNone e → (owner e w ≡ Some number → ⊥) → GoesAlong geometry number guest e w p (step geometry e w)
  plain-goes e none apart =
      none-goes geometry number guest e w p (others-act number e w apart) (step geometry e w) (others-none number guest e w none apart)
      (view-related geometry number guest w (step geometry e w).world reached.consistent (groups-behind e) (others-left e apart) p p.kept related
      (λ lba below. related.marks lba below ∙ sym (ap (λ kept. kept (place_in guest.namespace lba)) (marks-kept geometry w e none))))

  -- ---- a block that is kept

  kept-there : (lbas : List ℕ) (z : World) (lba : ℕ) (b : Bool) → lba < blocks_in guest.namespace → list_any (λ n. n == lba) lbas ≡ b
      → z.kept (place_in guest.namespace lba) ≡ (b || w.kept (place_in guest.namespace lba))
      → keep_all lbas p.kept lba ≡ z.kept (place_in guest.namespace lba)
  kept-there lbas z lba b below any marks =
      keep_all-is lbas p.kept lba ∙ ap (λ c. c || p.kept lba) any ∙ ap (λ c. b || c) (related.marks lba below) ∙ sym marks

  or-cond : (b k : Bool) → cond b true k ≡ (b || k)
  or-cond true k = refl
  or-cond false k = refl

  keeps-goes : (block : ℕ) → GoesAlong geometry number guest (event.Keep block) w p (step geometry (event.Keep block) w)
  unfolding step kept_block
  keeps-goes block =
      either-way P w (λ r dull left. dull-goes geometry number guest (event.Keep block) w p refl related r dull) (nat_le (block + 1) geometry.disk_blocks) _ _
      (λ there left.
      keep-goes geometry number guest (event.Keep block) w p refl lbas (kept_block block w)
      (filter-all (λ lba. lba < blocks_in guest.namespace) (λ lba. place_in guest.namespace lba == block) (range_with_len 0 (blocks_in guest.namespace)) all_below) refl
      (view-related geometry number guest w (kept_block block w) reached.consistent reached.consistent.groups left p (keep_all lbas p.kept) related
      (λ lba below.
      kept-there lbas (kept_block block w) lba (place_in guest.namespace lba == block) below
      (any-filter (λ n. place_in guest.namespace n == block) (range_with_len 0 (blocks_in guest.namespace)) lba
      ∙ ap (λ b. (place_in guest.namespace lba == block) && b) (row-any lba 0 (blocks_in guest.namespace) (omega arith) (omega (arith, below)))
      ∙ and-yes (place_in guest.namespace lba == block))
      (or-cond (place_in guest.namespace lba == block) (w.kept (place_in guest.namespace lba))))))
      (λ out left. dull-goes geometry number guest (event.Keep block) w p refl related reply.Idle refl)
      (others-left (event.Keep block) (λ e. cc))
    where
      P : After → Type 0
      P done = IsLeft number guest geometry w done.world → GoesAlong geometry number guest (event.Keep block) w p done

      all_below : All (λ lba. lba < blocks_in guest.namespace) (range_with_len 0 (blocks_in guest.namespace))
      all_below = row-all (λ lba. lba < blocks_in guest.namespace) 0 (blocks_in guest.namespace) (λ at low high. omega (arith, high))

      lbas : List ℕ
      lbas = filter (λ lba. place_in guest.namespace lba == block) (range_with_len 0 (blocks_in guest.namespace))

  -- ---- a unit that moves

  -- which blocks a command of another keeps
  kept_by : (all : Bool) → List ℕ
  kept_by all = cond all (range_with_len 0 (blocks_in guest.namespace)) []

  kept_by-below : (all : Bool) → All (λ lba. lba < blocks_in guest.namespace) (kept_by all)
  unfolding kept_by
  kept_by-below true = row-all (λ lba. lba < blocks_in guest.namespace) 0 (blocks_in guest.namespace) (λ at low high. omega (arith, high))
  kept_by-below false = All-nil (λ lba. lba < blocks_in guest.namespace)

  kept_by-steps : (all : Bool) → cond all (map KeepStep (range_with_len 0 (blocks_in guest.namespace))) [] ≡ map KeepStep (kept_by all)
  unfolding kept_by
  kept_by-steps true = refl
  kept_by-steps false = refl

  kept_by-any : (all : Bool) (lba : ℕ) → lba < blocks_in guest.namespace → list_any (λ n. n == lba) (kept_by all) ≡ all
  unfolding kept_by
  kept_by-any true lba below = row-any lba 0 (blocks_in guest.namespace) (omega arith) (omega (arith, below))
  kept_by-any false lba below = refl

  -- the marks of its blocks behind a unit that is another's
  moved-mark : (all k : Bool) (at : ℕ) → at < geometry.disk_blocks → cond all (nat_lt at geometry.disk_blocks || k) k ≡ (all || k)
  moved-mark true k at below = ap (λ b. b || k) (lt-ltb at geometry.disk_blocks below)
  moved-mark false k at below = refl

  moved-goes : (lane tag unit : ℕ) (l : Lane) (d : DeviceLane) (h : Held) (t : Tag) → slice_get w.lanes lane ≡ Some l → slice_get w.device lane ≡ Some d
      → slice_get l.tags tag ≡ Some t → slice_get d.held tag ≡ Some (Some h) → list_any (λ k. k == unit) h.left ≡ true
      → (guest_of_one (tag_of w lane tag) ≡ Some number → ⊥) → IsLeft number guest geometry w (device_moved geometry.disk_blocks lane tag unit h w)
      → GoesAlong geometry number guest (event.DevMove lane tag unit) w p (replied reply.Done (device_moved geometry.disk_blocks lane tag unit h w))
  unfolding device_moved
  moved-goes lane tag unit l d h t at there found held left_one apart left =
      let before = reached.consistent.of_tags.lanes lane l d at there in
      let tags = before.positions.tags in
      let among = slice_get-below l.tags tag t found in
      let tag_below : tag < tag_count = omega (arith, tags, among) in
      let holds = held-flies geometry lane tag w.host l.head d h t (before.tags tag t (Some h) found held) in
      let was = Flying holds.command holds.share InDevice in
      let is : tag_of w lane tag ≡ Some was = ap (λ x. tag_in x tag) at ∙ found ∙ ap (λ x. Some x) holds.flies in
      let whose = holds.command.guest in
      let differ : (Some whose ≡ Some number → ⊥) = λ same. apart (ap guest_of_one is ∙ same) in
      let all = keeps_all (form_of holds.planned.work.opcode) in
      let z = device_moved geometry.disk_blocks lane tag unit h w in
      keep-goes geometry number guest (event.DevMove lane tag unit) w p refl (kept_by all) z (kept_by-below all)
      (ap (λ b. cond b (own_moves (tag_of w lane tag) lane unit) (others_moves (work_in (tag_of w lane tag)) guest.namespace)) (not-own number (tag_of w lane tag) apart)
      ∙ ap (λ o. others_moves (work_in o) guest.namespace) is
      ∙ ap (λ o. others_moves o guest.namespace) (planned-own holds.guest holds.command.entry holds.share holds.planned)
      ∙ ap (λ code. cond (keeps_all (form_of code)) (map KeepStep (range_with_len 0 (blocks_in guest.namespace))) [])
      (own-of holds.guest holds.command.entry holds.share holds.planned).opcode
      ∙ kept_by-steps all)
      (view-related geometry number guest w z reached.consistent reached.consistent.groups left p (keep_all (kept_by all) p.kept) related
      (λ lba below.
      let out = extent-apart host_bytes geometry (length w.lanes) reached.laid (Some whose) number guest lba given differ below in
      kept-there (kept_by all) z lba all below (kept_by-any all lba below)
      (unit-marks host_bytes (length w.lanes) geometry reached.laid whose holds.guest holds.is.given holds.command.entry holds.share holds.planned holds.some lane tag h w.host
      holds.in_device unit left_one
      (place_in guest.namespace lba) (sym (ap (λ o. in_extents_of o (place_in guest.namespace lba)) holds.is.given) ∙ out)
      tag_below w.disk w.kept
      ∙ moved-mark all (w.kept (place_in guest.namespace lba)) (place_in guest.namespace lba)
      (place-disk host_bytes geometry.disk_blocks lba guest (reached.laid.given number guest given) below))))

  moves-goes : (lane slot unit : ℕ) → (guest_of_one (tag_of w lane slot) ≡ Some number → ⊥)
      → GoesAlong geometry number guest (event.DevMove lane slot unit) w p (step geometry (event.DevMove lane slot unit) w)
  unfolding step
  moves-goes lane slot unit apart =
      device-way P w dull (slice_get w.device lane) _ (λ d there.
      held-way P w dull (slice_get d.held slot) (λ h. device_move geometry.disk_blocks lane slot unit h w) (λ h held.
      either-way P w dull (list_any (λ k. k == unit) h.left) _ _ (λ left_one left.
      (let among = slice_get-below w.device lane d there in
      let sides = reached.consistent.of_tags.sides in
      let l = slice_get-there w.lanes lane (omega (arith, among, sides)) in
      let before = reached.consistent.of_tags.lanes lane l.0 d l.1 there in
      let tags = before.positions.tags in
      let sized = before.positions.held in
      let under = slice_get-below d.held slot (Some h) held in
      let t = slice_get-there l.0.tags slot (omega (arith, tags, sized, under)) in
      moved-goes lane slot unit l.0 d h t.0 l.1 there t.1 held left_one apart left)) (λ none left. dull reply.Idle refl left)))
      (others-left (event.DevMove lane slot unit) apart)
    where
      P : After → Type 0
      P done = IsLeft number guest geometry w done.world → GoesAlong geometry number guest (event.DevMove lane slot unit) w p done

      dull : (r : Reply) → is_telling r ≡ false → P (replied r w)
      dull r is left = dull-goes geometry number guest (event.DevMove lane slot unit) w p refl related r is

  -- an event of another
  pub others-go : (e : Event) → (owner e w ≡ Some number → ⊥) → GoesAlong geometry number guest e w p (step geometry e w)
  others-go (event.Guest guest_no a) apart = plain-goes (event.Guest guest_no a) tt apart
  others-go (event.Admin guest_no) apart = plain-goes (event.Admin guest_no) tt apart
  others-go (event.Take guest_no queue lane) apart = plain-goes (event.Take guest_no queue lane) tt apart
  others-go (event.List lane tag addr len) apart = plain-goes (event.List lane tag addr len) tt apart
  others-go (event.Submit lane tag) apart = plain-goes (event.Submit lane tag) tt apart
  others-go (event.GiveUp lane tag) apart = plain-goes (event.GiveUp lane tag) tt apart
  others-go (event.DevTake lane) apart = plain-goes (event.DevTake lane) tt apart
  others-go (event.DevMove lane slot unit) apart = moves-goes lane slot unit apart
  others-go (event.DevPost lane slot) apart = plain-goes (event.DevPost lane slot) tt apart
  others-go (event.DevFail lane slot st) apart = plain-goes (event.DevFail lane slot st) tt apart
  others-go (event.Keep block) apart = keeps-goes block
  others-go (event.Reap lane) apart = plain-goes (event.Reap lane) tt apart
  others-go (event.Post lane tag) apart = plain-goes (event.Post lane tag) tt apart
