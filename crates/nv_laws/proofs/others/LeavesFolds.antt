-- What changes leave that come one after the other, as those of a command's tags.
use Rattle.std.proofs.Common.{◌≡◌, ℕ, ◌&&◌, Bool, true, false, cond, nat_le, nat_lt, List, [], ◌∷◌, length, slice_get}
use Rattle.std.proofs.Common.{Option, Some, None, refl, sym, ap, ◌∙◌}
use Rattle.std.specs.Prelude.{◌≢◌}
use Rattle.std.specs.List.{All}
use Rattle.std.specs.Option.{option_map}
use Rattle.std.proofs.lemmas.List.Elements.{All-head, All-tail, All-weaker}
use Rattle.nv_entry.specs.Status.{StatusField}
use Rattle.nv_entry.specs.StatusCode.{done_with}
use Rattle.nv_entry.specs.declared.status_code.StatusCode.TheVariants.{Success}
use Rattle.nv_world_model.specs.Area.{lane_start}
use Rattle.nv_world_model.specs.Geometry.{Geometry}
use Rattle.nv_world_model.specs.Seat.{held_in}
use Rattle.nv_world_model.specs.Step.{ended_at_once}
use Rattle.nv_world_model.specs.View.{guest_of_tag, is_tag_of, own_tag}
use Rattle.nv_world_model.specs.World.{Command, Ended, Flying, Free, Lane, Tag, Taken, World, changed_at, group, tag_changed, tag_in, tag_of, with_tag}
use Rattle.nv_world_model.specs.World.{with_tags}
use Rattle.nv_laws_sound.specs.Groups.{AreGroups, command_of, part_of, parts_of}
use Rattle.nv_laws_sound.proofs.Folds.{HasTag, group-has, have-other, tag-part, tag_of-other}
use Rattle.nv_laws_sound.proofs.Groupings.{group-command}
use Rattle.nv_laws_sound.proofs.Lists.{length-set}
use Rattle.nv_laws_sound.proofs.Numbers.{AreDistinct}
use Rattle.nv_laws.specs.Leaving.{IsShownAt, Leaves}
use Rattle.nv_laws.proofs.others.Events.{leaves-nothing}
use Rattle.nv_laws.proofs.others.Parts.{helds-left, tag-apart, tags-left}

-- ---- one after the other

chosen-there : (b : Bool) (o : Option Tag) (t : Tag) → cond b o None ≡ Some t → o ≡ Some t
chosen-there true o t e = e
chosen-there false o t e = cc

-- a guest's own tag is there still
pub own-there : (number : ℕ) (a b : Option Tag) (t : Tag) → own_tag number a ≡ own_tag number b → a ≡ Some t → is_tag_of number (Some t) ≡ true → b ≡ Some t
own-there number a b t same is mine =
    chosen-there (is_tag_of number b) b t
    (sym same ∙ ap (λ o. cond (is_tag_of number o) o None) is ∙ ap (λ x. cond x (Some t) None) mine)

module _ (geometry : Geometry) (whose : Option ℕ) where
  pub leaves-then : (w v z : World) → length v.lanes ≡ length w.lanes → Leaves geometry whose w v → Leaves geometry whose v z → Leaves geometry whose w z
  leaves-then w v z many first second =
      record {
        bytes = (λ at out area.
            first.bytes at out area
            ∙ second.bytes at out (ap (λ n. nat_le geometry.mediator at && nat_lt at (lane_start geometry.mediator n)) many ∙ area));
        area = (λ number guest addr given differ s.
            first.area number guest addr given differ s
            ∙ second.area number guest addr given differ (still number differ addr s));
        blocks = (λ at offset out. first.blocks at offset out ∙ second.blocks at offset out);
        marks = (λ at out k. second.marks at out (first.marks at out k));
        controllers = (λ number differ. first.controllers number differ ∙ second.controllers number differ);
        tags = (λ number lane tag differ. first.tags number lane tag differ ∙ second.tags number lane tag differ);
        held = (λ number lane tag differ. first.held number lane tag differ ∙ second.held number lane tag differ);
      }
    where
      still : (number : ℕ) → whose ≢ Some number → (addr : ℕ) → IsShownAt number geometry w addr → IsShownAt number geometry v addr
      still number differ addr s =
          record {
            lane = s.lane;
            tag = s.tag;
            t = s.t;
            there = own-there number (tag_of w s.lane s.tag) (tag_of v s.lane s.tag) s.t (first.tags number s.lane s.tag differ) s.there s.own;
            own = s.own;
            bytes = s.bytes;
          }

  -- ---- one tag becomes another

  -- a tag is no other's
  abbrev pub IsNoOthers : Tag → Type 0
  IsNoOthers t = (number : ℕ) → whose ≢ Some number → is_tag_of number (Some t) ≡ false

  pub tag-leaves : (w : World) (lane tag : ℕ) (t now : Tag) → tag_of w lane tag ≡ Some t → IsNoOthers t → IsNoOthers now
      → Leaves geometry whose w (with_tag lane tag now w)
  tag-leaves w lane tag t now found was is = by (slice_get w.lanes lane) refl found
    where
      by : (o : Option Lane) → slice_get w.lanes lane ≡ o → tag_in o tag ≡ Some t
          → Leaves geometry whose w (record w { lanes = changed_at o lane (tag_changed tag now) w.lanes })
      by None at there = cc
      by (Some l) at there =
          record {
            bytes = (λ x a b. refl);
            area = (λ n g x a b c. refl);
            blocks = (λ x offset a. refl);
            marks = (λ x a k. k);
            controllers = (λ n d. refl);
            tags = (λ n a b differ. tags-left n w.lanes lane tag l (tag_changed tag now l) t now at there refl (was n differ) (is n differ) a b);
            held = (λ n a b differ.
                helds-left n w.lanes lane tag l (tag_changed tag now l) t now at there refl (was n differ) (is n differ)
                (λ x y. held_in (slice_get w.device x) y) (λ x y. held_in (slice_get w.device x) y) (λ x y apart. refl) a b);
          }

  pub tag-lanes : (w : World) (lane tag : ℕ) (now : Tag) → length (with_tag lane tag now w).lanes ≡ length w.lanes
  tag-lanes w lane tag now = by (slice_get w.lanes lane)
    where
      by : (o : Option Lane) → length (changed_at o lane (tag_changed tag now) w.lanes) ≡ length w.lanes
      by None = refl
      by (Some l) = length-set w.lanes lane (tag_changed tag now l)

  -- ---- so do all of a command's

  pub tags-leave : (lane : ℕ) (tags : List ℕ) (now : Tag) (w : World) → IsNoOthers now → All (HasTag IsNoOthers w lane) tags → AreDistinct tags
      → Leaves geometry whose w (with_tags lane tags now w)
  unfolding with_tags
  tags-leave lane [] now w is have apart = leaves-nothing geometry whose w
  tags-leave lane (tag ∷ tags) now w is have apart =
      let h = All-head (HasTag IsNoOthers w lane) tag tags have in
      let z : World = with_tag lane tag now w in
      leaves-then w z (with_tags lane tags now z) (tag-lanes w lane tag now) (tag-leaves w lane tag h.t now h.is h.has is)
      (tags-leave lane tags now z is
      (have-other IsNoOthers w z lane tag tags (λ other differ. tag_of-other w lane tag other now differ) apart.0
      (All-tail (HasTag IsNoOthers w lane) tag tags have)) apart.1)

-- in a world with the same lanes the same tags are there
pub have-still : (P : Tag → Type 0) (w z : World) (lane : ℕ) (tags : List ℕ) → z.lanes ≡ w.lanes → All (HasTag P w lane) tags → All (HasTag P z lane) tags
have-still P w z lane tags same have =
    All-weaker (HasTag P w lane) (HasTag P z lane)
    (λ n h. record { t = h.t; is = ap (λ ls. tag_in (slice_get ls lane) n) same ∙ h.is; has = h.has }) tags have

-- ---- the tags of a command

pub part-guest : (t : Tag) (command : Command) → command_of (part_of t) ≡ Some command → guest_of_tag t ≡ Some command.guest
part-guest Free command has = cc
part-guest (Taken c reads) command has = ap (λ (o : Option Command). option_map (λ (x : Command). x.guest) o) has
part-guest (Flying c share standing) command has = ap (λ (o : Option Command). option_map (λ (x : Command). x.guest) o) has
part-guest (Ended c st None) command has = ap (λ (o : Option Command). option_map (λ (x : Command). x.guest) o) has
part-guest (Ended c st (Some share)) command has = ap (λ (o : Option Command). option_map (λ (x : Command). x.guest) o) has

pub part-has : (command : Command) (t : Tag) (number : ℕ) → command_of (part_of t) ≡ Some command → command.guest ≡ number → guest_of_tag t ≡ Some number
part-has command t number has same = part-guest t command has ∙ ap (λ n. Some n) same

module _ (geometry : Geometry) (w : World) (lane leader : ℕ) (l : Lane) (command : Command) (t : Tag) (at : slice_get w.lanes lane ≡ Some l)
    (are : AreGroups geometry l.tags) (found : tag_of w lane leader ≡ Some t) (has : command_of (part_of t) ≡ Some command)
    (leads : command.leader ≡ leader) where
  -- all have its command
  pub group-commands : All (HasTag (λ x. command_of (part_of x) ≡ Some command) w lane) (group w lane leader)
  group-commands =
      group-has (λ x. command_of (part_of x) ≡ Some command) w lane leader l at (λ n x there goes.
      group-command geometry (parts_of l.tags) are leader command (part_of t)
      (tag-part l.tags leader t (sym (ap (λ o. tag_in o leader) at) ∙ found)) has leads n (part_of x) (tag-part l.tags n x there) goes)

  -- so they are its guest's
  pub group-own : All (HasTag (IsNoOthers geometry (Some command.guest)) w lane) (group w lane leader)
  group-own =
      All-weaker (HasTag (λ x. command_of (part_of x) ≡ Some command) w lane) (HasTag (IsNoOthers geometry (Some command.guest)) w lane)
      (λ n h. record {
        t = h.t;
        is = h.is;
        has = (λ number differ. tag-apart (Some command.guest) number h.t (part-guest h.t command h.has) differ);
      }) (group w lane leader) group-commands

-- ---- a command that ends at once

pub at_once-leaves : (geometry : Geometry) (lane : ℕ) (tags : List ℕ) (command : Command) (st : StatusField) (w : World)
    → All (HasTag (IsNoOthers geometry (Some command.guest)) w lane) tags → AreDistinct tags
    → Leaves geometry (Some command.guest) w (ended_at_once lane tags command st w)
at_once-leaves geometry lane [] command st w have apart = leaves-nothing geometry (Some command.guest) w
at_once-leaves geometry lane (tag ∷ tags) command st w have apart =
    let whose : Option ℕ = Some command.guest in
    let h = All-head (HasTag (IsNoOthers geometry whose) w lane) tag tags have in
    let first : Tag = Ended command st None in
    let now : Tag = Ended command (done_with Success) None in
    let z : World = with_tag lane tag first w in
    leaves-then geometry whose w z (with_tags lane tags now z) (tag-lanes geometry whose w lane tag first)
    (tag-leaves geometry whose w lane tag h.t first h.is h.has (λ number differ. tag-apart whose number first refl differ))
    (tags-leave geometry whose lane tags now z (λ number differ. tag-apart whose number now refl differ)
    (have-other (IsNoOthers geometry whose) w z lane tag tags (λ other differ. tag_of-other w lane tag other first differ) apart.0
    (All-tail (HasTag (IsNoOthers geometry whose) w lane) tag tags have)) apart.1)
