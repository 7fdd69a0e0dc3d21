-- The other shares of a command of which a unit of one moves: their pages are as they were, and so are the places of their blocks.
use Rattle.std.proofs.Common.{◌≡◌, ℕ, ◌+◌, ◌*◌, ◌<◌, ◌≤◌, Bool, true, ◌==◌, List, All, slice_get}
use Rattle.std.proofs.Common.{Option, Some, None, arith, refl, sym, ap, ◌∙◌, eq-eqb, subst}
use Rattle.std.proofs.lemmas.List.Elements.{All-weaker}
use Rattle.nv_entry.specs.Status.{StatusField}
use Rattle.nv_mem.specs.Places.{At, places_of, total_len}
use Rattle.nv_model.specs.Judge.{Transfer, Work, form_of}
use Rattle.nv_model.specs.Laws.{IsAnother}
use Rattle.nv_model.specs.Limits.{block, most_bytes}
use Rattle.nv_model.specs.Memory.{image}
use Rattle.nv_model.specs.Private.{places_of_block, verdict_in}
use Rattle.nv_world_model.specs.Contained.{is_answered_at, tag_stands}
use Rattle.nv_world_model.specs.Device.{Held}
use Rattle.nv_world_model.specs.Geometry.{Guest, regions_of, shape_of}
use Rattle.nv_world_model.specs.Plan.{Answer, Bounced, Direct, NoData, Plan}
use Rattle.nv_world_model.specs.Share.{Share}
use Rattle.nv_world_model.specs.Seat.{work_of}
use Rattle.nv_world_model.specs.World.{Command, Ended, Flying, Free, Tag, Taken}
use Rattle.nv_laws_sound.specs.Area.{SameBetween}
use Rattle.nv_laws_sound.specs.Consistent.{IsPlanned}
use Rattle.nv_laws_sound.specs.Groups.{Handed, part_of}
use Rattle.nv_laws_sound.proofs.Lists.{slice_get-there, some-same}
use Rattle.nv_laws_sound.proofs.PlanSizes.{own_work}
use Rattle.nv_laws.specs.Related.{HasBuffer, IsTagRelated, IsUnderWay, left_where, none_left}
use Rattle.nv_laws.proofs.related.Agreed.{all-at as place-at}
use Rattle.nv_laws.proofs.related.Named.{any-at}
use Rattle.nv_laws.proofs.related.Views.{block-place, status-kept}
use Rattle.nv_laws.proofs.related.Within.{IsFit}
use Rattle.nv_laws.specs.Places.{IsElse, NameNoneTwice}
use Rattle.nv_laws.proofs.units.Delivery.{transfer-count}
use Rattle.nv_laws.proofs.units.Has.{once-blocks}
use Rattle.nv_laws.proofs.units.OwnShares.{IsOwnShare, own-share}
use Rattle.nv_laws.proofs.units.Progress.{has}
use Rattle.nv_laws.proofs.units.Renamed.{part-of, whole-work}
use Rattle.nv_laws.proofs.units.SharePlaces.{share-blocks}

-- ---- blocks of two shares

-- a block of a share's transfer is one of the whole's
record IsBlock (share : Share) (own whole : Work) (index : ℕ) : Type 0 where
  pub number : ℕ
  pub at : slice_get share.numbers index ≡ Some number
  pub places : places_of_block own index ≡ places_of_block whole number

block-is : (guest : Guest) (entry : List ℕ) (share : Share) (is : IsPlanned guest entry share) (whole own : Work) → work_of share.whole ≡ Some whole
    → work_of share.plan ≡ Some own → form_of whole.opcode ≡ Transfer true → (index : ℕ) → block * index < total_len own.pieces → IsBlock share own whole index
block-is guest entry share is whole own goes part form index below =
    let same : is.work ≡ whole = some-same is.work whole (sym (whole-work guest entry share is) ∙ goes) in
    let first : IsOwnShare guest entry share (own_work guest entry share is) = own-share guest entry share is in
    let mine : IsOwnShare guest entry share own =
    subst (IsOwnShare guest entry share) (some-same (own_work guest entry share is) own (sym first.goes ∙ part)) first in
    let cut = part-of guest entry share is own part in
    let opcode : form_of is.work.opcode ≡ Transfer true = ap (λ (x : Work). form_of x.opcode) same ∙ form in
    let total = transfer-count guest entry share own mine true (ap form_of cut.opcode ∙ opcode) in
    let size = cut.size in
    let there = slice_get-there share.numbers index (omega (arith, below, total, size)) in
    record {
      number = there.0;
      at = there.1;
      places = share-blocks guest entry share is own part true opcode index there.0 there.1 ∙ ap (λ (x : Work). places_of_block x there.0) same;
    }

-- no place of the one's is one of the other's, where no number is
pub blocks-apart : (guest : Guest) (entry : List ℕ) (share other : Share) → IsPlanned guest entry share → IsPlanned guest entry other → (whole own also : Work)
    → work_of share.whole ≡ Some whole → work_of other.whole ≡ Some whole → work_of share.plan ≡ Some own → work_of other.plan ≡ Some also
    → form_of whole.opcode ≡ Transfer true → NameNoneTwice (places_of whole.pieces)
    → ((k : ℕ) → has k share.numbers ≡ true → has k other.numbers ≡ true → ⊥)
    → (unit index i addr : ℕ) → block * unit < total_len own.pieces → slice_get (places_of_block also index) i ≡ Some (At addr)
    → All (IsAnother (At addr)) (places_of_block own unit)
blocks-apart guest entry share other is too whole own also goes goes_too part part_too form once differ unit index i addr below at =
    let mine : IsBlock share own whole unit = block-is guest entry share is whole own goes part form unit below in
    let inside = block-place also index i (At addr) at in
    let theirs : IsBlock other also whole index = block-is guest entry other too whole also goes_too part_too form index (omega (arith, inside)) in
    let apart : theirs.number ≡ mine.number → ⊥ =
    λ same.
    differ mine.number (any-at (λ n. n == mine.number) share.numbers unit mine.number mine.at (eq-eqb mine.number mine.number refl))
    (any-at (λ n. n == mine.number) other.numbers index theirs.number theirs.at (eq-eqb theirs.number mine.number same)) in
    let each : All (IsElse (At addr)) (places_of_block whole mine.number) =
    place-at (λ p. All (IsElse p) (places_of_block whole mine.number)) (places_of_block whole theirs.number) i (At addr)
    (ap (λ ps. slice_get ps i) (sym theirs.places) ∙ at) (once-blocks (places_of whole.pieces) theirs.number mine.number once apart) in
    subst (All (IsAnother (At addr))) (sym mine.places)
    (All-weaker (IsElse (At addr)) (IsAnother (At addr)) (λ place is_else same. is_else addr refl same) (places_of_block whole mine.number) each)

-- ---- tags

module _ (guest : Guest) (bounce : ℕ) (host other memory behind : ℕ → ℕ) (pages : SameBetween host other bounce (bounce + most_bytes)) where
  -- the places of a bounced transfer's blocks are as they were
  abbrev pub AreBlocksKept : Plan → Type 0
  AreBlocksKept plan =
      (own : Work) (index i addr : ℕ) → plan ≡ Bounced own → slice_get (places_of_block own index) i ≡ Some (At addr) → memory addr ≡ behind addr

  buffer-beside : (plan : Plan) (left : ℕ → Bool) → ((own : Work) → work_of plan ≡ Some own → total_len own.pieces ≤ most_bytes) → AreBlocksKept plan
      → HasBuffer plan left bounce host memory → HasBuffer plan left bounce other behind
  buffer-beside (Answer st) left short kept was = tt
  buffer-beside (NoData work) left short kept was = tt
  buffer-beside (Direct work) left short kept was = tt
  buffer-beside (Bounced work) left short kept was =
      λ index has_it i addr at.
      let within = block-place work index i (At addr) at in
      let few = short work refl in
      sym (pages (bounce + block * index + i) (omega arith) (omega (arith, within, few))) ∙ was index has_it i addr at ∙ kept work index i addr refl at

  under_way-beside : (entry : List ℕ) (share : Share) (left : ℕ → Bool) → IsFit share
      → verdict_in (shape_of guest) (image (regions_of guest) other) entry ≡ verdict_in (shape_of guest) (image (regions_of guest) host) entry
      → AreBlocksKept share.plan → IsUnderWay guest entry share left bounce host memory → IsUnderWay guest entry share left bounce other behind
  under_way-beside entry share left fit verdict kept was =
      record {
        steady = (λ work is. verdict ∙ was.steady work is);
        buffer = buffer-beside share.plan left (λ own is. (fit own is).short) kept was.buffer;
      }

  -- a tag with another share
  pub tag-beside : (f g : ℕ → StatusField) (t : Tag) (held : Option Held) (command : Command) (share : Share) → part_of t ≡ Handed command share
      → ((at : ℕ) → tag_stands (is_answered_at at) t ≡ true → f at ≡ g at) → IsFit share
      → verdict_in (shape_of guest) (image (regions_of guest) other) command.entry ≡ verdict_in (shape_of guest) (image (regions_of guest) host) command.entry
      → AreBlocksKept share.plan → IsTagRelated (Some t) guest held f bounce host memory → IsTagRelated (Some t) guest held g bounce other behind
  tag-beside f g Free held command share is statuses fit verdict kept was = cc
  tag-beside f g (Taken c reads) held command share is statuses fit verdict kept was = cc
  tag-beside f g (Flying c s standing) held command share is statuses fit verdict kept was =
      let same : Flying command share standing ≡ Flying c s standing = cc in
      subst (λ t. IsTagRelated (Some t) guest held f bounce host memory → IsTagRelated (Some t) guest held g bounce other behind) same
      (λ rel. (
        under_way-beside command.entry share (left_where standing held) fit verdict kept rel.0,
        status-kept f g command standing share held
            (λ at stands. statuses at (subst (λ t. tag_stands (is_answered_at at) t ≡ true) same stands)) rel.1,
      )) was
  tag-beside f g (Ended c st None) held command share is statuses fit verdict kept was = cc
  tag-beside f g (Ended c st (Some s)) held command share is statuses fit verdict kept was =
      let same : Ended command st (Some share) ≡ Ended c st (Some s) = cc in
      subst (λ t. IsTagRelated (Some t) guest held f bounce host memory → IsTagRelated (Some t) guest held g bounce other behind) same
      (λ rel. (under_way-beside command.entry share none_left fit verdict kept rel.0, rel.1)) was
