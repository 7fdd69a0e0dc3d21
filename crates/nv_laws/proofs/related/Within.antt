-- What a share transfers is of its command's buffer, and short.
use Rattle.std.proofs.Common.{◌≡◌, ℕ, ◌*◌, ◌≤◌, true, List, [], ◌∷◌, All, drop, length, Option, Some, None, refl, sym, ap, ◌∙◌, subst}
use Rattle.std.specs.Bool.{⊤}
use Rattle.std.specs.List.{enumerate_from, list_any}
use Rattle.std.proofs.lemmas.List.Elements.{All-cons, All-contains, All-map, All-nil}
use Rattle.nv_mem.specs.Places.{places_of, total_len}
use Rattle.nv_ns.specs.Extents.{Cut, Namespace, Placed, cuts, placed}
use Rattle.nv_entry.specs.Submission.{slba_of}
use Rattle.nv_model.specs.Judge.{Clear, Form, Keep, Manage, Transfer, Work, count_of, form_of}
use Rattle.nv_model.specs.Limits.{block, most_bytes, range_size}
use Rattle.nv_world_model.specs.Geometry.{Geometry, Guest, regions_of}
use Rattle.nv_world_model.specs.Device.{DeviceLane, Held}
use Rattle.nv_world_model.specs.Plan.{Answer, Bounced, Direct, NoData, Plan}
use Rattle.nv_world_model.specs.Share.{Share, block_share, cut_pieces, range_share, ranges_met, shares_by, shares_of, whole_share, with_work}
use Rattle.nv_world_model.proofs.CutPieces.{places_of-cut_pieces}
use Rattle.nv_world_model.specs.Seat.{work_of}
use Rattle.nv_world_model.specs.World.{Ended, Flying, Free, Tag, Taken, World, tag_of}
use Rattle.nv_laws_sound.specs.Consistent.{IsConsistentOfTags, IsPlanned, IsPlannedOr, IsTag}
use Rattle.nv_laws_sound.proofs.Lists.{some-same}
use Rattle.nv_laws_sound.proofs.OwnWork.{own-of}
use Rattle.nv_laws_sound.proofs.PlanSizes.{go_plan-kinds, own-few, own_work, planned-kinds}
use Rattle.nv_laws_sound.proofs.Retags.{is-at, tag-is}
use Rattle.nv_laws.specs.Related.{is_place_at}
use Rattle.nv_laws.proofs.related.Named.{any-drop, any-take}

-- ---- of a command's buffer

-- a place that the share's own work has is one of the whole
abbrev IsWithin : Plan → Share → Type 0
IsWithin plan share =
    (own work : Work) (addr : ℕ) → work_of share.plan ≡ Some own → work_of plan ≡ Some work
    → list_any (is_place_at addr) (places_of own.pieces) ≡ true → list_any (is_place_at addr) (places_of work.pieces) ≡ true

every : {X : Type 0} (P : X → Type 0) (xs : List X) → ((x : X) → P x) → All P xs
every P [] each = All-nil P
every P (x ∷ xs) each = All-cons P x xs (each x) (every P xs each)

cut-within : (addr skip len : ℕ) (own work : Work) → own.pieces ≡ cut_pieces skip len work.pieces
    → list_any (is_place_at addr) (places_of own.pieces) ≡ true → list_any (is_place_at addr) (places_of work.pieces) ≡ true
cut-within addr skip len own work cut any =
    any-drop (is_place_at addr) skip (places_of work.pieces)
    (any-take (is_place_at addr) len (drop skip (places_of work.pieces))
    (sym (ap (list_any (is_place_at addr)) (ap places_of cut ∙ places_of-cut_pieces skip len work.pieces)) ∙ any))

module _ (plan : Plan) (whole : Work) (is : work_of plan ≡ Some whole) (each : (x : Work) → work_of (with_work plan x) ≡ Some x) where
  of-cut : (skip len : ℕ) (x : Work) (share : Share) → share.plan ≡ with_work plan x → x.pieces ≡ cut_pieces skip len whole.pieces → IsWithin plan share
  of-cut skip len x share plan_is cut own work addr has found any =
      let mine : x ≡ own = some-same x own (sym (ap work_of plan_is ∙ each x) ∙ has) in
      let all : whole ≡ work = some-same whole work (sym is ∙ found) in
      subst (λ (v : Work). list_any (is_place_at addr) (places_of v.pieces) ≡ true) all
      (cut-within addr skip len x whole cut (subst (λ (v : Work). list_any (is_place_at addr) (places_of v.pieces) ≡ true) (sym mine) any))

  of-form : (form : Form) (ns : Namespace) (entry : List ℕ) → All (IsWithin plan) (shares_by form ns entry plan whole)
  of-form (Transfer dest) ns entry =
      All-map (IsWithin plan) (block_share plan whole) (cuts ns (slba_of entry) (count_of entry))
      (every (λ (c : Cut). IsWithin plan (block_share plan whole c)) (cuts ns (slba_of entry) (count_of entry))
      (λ (c : Cut). of-cut (block * c.first) (block * c.count) _ (block_share plan whole c) refl refl))
  of-form Clear ns entry =
      All-map (IsWithin plan) (block_share plan whole) (cuts ns (slba_of entry) (count_of entry))
      (every (λ (c : Cut). IsWithin plan (block_share plan whole c)) (cuts ns (slba_of entry) (count_of entry))
      (λ (c : Cut). of-cut (block * c.first) (block * c.count) _ (block_share plan whole c) refl refl))
  of-form Manage ns entry =
      All-map (IsWithin plan) (λ (p : ℕ × Placed). range_share plan whole p.0 p.1) (enumerate_from 0 (placed 0 ns))
      (every (λ (p : ℕ × Placed). IsWithin plan (range_share plan whole p.0 p.1)) (enumerate_from 0 (placed 0 ns))
      (λ (p : ℕ × Placed). of-cut 0 (range_size * length (ranges_met p.0 p.1 whole.ranges)) _ (range_share plan whole p.0 p.1) refl refl))
  of-form Keep ns entry =
      All-cons (IsWithin plan) (whole_share plan whole) []
      (λ own work addr has found any.
      let same : own ≡ work = some-same own work (sym has ∙ found) in
      subst (λ (v : Work). list_any (is_place_at addr) (places_of v.pieces) ≡ true) same any) (All-nil (IsWithin plan))

shares-within : (ns : Namespace) (entry : List ℕ) (plan : Plan) → All (IsWithin plan) (shares_of ns entry plan)
shares-within ns entry (Answer st) = All-nil (IsWithin (Answer st))
shares-within ns entry (NoData work) = of-form (NoData work) work refl (λ x. refl) (form_of work.opcode) ns entry
shares-within ns entry (Direct work) = of-form (Direct work) work refl (λ x. refl) (form_of work.opcode) ns entry
shares-within ns entry (Bounced work) = of-form (Bounced work) work refl (λ x. refl) (form_of work.opcode) ns entry

-- ---- shares

-- a share with this own work: the whole has a work of the same opcode, whose buffer has its places, and it is no longer than the bounce pages
pub record IsPart (share : Share) (own : Work) : Type 0 where
  pub whole : Work
  pub is : work_of share.whole ≡ Some whole
  pub opcode : own.opcode ≡ whole.opcode
  pub within : (addr : ℕ) → list_any (is_place_at addr) (places_of own.pieces) ≡ true → list_any (is_place_at addr) (places_of whole.pieces) ≡ true
  pub short : total_len own.pieces ≤ most_bytes

abbrev pub IsFit : Share → Type 0
IsFit share = (own : Work) → work_of share.plan ≡ Some own → IsPart share own

abbrev pub IsFitOr : Option Share → Type 0
IsFitOr None = ⊤
IsFitOr (Some share) = IsFit share

abbrev pub IsFitTag : Tag → Type 0
IsFitTag Free = ⊤
IsFitTag (Taken command reads) = ⊤
IsFitTag (Flying command share standing) = IsFit share
IsFitTag (Ended command st share) = IsFitOr share

pub planned-work : (guest : Guest) (entry : List ℕ) (share : Share) (is : IsPlanned guest entry share) → work_of share.whole ≡ Some is.work
planned-work guest entry share is =
    ap work_of is.whole_is
    ∙ go_plan-kinds (λ p. work_of p ≡ Some is.work) (form_of is.work.opcode) (regions_of guest) is.work (λ none. refl) (λ some has fits. refl) (λ some. refl)

pub planned-own : (guest : Guest) (entry : List ℕ) (share : Share) (is : IsPlanned guest entry share)
    → work_of share.plan ≡ Some (own_work guest entry share is)
planned-own guest entry share is = planned-kinds (λ p. work_of p ≡ Some (own_work guest entry share is)) guest entry share is refl (λ fits. refl) refl

pub planned-fit : (guest : Guest) (entry : List ℕ) (share : Share) → IsPlanned guest entry share → IsFit share
planned-fit guest entry share is own has =
    let mine : own_work guest entry share is ≡ own =
    some-same (own_work guest entry share is) own (sym (planned-own guest entry share is) ∙ has) in
    subst (IsPart share) mine
    (record {
      whole = is.work;
      is = planned-work guest entry share is;
      opcode = (own-of guest entry share is).opcode;
      within = (λ addr any.
          All-contains (IsWithin share.whole) (shares_of guest.namespace entry share.whole) share (shares-within guest.namespace entry share.whole) is.is_share
          (own_work guest entry share is) is.work addr (planned-own guest entry share is) (planned-work guest entry share is) any);
      short = own-few guest entry share is;
    })

planned_or-fit : (guest : Guest) (entry : List ℕ) (share : Option Share) → IsPlannedOr guest entry share → IsFitOr share
planned_or-fit guest entry None is = tt
planned_or-fit guest entry (Some share) is = planned-fit guest entry share is

tag-fit : (geometry : Geometry) (lane tag : ℕ) (host : ℕ → ℕ) (head : ℕ) (d : DeviceLane) (held : Option Held) (t : Tag)
    → IsTag geometry lane tag host head d held t → IsFitTag t
tag-fit geometry lane tag host head d held Free is = tt
tag-fit geometry lane tag host head d held (Taken command reads) is = tt
tag-fit geometry lane tag host head d held (Flying command share standing) is = planned-fit is.guest command.entry share is.planned
tag-fit geometry lane tag host head d held (Ended command st share) is = planned_or-fit is.guest command.entry share is.planned

pub there-fit : (geometry : Geometry) (w : World) (lane tag : ℕ) (t : Tag) → IsConsistentOfTags geometry w → tag_of w lane tag ≡ Some t → IsFitTag t
there-fit geometry w lane tag t fine there =
    let a = is-at geometry w lane tag t fine there in
    tag-fit geometry lane tag w.host a.l.head a.d a.held t (tag-is geometry w lane tag t fine a)
