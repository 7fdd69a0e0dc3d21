-- A guest's command is as it was where nothing that it names in the guest's memory changes: not in the world's, and not in the private controller's.
use Rattle.std.proofs.Common.{◌≡◌, ℕ, ◌+◌, ◌-◌, ◌*◌, ◌≤◌, Bool, true, false, cond, ◌||◌, List, [], ◌∷◌, All, map}
use Rattle.std.proofs.Common.{Option, Some, None, arith, refl, sym, ap, ◌∙◌, subst}
use Rattle.std.specs.Bool.{⊤}
use Rattle.std.specs.List.{list_any}
use Rattle.std.proofs.lemmas.List.Elements.{All-cons, All-nil}
use Rattle.nv_entry.specs.Status.{StatusField}
use Rattle.nv_mem.specs.Places.{At, places_of, total_len}
use Rattle.nv_model.proofs.Agreeing.{asked-agree, in_memory-agree}
use Rattle.nv_model.specs.Dialogue.{Dialogue, asked}
use Rattle.nv_model.specs.Footprint.{Destination, ListBytes, Named, Source, io_named, named_as, names, verdict_named}
use Rattle.nv_model.specs.Judge.{Go, Verdict, Work, is_read, judge}
use Rattle.nv_model.specs.Laws.{AgreeAt, AgreeOn}
use Rattle.nv_model.specs.Limits.{block, most_bytes}
use Rattle.nv_model.specs.Memory.{image}
use Rattle.nv_model.specs.Parts.{ShowsAt, ShowsOn}
use Rattle.nv_model.specs.Private.{verdict_in}
use Rattle.nv_model.specs.Transcript.{ReadDone}
use Rattle.nv_world_model.specs.Contained.{is_answered_at, tag_stands}
use Rattle.nv_world_model.specs.Device.{Held}
use Rattle.nv_world_model.specs.Geometry.{Guest, regions_of, shape_of}
use Rattle.nv_world_model.specs.Plan.{Answer, Bounced, Direct, NoData, Plan}
use Rattle.nv_world_model.specs.Share.{Share}
use Rattle.nv_world_model.specs.Seat.{work_of}
use Rattle.nv_world_model.specs.World.{Ended, Flying, Free, Tag, Taken}
use Rattle.nv_laws_sound.specs.Area.{SameBetween}
use Rattle.nv_laws.proofs.others.ShownTags.{any-behind, any-front}
use Rattle.nv_laws.specs.Related.{AreReadsShown, HasBuffer, HasEndedWell, IsTagRelated, IsUnderWay, is_place_at, left_where, none_left}
use Rattle.nv_laws.proofs.related.Named.{block-among, place-passes, run-names}
use Rattle.nv_laws.proofs.related.Views.{block-place, status-kept}
use Rattle.nv_laws.proofs.related.Within.{IsFit, IsFitOr, IsFitTag, IsPart}

-- ---- what a command names

abbrev pub names_at : (at : ℕ) → Named → Bool
names_at at n = names n at

-- whether a command of that entry names an address
abbrev pub entry_names : Guest → (host : ℕ → ℕ) → (at : ℕ) → (entry : List ℕ) → Bool
entry_names guest host at entry = list_any (names_at at) (io_named (shape_of guest) (image (regions_of guest) host) entry)

-- the bytes that it names are as they were
abbrev pub IsUntouched : Guest → (entry : List ℕ) → (host other memory behind : ℕ → ℕ) → Type 0
IsUntouched guest entry host other memory behind =
    (at : ℕ) → entry_names guest host at entry ≡ true
    → (image (regions_of guest) host at ≡ image (regions_of guest) other at) × (memory at ≡ behind at)

abbrev pub lists_named : List (ℕ × ℕ) → List Named
lists_named spans = map (λ a. named_as ListBytes a.0 a.1) spans

-- memories agree on spans of which all named bytes are the same
pub spans-agree : (m n : ℕ → ℕ) (spans : List (ℕ × ℕ)) → ((at : ℕ) → list_any (names_at at) (lists_named spans) ≡ true → m at ≡ n at) → AgreeOn m n spans
spans-agree m n [] same = All-nil (AgreeAt m n)
spans-agree m n (s ∷ spans) same =
    All-cons (AgreeAt m n) s spans
    (λ i below.
    same (s.0 + i)
    (any-front (names_at (s.0 + i)) (named_as ListBytes s.0 s.1 ∷ []) (lists_named spans)
    (ap (λ b. b || false) (run-names (s.0 + i) ListBytes s.0 s.1 (omega arith) (omega (arith, below))))))
    (spans-agree m n spans (λ at is. same at (any-behind (names_at at) (named_as ListBytes s.0 s.1 ∷ []) (lists_named spans) is)))

-- a read shows what it showed where memories agree
shows-agree : (m n : ℕ → ℕ) (r : ReadDone) (s : ℕ × ℕ) → AgreeAt m n s → ShowsAt m r s → ShowsAt n r s
shows-agree m n r s agree was i below low high =
    let back : s.0 + (r.addr + i - s.0) ≡ r.addr + i = omega (arith, low) in
    was i below low high ∙ subst (λ at. m at ≡ n at) back (agree (r.addr + i - s.0) (omega (arith, low, high)))

reads-agree : (m n : ℕ → ℕ) (spans : List (ℕ × ℕ)) (reads : List ReadDone) → AgreeOn m n spans → All (ShowsOn m spans) reads → All (ShowsOn n spans) reads
reads-agree m n spans reads agree was k d below j e within =
    shows-agree m n _ _ (agree j e within) (was k d below j e within)

-- a command has the verdict that it had where its lists are as they were, whatever becomes of its buffer
pub verdict-by_lists : (guest : Guest) (entry : List ℕ) (host other : ℕ → ℕ)
    → ((at : ℕ)
    → list_any (names_at at) (lists_named (asked (image (regions_of guest) host) (judge (shape_of guest).mapped (shape_of guest).limit (shape_of guest).blocks entry))) ≡ true
    → image (regions_of guest) host at ≡ image (regions_of guest) other at)
    → verdict_in (shape_of guest) (image (regions_of guest) other) entry ≡ verdict_in (shape_of guest) (image (regions_of guest) host) entry
verdict-by_lists guest entry host other same =
    let judging = judge (shape_of guest).mapped (shape_of guest).limit (shape_of guest).blocks entry in
    in_memory-agree (image (regions_of guest) host) (image (regions_of guest) other) judging
    (spans-agree (image (regions_of guest) host) (image (regions_of guest) other) (asked (image (regions_of guest) host) judging) same)

module _ (guest : Guest) (entry : List ℕ) (host other memory behind : ℕ → ℕ) (untouched : IsUntouched guest entry host other memory behind) where
  abbrev before : ℕ → ℕ
  before = image (regions_of guest) host

  abbrev after : ℕ → ℕ
  after = image (regions_of guest) other

  abbrev judging : Dialogue Verdict
  judging = judge (shape_of guest).mapped (shape_of guest).limit (shape_of guest).blocks entry

  pub lists-agree : AgreeOn before after (asked before judging)
  lists-agree =
      spans-agree before after (asked before judging)
      (λ at is. (untouched at (any-front (names_at at) (lists_named (asked before judging)) (verdict_named (verdict_in (shape_of guest) before entry)) is)).0)

  pub verdict-kept : verdict_in (shape_of guest) after entry ≡ verdict_in (shape_of guest) before entry
  verdict-kept = in_memory-agree before after judging lists-agree

  pub reads-kept : (reads : List ReadDone) → AreReadsShown guest entry host reads → AreReadsShown guest entry other reads
  reads-kept reads was =
      subst (λ spans. All (ShowsOn after spans) reads) (sym (asked-agree before after judging lists-agree))
      (reads-agree before after (asked before judging) reads lists-agree was)

  -- a byte of its buffer is as it was
  pub place-kept : (work : Work) (addr : ℕ) → verdict_in (shape_of guest) before entry ≡ Go work
      → list_any (is_place_at addr) (places_of work.pieces) ≡ true → memory addr ≡ behind addr
  place-kept work addr goes among =
      (untouched addr
      (any-behind (names_at addr) (lists_named (asked before judging)) (verdict_named (verdict_in (shape_of guest) before entry))
      (ap (λ v. list_any (names_at addr) (verdict_named v)) goes
      ∙ place-passes addr (cond (is_read work.opcode) Destination Source) (names_at addr) (run-names addr (cond (is_read work.opcode) Destination Source))
      work.pieces among))).1

  module _ (bounce : ℕ) (pages : SameBetween host other bounce (bounce + most_bytes)) where
    buffer-untouched : (plan : Plan) (left : ℕ → Bool) → ((own : Work) → work_of plan ≡ Some own → total_len own.pieces ≤ most_bytes)
        → ((own : Work) (addr : ℕ) → work_of plan ≡ Some own → list_any (is_place_at addr) (places_of own.pieces) ≡ true → memory addr ≡ behind addr)
        → HasBuffer plan left bounce host memory → HasBuffer plan left bounce other behind
    buffer-untouched (Answer st) left short kept was = tt
    buffer-untouched (NoData work) left short kept was = tt
    buffer-untouched (Direct work) left short kept was = tt
    buffer-untouched (Bounced work) left short kept was =
        λ index has i addr at.
        let within = block-place work index i (At addr) at in
        let few = short work refl in
        sym (pages (bounce + block * index + i) (omega arith) (omega (arith, within, few))) ∙ was index has i addr at
        ∙ kept work addr refl (block-among work index i addr at)

    pub under_way-untouched : (share : Share) (left : ℕ → Bool) → IsFit share → IsUnderWay guest entry share left bounce host memory
        → IsUnderWay guest entry share left bounce other behind
    under_way-untouched share left fit was =
        record {
          steady = (λ work is. verdict-kept ∙ was.steady work is);
          buffer = buffer-untouched share.plan left (λ own is. (fit own is).short)
              (λ own addr is among.
              let part : IsPart share own = fit own is in
              place-kept part.whole addr (was.steady part.whole part.is) (part.within addr among)) was.buffer;
        }

    pub ended-untouched : (share : Option Share) (st : StatusField) → IsFitOr share → HasEndedWell share guest entry st bounce host memory
        → HasEndedWell share guest entry st bounce other behind
    ended-untouched None st fit was = tt
    ended-untouched (Some share) st fit was = (under_way-untouched share none_left fit was.0, was.1)

-- ---- tags

-- the bytes that a tag's command names are as they were
abbrev pub IsTagUntouched : Tag → Guest → (host other memory behind : ℕ → ℕ) → Type 0
IsTagUntouched Free guest host other memory behind = ⊤
IsTagUntouched (Taken command reads) guest host other memory behind = IsUntouched guest command.entry host other memory behind
IsTagUntouched (Flying command share standing) guest host other memory behind = IsUntouched guest command.entry host other memory behind
IsTagUntouched (Ended command st share) guest host other memory behind = IsUntouched guest command.entry host other memory behind

module _ (guest : Guest) (bounce : ℕ) (host other memory behind : ℕ → ℕ) (pages : SameBetween host other bounce (bounce + most_bytes))
    (f g : ℕ → StatusField) where
  pub undisturbed : (t : Tag) (held : Option Held) → ((at : ℕ) → tag_stands (is_answered_at at) t ≡ true → f at ≡ g at) → IsFitTag t
      → IsTagUntouched t guest host other memory behind → IsTagRelated (Some t) guest held f bounce host memory
      → IsTagRelated (Some t) guest held g bounce other behind
  undisturbed Free held statuses fit untouched was = tt
  undisturbed (Taken command reads) held statuses fit untouched was = reads-kept guest command.entry host other memory behind untouched reads was
  undisturbed (Flying command share standing) held statuses fit untouched was = (
    under_way-untouched guest command.entry host other memory behind untouched bounce pages share (left_where standing held) fit was.0,
    status-kept f g command standing share held statuses was.1,
  )
  undisturbed (Ended command st share) held statuses fit untouched was =
      ended-untouched guest command.entry host other memory behind untouched bounce pages share st fit was
