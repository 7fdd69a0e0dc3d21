-- The smallest world of two guests: what holds of each guest, tag and block from its cases, and of images and the world cut down
use Rattle.std.proofs.Common.{◌≡◌, ◌≢◌, ℕ, zero, suc, ◌+◌, ◌-◌, ◌<◌, ◌≤◌, Bool, true, false, ◌&&◌, ◌||◌, if◌then◌else◌, nat_le, nat_lt, ◌==◌, List, [], ◌∷◌}
use Rattle.std.proofs.Common.{length, Option, Some, None, is_some, refl, ap, ◌∙◌, subst, arith, slice_get}
use Rattle.std.proofs.lemmas.Bool.Decides.{nat_tests}
use mathlib.Core.Path.{fun_ext}
use Rattle.nv_mem.specs.GuestMap.{covers, covers_host, guest_of}
use Rattle.nv_mem.specs.declared.region.Region.{Region}
use Rattle.nv_ns.specs.Extents.{place_in}
use Rattle.nv_model.specs.Memory.{byte_at_host, byte_or, image, put_image, stored}
use Rattle.nv_model.specs.Private.{marked}
use Rattle.nv_world_model.specs.Contained.{LeavesOthers, ReadsOwn, in_area}
use Rattle.nv_world_model.specs.CutDown.{cut}
use Rattle.nv_world_model.specs.Geometry.{Guest, regions_of}
use Rattle.nv_world_model.specs.RowsSmall.{small, small_first, small_guest, small_second}
use Rattle.nv_world_model.specs.Step.{After}
use Rattle.nv_world_model.specs.View.{IsSameView, in_extents, in_image, lies_in, shown}
use Rattle.nv_world_model.specs.World.{World}

-- what holds of both guests holds of each guest that is there
pub each_of_two : (P : ℕ → Guest → Type 0) (g h : Guest) → P 0 g → P 1 h
    → (number : ℕ) (guest : Guest) → slice_get (g ∷ h ∷ []) number ≡ Some guest → P number guest
each_of_two P g h p q zero guest e = (let same : g ≡ guest = cc in subst (λ (x : Guest). P 0 x) same p)
each_of_two P g h p q (suc zero) guest e = (let same : h ≡ guest = cc in subst (λ (x : Guest). P 1 x) same q)
each_of_two P g h p q (suc (suc n)) guest e = absurd (cc)

-- what holds of both tags of the one lane, and of none, holds of each
pub each_tag : (P : ℕ → ℕ → Type 0) → P 0 0 → P 0 1 → ((tag : ℕ) → P 0 (suc (suc tag))) → ((lane tag : ℕ) → P (suc lane) tag)
    → (lane tag : ℕ) → P lane tag
each_tag P p q none away zero zero = p
each_tag P p q none away zero (suc zero) = q
each_tag P p q none away zero (suc (suc tag)) = none tag
each_tag P p q none away (suc lane) tag = away lane tag

-- what holds of both blocks holds of each
pub each_block : (P : ℕ → Type 0) → P 0 → P 1 → (lba : ℕ) → lba < 2 → P lba
each_block P p q zero h = p
each_block P p q (suc zero) h = q
each_block P p q (suc (suc lba)) h = absurd (omega arith)

-- where the disk has the blocks of the first guest, and of the second
abbrev pub first_at : (lba : ℕ) → ℕ
first_at lba = place_in small_first.namespace lba

abbrev pub second_at : (lba : ℕ) → ℕ
second_at lba = place_in small_second.namespace lba

-- ---- images

-- two hosts that agree on a region have one image of it
pub image-agree : (r : Region) (h k : ℕ → ℕ) → ((at : ℕ) → covers_host r at ≡ true → h at ≡ k at) → (addr : ℕ)
    → image (r ∷ []) h addr ≡ image (r ∷ []) k addr
unfolding image
image-agree r h k each addr = by (covers r addr) refl
  where
    by : (b : Bool) → covers r addr ≡ b
        → byte_at_host h (if b then Some (r.host + (addr - r.guest)) else None) ≡ byte_at_host k (if b then Some (r.host + (addr - r.guest)) else None)
    by true e = each (r.host + (addr - r.guest)) (grind (arith, nat_tests, e))
    by false e = refl

-- a guest's bytes stay in the world cut down to it
pub host-cut : (number host base : ℕ) (w : World) (at : ℕ) → covers_host (record { guest = 0; host = host; len = 0x200 }) at ≡ true
    → w.host at ≡ (cut number (small_guest host base) small w).host at
unfolding cut
host-cut number host base w at e = rw e refl

-- and so does the image of its memory
pub image-cut : (number host base : ℕ) (w : World)
    → image (regions_of (small_guest host base)) w.host ≡ image (regions_of (small_guest host base)) (cut number (small_guest host base) small w).host
image-cut number host base w =
    fun_ext
    (image-agree (record { guest = 0; host = host; len = 0x200 }) w.host (cut number (small_guest host base) small w).host (host-cut number host base w))

-- what is shown to a guest stays, too
pub area-cut : (number host base : ℕ) (w : World) (at : ℕ) → lies_in (shown number (small_guest host base) small w) at ≡ true
    → w.host at ≡ (cut number (small_guest host base) small w).host at
unfolding cut
area-cut number host base w at h = by (in_image (small_guest host base) at) (lies_in (shown number (small_guest host base) small w) at) h
  where
    by : (inside shown : Bool) → shown ≡ true → w.host at ≡ (if inside || shown then w.host at else 0)
    by true shown e = refl
    by false true e = refl
    by false false e = absurd (cc)

-- ---- a memory that is put back

-- no byte outside of an image changes
pub put-outside : (regions : List Region) (m h : ℕ → ℕ) (at : ℕ) → is_some (guest_of regions at) ≡ false → h at ≡ put_image regions m h at
unfolding put_image
put-outside regions m h at e = by (guest_of regions at) e
  where
    by : (o : Option ℕ) → is_some o ≡ false → h at ≡ byte_or (h at) m o
    by None e = refl
    by (Some addr) e = absurd (cc)

-- the same of an address that another guest's region has
pub put-apart : (host other : ℕ) (m h : ℕ → ℕ) → other ≡ host + 0x1000 → (addr : ℕ)
    → image (record { guest = 0; host = other; len = 0x200 } ∷ []) h addr
    ≡ image (record { guest = 0; host = other; len = 0x200 } ∷ []) (put_image (record { guest = 0; host = host; len = 0x200 } ∷ []) m h) addr
put-apart host other m h e =
    image-agree (record { guest = 0; host = other; len = 0x200 }) h (put_image (record { guest = 0; host = host; len = 0x200 } ∷ []) m h) each
  where
    each : (at : ℕ) → covers_host (record { guest = 0; host = other; len = 0x200 }) at ≡ true
        → h at ≡ put_image (record { guest = 0; host = host; len = 0x200 } ∷ []) m h at
    each at inside =
        (let outside : covers_host (record { guest = 0; host = host; len = 0x200 }) at ≡ false = grind (arith, nat_tests, inside, e) in
        put-outside (record { guest = 0; host = host; len = 0x200 } ∷ []) m h at (rw outside refl))

-- what is put back is what the image is then
pub image-put : (r : Region) (m n h k : ℕ → ℕ) → m ≡ n → (addr : ℕ)
    → image (r ∷ []) (put_image (r ∷ []) m h) addr ≡ image (r ∷ []) (put_image (r ∷ []) n k) addr
unfolding image put_image
image-put r m n h k same addr = image-agree r (put_image (r ∷ []) m h) (put_image (r ∷ []) n k) each addr
  where
    each : (at : ℕ) → covers_host r at ≡ true → put_image (r ∷ []) m h at ≡ put_image (r ∷ []) n k at
    each at inside = rw inside (ap (λ (f : ℕ → ℕ). f (r.guest + (at - r.host))) same)

-- no address of the mediator's area is in the first guest's image
pub area-outside : (at : ℕ) → 0x10000 ≤ at → in_image small_first at ≡ false
area-outside at h =
    (let outside : covers_host (record { guest = 0; host = 0x1000; len = 0x200 }) at ≡ false = grind (arith, nat_tests, h) in rw outside refl)

-- the first slot of the submission ring is in that area, and so are all bytes that are shown beside a list of none
pub first-slot : (addr : ℕ) → lies_in ((0x10000, 64) ∷ (0x13000, 0) ∷ []) addr ≡ true → 0x10000 ≤ addr
first-slot addr h = grind (arith, nat_tests, h)

-- a list of no bytes shows none
pub nowhere : (list addr : ℕ) → lies_in ((list, 0) ∷ []) addr ≡ true → ⊥
nowhere list addr h = grind (arith, nat_tests, h)

-- ---- bytes that are stored

-- a byte that isn't stored is as it was
pub stored-outside : (h : ℕ → ℕ) (addr : ℕ) (bytes : List ℕ) (at : ℕ) → (nat_le addr at && nat_lt at (addr + length bytes)) ≡ false
    → h at ≡ stored h addr bytes at
unfolding stored
stored-outside h addr bytes at e = rw e refl

-- one that is stored is the same whatever was there
pub stored-inside : (h k : ℕ → ℕ) (addr : ℕ) (bytes : List ℕ) (at : ℕ) → (nat_le addr at && nat_lt at (addr + length bytes)) ≡ true
    → stored h addr bytes at ≡ stored k addr bytes at
unfolding stored
stored-inside h k addr bytes at e = rw e refl

-- one that was the same is the same
pub stored-same : (h k : ℕ → ℕ) (addr : ℕ) (bytes : List ℕ) (at : ℕ) → h at ≡ k at → stored h addr bytes at ≡ stored k addr bytes at
unfolding stored
stored-same h k addr bytes at e = rw e refl

-- ---- what a Submit of a command without a transfer writes in the second slot

-- whether an address is in that slot
abbrev pub in_slot : (at : ℕ) → Bool
in_slot at = nat_le 0x10040 at && nat_lt at 0x10080

-- the host's memory behind it
abbrev pub with_entry : (entry : List ℕ) → (host : ℕ → ℕ) → ℕ → ℕ
with_entry entry host = stored (stored (stored host 0x34000 []) 0x35000 []) 0x10040 entry

-- no byte is among none
among-none : (addr at : ℕ) → (nat_le addr at && nat_lt at (addr + 0)) ≡ false
among-none addr at = grind (arith, nat_tests)

-- a byte outside of the slot stays
pub entry-outside : (h : ℕ → ℕ) (entry : List ℕ) → length entry ≡ 64 → (at : ℕ) → in_slot at ≡ false → h at ≡ with_entry entry h at
entry-outside h entry size at apart =
    (let test : (nat_le 0x10040 at && nat_lt at (0x10040 + length entry)) ≡ false = rw size apart in
    stored-outside h 0x34000 [] at (among-none 0x34000 at)
    ∙ stored-outside (stored h 0x34000 []) 0x35000 [] at (among-none 0x35000 at)
    ∙ stored-outside (stored (stored h 0x34000 []) 0x35000 []) 0x10040 entry at test)

-- one in the slot is the entry's
pub entry-inside : (h k : ℕ → ℕ) (entry : List ℕ) → length entry ≡ 64 → (addr : ℕ)
    → lies_in ((0x10040, 64) ∷ (0x34000, 0) ∷ []) addr ≡ true → with_entry entry h addr ≡ with_entry entry k addr
entry-inside h k entry size addr shown =
    (let inside : in_slot addr ≡ true = grind (arith, nat_tests, shown) in
    let test : (nat_le 0x10040 addr && nat_lt addr (0x10040 + length entry)) ≡ true = rw size inside in
    stored-inside (stored (stored h 0x34000 []) 0x35000 []) (stored (stored k 0x34000 []) 0x35000 []) 0x10040 entry addr test)

-- one that was the same is the same
pub entry-same : (h k : ℕ → ℕ) (entry : List ℕ) (at : ℕ) → h at ≡ k at → with_entry entry h at ≡ with_entry entry k at
entry-same h k entry at e =
    stored-same (stored (stored h 0x34000 []) 0x35000 []) (stored (stored k 0x34000 []) 0x35000 []) 0x10040 entry at
    (stored-same (stored h 0x34000 []) (stored k 0x34000 []) 0x35000 [] at (stored-same h k 0x34000 [] at e))

-- the slot is apart from the second guest's memory, from what isn't the mediator's, and from the first slot
pub slot-second : (at : ℕ) → covers_host (record { guest = 0; host = 0x2000; len = 0x200 }) at ≡ true → in_slot at ≡ false
slot-second at inside = grind (arith, nat_tests, inside)

pub slot-area : (at : ℕ) → (nat_le 0x10000 at && nat_lt at 0x853000) ≡ false → in_slot at ≡ false
slot-area at away = grind (arith, nat_tests, away)

pub slot-first : (addr : ℕ) → lies_in ((0x10000, 64) ∷ (0x13000, 0) ∷ []) addr ≡ true → in_slot addr ≡ false
slot-first addr h = grind (arith, nat_tests, h)

-- ---- what the device writes in the first slot of the completion ring

-- whether an address is in that slot
abbrev pub in_answer : (at : ℕ) → Bool
in_answer at = nat_le 0x12000 at && nat_lt at 0x12010

-- a byte outside of the slot stays
pub answer-outside : (h : ℕ → ℕ) (answer : List ℕ) → length answer ≡ 16 → (at : ℕ) → in_answer at ≡ false → h at ≡ stored h 0x12000 answer at
answer-outside h answer size at apart =
    (let test : (nat_le 0x12000 at && nat_lt at (0x12000 + length answer)) ≡ false = rw size apart in stored-outside h 0x12000 answer at test)

-- one in the slot is the completion's
pub answer-inside : (h k : ℕ → ℕ) (answer : List ℕ) → length answer ≡ 16 → (addr : ℕ)
    → lies_in ((0x12000, 16) ∷ (0x34000, 0) ∷ []) addr ≡ true → stored h 0x12000 answer addr ≡ stored k 0x12000 answer addr
answer-inside h k answer size addr shown =
    (let inside : in_answer addr ≡ true = grind (arith, nat_tests, shown) in
    let test : (nat_le 0x12000 addr && nat_lt addr (0x12000 + length answer)) ≡ true = rw size inside in
    stored-inside h k 0x12000 answer addr test)

-- the slot is apart from the second guest's memory, and from what isn't the mediator's
pub answer-second : (at : ℕ) → covers_host (record { guest = 0; host = 0x2000; len = 0x200 }) at ≡ true → in_answer at ≡ false
answer-second at inside = grind (arith, nat_tests, inside)

pub answer-area : (at : ℕ) → (nat_le 0x10000 at && nat_lt at 0x853000) ≡ false → in_answer at ≡ false
answer-area at away = grind (arith, nat_tests, away)

-- ---- blocks

-- a block that isn't the first guest's is not its first one
pub block-outside : (at : ℕ) → in_extents small_first.namespace at ≡ false → (at == 2) ≡ false
block-outside at e = grind (arith, nat_tests, e)

-- a mark that was set is still set behind one that is set
pub mark-rises : (block : ℕ) (kept : ℕ → Bool) (at : ℕ) → kept at ≡ true → marked kept block true at ≡ true
mark-rises block kept at is = by (at == block)
  where
    by : (b : Bool) → (if b then true else kept at) ≡ true
    by true = refl
    by false = is

-- ---- contained

-- an event of the first guest leaves others, where it leaves the second's view, and what is neither's
pub leaves-first : (w z : World) → IsSameView 1 small_second small w z
    → ((at : ℕ) → in_image small_first at ≡ false → in_area small w at ≡ false → w.host at ≡ z.host at)
    → ((at offset : ℕ) → in_extents small_first.namespace at ≡ false → w.disk at offset ≡ z.disk at offset)
    → ((at : ℕ) → in_extents small_first.namespace at ≡ false → w.kept at ≡ true → z.kept at ≡ true)
    → LeavesOthers small (Some 0) w z
leaves-first w z view bytes blocks marks =
    record {
      views = each_of_two (λ number guest. Some 0 ≢ Some number → IsSameView number guest small w z) small_first small_second
          (λ other. absurd (other refl)) (λ other. view);
      bytes = bytes;
      blocks = blocks;
      marks = marks;
    }

-- and reads its own, where it reads the first guest's
pub own-first : (done : World → After) (w : World) → ReadsOwn done small w 0 small_first → (number : ℕ) (guest : Guest)
    → slice_get small.guests number ≡ Some guest → Some 0 ≡ Some number → ReadsOwn done small w number guest
own-first done w own =
    each_of_two (λ number guest. Some 0 ≡ Some number → ReadsOwn done small w number guest) small_first small_second
    (λ is. own) (λ is. absurd (cc))
