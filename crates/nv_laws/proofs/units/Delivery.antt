-- What stands in a bounced Read's pages is what its units gave to the guest's own memory, until it is delivered.
use Rattle.std.proofs.Common.{◌≡◌, ℕ, ◌+◌, ◌-◌, ◌*◌, ◌<◌, ◌≤◌, ◌⊎◌, inl, inr, true, List, All, drop, length, take}
use Rattle.std.proofs.Common.{arith, sym, ap, ◌∙◌, subst}
use Rattle.std.specs.List.{AllPairs}
use Rattle.std.proofs.lemmas.Bool.{cases_eq, cases_lt}
use Rattle.std.proofs.lemmas.List.{drop-map, drop_at, length-drop, length-take, take-map, take_at}
use Rattle.nv_mem.specs.GuestMap.{IsApart, mapped}
use Rattle.nv_mem.specs.Places.{At, Place, addresses, places_of, total_len}
use Rattle.nv_mem.proofs.PlaceLists.{length-places_of}
use Rattle.std.proofs.Common.{Bool, cond}
use Rattle.nv_world_model.specs.Plan.{Bounced}
use Rattle.nv_world_model.specs.Share.{Share}
use Rattle.nv_laws_sound.proofs.OwnWork.{own_len}
use Rattle.nv_model.specs.Judge.{Transfer, Work, form_of, is_read}
use Rattle.nv_model.specs.Laws.{IsAnother}
use Rattle.nv_model.specs.Limits.{block}
use Rattle.nv_model.specs.Memory.{byte_at_place, bytes_from, gathered, image, scattered, stored}
use Rattle.nv_model.specs.Private.{places_of_block}
use Rattle.nv_model.proofs.MemoryLemmas.{bytes_from-append, bytes_from-same, bytes_from-stored, scattered-addresses, stored-outside}
use Rattle.nv_model.proofs.PutImages.{image-put_image}
use Rattle.nv_model.proofs.Shown.{length-bytes_from}
use Rattle.nv_world_model.specs.Geometry.{Guest, regions_of}
use Rattle.nv_world_model.specs.Seat.{Owner}
use Rattle.nv_world_model.specs.Step.{delivered_by, scattered_to}
use Rattle.nv_world_model.specs.World.{World}
use Rattle.nv_laws.specs.Places.{HasAt, NameNoneTwice}
use Rattle.nv_laws.proofs.units.OwnShares.{IsOwnShare}
use Rattle.nv_laws.proofs.units.Has.{delivered-same, has-blocks, has-kept, has-scattered, others-kept}

-- ---- a unit moves

-- bytes that are scattered to a row are stored
row-stored : (host : ℕ → ℕ) (from : ℕ) (bytes : List ℕ) → length bytes ≡ block → scattered host (addresses from block) bytes ≡ stored host from bytes
row-stored host from bytes count =
    ap (λ n. scattered host (addresses from n) bytes) (sym count) ∙ scattered-addresses host from bytes

-- a unit's block stands in its part of the pages, and at its places in the guest's own memory
pub page-moved : (memory host : ℕ → ℕ) (places : List Place) (bytes : List ℕ) (from number : ℕ)
    → NameNoneTwice (take block (drop (block * number) places)) → length bytes ≡ block → block * number + block ≤ length places
    → HasAt (scattered memory (take block (drop (block * number) places)) bytes) (take block (drop (block * number) places))
    (bytes_from (scattered host (addresses (from + block * number) block) bytes) (from + block * number) block)
page-moved memory host places bytes from number once count within =
    let taken = length-take block (drop (block * number) places) in
    let dropped = length-drop (block * number) places in
    let has = has-scattered memory (take block (drop (block * number) places)) bytes once (omega (arith, taken, dropped, count, within)) in
    let stands : bytes_from (scattered host (addresses (from + block * number) block) bytes) (from + block * number) block ≡ bytes =
    ap (λ m. bytes_from m (from + block * number) block) (row-stored host (from + block * number) bytes count)
    ∙ ap (bytes_from (stored host (from + block * number) bytes) (from + block * number)) (sym count)
    ∙ bytes_from-stored host (from + block * number) bytes in
    subst (HasAt (scattered memory (take block (drop (block * number) places)) bytes) (take block (drop (block * number) places))) (sym stands) has

-- and the bytes of other units stand where they stood
pub page-kept : (memory host : ℕ → ℕ) (places : List Place) (bytes : List ℕ) (from number index : ℕ) → NameNoneTwice places → length bytes ≡ block
    → (index ≡ number → ⊥) → HasAt memory (take block (drop (block * index) places)) (bytes_from host (from + block * index) block)
    → HasAt (scattered memory (take block (drop (block * number) places)) bytes) (take block (drop (block * index) places))
    (bytes_from (scattered host (addresses (from + block * number) block) bytes) (from + block * index) block)
page-kept memory host places bytes from number index once count apart has =
    subst (HasAt (scattered memory (take block (drop (block * number) places)) bytes) (take block (drop (block * index) places))) (sym stands)
    (has-kept memory (scattered memory (take block (drop (block * number) places)) bytes) (take block (drop (block * index) places))
    (bytes_from host (from + block * index) block) (others-kept memory places index number bytes once apart) has)
  where
    away : (i : ℕ) → i < block → (index < number) ⊎ (number ≤ index)
        → (from + block * index + i < from + block * number) ⊎ (from + block * number + length bytes ≤ from + block * index + i)
    away i below (inl less) = inl (omega (arith, below, less))
    away i below (inr most) = elim (cases_eq index number) [ inl same ↦ absurd (apart same) | inr differ ↦ inr (omega (arith, most, differ, count)) ]

    stands : bytes_from (scattered host (addresses (from + block * number) block) bytes) (from + block * index) block ≡ bytes_from host (from + block * index) block
    stands =
        ap (λ m. bytes_from m (from + block * index) block) (row-stored host (from + block * number) bytes count)
        ∙ bytes_from-same (stored host (from + block * number) bytes) host (from + block * index) (from + block * index) block
        (λ i below. stored-outside host (from + block * number) bytes (from + block * index + i) (away i below (cases_lt index number)))

-- ---- delivery

-- what is delivered is what the guest's own memory has had since its units moved
pub delivered-image : (o : Owner) (work : Work) (w : World) (bounce n : ℕ) (memory : ℕ → ℕ) → AllPairs IsApart (regions_of o.given)
    → total_len work.pieces ≡ block * n
    → ((index : ℕ) → index < n → HasAt memory (places_of_block work index) (bytes_from w.host (bounce + block * index) block))
    → (addr : ℕ) → mapped (regions_of o.given) addr ≡ true
    → (All (IsAnother (At addr)) (places_of work.pieces) → image (regions_of o.given) w.host addr ≡ memory addr)
    → image (regions_of o.given) (scattered_to bounce work o w).host addr ≡ memory addr
unfolding scattered_to
delivered-image o work w bounce n memory apart count each addr there same =
    let bytes = bytes_from w.host bounce (total_len work.pieces) in
    let has : HasAt memory (places_of work.pieces) bytes =
    subst (λ len. HasAt memory (places_of work.pieces) (bytes_from w.host bounce len)) (sym count)
    (has-blocks n memory w.host (places_of work.pieces) bounce (length-places_of work.pieces ∙ count) each) in
    image-put_image (regions_of o.given) (scattered (image (regions_of o.given) w.host) (places_of work.pieces) bytes) w.host addr apart there
    ∙ delivered-same (image (regions_of o.given) w.host) memory (places_of work.pieces) bytes addr has same

-- ---- a source

-- a part of a stretch of bytes
part-bytes : (host : ℕ → ℕ) (from k n total : ℕ) → k + n ≤ total → take n (drop k (bytes_from host from total)) ≡ bytes_from host (from + k) n
part-bytes host from k n total within =
    let rest : ℕ = total - (k + n) in
    let split : total ≡ k + (n + rest) = omega (arith, within) in
    ap (λ len. take n (drop k (bytes_from host from len))) split
    ∙ ap (λ bs. take n (drop k bs)) (bytes_from-append host from k (n + rest))
    ∙ ap (take n) (drop_at (bytes_from host from k) (bytes_from host (from + k) (n + rest)) k (length-bytes_from host from k))
    ∙ ap (take n) (bytes_from-append host (from + k) n rest)
    ∙ take_at (bytes_from host (from + k) n) (bytes_from host (from + k + n) rest) n (length-bytes_from host (from + k) n)

-- where the pages have a source's bytes in order, a block's part of them has the bytes at its places
pub source-block : (memory host : ℕ → ℕ) (places : List Place) (from index : ℕ) → bytes_from host from (length places) ≡ gathered memory places
    → block * index + block ≤ length places
    → bytes_from host (from + block * index) block ≡ gathered memory (take block (drop (block * index) places))
unfolding gathered
source-block memory host places from index stands within =
    sym (part-bytes host from (block * index) block (length places) within)
    ∙ ap (λ bs. take block (drop (block * index) bs)) stands
    ∙ ap (take block) (drop-map (byte_at_place memory) (block * index) places)
    ∙ take-map (byte_at_place memory) block (drop (block * index) places)

-- ---- how many units

-- a share's transfer has a block of bytes for each of its units
pub transfer-count : (guest : Guest) (entry : List ℕ) (share : Share) (work : Work) (is : IsOwnShare guest entry share work) (dest : Bool)
    → form_of work.opcode ≡ Transfer dest → total_len work.pieces ≡ block * length work.units
transfer-count guest entry share work is dest form = is.total ∙ ap (λ f. own_len f work) form

-- ---- when it is delivered

pub delivered-when : (o : Owner) (work : Work) (w : World) (bounce : ℕ) → is_read work.opcode ≡ true
    → delivered_by (Bounced work) bounce o w ≡ scattered_to bounce work o w
delivered-when o work w bounce reads = ap (λ b. cond b (scattered_to bounce work o w) w) reads
