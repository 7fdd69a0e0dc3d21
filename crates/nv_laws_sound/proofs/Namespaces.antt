-- Where the blocks of a guest's namespace lie: each in one of its extents, and on the disk.
use Rattle.std.proofs.Common.{◌≡◌, ℕ, ◌+◌, ◌-◌, ◌*◌, ◌^◌, ◌<◌, ◌≤◌, ◌⊎◌, inl, inr, Bool, true, false, ◌||◌, ◌==◌}
use Rattle.std.proofs.Common.{List, [], ◌∷◌, All, length, if◌then◌else◌, arith, refl, sym, ap, ◌∙◌}
use Rattle.std.specs.List.{Contains}
use Rattle.std.proofs.Math.Nat.{mul-le-mul_right}
use Rattle.std.proofs.lemmas.Bool.{cases_lt}
use Rattle.std.proofs.lemmas.Grind.{common_steps}
use Rattle.std.proofs.lemmas.List.Elements.{All-contains_itself, All-head, All-tail, All-weaker}
use Rattle.nv_entry.specs.Range.{blocks_of, start_of}
use Rattle.nv_ns.specs.BlockRange.{Extent}
use Rattle.nv_ns.specs.Extents.{Namespace, blocks_in, has_block, place_in}
use Rattle.nv_ns.proofs.Ranges.{InNamespace-tested}
use Rattle.nv_ns.proofs.Spelled.{place_in-beyond, place_in-here}
use Rattle.nv_model.specs.Judge.{range_fits}
use Rattle.nv_world_model.specs.Area.{first_base, range_place}
use Rattle.nv_world_model.specs.Geometry.{Guest}
use Rattle.nv_world_model.specs.SetUp.{host_limits}
use Rattle.nv_world_model.specs.View.{in_extents}
use Rattle.nv_laws_sound.specs.LaidOut.{IsGiven}

-- ---- a block of the disk

or-true : (a b : Bool) → (a || b) ≡ true → (a ≡ true) ⊎ (b ≡ true)
or-true true b e = inl refl
or-true false b e = inr e

or-left : (a b : Bool) → a ≡ true → (a || b) ≡ true
or-left true b e = refl
or-left false b e = cc

or-right : (a b : Bool) → b ≡ true → (a || b) ≡ true
or-right true b e = refl
or-right false b e = e

has_block-below : (extent : Extent) (at : ℕ) → has_block at extent ≡ true → at < extent.base + extent.blocks
has_block-below extent at has = grind (arith, common_steps)

has_block-there : (extent : Extent) (lba : ℕ) → lba < extent.blocks → has_block (extent.base + lba) extent ≡ true
has_block-there extent lba below = grind (arith, common_steps)

-- ---- a block of a namespace

-- it lies in one of the extents
pub place-own : (ns : Namespace) (lba : ℕ) → lba < blocks_in ns → in_extents ns (place_in ns lba) ≡ true
place-own [] lba below = absurd (omega arith)
place-own (extent ∷ rest) lba below =
    elim (cases_lt lba extent.blocks) [
      | inl inside ↦
          ap (in_extents (extent ∷ rest)) (place_in-here extent rest lba inside)
          ∙ or-left (has_block (extent.base + lba) extent) (in_extents rest (extent.base + lba)) (has_block-there extent lba inside)
      | inr past ↦
          ap (in_extents (extent ∷ rest)) (place_in-beyond extent rest lba past)
          ∙ or-right (has_block (place_in rest (lba - extent.blocks)) extent) (in_extents rest (place_in rest (lba - extent.blocks)))
          (place-own rest (lba - extent.blocks) (omega arith))
    ]

-- an extent that ends on the disk
abbrev IsOnDisk : (disk_blocks : ℕ) → Extent → Type 0
IsOnDisk disk_blocks extent = extent.base + extent.blocks ≤ disk_blocks

all-on_disk : (host_bytes disk_blocks : ℕ) (guest : Guest) → IsGiven host_bytes disk_blocks guest → All (IsOnDisk disk_blocks) guest.namespace
all-on_disk host_bytes disk_blocks guest given =
    All-weaker (Contains guest.namespace) (IsOnDisk disk_blocks) given.on_disk guest.namespace (All-contains_itself guest.namespace)

in_extents-below : (disk_blocks : ℕ) (ns : Namespace) (at : ℕ) → All (IsOnDisk disk_blocks) ns → in_extents ns at ≡ true → at < disk_blocks
in_extents-below disk_blocks [] at each own = cc
in_extents-below disk_blocks (extent ∷ rest) at each own =
    elim (or-true (has_block at extent) (in_extents rest at) own) [
      | inl here ↦
          (let below = has_block-below extent at here in
          let ends = All-head (IsOnDisk disk_blocks) extent rest each in omega arith)
      | inr there ↦ in_extents-below disk_blocks rest at (All-tail (IsOnDisk disk_blocks) extent rest each) there
    ]

-- a block of one of a guest's extents is on the disk
pub own-disk : (host_bytes disk_blocks at : ℕ) (guest : Guest) → IsGiven host_bytes disk_blocks guest → in_extents guest.namespace at ≡ true
    → at < disk_blocks
own-disk host_bytes disk_blocks at guest given own =
    in_extents-below disk_blocks guest.namespace at (all-on_disk host_bytes disk_blocks guest given) own

-- so is where a block of its namespace lies
pub place-disk : (host_bytes disk_blocks lba : ℕ) (guest : Guest) → IsGiven host_bytes disk_blocks guest → lba < blocks_in guest.namespace
    → place_in guest.namespace lba < disk_blocks
place-disk host_bytes disk_blocks lba guest given below =
    own-disk host_bytes disk_blocks (place_in guest.namespace lba) guest given (place-own guest.namespace lba below)

place_in-behind : (ns : Namespace) (lba : ℕ) → blocks_in ns ≤ lba → place_in ns lba ≡ 0
place_in-behind [] lba behind = refl
place_in-behind (extent ∷ rest) lba behind =
    place_in-beyond extent rest lba (omega arith) ∙ place_in-behind rest (lba - extent.blocks) (omega arith)

-- and no place is behind the disk, also that of a block that is not there
pub place-fits : (host_bytes disk_blocks lba : ℕ) (guest : Guest) → IsGiven host_bytes disk_blocks guest
    → place_in guest.namespace lba ≤ disk_blocks
place-fits host_bytes disk_blocks lba guest given =
    elim (cases_lt lba (blocks_in guest.namespace)) [
      | inl below ↦ (let there = place-disk host_bytes disk_blocks lba guest given below in omega (arith, there))
      | inr behind ↦ (let none = place_in-behind guest.namespace lba behind in omega (arith, none))
    ]

-- ---- blocks in a row

-- these blocks of the disk are in a namespace's extents
abbrev pub AreOwn : Namespace → (start count : ℕ) → Type 0
AreOwn ns start count = (k : ℕ) → k < count → in_extents ns (start + k) ≡ true

-- a block that is in no extent lies before them or behind them
pub own-away : (ns : Namespace) (start count at : ℕ) → AreOwn ns start count → in_extents ns at ≡ false → (at < start) ⊎ (start + count ≤ at)
own-away ns start count at own away =
    elim (cases_lt at start) [
      | inl before ↦ inl before
      | inr most ↦ elim (cases_lt at (start + count)) [
        | inl less ↦
            (let back : start + (at - start) ≡ at = omega (arith, most) in
            let bad : true ≡ false = sym (own (at - start) (omega (arith, most, less))) ∙ ap (in_extents ns) back ∙ away in cc)
        | inr behind ↦ inr behind
      ]
    ]

-- some of a guest's end on the disk
pub own-ends : (host_bytes disk_blocks start count : ℕ) (guest : Guest) → IsGiven host_bytes disk_blocks guest
    → AreOwn guest.namespace start count → 0 < count → start + count ≤ disk_blocks
own-ends host_bytes disk_blocks start count guest given own some =
    let last = own-disk host_bytes disk_blocks (start + (count - 1)) guest given (own (count - 1) (omega (arith, some))) in
    omega (arith, some, last)

-- ---- ranges

-- a range that fits ends in the namespace
pub range-within : (blocks : ℕ) (range : List ℕ) → range_fits blocks range ≡ true → start_of range + blocks_of range ≤ blocks
range-within blocks range fits =
    let inside = InNamespace-tested (start_of range) (blocks_of range) blocks fits in
    let some = inside.0 in
    let most = inside.1 in omega (arith, some, most)

-- one that has blocks lies where its first does
pub range_place-some : (ns : Namespace) (range : List ℕ) → 0 < blocks_of range → range_place ns range ≡ place_in ns (start_of range)
range_place-some ns range some =
    ap (λ (b : Bool). if b then first_base ns + start_of range else place_in ns (start_of range)) (not-none (blocks_of range) some)
  where
    not-none : (n : ℕ) → 0 < n → (n == 0) ≡ false
    not-none n some = grind (arith, common_steps)

-- as many extents as these have at most as many blocks
blocks-most : (disk_blocks : ℕ) (ns : Namespace) → All (IsOnDisk disk_blocks) ns → blocks_in ns ≤ length ns * disk_blocks
blocks-most disk_blocks [] each = omega arith
blocks-most disk_blocks (extent ∷ rest) each =
    let first = All-head (IsOnDisk disk_blocks) extent rest each in
    let more = blocks-most disk_blocks rest (All-tail (IsOnDisk disk_blocks) extent rest each) in omega (arith, first, more)

-- a guest's blocks are few
pub blocks-few : (host_bytes disk_blocks : ℕ) (guest : Guest) → IsGiven host_bytes disk_blocks guest
    → blocks_in guest.namespace ≤ 8 * disk_blocks
blocks-few host_bytes disk_blocks guest given =
    let most = blocks-most disk_blocks guest.namespace (all-on_disk host_bytes disk_blocks guest given) in
    let times = mul-le-mul_right disk_blocks given.few in
    omega (arith, most, times)

first_base-most : (disk_blocks : ℕ) (ns : Namespace) → All (IsOnDisk disk_blocks) ns → first_base ns ≤ disk_blocks
first_base-most disk_blocks [] each = omega arith
first_base-most disk_blocks (extent ∷ rest) each =
    let first = All-head (IsOnDisk disk_blocks) extent rest each in omega (arith, first)

-- where a guest's range lies, also one of no blocks, is a number of 64 bits
pub range_place-ends : (host_bytes disk_blocks : ℕ) (guest : Guest) (range : List ℕ) → IsGiven host_bytes disk_blocks guest
    → disk_blocks ≤ host_limits.disk_blocks → start_of range + blocks_of range ≤ blocks_in guest.namespace → range_place guest.namespace range < 2 ^ 64
range_place-ends host_bytes disk_blocks guest range given few within = at (blocks_of range == 0)
  where
    at : (none : Bool)
        → (if none then first_base guest.namespace + start_of range else place_in guest.namespace (start_of range)) < 2 ^ 64
    at true =
        let first = first_base-most disk_blocks guest.namespace (all-on_disk host_bytes disk_blocks guest given) in
        let most = blocks-few host_bytes disk_blocks guest given in omega (arith, within, first, most, few)
    at false = (let inside = place-fits host_bytes disk_blocks (start_of range) guest given in omega (arith, inside, few))

pub range_place-fits : (host_bytes disk_blocks : ℕ) (guest : Guest) (range : List ℕ) → IsGiven host_bytes disk_blocks guest
    → disk_blocks ≤ host_limits.disk_blocks → range_fits (blocks_in guest.namespace) range ≡ true → range_place guest.namespace range < 2 ^ 64
range_place-fits host_bytes disk_blocks guest range given few fits =
    range_place-ends host_bytes disk_blocks guest range given few (range-within (blocks_in guest.namespace) range fits)
