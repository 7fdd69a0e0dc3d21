-- A guest's memory in the host behind a unit of a share of its command: a direct Read's block is at its places, and a bounced one changes nothing there.
use Rattle.std.proofs.Common.{◌≡◌, ℕ, ◌+◌, ◌-◌, ◌*◌, ◌<◌, ◌≤◌, Bool, true, List, All, drop, map, slice_get, take, Some}
use Rattle.std.proofs.Common.{None, arith, sym, ap, ◌∙◌, subst}
use Rattle.std.specs.List.{list_all, range_with_len}
use Rattle.std.proofs.lemmas.List.{take-map}
use Rattle.std.proofs.lemmas.List.Elements.{All-map}
use Rattle.std.proofs.lemmas.List.FromFn.{take-map-range_with_len}
use Rattle.nv_mem.specs.GuestMap.{guest_of, host_of}
use Rattle.nv_mem.specs.Places.{At, addresses, places_of, total_len}
use Rattle.nv_mem.proofs.Images.{guest_of-host}
use Rattle.nv_model.specs.Judge.{Work}
use Rattle.nv_model.specs.Laws.{IsAnother}
use Rattle.nv_model.specs.Limits.{block, most_bytes}
use Rattle.nv_model.specs.Memory.{bytes_from, gathered, image, scattered}
use Rattle.nv_model.specs.Private.{places_of_block}
use Rattle.nv_model.proofs.Endings.{and-true}
use Rattle.nv_model.proofs.MemoryLemmas.{gathered-addresses}
use Rattle.nv_prp.specs.Fits.{fit_prp, host_addresses, is_run, places_fit}
use Rattle.nv_world_model.specs.Area.{addresses_of, bounce_page, tag_count}
use Rattle.nv_world_model.specs.Device.{Held, device_unit}
use Rattle.nv_world_model.specs.Geometry.{Geometry, Guest, regions_of}
use Rattle.nv_world_model.specs.Plan.{Bounced, Direct, Plan}
use Rattle.nv_world_model.specs.Share.{Share}
use Rattle.nv_laws_sound.specs.Consistent.{IsInDevice}
use Rattle.nv_laws_sound.specs.LaidOut.{IsLaidOut}
use Rattle.nv_laws_sound.proofs.MoveEvents.{unit-apart}
use Rattle.nv_laws_sound.proofs.Named.{row-all}
use Rattle.nv_laws_sound.proofs.OnDisk.{drop-row}
use Rattle.nv_laws.specs.Places.{LieAt}
use Rattle.nv_laws.specs.Units.{addresses_of_block}
use Rattle.nv_laws.proofs.units.OwnShares.{IsOwnShare}
use Rattle.nv_laws.proofs.units.Lies.{gathered-lie, image-same, image-scattered, lie-drop, lie-pieces, lie-take}

-- ---- a direct transfer

-- its places fit PRP
direct-fits : (guest : Guest) (entry : List ℕ) (share : Share) (part : Work) (is : IsOwnShare guest entry share part) → share.plan ≡ Direct part
    → places_fit (regions_of guest) part.pieces ≡ true
direct-fits guest entry share part is =
    is.kinds (λ p. p ≡ Direct part → places_fit (regions_of guest) part.pieces ≡ true) (λ e. cc) (λ fits e. fits) (λ e. cc)

-- so a block's places lie at its addresses
pub block-lies : (guest : Guest) (entry : List ℕ) (share : Share) (part : Work) (is : IsOwnShare guest entry share part) (number : ℕ) → share.plan ≡ Direct part
    → LieAt (regions_of guest) (places_of_block part number) (take block (drop (block * number) (host_addresses (regions_of guest) part.pieces)))
block-lies guest entry share part is number direct =
    let fits = and-true (list_all is_run part.pieces) (fit_prp (host_addresses (regions_of guest) part.pieces)) (direct-fits guest entry share part is direct) in
    lie-take (regions_of guest) block (drop (block * number) (places_of part.pieces)) (drop (block * number) (host_addresses (regions_of guest) part.pieces))
    (lie-drop (regions_of guest) (block * number) (places_of part.pieces) (host_addresses (regions_of guest) part.pieces)
    (lie-pieces (regions_of guest) part.pieces is.mapped_each fits.0))

direct-addresses : (guest : Guest) (work : Work) (plan : Plan) (bounce number : ℕ) → plan ≡ Direct work
    → addresses_of_block plan guest bounce number ≡ map At (take block (drop (block * number) (host_addresses (regions_of guest) work.pieces)))
direct-addresses guest work plan bounce number direct = ap (λ p. addresses_of_block p guest bounce number) direct

-- the guest's memory has at a block's places what the host has at its addresses
pub direct-source : (guest : Guest) (entry : List ℕ) (share : Share) (part : Work) (is : IsOwnShare guest entry share part) (host : ℕ → ℕ) (bounce number : ℕ) → share.plan ≡ Direct part
    → gathered (image (regions_of guest) host) (places_of_block part number) ≡ gathered host (addresses_of_block share.plan guest bounce number)
direct-source guest entry share part is host bounce number direct =
    gathered-lie (regions_of guest) host (places_of_block part number) (take block (drop (block * number) (host_addresses (regions_of guest) part.pieces)))
    (block-lies guest entry share part is number direct)
    ∙ sym (ap (gathered host) (direct-addresses guest part share.plan bounce number direct))

-- ---- a bounced transfer

-- a block lies in a row
pub block-row : (bounce number total : ℕ) → block * number + block ≤ total
    → map At (take block (drop (block * number) (range_with_len bounce total))) ≡ addresses (bounce + block * number) block
unfolding addresses
block-row bounce number total within =
    let rest : ℕ = total - (block * number + block) in
    let split : total ≡ block * number + (block + rest) = omega (arith, within) in
    ap (λ n. map At (take block (drop (block * number) (range_with_len bounce n)))) split
    ∙ ap (λ r. map At (take block r)) (drop-row (block * number) bounce (block + rest))
    ∙ sym (take-map At block (range_with_len (bounce + block * number) (block + rest)))
    ∙ take-map-range_with_len At (bounce + block * number) (block + rest) block (omega arith)

pub bounced-addresses : (guest : Guest) (work : Work) (plan : Plan) (bounce number : ℕ) → plan ≡ Bounced work → block * number + block ≤ total_len work.pieces
    → addresses_of_block plan guest bounce number ≡ addresses (bounce + block * number) block
bounced-addresses guest work plan bounce number bounced within =
    ap (λ p. addresses_of_block p guest bounce number) bounced ∙ block-row bounce number (total_len work.pieces) within

-- what the host has at its addresses are the bytes of its part of the bounce pages
pub bounced-source : (guest : Guest) (work : Work) (plan : Plan) (host : ℕ → ℕ) (bounce number : ℕ) → plan ≡ Bounced work
    → block * number + block ≤ total_len work.pieces
    → gathered host (addresses_of_block plan guest bounce number) ≡ bytes_from host (bounce + block * number) block
bounced-source guest work plan host bounce number bounced within =
    ap (gathered host) (bounced-addresses guest work plan bounce number bounced within) ∙ gathered-addresses host (bounce + block * number) block

module _ (host_bytes lanes : ℕ) (geometry : Geometry) (laid : IsLaidOut host_bytes lanes geometry) (owner : ℕ) (guest : Guest)
    (given : slice_get geometry.guests owner ≡ Some guest) (entry : List ℕ) (share : Share) (part : Work) (is : IsOwnShare guest entry share part) (lane tag : ℕ)
    (lane_below : lane < lanes) (tag_below : tag < tag_count) (h : Held) (host : ℕ → ℕ) (in_device : IsInDevice geometry guest entry share lane tag host h) where
  abbrev bounce : ℕ
  bounce = bounce_page geometry.mediator lane tag

  -- a direct Read's block reaches its places
  pub direct-read : (number : ℕ) (bytes : List ℕ) → share.plan ≡ Direct part
      → image (regions_of guest) (scattered host (addresses_of_block share.plan guest bounce number) bytes)
      ≡ scattered (image (regions_of guest) host) (places_of_block part number) bytes
  direct-read number bytes direct =
      ap (λ ps. image (regions_of guest) (scattered host ps bytes)) (direct-addresses guest part share.plan bounce number direct)
      ∙ image-scattered (regions_of guest) (laid.given owner guest given).sound.apart host (places_of_block part number)
      (take block (drop (block * number) (host_addresses (regions_of guest) part.pieces))) bytes (block-lies guest entry share part is number direct)

  -- no byte of the guest's memory is in the bounce pages
  bounce-apart : (addr at : ℕ) → host_of (regions_of guest) addr ≡ Some at → All (IsAnother (At at)) (map At (range_with_len bounce (total_len part.pieces)))
  bounce-apart addr at lies =
      let few : total_len part.pieces ≤ most_bytes = is.few in
      let there = guest_of-host (regions_of guest) addr at (laid.given owner guest given).sound.apart lies in
      All-map (IsAnother (At at)) At (range_with_len bounce (total_len part.pieces))
      (row-all (λ x. IsAnother (At at) (At x)) bounce (total_len part.pieces) (λ x low high same.
      (let outside : guest_of (regions_of guest) x ≡ None =
      laid.outside owner guest x given (omega (arith, low)) (omega (arith, high, few, lane_below, tag_below)) in
      let both : Some addr ≡ None = sym there ∙ ap (guest_of (regions_of guest)) (sym (at-same x at same)) ∙ outside in
      cc)))
    where
      at-same : (a b : ℕ) → At a ≡ At b → a ≡ b
      at-same a b e = cc

  -- so a bounced command's unit leaves that memory as it was
  pub bounced-image : (number : ℕ) (disk : ℕ → ℕ → ℕ) (kept : ℕ → Bool) → share.plan ≡ Bounced part
      → image (regions_of guest) (device_unit number geometry.disk_blocks h host disk kept).memory ≡ image (regions_of guest) host
  bounced-image number disk kept bounced =
      image-same (regions_of guest) host (device_unit number geometry.disk_blocks h host disk kept).memory (λ addr at lies.
      unit-apart number geometry.disk_blocks at h host disk kept
      (subst (All (IsAnother (At at))) (sym (in_device.places ∙ ap (λ p. map At (addresses_of p guest bounce)) bounced)) (bounce-apart addr at lies)))
