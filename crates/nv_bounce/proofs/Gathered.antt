-- Bytes that are copied to a slot, run by run.
use Rattle.std.proofs.Common.{◌≡◌, ℕ, ◌+◌, ◌-◌, ◌<◌, ◌≤◌, false, List, [], ◌++◌, length, replicate, arith, sym, ap, ◌∙◌}
use Rattle.nv_mem.specs.Bytes.{InMemory, after_store, bytes_at}
use Rattle.nv_mem.specs.declared.region.Region.{Region}
use Rattle.nv_mem.specs.GuestMap.{IsSound, Mapping, span_met}
use Rattle.nv_mem.specs.MapRuns.{IsContiguous, IsLongestRun}
use Rattle.nv_mem.specs.Places.{Place, Bucket, addresses}
use Rattle.nv_mem.proofs.Memory.{length-bytes_at, span_met-part}
use Rattle.nv_model.specs.Memory.{byte_in, bytes_from, gathered, image, stored}
use Rattle.nv_model.proofs.MemoryLemmas.{bytes_from-list, bytes_from-same, gathered-addresses, gathered-append, length-gathered, stored-append, stored-list, stored-nil}
use Rattle.nv_model.proofs.PutImages.{image-mapped, image-stored_clear}
use Rattle.nv_bounce.specs.Bounce.{gathered_to}
use Rattle.nv_bounce.proofs.Copies.{GoesInOrder, IsAtRow, IsAtRow-next}
use Rattle.nv_mem.proofs.MappedRuns.{run-inside}

-- the bytes of some places, and then those of the places behind them
pub gathered_to-append : (rs : List Region) (m : ℕ → ℕ) (front behind : List Place) (slot : ℕ) → span_met rs slot (length front) ≡ false
    → gathered_to rs behind (slot + length front) (gathered_to rs front slot m) ≡ gathered_to rs (front ++ behind) slot m
gathered_to-append rs m front behind slot clear =
    let bytes : List ℕ = gathered (image rs m) front in
    let len : length bytes ≡ length front = length-gathered (image rs m) front in
    let apart : span_met rs slot (length bytes) ≡ false = ap (span_met rs slot) len ∙ clear in
    ap (λ (g : ℕ → ℕ). stored (stored m slot bytes) (slot + length front) (gathered g behind)) (image-stored_clear rs m slot bytes apart)
    ∙ ap (λ (n : ℕ). stored (stored m slot bytes) (slot + n) (gathered (image rs m) behind)) (sym len)
    ∙ stored-append m slot bytes (gathered (image rs m) behind)
    ∙ ap (stored m slot) (sym (gathered-append (image rs m) front behind))

-- the bytes of a run that lies in a row in the host
pub gathered-row : (rs : List Region) (m : ℕ → ℕ) (addr host n : ℕ) → IsContiguous rs addr host n → gathered (image rs m) (addresses addr n) ≡ bytes_from m host n
gathered-row rs m addr host n run =
    gathered-addresses (image rs m) addr n
    ∙ bytes_from-same (image rs m) m addr host n (λ i below. image-mapped rs m (addr + i) (host + i) (run.contiguous i below))

-- such a run that is copied is gathered
pub copy-gathers : (rs : List Region) (memory : List ℕ) (addr host n to : ℕ) → IsContiguous rs addr host n → host + n ≤ length memory → to + n ≤ length memory
    → byte_in (after_store memory to (bytes_at memory host n)) ≡ gathered_to rs (addresses addr n) to (byte_in memory)
unfolding byte_in
copy-gathers rs memory addr host n to run from_inside to_inside =
    let len : length (bytes_at memory host n) ≡ n = length-bytes_at memory host n (λ _. from_inside) in
    sym (stored-list memory to (bytes_at memory host n) (omega arith))
    ∙ ap (stored (byte_in memory) to) (sym (bytes_from-list memory host n from_inside) ∙ sym (gathered-row rs (byte_in memory) addr host n run))

-- no bytes are copied
gathered_to-none : (rs : List Region) (m : ℕ → ℕ) (slot : ℕ) → gathered_to rs [] slot m ≡ m
unfolding gathered
gathered_to-none rs m slot = stored-nil m slot

-- gathering goes place by place
pub gathering-in_order : (rs : List Region) (slot len : ℕ) → span_met rs slot len ≡ false → GoesInOrder (gathered_to rs) slot len
gathering-in_order rs slot len clear = record {
  none = gathered_to-none rs;
  append = λ m front behind at low high.
      gathered_to-append rs m front behind at (span_met-part rs slot len at (length front) clear low (omega arith));
}

-- one more row of a run is gathered
pub gathered-next : (m : Mapping) (before now new : List ℕ) (slot addr len done host n : ℕ) → IsSound m → m.host_len ≡ length before
    → span_met m.regions slot len ≡ false → InMemory (length before) slot len
    → IsAtRow (gathered_to m.regions) before slot addr len now done → done < len → IsLongestRun m.regions (addr + done) (len - done) host n
    → new ≡ after_store now (slot + done) (bytes_at now host n) → length new ≡ length now
    → IsAtRow (gathered_to m.regions) before slot addr len new (done + n)
gathered-next m before now new slot addr len done host n sound is clear inside so_far below longest copied size =
    let within : n ≤ len - done = longest.within in
    let end : slot + len ≤ length before = inside (omega arith) in
    let same : length now ≡ length before = so_far.size in
    let row : host + n ≤ m.host_len = run-inside m (addr + done) (len - done) host n sound longest in
    IsAtRow-next (gathered_to m.regions) before slot addr len now new done n (gathering-in_order m.regions slot len clear) so_far within
    (ap byte_in copied ∙ copy-gathers m.regions now (addr + done) host n (slot + done) longest.run (omega arith) (omega arith)) size

-- where no place is a bucket, a bucket has no bytes
pub gathered_to-bucket : (rs : List Region) (m : ℕ → ℕ) (slot len : ℕ) → len ≡ 0 → m ≡ gathered_to rs (replicate len Bucket) slot m
gathered_to-bucket rs m slot len none =
    sym (ap (λ (n : ℕ). gathered_to rs (replicate n Bucket) slot m) none ∙ gathered_to-none rs m slot)
