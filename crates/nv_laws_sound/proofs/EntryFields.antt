-- What is read back of a physical entry.
use Rattle.std.proofs.Common.{◌≡◌, ℕ, zero, suc, ◌+◌, ◌-◌, ◌*◌, ◌/◌, ◌%◌, ◌^◌, ◌<◌, Bool, true, false, List, [], ◌∷◌}
use Rattle.std.proofs.Common.{◌++◌, length, slice_get, Some, arith, refl, ap, ◌∙◌, mod-lt}
use Rattle.nv_entry.specs.Dwords.{dword-bytes_of_dwords_suc, dword-bytes_of_dwords_zero, halves}
use Rattle.nv_entry.specs.Layout.{bits, bytes_of_dwords, dword, number_at, qword}
use Rattle.nv_entry.specs.Status.{bit}
use Rattle.nv_entry.specs.Submission.{cid_of, deallocate_of, nlb_of, nr_of, opcode_of, prp1_of, prp2_of, slba_of}
use Rattle.nv_model.specs.Judge.{Clear, Form, Keep, Manage, Transfer, Work, form_has_blocks, form_transfer_len, is_fua}
use Rattle.nv_ns.specs.Extents.{Namespace, place_in}
use Rattle.nv_prp.specs.declared.prps.Prps.{Prps}
use Rattle.nv_world_model.specs.Area.{bounce_page, list_page, physical_entry, prps_of, tag_count, two_dwords}
use Rattle.nv_world_model.specs.Device.{form_unit_count}
use Rattle.nv_world_model.specs.Geometry.{Guest}
use Rattle.nv_world_model.specs.Share.{Share}
use Rattle.nv_world_model.specs.ShareArea.{first_lba, share_entry, work_dwords}
use Rattle.nv_laws_sound.proofs.OwnWork.{own_len}
use Rattle.nv_laws_sound.proofs.PlanSizes.{HasCount}

-- a dword that fits is read back, whatever the others are
pub dword-there : (dwords : List ℕ) (i d : ℕ) → slice_get dwords i ≡ Some d → d < 2 ^ 32 → dword (bytes_of_dwords dwords) i ≡ d
dword-there [] i d at fits = cc
dword-there (x ∷ dwords) zero d at fits =
    let same : x ≡ d = cc in
    let fit : x < 2 ^ 32 = omega (arith, same, fits) in
    dword-bytes_of_dwords_zero x dwords fit ∙ same
dword-there (x ∷ dwords) (suc i) d at fits = dword-bytes_of_dwords_suc x dwords i ∙ dword-there dwords i d at fits

-- an opcode is a byte
opcode_of-byte : (entry : List ℕ) → opcode_of entry < 256
unfolding bits
opcode_of-byte entry = mod-lt (dword entry 0 / 2 ^ 0) (omega arith)

-- the first dword holds the opcode and the tag
first-dword : (share : Share) (guest : Guest) (entry : List ℕ) (mediator lane tag : ℕ) → tag < tag_count
    → dword (share_entry share guest.namespace guest entry mediator lane tag) 0 ≡ opcode_of entry + 2 ^ 16 * tag
unfolding physical_entry
first-dword share guest entry mediator lane tag below =
    let byte = opcode_of-byte entry in
    dword-there _ 0 (opcode_of entry + 2 ^ 16 * tag) refl (omega (arith, byte, below))

first-parts : (opcode tag : ℕ) → opcode < 256 → tag < tag_count
    → (bits (opcode + 2 ^ 16 * tag) 7 0 ≡ opcode) × (bits (opcode + 2 ^ 16 * tag) 31 16 ≡ tag)
unfolding bits
first-parts opcode tag byte below = (omega arith, omega arith)

-- its opcode is the guest's
pub entry-opcode : (share : Share) (guest : Guest) (entry : List ℕ) (mediator lane tag : ℕ) → tag < tag_count
    → opcode_of (share_entry share guest.namespace guest entry mediator lane tag) ≡ opcode_of entry
entry-opcode share guest entry mediator lane tag below =
    ap {B = ℕ} (λ d. bits d 7 0) (first-dword share guest entry mediator lane tag below) ∙ (first-parts (opcode_of entry) tag (opcode_of-byte entry) below).0

-- and its identifier the tag
pub entry-cid : (share : Share) (guest : Guest) (entry : List ℕ) (mediator lane tag : ℕ) → tag < tag_count
    → cid_of (share_entry share guest.namespace guest entry mediator lane tag) ≡ tag
entry-cid share guest entry mediator lane tag below =
    ap {B = ℕ} (λ d. bits d 31 16) (first-dword share guest entry mediator lane tag below) ∙ (first-parts (opcode_of entry) tag (opcode_of-byte entry) below).1

-- ---- the pages that it names

-- two dwords that are a number are read back
pub qword-there : (dwords : List ℕ) (i number : ℕ) → slice_get dwords i ≡ Some (number % 2 ^ 32) → slice_get dwords (i + 1) ≡ Some (number / 2 ^ 32)
    → number < 2 ^ 64 → qword (bytes_of_dwords dwords) i ≡ number
unfolding qword number_at
qword-there dwords i number low high fits =
    let first = dword-there dwords i (number % 2 ^ 32) low (omega arith) in
    let second = dword-there dwords (i + 1) (number / 2 ^ 32) high (omega arith) in
    halves (bytes_of_dwords dwords) i ∙ omega (arith, first, second)

-- PRP1 and PRP2
pub entry-prps : (share : Share) (guest : Guest) (entry : List ℕ) (mediator lane tag : ℕ)
    → (prps_of share.plan guest (list_page mediator lane tag) (bounce_page mediator lane tag)).prp1 < 2 ^ 64
    → (prps_of share.plan guest (list_page mediator lane tag) (bounce_page mediator lane tag)).prp2 < 2 ^ 64
    → (prp1_of (share_entry share guest.namespace guest entry mediator lane tag) ≡ (prps_of share.plan guest (list_page mediator lane tag) (bounce_page mediator lane tag)).prp1)
    × (prp2_of (share_entry share guest.namespace guest entry mediator lane tag) ≡ (prps_of share.plan guest (list_page mediator lane tag) (bounce_page mediator lane tag)).prp2)
unfolding physical_entry
entry-prps share guest entry mediator lane tag first second = (qword-there _ 6 _ refl refl first, qword-there _ 8 _ refl refl second)

-- ---- how much it transfers

-- dwords 10 to 12 of an entry that ends in zeros
entry-dword : (opcode tag : ℕ) (prps : Prps) (a b c : ℕ) → (dword (physical_entry opcode tag prps (a ∷ b ∷ c ∷ [])) 10 ≡ dword (bytes_of_dwords (a ∷ [])) 0)
    × (dword (physical_entry opcode tag prps (a ∷ b ∷ c ∷ [])) 12 ≡ dword (bytes_of_dwords (c ∷ [])) 0)
unfolding physical_entry dword number_at bytes_of_dwords
entry-dword opcode tag prps a b c = (refl, refl)

-- they have 16 and 8 bits
nlb-part : (nlb : ℕ) (flag : Bool) → nlb < 65536 → bits (nlb + 2 ^ 30 * bit flag) 15 0 ≡ nlb
unfolding bits
nlb-part nlb true below = omega arith
nlb-part nlb false below = omega arith

nlb-fits : (nlb : ℕ) (flag : Bool) → nlb < 65536 → nlb + 2 ^ 30 * bit flag < 2 ^ 32
nlb-fits nlb true below = omega arith
nlb-fits nlb false below = omega arith

nr-part : (nr : ℕ) → nr < 256 → bits nr 7 0 ≡ nr
unfolding bits
nr-part nr below = omega arith

-- a number of 16 bits that is written is read back
blocks-back : (opcode tag : ℕ) (prps : Prps) (nlb at : ℕ) (flag : Bool) → nlb < 65536
    → nlb_of (physical_entry opcode tag prps (two_dwords at ++ (nlb + 2 ^ 30 * bit flag) ∷ [])) ≡ nlb
blocks-back opcode tag prps nlb at flag below =
    ap {B = ℕ} (λ d. bits d 15 0)
    ((entry-dword opcode tag prps (at % 2 ^ 32) (at / 2 ^ 32) (nlb + 2 ^ 30 * bit flag)).1
    ∙ dword-there ((nlb + 2 ^ 30 * bit flag) ∷ []) 0 _ refl (nlb-fits nlb flag below))
    ∙ nlb-part nlb flag below

-- and one of 8 bits
ranges-back : (opcode tag : ℕ) (prps : Prps) (nr b c : ℕ) → nr < 256 → nr_of (physical_entry opcode tag prps (nr ∷ b ∷ c ∷ [])) ≡ nr
ranges-back opcode tag prps nr b c below =
    ap {B = ℕ} (λ d. bits d 7 0) ((entry-dword opcode tag prps nr b c).0 ∙ dword-there (nr ∷ []) 0 nr refl (omega (arith, below)))
    ∙ nr-part nr below

-- the units of a work of that form
abbrev pub own_units : Form → Work → ℕ
own_units (Transfer dest) own = length own.units
own_units Clear own = length own.units
own_units Manage own = length own.ranges
own_units Keep own = 1

-- a physical command of a work transfers as much, and has as many units, as the work
pub form-back : (form : Form) (opcode tag : ℕ) (prps : Prps) (ns : Namespace) (entry : List ℕ) (own : Work) → HasCount form own
    → (form_transfer_len form (physical_entry opcode tag prps (work_dwords form ns entry own)) ≡ own_len form own)
    × (form_unit_count form (physical_entry opcode tag prps (work_dwords form ns entry own)) ≡ own_units form own)
form-back (Transfer dest) opcode tag prps ns entry own has =
    let some = has.0 in
    let few = has.1 in
    let same = blocks-back opcode tag prps (length own.units - 1) (place_in ns (first_lba own.units)) (is_fua entry) (omega (arith, some, few)) in
    let back : length own.units - 1 + 1 ≡ length own.units = omega (arith, some) in
    (ap (λ n. 512 * (n + 1)) same ∙ ap (λ n. 512 * n) back, ap (λ n. n + 1) same ∙ back)
form-back Clear opcode tag prps ns entry own has =
    let some = has.0 in
    let few = has.1 in
    let same = blocks-back opcode tag prps (length own.units - 1) (place_in ns (first_lba own.units)) (is_fua entry) (omega (arith, some, few)) in
    let back : length own.units - 1 + 1 ≡ length own.units = omega (arith, some) in
    (refl, ap (λ n. n + 1) same ∙ back)
form-back Manage opcode tag prps ns entry own has =
    let some = has.0 in
    let few = has.1 in
    let same = ranges-back opcode tag prps (length own.ranges - 1) (4 * deallocate_of entry) 0 (omega (arith, some, few)) in
    let back : length own.ranges - 1 + 1 ≡ length own.ranges = omega (arith, some) in
    (ap (λ n. 16 * (n + 1)) same ∙ ap (λ n. 16 * n) back, ap (λ n. n + 1) same ∙ back)
form-back Keep opcode tag prps ns entry own has = (refl, refl)

-- ---- the blocks that it names

-- dwords 10 and 11 of an entry that ends in zeros
entry-blocks : (opcode tag : ℕ) (prps : Prps) (at c : ℕ) → at < 2 ^ 64 → slba_of (physical_entry opcode tag prps (two_dwords at ++ c ∷ [])) ≡ at
unfolding physical_entry
entry-blocks opcode tag prps at c fits = qword-there _ 10 at refl refl fits

-- a command of that form that has blocks names them where they are on the disk
pub form-start : (form : Form) (opcode tag : ℕ) (prps : Prps) (ns : Namespace) (entry : List ℕ) (own : Work) → form_has_blocks form ≡ true
    → place_in ns (first_lba own.units) < 2 ^ 64
    → slba_of (physical_entry opcode tag prps (work_dwords form ns entry own)) ≡ place_in ns (first_lba own.units)
form-start (Transfer dest) opcode tag prps ns entry own has fits = entry-blocks opcode tag prps (place_in ns (first_lba own.units)) _ fits
form-start Clear opcode tag prps ns entry own has fits = entry-blocks opcode tag prps (place_in ns (first_lba own.units)) _ fits
form-start Manage opcode tag prps ns entry own has fits = cc
form-start Keep opcode tag prps ns entry own has fits = cc
