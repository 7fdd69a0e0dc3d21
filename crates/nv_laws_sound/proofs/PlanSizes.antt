-- What stands in a tag's pages fits there: a list of 32 entries at most, and 256 ranges at most.
use Rattle.std.proofs.Common.{◌≡◌, ℕ, zero, suc, ◌*◌, ◌/◌, ◌%◌, ◌^◌, ◌<◌, ◌≤◌, ◌⊎◌, inl, inr, true, false, ◌==◌}
use Rattle.std.proofs.Common.{cond, List, [], ◌∷◌, ◌++◌, flat_map, length, take, arith, refl, sym, ap, ◌∙◌, subst, mod-lt}
use Rattle.std.specs.Bool.{⊤}
use Rattle.std.specs.List.{filter, list_all, range_with_len}
use Rattle.std.proofs.lemmas.Bool.{cases_lt, eqb-false}
use Rattle.std.proofs.lemmas.List.{length-take, length-append}
use Rattle.std.proofs.lemmas.List.FromFn.{length-range_with_len}
use Rattle.byteorder.specs.Numbers.{length-bytes_low_first}
use Rattle.nv_entry.specs.Layout.{bits, bytes_of_dwords, number_bytes}
use Rattle.nv_entry.specs.Submission.{cdw_of, nlb_of, nr_of, slba_of}
use Rattle.nv_ns.specs.Extents.{Namespace}
use Rattle.nv_mem.specs.GuestMap.{mapped}
use Rattle.nv_mem.specs.Places.{total_len}
use Rattle.nv_mem.specs.declared.region.Region.{Region}
use Rattle.nv_model.specs.Judge.{Clear, Form, Keep, Manage, Transfer, Work, count_of, form_has_blocks, form_has_buffer, form_of, form_transfer_len}
use Rattle.nv_model.specs.Judge.{has_buffer, range_count_of}
use Rattle.nv_model.specs.Limits.{most_bytes, page}
use Rattle.nv_model.specs.Queue.{sqe_size}
use Rattle.nv_model.proofs.AnyAnswers.{end-short, end-sound}
use Rattle.nv_model.proofs.Endings.{and-true}
use Rattle.nv_prp.specs.Built.{built, listed, starts_page}
use Rattle.nv_prp.specs.Fits.{fit_prp, host_addresses, is_run, places_fit}
use Rattle.nv_prp.specs.Met.{met_more}
use Rattle.nv_prp.specs.declared.prps.Prps.{Prps}
use Rattle.nv_prp.proofs.Builds.{fit-row, met-room}
use Rattle.nv_prp.proofs.HostRuns.{length-host_addresses}
use Rattle.nv_world_model.specs.Area.{addresses_of, list_bytes, physical_entry, prps_of, translated_range}
use Rattle.nv_world_model.specs.Geometry.{Guest, regions_of, shape_of}
use Rattle.nv_world_model.specs.Plan.{Answer, Bounced, Direct, NoData, Plan, go_plan}
use Rattle.nv_world_model.specs.Share.{Share, with_work}
use Rattle.nv_world_model.specs.ShareArea.{own_dwords, share_entry, work_dwords}
use Rattle.nv_world_model.specs.ShareArea.{is_no_command, is_no_plan, is_no_work}
use Rattle.nv_laws_sound.specs.Area.{form_ranges, ranges_of}
use Rattle.nv_laws_sound.specs.Consistent.{IsPlanned}
use Rattle.nv_laws_sound.proofs.OwnWork.{IsRow, own-of}

-- ---- the kinds of plans

-- a command with a buffer transfers something
pub form-something : (form : Form) (entry : List ℕ) → form_has_buffer form ≡ true → 0 < form_transfer_len form entry
form-something (Transfer dest) entry e = omega arith
form-something Clear entry e = cc
form-something Manage entry e = omega arith
form-something Keep entry e = cc

-- a command that goes moves no data where it has no buffer, or transfers directly where its places fit, or bounces
pub go_plan-kinds : (P : Plan → Type 0) (form : Form) (regions : List Region) (work : Work) → (form_has_buffer form ≡ false → P (NoData work))
    → (form_has_buffer form ≡ true → form_has_blocks form ≡ true → places_fit regions work.pieces ≡ true → P (Direct work))
    → (form_has_buffer form ≡ true → P (Bounced work)) → P (go_plan form regions work)
go_plan-kinds P (Transfer dest) regions work no_data direct bounced =
    (elim (places_fit regions work.pieces) as (λ b. places_fit regions work.pieces ≡ b → P (cond b (Direct work) (Bounced work))) [
      | true ↦ λ fits. direct refl refl fits
      | false ↦ λ fits. bounced refl
    ]) refl
go_plan-kinds P Clear regions work no_data direct bounced = no_data refl
go_plan-kinds P Manage regions work no_data direct bounced = bounced refl
go_plan-kinds P Keep regions work no_data direct bounced = no_data refl

-- the own work of a share
abbrev pub own_work : (guest : Guest) (entry : List ℕ) (share : Share) → IsPlanned guest entry share → Work
own_work guest entry share is = (own-of guest entry share is).own

pub planned-by : (P : Plan → Type 0) (guest : Guest) (entry : List ℕ) (share : Share) (is : IsPlanned guest entry share)
    → (has_buffer is.work.opcode ≡ false → P (NoData (own_work guest entry share is)))
    → (has_buffer is.work.opcode ≡ true → places_fit (regions_of guest) (own_work guest entry share is).pieces ≡ true
    → P (Direct (own_work guest entry share is)))
    → (has_buffer is.work.opcode ≡ true → P (Bounced (own_work guest entry share is))) → P share.plan
planned-by P guest entry share is no_data direct bounced =
    let part = own-of guest entry share is in
    let total = (end-sound (mapped (regions_of guest)) guest.limit (shape_of guest).blocks entry is.work is.verdict).total in
    subst P (sym (part.plan_is ∙ ap (λ p. with_work p part.own) is.whole_is))
    (go_plan-kinds (λ p. P (with_work p part.own)) (form_of is.work.opcode) (regions_of guest) is.work no_data
    (λ buffer has fits.
    (let some = form-something (form_of is.work.opcode) entry buffer in
    direct buffer (part.fits (omega (arith, total, some)) has fits)))
    bounced)

-- the same where it makes no difference whether there is a buffer
pub planned-kinds : (P : Plan → Type 0) (guest : Guest) (entry : List ℕ) (share : Share) (is : IsPlanned guest entry share)
    → P (NoData (own_work guest entry share is))
    → (places_fit (regions_of guest) (own_work guest entry share is).pieces ≡ true → P (Direct (own_work guest entry share is)))
    → P (Bounced (own_work guest entry share is)) → P share.plan
planned-kinds P guest entry share is no_data direct bounced =
    planned-by P guest entry share is (λ none. no_data) (λ buffer fits. direct fits) (λ buffer. bounced)

-- its bytes fit the bounce pages
pub own-few : (guest : Guest) (entry : List ℕ) (share : Share) (is : IsPlanned guest entry share)
    → total_len (own_work guest entry share is).pieces ≤ most_bytes
own-few guest entry share is =
    let part = own-of guest entry share is in
    let total = part.total in
    let less = part.short in
    let short = end-short (mapped (regions_of guest)) guest.limit (shape_of guest).blocks entry is.work is.verdict in
    omega (arith, total, less, short)

-- ---- the addresses of a transfer

-- the addresses of a transfer fit PRP, or there are none; and there are 131,072 at most
pub record AreNameable (addresses : List ℕ) : Type 0 where
  pub fit : (fit_prp addresses ≡ true) ⊎ (addresses ≡ [])
  pub few : length addresses ≤ most_bytes

nameable-none : AreNameable []
nameable-none = record { fit = inr refl; few = omega arith }

nameable-row : (bounce len : ℕ) → bounce % 4 ≡ 0 → len ≤ most_bytes → AreNameable (range_with_len bounce len)
nameable-row bounce zero aligned few = record { fit = inr refl; few = omega arith }
nameable-row bounce (suc len) aligned few =
    record {
      fit = inl (fit-row bounce (suc len) (omega arith) aligned);
      few = (let count = length-range_with_len bounce (suc len) in omega (arith, count));
    }

-- those of a plan
pub addresses-nameable : (guest : Guest) (entry : List ℕ) (share : Share) (bounce : ℕ) → bounce % 4 ≡ 0 → IsPlanned guest entry share
    → AreNameable (addresses_of share.plan guest bounce)
addresses-nameable guest entry share bounce aligned is =
    let own : Work = own_work guest entry share is in
    let few : total_len own.pieces ≤ most_bytes = own-few guest entry share is in
    planned-kinds (λ p. AreNameable (addresses_of p guest bounce)) guest entry share is
    nameable-none
    (λ fits. record {
      fit = inl (and-true (list_all is_run own.pieces) (fit_prp (host_addresses (regions_of guest) own.pieces)) fits).1;
      few = (let fewer = length-host_addresses (regions_of guest) own.pieces in omega (arith, fewer, few));
    })
    (nameable-row bounce (total_len own.pieces) aligned few)

-- ---- the list

-- numbers of so many bytes each
length-words : (size : ℕ) (numbers : List ℕ) → length (flat_map (number_bytes size) numbers) ≡ size * length numbers
length-words size [] = omega arith
length-words size (number ∷ numbers) =
    let one = length-bytes_low_first 0 size number in
    let rest = length-words size numbers in
    length-append (number_bytes size number) (flat_map (number_bytes size) numbers) ∙ rw (one, rest) (omega arith)

listed-fewer : (entries : List ℕ) → length (listed entries) ≤ length entries
listed-fewer [] = omega arith
listed-fewer (entry ∷ []) = omega arith
listed-fewer (entry ∷ next ∷ entries) = omega arith

-- a list has 32 entries at most
pub used-few : (list : ℕ) (addresses : List ℕ) → (fit_prp addresses ≡ true) ⊎ (addresses ≡ []) → length addresses ≤ most_bytes
    → (built list addresses).used ≤ 32
unfolding built met_more
used-few list [] fit few = omega arith
used-few list (first ∷ addresses) (inr none) few = cc
used-few list (first ∷ addresses) (inl fit) few =
    let room = met-room (first ∷ addresses) fit few in
    let fewer = listed-fewer (filter starts_page addresses) in
    omega (arith, room, fewer)

length-list_bytes : (p : Prps) → p.used ≤ 32 → length (list_bytes p) ≤ 256
length-list_bytes p few =
    let words = length-words 8 (take p.used p.list) in
    let some = length-take p.used p.list in
    omega (arith, words, some)

pub list-short : (guest : Guest) (entry : List ℕ) (share : Share) (list bounce : ℕ) → bounce % 4 ≡ 0 → IsPlanned guest entry share
    → length (list_bytes (prps_of share.plan guest list bounce)) ≤ 256
list-short guest entry share list bounce aligned is =
    let named = addresses-nameable guest entry share bounce aligned is in
    length-list_bytes (prps_of share.plan guest list bounce) (used-few list (addresses_of share.plan guest bounce) named.fit named.few)

-- ---- the ranges

length-translated : (guest : Guest) (range : List ℕ) → length (translated_range guest.namespace range) ≡ 16
length-translated guest range = refl

length-ranges : (guest : Guest) (ranges : List (List ℕ)) → length (flat_map (translated_range guest.namespace) ranges) ≡ 16 * length ranges
length-ranges guest [] = omega arith
length-ranges guest (range ∷ ranges) =
    let rest = length-ranges guest ranges in
    length-append (translated_range guest.namespace range) (flat_map (translated_range guest.namespace) ranges) ∙ rw rest (omega arith)

nr_of-few : (entry : List ℕ) → range_count_of entry ≤ 256
unfolding bits
nr_of-few entry = let below : nr_of entry < 256 = mod-lt (cdw_of 10 entry / 2 ^ 0) (omega arith) in omega arith

form_ranges-short : (form : Form) (guest : Guest) (own : Work) → (form ≡ Manage → length own.ranges ≤ 256)
    → length (form_ranges form guest own) ≤ page
form_ranges-short (Transfer dest) guest own few = omega arith
form_ranges-short Clear guest own few = omega arith
form_ranges-short Manage guest own few =
    let count = length-ranges guest own.ranges in
    let most = few refl in
    omega (arith, count, most)
form_ranges-short Keep guest own few = omega arith

-- they fit a page
pub ranges-few : (guest : Guest) (entry : List ℕ) (share : Share) (is : IsPlanned guest entry share)
    → form_of is.work.opcode ≡ Manage → length (own_work guest entry share is).ranges ≤ 256
ranges-few guest entry share is form =
    let few = (own-of guest entry share is).few form in
    let most = nr_of-few entry in omega (arith, few, most)

pub ranges-short : (guest : Guest) (entry : List ℕ) (share : Share) → IsPlanned guest entry share → length (ranges_of share.plan guest) ≤ page
ranges-short guest entry share is =
    let part = own-of guest entry share is in
    planned-kinds (λ p. length (ranges_of p guest) ≤ page) guest entry share is
    (omega arith) (λ fits. omega arith)
    (form_ranges-short (form_of part.own.opcode) guest part.own
    (λ form. ranges-few guest entry share is (sym (ap form_of part.opcode) ∙ form)))

-- ---- the entry

work_dwords-three : (form : Form) (ns : Namespace) (entry : List ℕ) (own : Work) → length (work_dwords form ns entry own) ≡ 3
work_dwords-three (Transfer dest) ns entry own = refl
work_dwords-three Clear ns entry own = refl
work_dwords-three Manage ns entry own = refl
work_dwords-three Keep ns entry own = refl

own_dwords-three : (plan : Plan) (ns : Namespace) (entry : List ℕ) → length (own_dwords plan ns entry) ≡ 3
own_dwords-three (Answer st) ns entry = refl
own_dwords-three (NoData work) ns entry = work_dwords-three (form_of work.opcode) ns entry work
own_dwords-three (Direct work) ns entry = work_dwords-three (form_of work.opcode) ns entry work
own_dwords-three (Bounced work) ns entry = work_dwords-three (form_of work.opcode) ns entry work

length-bytes_of_dwords : (dwords : List ℕ) → length (bytes_of_dwords dwords) ≡ 4 * length dwords
unfolding bytes_of_dwords
length-bytes_of_dwords dwords = length-words 4 dwords

-- a physical entry has 64 bytes
pub entry-length : (share : Share) (guest : Guest) (entry : List ℕ) (mediator lane tag : ℕ)
    → length (share_entry share guest.namespace guest entry mediator lane tag) ≡ sqe_size
unfolding physical_entry
entry-length share guest entry mediator lane tag =
    let three = own_dwords-three share.plan guest.namespace entry in
    let last : List ℕ = 0 ∷ 0 ∷ 0 ∷ [] in
    let behind : length (own_dwords share.plan guest.namespace entry ++ last) ≡ 6 =
    length-append (own_dwords share.plan guest.namespace entry) last ∙ rw three refl in
    length-bytes_of_dwords _ ∙ omega (arith, behind)

-- ---- how many units it has

-- a share that is a physical command has units, and as many as its fields can tell
abbrev pub HasCount : Form → Work → Type 0
HasCount (Transfer dest) own = (0 < length own.units) × (length own.units ≤ 65536)
HasCount Clear own = (0 < length own.units) × (length own.units ≤ 65536)
HasCount Manage own = (0 < length own.ranges) × (length own.ranges ≤ 256)
HasCount Keep own = ⊤

count_of-few : (entry : List ℕ) → count_of entry ≤ 65536
unfolding bits
count_of-few entry = let below : nlb_of entry < 65536 = mod-lt (cdw_of 12 entry / 2 ^ 0) (omega arith) in omega arith

some-ranges : (n : ℕ) → (n == 0) ≡ false → 0 < n
some-ranges n some = let other = eqb-false n 0 some in elim (cases_lt 0 n) [ inl is ↦ is | inr none ↦ absurd (other (omega (arith, none))) ]

counts-by : (form : Form) (guest : Guest) (entry : List ℕ) (own : Work)
    → (form_has_blocks form ≡ true → IsRow guest.namespace (slba_of entry) (count_of entry) own.units)
    → (form ≡ Manage → length own.ranges ≤ 256) → (form ≡ Manage → (length own.ranges == 0) ≡ false) → HasCount form own
counts-by (Transfer dest) guest entry own blocks few some =
    let row = blocks refl in
    let within = row.within in
    let most = count_of-few entry in (row.some, omega (arith, within, most))
counts-by Clear guest entry own blocks few some =
    let row = blocks refl in
    let within = row.within in
    let most = count_of-few entry in (row.some, omega (arith, within, most))
counts-by Manage guest entry own blocks few some = (some-ranges (length own.ranges) (some refl), few refl)
counts-by Keep guest entry own blocks few some = tt

ranges-there : (form : Form) (own : Work) → is_no_work form own ≡ false → form ≡ Manage → (length own.ranges == 0) ≡ false
ranges-there (Transfer dest) own some form = cc
ranges-there Clear own some form = cc
ranges-there Manage own some form = some
ranges-there Keep own some form = cc

pub own-counts : (guest : Guest) (entry : List ℕ) (share : Share) (is : IsPlanned guest entry share) → is_no_command share ≡ false
    → HasCount (form_of is.work.opcode) (own_work guest entry share is)
own-counts guest entry share is =
    let part = own-of guest entry share is in
    let there = λ (some : is_no_work (form_of part.own.opcode) part.own ≡ false) (form : form_of is.work.opcode ≡ Manage).
    ranges-there (form_of part.own.opcode) part.own some (ap form_of part.opcode ∙ form) in
    let by = λ (some : is_no_work (form_of part.own.opcode) part.own ≡ false).
    counts-by (form_of is.work.opcode) guest entry part.own part.blocks (ranges-few guest entry share is) (there some) in
    planned-kinds (λ p. is_no_plan p ≡ false → HasCount (form_of is.work.opcode) part.own) guest entry share is by (λ fits. by) by
