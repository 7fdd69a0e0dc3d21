-- Bytes of a guest's memory where they lie in the host.
use Rattle.std.proofs.Common.{◌≡◌, ℕ, zero, suc, ◌+◌, ◌-◌, ◌<◌, true, List, [], ◌∷◌, ◌++◌, All, drop, map, slice_index}
use Rattle.std.proofs.Common.{take, Option, Some, None, is_some}
use Rattle.std.proofs.Common.{option_to_list, arith, refl, sym, ap, ◌∙◌, inl, inr}
use Rattle.std.specs.List.{AllPairs, list_all}
use Rattle.std.proofs.lemmas.Bool.{cases_eq}
use Rattle.std.proofs.lemmas.Bool.Decides.{nat_tests}
use Rattle.std.proofs.lemmas.List.Elements.{All-head, All-tail}
use mathlib.Core.Path.{fun_ext}
use Rattle.nv_mem.specs.GuestMap.{IsApart, guest_of, host_of, mapped}
use Rattle.nv_mem.specs.Places.{At, Bucket, Place, addresses, places_of}
use Rattle.nv_mem.specs.declared.piece.Piece.{Piece}
use Rattle.nv_mem.specs.declared.piece.Piece.TheVariants as piece
use Rattle.nv_mem.specs.declared.region.Region.{Region}
use Rattle.nv_mem.proofs.Images.{guest_of-host}
use Rattle.nv_model.specs.Laws.{IsMappedPiece}
use Rattle.nv_model.specs.Memory.{byte_at_host, gathered, image, scattered, stored}
use Rattle.nv_model.proofs.Judged.{everywhere-at}
use Rattle.nv_model.proofs.MemoryLemmas.{stored-inside}
use Rattle.nv_model.proofs.PutImages.{image-mapped}
use Rattle.nv_prp.specs.Fits.{host_addresses, hosts_of, is_run}
use Rattle.nv_prp.proofs.HostRuns.{hosts_of-append}
use Rattle.nv_laws.specs.Places.{LieAt}

-- ---- one byte

-- a byte that is stored is there, and all others are as they were
pub stored-here : (memory : ℕ → ℕ) (addr byte : ℕ) → stored memory addr (byte ∷ []) addr ≡ byte
stored-here memory addr byte =
    let none : addr - addr ≡ 0 = omega arith in
    stored-inside memory addr (byte ∷ []) addr (omega arith) (omega arith) ∙ ap (slice_index (byte ∷ [])) none

pub stored-there : (memory : ℕ → ℕ) (addr byte at : ℕ) → (addr ≡ at → ⊥) → stored memory addr (byte ∷ []) at ≡ memory at
unfolding stored
stored-there memory addr byte at other = grind (arith, nat_tests)

-- ---- where places lie

lie-append : (regions : List Region) (places more : List Place) (hosts others : List ℕ) → LieAt regions places hosts → LieAt regions more others
    → LieAt regions (places ++ more) (hosts ++ others)
lie-append regions [] more [] others lie also = also
lie-append regions [] more (host ∷ hosts) others lie also = absurd lie
lie-append regions (At addr ∷ places) more [] others lie also = absurd lie
lie-append regions (Bucket ∷ places) more [] others lie also = absurd lie
lie-append regions (At addr ∷ places) more (host ∷ hosts) others lie also = (lie.0, lie-append regions places more hosts others lie.1 also)
lie-append regions (Bucket ∷ places) more (host ∷ hosts) others lie also = absurd lie

pub lie-drop : (regions : List Region) (n : ℕ) (places : List Place) (hosts : List ℕ) → LieAt regions places hosts → LieAt regions (drop n places) (drop n hosts)
lie-drop regions zero places hosts lie = lie
lie-drop regions (suc n) [] [] lie = tt
lie-drop regions (suc n) [] (host ∷ hosts) lie = absurd lie
lie-drop regions (suc n) (At addr ∷ places) [] lie = absurd lie
lie-drop regions (suc n) (Bucket ∷ places) [] lie = absurd lie
lie-drop regions (suc n) (At addr ∷ places) (host ∷ hosts) lie = lie-drop regions n places hosts lie.1
lie-drop regions (suc n) (Bucket ∷ places) (host ∷ hosts) lie = absurd lie

pub lie-take : (regions : List Region) (n : ℕ) (places : List Place) (hosts : List ℕ) → LieAt regions places hosts → LieAt regions (take n places) (take n hosts)
lie-take regions zero places hosts lie = tt
lie-take regions (suc n) [] [] lie = tt
lie-take regions (suc n) [] (host ∷ hosts) lie = absurd lie
lie-take regions (suc n) (At addr ∷ places) [] lie = absurd lie
lie-take regions (suc n) (Bucket ∷ places) [] lie = absurd lie
lie-take regions (suc n) (At addr ∷ places) (host ∷ hosts) lie = (lie.0, lie-take regions n places hosts lie.1)
lie-take regions (suc n) (Bucket ∷ places) (host ∷ hosts) lie = absurd lie

lie-one : (regions : List Region) (addr : ℕ) (places : List Place) (hosts : List ℕ) (found : Option ℕ) → host_of regions addr ≡ found → is_some found ≡ true
    → LieAt regions places hosts → LieAt regions (At addr ∷ places) (option_to_list found ++ hosts)
lie-one regions addr places hosts None is there lie = cc
lie-one regions addr places hosts (Some host) is there lie = (is, lie)

lie-run : (regions : List Region) (len addr : ℕ) → ((i : ℕ) → i < len → mapped regions (addr + i) ≡ true)
    → LieAt regions (addresses addr len) (hosts_of regions (addresses addr len))
unfolding addresses hosts_of
lie-run regions zero addr each = tt
lie-run regions (suc len) addr each =
    let here : addr ≡ addr + 0 = omega arith in
    lie-one regions addr (addresses (addr + 1) len) (hosts_of regions (addresses (addr + 1) len)) (host_of regions addr) refl
    (ap (mapped regions) here ∙ each 0 (omega arith))
    (lie-run regions len (addr + 1) (λ i below. (let next : addr + 1 + i ≡ addr + suc i = omega arith in ap (mapped regions) next ∙ each (suc i) (omega (arith, below)))))

-- the places that runs of mapped bytes name lie at their host addresses
pub lie-pieces : (regions : List Region) (pieces : List Piece) → All (IsMappedPiece (mapped regions)) pieces → list_all is_run pieces ≡ true
    → LieAt regions (places_of pieces) (host_addresses regions pieces)
unfolding hosts_of
lie-pieces regions [] each runs = tt
lie-pieces regions (piece.Run addr len ∷ pieces) each runs =
    let all = All-head (IsMappedPiece (mapped regions)) (piece.Run addr len) pieces each in
    let rest = lie-pieces regions pieces (All-tail (IsMappedPiece (mapped regions)) (piece.Run addr len) pieces each) runs in
    (rw (hosts_of-append regions (addresses addr len) (places_of pieces))
    (lie-append regions (addresses addr len) (places_of pieces) (hosts_of regions (addresses addr len)) (host_addresses regions pieces)
    (lie-run regions len addr (λ i below. everywhere-at (mapped regions) addr len i all below)) rest))
lie-pieces regions (piece.Bucket len ∷ pieces) each runs = cc

-- ---- what is read there

-- what is gathered from places is what the host has where they lie
pub gathered-lie : (regions : List Region) (host : ℕ → ℕ) (places : List Place) (hosts : List ℕ) → LieAt regions places hosts
    → gathered (image regions host) places ≡ gathered host (map At hosts)
unfolding gathered
gathered-lie regions host [] [] lie = refl
gathered-lie regions host [] (at ∷ hosts) lie = absurd lie
gathered-lie regions host (At addr ∷ places) [] lie = absurd lie
gathered-lie regions host (Bucket ∷ places) [] lie = absurd lie
gathered-lie regions host (At addr ∷ places) (at ∷ hosts) lie =
    let first = image-mapped regions host addr at lie.0 in
    let rest = gathered-lie regions host places hosts lie.1 in
    rw (first, rest) refl
gathered-lie regions host (Bucket ∷ places) (at ∷ hosts) lie = absurd lie

-- ---- what is written there

-- a byte that is stored where an address lies is stored at that address of the guest's memory
image-stored_at : (regions : List Region) (host : ℕ → ℕ) (addr at byte x : ℕ) → AllPairs IsApart regions → host_of regions addr ≡ Some at
    → image regions (stored host at (byte ∷ [])) x ≡ stored (image regions host) addr (byte ∷ []) x
unfolding image
image-stored_at regions host addr at byte x apart lies =
    elim (cases_eq addr x) [
      | inl same ↦
          ap (image regions (stored host at (byte ∷ []))) (sym same) ∙ image-mapped regions (stored host at (byte ∷ [])) addr at lies ∙ stored-here host at byte
          ∙ sym (ap (stored (image regions host) addr (byte ∷ [])) (sym same) ∙ stored-here (image regions host) addr byte)
      | inr other ↦ elsewhere other (host_of regions x) refl ∙ sym (stored-there (image regions host) addr byte x other)
    ]
  where
    elsewhere : (addr ≡ x → ⊥) → (found : Option ℕ) → host_of regions x ≡ found → image regions (stored host at (byte ∷ [])) x ≡ image regions host x
    elsewhere other None is = ap (byte_at_host (stored host at (byte ∷ []))) is ∙ sym (ap (byte_at_host host) is)
    elsewhere other (Some there) is =
        ap (byte_at_host (stored host at (byte ∷ []))) is
        ∙ stored-there host at byte there (λ same.
        (let one = guest_of-host regions addr at apart lies in
        let two = guest_of-host regions x there apart is in
        let both : Some addr ≡ Some x = sym one ∙ ap (guest_of regions) same ∙ two in
        other (some-same both)))
        ∙ sym (ap (byte_at_host host) is)
      where
        some-same : Some addr ≡ Some x → addr ≡ x
        some-same e = cc

-- so bytes that are scattered to where places lie are scattered to those places of the guest's memory
pub image-scattered : (regions : List Region) → AllPairs IsApart regions → (host : ℕ → ℕ) (places : List Place) (hosts bytes : List ℕ) → LieAt regions places hosts
    → image regions (scattered host (map At hosts) bytes) ≡ scattered (image regions host) places bytes
unfolding scattered
image-scattered regions apart host [] [] bytes lie = refl
image-scattered regions apart host [] (at ∷ hosts) bytes lie = absurd lie
image-scattered regions apart host (At addr ∷ places) [] bytes lie = absurd lie
image-scattered regions apart host (Bucket ∷ places) [] bytes lie = absurd lie
image-scattered regions apart host (At addr ∷ places) (at ∷ hosts) [] lie = refl
image-scattered regions apart host (At addr ∷ places) (at ∷ hosts) (byte ∷ bytes) lie =
    image-scattered regions apart (stored host at (byte ∷ [])) places hosts bytes lie.1
    ∙ ap (λ m. scattered m places bytes) (fun_ext (λ x. image-stored_at regions host addr at byte x apart lie.0))
image-scattered regions apart host (Bucket ∷ places) (at ∷ hosts) bytes lie = absurd lie

-- where the host's bytes of a guest's memory are the same, so is the guest's memory
pub image-same : (regions : List Region) (host now : ℕ → ℕ) → ((addr at : ℕ) → host_of regions addr ≡ Some at → now at ≡ host at)
    → image regions now ≡ image regions host
unfolding image
image-same regions host now each = fun_ext (λ addr. by_found addr (host_of regions addr) refl)
  where
    by_found : (addr : ℕ) (found : Option ℕ) → host_of regions addr ≡ found → byte_at_host now found ≡ byte_at_host host found
    by_found addr None is = refl
    by_found addr (Some at) is = each addr at is
