-- A guest's memory in the host: its image, and a memory that is put back.
use Rattle.std.proofs.Common.{◌≡◌, ℕ, ◌+◌, ◌<◌, ◌≤◌, ◌⊎◌, inl, inr, true, false, List, length, Option, Some, None, is_some, arith, refl, ap}
use Rattle.std.proofs.lemmas.Bool.{cases_lt}
use Rattle.std.specs.List.{AllPairs}
use mathlib.Core.Path.{fun_ext}
use Rattle.nv_mem.specs.declared.region.Region.{Region}
use Rattle.nv_mem.specs.GuestMap.{IsApart, guest_of, host_of, mapped, span_met}
use Rattle.nv_mem.proofs.Images.{guest_of-host, host_of-guest}
use Rattle.nv_mem.proofs.Memory.{guest_of-clear, span_met-image}
use Rattle.nv_model.specs.Memory.{byte_at_host, byte_or, bytes_from, image, put_image, stored}
use Rattle.nv_model.proofs.MemoryLemmas.{bytes_from-same, stored-outside}

-- a memory that is put back is the image
pub image-put_image : (rs : List Region) (memory host : ℕ → ℕ) (addr : ℕ) → AllPairs IsApart rs → mapped rs addr ≡ true → image rs (put_image rs memory host) addr ≡ memory addr
unfolding image put_image
image-put_image rs memory host addr apart there =
    (elim (host_of rs addr) as (λ o. host_of rs addr ≡ o → is_some o ≡ true → byte_at_host (λ at. byte_or (host at) memory (guest_of rs at)) o ≡ memory addr) [
      | None ↦ λ e none. cc
      | Some at ↦ λ e some. rw (guest_of-host rs addr at apart e)
    ]) refl there

-- and the other bytes are as they were
pub put_image-elsewhere : (rs : List Region) (memory host : ℕ → ℕ) (at : ℕ) → guest_of rs at ≡ None → put_image rs memory host at ≡ host at
unfolding put_image
put_image-elsewhere rs memory host at outside = rw outside

-- ---- the guest's memory

-- the byte of an address that is mapped
pub image-mapped : (rs : List Region) (m : ℕ → ℕ) (addr at : ℕ) → host_of rs addr ≡ Some at → image rs m addr ≡ m at
unfolding image
image-mapped rs m addr at is = ap (byte_at_host m) is

-- no address of the guest's memory lies in a span that meets no region
outside-clear : (rs : List Region) (slot len addr at : ℕ) → span_met rs slot len ≡ false → host_of rs addr ≡ Some at → (at < slot) ⊎ (slot + len ≤ at)
outside-clear rs slot len addr at clear is =
    elim (cases_lt at slot) [
      | inl low ↦ inl low
      | inr from ↦ elim (cases_lt at (slot + len)) [
        | inl within ↦ absurd (span_met-image rs slot len at clear (addr, is) from within)
        | inr high ↦ inr high
      ]
    ]

-- what is stored in such a span changes nothing of the guest's memory, at each address
image-stored_clear_at : (rs : List Region) (m : ℕ → ℕ) (slot : ℕ) (bytes : List ℕ) (addr : ℕ) → span_met rs slot (length bytes) ≡ false
    → image rs (stored m slot bytes) addr ≡ image rs m addr
unfolding image
image-stored_clear_at rs m slot bytes addr clear =
    (elim (host_of rs addr) as (λ o. host_of rs addr ≡ o → byte_at_host (stored m slot bytes) o ≡ byte_at_host m o) [
      | None ↦ λ is. refl
      | Some at ↦ λ is. stored-outside m slot bytes at (outside-clear rs slot (length bytes) addr at clear is)
    ]) refl

pub image-stored_clear : (rs : List Region) (m : ℕ → ℕ) (slot : ℕ) (bytes : List ℕ) → span_met rs slot (length bytes) ≡ false
    → image rs (stored m slot bytes) ≡ image rs m
image-stored_clear rs m slot bytes clear = fun_ext (λ addr. image-stored_clear_at rs m slot bytes addr clear)

-- ---- a memory that is put back twice

-- the address of a byte that is put back is mapped
mapped-guest : (rs : List Region) (at addr : ℕ) → AllPairs IsApart rs → guest_of rs at ≡ Some addr → mapped rs addr ≡ true
mapped-guest rs at addr apart is = ap (λ (o : Option ℕ). is_some o) (host_of-guest rs at addr apart is)

-- the second memory alone counts, and that only where it is mapped
pub put_image-twice : (rs : List Region) (first second same host : ℕ → ℕ) → AllPairs IsApart rs → ((addr : ℕ) → mapped rs addr ≡ true → second addr ≡ same addr)
    → put_image rs second (put_image rs first host) ≡ put_image rs same host
unfolding put_image
put_image-twice rs first second same host apart each = fun_ext (λ at.
    (elim (guest_of rs at) as (λ o. guest_of rs at ≡ o → byte_or (byte_or (host at) first o) second o ≡ byte_or (host at) same o) [
      | None ↦ λ is. refl
      | Some addr ↦ λ is. each addr (mapped-guest rs at addr apart is)
    ]) refl)

-- what is put back as it was changes nothing
pub put_image-own : (rs : List Region) (m : ℕ → ℕ) → AllPairs IsApart rs → put_image rs (image rs m) m ≡ m
unfolding put_image
put_image-own rs m apart = fun_ext (λ at.
    (elim (guest_of rs at) as (λ o. guest_of rs at ≡ o → byte_or (m at) (image rs m) o ≡ m at) [
      | None ↦ λ is. refl
      | Some addr ↦ λ is. image-mapped rs m addr at (host_of-guest rs at addr apart is)
    ]) refl)

-- the bytes of a span that meets no region stay
pub bytes_from-put_image : (rs : List Region) (memory m : ℕ → ℕ) (slot len : ℕ) → span_met rs slot len ≡ false → bytes_from (put_image rs memory m) slot len ≡ bytes_from m slot len
bytes_from-put_image rs memory m slot len clear =
    bytes_from-same (put_image rs memory m) m slot slot len
    (λ i below. put_image-elsewhere rs memory m (slot + i) (guest_of-clear rs slot len (slot + i) clear (omega arith) (omega arith)))
