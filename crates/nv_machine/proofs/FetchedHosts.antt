-- Whichever bytes were fetched of a guest's memory, there is a memory of the host that has them there.
use Rattle.std.proofs.Common.{◌≡◌, ℕ, true, List, length, Option, Some, None, sym, ap, ◌∙◌}
use Rattle.std.proofs.lemmas.List.{length-map}
use Rattle.std.specs.List.{AllPairs}
use Rattle.nv_machine.specs.Effects.{hosts_from}
use Rattle.nv_machine.proofs.Hosts.{hosts-read}
use Rattle.nv_mem.proofs.Counts.{AllMapped-tested}
use Rattle.nv_mem.specs.GuestMap.{IsApart, all_mapped, mapped}
use Rattle.nv_mem.specs.declared.region.Region.{Region}
use Rattle.nv_model.specs.Memory.{bytes_from, image, put_image, stored}
use Rattle.nv_model.proofs.MemoryAlike.{bytes_from-mapped}
use Rattle.nv_model.proofs.MemoryLemmas.{bytes_from-stored}
use Rattle.nv_model.proofs.PutImages.{image-put_image}
use Rattle.nv_model.proofs.Shown.{length-bytes_from}
use Rattle.nv_world_model.specs.Geometry.{regions_of}
use Rattle.nv_world_model.specs.Seat.{Owner}

-- a memory without anything
abbrev pub nothing : ℕ → ℕ
nothing addr = 0

-- with bytes from an address of a guest's memory on
unfoldable pub showing : List Region → (addr : ℕ) → (bytes : List ℕ) → ℕ → ℕ
showing rs addr bytes = put_image rs (stored (image rs nothing) addr bytes) nothing

-- of an owner's memory, where there is an owner
abbrev pub showing_to : Option Owner → (addr : ℕ) → (bytes : List ℕ) → ℕ → ℕ
showing_to None addr bytes = nothing
showing_to (Some o) addr bytes = showing (regions_of o.given) addr bytes

-- they are there
shows-them : (rs : List Region) (addr len : ℕ) (bytes : List ℕ) → AllPairs IsApart rs → length bytes ≡ len → all_mapped rs addr len ≡ true
    → bytes ≡ bytes_from (image rs (showing rs addr bytes)) addr len
unfolding showing
shows-them rs addr len bytes apart size there =
    let memory : ℕ → ℕ = stored (image rs nothing) addr bytes in
    sym (bytes_from-stored (image rs nothing) addr bytes)
    ∙ ap (bytes_from memory addr) size
    ∙ bytes_from-mapped (mapped rs) memory (image rs (put_image rs memory nothing)) (λ a is. sym (image-put_image rs memory nothing a apart is)) addr len
    (AllMapped-tested rs addr len there)

pub showing-there : (x : Option Owner) (o : Owner) (addr len : ℕ) (bytes : List ℕ) → x ≡ Some o → AllPairs IsApart (regions_of o.given) → length bytes ≡ len
    → all_mapped (regions_of o.given) addr len ≡ true → bytes ≡ bytes_from (image (regions_of o.given) (showing_to x addr bytes)) addr len
showing-there x o addr len bytes is apart size there =
    shows-them (regions_of o.given) addr len bytes apart size there
    ∙ ap (λ (y : Option Owner). bytes_from (image (regions_of o.given) (showing_to y addr bytes)) addr len) (sym is)

-- as many bytes as addresses
pub hosts-length : (rs : List Region) (addr len : ℕ) → all_mapped rs addr len ≡ true → length (hosts_from rs addr len) ≡ len
hosts-length rs addr len there =
    sym (length-map (hosts_from rs addr len) nothing) ∙ ap length (hosts-read rs addr len nothing there) ∙ length-bytes_from (image rs nothing) addr len
