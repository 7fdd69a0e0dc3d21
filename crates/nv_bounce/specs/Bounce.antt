-- Bytes that are copied between a guest's places and a slot of the host, `slot` being the host address of its first byte. NVM Express
-- knows no such copies: they are the mediator's own, so all of this file is profile.
use Rattle.std.specs.Prelude.{◌≡◌, ℕ, List, length}
use Rattle.std.specs.Bool.{⊤}
use Rattle.nv_mem.specs.Places.{Place}
use Rattle.nv_mem.specs.declared.piece.Piece.{Piece}
use Rattle.nv_mem.specs.declared.piece.Piece.TheVariants as piece
use Rattle.nv_mem.specs.declared.region.Region.{Region}
use Rattle.nv_model.specs.Memory.{bytes_from, gathered, image, put_image, scattered, stored}

-- each place that the piece names is an address: it names no bucket
abbrev pub NamesNoBucket : Piece → Type 0
NamesNoBucket (piece.Run addr len) = ⊤
NamesNoBucket (piece.Bucket len) = len ≡ 0

-- the host's bytes with those at the guest's places copied to the slot, in order
abbrev pub gathered_to : List Region → List Place → (slot : ℕ) → (host : ℕ → ℕ) → ℕ → ℕ
gathered_to regions places slot host = stored host slot (gathered (image regions host) places)

-- the host's bytes with as many bytes of the slot as there are places copied to these, in order: a bucket discards its byte, and an
-- address named twice keeps the last
abbrev pub scattered_from : List Region → List Place → (slot : ℕ) → (host : ℕ → ℕ) → ℕ → ℕ
scattered_from regions places slot host =
    put_image regions (scattered (image regions host) places (bytes_from host slot (length places))) host
