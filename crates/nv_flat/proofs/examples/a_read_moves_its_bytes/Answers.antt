use Rattle.std.proofs.Common.{◌≡◌, ℕ, arith}
use Rattle.nv_flat.specs.Examples.{block_read_elsewhere, block_read_in_part, small}
use Rattle.nv_flat.proofs.ExampleLemmas.{bytes-of-read}
use Rattle.nv_flat.proofs.examples.a_read_moves_its_bytes.Goals as goal

pub returns-clause-nothing : goal.returns-clause-nothing
returns-clause-nothing c st run =
    (let bad : ◌≡◌ {A = ℕ} 0x22 0x44 = bytes-of-read st small run 512 in absurd (omega arith))

pub returns-clause-elsewhere : goal.returns-clause-elsewhere
returns-clause-elsewhere c st run =
    (let bad : ◌≡◌ {A = ℕ} 0x44 0x11 = bytes-of-read st block_read_elsewhere run 0 in absurd (omega arith))

pub returns-clause-in_part : goal.returns-clause-in_part
returns-clause-in_part c st run =
    (let bad : ◌≡◌ {A = ℕ} 0x22 0x44 = bytes-of-read st block_read_in_part run 1023 in absurd (omega arith))
