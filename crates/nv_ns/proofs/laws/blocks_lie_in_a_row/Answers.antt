use Rattle.std.proofs.Common.{[], arith}
use Rattle.nv_ns.proofs.Spelled.{place_in-here, place_in-row}
use Rattle.nv_ns.proofs.laws.blocks_lie_in_a_row.Goals as goal

pub returns-clause-row : goal.returns-clause-row
returns-clause-row c = λ front rest extent i below. place_in-row front extent rest i below

pub returns-clause-inside : goal.returns-clause-inside
returns-clause-inside c = λ extent lba below. (let place = place_in-here extent [] lba below in (omega arith, omega arith))

pub returns-clause-apart : goal.returns-clause-apart
returns-clause-apart c = λ extent lba other below under same.
    (let here = place_in-here extent [] lba below in
    let there = place_in-here extent [] other under in omega arith)
