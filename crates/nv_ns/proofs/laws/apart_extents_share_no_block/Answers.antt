use Rattle.nv_ns.proofs.Apart.{count-one, count-some, place_in-apart}
use Rattle.nv_ns.proofs.laws.apart_extents_share_no_block.Goals as goal

pub returns-clause-inside : goal.returns-clause-inside
returns-clause-inside c = λ ns lba below. count-some ns lba below

pub returns-clause-one : goal.returns-clause-one
returns-clause-one c = λ ns lba apart below. count-one ns lba apart below

pub returns-clause-apart : goal.returns-clause-apart
returns-clause-apart c = λ ns lba other apart below under same. place_in-apart ns lba other apart below under same
