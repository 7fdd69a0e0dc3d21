use Rattle.nv_flat.specs.Examples.{block_written_and_kept, small}
use Rattle.nv_flat.proofs.ExampleLemmas.{blocks-of-write, marks-of-write}
use Rattle.nv_flat.proofs.examples.a_write_writes_block_and_mark.Goals as goal

pub returns-clause-nothing : goal.returns-clause-nothing
returns-clause-nothing c st run = (let bad = blocks-of-write st small run 0 0 in (cc))

pub returns-clause-kept : goal.returns-clause-kept
returns-clause-kept c st run = (let bad = marks-of-write st block_written_and_kept run 0 in (cc))
