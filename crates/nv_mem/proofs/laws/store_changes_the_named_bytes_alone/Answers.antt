use Rattle.nv_mem.proofs.Memory.{length-after_store, get_or-after_store, get_or-after_store_other, bytes_at-after_store, bytes_at-after_store_other}
use Rattle.nv_mem.proofs.laws.store_changes_the_named_bytes_alone.Goals as goal

pub returns-clause-length : goal.returns-clause-length
returns-clause-length c = length-after_store

pub returns-clause-named : goal.returns-clause-named
returns-clause-named c = get_or-after_store

pub returns-clause-others : goal.returns-clause-others
returns-clause-others c = λ memory bytes addr at. get_or-after_store_other memory bytes addr at 0

pub returns-clause-read_back : goal.returns-clause-read_back
returns-clause-read_back c = bytes_at-after_store

pub returns-clause-ranges : goal.returns-clause-ranges
returns-clause-ranges c = bytes_at-after_store_other
