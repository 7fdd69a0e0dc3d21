use Rattle.nv_c.proofs.Cleared.{cleared-err, cleared-ok}
use Rattle.nv_c.specs.Tables.{setup_of}
use Rattle.nv_c.proofs.nvmed_raw_serve.Goals as goal

pub returns-in-Ok-open-clause-cleared : goal.returns-in-Ok-open-clause-cleared
returns-in-Ok-open-clause-cleared c =
    cleared-ok c.in-Ok.setup (setup_of c.args.sizes.now c.args.limits.now c.args.regions.now c.args.extents.now) c.args.memory.now c.open.new.memory
    c.in-Ok.ensures.ok c.in-Ok-open.ensures.rings

pub returns-in-Err-open-clause-cleared : goal.returns-in-Err-open-clause-cleared
returns-in-Err-open-clause-cleared c =
    cleared-err c.in-Ok.setup (setup_of c.args.sizes.now c.args.limits.now c.args.regions.now c.args.extents.now) c.in-Err-open.answer c.args.memory.now
    c.open.new.memory c.in-Ok.ensures.ok c.in-Err-open.ensures.left
