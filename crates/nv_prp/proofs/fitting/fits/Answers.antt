use Rattle.std.proofs.Common.{◌+◌, ◌&&◌, Bool, drop, sym, ap, ◌∙◌}
use Rattle.std.specs.List.{list_all}
use Rattle.nv_mem.specs.declared.piece.Piece.TheVariants as piece
use Rattle.nv_prp.specs.Fits.{fit_behind, host_addresses, is_run}
use Rattle.nv_prp.proofs.HostRuns.{and-not, places_fit-bucket, places_fit-none, places_fit-run}
use Rattle.nv_prp.proofs.fitting.fits.Goals as goal

pub returns-in-Bucket : goal.returns-in-Bucket
returns-in-Bucket c =
    sym (c.loop-piece.invariant ∙ places_fit-bucket c.args.map.now.regions c.loop-piece.end c.pieces-piece-items.result.now c.loop-piece.piece-index _ _ c.loop-piece-test.true c.in-Bucket.is)

pub returns-then-not-run_fits : goal.returns-then-not-run_fits
returns-then-not-run_fits c =
    sym (c.loop-piece.invariant
    ∙ places_fit-run
    c.args.map.now.regions c.loop-piece.end c.run_fits.new.end c.pieces-piece-items.result.now c.loop-piece.piece-index (piece.Run 0 0) c.in-Run.addr c.in-Run.len
    c.run_fits.result c.loop-piece-test.true c.in-Run.is c.run_fits.ensures
    ∙ ap
    (λ (b : Bool).
    list_all is_run (drop (c.loop-piece.piece-index + 1) c.pieces-piece-items.result.now)
    && (b && fit_behind c.run_fits.new.end (host_addresses c.args.map.now.regions (drop (c.loop-piece.piece-index + 1) c.pieces-piece-items.result.now))))
    c.if-not-run_fits.true
    ∙ and-not (list_all is_run (drop (c.loop-piece.piece-index + 1) c.pieces-piece-items.result.now)))

pub loop-piece-preserved : goal.loop-piece-preserved
loop-piece-preserved c =
    c.loop-piece.invariant
    ∙ places_fit-run
    c.args.map.now.regions c.loop-piece.end c.run_fits.new.end c.pieces-piece-items.result.now c.loop-piece.piece-index (piece.Run 0 0) c.in-Run.addr c.in-Run.len
    c.run_fits.result c.loop-piece-test.true c.in-Run.is c.run_fits.ensures
    ∙ ap
    (λ (b : Bool).
    list_all is_run (drop (c.loop-piece.piece-index + 1) c.pieces-piece-items.result.now)
    && (b && fit_behind c.run_fits.new.end (host_addresses c.args.map.now.regions (drop (c.loop-piece.piece-index + 1) c.pieces-piece-items.result.now))))
    c.if-not-run_fits.false

pub returns : goal.returns
returns c =
    c.is_some.ensures
    ∙ sym (c.loop-piece.invariant ∙ places_fit-none c.args.map.now.regions c.loop-piece.end c.pieces-piece-items.result.now c.loop-piece.piece-index c.loop-piece-test.false)
