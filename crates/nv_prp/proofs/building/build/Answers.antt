use Rattle.std.proofs.Common.{◌≤◌, length, arith, ap, ◌∙◌}
use Rattle.std.specs.List.{list_all}
use Rattle.nv_mem.specs.declared.piece.Piece.TheVariants as piece
use Rattle.nv_prp.specs.Fits.{fit_prp, host_addresses, is_run}
use Rattle.nv_prp.specs.Met.{prps_met}
use Rattle.nv_prp.proofs.Builds.{met-bucket, Pieces-end, Pieces-next, Pieces-room, prps_met-built}
use Rattle.nv_prp.proofs.HostRuns.{length-host_addresses}
use Rattle.nv_prp.proofs.Pages.{both}
use Rattle.nv_prp.proofs.building.build.Goals as goal
use Rattle.nv_prp.proofs.building.build.Goals.{in-Run, in-Bucket}

pub add_run-requires-clause-room : goal.add_run-requires-clause-room
add_run-requires-clause-room c =
    let hosts = length-host_addresses c.args.map.now.regions c.args.places.now in
    let most : length (host_addresses c.args.map.now.regions c.args.places.now) ≤ 131072 = let most = c.requires.most in omega arith in
    let fit = both (list_all is_run c.args.places.now) (fit_prp (host_addresses c.args.map.now.regions c.args.places.now)) c.requires.fit in
    Pieces-room
    c.args.map.now.regions c.args.places.now c.loop-piece.piece-index (host_addresses c.args.map.now.regions c.args.places.now) c.loop-piece.met (piece.Run 0 0)
    (piece.Run c.in-Run.addr c.in-Run.len) c.loop-piece.invariant c.loop-piece-test.true c.in-Run.is fit.1 most

pub loop-piece-preserved : goal.loop-piece-preserved
loop-piece-preserved c =
    elim c.match-piece.branch [
      | in-Run w ↦
          Pieces-next
          c.args.map.now.regions c.args.places.now c.loop-piece.piece-index (host_addresses c.args.map.now.regions c.args.places.now) c.loop-piece.met c.match-piece.met
          (piece.Run 0 0) (piece.Run w.in-Run.addr w.in-Run.len) c.loop-piece.invariant c.loop-piece-test.true w.in-Run.is (w.met-is ∙ w.add_run.ensures)
      | in-Bucket w ↦
          Pieces-next
          c.args.map.now.regions c.args.places.now c.loop-piece.piece-index (host_addresses c.args.map.now.regions c.args.places.now) c.loop-piece.met c.match-piece.met
          (piece.Run 0 0) (piece.Bucket w.in-Bucket.len) c.loop-piece.invariant c.loop-piece-test.true w.in-Bucket.is
          (w.met-is ∙ met-bucket c.args.map.now.regions c.loop-piece.met w.in-Bucket.len)
    ]

pub returns : goal.returns
returns c =
    c.prps.ensures
    ∙ ap (prps_met c.args.list_page)
    (Pieces-end
    c.args.map.now.regions c.args.places.now c.loop-piece.piece-index (host_addresses c.args.map.now.regions c.args.places.now) c.loop-piece.met c.loop-piece.invariant
    c.loop-piece-test.false)
    ∙ prps_met-built c.args.list_page (host_addresses c.args.map.now.regions c.args.places.now)
