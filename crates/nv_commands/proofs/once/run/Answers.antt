use Rattle.std.proofs.Common.{◌≡◌, ◌<◌, ◌+◌, ◌++◌, [], ◌∷◌, length, get_or, take, map, refl, sym, ap, ◌∙◌, arith, rules}
use Rattle.std.proofs.lemmas.List.{get_or-map, length-map, length-replicate, take_more}
use Rattle.nv_once_script.specs.OnceLine.{value_of}
use Rattle.nv_disk.specs.Flat.{Flat}
use Rattle.nv_commands.specs.Once.{HasSizes}
use Rattle.nv_commands.specs.Shown.{AreShown}
use Rattle.nv_commands.proofs.OnceLemmas.{IsThere-in_range}
use Rattle.nv_print.proofs.Growing.{Appends-nothing, Appends-then}
use Rattle.nv_commands.proofs.ShownLemmas.{AreShown-then}
use Rattle.nv_commands.proofs.once.run.Goals as goal

pub loop-line-init : goal.loop-line-init
unfolding AreShown
loop-line-init g c =
    let made = c.in_ok-controller.ensures in
    let sizes : HasSizes (g.C.One.seen c.in_ok-controller.controller) c.args.script.now.memory c.args.script.now.blocks =
    record {
      memory_size = ap (λ (f : Flat). length f.memory) made ∙ length-replicate _ _;
      disk_size = ap (λ (f : Flat). length f.disk) made ∙ length-replicate _ _;
    }
    in
    (sizes, [], Appends-nothing _, (refl, made))

pub run_line-requires : goal.run_line-requires
run_line-requires g c =
    let script = c.args.script.now in
    let at : c.line-item.result ≡ get_or script.lines.items c.loop-line.line-index c.line-item.result = cc in
    let below : c.loop-line.line-index < length script.lines.items = omega (arith, ap length c.deref-line-items.ensures.value) in
    IsThere-in_range (g.C.One.seen c.loop-line.controller) script.memory script.blocks script.lines.items c.loop-line.line-index c.line-item.result c.loop-line.invariant.0 c.requires.lines below at

pub loop-line-preserved : goal.loop-line-preserved
loop-line-preserved g c =
    let script = c.args.script.now in
    let at : c.line-item.result ≡ get_or script.lines.items c.loop-line.line-index c.line-item.result = cc in
    let below : c.loop-line.line-index < length script.lines.items = omega (arith, ap length c.deref-line-items.ensures.value) in
    let named : get_or (map value_of script.lines.items) c.loop-line.line-index (value_of c.line-item.result) ≡ value_of c.line-item.result =
    get_or-map value_of script.lines.items c.loop-line.line-index c.line-item.result (value_of c.line-item.result) below
    ∙ ap value_of (sym at)
    in
    let (sizes, before, grown, lines) = c.loop-line.invariant in
    let (shown, more, line) = c.in_ok-run_line.ensures.ok in
    let front : take (c.loop-line.line-index + 1) (map value_of script.lines.items) ≡ take c.loop-line.line-index (map value_of script.lines.items) ++ value_of c.line-item.result ∷ [] =
    take_more (map value_of script.lines.items) c.loop-line.line-index (value_of c.line-item.result) (simp length-map (omega (arith, below)))
    ∙ ap (λ it. take c.loop-line.line-index (map value_of script.lines.items) ++ it ∷ []) named
    in (
      search rules,
      before ++ shown,
      Appends-then _ _ _ before shown grown more,
      rw front (AreShown-then g.C.One.built _ _ _ _ _ before shown lines line),
    )
