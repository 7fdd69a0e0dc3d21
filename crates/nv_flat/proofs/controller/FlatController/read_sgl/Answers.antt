use Rattle.std.proofs.Common.{◌≡◌, Some, length, sym, ap, subst, ◌∙◌}
use Rattle.nv_model.specs.Memory.{byte_in, bytes_from}
use Rattle.nv_model.specs.Transcript.{fed}
use Rattle.nv_sgl.specs.Parse.{reading_of}
use Rattle.nv_sgl.proofs.Shown.{in_memory-fed_naming}
use Rattle.nv_flat.specs.Flat.{identity_map}
use Rattle.nv_disk.specs.Flat.{Flat}
use Rattle.nv_flat.specs.Listed.{IsPartThere, refusal_of_reading}
use Rattle.nv_flat.proofs.ListLemmas.{IsReading-more, IsReading-there, reading-done, reading-fault, reading-too_long, IsReading-start_sgl}
use Rattle.nv_flat.proofs.controller.FlatController.read_sgl.Goals as goal

pub loop-part-init : goal.loop-part-init
loop-part-init c =
    let map : c.self.inside.map ≡ identity_map (length c.args.self.now.memory) =
    c.self.invariant.mapped ∙ ap (λ (f : Flat). identity_map (length f.memory)) c.self.view_is in
    IsReading-start_sgl c.args.self.now c.args.sqe.now c.args.need (reading_of c.in_ok-parse.parse) c.self.inside.map c.sgl.result c.from.result
    c.in_ok-parse.ensures map c.sgl.ensures c.from.ensures

pub feed_sgl-requires-clause-there : goal.feed_sgl-requires-clause-there
feed_sgl-requires-clause-there c =
    let M : Flat → Type 0 = λ f. IsPartThere f.memory c.in-Read.addr c.in-Read.len in
    subst M (sym c.self.view_is) (IsReading-there c.args.self.now _ c.loop-part._part (reading_of c.loop-part.parse) c.in-Read.addr c.in-Read.len c.loop-part.invariant (sym c.in-Read.ensures))

pub loop-part-preserved : goal.loop-part-preserved
loop-part-preserved c =
    IsReading-more c.args.self.now _ c.loop-part._part (reading_of c.loop-part.parse) (reading_of c.in_ok-parse-in-Read.parse) c.in-Read.addr c.in-Read.len
    c.loop-part.invariant (sym c.in-Read.ensures)
    (c.in_ok-parse-in-Read.ensures
    ∙ ap (λ (f : Flat). fed (reading_of c.loop-part.parse) (bytes_from (byte_in f.memory) c.in-Read.addr c.in-Read.len)) c.self.view_is)
    (in_memory-fed_naming (byte_in c.args.self.now.memory) c.loop-part.parse c.in-Read.addr c.in-Read.len (sym c.in-Read.ensures))

pub returns-in-Done : goal.returns-in-Done
returns-in-Done c =
    sym c.loop-part.invariant.ends ∙ reading-done (byte_in c.args.self.now.memory) _ _ c.into_places.ensures

pub returns-in-Fault : goal.returns-in-Fault
returns-in-Fault c =
    ap refusal_of_reading (sym c.loop-part.invariant.ends)
    ∙ reading-fault (byte_in c.args.self.now.memory) _ c.in-Fault.status (sym c.in-Fault.ensures)

pub returns-in-TooLong : goal.returns-in-TooLong
returns-in-TooLong c =
    ap refusal_of_reading (sym c.loop-part.invariant.ends)
    ∙ reading-too_long (byte_in c.args.self.now.memory) _ (sym c.in-TooLong.ensures)
    ∙ ap Some (sym c.status.ensures)
