use Rattle.std.proofs.Common.{◌≡◌, length, sym, ap, subst, ◌∙◌}
use Rattle.nv_model.specs.Memory.{byte_in, bytes_from}
use Rattle.nv_model.specs.Transcript.{fed}
use Rattle.nv_prp.specs.Parse.{dialogue_of}
use Rattle.nv_prp.proofs.Shown.{in_memory-fed}
use Rattle.nv_flat.specs.Flat.{identity_map}
use Rattle.nv_disk.specs.Flat.{Flat}
use Rattle.nv_flat.specs.Listed.{IsPartThere, refusal_of_reading}
use Rattle.nv_flat.proofs.ListLemmas.{IsReading-more, IsReading-there, reading-done, reading-fault, IsReading-start_prp}
use Rattle.nv_flat.proofs.controller.FlatController.read_prp.Goals as goal

pub loop-part-init : goal.loop-part-init
loop-part-init c =
    let map : c.self.inside.map ≡ identity_map (length c.args.self.now.memory) =
    c.self.invariant.mapped ∙ ap (λ (f : Flat). identity_map (length f.memory)) c.self.view_is in
    IsReading-start_prp c.args.self.now c.args.sqe.now c.args.need (dialogue_of c.new-parse.result) c.self.inside.map c.prp1.result c.prp2.result c.from.result
    c.new-parse.ensures.dialogue map c.prp1.ensures c.prp2.ensures c.from.ensures c.requires.most

pub feed_prp-requires-clause-there : goal.feed_prp-requires-clause-there
feed_prp-requires-clause-there c =
    let M : Flat → Type 0 = λ f. IsPartThere f.memory c.in-Read.addr c.in-Read.len in
    subst M (sym c.self.view_is) (IsReading-there c.args.self.now _ c.loop-part._part (dialogue_of c.loop-part.parse) c.in-Read.addr c.in-Read.len c.loop-part.invariant (sym c.in-Read.ensures.value))

pub loop-part-preserved : goal.loop-part-preserved
loop-part-preserved c =
    IsReading-more c.args.self.now _ c.loop-part._part (dialogue_of c.loop-part.parse) (dialogue_of c.feed_prp.new.parse) c.in-Read.addr c.in-Read.len
    c.loop-part.invariant (sym c.in-Read.ensures.value)
    (c.feed_prp.ensures
    ∙ ap (λ (f : Flat). fed (dialogue_of c.loop-part.parse) (bytes_from (byte_in f.memory) c.in-Read.addr c.in-Read.len)) c.self.view_is)
    (in_memory-fed (byte_in c.args.self.now.memory) c.loop-part.parse c.in-Read.addr c.in-Read.len (sym c.in-Read.ensures.value))

pub returns-in-Done : goal.returns-in-Done
returns-in-Done c =
    sym c.loop-part.invariant.ends ∙ reading-done (byte_in c.args.self.now.memory) _ _ c.in_ok-places-in-Done.ensures

pub returns-in-Fault : goal.returns-in-Fault
returns-in-Fault c =
    ap refusal_of_reading (sym c.loop-part.invariant.ends)
    ∙ reading-fault (byte_in c.args.self.now.memory) _ c.in-Fault.status (sym c.in-Fault.ensures.value)
