use Rattle.std.proofs.Common.{refl, ap, ◌∙◌}
use Rattle.nv_mem.specs.Places.{places_of}
use Rattle.nv_mem.proofs.PlaceLists.{length-places_of}
use Rattle.nv_model.specs.Memory.{bytes_from}
use Rattle.nv_world_model.specs.Plan.{Bounced}
use Rattle.nv_laws.proofs.units.Delivery.{source-block}
use Rattle.nv_laws.proofs.units.Imaged.{bounced-source}
use Rattle.nv_laws.proofs.laws.units.delivering.a_bounced_source_stands_in_its_pages.Goals as goal

pub returns-clause-part : goal.returns-clause-part
returns-clause-part c memory host work bounce unit stands within =
    source-block memory host (places_of work.pieces) bounce unit
    (ap (bytes_from host bounce) (length-places_of work.pieces) ∙ stands) (rw (length-places_of work.pieces) within)

pub returns-clause-looked_at : goal.returns-clause-looked_at
returns-clause-looked_at c guest work host bounce unit within = bounced-source guest work (Bounced work) host bounce unit refl within
