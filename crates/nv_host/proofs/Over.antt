-- A lane that was closed, by its tags.
use Rattle.std.proofs.Common.{◌≡◌, ℕ, ◌≤◌, false, List, slice_get, Option, Some, None, arith, refl, sym, ap, ◌∙◌}
use Rattle.std.proofs.lemmas.Option.{slice_get_past}
use Rattle.std.specs.Option.{option_map}
use Rattle.nv_laws_sound.specs.Side.{Side}
use Rattle.nv_core.specs.Jobs.{job_in}
use Rattle.nv_core.specs.Reaping.{answer_of, waits_in}
use Rattle.nv_core.specs.Tags.{is_flying}
use Rattle.nv_host.specs.Closing.{AreDone, IsOver, over}
use Rattle.nv_host.specs.Served.{IsServed, Served}
use Rattle.nv_model.specs.declared.reply.Reply.TheVariants as reply
use Rattle.nv_world_model.specs.Geometry.{Geometry}
use Rattle.nv_world_model.specs.World.{Lane, tag_in}

-- ---- no such lane

pub absent : (h o : Served) → h ≡ o → IsServed h → (lane : ℕ) → h.setup.lanes ≤ lane → slice_get o.side.lanes lane ≡ None
absent h o view is lane past =
    ap (λ (x : Served). slice_get x.side.lanes lane) (sym view)
    ∙ slice_get_past h.side.lanes lane (let many = is.lanes in omega (arith, many, past))

module _ (geometry : Geometry) (lane : ℕ) (side : Side) where
  pub absent-over : (memory : List ℕ) → slice_get side.lanes lane ≡ None → IsOver geometry lane memory side side
  absent-over memory none =
      record {
        read = side;
        drained = record {
          count = 0;
          reads = refl;
          last = (λ told. (let bad : Some reply.Ignored ≡ Some reply.Done = sym (ap (λ (o : Option Lane). answer_of geometry lane o memory) none) ∙ told in cc));
        };
        each = (λ tag.
            ap (λ (o : Option Lane). tag_in o tag) none
            ∙ sym (ap (λ (o : Option Lane). option_map (over tag) (tag_in o tag)) none));
      }

  pub absent-done : slice_get side.lanes lane ≡ None → AreDone lane side
  absent-done none tag =
      (ap (λ (o : Option Lane). is_flying (tag_in o tag)) none, ap (λ (o : Option Lane). job_in lane tag (tag_in o tag)) none)

  pub absent-idle : (memory : List ℕ) → slice_get side.lanes lane ≡ None → waits_in geometry lane (slice_get side.lanes lane) memory ≡ false
  absent-idle memory none = ap (λ (o : Option Lane). waits_in geometry lane o memory) none
