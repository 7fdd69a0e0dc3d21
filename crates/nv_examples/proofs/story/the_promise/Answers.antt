use Rattle.std.proofs.Common.{◌≡◌, ℕ, zero, suc, ◌<◌, true, List, Option, Some, None, is_some, refl, ap, sym, ◌∙◌, arith}
use Rattle.std.proofs.lemmas.Bool.Decides.{nat_tests}
use Rattle.nv_mem.specs.GuestMap.{mapped}
use Rattle.nv_ns.specs.Extents.{place_in}
use Rattle.nv_model.specs.Controller.{Controller}
use Rattle.nv_model.specs.Private.{Run, Step, run_of, start}
use Rattle.nv_world_model.specs.Geometry.{regions_of, shape_of}
use Rattle.nv_examples.specs.Stepping.{behind_run, seen_along}
use Rattle.nv_world_model.specs.PrivateSteps.{private_steps}
use Rattle.nv_examples.specs.Guests.{first, opened, set_up}
use Rattle.nv_examples.specs.Story.{story}
use Rattle.nv_examples.specs.StoryRun.{story_end, story_private, story_run}
use Rattle.nv_examples.proofs.Blank.{to-blank}
use Rattle.nv_examples.proofs.StoryEnd.{same-memory}
use Rattle.nv_examples.proofs.StoryFacts.{block-0, block-1, can-be-made, controller-private, controller-world, disk-2, disk-3, disk_marks, marks, seen-logged, the-steps}
use Rattle.nv_examples.proofs.story.the_promise.Goals as goal

-- a run that can be made is the one to its end
run-is : (o : Option Run) → is_some o ≡ true → o ≡ Some (record { state = behind_run o; seen = seen_along o })
run-is None e = absurd (cc)
run-is (Some run) e = refl

-- an address that is mapped
inside : (addr : ℕ) → mapped (regions_of first) addr ≡ true → addr < 0x4000
inside addr there = grind (arith, nat_tests, there)

-- each byte of both blocks
blocks : (lba offset : ℕ) → lba < 2 → story_private.disk lba offset ≡ story_end.disk (place_in first.namespace lba) offset
blocks zero offset h = block-0 offset ∙ sym (disk-2 offset)
blocks (suc zero) offset h = block-1 offset ∙ sym (disk-3 offset)
blocks (suc (suc lba)) offset h = absurd (omega arith)

-- and the mark of each
kept : (lba : ℕ) → lba < 2 → story_private.kept lba ≡ story_end.kept (place_in first.namespace lba)
kept zero h = marks 0 h ∙ sym (disk_marks 0 h)
kept (suc zero) h = marks 1 h ∙ sym (disk_marks 1 h)
kept (suc (suc lba)) h = absurd (omega arith)

pub returns : goal.returns
returns c =
    record {
      run = record { state = story_private; seen = seen_along story_run };
      runs =
          to-blank first set_up.geometry set_up.lanes (private_steps set_up.geometry 0 first story opened)
          ∙ ap (λ (ss : List Step). run_of (shape_of first) ss start) the-steps ∙ run-is story_run can-be-made;
      seen = seen-logged;
      agrees =
          record {
            controller = controller-world ∙ sym (ap (λ (x : Controller). Some x) controller-private);
            memory = (λ addr there open_until. same-memory addr (inside addr there));
            blocks = blocks;
            marks = kept;
          };
    }
