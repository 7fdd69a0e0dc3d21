use Rattle.std.proofs.Common.{◌≡◌, ℕ, zero, suc, ◌<◌, true, Bool, List, [], ◌∷◌, Option, Some, None, is_some, refl, ap, sym, ◌∙◌, arith}
use Rattle.std.proofs.lemmas.Bool.Decides.{nat_tests}
use Rattle.nv_mem.specs.GuestMap.{mapped}
use Rattle.nv_ns.specs.Extents.{place_in}
use Rattle.nv_model.specs.Controller.{Controller}
use Rattle.nv_model.specs.Private.{Run, Step, run_of, start}
use Rattle.nv_world_model.specs.Geometry.{regions_of, shape_of}
use Rattle.nv_examples.specs.Stepping.{behind_run, seen_along}
use Rattle.nv_world_model.specs.PrivateSteps.{private_steps}
use Rattle.nv_examples.specs.extents.Guests.{first, opened, set_up}
use Rattle.nv_examples.specs.extents.Story.{story}
use Rattle.nv_examples.specs.extents.StoryRun.{story_end, story_private, story_run}
use Rattle.nv_examples.proofs.Blank.{to-blank}
use Rattle.nv_examples.proofs.several_extents.StoryEnd.{same-memory}
use Rattle.nv_examples.proofs.several_extents.StoryFacts.{block-0, block-1, block-2, block-3, can-be-made, controller-private, controller-world}
use Rattle.nv_examples.proofs.several_extents.StoryFacts.{disk-10, disk-2, disk-3, disk-9, marks-private, marks-world, seen-logged, the-steps}
use Rattle.nv_examples.proofs.extents.story.the_promise.Goals as goal

-- a run that can be made is the one to its end
run-is : (o : Option Run) → is_some o ≡ true → o ≡ Some (record { state = behind_run o; seen = seen_along o })
run-is None e = absurd (cc)
run-is (Some run) e = refl

-- an address that is mapped
inside : (addr : ℕ) → mapped (regions_of first) addr ≡ true → addr < 0x4000
inside addr there = grind (arith, nat_tests, there)

-- each byte of all four blocks
blocks : (lba offset : ℕ) → lba < 4 → story_private.disk lba offset ≡ story_end.disk (place_in first.namespace lba) offset
blocks zero offset h = block-0 offset ∙ sym (disk-2 offset)
blocks (suc zero) offset h = block-1 offset ∙ sym (disk-3 offset)
blocks (suc (suc zero)) offset h = block-2 offset ∙ sym (disk-9 offset)
blocks (suc (suc (suc zero))) offset h = block-3 offset ∙ sym (disk-10 offset)
blocks (suc (suc (suc (suc lba)))) offset h = absurd (omega arith)

-- and the mark of each
four-same : (a b c d a' b' c' d' : Bool) → ◌≡◌ {A = List Bool} (a ∷ b ∷ c ∷ d ∷ []) (a' ∷ b' ∷ c' ∷ d' ∷ [])
    → (a ≡ a') × (b ≡ b') × (c ≡ c') × (d ≡ d')
four-same a b c d a' b' c' d' e = (cc, cc, cc, cc)

all-marks : (story_private.kept 0 ≡ story_end.kept 2) × (story_private.kept 1 ≡ story_end.kept 3)
    × (story_private.kept 2 ≡ story_end.kept 9) × (story_private.kept 3 ≡ story_end.kept 10)
all-marks =
    four-same (story_private.kept 0) (story_private.kept 1) (story_private.kept 2) (story_private.kept 3)
    (story_end.kept 2) (story_end.kept 3) (story_end.kept 9) (story_end.kept 10) (marks-private ∙ sym marks-world)

kept : (lba : ℕ) → lba < 4 → story_private.kept lba ≡ story_end.kept (place_in first.namespace lba)
kept zero h = all-marks.0
kept (suc zero) h = all-marks.1
kept (suc (suc zero)) h = all-marks.2
kept (suc (suc (suc zero))) h = all-marks.3
kept (suc (suc (suc (suc lba)))) h = absurd (omega arith)

pub returns : goal.returns
returns c =
    record {
      run = record { state = story_private; seen = seen_along story_run };
      runs =
          to-blank first set_up 1 (private_steps set_up 0 first story opened)
          ∙ ap (λ (ss : List Step). run_of (shape_of first) ss start) the-steps ∙ run-is story_run can-be-made;
      seen = seen-logged;
      agrees =
          record {
            controller = controller-world ∙ sym (ap (λ (x : Controller). Some x) controller-private);
            memory = (λ addr there open_until. same-memory addr (inside addr there));
            blocks = blocks;
            marks = kept;
          };
    }
