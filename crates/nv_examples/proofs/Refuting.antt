-- What shows that no private run is a log's: the run can't be made, or what is seen along it, or where it ends, is other than the world's
use Rattle.std.proofs.Common.{◌≡◌, ℕ, ◌<◌, Bool, true, false, List, Option, Some, None, is_some, ap, sym, ◌∙◌}
use Rattle.nv_mem.specs.GuestMap.{mapped}
use Rattle.nv_model.specs.Memory.{image}
use Rattle.nv_model.specs.Private.{Run, Seen}
use Rattle.nv_ns.specs.Extents.{blocks_in, place_in}
use Rattle.nv_world_model.specs.Agrees.{Agrees, is_awaited}
use Rattle.nv_world_model.specs.Geometry.{Guest, regions_of}
use Rattle.nv_world_model.specs.World.{World}
use Rattle.nv_examples.specs.Stepping.{behind_run, seen_along}

-- the run can't be made
pub no-run : (o : Option Run) (run : Run) → is_some o ≡ false → o ≡ Some run → ⊥
no-run None run e is = absurd (cc)
no-run (Some other) run e is = absurd (cc)

-- what is seen along it isn't what was logged, by something that is told of it
pub other-seen : {A : Type 0} (tell : List Seen → A) (o : Option Run) (run : Run) (logged : List Seen) (mine theirs : A)
    → tell (seen_along o) ≡ mine → tell logged ≡ theirs → (mine ≡ theirs → ⊥) → o ≡ Some run → run.seen ≡ logged → ⊥
other-seen tell o run logged mine theirs a b differ is seen =
    differ (sym a ∙ ap (λ (x : Option Run). tell (seen_along x)) is ∙ ap tell seen ∙ b)

-- a byte of memory that is not awaited is another
pub other-byte : (first : Guest) (addr : ℕ) (o : Option Run) (run : Run) (z : World) (mine theirs : ℕ)
    → mapped (regions_of first) addr ≡ true → is_awaited 0 first z addr ≡ false
    → (behind_run o).memory addr ≡ mine → image (regions_of first) z.host addr ≡ theirs → (mine ≡ theirs → ⊥)
    → o ≡ Some run → Agrees 0 first z run.state → ⊥
other-byte first addr o run z mine theirs there free a b differ is agrees =
    differ (sym a ∙ ap (λ (x : Option Run). (behind_run x).memory addr) is ∙ agrees.memory addr there free ∙ b)

-- a byte of a block is another
pub other-block : (first : Guest) (lba offset : ℕ) (o : Option Run) (run : Run) (z : World) (mine theirs : ℕ) → lba < blocks_in first.namespace
    → (behind_run o).disk lba offset ≡ mine → z.disk (place_in first.namespace lba) offset ≡ theirs → (mine ≡ theirs → ⊥)
    → o ≡ Some run → Agrees 0 first z run.state → ⊥
other-block first lba offset o run z mine theirs within a b differ is agrees =
    differ (sym a ∙ ap (λ (x : Option Run). (behind_run x).disk lba offset) is ∙ agrees.blocks lba offset within ∙ b)

-- a block's mark is another
pub other-mark : (first : Guest) (lba : ℕ) (o : Option Run) (run : Run) (z : World) (mine theirs : Bool) → lba < blocks_in first.namespace
    → (behind_run o).kept lba ≡ mine → z.kept (place_in first.namespace lba) ≡ theirs → (mine ≡ theirs → ⊥)
    → o ≡ Some run → Agrees 0 first z run.state → ⊥
other-mark first lba o run z mine theirs within a b differ is agrees =
    differ (sym a ∙ ap (λ (x : Option Run). (behind_run x).kept lba) is ∙ agrees.marks lba within ∙ b)

pub true-false : true ≡ false → ⊥
true-false e = absurd (cc)
