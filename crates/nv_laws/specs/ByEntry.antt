-- CDW10 to CDW12 of a physical command by the fields of the guest's own entry
use Rattle.std.specs.Prelude.{ℕ, ◌+◌, ◌*◌, ◌^◌, List, [], ◌∷◌, ◌++◌}
use Rattle.nv_entry.specs.Status.{bit}
use Rattle.nv_entry.specs.Submission.{deallocate_of, nlb_of, nr_of, slba_of}
use Rattle.nv_ns.specs.Extents.{Namespace, place_in}
use Rattle.nv_model.specs.Judge.{Clear, Form, Keep, Manage, Transfer, is_fua}
use Rattle.nv_world_model.specs.Area.{two_dwords}

-- the block on the disk with the guest's NLB and FUA; or the guest's NR and deallocate
abbrev pub entry_dwords : Form → Namespace → (entry : List ℕ) → List ℕ
entry_dwords (Transfer dest) ns entry =
    two_dwords (place_in ns (slba_of entry)) ++ (nlb_of entry + 2 ^ 30 * bit (is_fua entry)) ∷ []
entry_dwords Clear ns entry =
    two_dwords (place_in ns (slba_of entry)) ++ (nlb_of entry + 2 ^ 30 * bit (is_fua entry)) ∷ []
entry_dwords Manage ns entry = nr_of entry ∷ (4 * deallocate_of entry) ∷ 0 ∷ []
entry_dwords Keep ns entry = 0 ∷ 0 ∷ 0 ∷ []
