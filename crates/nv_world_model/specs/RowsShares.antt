-- Worked examples: commands of a guest whose namespace has several extents, and the shares of their plans
use Rattle.std.specs.Prelude.{ℕ, List, [], ◌∷◌, map, Option, Some, None}
use Rattle.std.specs.List.{enumerate_from}
use Rattle.nv_ns.specs.Extents.{Namespace}
use Rattle.nv_model.specs.Transcript.{Outcome, ReadDone, Settled, Wanted}
use Rattle.nv_world_model.specs.Area.{bounce_page, list_page, prps_of}
use Rattle.nv_world_model.specs.Geometry.{Guest}
use Rattle.nv_world_model.specs.Plan.{Plan, plan_over}
use Rattle.nv_world_model.specs.Rows.{guest_at}
use Rattle.nv_world_model.specs.Share.{Share, shares_of}
use Rattle.nv_world_model.specs.ShareArea.{own_bytes, own_dwords}

-- 32 blocks from disk block 1000 on, and then 32 from 3000 on
abbrev pub joined : Namespace
joined = record { base = 1000; blocks = 32 } ∷ record { base = 3000; blocks = 32 } ∷ []

-- the same number of blocks, in three extents: 31, 1 and 32
abbrev pub three_joined : Namespace
three_joined = record { base = 1000; blocks = 31 } ∷ record { base = 500; blocks = 1 } ∷ record { base = 3000; blocks = 32 } ∷ []

-- the guest, with 64 blocks
abbrev pub joined_guest : Guest
joined_guest = guest_at 0x100000 1000

-- the plan of a command, once these were read of its lists
abbrev pub settled : Outcome Plan → Option Plan
settled (Wanted addr len) = None
settled (Settled plan) = Some plan

abbrev pub planned_by : (entry : List ℕ) → List ReadDone → Option Plan
planned_by entry reads = settled (plan_over joined_guest entry reads)

-- the shares of that plan
abbrev pub shares_or_none : Namespace → (entry : List ℕ) → Option Plan → List Share
shares_or_none ns entry None = []
shares_or_none ns entry (Some plan) = shares_of ns entry plan

abbrev pub shares_by_reads : Namespace → (entry : List ℕ) → List ReadDone → List Share
shares_by_reads ns entry reads = shares_or_none ns entry (planned_by entry reads)

-- PRP1, PRP2 and CDW10 to CDW12 of each share, on the tags from 0 on of a lane whose area begins at 400000h
abbrev pub sent : Namespace → (entry : List ℕ) → List Share → List (List ℕ)
sent ns entry shares =
    map (λ p. (let prps = prps_of p.1.plan joined_guest (list_page 0x400000 0 p.0) (bounce_page 0x400000 0 p.0) in
    prps.prp1 ∷ prps.prp2 ∷ own_dwords p.1.plan ns entry)) (enumerate_from 0 shares)

-- the bytes of the ranges of each share
abbrev pub ranges_sent : Namespace → List Share → List (List ℕ)
ranges_sent ns shares = map (λ share. own_bytes share.plan ns joined_guest (λ _. 0)) shares

-- the numbers of each share's units in the whole
abbrev pub numbers_sent : List Share → List (List ℕ)
numbers_sent shares = map (λ share. share.numbers) shares
