-- Which event a struct of C's names.
use Rattle.std.specs.Prelude.{◌≡◌, ◌⊎◌, ◌/◌, ◌%◌, ◌<◌, ◌≤◌, ◌==◌, ℕ, not}
use Rattle.nv_c.specs.declared.event.Event as c
use Rattle.nv_entry.specs.Status.{StatusField}
use Rattle.nv_world_model.specs.declared.event.Event.{Event}
use Rattle.nv_world_model.specs.declared.event.Event.TheVariants as event

-- a number that fits a guest, a lane, a tag or a slot, and one that fits a queue
abbrev pub IsByte : (value number : ℕ) → Type 0
IsByte value number = (value ≡ number) × (number < 256)

abbrev pub IsWord : (value number : ℕ) → Type 0
IsWord value number = (value ≡ number) × (number < 65536)

-- a status: its code, plus 256 times its type, which is below 8, and whether not to retry
abbrev pub IsStatus : c.Event → StatusField → Type 0
IsStatus e st = (st.sct ≡ e.status / 256) × (st.sc ≡ e.status % 256) × (st.dnr ≡ not (e.dnr == 0)) × (e.status < 2048)

-- the event is that of its kind, with the numbers that the kind uses, each of which fits; a guest's act is no such event
abbrev pub Names : c.Event → Event → Type 0
Names e (event.Guest guest a) = ⊥
Names e (event.Admin guest) = (e.kind ≡ 1) × IsByte guest e.guest
Names e (event.Take guest queue lane) = (e.kind ≡ 2) × IsByte guest e.guest × IsWord queue e.queue × IsByte lane e.lane
Names e (event.List lane tag addr len) = (e.kind ≡ 3) × IsByte lane e.lane × IsByte tag e.tag × (addr ≡ e.address) × (len ≡ e.bytes)
Names e (event.Submit lane tag) = (e.kind ≡ 4) × IsByte lane e.lane × IsByte tag e.tag
Names e (event.GiveUp lane tag) = (e.kind ≡ 5) × IsByte lane e.lane × IsByte tag e.tag
Names e (event.DevTake lane) = (e.kind ≡ 6) × IsByte lane e.lane
Names e (event.DevMove lane slot number) = (e.kind ≡ 7) × IsByte lane e.lane × IsByte slot e.slot × (number ≡ e.number)
Names e (event.DevPost lane slot) = (e.kind ≡ 8) × IsByte lane e.lane × IsByte slot e.slot
Names e (event.DevFail lane slot st) = (e.kind ≡ 9) × IsByte lane e.lane × IsByte slot e.slot × IsStatus e st
Names e (event.Keep block) = (e.kind ≡ 10) × (block ≡ e.number)
Names e (event.Reap lane) = (e.kind ≡ 11) × IsByte lane e.lane
Names e (event.Post lane tag) = (e.kind ≡ 12) × IsByte lane e.lane × IsByte tag e.tag

-- there is no such kind, or a number that the kind uses does not fit; what it does not use may be any number
abbrev pub NamesNone : c.Event → Type 0
NamesNone e =
    (e.kind ≡ 0)
    ⊎ (12 < e.kind)
    ⊎ (e.kind ≡ 1) × (256 ≤ e.guest)
    ⊎ (e.kind ≡ 2) × ((256 ≤ e.guest) ⊎ (65536 ≤ e.queue) ⊎ (256 ≤ e.lane))
    ⊎ (e.kind ≡ 3) × ((256 ≤ e.lane) ⊎ (256 ≤ e.tag))
    ⊎ (e.kind ≡ 4) × ((256 ≤ e.lane) ⊎ (256 ≤ e.tag))
    ⊎ (e.kind ≡ 5) × ((256 ≤ e.lane) ⊎ (256 ≤ e.tag))
    ⊎ (e.kind ≡ 6) × (256 ≤ e.lane)
    ⊎ (e.kind ≡ 7) × ((256 ≤ e.lane) ⊎ (256 ≤ e.slot))
    ⊎ (e.kind ≡ 8) × ((256 ≤ e.lane) ⊎ (256 ≤ e.slot))
    ⊎ (e.kind ≡ 9) × ((256 ≤ e.lane) ⊎ (256 ≤ e.slot) ⊎ (2048 ≤ e.status))
    ⊎ (e.kind ≡ 11) × (256 ≤ e.lane)
    ⊎ (e.kind ≡ 12) × ((256 ≤ e.lane) ⊎ (256 ≤ e.tag))
