-- What PRP1 and PRP2 of a transfer name without a list: Base Specification 2.0, "Physical Region Page Entry and List" (PRP2 is the second page where
-- the transfer lies in two)
use Rattle.std.specs.Prelude.{◌≡◌, ℕ, ◌-◌, ◌<◌, Bool, None}
use Rattle.nv_model.specs.Dialogue.{Dialogue, End}
use Rattle.nv_model.specs.Limits.{page}
use Rattle.nv_model.specs.Prp.{entry_fault, first_len, read_prp}
use Rattle.nv_model.specs.Reading.{Reading, Faulty, Spells}
use Rattle.nv_prp.specs.declared.named.Named.{Named}
use Rattle.nv_prp.specs.declared.named.Named.TheVariants as named

-- this is what the dialogue after PRP1 comes to without a read; a list is wanted only where more than a page is left
abbrev pub IsNamedAfter : Dialogue Reading → (left : ℕ) → Named → Type 0
IsNamedAfter d left (named.Runs runs) = d ≡ End (Spells runs)
IsNamedAfter d left (named.Fault code) = d ≡ End (Faulty code)
IsNamedAfter d left named.FirstPage = page < left

-- this is what the reading of a transfer comes to without a read; a list is wanted only where PRP1 is sound and more than a page is left after its page
abbrev pub IsNamed : (ℕ → Bool) → (prp1 prp2 need : ℕ) → Named → Type 0
IsNamed mapped prp1 prp2 need (named.Runs runs) = read_prp mapped prp1 prp2 need ≡ End (Spells runs)
IsNamed mapped prp1 prp2 need (named.Fault code) = read_prp mapped prp1 prp2 need ≡ End (Faulty code)
IsNamed mapped prp1 prp2 need named.FirstPage =
    (entry_fault mapped 4 prp1 (first_len prp1 need) ≡ None) × (page < need - first_len prp1 need)
