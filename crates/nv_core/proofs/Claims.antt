-- The claim of a tag, and the command that it is the claim of.
use Rattle.std.proofs.Common.{◌≡◌, ℕ, true, Option, Some, None, is_some, refl, sym, ap, ◌∙◌}
use Rattle.nv_laws_sound.proofs.Lists.{some-same}
use Rattle.nv_core.specs.Jobs.{held_by}
use Rattle.nv_core.specs.declared.holding.Holder.{Holder}
use Rattle.nv_tags.specs.Tags.{Slot, command_in, command_of, state_of}
use Rattle.nv_tags.specs.Tags as slot
use Rattle.nv_tags.specs.declared.claim.Claim.{Claim}
use Rattle.nv_tags.specs.declared.state.TagState.TheVariants as state
use Rattle.nv_world_model.specs.World.{Command}

-- a claim tells all of its command but the tag that it goes by
pub claim-is : (claim : Claim) (leader : ℕ) (command : Command) → Some (command_of claim leader) ≡ Some command
    → command_of claim command.leader ≡ command
claim-is claim leader command e =
    let same = some-same (command_of claim leader) command e in
    ap (command_of claim) (sym (ap (λ (c : Command). c.leader) same)) ∙ same

-- and so do a guest and a leader
pub holder-is : (claim : Claim) (leader : ℕ) (command : Command) (at : ℕ) → Some (command_of claim leader) ≡ Some command → at ≡ leader
    → (let h : Holder = record { guest = claim.guest; leader = at } in h ≡ held_by command)
holder-is claim leader command at e same =
    ap (λ (n : ℕ). let h : Holder = record { guest = claim.guest; leader = n } in h) same
    ∙ ap held_by (some-same (command_of claim leader) command e)

-- there is one
pub some-there : (o : Option Command) → is_some o ≡ true → (command : Command) × (o ≡ Some command)
some-there None e = cc
some-there (Some command) e = (command, refl)

-- a tag with a command is not free
pub not-free : (s : Slot) (command : Command) → command_in s ≡ Some command → state_of s ≡ state.Free → ⊥
not-free slot.Free command is free = cc
not-free (slot.Used c slot.Taken) command is free = cc
not-free (slot.Used c slot.Flying) command is free = cc
not-free (slot.Used c (slot.Ended st)) command is free = cc
