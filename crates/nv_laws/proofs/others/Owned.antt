-- In a consistent world, and in one that is cut down to a guest, what goes by a tag of that guest's is that guest's.
use Rattle.std.proofs.Common.{◌≡◌, ℕ, ◌⊎◌, inl, inr, Bool, true, false, cond, ◌==◌, length, slice_get, Option, Some}
use Rattle.std.proofs.Common.{None, [], arith, refl, sym, ap, ◌∙◌, subst}
use Rattle.std.specs.Option.{option_map}
use Rattle.nv_world_model.specs.Area.{tag_count}
use Rattle.nv_world_model.specs.Geometry.{Geometry, Guest}
use Rattle.nv_world_model.specs.CutDown.{cut, cut_tag, nobodys}
use Rattle.nv_world_model.specs.View.{is_tag_of}
use Rattle.nv_world_model.specs.World.{Command, Ended, Flying, Free, Tag, Taken, World, is_that, leader_of, tag_in, tag_of}
use Rattle.nv_laws_sound.specs.Consistent.{IsConsistent}
use Rattle.nv_laws_sound.specs.Groups.{command_of, part_of}
use Rattle.nv_laws_sound.specs.LaidOut.{IsLaidOut}
use Rattle.nv_laws_sound.proofs.Folds.{part-tag, tag-part}
use Rattle.nv_laws_sound.proofs.Lists.{slice_get-below, some-same}
use Rattle.nv_laws_sound.proofs.Retags.{is-at}
use Rattle.nv_laws.specs.Alike.{GoesByItsOwn}
use Rattle.nv_laws.proofs.others.Cuts.{owns-same, tag-cut}
use Rattle.nv_laws.proofs.others.LeavesFolds.{part-guest}

-- ---- a consistent world

-- what goes by a tag has a command
record HasCommand (t : Tag) (leader : ℕ) : Type 0 where
  pub command : Command
  pub has : command_of (part_of t) ≡ Some command
  pub leads : command.leader ≡ leader

has-command : (t : Tag) (leader : ℕ) → leader_of t ≡ Some leader → HasCommand t leader
has-command Free leader e = cc
has-command (Taken command reads) leader e = record { command = command; has = refl; leads = some-same command.leader leader e }
has-command (Flying command share standing) leader e = record { command = command; has = refl; leads = some-same command.leader leader e }
has-command (Ended command st None) leader e = record { command = command; has = refl; leads = some-same command.leader leader e }
has-command (Ended command st (Some share)) leader e = record { command = command; has = refl; leads = some-same command.leader leader e }

pub consistent-owned : (geometry : Geometry) (w : World) (number : ℕ) → IsConsistent geometry w → GoesByItsOwn number w
consistent-owned geometry w number fine lane tag leader t there leads mine =
    let a = is-at geometry w lane tag t fine.of_tags there in
    let c = has-command t leader leads in
    let m = fine.groups lane a.l a.at_lane tag (part_of t) c.command (tag-part a.l.tags tag t a.at_tag) c.has in
    let x = part-tag a.l.tags c.command.leader m.first m.there in
    let here : tag_of w lane leader ≡ Some x.t =
    ap (tag_of w lane) (sym c.leads) ∙ ap (λ o. tag_in o c.command.leader) a.at_lane ∙ x.is in
    ap (is_that number) (part-guest t c.command c.has)
    ∙ sym (ap (is_that number) (part-guest x.t c.command (ap command_of x.part_is ∙ m.same)))
    ∙ sym (ap (is_tag_of number) here) ∙ mine

-- ---- a world cut down

module _ (number nobody : ℕ) where
  -- what is left of a tag is the guest's, or free, or goes by no tag
  abbrev IsLeft : Tag → Type 0
  IsLeft t = (is_tag_of number (Some t) ≡ true) ⊎ ((leader_of t ≡ None) ⊎ (leader_of t ≡ Some tag_count))

  left-by : (b : Bool) (t : Tag) → is_tag_of number (Some t) ≡ b → IsLeft (cond b t (Taken (nobodys nobody) []))
  left-by true t is = inl is
  left-by false t is = inr (inr refl)

  left-of : (t : Tag) → IsLeft (cut_tag number nobody t)
  left-of Free = inr (inl refl)
  left-of (Taken command reads) = left-by (command.guest == number) (Taken command reads) refl
  left-of (Flying command share standing) = left-by (command.guest == number) (Flying command share standing) refl
  left-of (Ended command st share) = left-by (command.guest == number) (Ended command st share) refl

  left-is : (o : Option Tag) (t : Tag) → option_map (cut_tag number nobody) o ≡ Some t → IsLeft t
  left-is None t e = cc
  left-is (Some x) t e = subst IsLeft (some-same (cut_tag number nobody x) t e) (left-of x)

-- a lane has no tag of that number
no-tag : (geometry : Geometry) (w : World) (number lane : ℕ) → IsConsistent geometry w → is_tag_of number (tag_of w lane tag_count) ≡ false
no-tag geometry w number lane fine = by (tag_of w lane tag_count) refl
  where
    by : (o : Option Tag) → tag_of w lane tag_count ≡ o → is_tag_of number o ≡ false
    by None at = refl
    by (Some t) at =
        let a = is-at geometry w lane tag_count t fine.of_tags at in
        let below = slice_get-below a.l.tags tag_count t a.at_tag in
        let tags = (fine.of_tags.lanes lane a.l a.d a.at_lane a.at_device).positions.tags in
        absurd (omega (arith, below, tags))

pub cut-owned : (host_bytes lanes : ℕ) (geometry : Geometry) (w : World) (number : ℕ) (guest : Guest) → IsLaidOut host_bytes lanes geometry
    → slice_get geometry.guests number ≡ Some guest → IsConsistent geometry w → GoesByItsOwn number (cut number guest geometry w)
cut-owned host_bytes lanes geometry w number guest laid given fine lane tag leader t there leads mine =
    elim (left-is number (length geometry.guests) (tag_of w lane tag) t (sym (tag-cut host_bytes lanes geometry laid w number guest given lane tag) ∙ there)) [
      | inl own ↦ own
      | inr other ↦ elim other [
        | inl free ↦ (let bad : None ≡ Some leader = sym free ∙ leads in cc)
        | inr last ↦
            (let named : leader ≡ tag_count = some-same leader tag_count (sym leads ∙ last) in
            let bad : false ≡ true =
            sym (no-tag geometry w number lane fine) ∙ owns-same host_bytes lanes geometry laid w number guest given lane tag_count
            ∙ ap (λ n. is_tag_of number (tag_of (cut number guest geometry w) lane n)) (sym named) ∙ mine in
            cc)
      ]
    ]
