-- The tags of commands in all lanes of a world behind a change of one lane.
use Rattle.std.proofs.Common.{◌≡◌, ℕ, false, List, [], ◌∷◌, length, replicate, set, slice_get, Option, Some, None}
use Rattle.std.proofs.Common.{arith, refl, sym, ap, ◌∙◌, subst}
use Rattle.std.specs.List.{All}
use Rattle.std.proofs.lemmas.List.{length-replicate}
use Rattle.std.proofs.lemmas.List.Elements.{All-cons, All-replicate}
use Rattle.nv_entry.specs.Status.{StatusField}
use Rattle.nv_entry.specs.StatusCode.{done_with}
use Rattle.nv_entry.specs.declared.status_code.StatusCode.TheVariants.{Success}
use Rattle.nv_world_model.specs.Geometry.{Geometry, Guest}
use Rattle.nv_world_model.proofs.Seats.{slice_get-set}
use Rattle.nv_world_model.specs.Step.{ended_at, ended_at_once, is_success, passed_on, standing_at, completion_read}
use Rattle.nv_world_model.specs.World.{Command, Ended, Flying, Free, Lane, Standing, Tag, Taken, World, changed_at, group, tag_changed, tag_in, tag_of}
use Rattle.nv_world_model.specs.World.{with_lane, with_tag, with_tags}
use Rattle.nv_laws_sound.specs.Groups.{AllAnswered, AreGrouped, AreGroups, AtOnce, IsGroup, NoPart, Part, command_of, goes_by, part_of, parts_of}
use Rattle.nv_laws_sound.proofs.Folds.{group-numbers, parts-put_all, parts-set, put_all, put_all-puts, tag-part, with_tags-is}
use Rattle.nv_laws_sound.proofs.Groupings.{grouped-freed, grouped-put}
use Rattle.nv_laws_sound.proofs.Lists.{IsThere, Put, Was, set-same, set-set, set-there}
use Rattle.nv_laws_sound.proofs.Numbers.{numbers_where, puts}
use Rattle.nv_laws_sound.proofs.Retags.{with_tag-is}

-- the tags of commands belong together in each lane
abbrev pub HasGroups : Geometry → List Lane → Type 0
HasGroups geometry lanes = (lane : ℕ) (l : Lane) → slice_get lanes lane ≡ Some l → AreGroups geometry l.tags

module _ (geometry : Geometry) where
  -- ---- a lane

  pub groups-set : (lanes : List Lane) (lane : ℕ) (l : Lane) → HasGroups geometry lanes → AreGroups geometry l.tags
      → HasGroups geometry (set lanes lane l)
  groups-set lanes lane l are now at x there = by (set-there lanes lane l at x there)
    where
      by : IsThere lanes lane l at x → AreGroups geometry x.tags
      by (Put same put) = subst (λ y. AreGroups geometry y.tags) put now
      by (Was apart was) = are at x was

  -- its parts stay as they are
  pub groups-same : (lanes : List Lane) (lane : ℕ) (l x : Lane) → HasGroups geometry lanes → slice_get lanes lane ≡ Some l
      → parts_of x.tags ≡ parts_of l.tags → HasGroups geometry (set lanes lane x)
  groups-same lanes lane l x are at same = groups-set lanes lane x are (subst (AreGrouped geometry) (sym same) (are lane l at))

  -- a tag gets another stage of the same part
  pub retagged-groups : (z : World) (lane tag : ℕ) (t now : Tag) → HasGroups geometry z.lanes → tag_of z lane tag ≡ Some t → part_of now ≡ part_of t
      → HasGroups geometry (with_tag lane tag now z).lanes
  retagged-groups z lane tag t now are at same = by (slice_get z.lanes lane) refl
    where
      by : (o : Option Lane) → slice_get z.lanes lane ≡ o → HasGroups geometry (with_tag lane tag now z).lanes
      by None there = subst (HasGroups geometry) (sym (ap (λ o. changed_at o lane (tag_changed tag now) z.lanes) there)) are
      by (Some l) there =
          let here : slice_get l.tags tag ≡ Some t = sym (ap (λ o. tag_in o tag) there) ∙ at in
          let kept : parts_of (set l.tags tag now) ≡ parts_of l.tags =
          parts-set l.tags tag now ∙ ap (set (parts_of l.tags) tag) same ∙ set-same (parts_of l.tags) tag (part_of t) (tag-part l.tags tag t here) in
          subst (HasGroups geometry) (sym (ap (λ o. changed_at o lane (tag_changed tag now) z.lanes) there))
          (groups-same z.lanes lane l (tag_changed tag now l) are there kept)

  -- one that was handed on stands elsewhere
  pub stands-groups : (t : Option Tag) (s : Standing) (lane tag : ℕ) (z : World) → HasGroups geometry z.lanes → tag_of z lane tag ≡ t
      → HasGroups geometry (standing_at t s lane tag z).lanes
  stands-groups None s lane tag z are at = are
  stands-groups (Some Free) s lane tag z are at = are
  stands-groups (Some (Taken command reads)) s lane tag z are at = are
  stands-groups (Some (Flying command share before)) s lane tag z are at =
      retagged-groups z lane tag (Flying command share before) (Flying command share s) are at refl
  stands-groups (Some (Ended command st share)) s lane tag z are at = are

  -- or ends
  pub ends-groups : (t : Option Tag) (st : StatusField) (lane tag : ℕ) (z : World) → HasGroups geometry z.lanes → tag_of z lane tag ≡ t
      → HasGroups geometry (ended_at t st lane tag z).lanes
  ends-groups None st lane tag z are at = are
  ends-groups (Some Free) st lane tag z are at = are
  ends-groups (Some (Taken command reads)) st lane tag z are at = are
  ends-groups (Some (Flying command share before)) st lane tag z are at =
      retagged-groups z lane tag (Flying command share before) (Ended command (passed_on st) (Some share)) are at refl
  ends-groups (Some (Ended command before share)) st lane tag z are at = are

  -- the lane's head moves on
  pub read-groups : (w : World) (lane : ℕ) → HasGroups geometry w.lanes → HasGroups geometry (with_lane lane completion_read w).lanes
  read-groups w lane are = by (slice_get w.lanes lane) refl
    where
      by : (o : Option Lane) → slice_get w.lanes lane ≡ o → HasGroups geometry (changed_at o lane completion_read w.lanes)
      by None there = are
      by (Some l) there = groups-same w.lanes lane l (completion_read l) are there refl

  pub read-tag : (w : World) (lane tag : ℕ) → tag_of (with_lane lane completion_read w) lane tag ≡ tag_of w lane tag
  read-tag w lane tag = by (slice_get w.lanes lane) refl
    where
      by : (o : Option Lane) → slice_get w.lanes lane ≡ o → tag_in (slice_get (changed_at o lane completion_read w.lanes) lane) tag ≡ tag_in o tag
      by None there = ap (λ o. tag_in o tag) there
      by (Some l) there = ap (λ o. tag_in o tag) (slice_get-set w.lanes lane l (completion_read l) there)

  -- ---- the tags of one command

  module _ (w : World) (lane leader : ℕ) (l : Lane) (command : Command) (t : Tag) (are : HasGroups geometry w.lanes)
      (at : slice_get w.lanes lane ≡ Some l) (found : slice_get l.tags leader ≡ Some t) (has : command_of (part_of t) ≡ Some command)
      (leads : command.leader ≡ leader) where
    abbrev numbers : List ℕ
    numbers = numbers_where (goes_by leader) (parts_of l.tags)

    -- they become free
    pub freed-groups : (z : World) → slice_get z.lanes lane ≡ Some l → HasGroups geometry z.lanes
        → HasGroups geometry (with_tags lane (group w lane leader) Free z).lanes
    freed-groups z there kept =
        let spelled = group-numbers w lane leader l at in
        let vs : List Part = replicate (length numbers) NoPart in
        let parts : parts_of (put_all numbers Free l.tags) ≡ puts numbers vs (parts_of l.tags) =
        parts-put_all numbers Free l.tags ∙ put_all-puts numbers NoPart (parts_of l.tags) in
        let grouped = grouped-freed geometry (parts_of l.tags) (are lane l at) leader command (part_of t) (tag-part l.tags leader t found) has leads vs
        (length-replicate (length numbers) NoPart) (All-replicate (λ v. command_of v ≡ None) (length numbers) NoPart refl) in
        let x : Lane = record l { tags = put_all numbers Free l.tags } in
        subst (λ ns. HasGroups geometry (with_tags lane ns Free z).lanes) (sym spelled)
        (subst (HasGroups geometry) (sym (ap (λ (v : World). v.lanes) (with_tags-is lane numbers Free z l there)))
        (groups-set z.lanes lane x kept (subst (AreGrouped geometry) (sym parts) grouped)))

    -- they get other parts of it
    pub put-groups : (vs : List Part) (tags : List Tag) → parts_of tags ≡ puts numbers vs (parts_of l.tags) → length vs ≡ length numbers
        → All (λ v. command_of v ≡ Some command) vs
        → ((guest : Guest) → slice_get geometry.guests command.guest ≡ Some guest → IsGroup guest.namespace command vs)
        → AreGroups geometry tags
    put-groups vs tags parts many of now =
        subst (AreGrouped geometry) (sym parts)
        (grouped-put geometry (parts_of l.tags) (are lane l at) leader command (part_of t) (tag-part l.tags leader t found) has leads vs many of now)

    -- they all end at once
    pub ended-groups : (st : StatusField) → is_success st ≡ false → HasGroups geometry (ended_at_once lane (group w lane leader) command st w).lanes
    ended-groups st fails =
        subst (λ ns. HasGroups geometry (ended_at_once lane ns command st w).lanes) (sym (group-numbers w lane leader l at)) (by numbers refl)
      where
        by : (ns : List ℕ) → numbers ≡ ns → HasGroups geometry (ended_at_once lane ns command st w).lanes
        by [] same = are
        by (n ∷ ns) same =
            let first : Lane = tag_changed n (Ended command st None) l in
            let now : Tag = Ended command (done_with Success) None in
            let z : World = record w { lanes = set w.lanes lane first } in
            let x : Lane = record first { tags = put_all ns now first.tags } in
            let vs : List Part = AtOnce command st ∷ replicate (length ns) (AtOnce command (done_with Success)) in
            let parts : parts_of x.tags ≡ puts numbers vs (parts_of l.tags) =
            parts-put_all ns now first.tags ∙ ap (put_all ns (AtOnce command (done_with Success))) (parts-set l.tags n (Ended command st None))
            ∙ put_all-puts ns (AtOnce command (done_with Success)) (set (parts_of l.tags) n (AtOnce command st))
            ∙ ap (λ ks. puts ks vs (parts_of l.tags)) (sym same) in
            let long = length-replicate (length ns) (AtOnce command (done_with Success)) in
            let count = ap length same in
            let grouped = put-groups vs x.tags parts (omega (arith, long, count))
            (All-cons (λ v. command_of v ≡ Some command) (AtOnce command st) (replicate (length ns) (AtOnce command (done_with Success))) refl
            (All-replicate (λ v. command_of v ≡ Some command) (length ns) (AtOnce command (done_with Success)) refl))
            (λ guest given. AllAnswered st (length ns) fails refl) in
            subst (λ v. HasGroups geometry (with_tags lane ns now v).lanes) (sym (with_tag-is lane n (Ended command st None) w l at))
            (subst (HasGroups geometry) (sym (ap (λ (v : World). v.lanes) (with_tags-is lane ns now z first (slice_get-set w.lanes lane l first at))))
            (subst (HasGroups geometry) (sym (set-set w.lanes lane first x)) (groups-set w.lanes lane x are grouped)))
