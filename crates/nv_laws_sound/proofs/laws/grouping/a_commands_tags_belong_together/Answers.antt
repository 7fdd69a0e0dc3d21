use Rattle.std.proofs.Common.{map, refl, sym, ap, ◌∙◌}
use Rattle.nv_world_model.specs.Geometry.{Guest}
use Rattle.nv_world_model.specs.Share.{shares_of, tags_of_entry}
use Rattle.nv_world_model.specs.World.{Flying, tag_in}
use Rattle.nv_laws_sound.specs.Groups.{Handed, command_of, part_of, parts_of}
use Rattle.nv_laws_sound.proofs.Folds.{part-tag, tag-part}
use Rattle.nv_laws_sound.proofs.GroupShares.{handed-group}
use Rattle.nv_laws_sound.proofs.Lists.{some-same}
use Rattle.nv_laws_sound.proofs.Stages.{group-count, reading}
use Rattle.nv_laws_sound.proofs.laws.grouping.a_commands_tags_belong_together.Goals as goal

pub returns-clause-leads : goal.returns-clause-leads
returns-clause-leads c = λ geometry w lane tag l t command is at found has.
    (let m = is.groups lane l at tag (part_of t) command (tag-part l.tags tag t found) has in
    let first = part-tag l.tags command.leader m.first m.there in
    (m.low, (first.t, (first.is, ap command_of first.part_is ∙ m.same))))

pub returns-clause-waiting : goal.returns-clause-waiting
returns-clause-waiting c = λ geometry w lane tag l command reads guest is at found leads given.
    (let there = ap (λ o. tag_in o tag) at ∙ found in
    let group_is = reading geometry w lane tag l command reads at (is.groups lane l at) there leads in
    group-count geometry w lane tag l command reads at (is.groups lane l at) there leads
    ∙ ap (λ (g : Guest). tags_of_entry g.namespace command.entry) (some-same group_is.guest guest (sym group_is.given ∙ given)))

pub returns-clause-handed : goal.returns-clause-handed
returns-clause-handed c = λ geometry w lane tag l command share standing guest is at found given.
    (let group_is = handed-group geometry (parts_of l.tags) command.leader tag command share (is.groups lane l at)
    (tag-part l.tags tag (Flying command share standing) found) refl in
    group_is.all
    ∙ ap (λ (g : Guest). map (Handed command) (shares_of g.namespace command.entry share.whole)) (some-same group_is.guest guest (sym group_is.given ∙ given)))
