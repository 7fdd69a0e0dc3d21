use Rattle.std.proofs.Common.{◌∙◌, ap, sym}
use Rattle.nv_core.specs.Tags.{command_at}
use Rattle.nv_core.proofs.GroupTags.{lane-group, leads}
use Rattle.nv_core.proofs.LaneTags.{lane-command}
use Rattle.nv_core.proofs.lane.Lane.taken_group.Goals as goal

pub group-requires : goal.group-requires
group-requires c =
    let i = c.self.inside in
    let t = c.requires in
    record {
      leads =
          leads i.head i.tags i.progress.items c.self.invariant c.args.tag t.command
          (lane-command i.head i.phase i.tags i.progress.items c.args.self.now c.self.invariant c.self.view_is c.args.tag t.command (ap command_at t.is)) t.led;
    }

pub returns : goal.returns
returns c =
    let i = c.self.inside in
    c.group.ensures ∙ sym (lane-group i.head i.phase i.tags i.progress.items c.args.self.now c.self.invariant c.self.view_is c.args.tag)
