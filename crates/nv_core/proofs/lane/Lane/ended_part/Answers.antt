use Rattle.std.proofs.Common.{◌≡◌, ◌∙◌, None, Some, ap, arith, sym}
use Rattle.nv_core.specs.Tags.{plan_kept}
use Rattle.nv_core.proofs.EndedParts.{further-kept, further-part, match-none, no-part, over-part, part-below, plan-read}
use Rattle.nv_core.proofs.EndingTags.{ended-at}
use Rattle.nv_core.proofs.LaneTags.{progress-at, progress-below}
use Rattle.nv_tags.specs.Tags.{leader_of, state_of}
use Rattle.nv_core.proofs.lane.Lane.ended_part.Goals as goal

pub index-requires : goal.index-requires
index-requires c =
    let i = c.self.inside in
    let t = c.requires in
    let e = ended-at i.head i.phase i.tags i.progress.items c.args.self.now c.self.invariant c.self.view_is c.args.tag t.command t.status t.share t.is in
    let below = e.below in
    let slots = c.self.invariant.slots_are in
    let many = c.self.invariant.progress_is in
    let number = c.from.ensures in omega arith

pub leader-leader-requires : goal.leader-leader-requires
leader-leader-requires c =
    let i = c.self.inside in
    let t = c.requires in
    let e = ended-at i.head i.phase i.tags i.progress.items c.args.self.now c.self.invariant c.self.view_is c.args.tag t.command t.status t.share t.is in
    record { used = λ free. (let ended = ap state_of e.slot_is in cc) }

pub unreachable-requires : goal.unreachable-requires
unreachable-requires c =
    let i = c.self.inside in
    let t = c.requires in
    let e = ended-at i.head i.phase i.tags i.progress.items c.args.self.now c.self.invariant c.self.view_is c.args.tag t.command t.status t.share t.is in
    let below = progress-below i.head i.phase i.tags i.progress.items c.args.self.now c.self.invariant c.self.view_is c.args.tag e.below in
    let read = progress-at i.progress.items c.args.tag c.from.result c.index.result.now e.progress below e.progress_is c.from.ensures c.index.ensures in
    let leader : c.leader-leader.result ≡ t.command.leader = c.leader-leader.ensures.value ∙ ap leader_of e.slot_is in
    let there = c.leader-leader.ensures.there in
    let many = c.self.invariant.progress_is in
    let kept = plan-read i.progress.items t.command.leader c.from-in-PartOver.result c.index-in-PartOver.result.now (omega arith)
    (c.from-in-PartOver.ensures ∙ leader) c.index-in-PartOver.ensures in
    further-kept _ t.command t.status t.share e.progress c.in-PartOver.part e.made (sym read ∙ c.in-PartOver.is)
    (kept ∙ match-none c.plan_in.result (plan_kept c.index-in-PartOver.result.now ≡ None) _ c.in_default-plan_in.is c.plan_in.ensures)

pub returns-in-Over-clause-which : goal.returns-in-Over-clause-which
returns-in-Over-clause-which c = λ command st share there.
    let i = c.self.inside in
    let e = ended-at i.head i.phase i.tags i.progress.items c.args.self.now c.self.invariant c.self.view_is c.args.tag command st share there in
    let below = progress-below i.head i.phase i.tags i.progress.items c.args.self.now c.self.invariant c.self.view_is c.args.tag e.below in
    let read = progress-at i.progress.items c.args.tag c.from.result c.index.result.now e.progress below e.progress_is c.from.ensures c.index.ensures in
    over-part _ command st share e.progress c.in-Over.plan e.made (sym read ∙ c.in-Over.is)

pub returns-in-Over-clause-some : goal.returns-in-Over-clause-some
returns-in-Over-clause-some c = λ command st share there.
    let i = c.self.inside in
    let e = ended-at i.head i.phase i.tags i.progress.items c.args.self.now c.self.invariant c.self.view_is c.args.tag command st (Some share) there in
    let below = progress-below i.head i.phase i.tags i.progress.items c.args.self.now c.self.invariant c.self.view_is c.args.tag e.below in
    let read = progress-at i.progress.items c.args.tag c.from.result c.index.result.now e.progress below e.progress_is c.from.ensures c.index.ensures in
    part-below c.in-Over.plan 0 share (over-part _ command st (Some share) e.progress c.in-Over.plan e.made (sym read ∙ c.in-Over.is))

pub returns-in-Some-clause-which : goal.returns-in-Some-clause-which
returns-in-Some-clause-which c = λ command st share there.
    let i = c.self.inside in
    let e = ended-at i.head i.phase i.tags i.progress.items c.args.self.now c.self.invariant c.self.view_is c.args.tag command st share there in
    let below = progress-below i.head i.phase i.tags i.progress.items c.args.self.now c.self.invariant c.self.view_is c.args.tag e.below in
    let read = progress-at i.progress.items c.args.tag c.from.result c.index.result.now e.progress below e.progress_is c.from.ensures c.index.ensures in
    let leader : c.leader-leader.result ≡ command.leader = c.leader-leader.ensures.value ∙ ap leader_of e.slot_is in
    let within = c.leader-leader.ensures.there in
    let many = c.self.invariant.progress_is in
    let kept = plan-read i.progress.items command.leader c.from-in-PartOver.result c.index-in-PartOver.result.now (omega arith)
    (c.from-in-PartOver.ensures ∙ leader) c.index-in-PartOver.ensures in
    further-part _ command st share e.progress c.in-PartOver.part c.in-Some.plan.now e.made (sym read ∙ c.in-PartOver.is) (kept ∙ c.in-Some.ensures)

pub returns-in-Some-clause-some : goal.returns-in-Some-clause-some
returns-in-Some-clause-some c = λ command st share there.
    let i = c.self.inside in
    let e = ended-at i.head i.phase i.tags i.progress.items c.args.self.now c.self.invariant c.self.view_is c.args.tag command st (Some share) there in
    let below = progress-below i.head i.phase i.tags i.progress.items c.args.self.now c.self.invariant c.self.view_is c.args.tag e.below in
    let read = progress-at i.progress.items c.args.tag c.from.result c.index.result.now e.progress below e.progress_is c.from.ensures c.index.ensures in
    let leader : c.leader-leader.result ≡ command.leader = c.leader-leader.ensures.value ∙ ap leader_of e.slot_is in
    let within = c.leader-leader.ensures.there in
    let many = c.self.invariant.progress_is in
    let kept = plan-read i.progress.items command.leader c.from-in-PartOver.result c.index-in-PartOver.result.now (omega arith)
    (c.from-in-PartOver.ensures ∙ leader) c.index-in-PartOver.ensures in
    part-below c.in-Some.plan.now c.in-PartOver.part share
    (further-part _ command st (Some share) e.progress c.in-PartOver.part c.in-Some.plan.now e.made (sym read ∙ c.in-PartOver.is) (kept ∙ c.in-Some.ensures))

pub returns-in_default : goal.returns-in_default
returns-in_default c =
    let i = c.self.inside in
    record {
      which = λ command st share there.
          (let e = ended-at i.head i.phase i.tags i.progress.items c.args.self.now c.self.invariant c.self.view_is c.args.tag command st share there in
          let below = progress-below i.head i.phase i.tags i.progress.items c.args.self.now c.self.invariant c.self.view_is c.args.tag e.below in
          let read = progress-at i.progress.items c.args.tag c.from.result c.index.result.now e.progress below e.progress_is c.from.ensures c.index.ensures in
          no-part _ command st share e.progress e.made (λ plan over. c.in_default.not-Over plan (read ∙ over)) (λ part over. c.in_default.not-PartOver part (read ∙ over)));
      some = λ command st share there.
          (let e = ended-at i.head i.phase i.tags i.progress.items c.args.self.now c.self.invariant c.self.view_is c.args.tag command st (Some share) there in
          let below = progress-below i.head i.phase i.tags i.progress.items c.args.self.now c.self.invariant c.self.view_is c.args.tag e.below in
          let read = progress-at i.progress.items c.args.tag c.from.result c.index.result.now e.progress below e.progress_is c.from.ensures c.index.ensures in
          let none : Some share ≡ None =
          no-part _ command st (Some share) e.progress e.made (λ plan over. c.in_default.not-Over plan (read ∙ over)) (λ part over. c.in_default.not-PartOver part (read ∙ over)) in
          cc);
    }
