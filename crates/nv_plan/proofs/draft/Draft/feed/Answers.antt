use Rattle.std.proofs.Common.{sym, ap, ◌∙◌}
use Rattle.std.specs.Box.{with_value}
use Rattle.std.proofs.lemmas.Result.{on_err_weaker, on_ok_weaker}
use Rattle.nv_model.specs.Transcript.{fed}
use Rattle.nv_prp.specs.Parse.{Parse, dialogue_of}
use Rattle.nv_plan.specs.declared.draft.Stage.TheVariants as stage
use Rattle.nv_plan.proofs.DraftSteps.{fed-descriptors, fed-pages, fed-source, going-same, going-source}
use Rattle.nv_plan.proofs.draft.Draft.feed.Goals as goal

pub returns-in-Pages-clause-ok : goal.returns-in-Pages-clause-ok
returns-in-Pages-clause-ok g c =
    fed-pages c.args.self.now.given c.args.self.now.sqe c.args.self.now.stage c.args.bytes.now c.in-Pages.field-0 c.in-Pages.parse (with_value c.in-Pages.parse c.feed.new.self) c.in-Pages.is c.requires.sound c.requires.wanted
    (c.feed.ensures.dialogue ∙ ap (λ (p : Parse). fed (dialogue_of p) c.args.bytes.now) c.deref_mut.ensures.value)

pub returns-in-Descriptors-clause-ok : goal.returns-in-Descriptors-clause-ok
returns-in-Descriptors-clause-ok g c =
    on_ok_weaker c.feed-in-Descriptors.result
    (λ goes. fed-descriptors c.args.self.now.given c.args.self.now.sqe c.args.self.now.stage c.args.bytes.now c.in-Descriptors.field-0 c.in-Descriptors.parse c.feed-in-Descriptors.new.self c.in-Descriptors.is c.requires.sound c.requires.wanted goes)
    c.feed-in-Descriptors.ensures.dialogue

pub returns-in-Descriptors-clause-err : goal.returns-in-Descriptors-clause-err
returns-in-Descriptors-clause-err g c =
    on_err_weaker c.feed-in-Descriptors.result
    (λ same. going-same c.args.self.now.given c.args.self.now.sqe c.args.self.now.stage (stage.Descriptors c.in-Descriptors.field-0 c.feed-in-Descriptors.new.self) c.requires.sound
    (ap (stage.Descriptors c.in-Descriptors.field-0) same ∙ sym c.in-Descriptors.is))
    c.feed-in-Descriptors.ensures.err

pub returns-in-Ranges-clause-ok : goal.returns-in-Ranges-clause-ok
returns-in-Ranges-clause-ok g c =
    on_ok_weaker c.feed-in-Ranges.result
    (λ on. fed-source c.args.self.now.given c.args.self.now.sqe c.args.self.now.stage c.args.bytes.now c.in-Ranges.source c.feed-in-Ranges.new.self c.in-Ranges.is c.requires.sound c.requires.wanted on.places on.read on.bytes)
    c.feed-in-Ranges.ensures.ok

pub returns-in-Ranges-clause-err : goal.returns-in-Ranges-clause-err
returns-in-Ranges-clause-err g c =
    on_err_weaker c.feed-in-Ranges.result
    (λ same. going-source c.args.self.now.given c.args.self.now.sqe c.args.self.now.stage c.in-Ranges.source c.feed-in-Ranges.new.self c.in-Ranges.is c.requires.sound same.places same.read same.bytes)
    c.feed-in-Ranges.ensures.err
