use Rattle.std.proofs.Common.{ℕ, length, sym, ap, ◌∙◌}
use Rattle.nv_once_script.specs.OnceVocabulary.{count_check}
use Rattle.nv_replay_script.specs.ReplayScript.{progress}
use Rattle.nv_replay_script.proofs.ReplayScriptLemmas.{add_event-by, add_event-misplaced}
use Rattle.nv_replay_script.proofs.reading.Reading.add_event.Goals as goal

pub returns-in_default : goal.returns-in_default
returns-in_default c =
    let counted = ap (λ (n : ℕ). count_check (length c.args.words) n) (sym c.arguments.ensures) ∙ sym c.check_count.ensures ∙ c.in_ok-check_count.was in
    add_event-misplaced (progress c.args.self.now) c.args.kind c.args.words _ counted (sym c.whole.ensures ∙ c.in_default.is)

pub returns : goal.returns
returns c = add_event-by (progress c.args.self.now) c.args.kind c.args.words _ _ _ (sym c.whole.ensures ∙ c.in-Some.is) c.push_event.ensures
