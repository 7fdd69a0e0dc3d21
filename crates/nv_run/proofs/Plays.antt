-- What a run that ended well prints, by its log
use Rattle.std.proofs.Common.{◌≡◌, ◌<◌, ◌++◌, ℕ, List, Option, Some, None, codes, sym, ap, ◌∙◌, subst, arith}
use Rattle.std.specs.Io.KnownBytes.{Appends}
use Rattle.nv_print.specs.Printed.{line_feed}
use Rattle.nv_run.specs.Driving.{AreGone}
use Rattle.nv_run.specs.Parts.{lines_of, part_of}
use Rattle.nv_run.specs.Played.{ArePartsOf, IsPlayOf, IsPlayed, PrintsPlayed, PrintsRun, PrintsText}
use Rattle.nv_run.specs.declared.part.Part.{Part}
use Rattle.nv_run.specs.declared.played.Played.{Played}
use Rattle.nv_run.proofs.Printings.{lines_below-same}
use Rattle.nv_run_script.specs.declared.line.Line.{Line}
use Rattle.nv_threads.specs.Finished.{acts_of, told_to}
use Rattle.nv_world_model.specs.declared.logged.Logged.{Logged}

-- where the text is known
run-printed : (text : List ℕ) (parts : List Part) (played : Played) (before after : Option (List ℕ))
    → ArePartsOf text parts → IsPlayed parts played → PrintsPlayed played before after → PrintsRun text before after
run-printed text parts played before after of_text is grown =
    let log = played.world.log in
    let ports = played.ports.items in
    let lines = of_text.script.lines in
    let told : (guest : ℕ) → guest < 16 → told_to guest ports ≡ acts_of guest log =
    λ guest below. sym (is.finished.told guest (omega (arith, below))).same in
    let own : (guest : ℕ) → guest < 16 → part_of guest played.parts.items ≡ lines_of guest lines =
    λ guest below. ap (part_of guest) is.kept ∙ of_text.parted.each guest below in
    record {
      script = of_text.script;
      read = of_text.read;
      opens = of_text.opens;
      world = played.world;
      promise = is.promise;
      gone = λ guest below.
          subst (λ (ls : List Line). AreGone guest ls (acts_of guest log)) (of_text.parted.each guest below)
          (subst (λ (calls : List Logged). AreGone guest (part_of guest parts) calls) (told guest below) (is.gone guest below));
      grown =
          subst (λ (text : List ℕ). Appends before after (text ++ (codes "ok" ++ line_feed)))
          (lines_below-same 16 (λ guest. part_of guest played.parts.items) (λ guest. lines_of guest lines) (λ guest. told_to guest ports) (λ guest. acts_of guest log) own told)
          grown;
    }

-- and where it isn't
pub text-printed : (text : Option (List ℕ)) (played : Played) (before after : Option (List ℕ))
    → IsPlayOf text played → PrintsPlayed played before after → PrintsText text before after
text-printed None played before after of_text grown = tt
text-printed (Some text) played before after (parts, are, is) grown = run-printed text parts played before after are is grown
