use Rattle.std.proofs.Common.{◌∷◌, Bool, ap, sym, ◌∙◌, rules}
use Rattle.nv_once_script.specs.OnceWords.{lines_left}
use Rattle.nv_once_script.proofs.OnceLinesLemmas.{fewer-lines, last-line, one-line}
use Rattle.nv_once_script.proofs.once.lines.LinesIterator.next.Goals as goal

pub returns-in_default-clause-steps : goal.returns-in_default-clause-steps
returns-in_default-clause-steps c =
    sym c.self.view_is ∙ ap (λ (over : Bool). lines_left over c.self.inside.text.now) c.if-self.false
    ∙ last-line c.self.inside.text.now (rw c.in_default.is at c.line_end.ensures)

pub returns-clause-steps : goal.returns-clause-steps
returns-clause-steps c =
    let found = rw c.in-Some.is at c.line_end.ensures in
    sym c.self.view_is ∙ ap (λ (over : Bool). lines_left over c.self.inside.text.now) c.if-self.false
    ∙ one-line c.self.inside.text.now c.split_at.result.0.now c.split_at.result.1.now c.split_at-2.result.1.now c.in-Some.end found.0 found.1
    c.split_at.ensures.front c.split_at.ensures.back c.split_at-2.ensures.back
    ∙ ap (λ (over : Bool). c.split_at.result.0.now ∷ lines_left over c.split_at-2.result.1.now) (sym c.if-self.false)

pub returns-clause-goes : goal.returns-clause-goes
returns-clause-goes c =
    let found = rw c.in-Some.is at c.line_end.ensures in
    let less = fewer-lines c.self.inside.text.now c.split_at.result.0.now c.split_at.result.1.now c.split_at-2.result.1.now c.in-Some.end found.0 found.1
    c.split_at.ensures.front c.split_at.ensures.back c.split_at-2.ensures.back in
    rw (← c.self.view_is, c.if-self.false) (record { on = λ fin. (search rules, search rules, less); keeps = search rules; rests = λ fin. search rules })
