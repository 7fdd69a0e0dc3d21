use Rattle.std.proofs.Common.{Option, refl, sym, ap, ◌∙◌}
use Rattle.std.specs.Option.{ok_or}
use Rattle.std.proofs.lemmas.Result.{err_from_is_err_and}
use Rattle.nv_once_script.specs.declared.once.fault.FaultKind.TheVariants.{OutOfPlace}
use Rattle.nv_once_script.specs.declared.once.sizes.Sizes.{Sizes}
use Rattle.nv_once_script.specs.OnceScript.{progress}
use Rattle.nv_once_script.proofs.OnceScriptLemmas.{memory-late, memory-new, blocks-late, blocks-new, body-unset, body-refused, body-read}
use Rattle.nv_once_script.proofs.once.reading.Reading.add.Goals as goal

pub returns-then-is_some : goal.returns-then-is_some
returns-then-is_some c =
    memory-late (progress c.args.self.now) c.args.keyword c.args.words c.in-Memory.is c.requires (sym c.is_some.ensures ∙ c.if-is_some.true)

pub returns-in_err-memory-in-Memory : goal.returns-in_err-memory-in-Memory
returns-in_err-memory-in-Memory c =
    let after = memory-new (progress c.args.self.now) c.args.keyword c.args.words _ _ _ c.in-Memory.is c.requires c.next_word.ensures (sym c.is_some.ensures ∙ c.if-is_some.false) c.memory.ensures in
    let p = err_from_is_err_and c.from_residual.result c.from_residual.ensures.1 in
    rw (p.1, p.2) (after ∙ rw c.in_err-memory-in-Memory.was refl)

pub returns-in_ok-memory-in-Memory : goal.returns-in_ok-memory-in-Memory
returns-in_ok-memory-in-Memory c =
    let after = memory-new (progress c.args.self.now) c.args.keyword c.args.words _ _ _ c.in-Memory.is c.requires c.next_word.ensures (sym c.is_some.ensures ∙ c.if-is_some.false) c.memory.ensures in
    after ∙ rw c.in_ok-memory-in-Memory.was refl

pub returns-then-is_some-2 : goal.returns-then-is_some-2
returns-then-is_some-2 c =
    blocks-late (progress c.args.self.now) c.args.keyword c.args.words c.in-Blocks.is c.requires (sym c.is_some-in-Blocks.ensures ∙ c.if-is_some-2.true)

pub returns-in_err-blocks-in-Blocks : goal.returns-in_err-blocks-in-Blocks
returns-in_err-blocks-in-Blocks c =
    let after = blocks-new (progress c.args.self.now) c.args.keyword c.args.words _ _ _ c.in-Blocks.is c.requires
    c.next_word-in-Blocks.ensures (sym c.is_some-in-Blocks.ensures ∙ c.if-is_some-2.false) c.blocks-in-Blocks.ensures in
    let p = err_from_is_err_and c.from_residual-in_err-blocks-in-Blocks.result c.from_residual-in_err-blocks-in-Blocks.ensures.1 in
    rw (p.1, p.2) (after ∙ rw c.in_err-blocks-in-Blocks.was refl)

pub returns-in_ok-blocks-in-Blocks : goal.returns-in_ok-blocks-in-Blocks
returns-in_ok-blocks-in-Blocks c =
    let after = blocks-new (progress c.args.self.now) c.args.keyword c.args.words _ _ _ c.in-Blocks.is c.requires
    c.next_word-in-Blocks.ensures (sym c.is_some-in-Blocks.ensures ∙ c.if-is_some-2.false) c.blocks-in-Blocks.ensures in
    after ∙ rw c.in_ok-blocks-in-Blocks.was refl

pub returns-in_err-sizes-in_default : goal.returns-in_err-sizes-in_default
returns-in_err-sizes-in_default c =
    let unset = sym (c.in_err-sizes-in_default.ensures.value ∙ ap (λ (o : Option Sizes). ok_or o OutOfPlace) c.sizes.ensures) in
    let p = err_from_is_err_and c.from_residual-in_err-sizes-in_default.result c.from_residual-in_err-sizes-in_default.ensures.1 in
    rw (p.1, p.2) (body-unset (progress c.args.self.now) c.args.keyword c.args.words _ c.in_default.not-Memory c.in_default.not-Blocks unset)

pub returns-in_err-make_line-in_default : goal.returns-in_err-make_line-in_default
returns-in_err-make_line-in_default c =
    let set = sym (c.in_ok-sizes-in_default.ensures.value ∙ ap (λ (o : Option Sizes). ok_or o OutOfPlace) c.sizes.ensures) in
    let p = err_from_is_err_and c.from_residual-in_err-make_line-in_default.result c.from_residual-in_err-make_line-in_default.ensures.1 in
    rw (p.1, p.2) (body-refused (progress c.args.self.now) c.args.keyword c.args.words _ _ c.in_default.not-Memory c.in_default.not-Blocks set c.in_err-make_line-in_default.ensures)

pub returns-in_ok-push-in_default : goal.returns-in_ok-push-in_default
returns-in_ok-push-in_default c =
    let set = sym (c.in_ok-sizes-in_default.ensures.value ∙ ap (λ (o : Option Sizes). ok_or o OutOfPlace) c.sizes.ensures) in
    let made = rw c.in_ok-make_line-in_default.was at c.make_line.ensures in
    body-read (progress c.args.self.now) c.args.keyword c.args.words _ c.args.self.now.lines.items c.push.new.self.items c.in_ok-make_line-in_default.field-0
    c.in_default.not-Memory c.in_default.not-Blocks set made refl c.in_ok-push-in_default.ensures.items
