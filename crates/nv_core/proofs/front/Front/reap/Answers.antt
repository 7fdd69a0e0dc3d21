use Rattle.std.proofs.Common.{◌≡◌, ◌+◌, ◌<◌, ◌∙◌, ℕ, List, Option, Some, None, length, slice_get, ap, refl, sym, arith}
use Rattle.std.proofs.lemmas.Option.{slice_get_past}
use Rattle.std.specs.Result.{result_ok}
use Rattle.nv_core.proofs.CallReaps.{called-nowhere, done-by, err-by, ok-by, reads-both, reads-idle, reads_of, told-answer, told-ended, told-live, told-same, told-stray}
use Rattle.nv_core.proofs.GroupWorlds.{looked-up}
use Rattle.nv_core.specs.Reaping.{is_wanted}
use Rattle.nv_laws_sound.specs.Side.{Side}
use Rattle.nv_machine.specs.Machine.{is_new}
use Rattle.nv_model.proofs.Shown.{length-bytes_from}
use Rattle.nv_model.specs.Memory.{byte_in, bytes_from}
use Rattle.nv_model.specs.declared.reply.Reply.TheVariants as reply
use Rattle.nv_world_model.specs.Area.{completion_slot}
use Rattle.nv_world_model.specs.World.{Lane}
use Rattle.nv_core.proofs.front.Front.reap.Goals as goal

pub returns-then-at-len-clause-ok : goal.returns-then-at-len-clause-ok
returns-then-at-len-clause-ok g c =
    let m : List ℕ = g.C.MemoryCell.bytes c.args.host.now in
    let nowhere : slice_get c.args.self.now.lanes c.args.lane ≡ None =
    ap (λ (f : Side). slice_get f.lanes c.args.lane) (sym c.self.view_is)
    ∙ slice_get_past c.self.inside.lanes.items c.args.lane (let n = c.from-at.ensures in let l = c.len.ensures in let t = c.if-at-len.true in omega arith) in
    told-live c.args.layout.now c.args.lane c.args.self.now c.args.self.now m (Some reply.Ignored)
    (called-nowhere c.args.layout.now c.args.self.now c.args.lane (reads_of c.args.layout.now c.args.lane c.args.self.now (byte_in m)) nowhere) reply.Ignored refl

pub returns-then-not-is_wanted-clause-answer : goal.returns-then-not-is_wanted-clause-answer
returns-then-not-is_wanted-clause-answer g c =
    let m : List ℕ = g.C.MemoryCell.bytes c.args.host.now in
    let below : c.from-at.result < length c.self.inside.lanes.items = (let l = c.len.ensures in let n = c.from-at.ensures in let t = c.if-at-len.false in omega arith) in
    let l : Lane = c.index.result.now in
    let found : slice_get c.args.self.now.lanes c.args.lane ≡ Some l =
    ap (λ (f : Side). slice_get f.lanes c.args.lane) (sym c.self.view_is)
    ∙ looked-up c.self.inside.lanes.items c.args.lane c.from-at.result l c.from-at.ensures below c.index.ensures in
    let slot : c.completion_slot-slot.result ≡ completion_slot c.args.layout.now.mediator c.args.lane l.head =
    c.completion_slot-slot.ensures ∙ ap (λ (n : ℕ). completion_slot n c.args.lane c.head.result) c.mediator.ensures
    ∙ ap (completion_slot c.args.layout.now.mediator c.args.lane) c.head.ensures.value in
    let dword : c.last_dword_at-last.result ≡ bytes_from (byte_in m) (completion_slot c.args.layout.now.mediator c.args.lane l.head + 12) 4 =
    c.last_dword_at-last.ensures ∙ ap (λ (n : ℕ). bytes_from (byte_in m) (n + 12) 4) slot in
    let four : length c.last_dword_at-last.result ≡ 4 = ap length dword ∙ length-bytes_from (byte_in m) (completion_slot c.args.layout.now.mediator c.args.lane l.head + 12) 4 in
    let new : is_new l c.last_dword_at-last.result ≡ c.is_wanted.result =
    sym (c.is_wanted.ensures.wanted ∙ ap (λ (o : Option Lane). is_wanted o c.last_dword_at-last.result) found) in
    let told = reads-idle c.args.layout.now c.args.self.now c.args.lane l m c.last_dword_at-last.result found dword four (new ∙ c.if-not-is_wanted.true) in
    told-answer c.args.layout.now c.args.lane c.args.self.now c.args.self.now m (Some reply.Idle) told

pub returns-then-not-is_wanted-clause-ok : goal.returns-then-not-is_wanted-clause-ok
returns-then-not-is_wanted-clause-ok g c =
    let m : List ℕ = g.C.MemoryCell.bytes c.args.host.now in
    let below : c.from-at.result < length c.self.inside.lanes.items = (let l = c.len.ensures in let n = c.from-at.ensures in let t = c.if-at-len.false in omega arith) in
    let l : Lane = c.index.result.now in
    let found : slice_get c.args.self.now.lanes c.args.lane ≡ Some l =
    ap (λ (f : Side). slice_get f.lanes c.args.lane) (sym c.self.view_is)
    ∙ looked-up c.self.inside.lanes.items c.args.lane c.from-at.result l c.from-at.ensures below c.index.ensures in
    let slot : c.completion_slot-slot.result ≡ completion_slot c.args.layout.now.mediator c.args.lane l.head =
    c.completion_slot-slot.ensures ∙ ap (λ (n : ℕ). completion_slot n c.args.lane c.head.result) c.mediator.ensures
    ∙ ap (completion_slot c.args.layout.now.mediator c.args.lane) c.head.ensures.value in
    let dword : c.last_dword_at-last.result ≡ bytes_from (byte_in m) (completion_slot c.args.layout.now.mediator c.args.lane l.head + 12) 4 =
    c.last_dword_at-last.ensures ∙ ap (λ (n : ℕ). bytes_from (byte_in m) (n + 12) 4) slot in
    let four : length c.last_dword_at-last.result ≡ 4 = ap length dword ∙ length-bytes_from (byte_in m) (completion_slot c.args.layout.now.mediator c.args.lane l.head + 12) 4 in
    let new : is_new l c.last_dword_at-last.result ≡ c.is_wanted.result =
    sym (c.is_wanted.ensures.wanted ∙ ap (λ (o : Option Lane). is_wanted o c.last_dword_at-last.result) found) in
    let told = reads-idle c.args.layout.now c.args.self.now c.args.lane l m c.last_dword_at-last.result found dword four (new ∙ c.if-not-is_wanted.true) in
    told-live c.args.layout.now c.args.lane c.args.self.now c.args.self.now m (Some reply.Idle) told reply.Idle refl

pub returns-clause-answer : goal.returns-clause-answer
returns-clause-answer g c =
    let m : List ℕ = g.C.MemoryCell.bytes c.args.host.now in
    let below : c.from-at.result < length c.self.inside.lanes.items = (let l = c.len.ensures in let n = c.from-at.ensures in let t = c.if-at-len.false in omega arith) in
    let l : Lane = c.index.result.now in
    let found : slice_get c.args.self.now.lanes c.args.lane ≡ Some l =
    ap (λ (f : Side). slice_get f.lanes c.args.lane) (sym c.self.view_is)
    ∙ looked-up c.self.inside.lanes.items c.args.lane c.from-at.result l c.from-at.ensures below c.index.ensures in
    let slot : c.completion_slot-slot.result ≡ completion_slot c.args.layout.now.mediator c.args.lane l.head =
    c.completion_slot-slot.ensures ∙ ap (λ (n : ℕ). completion_slot n c.args.lane c.head.result) c.mediator.ensures
    ∙ ap (completion_slot c.args.layout.now.mediator c.args.lane) c.head.ensures.value in
    let dword : c.last_dword_at-last.result ≡ bytes_from (byte_in m) (completion_slot c.args.layout.now.mediator c.args.lane l.head + 12) 4 =
    c.last_dword_at-last.ensures ∙ ap (λ (n : ℕ). bytes_from (byte_in m) (n + 12) 4) slot in
    let four : length c.last_dword_at-last.result ≡ 4 = ap length dword ∙ length-bytes_from (byte_in m) (completion_slot c.args.layout.now.mediator c.args.lane l.head + 12) 4 in
    let new : is_new l c.last_dword_at-last.result ≡ c.is_wanted.result =
    sym (c.is_wanted.ensures.wanted ∙ ap (λ (o : Option Lane). is_wanted o c.last_dword_at-last.result) found) in
    let first = c.first_dwords_at.ensures ∙ ap (λ (n : ℕ). bytes_from (byte_in m) n 12) slot in
    let told = reads-both c.args.layout.now c.args.self.now c.args.lane l m c.last_dword_at-last.result found dword four c.first_dwords_at.result first
    (new ∙ c.if-not-is_wanted.false) ∙ c.reap_fetched.ensures.call c.args.layout.now in
    told-answer c.args.layout.now c.args.lane c.args.self.now c.reap_fetched.new.self m (result_ok c.reap_fetched.result) told

pub returns-clause-ok : goal.returns-clause-ok
returns-clause-ok g c =
    let m : List ℕ = g.C.MemoryCell.bytes c.args.host.now in
    let below : c.from-at.result < length c.self.inside.lanes.items = (let l = c.len.ensures in let n = c.from-at.ensures in let t = c.if-at-len.false in omega arith) in
    let l : Lane = c.index.result.now in
    let found : slice_get c.args.self.now.lanes c.args.lane ≡ Some l =
    ap (λ (f : Side). slice_get f.lanes c.args.lane) (sym c.self.view_is)
    ∙ looked-up c.self.inside.lanes.items c.args.lane c.from-at.result l c.from-at.ensures below c.index.ensures in
    let slot : c.completion_slot-slot.result ≡ completion_slot c.args.layout.now.mediator c.args.lane l.head =
    c.completion_slot-slot.ensures ∙ ap (λ (n : ℕ). completion_slot n c.args.lane c.head.result) c.mediator.ensures
    ∙ ap (completion_slot c.args.layout.now.mediator c.args.lane) c.head.ensures.value in
    let dword : c.last_dword_at-last.result ≡ bytes_from (byte_in m) (completion_slot c.args.layout.now.mediator c.args.lane l.head + 12) 4 =
    c.last_dword_at-last.ensures ∙ ap (λ (n : ℕ). bytes_from (byte_in m) (n + 12) 4) slot in
    let four : length c.last_dword_at-last.result ≡ 4 = ap length dword ∙ length-bytes_from (byte_in m) (completion_slot c.args.layout.now.mediator c.args.lane l.head + 12) 4 in
    let new : is_new l c.last_dword_at-last.result ≡ c.is_wanted.result =
    sym (c.is_wanted.ensures.wanted ∙ ap (λ (o : Option Lane). is_wanted o c.last_dword_at-last.result) found) in
    let first = c.first_dwords_at.ensures ∙ ap (λ (n : ℕ). bytes_from (byte_in m) n 12) slot in
    let told = reads-both c.args.layout.now c.args.self.now c.args.lane l m c.last_dword_at-last.result found dword four c.first_dwords_at.result first
    (new ∙ c.if-not-is_wanted.false) ∙ c.reap_fetched.ensures.call c.args.layout.now in
    ok-by c.reap_fetched.result _ (told-live c.args.layout.now c.args.lane c.args.self.now c.reap_fetched.new.self m (result_ok c.reap_fetched.result) told)

pub returns-clause-ended : goal.returns-clause-ended
returns-clause-ended g c = λ done.
    let m : List ℕ = g.C.MemoryCell.bytes c.args.host.now in
    let below : c.from-at.result < length c.self.inside.lanes.items = (let l = c.len.ensures in let n = c.from-at.ensures in let t = c.if-at-len.false in omega arith) in
    let l : Lane = c.index.result.now in
    let found : slice_get c.args.self.now.lanes c.args.lane ≡ Some l =
    ap (λ (f : Side). slice_get f.lanes c.args.lane) (sym c.self.view_is)
    ∙ looked-up c.self.inside.lanes.items c.args.lane c.from-at.result l c.from-at.ensures below c.index.ensures in
    let slot : c.completion_slot-slot.result ≡ completion_slot c.args.layout.now.mediator c.args.lane l.head =
    c.completion_slot-slot.ensures ∙ ap (λ (n : ℕ). completion_slot n c.args.lane c.head.result) c.mediator.ensures
    ∙ ap (completion_slot c.args.layout.now.mediator c.args.lane) c.head.ensures.value in
    let dword : c.last_dword_at-last.result ≡ bytes_from (byte_in m) (completion_slot c.args.layout.now.mediator c.args.lane l.head + 12) 4 =
    c.last_dword_at-last.ensures ∙ ap (λ (n : ℕ). bytes_from (byte_in m) (n + 12) 4) slot in
    let four : length c.last_dword_at-last.result ≡ 4 = ap length dword ∙ length-bytes_from (byte_in m) (completion_slot c.args.layout.now.mediator c.args.lane l.head + 12) 4 in
    let new : is_new l c.last_dword_at-last.result ≡ c.is_wanted.result =
    sym (c.is_wanted.ensures.wanted ∙ ap (λ (o : Option Lane). is_wanted o c.last_dword_at-last.result) found) in
    let first = c.first_dwords_at.ensures ∙ ap (λ (n : ℕ). bytes_from (byte_in m) n 12) slot in
    let told = reads-both c.args.layout.now c.args.self.now c.args.lane l m c.last_dword_at-last.result found dword four c.first_dwords_at.result first
    (new ∙ c.if-not-is_wanted.false) ∙ c.reap_fetched.ensures.call c.args.layout.now in
    told-ended c.args.layout.now c.args.lane c.args.self.now c.reap_fetched.new.self m (result_ok c.reap_fetched.result) told (ap result_ok done)

pub returns-clause-same : goal.returns-clause-same
returns-clause-same g c = λ never.
    let m : List ℕ = g.C.MemoryCell.bytes c.args.host.now in
    let below : c.from-at.result < length c.self.inside.lanes.items = (let l = c.len.ensures in let n = c.from-at.ensures in let t = c.if-at-len.false in omega arith) in
    let l : Lane = c.index.result.now in
    let found : slice_get c.args.self.now.lanes c.args.lane ≡ Some l =
    ap (λ (f : Side). slice_get f.lanes c.args.lane) (sym c.self.view_is)
    ∙ looked-up c.self.inside.lanes.items c.args.lane c.from-at.result l c.from-at.ensures below c.index.ensures in
    let slot : c.completion_slot-slot.result ≡ completion_slot c.args.layout.now.mediator c.args.lane l.head =
    c.completion_slot-slot.ensures ∙ ap (λ (n : ℕ). completion_slot n c.args.lane c.head.result) c.mediator.ensures
    ∙ ap (completion_slot c.args.layout.now.mediator c.args.lane) c.head.ensures.value in
    let dword : c.last_dword_at-last.result ≡ bytes_from (byte_in m) (completion_slot c.args.layout.now.mediator c.args.lane l.head + 12) 4 =
    c.last_dword_at-last.ensures ∙ ap (λ (n : ℕ). bytes_from (byte_in m) (n + 12) 4) slot in
    let four : length c.last_dword_at-last.result ≡ 4 = ap length dword ∙ length-bytes_from (byte_in m) (completion_slot c.args.layout.now.mediator c.args.lane l.head + 12) 4 in
    let new : is_new l c.last_dword_at-last.result ≡ c.is_wanted.result =
    sym (c.is_wanted.ensures.wanted ∙ ap (λ (o : Option Lane). is_wanted o c.last_dword_at-last.result) found) in
    let first = c.first_dwords_at.ensures ∙ ap (λ (n : ℕ). bytes_from (byte_in m) n 12) slot in
    let told = reads-both c.args.layout.now c.args.self.now c.args.lane l m c.last_dword_at-last.result found dword four c.first_dwords_at.result first
    (new ∙ c.if-not-is_wanted.false) ∙ c.reap_fetched.ensures.call c.args.layout.now in
    told-same c.args.layout.now c.args.lane c.args.self.now c.reap_fetched.new.self m (result_ok c.reap_fetched.result) told (λ done. never (done-by c.reap_fetched.result done))

pub returns-clause-stray : goal.returns-clause-stray
returns-clause-stray g c =
    let m : List ℕ = g.C.MemoryCell.bytes c.args.host.now in
    let below : c.from-at.result < length c.self.inside.lanes.items = (let l = c.len.ensures in let n = c.from-at.ensures in let t = c.if-at-len.false in omega arith) in
    let l : Lane = c.index.result.now in
    let found : slice_get c.args.self.now.lanes c.args.lane ≡ Some l =
    ap (λ (f : Side). slice_get f.lanes c.args.lane) (sym c.self.view_is)
    ∙ looked-up c.self.inside.lanes.items c.args.lane c.from-at.result l c.from-at.ensures below c.index.ensures in
    let slot : c.completion_slot-slot.result ≡ completion_slot c.args.layout.now.mediator c.args.lane l.head =
    c.completion_slot-slot.ensures ∙ ap (λ (n : ℕ). completion_slot n c.args.lane c.head.result) c.mediator.ensures
    ∙ ap (completion_slot c.args.layout.now.mediator c.args.lane) c.head.ensures.value in
    let dword : c.last_dword_at-last.result ≡ bytes_from (byte_in m) (completion_slot c.args.layout.now.mediator c.args.lane l.head + 12) 4 =
    c.last_dword_at-last.ensures ∙ ap (λ (n : ℕ). bytes_from (byte_in m) (n + 12) 4) slot in
    let four : length c.last_dword_at-last.result ≡ 4 = ap length dword ∙ length-bytes_from (byte_in m) (completion_slot c.args.layout.now.mediator c.args.lane l.head + 12) 4 in
    let new : is_new l c.last_dword_at-last.result ≡ c.is_wanted.result =
    sym (c.is_wanted.ensures.wanted ∙ ap (λ (o : Option Lane). is_wanted o c.last_dword_at-last.result) found) in
    let first = c.first_dwords_at.ensures ∙ ap (λ (n : ℕ). bytes_from (byte_in m) n 12) slot in
    let told = reads-both c.args.layout.now c.args.self.now c.args.lane l m c.last_dword_at-last.result found dword four c.first_dwords_at.result first
    (new ∙ c.if-not-is_wanted.false) ∙ c.reap_fetched.ensures.call c.args.layout.now in
    err-by c.reap_fetched.result _ (λ none w on live. told-stray c.args.layout.now c.args.lane c.args.self.now c.reap_fetched.new.self m (result_ok c.reap_fetched.result) told w on live none)
