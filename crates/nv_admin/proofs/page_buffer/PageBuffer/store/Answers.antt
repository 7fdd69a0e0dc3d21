use Rattle.std.proofs.Common.{◌≡◌, ◌-◌, length, ◌∙◌, arith}
use Rattle.nv_model.specs.Memory.{byte_in}
use Rattle.nv_admin.proofs.PageBuffers.{put-runs}
use Rattle.nv_admin.proofs.page_buffer.PageBuffer.store.Goals as goal

pub returns-clause-bytes : goal.returns-clause-bytes
returns-clause-bytes g c =
    let second : length c.split_at.result.1.now ≡ 4096 - c.args.self.first =
    (let all = c.split_at.ensures.back_len in let page = c.requires.page in omega arith) in
    c.store-2.ensures.bytes
    ∙ put-runs c.args.map.now.regions (byte_in (g.C.MemoryCell.bytes c.args.host.now)) (byte_in (g.C.MemoryCell.bytes c.store.new.host)) c.args.self.prp1 c.args.self.prp2
    c.args.self.first (4096 - c.args.self.first) c.split_at.result.0.now c.split_at.result.1.now c.args.bytes.now
    c.host_len-known.ensures.sound.apart c.split_at.ensures.by_index.0 c.split_at.ensures.front_len second c.store.ensures.bytes
