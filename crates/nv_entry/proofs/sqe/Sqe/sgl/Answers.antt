use Rattle.std.proofs.Common.{◌∙◌, sym, ap}
use Rattle.nv_entry.specs.Submission.{sgl_of}
use Rattle.nv_entry.proofs.SubmissionLemmas.{sgl_back}
use Rattle.nv_entry.proofs.sqe.Sqe.sgl.Goals as goal

pub returns : goal.returns
returns c = c.from_dwords.ensures ∙ sym (sgl_back c.self.inside.dw c.self.invariant.count) ∙ ap sgl_of c.self.view_is
