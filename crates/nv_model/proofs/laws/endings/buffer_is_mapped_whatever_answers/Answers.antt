use Rattle.std.proofs.Common.{arith}
use Rattle.nv_model.proofs.AnyAnswers.{end-short, end-sound}
use Rattle.nv_model.proofs.Judged.{IsMappedPlace-pieces}
use Rattle.nv_model.proofs.laws.endings.buffer_is_mapped_whatever_answers.Goals as goal

pub returns-clause-pieces : goal.returns-clause-pieces
returns-clause-pieces c mapped limit blocks entry work may = (end-sound mapped limit blocks entry work may).mapped_each

pub returns-clause-places : goal.returns-clause-places
returns-clause-places c mapped limit blocks entry work may =
    IsMappedPlace-pieces mapped work.pieces (end-sound mapped limit blocks entry work may).mapped_each

pub returns-clause-length : goal.returns-clause-length
returns-clause-length c mapped limit blocks entry work may = (end-sound mapped limit blocks entry work may).total

pub returns-clause-most : goal.returns-clause-most
returns-clause-most c mapped limit blocks entry work may =
    let total = (end-sound mapped limit blocks entry work may).total in
    let short = end-short mapped limit blocks entry work may in
    omega arith
