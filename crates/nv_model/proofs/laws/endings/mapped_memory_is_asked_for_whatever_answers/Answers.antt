use Rattle.nv_model.specs.Judge.{judge}
use Rattle.nv_model.specs.Prp.{read_prp}
use Rattle.nv_model.specs.Sgl.{read_sgl}
use Rattle.nv_model.proofs.AnyAnswers.{MayAsk-mapped}
use Rattle.nv_model.proofs.Asking.{judge-asks, read_prp-asks, read_sgl-asks}
use Rattle.nv_model.proofs.laws.endings.mapped_memory_is_asked_for_whatever_answers.Goals as goal

pub returns-clause-scatter_gather : goal.returns-clause-scatter_gather
returns-clause-scatter_gather c mapped dest limit own addr unit left =
    MayAsk-mapped mapped (read_sgl mapped dest limit own) addr unit left (read_sgl-asks mapped dest limit own)

pub returns-clause-region_pages : goal.returns-clause-region_pages
returns-clause-region_pages c mapped prp1 prp2 len addr unit left =
    MayAsk-mapped mapped (read_prp mapped prp1 prp2 len) addr unit left (read_prp-asks mapped prp1 prp2 len)

pub returns-clause-judging : goal.returns-clause-judging
returns-clause-judging c mapped limit blocks entry addr unit left =
    MayAsk-mapped mapped (judge mapped limit blocks entry) addr unit left (judge-asks mapped limit blocks entry)
