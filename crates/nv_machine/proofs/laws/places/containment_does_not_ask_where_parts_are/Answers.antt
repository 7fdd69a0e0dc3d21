use Rattle.nv_machine.proofs.PlaceContained.{all-do, all-left, contained-same, first-may, then-may}
use Rattle.nv_machine.proofs.laws.places.containment_does_not_ask_where_parts_are.Goals as goal

pub returns-clause-first : goal.returns-clause-first
returns-clause-first c = λ geometry e fetched s z same may. first-may geometry s z same e fetched may

pub returns-clause-then : goal.returns-clause-then
returns-clause-then c = λ geometry e fetched s z same may. then-may geometry s z same e fetched may

pub returns-clause-effects : goal.returns-clause-effects
returns-clause-effects c = λ geometry e fetched s z same may. all-do geometry s z same e fetched may

pub returns-clause-others : goal.returns-clause-others
returns-clause-others c = λ geometry e fetched s z same left. all-left geometry s z same e fetched left

pub returns-clause-contained : goal.returns-clause-contained
returns-clause-contained c = λ host_bytes lanes geometry e fetched s z laid kept same is. contained-same geometry s z same e fetched host_bytes lanes laid kept is
