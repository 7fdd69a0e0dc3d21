use Rattle.nv_machine.proofs.PlaceKept.{all-fetched, fetched-same, kept-same, pages-same}
use Rattle.nv_machine.proofs.laws.places.what_is_kept_does_not_ask_where_parts_are.Goals as goal

pub returns-clause-kept : goal.returns-clause-kept
returns-clause-kept c = λ geometry s z same is. kept-same geometry s z same is

pub returns-clause-pages : goal.returns-clause-pages
returns-clause-pages c = λ s z same is number k at. pages-same s z same is number k at

pub returns-clause-fetched : goal.returns-clause-fetched
returns-clause-fetched c = λ geometry e fetched s z same is. fetched-same geometry s z same e fetched is

pub returns-clause-all_fetched : goal.returns-clause-all_fetched
returns-clause-all_fetched c = λ geometry calls s z same are. all-fetched geometry calls s z same are
