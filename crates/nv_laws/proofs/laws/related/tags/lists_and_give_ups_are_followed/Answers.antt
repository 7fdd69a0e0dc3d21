use Rattle.nv_laws.proofs.related.Tags.{give_ups-go, lists-go}
use Rattle.nv_laws.proofs.laws.related.tags.lists_and_give_ups_are_followed.Goals as goal

pub returns-clause-lists : goal.returns-clause-lists
returns-clause-lists c = λ host_bytes geometry number lane tag addr len guest w p given reached related own.
    lists-go host_bytes geometry number guest given w reached p related lane tag addr len own

pub returns-clause-give_ups : goal.returns-clause-give_ups
returns-clause-give_ups c = λ host_bytes geometry number lane tag guest w p given reached related own.
    give_ups-go host_bytes geometry number guest given w reached p related lane tag own
