use Rattle.nv_laws.proofs.headline.Admins.{admins-go}
use Rattle.nv_laws.proofs.laws.headline.admins.admin_steps_are_followed.Goals as goal

pub returns : goal.returns
returns c = λ host_bytes geometry number guest given w p reached disciplined related own.
    admins-go host_bytes geometry number guest given w reached p related disciplined
