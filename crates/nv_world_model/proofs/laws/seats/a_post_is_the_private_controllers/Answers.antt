use Rattle.nv_world_model.proofs.SeatPosts.{post-held, post-leads, run-leads}
use Rattle.nv_world_model.proofs.laws.seats.a_post_is_the_private_controllers.Goals as goal

pub returns-clause-posted : goal.returns-clause-posted
returns-clause-posted c =
    (λ geometry lane tag command st share sts o w there below owns sound all ended enabled is_done.
    post-leads geometry lane tag command st share o w there owns sts all below sound ended enabled is_done)

pub returns-clause-ran_out : goal.returns-clause-ran_out
returns-clause-ran_out c =
    (λ geometry lane tag command st share sts o w there leads below owns sound all ended disabled.
    run-leads geometry lane tag command st share o w there owns sts all below sound ended leads disabled)

pub returns-clause-held : goal.returns-clause-held
returns-clause-held c = (λ geometry lane tag command st share o w there owns held. post-held geometry lane tag command st share o w there owns held)
