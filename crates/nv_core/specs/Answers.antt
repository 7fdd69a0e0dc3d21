-- What an event of the physical controller is answered (profile).
use Rattle.nv_device.specs.declared.response.Response.{Response}
use Rattle.nv_device.specs.declared.response.Response.TheVariants as response
use Rattle.nv_model.specs.declared.reply.Reply.{Reply}
use Rattle.nv_model.specs.declared.reply.Reply.TheVariants as reply

-- by what the controller has answered
abbrev pub said : Response → Reply
said response.Done = reply.Done
said response.Idle = reply.Idle
