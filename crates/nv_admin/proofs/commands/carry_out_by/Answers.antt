use Rattle.nv_mem.specs.GuestMap.{mapped}
use Rattle.nv_admin.proofs.commands.carry_out_by.Goals as goal

pub returns-in-DeleteIoSubmissionQueue-clause-in_place : goal.returns-in-DeleteIoSubmissionQueue-clause-in_place
returns-in-DeleteIoSubmissionQueue-clause-in_place c = c.delete_submission_queue.ensures.in_place (mapped c.args.map.now.regions)

pub returns-in-DeleteIoCompletionQueue-clause-in_place : goal.returns-in-DeleteIoCompletionQueue-clause-in_place
returns-in-DeleteIoCompletionQueue-clause-in_place c = c.delete_completion_queue.ensures.in_place (mapped c.args.map.now.regions)

pub returns-in-AsynchronousEventRequest-clause-in_place : goal.returns-in-AsynchronousEventRequest-clause-in_place
returns-in-AsynchronousEventRequest-clause-in_place c = c.request_event.ensures.in_place (mapped c.args.map.now.regions)
