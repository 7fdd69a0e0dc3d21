-- A virtual controller as it is kept, in the words of the definitions (profile)
use Rattle.nv_model.specs.Controller.{Controller}
use Rattle.nv_vctl.specs.declared.vctl.Vctl.TheInside.{Inside}

abbrev pub controller_of : Inside → Controller
controller_of v = record {
  cc = v.cc;
  aqa = v.aqa;
  asq_low = v.asq_low;
  asq_high = v.asq_high;
  acq_low = v.acq_low;
  acq_high = v.acq_high;
  ready = v.ready;
  failed = v.failed;
  submission = v.submission;
  completion_queues = v.completion;
  taken = v.taken;
  held_requests = v.held_requests;
  deletion = v.deletion;
}
