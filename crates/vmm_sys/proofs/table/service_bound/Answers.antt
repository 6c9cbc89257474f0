use Rattle.vmm_sys.proofs.Service.{each_step_moves_forward, reported_within_rooms, reported_within_waits}
use Rattle.vmm_sys.proofs.table.service_bound.Goals as goal

pub returns : goal.returns
returns c = record { forward = each_step_moves_forward; within_rooms = reported_within_rooms; within_waits = reported_within_waits }
