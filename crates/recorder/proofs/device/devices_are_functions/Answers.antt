use Rattle.recorder.proofs.Functions.{begins_once, serves_once}
use Rattle.recorder.proofs.device.devices_are_functions.Goals as goal

pub returns : goal.returns
returns c = record { init = begins_once; process = serves_once; jobs = λ job steps others r q h k. absurd h }
