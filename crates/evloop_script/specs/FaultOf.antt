-- How the program ends where the manager could not be made.
use Rattle.event_loop.specs.declared.error.Error.{Error}
use Rattle.event_loop.specs.declared.error.Error.TheVariants as manager
use Rattle.evloop_script.specs.declared.fault.Fault.{Fault}
use Rattle.evloop_script.specs.declared.fault.Fault.TheVariants.{Manager, OutOfMemory}

-- for want of memory, or with the manager's error
abbrev pub fault_of : Error → Fault
fault_of manager.OutOfMemory = OutOfMemory
fault_of error = Manager error
